-- The runs that a hub has marked as blocked are blocked after each of its calls.
use Rattle.hub_core.proofs.Prelude.{Absent, Answers, Bool, Carried, Choice, Configuration, DeviceGoesOut, Done, End, EndNoWait, Entry, Gave, Grip, Gripped, HandsOut, Home, HubIsKept, HubState, IsGiven, IsProbeGiven, IsProbed, IsTurn, List, Moves, None, Ok, OpenHub, Option, Out, Over, Place, Returned, SameWindow, Setting, Shown, Slip, Some, Task, Told, Waits, after_choice, after_give, after_take, ap, arith, at_moment, carried_by, carried_in, choice_of, configuration_of, decide, false, give_entries, give_if, grip_in, held_in, hub_state_of, is_quiet, is_weak, list_all, max, option_map, point_of, probe_grip, progress_at, put, read_of, refl, same_carried, slice_get, subst, sym, true, unwrap_or, with_entries, with_grip, ℕ, ◌&&◌, ◌-◌, ◌∙◌, ◌≡◌, ◌≢◌, ◌≤◌, ◌⊎◌}
use Rattle.hub_core.specs.declared.turns.Turn.TheVariants.{Absent as TurnAbsent, Go, Moved, Over as TurnOver, Wait}
use Rattle.hub_core.specs.declared.turns.Turn.{Turn}
use Rattle.hub_core.proofs.kept.BlockedMarks.{none_blocked}
use Rattle.device_gate.specs.declared.grips.Ready.{Ready}
use Rattle.hub_core.proofs.steps.HubAnswers.{gave_back, gave_probe_back, took_after, took_choice, took_probe}
use Rattle.hub_core.proofs.waiting.BlockedSteps.{IsKept, back, goes, left_stay, may_mark, moved, probed, reached, waits}
use Rattle.hub_core.specs.BlockedMarks.{AreBlocked, AreFreedWeakly, MayBeMarked, is_waiting}
use Rattle.blocked_runs.specs.Marks.{AreLeft, BlockedState, NoneMarked}
use Rattle.hub_core.specs.HubSteps.{is_kept as is_kept_grip}
use Rattle.hub_core.specs.MarkedRuns.{IsAnsweredStill, is_out_for_command}
use Rattle.hub_core.specs.declared.waits.Why.{Why}

-- a hub whose parts are kept stands for a configuration that is kept
pub is_kept : {D : Type 0} (shows : D → Shown) (s : OpenHub D) → is_weak s.setting.mode ≡ false → HubIsKept shows s → IsKept (configuration_of s)
is_kept shows s strong kept = record { rounds = s.rounds; opened = s.opened; held = held_in s; kept = kept.configuration.ordered strong }

some_slip : Slip
some_slip = record { ticket = 0; device = record { 0 = 0 }; maker = 0; stood = 0; turns = 0; drives = 0; probes = 0; faults = 0 }

-- a step of a run that hands no device out
pub chosen : {D : Type 0} (s t : OpenHub D) (r m : ℕ) (choice : Choice) → Answers s r m choice t → choice ≡ choice_of (configuration_of s) r m
chosen s t r m choice answers = took_choice (hub_state_of s) (hub_state_of t) r m some_slip choice (answers.step some_slip)

pub after : {D : Type 0} (s t : OpenHub D) (r m : ℕ) (choice : Choice) → Answers s r m choice t → configuration_of t ≡ after_take (configuration_of s) r m
after s t r m choice answers = took_after (hub_state_of s) (hub_state_of t) r m some_slip choice (answers.step some_slip)

-- the test of the entries is that of the window before the call
same_window : {D : Type 0} (s t : OpenHub D) (r m : ℕ) (choice : Choice) → choice ≡ choice_of (configuration_of s) r m → configuration_of t ≡ after_take (configuration_of s) r m → configuration_of t ≡ after_choice (at_moment (configuration_of s) m) r choice
same_window s t r m choice is next = next ∙ ap (after_choice (at_moment (configuration_of s) m) r) (sym is)

-- A step of a run

after_answer : {D : Type 0} (s t : OpenHub D) (r m : ℕ) (choice : Choice) → Answers s r m choice t → configuration_of t ≡ after_choice (at_moment (configuration_of s) m) r choice
after_answer s t r m choice answers = same_window s t r m choice (chosen s t r m choice answers) (after s t r m choice answers)

-- a device that is home is out with no grip
home_grip : {D : Type 0} (s : OpenHub D) (d : ℕ) (device : D) → slice_get s.places d ≡ Some (Home device) → (configuration_of s).grips d ≡ None
home_grip s d device at = ap (λ o. grip_in o (progress_at s.devices d).purpose) at

made_marks : (s u : Configuration) (r m : ℕ) (entries : List Entry) (b after : BlockedState) → IsKept s → IsKept u → u ≡ with_entries (at_moment s m) r entries → AreBlocked s b → AreLeft b after (λ d. EndNoWait u.setting (read_of u) d entries) → AreBlocked u after
made_marks s u r m entries b after was now is are left =
    subst (λ x. AreBlocked x after) (sym is) (moved s r m entries b after was (subst IsKept is now) are (subst (λ (x : Configuration). AreLeft b after (λ d. EndNoWait x.setting (read_of x) d entries)) is left))

-- which makes entries
pub marks_moved : {D : Type 0} (shows : D → Shown) (s t : OpenHub D) (r m : ℕ) (made : List Entry) (b after : BlockedState) → is_weak s.setting.mode
    ≡ false → is_weak t.setting.mode ≡ false → HubIsKept shows s → HubIsKept shows t
    → Answers s r m (Moves made) t → AreBlocked (configuration_of s) b
    → AreLeft b after (λ d. EndNoWait t.setting (read_of (configuration_of t)) d made) → AreBlocked (configuration_of t) after
marks_moved shows s t r m made b after before then' was now answers are left =
    made_marks (configuration_of s) (configuration_of t) r m made b after (is_kept shows s before was) (is_kept shows t then' now) (after_answer s t r m (Moves made) answers) are left

-- or ends its run
pub marks_over : {D : Type 0} (shows : D → Shown) (s t : OpenHub D) (r m : ℕ) (end : End) (made : List Entry) (b after : BlockedState)
    → is_weak s.setting.mode ≡ false → is_weak t.setting.mode ≡ false → HubIsKept shows s → HubIsKept shows t
    → Answers s r m (Over end made) t → AreBlocked (configuration_of s) b
    → AreLeft b after (λ d. EndNoWait t.setting (read_of (configuration_of t)) d made) → AreBlocked (configuration_of t) after
marks_over shows s t r m end made b after before then' was now answers are left =
    made_marks (configuration_of s) (configuration_of t) r m made b after (is_kept shows s before was) (is_kept shows t then' now) (after_answer s t r m (Over end made) answers) are left

-- or waits, and the run may be marked
pub marks_wait : {D : Type 0} (shows : D → Shown) (s t : OpenHub D) (r m : ℕ) (why : Why) (b after : BlockedState) → is_weak s.setting.mode
    ≡ false → is_weak t.setting.mode ≡ false → HubIsKept shows s → HubIsKept shows t → Answers s r m (Waits why) t
    → AreBlocked (configuration_of s) b
    → MayBeMarked (configuration_of t) b r after → AreBlocked (configuration_of t) after
marks_wait shows s t r m why b after before then' was now answers are may =
    let is : configuration_of t ≡ at_moment (configuration_of s) m = after_answer s t r m (Waits why) answers in
    subst (λ x. AreBlocked x after) (sym is) (waits (configuration_of s) r m why b after (is_kept shows s before was) (subst IsKept is (is_kept shows t then' now)) (sym (chosen s t r m (Waits why) answers)) are (subst (λ x. MayBeMarked x b r after) is may))

-- or is of no run
pub marks_absent : {D : Type 0} (shows : D → Shown) (s t : OpenHub D) (r m : ℕ) (b : BlockedState) → is_weak s.setting.mode ≡ false
    → is_weak t.setting.mode ≡ false → HubIsKept shows s → HubIsKept shows t → Answers s r m Absent t
    → AreBlocked (configuration_of s) b → AreBlocked (configuration_of t) b
marks_absent shows s t r m b before then' was now answers are =
    let is : configuration_of t ≡ at_moment (configuration_of s) m = after_answer s t r m Absent answers in
    subst (λ x. AreBlocked x b) (sym is) (reached (configuration_of s) m b (is_kept shows s before was) (subst IsKept is (is_kept shows t then' now)) are)

-- or hands its device out
pub marks_goes : {D : Type 0} (shows : D → Shown) (s t : OpenHub D) (r m : ℕ) (grip : Gripped D Ready) (b after : BlockedState)
    → is_weak s.setting.mode ≡ false → is_weak t.setting.mode ≡ false → HubIsKept shows s → HubIsKept shows t
    → DeviceGoesOut s r m grip t → AreBlocked (configuration_of s) b
    → AreLeft b after (λ e. is_out_for_command (configuration_of t) grip.slip.device.0 ≡ false → e ≢ grip.slip.device.0) → AreBlocked (configuration_of t) after
marks_goes shows s t r m grip b after before then' was now out are left =
    let d : ℕ = grip.slip.device.0 in
    let choice : HandsOut d out.purpose ≡ choice_of (configuration_of s) r m = took_choice (hub_state_of s) (hub_state_of t) r m grip.slip (HandsOut d out.purpose) out.step in
    let is : configuration_of t ≡ with_grip (at_moment (configuration_of s) m) d (Some (record { maker = r; purpose = out.purpose })) =
    same_window s t r m (HandsOut d out.purpose) choice (took_after (hub_state_of s) (hub_state_of t) r m grip.slip (HandsOut d out.purpose) out.step) in
    subst (λ x. AreBlocked x after) (sym is) (goes (configuration_of s) r m d out.purpose b after (home_grip s d grip.device out.home) (is_kept shows s before was) (subst IsKept is (is_kept shows t then' now)) (sym choice) are
    (subst (λ x. AreLeft b after (λ e. is_out_for_command x d ≡ false → e ≢ d)) is left))

-- A probe goes out

pub marks_probed : {D : Type 0} (shows : D → Shown) (s t : OpenHub D) (d : ℕ) (probe : Option (Gripped D Ready)) (b after : BlockedState)
    → is_weak s.setting.mode ≡ false → is_weak t.setting.mode ≡ false → HubIsKept shows s → HubIsKept shows t
    → IsProbed s d probe t → AreBlocked (configuration_of s) b
    → AreLeft b after (λ e. e ≢ d) → AreBlocked (configuration_of t) after
marks_probed shows s t d None b after before then' was now out are left =
    subst (λ x. AreBlocked (configuration_of x) after) (sym out.1) (left_stay (configuration_of s) (configuration_of s) b after (λ e. e ≢ d) are left (λ q e blocked next other. (blocked, next)))
marks_probed shows s t d (Some grip) b after before then' was now out are left =
    let took = took_probe (hub_state_of s) (hub_state_of t) d grip.slip grip.task out.0 in
    let is : configuration_of t ≡ record (configuration_of s) { probes = put (configuration_of s).probes d ((configuration_of s).probes d - 1); grips = put (configuration_of s).grips d (Some (probe_grip (configuration_of s) d)) } = took.1 ∙ rw took.0 refl in
    subst (λ x. AreBlocked x after) (sym is) (probed (configuration_of s) d _ _ b after (home_grip s d grip.device out.1) (is_kept shows s before was) (subst IsKept is (is_kept shows t then' now)) are left)

-- A device comes home

back_marks : (s v : Configuration) (n d : ℕ) (grip : Grip) (told : Told) (entries : List Entry) (b after : BlockedState) → IsKept s → IsKept v → s.moment ≤ n → s.grips d ≡ Some grip
    → entries ≡ give_entries s.setting (read_of s) d grip told → v ≡ after_give (record s { moment = n }) d grip told → AreBlocked s b
    → AreLeft b after (λ e. IsAnsweredStill v d entries ⊎ ((e ≢ d) × (list_all (is_quiet v.setting e) entries ≡ true))) → AreBlocked v after
back_marks s v n d grip told entries b after was now later out made is are left =
    let left' = subst (λ (x : Configuration). AreLeft b after (λ e. IsAnsweredStill x d entries ⊎ ((e ≢ d) × (list_all (is_quiet x.setting e) entries ≡ true)))) is left in
    let left'' = subst (λ es. AreLeft b after (λ e. IsAnsweredStill (after_give (record s { moment = n }) d grip told) d es ⊎ ((e ≢ d) × (list_all (is_quiet s.setting e) es ≡ true)))) made left' in
    subst (λ x. AreBlocked x after) (sym is) (back s n d grip told b after later out was (subst IsKept is now) are left'')

-- the grip with which the device in this place is out
out_grip : {D : Type 0} (s : OpenHub D) (d : ℕ) (slip : Slip) (task : Task) → slice_get s.places d ≡ Some (Out slip task) → (configuration_of s).grips d ≡ Some (record { maker = slip.maker; purpose = (progress_at s.devices d).purpose })
out_grip s d slip task at = ap (λ o. grip_in o (progress_at s.devices d).purpose) at

-- a grip is taken back of no device that is home
never_taken : (s : HubState) (c : Configuration) (told : Carried) (result : Told) (entries : List Entry) (more : Bool) → s.carried told.slip.device.0 ≡ None → Returned (Gave entries) ≡ Returned (give_if (is_kept_grip s told && more) s c told result).answer → ⊥
never_taken s c told result entries more none answer = refused (is_kept_grip s told && more) (ap (λ o. unwrap_or (option_map (same_carried told) o) false && more) none) answer
  where
    refused : (x : Bool) → x ≡ false → Returned (Gave entries) ≡ Returned (give_if x s c told result).answer → ⊥
    refused true e answer = absurd (cc)
    refused false e answer = absurd (cc)

pub marks_given : {D : Type 0} (shows : D → Shown) (s t : OpenHub D) (m : ℕ) (grip : Gripped D Done) (made : List Entry) (b after : BlockedState)
    → is_weak s.setting.mode ≡ false → is_weak t.setting.mode ≡ false → HubIsKept shows s → HubIsKept shows t
    → IsGiven s grip m (Ok made) t → AreBlocked (configuration_of s) b
    → AreLeft b after (λ e. IsAnsweredStill (configuration_of t) grip.slip.device.0 made ⊎ ((e ≢ grip.slip.device.0) × (list_all (is_quiet t.setting e) made ≡ true))) → AreBlocked (configuration_of t) after
marks_given {D} shows s t m grip made b after before then' was now given are left = by_place (slice_get s.places d) refl
  where
    d : ℕ
    d = grip.slip.device.0

    by_place : (o : Option (Place D)) → slice_get s.places d ≡ o → AreBlocked (configuration_of t) after
    by_place None at = absurd (never_taken (hub_state_of s) (at_moment (configuration_of s) m) (carried_by grip) grip.stage.told made _ (ap carried_in at) given.0.0)
    by_place (Some (Home device)) at = absurd (never_taken (hub_state_of s) (at_moment (configuration_of s) m) (carried_by grip) grip.stage.told made _ (ap carried_in at) given.0.0)
    by_place (Some (Out slip task)) at =
        let out = out_grip s d slip task at in
        let told = gave_back (hub_state_of s) (hub_state_of t) (carried_by grip) grip.stage.told m _ made out given.0 in
        back_marks (configuration_of s) (configuration_of t) (max s.moment m) d _ grip.stage.told made b after (is_kept shows s before was) (is_kept shows t then' now) (omega (arith)) out told.0 told.1 are left

pub marks_probe_given : {D : Type 0} (shows : D → Shown) (s t : OpenHub D) (grip : Gripped D Done) (made : List Entry) (b after : BlockedState)
    → is_weak s.setting.mode ≡ false → is_weak t.setting.mode ≡ false → HubIsKept shows s → HubIsKept shows t
    → IsProbeGiven s grip (Ok made) t → AreBlocked (configuration_of s) b
    → AreLeft b after (λ e. IsAnsweredStill (configuration_of t) grip.slip.device.0 made ⊎ ((e ≢ grip.slip.device.0) × (list_all (is_quiet t.setting e) made ≡ true))) → AreBlocked (configuration_of t) after
marks_probe_given {D} shows s t grip made b after before then' was now given are left = by_place (slice_get s.places d) refl
  where
    d : ℕ
    d = grip.slip.device.0

    by_place : (o : Option (Place D)) → slice_get s.places d ≡ o → AreBlocked (configuration_of t) after
    by_place None at = absurd (never_taken (hub_state_of s) (configuration_of s) (carried_by grip) grip.stage.told made _ (ap carried_in at) given.0.0)
    by_place (Some (Home device)) at = absurd (never_taken (hub_state_of s) (configuration_of s) (carried_by grip) grip.stage.told made _ (ap carried_in at) given.0.0)
    by_place (Some (Out slip task)) at =
        let out = out_grip s d slip task at in
        let told = gave_probe_back (hub_state_of s) (hub_state_of t) (carried_by grip) grip.stage.told _ made out given.0 in
        back_marks (configuration_of s) (configuration_of t) s.moment d _ grip.stage.told made b after (is_kept shows s before was) (is_kept shows t then' now) (omega (arith)) out told.0 told.1 are left

-- the model is the same before a call
pub model_before : {D : Type 0} (s t : OpenHub D) (b : Bool) → SameWindow s t → is_weak t.setting.mode ≡ b → is_weak s.setting.mode ≡ b
model_before s t b same model = ap (λ (w : Setting). is_weak w.mode) (sym same.setting) ∙ model

-- Under the weak model

pub marks_weakly : {D : Type 0} (shows : D → Shown) (s t : OpenHub D) (r m : ℕ) (turn : Turn D) (after : BlockedState) → is_weak t.setting.mode
    ≡ true → HubIsKept shows t → IsTurn s r m turn t → AreFreedWeakly (is_waiting turn) (configuration_of t) r after
    → AreBlocked (configuration_of t) after
marks_weakly shows s t r m (Go grip) after weak kept is freed = none_blocked (configuration_of t) after (subst NoneMarked freed.marked freed.none)
marks_weakly shows s t r m (Moved made) after weak kept is freed = none_blocked (configuration_of t) after (subst NoneMarked freed.marked freed.none)
marks_weakly shows s t r m (TurnOver end made) after weak kept is freed = none_blocked (configuration_of t) after (subst NoneMarked freed.marked freed.none)
marks_weakly shows s t r m TurnAbsent after weak kept is freed = none_blocked (configuration_of t) after (subst NoneMarked freed.marked freed.none)
marks_weakly shows s t r m (Wait why) after weak kept is freed =
    may_mark (configuration_of t) r 0 why freed.freed after kept.configuration.history.well_formed
    (ap (λ (x : Configuration). choice_of x r 0) (after_answer s t r m (Waits why) is.0) ∙ ap (decide (point_of (configuration_of s)) r) same_moment ∙ sym (chosen s t r m (Waits why) is.0))
    (none_blocked (configuration_of t) freed.freed freed.none) freed.marked
  where
    same_moment : max (max s.moment m) 0 ≡ max s.moment m
    same_moment = omega arith
