-- The runs that are marked as blocked stay so in each step of a hub, but for those that the step may have freed.
use Rattle.hub_core.proofs.Prelude.{Absent, Answer, Bool, Choice, Command, Commands, Configuration, ConfigurationIsKept, Did, Died, Doomed, EndNoWait, Entry, Fell, Fine, Found, Grip, Grips, HandsOut, IsBlocked, IsOf, IsWellFormed, List, Lost, Moves, NeverRevokes, None, OfRun, Option, Over, Probes, Purpose, Reading, Rose, RunNo, Sensed, Setting, Some, Told, Undoes, Waits, Worked, [], ap, arith, asks_on, at_moment, both_ways, choice_of, commands_of, common_steps, decide, device_no, did, entries_of, entries_on, entry, eqb-false, eqb-true, false, find_same, give_entries, grip_wait, grips_command, has_grip, holds, holds_none, if◌then◌else◌, inl, inr, is_access, is_command, is_doomed, is_live, is_on, is_quiet, is_run, is_some, is_wait, kept_by, length, list_all, lost_by, max, next_device, option_map, option_to_list, others_hold, own_command, pends, point, point_of, put, put_other, put_same, read_of, refl, run_no, run_place, slice_get, strict_wait, subst, sym, true, unwrap_or, with_entries, with_grip, ℕ, ⊤, ◌&&◌, ◌++◌, ◌==◌, ◌||◌, ◌∙◌, ◌∷◌, ◌≡◌, ◌≢◌, ◌≤◌, ◌⊎◌}
use Rattle.blocked_runs.proofs.Cited.{all_left}
use Rattle.hub_core.proofs.steps.Choices.{decide_is}
use Rattle.hub_core.proofs.steps.GiveCauses.{next_pends}
use Rattle.hub_core.proofs.waiting.AtCommands.{at_command}
use Rattle.hub_core.proofs.waiting.HeldDevices.{did_now, held_waits, next_after_answer, next_kept, read_after}
use Rattle.hub_core.proofs.waiting.KeptLeases.{calm_answered, calm_grips, live_answered}
use Rattle.hub_core.proofs.waiting.Moments.{blocked_calm, skip_blocked, waits_on}
use Rattle.hub_core.proofs.waiting.OtherDevices.{stays_blocked}
use Rattle.hub_core.proofs.waiting.QuietEntries.{strict_by}
use Rattle.hub_core.specs.BlockedMarks.{AreBlocked, Marks, MayBeMarked, Stays}
use Rattle.blocked_runs.specs.Marks.{AreLeft, BlockedState, is_marked, is_marked_at}
use Rattle.hub_core.specs.MarkedRuns.{IsAnsweredStill, is_out_for_command}
use Rattle.hub_core.specs.declared.waits.Why.{Why}
use Rattle.lock_leasing.specs.Leases.{NeverOverdue}
use Rattle.std.proofs.lemmas.List.{append-nil}

-- What lasts

-- the run is blocked still, at the same device
abbrev pub Lasts : Configuration → ℕ → ℕ → Type 0
Lasts t r d = IsBlocked t r × (next_device t r ≡ Some d)

-- a configuration is kept, whatever the window
pub record IsKept (s : Configuration) : Type 0 where
  pub rounds : ℕ
  pub opened : ℕ
  pub held : ℕ → ℕ
  pub kept : ConfigurationIsKept s rounds opened held

-- the runs that are left marked are blocked after a step in which each that is left lasts
pub left_stay : (s t : Configuration) (b after : BlockedState) (Holds : ℕ → Type 0) → AreBlocked s b → AreLeft b after Holds → ((r d : ℕ) → IsBlocked s r → next_device s r ≡ Some d → Holds d → Lasts t r d) → AreBlocked t after
left_stay s t b after Holds are left lasts = record {
  blocked = λ r marked. (each r marked).1;
  there = λ r marked. let at = each r marked in (at.0, at.2, at.3);
}
  where
    each : (r : ℕ) → is_marked after r ≡ true → (d : ℕ) × IsBlocked t r × (next_device t r ≡ Some d) × (is_marked_at after d r ≡ true)
    each r marked =
        let was = left.marked r marked in
        let at = are.there r was in
        let here = left.there r at.0 marked at.2 in
        let still = lasts r at.0 (are.blocked r was) at.1 here.0 in
        (at.0, still.0, still.1, here.1)

-- a run that waits may be marked
pub may_mark : (t : Configuration) (r m : ℕ) (why : Why) (b after : BlockedState) → IsWellFormed t.setting (entries_of t.history) → choice_of t r m ≡ Waits why → AreBlocked t b → MayBeMarked t b r after → AreBlocked t after
may_mark t r m why b after formed told are (Stays same) = subst (AreBlocked t) same are
may_mark t r m why b after formed told are (Marks d next calm marks) = record {
  blocked = λ q marked. (each q marked).1;
  there = λ q marked. let here = each q marked in (here.0, here.2, here.3);
}
  where
    blocked : IsBlocked t r
    blocked = waits_on t r d formed next calm m why told

    each : (q : ℕ) → is_marked after q ≡ true → (e : ℕ) × IsBlocked t q × (next_device t q ≡ Some e) × (is_marked_at after e q ≡ true)
    each q marked = elim (marks.marked q marked) [
      | inl old ↦ let at = are.there q old in (at.0, are.blocked q old, at.1, marks.there at.0 q at.2)
      | inr new ↦ (d, subst (IsBlocked t) (sym new.0) blocked, ap (next_device t) new.0 ∙ next, new.1)
    ]

-- Steps that are elsewhere

-- the configuration after a step that makes these entries
abbrev pub stepped : Configuration → ℕ → List Entry → ℕ → (ℕ → ℕ) → Grips → Configuration
stepped s maker entries m probes g = record { setting = s.setting; history = s.history ++ kept_by maker entries; moment = m; probes = probes; grips = g }

entries_kept : (maker : ℕ) (entries : List Entry) → entries_of (kept_by maker entries) ≡ entries
entries_kept maker entries = entries_on [] maker entries

elsewhere : (s : Configuration) (maker : ℕ) (entries : List Entry) (m : ℕ) (probes : ℕ → ℕ) (g : Grips) (r d : ℕ) → IsKept s → IsKept (stepped s maker entries m probes g) → EndNoWait s.setting (read_of (stepped s maker entries m probes g)) d entries → s.moment ≤ m → g d ≡ s.grips d
    → grip_wait s.setting g r ≡ None → IsBlocked s r → next_device s r ≡ Some d → Lasts (stepped s maker entries m probes g) r d
elsewhere s maker entries m probes g r d was now quiet later held free blocked next =
    stays_blocked s (stepped s maker entries m probes g) (kept_by maker entries) r d now.kept.history.well_formed
    (record { setting = refl; history = refl; quiet = subst (EndNoWait s.setting (read_of (stepped s maker entries m probes g)) d) (sym (entries_kept maker entries)) quiet; moment = later; held = held; free = free }) next blocked

-- .. that makes none
abbrev unchanged : Configuration → ℕ → (ℕ → ℕ) → Grips → Configuration
unchanged s m probes g = record { setting = s.setting; history = s.history; moment = m; probes = probes; grips = g }

undisturbed : (s : Configuration) (m : ℕ) (probes : ℕ → ℕ) (g : Grips) (r d : ℕ) → IsKept s → IsKept (unchanged s m probes g) → s.moment ≤ m → g d ≡ s.grips d → grip_wait s.setting g r ≡ None → IsBlocked s r → next_device s r ≡ Some d → Lasts (unchanged s m probes g) r d
undisturbed s m probes g r d was now later held free blocked next =
    let same : s.history ++ [] ≡ s.history = append-nil s.history in
    let kept : IsKept (stepped s 0 [] m probes g) = subst (λ h. IsKept (record { setting = s.setting; history = h; moment = m; probes = probes; grips = g })) (sym same) now in
    subst (λ h. Lasts (record { setting = s.setting; history = h; moment = m; probes = probes; grips = g }) r d) same (elsewhere s 0 [] m probes g r d was kept (inr refl) later held free blocked next)

later : (a m : ℕ) → a ≤ max a m
later a m = omega (arith)

-- Steps of a run

-- a step that makes entries
pub moved : (s : Configuration) (r m : ℕ) (entries : List Entry) (b after : BlockedState) → IsKept s → IsKept (with_entries (at_moment s m) r entries) → AreBlocked s b → AreLeft b after (λ d. EndNoWait s.setting (read_of (with_entries (at_moment s m) r entries)) d entries)
    → AreBlocked (with_entries (at_moment s m) r entries) after
moved s r m entries b after was now are left =
    left_stay s (with_entries (at_moment s m) r entries) b after (λ d. EndNoWait s.setting (read_of (with_entries (at_moment s m) r entries)) d entries) are left
    (λ q d blocked next quiet. elsewhere s r entries (max s.moment m) s.probes s.grips q d was now quiet (later s.moment m) refl blocked.free blocked next)

-- one that makes none
pub reached : (s : Configuration) (m : ℕ) (b : BlockedState) → IsKept s → IsKept (at_moment s m) → AreBlocked s b → AreBlocked (at_moment s m) b
reached s m b was now are =
    left_stay s (at_moment s m) b b (λ d. ⊤) are (all_left {P = λ d. ⊤} b (λ d. tt)) (λ q d blocked next any. undisturbed s (max s.moment m) s.probes s.grips q d was now (later s.moment m) refl blocked.free blocked next)

-- .. since the run waits, which may be marked
pub waits : (s : Configuration) (r m : ℕ) (why : Why) (b after : BlockedState) → IsKept s → IsKept (at_moment s m) → choice_of s r m ≡ Waits why → AreBlocked s b → MayBeMarked (at_moment s m) b r after → AreBlocked (at_moment s m) after
waits s r m why b after was now told are may = may_mark (at_moment s m) r m why b after now.kept.history.well_formed (ap (λ k. decide (point_of s) r k) twice ∙ told) (reached s m b was now are) may
  where
    twice : max (max s.moment m) m ≡ max s.moment m
    twice = omega (arith)

-- A device goes out

-- for a command of a run, which holds the device then
abbrev GoesFor : Setting → Reading → ℕ → ℕ → Purpose → Type 0
GoesFor w n r d (Commands k) = (is_live n r ≡ true) × (is_doomed n r ≡ false) × (pends w n r d ≡ true)
GoesFor w n r d (Undoes v) = ⊤
GoesFor w n r d (Probes v) = ⊤

abbrev Goes : Setting → Reading → ℕ → Choice → Type 0
Goes w n r Absent = ⊤
Goes w n r (Over e entries) = ⊤
Goes w n r (Moves entries) = ⊤
Goes w n r (Waits why) = ⊤
Goes w n r (HandsOut d purpose) = GoesFor w n r d purpose

goes_for : (w : Setting) (n : Reading) (g : Grips) (r m : ℕ) → Goes w n r (decide (point w n g) r m)
goes_for w n g r m = decide_is (Goes w n r) w n g r m (record {
  absent = λ none. tt;
  over = λ e at. tt;
  waits = λ why. tt;
  arrives = λ run none. tt;
  enters = λ s enters. tt;
  aborted = λ cause act doomed over. tt;
  drops = λ cause d undoing down. tt;
  undoes = λ cause d undoing up. tt;
  revokes = λ c x run strong at. tt;
  skips = λ c skip. tt;
  downs = λ c run next home down. tt;
  goes = λ c run next home up. (run.act.live, ap (λ o. is_some o) run.sound, next_pends w n r c run.next);
  fails_at_end = λ d run at. tt;
  commits = λ run up. tt;
})

-- a blocked run is not the one that makes the step
not_mover : (s : Configuration) (r m d : ℕ) (purpose : Purpose) (q : ℕ) → choice_of s r m ≡ HandsOut d purpose → IsBlocked s q → q ≢ r
not_mover s r m d purpose q out blocked same = both_ways _ (ap (λ x. is_wait (choice_of s x m)) same ∙ ap is_wait out) (blocked.waits m)

-- another run holds no grip still, where the run's grip goes out or comes back
still_free : (s : Configuration) (maker d : ℕ) (o : Option Grip) (q : ℕ) → IsOf maker o → IsOf maker (s.grips d) → q ≢ maker → grip_wait s.setting s.grips q ≡ None → grip_wait s.setting (put s.grips d o) q ≡ None
still_free s maker d o q new old other free = find_same (has_grip (put s.grips d o) q) (has_grip s.grips q) _ (λ e. others_hold s.grips maker d o new old q e other) ∙ free

-- the device of a run's step goes out: for an undo, and those that are blocked there are free; or for a command, and they wait behind its run
pub goes : (s : Configuration) (r m d : ℕ) (purpose : Purpose) (b after : BlockedState) → s.grips d ≡ None → IsKept s → IsKept (with_grip (at_moment s m) d (Some (record { maker = r; purpose = purpose }))) → choice_of s r m ≡ HandsOut d purpose → AreBlocked s b
    → AreLeft b after (λ e. is_out_for_command (with_grip (at_moment s m) d (Some (record { maker = r; purpose = purpose }))) d ≡ false → e ≢ d) → AreBlocked (with_grip (at_moment s m) d (Some (record { maker = r; purpose = purpose }))) after
goes s r m d purpose b after home was now out are left = left_stay s t b after (λ e. is_out_for_command t d ≡ false → e ≢ d) are left each
  where
    grip : Grip
    grip = record { maker = r; purpose = purpose }

    g : Grips
    g = put s.grips d (Some grip)

    t : Configuration
    t = with_grip (at_moment s m) d (Some grip)

    free : (q : ℕ) → IsBlocked s q → grip_wait s.setting g q ≡ None
    free q blocked = still_free s r d (Some grip) q refl (subst (IsOf r) (sym home) tt) (not_mover s r m d purpose q out blocked) blocked.free

    away : (q e : ℕ) → IsBlocked s q → next_device s q ≡ Some e → e ≢ d → Lasts t q e
    away q e blocked next other = undisturbed s (max s.moment m) s.probes g q e was now (later s.moment m) (put_other s.grips d (Some grip) e other) (free q blocked) blocked next

    for_command : is_out_for_command t d ≡ is_command purpose
    for_command = ap (λ o. unwrap_or (option_map (λ (x : Grip). is_command x.purpose) o) false) (put_same s.grips d (Some grip))

    calm : (q : ℕ) → IsBlocked s q → next_device s q ≡ Some d → NeverRevokes t q d
    calm q blocked next strong asks = calm_grips s.setting (read_of s) s.grips g q d (blocked_calm s q d (at_command s q d was.kept.history.well_formed next) blocked strong asks)

    here : (p : Purpose) → purpose ≡ p → GoesFor s.setting (read_of s) r d p → (q : ℕ) → IsBlocked s q → next_device s q ≡ Some d → (is_out_for_command t d ≡ false → d ≢ d) → Lasts t q d
    here (Commands k) is run q blocked next left' =
        let still : next_device t q ≡ Some d = next_kept s t q d refl refl (free q blocked) next in
        let touched : (did (read_of s) r d || grips_command g r d) ≡ true = rw (own_command g d r purpose (put_same s.grips d (Some grip)), is) (grind (arith, common_steps)) in
        let waits' = by_guard still touched (asks_on s.setting (read_of s) q d) refl in
        (waits', still)
      where
        by_guard : next_device t q ≡ Some d → (did (read_of s) r d || grips_command g r d) ≡ true → (b : Bool) → asks_on s.setting (read_of s) q d ≡ b → IsBlocked t q
        by_guard still touched true asks = held_waits t now.rounds now.opened now.held r q d now.kept run.0 run.1 touched run.2 (not_mover s r m d purpose q out blocked) still asks (calm q blocked next)
        by_guard still touched false skips = skip_blocked s t q d (at_command s q d was.kept.history.well_formed next) (at_command t q d now.kept.history.well_formed still) skips skips refl blocked
    here (Undoes v) is run q blocked next left' = absurd (left' (for_command ∙ ap is_command is) refl)
    here (Probes v) is run q blocked next left' = absurd (left' (for_command ∙ ap is_command is) refl)

    each : (q e : ℕ) → IsBlocked s q → next_device s q ≡ Some e → (is_out_for_command t d ≡ false → e ≢ d) → Lasts t q e
    each q e blocked next left' = elim (e == d) as (λ x. (e == d) ≡ x → Lasts t q e) [
      | true ↦ (λ h. let same = eqb-true e d h in
          subst (λ x. Lasts t q x) (sym same) (here purpose refl (subst (λ c. Goes s.setting (read_of s) r c) out (goes_for s.setting (read_of s) s.grips r (max s.moment m))) q blocked (next ∙ ap (λ x. Some x) same) (λ no. subst (λ x. x ≢ d) same (left' no))))
      | false ↦ (λ h. away q e blocked next (eqb-false e d h))
    ] refl

-- a run is not the detector
a_run : (w : Setting) (q : ℕ) → is_run w.runs q ≡ true → q ≢ 0
a_run w q run none = absurd (let place = run_place w.runs q run in omega (arith, place.0, none))

-- a probe goes out, and those that are blocked on its device are free
pub probed : (s : Configuration) (d : ℕ) (probes : ℕ → ℕ) (purpose : Purpose) (b after : BlockedState) → s.grips d ≡ None → IsKept s → IsKept (unchanged s s.moment probes (put s.grips d (Some (record { maker = 0; purpose = purpose })))) → AreBlocked s b → AreLeft b after (λ e. e ≢ d)
    → AreBlocked (unchanged s s.moment probes (put s.grips d (Some (record { maker = 0; purpose = purpose })))) after
probed s d probes purpose b after home was now are left =
    left_stay s (unchanged s s.moment probes (put s.grips d (Some grip))) b after (λ e. e ≢ d) are left
    (λ q e blocked next other. undisturbed s s.moment probes (put s.grips d (Some grip)) q e was now (omega (arith)) (put_other s.grips d (Some grip) e other)
    (still_free s 0 d (Some grip) q refl (subst (IsOf 0) (sym home) tt) (a_run s.setting q blocked.run) blocked.free) blocked next)
  where
    grip : Grip
    grip = record { maker = 0; purpose = purpose }

-- A device comes home

-- its entry is of the run whose grip comes home, and its answer is an access
own_entry : (w : Setting) (n : Reading) (d : ℕ) (grip : Grip) (told : Told) (r : RunNo) (k : ℕ) (a : Answer) → give_entries w n d grip told ≡ Did r k a ∷ [] → (r.0 ≡ grip.maker) × (is_access a ≡ true)
own_entry w n d grip told r k a only = by_purpose grip.purpose told only
  where
    by_purpose : (p : Purpose) (told : Told) → give_entries w n d (record { maker = grip.maker; purpose = p }) told ≡ Did r k a ∷ [] → (r.0 ≡ grip.maker) × (is_access a ≡ true)
    by_purpose (Commands c) Worked only = (let same : r ≡ run_no grip.maker = cc in let told' : Fine ≡ a = cc in (ap (λ (x : RunNo). x.0) same, ap is_access (sym told')))
    by_purpose (Commands c) (Sensed x) only = (let same : r ≡ run_no grip.maker = cc in let told' : Found x ≡ a = cc in (ap (λ (x : RunNo). x.0) same, ap is_access (sym told')))
    by_purpose (Commands c) Died only = absurd (cc)
    by_purpose (Undoes v) Worked only = absurd (cc)
    by_purpose (Undoes v) (Sensed x) only = absurd (cc)
    by_purpose (Undoes v) Died only = absurd (cc)
    by_purpose (Probes v) told only = probes (n.up d) told only
      where
        back : (told : Told) → (b : Bool) → (if b then [] else Rose (device_no d) ∷ []) ≡ Did r k a ∷ [] → (r.0 ≡ grip.maker) × (is_access a ≡ true)
        back told true only = absurd (cc)
        back told false only = absurd (cc)

        probes : (b : Bool) (told : Told) → give_entries w n d (record { maker = grip.maker; purpose = Probes v }) told ≡ Did r k a ∷ [] → (r.0 ≡ grip.maker) × (is_access a ≡ true)
        probes b Worked only = back Worked (n.up d) only
        probes b (Sensed x) only = back (Sensed x) (n.up d) only
        probes b Died only =
            elim (n.up d) as
            (λ b. (if b then Fell (device_no d) ∷ option_to_list (option_map (λ x. Doomed (run_no x) (Lost (device_no d))) (lost_by w n d)) else [])
            ≡ Did r k a ∷ [] → (r.0 ≡ grip.maker) × (is_access a ≡ true)) [ true ↦ (λ e. absurd (cc)) | false ↦ (λ e. absurd (cc)) ] only

-- the device is home: those that were blocked there are free, or wait behind the run that was answered
pub back : (s : Configuration) (m d : ℕ) (grip : Grip) (told : Told) (b after : BlockedState) → s.moment ≤ m → s.grips d ≡ Some grip → IsKept s → IsKept (stepped s grip.maker (give_entries s.setting (read_of s) d grip told) m s.probes (put s.grips d None)) → AreBlocked s b
    → AreLeft b after (λ e. IsAnsweredStill (stepped s grip.maker (give_entries s.setting (read_of s) d grip told) m s.probes (put s.grips d None)) d
    (give_entries s.setting (read_of s) d grip told) ⊎ ((e ≢ d) × (list_all (is_quiet s.setting e) (give_entries s.setting (read_of s) d grip told) ≡ true)))
    → AreBlocked (stepped s grip.maker (give_entries s.setting (read_of s) d grip told) m s.probes (put s.grips d None)) after
back s m d grip told b after later out was now are left = left_stay s t b after Left are left each
  where
    entries : List Entry
    entries = give_entries s.setting (read_of s) d grip told

    g : Grips
    g = put s.grips d None

    t : Configuration
    t = stepped s grip.maker entries m s.probes g

    Left : ℕ → Type 0
    Left e = IsAnsweredStill t d entries ⊎ ((e ≢ d) × (list_all (is_quiet s.setting e) entries ≡ true))

    not_maker : (q : ℕ) → IsBlocked s q → q ≢ grip.maker
    not_maker q blocked same = holds_none s.setting s.grips q was.kept.order.grips.homed blocked.free d grip.purpose (out ∙ ap (λ x. Some (record { maker = x; purpose = grip.purpose })) (sym same))

    free : (q : ℕ) → IsBlocked s q → grip_wait s.setting g q ≡ None
    free q blocked = still_free s grip.maker d None q tt (subst (IsOf grip.maker) (sym out) refl) (not_maker q blocked) blocked.free

    away : (q e : ℕ) → IsBlocked s q → next_device s q ≡ Some e → e ≢ d → list_all (is_quiet s.setting e) entries ≡ true → Lasts t q e
    away q e blocked next other quiet = elsewhere s grip.maker entries m s.probes g q e was now (inr quiet) later (put_other s.grips d None e other) (free q blocked) blocked next

    here : (q e : ℕ) → IsBlocked s q → next_device s q ≡ Some e → IsAnsweredStill t d entries → Lasts t q e
    here q e blocked next still = elim (e == d) as (λ x. (e == d) ≡ x → Lasts t q e) [
      | true ↦ (λ h. subst (λ x. Lasts t q x) (sym (eqb-true e d h)) (behind (next ∙ ap (λ x. Some x) (eqb-true e d h))))
      | false ↦ (λ h. away q e blocked next (eqb-false e d h) (ap (list_all (is_quiet s.setting e)) still.only ∙ quiet h))
    ] refl
      where
        quiet : (e == d) ≡ false → list_all (is_quiet s.setting e) (Did still.run still.command still.answer ∷ []) ≡ true
        quiet h = rw still.holds.device (grind (arith, common_steps))

        own : (still.run.0 ≡ grip.maker) × (is_access still.answer ≡ true)
        own = own_entry s.setting (read_of s) d grip told still.run still.command still.answer still.only

        other : q ≢ still.run.0
        other same = not_maker q blocked (same ∙ own.0)

        made : t.history ≡ s.history ++ kept_by grip.maker (Did still.run still.command still.answer ∷ [])
        made = ap (λ es. s.history ++ kept_by grip.maker es) still.only

        read : read_of t ≡ entry s.setting (read_of s) (Did still.run still.command still.answer)
        read = read_after s t grip.maker still.run still.command still.answer made refl

        same_run : (read_of t).run q ≡ (read_of s).run q
        same_run = ap (λ n. n.run q) read ∙ put_other (read_of s).run still.run.0 _ q other

        same_guard : asks_on s.setting (read_of t) q d ≡ asks_on s.setting (read_of s) q d
        same_guard = ap (λ (o : OfRun). unwrap_or (option_map (λ (c : Command). is_on d c && holds c.when o.register) (slice_get (commands_of s.setting.runs q) (length o.answers))) false) same_run

        same_wait : strict_wait s.setting (read_of t) q ≡ strict_wait s.setting (read_of s) q
        same_wait =
            ap (λ n. strict_wait s.setting n q) read
            ∙ strict_by s.setting.runs s.setting.kinds s.setting.first s.setting.mode.model s.setting.mode.scheduler (read_of s) (entry s.setting (read_of s) (Did still.run still.command still.answer)) q (live_answered s.setting (read_of s) still.run still.command still.answer q)

        calm : next_device s q ≡ Some d → NeverRevokes t q d
        calm at strong asks =
            let before : NeverOverdue (point_of s) q d = blocked_calm s q d (at_command s q d was.kept.history.well_formed at) blocked strong (sym same_guard ∙ asks) in
            subst (λ n. NeverOverdue (point s.setting n g) q d) (sym read) (calm_answered s.setting (read_of s) g still.run still.command still.answer q d (calm_grips s.setting (read_of s) s.grips g q d before))

        behind : next_device s q ≡ Some d → Lasts t q d
        behind at =
            let next' : next_device t q ≡ Some d = next_after_answer s t grip.maker still.run still.command still.answer q d made refl other (free q blocked) at in
            (by_guard next' (asks_on s.setting (read_of s) q d) refl, next')
          where
            by_guard : next_device t q ≡ Some d → (b : Bool) → asks_on s.setting (read_of s) q d ≡ b → IsBlocked t q
            by_guard next' true asks =
                held_waits t now.rounds now.opened now.held still.run.0 q d now.kept still.holds.live still.holds.going
                (let met : did (read_of t) still.run.0 d ≡ true = did_now s t grip.maker still.run still.command still.answer d made refl still.holds.device own.1 in grind (arith, common_steps))
                still.holds.left other next' (same_guard ∙ asks) (calm at)
            by_guard next' false skips = skip_blocked s t q d (at_command s q d was.kept.history.well_formed at) (at_command t q d now.kept.history.well_formed next') skips (same_guard ∙ skips) same_wait blocked

    each : (q e : ℕ) → IsBlocked s q → next_device s q ≡ Some e → Left e → Lasts t q e
    each q e blocked next left' = elim left' [
      | inl still ↦ here q e blocked next still
      | inr other ↦ away q e blocked next other.0 other.1
    ]
