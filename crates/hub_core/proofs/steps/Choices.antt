-- What holds of each thing that a run's step may do holds of the step.
use Rattle.hub_core.proofs.Prelude.{Aborted, Absent, Arrived, At, Bool, Cause, Choice, Command, Commands, Committed, Configuration, DeniedBy, Did, Doomed, Down, DownAtEnd, End, Ended, Grips, HandsOut, Moves, None, Option, Over, Placed, PlacedAt, Placing, Point, Probes, Reading, Revoked, Setting, Skipped, Some, Split, Undid, Undoes, Waits, [], aborts, answers_down, behind_wait, busy_case, busy_wait, choice_of, command_cases, decide, decide_answered, decide_arrived, decide_command, decide_doomed, device_no, devices_of, dirty_wait, down_at_end, down_case, down_entries, each_found, false, first_case, follow_wait, free, grip_wait, has_effect, holds, if◌then◌else◌, is_device, is_live, is_none, is_out, is_run, is_some, is_weak, lease_deadline, length, max, next_command, next_of, next_undo_of, not, not-true, only_if, option_map, overdue_for, own_devices, place_choice, point, read_of, refl, run_no, scheduled_place, skip_entries, some_is, strict_case, strict_wait, subst, sym, touches, true, undo_cases, undo_choice, undo_wait, unwrap_or, value_without, ℕ, ⊤, ◌&&◌, ◌∙◌, ◌∷◌, ◌≡◌}
use Rattle.hub_core.specs.declared.waits.Why.{Why}
use Rattle.hub_core.specs.declared.waits.Why.TheVariants.{Behind, Busy, Denied, Dirty, Follow, Strict}

-- A choice by cases

pub by_test : {A : Type 0} (P : A → Type 0) (b : Bool) (x rest : A) → (b ≡ true → P x) → (b ≡ false → P rest) → P (unwrap_or (only_if b x) rest)
by_test P true x rest then' else' = then' refl
by_test P false x rest then' else' = else' refl

pub by_map : {A : Type 0} {B : Type 0} (P : A → Type 0) (f : B → A) (o : Option B) (rest : A) → ((y : B) → o ≡ Some y → P (f y)) → (o ≡ None → P rest) → P (unwrap_or (option_map f o) rest)
by_map P f None rest some none = none refl
by_map P f (Some y) rest some none = some y refl

pub double : (b : Bool) → not b ≡ false → b ≡ true
double true e = refl
double false e = absurd (cc)

-- What is known

-- of a run that acts: it is one of the window, live, and holds no grip
pub record Acts (p : Point) (r : ℕ) : Type 0 where
  pub run : is_run p.setting.runs r ≡ true
  pub free : grip_wait p.setting p.grips r ≡ None
  pub live : is_live p.reading r ≡ true

acts : (w : Setting) (n : Reading) (g : Grips) (r : ℕ) → is_run w.runs r ≡ true → grip_wait w g r ≡ None → is_none (n.run r).placed ≡ false → (n.run r).ended ≡ None → Acts (point w n g) r
acts w n g r run free placed going = record { run = run; free = free; live = rw going (some_of (n.run r).placed placed) }
  where
    some_of : (p : Option PlacedAt) → is_none p ≡ false → (is_some p && true) ≡ true
    some_of None e = absurd (cc)
    some_of (Some p) e = refl

-- of a run that is placed there
pub record Enters (p : Point) (r m : ℕ) (s : Split) : Type 0 where
  pub run : is_run p.setting.runs r ≡ true
  pub arrived : is_none (p.reading.run r).arrived ≡ false
  pub unplaced : is_none (p.reading.run r).placed ≡ true
  pub leader : follow_wait p.setting p.reading r ≡ None
  pub place : scheduled_place p r m ≡ At s

-- of a doomed run and the next device on which it is undone, which is home
pub record Undoing (p : Point) (r d : ℕ) (cause : Cause) : Type 0 where
  pub act : Acts p r
  pub doomed : (p.reading.run r).doomed ≡ Some cause
  pub strong : is_weak p.setting.mode ≡ false
  pub device : is_device p.setting d ≡ true
  pub effect : has_effect p.reading p.grips r d ≡ true
  pub home : is_out p.grips d ≡ false
  pub next : next_undo_of p r ≡ Some d

-- of a run with a next command, whose guard holds
pub record Commanding (p : Point) (r : ℕ) (c : Command) : Type 0 where
  pub act : Acts p r
  pub sound : (p.reading.run r).doomed ≡ None
  pub next : next_command p.setting p.reading r ≡ Some c
  pub guard : holds c.when (p.reading.run r).register ≡ true

-- .. or does not, where the model lets the run go
pub record Skipping (p : Point) (r : ℕ) (c : Command) : Type 0 where
  pub act : Acts p r
  pub sound : (p.reading.run r).doomed ≡ None
  pub next : next_command p.setting p.reading r ≡ Some c
  pub guard : holds c.when (p.reading.run r).register ≡ false
  pub alone : strict_wait p.setting p.reading r ≡ None

-- of a next command that no lease, run or model holds back
pub record IsNext (p : Point) (r m : ℕ) (c : Command) : Type 0 where
  pub current : overdue_for p r c.device.0 m ≡ None
  pub first : behind_wait p r c.device.0 ≡ None
  pub clean : dirty_wait p r c ≡ None
  pub alone : strict_wait p.setting p.reading r ≡ None

-- of a run with all its commands answered
pub record Answered (p : Point) (r : ℕ) : Type 0 where
  pub act : Acts p r
  pub sound : (p.reading.run r).doomed ≡ None
  pub none : next_command p.setting p.reading r ≡ None

-- a fact of each thing that a run's step may do
pub record HoldsOfEach (P : Choice → Type 0) (p : Point) (r m : ℕ) : Type 0 where
  pub absent : is_run p.setting.runs r ≡ false → P Absent
  pub over : (e : End) → (p.reading.run r).ended ≡ Some e → P (Over e [])
  pub waits : (why : Why) → P (Waits why)
  pub arrives : is_run p.setting.runs r ≡ true → is_none (p.reading.run r).arrived ≡ true → P (Moves (Arrived (run_no r) m ∷ []))
  pub enters : (s : Split) → Enters p r m s → P (Moves (Placed (run_no r) (length s.front) m ∷ []))
  pub aborted : (cause : Cause) → Acts p r → (p.reading.run r).doomed ≡ Some cause → (is_weak p.setting.mode ≡ false → next_undo_of p r ≡ None) → P (aborts r cause)
  pub drops : (cause : Cause) (d : ℕ) → Undoing p r d cause → p.reading.up d ≡ false → P (Moves (Undid (run_no r) (device_no d) false ∷ []))
  pub undoes : (cause : Cause) (d : ℕ) → Undoing p r d cause → p.reading.up d ≡ true → P (HandsOut d (Undoes (value_without p r d)))
  pub revokes : (c : Command) (x : ℕ) → Commanding p r c → is_weak p.setting.mode ≡ false → overdue_for p r c.device.0 m ≡ Some x → P (Moves (Doomed (run_no x) (Revoked (run_no r) c.device (lease_deadline p.setting p.reading x c.device.0) m) ∷ []))
  pub downs : (c : Command) → Commanding p r c → (is_weak p.setting.mode ≡ false → IsNext p r m c) → busy_wait p r c.device.0 ≡ false → answers_down p.setting p.reading r c.device.0 ≡ true → P (Moves (down_entries r (next_of p.reading r) c))
  pub goes : (c : Command) → Commanding p r c → (is_weak p.setting.mode ≡ false → IsNext p r m c) → busy_wait p r c.device.0 ≡ false → answers_down p.setting p.reading r c.device.0 ≡ false → P (HandsOut c.device.0 (Commands (next_of p.reading r)))
  pub skips : (c : Command) → Skipping p r c → P (Moves (skip_entries r (next_of p.reading r)))
  pub fails_at_end : (d : ℕ) → Answered p r → down_at_end p r ≡ Some d → P (Moves (Doomed (run_no r) (DownAtEnd (device_no d)) ∷ []))
  pub commits : Answered p r → down_at_end p r ≡ None → P (Over Committed (Ended (run_no r) Committed ∷ []))

-- The cases

place_is : (P : Choice → Type 0) (w : Setting) (n : Reading) (g : Grips) (r m : ℕ) → HoldsOfEach P (point w n g) r m → (p : Placing) → scheduled_place (point w n g) r m ≡ p
    → is_run w.runs r ≡ true → is_none (n.run r).arrived ≡ false → is_none (n.run r).placed ≡ true → follow_wait w n r ≡ None → P (place_choice r m p)
place_is P w n g r m each (At s) place run arrived unplaced leader = each.enters s (record { run = run; arrived = arrived; unplaced = unplaced; leader = leader; place = place })
place_is P w n g r m each (DeniedBy d x) place run arrived unplaced leader = each.waits (Denied (device_no d) (run_no x))

-- the wait for an undo passed, the device of the next undo is home
undo_home : (w : Setting) (n : Reading) (g : Grips) (r d : ℕ) → undo_wait (point w n g) r ≡ None → next_undo_of (point w n g) r ≡ Some d → is_out g d ≡ false
undo_home w n g r d none at = by_next (next_undo_of (point w n g) r) none at
  where
    while_out : Option ℕ → Option ℕ
    while_out None = None
    while_out (Some e) = if is_out g e then Some e else None

    by_next : (o : Option ℕ) → while_out o ≡ None → o ≡ Some d → is_out g d ≡ false
    by_next None e f = absurd (cc)
    by_next (Some e) f h = subst (λ x. is_out g x ≡ false) (some_is e d h) (elim (is_out g e) as (λ b. (if b then Some e else None) ≡ None → b ≡ false) [ true ↦ (λ x. absurd (cc)) | false ↦ (λ x. refl) ] f)

doomed_is : (P : Choice → Type 0) (w : Setting) (n : Reading) (g : Grips) (r m : ℕ) → HoldsOfEach P (point w n g) r m → (cause : Cause) → Acts (point w n g) r → (n.run r).doomed ≡ Some cause → P (decide_doomed (point w n g) r cause)
doomed_is P w n g r m each cause act doomed = elim (is_weak w.mode) as (λ b. is_weak w.mode ≡ b → P (first_case (if b then [] else undo_cases (point w n g) r) (aborts r cause))) [
  | true ↦ (λ weak. each.aborted cause act doomed (λ strong. absurd (let both : true ≡ false = sym weak ∙ strong in cc)))
  | false ↦ (λ strong. by_map P (λ d. Waits (Busy (device_no d))) (undo_wait (point w n g) r) _ (λ d e. each.waits (Busy (device_no d)))
      (λ none. by_map P (undo_choice (point w n g) r) (next_undo_of (point w n g) r) (aborts r cause) (λ d at. undo strong none d at) (λ over. each.aborted cause act doomed (λ e. over))))
] refl
  where
    undo : is_weak w.mode ≡ false → undo_wait (point w n g) r ≡ None → (d : ℕ) → next_undo_of (point w n g) r ≡ Some d → P (undo_choice (point w n g) r d)
    undo strong none d at = elim (n.up d) as (λ b. n.up d ≡ b → P (if b then HandsOut d (Undoes (value_without (point w n g) r d)) else Moves (Undid (run_no r) (device_no d) false ∷ []))) [
      | true ↦ (λ up. each.undoes cause d undoing up)
      | false ↦ (λ down. each.drops cause d undoing down)
    ] refl
      where
        undoing : Undoing (point w n g) r d cause
        undoing = let found = each_found (λ x. (is_device w x ≡ true) × (touches w.runs r x ≡ true)) (has_effect n g r) (devices_of w r) d (own_devices w r) at in
            record { act = act; doomed = doomed; strong = strong; device = found.0.0; effect = found.1; home = undo_home w n g r d none at; next = at }

guarded_is_next : (P : Choice → Type 0) (w : Setting) (n : Reading) (g : Grips) (r m : ℕ) → HoldsOfEach P (point w n g) r m
    → (c : Command) → Commanding (point w n g) r c
    → P (first_case (command_cases (is_weak w.mode) (point w n g) r m (next_of n r) c) (HandsOut c.device.0 (Commands (next_of n r))))
guarded_is_next P w n g r m each c run = elim (is_weak w.mode) as (λ b. is_weak w.mode ≡ b → P (first_case (command_cases b (point w n g) r m (next_of n r) c) (HandsOut c.device.0 (Commands (next_of n r))))) [
  | true ↦ (λ weak. last_cases (λ strong. absurd (let both : true ≡ false = sym weak ∙ strong in cc)))
  | false ↦ (λ strong. by_map P (λ x. Moves (Doomed (run_no x) (Revoked (run_no r) c.device (lease_deadline w n x c.device.0) m) ∷ [])) (overdue_for (point w n g) r c.device.0 m) _ (λ x at. each.revokes c x run strong at)
      (λ current. by_map P (λ x. Waits (Behind c.device (run_no x))) (behind_wait (point w n g) r c.device.0) _ (λ x at. each.waits (Behind c.device (run_no x)))
      (λ first. by_map P (λ x. Waits (Dirty c.device (run_no x))) (dirty_wait (point w n g) r c) _ (λ x at. each.waits (Dirty c.device (run_no x)))
      (λ clean. by_map P (λ x. Waits (Strict (run_no x))) (strict_wait w n r) _ (λ x at. each.waits (Strict (run_no x)))
      (λ alone. last_cases (λ e. record { current = current; first = first; clean = clean; alone = alone }))))))
] refl
  where
    last_cases : (is_weak w.mode ≡ false → IsNext (point w n g) r m c) → P (first_case (busy_case (point w n g) r c ∷ down_case (point w n g) r (next_of n r) c ∷ []) (HandsOut c.device.0 (Commands (next_of n r))))
    last_cases next = by_test P (busy_wait (point w n g) r c.device.0) (Waits (Busy c.device)) _ (λ e. each.waits (Busy c.device))
        (λ home. by_test P (answers_down w n r c.device.0) (Moves (down_entries r (next_of n r) c)) (HandsOut c.device.0 (Commands (next_of n r))) (λ down. each.downs c run next home down) (λ up. each.goes c run next home up))

command_is_next : (P : Choice → Type 0) (w : Setting) (n : Reading) (g : Grips) (r m : ℕ) → HoldsOfEach P (point w n g) r m → (c : Command) → Acts (point w n g) r → (n.run r).doomed ≡ None → next_command w n r ≡ Some c → P (decide_command (point w n g) r m (next_of n r) c)
command_is_next P w n g r m each c act sound next = elim (holds c.when (n.run r).register) as (λ b. holds c.when (n.run r).register ≡ b
    → P (if b then first_case (command_cases (is_weak w.mode) (point w n g) r m (next_of n r) c) (HandsOut c.device.0 (Commands (next_of n r))) else first_case (strict_case (point w n g) r ∷ []) (Moves (skip_entries r (next_of n r))))) [
      | true ↦ (λ e. guarded_is_next P w n g r m each c (record { act = act; sound = sound; next = next; guard = e }))
      | false ↦ (λ e. by_map P (λ x. Waits (Strict (run_no x))) (strict_wait w n r) _ (λ x at. each.waits (Strict (run_no x))) (λ alone. each.skips c (record { act = act; sound = sound; next = next; guard = e; alone = alone })))
    ] refl

-- what holds of each thing that the step may do holds of the step
pub decide_is : (P : Choice → Type 0) (w : Setting) (n : Reading) (g : Grips) (r m : ℕ) → HoldsOfEach P (point w n g) r m → P (decide (point w n g) r m)
decide_is P w n g r m each =
    by_test P (not (is_run w.runs r)) Absent _ (λ e. each.absent (not-true (is_run w.runs r) e))
    (λ run. by_map P (λ e. Over e []) (n.run r).ended _ (λ e at. each.over e at)
    (λ going. by_map P (λ d. Waits (Busy (device_no d))) (grip_wait w g r) _ (λ d at. each.waits (Busy (device_no d)))
    (λ free. by_test P (is_none (n.run r).arrived) (Moves (Arrived (run_no r) m ∷ [])) _ (λ none. each.arrives (double (is_run w.runs r) run) none)
    (λ came. by_test P (is_none (n.run r).placed) (decide_arrived (point w n g) r m) _
    (λ none. by_map P (λ f. Waits (Follow f)) (follow_wait w n r) _ (λ f e. each.waits (Follow f)) (λ leader. place_is P w n g r m each (scheduled_place (point w n g) r m) refl (double (is_run w.runs r) run) came none leader))
    (λ placed. let act : Acts (point w n g) r = acts w n g r (double (is_run w.runs r) run) free placed going in
    by_map P (decide_doomed (point w n g) r) (n.run r).doomed _ (λ cause at. doomed_is P w n g r m each cause act at)
    (λ sound. by_map P (decide_command (point w n g) r m (next_of n r)) (next_command w n r) (decide_answered (point w n g) r) (λ c at. command_is_next P w n g r m each c act sound at)
    (λ none. by_map P (λ d. Moves (Doomed (run_no r) (DownAtEnd (device_no d)) ∷ [])) (down_at_end (point w n g) r) _ (λ d at. each.fails_at_end d (record { act = act; sound = sound; none = none }) at)
    (λ up. each.commits (record { act = act; sound = sound; none = none }) up))))))))

-- What is known of a step by what it does

-- .. of the run whose step does so
abbrev pub Known : Setting → Reading → Grips → ℕ → ℕ → Choice → Type 0
Known w n g r m (Over (Aborted cause) (e ∷ es)) = Acts (point w n g) r × ((n.run r).doomed ≡ Some cause) × (is_weak w.mode ≡ false → next_undo_of (point w n g) r ≡ None)
Known w n g r m (Moves (Placed x at t ∷ es)) = (s : Split) × Enters (point w n g) r m s × (at ≡ length s.front)
Known w n g r m (Moves (Undid x d drove ∷ es)) = (cause : Cause) × Undoing (point w n g) r d.0 cause
Known w n g r m (Moves (Did x k Down ∷ es)) = (c : Command) × Commanding (point w n g) r c × (is_weak w.mode ≡ false → IsNext (point w n g) r m c)
    × (busy_wait (point w n g) r c.device.0 ≡ false) × (answers_down w n r c.device.0 ≡ true) × (k ≡ next_of n r)
Known w n g r m (Moves (Did x k Skipped ∷ es)) = (c : Command) × Skipping (point w n g) r c × (k ≡ next_of n r)
Known w n g r m (Moves (Doomed x (DownAtEnd d) ∷ es)) = Answered (point w n g) r
Known w n g r m (HandsOut d (Commands k)) = (c : Command) × Commanding (point w n g) r c
    × (busy_wait (point w n g) r c.device.0 ≡ false) × (answers_down w n r c.device.0 ≡ false) × (d ≡ c.device.0) × (k ≡ next_of n r)
Known w n g r m (HandsOut d (Undoes v)) = (cause : Cause) × Undoing (point w n g) r d cause × (n.up d ≡ true) × (v ≡ value_without (point w n g) r d)
Known w n g r m (HandsOut d (Probes v)) = ⊥
Known w n g r m choice = ⊤

known : (w : Setting) (n : Reading) (g : Grips) (r m : ℕ) → Known w n g r m (decide (point w n g) r m)
known w n g r m =
    decide_is (Known w n g r m) w n g r m (record {
      absent = λ none. tt;
      over = λ e at. over_is e;
      waits = λ why. tt;
      arrives = λ run none. tt;
      enters = λ s enters. (s, enters, refl);
      aborted = λ cause act doomed over. (act, doomed, over);
      drops = λ cause d undoing down. (cause, undoing);
      undoes = λ cause d undoing up. (cause, undoing, up, refl);
      revokes = λ c x run strong at. tt;
      skips = λ c skip. (c, skip, refl);
      downs = λ c run next home down. (c, run, next, home, down, refl);
      goes = λ c run next home up. (c, run, home, up, refl, refl);
      fails_at_end = λ d all at. all;
      commits = λ all up. tt;
    })
  where
    over_is : (e : End) → Known w n g r m (Over e [])
    over_is Committed = tt
    over_is (Aborted cause) = tt

pub known_by : (s : Configuration) (r m : ℕ) (choice : Choice) → choice_of s r m ≡ choice → Known s.setting (read_of s) s.grips r (max s.moment m) choice
known_by s r m choice is = subst (Known s.setting (read_of s) s.grips r (max s.moment m)) is (known s.setting (read_of s) s.grips r (max s.moment m))
