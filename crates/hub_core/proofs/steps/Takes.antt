-- The entries of a run's step may follow what was read.
use Rattle.hub_core.proofs.Prelude.{Absent, Answer, Bool, Cause, Choice, Command, Committed, Did, Doomed, Down, DownAtEnd, Ended, Entry, Grips, HandsOut, IsTrue, List, Lost, Moves, MustDown, None, Option, Over, Placed, Reading, Refuted, Revoked, Setting, Shaped, Skipped, Some, Split, Undid, Waits, [], aborts, along, ap, arith, before, command_at, commands_of, common_steps, decide, device_no, devices_of, did_live, down_at_end, down_entries, each_found, effect_is, entry, false, find, has_touched, if◌then◌else◌, is_device, is_doomed, is_live, is_none, is_overdue, is_run, is_some, is_strict, lease_deadline, length, live_before, live_runs_live, may_follow, nat_le, nat_lt, next_command, next_of, no_command, not, overdue_for, own_devices, point, put_keeps, refl, run_no, same_cause, skip_entries, slice_get, slice_get_within, slice_index_or, some_is, suc, suits, touches, true, zero, ℕ, ◌&&◌, ◌<◌, ◌==◌, ◌∙◌, ◌∷◌, ◌≡◌, ◌≤◌}
use Rattle.hub_core.proofs.steps.Choices.{Acts, Answered, Commanding, Enters, Skipping, Undoing, decide_is}

-- the entries that a choice makes
abbrev pub made_by : Choice → List Entry
made_by Absent = []
made_by (Over e entries) = entries
made_by (Moves entries) = entries
made_by (Waits why) = []
made_by (HandsOut d purpose) = []

-- each command of each run is on a device of the home
abbrev pub IsHomed : Setting → Type 0
IsHomed w = (r k : ℕ) (c : Command) → slice_get (commands_of w.runs r) k ≡ Some c → is_device w c.device.0 ≡ true

-- what is known before a step
pub record Before (w : Setting) (n : Reading) (m : ℕ) : Type 0 where
  pub shaped : Shaped w n
  pub homed : IsHomed w
  pub moment : nat_le n.moment m ≡ true

abbrev pub Follows : Setting → Reading → Choice → Type 0
Follows w n c = IsTrue (along w (may_follow w) n (made_by c))

is_there : {A : Type 0} (o : Option A) → is_none o ≡ false → is_some o ≡ true
is_there None e = absurd (cc)
is_there (Some x) e = refl

same_cause_self : (c : Cause) → same_cause c c ≡ true
same_cause_self (MustDown c) = grind (arith, common_steps)
same_cause_self (Refuted c x) = grind (arith, common_steps)
same_cause_self (Lost d) = grind (arith, common_steps)
same_cause_self (Revoked l d t m) = grind (arith, common_steps)
same_cause_self (DownAtEnd d) = grind (arith, common_steps)

enters_follows : (w : Setting) (n : Reading) (g : Grips) (r m : ℕ) (s : Split) → nat_le n.moment m ≡ true → Enters (point w n g) r m s → Follows w n (Moves (Placed (run_no r) (length s.front) m ∷ []))
enters_follows w n g r m s moment known = rw (known.run, is_there (n.run r).arrived known.arrived, known.unplaced, moment) refl

aborts_follows : (w : Setting) (n : Reading) (g : Grips) (r : ℕ) (cause : Cause) → Acts (point w n g) r → (n.run r).doomed ≡ Some cause → Follows w n (aborts r cause)
aborts_follows w n g r cause act doomed = rw (act.run, act.live, doomed, same_cause_self cause) refl

undo_follows : (w : Setting) (n : Reading) (g : Grips) (r d : ℕ) (cause : Cause) → Undoing (point w n g) r d cause → Follows w n (Moves (Undid (run_no r) (device_no d) false ∷ []))
undo_follows w n g r d cause known =
    let written = effect_is n g r d known.effect in let not_undone : ((n.run r).on d).undid ≡ false = grind (arith, common_steps, written.1) in
    rw (known.act.run, known.act.live, known.device, known.doomed, written.0, not_undone) refl

-- a live run is one of the window
pub live_run : (w : Setting) (n : Reading) (r : ℕ) → Shaped w n → is_live n r ≡ true → is_run w.runs r ≡ true
live_run w n r shaped live = let placed : is_some (n.run r).placed ≡ true = grind (arith, common_steps) in (shaped r).known ((shaped r).arrived placed)

overdue_follows : (w : Setting) (n : Reading) (g : Grips) (r m : ℕ) (c : Command) (x : ℕ) → Before w n m → Acts (point w n g) r → is_device w c.device.0 ≡ true → overdue_for (point w n g) r c.device.0 m ≡ Some x
    → Follows w n (Moves (Doomed (run_no x) (Revoked (run_no r) c.device (lease_deadline w n x c.device.0) m) ∷ []))
overdue_follows w n g r m c x known act home at =
    let found = each_found (λ y. is_live n y ≡ true) (is_overdue (point w n g) r c.device.0 m) (live_before n r) x (live_runs_live n (before r n.line)) at in
    let run : is_run w.runs x ≡ true = live_run w n x known.shaped found.0 in
    let sound : is_doomed n x ≡ false = (let over = found.1 in grind (arith, common_steps)) in
    rw (run, found.0, sound, act.run, home, known.moment) refl

pub within : (w : Setting) (n : Reading) (r : ℕ) (c : Command) → next_command w n r ≡ Some c → nat_lt (next_of n r) (length (commands_of w.runs r)) ≡ true
within w n r c next = let less : next_of n r < length (commands_of w.runs r) = slice_get_within (commands_of w.runs r) (next_of n r) c next in grind (arith, common_steps, less)

-- the next command by its number
pub command_is : (w : Setting) (n : Reading) (r : ℕ) (c : Command) → next_command w n r ≡ Some c → command_at w.runs r (next_of n r) ≡ c
command_is w n r c next = at (commands_of w.runs r) (next_of n r) next
  where
    at : (cs : List Command) (k : ℕ) → slice_get cs k ≡ Some c → slice_index_or cs k no_command ≡ c
    at [] k e = absurd (cc)
    at (x ∷ cs) zero e = some_is x c e
    at (x ∷ cs) (suc k) e = at cs k e

-- an answer to the next command
pub did_follows : (w : Setting) (n : Reading) (r : ℕ) (c : Command) (a : Answer) → is_run w.runs r ≡ true → is_live n r ≡ true → next_command w n r ≡ Some c → (n.run r).answered_doomed ≡ false → suits w n r c a ≡ true → may_follow w n (Did (run_no r) (next_of n r) a) ≡ true
did_follows w n r c a run live next first suited = rw (run, live, within w n r c next, command_is w n r c next, suited, first) (grind (arith, common_steps))

-- a run that is not doomed has no answer from when it was
not_late : (w : Setting) (n : Reading) (r m : ℕ) → Before w n m → (n.run r).doomed ≡ None → (n.run r).answered_doomed ≡ false
not_late w n r m known sound = late_is (n.run r).answered_doomed ((known.shaped r).answers_late) sound
  where
    late_is : (b : Bool) → (b ≡ true → is_some (n.run r).doomed ≡ true) → (n.run r).doomed ≡ None → b ≡ false
    late_is false if_late none = refl
    late_is true if_late none = absurd (let some = if_late refl in grind (arith, common_steps))

-- the answer Down, and the doom of a command that must not fail
down_follows : (w : Setting) (n : Reading) (g : Grips) (r m : ℕ) (c : Command) → Before w n m → Commanding (point w n g) r c → Follows w n (Moves (down_entries r (next_of n r) c))
down_follows w n g r m c known run = elim c.must as (λ b. IsTrue (along w (may_follow w) n (Did (run_no r) (next_of n r) Down ∷ (if b then Doomed (run_no r) (MustDown (next_of n r)) ∷ [] else [])))) [
  | true ↦ rw answers (rw (run.act.run, did_live w n (run_no r) (next_of n r) Down r, run.act.live, still_sound, within w n r c run.next) refl)
  | false ↦ rw answers refl
]
  where
    answers : may_follow w n (Did (run_no r) (next_of n r) Down) ≡ true
    answers = did_follows w n r c Down run.act.run run.act.live run.next (not_late w n r m known run.sound) run.guard

    still_sound : is_doomed (entry w n (Did (run_no r) (next_of n r) Down)) r ≡ false
    still_sound = put_keeps (λ o. is_some o.doomed) n.run r _ refl r ∙ ap is_some run.sound

-- a command is skipped
skip_follows : (w : Setting) (n : Reading) (g : Grips) (r m : ℕ) (c : Command) → Before w n m → Skipping (point w n g) r c → Follows w n (Moves (skip_entries r (next_of n r)))
skip_follows w n g r m c known skip =
    rw (did_follows w n r c Skipped skip.act.run skip.act.live skip.next (not_late w n r m known skip.sound) (λ i. not (skip.guard i) && not (is_some (skip.sound i)))) refl

past_end : (cs : List Command) (k : ℕ) → slice_get cs k ≡ None → length cs ≤ k
past_end [] k e = omega arith
past_end (c ∷ cs) zero e = absurd (cc)
past_end (c ∷ cs) (suc k) e = omega (arith, past_end cs k e)

commits_follows : (w : Setting) (n : Reading) (g : Grips) (r m : ℕ) → Before w n m → Answered (point w n g) r → Follows w n (Over Committed (Ended (run_no r) Committed ∷ []))
commits_follows w n g r m known all = rw (all.act.run, all.act.live, all.sound) all_answered
  where
    all_answered : ((next_of n r == length (commands_of w.runs r)) && true) ≡ true
    all_answered =
        let past : length (commands_of w.runs r) ≤ next_of n r = past_end (commands_of w.runs r) (next_of n r) all.none in
        let least : next_of n r ≤ length (commands_of w.runs r) = (known.shaped r).fits in
        let same : next_of n r ≡ length (commands_of w.runs r) = omega (arith, past, least) in
        grind (arith, common_steps, same)

ends_down_follows : (w : Setting) (n : Reading) (g : Grips) (r d : ℕ) → Answered (point w n g) r → down_at_end (point w n g) r ≡ Some d → Follows w n (Moves (Doomed (run_no r) (DownAtEnd (device_no d)) ∷ []))
ends_down_follows w n g r d all at = rw (all.act.run, all.act.live, all.sound, by_strict (is_strict w.mode) at) refl
  where
    by_strict : (b : Bool) → (if b then find (λ e. has_touched n g r e && not (n.up e)) (devices_of w r) else None) ≡ Some d → is_device w d ≡ true
    by_strict true e = (each_found (λ x. (is_device w x ≡ true) × (touches w.runs r x ≡ true)) (λ x. has_touched n g r x && not (n.up x)) (devices_of w r) d (own_devices w r) e).0.0
    by_strict false e = absurd (cc)

-- the step of a run makes entries that may follow
pub take_follows : (w : Setting) (n : Reading) (g : Grips) (r m : ℕ) → Before w n m → Follows w n (decide (point w n g) r m)
take_follows w n g r m known =
    decide_is (Follows w n) w n g r m (record {
      absent = λ none. refl;
      over = λ e at. refl;
      waits = λ why. refl;
      arrives = λ run none. rw (run, none, known.moment) refl;
      enters = λ s enters. enters_follows w n g r m s known.moment enters;
      aborted = λ cause act doomed over. aborts_follows w n g r cause act doomed;
      drops = λ cause d undoing down. undo_follows w n g r d cause undoing;
      undoes = λ cause d undoing up. refl;
      revokes = λ c x run strong at. overdue_follows w n g r m c x known run.act (known.homed r (next_of n r) c run.next) at;
      skips = λ c skip. skip_follows w n g r m c known skip;
      downs = λ c run next home down. down_follows w n g r m c known run;
      goes = λ c run next home up. refl;
      fails_at_end = λ d all at. ends_down_follows w n g r d all at;
      commits = λ all up. commits_follows w n g r m known all;
    })
