-- What is kept of what lies under the lock, after each step of the hub.
use Rattle.hub_threads.proofs.Prelude.{Absent, Configuration, DeskName, DeskState, Done, Entry, Go, Gripped, HasPlan, IsGiven, IsProbeGiven, IsProbed, IsTurn, IsWithin, Lent, List, Moved, NamedWindow, None, Ok, OpenHub, Over, Ready, SameWindow, Shown, SleepersAreBlocked, Some, Turn, Wait, Waits, ap, configuration_of, has_run, is_idle, length, out_after, sleepers_later, slice_set, subst, sym, true, turn_entries, ℕ, ◌+◌, ◌∙◌, ◌≡◌}
use Rattle.hub_core.specs.Steps.{Absent as IsAbsent}
use Rattle.hub_threads.proofs.Added.{Adds, given_adds, more_entries, probe_given_adds, probed_adds, some_slip, took, turn_adds}
use Rattle.hub_threads.proofs.Named.{given_named, probe_given_named, probed_named, turn_named}
use Rattle.hub_threads.proofs.Passes.{given_out, probe_given_out, probe_out, turn_out}
use Rattle.hub_threads.specs.Holding.{IsHeld}

-- told is kept, where what the step told is added
counted_more : {D : Type 0} (s t : OpenHub D) (maker moment told now : ℕ) (entries : List Entry) → told ≡ length s.history → now ≡ told + length entries → Adds s maker entries moment t → now ≡ length t.history
counted_more s t maker moment told now entries counted is adds = is ∙ ap (λ n. n + length entries) counted ∙ sym (more_entries s.history maker entries) ∙ sym (ap length adds.history)

-- a step of a run
pub turn_held : {D : Type 0} (shows : D → Shown) (window : NamedWindow) (name : DeskName) (s t : OpenHub D) (r m : ℕ) (turn : Turn D) (told now asleep left : ℕ) (desk desk_now : DeskState Lent)
    → IsHeld shows window name s told asleep desk → IsTurn s r m turn t → SameWindow s t → IsWithin window m → now ≡ told + turn_entries turn
    → SleepersAreBlocked (configuration_of t) left → desk_now.name ≡ desk.name → desk_now.out ≡ out_after desk.out turn
    → IsHeld shows window name t now left desk_now
turn_held shows window name s t r m turn told now asleep left desk desk_now held is same early more are named goes = record {
  counted = counted_more s t r _ told now _ held.counted more (turn_adds s t r m turn is);
  named = turn_named shows window s t r m turn held.named is same early;
  sleepers = are;
  desk_is = named ∙ held.desk_is;
  out = goes ∙ ap (λ o. out_after o turn) held.out ∙ sym (turn_out s t r m turn is);
}

-- .. that does nothing wakes nobody
pub idle_sleepers : {D : Type 0} (s t : OpenHub D) (r m : ℕ) (turn : Turn D) (asleep : ℕ) → IsTurn s r m turn t → is_idle turn ≡ true → SleepersAreBlocked (configuration_of s) asleep → SleepersAreBlocked (configuration_of t) asleep
idle_sleepers s t r m (Go grip) asleep is idle are = absurd (cc)
idle_sleepers s t r m (Moved made) asleep is idle are = absurd (cc)
idle_sleepers s t r m (Wait why) asleep is idle are = subst (λ (x : Configuration). SleepersAreBlocked x asleep) (sym (took s t r m some_slip (Waits why) (is.0.step some_slip))) (sleepers_later (configuration_of s) m (has_run asleep) are)
idle_sleepers s t r m (Over end made) asleep is idle are = absurd (cc)
idle_sleepers s t r m Absent asleep is idle are = subst (λ (x : Configuration). SleepersAreBlocked x asleep) (sym (took s t r m some_slip IsAbsent (is.0.step some_slip))) (sleepers_later (configuration_of s) m (has_run asleep) are)

-- a grip that comes back
pub given_held : {D : Type 0} (shows : D → Shown) (window : NamedWindow) (name : DeskName) (s t : OpenHub D) (grip : Gripped D Done) (m : ℕ) (made : List Entry) (told now asleep left : ℕ) (desk desk_now : DeskState Lent)
    → IsHeld shows window name s told asleep desk → IsGiven s grip m (Ok made) t → SameWindow s t → HasPlan shows window.plans grip → IsWithin window m
    → now ≡ told + length made → SleepersAreBlocked (configuration_of t) left → desk_now.name ≡ desk.name
    → desk_now.out ≡ slice_set desk.out grip.slip.device.0 None → IsHeld shows window name t now left desk_now
given_held shows window name s t grip m made told now asleep left desk desk_now held is same own early more are named comes = record {
  counted = counted_more s t grip.slip.maker _ told now _ held.counted more (given_adds s t grip m made is);
  named = given_named shows window s t grip m made held.named is same own early;
  sleepers = are;
  desk_is = named ∙ held.desk_is;
  out = comes ∙ ap (λ o. slice_set o grip.slip.device.0 None) held.out ∙ sym (given_out s t grip m made is);
}

-- a probe that goes out
pub probed_held : {D : Type 0} (shows : D → Shown) (window : NamedWindow) (name : DeskName) (s t : OpenHub D) (d : ℕ) (grip : Gripped D Ready) (told asleep left : ℕ) (desk desk_now : DeskState Lent)
    → IsHeld shows window name s told asleep desk → IsProbed s d (Some grip) t → SameWindow s t → SleepersAreBlocked (configuration_of t) left → desk_now.name
    ≡ desk.name → desk_now.out ≡ slice_set desk.out grip.slip.device.0 (Some (grip.slip, grip.task)) → IsHeld shows window name t told left desk_now
probed_held shows window name s t d grip told asleep left desk desk_now held is same are named goes = record {
  counted = held.counted ∙ sym (ap length (probed_adds s t d (Some grip) is).0);
  named = probed_named shows window s t d (Some grip) held.named is same;
  sleepers = are;
  desk_is = named ∙ held.desk_is;
  out = goes ∙ ap (λ o. slice_set o grip.slip.device.0 (Some (grip.slip, grip.task))) held.out ∙ sym (probe_out s t d grip is);
}

-- the detector's grip that comes back
pub probe_given_held : {D : Type 0} (shows : D → Shown) (window : NamedWindow) (name : DeskName) (s t : OpenHub D) (grip : Gripped D Done) (made : List Entry) (told now asleep left : ℕ) (desk desk_now : DeskState Lent)
    → IsHeld shows window name s told asleep desk → IsProbeGiven s grip (Ok made) t → SameWindow s t → HasPlan shows window.plans grip
    → now ≡ told + length made → SleepersAreBlocked (configuration_of t) left → desk_now.name ≡ desk.name
    → desk_now.out ≡ slice_set desk.out grip.slip.device.0 None → IsHeld shows window name t now left desk_now
probe_given_held shows window name s t grip made told now asleep left desk desk_now held is same own more are named comes = record {
  counted = counted_more s t 0 _ told now _ held.counted more (probe_given_adds s t grip made is);
  named = probe_given_named shows window s t grip made held.named is same own;
  sleepers = are;
  desk_is = named ∙ held.desk_is;
  out = comes ∙ ap (λ o. slice_set o grip.slip.device.0 None) held.out ∙ sym (probe_given_out s t grip made is);
}
