-- A run that is known to wait need not be picked: its pick would wait, and leave the play as it is.
use Rattle.run_replay.proofs.Prelude.{ArePicked, Configuration, Grips, IsPicked, List, None, Option, Over, PlayerState, Reading, Setting, Some, Waits, Why, [], after_choice, after_take, ap, at_moment, choice_of, configuration_of, decide, false, get_or, is_run, length, play_of, point, read_of, refl, slice_get, subst, sym, take, true, wait_is, ℕ, ◌+◌, ◌<◌, ◌∙◌, ◌≡◌}
use Rattle.history_book.specs.declared.entries.End.{End}
use Rattle.hub_core.specs.BlockedRuns.{IsBlocked, is_wait}
use Rattle.run_replay.proofs.Picking.{IsGoing, at_own_moment, going_not_ended, stepped_is_picked, taken_is_stepped}
use Rattle.run_replay.proofs.Played.{played_next}
use Rattle.run_replay.proofs.Trying.{HaveWaited, one_more_waits}
use Rattle.run_replay.specs.declared.picked.Picked.TheVariants.{Waits as Waited}

-- a run that waits has not ended
waiting_goes : (w : Setting) (n : Reading) (g : Grips) (r m : ℕ) (o : Option End) → (n.run r).ended ≡ o → is_run w.runs r ≡ true → is_wait (decide (point w n g) r m) ≡ true → o ≡ None
waiting_goes w n g r m None at run wait = refl
waiting_goes w n g r m (Some e) at run wait = absurd (
    let over : decide (point w n g) r m ≡ Over e [] = rw (run, at) refl in
    let no : false ≡ true = sym (ap is_wait over) ∙ wait in cc)

blocked_goes : (s : Configuration) (r : ℕ) → IsBlocked s r → IsGoing s r
blocked_goes s r blocked = (blocked.run, waiting_goes s.setting (read_of s) s.grips r _ ((read_of s).run r).ended refl blocked.run (blocked.waits s.moment))

-- a take of a blocked run leaves the configuration as it is
blocked_stays : (s : Configuration) (r : ℕ) (why : Why) → choice_of s r s.moment ≡ Waits why → after_take s r s.moment ≡ s
blocked_stays s r why waits = ap (after_choice (at_moment s s.moment) r) waits ∙ at_own_moment s

-- a blocked run that is picked waits, and the play is the same after it
pub blocked_is_picked : {D : Type 0} (s : PlayerState D) (r : ℕ) → IsBlocked (configuration_of s.hub) r → (why : Why) × ((acts : ℕ) → IsPicked s.rounds r (play_of s acts) (Waited why) (play_of s acts))
blocked_is_picked s r blocked =
    let waits = wait_is (choice_of (configuration_of s.hub) r s.hub.moment) (blocked.waits s.hub.moment) in (
      waits.0,
      λ acts. stepped_is_picked s.rounds r (play_of s acts) (play_of s acts) (Waited waits.0) (λ course same. going_not_ended course (play_of s acts) r (blocked_goes (configuration_of s.hub) r blocked))
          (taken_is_stepped s s s.rounds r acts (Waits waits.0) (blocked_goes (configuration_of s.hub) r blocked) blocked.free (sym waits.1) (sym (blocked_stays (configuration_of s.hub) r waits.0 waits.1)) refl refl),
    )

-- .. of the player as callers see it
pub blocked_now : {D : Type 0} (now s : PlayerState D) (r : ℕ) → s ≡ now → IsBlocked (configuration_of s.hub) r → IsBlocked (configuration_of now.hub) r
blocked_now {D = D} now s r same = subst (λ (x : PlayerState D). IsBlocked (configuration_of x.hub) r) same

-- one more of those that wait was passed over
pub one_more_passed : {D : Type 0} (old now : PlayerState D) (all : List ℕ) (step a after : ℕ) → HaveWaited old now all step → slice_get all step ≡ Some a → IsBlocked (configuration_of now.hub) a → after ≡ step + 1 → HaveWaited old now all after
one_more_passed old now all step a after before at blocked is =
    let picked = blocked_is_picked now a blocked in
    one_more_waits old now now all step after a (Waited picked.0) before before.stands refl refl at (λ acts. (acts, picked.1 acts)) refl is

-- one pick more of the list was passed over
pub passed_next : {D : Type 0} (start s : PlayerState D) (rounds i d : ℕ) (picks : List ℕ) → i < length picks → s.rounds ≡ rounds → IsBlocked (configuration_of s.hub) (get_or picks i d)
    → ((acts : ℕ) → (later : ℕ) × ArePicked rounds (take i picks) (play_of start acts) (play_of s later)) → (acts : ℕ) → (later : ℕ) × ArePicked rounds (take (i + 1) picks) (play_of start acts) (play_of s later)
passed_next start s rounds i d picks low same blocked before =
    let picked = blocked_is_picked s (get_or picks i d) blocked in
    played_next start s s rounds i d picks (Waited picked.0) low same before (λ acts. (acts, picked.1 acts))
