-- Where the code places a run is where the scheduler does.
use Rattle.command_rules.specs.ClosedSets.{chosen}
use Rattle.hub_core.proofs.Prelude.{At, Configuration, IsEarliestSet, IsFittingSet, IsTrue, IsTurn, Item, List, MayOpen, Moves, None, OpenHub, Option, Placed, Placing, PlansEarliest, Reading, RunNo, SameWindow, Setting, Some, Split, Timeline, [], ap, arith, choice_of, common_steps, configuration_of, followed_by, front_for, gap_is_earliest, gap_least, gap_set, is_run, length, max, most_items, nat_lt, none_is, place_choice, planned_times, point_of, read_of, refl, run_no, scheduled_place, scheduler_of, split_at, subst, sym, take, timeline, true, ℕ, ◌&&◌, ◌<◌, ◌∙◌, ◌∷◌, ◌≡◌, ◌≤◌}
use Rattle.hub_core.proofs.kept.Sizes.{run_there, run_within}
use Rattle.hub_core.proofs.steps.Choices.{known_by}
use Rattle.hub_core.specs.PlannedPlaces.{HasSameRoom, HoldsGap, IsForHome}
use Rattle.hub_core.specs.declared.turns.Turn.TheVariants.{Absent, Go, Moved, Over, Wait}
use Rattle.hub_core.specs.declared.turns.Turn.{Turn}
use Rattle.std.specs.Option.{IfSome}
use Rattle.timeline_scheduler.specs.Scratches.{HoldsTimes, ScratchRoom}

-- the run that a run of the window follows is one of the window
pub leader_runs : (w : Setting) (rounds opened r : ℕ) → MayOpen w rounds opened → is_run w.runs r ≡ true → IfSome (followed_by w.runs r) (λ f. IsTrue (is_run w.runs f.0))
leader_runs w rounds opened r opens run = by_leader (followed_by w.runs r) (λ f is. there f (opens.follows r f is))
  where
    there : (f : RunNo) → IsTrue (nat_lt 0 f.0 && nat_lt f.0 r) → IsTrue (is_run w.runs f.0)
    there f names =
        let low : 0 < f.0 = grind (arith, common_steps) in
        let less : f.0 < r = grind (arith, common_steps) in
        let within = run_within w.runs r run in
        run_there w.runs f.0 low (omega (arith, less, within.1))

    by_leader : (o : Option RunNo) → ((f : RunNo) → o ≡ Some f → IsTrue (is_run w.runs f.0)) → IfSome o (λ f. IsTrue (is_run w.runs f.0))
    by_leader None runs = tt
    by_leader (Some f) runs = runs f (λ i. Some f)

-- the run is placed between the two parts of a line
pub placed_between : (r m at : ℕ) (x : Split) (place : Placing) → length x.front ≡ at → At x ≡ place → Moves (Placed (run_no r) at m ∷ []) ≡ place_choice r m place
placed_between r m at x place size is = ap (λ k. Moves (Placed (run_no r) k m ∷ [])) (sym size) ∙ ap (place_choice r m) is

-- .. behind so many items of the line
pub placed_so : (line : List Item) (r m at : ℕ) (place : Placing) → at ≤ length line → At (split_at line at) ≡ place → Moves (Placed (run_no r) at m ∷ []) ≡ place_choice r m place
placed_so line r m at place within is = placed_between r m at (split_at line at) place size is
  where
    size : length (take at line) ≡ at
    size = grind (arith, common_steps)

-- by the timeline
pub timed_place : (s : Configuration) (r m : ℕ) → scheduler_of s.setting.mode ≡ Timeline → scheduled_place (point_of s) r m ≡ timeline s.setting (read_of s) r m
timed_place s r m timed = rw timed refl

-- .. the run is planned behind the items of its set
pub timed_front : (w : Setting) (n : Reading) (r at m : ℕ) → scheduler_of w.mode ≡ Timeline → front_for w n r at m ≡ chosen (gap_set w n r m) n.line
timed_front w n r at m timed = rw timed refl

-- what the scratch holds then
pub holds_gap : (room : ScratchRoom) (s : Configuration) (r m at : ℕ) → scheduler_of s.setting.mode ≡ Timeline → room.before ≡ gap_set s.setting (read_of s) r m
    → HoldsTimes room.slots (planned_times s.setting (read_of s) r (chosen (gap_set s.setting (read_of s) r m) (read_of s).line) m) → HoldsGap room s r m at
holds_gap room s r m at timed set times = record {
  set = set;
  times = subst (λ front. HoldsTimes room.slots (planned_times s.setting (read_of s) r front m)) (sym (timed_front s.setting (read_of s) r at m timed)) times;
}

-- Steps that place a run

-- a run that the step places has no place yet
pub joins_unplaced : (s : Configuration) (r at m : ℕ) → choice_of s r m ≡ Moves (Placed (run_no r) at (max s.moment m) ∷ []) → ((read_of s).run r).placed ≡ None
joins_unplaced s r at m is =
    let known = known_by s r m (Moves (Placed (run_no r) at (max s.moment m) ∷ [])) is in none_is ((read_of s).run r).placed known.1.unplaced

-- .. by the timeline stands behind a set that fits, and no other one that does plans an earlier end
joins_earliest : (s : Configuration) (r m : ℕ) → IsFittingSet s.setting (read_of s) r m (gap_set s.setting (read_of s) r m) × IsEarliestSet s.setting (read_of s) r m (gap_set s.setting (read_of s) r m)
joins_earliest s r m = ((gap_least s.setting (read_of s) r m).fitting, gap_is_earliest s.setting (read_of s) r m)

-- .. as the hub tells it
pub turn_earliest : {D : Type 0} (s t : OpenHub D) (r m : ℕ) (turn : Turn D) → IsTurn s r m turn t → PlansEarliest (configuration_of s) r turn
turn_earliest s t r m (Go grip) is = tt
turn_earliest s t r m (Moved made) is = λ timed at now placed. joins_earliest (configuration_of s) r now
turn_earliest s t r m (Wait why) is = tt
turn_earliest s t r m (Over end made) is = tt
turn_earliest s t r m Absent is = tt

-- The scratch of a hub

-- it is for the home still, where it has as much room as before
pub still_for : {D : Type 0} (s t : OpenHub D) (before after : ScratchRoom) → HasSameRoom before after → SameWindow s t → IsForHome s.setting s.rounds before → IsForHome t.setting t.rounds after
still_for s t before after same window fits = record {
  devices = same.devices ∙ fits.devices ∙ sym (ap (λ (w : Setting). length w.first) window.setting);
  items =
      subst (λ (w : Setting). most_items (length w.runs) (length w.first) t.rounds ≤ after.items) (sym window.setting)
      (subst (λ k. most_items (length s.setting.runs) (length s.setting.first) k ≤ after.items) (sym window.rounds)
      (subst (λ k. most_items (length s.setting.runs) (length s.setting.first) s.rounds ≤ k) (sym same.items) fits.items));
}

-- .. and where it is left as it is
pub kept_for : {D : Type 0} (s t : OpenHub D) (room : ScratchRoom) → SameWindow s t → IsForHome s.setting s.rounds room → IsForHome t.setting t.rounds room
kept_for s t room window fits = still_for s t room room (record { devices = refl; items = refl }) window fits
