-- Which items of the line stand before a run that the timeline places.
use Rattle.command_rules.specs.Apart.{meet}
use Rattle.command_rules.specs.ClosedSets.{chosen, grown, rearranged}
use Rattle.command_rules.specs.Items.{of_run}
use Rattle.command_rules.specs.Rosters.{follows, touches}
use Rattle.history_book.specs.Lines.{Split, split_at}
use Rattle.history_book.specs.Plans.{planned_end, planned_start, planned_times}
use Rattle.history_book.specs.Readings.{Planned, Reading, did, is_committed, is_live, is_next_on, passed_by}
use Rattle.history_book.specs.Settings.{Setting, devices_of, scheduler_of}
use Rattle.home_types.specs.Numbers.{LinePlace, Moment, RunId}
use Rattle.home_types.specs.declared.items.Item.{Item}
use Rattle.home_types.specs.declared.items.Item.TheVariants.{Back, Failed, Ran}
use Rattle.home_types.specs.declared.modes.Scheduler.{Scheduler}
use Rattle.home_types.specs.declared.modes.Scheduler.TheVariants.{Fcfs, JustInTime, Timeline}
use Rattle.std.specs.List.{list_any}
use Rattle.std.specs.Prelude.{Bool, List, [], if◌then◌else◌, map, nat_lt, not, take, true, ◌&&◌, ◌||◌, ◌∷◌}

-- The base

-- every item up to the first one of which the first test holds, and from there on those of which
-- the second one does
abbrev pub base_flags : (Item → Bool) → (Item → Bool) → List Item → List Bool
base_flags live needed [] = []
base_flags live needed (i ∷ is) =
    if live i then map needed (i ∷ is) else true ∷ base_flags live needed is

-- the item must stand before the run: it has an access on one of its devices, or its next command
-- is on one, or it is the committed run that it follows
abbrev pub is_needed : Setting → Reading → RunId → Item → Bool
is_needed w n r (Ran x) =
    list_any (λ d. did n x.0 d || (is_live n x.0 && is_next_on w n x.0 d)) (devices_of w r)
    || (follows w.runs r x.0 && is_committed n x.0)
is_needed w n r (Failed d k) = touches w.runs r d.0
is_needed w n r (Back d k) = touches w.runs r d.0

-- .. and each item before the first live run
abbrev pub base_of : Setting → Reading → RunId → List Bool
base_of w n r = base_flags (of_run (is_live n)) (is_needed w n r) n.line

-- What does not fit

-- the item is a live run that is planned to start on a device before the run, planned so, is off it
abbrev pub is_overlapped : Setting → Reading → RunId → List Planned → Item → Bool
is_overlapped w n r planned i =
    of_run (λ x. is_live n x && list_any (λ d. touches w.runs x d && not (passed_by w n x d)
    && nat_lt (planned_start (n.run x).planned d) (planned_end planned d)) (devices_of w r)) i

-- .. planned at this moment behind the items of this set
abbrev pub bars : Setting → Reading → RunId → Moment → List Bool → Item → Bool
bars w n r m set = is_overlapped w n r (planned_times w n r (chosen set n.line) m)

-- The least closed set that holds the base and fits

unfoldable pub gap_set : Setting → Reading → RunId → Moment → List Bool
gap_set w n r m = grown (meet w.runs) (base_of w n r) (bars w n r m) n.line

-- the line as it stands when a run is placed at this moment: under the timeline with that set in
-- front
abbrev pub line_for : Setting → Reading → RunId → Moment → List Item
line_for w n r m = by_scheduler (scheduler_of w.mode)
  where
    by_scheduler : Scheduler → List Item
    by_scheduler Fcfs = n.line
    by_scheduler JustInTime = n.line
    by_scheduler Timeline = rearranged (gap_set w n r m) n.line

-- the items behind which the run is planned: those before its place, under the timeline those of
-- the set
abbrev pub front_for : Setting → Reading → RunId → LinePlace → Moment → List Item
front_for w n r at m = by_scheduler (scheduler_of w.mode)
  where
    by_scheduler : Scheduler → List Item
    by_scheduler Fcfs = take at n.line
    by_scheduler JustInTime = take at n.line
    by_scheduler Timeline = chosen (gap_set w n r m) n.line

-- where a run stands that was placed at this place and moment
unfoldable pub split_of : Setting → Reading → RunId → LinePlace → Moment → Split
split_of w n r at m = split_at (line_for w n r m) at
