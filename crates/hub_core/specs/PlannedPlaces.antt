-- What a placing leaves in the scratch of a hub, and what the hub keeps of it.
use Rattle.blocked_runs.specs.Marks.{BlockedState}
use Rattle.history_book.specs.Gaps.{front_for, gap_set}
use Rattle.history_book.specs.Plans.{planned_times}
use Rattle.history_book.specs.Settings.{Setting, scheduler_of}
use Rattle.home_types.specs.Numbers.{LinePlace, Moment, RunId}
use Rattle.home_types.specs.declared.modes.Scheduler.TheVariants.{Timeline}
use Rattle.hub_core.specs.BlockedMarks.{AreBlocked}
use Rattle.hub_core.specs.Bounds.{most_items}
use Rattle.hub_core.specs.declared.decisions.Chosen.TheVariants.{Aborts, Absent, AnswersDown, Arrives, Commits, Drops, FailsAtEnd, HandsOut, Joins, Over, Revokes, Skips, Waits}
use Rattle.hub_core.specs.declared.decisions.Chosen.{Chosen}
use Rattle.lock_leasing.specs.Configurations.{Configuration, read_of}
use Rattle.std.specs.Prelude.{None, length, ℕ, ⊤, ◌≡◌, ◌≤◌}
use Rattle.timeline_scheduler.specs.Scratches.{HoldsTimes, ScratchRoom}

-- the scratch is one for the devices of the home, and for the items that the line of a window with
-- so many rounds of probes may have
pub record IsForHome (w : Setting) (rounds : ℕ) (room : ScratchRoom) : Type 0 where
  pub devices : length room.slots ≡ length w.first
  pub items : most_items (length w.runs) (length w.first) rounds ≤ room.items

-- the scratch has room for as much as before
pub record HasSameRoom (before after : ScratchRoom) : Type 0 where
  pub devices : length after.slots ≡ length before.slots
  pub items : after.items ≡ before.items

-- the scratch holds the set of items that stand before the run at this moment, and its times at
-- this place
pub record HoldsGap (room : ScratchRoom) (s : Configuration) (r : RunId) (m : Moment)
    (at : LinePlace) : Type 0 where
  pub set : room.before ≡ gap_set s.setting (read_of s) r m
  pub times : HoldsTimes room.slots
      (planned_times s.setting (read_of s) r (front_for s.setting (read_of s) r at m) m)

-- .. where runs are placed by the timeline
abbrev pub HoldsPlan : ScratchRoom → Configuration → RunId → Moment → LinePlace → Type 0
HoldsPlan room s r m at = scheduler_of s.setting.mode ≡ Timeline → HoldsGap room s r m at

-- .. where the run, which has no place yet, is to be placed
abbrev pub HoldsChosen : ScratchRoom → Configuration → RunId → Moment → Chosen → Type 0
HoldsChosen room s r m chosen = ((read_of s).run r).placed ≡ None → by_chosen chosen
  where
    by_chosen : Chosen → Type 0
    by_chosen Absent = ⊤
    by_chosen (Over end) = ⊤
    by_chosen Arrives = ⊤
    by_chosen (Joins at) = HoldsPlan room s r m at
    by_chosen Commits = ⊤
    by_chosen (Aborts cause) = ⊤
    by_chosen (Drops d) = ⊤
    by_chosen (Revokes x d deadline) = ⊤
    by_chosen (AnswersDown k must) = ⊤
    by_chosen (Skips k) = ⊤
    by_chosen (FailsAtEnd d) = ⊤
    by_chosen (Waits why) = ⊤
    by_chosen (HandsOut d purpose) = ⊤

-- what is kept of a hub besides its window, with so many rounds of probes: each run that is marked
-- is blocked, and the scratch is for the home and the line
pub record PartsFit (s : Configuration) (rounds : ℕ) (blocked : BlockedState)
    (room : ScratchRoom) : Type 0 where
  pub marks : AreBlocked s blocked
  pub scratch : IsForHome s.setting rounds room
