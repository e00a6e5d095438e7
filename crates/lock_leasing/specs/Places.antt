-- Where the schedulers place a run.
use Rattle.command_rules.specs.Items.{of_run}
use Rattle.command_rules.specs.Rosters.{follows, reads_first, touches}
use Rattle.history_book.specs.Lines.{Split, split_at}
use Rattle.command_rules.specs.Apart.{meet}
use Rattle.command_rules.specs.ClosedSets.{IsFitting, chosen, others}
use Rattle.history_book.specs.Gaps.{bars, base_of, gap_set, split_of}
pub use Rattle.history_book.specs.Lines.{up_to_first}
use Rattle.history_book.specs.Plans.{planned_times}
use Rattle.history_book.specs.Readings.{Planned, Reading, asks_on, has_written, is_committed, is_doomed, is_live, next_of, nothing_read}
use Rattle.history_book.specs.Settings.{Setting, devices_of, is_device, scheduler_of}
use Rattle.history_book.specs.WellFormed.{Along}
use Rattle.history_book.specs.declared.entries.Entry.{Entry}
use Rattle.history_book.specs.declared.entries.Entry.TheVariants.{Placed}
use Rattle.home_types.specs.Numbers.{ActorId, CommandIndex, DeviceId, LinePlace, Moment, RunId}
use Rattle.home_types.specs.declared.items.Item.{Item}
use Rattle.home_types.specs.declared.items.Item.TheVariants.{Back, Failed, Ran}
use Rattle.home_types.specs.declared.modes.Scheduler.{Scheduler}
use Rattle.home_types.specs.declared.modes.Scheduler.TheVariants.{Fcfs, JustInTime, Timeline}
use Rattle.lock_leasing.specs.Configurations.{Grips, Point, is_out, point}
use Rattle.lock_leasing.specs.declared.purposes.Purpose.TheVariants.{Commands, Probes, Undoes}
use Rattle.lock_leasing.specs.declared.purposes.Purpose.{Purpose}
use Rattle.lock_leasing.specs.Words.{effective_writer_of, has_touched, holds_device, live_runs}
use Rattle.std.specs.List.{list_any}
use Rattle.std.specs.Option.{option_or}
use Rattle.std.specs.Prelude.{Bool, IsTrue, List, None, Option, Some, [], drop, false, find, fold, if◌then◌else◌, length, max, nat_le, not, option_map, suc, take, true, unwrap_or, ℕ, ⊤, ◌&&◌, ◌+◌, ◌==◌, ◌||◌, ◌∷◌, ◌≡◌, ◌≤◌}

-- the number of items up to and with the last one of which the test holds
abbrev pub up_to_last : (Item → Bool) → List Item → LinePlace
up_to_last test [] = 0
up_to_last test (i ∷ is) = if list_any test (i ∷ is) then up_to_last test is + 1 else 0

-- the item must stand before the new run: it has touched one of its devices, or is the committed
-- run that it follows
abbrev pub binds : Point → RunId → Item → Bool
binds p r (Ran x) =
    list_any (has_touched p.reading p.grips x.0) (devices_of p.setting r)
    || (follows p.setting.runs r x.0 && is_committed p.reading x.0)
binds p r (Failed d k) = touches p.setting.runs r d.0
binds p r (Back d k) = touches p.setting.runs r d.0

-- the first place: right behind the floor, which is the last item that binds, or the last one
-- before the first live run
abbrev pub first_place : Point → RunId → LinePlace
first_place p r =
    max (up_to_last (binds p r) p.reading.line)
    (up_to_first (of_run (is_live p.reading)) p.reading.line)

-- the reading with its line in this order
abbrev pub in_order : Reading → List Item → Reading
in_order n line = record n { line = line }

-- no item behind the place must stand before the run
abbrev pub IsClear : Point → RunId → LinePlace → Type 0
IsClear p r at = list_any (binds p r) (drop at p.reading.line) ≡ false

-- what a scheduler answers: where the run stands, or by which run a device is denied to it
pub data Placing : Type 0 where
  At : Split → Placing
  DeniedBy : DeviceId → RunId → Placing

abbrev pub at_end : Reading → Placing
at_end n = At (split_at n.line (length n.line))

-- Just-in-time

-- the run by which the device is denied: the first live one up to the floor that holds it, else,
-- where r first reads it, the live one with the effective write
abbrev pub denied_by : Point → RunId → DeviceId → Option RunId
denied_by p r d =
    option_or
    (find (λ x. holds_device p x d) (live_runs p.reading (take (first_place p r) p.reading.line)))
    (if reads_first p.setting.runs r d then live_writer (effective_writer_of p.reading p.grips d)
    else None)
  where
    live_writer : Option RunId → Option RunId
    live_writer None = None
    live_writer (Some x) = if is_live p.reading x then Some x else None

pub record Denial : Type 0 where
  pub device : DeviceId
  pub run : RunId

abbrev pub first_some : {A B : Type 0} → (A → Option B) → List A → Option B
first_some f [] = None
first_some f (x ∷ xs) = option_or (f x) (first_some f xs)

-- the first denial, by ascending device
abbrev pub denial_of : Point → RunId → Option Denial
denial_of p r =
    first_some (λ d. option_map (λ x. record { device = d; run = x }) (denied_by p r d))
    (devices_of p.setting r)

-- how long a run that is denied waits for a better place than the end, in ms
abbrev pub patience : ℕ
patience = 10000

-- the first place, where nothing is denied; else the end, where the run has waited long enough
abbrev pub just_in_time : Point → RunId → Moment → Placing
just_in_time p r m = admit (denial_of p r)
  where
    admit : Option Denial → Placing
    admit None = At (split_at p.reading.line (first_place p r))
    admit (Some x) =
        if nat_le (unwrap_or (p.reading.run r).arrived 0 + patience) m then at_end p.reading
        else DeniedBy x.device x.run

-- Timeline

-- where the set of the timeline ends: its items stand before the run, in their order, the others
-- behind it
abbrev pub timeline : Setting → Reading → RunId → Moment → Placing
timeline w n r m =
    At (record { front = chosen (gap_set w n r m) n.line; back = others (gap_set w n r m) n.line })

-- when a run that is planned so is done: the largest planned end of its commands, 0 where it has
-- none
abbrev pub plan_end : List Planned → Moment
plan_end planned = fold (λ t p. max t p.to) 0 planned

-- a closed set that holds the base, and outside of which each live run is planned to start on each
-- device when the run, planned with this set, is off it
abbrev pub IsFittingSet : Setting → Reading → RunId → Moment → List Bool → Type 0
IsFittingSet w n r m set = IsFitting (meet w.runs) (base_of w n r) (bars w n r m) n.line set

-- no such set plans an earlier end of the run than this one
abbrev pub IsEarliestSet : Setting → Reading → RunId → Moment → List Bool → Type 0
IsEarliestSet w n r m set =
    (other : List Bool) → IsFittingSet w n r m other
    → plan_end (planned_times w n r (chosen set n.line) m)
    ≤ plan_end (planned_times w n r (chosen other n.line) m)

-- where the scheduler places the run at this moment
abbrev pub scheduled_place : Point → RunId → Moment → Placing
scheduled_place p r m = by_scheduler (scheduler_of p.setting.mode)
  where
    by_scheduler : Scheduler → Placing
    by_scheduler Fcfs = at_end p.reading
    by_scheduler JustInTime = just_in_time p r m
    by_scheduler Timeline = timeline p.setting p.reading r m

-- Scheduled places of a history

-- a live run may have out nothing, its next command where the guard holds, or, where it is doomed,
-- the undo of a write
pub record MayBeOut (p : Point) : Type 0 where
  pub commands : (d : DeviceId) (r : RunId) (k : CommandIndex) → p.grips d
      ≡ Some (record { maker = r; purpose = Commands k })
      → IsTrue
      (is_live p.reading r && asks_on p.setting p.reading r d && (k == next_of p.reading r))
  pub undos : (d : DeviceId) (r : RunId) (v : ℕ) → p.grips d
      ≡ Some (record { maker = r; purpose = Undoes v })
      → IsTrue (is_live p.reading r && is_doomed p.reading r && has_written p.reading r d
      && not ((p.reading.run r).on d).undid)
  pub one : (d e : DeviceId) (r : ℕ) (x y : Purpose) → p.grips d
      ≡ Some (record { maker = suc r; purpose = x })
      → p.grips e ≡ Some (record { maker = suc r; purpose = y }) → d ≡ e

-- each grip that is out is of a device of the home; that of a run is one which the run may have,
-- and a probe is the detector's
pub record GripsFit (p : Point) : Type 0 where
  pub homed : (d : DeviceId) → is_out p.grips d ≡ true → is_device p.setting d ≡ true
  pub runs : MayBeOut p
  pub probes : (d : DeviceId) (r : ActorId) (v : Option ℕ) → p.grips d
      ≡ Some (record { maker = r; purpose = Probes v }) → r ≡ 0

-- the scheduler gives the place of the entry, with some grips out
abbrev pub IsScheduled : Setting → Reading → Entry → Type 0
IsScheduled w n (Placed r at m) =
    (g : Grips) × MayBeOut (point w n g)
    × (scheduled_place (point w n g) r.0 m ≡ At (split_of w n r.0 at m))
    × (length (split_of w n r.0 at m).front ≡ at)
IsScheduled w n e = ⊤

-- each place of the history is the scheduler's
abbrev pub PlacesAreScheduled : Setting → List Entry → Type 0
PlacesAreScheduled w history = Along w (IsScheduled w) (nothing_read w) history
