-- The serial order invariant: the four promised clauses, for a reading and the grips that are out.
use Rattle.command_rules.specs.Items.{is_ran, of_run}
use Rattle.command_rules.specs.Rosters.{run_no}
use Rattle.history_book.specs.Histories.{answers_in, executed}
use Rattle.history_book.specs.Lines.{is_event_on}
use Rattle.history_book.specs.Readings.{Event, First, Last, LogMark, Reading, did, has_written, is_committed, is_doomed, is_event, is_live, is_open, sees_up, span_of}
use Rattle.history_book.specs.Settings.{Setting, device_numbers}
use Rattle.home_types.specs.HomeStates.{stand_at}
use Rattle.home_types.specs.Numbers.{DeviceId, RunId}
use Rattle.home_types.specs.declared.items.Item.{Item}
use Rattle.home_types.specs.declared.items.Item.TheVariants.{Back, Failed, Ran}
use Rattle.home_types.specs.declared.worlds.Stand.{Stand}
use Rattle.lock_leasing.specs.Configurations.{Grips, Point}
use Rattle.lock_leasing.specs.Words.{committed_write, has_touched, is_undone, last_some}
use Rattle.std.specs.List.{list_any}
use Rattle.std.specs.Prelude.{Bool, IsTrue, List, None, Option, Some, [], false, filter, filter_map, if◌then◌else◌, is_some, map, not, true, unwrap_or, ℕ, ◌&&◌, ◌||◌, ◌∷◌, ◌≡◌}

-- 1. The committed runs and the events of the line are a serial execution

abbrev pub is_settled : Reading → Item → Bool
is_settled n (Ran r) = is_committed n r.0
is_settled n (Failed d k) = true
is_settled n (Back d k) = true

abbrev pub settled_items : Reading → List Item
settled_items n = filter (is_settled n) n.line

-- the value of the last committed write on the device, else the first one
abbrev pub committed_value : Setting → Reading → DeviceId → ℕ
committed_value w n d =
    unwrap_or (last_some (committed_write n d) n.line) (stand_at w.first d).value

abbrev pub committed_home : Setting → Reading → List Stand
committed_home w n =
    map (λ d. record { value = committed_value w n d; up = n.up d }) (device_numbers w)

-- executed from the first state they are not refused, give the answers of the history, and end with
-- the committed values and the counted states
pub record SettledAgree (w : Setting) (n : Reading) : Type 0 where
  pub applies : (executed w (settled_items n)).refused ≡ false
  pub answers : (executed w (settled_items n)).answers ≡ answers_in n (settled_items n)
  pub home : (executed w (settled_items n)).home ≡ committed_home w n

-- 2. First accesses and events of a device stand in the line in history order

abbrev pub is_in_line : Reading → RunId → Bool
is_in_line n r = list_any (is_ran r) n.line

-- its first access on the device came when it was doomed
abbrev pub is_late : Reading → RunId → DeviceId → Bool
is_late n r d = ((n.run r).on d).late

-- the runs of the line that have an access on the device, in line order
abbrev pub firsts_of_line : Reading → DeviceId → List RunId
firsts_of_line n d = filter_map first n.line
  where
    first : Item → Option RunId
    first (Ran r) = if did n r.0 d then Some r.0 else None
    first (Failed e k) = None
    first (Back e k) = None

-- the same runs in history order
abbrev pub firsts_of_log : Reading → DeviceId → List RunId
firsts_of_log n d = filter_map first (n.log d)
  where
    first : LogMark → Option RunId
    first (First r) = if is_in_line n r then Some r else None
    first (Event i) = None
    first (Last r) = None

-- the events of the device and the runs with an access there, in line order, but for runs whose
-- first access came when they were doomed
abbrev pub marks_of_line : Reading → DeviceId → List Item
marks_of_line n d =
    filter (λ i. is_event_on d i || of_run (λ r. did n r d && not (is_late n r d)) i) n.line

-- the same items in history order
abbrev pub marks_of_log : Reading → DeviceId → List Item
marks_of_log n d = filter_map mark (n.log d)
  where
    mark : LogMark → Option Item
    mark (First r) = if is_in_line n r && not (is_late n r d) then Some (Ran (run_no r)) else None
    mark (Event i) = Some i
    mark (Last r) = None

-- line order is history order, and no event stands in the span of a run that is not doomed and sees
-- the device up
pub record InHistoryOrder (n : Reading) (d : DeviceId) : Type 0 where
  pub runs : firsts_of_line n d ≡ firsts_of_log n d
  pub events : marks_of_line n d ≡ marks_of_log n d
  pub spans : (r : RunId) → IsTrue (is_in_line n r && not (is_doomed n r) && sees_up n r d)
      → list_any is_event (span_of r (n.log d)) ≡ false

-- 3. Between a live write and a later read a committed run wrote

-- the item is a run that read the device before it wrote it
abbrev pub has_read_first : Reading → DeviceId → Item → Bool
has_read_first n d i = of_run (λ r. is_some ((n.run r).on d).found) i

-- the item is a committed run that wrote the device
abbrev pub covers : Reading → DeviceId → Item → Bool
covers n d i = of_run (λ r. is_committed n r && has_written n r d) i

-- no item read before a committed one wrote
abbrev pub is_covered : Reading → DeviceId → List Item → Bool
is_covered n d [] = true
is_covered n d (i ∷ is) = not (has_read_first n d i) && (covers n d i || is_covered n d is)

-- the item is a live run with a write on the device that is not undone
abbrev pub has_live_write : Reading → Grips → DeviceId → Item → Bool
has_live_write n g d i = of_run (λ r. is_live n r && has_written n r d && not (is_undone n g r d)) i

abbrev pub live_writes_are_covered : Reading → Grips → DeviceId → List Item → Bool
live_writes_are_covered n g d [] = true
live_writes_are_covered n g d (i ∷ is) =
    (not (has_live_write n g d i) || is_covered n d is) && live_writes_are_covered n g d is

-- 4. No run behind an open one has touched its device

abbrev pub opens : Setting → Reading → DeviceId → Item → Bool
opens w n d i = of_run (λ r. is_open w n r d) i

abbrev pub is_touched : Reading → Grips → DeviceId → Item → Bool
is_touched n g d i = of_run (λ r. has_touched n g r d) i

abbrev pub open_runs_are_last : Point → DeviceId → List Item → Bool
open_runs_are_last p d [] = true
open_runs_are_last p d (i ∷ is) =
    (not (opens p.setting p.reading d i) || not (list_any (is_touched p.reading p.grips d) is))
    && open_runs_are_last p d is

-- the four clauses
pub record OrderStands (p : Point) : Type 0 where
  pub settled : SettledAgree p.setting p.reading
  pub history : (d : DeviceId) → InHistoryOrder p.reading d
  pub covered : (d : DeviceId) → IsTrue (live_writes_are_covered p.reading p.grips d p.reading.line)
  pub last : (d : DeviceId) → IsTrue (open_runs_are_last p d p.reading.line)
