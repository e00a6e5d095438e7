-- What the line and the table of a window ask for, and what is kept of them.
use Rattle.command_rules.specs.Rosters.{command_at, commands_of, is_run}
use Rattle.failure_serialization.specs.Events.{event_place}
use Rattle.history_book.specs.ReadHistories.{HistoryState, read_in}
use Rattle.history_book.specs.Readings.{Reading, next_of}
use Rattle.history_book.specs.Settings.{is_weak}
use Rattle.home_types.specs.Numbers.{CommandIndex, DeviceId, RunId}
use Rattle.home_types.specs.declared.items.Item.TheVariants.{Back, Failed, Ran}
use Rattle.home_types.specs.declared.items.Item.{Item}
use Rattle.home_types.specs.declared.numbers.DeviceNo.{DeviceNo}
use Rattle.home_types.specs.declared.numbers.RunNo.{RunNo}
use Rattle.hub_core.specs.Bounds.{most_items}
use Rattle.lineage_table.specs.Accesses.{has_access}
use Rattle.lineage_table.specs.Lineages.{LineageState, accesses_at, counted_up, lineage_at, with_lineage}
use Rattle.lock_leasing.specs.Configurations.{Grips, Point, point}
use Rattle.serial_line.specs.KeptRuns.{AreKeptOf}
use Rattle.serial_line.specs.Labels.{is_sealed}
use Rattle.serial_line.specs.Marks.{Marked, stands, with_item}
use Rattle.std.specs.List.{list_any}
use Rattle.std.specs.Prelude.{Bool, List, None, Option, Some, [], false, length, slice_index_or, true, ℕ, ◌+◌, ◌-◌, ◌<◌, ◌≡◌, ◌≤◌}
use Rattle.window_order.specs.MarksKept.{MarksAreKept}
use Rattle.window_order.specs.OrderStates.{IsSealed, IsUnreleased, MayNote}
use Rattle.window_order.specs.TableChanges.{ChangesEach, doomed_unless}
use Rattle.window_order.specs.TableKept.{TableIsKept}

-- .. to the command of this number, which was just answered
pub record MayNoteAnswer (h : HistoryState) (r : RunId) (k : CommandIndex) (d : DeviceId)
    (table : List LineageState) : Type 0 where
  pub run : is_run h.setting.runs r ≡ true
  pub there : k < length (commands_of h.setting.runs r)
  pub device : (command_at h.setting.runs r k).device.0 ≡ d
  pub answered : next_of (read_in h) r ≡ k + 1
  pub homed : d < length table
  pub turn : MayNote r (lineage_at table d)

-- .. the command of this number, which was just answered; under the weak model it has no access
-- there
pub record MayLeave (h : HistoryState) (r : RunId) (k : CommandIndex) (d : DeviceId)
    (table : List LineageState) : Type 0 where
  pub run : is_run h.setting.runs r ≡ true
  pub there : k < length (commands_of h.setting.runs r)
  pub device : (command_at h.setting.runs r k).device.0 ≡ d
  pub answered : next_of (read_in h) r ≡ k + 1
  pub homed : d < length table
  pub turn : is_weak h.setting.mode ≡ false → IsUnreleased r (lineage_at table d)

-- A device fails or comes back

-- a device that is counted so may turn: the event has its room in the line, in which it does not
-- stand yet, and its entry in the history's room
pub record MayTurn (up : Bool) (event : Item) (room : ℕ) (d : DeviceNo) (line : Marked)
    (table : List LineageState) : Type 0 where
  pub device : d.0 < length table
  pub runs : has_access 0 (accesses_at table d.0) ≡ false
  pub counted : (lineage_at table d.0).up ≡ up
  pub place : 0 < line.spare
  pub absent : stands event line.marks ≡ false
  pub sealed : IsSealed line
  pub unsealed : list_any (λ x. is_sealed (Ran x.run) line) (accesses_at table d.0) ≡ false
  pub entry : 0 < room

-- the event came into the line, where the accesses and the history's dooms say, what stands before
-- the first live run is sealed, and the device is counted so; first is the run whose first access
-- has just died, where one has
pub record HasTurned (up : Bool) (event : Item) (h : HistoryState) (d : DeviceNo)
    (first : Option RunNo) (line after : Marked) (table later : List LineageState) : Type 0 where
  pub marks : after.marks
      ≡ with_item (event_place h.history first (accesses_at table d.0) line.marks) event line.marks
  pub spare : after.spare + 1 ≡ line.spare
  pub sealed : IsSealed after
  pub runs : after.runs ≡ line.runs
  pub counted : later ≡ with_lineage table d.0 (counted_up up)

-- the failure of this number ..
abbrev pub HasFallen : HistoryState → DeviceNo → Option RunNo → ℕ → Marked → Marked
    → List LineageState → List LineageState → Type 0
HasFallen h d first number line after table later =
    HasTurned false (Failed d number) h d first line after table later

-- .. and the restart
abbrev pub HasRisen : HistoryState → DeviceNo → ℕ → Marked → Marked → List LineageState
    → List LineageState → Type 0
HasRisen h d number line after table later =
    HasTurned true (Back d number) h d None line after table later

-- the device whose grip the run holds
abbrev pub hand_of : List (Option DeviceNo) → RunId → Option DeviceNo
hand_of held_tokens r = slice_index_or held_tokens (r - 1) None

-- the run that a failure loses, where there is one, is done with each device but the one that is
-- out for it
abbrev pub IsLostTo : Option RunNo → List (Option DeviceNo) → List LineageState
    → List LineageState → Type 0
IsLostTo None held_tokens table later = later ≡ table
IsLostTo (Some r) held_tokens table later =
    ChangesEach (doomed_unless (hand_of held_tokens r.0) r.0) table later

-- the lineage of a device tells how it is counted, and has no access: under the weak model no run
-- asks for more
pub record LineageIsBare (n : Reading) (d : DeviceId) (s : LineageState) : Type 0 where
  pub accesses : s.accesses ≡ []
  pub up : s.up ≡ n.up d

-- the table is that of the reading and the grips, under the weak model a bare one
pub record TableFits (p : Point)
    (table : List LineageState) : Type 0 where
  pub devices : length table ≡ length p.setting.first
  pub ordered : is_weak p.setting.mode ≡ false → TableIsKept p table
  pub weakly : is_weak p.setting.mode ≡ true → (d : DeviceId) → d < length p.setting.first
      → LineageIsBare p.reading d (lineage_at table d)

-- .. and the line is theirs too, each item with what it has touched, sealed up to the first live
-- run; it keeps the devices of the runs, and whom they follow; and it has room for all its items,
-- where there are so many rounds of probes
pub record IsOrderOf (rounds : ℕ) (p : Point) (line : Marked)
    (table : List LineageState) : Type 0 where
  pub table_is : TableFits p table
  pub line_is : MarksAreKept p.reading p.grips line.marks
  pub sealed : IsSealed line
  pub runs : AreKeptOf p.setting.runs line.runs
  pub room : most_items (length p.setting.runs) (length p.setting.first) rounds
      ≤ line.spare + length line.marks

-- the line and the table of a history
abbrev pub OrderIsBeside : ℕ → HistoryState → Grips → Marked → List LineageState → Type 0
OrderIsBeside rounds h g line table = IsOrderOf rounds (point h.setting (read_in h) g) line table
