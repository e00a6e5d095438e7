-- The memory of a window, and what the hub knows as it opens.
use Rattle.command_rules.specs.Rosters.{Run}
use Rattle.home_types.specs.declared.worlds.Stand.{Stand}
use Rattle.hub_core.specs.declared.open_windows.ClosingLists.{ClosingLists}
use Rattle.lineage_table.specs.Lineages.{LineageState, TableIsOpened}
use Rattle.serial_line.specs.KeptRuns.{AreKeptOf}
use Rattle.serial_line.specs.Marks.{Marked}
use Rattle.std.specs.Prelude.{List, [], length, ℕ, ◌≡◌}
use Rattle.timeline_scheduler.specs.Scratches.{ScratchRoom}
use Rattle.window_devices.specs.KnownDevices.{IsRoomFor}

-- an empty line with room for so many items, and the table of a window that opens
pub record IsOrderRoom (items : ℕ) (runs : List Run) (first : List Stand) (line : Marked)
    (table : List LineageState) : Type 0 where
  pub no_item : line.marks ≡ []
  pub none_sealed : line.sealed ≡ 0
  pub runs_kept : AreKeptOf runs line.runs
  pub room : line.spare ≡ items
  pub opened : TableIsOpened runs first table

-- a scratch for so many devices and items
pub record IsScratchFor (devices items : ℕ) (room : ScratchRoom) : Type 0 where
  pub devices_are : length room.slots ≡ devices
  pub items_are : room.items ≡ items

-- empty lists with room for so many items of the order and no more, and for so many devices
pub record IsClosingRoom (items devices : ℕ) (closing : ClosingLists) : Type 0 where
  pub order : IsRoomFor closing.order items
  pub last : IsRoomFor closing.last devices
  pub world : IsRoomFor closing.world devices
  pub turns : IsRoomFor closing.turns devices
  pub faults : IsRoomFor closing.faults devices
