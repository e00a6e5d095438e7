-- The numbers of a room's devices and runs: its own, and those of the home.
use Rattle.command_rules.specs.Rosters.{Run, device_no, run_no, runs_of}
use Rattle.home_types.specs.HomeStates.{stand_at}
use Rattle.home_types.specs.Kinds.{kind_at}
use Rattle.home_types.specs.declared.commands.Command.{Command}
use Rattle.home_types.specs.declared.items.Item.TheVariants.{Back, Failed, Ran}
use Rattle.home_types.specs.declared.items.Item.{Item}
use Rattle.home_types.specs.declared.kinds.Kind.{Kind}
use Rattle.home_types.specs.declared.numbers.DeviceNo.{DeviceNo}
use Rattle.home_types.specs.declared.numbers.RunNo.{RunNo}
use Rattle.home_types.specs.declared.worlds.Stand.{Stand}
use Rattle.room_hubs.specs.declared.rosters.RoomRoster.{RoomRoster}
use Rattle.std.specs.List.{position_or_len}
use Rattle.std.specs.Prelude.{List, length, map, option_map, slice_index_or, suc, zero, ℕ, ◌+◌, ◌<◌, ◌==◌}

-- a room of a window: the home's numbers of its devices and of its runs, and these runs in the
-- room's own numbers
pub record Room : Type 0 where
  pub number : ℕ
  pub devices : List ℕ
  pub runs : List ℕ
  pub own_runs : List Run

abbrev pub numbers_of_devices : List DeviceNo → List ℕ
numbers_of_devices devices = map (λ d. d.0) devices

abbrev pub numbers_of_runs : List RunNo → List ℕ
numbers_of_runs runs = map (λ r. r.0) runs

abbrev pub plain_room : RoomRoster → Room
plain_room roster =
    record {
      number = roster.room;
      devices = numbers_of_devices roster.devices.items;
      runs = numbers_of_runs roster.runs.items;
      own_runs = runs_of roster.roster;
    }

-- from the room's own numbers to the home's: devices count from 0, runs from 1
abbrev pub home_device : Room → ℕ → ℕ
home_device room d = slice_index_or room.devices d 0

abbrev pub home_run : Room → ℕ → ℕ
home_run room zero = 0
home_run room (suc i) = slice_index_or room.runs i 0

abbrev pub home_command : Room → Command → Command
home_command room c = record c { device = device_no (home_device room c.device.0) }

abbrev pub home_item : Room → Item → Item
home_item room (Ran r) = Ran (run_no (home_run room r.0))
home_item room (Failed d k) = Failed (device_no (home_device room d.0)) k
home_item room (Back d k) = Back (device_no (home_device room d.0)) k

-- the room has a run of this number, its own
abbrev pub IsOwnRun : Room → ℕ → Type 0
IsOwnRun room zero = ⊥
IsOwnRun room (suc i) = i < length room.runs

abbrev pub IsOwnDevice : Room → ℕ → Type 0
IsOwnDevice room d = d < length room.devices

-- the item names one of the room's runs or devices
abbrev pub IsOwnItem : Room → Item → Type 0
IsOwnItem room (Ran r) = IsOwnRun room r.0
IsOwnItem room (Failed d k) = IsOwnDevice room d.0
IsOwnItem room (Back d k) = IsOwnDevice room d.0

-- from the home's numbers to the room's own: the place among the room's, and where it is none of
-- them how many there are
abbrev pub place_in : List ℕ → ℕ → ℕ
place_in numbers n = position_or_len (λ m. m == n) numbers

abbrev pub own_device : List ℕ → DeviceNo → DeviceNo
own_device devices d = device_no (place_in devices d.0)

abbrev pub own_run_no : List ℕ → RunNo → RunNo
own_run_no runs r = run_no (place_in runs r.0 + 1)

abbrev pub own_command : List ℕ → Command → Command
own_command devices c = record c { device = own_device devices c.device }

-- a run of the home as one of the room with these devices and runs
abbrev pub own_run : List ℕ → List ℕ → Run → Run
own_run devices mine run =
    record {
      commands = map (own_command devices) run.commands;
      follows = option_map (own_run_no mine) run.follows;
    }

-- what the room has of the home: the kinds of its devices, and where they stand
abbrev pub room_kinds : Room → List Kind → List Kind
room_kinds room kinds = map (kind_at kinds) room.devices

abbrev pub room_home : Room → List Stand → List Stand
room_home room home = map (stand_at home) room.devices
