-- How the runs of a window are split among the rooms. A home's rooms are given by the number of
-- each device's room.
use Rattle.command_rules.specs.Rosters.{Run, commands_of, followed_by, run_no}
use Rattle.home_types.specs.declared.commands.Command.{Command}
use Rattle.room_hubs.specs.Numbers.{Room, own_run}
use Rattle.room_hubs.specs.Rooms.{PlainRooms, rooms_of}
use Rattle.room_hubs.specs.declared.splits.SplitFault.TheVariants.{CrossFollow, CrossRoom}
use Rattle.room_hubs.specs.declared.splits.SplitFault.{SplitFault}
use Rattle.routine_reader.specs.Rosters.{script_runs}
use Rattle.routine_reader.specs.declared.scripts.Script.{Script}
use Rattle.std.specs.List.{list_any, position, range_with_len}
use Rattle.std.specs.Option.{option_map_or}
use Rattle.std.specs.Prelude.{All, Bool, Err, List, None, Ok, Option, Result, [], false, filter, if◌then◌else◌, length, map, not, option_map, slice_index_or, suc, ℕ, ◌<◌, ◌==◌, ◌||◌, ◌≡◌, ◌∷◌}

abbrev pub device_room : List ℕ → ℕ → ℕ
device_room room_of d = slice_index_or room_of d 0

-- the room of a run with these commands: that of its first one's device
abbrev pub run_room : List ℕ → List Command → ℕ
run_room room_of [] = 0
run_room room_of (c ∷ cs) = device_room room_of c.device.0

-- some command is in another room than the first one
abbrev pub crosses_rooms : List ℕ → List Command → Bool
crosses_rooms room_of commands =
    list_any (λ c. not (device_room room_of c.device.0 == run_room room_of commands)) commands

-- the run follows one of another room
abbrev pub follows_across : List ℕ → List Run → Run → Bool
follows_across room_of runs run =
    option_map_or
    (λ f. not (run_room room_of (commands_of runs f.0) == run_room room_of run.commands))
    run.follows false

abbrev pub crosses : List ℕ → List Run → Run → Bool
crosses room_of runs run = crosses_rooms room_of run.commands || follows_across room_of runs run

-- how the run at this place, from 0, crosses
abbrev pub cross_at : List ℕ → List Run → ℕ → SplitFault
cross_at room_of runs place =
    if crosses_rooms room_of (commands_of runs (suc place)) then CrossRoom (run_no (suc place))
    else CrossFollow (run_no (suc place))

-- the refusal of a window: the smallest run that crosses, and how
abbrev pub cross_fault : List ℕ → List Run → Option SplitFault
cross_fault room_of runs = option_map (cross_at room_of runs) (position (crosses room_of runs) runs)

-- the home's numbers of the devices of a room, and of its runs, each in ascending order
abbrev pub devices_in : List ℕ → ℕ → List ℕ
devices_in room_of k = filter (λ d. device_room room_of d == k) (range_with_len 0 (length room_of))

abbrev pub runs_in : List ℕ → List Run → ℕ → List ℕ
runs_in room_of runs k =
    filter (λ r. run_room room_of (commands_of runs r) == k) (range_with_len 1 (length runs))

abbrev pub run_with : List Run → ℕ → Run
run_with runs r = record { commands = commands_of runs r; follows = followed_by runs r }

-- the runs of a room in its own numbers
abbrev pub own_runs : List ℕ → List ℕ → List Run → List Run
own_runs devices mine runs = map (λ r. own_run devices mine (run_with runs r)) mine

-- the room with this number
abbrev pub room_at : List ℕ → List Run → ℕ → Room
room_at room_of runs k =
    record {
      number = k;
      devices = devices_in room_of k;
      runs = runs_in room_of runs k;
      own_runs = own_runs (devices_in room_of k) (runs_in room_of runs k) runs;
    }

-- all rooms in the order of their numbers
abbrev pub all_rooms : PlainRooms → List Run → List Room
all_rooms rooms runs = map (room_at rooms.room_of runs) (range_with_len 0 (length rooms.names))

-- all rooms, or the refusal
abbrev pub window_split : PlainRooms → List Run → Result (List Room) SplitFault
window_split rooms runs =
    option_map_or (λ fault. Err fault) (cross_fault rooms.room_of runs) (Ok (all_rooms rooms runs))

-- the split of a window of the script
abbrev pub script_split : Script → ℕ → Result (List Room) SplitFault
script_split script window = window_split (rooms_of script) (script_runs script window)

-- each run has its commands on devices of the home, and does not cross rooms
pub record IsParted (room_of : List ℕ) (runs : List Run) : Type 0 where
  pub devices : (r : ℕ) → All (λ c. c.device.0 < length room_of) (commands_of runs r)
  pub none : position (crosses room_of runs) runs ≡ None
