-- What the lines of a home's window tell, from the windows of its rooms.
use Rattle.command_rules.specs.Rosters.{device_no, run_no}
use Rattle.history_book.specs.declared.entries.Cause.TheVariants.{DownAtEnd, Lost, MustDown, Refuted, Revoked}
use Rattle.history_book.specs.declared.entries.Cause.{Cause}
use Rattle.history_book.specs.declared.entries.End.TheVariants.{Aborted, Committed}
use Rattle.history_book.specs.declared.entries.End.{End}
use Rattle.history_book.specs.declared.entries.Entry.TheVariants.{Arrived, Did, Doomed, Ended, Fell, Placed, Rose, Undid}
use Rattle.history_book.specs.declared.entries.Entry.{Entry}
use Rattle.history_book.specs.declared.entries.Kept.{Kept}
use Rattle.history_book.specs.declared.records.WindowRecord.{WindowRecord}
use Rattle.home_types.specs.HomeStates.{stand_at}
use Rattle.home_types.specs.declared.modes.Mode.{Mode}
use Rattle.home_types.specs.declared.numbers.DeviceNo.{DeviceNo}
use Rattle.home_types.specs.declared.numbers.RunNo.{RunNo}
use Rattle.home_types.specs.declared.worlds.Stand.{Stand}
use Rattle.room_hubs.specs.Merges.{joined_order, room_order}
use Rattle.room_hubs.specs.Numbers.{Room, home_device, home_run, numbers_of_devices, place_in, plain_room}
use Rattle.room_hubs.specs.RoomScripts.{listed}
use Rattle.room_hubs.specs.Splits.{device_room}
use Rattle.room_hubs.specs.declared.rosters.RoomWindow.{RoomWindow}
use Rattle.std.specs.List.{flat_map, range_with_len}
use Rattle.std.specs.Prelude.{List, [], length, map, slice_index_or, ℕ, ◌≡◌}

-- the home's numbers of a run and of a device that an entry of the room names

abbrev pub told_run : Room → RunNo → RunNo
told_run room r = run_no (home_run room r.0)

abbrev pub told_device : Room → DeviceNo → DeviceNo
told_device room d = device_no (home_device room d.0)

-- the same cause, end and entry in the home's numbers

abbrev pub told_cause : Room → Cause → Cause
told_cause room (MustDown c) = MustDown c
told_cause room (Refuted c x) = Refuted c x
told_cause room (Lost d) = Lost (told_device room d)
told_cause room (Revoked lender d deadline moment) =
    Revoked (told_run room lender) (told_device room d) deadline moment
told_cause room (DownAtEnd d) = DownAtEnd (told_device room d)

abbrev pub end_in_home : Room → End → End
end_in_home room Committed = Committed
end_in_home room (Aborted cause) = Aborted (told_cause room cause)

abbrev pub told_entry : Room → Entry → Entry
told_entry room (Arrived r moment) = Arrived (told_run room r) moment
told_entry room (Placed r at moment) = Placed (told_run room r) at moment
told_entry room (Did r c answer) = Did (told_run room r) c answer
told_entry room (Undid r d drove) = Undid (told_run room r) (told_device room d) drove
told_entry room (Fell d) = Fell (told_device room d)
told_entry room (Rose d) = Rose (told_device room d)
told_entry room (Doomed r cause) = Doomed (told_run room r) (told_cause room cause)
told_entry room (Ended r end) = Ended (told_run room r) (end_in_home room end)

-- an entry with its maker; 0 is the detector's number in every room
abbrev pub told_kept : Room → Kept → Kept
told_kept room kept =
    record { maker = home_run room kept.maker; entry = told_entry room kept.entry }

-- the history of a room's window
abbrev pub told_entries : RoomWindow → List Kept
told_entries window = map (told_kept (plain_room window.roster)) window.closed.history.items

-- the histories of the rooms, room after room
abbrev pub joined_history : List RoomWindow → List Kept
joined_history windows = flat_map told_entries windows

-- the devices of a room, by the home's numbers, and how they stand
abbrev pub RoomHome : Type 0
RoomHome = List ℕ × List Stand

-- how the room's devices stand at its window's end
abbrev pub last_of_room : RoomWindow → RoomHome
last_of_room window =
    (numbers_of_devices window.roster.devices.items, window.closed.last.devices.items)

abbrev pub stand_in : RoomHome → ℕ → Stand
stand_in home d = stand_at home.1 (place_in home.0 d)

-- how the home stands where its rooms stand so: each device as in its room
abbrev pub joined_home : List ℕ → List RoomHome → List Stand
joined_home room_of homes =
    map (λ d. stand_in (slice_index_or homes (device_room room_of d) ([], [])) d)
    (range_with_len 0 (length room_of))

-- the record tells of the windows of the rooms, all in the home's numbers
pub record IsToldOfRooms (room_of : List ℕ) (windows : List RoomWindow)
    (told : WindowRecord) : Type 0 where
  pub history : told.history.items ≡ joined_history windows
  pub order : told.order.items ≡ joined_order (map room_order windows)
  pub last : told.last.devices.items ≡ joined_home room_of (map last_of_room windows)

-- what the lines of the home's window tell: the windows of its rooms, in the home's numbers. No
-- line tells a first state or counts
abbrev pub told_record : List ℕ → Mode → List RoomWindow → WindowRecord
told_record room_of mode windows = record {
  mode = mode;
  first = record { devices = listed [] };
  history = listed (joined_history windows);
  order = listed (joined_order (map room_order windows));
  last = record { devices = listed (joined_home room_of (map last_of_room windows)) };
  turns = listed [];
  faults = listed [];
}
