-- What many proofs of this crate cite, passed on from one place.
pub use Rattle.command_rules.specs.Rosters.{Run, commands_of, device_no, followed_by, plain_run, run_in_roster, run_no}
pub use Rattle.command_rules.specs.declared.rosters.RosterRun.{RosterRun}
pub use Rattle.home_types.specs.HomeStates.{nowhere, stand_at}
pub use Rattle.home_types.specs.Kinds.{kind_at}
pub use Rattle.home_types.specs.Limits.{most_commands, most_devices, most_runs}
pub use Rattle.home_types.specs.declared.commands.Command.{Command}
pub use Rattle.home_types.specs.declared.kinds.Kind.{Kind}
pub use Rattle.home_types.specs.declared.numbers.DeviceNo.{DeviceNo}
pub use Rattle.home_types.specs.declared.numbers.RunNo.{RunNo}
pub use Rattle.home_types.specs.declared.worlds.Stand.{Stand}
pub use Rattle.room_hubs.specs.Merges.{InStep, IsMerge, Merge, PartHome, RoomOrders, answers_of, home_order, joined_merge, joined_order, order_of_room, own_order, room_in, room_order}
pub use Rattle.room_hubs.specs.Numbers.{IsOwnDevice, IsOwnItem, IsOwnRun, Room, home_command, home_device, home_item, home_run, numbers_of_devices, numbers_of_runs, own_command, own_run, own_run_no, place_in, plain_room, room_home, room_kinds}
pub use Rattle.room_hubs.specs.RoomScripts.{devices_at, no_device_text, no_run_text, own_routine, own_run_text, own_script, own_window, plain_devices, room_devices}
pub use Rattle.room_hubs.specs.Rooms.{PlainRooms, no_rooms, room_name, rooms_of, with_device, with_room}
pub use Rattle.room_hubs.specs.Splits.{IsParted, all_rooms, cross_at, cross_fault, crosses, crosses_rooms, device_room, devices_in, follows_across, own_runs, room_at, run_room, run_with, runs_in, script_split, window_split}
pub use Rattle.room_hubs.specs.ToldWindows.{RoomHome, joined_history, joined_home, last_of_room, stand_in, told_kept}
pub use Rattle.routine_reader.specs.Rosters.{kinds_of, routine_commands, run_of_text, script_runs, start_home, start_stand}
pub use Rattle.routine_reader.specs.Scripts.{PlainDevice, plain_device, plain_routine, plain_script, plain_window}
pub use Rattle.routine_reader.specs.Sound.{AreDifferent, IsSound, IsSoundCommand, IsSoundDevice, IsSoundRoutine, IsSoundRun, IsSoundWindow, device_kinds, suits_device}
pub use Rattle.routine_reader.specs.declared.scripts.DeviceText.{DeviceText}
pub use Rattle.routine_reader.specs.declared.scripts.RoutineText.{RoutineText}
pub use Rattle.routine_reader.specs.declared.scripts.Script.{Script}
pub use Rattle.routine_reader.specs.declared.scripts.WindowText.{WindowText}
pub use Rattle.std.proofs.Common.{Bool, Err, List, None, Ok, Option, Some, [], ap, append_assoc, arith, cond, false, fold, get_or, inl, inr, length, map, nat_lt, option_map, refl, reverse, rules, set, subst, suc, sym, take, true, true≢false, zero, ℕ, ⊎_elim, ◌++◌, ◌+◌, ◌-◌, ◌<◌, ◌∙◌, ◌∷◌, ◌≡◌, ◌≢◌, ◌≤◌}
pub use Rattle.std.proofs.lemmas.Bool.{cases_eq, cases_order}
pub use Rattle.std.proofs.lemmas.Grind.{common_steps, get_or-set_at}
pub use Rattle.std.proofs.lemmas.List.{append-nil, get_or-map, get_or-set_other, get_or-take, get_or_default, length-append, length-map, length-set, length-take, map-append, take_all, take_more}
pub use Rattle.std.proofs.lemmas.List.Elements.{All-get_or, filter-append, filter_more}
pub use Rattle.std.proofs.lemmas.List.FromFn.{get_or-range_with_len, length-range_with_len}
pub use Rattle.std.proofs.lemmas.Option.{get_or_from_slice_get, slice_get-get_or, slice_get-map, slice_get_cases, slice_get_past, slice_get_read, slice_get_within}
pub use Rattle.std.specs.List.{list_any, position, position_or_len, range_with_len}
pub use Rattle.std.specs.Prelude.{All, IfSome, filter, if◌then◌else◌, not, option_and_then, slice_get, slice_index_or, unwrap_or, ◌==◌, ◌||◌, ◌⊎◌}
pub use Rattle.std.specs.Str.{bytes_eq}
