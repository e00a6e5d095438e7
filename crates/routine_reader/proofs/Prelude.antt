-- What many proofs of this crate cite, passed on from one place.
pub use Rattle.command_rules.specs.Rosters.{Run, plain_run, runs_of}
pub use Rattle.day_clock.specs.Times.{IsCivilTime, time_of}
pub use Rattle.home_types.specs.Limits.{most_commands, most_devices, most_downs, most_routines, most_states, most_windows}
pub use Rattle.home_types.specs.declared.kinds.Kind.{Kind}
unfoldable pub use Rattle.routine_reader.specs.Commands.{command_reading}
pub use Rattle.routine_reader.specs.Commands.{CommandMembers, command_form, command_members, command_with, guard_of, guard_with, job_of, kind_of, ms_at, next_command_read, state_names_of, suits_verb, takes_at, verb_in, with_its_value}
unfoldable pub use Rattle.routine_reader.specs.Devices.{device_reading, device_values, downs_reading, state_names}
pub use Rattle.routine_reader.specs.Devices.{DeviceMembers, DeviceValues, device_members, device_names, device_with, down_in, down_reading, down_within, has_states_or_range, next_device_read, next_down, range_with, state_name, states_with, value_in, value_within}
pub use Rattle.routine_reader.specs.Forms.{at_most, has_form, if_there, items_in, knows, list_of, long_number_of, names_of, needed, number_of, or_default, present, state_of}
pub use Rattle.routine_reader.specs.GivenMembers.{given_in, given_of, with_member}
pub use Rattle.routine_reader.specs.Limits.{default_seed, limit_of, most_of_32_bits, most_of_64_bits}
pub use Rattle.routine_reader.specs.Names.{is_among, is_name, new_name, place_of}
unfoldable pub use Rattle.routine_reader.specs.Readings.{parts_reading}
pub use Rattle.routine_reader.specs.Readings.{DayMembers, json_value_of}
pub use Rattle.routine_reader.specs.Rosters.{kinds_of, run_of_text, script_runs, start_stand}
unfoldable pub use Rattle.routine_reader.specs.Routines.{commands_reading, routine_reading}
pub use Rattle.routine_reader.specs.Routines.{next_routine, routine_members, routine_names}
pub use Rattle.routine_reader.specs.Scripts.{PlainDevice, PlainRoutine, PlainScript, PlainWindow, plain_device, plain_routine, plain_script, plain_window}
pub use Rattle.routine_reader.specs.Sound.{AreDifferent, AreInOrder, IsName, IsSound, IsSoundCommand, IsSoundDevice, IsSoundDown, IsSoundKind, IsSoundRoutine, IsSoundRun, IsSoundWindow, compared, device_kinds, suits_device}
pub use Rattle.routine_reader.specs.Spots.{at, inside, is_memory}
unfoldable pub use Rattle.routine_reader.specs.Walks.{read_each}
pub use Rattle.routine_reader.specs.Walks.{IsReading, within_limit, ◌>>=◌}
unfoldable pub use Rattle.routine_reader.specs.Windows.{run_reading, window_reading}
pub use Rattle.routine_reader.specs.Windows.{WindowMembers, follows_reading, is_later, last_time, next_run_read, next_turn, next_window_read, run_members, time_reading, turn_reading, window_members, window_with}
pub use Rattle.routine_reader.specs.declared.faults.ReadFault.{ReadFault}
pub use Rattle.routine_reader.specs.declared.faults.ReadFault.TheVariants.{BadFollow, BadName, BadState, BadTime, BadTurn, DoubleName, Shape, UnknownName}
pub use Rattle.routine_reader.specs.declared.scripts.RunText.{RunText}
pub use Rattle.serde_json.proofs.Views.{Entry, get_member-put, get_member-put_other, put_last}
pub use Rattle.serde_json.specs.Data.{Data, Members, put}
pub use Rattle.serde_json.specs.Find.{as_array, as_bool, as_number, as_object, as_str, as_u64, get, get_member}
pub use Rattle.serde_json.specs.View.{items_of, items_view, members_view, view}
pub use Rattle.std.proofs.Common.{Bool, Err, IsUtf8, List, Ok, Result, Some, String, [], ap, append_assoc, arith, codes, cond, drop, false, get_or, if◌then◌else◌, inl, inr, length, length-append, map, nat_le, nat_lt, not, option_and_then, option_map, refl, rules, string_bytes, string_cmp, subst, suc, sym, true, true≢false, zero, ℕ, ◌&&◌, ◌++◌, ◌+◌, ◌-◌, ◌<◌, ◌==◌, ◌||◌, ◌∙◌, ◌∷◌, ◌≡◌, ◌⊎◌}
pub use Rattle.std.proofs.lemmas.List.{drop_all, drop_more, length-map, map-append, take-append-le, take-map, take_all, take_more}
pub use Rattle.std.proofs.lemmas.List.Elements.{All-append, All-cons, All-get_or, All-head, All-map, All-nil, All-tail}
pub use Rattle.std.proofs.lemmas.Option.{get_or_from_slice_get, none-some, slice_get-get_or, slice_get-map, slice_get_within}
pub use Rattle.std.specs.List.{list_all, list_any, position, position_or_len}
pub use Rattle.std.specs.Option.{option_map_or}
pub use Rattle.std.specs.Prelude.{All, IfOk, IfSome, None, Option, ok_or, slice_get, take, unwrap_or, ◌≤◌}
pub use Rattle.std.specs.Str.{bytes_eq, is_utf8}
