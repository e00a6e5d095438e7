-- What many proofs of this crate cite, passed on from one place.
pub use Rattle.command_rules.specs.Rosters.{command_at, device_no, is_run, run_no}
pub use Rattle.device_gate.specs.Grips.{Gripped}
pub use Rattle.device_gate.specs.declared.gates.Place.{Place}
pub use Rattle.device_gate.specs.declared.gates.Place.TheVariants.{Home, Out}
pub use Rattle.device_gate.specs.declared.grips.Done.{Done}
pub use Rattle.device_gate.specs.declared.grips.Ready.{Ready}
pub use Rattle.device_gate.specs.declared.slips.Slip.{Slip}
pub use Rattle.device_gate.specs.declared.slips.Told.{Told}
pub use Rattle.device_gate.specs.declared.slips.Told.TheVariants.{Died, Sensed, Worked}
pub use Rattle.device_states.specs.Devices.{Plan, Shown}
pub use Rattle.history_book.proofs.Cited.{Each, entries_on, none_is, put_keeps, put_other, reading_on}
unfoldable pub use Rattle.history_book.specs.Gaps.{split_of}
pub use Rattle.history_book.specs.Readings.{Reading, did, is_doomed, is_live, put}
pub use Rattle.history_book.specs.Settings.{Setting, is_weak}
pub use Rattle.history_book.specs.declared.entries.Cause.TheVariants.{DownAtEnd, Lost, Refuted, Revoked}
pub use Rattle.history_book.specs.declared.entries.End.TheVariants.{Aborted, Committed}
pub use Rattle.history_book.specs.declared.entries.Entry.{Entry}
pub use Rattle.history_book.specs.declared.entries.Entry.TheVariants.{Arrived, Did, Doomed, Ended, Fell, Placed, Rose, Undid}
pub use Rattle.home_types.specs.declared.commands.Answer.TheVariants.{Fine, Found}
pub use Rattle.home_types.specs.declared.commands.Guard.TheVariants.{Always}
pub use Rattle.home_types.specs.declared.commands.Job.TheVariants.{Check, Set}
pub use Rattle.home_types.specs.declared.kinds.Kind.TheVariants.{Range, States}
pub use Rattle.home_types.specs.declared.modes.Scheduler.TheVariants.{Fcfs, JustInTime}
pub use Rattle.home_types.specs.declared.modes.Visibility.TheVariants.{Eventual, Partitioned}
pub use Rattle.hub_core.proofs.Cited.{decide_is, gave_back, gave_probe_back, length_with, never_refused, plan_in, probe_never_refused, run_there, took_after, took_choice, took_none, took_probe, wait_is, window_worked}
pub use Rattle.hub_core.specs.HubCalls.{Answers, DeviceGoesOut, HubStands, IsProbed, SameWindow, WindowIsClosed, carried_by, grip_takes}
pub use Rattle.hub_core.specs.OpenHubs.{OpenHub, carried_in, configuration_of, hub_state_of}
pub use Rattle.hub_core.specs.Steps.{Absent, Choice, HandsOut, Moves, Over, Waits, after_choice, after_give, after_take, after_take_probe, at_moment, choice_of, decide, give_entries, may_probe, not_quiet, opened, probe_grip}
pub use Rattle.hub_core.specs.declared.waits.Why.{Why}
pub use Rattle.lock_leasing.specs.Configurations.{Configuration, Grip, Grips, has_grip, is_command, is_out, is_undo, point, point_of, read_of}
pub use Rattle.lock_leasing.specs.declared.purposes.Purpose.{Purpose}
pub use Rattle.lock_leasing.specs.declared.purposes.Purpose.TheVariants.{Commands, Probes, Undoes}
pub use Rattle.run_replay.specs.PlayerSteps.{PlayerPicks, PlayerStays, PlayerSteps}
pub use Rattle.run_replay.specs.Players.{AreLiveRuns, HavePlans, HoldNothing, IsInHand, MovesAreFew, PlayerIsKept, PlayerIsOpened, PlayerStands, PlayerState, are_live, empty_places, first_is_full, is_ended, is_full, most_made, most_moves, play_of, steps_left, with_moves}
pub use Rattle.run_replay.specs.Playing.{ArePicked, GoesOn, IsDrawn, IsFinished, IsPicked, IsStepped, IsTried, Tells}
pub use Rattle.run_replay.specs.Replays.{Course, DrawnPlay, IsReplay, Pick, Play, act_on, act_where_out, actor_takes, actors, counted_pick, detector_takes, draw_once, draw_times, from_place, gripped, is_actor_done, is_waiting_pick, moves_after, passes, pick, pick_first, pick_live, picked_by, play, replay_of, run_takes, start_of, takes_of}
pub use Rattle.run_replay.specs.declared.picked.Picked.{Picked}
pub use Rattle.run_replay.specs.declared.picked.Picked.TheVariants.{Made, Passed, Took}
pub use Rattle.std.proofs.Common.{ap, arith, inl, inr, mul-le-mul, refl, rules, subst, sym, ◌∙◌}
pub use Rattle.std.proofs.Math.ListN.{get_or}
pub use Rattle.std.proofs.lemmas.Grind.{common_steps, fold-append}
pub use Rattle.std.proofs.lemmas.List.{append-nil, length-append, take-append-drop}
pub use Rattle.std.proofs.lemmas.Option.{get_or_from_slice_get, slice_get_read, slice_get_within}
pub use Rattle.std.specs.List.{range_with_len}
pub use Rattle.std.specs.Prelude.{Bool, IsTrue, List, None, Option, Some, [], bit_and, bit_or, drop, false, filter, find, fold, if◌then◌else◌, is_none, is_some, length, max, nat_le, nat_lt, not, option_map, option_to_list, slice_get, slice_index_or, slice_set, suc, take, true, unwrap_or, vec_capacity, vec_len, zero, ℕ, ⊤, ◌%◌, ◌&&◌, ◌*◌, ◌++◌, ◌+◌, ◌-◌, ◌/◌, ◌<◌, ◌==◌, ◌^◌, ◌||◌, ◌∷◌, ◌≡◌, ◌≢◌, ◌≤◌, ◌⊎◌}
pub use Rattle.window_devices.proofs.Cited.{find_none, get_set, none_found, none_there, not_none}
pub use Rattle.window_devices.specs.KnownDevices.{grip_in, progress_at}
