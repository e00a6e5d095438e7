-- What many proofs of this crate cite, passed on from one place.
pub use Rattle.blocked_runs.specs.RunBits.{has_run}
pub use Rattle.device_gate.specs.Grips.{Gripped}
pub use Rattle.device_gate.specs.declared.gates.Place.{Place}
pub use Rattle.device_gate.specs.declared.gates.Place.TheVariants.{Home, Out}
pub use Rattle.device_gate.specs.declared.grips.Done.{Done}
pub use Rattle.device_gate.specs.declared.grips.Ready.{Ready}
pub use Rattle.device_gate.specs.declared.slips.Slip.{Slip}
pub use Rattle.device_gate.specs.declared.slips.Task.{Task}
pub use Rattle.device_gate.specs.declared.slips.Told.{Told}
pub use Rattle.device_states.specs.Devices.{Plan, Shown}
pub use Rattle.grip_seats.specs.Desks.{DeskName, DeskState, PassState}
pub use Rattle.history_book.specs.Histories.{kept_by}
pub use Rattle.history_book.specs.declared.entries.Entry.{Entry}
pub use Rattle.home_types.specs.declared.memory.NoMemory.{NoMemory}
pub use Rattle.hub_core.proofs.Cited.{decide_is, gave_back, gave_probe_back, never_refused, plan_in, probe_never_refused, sleepers_later, took_after, took_choice, took_probe, window_worked}
pub use Rattle.hub_core.specs.BlockedRuns.{IsBlocked}
pub use Rattle.hub_core.specs.HubCalls.{HubStands, IsGiven, IsProbeGiven, IsProbed, IsTurn, SameWindow, WindowIsClosed, carried_by, probes_taken}
pub use Rattle.hub_core.specs.HubSteps.{Carried, Chose, Gave, Give, GiveProbe, HubState, HubStep, IsSlipOf, Returned, SlipFits, Take, give_if, is_kept, same_carried, same_slip, same_task}
pub use Rattle.hub_core.specs.OpenHubs.{OpenHub, carried_in, configuration_of, hub_state_of}
pub use Rattle.hub_core.specs.Steps.{Choice, HandsOut, Moves, Waits, after_choice, after_give, at_moment, choice_of, command_entries, give_entries, may_probe, opened, probe_entries, undo_entries}
pub use Rattle.hub_core.specs.declared.turns.Turn.{Turn}
pub use Rattle.hub_core.specs.declared.turns.Turn.TheVariants.{Absent, Go, Moved, Over, Wait}
pub use Rattle.hub_threads.specs.Moments.{AreWithin, TellsWithin, moment_told}
pub use Rattle.hub_threads.specs.Named.{HasPlan, IsNamed, PlacesHavePlans, TurnHasPlan, entries_told, is_idle, turn_entries}
pub use Rattle.hub_threads.specs.Names.{IsWithin, NamedWindow}
pub use Rattle.hub_threads.specs.Passes.{CanGoOut, GoesWith, IsDetectorsPass, IsPassOf, IsRunsPass, Lent, out_after, out_in, what_is_out}
pub use Rattle.hub_threads.specs.Sleepers.{SleepersAreBlocked, frees_places, has_run_bit}
pub use Rattle.hub_threads.specs.WorkedRooms.{AreRoomsWorked, IsRoomWorked}
pub use Rattle.hub_threads.specs.declared.rooms.RoomDone.{RoomDone}
pub use Rattle.hub_threads.specs.declared.rooms.RoomHub.{RoomHub}
pub use Rattle.lock_leasing.specs.Configurations.{Configuration, Grip, read_of}
pub use Rattle.lock_leasing.specs.declared.purposes.Purpose.{Purpose}
pub use Rattle.std.proofs.Common.{Result, ap, arith, get_or, inl, inr, map, refl, reverse, rules, subst, sym, ◌∙◌}
pub use Rattle.std.proofs.lemmas.Grind.{common_steps}
pub use Rattle.std.proofs.lemmas.List.{append-nil, get_or-map, length-append, length-map, map-set}
pub use Rattle.std.proofs.lemmas.Option.{get_or_from_slice_get, slice_get-map, slice_get_within}
pub use Rattle.std.specs.Prelude.{Bool, Err, IfOk, IfSome, List, None, Ok, Option, Some, [], bit_and, bit_or, false, if◌then◌else◌, length, max, nat_lt, not, option_map, option_to_list, replicate, slice_get, slice_set, suc, true, unwrap_or, vec_capacity, vec_len, zero, ℕ, ◌&&◌, ◌++◌, ◌+◌, ◌-◌, ◌<◌, ◌==◌, ◌^◌, ◌||◌, ◌∷◌, ◌≡◌, ◌≤◌, ◌⊎◌}
pub use Rattle.window_devices.specs.KnownDevices.{grip_in, progress_at}
