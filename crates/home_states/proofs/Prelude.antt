-- What many proofs of this crate cite, passed on from one place.
pub use Rattle.command_rules.specs.Rosters.{Run, device_no, runs_of}
pub use Rattle.day_clock.specs.declared.times.When.{When}
pub use Rattle.device_gate.specs.Grips.{Gripped}
pub use Rattle.device_gate.specs.declared.gates.Place.{Place}
pub use Rattle.device_gate.specs.declared.gates.Place.TheVariants.{Home, Out}
pub use Rattle.device_gate.specs.declared.grips.Done.{Done}
pub use Rattle.device_gate.specs.declared.grips.Ready.{Ready}
pub use Rattle.device_gate.specs.declared.slips.Slip.{Slip}
pub use Rattle.device_gate.specs.declared.slips.Task.{Task}
pub use Rattle.device_gate.specs.declared.slips.Told.{Told}
pub use Rattle.device_states.specs.Devices.{Shown}
pub use Rattle.handed_devices.specs.declared.devices.HandedDevice.{HandedDevice}
pub use Rattle.history_book.specs.Settings.{Setting, is_device, is_weak}
pub use Rattle.history_book.specs.declared.entries.Entry.{Entry}
pub use Rattle.home_states.specs.Drafts.{HasAddedRun, HasBegunWindow, HasLost, HasRestood, first_against_finding, time_told}
pub use Rattle.home_states.specs.Joinings.{HasJoined, HasJoinedBoth, HasTakenRun}
pub use Rattle.home_states.specs.LiveHomes.{BeginsAs, FitsScript, IsBetweenIn, IsCounted, IsLive, IsWindowOf, LiveState, hub_in, hub_of, number_in, tickets_given}
pub use Rattle.home_states.specs.Openings.{HasClosed, HasOpened, IsOpenedOn, first_against_home, handed_shows, live_setting_on}
pub use Rattle.home_states.specs.Rebuilt.{AreFrom, AreRefusedAt, DidNothing, HasBegunAt, HasSentProbe, HasStepped, HasWaited, IsFrom, IsRebuilt, MayNotBeginAt, ProbesInOrder, StepsInOrder, WasMade, WereMade, first_against_begin, is_refused, sends_no_probe, why_no_time}
pub use Rattle.home_states.specs.SameHomes.{OutAs, SameBetween, SameFrom, SameHome, SamePhase, SameWindowOf, closed_as, out_as, out_in}
pub use Rattle.home_states.specs.Steps.{HasAnswered}
unfoldable pub use Rattle.home_states.specs.Tickets.{sum_below}
pub use Rattle.home_states.specs.Tickets.{CallsAreFew, TicketsAreGiven, TicketsAreLow, WindowTickets, call_told, count_after, least_entries, numbered, numbered_call, numbered_turn, tickets_in}
pub use Rattle.home_states.specs.contracts.homes.LiveHome.{the_view}
pub use Rattle.home_states.specs.declared.homes.Phase.{Phase}
pub use Rattle.home_states.specs.declared.homes.Phase.TheVariants.{Between, InWindow, Moving}
pub use Rattle.home_types.specs.declared.modes.Mode.{Mode}
pub use Rattle.home_types.specs.declared.numbers.RunNo.{RunNo}
pub use Rattle.home_types.specs.declared.worlds.Stand.{Stand}
pub use Rattle.hub_core.proofs.Cited.{decide_is, gave_back, gave_probe_back, length_with, may_open, took_after, took_choice, took_none, took_probe}
pub use Rattle.hub_core.specs.Homes.{HomeIsKept, HomeState, setting_for}
pub use Rattle.hub_core.specs.HubCalls.{Answers, DeviceGoesOut, IsGiven, IsOpened, IsProbeGiven, IsProbed, IsTurn, SameWindow, WindowIsClosed, carried_by}
pub use Rattle.hub_core.specs.HubSteps.{CallAnswer, Carried, Gave, HubState, IsSlipOf, ProbeTaken, Probed, Returned, SlipFits, carrying, give_if, is_kept, same_carried, task_of}
pub use Rattle.hub_core.specs.OpenHubs.{OpenHub, carried_in, configuration_of, hub_state_of}
pub use Rattle.hub_core.specs.Openings.{MayOpen, is_mode, names_values_of}
pub use Rattle.hub_core.specs.Steps.{Choice, HandsOut, Moves, Waits, after_choice, after_give, after_take, after_take_probe, at_moment, choice_of, decide, give_entries, may_probe, opened, probe_grip, with_entries, with_grip}
pub use Rattle.hub_core.specs.declared.turns.Turn.{Turn}
pub use Rattle.hub_core.specs.declared.turns.Turn.TheVariants.{Absent, Go, Moved, Over, Wait}
pub use Rattle.hub_table.specs.Answers.{HasComeBack}
pub use Rattle.hub_table.specs.Tables.{IsBack, SlipAndTask, StoodInOrder, TookInOrder, lent_by, taken_of}
pub use Rattle.hub_table.specs.declared.told.Taken.{Taken}
pub use Rattle.live_scripts.specs.Growth.{HasBegun, HasRun, new_run, windows_before}
pub use Rattle.lock_leasing.specs.Configurations.{Configuration, Grip, is_out, point_of, read_of}
pub use Rattle.lock_leasing.specs.declared.purposes.Purpose.{Purpose}
pub use Rattle.routine_reader.specs.Rosters.{kinds_of, routine_commands, run_of_text, script_runs, start_home}
pub use Rattle.routine_reader.specs.Scripts.{PlainDevice, PlainRoutine, PlainScript, PlainWindow, plain_device, plain_routine, plain_script, plain_window}
pub use Rattle.routine_reader.specs.declared.scripts.Script.{Script}
pub use Rattle.routine_reader.specs.declared.scripts.WindowText.{WindowText}
pub use Rattle.std.proofs.Common.{ap, append-nil, append_assoc, ap₂, arith, drop, inl, inr, length-append, refl, reverse, rules, subst, subst₂, sym, ◌∙◌}
pub use Rattle.std.proofs.lemmas.Bool.{and_from, eq-eqb, eqb-true, lt-ltb}
pub use Rattle.std.proofs.lemmas.Grind.{common_steps}
pub use Rattle.std.proofs.lemmas.List.{ext_get_or, length-map, length-set, reverse-append}
pub use Rattle.std.proofs.lemmas.Option.{get_or_from_slice_get, slice_get-map, slice_get_within}
pub use Rattle.std.specs.Prelude.{All, Bool, Err, IfErr, IfOk, IfSome, IsTrue, IsUtf8, List, None, Ok, Option, Result, Some, [], false, if◌then◌else◌, is_some, length, map, max, nat_le, nat_lt, not, option_map, slice_get, slice_set, suc, take, true, unwrap_or, zero, ℕ, ⊤, ◌&&◌, ◌*◌, ◌++◌, ◌+◌, ◌-◌, ◌/◌, ◌<◌, ◌==◌, ◌^◌, ◌∷◌, ◌≡◌, ◌≢◌, ◌≤◌, ◌⊎◌}
