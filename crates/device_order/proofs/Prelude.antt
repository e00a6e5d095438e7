-- What many proofs of this crate cite, passed on from one place.
pub use Rattle.command_rules.specs.Rosters.{Run, commands_of, device_no, is_on, run_no, touches}
pub use Rattle.command_rules.specs.Serial.{SerialRun, Served, serial_execution, serve}
unfoldable pub use Rattle.device_order.specs.Changes.{is_calm}
pub use Rattle.device_order.specs.Changes.{CommandOut, DeviceChange, DeviceRestarted, DownAgain, DownFirst, FirstAccessDied, GuardSkipped, IsAnswered, LaterAccessDied, ProbeDied, ProbeDiedUnderRun, ProbeFoundDown, ProbeFoundUp, ProbeOut, ReadAnswered, RunAborted, RunCommitted, RunDoomed, RunPlaced, UndoAnswered, UndoDied, UndoDropped, UndoOut, WriteAnswered, first_read, new_usage, probe_for}
pub use Rattle.device_order.specs.Claims.{ReadFinds, StandsAt, value_in_effect}
pub use Rattle.device_order.specs.Invariant.{DeviceFits, DeviceInvariant, OutFits}
unfoldable pub use Rattle.device_order.specs.LineChanges.{Lacks, line_with_event}
pub use Rattle.device_order.specs.LineChanges.{SameBut, waits_at}
unfoldable pub use Rattle.device_order.specs.LineEntries.{entries}
pub use Rattle.device_order.specs.LineEntries.{command_grip, entry_if, entry_of, stage_of, usage, with_order_entry}
unfoldable pub use Rattle.device_order.specs.LineOrders.{EventsAreHomed, all_committed, serial_order, served}
pub use Rattle.device_order.specs.LineOrders.{LineIsSerial, walk_stand}
unfoldable pub use Rattle.device_order.specs.LineWords.{RunsAreDistinct, any_run, is_calm_line, last_in_effect}
pub use Rattle.device_order.specs.LineWords.{CutAt, at_device, standing_value_on}
pub use Rattle.device_order.specs.Records.{DeviceRecord, NothingIsOut, new_device, walk_after, walk_start}
unfoldable pub use Rattle.device_order.specs.RunStates.{paired, remaining}
pub use Rattle.device_order.specs.RunStates.{IsAllAnswered, RunState, RunStates, answered_commands, device_summary, rest, summary_of, uses_device}
unfoldable pub use Rattle.device_order.specs.Summaries.{AnswersFit, AreHomed, NoCommandFails, summary}
pub use Rattle.device_order.specs.Summaries.{AnswerFits, Answered, DeviceSummary, FitsSummary, MeetsHome, MeetsStand, Summary, blank, device_summary_then, first_view, overwritten, pair_answer, pair_command, summary_then, unanswered, was_done}
pub use Rattle.device_order.specs.Usages.{awaits_first, counts_serially, doomed_stage, has_committed_write, has_pending, has_uncommitted_write, has_used_device, has_write, holds_command, holds_grip, is_free, is_in_effect, is_read, is_restart, is_seen_down, is_up, spans_up, stage_is_committed, stage_is_doomed, stage_is_open}
unfoldable pub use Rattle.device_order.specs.Walks.{WalkHolds, effective, has, walk_end, with_event}
pub use Rattle.device_order.specs.Walks.{Commands, EntryFits, GripFits, GripOut, Home, Undo, UsageFits, WalkState, after_entry, after_usage, grip_out_after, if_written, is_command_out, is_home, is_write_settled, written_or_first}
pub use Rattle.device_order.specs.WindowSteps.{AccessDies, ChangesInPlace, CommandGoesOut, DeviceRestarts, DownIsAnswered, GetsAnswer, HasDoneNothing, IsHomeAt, IsStill, KeepsAnswers, KeepsElsewhere, KeepsRuns, MayUndo, ProbeDies, ProbeDiesUnderRun, ProbeFindsDown, ProbeFindsUp, ProbeGoesOut, ReadIsAnswered, RunCommits, RunIsDoomed, RunIsPlaced, RunLeaves, SkipIsAnswered, UndoDies, UndoGoesOut, UndoIsAnswered, UndoIsDropped, WindowStarts, WriteIsAnswered, with_event_in}
pub use Rattle.device_order.specs.Windows.{HasLiveWriteAt, IsCovered, IsPendingAt, LineIsWhole, OrderIsSerial, RunInvariant, StandsBefore, WindowInvariant, WindowModel, device_record, walked_value}
pub use Rattle.device_order.specs.declared.records.Event.{Event}
pub use Rattle.device_order.specs.declared.records.Event.TheVariants.{Failure, Restart}
pub use Rattle.device_order.specs.declared.records.HeldGrip.{HeldGrip}
pub use Rattle.device_order.specs.declared.records.HeldGrip.TheVariants.{Free, Reads, Undoes, Writes}
pub use Rattle.device_order.specs.declared.records.OrderEntry.{OrderEntry}
pub use Rattle.device_order.specs.declared.records.OrderEntry.TheVariants.{Occurred, Used}
pub use Rattle.device_order.specs.declared.records.Probe.{Probe}
pub use Rattle.device_order.specs.declared.records.Probe.TheVariants.{Asks, Restores, Unprobed}
pub use Rattle.device_order.specs.declared.records.RunStage.{RunStage}
pub use Rattle.device_order.specs.declared.records.RunStage.TheVariants.{Committed, Done, Pending}
pub use Rattle.device_order.specs.declared.records.Usage.{Usage}
pub use Rattle.home_types.specs.Commands.{Effect, Execution, command_effect, done_effect, driven, execute, fails, holds, reads, register_after, routine_execution, with_effect}
pub use Rattle.home_types.specs.HomeStates.{nowhere, stand_at, with_up}
pub use Rattle.home_types.specs.Kinds.{kind_at}
pub use Rattle.home_types.specs.declared.commands.Answer.{Answer}
pub use Rattle.home_types.specs.declared.commands.Command.{Command}
pub use Rattle.home_types.specs.declared.commands.View.{View}
pub use Rattle.home_types.specs.declared.commands.View.TheVariants.{Up}
pub use Rattle.home_types.specs.declared.items.Item.{Item}
pub use Rattle.home_types.specs.declared.items.Item.TheVariants.{Back, Failed, Ran}
pub use Rattle.home_types.specs.declared.kinds.Kind.{Kind}
pub use Rattle.home_types.specs.declared.worlds.Stand.{Stand}
pub use Rattle.std.proofs.Common.{Bool, List, None, Option, Some, [], ap, append-nil, append_assoc, arith, false, fold, inl, inr, length, length-set, map, refl, set, subst, subst₂, suc, sym, true, zero, ℕ, ◌++◌, ◌<◌, ◌∙◌, ◌∷◌, ◌≡◌, ◌≢◌, ◌≤◌, ◌⊎◌}
pub use Rattle.std.proofs.lemmas.Bool.{and_from, and_parts, both_ways, eq-eqb, or_from, or_left, or_parts, or_right}
pub use Rattle.std.proofs.lemmas.Grind.{common_steps, fold-append}
pub use Rattle.std.specs.Prelude.{if◌then◌else◌, is_some, not, option_map, slice_set, unwrap_or, ◌&&◌, ◌==◌, ◌||◌}
