-- The words that the worked windows are written in, passed on: a window names them in one line.
unfoldable pub use Rattle.command_rules.specs.ClosedSets.{chosen, closure, either_of, others}
pub use Rattle.command_rules.specs.Rosters.{device_no, run_no}
pub use Rattle.device_gate.specs.declared.slips.Told.TheVariants.{Died, Sensed, Worked}
unfoldable pub use Rattle.history_book.specs.Gaps.{gap_set, split_of}
pub use Rattle.history_book.specs.Lines.{split_at}
pub use Rattle.history_book.specs.Settings.{Setting}
pub use Rattle.history_book.specs.declared.entries.Cause.TheVariants.{DownAtEnd, Lost, MustDown, Refuted, Revoked}
pub use Rattle.history_book.specs.declared.entries.End.TheVariants.{Aborted, Committed}
pub use Rattle.history_book.specs.declared.entries.Entry.{Entry}
pub use Rattle.history_book.specs.declared.entries.Entry.TheVariants.{Arrived, Did, Doomed, Ended, Fell, Placed, Rose, Undid}
pub use Rattle.home_types.specs.declared.commands.Answer.TheVariants.{Down, Fine, Found, Skipped}
pub use Rattle.home_types.specs.declared.commands.Guard.TheVariants.{Always, Below, Is}
pub use Rattle.home_types.specs.declared.commands.Job.TheVariants.{Check, Load, Set, Store}
pub use Rattle.home_types.specs.declared.items.Item.TheVariants.{Back, Failed, Ran}
pub use Rattle.home_types.specs.declared.kinds.Kind.TheVariants.{Range, States}
pub use Rattle.home_types.specs.declared.modes.Scheduler.TheVariants.{Fcfs, JustInTime, Timeline}
pub use Rattle.home_types.specs.declared.modes.Visibility.TheVariants.{Eventual, Global, Partitioned, Weak}
pub use Rattle.hub_core.specs.Steps.{Absent, HandsOut, Moves, Over, Waits}
pub use Rattle.hub_core.specs.declared.waits.Why.TheVariants.{Behind, Busy, Denied, Dirty, Follow, Strict}
pub use Rattle.lock_leasing.specs.Configurations.{no_grips}
pub use Rattle.lock_leasing.specs.declared.purposes.Purpose.TheVariants.{Commands, Probes, Undoes}
pub use Rattle.lock_leasing.specs.Places.{At, DeniedBy}
pub use Rattle.std.specs.Prelude.{List, None, Some, [], false, refl, slice_set, true, ◌++◌, ◌∷◌, ◌≡◌}
pub use Rattle.worked_windows.proofs.Tables.{IsWeaklyWorked, IsWorked, Table, WeakTable, give, held, home_of_four, less, more, points_from, row, still, words_along}
