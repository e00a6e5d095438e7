use Rattle.history_book.specs.declared.records.WindowRecord.{WindowRecord}
use Rattle.hub_commands.proofs.told_windows.small_times.Given as goal
use Rattle.printed_records.specs.SmallTimes.{are_small}
use Rattle.std.proofs.Common.{take, true, ◌≡◌}
use Rattle.std.specs.List.{list_all}

-- the records so far have small times
abbrev pub invariant-windows : goal.invariant-windows
invariant-windows l = list_all (λ (closed : WindowRecord). are_small closed.history.items) (take l.window-index l.windows) ≡ true
