-- By which run a device is denied, as the table, the line, the history and the roster tell it.
use Rattle.command_rules.specs.Items.{is_ran}
use Rattle.command_rules.specs.Rosters.{Run, device_no, reads_first, touches}
use Rattle.history_book.specs.declared.entries.Kept.{Kept}
use Rattle.home_types.specs.Numbers.{DeviceId, LinePlace, RunId}
use Rattle.home_types.specs.declared.numbers.RunNo.{RunNo}
use Rattle.jit_scheduler.specs.declared.denials.Denial.{Denial}
use Rattle.lineage_table.specs.Accesses.{effective_writer}
use Rattle.lineage_table.specs.Lineages.{accesses_at}
use Rattle.lineage_table.specs.declared.accesses.Access.{Access}
use Rattle.lock_leasing.specs.Holders.{holder_before}
use Rattle.lock_leasing.specs.Places.{first_some}
use Rattle.lock_leasing.specs.Standings.{WindowParts}
use Rattle.serial_line.specs.Marks.{Mark, items_of}
use Rattle.std.specs.List.{list_any, range_with_len}
use Rattle.std.specs.Option.{option_or}
use Rattle.std.specs.Prelude.{Bool, List, None, Option, Some, if◌then◌else◌, length, option_and_then, option_map, take}

-- the run is one of the items before the place
abbrev pub stands_before : LinePlace → List Mark → RunId → Bool
stands_before place line x = list_any (is_ran x) (take place (items_of line))

-- the run, where it stands before the place
abbrev pub only_before : LinePlace → List Mark → Option RunNo → Option RunNo
only_before place line run =
    option_and_then (λ (x : RunNo). if stands_before place line x.0 then Some x else None) run

-- the run by which the device is denied to r: the first holder, where it stands before the place,
-- else, where r first reads the device, the effective writer
abbrev pub denier : List Mark → List Kept → List Run → RunId → LinePlace → DeviceId
    → List Access → Option RunNo
denier line history runs r place d accesses =
    option_or (only_before place line (holder_before history r accesses))
    (if reads_first runs r d then effective_writer accesses else None)

-- the denial of the device, where it is one of r
abbrev pub denial_on : WindowParts → RunId → LinePlace → DeviceId → Option Denial
denial_on parts r place d =
    if touches parts.runs r d then option_map (λ x. record { device = device_no d; run = x })
    (denier parts.line parts.history parts.runs r place d (accesses_at parts.table d)) else None

-- the denial of the smallest device
abbrev pub first_denial : WindowParts → RunId → LinePlace → Option Denial
first_denial parts r place =
    first_some (denial_on parts r place) (range_with_len 0 (length parts.table))
