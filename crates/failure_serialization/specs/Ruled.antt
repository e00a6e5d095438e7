-- What the failure or the restart of a device does by the rules of a window: in each configuration
-- to which table, line and history belong.
use Rattle.history_book.specs.Histories.{with_event}
use Rattle.history_book.specs.Readings.{Reading, did}
use Rattle.history_book.specs.declared.entries.Kept.{Kept}
use Rattle.home_types.specs.Numbers.{DeviceId}
use Rattle.home_types.specs.declared.items.Item.{Item}
use Rattle.home_types.specs.declared.numbers.DeviceNo.{DeviceNo}
use Rattle.home_types.specs.declared.numbers.RunNo.{RunNo}
use Rattle.lineage_table.specs.Lineages.{LineageState}
use Rattle.lock_leasing.specs.Configurations.{Configuration, read_of}
use Rattle.lock_leasing.specs.Standings.{IsStandingOf, window_parts}
use Rattle.lock_leasing.specs.Waits.{lost_by}
use Rattle.serial_line.specs.Marks.{Mark, items_of}
use Rattle.std.specs.Prelude.{IfSome, List, Option, false, option_map, ◌≡◌}

-- the run, where one is named, has no answer on the device
abbrev pub HasNoAnswer : Reading → Option RunNo → DeviceId → Type 0
HasNoAnswer n first d = IfSome first (λ r. did n r.0 d ≡ false)

-- the event comes into the line where the rules put it, where the run whose first access has just
-- died has no answer there yet
abbrev pub IsEventOf : List LineageState → List Mark → List Kept → Option RunNo → DeviceNo → Item
    → List Mark → Type 0
IsEventOf table line history first d event after =
    (s : Configuration) → IsStandingOf s (window_parts s table line history)
    → HasNoAnswer (read_of s) first d.0 → items_of after ≡ with_event s.setting (read_of s) d event

-- the run is the one that is lost by the rules where the device fails
abbrev pub IsLossOf : List LineageState → List Mark → List Kept → DeviceId → Option RunNo → Type 0
IsLossOf table line history d lost =
    (s : Configuration) → IsStandingOf s (window_parts s table line history)
    → option_map (λ r. r.0) lost ≡ lost_by s.setting (read_of s) d
