-- What the line, the ends in the history and the table tell of the runs before a run, and of the
-- devices that it has touched.
use Rattle.command_rules.specs.Items.{is_ran}
use Rattle.command_rules.specs.Rosters.{Run, is_run, touches}
use Rattle.history_book.specs.Books.{end_of}
use Rattle.history_book.specs.declared.entries.Kept.{Kept}
use Rattle.home_types.specs.Numbers.{DeviceId, RunId}
use Rattle.home_types.specs.declared.items.Item.TheVariants.{Back, Failed, Ran}
use Rattle.home_types.specs.declared.items.Item.{Item}
use Rattle.home_types.specs.declared.modes.Visibility.TheVariants.{Eventual, Global, Partitioned, Weak}
use Rattle.home_types.specs.declared.modes.Visibility.{Visibility}
use Rattle.home_types.specs.declared.numbers.RunNo.{RunNo}
use Rattle.lineage_table.specs.Lineages.{LineageState, lineage_at}
use Rattle.serial_line.specs.Marks.{Mark, mark_has_touched}
use Rattle.std.specs.List.{range_with_len}
use Rattle.std.specs.Option.{option_or}
use Rattle.std.specs.Prelude.{Bool, IsTrue, List, None, Option, Some, [], false, find, if◌then◌else◌, is_none, length, not, slice_get, true, ℕ, ⊤, ◌&&◌, ◌∷◌, ◌≡◌}

abbrev pub is_strict_model : Visibility → Bool
is_strict_model Weak = false
is_strict_model Global = true
is_strict_model Partitioned = true
is_strict_model Eventual = false

-- the item's run, where it has not ended and the test holds of it
abbrev pub unended_run : (RunId → Bool) → List Kept → Item → Option RunNo
unended_run test history (Ran x) = if is_none (end_of history x.0) && test x.0 then Some x else None
unended_run test history (Failed d k) = None
unended_run test history (Back d k) = None

-- the first such run before r
abbrev pub first_unended_before : (RunId → Bool) → List Kept → RunId → List Item → Option RunNo
first_unended_before test history r [] = None
first_unended_before test history r (i ∷ is) =
    if is_ran r i then None
    else option_or (unended_run test history i) (first_unended_before test history r is)

-- where the item is a run, it is one of these
abbrev pub IsRunOf : List Run → Item → Type 0
IsRunOf runs (Ran x) = IsTrue (is_run runs x.0)
IsRunOf runs (Failed d k) = ⊤
IsRunOf runs (Back d k) = ⊤

-- each run of the line is one of these
abbrev pub AreRunsOf : List Run → List Item → Type 0
AreRunsOf runs items = (at : ℕ) (i : Item) → slice_get items at ≡ Some i → IsRunOf runs i

-- the device is counted down, and the run has it in its footprint and has touched it
abbrev pub is_down_for : List LineageState → List Mark → List Run → RunId → DeviceId → Bool
is_down_for table line runs r d =
    not (lineage_at table d).up && touches runs r d && mark_has_touched r d line

-- the smallest such device
abbrev pub first_down_for : List LineageState → List Mark → List Run → RunId → Option DeviceId
first_down_for table line runs r =
    find (is_down_for table line runs r) (range_with_len 0 (length table))
