-- Items of the line that stand behind another one, as they are gathered.
use Rattle.command_rules.specs.Items.{is_ran, of_run}
use Rattle.command_rules.specs.Rosters.{Run, followed_by, follows, is_run}
use Rattle.history_book.specs.Lines.{is_item_on}
use Rattle.home_types.specs.Limits.{most_devices, most_runs}
use Rattle.home_types.specs.Numbers.{DeviceId, RunId}
use Rattle.home_types.specs.declared.items.Item.TheVariants.{Back, Failed, Ran}
use Rattle.home_types.specs.declared.items.Item.{Item}
use Rattle.home_types.specs.declared.numbers.RunNo.{RunNo}
use Rattle.std.specs.FinSet as set
use Rattle.std.specs.List.{list_any}
use Rattle.std.specs.Prelude.{IsTrue, List, Some, false, slice_get, slice_index_or, ℕ, ◌<◌, ◌≡◌, ◌≤◌}
use Rattle.timeline_scheduler.specs.declared.gathered.Gathered.{Gathered}

-- the item is a run of the roster, which follows one of a window's numbers or none, or an event of
-- a device that a home may have
abbrev pub IsKnown : List Run → Item → Type 0
IsKnown runs (Ran x) =
    IsTrue (is_run runs x.0) × (x.0 ≤ most_runs)
    × ((f : RunNo) → followed_by runs x.0 ≡ Some f → f.0 ≤ most_runs)
IsKnown runs (Failed d k) = d.0 < most_devices
IsKnown runs (Back d k) = d.0 < most_devices

abbrev pub ItemsAreKnown : List Run → List Item → Type 0
ItemsAreKnown runs items = (at : ℕ) (i : Item) → slice_get items at ≡ Some i → IsKnown runs i

-- these are the devices of the items, the runs among them, and those that these follow
pub record IsGathered (runs : List Run) (items : List Item) (gathered : Gathered) : Type 0 where
  pub devices : (d : DeviceId) → set.contains gathered.devices d
      ≡ list_any (is_item_on runs d) items
  pub among : (x : RunId) → x ≤ most_runs
      → slice_index_or gathered.runs x false ≡ list_any (is_ran x) items
  pub leaders : (x : RunId) → x ≤ most_runs
      → slice_index_or gathered.leaders x false ≡ list_any (of_run (λ q. follows runs q x)) items
