-- The items of a line, each with the devices that it has touched, and the runs with whether they
-- have ended.
use Rattle.command_rules.specs.Apart.{meet}
use Rattle.command_rules.specs.Items.{is_ran, of_run}
use Rattle.command_rules.specs.Rosters.{Run}
use Rattle.home_types.specs.Numbers.{DeviceId, LinePlace, RunId}
use Rattle.home_types.specs.declared.items.Item.{Item}
use Rattle.home_types.specs.declared.items.Item.TheVariants.{Back, Failed, Ran}
use Rattle.home_types.specs.contracts.items.Item as the_item
use Rattle.command_rules.specs.Searches.{last_place}
use Rattle.home_types.specs.DeviceSets.{Devices}
use Rattle.serial_line.specs.KeptRuns.{run_code}
use Rattle.std.specs.Coded.{Coded, code_by, coded_bool, coded_list, coded×, coded_ℕ}
use Rattle.std.specs.FinSet as set
use Rattle.std.specs.List.{list_any}
use Rattle.std.specs.Prelude.{Bool, List, Option, [], false, filter, if◌then◌else◌, insert, map, not, position, refl, true, ℕ, ◌&&◌, ◌+◌, ◌==◌, ◌∷◌}

-- an item of the line, the set of devices that it has touched, and whether it is a run that has
-- ended
pub record Mark : Type 0 where
  pub item : Item
  pub touched : Devices
  pub ended : Bool

-- the line, the labels of its items in their order, how many more items it takes with no memory,
-- how many of its first items are sealed, and the runs of its window, with one command for each of
-- their devices
pub record Marked : Type 0 where
  pub marks : List Mark
  pub labels : List ℕ
  pub spare : ℕ
  pub sealed : ℕ
  pub runs : List Run

-- a mark is stored as the tuple of its fields, and a line too
abbrev pub mark_code : Coded Mark
mark_code =
    code_by (Item × (Devices × Bool))
    (coded× the_item.the_row.coded (coded× (set.code coded_ℕ) coded_bool))
    (λ m. (m.item, (m.touched, m.ended)))
    (λ p. record { item = p.0; touched = p.1.0; ended = p.1.1 }) (λ m. refl)

abbrev pub marked_code : Coded Marked
marked_code =
    code_by (List Mark × (List ℕ × (ℕ × (ℕ × List Run)))) (coded× (coded_list mark_code)
    (coded× (coded_list coded_ℕ) (coded× coded_ℕ (coded× coded_ℕ (coded_list run_code)))))
    (λ l. (l.marks, (l.labels, (l.spare, (l.sealed, l.runs))))) (λ p. record {
      marks = p.0;
      labels = p.1.0;
      spare = p.1.1.0;
      sealed = p.1.1.1.0;
      runs = p.1.1.1.1;
    }) (λ l. refl)

abbrev pub items_of : List Mark → List Item
items_of marks = map (λ m. m.item) marks

-- the item is the device's failure of this number
abbrev pub is_failure : DeviceId → ℕ → Item → Bool
is_failure d k (Ran q) = false
is_failure d k (Failed e n) = (e.0 == d) && (n == k)
is_failure d k (Back e n) = false

-- the item is the device's restart of this number
abbrev pub is_restart_of : DeviceId → ℕ → Item → Bool
is_restart_of d k (Ran q) = false
is_restart_of d k (Failed e n) = false
is_restart_of d k (Back e n) = (e.0 == d) && (n == k)

-- it is this item
abbrev pub is_item : Item → Item → Bool
is_item (Ran r) = is_ran r.0
is_item (Failed d k) = is_failure d.0 k
is_item (Back d k) = is_restart_of d.0 k

-- no item stands twice
abbrev pub all_differ : List Item → Bool
all_differ [] = true
all_differ (i ∷ is) = not (list_any (is_item i) is) && all_differ is

-- the item stands in the line
abbrev pub stands : Item → List Mark → Bool
stands item marks = list_any (is_item item) (items_of marks)

-- the devices that an item has touched, where the run has touched these: an event its own alone
abbrev pub touched_by : Item → Devices → Devices
touched_by (Ran r) devices = devices
touched_by (Failed d k) devices = set.insert set.empty d.0
touched_by (Back d k) devices = set.insert set.empty d.0

-- an item as it comes into the line: a run has touched nothing and not ended, an event has touched
-- its device
abbrev pub untouched : Item → Mark
untouched item = record { item = item; touched = touched_by item set.empty; ended = false }

-- the item stands at this place, the others in their order, with what is told of them
abbrev pub with_item : LinePlace → Item → List Mark → List Mark
with_item at item marks = insert marks at (untouched item)

-- the others stand in their order, with what is told of them
abbrev pub marks_without : RunId → List Mark → List Mark
marks_without r marks = filter (λ m. not (is_ran r m.item)) marks

-- the device too, where the mark is the run's
abbrev pub with_touch : RunId → DeviceId → Mark → Mark
with_touch r d m = if is_ran r m.item then record m { touched = set.insert m.touched d } else m

-- the run has touched the device too, and all else stays
abbrev pub touching : RunId → DeviceId → List Mark → List Mark
touching r d marks = map (with_touch r d) marks

-- .. and it has ended, where the mark is the run's
abbrev pub with_end : RunId → Mark → Mark
with_end r m = if is_ran r m.item then record m { ended = true } else m

-- the run has ended, and all else stays
abbrev pub settling : RunId → List Mark → List Mark
settling r marks = map (with_end r) marks

-- it is a run that has not ended
abbrev pub is_open_run : Mark → Bool
is_open_run m = of_run (λ r. not m.ended) m.item

-- the number of items before the first such run, all where there is none
abbrev pub front_of : List Mark → ℕ
front_of [] = 0
front_of (m ∷ ms) = if is_open_run m then 0 else front_of ms + 1

-- the run has touched the device
abbrev pub mark_has_touched : RunId → DeviceId → List Mark → Bool
mark_has_touched r d marks = list_any (λ m. is_ran r m.item && set.contains m.touched d) marks

abbrev pub place_of : Item → List Mark → Option LinePlace
place_of item marks = position (is_item item) (items_of marks)

-- the item has touched one of these devices
abbrev pub meets : Devices → Mark → Bool
meets devices m = list_any (set.contains m.touched) (set.items devices)

-- the last place that has touched one of these devices
abbrev pub last_meeting : Devices → List Mark → Option LinePlace
last_meeting devices marks = last_place (meets devices) marks

-- the items of the marks meet
abbrev pub meet_marks : List Run → Mark → Mark → Bool
meet_marks runs m n = meet runs m.item n.item
