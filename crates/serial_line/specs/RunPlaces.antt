-- Where the runs of a line stand, as it is kept by their numbers.
use Rattle.command_rules.specs.Items.{is_ran}
use Rattle.home_types.specs.Numbers.{LinePlace, RunId}
use Rattle.home_types.specs.declared.items.Item.TheVariants.{Back, Failed, Ran}
use Rattle.home_types.specs.declared.items.Item.{Item}
use Rattle.serial_line.specs.Marks.{Mark, items_of}
use Rattle.std.specs.Prelude.{Bool, List, None, Option, Some, if◌then◌else◌, length, nat_lt, position, slice_index_or, slice_set, true, ◌<◌, ◌≡◌}

-- the place of the run
abbrev pub run_place : RunId → List Mark → Option LinePlace
run_place r marks = position (is_ran r) (items_of marks)

-- the places are, by the numbers of the runs, those at which they stand
abbrev pub AreRunPlaces : List Mark → List (Option LinePlace) → Type 0
AreRunPlaces marks places =
    (r : RunId) → r < length places → slice_index_or places r None ≡ run_place r marks

-- it is before this place, or none
abbrev pub is_before_place : LinePlace → Option LinePlace → Bool
is_before_place from None = true
is_before_place from (Some k) = nat_lt k from

-- the same of the runs that stand before this place, and of those that are not in the line
abbrev pub ArePlacesBefore : LinePlace → List Mark → List (Option LinePlace) → Type 0
ArePlacesBefore from marks places =
    (r : RunId) → r < length places → is_before_place from (run_place r marks) ≡ true
    → slice_index_or places r None ≡ run_place r marks

-- the run that the item is has this place, where one is kept of it
abbrev pub with_place : Item → Option LinePlace → List (Option LinePlace) → List (Option LinePlace)
with_place (Ran r) place places =
    if nat_lt r.0 (length places) then slice_set places r.0 place else places
with_place (Failed d k) place places = places
with_place (Back d k) place places = places
