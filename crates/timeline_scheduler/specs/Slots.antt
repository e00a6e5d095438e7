-- What the slots of a scratch become as items of the line are passed, and as a run is planned
-- behind them; which runs outside do not fit.
use Rattle.command_rules.specs.Items.{is_ran}
use Rattle.command_rules.specs.Rosters.{Run, reads_first, touches, writes_on}
use Rattle.history_book.specs.Books.{doom_of}
use Rattle.history_book.specs.Plans.{plan_more}
use Rattle.history_book.specs.Readings.{Planned}
use Rattle.history_book.specs.declared.entries.Kept.{Kept}
use Rattle.home_types.specs.Numbers.{DeviceId, Moment, RunId}
use Rattle.home_types.specs.declared.commands.Command.{Command}
use Rattle.home_types.specs.declared.items.Item.TheVariants.{Back, Failed, Ran}
use Rattle.home_types.specs.declared.items.Item.{Item}
use Rattle.lineage_table.specs.Accesses.{access_of, has_access, is_released}
use Rattle.lineage_table.specs.Lineages.{LineageState, accesses_at}
use Rattle.lineage_table.specs.declared.accesses.Access.{Access}
use Rattle.std.specs.List.{list_any, range_with_len}
use Rattle.std.specs.Prelude.{Bool, List, None, Option, Some, [], false, filter, fold, if◌then◌else◌, is_some, length, map, max, nat_lt, not, slice_index_or, slice_set, true, ℕ, ◌&&◌, ◌<◌, ◌≡◌}
use Rattle.timeline_scheduler.specs.declared.slots.Slot.{Slot}

-- Slots

-- of a device nothing was passed, and nothing is planned
abbrev pub no_slot : Slot
no_slot = record { free = 0; planned = None }

-- what is known of the device
abbrev pub slot_at : List Slot → DeviceId → Slot
slot_at slots d = slice_index_or slots d no_slot

-- nothing is known of any of so many
abbrev pub cleared : List Slot → List Slot
cleared slots = map (λ s. no_slot) slots

-- The devices of a run

-- each command is on a device of the home
abbrev pub RunsAreHomed : ℕ → List Run → Type 0
RunsAreHomed devices runs = (x : RunId) (d : DeviceId) → touches runs x d ≡ true → d < devices

-- the devices of so many that the run has in its footprint
abbrev pub devices_among : List Run → RunId → ℕ → List DeviceId
devices_among runs r devices = filter (touches runs r) (range_with_len 0 devices)

-- Behind the items of a set

-- the run is among these items, and not doomed
abbrev pub is_counted : List Kept → List Item → RunId → Bool
is_counted history items x = list_any (is_ran x) items && not (is_some (doom_of history x))

-- the latest planned end with this access, where it was this one without it: that of runs that are
-- counted and are not done with the device
abbrev pub later_end : (RunId → Bool) → Moment → Access → Moment
later_end counted end a =
    if not (is_released a.status) && counted a.run.0 then max end a.to else end

-- .. of all of these accesses
abbrev pub latest_end : (RunId → Bool) → List Access → Moment
latest_end counted accesses = fold (later_end counted) 0 accesses

-- the device is free then
abbrev pub slot_behind : List LineageState → (RunId → Bool) → DeviceId → Slot → Slot
slot_behind table counted d slot =
    record slot { free = latest_end counted (accesses_at table d) }

-- the planned end of the access, where there is one
abbrev pub end_of_access : Option Access → Moment
end_of_access None = 0
end_of_access (Some a) = a.to

-- where r begins on the device with a read, and x writes it, it is free at the planned end of the
-- whole of x
abbrev pub slot_waiting : List Run → RunId → RunId → Moment → DeviceId → Slot → Slot
slot_waiting runs r x whole d slot =
    if nat_lt slot.free whole && (reads_first runs r d && writes_on runs x d)
    then record slot { free = whole } else slot

-- the slot of the device is changed so
abbrev pub changed_on : (DeviceId → Slot → Slot) → List Slot → DeviceId → List Slot
changed_on change slots d = slice_set slots d (change d (slot_at slots d))

-- .. those of all of these devices
abbrev pub changed : (DeviceId → Slot → Slot) → List DeviceId → List Slot → List Slot
changed change devices slots = fold (changed_on change) slots devices

-- the planned end of the whole run, by its accesses
abbrev pub whole_passed : List LineageState → RunId → Moment
whole_passed table x =
    fold (λ t d. max t (end_of_access (access_of x (accesses_at table d)))) 0
    (filter (λ d. has_access x (accesses_at table d)) (range_with_len 0 (length table)))

-- x stands before r, which waits for it where it is such a run
abbrev pub waited_run : List LineageState → List Run → RunId → RunId → List Slot → List Slot
waited_run table runs r x slots =
    changed (slot_waiting runs r x (whole_passed table x)) (devices_among runs r (length slots))
    slots

-- the item does
abbrev pub waited_item : List LineageState → List Run → RunId → Item → List Slot → List Slot
waited_item table runs r (Ran x) slots = waited_run table runs r x.0 slots
waited_item table runs r (Failed d k) slots = slots
waited_item table runs r (Back d k) slots = slots

-- each device of r is free when none of these items holds it
abbrev pub slots_passed : List LineageState → List Kept → List Run → RunId → List Item
    → List Slot → List Slot
slots_passed table history runs r items slots =
    changed (slot_behind table (is_counted history items)) (devices_among runs r (length slots))
    (cleared slots)

-- .. and none that r waits for: all of these stand before r, and no other
abbrev pub slots_behind : List LineageState → List Kept → List Run → RunId → List Item
    → List Slot → List Slot
slots_behind table history runs r items slots =
    fold (λ ss i. waited_item table runs r i ss)
    (slots_passed table history runs r items slots) items

-- A plan

-- the commands planned behind what was passed, from this moment on
abbrev pub plan_behind : List Slot → List Command → Moment → List Planned
plan_behind slots commands m =
    (fold (plan_more (λ d. (slot_at slots d).free))
    (record { clock = m; planned = [] }) commands).planned

-- the use of the device with one more command, planned from and to these times
abbrev pub used_again : Option (Moment × Moment) → Moment → Moment → Moment × Moment
used_again None from to = (from, to)
used_again (Some used) from to = (used.0, to)

-- What does not fit

-- the access is planned to start before the plan ends on the device
abbrev pub overlaps : Slot → Option Access → Bool
overlaps slot None = false
overlaps slot (Some a) = by_plan slot.planned
  where
    by_plan : Option (Moment × Moment) → Bool
    by_plan None = false
    by_plan (Some used) = nat_lt a.from used.1

-- that is so of the access of the run x on some device of r
abbrev pub is_misfit : List LineageState → List Run → RunId → List Slot → RunId → Bool
is_misfit table runs r slots x =
    list_any (λ d. overlaps (slot_at slots d) (access_of x (accesses_at table d)))
    (devices_among runs r (length slots))
