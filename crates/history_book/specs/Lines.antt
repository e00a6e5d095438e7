-- Words on a list of items.
use Rattle.command_rules.specs.Items.{is_ran}
use Rattle.command_rules.specs.Rosters.{Run, touches}
use Rattle.home_types.specs.Numbers.{DeviceId, LinePlace, RunId}
use Rattle.home_types.specs.declared.items.Item.{Item}
use Rattle.home_types.specs.declared.items.Item.TheVariants.{Back, Failed, Ran}
use Rattle.home_types.specs.declared.numbers.RunNo.{RunNo}
use Rattle.std.specs.Prelude.{Bool, List, [], drop, false, filter, if◌then◌else◌, not, take, take_while, ◌+◌, ◌++◌, ◌==◌, ◌∷◌}

-- the item is a failure or a restart of the device
abbrev pub is_event_on : DeviceId → Item → Bool
is_event_on d (Ran r) = false
is_event_on d (Failed e k) = e.0 == d
is_event_on d (Back e k) = e.0 == d

-- the item is a run with the device in its footprint, or an event of the device
abbrev pub is_item_on : List Run → DeviceId → Item → Bool
is_item_on runs d (Ran r) = touches runs r.0 d
is_item_on runs d (Failed e k) = e.0 == d
is_item_on runs d (Back e k) = e.0 == d

-- the items before the run
abbrev pub before : RunId → List Item → List Item
before r line = take_while (λ i. not (is_ran r i)) line

-- the items behind the run, none where it is not there
abbrev pub behind : RunId → List Item → List Item
behind r [] = []
behind r (i ∷ is) = if is_ran r i then is else behind r is

-- the items without the run
abbrev pub without : RunId → List Item → List Item
without r line = filter (λ i. not (is_ran r i)) line

-- the item stands immediately before the first one of which the test holds, else at the end
abbrev pub put_before : (Item → Bool) → Item → List Item → List Item
put_before test x [] = x ∷ []
put_before test x (i ∷ is) = if test i then x ∷ i ∷ is else i ∷ put_before test x is

-- the number of items before the first one of which the test holds
abbrev pub up_to_first : (Item → Bool) → List Item → LinePlace
up_to_first test [] = 0
up_to_first test (i ∷ is) = if test i then 0 else up_to_first test is + 1

-- a line in two parts: what stands before a new run, and what stands behind it
pub record Split : Type 0 where
  pub front : List Item
  pub back : List Item

-- divided at this place: so many items in front
abbrev pub split_at : List Item → LinePlace → Split
split_at line at = record { front = take at line; back = drop at line }

-- the run stands between the two parts
abbrev pub with_run_in : Split → RunNo → List Item
with_run_in s r = s.front ++ Ran r ∷ s.back
