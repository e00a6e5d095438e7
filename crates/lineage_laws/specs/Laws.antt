-- What the laws say of the accesses to one device, and of the items of an order.
use Rattle.command_rules.specs.ClosedSets.{exchanged}
use Rattle.home_types.specs.Listed.{Listed}
use Rattle.home_types.specs.Numbers.{LinePlace}
use Rattle.home_types.specs.declared.items.Item.{Item}
use Rattle.home_types.specs.declared.numbers.RunNo.{RunNo}
use Rattle.lineage_table.specs.Accesses.{has_access}
use Rattle.lineage_table.specs.declared.accesses.Access.{Access}
use Rattle.lineage_table.specs.declared.accesses.Status.TheVariants.{Acquired, Released, Scheduled}
use Rattle.std.specs.List.{AllPairs, list_any}
use Rattle.std.specs.Prelude.{All, Bool, List, Option, filter, find, length, map, ◌++◌, ◌==◌, ◌≡◌, ◌≢◌, ◌≤◌}

-- the accesses are released ones, then at most one that is acquired, then scheduled ones
pub record StandByStatus (accesses : List Access) : Type 0 where
  pub released : List Access
  pub acquired : List Access
  pub scheduled : List Access
  pub parts : accesses ≡ released ++ (acquired ++ scheduled)
  pub are_released : All (λ x. x.status ≡ Released) released
  pub are_acquired : All (λ x. x.status ≡ Acquired) acquired
  pub are_scheduled : All (λ x. x.status ≡ Scheduled) scheduled
  pub one : length acquired ≤ 1

-- no run stands twice
abbrev pub RunsDiffer : List RunNo → Type 0
RunsDiffer runs = AllPairs (λ a b. a ≢ b) runs

-- the run is one of them
abbrev pub is_one_of_runs : RunNo → List RunNo → Bool
is_one_of_runs r runs = list_any (λ q. q.0 == r.0) runs

-- the runs that have an access are, in their order, the runs of the accesses
abbrev pub AreInRunOrder : List RunNo → List Access → Type 0
AreInRunOrder runs accesses = filter (λ q. has_access q.0 accesses) runs ≡ map (λ x. x.run) accesses

-- the first of these runs that has an access
abbrev pub next_with_access : List RunNo → List Access → Option RunNo
next_with_access runs accesses = find (λ q. has_access q.0 accesses) runs

-- the items with those at this place and the next one exchanged
abbrev pub with_exchange : LinePlace → Listed Item → Listed Item
with_exchange at items = record items { items = exchanged at items.items }
