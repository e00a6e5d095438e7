-- What an answer of a run makes of its access.
use Rattle.home_types.specs.Numbers.{RunId}
use Rattle.home_types.specs.declared.commands.View.{View}
use Rattle.lineage_table.specs.Accesses.{is_scheduled, some_acquired, status_of, with_change}
use Rattle.lineage_table.specs.Lineages.{LineageState}
use Rattle.lineage_table.specs.declared.accesses.Access.{Access}
use Rattle.lineage_table.specs.declared.accesses.Status.TheVariants.{Acquired, Released, Scheduled}
use Rattle.std.specs.Option.{option_or}
use Rattle.std.specs.Prelude.{Bool, List, Option, Some, false, if◌then◌else◌, ℕ, ◌≡◌, ◌⊎◌}

-- the run may note an answer: its access is acquired, or scheduled where none is
abbrev pub MayAnswer : RunId → List Access → Type 0
MayAnswer r accesses =
    (status_of r accesses ≡ Some Acquired)
    ⊎ ((status_of r accesses ≡ Some Scheduled) × (some_acquired accesses ≡ false))

-- with its first answer the run sees the device so, it wrote the value, where there is one, and is
-- done there with its last answer
abbrev pub answered_access : View → Option ℕ → Bool → Access → Access
answered_access view wrote last x = record x {
  status = if last then Released else Acquired;
  view = if is_scheduled x.status then Some view else x.view;
  wrote = option_or wrote x.wrote;
}

abbrev pub lineage_answered : RunId → View → Option ℕ → Bool → LineageState → LineageState
lineage_answered r view wrote last s =
    record s { accesses = with_change r (answered_access view wrote last) s.accesses }

abbrev pub answered_if : Bool → RunId → View → Option ℕ → Bool → LineageState → LineageState
answered_if noted r view wrote last s = if noted then lineage_answered r view wrote last s else s
