-- The effective writer of a lineage, kept beside its accesses.
use Rattle.home_types.specs.declared.numbers.RunNo.{RunNo}
use Rattle.lineage_table.specs.Accesses.{IsDisciplined, effective_writer}
use Rattle.lineage_table.specs.declared.accesses.Access.{Access}
use Rattle.std.specs.Prelude.{List, Option, ◌≡◌}

-- the accesses are in turn, and the last one that has a written value is of this run
pub record IsSoundLineage (accesses : List Access) (writer : Option RunNo) : Type 0 where
  pub turns : IsDisciplined accesses
  pub last : writer ≡ effective_writer accesses
