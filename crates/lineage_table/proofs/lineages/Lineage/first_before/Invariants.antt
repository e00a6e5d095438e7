use Rattle.lineage_table.proofs.Prelude.{Access, Bool, first_before, values_of, ◌≡◌}
use Rattle.lineage_table.proofs.lineages.Lineage.first_before.Given as goal

-- the test holds of none so far, nor is one the run's own
abbrev pub invariant-accesses : goal.invariant-accesses
invariant-accesses g l = (test : Access → Bool) → ((x : Access) (b : Bool) → goal.F-post g l.fn.test x b → b ≡ test x) → first_before test l.r.0 l.self.accesses ≡ first_before test l.r.0 (values_of l.access-iterator)
