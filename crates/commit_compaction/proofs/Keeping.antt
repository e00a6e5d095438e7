-- Why the value that stands on a device is kept where a run commits.
use Rattle.home_types.specs.declared.numbers.RunNo.{RunNo}
use Rattle.lineage_table.specs.Lineages.{LineageState, committed_lineage, stand_of_lineage, without_access}
use Rattle.lineage_table.proofs.Cited.{effective_stands, not_writer, settled_stands, without_stands}
use Rattle.lineage_table.specs.Accesses.{IsDisciplined, access_of, accesses_without, effective_writer, value_standing, written_by}
use Rattle.lineage_table.specs.declared.accesses.Access.{Access}
use Rattle.std.proofs.Common.{IsSome, List, None, Option, Some, ap, arith, refl, subst, sym, ℕ, ◌≡◌}
use Rattle.std.proofs.lemmas.Grind.{common_steps}
use Rattle.std.specs.Prelude.{option_and_then}

-- a run that wrote nothing leaves
reader_leaves : (r : RunNo) (c : ℕ) (xs : List Access) → IsDisciplined xs → written_by r.0 xs ≡ None → value_standing c (accesses_without r.0 xs) ≡ value_standing c xs
reader_leaves r c xs k n = without_stands r.0 c xs (not_writer r (effective_writer xs) (λ e. two (written_by r.0 xs) (value_standing c xs) n (effective_stands c r xs k e)))
  where
    two : (o : Option ℕ) (v : ℕ) → o ≡ None → o ≡ Some v → ⊥
    two o v e f = cc

-- a run that wrote this leaves
access_leaves : (r : RunNo) (s : LineageState) → IsDisciplined s.accesses → (o : Option ℕ) → written_by r.0 s.accesses ≡ o → (x : Access) → x.wrote ≡ o → stand_of_lineage (without_access r.0 x s) ≡ stand_of_lineage s
access_leaves r s k None e x f = grind (arith, common_steps, f, reader_leaves r s.committed s.accesses k e)
access_leaves r s k (Some v) e x f = grind (arith, common_steps, f, settled_stands r.0 s.committed s.accesses (subst IsSome (sym e) refl))

pub commit_stands : (r : RunNo) (s : LineageState) → IsDisciplined s.accesses → stand_of_lineage (committed_lineage r.0 s) ≡ stand_of_lineage s
commit_stands r s k = at (access_of r.0 s.accesses) refl
  where
    at : (o : Option Access) → access_of r.0 s.accesses ≡ o → stand_of_lineage (committed_lineage r.0 s) ≡ stand_of_lineage s
    at None e = grind (arith, common_steps, e)
    at (Some x) e = grind (arith, common_steps, e, access_leaves r s k x.wrote (ap (option_and_then (λ (y : Access). y.wrote)) e) x refl)
