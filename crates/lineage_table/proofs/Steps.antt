-- What a step of the hub does with a list of accesses that is cut at a run's access.
use Rattle.home_types.specs.declared.commands.View.{View}
use Rattle.lineage_table.proofs.Splits.{access_at, change_at}
use Rattle.lineage_table.proofs.Prelude.{Access, Acquired, List, Released, Some, [], ap, arith, common_steps, false, has_access, is_acquired, is_of, option_and_then, option_map, some_acquired, status_of, true, with_change, written_by, ℕ, ◌++◌, ◌∙◌, ◌∷◌, ◌≡◌}

-- what is read at the cut

pub status_at : (r : ℕ) (a : List Access) (x : Access) (b : List Access) → has_access r a ≡ false → is_of r x ≡ true → status_of r (a ++ x ∷ b) ≡ Some x.status
status_at r a x b n o = ap (option_map (λ (y : Access). y.status)) (access_at r a x b n o)

pub written_at : (r : ℕ) (a : List Access) (x : Access) (b : List Access) → has_access r a ≡ false → is_of r x ≡ true → written_by r (a ++ x ∷ b) ≡ x.wrote
written_at r a x b n o = ap (option_and_then (λ (y : Access). y.wrote)) (access_at r a x b n o)

-- none is acquired in the whole where none is in the parts
pub acquired_at : (a : List Access) (x : Access) (b : List Access) → some_acquired a ≡ false → is_acquired x.status ≡ false → some_acquired b ≡ false → some_acquired (a ++ x ∷ b) ≡ false
acquired_at [] x b n o m = grind (arith, common_steps)
acquired_at (y ∷ a) x b n o m = grind (arith, common_steps, acquired_at a x b)

-- a scheduled access is passed: acquired with view Down, and released
pub pass_at : (r : ℕ) (v : View) (a : List Access) (x : Access) (b : List Access) → has_access r a ≡ false → is_of r x ≡ true
    → with_change r (λ y. record y { status = Released }) (with_change r (λ y. record y { status = Acquired; view = Some v }) (a ++ x ∷ b)) ≡ a ++ record x { status = Released; view = Some v } ∷ b
pass_at r v a x b n o =
    ap (with_change r (λ (y : Access). record y { status = Released })) (change_at r (λ (y : Access). record y { status = Acquired; view = Some v }) a x b n o)
    ∙ change_at r (λ (y : Access). record y { status = Released }) a (record x { status = Acquired; view = Some v }) b n o
