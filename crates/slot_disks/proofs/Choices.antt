-- What a test of two gives.
use Rattle.slot_disks.proofs.Prelude.{Bool, arith, common_steps, false, if◌then◌else◌, refl, true, ◌&&◌, ◌≡◌}

pub if_both : {X : Type 0} (a b : Bool) (x y : X) → a ≡ true → b ≡ true → (if a && b then x else y) ≡ x
if_both a b x y p q = grind (arith, common_steps)

pub if_not_first : {X : Type 0} (a b : Bool) (x y : X) → a ≡ false → (if a && b then x else y) ≡ y
if_not_first a b x y p = grind (arith, common_steps)

pub if_not_second : {X : Type 0} (a b : Bool) (x y : X) → b ≡ false → (if a && b then x else y) ≡ y
if_not_second true b x y q = grind (arith, common_steps)
if_not_second false b x y q = refl
