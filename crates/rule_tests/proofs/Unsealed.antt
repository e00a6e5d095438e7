-- Of a line of which nothing is sealed no item is.
use Rattle.home_types.specs.declared.items.Item.TheVariants.{Ran}
use Rattle.rule_tests.proofs.Prelude.{Access, List, [], ap, false, refl, take, ◌||◌, ◌∷◌, ◌≡◌}
use Rattle.serial_line.specs.Labels.{is_sealed}
use Rattle.serial_line.specs.Marks.{Marked, stands}
use Rattle.std.specs.List.{list_any}

pub none_sealed : (line : Marked) → line.sealed ≡ 0 → (xs : List Access) → list_any (λ x. is_sealed (Ran x.run) line) xs ≡ false
none_sealed line none [] = refl
none_sealed line none (x ∷ xs) = (λ i. ap (λ k. stands (Ran x.run) (take k line.marks)) none i || none_sealed line none xs i)
