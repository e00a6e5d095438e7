-- Pairs of a list, the one in front and the one behind it.
use Rattle.lineage_table.proofs.Prelude.{AllByRecursion, AllPairs, List, [], arith, suc, ◌++◌, ◌∷◌}
use Rattle.std.proofs.lemmas.List.Elements.{All-from_recursion, recursion_from_All}
use Rattle.std.proofs.lemmas.List.Kept.{AllPairs-cons}

-- each element with each that stands behind it
unfoldable pub Pairs : {A : Type 0} → (A → A → Type 0) → List A → Type 0
Pairs R [] = Unit {0}
Pairs R (x ∷ xs) = AllByRecursion (R x) xs × Pairs R xs

pub pairs_from_all : {A : Type 0} (R : A → A → Type 0) (xs : List A) → AllPairs R xs → Pairs R xs
unfolding Pairs
pairs_from_all R [] h = tt
pairs_from_all R (x ∷ xs) h = (
  recursion_from_All (R x) xs (λ k d p. h 0 (suc k) d (omega arith) (omega arith)),
  pairs_from_all R xs (λ i j d p q. h (suc i) (suc j) d (omega arith) (omega arith)),
)

pub all_from_pairs : {A : Type 0} (R : A → A → Type 0) (xs : List A) → Pairs R xs → AllPairs R xs
unfolding Pairs
all_from_pairs R [] h = λ i j d p q. absurd (omega arith)
all_from_pairs R (x ∷ xs) h = AllPairs-cons R x xs (All-from_recursion (R x) xs h.0) (all_from_pairs R xs h.1)

-- one element is changed
every_changed : {A : Type 0} (P : A → Type 0) (a : List A) (x y : A) (b : List A) → (P x → P y) → AllByRecursion P (a ++ x ∷ b) → AllByRecursion P (a ++ y ∷ b)
every_changed P [] x y b f h = (f h.0, h.1)
every_changed P (u ∷ a) x y b f h = (h.0, every_changed P a x y b f h.1)

every_weaker : {A : Type 0} (P Q : A → Type 0) (b : List A) → AllByRecursion (λ v. P v → Q v) b → AllByRecursion P b → AllByRecursion Q b
every_weaker P Q [] f h = tt
every_weaker P Q (v ∷ b) f h = (f.0 h.0, every_weaker P Q b f.1 h.1)

pub pairs_changed : {A : Type 0} (R : A → A → Type 0) (a : List A) (x y : A) (b : List A)
    → AllByRecursion (λ u. R u x → R u y) a → AllByRecursion (λ v. R x v → R y v) b → Pairs R (a ++ x ∷ b) → Pairs R (a ++ y ∷ b)
unfolding Pairs
pairs_changed R [] x y b f g h = (every_weaker (R x) (R y) b g h.0, h.1)
pairs_changed R (u ∷ a) x y b f g h = (every_changed (R u) a x y b f.0 h.0, pairs_changed R a x y b f.1 g h.1)

-- one element is put in
every_put : {A : Type 0} (P : A → Type 0) (a : List A) (y : A) (b : List A) → P y → AllByRecursion P (a ++ b) → AllByRecursion P (a ++ y ∷ b)
every_put P [] y b p h = (p, h)
every_put P (u ∷ a) y b p h = (h.0, every_put P a y b p h.1)

pub pairs_put : {A : Type 0} (R : A → A → Type 0) (a : List A) (y : A) (b : List A)
    → AllByRecursion (λ u. R u y) a → AllByRecursion (R y) b → Pairs R (a ++ b) → Pairs R (a ++ y ∷ b)
unfolding Pairs
pairs_put R [] y b f g h = (g, h)
pairs_put R (u ∷ a) y b f g h = (every_put (R u) a y b f.0 h.0, pairs_put R a y b f.1 g h.1)

-- a first part is dropped
pub pairs_back : {A : Type 0} (R : A → A → Type 0) (a b : List A) → Pairs R (a ++ b) → Pairs R b
unfolding Pairs
pairs_back R [] b h = h
pairs_back R (u ∷ a) b h = pairs_back R a b h.1

-- those of the first part with an element behind it
every_back : {A : Type 0} (P : A → Type 0) (a : List A) (x : A) (b : List A) → AllByRecursion P (a ++ x ∷ b) → P x
every_back P [] x b h = h.0
every_back P (u ∷ a) x b h = every_back P a x b h.1

pub pairs_front : {A : Type 0} (R : A → A → Type 0) (a : List A) (x : A) (b : List A) → Pairs R (a ++ x ∷ b) → AllByRecursion (λ u. R u x) a
unfolding Pairs
pairs_front R [] x b h = tt
pairs_front R (u ∷ a) x b h = (every_back (R u) a x b h.0, pairs_front R a x b h.1)

-- what is so of each element by a test
pub every_so : {A : Type 0} (P : A → Type 0) (b : List A) → ((v : A) → P v) → AllByRecursion P b
every_so P [] f = tt
every_so P (v ∷ b) f = (f v, every_so P b f)
