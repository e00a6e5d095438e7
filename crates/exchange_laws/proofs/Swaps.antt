-- Two neighbours of a list change places: what is told of the list stays, where it is not told of both.
use Rattle.exchange_laws.proofs.Prelude.{ArePair, Bool, Exchanged, Item, List, None, Option, Run, Some, Stays, Swaps, [], ap, are_apart, arith, common_steps, cond, cons_option, count_by, count_cons, exchanged, false, filter, filter_map, fold, inl, inr, is_of, is_some, list_any, meet, of_one_device, pair, refl, subst, sym, true, ℕ, ◌&&◌, ◌++◌, ◌+◌, ◌||◌, ◌∙◌, ◌∷◌, ◌≡◌, ◌⊎◌}
use Rattle.std.specs.Option.{option_or}

-- some item, and how many
pub swap_any : {A : Type 0} (p : A → Bool) (front rest : List A) (a b : A) → list_any p (front ++ b ∷ a ∷ rest) ≡ list_any p (front ++ a ∷ b ∷ rest)
swap_any p [] rest a b = turn (p b) (p a) (list_any p rest)
  where
    turn : (x y z : Bool) → (x || (y || z)) ≡ (y || (x || z))
    turn x y z = grind (arith, common_steps)
swap_any p (i ∷ front) rest a b = ap (λ c. p i || c) (swap_any p front rest a b)

pub swap_count : {A : Type 0} (p : A → Bool) (front rest : List A) (a b : A) → count_by p (front ++ b ∷ a ∷ rest) ≡ count_by p (front ++ a ∷ b ∷ rest)
swap_count {A = A} p [] rest a b = two b a ∙ turn (cond (p b) 1 0) (cond (p a) 1 0) (count_by p rest) ∙ sym (two a b)
  where
    two : (x y : A) → count_by p (x ∷ y ∷ rest) ≡ cond (p x) 1 0 + (cond (p y) 1 0 + count_by p rest)
    two x y = count_cons p x (y ∷ rest) ∙ ap (λ n. cond (p x) 1 0 + n) (count_cons p y rest)

    turn : (x y z : ℕ) → x + (y + z) ≡ y + (x + z)
    turn x y z = omega arith
swap_count p (i ∷ front) rest a b = count_cons p i (front ++ b ∷ a ∷ rest) ∙ ap (λ c. cond (p i) 1 0 + c) (swap_count p front rest a b) ∙ sym (count_cons p i (front ++ a ∷ b ∷ rest))

-- the items of which a test holds
pub swap_filter : {A : Type 0} (p : A → Bool) (front rest : List A) (a b : A) → (p a && p b) ≡ false → filter p (front ++ b ∷ a ∷ rest) ≡ filter p (front ++ a ∷ b ∷ rest)
swap_filter {A = A} p [] rest a b one = turn (p a) (p b) (filter p rest) one
  where
    turn : (x y : Bool) (l : List A) → (x && y) ≡ false → cond y (b ∷ cond x (a ∷ l) l) (cond x (a ∷ l) l) ≡ cond x (a ∷ cond y (b ∷ l) l) (cond y (b ∷ l) l)
    turn true true l h = absurd cc
    turn true false l h = refl
    turn false true l h = refl
    turn false false l h = refl
swap_filter p (i ∷ front) rest a b one = ap (λ l. cond (p i) (i ∷ l) l) (swap_filter p front rest a b one)

-- what the items give
pub swap_map : {A B : Type 0} (f : A → Option B) (front rest : List A) (a b : A) → (is_some (f a) && is_some (f b)) ≡ false → filter_map f (front ++ b ∷ a ∷ rest) ≡ filter_map f (front ++ a ∷ b ∷ rest)
swap_map {B = B} f [] rest a b one = turn (f a) (f b) (filter_map f rest) one
  where
    turn : (x y : Option B) (l : List B) → (is_some x && is_some y) ≡ false → cons_option y (cons_option x l) ≡ cons_option x (cons_option y l)
    turn None None l h = refl
    turn None (Some y) l h = refl
    turn (Some x) None l h = refl
    turn (Some x) (Some y) l h = absurd cc
swap_map f (i ∷ front) rest a b one = ap (cons_option (f i)) (swap_map f front rest a b one)

-- the last that they give
pub swap_last : {A B : Type 0} (f : A → Option B) (front rest : List A) (a b : A) (best : Option B) → (is_some (f a) && is_some (f b)) ≡ false
    → fold (λ o x. option_or (f x) o) best (front ++ b ∷ a ∷ rest) ≡ fold (λ o x. option_or (f x) o) best (front ++ a ∷ b ∷ rest)
swap_last {B = B} f [] rest a b best one = ap (λ o. fold (λ o x. option_or (f x) o) o rest) (turn (f a) (f b) one)
  where
    turn : (x y : Option B) → (is_some x && is_some y) ≡ false → option_or x (option_or y best) ≡ option_or y (option_or x best)
    turn None None h = refl
    turn None (Some y) h = refl
    turn (Some x) None h = refl
    turn (Some x) (Some y) h = absurd cc
swap_last f (i ∷ front) rest a b best one = swap_last f front rest a b (option_or (f i) best) one

-- one exchange of neighbours that do not meet
pub one_exchange : (meets : Item → Item → Bool) (at : ℕ) (items : List Item) → are_apart meets at items ≡ true → Exchanged meets items (exchanged at items)
one_exchange meets at items apart = of_pair (pair meets at items apart)
  where
    of_pair : ArePair items at meets → Exchanged meets items (exchanged at items)
    of_pair two = subst (Exchanged meets items) (sym two.turned) (Swaps two.front two.rest two.one two.two (subst (Exchanged meets items) two.are Stays) two.apart)

-- Items that are apart

-- one of them is not on the device
pub one_is_off : (runs : List Run) (a b : Item) → meet runs a b ≡ false → (d : ℕ) → (is_of runs d a ≡ false) ⊎ (is_of runs d b ≡ false)
one_is_off runs a b apart d = at_ (is_of runs d a) (is_of runs d b) refl refl
  where
    clash : true ≡ false → (is_of runs d a ≡ false) ⊎ (is_of runs d b ≡ false)
    clash e = absurd cc

    at_ : (x y : Bool) → is_of runs d a ≡ x → is_of runs d b ≡ y → (is_of runs d a ≡ false) ⊎ (is_of runs d b ≡ false)
    at_ false y e h = inl e
    at_ true false e h = inr h
    at_ true true e h = clash (sym (of_one_device runs d a b e h) ∙ apart)

-- so a test that holds of the device's own items alone does not hold of both
pub not_both : (runs : List Run) (d : ℕ) (p : Item → Bool) (a b : Item) → meet runs a b ≡ false → ((i : Item) → is_of runs d i ≡ false → p i ≡ false) → (p a && p b) ≡ false
not_both runs d p a b apart off = elim (one_is_off runs a b apart d) [
  | inl e ↦ ap (λ x. x && p b) (off a e)
  | inr e ↦ ap (λ x. p a && x) (off b e) ∙ none (p a)
]
  where
    none : (x : Bool) → (x && false) ≡ false
    none true = refl
    none false = refl
