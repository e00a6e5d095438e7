-- Who stands in the line.
use Rattle.history_book.proofs.Prelude.{Back, Bool, Failed, Item, List, Ran, [], ap, arith, common_steps, cond, drop, false, filter, if◌then◌else◌, is_ran, list_any, list_any-append, not, put_before, refl, suc, sym, take, take-append-drop, true, without, ℕ, ◌++◌, ◌+◌, ◌||◌, ◌∙◌, ◌∷◌, ◌≡◌, ◌≢◌}

pub any_put_before : (p t : Item → Bool) (x : Item) (line : List Item) → list_any p (put_before t x line) ≡ (p x || list_any p line)
any_put_before p t x [] = refl
any_put_before p t x (i ∷ is) = elim (t i) as (λ b. list_any p (if b then x ∷ i ∷ is else i ∷ put_before t x is) ≡ (p x || list_any p (i ∷ is))) [
  | true ↦ refl
  | false ↦ rw (any_put_before p t x is) (grind (arith, common_steps))
]

pub any_insert : (p : Item → Bool) (front back : List Item) (x : Item) → list_any p (front ++ x ∷ back) ≡ (p x || list_any p (front ++ back))
any_insert p front back x = rw (list_any-append p front (x ∷ back), list_any-append p front back) (grind (arith, common_steps))

pub any_without : (r : ℕ) (line : List Item) → list_any (is_ran r) (without r line) ≡ false
any_without r [] = refl
any_without r (i ∷ is) = elim (is_ran r i) as (λ b. is_ran r i ≡ b → list_any (is_ran r) (cond (not b) (i ∷ filter (λ x. not (is_ran r x)) is) (filter (λ x. not (is_ran r x)) is)) ≡ false) [
  | true ↦ (λ e. any_without r is)
  | false ↦ (λ e. rw e (any_without r is))
] refl

pub same_run : (r q : ℕ) (i : Item) → is_ran r i ≡ true → is_ran q i ≡ true → r ≡ q
same_run r q (Ran x) a b = grind (arith, common_steps)
same_run r q (Failed d k) a b = absurd (cc)
same_run r q (Back d k) a b = absurd (cc)

pub any_other : (r q : ℕ) (line : List Item) → r ≢ q → list_any (is_ran r) (without q line) ≡ list_any (is_ran r) line
any_other r q [] other = refl
any_other r q (i ∷ is) other = elim (is_ran q i) as (λ b. is_ran q i ≡ b → list_any (is_ran r) (cond (not b) (i ∷ filter (λ x. not (is_ran q x)) is) (filter (λ x. not (is_ran q x)) is)) ≡ (is_ran r i || list_any (is_ran r) is)) [
  | true ↦ (λ e. let not_r : is_ran r i ≡ false = (let both = same_run r q i in grind (arith, common_steps)) in rw not_r (any_other r q is other))
  | false ↦ (λ e. ap (λ b. is_ran r i || b) (any_other r q is other))
] refl

-- a list in two parts

-- one item more
pub take_next : {A : Type 0} (k : ℕ) (x : A) (xs : List A) → take (k + 1) (x ∷ xs) ≡ x ∷ take k xs
take_next k x xs = let next : k + 1 ≡ suc k = omega arith in ap (λ n. take n (x ∷ xs)) next

pub any_parted : {A : Type 0} (p : A → Bool) (k : ℕ) (xs : List A) → list_any p xs ≡ (list_any p (take k xs) || list_any p (drop k xs))
any_parted p k xs = ap (list_any p) (sym (take-append-drop k xs)) ∙ list_any-append p (take k xs) (drop k xs)

pub any_taken : {A : Type 0} (p : A → Bool) (k : ℕ) (xs : List A) → list_any p (take k xs) ≡ true → list_any p xs ≡ true
any_taken p k xs e = any_parted p k xs ∙ ap (λ b. b || list_any p (drop k xs)) e

pub any_left : {A : Type 0} (p : A → Bool) (k : ℕ) (xs : List A) → list_any p xs ≡ true → list_any p (drop k xs) ≡ false → list_any p (take k xs) ≡ true
any_left p k xs some none = let parted : list_any p xs ≡ (list_any p (take k xs) || list_any p (drop k xs)) = any_parted p k xs in grind (arith, common_steps)
