-- What a search through a list finds.
use Rattle.history_book.proofs.Prelude.{Bool, List, None, Option, Setting, Some, [], ap, arith, common_steps, cond, device_numbers, devices_of, false, filter, find, is_device, is_none, length, nat_lt, option_map, range_with_len, refl, subst, suc, touches, true, unwrap_or, zero, ℕ, ⊤, ◌+◌, ◌∷◌, ◌≡◌, ◌≤◌}

abbrev pub Each : {A : Type 0} → (A → Type 0) → List A → Type 0
Each P [] = ⊤
Each P (x ∷ xs) = P x × Each P xs

pub some_is : {A : Type 0} (x y : A) → Some x ≡ Some y → x ≡ y
some_is x y e = ap (λ o. unwrap_or o x) e

-- what is found is of the list, and the test holds of it
pub each_found : {A : Type 0} (P : A → Type 0) (p : A → Bool) (xs : List A) (x : A) → Each P xs → find p xs ≡ Some x → P x × (p x ≡ true)
each_found P p [] x all e = absurd (cc)
each_found P p (y ∷ ys) x all e = elim (p y) as (λ b. p y ≡ b → cond b (Some y) (find p ys) ≡ Some x → P x × (p x ≡ true)) [
  | true ↦ (λ t f. subst (λ z. P z × (p z ≡ true)) (some_is y x f) (all.0, t))
  | false ↦ (λ t f. each_found P p ys x all.1 f)
] refl e

pub each_filter : {A : Type 0} (P : A → Type 0) (p : A → Bool) (xs : List A) → Each P xs → Each (λ x. P x × (p x ≡ true)) (filter p xs)
each_filter P p [] all = tt
each_filter P p (x ∷ xs) all = elim (p x) as (λ b. p x ≡ b → Each (λ y. P y × (p y ≡ true)) (cond b (x ∷ filter p xs) (filter p xs))) [
  | true ↦ (λ e. ((all.0, e), each_filter P p xs all.1))
  | false ↦ (λ e. each_filter P p xs all.1)
] refl

each_range : (a n k : ℕ) → a + n ≤ k → Each (λ d. nat_lt d k ≡ true) (range_with_len a n)
each_range a zero k below = tt
each_range a (suc n) k below = (grind (arith, common_steps), each_range (a + 1) n k (omega (arith, below)))

-- the devices of a run are devices of the home, and in its footprint
pub own_devices : (w : Setting) (r : ℕ) → Each (λ d. (is_device w d ≡ true) × (touches w.runs r d ≡ true)) (devices_of w r)
own_devices w r = each_filter (λ d. is_device w d ≡ true) (touches w.runs r) (device_numbers w) (each_range 0 (length w.first) (length w.first) (omega arith))

-- an optional value that is there

pub map_some : {A B : Type 0} (f : A → B) (o : Option A) (y : B) → option_map f o ≡ Some y → (x : A) × (o ≡ Some x) × (f x ≡ y)
map_some f None y e = absurd (cc)
map_some f (Some x) y e = (x, refl, some_is (f x) y e)

pub map_none : {A B : Type 0} (f : A → B) (o : Option A) → option_map f o ≡ None → o ≡ None
map_none f None e = refl
map_none f (Some x) e = absurd (cc)

pub none_is : {A : Type 0} (o : Option A) → is_none o ≡ true → o ≡ None
none_is None e = refl
none_is (Some x) e = absurd (cc)
