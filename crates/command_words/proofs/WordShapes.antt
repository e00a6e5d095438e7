-- What a word looks like to `clap`, and what its name is then.
use Rattle.command_words.proofs.Prelude.{Bool, List, None, Some, [], after_first, ap, arith, bytes_eq, codes, drop, false, if◌then◌else◌, is_equals, list_any, long_of, one-add, option_name, option_value, position_or_len, refl, short_of, subst, suc, sym, take, true, ℕ, ◌+◌, ◌==◌, ◌∙◌, ◌∷◌, ◌≡◌}
use Rattle.std.proofs.lemmas.Bool.Decides.{Decides-eqb}

-- no option has this name
pub record IsNoOption (name : List ℕ) : Type 0 where
  pub model : bytes_eq name (codes "--model") ≡ false
  pub scheduler : bytes_eq name (codes "--scheduler") ≡ false
  pub trace : bytes_eq name (codes "--trace") ≡ false

-- the word begins with two hyphens and goes on, begins with one and goes on, or does neither
pub data Looks : List ℕ → Type 0 where
  long : (z : ℕ) (zs : List ℕ) → Looks (45 ∷ 45 ∷ z ∷ zs)
  short : (x : ℕ) (xs : List ℕ) → (x == 45) ≡ false → IsNoOption (option_name (45 ∷ x ∷ xs)) → Looks (45 ∷ x ∷ xs)
  other : (word : List ℕ) → long_of word ≡ None → short_of word ≡ None → IsNoOption (option_name word) → Looks word

-- ---- names

pub name_more : (x : ℕ) (xs : List ℕ) → option_name (x ∷ xs) ≡ (if is_equals x then [] else x ∷ option_name xs)
name_more x xs = by_equals (is_equals x) refl
  where
    by_equals : (b : Bool) → is_equals x ≡ b → option_name (x ∷ xs) ≡ (if b then [] else x ∷ option_name xs)
    by_equals true is = rw is refl
    by_equals false is = rw is (ap (λ n. take n (x ∷ xs)) (one-add (position_or_len is_equals xs)))

after_more : (x : ℕ) (xs : List ℕ) → is_equals x ≡ false → after_first is_equals (x ∷ xs) ≡ after_first is_equals xs
after_more x xs is = rw is (ap (λ n. drop n (x ∷ xs)) (let same : 1 + position_or_len is_equals xs + 1 ≡ suc (position_or_len is_equals xs + 1) = omega arith in same))

-- what stands in a word that begins with two hyphens
pub long_name : (z : ℕ) (zs : List ℕ) → option_name (45 ∷ 45 ∷ z ∷ zs) ≡ 45 ∷ 45 ∷ option_name (z ∷ zs)
long_name z zs = name_more 45 (45 ∷ z ∷ zs) ∙ ap (λ n. 45 ∷ n) (name_more 45 (z ∷ zs))

pub long_value : (z : ℕ) (zs : List ℕ) → option_value (45 ∷ 45 ∷ z ∷ zs) ≡ option_value (z ∷ zs)
long_value z zs =
    ap (λ v. if list_any is_equals (z ∷ zs) then Some v else None) (after_more 45 (45 ∷ z ∷ zs) refl ∙ after_more 45 (z ∷ zs) refl)

-- ---- no names

no_name : IsNoOption []
no_name = record { model = refl; scheduler = refl; trace = refl }

-- a name that begins with another byte
other_first : (x : ℕ) (name : List ℕ) → (x == 45) ≡ false → IsNoOption (x ∷ name)
other_first x name is = record { model = rw is refl; scheduler = rw is refl; trace = rw is refl }

other_second : (x : ℕ) (name : List ℕ) → (x == 45) ≡ false → IsNoOption (45 ∷ x ∷ name)
other_second x name is = record { model = rw is refl; scheduler = rw is refl; trace = rw is refl }

one_hyphen : IsNoOption (45 ∷ [])
one_hyphen = record { model = refl; scheduler = refl; trace = refl }

begins_otherwise : (x : ℕ) (xs : List ℕ) → (x == 45) ≡ false → IsNoOption (option_name (x ∷ xs))
begins_otherwise x xs is = subst IsNoOption (sym (name_more x xs)) (by_equals (is_equals x))
  where
    by_equals : (b : Bool) → IsNoOption (if b then [] else x ∷ option_name xs)
    by_equals true = no_name
    by_equals false = other_first x (option_name xs) is

goes_on_otherwise : (x : ℕ) (xs : List ℕ) → (x == 45) ≡ false → IsNoOption (option_name (45 ∷ x ∷ xs))
goes_on_otherwise x xs is =
    subst IsNoOption (sym (name_more 45 (x ∷ xs) ∙ ap (λ n. 45 ∷ n) (name_more x xs))) (by_equals (is_equals x))
  where
    by_equals : (b : Bool) → IsNoOption (45 ∷ (if b then [] else x ∷ option_name xs))
    by_equals true = one_hyphen
    by_equals false = other_second x (option_name xs) is

-- ---- every word looks in one of these ways

same_byte : (x : ℕ) → (x == 45) ≡ true → x ≡ 45
same_byte x is = (Decides-eqb x 45).0 is

pub looks : (word : List ℕ) → Looks word
looks [] = other [] refl refl no_name
looks (x ∷ xs) = by_first (x == 45) refl
  where
    second : (ys : List ℕ) → Looks (45 ∷ ys)
    second [] = other (45 ∷ []) refl refl one_hyphen
    second (y ∷ ys) = by_second (y == 45) refl ys
      where
        by_second : (b : Bool) → (y == 45) ≡ b → (ys : List ℕ) → Looks (45 ∷ y ∷ ys)
        by_second true is [] = subst (λ n. Looks (45 ∷ n ∷ [])) (sym (same_byte y is))
            (other (45 ∷ 45 ∷ []) refl refl (record { model = refl; scheduler = refl; trace = refl }))
        by_second true is (z ∷ zs) = subst (λ n. Looks (45 ∷ n ∷ z ∷ zs)) (sym (same_byte y is)) (long z zs)
        by_second false is ys = short y ys is (goes_on_otherwise y ys is)

    by_first : (b : Bool) → (x == 45) ≡ b → Looks (x ∷ xs)
    by_first true is = subst (λ n. Looks (n ∷ xs)) (sym (same_byte x is)) (second xs)
    by_first false is = other (x ∷ xs) (rw is refl) (rw is refl) (begins_otherwise x xs is)
