-- How the items of a closed set are brought before the others, one after the other.
use Rattle.command_rules.proofs.Prelude.{Bool, HoldsFirst, IsClosed, List, Option, Some, [], ap, append_assoc, arith, brought, chosen, common_steps, drop, exchanged, false, get_or, length, list_any, may_pass, not, option_map, others, rearranged, refl, slice_get, subst, suc, sym, take, true, unwrap_or, zero, ℕ, ◌++◌, ◌+◌, ◌-◌, ◌<◌, ◌||◌, ◌∙◌, ◌∷◌, ◌≡◌, ◌≤◌}

-- The first items of the line

-- those of the first items that are in the set, and those that are not
abbrev pub front_chosen : {A : Type 0} → ℕ → List Bool → List A → List A
front_chosen at bs xs = chosen (take at bs) (take at xs)

abbrev pub front_others : {A : Type 0} → ℕ → List Bool → List A → List A
front_others at bs xs = others (take at bs) (take at xs)

-- the line, with the first items rearranged
abbrev pub partly : {A : Type 0} → ℕ → List Bool → List A → List A
partly at bs xs = front_chosen at bs xs ++ (front_others at bs xs ++ drop at xs)

-- one item more, in the set
chosen_more : {A : Type 0} (bs : List Bool) (xs : List A) (at : ℕ) (i : A) → slice_get bs at ≡ Some true → slice_get xs at ≡ Some i → front_chosen (suc at) bs xs ≡ front_chosen at bs xs ++ i ∷ []
unfolding chosen
chosen_more [] xs zero i flag is = absurd cc
chosen_more [] xs (suc at) i flag is = absurd cc
chosen_more (b ∷ bs) [] zero i flag is = absurd cc
chosen_more (b ∷ bs) [] (suc at) i flag is = absurd cc
chosen_more (false ∷ bs) (x ∷ xs) zero i flag is = absurd cc
chosen_more {A = A} (true ∷ bs) (x ∷ xs) zero i flag is = ap (λ (o : Option A). unwrap_or o x ∷ []) is
chosen_more (true ∷ bs) (x ∷ xs) (suc at) i flag is = ap (λ l. x ∷ l) (chosen_more bs xs at i flag is)
chosen_more (false ∷ bs) (x ∷ xs) (suc at) i flag is = chosen_more bs xs at i flag is

others_same : {A : Type 0} (bs : List Bool) (xs : List A) (at : ℕ) → slice_get bs at ≡ Some true → front_others (suc at) bs xs ≡ front_others at bs xs
unfolding others
others_same [] xs zero flag = absurd cc
others_same [] xs (suc at) flag = absurd cc
others_same (b ∷ bs) [] zero flag = refl
others_same (b ∷ bs) [] (suc at) flag = refl
others_same (false ∷ bs) (x ∷ xs) zero flag = absurd cc
others_same (true ∷ bs) (x ∷ xs) zero flag = refl
others_same (true ∷ bs) (x ∷ xs) (suc at) flag = others_same bs xs at flag
others_same (false ∷ bs) (x ∷ xs) (suc at) flag = ap (λ l. x ∷ l) (others_same bs xs at flag)

-- .. and not in it
chosen_same : {A : Type 0} (bs : List Bool) (xs : List A) (at : ℕ) → slice_get bs at ≡ Some false → front_chosen (suc at) bs xs ≡ front_chosen at bs xs
unfolding chosen
chosen_same [] xs zero flag = absurd cc
chosen_same [] xs (suc at) flag = absurd cc
chosen_same (b ∷ bs) [] zero flag = refl
chosen_same (b ∷ bs) [] (suc at) flag = refl
chosen_same (true ∷ bs) (x ∷ xs) zero flag = absurd cc
chosen_same (false ∷ bs) (x ∷ xs) zero flag = refl
chosen_same (true ∷ bs) (x ∷ xs) (suc at) flag = ap (λ l. x ∷ l) (chosen_same bs xs at flag)
chosen_same (false ∷ bs) (x ∷ xs) (suc at) flag = chosen_same bs xs at flag

others_more : {A : Type 0} (bs : List Bool) (xs : List A) (at : ℕ) (i : A) → slice_get bs at ≡ Some false → slice_get xs at ≡ Some i → front_others (suc at) bs xs ≡ front_others at bs xs ++ i ∷ []
unfolding others
others_more [] xs zero i flag is = absurd cc
others_more [] xs (suc at) i flag is = absurd cc
others_more (b ∷ bs) [] zero i flag is = absurd cc
others_more (b ∷ bs) [] (suc at) i flag is = absurd cc
others_more (true ∷ bs) (x ∷ xs) zero i flag is = absurd cc
others_more {A = A} (false ∷ bs) (x ∷ xs) zero i flag is = ap (λ (o : Option A). unwrap_or o x ∷ []) is
others_more (true ∷ bs) (x ∷ xs) (suc at) i flag is = others_more bs xs at i flag is
others_more (false ∷ bs) (x ∷ xs) (suc at) i flag is = ap (λ l. x ∷ l) (others_more bs xs at i flag is)

drop_one : {A : Type 0} (xs : List A) (at : ℕ) (i : A) → slice_get xs at ≡ Some i → drop at xs ≡ i ∷ drop (suc at) xs
drop_one [] zero i is = absurd cc
drop_one [] (suc at) i is = absurd cc
drop_one {A = A} (x ∷ xs) zero i is = ap (λ (o : Option A). unwrap_or o x ∷ xs) is
drop_one (x ∷ xs) (suc at) i is = drop_one xs at i is

-- Where the item is brought

brought_past : {A : Type 0} (ys rest : List A) (i : A) → brought (length ys) (ys ++ i ∷ rest) ≡ i ∷ (ys ++ rest)
unfolding brought exchanged
brought_past [] rest i = refl
brought_past (y ∷ ys) rest i = ap (λ l. exchanged 0 (y ∷ l)) (brought_past ys rest i)

take_front : {A : Type 0} (xs ys : List A) → take (length xs) (xs ++ ys) ≡ xs
take_front [] ys = refl
take_front (x ∷ xs) ys = ap (λ l. x ∷ l) (take_front xs ys)

drop_front : {A : Type 0} (xs ys : List A) → drop (length xs) (xs ++ ys) ≡ ys
drop_front [] ys = refl
drop_front (x ∷ xs) ys = drop_front xs ys

-- as many of the first items are in the set and not in it as there are
pub front_size : {A : Type 0} (bs : List Bool) (xs : List A) (at : ℕ) → length bs ≡ length xs → at ≤ length xs → length (front_chosen at bs xs) + length (front_others at bs xs) ≡ at
unfolding chosen others
front_size bs xs zero size less = refl
front_size [] [] (suc at) size less = absurd (omega (arith, less))
front_size [] (x ∷ xs) (suc at) size less = absurd (none (length xs) size)
  where
    none : (k : ℕ) → 0 ≡ suc k → ⊥
    none k h = omega (arith, h)
front_size (b ∷ bs) [] (suc at) size less = absurd (omega (arith, less))
front_size (true ∷ bs) (x ∷ xs) (suc at) size less = let rest = front_size bs xs at (let total = size in omega (arith, total)) (omega (arith, less)) in omega (arith, rest)
front_size (false ∷ bs) (x ∷ xs) (suc at) size less = let rest = front_size bs xs at (let total = size in omega (arith, total)) (omega (arith, less)) in omega (arith, rest)

-- An item of the set passes those before it that are not in it

-- an item of the set is among the items that are in it
chosen_has : {A : Type 0} (test : A → Bool) (bs : List Bool) (xs : List A) (at : ℕ) (i : A) → slice_get bs at ≡ Some true → slice_get xs at ≡ Some i → list_any test (chosen bs xs) ≡ false → test i ≡ false
unfolding chosen
chosen_has test [] xs zero i flag is none = absurd cc
chosen_has test [] xs (suc at) i flag is none = absurd cc
chosen_has test (b ∷ bs) [] zero i flag is none = absurd cc
chosen_has test (b ∷ bs) [] (suc at) i flag is none = absurd cc
chosen_has test (false ∷ bs) (x ∷ xs) zero i flag is none = absurd cc
chosen_has test (true ∷ bs) (x ∷ xs) zero i flag is none = subst (λ y. test y ≡ false) (ap (λ o. unwrap_or o x) is) (first (test x) (list_any test (chosen bs xs)) none)
  where
    first : (a b : Bool) → (a || b) ≡ false → a ≡ false
    first a b h = grind (arith, common_steps)
chosen_has test (true ∷ bs) (x ∷ xs) (suc at) i flag is none = chosen_has test bs xs at i flag is (last (test x) (list_any test (chosen bs xs)) none)
  where
    last : (a b : Bool) → (a || b) ≡ false → b ≡ false
    last a b h = grind (arith, common_steps)
chosen_has test (false ∷ bs) (x ∷ xs) (suc at) i flag is none = chosen_has test bs xs at i flag is none

others_apart : {A : Type 0} (meets : A → A → Bool) (bs : List Bool) (xs : List A) (at : ℕ) (i : A) → IsClosed meets bs xs → slice_get bs at ≡ Some true → slice_get xs at ≡ Some i → list_any (λ j. meets j i) (front_others at bs xs) ≡ false
unfolding others IsClosed
others_apart meets bs xs zero i closed flag is = nothing bs
  where
    nothing : (cs : List Bool) → list_any (λ j. meets j i) (others [] (take 0 xs)) ≡ false
    nothing cs = refl
others_apart meets [] xs (suc at) i closed flag is = absurd cc
others_apart meets (b ∷ bs) [] (suc at) i closed flag is = absurd cc
others_apart meets (true ∷ bs) (x ∷ xs) (suc at) i closed flag is = others_apart meets bs xs at i closed.1 flag is
others_apart meets (false ∷ bs) (x ∷ xs) (suc at) i closed flag is =
    let here : meets x i ≡ false = chosen_has (meets x) bs xs at i flag is (closed.0 refl) in
    let rest : list_any (λ j. meets j i) (front_others at bs xs) ≡ false = others_apart meets bs xs at i closed.1 flag is in
    λ k. here k || rest k

get_at : {A : Type 0} (xs ys : List A) (i : A) → slice_get (xs ++ i ∷ ys) (length xs) ≡ Some i
get_at [] ys i = refl
get_at (x ∷ xs) ys i = get_at xs ys i

-- the item at this place may pass those that are not in the set, where the first items are rearranged
pub passes : {A : Type 0} (meets : A → A → Bool) (bs : List Bool) (xs : List A) (at : ℕ) (i : A) → length bs ≡ length xs → IsClosed meets bs xs → slice_get bs at ≡ Some true → slice_get xs at ≡ Some i → at < length xs → may_pass meets (length (front_chosen at bs xs)) at (partly at bs xs) ≡ true
passes {A = A} meets bs xs at i size closed flag is less =
    ap (λ o. unwrap_or (option_map (λ k. not (list_any (λ j. meets j k) (drop (length C) (take at (partly at bs xs))))) o) false) there
    ∙ ap (λ l. not (list_any (λ j. meets j i) l)) passed
    ∙ ap not (others_apart meets bs xs at i closed flag is)
  where
    C : List A
    C = front_chosen at bs xs

    O : List A
    O = front_others at bs xs

    rest : List A
    rest = drop (suc at) xs

    line : partly at bs xs ≡ (C ++ O) ++ i ∷ rest
    line = ap (λ l. C ++ (O ++ l)) (drop_one xs at i is) ∙ sym (append_assoc C O (i ∷ rest))

    sum : length (C ++ O) ≡ at
    sum = joined C O ∙ front_size bs xs at size (omega (arith, less))
      where
        joined : (a b : List A) → length (a ++ b) ≡ length a + length b
        joined [] b = omega arith
        joined (x ∷ a) b = let more = joined a b in omega (arith, more)

    there : slice_get (partly at bs xs) at ≡ Some i
    there = ap (λ l. slice_get l at) line ∙ ap (slice_get ((C ++ O) ++ i ∷ rest)) (sym sum) ∙ get_at (C ++ O) rest i

    passed : drop (length C) (take at (partly at bs xs)) ≡ O
    passed = ap (λ l. drop (length C) (take at l)) line ∙ ap (λ k. drop (length C) (take k ((C ++ O) ++ i ∷ rest))) (sym sum) ∙ ap (drop (length C)) (take_front (C ++ O) (i ∷ rest)) ∙ drop_front C O

-- where so many of the first items are in the set, and some item up to a place is not, those of the set up to there are as many at least
pub first_held : {A : Type 0} (k at : ℕ) (bs : List Bool) (xs : List A) → at ≤ length xs → HoldsFirst k bs → length (front_chosen at bs xs) < at → k ≤ length (front_chosen at bs xs)
unfolding chosen
first_held zero at bs xs less holds some = omega arith
first_held (suc k) zero bs xs less holds some = absurd (omega (arith, some))
first_held (suc k) (suc at) bs [] less holds some = absurd (omega (arith, less))
first_held (suc k) (suc at) [] (x ∷ xs) less holds some = let none = holds 0 (omega arith) in absurd cc
first_held (suc k) (suc at) (false ∷ bs) (x ∷ xs) less holds some = let none = holds 0 (omega arith) in absurd cc
first_held (suc k) (suc at) (true ∷ bs) (x ∷ xs) less holds some =
    let rest = first_held k at bs xs (omega (arith, less)) (λ i low. holds (suc i) (omega (arith, low))) (omega (arith, some)) in
    omega (arith, rest)

-- then one item more is rearranged
pub passed_more : {A : Type 0} (bs : List Bool) (xs items : List A) (at : ℕ) (i : A) → length bs ≡ length xs → slice_get bs at ≡ Some true → slice_get xs at ≡ Some i → at < length xs
    → items ≡ take (length (front_chosen at bs xs)) (partly at bs xs) ++ brought (at - length (front_chosen at bs xs)) (drop (length (front_chosen at bs xs)) (partly at bs xs)) → items ≡ partly (suc at) bs xs
passed_more {A = A} bs xs items at i size flag is less are =
    are ∙ (λ k. take_front C (O ++ drop at xs) k ++ brought (at - length C) (drop_front C (O ++ drop at xs) k))
    ∙ ap (λ l. C ++ brought (at - length C) (O ++ l)) (drop_one xs at i is)
    ∙ ap (λ k. C ++ brought k (O ++ i ∷ rest)) many
    ∙ ap (λ l. C ++ l) (brought_past O rest i)
    ∙ sym (append_assoc C (i ∷ []) (O ++ rest))
    ∙ (λ k. sym (chosen_more bs xs at i flag is) k ++ (sym (others_same bs xs at flag) k ++ rest))
  where
    C : List A
    C = front_chosen at bs xs

    O : List A
    O = front_others at bs xs

    rest : List A
    rest = drop (suc at) xs

    many : at - length C ≡ length O
    many = let sum = front_size bs xs at size (omega (arith, less)) in omega (arith, sum)

pub size_more : {A : Type 0} (bs : List Bool) (xs : List A) (at : ℕ) (i : A) → slice_get bs at ≡ Some true → slice_get xs at ≡ Some i → length (front_chosen (suc at) bs xs) ≡ length (front_chosen at bs xs) + 1
size_more {A = A} bs xs at i flag is = ap length (chosen_more bs xs at i flag is) ∙ one (front_chosen at bs xs)
  where
    one : (a : List A) → length (a ++ i ∷ []) ≡ length a + 1
    one [] = refl
    one (x ∷ a) = let more = one a in omega (arith, more)

-- an item that is not in the set stays
pub stays : {A : Type 0} (bs : List Bool) (xs : List A) (at : ℕ) (i : A) → slice_get bs at ≡ Some false → slice_get xs at ≡ Some i → partly at bs xs ≡ partly (suc at) bs xs
stays {A = A} bs xs at i flag is =
    ap (λ l. front_chosen at bs xs ++ (front_others at bs xs ++ l)) (drop_one xs at i is)
    ∙ ap (λ l. front_chosen at bs xs ++ l) (sym (append_assoc (front_others at bs xs) (i ∷ []) (drop (suc at) xs)))
    ∙ (λ k. sym (chosen_same bs xs at flag) k ++ (sym (others_more bs xs at i flag is) k ++ drop (suc at) xs))

pub size_same : {A : Type 0} (bs : List Bool) (xs : List A) (at : ℕ) → slice_get bs at ≡ Some false → length (front_chosen (suc at) bs xs) ≡ length (front_chosen at bs xs)
size_same bs xs at flag = ap length (chosen_same bs xs at flag)

-- all of the line
pub whole : {A : Type 0} (bs : List Bool) (xs : List A) → length bs ≡ length xs → partly (length bs) bs xs ≡ rearranged bs xs
whole {A = A} bs xs size =
    (λ k. chosen (all bs k) (all_of k) ++ (others (all bs k) (all_of k) ++ nothing k))
    ∙ ap (λ l. chosen bs xs ++ l) (no_more (others bs xs))
  where
    all : {B : Type 0} (l : List B) → take (length l) l ≡ l
    all [] = refl
    all (x ∷ l) = ap (λ m. x ∷ m) (all l)

    all_of : take (length bs) xs ≡ xs
    all_of = ap (λ k. take k xs) size ∙ all xs

    gone : {B : Type 0} (l : List B) → drop (length l) l ≡ []
    gone [] = refl
    gone (x ∷ l) = gone l

    nothing : drop (length bs) xs ≡ []
    nothing = ap (λ k. drop k xs) size ∙ gone xs

    no_more : (l : List A) → l ++ [] ≡ l
    no_more [] = refl
    no_more (x ∷ l) = ap (λ m. x ∷ m) (no_more l)

-- At a place of the line

pub there : {A : Type 0} (xs : List A) (at : ℕ) → at < length xs → (i : A) × (slice_get xs at ≡ Some i)
there [] at less = absurd (omega (arith, less))
there (x ∷ xs) zero less = (x, refl)
there (x ∷ xs) (suc at) less = there xs at (omega (arith, less))

pub flag_is : (bs : List Bool) (at : ℕ) (b : Bool) → at < length bs → get_or bs at false ≡ b → slice_get bs at ≡ Some b
flag_is [] at b less is = absurd (omega (arith, less))
flag_is (x ∷ bs) zero b less is = ap Some is
flag_is (x ∷ bs) (suc at) b less is = flag_is bs at b (omega (arith, less)) is

pub further : (at : ℕ) → suc at ≡ at + 1
further at = omega arith

pub begins : {A : Type 0} (bs : List Bool) (xs : List A) → (xs ≡ partly 0 bs xs) × (0 ≡ length (front_chosen 0 bs xs))
unfolding chosen others
begins bs xs = (refl, refl)
