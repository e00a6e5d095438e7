-- A set closed item by item, from the last one on.
use Rattle.timeline_scheduler.proofs.Prelude.{Bool, List, [], ap, ap₂, arith, chosen, closure, drop, drop_all, drop_more, false, if◌then◌else◌, length, length-set, list_any, refl, slice_index_or, slice_set, subst, suc, sym, take, true, zero, ℕ, ◌++◌, ◌+◌, ◌<◌, ◌||◌, ◌∙◌, ◌∷◌, ◌≡◌, ◌≤◌}

-- Parts of a list with an item changed

pub take_set : {A : Type 0} (xs : List A) (k : ℕ) (x : A) → take k (slice_set xs k x) ≡ take k xs
take_set [] k x = refl
take_set (y ∷ xs) zero x = refl
take_set (y ∷ xs) (suc k) x = ap (λ l. y ∷ l) (take_set xs k x)

pub drop_set : {A : Type 0} (xs : List A) (k : ℕ) (x : A) → k < length xs → drop k (slice_set xs k x) ≡ x ∷ drop (suc k) xs
drop_set [] k x within = absurd (omega (arith, within))
drop_set (y ∷ xs) zero x within = refl
drop_set (y ∷ xs) (suc k) x within = drop_set xs k x (omega (arith, within))

-- the first ones are those of a longer part
take_less : {A : Type 0} (xs ys : List A) (k : ℕ) → take (suc k) xs ≡ take (suc k) ys → take k xs ≡ take k ys
take_less [] [] k same = refl
take_less [] (y ∷ ys) k same = absurd (cc)
take_less (x ∷ xs) [] k same = absurd (cc)
take_less (x ∷ xs) (y ∷ ys) zero same = refl
take_less (x ∷ xs) (y ∷ ys) (suc k) same = ap₂ (λ a l. a ∷ l) (first x y _ _ same) (take_less xs ys k (behind x y _ _ same))
  where
    first : {A : Type 0} (a b : A) (l m : List A) → a ∷ l ≡ b ∷ m → a ≡ b
    first a b l m e = cc

    behind : {A : Type 0} (a b : A) (l m : List A) → a ∷ l ≡ b ∷ m → l ≡ m
    behind a b l m e = cc

take_last : {A : Type 0} (xs ys : List A) (k : ℕ) (x : A) → k < length xs → k < length ys → take (suc k) xs ≡ take (suc k) ys → slice_index_or xs k x ≡ slice_index_or ys k x
take_last [] ys k x within there same = absurd (omega (arith, within))
take_last (a ∷ xs) [] k x within there same = absurd (omega (arith, there))
take_last (a ∷ xs) (b ∷ ys) zero x within there same = cc
take_last {A = A} (a ∷ xs) (b ∷ ys) (suc k) x within there same = take_last xs ys k x (omega (arith, within)) (omega (arith, there)) (behind a b _ _ same)
  where
    behind : (a b : A) (l m : List A) → a ∷ l ≡ b ∷ m → l ≡ m
    behind a b l m e = cc

module _ {A : Type 0} (meets : A → A → Bool) (seeds : List Bool) (items : List A) where
  -- the flags from this place on are those of the closure, those before it the seeds
  pub record IsClosedTo (flags : List Bool) (at : ℕ) : Type 0 where
    pub size : length flags ≡ length seeds
    pub front : take at flags ≡ take at seeds
    pub back : drop at flags ≡ closure meets (drop at seeds) (drop at items)

  pub none_closed : (at : ℕ) → at ≡ length seeds → length seeds ≡ length items → IsClosedTo seeds at
  unfolding closure
  none_closed at end size = record {
    size = refl;
    front = refl;
    back = drop_all at seeds (omega (arith, end)) ∙ sym (ap₂ (closure meets) (drop_all at seeds (omega (arith, end))) (drop_all at items (omega (arith, end, size))));
  }

  module _ (flags : List Bool) (at k : ℕ) (flag : Bool) (item : A) (was : IsClosedTo flags at) (own : at ≡ suc k) (within : k < length flags) (size : length seeds ≡ length items) (is : slice_index_or flags k flag ≡ flag) (there : slice_index_or items k item ≡ item) where
    seed : slice_index_or seeds k flag ≡ flag
    seed = let long = was.size in sym (take_last flags seeds k flag within (omega (arith, within, long)) (subst (λ j. take j flags ≡ take j seeds) own was.front)) ∙ is

    parts : closure meets (drop k seeds) (drop k items) ≡ (flag || list_any (meets item) (chosen (drop at flags) (drop at items))) ∷ drop at flags
    unfolding closure
    parts =
        let long = was.size in
        ap₂ (closure meets) (drop_at seeds flag (omega (arith, within, long)) seed) (drop_at items item (omega (arith, within, long, size)) there)
        ∙ ap (λ cs. (flag || list_any (meets item) (chosen cs (drop at items))) ∷ cs) (sym was.back)
      where
        drop_at : {B : Type 0} (xs : List B) (x : B) → k < length xs → slice_index_or xs k x ≡ x → drop k xs ≡ x ∷ drop at xs
        drop_at xs x inside e = let next : k + 1 ≡ at = omega (arith, own) in drop_more xs k x inside ∙ ap₂ (λ y j. y ∷ drop j xs) e next

    before : take k flags ≡ take k seeds
    before = take_less flags seeds k (subst (λ j. take j flags ≡ take j seeds) own was.front)

    -- one item more
    pub closed_next : (b : Bool) → b ≡ (flag || list_any (meets item) (chosen (drop at flags) (drop at items))) → IsClosedTo (slice_set flags k b) k
    closed_next b is_in = record {
      size = length-set flags k b ∙ was.size;
      front = take_set flags k b ∙ before;
      back = drop_set flags k b within ∙ ap₂ (λ c j. c ∷ drop j flags) is_in (sym own) ∙ sym parts;
    }

    -- the items of the set from here on
    pub chosen_next : (b : Bool) → chosen (drop k (slice_set flags k b)) (drop k items) ≡ (if b then item ∷ chosen (drop at flags) (drop at items) else chosen (drop at flags) (drop at items))
    unfolding chosen
    chosen_next b = let long = was.size in ap₂ chosen (drop_set flags k b within ∙ ap (λ j. b ∷ drop j flags) (sym own)) (items_at (omega (arith, within, long, size)))
      where
        items_at : k < length items → drop k items ≡ item ∷ drop at items
        items_at inside = let next : k + 1 ≡ at = omega (arith, own) in drop_more items k item inside ∙ ap₂ (λ y j. y ∷ drop j items) there next

  -- all are closed
  pub all_closed : (flags : List Bool) (at : ℕ) → at ≡ 0 → IsClosedTo flags at → flags ≡ closure meets seeds items
  all_closed flags at end was = subst (λ j. drop j flags ≡ closure meets (drop j seeds) (drop j items)) end was.back

-- The items of a set, from the first on

-- none is behind the last
pub none_chosen : {A : Type 0} (flags : List Bool) (items : List A) (at : ℕ) → length items ≤ at → chosen (drop at flags) (drop at items) ≡ []
unfolding chosen
none_chosen flags items at all = ap (chosen (drop at flags)) (drop_all at items all)

-- none is before the first
pub first_chosen : {A : Type 0} (flags : List Bool) (items : List A) → chosen (take 0 flags) (take 0 items) ≡ []
unfolding chosen
first_chosen [] [] = refl
first_chosen [] (i ∷ is) = refl
first_chosen (b ∷ bs) [] = refl
first_chosen (b ∷ bs) (i ∷ is) = refl

-- one further
pub chosen_more : {A : Type 0} (flags : List Bool) (items : List A) (k : ℕ) (item : A) → k < length flags → k < length items → slice_index_or flags k false ≡ true → slice_index_or items k item ≡ item
    → chosen (take (k + 1) flags) (take (k + 1) items) ≡ chosen (take k flags) (take k items) ++ item ∷ []
unfolding chosen
chosen_more {A = A} flags items k item within inside in' there = ap (λ j. chosen (take j flags) (take j items)) (next k) ∙ along flags items k within inside in' there
  where
    next : (j : ℕ) → j + 1 ≡ suc j
    next j = omega arith

    along : (bs : List Bool) (is : List A) (j : ℕ) → j < length bs → j < length is → slice_index_or bs j false ≡ true → slice_index_or is j item ≡ item → chosen (take (suc j) bs) (take (suc j) is) ≡ chosen (take j bs) (take j is) ++ item ∷ []
    along [] is j w i e h = absurd (omega (arith, w))
    along (b ∷ bs) [] j w i e h = absurd (omega (arith, i))
    along (b ∷ bs) (x ∷ is) zero w i e h = ap₂ (λ c y. if c then y ∷ chosen (take 0 bs) (take 0 is) else chosen (take 0 bs) (take 0 is)) e h ∙ ap (λ l. item ∷ l) (first_chosen bs is)
    along (true ∷ bs) (x ∷ is) (suc j) w i e h = ap (λ l. x ∷ l) (along bs is j (omega (arith, w)) (omega (arith, i)) e h)
    along (false ∷ bs) (x ∷ is) (suc j) w i e h = along bs is j (omega (arith, w)) (omega (arith, i)) e h

-- one further, which is outside
pub chosen_same : {A : Type 0} (flags : List Bool) (items : List A) (k : ℕ) → k < length flags → slice_index_or flags k false ≡ false → chosen (take (k + 1) flags) (take (k + 1) items) ≡ chosen (take k flags) (take k items)
unfolding chosen
chosen_same {A = A} flags items k within out = ap (λ j. chosen (take j flags) (take j items)) (next k) ∙ along flags items k within out
  where
    next : (j : ℕ) → j + 1 ≡ suc j
    next j = omega arith

    along : (bs : List Bool) (is : List A) (j : ℕ) → j < length bs → slice_index_or bs j false ≡ false → chosen (take (suc j) bs) (take (suc j) is) ≡ chosen (take j bs) (take j is)
    along [] is j w e = absurd (omega (arith, w))
    along (b ∷ bs) [] zero w e = refl
    along (b ∷ bs) [] (suc j) w e = refl
    along (b ∷ bs) (x ∷ is) zero w e = ap (λ c. if c then x ∷ chosen (take 0 bs) (take 0 is) else chosen (take 0 bs) (take 0 is)) e
    along (true ∷ bs) (x ∷ is) (suc j) w e = ap (λ l. x ∷ l) (along bs is j (omega (arith, w)) e)
    along (false ∷ bs) (x ∷ is) (suc j) w e = along bs is j (omega (arith, w)) e
