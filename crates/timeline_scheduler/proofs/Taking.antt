-- A set that takes in, one by one, the items that pass a test.
use Rattle.timeline_scheduler.proofs.Prelude.{Bool, List, [], ap, ap₂, arith, cond, count_by, drop, either_of, false, length, length-map, length-set, map, not, refl, slice_index_or, slice_set, suc, sum_by-cons, sym, take, take_all, take_more, true, zero, ℕ, ◌++◌, ◌+◌, ◌<◌, ◌||◌, ◌∙◌, ◌∷◌, ◌≡◌, ◌≤◌}
use Rattle.timeline_scheduler.proofs.Closing.{take_set}

-- how many items are outside
abbrev pub outside : List Bool → ℕ
outside bs = count_by not bs

outside_first : (b : Bool) (bs : List Bool) → outside (b ∷ bs) ≡ cond (not b) 1 0 + outside bs
outside_first b bs = sum_by-cons (λ c. cond (not c) 1 0) b bs

-- one that was outside is in
fewer_outside : (bs : List Bool) (k : ℕ) → k < length bs → slice_index_or bs k false ≡ false → outside (slice_set bs k true) + 1 ≡ outside bs
fewer_outside [] k within out = absurd (omega (arith, within))
fewer_outside (b ∷ bs) zero within out = let now = outside_first true bs in let was = outside_first b bs ∙ ap (λ c. cond (not c) 1 0 + outside bs) out in omega (arith, now, was)
fewer_outside (b ∷ bs) (suc k) within out =
    let rest = fewer_outside bs k (omega (arith, within)) out in
    let now = outside_first b (slice_set bs k true) in
    let was = outside_first b bs in
    omega (arith, rest, now, was)

either_at : (bs cs : List Bool) (k : ℕ) → length bs ≡ length cs → slice_index_or (either_of bs cs) k false ≡ (slice_index_or bs k false || slice_index_or cs k false)
unfolding either_of
either_at [] [] k size = refl
either_at [] (c ∷ cs) k size = absurd (omega (arith, size))
either_at (b ∷ bs) [] k size = absurd (omega (arith, size))
either_at (b ∷ bs) (c ∷ cs) zero size = refl
either_at (b ∷ bs) (c ∷ cs) (suc k) size = either_at bs cs k (omega (arith, size))

either_length : (bs cs : List Bool) → length bs ≡ length cs → length (either_of bs cs) ≡ length bs
unfolding either_of
either_length [] [] size = refl
either_length [] (c ∷ cs) size = absurd (omega (arith, size))
either_length (b ∷ bs) [] size = absurd (omega (arith, size))
either_length (b ∷ bs) (c ∷ cs) size = let rest = either_length bs cs (omega (arith, size)) in omega (arith, rest)

map_at : {A : Type 0} (test : A → Bool) (xs : List A) (k : ℕ) (x : A) → k < length xs → slice_index_or xs k x ≡ x → slice_index_or (map test xs) k false ≡ test x
map_at test [] k x within is = absurd (omega (arith, within))
map_at test (y ∷ xs) zero x within is = ap test is
map_at test (y ∷ xs) (suc k) x within is = map_at test xs k x (omega (arith, within)) is

get_set : (bs : List Bool) (k : ℕ) (b : Bool) → k < length bs → slice_index_or (slice_set bs k b) k false ≡ b
get_set [] k b within = absurd (omega (arith, within))
get_set (c ∷ bs) zero b within = refl
get_set (c ∷ bs) (suc k) b within = get_set bs k b (omega (arith, within))

drop_set_behind : (bs : List Bool) (k : ℕ) (b : Bool) → drop (k + 1) (slice_set bs k b) ≡ drop (k + 1) bs
drop_set_behind bs k b = ap (λ j. drop j (slice_set bs k b)) (next k) ∙ along bs k ∙ sym (ap (λ j. drop j bs) (next k))
  where
    next : (j : ℕ) → j + 1 ≡ suc j
    next j = omega arith

    along : (cs : List Bool) (j : ℕ) → drop (suc j) (slice_set cs j b) ≡ drop (suc j) cs
    along [] j = refl
    along (c ∷ cs) zero = refl
    along (c ∷ cs) (suc j) = along cs j

drop_next : (bs cs : List Bool) (k : ℕ) → drop k bs ≡ drop k cs → drop (k + 1) bs ≡ drop (k + 1) cs
drop_next bs cs k same = ap (λ j. drop j bs) (next k) ∙ along bs cs k same ∙ sym (ap (λ j. drop j cs) (next k))
  where
    next : (j : ℕ) → j + 1 ≡ suc j
    next j = omega arith

    tail_of : List Bool → List Bool
    tail_of [] = []
    tail_of (x ∷ xs) = xs

    dropped : (xs : List Bool) (j : ℕ) → drop (suc j) xs ≡ tail_of (drop j xs)
    dropped [] zero = refl
    dropped [] (suc j) = refl
    dropped (x ∷ xs) zero = refl
    dropped (x ∷ xs) (suc j) = dropped xs j

    along : (xs ys : List Bool) (j : ℕ) → drop j xs ≡ drop j ys → drop (suc j) xs ≡ drop (suc j) ys
    along xs ys j e = dropped xs j ∙ ap tail_of e ∙ sym (dropped ys j)

-- the flag at a place of which those from there on are the same
drop_same : (bs cs : List Bool) (k : ℕ) → drop k bs ≡ drop k cs → slice_index_or bs k false ≡ slice_index_or cs k false
drop_same bs cs k same = head bs k ∙ ap head_of same ∙ sym (head cs k)
  where
    head_of : List Bool → Bool
    head_of [] = false
    head_of (x ∷ xs) = x

    head : (xs : List Bool) (j : ℕ) → slice_index_or xs j false ≡ head_of (drop j xs)
    head [] zero = refl
    head [] (suc j) = refl
    head (x ∷ xs) zero = refl
    head (x ∷ xs) (suc j) = head xs j

module _ {A : Type 0} (test : A → Bool) (items : List A) (old : List Bool) where
  abbrev whole : List Bool
  whole = either_of old (map test items)

  -- up to this place those that pass are in; some were taken in, or none
  pub record IsTakenTo (flags : List Bool) (at : ℕ) (some : Bool) : Type 0 where
    pub size : length flags ≡ length old
    pub front : take at flags ≡ take at whole
    pub back : drop at flags ≡ drop at old
    pub none : some ≡ false → flags ≡ old
    pub more : some ≡ true → outside flags < outside old

  pub none_taken : IsTakenTo old 0 false
  none_taken = record { size = refl; front = refl_take old whole; back = refl; none = λ e. refl; more = λ e. absurd (cc) }
    where
      refl_take : (bs cs : List Bool) → take 0 bs ≡ take 0 cs
      refl_take [] [] = refl
      refl_take [] (c ∷ cs) = refl
      refl_take (b ∷ bs) [] = refl
      refl_take (b ∷ bs) (c ∷ cs) = refl

  module _ (flags : List Bool) (at : ℕ) (some : Bool) (size : length old ≡ length items) (was : IsTakenTo flags at some) (within : at < length flags) where
    inside : at < length old
    inside = let long = was.size in omega (arith, within, long)

    mapped : length old ≡ length (map test items)
    mapped = size ∙ sym (length-map items test)

    whole_inside : at < length whole
    whole_inside = let long = either_length old (map test items) mapped in let here = inside in omega (arith, here, long)

    one_more : (flag : Bool) (now : List Bool) → at < length now → take at now ≡ take at whole → slice_index_or now at false ≡ flag → slice_index_or whole at false ≡ flag → take (at + 1) now ≡ take (at + 1) whole
    one_more flag now there same is that = take_more now at false there ∙ ap₂ (λ l b. l ++ b ∷ []) same (is ∙ sym that) ∙ sym (take_more whole at false whole_inside)

    -- one that is in already
    pub taken_in : slice_index_or flags at false ≡ true → IsTakenTo flags (at + 1) some
    taken_in in' = record {
      size = was.size;
      front = one_more true flags within was.front in' (either_at old (map test items) at mapped ∙ ap (λ b. b || slice_index_or (map test items) at false) (sym (drop_same flags old at was.back) ∙ in'));
      back = drop_next flags old at was.back;
      none = was.none;
      more = was.more;
    }

    module _ (item : A) (there : slice_index_or items at item ≡ item) (out : slice_index_or flags at false ≡ false) where
      whole_at : slice_index_or whole at false ≡ test item
      whole_at =
          either_at old (map test items) at mapped ∙ ap₂ (λ a b. a || b) (sym (drop_same flags old at was.back) ∙ out)
          (map_at test items at item (let here = inside in omega (arith, here, size)) there)

      -- one that does not pass
      pub taken_not : false ≡ test item → IsTakenTo flags (at + 1) some
      taken_not fails = record {
        size = was.size;
        front = one_more false flags within was.front out (whole_at ∙ sym fails);
        back = drop_next flags old at was.back;
        none = was.none;
        more = was.more;
      }

      -- one that does
      pub taken_too : true ≡ test item → IsTakenTo (slice_set flags at true) (at + 1) true
      taken_too passes = record {
        size = length-set flags at true ∙ was.size;
        front = one_more true (slice_set flags at true) (let long = length-set flags at true in omega (arith, within, long)) (take_set flags at true ∙ was.front) (get_set flags at true within) (whole_at ∙ sym passes);
        back = drop_set_behind flags at true ∙ drop_next flags old at was.back;
        none = λ e. absurd (cc);
        more = λ e. less some refl;
      }
        where
          step : outside (slice_set flags at true) + 1 ≡ outside flags
          step = fewer_outside flags at within out

          less : (b : Bool) → some ≡ b → outside (slice_set flags at true) < outside old
          less true e = let before = was.more e in omega (arith, before, step)
          less false e = let same = ap outside (was.none e) in omega (arith, same, step)

  -- all that pass are in
  pub all_taken : (flags : List Bool) (at : ℕ) (some : Bool) → length old ≡ length items → IsTakenTo flags at some → length flags ≤ at → flags ≡ whole
  all_taken flags at some size was all =
      let long = was.size in
      let wide = either_length old (map test items) (size ∙ sym (length-map items test)) in
      sym (take_all at flags all) ∙ was.front ∙ take_all at whole (omega (arith, all, long, wide))
