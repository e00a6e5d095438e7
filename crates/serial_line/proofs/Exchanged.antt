-- A line in which two neighbours are exchanged.
use Rattle.serial_line.proofs.Prelude.{Bool, Exchanged, HoldsFirst, Item, List, Mark, Stays, Swaps, [], all_differ, ap, append_assoc, are_apart, arith, chosen, common_steps, exchanged, false, front_of, get_or, if◌then◌else◌, is_item, is_open_run, items_of, length, list_any, not, option_and_then, option_map, others, rearranged, refl, set, slice_get, subst, suc, swap, sym, take, true, unwrap_or, zero, ℕ, ◌&&◌, ◌++◌, ◌+◌, ◌<◌, ◌||◌, ◌∙◌, ◌∷◌, ◌≡◌, ◌≢◌, ◌≤◌}
use Rattle.serial_line.proofs.Once.{item_back}

-- two places of a list, set so, are exchanged
swap_suc : {A : Type 0} (xs : List A) (at : ℕ) (d : A) → suc at < length xs → set (set xs at (get_or xs (suc at) d)) (suc at) (get_or xs at d) ≡ exchanged at xs
unfolding exchanged
swap_suc [] at d less = absurd (omega (arith, less))
swap_suc (x ∷ []) zero d less = absurd (omega (arith, less))
swap_suc (x ∷ []) (suc at) d less = absurd (omega (arith, less))
swap_suc (x ∷ y ∷ xs) zero d less = refl
swap_suc (x ∷ y ∷ xs) (suc at) d less = ap (λ l. x ∷ l) (swap_suc (y ∷ xs) at d (omega (arith, less)))

further : (at : ℕ) → at + 1 ≡ suc at
further at = omega arith

pub swap_is : {A : Type 0} (xs : List A) (at : ℕ) (d : A) → at + 1 < length xs → set (set xs at (get_or xs (at + 1) d)) (at + 1) (get_or xs at d) ≡ exchanged at xs
swap_is xs at d less = ap (λ k. set (set xs at (get_or xs k d)) k (get_or xs at d)) (further at) ∙ swap_suc xs at d (subst (λ k. k < length xs) (further at) less)

pub swapped : {A : Type 0} (xs : List A) (at : ℕ) → at + 1 < length xs → swap xs at (at + 1) ≡ exchanged at xs
swapped [] at less = absurd (omega (arith, less))
swapped (x ∷ xs) at less = swap_is (x ∷ xs) at x less

pub length_exchanged : {A : Type 0} (xs : List A) (at : ℕ) → length (exchanged at xs) ≡ length xs
unfolding exchanged
length_exchanged [] at = refl
length_exchanged (x ∷ []) zero = refl
length_exchanged (x ∷ y ∷ xs) zero = refl
length_exchanged (x ∷ xs) (suc at) = ap suc (length_exchanged xs at)

-- what stands where
pub get_first : {A : Type 0} (xs : List A) (at : ℕ) (d : A) → suc at < length xs → get_or (exchanged at xs) at d ≡ get_or xs (suc at) d
unfolding exchanged
get_first [] at d less = absurd (omega (arith, less))
get_first (x ∷ []) zero d less = absurd (omega (arith, less))
get_first (x ∷ []) (suc at) d less = absurd (omega (arith, less))
get_first (x ∷ y ∷ xs) zero d less = refl
get_first (x ∷ y ∷ xs) (suc at) d less = get_first (y ∷ xs) at d (omega (arith, less))

pub get_second : {A : Type 0} (xs : List A) (at : ℕ) (d : A) → suc at < length xs → get_or (exchanged at xs) (suc at) d ≡ get_or xs at d
unfolding exchanged
get_second [] at d less = absurd (omega (arith, less))
get_second (x ∷ []) zero d less = absurd (omega (arith, less))
get_second (x ∷ []) (suc at) d less = absurd (omega (arith, less))
get_second (x ∷ y ∷ xs) zero d less = refl
get_second (x ∷ y ∷ xs) (suc at) d less = get_second (y ∷ xs) at d (omega (arith, less))

pub get_else : {A : Type 0} (xs : List A) (at k : ℕ) (d : A) → k ≢ at → k ≢ suc at → get_or (exchanged at xs) k d ≡ get_or xs k d
unfolding exchanged
get_else [] at k d one two = refl
get_else (x ∷ []) zero k d one two = refl
get_else (x ∷ y ∷ xs) zero zero d one two = absurd (one refl)
get_else (x ∷ y ∷ xs) zero (suc zero) d one two = absurd (two refl)
get_else (x ∷ y ∷ xs) zero (suc (suc k)) d one two = refl
get_else (x ∷ xs) (suc at) zero d one two = refl
get_else (x ∷ xs) (suc at) (suc k) d one two = get_else xs at k d (λ e. one (ap suc e)) (λ e. two (ap suc e))

-- Exchanges

module _ {A : Type 0} (meets : A → A → Bool) (line : List A) where
  more_from : (front xs : List A) (at : ℕ) → are_apart meets at xs ≡ true → Exchanged meets line (front ++ xs) → Exchanged meets line (front ++ exchanged at xs)
  unfolding exchanged
  more_from front [] at apart so = absurd (cc)
  more_from front (x ∷ []) zero apart so = absurd (cc)
  more_from front (x ∷ y ∷ xs) zero apart so = Swaps front xs x y so (none (meets x y) apart)
    where
      none : (b : Bool) → not b ≡ true → b ≡ false
      none b h = grind (arith, common_steps)
  more_from front (x ∷ xs) (suc at) apart so =
      let next : suc at + 1 ≡ suc (at + 1) = omega arith in
      let apart_on : are_apart meets at xs ≡ true = subst (λ k. unwrap_or (option_and_then (λ i. option_map (λ j. not (meets i j)) (slice_get (x ∷ xs) k)) (slice_get xs at)) false ≡ true) next apart in
      subst (Exchanged meets line) (append_assoc front (x ∷ []) (exchanged at xs)) (more_from (front ++ x ∷ []) xs at apart_on (subst (Exchanged meets line) (sym (append_assoc front (x ∷ []) xs)) so))

  -- one exchange more of neighbours that are apart
  pub one_more : (xs : List A) (at : ℕ) → are_apart meets at xs ≡ true → Exchanged meets line xs → Exchanged meets line (exchanged at xs)
  one_more xs at apart so = more_from [] xs at apart so

  -- some, and then others
  pub chained : (mid new : List A) → Exchanged meets line mid → Exchanged meets mid new → Exchanged meets line new
  chained mid new first Stays = first
  chained mid new first (Swaps front rest a b before apart) = Swaps front rest a b (chained mid (front ++ a ∷ b ∷ rest) first before) apart

-- the first items that are in the set stay
pub first_stay : {A : Type 0} (bs : List Bool) (xs : List A) (k : ℕ) → HoldsFirst k bs → take k (rearranged bs xs) ≡ take k xs
unfolding chosen others
first_stay bs xs zero first = refl
first_stay [] xs (suc k) first = absurd (let none = first 0 (omega arith) in cc)
first_stay (b ∷ bs) [] (suc k) first = refl
first_stay (false ∷ bs) (x ∷ xs) (suc k) first = absurd (let none = first 0 (omega arith) in cc)
first_stay (true ∷ bs) (x ∷ xs) (suc k) first = ap (λ l. x ∷ l) (first_stay bs xs k (λ at low. first (suc at) (omega (arith, low))))

-- Items

pub any_exchanged : (p : Item → Bool) (ms : List Mark) (at : ℕ) → list_any p (items_of (exchanged at ms)) ≡ list_any p (items_of ms)
unfolding exchanged
any_exchanged p [] at = refl
any_exchanged p (m ∷ []) zero = refl
any_exchanged p (m ∷ n ∷ ms) zero = turn (p n.item) (p m.item) (list_any p (items_of ms))
  where
    turn : (a b c : Bool) → (a || (b || c)) ≡ (b || (a || c))
    turn a b c = grind (arith, common_steps)
any_exchanged p (m ∷ ms) (suc at) = ap (λ b. p m.item || b) (any_exchanged p ms at)

pub differ_exchanged : (ms : List Mark) (at : ℕ) → all_differ (items_of ms) ≡ true → all_differ (items_of (exchanged at ms)) ≡ true
unfolding exchanged
differ_exchanged [] at h = h
differ_exchanged (m ∷ []) zero h = h
differ_exchanged (m ∷ n ∷ ms) zero h = turn (is_item m.item n.item) (is_item n.item m.item) (list_any (is_item m.item) (items_of ms)) (list_any (is_item n.item) (items_of ms)) (all_differ (items_of ms)) (item_back m.item n.item) h
  where
    turn : (a b c e f : Bool) → a ≡ b → (not (a || c) && (not e && f)) ≡ true → (not (b || e) && (not c && f)) ≡ true
    turn a b c e f same h = grind (arith, common_steps)
differ_exchanged (m ∷ ms) (suc at) h =
    let parts = both (not (list_any (is_item m.item) (items_of ms))) (all_differ (items_of ms)) h in
    λ i. (ap not (any_exchanged (is_item m.item) ms at) ∙ parts.0) i && differ_exchanged ms at parts.1 i
  where
    both : (a b : Bool) → (a && b) ≡ true → (a ≡ true) × (b ≡ true)
    both a b h = (grind (arith, common_steps), grind (arith, common_steps))

-- no further in front
pub front_exchanged : (ms : List Mark) (at k : ℕ) → k ≤ at → k ≤ front_of ms → k ≤ front_of (exchanged at ms)
unfolding exchanged
front_exchanged ms at zero low upto = omega arith
front_exchanged [] at (suc k) low upto = upto
front_exchanged (m ∷ ms) zero (suc k) low upto = absurd (omega (arith, low))
front_exchanged (m ∷ ms) (suc at) (suc k) low upto = by_open (is_open_run m) upto (λ e. front_exchanged ms at k (omega (arith, low)) e)
  where
    by_open : (b : Bool) → suc k ≤ (if b then 0 else front_of ms + 1) → (k ≤ front_of ms → k ≤ front_of (exchanged at ms)) → suc k ≤ (if b then 0 else front_of (exchanged at ms) + 1)
    by_open true h rest = absurd (omega (arith, h))
    by_open false h rest = let more = rest (omega (arith, h)) in omega (arith, more)
