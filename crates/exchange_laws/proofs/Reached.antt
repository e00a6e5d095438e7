-- Which orders are reached by exchanges: those that hold the same items, any two that meet in the same order.
use Rattle.exchange_laws.proofs.Prelude.{Back, Bool, Exchanged, Failed, IsRearranged, Item, List, Ran, Run, Stays, Swaps, [], ap, ap₂, arith, both_touch, commands_of, common_steps, cond, count_by, count_cons, device_no, eq-eqb, false, filter, filter-append, follows, found, inl, inr, list_any, meet, refl, run_no, shares, subst, sym, true, ℕ, ◌&&◌, ◌++◌, ◌+◌, ◌<◌, ◌==◌, ◌||◌, ◌∙◌, ◌∷◌, ◌≡◌, ◌⊎◌}
use Rattle.exchange_laws.proofs.Swaps.{swap_count, swap_filter}
use Rattle.serial_line.specs.Marks.{is_item}

-- Items that meet

same_number : (x y : ℕ) → (x == y) ≡ true → x ≡ y
same_number x y h = grind (arith, common_steps)

number_back : (x y : ℕ) → (x == y) ≡ (y == x)
number_back x y = grind (arith, common_steps)

-- the one meets the other where that meets the one
equal_flags : (a b : Bool) → (a ≡ true → b ≡ true) → (b ≡ true → a ≡ true) → a ≡ b
equal_flags true b one two = sym (one refl)
equal_flags false true one two = two refl
equal_flags false false one two = refl

share_back : (runs : List Run) (r q : ℕ) → shares runs r q ≡ true → shares runs q r ≡ true
share_back runs r q h = let device = found (commands_of runs r) (commands_of runs q) h in both_touch runs q r device.0 device.2 device.1

pub meet_back : (runs : List Run) (i j : Item) → meet runs i j ≡ meet runs j i
meet_back runs (Ran r) (Ran q) = λ k. shared k || turned (follows runs r.0 q.0) (follows runs q.0 r.0) k
  where
    shared : shares runs r.0 q.0 ≡ shares runs q.0 r.0
    shared = equal_flags (shares runs r.0 q.0) (shares runs q.0 r.0) (share_back runs r.0 q.0) (share_back runs q.0 r.0)

    turned : (a b : Bool) → (a || b) ≡ (b || a)
    turned a b = grind (arith, common_steps)
meet_back runs (Ran r) (Failed d k) = refl
meet_back runs (Ran r) (Back d k) = refl
meet_back runs (Failed d k) (Ran r) = refl
meet_back runs (Failed d k) (Failed e l) = ap (λ b. b || false) (number_back d.0 e.0)
meet_back runs (Failed d k) (Back e l) = ap (λ b. b || false) (number_back d.0 e.0)
meet_back runs (Back d k) (Ran r) = refl
meet_back runs (Back d k) (Failed e l) = ap (λ b. b || false) (number_back d.0 e.0)
meet_back runs (Back d k) (Back e l) = ap (λ b. b || false) (number_back d.0 e.0)

-- Rows of exchanges

-- one row after another
joined : {A : Type 0} (meets : A → A → Bool) (line middle next : List A) → Exchanged meets line middle → Exchanged meets middle next → Exchanged meets line next
joined meets line middle next one Stays = one
joined meets line middle _ one (Swaps front rest a b before apart) = Swaps front rest a b (joined meets line middle (front ++ a ∷ b ∷ rest) one before) apart

-- and back again
pub turned_back : (runs : List Run) (line next : List Item) → Exchanged (meet runs) line next → Exchanged (meet runs) next line
turned_back runs line next Stays = Stays
turned_back runs line _ (Swaps front rest a b before apart) =
    joined (meet runs) (front ++ b ∷ a ∷ rest) (front ++ a ∷ b ∷ rest) line (Swaps front rest b a Stays (meet_back runs b a ∙ apart)) (turned_back runs line (front ++ a ∷ b ∷ rest) before)

-- behind an item more
behind_one : {A : Type 0} (meets : A → A → Bool) (i : A) (line next : List A) → Exchanged meets line next → Exchanged meets (i ∷ line) (i ∷ next)
behind_one meets i line next Stays = Stays
behind_one meets i line _ (Swaps front rest a b before apart) = Swaps (i ∷ front) rest a b (behind_one meets i line (front ++ a ∷ b ∷ rest) before) apart

-- an item comes before those that it does not meet
comes_first : {A : Type 0} (meets : A → A → Bool) (x : A) (front back : List A) → list_any (λ y. meets y x) front ≡ false → Exchanged meets (front ++ x ∷ back) (x ∷ (front ++ back))
comes_first meets x [] back none = Stays
comes_first meets x (y ∷ front) back none =
    Swaps [] (front ++ back) y x (behind_one meets y (front ++ x ∷ back) (x ∷ (front ++ back)) (comes_first meets x front back (last (meets y x) (list_any (λ z. meets z x) front) none))) (first (meets y x) (list_any (λ z. meets z x) front) none)
  where
    first : (a b : Bool) → (a || b) ≡ false → a ≡ false
    first a b h = grind (arith, common_steps)

    last : (a b : Bool) → (a || b) ≡ false → b ≡ false
    last a b h = grind (arith, common_steps)

-- The same item

pub is_itself : (x : Item) → is_item x x ≡ true
is_itself (Ran r) = eq-eqb r.0 r.0 refl
is_itself (Failed d k) = both (d.0 == d.0) (k == k) (eq-eqb d.0 d.0 refl) (eq-eqb k k refl)
  where
    both : (a b : Bool) → a ≡ true → b ≡ true → (a && b) ≡ true
    both a b h g = grind (arith, common_steps)
is_itself (Back d k) = both (d.0 == d.0) (k == k) (eq-eqb d.0 d.0 refl) (eq-eqb k k refl)
  where
    both : (a b : Bool) → a ≡ true → b ≡ true → (a && b) ≡ true
    both a b h g = grind (arith, common_steps)

two : (a b : Bool) → (a && b) ≡ true → (a ≡ true) × (b ≡ true)
two a b h = (grind (arith, common_steps), grind (arith, common_steps))

pub same_item : (x y : Item) → is_item x y ≡ true → x ≡ y
same_item (Ran r) (Ran q) e = ap (λ n. Ran (run_no n)) (sym (same_number q.0 r.0 e))
same_item (Ran r) (Failed d k) e = absurd cc
same_item (Ran r) (Back d k) e = absurd cc
same_item (Failed d k) (Ran r) e = absurd cc
same_item (Failed d k) (Failed f n) e = let parts = two (f.0 == d.0) (n == k) e in ap₂ (λ a b. Failed (device_no a) b) (sym (same_number f.0 d.0 parts.0)) (sym (same_number n k parts.1))
same_item (Failed d k) (Back f n) e = absurd cc
same_item (Back d k) (Ran r) e = absurd cc
same_item (Back d k) (Failed f n) e = absurd cc
same_item (Back d k) (Back f n) e = let parts = two (f.0 == d.0) (n == k) e in ap₂ (λ a b. Back (device_no a) b) (sym (same_number f.0 d.0 parts.0)) (sym (same_number n k parts.1))

-- Where an item stands first

record Found (x : Item) (line : List Item) : Type 0 where
  front : List Item
  back : List Item
  at : line ≡ front ++ x ∷ back
  none : list_any (is_item x) front ≡ false

first_place : (x : Item) (line : List Item) → 0 < count_by (is_item x) line → Found x line
first_place x [] some = absurd (omega (arith, some))
first_place x (i ∷ is) some = at_ (is_item x i) refl (subst (λ n. 0 < n) (count_cons (is_item x) i is) some) (first_place x is)
  where
    at_ : (b : Bool) → is_item x i ≡ b → 0 < cond b 1 0 + count_by (is_item x) is → (0 < count_by (is_item x) is → Found x is) → Found x (i ∷ is)
    at_ true e more rest = record { front = []; back = is; at = ap (λ y. y ∷ is) (sym (same_item x i e)); none = refl }
    at_ false e more rest =
        let there = rest (omega (arith, more)) in
        record { front = i ∷ there.front; back = there.back; at = ap (λ l. i ∷ l) there.at; none = λ k. e k || there.none k }

-- an item of which a test holds
some_item : (q : Item → Bool) (xs : List Item) → list_any q xs ≡ true → (y : Item) × (q y ≡ true) × (list_any (is_item y) xs ≡ true)
some_item q [] some = absurd cc
some_item q (x ∷ xs) some = at_ (q x) refl some (some_item q xs)
  where
    at_ : (b : Bool) → q x ≡ b → (b || list_any q xs) ≡ true → (list_any q xs ≡ true → (y : Item) × (q y ≡ true) × (list_any (is_item y) xs ≡ true)) → (y : Item) × (q y ≡ true) × ((is_item y x || list_any (is_item y) xs) ≡ true)
    at_ true e h rest = (x, e, ap (λ b. b || list_any (is_item x) xs) (is_itself x))
    at_ false e h rest = let there = rest h in (there.0, there.1, ap (λ b. is_item there.0 x || b) there.2 ∙ last (is_item there.0 x))
      where
        last : (b : Bool) → (b || true) ≡ true
        last true = refl
        last false = refl

-- either of two items
abbrev either : Item → Item → Item → Bool
either i j x = is_item i x || is_item j x

some_either : (i j : Item) (xs : List Item) → list_any (is_item i) xs ≡ true → list_any (either i j) xs ≡ true
some_either i j [] some = some
some_either i j (x ∷ xs) some = more (is_item i x) (is_item j x) (list_any (is_item i) xs) (list_any (either i j) xs) (some_either i j xs) some
  where
    more : (a b c d : Bool) → (c ≡ true → d ≡ true) → (a || c) ≡ true → ((a || b) || d) ≡ true
    more a b c d rest h = grind (arith, common_steps)

-- an item that comes first of those of which a test holds has none of them before it
tail_is : {A : Type 0} (x y : A) (xs ys : List A) → x ∷ xs ≡ y ∷ ys → xs ≡ ys
tail_is x y xs ys e = cc

comes_before : (p : Item → Bool) (x : Item) (front more rest : List Item) → list_any (is_item x) front ≡ false → filter p (front ++ more) ≡ x ∷ rest → list_any p front ≡ false
comes_before p x [] more rest none first = refl
comes_before p x (z ∷ front) more rest none first = at_ (p z) refl first (λ h. comes_before p x front more rest (last (is_item x z) (list_any (is_item x) front) none) h)
  where
    other : (a b : Bool) → (a || b) ≡ false → a ≡ false
    other a b h = grind (arith, common_steps)

    last : (a b : Bool) → (a || b) ≡ false → b ≡ false
    last a b h = grind (arith, common_steps)

    clash : z ∷ filter p (front ++ more) ≡ x ∷ rest → ⊥
    clash e =
        let same : z ≡ x = cc in
        let out : true ≡ false = sym (is_itself x) ∙ ap (is_item x) (sym same) ∙ other (is_item x z) (list_any (is_item x) front) none in cc

    at_ : (b : Bool) → p z ≡ b → cond b (z ∷ filter p (front ++ more)) (filter p (front ++ more)) ≡ x ∷ rest → (filter p (front ++ more) ≡ x ∷ rest → list_any p front ≡ false) → (p z || list_any p front) ≡ false
    at_ true e h later = absurd (clash h)
    at_ false e h later = λ k. e k || later h k

-- without the item

count_middle : (p : Item → Bool) (x : Item) (front back : List Item) → count_by p (front ++ x ∷ back) ≡ cond (p x) 1 0 + count_by p (front ++ back)
count_middle p x [] back = count_cons p x back
count_middle p x (y ∷ front) back =
    count_cons p y (front ++ x ∷ back) ∙ ap (λ n. cond (p y) 1 0 + n) (count_middle p x front back) ∙ turn (cond (p y) 1 0) (cond (p x) 1 0) (count_by p (front ++ back))
    ∙ ap (λ n. cond (p x) 1 0 + n) (sym (count_cons p y (front ++ back)))
  where
    turn : (a b c : ℕ) → a + (b + c) ≡ b + (a + c)
    turn a b c = omega arith

none_kept : (p : Item → Bool) (xs : List Item) → list_any p xs ≡ false → filter p xs ≡ []
none_kept p [] none = refl
none_kept p (x ∷ xs) none = at_ (p x) none (none_kept p xs)
  where
    at_ : (b : Bool) → (b || list_any p xs) ≡ false → (list_any p xs ≡ false → filter p xs ≡ []) → cond b (x ∷ filter p xs) (filter p xs) ≡ []
    at_ true h rest = absurd cc
    at_ false h rest = rest h

-- where the item is not told of, the rest is told as before; where it is, nothing before it is
filter_middle : (p : Item → Bool) (x : Item) (front back next : List Item) → list_any (is_item x) front ≡ false → filter p (x ∷ next) ≡ filter p (front ++ x ∷ back) → filter p next ≡ filter p (front ++ back)
filter_middle p x front back next none same = at_ (p x) refl (same ∙ filter-append p front (x ∷ back))
  where
    at_ : (b : Bool) → p x ≡ b → cond b (x ∷ filter p next) (filter p next) ≡ filter p front ++ cond b (x ∷ filter p back) (filter p back) → filter p next ≡ filter p (front ++ back)
    at_ false e h = h ∙ sym (filter-append p front back)
    at_ true e h =
        let empty : filter p front ≡ [] = none_kept p front (comes_before p x front (x ∷ back) (filter p next) none (filter-append p front (x ∷ back) ∙ (λ k. filter p front ++ cond (e k) (x ∷ filter p back) (filter p back)) ∙ sym h)) in
        tail_is x x (filter p next) (filter p back) (h ∙ ap (λ l. l ++ x ∷ filter p back) empty) ∙ sym (filter-append p front back ∙ ap (λ l. l ++ filter p back) empty)

-- Each such order is reached

pub rearranged_reached : (runs : List Run) (line next : List Item) → IsRearranged runs line next → Exchanged (meet runs) line next
rearranged_reached runs line [] is = subst (λ l. Exchanged (meet runs) line l) (empty line is.same) Stays
  where
    empty : (xs : List Item) → ((i : Item) → count_by (is_item i) [] ≡ count_by (is_item i) xs) → xs ≡ []
    empty [] same = refl
    empty (x ∷ xs) same = absurd (some (count_by (is_item x) xs) (same x ∙ count_cons (is_item x) x xs ∙ ap (λ b. cond b 1 0 + count_by (is_item x) xs) (is_itself x)))
      where
        some : (n : ℕ) → 0 ≡ 1 + n → ⊥
        some n e = omega (arith, e)
rearranged_reached runs line (x ∷ next) is = subst (λ l. Exchanged (meet runs) l (x ∷ next)) (sym there.at) (joined (meet runs) (there.front ++ x ∷ there.back) (x ∷ (there.front ++ there.back)) (x ∷ next) (comes_first (meet runs) x there.front there.back apart) (behind_one (meet runs) x (there.front ++ there.back) next (rearranged_reached runs (there.front ++ there.back) next rest)))
  where
    some : 0 < count_by (is_item x) line
    some = at_ (count_by (is_item x) line) (count_by (is_item x) next) (sym (is.same x) ∙ count_cons (is_item x) x next ∙ ap (λ b. cond b 1 0 + count_by (is_item x) next) (is_itself x))
      where
        at_ : (m n : ℕ) → m ≡ 1 + n → 0 < m
        at_ m n e = omega (arith, e)

    there : Found x line
    there = first_place x line some

    apart : list_any (λ y. meet runs y x) there.front ≡ false
    apart = at_ (list_any (λ y. meet runs y x) there.front) refl
      where
        first_of : (p : Item → Bool) → p x ≡ true → filter p (x ∷ next) ≡ x ∷ filter p next
        first_of p e = ap (λ b. cond b (x ∷ filter p next) (filter p next)) e

        itself : (y : Item) → either y x x ≡ true
        itself y = ap (λ b. is_item y x || b) (is_itself x) ∙ last (is_item y x)
          where
            last : (b : Bool) → (b || true) ≡ true
            last true = refl
            last false = refl

        at_ : (b : Bool) → list_any (λ y. meet runs y x) there.front ≡ b → b ≡ false
        at_ false e = refl
        at_ true e =
            let one = some_item (λ y. meet runs y x) there.front e in
            sym (some_either one.0 x there.front one.2)
            ∙ comes_before (either one.0 x) x there.front (x ∷ there.back) (filter (either one.0 x) next) there.none (ap (filter (either one.0 x)) (sym there.at) ∙ sym (is.order one.0 x one.1) ∙ first_of (either one.0 x) (itself one.0))

    rest : IsRearranged runs (there.front ++ there.back) next
    rest = record {
      same = λ i. cancel (cond (is_item i x) 1 0) (count_by (is_item i) next) (count_by (is_item i) (there.front ++ there.back)) (sym (count_cons (is_item i) x next) ∙ is.same i ∙ ap (count_by (is_item i)) there.at ∙ count_middle (is_item i) x there.front there.back);
      order = λ i j meets. filter_middle (either i j) x there.front there.back next there.none (is.order i j meets ∙ ap (filter (either i j)) there.at);
    }
      where
        cancel : (c m n : ℕ) → c + m ≡ c + n → m ≡ n
        cancel c m n e = omega (arith, e)

-- And no other

which : (i j x : Item) → either i j x ≡ true → (i ≡ x) ⊎ (j ≡ x)
which i j x one = at_ (is_item i x) (is_item j x) refl refl one
  where
    at_ : (a b : Bool) → is_item i x ≡ a → is_item j x ≡ b → (a || b) ≡ true → (i ≡ x) ⊎ (j ≡ x)
    at_ true b e h one = inl (same_item i x e)
    at_ false true e h one = inr (same_item j x h)
    at_ false false e h one = absurd cc

-- two neighbours that are apart are not both of a pair that meets, or are one item twice
swap_pair : (runs : List Run) (i j : Item) (front rest : List Item) (a b : Item) → meet runs i j ≡ true → meet runs a b ≡ false → filter (either i j) (front ++ b ∷ a ∷ rest) ≡ filter (either i j) (front ++ a ∷ b ∷ rest)
swap_pair runs i j front rest a b meets apart = at_ (either i j a) (either i j b) refl refl
  where
    Same : Type 0
    Same = filter (either i j) (front ++ b ∷ a ∷ rest) ≡ filter (either i j) (front ++ a ∷ b ∷ rest)

    twice : a ≡ b → Same
    twice e = subst (λ c. filter (either i j) (front ++ c ∷ a ∷ rest) ≡ filter (either i j) (front ++ a ∷ c ∷ rest)) e refl

    clash : meet runs a b ≡ true → Same
    clash e = absurd (let both : true ≡ false = sym e ∙ apart in cc)

    both : (i ≡ a) ⊎ (j ≡ a) → (i ≡ b) ⊎ (j ≡ b) → Same
    both (inl e) (inl h) = twice (sym e ∙ h)
    both (inl e) (inr h) = clash (sym (ap₂ (meet runs) e h) ∙ meets)
    both (inr e) (inl h) = clash (sym (ap₂ (meet runs) e h) ∙ meet_back runs j i ∙ meets)
    both (inr e) (inr h) = twice (sym e ∙ h)

    at_ : (x y : Bool) → either i j a ≡ x → either i j b ≡ y → Same
    at_ true true e h = both (which i j a e) (which i j b h)
    at_ false y e h = swap_filter (either i j) front rest a b (ap (λ x. x && either i j b) e)
    at_ true false e h = swap_filter (either i j) front rest a b (ap (λ y. either i j a && y) h ∙ none (either i j a))
      where
        none : (x : Bool) → (x && false) ≡ false
        none true = refl
        none false = refl

pub reached_rearranged : (runs : List Run) (line next : List Item) → Exchanged (meet runs) line next → IsRearranged runs line next
reached_rearranged runs line next Stays = record { same = λ i. refl; order = λ i j meets. refl }
reached_rearranged runs line _ (Swaps front rest a b before apart) =
    let was = reached_rearranged runs line (front ++ a ∷ b ∷ rest) before in
    record { same = λ i. swap_count (is_item i) front rest a b ∙ was.same i; order = λ i j meets. swap_pair runs i j front rest a b meets apart ∙ was.order i j meets }
