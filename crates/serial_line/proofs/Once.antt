-- A line in which no item stands twice.
use Rattle.serial_line.proofs.Prelude.{Back, Bool, Failed, Item, List, Mark, None, Option, Ran, Some, [], all_differ, ap, ap₂, arith, common_steps, cond, drop, false, filter, get_or, get_or-map, if◌then◌else◌, insert, is_failure, is_item, is_ran, is_restart_of, is_some, items_of, last_place, last_unfound, length, length-map, list_any, map, map-append, not, place_of, prefix_len, refl, remove, slice_set, stands, suc, sym, take, take-append-drop, true, untouched, zero, ℕ, ◌&&◌, ◌++◌, ◌<◌, ◌||◌, ◌∙◌, ◌∷◌, ◌≡◌}
use Rattle.serial_line.proofs.Searches.{any_at, position_none, position_told, position_untold}
use Rattle.std.proofs.lemmas.List.Folds.{list_any-append}
use Rattle.std.specs.FinSet as set

-- items that are the same are the same as each other item
like : (x y z : Item) → is_item x y ≡ true → is_item x z ≡ is_item y z
like (Ran r) (Ran q) z e = let same : r.0 ≡ q.0 = grind (arith, common_steps) in ap (λ n. is_ran n z) same
like (Ran r) (Failed d k) z e = absurd (cc)
like (Ran r) (Back d k) z e = absurd (cc)
like (Failed d k) (Ran r) z e = absurd (cc)
like (Failed d k) (Failed f n) z e = let device : d.0 ≡ f.0 = grind (arith, common_steps) in let number : k ≡ n = grind (arith, common_steps) in ap₂ (λ a b. is_failure a b z) device number
like (Failed d k) (Back f n) z e = absurd (cc)
like (Back d k) (Ran r) z e = absurd (cc)
like (Back d k) (Failed f n) z e = absurd (cc)
like (Back d k) (Back f n) z e = let device : d.0 ≡ f.0 = grind (arith, common_steps) in let number : k ≡ n = grind (arith, common_steps) in ap₂ (λ a b. is_restart_of a b z) device number

pub item_back : (x y : Item) → is_item x y ≡ is_item y x
item_back (Ran r) (Ran q) = grind (arith, common_steps)
item_back (Ran r) (Failed d k) = refl
item_back (Ran r) (Back d k) = refl
item_back (Failed d k) (Ran r) = refl
item_back (Failed d k) (Failed f n) = grind (arith, common_steps)
item_back (Failed d k) (Back f n) = refl
item_back (Back d k) (Ran r) = refl
item_back (Back d k) (Failed f n) = refl
item_back (Back d k) (Back f n) = grind (arith, common_steps)

-- an item put in that is not there

any_among : (p : Item → Bool) (front back : List Item) (x : Item) → list_any p (front ++ x ∷ back) ≡ (p x || list_any p (front ++ back))
any_among p front back x = rw (list_any-append p front (x ∷ back), list_any-append p front back) (grind (arith, common_steps))

differ_among : (front back : List Item) (x : Item) → all_differ (front ++ back) ≡ true → list_any (is_item x) (front ++ back) ≡ false → all_differ (front ++ x ∷ back) ≡ true
differ_among [] back x differ absent = rw (absent, differ) refl
differ_among (i ∷ front) back x differ absent =
    let rest : all_differ (front ++ x ∷ back) ≡ true = differ_among front back x (grind (arith, common_steps)) (grind (arith, common_steps)) in
    let apart : is_item i x ≡ false = item_back i x ∙ grind (arith, common_steps) in
    rw (any_among (is_item i) front back x, rest, apart) (grind (arith, common_steps))

pub differ_insert : (marks : List Mark) (at : ℕ) (x : Mark) → all_differ (items_of marks) ≡ true → stands x.item marks ≡ false → all_differ (items_of (insert marks at x)) ≡ true
differ_insert marks at x differ absent =
    let parted : items_of (take at marks) ++ items_of (drop at marks) ≡ items_of marks = sym (map-append (λ m. m.item) (take at marks) (drop at marks)) ∙ ap items_of (take-append-drop at marks) in
    rw (map-append (λ m. m.item) (take at marks) (x ∷ drop at marks)) (differ_among (items_of (take at marks)) (items_of (drop at marks)) x.item (rw parted differ) (rw parted absent))

-- an item that is there, at its one place

-- where the first is the item, no other is
others : (x : Item) (m : Mark) (ms : List Mark) → all_differ (items_of (m ∷ ms)) ≡ true → is_item x m.item ≡ true → stands x ms ≡ false
others x m ms differ here = (λ i. list_any (λ z. like x m.item z here i) (items_of ms)) ∙ grind (arith, common_steps)

-- where another is the item, the first is not
not_first : (x : Item) (m : Mark) (ms : List Mark) (k : ℕ) (d : Mark) → all_differ (items_of (m ∷ ms)) ≡ true → k < length ms → is_item x (get_or ms k d).item ≡ true → is_item x m.item ≡ false
not_first x m ms k d differ within there = by_cases (is_item x m.item) refl
  where
    among : stands x ms ≡ true
    among = any_at (is_item x) (items_of ms) k d.item (rw (length-map ms (λ y. y.item)) within) (rw (get_or-map (λ y. y.item) ms k d d.item within) there)

    by_cases : (b : Bool) → is_item x m.item ≡ b → b ≡ false
    by_cases true e = absurd (cc (sym among ∙ others x m ms differ e))
    by_cases false e = refl

-- what a search through the line finds

first_len : (x : Item) (ms : List Mark) (k : ℕ) (d : Mark) → all_differ (items_of ms) ≡ true → k < length ms → is_item x (get_or ms k d).item ≡ true → prefix_len (λ i. not (is_item x i)) (items_of ms) ≡ k
first_len x [] k d differ within there = absurd (omega (arith, within))
first_len x (m ∷ ms) zero d differ within there = rw there refl
first_len x (m ∷ ms) (suc k) d differ within there =
    rw (not_first x m ms k d differ (omega (arith, within)) there, first_len x ms k d (grind (arith, common_steps)) (omega (arith, within)) there) (omega arith)

-- an item that stands at a place has this place
pub place_is : (x : Item) (ms : List Mark) (k : ℕ) (d : Mark) → all_differ (items_of ms) ≡ true → k < length ms → is_item x (get_or ms k d).item ≡ true → place_of x ms ≡ Some k
place_is x ms k d differ within there = rw (first_len x ms k d differ within there, length-map ms (λ y. y.item)) (grind (arith, common_steps))

-- an item that a search from the end does not find has no place
pub place_unfound : (x : Item) (ms : List Mark) → last_place (λ m. is_item x m.item) ms ≡ None → place_of x ms ≡ None
place_unfound x ms none = position_none (is_item x) (items_of ms) (unmapped ms ∙ last_unfound (λ m. is_item x m.item) ms none)
  where
    unmapped : (ns : List Mark) → list_any (is_item x) (items_of ns) ≡ list_any (λ m. is_item x m.item) ns
    unmapped [] = refl
    unmapped (n ∷ ns) = ap (λ b. is_item x n.item || b) (unmapped ns)

-- a place that is told holds the item
pub place_told : (x : Item) (ms : List Mark) (k : ℕ) (d : Mark) → place_of x ms ≡ Some k → (k < length ms) × (is_item x (get_or ms k d).item ≡ true)
place_told x ms k d told =
    let found = position_told (is_item x) (items_of ms) k d.item told in
    let within : k < length ms = rw (← length-map ms (λ y. y.item)) found.0 in
    (within, rw (← get_or-map (λ y. y.item) ms k d d.item within) found.1)

pub told_stands : (x : Item) (ms : List Mark) (k : ℕ) → place_of x ms ≡ Some k → stands x ms ≡ true
told_stands x ms k told = let found = position_told (is_item x) (items_of ms) k x told in any_at (is_item x) (items_of ms) k x found.0 found.1

pub untold_stands : (x : Item) (ms : List Mark) → place_of x ms ≡ None → stands x ms ≡ false
untold_stands x ms told = position_untold (is_item x) (items_of ms) told

-- what is done at the one place of an item

filter_all : (x : Item) (ms : List Mark) → stands x ms ≡ false → filter (λ m. not (is_item x m.item)) ms ≡ ms
filter_all x [] absent = refl
filter_all x (m ∷ ms) absent =
    let here : is_item x m.item ≡ false = grind (arith, common_steps) in
    rw here (ap (λ ns. m ∷ ns) (filter_all x ms (grind (arith, common_steps))))

-- the line without what stands there is the line without the item
pub removed_at : (x : Item) (ms : List Mark) (k : ℕ) (d : Mark) → all_differ (items_of ms) ≡ true → k < length ms → is_item x (get_or ms k d).item ≡ true → remove ms k ≡ filter (λ m. not (is_item x m.item)) ms
removed_at x [] k d differ within there = absurd (omega (arith, within))
removed_at x (m ∷ ms) zero d differ within there = rw there (sym (filter_all x ms (others x m ms differ there)))
removed_at x (m ∷ ms) (suc k) d differ within there =
    rw (not_first x m ms k d differ (omega (arith, within)) there) (ap (λ ns. m ∷ ns) (removed_at x ms k d (grind (arith, common_steps)) (omega (arith, within)) there))

any_filter : (t p : Item → Bool) (ms : List Mark) → list_any t (items_of ms) ≡ false → list_any t (items_of (filter (λ m. p m.item) ms)) ≡ false
any_filter t p [] none = refl
any_filter t p (m ∷ ms) none = by_cases (p m.item) (any_filter t p ms (grind (arith, common_steps)))
  where
    by_cases : (b : Bool) → list_any t (items_of (filter (λ n. p n.item) ms)) ≡ false → list_any t (items_of (cond b (m ∷ filter (λ n. p n.item) ms) (filter (λ n. p n.item) ms))) ≡ false
    by_cases true e = let here : t m.item ≡ false = grind (arith, common_steps) in rw (here, e) refl
    by_cases false e = e

-- where no item stands twice, none does among some of them
pub differ_filter : (p : Item → Bool) (ms : List Mark) → all_differ (items_of ms) ≡ true → all_differ (items_of (filter (λ m. p m.item) ms)) ≡ true
differ_filter p [] differ = refl
differ_filter p (m ∷ ms) differ = by_cases (p m.item) (any_filter (is_item m.item) p ms (grind (arith, common_steps))) (differ_filter p ms (grind (arith, common_steps)))
  where
    by_cases : (b : Bool) → list_any (is_item m.item) (items_of (filter (λ n. p n.item) ms)) ≡ false → all_differ (items_of (filter (λ n. p n.item) ms)) ≡ true → all_differ (items_of (cond b (m ∷ filter (λ n. p n.item) ms) (filter (λ n. p n.item) ms))) ≡ true
    by_cases true none rest = rw (none, rest) refl
    by_cases false none rest = rest

-- a mark in the place of another of the same item leaves the items
pub same_items : (ms : List Mark) (k : ℕ) (new d : Mark) → k < length ms → new.item ≡ (get_or ms k d).item → items_of (slice_set ms k new) ≡ items_of ms
same_items [] k new d within same = absurd (omega (arith, within))
same_items (m ∷ ms) zero new d within same = ap (λ i. i ∷ items_of ms) same
same_items (m ∷ ms) (suc k) new d within same = ap (λ is. m.item ∷ is) (same_items ms k new d (omega (arith, within)) same)

-- the marks of the item are changed
abbrev change_all : Item → (Mark → Mark) → List Mark → List Mark
change_all x f ms = map (λ m. if is_item x m.item then f m else m) ms

change_none : (x : Item) (f : Mark → Mark) (ms : List Mark) → stands x ms ≡ false → ms ≡ change_all x f ms
change_none x f [] absent = refl
change_none x f (m ∷ ms) absent =
    let here : is_item x m.item ≡ false = grind (arith, common_steps) in
    rw here (ap (λ ns. m ∷ ns) (change_none x f ms (grind (arith, common_steps))))

pub change_untold : (x : Item) (f : Mark → Mark) (ms : List Mark) → place_of x ms ≡ None → ms ≡ change_all x f ms
change_untold x f ms told = change_none x f ms (untold_stands x ms told)

change_at : (x : Item) (f : Mark → Mark) (ms : List Mark) (k : ℕ) (new d : Mark) → all_differ (items_of ms) ≡ true → k < length ms → is_item x (get_or ms k d).item ≡ true → new ≡ f (get_or ms k d) → slice_set ms k new ≡ change_all x f ms
change_at x f [] k new d differ within there is = absurd (omega (arith, within))
change_at x f (m ∷ ms) zero new d differ within there is = rw there (ap₂ (λ n ns. n ∷ ns) is (change_none x f ms (others x m ms differ there)))
change_at x f (m ∷ ms) (suc k) new d differ within there is =
    rw (not_first x m ms k d differ (omega (arith, within)) there) (ap (λ ns. m ∷ ns) (change_at x f ms k new d (grind (arith, common_steps)) (omega (arith, within)) there is))

touched_none : (x : Item) (device : ℕ) (ms : List Mark) → stands x ms ≡ false → list_any (λ m. is_item x m.item && set.contains m.touched device) ms ≡ false
touched_none x device [] absent = refl
touched_none x device (m ∷ ms) absent =
    let here : is_item x m.item ≡ false = grind (arith, common_steps) in
    rw (here, touched_none x device ms (grind (arith, common_steps))) refl

-- the item has touched what its one mark has
pub touched_at : (x : Item) (device : ℕ) (ms : List Mark) (k : ℕ) (d : Mark) → all_differ (items_of ms) ≡ true → k < length ms → is_item x (get_or ms k d).item ≡ true → set.contains (get_or ms k d).touched device ≡ list_any (λ m. is_item x m.item && set.contains m.touched device) ms
touched_at x device [] k d differ within there = absurd (omega (arith, within))
touched_at x device (m ∷ ms) zero d differ within there = rw (there, touched_none x device ms (others x m ms differ there)) (grind (arith, common_steps))
touched_at x device (m ∷ ms) (suc k) d differ within there =
    rw (not_first x m ms k d differ (omega (arith, within)) there) (touched_at x device ms k d (grind (arith, common_steps)) (omega (arith, within)) there)

-- the same, where the place was told, and `old` is what stands there

pub old_told : (x : Item) (ms : List Mark) (k : ℕ) (old : Mark) → place_of x ms ≡ Some k → old ≡ get_or ms k old → is_item x old.item ≡ true
old_told x ms k old told is = ap (λ m. is_item x m.item) is ∙ (place_told x ms k old told).1

pub removed_told : (x : Item) (ms : List Mark) (k : ℕ) → all_differ (items_of ms) ≡ true → place_of x ms ≡ Some k → remove ms k ≡ filter (λ m. not (is_item x m.item)) ms
removed_told x ms k differ told = let found = place_told x ms k (untouched x) told in removed_at x ms k (untouched x) differ found.0 found.1

pub removed_untold : (x : Item) (ms : List Mark) → place_of x ms ≡ None → ms ≡ filter (λ m. not (is_item x m.item)) ms
removed_untold x ms told = sym (filter_all x ms (untold_stands x ms told))

pub differ_removed : (x : Item) (ms : List Mark) (k : ℕ) → all_differ (items_of ms) ≡ true → place_of x ms ≡ Some k → all_differ (items_of (remove ms k)) ≡ true
differ_removed x ms k differ told = ap (λ ns. all_differ (items_of ns)) (removed_told x ms k differ told) ∙ differ_filter (λ i. not (is_item x i)) ms differ

pub differ_changed : (x : Item) (ms : List Mark) (k : ℕ) (old new : Mark) → all_differ (items_of ms) ≡ true → place_of x ms ≡ Some k → old ≡ get_or ms k old → new.item ≡ old.item → all_differ (items_of (slice_set ms k new)) ≡ true
differ_changed x ms k old new differ told is same = ap all_differ (same_items ms k new old (place_told x ms k old told).0 (same ∙ ap (λ m. m.item) is)) ∙ differ

pub change_told : (x : Item) (f : Mark → Mark) (ms : List Mark) (k : ℕ) (old new : Mark) → all_differ (items_of ms) ≡ true → place_of x ms ≡ Some k → old ≡ get_or ms k old → new ≡ f old → slice_set ms k new ≡ change_all x f ms
change_told x f ms k old new differ told is changed =
    let found = place_told x ms k old told in
    change_at x f ms k new old differ found.0 found.1 (changed ∙ ap f is)

pub touched_told : (x : Item) (device : ℕ) (ms : List Mark) (k : ℕ) (old : Mark) → all_differ (items_of ms) ≡ true → place_of x ms ≡ Some k → old ≡ get_or ms k old → set.contains old.touched device ≡ list_any (λ m. is_item x m.item && set.contains m.touched device) ms
touched_told x device ms k old differ told is =
    let found = place_told x ms k old told in
    ap (λ m. set.contains m.touched device) is ∙ touched_at x device ms k old differ found.0 found.1

-- a place is told exactly where the item stands
pub told_there : (x : Item) (ms : List Mark) (o : Option ℕ) → o ≡ place_of x ms → is_some o ≡ stands x ms
told_there x ms None is = sym (untold_stands x ms (sym is))
told_there x ms (Some k) is = sym (told_stands x ms k (sym is))
