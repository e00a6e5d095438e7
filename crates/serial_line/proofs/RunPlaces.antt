-- The places that are kept of the runs: what they are after an item comes or goes, and each behind it is told its place.
use Rattle.serial_line.proofs.Prelude.{ArePlacesBefore, AreRunPlaces, Back, Bool, Failed, Item, List, Mark, None, Option, Ran, RunNo, Some, [], all_differ, ap, arith, common_steps, exchanged, false, get_or, get_or-map, get_or-set_at, get_or-set_other, if◌then◌else◌, insert, is_before_place, is_ran, items_of, length, length-map, nat_lt, position, refl, remove, replicate, run_place, slice_index_or, slice_set, stands, subst, suc, sym, true, untouched, with_place, zero, ℕ, ◌+◌, ◌-◌, ◌<◌, ◌∙◌, ◌∷◌, ◌≡◌, ◌≢◌, ◌≤◌}
use Rattle.serial_line.proofs.Exchanged.{any_exchanged, differ_exchanged, get_else, get_first, get_second, length_exchanged}
use Rattle.serial_line.proofs.Once.{place_is, place_told, untold_stands}
use Rattle.serial_line.proofs.Searches.{any_at}
use Rattle.std.proofs.lemmas.List.Edits.{get_or-insert_above, get_or-insert_below, get_or-remove_above, get_or-remove_below, length-insert, length-remove}

abbrev the_run : ℕ → Item
the_run r = Ran (record { 0 = r })

-- a run that stands at a place of the line is in it
stands_at : (r : ℕ) (ms : List Mark) (k : ℕ) (d : Mark) → k < length ms → is_ran r (get_or ms k d).item ≡ true → stands (the_run r) ms ≡ true
stands_at r ms k d within there = any_at (is_ran r) (items_of ms) k d.item (rw (length-map ms (λ m. m.item)) within) (rw (get_or-map (λ m. m.item) ms k d d.item within) there)

-- each run that is at a place of the one line has a place in the other, at which it stands: so who is not there has none here
none_from : (r : ℕ) (ms ns : List Mark) (d : Mark) → ((k : ℕ) → k < length ms → is_ran r (get_or ms k d).item ≡ true → stands (the_run r) ns ≡ true) → run_place r ns ≡ None → run_place r ms ≡ None
none_from r ms ns d moved none = by_cases (run_place r ms) refl
  where
    by_cases : (o : Option ℕ) → run_place r ms ≡ o → o ≡ None
    by_cases None e = refl
    by_cases (Some k) e =
        let found = place_told (the_run r) ms k d e in
        absurd (cc (sym (moved k found.0 found.1) ∙ untold_stands (the_run r) ns none))

-- what is kept is read

-- no item: no places
pub no_places : (n : ℕ) → AreRunPlaces [] (replicate n None)
no_places n r within = none_at n r
  where
    nothing : Option ℕ
    nothing = None

    none_at : (n r : ℕ) → slice_index_or (replicate n nothing) r None ≡ None
    none_at zero r = refl
    none_at (suc n) zero = refl
    none_at (suc n) (suc r) = none_at n r

-- a run is told its place

length_placed : (i : Item) (place : Option ℕ) (places : List (Option ℕ)) → length (with_place i place places) ≡ length places
length_placed (Ran q) place places = grind (arith, common_steps)
length_placed (Failed d k) place places = refl
length_placed (Back d k) place places = refl

-- the run has it ..
placed_here : (r : ℕ) (i : Item) (place : Option ℕ) (places : List (Option ℕ)) → is_ran r i ≡ true → r < length places → slice_index_or (with_place i place places) r None ≡ place
placed_here r (Ran q) place places is within =
    let same : r ≡ q.0 = grind (arith, common_steps) in
    let inside : nat_lt q.0 (length places) ≡ true = grind (arith, common_steps) in
    rw inside (get_or-set_at places q.0 r place None same (grind (arith, common_steps)))
placed_here r (Failed d k) place places is within = absurd (cc)
placed_here r (Back d k) place places is within = absurd (cc)

-- .. and no other
placed_other : (r : ℕ) (i : Item) (place : Option ℕ) (places : List (Option ℕ)) → is_ran r i ≡ false → slice_index_or (with_place i place places) r None ≡ slice_index_or places r None
placed_other r (Ran q) place places is = by_cases (nat_lt q.0 (length places))
  where
    by_cases : (b : Bool) → slice_index_or (if b then slice_set places q.0 place else places) r None ≡ slice_index_or places r None
    by_cases true = let other : r ≢ q.0 = grind (arith, common_steps) in get_or-set_other places q.0 r place None other
    by_cases false = refl
placed_other r (Failed d k) place places is = refl
placed_other r (Back d k) place places is = refl

-- where the places before one are right, and the item there is told it, those before the next one are right
pub told_one : (ms : List Mark) (k : ℕ) (i : Item) (d : Mark) (places : List (Option ℕ)) → all_differ (items_of ms) ≡ true → k < length ms → i ≡ (get_or ms k d).item → ArePlacesBefore k ms places → ArePlacesBefore (k + 1) ms (with_place i (Some k) places)
told_one ms k i d places differ inside is before r within here = by_cases (is_ran r i) refl
  where
    kept : r < length places
    kept = subst (λ n. r < n) (length_placed i (Some k) places) within

    by_cases : (b : Bool) → is_ran r i ≡ b → slice_index_or (with_place i (Some k) places) r None ≡ run_place r ms
    by_cases true e = placed_here r i (Some k) places e kept ∙ sym (place_is (the_run r) ms k d differ inside (ap (is_ran r) (sym is) ∙ e))
    by_cases false e = placed_other r i (Some k) places e ∙ before r kept (earlier (run_place r ms) refl here)
      where
        earlier : (o : Option ℕ) → run_place r ms ≡ o → is_before_place (k + 1) o ≡ true → is_before_place k o ≡ true
        earlier None f upto = refl
        earlier (Some j) f upto =
            let apart : j ≢ k = λ same. cc (sym (ap (is_ran r) is ∙ ap (λ n. is_ran r (get_or ms n d).item) (sym same) ∙ (place_told (the_run r) ms j d f).1) ∙ e) in
            grind (arith, common_steps)

-- an item comes: the places before it are right
pub before_inserted : (ms : List Mark) (at : ℕ) (x : Mark) (places : List (Option ℕ)) → all_differ (items_of ms) ≡ true → at ≤ length ms → AreRunPlaces ms places → ArePlacesBefore at (insert ms at x) places
before_inserted ms at x places differ upto are r within here = are r within ∙ by_cases (run_place r (insert ms at x)) refl here
  where
    moved : (k : ℕ) → k < length ms → is_ran r (get_or ms k x).item ≡ true → stands (the_run r) (insert ms at x) ≡ true
    moved k inside is = elim (nat_lt k at) as (λ b. nat_lt k at ≡ b → stands (the_run r) (insert ms at x) ≡ true) [
      | true ↦ (λ e.
          let below : k < at = grind (arith, common_steps) in
          stands_at r (insert ms at x) k x (rw (length-insert ms at x upto) (omega (arith, inside))) (ap (λ m. is_ran r m.item) (get_or-insert_below ms at x x k below upto) ∙ is))
      | false ↦ (λ e.
          let above : at ≤ k = grind (arith, common_steps) in
          stands_at r (insert ms at x) (k + 1) x (rw (length-insert ms at x upto) (omega (arith, inside))) (ap (λ m. is_ran r m.item) (get_or-insert_above ms at x x k above upto) ∙ is))
    ] refl

    by_cases : (o : Option ℕ) → run_place r (insert ms at x) ≡ o → is_before_place at o ≡ true → run_place r ms ≡ run_place r (insert ms at x)
    by_cases None e first = none_from r ms (insert ms at x) x moved e ∙ sym e
    by_cases (Some j) e first =
        let found = place_told (the_run r) (insert ms at x) j x e in
        let below : j < at = grind (arith, common_steps) in
        place_is (the_run r) ms j x differ (omega (arith, below, upto)) (ap (λ m. is_ran r m.item) (sym (get_or-insert_below ms at x x j below upto)) ∙ found.1) ∙ sym e

-- an item is not two runs
other_run : (r : ℕ) (q : RunNo) (i : Item) → is_ran r (Ran q) ≡ false → is_ran q.0 i ≡ true → is_ran r i ≡ false
other_run r q (Ran x) apart is = grind (arith, common_steps)
other_run r q (Failed d k) apart is = refl
other_run r q (Back d k) apart is = refl

-- a run goes, and has no place any more: those before where it stood are right
pub before_removed : (ms : List Mark) (q : RunNo) (k : ℕ) (places : List (Option ℕ)) → all_differ (items_of ms) ≡ true → run_place q.0 ms ≡ Some k → all_differ (items_of (remove ms k)) ≡ true → AreRunPlaces ms places → ArePlacesBefore k (remove ms k) (with_place (Ran q) None places)
before_removed ms q k places differ told rest are r within here = by_cases (is_ran r (Ran q)) refl
  where
    d : Mark
    d = untouched (Ran q)

    inside : k < length ms
    inside = (place_told (Ran q) ms k d told).0

    kept : r < length places
    kept = subst (λ n. r < n) (length_placed (Ran q) None places) within

    count : length (remove ms k) + 1 ≡ length ms
    count = length-remove ms k inside

    by_cases : (b : Bool) → is_ran r (Ran q) ≡ b → slice_index_or (with_place (Ran q) None places) r None ≡ run_place r (remove ms k)
    by_cases true e = placed_here r (Ran q) None places e kept ∙ sym (gone (run_place r (remove ms k)) refl here)
      where
        same : r ≡ q.0
        same = grind (arith, common_steps)

        gone : (o : Option ℕ) → run_place r (remove ms k) ≡ o → is_before_place k o ≡ true → o ≡ None
        gone None f first = refl
        gone (Some j) f first =
            let found = place_told (the_run r) (remove ms k) j d f in
            let below : j < k = grind (arith, common_steps) in
            let old = place_is (the_run r) ms j d differ (omega (arith, below, inside)) (ap (λ m. is_ran r m.item) (sym (get_or-remove_below ms k d j below inside)) ∙ found.1) in
            let one : Some j ≡ Some k = sym old ∙ ap (λ n. run_place n ms) same ∙ told in
            absurd (grind (arith, common_steps))
    by_cases false e = placed_other r (Ran q) None places e ∙ are r kept ∙ stays (run_place r (remove ms k)) refl here
      where
        its : is_ran r (get_or ms k d).item ≡ false
        its = other_run r q (get_or ms k d).item e (place_told (Ran q) ms k d told).1

        moved : (j : ℕ) → j < length ms → is_ran r (get_or ms j d).item ≡ true → stands (the_run r) (remove ms k) ≡ true
        moved j within is = elim (nat_lt j k) as (λ b. nat_lt j k ≡ b → stands (the_run r) (remove ms k) ≡ true) [
          | true ↦ (λ f.
              let below : j < k = grind (arith, common_steps) in
              stands_at r (remove ms k) j d (omega (arith, count, inside, below)) (ap (λ m. is_ran r m.item) (get_or-remove_below ms k d j below inside) ∙ is))
          | false ↦ (λ f.
              let apart : j ≢ k = λ same. cc (sym is ∙ ap (λ n. is_ran r (get_or ms n d).item) same ∙ its) in
              let above : k ≤ j - 1 = grind (arith, common_steps) in
              let next : j - 1 + 1 ≡ j = grind (arith, common_steps) in
              stands_at r (remove ms k) (j - 1) d (omega (arith, count, within, next)) (ap (λ m. is_ran r m.item) (get_or-remove_above ms k d (j - 1) above inside) ∙ ap (λ n. is_ran r (get_or ms n d).item) next ∙ is))
        ] refl

        stays : (o : Option ℕ) → run_place r (remove ms k) ≡ o → is_before_place k o ≡ true → run_place r ms ≡ run_place r (remove ms k)
        stays None f first = none_from r ms (remove ms k) d moved f ∙ sym f
        stays (Some j) f first =
            let found = place_told (the_run r) (remove ms k) j d f in
            let below : j < k = grind (arith, common_steps) in
            place_is (the_run r) ms j d differ (omega (arith, below, inside)) (ap (λ m. is_ran r m.item) (sym (get_or-remove_below ms k d j below inside)) ∙ found.1) ∙ sym f

-- the items stay: so do the places
pub places_stay : (ms ns : List Mark) (places : List (Option ℕ)) → items_of ns ≡ items_of ms → AreRunPlaces ms places → AreRunPlaces ns places
places_stay ms ns places same are r within = are r within ∙ ap (λ is. position (is_ran r) is) (sym same)

-- two neighbours are exchanged: both are told their places
pub places_exchanged : (ms : List Mark) (at : ℕ) (i j : Item) (d e : Mark) (places : List (Option ℕ)) → all_differ (items_of ms) ≡ true → suc at < length ms → i ≡ (get_or (exchanged at ms) at d).item → j ≡ (get_or (exchanged at ms) (suc at) e).item → AreRunPlaces ms places
    → AreRunPlaces (exchanged at ms) (with_place j (Some (suc at)) (with_place i (Some at) places))
places_exchanged ms at i j d e places differ inside first second' are r within = by_second (is_ran r j) refl
  where
    default : (xs : List Mark) (k : ℕ) → k < length xs → get_or xs k e ≡ get_or xs k d
    default [] k less = absurd (omega (arith, less))
    default (x ∷ xs) zero less = refl
    default (x ∷ xs) (suc k) less = default xs k (omega (arith, less))

    second : j ≡ (get_or (exchanged at ms) (suc at) d).item
    second = second' ∙ ap (λ (m : Mark). m.item) (default (exchanged at ms) (suc at) (subst (λ n. suc at < n) (sym (length_exchanged ms at)) inside))

    long : length (exchanged at ms) ≡ length ms
    long = length_exchanged ms at

    kept : r < length places
    kept = subst (λ n. r < n) (length_placed j (Some (suc at)) (with_place i (Some at) places) ∙ length_placed i (Some at) places) within

    between : r < length (with_place i (Some at) places)
    between = subst (λ n. r < n) (length_placed j (Some (suc at)) (with_place i (Some at) places)) within

    differs : all_differ (items_of (exchanged at ms)) ≡ true
    differs = differ_exchanged ms at differ

    new : (k : ℕ) → k < length ms → is_ran r (get_or (exchanged at ms) k d).item ≡ true → run_place r (exchanged at ms) ≡ Some k
    new k less is = place_is (the_run r) (exchanged at ms) k d differs (subst (λ n. k < n) (sym long) less) is

    by_old : is_ran r j ≡ false → is_ran r i ≡ false → (o : Option ℕ) → run_place r ms ≡ o → run_place r ms ≡ run_place r (exchanged at ms)
    by_old f e None is = is ∙ sym (none_from r (exchanged at ms) ms d (λ k less there. sym (any_exchanged (is_ran r) ms at) ∙ stands_at r (exchanged at ms) k d less there) is)
    by_old f e (Some k) is =
        let found = place_told (the_run r) ms k d is in
        let one : k ≢ at = λ same. cc (sym (ap (is_ran r) second ∙ ap (λ (m : Mark). is_ran r m.item) (get_second ms at d inside) ∙ ap (λ n. is_ran r (get_or ms n d).item) (sym same) ∙ found.1) ∙ f) in
        let two : k ≢ suc at = λ same. cc (sym (ap (is_ran r) first ∙ ap (λ (m : Mark). is_ran r m.item) (get_first ms at d inside) ∙ ap (λ n. is_ran r (get_or ms n d).item) (sym same) ∙ found.1) ∙ e) in
        is ∙ sym (new k found.0 (ap (λ (m : Mark). is_ran r m.item) (get_else ms at k d one two) ∙ found.1))

    by_first : is_ran r j ≡ false → (b : Bool) → is_ran r i ≡ b → slice_index_or (with_place j (Some (suc at)) (with_place i (Some at) places)) r None ≡ run_place r (exchanged at ms)
    by_first f true e = placed_other r j (Some (suc at)) (with_place i (Some at) places) f ∙ placed_here r i (Some at) places e kept ∙ sym (new at (omega (arith, inside)) (ap (is_ran r) (sym first) ∙ e))
    by_first f false e = placed_other r j (Some (suc at)) (with_place i (Some at) places) f ∙ placed_other r i (Some at) places e ∙ are r kept ∙ by_old f e (run_place r ms) refl

    by_second : (b : Bool) → is_ran r j ≡ b → slice_index_or (with_place j (Some (suc at)) (with_place i (Some at) places)) r None ≡ run_place r (exchanged at ms)
    by_second true e = placed_here r j (Some (suc at)) (with_place i (Some at) places) e between ∙ sym (new (suc at) inside (ap (is_ran r) (sym second) ∙ e))
    by_second false e = by_first e (is_ran r i) refl
