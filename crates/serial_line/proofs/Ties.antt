-- How each call of a line keeps it the line that a layer above means, and what its answers then say.
-- The words on items are those of the reading of a history, written alike, so that these lemmas are about its words too.
use Rattle.serial_line.proofs.Prelude.{Back, Bool, Failed, Item, List, Mark, None, Ran, RunNo, Some, [], ap, arith, chosen, common_steps, cond, contains_insert, drop, drop-map, false, filter, front_of, if◌then◌else◌, insert, is_item, is_ran, items_of, last_place, list_any, map-append, mark_has_touched, marks_without, nat_cmp, not, of_run, option_map, option_or, others, rearranged, refl, settling, suc, sym, take, take-map, touching, true, untouched, with_end, with_item, with_touch, zero, ℕ, ◌&&◌, ◌++◌, ◌+◌, ◌==◌, ◌||◌, ◌∙◌, ◌∷◌, ◌≡◌}
use Rattle.serial_line.proofs.Searches.{up_to_first}
use Rattle.serial_line.specs.Ties.{Each, EndsAs, IsLineOf, TouchesAs}
use Rattle.std.specs.FinSet as set

-- an empty line has no items
pub line_empty : (touched : Item → ℕ → Bool) (ended : ℕ → Bool) → IsLineOf [] touched ended []
line_empty touched ended = record { items = refl; touches = tt; ends = tt }

-- an item put in

each_inserted : {A : Type 0} (P : A → Type 0) (xs : List A) (at : ℕ) (x : A) → Each P xs → P x → Each P (insert xs at x)
each_inserted P xs zero x all new = (new, all)
each_inserted P [] (suc at) x all new = (new, tt)
each_inserted P (y ∷ ys) (suc at) x all new = (all.0, each_inserted P ys at x all.1 new)

-- the items are those of before, with the item at its place
pub items_inserted : (marks : List Mark) (at : ℕ) (x : Item) → items_of (with_item at x marks) ≡ take at (items_of marks) ++ x ∷ drop at (items_of marks)
items_inserted marks at x =
    map-append (λ m. m.item) (take at marks) (untouched x ∷ drop at marks)
    ∙ (λ i. sym (take-map (λ m. m.item) at marks) i ++ x ∷ sym (drop-map (λ m. m.item) at marks) i)

pub line_inserted : {line : List Item} {touched : Item → ℕ → Bool} {ended : ℕ → Bool} {marks : List Mark} (at : ℕ) (x : Item) → IsLineOf line touched ended
    marks → TouchesAs touched (untouched x) → of_run ended x ≡ false → IsLineOf (take at line ++ x ∷ drop at line) touched ended (with_item at x marks)
line_inserted {marks} at x old new lives = record {
  items = items_inserted marks at x ∙ ap (λ is. take at is ++ x ∷ drop at is) old.items;
  touches = each_inserted _ marks at (untouched x) old.touches new;
  ends = each_inserted _ marks at (untouched x) old.ends (sym lives);
}

-- a run has touched nothing when it comes, an event its device

pub run_comes : (touched : Item → ℕ → Bool) (r : RunNo) → ((d : ℕ) → touched (Ran r) d ≡ false) → TouchesAs touched (untouched (Ran r))
run_comes touched r none d = set.contains-empty nat_cmp d ∙ sym (none d)

-- a run taken out

each_filtered : (P : Mark → Type 0) (p : Item → Bool) (marks : List Mark) → Each P marks → Each P (filter (λ m. p m.item) marks)
each_filtered P p [] all = tt
each_filtered P p (m ∷ marks) all = by_cases (p m.item) (each_filtered P p marks all.1)
  where
    by_cases : (b : Bool) → Each P (filter (λ n. p n.item) marks) → Each P (cond b (m ∷ filter (λ n. p n.item) marks) (filter (λ n. p n.item) marks))
    by_cases true rest = (all.0, rest)
    by_cases false rest = rest

items_filtered : (p : Item → Bool) (marks : List Mark) → items_of (filter (λ m. p m.item) marks) ≡ filter p (items_of marks)
items_filtered p [] = refl
items_filtered p (m ∷ marks) = by_cases (p m.item) (items_filtered p marks)
  where
    by_cases : (b : Bool) → items_of (filter (λ n. p n.item) marks) ≡ filter p (items_of marks) → items_of (cond b (m ∷ filter (λ n. p n.item) marks) (filter (λ n. p n.item) marks)) ≡ cond b (m.item ∷ filter p (items_of marks)) (filter p (items_of marks))
    by_cases true e = ap (λ is. m.item ∷ is) e
    by_cases false e = e

-- the items are those of before without the run
pub items_removed : (r : ℕ) (marks : List Mark) → items_of (marks_without r marks) ≡ filter (λ i. not (is_ran r i)) (items_of marks)
items_removed r marks = items_filtered (λ i. not (is_ran r i)) marks

pub line_removed : {line : List Item} {touched : Item → ℕ → Bool} {ended : ℕ → Bool} {marks : List Mark} (r : ℕ) → IsLineOf line touched ended marks → IsLineOf (filter (λ i. not (is_ran r i)) line) touched ended (marks_without r marks)
line_removed {marks} r old = record {
  items = items_removed r marks ∙ ap (filter (λ i. not (is_ran r i))) old.items;
  touches = each_filtered _ (λ i. not (is_ran r i)) marks old.touches;
  ends = each_filtered _ (λ i. not (is_ran r i)) marks old.ends;
}

-- a run that touches a device

touch_item : (r device : ℕ) (m : Mark) → (with_touch r device m).item ≡ m.item
touch_item r device m = by_cases (is_ran r m.item)
  where
    by_cases : (b : Bool) → (if b then record m { touched = set.insert m.touched device } else m).item ≡ m.item
    by_cases true = refl
    by_cases false = refl

touch_contains : (r device : ℕ) (m : Mark) (d : ℕ) → set.contains (with_touch r device m).touched d ≡ ((is_ran r m.item && (d == device)) || set.contains m.touched d)
touch_contains r device m d = by_cases (is_ran r m.item)
  where
    by_cases : (b : Bool) → set.contains (if b then record m { touched = set.insert m.touched device } else m).touched d ≡ ((b && (d == device)) || set.contains m.touched d)
    by_cases true = contains_insert m.touched device d
    by_cases false = refl

-- the items stay
pub items_touching : (r device : ℕ) (marks : List Mark) → items_of (touching r device marks) ≡ items_of marks
items_touching r device [] = refl
items_touching r device (m ∷ marks) = (λ i. touch_item r device m i ∷ items_touching r device marks i)

-- the run has touched the device besides, and nothing else changes
pub line_touching : {line : List Item} {before after : Item → ℕ → Bool} {ended : ℕ → Bool} {marks : List Mark} (r device : ℕ) → IsLineOf line before ended marks → ((i : Item) (d : ℕ) → after i d ≡ ((is_ran r i && (d == device)) || before i d)) → IsLineOf line after ended (touching r device marks)
line_touching {before} {after} {ended} {marks} r device old also = record { items = items_touching r device marks ∙ old.items; touches = each marks old.touches; ends = each_end marks old.ends }
  where
    touch_end : (m : Mark) → (with_touch r device m).ended ≡ m.ended
    touch_end m = by_cases (is_ran r m.item)
      where
        by_cases : (b : Bool) → (if b then record m { touched = set.insert m.touched device } else m).ended ≡ m.ended
        by_cases true = refl
        by_cases false = refl

    each_end : (ms : List Mark) → Each (EndsAs ended) ms → Each (EndsAs ended) (touching r device ms)
    each_end [] all = tt
    each_end (m ∷ ms) all = (touch_end m ∙ all.0 ∙ ap (of_run ended) (sym (touch_item r device m)), each_end ms all.1)

    each : (ms : List Mark) → Each (TouchesAs before) ms → Each (TouchesAs after) (touching r device ms)
    each [] all = tt
    each (m ∷ ms) all = (λ d. touch_contains r device m d ∙ ap (λ b. (is_ran r m.item && (d == device)) || b) (all.0 d) ∙ sym (also m.item d) ∙ ap (λ i. after i d) (sym (touch_item r device m)), each ms all.1)

-- a run that ends and stays

end_item : (r : ℕ) (m : Mark) → (with_end r m).item ≡ m.item
end_item r m = by_cases (is_ran r m.item)
  where
    by_cases : (b : Bool) → (if b then record m { ended = true } else m).item ≡ m.item
    by_cases true = refl
    by_cases false = refl

-- the run has ended besides, and nothing else changes
pub line_settling : {line : List Item} {touched : Item → ℕ → Bool} {before after : ℕ → Bool} {marks : List Mark} (r : ℕ) → IsLineOf line touched before marks → ((q : ℕ) → after q ≡ ((q == r) || before q)) → IsLineOf line touched after (settling r marks)
line_settling {touched = touched} {before = before} {after = after} {marks = marks} r old also = record { items = items marks ∙ old.items; touches = each_touch marks old.touches; ends = each_end marks old.ends }
  where
    items : (ms : List Mark) → items_of (settling r ms) ≡ items_of ms
    items [] = refl
    items (m ∷ ms) = (λ i. end_item r m i ∷ items ms i)

    touches : (m : Mark) → TouchesAs touched m → TouchesAs touched (with_end r m)
    touches m as_told = by_cases (is_ran r m.item)
      where
        by_cases : (b : Bool) → TouchesAs touched (if b then record m { ended = true } else m)
        by_cases true = as_told
        by_cases false = as_told

    each_touch : (ms : List Mark) → Each (TouchesAs touched) ms → Each (TouchesAs touched) (settling r ms)
    each_touch [] all = tt
    each_touch (m ∷ ms) all = (touches m all.0, each_touch ms all.1)

    told : (i : Item) → of_run after i ≡ (is_ran r i || of_run before i)
    told (Ran q) = also q.0
    told (Failed d k) = refl
    told (Back d k) = refl

    ends : (m : Mark) → EndsAs before m → EndsAs after (with_end r m)
    ends m as_told = by_cases (is_ran r m.item) (told m.item)
      where
        by_cases : (b : Bool) → of_run after m.item ≡ (b || of_run before m.item) → EndsAs after (if b then record m { ended = true } else m)
        by_cases true e = sym e
        by_cases false e = as_told ∙ sym e

    each_end : (ms : List Mark) → Each (EndsAs before) ms → Each (EndsAs after) (settling r ms)
    each_end [] all = tt
    each_end (m ∷ ms) all = (ends m all.0, each_end ms all.1)

-- a change that leaves what the items of the line have touched, and which have ended

item_itself : (x : Item) → is_item x x ≡ true
item_itself (Ran r) = grind (arith, common_steps)
item_itself (Failed d k) = grind (arith, common_steps)
item_itself (Back d k) = grind (arith, common_steps)

pub line_retold : {line : List Item} {before after : Item → ℕ → Bool} {old_ends new_ends : ℕ → Bool} {marks : List Mark} → IsLineOf line before old_ends marks
    → ((i : Item) (d : ℕ) → list_any (is_item i) line ≡ true → before i d ≡ after i d) → ((q : ℕ) → list_any (is_ran q) line ≡ true → old_ends q ≡ new_ends q)
    → IsLineOf line after new_ends marks
line_retold {line} {before} {after} {old_ends} {new_ends} {marks} old same ends = record { items = old.items; touches = each marks inside old.touches; ends = each_end marks inside old.ends }
  where
    inside : (i : Item) → list_any (is_item i) (items_of marks) ≡ true → list_any (is_item i) line ≡ true
    inside i among = ap (list_any (is_item i)) (sym old.items) ∙ among

    own : (m : Mark) (ms : List Mark) → list_any (is_item m.item) (items_of (m ∷ ms)) ≡ true
    own m ms = ap (λ b. b || list_any (is_item m.item) (items_of ms)) (item_itself m.item)

    rest : (m : Mark) (ms : List Mark) (i : Item) → list_any (is_item i) (items_of ms) ≡ true → list_any (is_item i) (items_of (m ∷ ms)) ≡ true
    rest m ms i among = rw among (grind (arith, common_steps))

    each : (ms : List Mark) → ((i : Item) → list_any (is_item i) (items_of ms) ≡ true → list_any (is_item i) line ≡ true) → Each (TouchesAs before) ms → Each (TouchesAs after) ms
    each [] there all = tt
    each (m ∷ ms) there all = (λ d. all.0 d ∙ same m.item d (there m.item (own m ms)), each ms (λ i among. there i (rest m ms i among)) all.1)

    told : (i : Item) → list_any (is_item i) line ≡ true → of_run old_ends i ≡ of_run new_ends i
    told (Ran q) among = ends q.0 among
    told (Failed d k) among = refl
    told (Back d k) among = refl

    each_end : (ms : List Mark) → ((i : Item) → list_any (is_item i) (items_of ms) ≡ true → list_any (is_item i) line ≡ true) → Each (EndsAs old_ends) ms → Each (EndsAs new_ends) ms
    each_end [] there all = tt
    each_end (m ∷ ms) there all = (all.0 ∙ told m.item (there m.item (own m ms)), each_end ms (λ i among. there i (rest m ms i among)) all.1)

-- what the answers of a line then say

-- the last place that has touched the device of one of these is that of the last item that has, as the test tells it
pub last_in_line : {A : Type 0} {line : List Item} {touched : Item → ℕ → Bool} {ended : ℕ → Bool} {marks : List Mark} (number : A → ℕ) (xs : List A) → IsLineOf line touched ended marks
    → last_place (λ m. list_any (λ x. set.contains m.touched (number x)) xs) marks ≡ last_place (λ i. list_any (λ x. touched i (number x)) xs) line
last_in_line {A} {line} {touched} {ended} {marks} number xs is = last marks is.touches ∙ ap (last_place (λ i. list_any (λ x. touched i (number x)) xs)) is.items
  where
    met : (m : Mark) → TouchesAs touched m → (ys : List A) → list_any (λ x. set.contains m.touched (number x)) ys ≡ list_any (λ x. touched m.item (number x)) ys
    met m as_told [] = refl
    met m as_told (y ∷ ys) = (λ j. as_told (number y) j || met m as_told ys j)

    last : (ms : List Mark) → Each (TouchesAs touched) ms → last_place (λ m. list_any (λ x. set.contains m.touched (number x)) xs) ms ≡ last_place (λ i. list_any (λ x. touched i (number x)) xs) (items_of ms)
    last [] all = refl
    last (m ∷ ms) all = (λ j. option_or (option_map (λ k. k + 1) (last ms all.1 j)) (if met m all.0 xs j then Some 0 else None))

at_run : (touched : Item → ℕ → Bool) (r : RunNo) (d : ℕ) (i : Item) → (is_ran r.0 i && touched i d) ≡ (is_ran r.0 i && touched (Ran r) d)
at_run touched r d (Ran q) = elim (q.0 == r.0) as (λ b. (q.0 == r.0) ≡ b → (b && touched (Ran q) d) ≡ (b && touched (Ran r) d)) [
  | true ↦ (λ e. let equal : q.0 ≡ r.0 = grind (arith, common_steps) in ap (λ n. touched (Ran (record { 0 = n })) d) equal)
  | false ↦ (λ e. refl)
] refl
at_run touched r d (Failed e k) = refl
at_run touched r d (Back e k) = refl

-- a run of the line has touched a device where the test tells it
pub touched_in_line : {line : List Item} {touched : Item → ℕ → Bool} {ended : ℕ → Bool} {marks : List Mark} (r : RunNo) (d : ℕ) → IsLineOf line touched ended marks → list_any (is_ran r.0) line ≡ true → mark_has_touched r.0 d marks ≡ touched (Ran r) d
touched_in_line {line} {touched} {ended} {marks} r d is there = any marks is.touches ∙ ap (λ b. b && touched (Ran r) d) (ap (list_any (is_ran r.0)) is.items ∙ there)
  where
    one : (m : Mark) → TouchesAs touched m → (is_ran r.0 m.item && set.contains m.touched d) ≡ (is_ran r.0 m.item && touched (Ran r) d)
    one m fits = ap (λ b. is_ran r.0 m.item && b) (fits d) ∙ at_run touched r d m.item

    any : (ms : List Mark) → Each (TouchesAs touched) ms → mark_has_touched r.0 d ms ≡ (list_any (is_ran r.0) (items_of ms) && touched (Ran r) d)
    any [] all = refl
    any (m ∷ ms) all = rw (one m all.0, any ms all.1) (grind (arith, common_steps))

-- so many items stand before the first run that has not ended
pub front_in_line : {line : List Item} {touched : Item → ℕ → Bool} {ended : ℕ → Bool} {marks : List Mark} → IsLineOf line touched ended marks → front_of marks ≡ up_to_first (of_run (λ r. not (ended r))) line
front_in_line {line} {touched} {ended} {marks} is = along marks is.ends ∙ ap (up_to_first (of_run (λ r. not (ended r)))) is.items
  where
    lives : (i : Item) (b : Bool) → b ≡ of_run ended i → of_run (λ r. not b) i ≡ of_run (λ r. not (ended r)) i
    lives (Ran q) b e = ap not e
    lives (Failed d k) b e = refl
    lives (Back d k) b e = refl

    along : (ms : List Mark) → Each (EndsAs ended) ms → front_of ms ≡ up_to_first (of_run (λ r. not (ended r))) (items_of ms)
    along [] all = refl
    along (m ∷ ms) all = (λ i. if lives m.item m.ended all.0 i then 0 else along ms all.1 i + 1)

-- the items of a set before the others

chosen_items : (bs : List Bool) (marks : List Mark) → items_of (chosen bs marks) ≡ chosen bs (items_of marks)
unfolding chosen
chosen_items bs [] = refl
chosen_items [] (m ∷ ms) = refl
chosen_items (true ∷ bs) (m ∷ ms) = ap (λ is. m.item ∷ is) (chosen_items bs ms)
chosen_items (false ∷ bs) (m ∷ ms) = chosen_items bs ms

others_items : (bs : List Bool) (marks : List Mark) → items_of (others bs marks) ≡ others bs (items_of marks)
unfolding others
others_items bs [] = refl
others_items [] (m ∷ ms) = refl
others_items (true ∷ bs) (m ∷ ms) = others_items bs ms
others_items (false ∷ bs) (m ∷ ms) = ap (λ is. m.item ∷ is) (others_items bs ms)

each_of_both : {A : Type 0} (P : A → Type 0) (xs ys : List A) → Each P xs → Each P ys → Each P (xs ++ ys)
each_of_both P [] ys all more = more
each_of_both P (x ∷ xs) ys all more = (all.0, each_of_both P xs ys all.1 more)

each_chosen : {A : Type 0} (P : A → Type 0) (bs : List Bool) (xs : List A) → Each P xs → Each P (chosen bs xs)
unfolding chosen
each_chosen P bs [] all = tt
each_chosen P [] (x ∷ xs) all = tt
each_chosen P (true ∷ bs) (x ∷ xs) all = (all.0, each_chosen P bs xs all.1)
each_chosen P (false ∷ bs) (x ∷ xs) all = each_chosen P bs xs all.1

each_others : {A : Type 0} (P : A → Type 0) (bs : List Bool) (xs : List A) → Each P xs → Each P (others bs xs)
unfolding others
each_others P bs [] all = tt
each_others P [] (x ∷ xs) all = all
each_others P (true ∷ bs) (x ∷ xs) all = each_others P bs xs all.1
each_others P (false ∷ bs) (x ∷ xs) all = (all.0, each_others P bs xs all.1)

pub line_rearranged : {line : List Item} {touched : Item → ℕ → Bool} {ended : ℕ → Bool} {marks : List Mark} (bs : List Bool) → IsLineOf line touched ended marks → IsLineOf (rearranged bs line) touched ended (rearranged bs marks)
line_rearranged {marks} bs old = record {
  items = map-append (λ m. m.item) (chosen bs marks) (others bs marks) ∙ (λ i. chosen_items bs marks i ++ others_items bs marks i) ∙ ap (rearranged bs) old.items;
  touches = each_of_both _ (chosen bs marks) (others bs marks) (each_chosen _ bs marks old.touches) (each_others _ bs marks old.touches);
  ends = each_of_both _ (chosen bs marks) (others bs marks) (each_chosen _ bs marks old.ends) (each_others _ bs marks old.ends);
}
