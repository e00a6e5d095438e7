-- What each call does with the list of accesses, and that it keeps the discipline.
use Rattle.home_types.specs.declared.commands.View.{View}
use Rattle.lineage_table.proofs.Pairs.{Pairs, all_from_pairs, every_so, pairs_back, pairs_changed, pairs_from_all, pairs_front, pairs_put}
use Rattle.lineage_table.proofs.Splits.{Cut, any_access, access_at, behind_at, before_at, change_at, cut_at, put_at, without_at, without_none}
use Rattle.lineage_table.proofs.Prelude.{Access, Acquired, AllByRecursion, AllPairs, AreInTurn, AreOfTwoRuns, Bool, IsDisciplined, IsSome, IsTrue, LineageState, List, None, Option, Released, RunNo, Scheduled, Some, [], access_of, accesses_before, accesses_behind, accesses_without, add-one, ap, append-nil, ap₂, arith, both_ways, common_steps, drop, drop_at, false, get_or, get_or_at, has_access, if◌then◌else◌, inl, inr, insert, is_acquired, is_of, is_released, is_scheduled, is_some, length, nat_lt, not, option_and_then, option_map, or_from, or_parts, or_right, place_before, position, position_or_len, put_access_before, put_before_run, refl, remove, removed, rules, run_behind, scheduled, set, set_at, settled, slice_get, slice_set, some_acquired, some_scheduled, status_of, subst, suc, sym, take, take-append-drop, take_at, take_more, true, unwrap_or, with_change, written_by, zero, ℕ, ◌++◌, ◌+◌, ◌-◌, ◌<◌, ◌||◌, ◌∙◌, ◌∷◌, ◌≡◌, ◌≤◌}
use Rattle.lineage_table.specs.Answers.{MayAnswer}
use Rattle.lineage_table.specs.contracts.accesses.StatusPartialEq.TheImpl.{eq-value}
use Rattle.lineage_table.specs.declared.accesses.Status.{Status}
use Rattle.std.specs.Option.{ForSome}
use Rattle.std.proofs.lemmas.List.Kept.{AllPairs-filter}
use Rattle.std.proofs.lemmas.List.Quantifiers.{position-Some}
use Rattle.std.proofs.lemmas.List.Edits.{insert_end, length-remove}
use Rattle.std.proofs.lemmas.List.Folds.{list_any-append}
use Rattle.std.proofs.lemmas.Option.{slice_get-get_or, slice_get_past}

-- Places

-- the run has an access, where it has one with a status
pub found_by_status : (r : ℕ) (xs : List Access) (s : Status) → status_of r xs ≡ Some s → IsTrue (has_access r xs)
found_by_status r [] s h = absurd (cc)
found_by_status r (x ∷ xs) s h = grind (arith, common_steps, found_by_status r xs s)

-- .. as one that may answer has
pub found_to_answer : (r : ℕ) (xs : List Access) → MayAnswer r xs → IsTrue (has_access r xs)
found_to_answer r xs (inl e) = found_by_status r xs Acquired e
found_to_answer r xs (inr p) = found_by_status r xs Scheduled p.0

pub found_by_value : (r : ℕ) (xs : List Access) → IsTrue (is_some (written_by r xs)) → IsTrue (has_access r xs)
found_by_value r [] h = grind (arith, common_steps)
found_by_value r (x ∷ xs) h = grind (arith, common_steps, found_by_value r xs)

-- the access of the run is written in its place
pub change_set : (r i : ℕ) (xs : List Access) (d : Access) (f : Access → Access) → position (is_of r) xs ≡ Some i → slice_set xs i (f (get_or xs i d)) ≡ with_change r f xs
change_set r i xs d f h =
    let c = cut_at r i xs d h in
    let here : get_or xs i d ≡ c.access = ap (λ l. get_or l i d) c.list ∙ get_or_at c.front c.access c.rest d i c.size in
    ap (λ x. set xs i (f x)) here
    ∙ ap (λ l. set l i (f c.access)) c.list
    ∙ set_at c.front c.access c.rest (f c.access) i c.size
    ∙ sym (change_at r f c.front c.access c.rest c.none c.own)
    ∙ sym (ap (with_change r f) c.list)

-- it stands there
pub access_there : (r i : ℕ) (xs : List Access) (d : Access) → position (is_of r) xs ≡ Some i → access_of r xs ≡ Some (get_or xs i d)
access_there r i xs d h =
    let c = cut_at r i xs d h in
    ap (access_of r) c.list
    ∙ access_at r c.front c.access c.rest c.none c.own
    ∙ ap (λ x. Some x) (sym (ap (λ l. get_or l i d) c.list ∙ get_or_at c.front c.access c.rest d i c.size))

pub status_there : (r : ℕ) (x : Access) {s : Status} → Some x.status ≡ Some s → x.status ≡ s
status_there r x h = cc

pub insert_parts : (a b : List Access) (y : Access) (i : ℕ) → length a ≡ i → insert (a ++ b) i y ≡ a ++ y ∷ b
insert_parts a b y i e = rw (take_at a b i e, drop_at a b i e) refl

same_place : (i k : ℕ) → Some i ≡ Some k → i ≡ k
same_place i k h = cc

-- an access is put before that of the run
pub put_insert : (r i : ℕ) (xs : List Access) (d y : Access) → position (is_of r) xs ≡ Some i → insert xs i y ≡ put_before_run r y xs
put_insert r i xs d y h =
    let c = cut_at r i xs d h in
    ap (λ l. insert l i y) c.list
    ∙ insert_parts c.front (c.access ∷ c.rest) y i c.size
    ∙ sym (put_at r y c.front c.access c.rest c.none c.own)
    ∙ sym (ap (put_before_run r y) c.list)

-- what stands before the access of the run
pub before_take : (r i : ℕ) (xs : List Access) → position (is_of r) xs ≡ Some i → take i xs ≡ accesses_before r xs
before_take r i xs h =
    let c = cut_at r i xs any_access h in
    ap (take i) c.list
    ∙ take_at c.front (c.access ∷ c.rest) i c.size
    ∙ sym (before_at r c.front c.access c.rest c.none c.own)
    ∙ sym (ap (accesses_before r) c.list)

all_before : (r : ℕ) (xs : List Access) → has_access r xs ≡ false → accesses_before r xs ≡ xs
all_before r [] h = refl
all_before r (x ∷ xs) h = grind (arith, common_steps, all_before r xs)

drop_next : (a : List Access) (x : Access) (b : List Access) (i : ℕ) → length a ≡ i → drop (suc i) (a ++ x ∷ b) ≡ b
drop_next [] x b zero e = refl
drop_next [] x b (suc i) e = absurd (omega (arith, e))
drop_next (y ∷ a) x b zero e = absurd (omega (arith, e))
drop_next (y ∷ a) x b (suc i) e = drop_next a x b i (omega (arith, e))

-- what stands behind the access of the run
pub behind_drop : (r i : ℕ) (xs : List Access) (d : Access) → position (is_of r) xs ≡ Some i → drop (i + 1) xs ≡ accesses_behind r xs
behind_drop r i xs d h =
    let c = cut_at r i xs d h in
    ap (drop (i + 1)) c.list
    ∙ ap (λ k. drop k (c.front ++ c.access ∷ c.rest)) (add-one i)
    ∙ drop_next c.front c.access c.rest i c.size
    ∙ sym (behind_at r c.front c.access c.rest c.none c.own)
    ∙ sym (ap (accesses_behind r) c.list)

-- .. or of this run, last where none is named
pub put_place : (before : Option RunNo) (i : ℕ) (xs : List Access) (y : Access) → place_before before xs ≡ Some i → insert xs i y ≡ put_access_before before y xs
put_place None i xs y h = ap (λ k. insert xs k y) (sym (same_place (length xs) i h)) ∙ insert_end xs y
put_place (Some r) i xs y h = put_insert r.0 i xs y y h

-- no access of the run stands behind it
pub none_behind : (r : ℕ) (x : Access) (b : List Access) → is_of r x ≡ true → AllByRecursion (AreOfTwoRuns x) b → has_access r b ≡ false
none_behind r x [] o h = refl
none_behind r x (y ∷ b) o h = step r x y (has_access r b) o h.0 (none_behind r x b o h.1)
  where
    step : (r : ℕ) (x y : Access) (q : Bool) → is_of r x ≡ true → AreOfTwoRuns x y → q ≡ false → (is_of r y || q) ≡ false
    step r x y q o h n = grind (arith, common_steps)

pub rest : (R : Access → Access → Type 0) (a : List Access) (x : Access) (b : List Access) → Pairs R (a ++ x ∷ b) → AllByRecursion (R x) b
unfolding Pairs
rest R a x b h = (pairs_back R a (x ∷ b) h).0

pub remove_parts : (a : List Access) (x : Access) (b : List Access) (i : ℕ) → length a ≡ i → remove (a ++ x ∷ b) i ≡ a ++ b
remove_parts a x b i e = ap₂ (λ p q. p ++ q) (take_at a (x ∷ b) i e) (drop_next a x b i e)

-- the access of the run is taken out
pub without_remove : (r i : ℕ) (xs : List Access) (d : Access) → IsDisciplined xs → position (is_of r) xs ≡ Some i → remove xs i ≡ accesses_without r xs
without_remove r i xs d k h =
    let c = cut_at r i xs d h in
    let behind : AllByRecursion (AreOfTwoRuns c.access) c.rest = rest AreOfTwoRuns c.front c.access c.rest (pairs_from_all AreOfTwoRuns (c.front ++ c.access ∷ c.rest) (subst (AllPairs AreOfTwoRuns) c.list k.one_each)) in
    ap (λ l. remove l i) c.list
    ∙ remove_parts c.front c.access c.rest i c.size
    ∙ sym (without_at r c.front c.access c.rest c.none (none_behind r c.access c.rest c.own behind) c.own)
    ∙ sym (ap (accesses_without r) c.list)

-- the run has a place exactly where it has an access
placed : (r : ℕ) (xs : List Access) → nat_lt (position_or_len (is_of r) xs) (length xs) ≡ has_access r xs
placed r [] = refl
placed r (x ∷ xs) = grind (arith, common_steps, placed r xs)

place_of : (b : Bool) (i : ℕ) → b ≡ is_some (if b then Some i else None)
place_of true i = refl
place_of false i = refl

pub has_place : (r : ℕ) (xs : List Access) → has_access r xs ≡ is_some (position (is_of r) xs)
has_place r xs = sym (placed r xs) ∙ place_of (nat_lt (position_or_len (is_of r) xs) (length xs)) (position_or_len (is_of r) xs)

pub before_none : (r : ℕ) (xs : List Access) → position (is_of r) xs ≡ None → xs ≡ accesses_before r xs
before_none r xs h = sym (all_before r xs (has_place r xs ∙ ap is_some h))

-- Discipline

-- the discipline where an access is changed
kept_at : (a : List Access) (x y : Access) (b : List Access) → y.run.0 ≡ x.run.0
    → AllByRecursion (λ u. AreInTurn u x → AreInTurn u y) a → AllByRecursion (λ v. AreInTurn x v → AreInTurn y v) b → IsDisciplined (a ++ x ∷ b) → IsDisciplined (a ++ y ∷ b)
kept_at a x y b same front back k = record {
  in_turn = all_from_pairs AreInTurn (a ++ y ∷ b) (pairs_changed AreInTurn a x y b front back (pairs_from_all AreInTurn (a ++ x ∷ b) k.in_turn));
  one_each = all_from_pairs AreOfTwoRuns (a ++ y ∷ b) (
      pairs_changed AreOfTwoRuns a x y b
      (every_so (λ u. AreOfTwoRuns u x → AreOfTwoRuns u y) a (λ u. before x y u same))
      (every_so (λ v. AreOfTwoRuns x v → AreOfTwoRuns y v) b (λ v. after x y v same))
      (pairs_from_all AreOfTwoRuns (a ++ x ∷ b) k.one_each)
      );
}
  where
    before : (x y u : Access) → y.run.0 ≡ x.run.0 → AreOfTwoRuns u x → AreOfTwoRuns u y
    before x y u e h = grind (arith, common_steps)

    after : (x y v : Access) → y.run.0 ≡ x.run.0 → AreOfTwoRuns x v → AreOfTwoRuns y v
    after x y v e h = grind (arith, common_steps)

only : (s : Status) → is_scheduled s ≡ true → s ≡ Scheduled
only Released h = absurd (cc)
only Acquired h = absurd (cc)
only Scheduled h = refl

released_if : (s : Status) → is_acquired s ≡ false → is_scheduled s ≡ false → is_released s ≡ true
released_if Released a b = refl
released_if Acquired a b = absurd (cc)
released_if Scheduled a b = absurd (cc)

in_front : (u x y : Access) → is_acquired u.status ≡ false → is_scheduled u.status ≡ false → AreInTurn u x → AreInTurn u y
in_front u x y a b h = let r = released_if u.status a b in grind (arith, common_steps)

behind_scheduled : (x v : Access) → x.status ≡ Scheduled → AreInTurn x v → is_scheduled v.status ≡ true
behind_scheduled x v e h = grind (arith, common_steps)

-- none of the first ones is acquired
quiet : (a b : List Access) → some_acquired (a ++ b) ≡ false → some_acquired a ≡ false
quiet [] b n = refl
quiet (x ∷ a) b n = grind (arith, common_steps, quiet a b)

-- what stands behind released ones may change
behind_released : (x y : Access) (a : List Access) → some_acquired a ≡ false → some_scheduled a ≡ false → AllByRecursion (λ u. AreInTurn u x → AreInTurn u y) a
behind_released x y [] n f = tt
behind_released x y (u ∷ a) n f =
    let p = or_parts (is_acquired u.status) (some_acquired a) n in
    let q = or_parts (is_scheduled u.status) (some_scheduled a) f in
    (in_front u x y p.0 q.0, behind_released x y a p.1 q.1)

-- the run touches the device: none before it is acquired or scheduled
pub acquire_keeps : (xs : List Access) (r i : ℕ) (x : Access) (v : View) → IsDisciplined xs → position (is_of r) xs ≡ Some i → x ≡ get_or xs i x
    → status_of r xs ≡ Some Scheduled → some_acquired xs ≡ false → some_scheduled (accesses_before r xs) ≡ false → IsDisciplined (slice_set xs i (record x { status = Acquired; view = Some v }))
acquire_keeps xs r i x v k h is s n f =
    let c = cut_at r i xs x h in
    let here : x ≡ c.access = is ∙ ap (λ l. get_or l i x) c.list ∙ get_or_at c.front c.access c.rest x i c.size in
    let status : c.access.status ≡ Scheduled = status_there r c.access (sym (ap (option_map (λ x. x.status)) (ap (access_of r) c.list ∙ access_at r c.front c.access c.rest c.none c.own)) ∙ s) in
    let y : Access = record c.access { status = Acquired; view = Some v } in
    subst IsDisciplined
    (sym (ap (λ z. set xs i (record z { status = Acquired; view = Some v })) here ∙ ap (λ l. set l i y) c.list ∙ set_at c.front c.access c.rest y i c.size))
    (
    kept_at c.front c.access y c.rest refl
    (behind_released c.access y c.front (quiet c.front (c.access ∷ c.rest) (ap some_acquired (sym c.list) ∙ n)) (ap some_scheduled (sym (ap (accesses_before r) c.list ∙ before_at r c.front c.access c.rest c.none c.own)) ∙ f))
    (every_so (λ z. AreInTurn c.access z → AreInTurn y z) c.rest (λ z. back c.access z y status))
    (subst IsDisciplined c.list k)
    )
  where
    back : (x z y : Access) → x.status ≡ Scheduled → AreInTurn x z → AreInTurn y z
    back x z y e t = grind (arith, common_steps)

-- the run is done with the device
pub release_keeps : (xs : List Access) (r i : ℕ) (x : Access) → IsDisciplined xs → position (is_of r) xs ≡ Some i → x ≡ get_or xs i x
    → status_of r xs ≡ Some Acquired → IsDisciplined (slice_set xs i (record x { status = Released }))
release_keeps xs r i x k h is s =
    let c = cut_at r i xs x h in
    let here : x ≡ c.access = is ∙ ap (λ l. get_or l i x) c.list ∙ get_or_at c.front c.access c.rest x i c.size in
    let status : c.access.status ≡ Acquired = status_there r c.access (sym (ap (option_map (λ x. x.status)) (ap (access_of r) c.list ∙ access_at r c.front c.access c.rest c.none c.own)) ∙ s) in
    let y : Access = record c.access { status = Released } in
    subst IsDisciplined
    (sym (ap (λ z. set xs i (record z { status = Released })) here ∙ ap (λ l. set l i y) c.list ∙ set_at c.front c.access c.rest y i c.size))
    (
    kept_at c.front c.access y c.rest refl
    (every_so (λ u. AreInTurn u c.access → AreInTurn u y) c.front (λ u. front u c.access y status))
    (every_so (λ v. AreInTurn c.access v → AreInTurn y v) c.rest (λ v. back c.access y v refl))
    (subst IsDisciplined c.list k)
    )
  where
    front : (u x y : Access) → x.status ≡ Acquired → AreInTurn u x → AreInTurn u y
    front u x y e h = grind (arith, common_steps)

    back : (x y v : Access) → y.status ≡ Released → AreInTurn x v → AreInTurn y v
    back x y v e h = grind (arith, common_steps)

-- the run notes an answer, where none before it is scheduled
pub answer_keeps : (xs : List Access) (r i : ℕ) (x y : Access) → IsDisciplined xs → position (is_of r) xs ≡ Some i → x ≡ get_or xs i x → MayAnswer r xs → some_scheduled (accesses_before r xs) ≡ false → y.run.0 ≡ x.run.0 → IsDisciplined (slice_set xs i y)
answer_keeps xs r i x y k h is may f same =
    let turn = in_its_turn may in
    subst IsDisciplined
    (sym (ap (λ l. set l i y) c.list ∙ set_at c.front c.access c.rest y i c.size))
    (
    kept_at c.front c.access y c.rest (same ∙ ap (λ (z : Access). z.run.0) here)
    (behind_released c.access y c.front turn.1 (ap some_scheduled (sym (ap (accesses_before r) c.list ∙ before_at r c.front c.access c.rest c.none c.own)) ∙ f))
    (every_so (λ z. AreInTurn c.access z → AreInTurn y z) c.rest (λ z. back c.access z y turn.0))
    old
    )
  where
    c : Cut r i xs
    c = cut_at r i xs x h

    old : IsDisciplined (c.front ++ c.access ∷ c.rest)
    old = subst IsDisciplined c.list k

    here : x ≡ c.access
    here = is ∙ ap (λ l. get_or l i x) c.list ∙ get_or_at c.front c.access c.rest x i c.size

    status : (s : Status) → status_of r xs ≡ Some s → c.access.status ≡ s
    status s e = status_there r c.access (sym (ap (option_map (λ x. x.status)) (ap (access_of r) c.list ∙ access_at r c.front c.access c.rest c.none c.own)) ∙ e)

    back : (x z y : Access) → is_released x.status ≡ false → AreInTurn x z → AreInTurn y z
    back x z y e t = grind (arith, common_steps)

    only_released : (x : Access) (a : List Access) → x.status ≡ Acquired → AllByRecursion (λ u. AreInTurn u x) a → some_acquired a ≡ false
    only_released x [] e h = refl
    only_released x (u ∷ a) e h = or_from (is_acquired u.status) (some_acquired a) (at u.status refl) (only_released x a e h.1)
      where
        at : (s : Status) → u.status ≡ s → is_acquired s ≡ false
        at Released q = refl
        at Acquired q = let t : IsTrue (is_released u.status || is_scheduled x.status) = h.0 in absurd (grind (arith, common_steps))
        at Scheduled q = refl

    in_its_turn : MayAnswer r xs → (is_released c.access.status ≡ false) × (some_acquired c.front ≡ false)
    in_its_turn (inl e) = (ap is_released (status Acquired e), only_released c.access c.front (status Acquired e) (pairs_front AreInTurn c.front c.access c.rest (pairs_from_all AreInTurn (c.front ++ c.access ∷ c.rest) old.in_turn)))
    in_its_turn (inr p) = (ap is_released (status Scheduled p.0), quiet c.front (c.access ∷ c.rest) (ap some_acquired (sym c.list) ∙ p.1))

-- the test of the code
pub tests_scheduled : (s : Status) → eq-value.it s Scheduled ≡ is_scheduled s
tests_scheduled Released = refl
tests_scheduled Acquired = refl
tests_scheduled Scheduled = refl

-- the accesses up to here, where this one, which stands there and is not scheduled, is in turn with each
none_scheduled : (xs : List Access) (d z : Access) (n : ℕ) → n ≤ length xs → ((j : ℕ) → j < n → AreInTurn (get_or xs j d) z) → is_scheduled z.status ≡ false → some_scheduled (take n xs) ≡ false
none_scheduled xs d z zero within turns e = refl
none_scheduled [] d z (suc n) within turns e = absurd (omega (arith, within))
none_scheduled (x ∷ xs) d z (suc n) within turns e = or_from (is_scheduled x.status) (some_scheduled (take n xs)) (one x z (turns 0 (omega arith)) e) (none_scheduled xs d z n (omega (arith, within)) (λ j q. turns (suc j) (omega (arith, q))) e)
  where
    one : (x z : Access) → AreInTurn x z → is_scheduled z.status ≡ false → is_scheduled x.status ≡ false
    one x z t e = at x.status refl
      where
        at : (s : Status) → x.status ≡ s → is_scheduled s ≡ false
        at Released f = refl
        at Acquired f = refl
        at Scheduled f = absurd (grind (arith, common_steps))

-- whether a scheduled access is among those before a place is told by the last of them
pub last_tells : (xs : List Access) (i : ℕ) (d : Access) → IsDisciplined xs → i < length xs → some_scheduled (take (i + 1) xs) ≡ is_scheduled (get_or xs i d).status
last_tells xs i d k within =
    ap some_scheduled (take_more xs i d within) ∙ list_any-append (λ (x : Access). is_scheduled x.status) (take i xs) (get_or xs i d ∷ [])
    ∙ at (is_scheduled (get_or xs i d).status) refl
  where
    at : (b : Bool) → is_scheduled (get_or xs i d).status ≡ b → (some_scheduled (take i xs) || (b || false)) ≡ b
    at true e = or_right (some_scheduled (take i xs)) true refl
    at false e = ap (λ b. b || false) (none_scheduled xs d (get_or xs i d) i (omega (arith, within)) (λ j q. k.in_turn j i d q within) e)

-- the discipline where an access is put in
put_keeps : (a : List Access) (y : Access) (b : List Access) → y.status ≡ Scheduled → has_access y.run.0 a ≡ false → has_access y.run.0 b ≡ false → AllByRecursion (λ v. v.status ≡ Scheduled) b
    → IsDisciplined (a ++ b) → IsDisciplined (a ++ y ∷ b)
put_keeps a y b s m n q k = record {
  in_turn = all_from_pairs AreInTurn (a ++ y ∷ b) (pairs_put AreInTurn a y b (every_so (λ u. AreInTurn u y) a (λ u. turn u y s)) (turns y b q) (pairs_from_all AreInTurn (a ++ b) k.in_turn));
  one_each = all_from_pairs AreOfTwoRuns (a ++ y ∷ b) (pairs_put AreOfTwoRuns a y b (ones a m) (others b n) (pairs_from_all AreOfTwoRuns (a ++ b) k.one_each));
}
  where
    turn : (u y : Access) → y.status ≡ Scheduled → AreInTurn u y
    turn u y s = grind (arith, common_steps)

    turns : (y : Access) (b : List Access) → AllByRecursion (λ v. v.status ≡ Scheduled) b → AllByRecursion (AreInTurn y) b
    turns y [] q = tt
    turns y (v ∷ b) q = (turn y v q.0, turns y b q.1)

    two : (u y : Access) → is_of y.run.0 u ≡ false → AreOfTwoRuns u y
    two u y e = grind (arith, common_steps)

    two_others : (y v : Access) → is_of y.run.0 v ≡ false → AreOfTwoRuns y v
    two_others y v e = grind (arith, common_steps)

    ones : (a : List Access) → has_access y.run.0 a ≡ false → AllByRecursion (λ u. AreOfTwoRuns u y) a
    ones [] m = tt
    ones (u ∷ a) m = let p = or_parts (is_of y.run.0 u) (has_access y.run.0 a) m in (two u y p.0, ones a p.1)

    others : (b : List Access) → has_access y.run.0 b ≡ false → AllByRecursion (AreOfTwoRuns y) b
    others [] m = tt
    others (v ∷ b) m = let p = or_parts (is_of y.run.0 v) (has_access y.run.0 b) m in (two_others y v p.0, others b p.1)

-- an access is scheduled before that of a run, which is scheduled
pub schedule_keeps : (xs : List Access) (q i : ℕ) (y d : Access) → IsDisciplined xs → position (is_of q) xs ≡ Some i → status_of q xs ≡ Some Scheduled
    → y.status ≡ Scheduled → has_access y.run.0 xs ≡ false → IsDisciplined (insert xs i y)
schedule_keeps xs q i y d k h s t n =
    let c = cut_at q i xs d h in
    let status : c.access.status ≡ Scheduled = status_there q c.access (sym (ap (option_map (λ x. x.status)) (ap (access_of q) c.list ∙ access_at q c.front c.access c.rest c.none c.own)) ∙ s) in
    let parts = apart y.run.0 c.front (c.access ∷ c.rest) (ap (has_access y.run.0) (sym c.list) ∙ n) in
    let old : IsDisciplined (c.front ++ c.access ∷ c.rest) = subst IsDisciplined c.list k in
    let later : AllByRecursion (AreInTurn c.access) c.rest = rest AreInTurn c.front c.access c.rest (pairs_from_all AreInTurn (c.front ++ c.access ∷ c.rest) old.in_turn) in
    subst IsDisciplined
    (sym (ap (λ l. insert l i y) c.list ∙ insert_parts c.front (c.access ∷ c.rest) y i c.size))
    (put_keeps c.front y (c.access ∷ c.rest) t parts.0 parts.1 (status, all_scheduled c.access c.rest status later) old)
  where
    apart : (r : ℕ) (a b : List Access) → has_access r (a ++ b) ≡ false → (has_access r a ≡ false) × (has_access r b ≡ false)
    apart r [] b n = (refl, n)
    apart r (x ∷ a) b n = let p = or_parts (is_of r x) (has_access r (a ++ b)) n in let f = apart r a b p.1 in (or_from (is_of r x) (has_access r a) p.0 f.0, f.1)

    one : (x v : Access) → x.status ≡ Scheduled → AreInTurn x v → v.status ≡ Scheduled
    one x v e h = only v.status (behind_scheduled x v e h)

    all_scheduled : (x : Access) (b : List Access) → x.status ≡ Scheduled → AllByRecursion (AreInTurn x) b → AllByRecursion (λ v. v.status ≡ Scheduled) b
    all_scheduled x [] e h = tt
    all_scheduled x (v ∷ b) e h = (one x v e h.0, all_scheduled x b e h.1)

-- .. or last
schedule_last_keeps : (xs : List Access) (y : Access) → IsDisciplined xs → y.status ≡ Scheduled → has_access y.run.0 xs ≡ false → IsDisciplined (xs ++ y ∷ [])
schedule_last_keeps xs y k t n = (put_keeps xs y [] t n refl tt (subst IsDisciplined (sym (append-nil xs)) k))

pub schedule_put_keeps : (xs : List Access) (before : Option RunNo) (y : Access) → IsDisciplined xs → ForSome before (λ r. status_of r.0 xs ≡ Some Scheduled)
    → y.status ≡ Scheduled → has_access y.run.0 xs ≡ false → IsDisciplined (put_access_before before y xs)
schedule_put_keeps xs None y k s t n = schedule_last_keeps xs y k t n
schedule_put_keeps xs (Some r) y k s t n = at (position (is_of r.0) xs) refl
  where
    at : (o : Option ℕ) → position (is_of r.0) xs ≡ o → IsDisciplined (put_before_run r.0 y xs)
    at None e = absurd (both_ways (has_access r.0 xs) (has_place r.0 xs ∙ ap is_some e) (found_by_status r.0 xs Scheduled (s r refl)))
    at (Some i) e = subst IsDisciplined (put_insert r.0 i xs y y e) (schedule_keeps xs r.0 i y y k e (s r refl) t n)

-- what a run wrote is written over, or undone
pub write_keeps : (xs : List Access) (r i : ℕ) (x : Access) (o : Option ℕ) → IsDisciplined xs → position (is_of r) xs ≡ Some i → x ≡ get_or xs i x → IsDisciplined (slice_set xs i (record x { wrote = o }))
write_keeps xs r i x o k h is =
    let c = cut_at r i xs x h in
    let here : x ≡ c.access = is ∙ ap (λ l. get_or l i x) c.list ∙ get_or_at c.front c.access c.rest x i c.size in
    let y : Access = record c.access { wrote = o } in
    subst IsDisciplined
    (sym (ap (λ z. set xs i (record z { wrote = o })) here ∙ ap (λ l. set l i y) c.list ∙ set_at c.front c.access c.rest y i c.size))
    (
    kept_at c.front c.access y c.rest refl
    (every_so (λ u. AreInTurn u c.access → AreInTurn u y) c.front (λ u h. h))
    (every_so (λ v. AreInTurn c.access v → AreInTurn y v) c.rest (λ v h. h))
    (subst IsDisciplined c.list k)
    )

-- the access of a run leaves
pub without_keeps : (xs : List Access) (r : ℕ) → IsDisciplined xs → IsDisciplined (accesses_without r xs)
without_keeps xs r k = record { in_turn = AllPairs-filter AreInTurn (λ x. not (is_of r x)) xs k.in_turn; one_each = AllPairs-filter AreOfTwoRuns (λ x. not (is_of r x)) xs k.one_each }

-- the first ones leave
pub drop_keeps : (xs : List Access) (n : ℕ) → IsDisciplined xs → IsDisciplined (drop n xs)
drop_keeps xs n k = record { in_turn = dropped AreInTurn xs n k.in_turn; one_each = dropped AreOfTwoRuns xs n k.one_each }
  where
    dropped : (R : Access → Access → Type 0) (xs : List Access) (n : ℕ) → AllPairs R xs → AllPairs R (drop n xs)
    dropped R xs n k = all_from_pairs R (drop n xs) (pairs_back R (take n xs) (drop n xs) (subst (Pairs R) (sym (take-append-drop n xs)) (pairs_from_all R xs k)))

-- The state that each call leaves

with_accesses : LineageState → List Access → ℕ → LineageState
with_accesses s l room = record s { accesses = l; room = room }

with_all : LineageState → ℕ → List Access → ℕ → LineageState
with_all s v l room = record s { committed = v; accesses = l; room = room }

-- the accesses with one changed in its place
pub changed_items : (s now : LineageState) (r i : ℕ) (x : Access) (f : Access → Access) → s ≡ now → position (is_of r) now.accesses ≡ Some i → x ≡ get_or s.accesses i x → slice_set s.accesses i (f x) ≡ with_change r f s.accesses
changed_items s now r i x f e h is = ap (λ z. slice_set s.accesses i (f z)) is ∙ change_set r i s.accesses x f (ap (λ (t : LineageState). position (is_of r) t.accesses) e ∙ h)

pub changed_state : (s now : LineageState) (r i : ℕ) (x : Access) (f : Access → Access) → s ≡ now → position (is_of r) now.accesses ≡ Some i → x ≡ get_or s.accesses i x
    → record s { accesses = slice_set s.accesses i (f x) } ≡ record now { accesses = with_change r f now.accesses }
unfolding with_accesses
changed_state s now r i x f e h is =
    ap (λ (l : List Access). with_accesses s l s.room) (changed_items s now r i x f e h is)
    ∙ ap (λ (t : LineageState). with_accesses t (with_change r f t.accesses) t.room) e

change_none : (r : ℕ) (f : Access → Access) (xs : List Access) → has_access r xs ≡ false → with_change r f xs ≡ xs
change_none r f [] h = refl
change_none r f (x ∷ xs) h = grind (arith, common_steps, change_none r f xs)

-- where the run has no access nothing changes
pub nothing_changed : (s : LineageState) (r : ℕ) (f : Access → Access) → position (is_of r) s.accesses ≡ None → s ≡ record s { accesses = with_change r f s.accesses }
unfolding with_accesses
nothing_changed s r f h = ap (λ (l : List Access). with_accesses s l s.room) (sym (change_none r f s.accesses (has_place r s.accesses ∙ ap is_some h)))

left_state : (s : LineageState) (items l : List Access) (m n : ℕ) → items ≡ l → m ≡ n → with_accesses s items m ≡ with_accesses s l n
left_state s items l m n e left = ap₂ (with_accesses s) e left

pub scheduled_state : (s now : LineageState) (before : Option RunNo) (m : ℕ) (y : Access) (items : List Access) → s ≡ now → items ≡ put_access_before before y s.accesses → m ≡ s.room - 1
    → record s { accesses = items; room = m } ≡ scheduled before y now
unfolding with_accesses
scheduled_state s now before m y items e is left = left_state s items (put_access_before before y s.accesses) m (s.room - 1) is left ∙ ap (scheduled before y) e

pub nothing_removed : (s : LineageState) (r : ℕ) → position (is_of r) s.accesses ≡ None → s ≡ removed r s
unfolding with_accesses
nothing_removed s r h = left_state s s.accesses (accesses_without r s.accesses) s.room (s.room + (length s.accesses - length (accesses_without r s.accesses))) (sym stays) (rw stays (omega arith))
  where
    stays : accesses_without r s.accesses ≡ s.accesses
    stays = without_none r s.accesses (has_place r s.accesses ∙ ap is_some h)

pub removed_state : (s now : LineageState) (r i m : ℕ) (x : Access) (items : List Access) → s ≡ now → IsDisciplined s.accesses → position (is_of r) now.accesses ≡ Some i
    → items ≡ remove s.accesses i → m ≡ s.room + 1 → record s { accesses = items; room = m } ≡ removed r now
unfolding with_accesses
removed_state s now r i m x items e k h is more =
    let place : position (is_of r) s.accesses ≡ Some i = ap (λ (t : LineageState). position (is_of r) t.accesses) e ∙ h in
    let gone : items ≡ accesses_without r s.accesses = is ∙ without_remove r i s.accesses x k place in
    let size : length (accesses_without r s.accesses) + 1 ≡ length s.accesses = rw (← gone, is) (length-remove s.accesses i (position-Some (is_of r) s.accesses i x place).0) in
    left_state s items (accesses_without r s.accesses) m (s.room + (length s.accesses - length (accesses_without r s.accesses))) gone (omega (arith, more, size))
    ∙ ap (removed r) e

pub settled_state : (s now : LineageState) (r i m v : ℕ) (x : Access) (items : List Access) → s ≡ now → position (is_of r) now.accesses ≡ Some i → x ≡ get_or s.accesses i x → x.wrote ≡ Some v
    → items ≡ drop (i + 1) s.accesses → m ≡ s.room + (length s.accesses - length items) → record s { committed = v; accesses = items; room = m } ≡ settled r now
unfolding with_all
settled_state s now r i m v x items e h there wrote is more =
    let place : position (is_of r) s.accesses ≡ Some i = ap (λ (t : LineageState). position (is_of r) t.accesses) e ∙ h in
    let left : items ≡ accesses_behind r s.accesses = is ∙ behind_drop r i s.accesses x place in
    let value : v ≡ unwrap_or (written_by r s.accesses) s.committed = sym (ap (λ o. unwrap_or (option_and_then (λ (a : Access). a.wrote) o) s.committed)
    (access_there r i s.accesses x place) ∙ ap (λ (z : Access). unwrap_or z.wrote s.committed) (sym there) ∙ ap (λ o. unwrap_or o s.committed) wrote) in
    ap (λ w. with_all s w items m) value
    ∙ ap₂ (with_all s (unwrap_or (written_by r s.accesses) s.committed)) left (more ∙ ap (λ (l : List Access). s.room + (length s.accesses - length l)) left)
    ∙ ap (settled r) e

pub place_found : (r : ℕ) (xs : List Access) (o : Option ℕ) → o ≡ position (is_of r) xs → IsTrue (has_access r xs) → IsSome o
place_found r xs None e h = absurd (none (has_access r xs) (has_place r xs ∙ ap is_some (sym e)) h)
  where
    none : (b : Bool) → b ≡ false → IsTrue b → ⊥
    none b e t = grind (arith, common_steps)
place_found r xs (Some i) e h = search rules

-- What is read at a place

none_of : (r : ℕ) (xs : List Access) → has_access r xs ≡ false → access_of r xs ≡ None
none_of r [] h = refl
none_of r (x ∷ xs) h = grind (arith, common_steps, none_of r xs)

pub no_access : (r : ℕ) (xs : List Access) → position (is_of r) xs ≡ None → access_of r xs ≡ None
no_access r xs h = none_of r xs (has_place r xs ∙ ap is_some h)

pub read_there : (s now : LineageState) (r i : ℕ) (x : Access) → s ≡ now → position (is_of r) now.accesses ≡ Some i → x ≡ get_or s.accesses i x → Some x ≡ access_of r now.accesses
read_there s now r i x e h is = ap (λ (z : Access). Some z) is ∙ sym (access_there r i s.accesses x (ap (λ (t : LineageState). position (is_of r) t.accesses) e ∙ h)) ∙ ap (λ (t : LineageState). access_of r t.accesses) e

pub wrote_there : (s now : LineageState) (r i : ℕ) (x : Access) → s ≡ now → position (is_of r) now.accesses ≡ Some i → x ≡ get_or s.accesses i x → IsSome (written_by r now.accesses) → IsSome x.wrote
wrote_there s now r i x e h is w = subst IsSome (ap (option_and_then (λ (a : Access). a.wrote)) (sym (read_there s now r i x e h is))) w

-- the access behind that of the run stands in the next place

none_next : (r : ℕ) (xs : List Access) → has_access r xs ≡ false → accesses_behind r xs ≡ []
none_next r [] h = refl
none_next r (x ∷ xs) h = grind (arith, common_steps, none_next r xs)

next_at : (a : List Access) (x : Access) (b : List Access) (i : ℕ) → length a ≡ i → slice_get (a ++ x ∷ b) (i + 1) ≡ slice_get b 0
next_at a x b i e = ap (slice_get (a ++ x ∷ b)) place ∙ by_front a
  where
    place : i + 1 ≡ suc (length a)
    place = omega (arith, e)

    by_front : (a : List Access) → slice_get (a ++ x ∷ b) (suc (length a)) ≡ slice_get b 0
    by_front [] = refl
    by_front (y ∷ a) = by_front a

next_there : (r i : ℕ) (xs : List Access) → position (is_of r) xs ≡ Some i → slice_get (accesses_behind r xs) 0 ≡ slice_get xs (i + 1)
next_there r i xs h =
    let c = cut_at r i xs any_access h in
    ap (λ l. slice_get (accesses_behind r l) 0) c.list
    ∙ ap (λ l. slice_get l 0) (behind_at r c.front c.access c.rest c.none c.own)
    ∙ sym (ap (λ l. slice_get l (i + 1)) c.list ∙ next_at c.front c.access c.rest i c.size)

pub no_run_behind : (r : ℕ) (xs : List Access) → position (is_of r) xs ≡ None → None ≡ run_behind r xs
no_run_behind r xs h = ap (λ l. option_map (λ (x : Access). x.run) (slice_get l 0)) (sym (none_next r xs (has_place r xs ∙ ap is_some h)))

pub last_there : (s now : LineageState) (r i : ℕ) (seen : List Access) → s ≡ now → seen ≡ s.accesses → position (is_of r) now.accesses ≡ Some i → length seen ≤ i + 1 → None ≡ run_behind r now.accesses
last_there s now r i seen e is h past =
    ap (option_map (λ (x : Access). x.run)) (sym (next_there r i now.accesses h ∙ ap (λ l. slice_get l (i + 1)) (sym (is ∙ ap (λ (t : LineageState). t.accesses) e)) ∙ slice_get_past seen (i + 1) past))

pub behind_there : (s now : LineageState) (r i : ℕ) (seen : List Access) (x : Access) → s ≡ now → seen ≡ s.accesses → position (is_of r) now.accesses ≡ Some i → i + 1 < length seen → x ≡ get_or seen (i + 1) x → Some x.run ≡ run_behind r now.accesses
behind_there s now r i seen x e is h within at =
    ap (option_map (λ (y : Access). y.run)) (
    ap (λ (y : Access). Some y) at ∙ sym (next_there r i now.accesses h ∙ ap (λ l. slice_get l (i + 1)) (sym (is ∙ ap (λ (t : LineageState). t.accesses) e)) ∙ slice_get-get_or seen (i + 1) x within)
    )

-- The discipline of the fields

pub acquires : (s now : LineageState) (r i : ℕ) (x : Access) (v : View) → s ≡ now → IsDisciplined s.accesses → position (is_of r) now.accesses ≡ Some i → x ≡ get_or s.accesses i x
    → status_of r now.accesses ≡ Some Scheduled → some_acquired now.accesses ≡ false → some_scheduled (accesses_before r now.accesses) ≡ false
    → IsDisciplined (slice_set s.accesses i (record x { status = Acquired; view = Some v }))
acquires s now r i x v e k h is st n f =
    acquire_keeps s.accesses r i x v k (at (λ l. position (is_of r) l) ∙ h) is (at (status_of r) ∙ st) (at some_acquired ∙ n) (at (λ l. some_scheduled (accesses_before r l)) ∙ f)
  where
    at : {B : Type 0} (g : List Access → B) → g s.accesses ≡ g now.accesses
    at g = ap (λ (t : LineageState). g t.accesses) e

pub releases : (s now : LineageState) (r i : ℕ) (x : Access) → s ≡ now → IsDisciplined s.accesses → position (is_of r) now.accesses ≡ Some i → x ≡ get_or s.accesses i x
    → status_of r now.accesses ≡ Some Acquired → IsDisciplined (slice_set s.accesses i (record x { status = Released }))
releases s now r i x e k h is st = release_keeps s.accesses r i x k (ap (λ (t : LineageState). position (is_of r) t.accesses) e ∙ h) is (ap (λ (t : LineageState). status_of r t.accesses) e ∙ st)

pub schedules : (s now : LineageState) (before : Option RunNo) (y : Access) (items : List Access) → s ≡ now → IsDisciplined s.accesses
    → ForSome before (λ r. status_of r.0 now.accesses ≡ Some Scheduled) → y.status ≡ Scheduled → has_access y.run.0 now.accesses ≡ false → items ≡ put_access_before before y s.accesses → IsDisciplined items
schedules s now before y items e k st t n is =
    subst IsDisciplined (sym is) (schedule_put_keeps s.accesses before y k (λ r q. ap (λ (u : LineageState). status_of r.0 u.accesses) e ∙ st r q) t (ap (λ (u : LineageState). has_access y.run.0 u.accesses) e ∙ n))

pub writes : (s now : LineageState) (r i : ℕ) (x : Access) (o : Option ℕ) → s ≡ now → IsDisciplined s.accesses → position (is_of r) now.accesses ≡ Some i → x ≡ get_or s.accesses i x → IsDisciplined (slice_set s.accesses i (record x { wrote = o }))
writes s now r i x o e k h is = write_keeps s.accesses r i x o k (ap (λ (t : LineageState). position (is_of r) t.accesses) e ∙ h) is

pub answers : (s now : LineageState) (r i : ℕ) (x y : Access) → s ≡ now → IsDisciplined s.accesses → position (is_of r) now.accesses ≡ Some i → x ≡ get_or s.accesses i x → MayAnswer r now.accesses → some_scheduled (accesses_before r now.accesses) ≡ false → y.run.0 ≡ x.run.0
    → IsDisciplined (slice_set s.accesses i y)
answers s now r i x y e k h is may f same =
    answer_keeps s.accesses r i x y k (ap (λ (t : LineageState). position (is_of r) t.accesses) e ∙ h) is (subst (λ (t : LineageState). MayAnswer r t.accesses) (sym e) may) (ap (λ (t : LineageState). some_scheduled (accesses_before r t.accesses)) e ∙ f) same
