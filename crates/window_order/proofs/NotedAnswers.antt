-- How the calls of a lineage table that note an answer are one change.
use Rattle.window_order.proofs.Prelude.{Access, Acquired, AllByRecursion, AreInTurn, Bool, IsDisciplined, IsFirst, IsTrue, IsWaiting, LineageState, List, None, Option, Released, Scheduled, Some, Status, View, [], access_of, accesses_at, accesses_before, acquired, acquired_if, answer_noted, ap, arith, both_ways, common_steps, false, find, get_or-set_same, if◌then◌else◌, is_of, is_released, is_scheduled, length, length-set, lineage_at, no_lineage, not, option_map, or_from, pairs_from_all, passed, refl, released_if, set-get_or, slice_set, some_scheduled, status_of, subst, sym, true, with_change, with_lineage, written_if, ℕ, ◌<◌, ◌||◌, ◌∙◌, ◌∷◌, ◌≡◌}
use Rattle.window_order.specs.OrderStates.{MayNote, is_first, noted_first}
use Rattle.lineage_table.proofs.Cited.{Pairs}
use Rattle.lineage_table.specs.Answers.{answered_access, answered_if, lineage_answered}
use Rattle.std.proofs.lemmas.Option.{same_Some}
use Rattle.window_order.proofs.AnsweredTables.{acquire_access, release_access, with_none, with_twice, write_access}
use Rattle.window_order.proofs.PassedAccesses.{pass_none, passed_first, waits}
use Rattle.window_order.proofs.TableSteps.{with_both}

-- a change that leaves the lineage leaves the table
pub with_same : (table : List LineageState) (d : ℕ) → with_lineage table d (λ s. s) ≡ table
with_same table d = set-get_or table d no_lineage

pub lineage_set : (table : List LineageState) (d : ℕ) (f : LineageState → LineageState) → d < length table → lineage_at (with_lineage table d f) d ≡ f (lineage_at table d)
lineage_set table d f below = get_or-set_same table d (f (lineage_at table d)) no_lineage below

pub length_set : (table : List LineageState) (d : ℕ) (f : LineageState → LineageState) → length (with_lineage table d f) ≡ length table
length_set table d f = length-set table d (f (lineage_at table d))

-- the access that is changed so has this status
status_changed : (r : ℕ) (change : Access → Access) (after : Status) (before : Status) (xs : List Access) → ((x : Access) → (change x).run ≡ x.run) → ((x : Access) → x.status ≡ before → (change x).status ≡ after) → status_of r xs ≡ Some before → status_of r (with_change r change xs) ≡ Some after
status_changed r change after before [] own becomes h = absurd (cc)
status_changed r change after before (x ∷ xs) own becomes h = grind (arith, common_steps, own x, becomes x, status_changed r change after before xs own becomes)

pub acquired_now : (r : ℕ) (view : View) (s : LineageState) → status_of r s.accesses ≡ Some Scheduled → status_of r (acquired r view s).accesses ≡ Some Acquired
acquired_now r view s h = status_changed r (λ (x : Access). record x { status = Acquired; view = Some view }) Acquired Scheduled s.accesses (λ x. refl) (λ x e. refl) h

-- The steps of an answer are one change of the run's access

-- a change goes by the run's access alone
change_as : (r : ℕ) (f g : Access → Access) (xs : List Access) → ((x : Access) → access_of r xs ≡ Some x → f x ≡ g x) → with_change r f xs ≡ with_change r g xs
change_as r f g [] same = refl
change_as r f g (x ∷ xs) same = at (is_of r x) same (λ s. change_as r f g xs s)
  where
    at : (b : Bool) → ((y : Access) → (if b then Some x else access_of r xs) ≡ Some y → f y ≡ g y) → (((y : Access) → access_of r xs ≡ Some y → f y ≡ g y) → with_change r f xs ≡ with_change r g xs)
        → (if b then (f x ∷ xs) else (x ∷ with_change r f xs)) ≡ (if b then (g x ∷ xs) else (x ∷ with_change r g xs))
    at true same h = ap (λ y. y ∷ xs) (same x refl)
    at false same h = ap (λ l. x ∷ l) (h same)

with_accesses : LineageState → List Access → LineageState
with_accesses s l = record s { accesses = l }

module _ (r : ℕ) (first : Bool) (view : View) (wrote : Option ℕ) (last : Bool) where
  all_steps : Access → Access
  all_steps x = release_access last (write_access wrote (acquire_access first view x))

  noted_steps : (s : LineageState) → answer_noted r first view wrote last s ≡ with_accesses s (with_change r all_steps s.accesses)
  unfolding all_steps with_accesses
  noted_steps s =
      ap (λ t. released_if last r (written_if wrote r t)) (at_first first)
      ∙ ap (released_if last r) (at_wrote wrote (with_change r (acquire_access first view) s.accesses))
      ∙ at_last last (with_change r (write_access wrote) (with_change r (acquire_access first view) s.accesses))
      ∙ ap (λ l. with_accesses s (with_change r (release_access last) l)) (with_twice r (acquire_access first view) (write_access wrote) s.accesses (own_first first))
      ∙ ap (with_accesses s) (with_twice r (λ x. write_access wrote (acquire_access first view x)) (release_access last) s.accesses (λ x. own_wrote wrote (acquire_access first view x) ∙ own_first first x))
    where
      own_first : (b : Bool) (x : Access) → (acquire_access b view x).run ≡ x.run
      own_first true x = refl
      own_first false x = refl

      own_wrote : (o : Option ℕ) (x : Access) → (write_access o x).run ≡ x.run
      own_wrote None x = refl
      own_wrote (Some v) x = refl

      at_first : (b : Bool) → acquired_if b r view s ≡ with_accesses s (with_change r (acquire_access b view) s.accesses)
      at_first true = refl
      at_first false = ap (with_accesses s) (sym (with_none r s.accesses))

      at_wrote : (o : Option ℕ) (l : List Access) → written_if o r (with_accesses s l) ≡ with_accesses s (with_change r (write_access o) l)
      at_wrote None l = ap (with_accesses s) (sym (with_none r l))
      at_wrote (Some v) l = refl

      at_last : (b : Bool) (l : List Access) → released_if b r (with_accesses s l) ≡ with_accesses s (with_change r (release_access b) l)
      at_last true l = refl
      at_last false l = ap (with_accesses s) (sym (with_none r l))

  one_step : (x : Access) → x.status ≡ (if first then Scheduled else Acquired) → answered_access view wrote last x ≡ all_steps x
  unfolding all_steps
  one_step x e = at first wrote last e
    where
      seen : (s t : Status) (o : Option ℕ) → x.status ≡ t → record x { status = s; view = if is_scheduled x.status then Some view else x.view; wrote = o } ≡ record x { status = s; view = if is_scheduled t then Some view else x.view; wrote = o }
      seen s t o e = ap (λ u. record x { status = s; view = if is_scheduled u then Some view else x.view; wrote = o }) e

      at : (b : Bool) (o : Option ℕ) (l : Bool) → x.status ≡ (if b then Scheduled else Acquired) → answered_access view o l x ≡ release_access l (write_access o (acquire_access b view x))
      at true None true e = seen Released Scheduled x.wrote e
      at true (Some v) true e = seen Released Scheduled (Some v) e
      at true None false e = seen Acquired Scheduled x.wrote e
      at true (Some v) false e = seen Acquired Scheduled (Some v) e
      at false None true e = seen Released Acquired x.wrote e
      at false (Some v) true e = seen Released Acquired (Some v) e
      at false None false e = seen Acquired Acquired x.wrote e ∙ ap (λ t. record x { status = t }) (sym e)
      at false (Some v) false e = seen Acquired Acquired (Some v) e ∙ ap (λ t. record x { status = t; wrote = Some v }) (sym e)

  answered_noted : (s : LineageState) → status_of r s.accesses ≡ Some (if first then Scheduled else Acquired) → lineage_answered r view wrote last s ≡ answer_noted r first view wrote last s
  unfolding with_accesses
  answered_noted s e = ap (with_accesses s) (change_as r (answered_access view wrote last) all_steps s.accesses (λ x found. one_step x (same_Some x.status _ (sym (ap (option_map (λ (y : Access). y.status)) found) ∙ e)))) ∙ sym (noted_steps s)

-- The run that notes an answer

-- none is scheduled before a run that has acquired the device
none_before : (r : ℕ) (xs : List Access) → Pairs AreInTurn xs → status_of r xs ≡ Some Acquired → some_scheduled (accesses_before r xs) ≡ false
unfolding Pairs
none_before r [] turns h = absurd (cc)
none_before r (x ∷ xs) turns h = at (is_of r x) h (λ e. (in_turn xs turns.0 e, none_before r xs turns.1 e))
  where
    in_turn : (ys : List Access) → AllByRecursion (AreInTurn x) ys → status_of r ys ≡ Some Acquired → is_scheduled x.status ≡ false
    in_turn [] turn h = absurd (cc)
    in_turn (y ∷ ys) turn h = split (is_of r y) (λ e. in_turn ys turn.1 e) h
      where
        own : (s : Status) → x.status ≡ s → y.status ≡ Acquired → is_scheduled s ≡ false
        own Released e f = refl
        own Acquired e f = refl
        own Scheduled e f = let t : IsTrue (is_released x.status || is_scheduled y.status) = turn.0 in absurd (grind (arith, common_steps))

        split : (b : Bool) → (status_of r ys ≡ Some Acquired → is_scheduled x.status ≡ false) → option_map (λ (z : Access). z.status) (if b then Some y else access_of r ys) ≡ Some Acquired → is_scheduled x.status ≡ false
        split true f e = own x.status refl (same_Some y.status Acquired e)
        split false f e = f e

    at : (b : Bool) → option_map (λ (z : Access). z.status) (if b then Some x else access_of r xs) ≡ Some Acquired
        → (status_of r xs ≡ Some Acquired → (is_scheduled x.status ≡ false) × (some_scheduled (accesses_before r xs) ≡ false))
        → some_scheduled (if b then [] else (x ∷ accesses_before r xs)) ≡ false
    at true e f = refl
    at false e f = let p = f e in or_from (is_scheduled x.status) (some_scheduled (accesses_before r xs)) p.0 p.1

-- so it has its first answer there, where one is
waits_first : (r : ℕ) (s : LineageState) → IsDisciplined s.accesses → MayNote r s → some_scheduled (accesses_before r s.accesses) ≡ true → is_first r s ≡ true
waits_first r s disciplined may waits = at (is_first r s) refl
  where
    at : (b : Bool) → is_first r s ≡ b → is_first r s ≡ true
    at true e = e
    at false e = absurd (both_ways (some_scheduled (accesses_before r s.accesses)) (none_before r s.accesses (pairs_from_all AreInTurn s.accesses disciplined.in_turn) (may.status ∙ ap (λ b. Some (if b then Scheduled else Acquired)) e)) waits)

none_found : (xs : List Access) → some_scheduled xs ≡ false → find waits xs ≡ None
none_found [] h = refl
none_found (x ∷ xs) h = grind (arith, common_steps, none_found xs)

-- the answer is noted at once, where none waits before the run ..
noted_at_once : (r : ℕ) (view : View) (wrote : Option ℕ) (last : Bool) (s : LineageState) → MayNote r s → some_scheduled (accesses_before r s.accesses) ≡ false → lineage_answered r view wrote last s ≡ noted_first r (is_first r s) view wrote last s
noted_at_once r view wrote last s may none = answered_noted r (is_first r s) view wrote last s may.status ∙ at (is_first r s) refl
  where
    at : (b : Bool) → is_first r s ≡ b → answer_noted r b view wrote last s ≡ noted_first r b view wrote last s
    at true e = ap (answer_noted r true view wrote last) (sym (pass_none r s (may.first e) (none_found (accesses_before r s.accesses) none)).same)
    at false e = refl

-- .. else when those before it are passed
noted_behind : (r : ℕ) (view : View) (wrote : Option ℕ) (last : Bool) (s : LineageState) → MayNote r s → is_first r s ≡ true → lineage_answered r view wrote last (passed r s) ≡ noted_first r (is_first r s) view wrote last s
noted_behind r view wrote last s may first = answered_noted r true view wrote last (passed r s) (passed_first r s (may.first first)).scheduled ∙ ap (λ b. noted_first r b view wrote last s) (sym first)

not_false : (b : Bool) → false ≡ not b → b ≡ true
not_false true e = refl
not_false false e = absurd (cc)

not_true : (b : Bool) → true ≡ not b → b ≡ false
not_true true e = absurd (cc)
not_true false e = refl

module _ (r d : ℕ) (view : View) (wrote : Option ℕ) (last : Bool) (t : List LineageState) (below : d < length t) (may : MayNote r (lineage_at t d)) where
  -- the first call noted it
  pub noted_by_one : (x : List LineageState) → true ≡ not (some_scheduled (accesses_before r (accesses_at t d))) → x ≡ with_lineage t d (answered_if true r view wrote last) → x ≡ with_lineage t d (noted_first r (is_first r (lineage_at t d)) view wrote last)
  noted_by_one x turn is = is ∙ ap (slice_set t d) (noted_at_once r view wrote last (lineage_at t d) may (not_true (some_scheduled (accesses_before r (accesses_at t d))) turn))

  module _ (disciplined : IsDisciplined (accesses_at t d)) (u : List LineageState) (turn : false ≡ not (some_scheduled (accesses_before r (accesses_at t d)))) (left : u ≡ with_lineage t d (answered_if false r view wrote last)) where
    has_first : is_first r (lineage_at t d) ≡ true
    has_first = waits_first r (lineage_at t d) disciplined may (not_false (some_scheduled (accesses_before r (accesses_at t d))) turn)

    same : u ≡ t
    same = left ∙ with_same t d

    -- it changed nothing, and the run waits
    pub waits_behind : IsWaiting r (lineage_at u d)
    waits_behind = subst (λ (y : List LineageState). IsWaiting r (lineage_at y d)) (sym same) (may.first has_first)

    -- when those before it are passed the second one notes it
    pub noted_by_two : (v x : List LineageState) (b : Bool) → v ≡ with_lineage u d (passed r) → IsFirst r (lineage_at v d) → b ≡ not (some_scheduled (accesses_before r (accesses_at v d))) → x ≡ with_lineage v d (answered_if b r view wrote last)
        → x ≡ with_lineage t d (noted_first r (is_first r (lineage_at t d)) view wrote last)
    noted_by_two v x b passes first told is =
        is
        ∙ ap (λ c. with_lineage v d (answered_if c r view wrote last)) (told ∙ ap not first.none_before)
        ∙ ap (λ (y : List LineageState). with_lineage y d (lineage_answered r view wrote last)) (passes ∙ ap (λ (y : List LineageState). with_lineage y d (passed r)) same)
        ∙ with_both t d (passed r) (lineage_answered r view wrote last) below
        ∙ ap (slice_set t d) (noted_behind r view wrote last (lineage_at t d) may has_first)
