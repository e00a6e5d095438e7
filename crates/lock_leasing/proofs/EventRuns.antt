-- The first live run of the line of which a test holds, as the accesses to a device tell it, and what is put before it: so an event finds its place, and a failure the run that it loses.
use Rattle.lock_leasing.proofs.Prelude.{Access, Back, Bool, EachTellsOfRun, Failed, Grips, Item, List, Mark, None, Option, Ran, Reading, Setting, Some, [], ap, arith, common_steps, cond, cons_option, covers, drop, false, find, if◌then◌else◌, is_live, is_open, is_ran, items_of, length, list_any, live_runs, map, nat_lt, not, of_run, option_map, passed_by, place_of, point, position, position_or_len, put_before, refl, run_no, runs_with_access, some_is, suc, sym, take, touches, true, up_to_first, uses, ℕ, ◌&&◌, ◌++◌, ◌+◌, ◌==◌, ◌||◌, ◌∙◌, ◌∷◌, ◌≡◌}
use Rattle.lock_leasing.proofs.AccessRuns.{EachTail, HasAccess, has_work, workers_have_access}
use Rattle.lock_leasing.proofs.Facts.{Facts}
use Rattle.lock_leasing.proofs.Holding.{TellsTest, weaker}
use Rattle.std.proofs.lemmas.List.Recursion.{is_position_or_len}

-- Which run it is

abbrev head_or : List ℕ → ℕ → ℕ
head_or [] k = k
head_or (y ∷ ys) k = y

abbrev tail_of : List ℕ → List ℕ
tail_of [] = []
tail_of (y ∷ ys) = ys

module _ (w : Setting) (n : Reading) (g : Grips) (f : Facts w n g) (d : ℕ) where
  -- the live run of which the test holds has an access
  abbrev HasWhere : (ℕ → Bool) → Item → List Item → Type 0
  HasWhere held i is = of_run (λ q. is_live n q && held q) i ≡ true → (of_run (uses w n d) i && not (list_any (covers n d) is)) ≡ true

  first_along : (held : ℕ → Bool) (test : Access → Bool) → TellsTest w n g f d held test → (is : List Item) (xs : List Access) → EachTail (HasWhere held) is → map (λ x. x.run.0) xs ≡ runs_with_access w n d is → EachTellsOfRun (point w n g) d xs
      → option_map (λ x. x.run.0) (find test xs) ≡ find held (live_runs n is)
  first_along held test tells [] [] has same all = refl
  first_along held test tells [] (x ∷ xs) has same all = absurd (cc)
  first_along held test tells (Failed e k ∷ is) xs has same all = first_along held test tells is xs has.1 same all
  first_along held test tells (Back e k ∷ is) xs has same all = first_along held test tells is xs has.1 same all
  first_along held test tells (Ran q ∷ is) xs has same all = by_access (uses w n d q.0 && not (list_any (covers n d) is)) refl xs same all (λ ys. first_along held test tells is ys has.1)
    where
      rest : Option ℕ
      rest = find held (live_runs n is)

      without_it : (b : Bool) → is_live n q.0 ≡ b → (b ≡ true → held q.0 ≡ false) → rest ≡ find held (cons_option (if b then Some q.0 else None) (live_runs n is))
      without_it true live none = sym (ap (λ h. cond h (Some q.0) rest) (none refl))
      without_it false dead none = refl

      first_of : (a b : Bool) → (a && b) ≡ true → a ≡ true
      first_of a b h = grind (arith, common_steps)

      lives : (l t x : Bool) → (l && t && x) ≡ true → l ≡ true
      lives l t x h = grind (arith, common_steps)

      either : (b : Bool) (x : Access) (ys : List Access) → x.run.0 ≡ q.0 → option_map (λ y. y.run.0) (find test ys) ≡ rest → option_map (λ y. y.run.0) (cond b (Some x) (find test ys)) ≡ cond b (Some q.0) rest
      either true x ys own behind = ap (λ k. Some k) own
      either false x ys own behind = behind

      by_access : (c : Bool) → (uses w n d q.0 && not (list_any (covers n d) is)) ≡ c → (ys : List Access) → map (λ x. x.run.0) ys ≡ (if c then (q.0 ∷ runs_with_access w n d is) else runs_with_access w n d is) → EachTellsOfRun (point w n g) d ys
          → ((zs : List Access) → map (λ x. x.run.0) zs ≡ runs_with_access w n d is → EachTellsOfRun (point w n g) d zs → option_map (λ x. x.run.0) (find test zs) ≡ rest) → option_map (λ x. x.run.0) (find test ys) ≡ find held (live_runs n (Ran q ∷ is))
      by_access true access [] same all behind = absurd (cc)
      by_access true access (x ∷ ys) same all behind =
          let own : x.run.0 ≡ q.0 = ap (λ l. head_or l 0) same in
          let used : uses w n d q.0 ≡ true = first_of (uses w n d q.0) (not (list_any (covers n d) is)) access in
          let live : is_live n q.0 ≡ true = lives (is_live n q.0) (touches w.runs q.0 d) (not (passed_by w n q.0 d)) used in
          let told : test x ≡ held q.0 = tells x ys all.0 (ap (λ k. uses w n d k) own ∙ used) ∙ ap held own in
          ap (λ b. option_map (λ y. y.run.0) (cond b (Some x) (find test ys))) told
          ∙ either (held q.0) x ys own (behind ys (ap tail_of same) all.1)
          ∙ sym (ap (λ b. find held (cons_option (if b then Some q.0 else None) (live_runs n is))) live)
      by_access false none ys same all behind = behind ys same all ∙ without_it (is_live n q.0) refl (λ live. unheld (held q.0) refl live)
        where
          unheld : (b : Bool) → held q.0 ≡ b → is_live n q.0 ≡ true → b ≡ false
          unheld true yes' live = let some : (uses w n d q.0 && not (list_any (covers n d) is)) ≡ true = has.0 (grind (arith, common_steps)) in absurd (cc (some, none))
          unheld false no' live = refl

  -- the run of the first access that passes a test is the first live run of the line of which it tells, where it tells of open runs alone
  pub first_open : (held : ℕ → Bool) (test : Access → Bool) (xs : List Access) → ((q : ℕ) → held q ≡ true → is_open w n q d ≡ true) → TellsTest w n g f d held test → map (λ x. x.run.0) xs ≡ runs_with_access w n d n.line → EachTellsOfRun (point w n g) d xs
      → option_map (λ x. x.run.0) (find test xs) ≡ find held (live_runs n n.line)
  first_open held test xs opens tells runs told = first_along held test tells n.line xs (weaker (HasAccess w n g f d) (HasWhere held) each n.line (workers_have_access w n g f d)) runs told
    where
      works : (q : ℕ) → (is_live n q && held q) ≡ true → has_work w n g f d q ≡ true
      works q yes' = let opened : is_open w n q d ≡ true = opens q (grind (arith, common_steps)) in rw opened refl

      each : (i : Item) (is : List Item) → HasAccess w n g f d i is → HasWhere held i is
      each (Ran q) is has yes' = has (works q.0 yes')
      each (Failed e k) is has yes' = absurd (cc)
      each (Back e k) is has yes' = absurd (cc)

-- Where it stands

-- what is put before the first item of which a test holds stands at the number of the items before that one
pub put_at : (t : Item → Bool) (x : Item) (line : List Item) → put_before t x line ≡ take (up_to_first t line) line ++ x ∷ drop (up_to_first t line) line
put_at t x [] = refl
put_at t x (i ∷ is) = by_test (t i) (put_at t x is)
  where
    next : (k : ℕ) → k + 1 ≡ suc k
    next k = omega arith

    by_test : (b : Bool) → put_before t x is ≡ take (up_to_first t is) is ++ x ∷ drop (up_to_first t is) is
        → (if b then x ∷ i ∷ is else i ∷ put_before t x is) ≡ take (if b then 0 else up_to_first t is + 1) (i ∷ is) ++ x ∷ drop (if b then 0 else up_to_first t is + 1) (i ∷ is)
    by_test true rest = refl
    by_test false rest = ap (λ l. i ∷ l) rest ∙ ap (λ k. take k (i ∷ is) ++ x ∷ drop k (i ∷ is)) (sym (next (up_to_first t is)))

-- a test that holds of live runs alone
module _ (n : Reading) (held : ℕ → Bool) (lives : (q : ℕ) → held q ≡ true → is_live n q ≡ true) where
  clash : (b : Bool) → b ≡ true → b ≡ false → ⊥
  clash b h k = grind (arith, common_steps)

  equal : (x y : ℕ) → (x == y) ≡ true → x ≡ y
  equal x y h = grind (arith, common_steps)

  self : (x y : ℕ) → x ≡ y → (x == y) ≡ true
  self x y h = grind (arith, common_steps)

  next : (x y : ℕ) → x ≡ y → x + 1 ≡ suc y
  next x y h = omega (arith, h)

  -- where it holds of a run it holds of the first one of these, whose place is that of the first item with it
  pub before_first : (r : ℕ) (is : List Item) → find held (live_runs n is) ≡ Some r → up_to_first (of_run held) is ≡ up_to_first (is_ran r) is
  before_first r [] h = absurd (cc)
  before_first r (Failed e k ∷ is) h = ap (λ x. x + 1) (before_first r is h)
  before_first r (Back e k ∷ is) h = ap (λ x. x + 1) (before_first r is h)
  before_first r (Ran q ∷ is) h = at_ (before_first r is) (held q.0) refl (is_live n q.0) refl (q.0 == r) refl h
    where
      -- the run that is found passes the test
      passes : (xs : List ℕ) → find held xs ≡ Some r → held r ≡ true
      passes [] h = absurd (cc)
      passes (x ∷ xs) h = one (passes xs) (held x) refl h
        where
          one : (find held xs ≡ Some r → held r ≡ true) → (b : Bool) → held x ≡ b → cond b (Some x) (find held xs) ≡ Some r → held r ≡ true
          one ih true e k = ap held (sym (some_is x r k)) ∙ e
          one ih false e k = ih k

      at_ : (find held (live_runs n is) ≡ Some r → up_to_first (of_run held) is ≡ up_to_first (is_ran r) is) → (b : Bool) → held q.0 ≡ b → (l : Bool) → is_live n q.0 ≡ l → (c : Bool) → (q.0 == r) ≡ c
          → find held (cons_option (if l then Some q.0 else None) (live_runs n is)) ≡ Some r → (if b then 0 else up_to_first (of_run held) is + 1) ≡ (if c then 0 else up_to_first (is_ran r) is + 1)
      at_ ih true e true live true own h = refl
      at_ ih true e true live false own h = absurd (clash (q.0 == r) (self q.0 r (some_is q.0 r (sym (ap (λ b. cond b (Some q.0) (find held (live_runs n is))) e) ∙ h))) own)
      at_ ih true e false dead c own h = absurd (clash (is_live n q.0) (lives q.0 e) dead)
      at_ ih false e true live true own h = absurd (clash (held q.0) (ap held (equal q.0 r own) ∙ passes (q.0 ∷ live_runs n is) h) e)
      at_ ih false e true live false own h = ap (λ x. x + 1) (ih (sym (ap (λ b. cond b (Some q.0) (find held (live_runs n is))) e) ∙ h))
      at_ ih false e false dead true own h = absurd (clash (held q.0) (ap held (equal q.0 r own) ∙ passes (live_runs n is) h) e)
      at_ ih false e false dead false own h = ap (λ x. x + 1) (ih h)

  -- where it holds of none, that is the end
  pub before_none : (is : List Item) → find held (live_runs n is) ≡ None → up_to_first (of_run held) is ≡ length is
  before_none [] h = refl
  before_none (Failed e k ∷ is) h = next _ _ (before_none is h)
  before_none (Back e k ∷ is) h = next _ _ (before_none is h)
  before_none (Ran q ∷ is) h = at_ (before_none is) (held q.0) refl (is_live n q.0) refl h
    where
      at_ : (find held (live_runs n is) ≡ None → up_to_first (of_run held) is ≡ length is) → (b : Bool) → held q.0 ≡ b → (l : Bool) → is_live n q.0 ≡ l
          → find held (cons_option (if l then Some q.0 else None) (live_runs n is)) ≡ None → (if b then 0 else up_to_first (of_run held) is + 1) ≡ suc (length is)
      at_ ih true e true live h = absurd (none_some (sym (ap (λ b. cond b (Some q.0) (find held (live_runs n is))) e) ∙ h))
        where
          none_some : Some q.0 ≡ None → ⊥
          none_some k = absurd (cc)
      at_ ih true e false dead h = absurd (clash (is_live n q.0) (lives q.0 e) dead)
      at_ ih false e true live h = next _ _ (ih (sym (ap (λ b. cond b (Some q.0) (find held (live_runs n is))) e) ∙ h))
      at_ ih false e false dead h = next _ _ (ih h)

  -- the run that is found stands there
  pub found_there : (r : ℕ) (is : List Item) → find held (live_runs n is) ≡ Some r → list_any (is_ran r) is ≡ true
  found_there r [] h = absurd (cc)
  found_there r (Failed e k ∷ is) h = found_there r is h
  found_there r (Back e k ∷ is) h = found_there r is h
  found_there r (Ran q ∷ is) h = at_ (found_there r is) (held q.0) refl (is_live n q.0) refl h
    where
      here : (a b : Bool) → a ≡ true → (a || b) ≡ true
      here a b h = grind (arith, common_steps)

      behind : (a b : Bool) → b ≡ true → (a || b) ≡ true
      behind a b h = grind (arith, common_steps)

      at_ : (find held (live_runs n is) ≡ Some r → list_any (is_ran r) is ≡ true) → (b : Bool) → held q.0 ≡ b → (l : Bool) → is_live n q.0 ≡ l → find held (cons_option (if l then Some q.0 else None) (live_runs n is)) ≡ Some r → ((q.0 == r) || list_any (is_ran r) is) ≡ true
      at_ ih true e true live h = here (q.0 == r) (list_any (is_ran r) is) (self q.0 r (some_is q.0 r (sym (ap (λ b. cond b (Some q.0) (find held (live_runs n is))) e) ∙ h)))
      at_ ih false e true live h = behind (q.0 == r) (list_any (is_ran r) is) (ih (sym (ap (λ b. cond b (Some q.0) (find held (live_runs n is))) e) ∙ h))
      at_ ih b e false dead h = behind (q.0 == r) (list_any (is_ran r) is) (ih h)

-- the line tells the place of a run that stands in it
pub run_place : (r : ℕ) (line : List Item) (marks : List Mark) → list_any (is_ran r) line ≡ true → items_of marks ≡ line → place_of (Ran (run_no r)) marks ≡ Some (up_to_first (is_ran r) line)
run_place r line marks there items = ap (position (is_ran r)) items ∙ (λ i. cond (nat_lt (sym counted i) (length line)) (Some (sym counted i)) None) ∙ ap (λ b. cond b (Some (up_to_first (is_ran r) line)) None) (within line there)
  where
    one_more : (b : Bool) (k : ℕ) → (if b then 0 else k + 1) ≡ cond b 0 (1 + k)
    one_more true k = refl
    one_more false k = omega arith

    counted : up_to_first (is_ran r) line ≡ position_or_len (is_ran r) line
    counted = is_position_or_len (up_to_first (is_ran r)) (is_ran r) refl (λ x xs. one_more (is_ran r x) (up_to_first (is_ran r) xs)) line

    within : (is : List Item) → list_any (is_ran r) is ≡ true → nat_lt (up_to_first (is_ran r) is) (length is) ≡ true
    within [] h = absurd (cc)
    within (i ∷ is) h = at_ (is_ran r i) (within is) h
      where
        more : (k l : ℕ) → nat_lt k l ≡ true → nat_lt (k + 1) (suc l) ≡ true
        more k l h = grind (arith, common_steps)

        some : (l : ℕ) → nat_lt 0 (suc l) ≡ true
        some l = grind (arith, common_steps)

        at_ : (b : Bool) → (list_any (is_ran r) is ≡ true → nat_lt (up_to_first (is_ran r) is) (length is) ≡ true) → (b || list_any (is_ran r) is) ≡ true → nat_lt (if b then 0 else up_to_first (is_ran r) is + 1) (suc (length is)) ≡ true
        at_ true ih k = some (length is)
        at_ false ih k = more (up_to_first (is_ran r) is) (length is) (ih k)
