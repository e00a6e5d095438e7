-- When a device is free for a run behind the items of a set, and what the access of a run of the set tells of that.
use Rattle.timeline_scheduler.proofs.Prelude.{Alone, Back, Bool, EachTail, Facts, Failed, Grips, HasAccess, Item, Kept, List, None, Ran, Reading, RunNo, Setting, Slot, Some, [], access_of, and_parts, ap, arith, chosen, common_steps, cond, doom_of, eq-eqb, false, fold, free, has_access, if◌then◌else◌, is_counted, is_doomed, is_live, is_of, is_open, is_ran, is_released, is_some, later_end, latest_end, list_any, map, max, nat_lt, not, or_from, or_left, or_parts, or_right, planned_end, point, reads_first, refl, slot_waiting, sound_holds, subst, sym, true, whole_end, writes_on, ℕ, ◌&&◌, ◌++◌, ◌==◌, ◌||◌, ◌∙◌, ◌∷◌, ◌≡◌}
use Rattle.lineage_table.specs.declared.accesses.Access.{Access}
use Rattle.lock_leasing.specs.Order.{covers}
use Rattle.lock_leasing.specs.Tables.{EachTellsOfRun, TellsOfRun, runs_with_access, uses}
use Rattle.lock_leasing.specs.Words.{has_effect, holds_device}

-- What stands behind a run of a line in which no run stands twice

pub any_behind : (q : RunNo) (front is : List Item) → list_any (is_ran q.0) (front ++ Ran q ∷ is) ≡ true
any_behind q [] is = or_left (q.0 == q.0) (list_any (is_ran q.0) is) (eq-eqb q.0 q.0 refl)
any_behind q (i ∷ front) is = or_right (is_ran q.0 i) (list_any (is_ran q.0) (front ++ Ran q ∷ is)) (any_behind q front is)

-- a run with no access
pub none_of : (q : ℕ) (xs : List Access) → has_access q xs ≡ false → access_of q xs ≡ None
none_of q [] none = refl
none_of q (x ∷ xs) none = ap (λ b. cond b (Some x) (access_of q xs)) (or_parts (is_of q x) (has_access q xs) none).0 ∙ none_of q xs (or_parts (is_of q x) (has_access q xs) none).1

-- Numbers

pub max_none : (t : ℕ) → max t 0 ≡ t
max_none t = grind (arith, common_steps)

none_max : (t : ℕ) → max 0 t ≡ t
none_max t = grind (arith, common_steps)

max_past : (a x e : ℕ) → max (max a x) e ≡ max (max a e) x
max_past a x e = grind (arith, common_steps)

max_four : (a b e f : ℕ) → max (max a f) (max b e) ≡ max (max a b) (max e f)
max_four a b e f = grind (arith, common_steps)

-- the latest of two ends of each item, one after the other
both_ends : (first last both : Item → ℕ) → ((i : Item) → both i ≡ max (first i) (last i)) → (is : List Item) (a b : ℕ) → fold (λ t i. max t (last i)) (max a (fold (λ t i. max t (first i)) b is)) is ≡ fold (λ t i. max t (both i)) (max a b) is
both_ends first last both same [] a b = refl
both_ends first last both same (i ∷ is) a b =
    ap (λ u. fold (λ t j. max t (last j)) u is) (max_past a (fold (λ t j. max t (first j)) (max b (first i)) is) (last i))
    ∙ both_ends first last both same is (max a (last i)) (max b (first i))
    ∙ ap (λ u. fold (λ t j. max t (both j)) u is) (max_four a b (first i) (last i) ∙ ap (max (max a b)) (sym (same i)))

-- what none of a list is, none of a part is
chosen_lacks : (p : Item → Bool) (bs : List Bool) (is : List Item) → list_any p is ≡ false → list_any p (chosen bs is) ≡ false
unfolding chosen
chosen_lacks p bs [] none = refl
chosen_lacks p [] (i ∷ is) none = refl
chosen_lacks p (b ∷ bs) (i ∷ is) none = at b (or_parts (p i) (list_any p is) none).0 (chosen_lacks p bs is (or_parts (p i) (list_any p is) none).1)
  where
    at : (c : Bool) → p i ≡ false → list_any p (chosen bs is) ≡ false → list_any p (if c then i ∷ chosen bs is else chosen bs is) ≡ false
    at true here rest = or_from (p i) (list_any p (chosen bs is)) here rest
    at false here rest = rest

later_of : (t e : ℕ) (live reads writes : Bool) (whole : ℕ) → (reads ≡ true → whole ≡ (if live then e else 0)) → (if nat_lt t whole && (reads && writes) then whole else t) ≡ max t (if live && reads && writes then e else 0)
later_of t e live true writes whole is = ap (λ k. if nat_lt t k && (true && writes) then k else t) (is refl) ∙ at live writes
  where
    longer : (b : Bool) → nat_lt t e ≡ b → (if b && true then e else t) ≡ max t e
    longer true h = grind (arith, common_steps)
    longer false h = grind (arith, common_steps)

    unwanted : (b : Bool) (k : ℕ) → (if b && false then k else t) ≡ max t 0
    unwanted true k = sym (max_none t)
    unwanted false k = sym (max_none t)

    nothing : (b : Bool) → nat_lt t 0 ≡ b → (if b && true then 0 else t) ≡ max t 0
    nothing true h = absurd (grind (arith, common_steps))
    nothing false h = sym (max_none t)

    at : (l b : Bool) → (if nat_lt t (if l then e else 0) && (true && b) then (if l then e else 0) else t) ≡ max t (if l && true && b then e else 0)
    at true true = longer (nat_lt t e) refl
    at true false = unwanted (nat_lt t e) e
    at false true = nothing (nat_lt t 0) refl
    at false false = unwanted (nat_lt t 0) 0
later_of t e live false writes whole is = unread (nat_lt t whole) ∙ sym (max_none t) ∙ ap (max t) (none live)
  where
    unread : (b : Bool) → (if b && false then whole else t) ≡ t
    unread true = refl
    unread false = refl

    none : (l : Bool) → 0 ≡ (if l && false && writes then e else 0)
    none true = refl
    none false = refl

-- The access of a run

-- the accesses are those of the whole line, and each tells of its run
pub record AreOfLine (w : Setting) (n : Reading) (g : Grips) (d : ℕ) (xs : List Access) : Type 0 where
  pub runs : map (λ x. x.run.0) xs ≡ runs_with_access w n d n.line
  pub each : EachTellsOfRun (point w n g) d xs

-- the run, with these items behind it, has an access, which tells of it, or it has none
pub data Found (w : Setting) (n : Reading) (g : Grips) (d q : ℕ) (is : List Item) (xs : List Access) : Type 0 where
  Own : (x : Access) (rest : List Access) (found : access_of q xs ≡ Some x) (has : (uses w n d q && not (list_any (covers n d) is)) ≡ true) (own : x.run.0 ≡ q) (tells : TellsOfRun (point w n g) d x rest) → Found w n g d q is xs
  Other : (none : access_of q xs ≡ None) (lacks : (uses w n d q && not (list_any (covers n d) is)) ≡ false) → Found w n g d q is xs

module _ (w : Setting) (n : Reading) (g : Grips) (d : ℕ) where
  -- a run with an access is one of the items
  no_run : (q : ℕ) (is : List Item) → list_any (is_ran q) is ≡ false → list_any (λ k. k == q) (runs_with_access w n d is) ≡ false
  no_run q [] none = refl
  no_run q (Failed e k ∷ is) none = no_run q is none
  no_run q (Back e k ∷ is) none = no_run q is none
  no_run q (Ran p ∷ is) none = let parts = or_parts (p.0 == q) (list_any (is_ran q) is) none in at (uses w n d p.0 && not (list_any (covers n d) is)) parts.0 (no_run q is parts.1)
    where
      at : (b : Bool) → (p.0 == q) ≡ false → list_any (λ k. k == q) (runs_with_access w n d is) ≡ false → list_any (λ k. k == q) (if b then (p.0 ∷ runs_with_access w n d is) else runs_with_access w n d is) ≡ false
      at true other rest = or_from (p.0 == q) (list_any (λ k. k == q) (runs_with_access w n d is)) other rest
      at false other rest = rest

  -- a run that stands once in the line, and has no access there, has none
  lacks_run : (q : RunNo) (front is : List Item) → EachTail Alone (front ++ Ran q ∷ is) → (uses w n d q.0 && not (list_any (covers n d) is)) ≡ false → list_any (λ k. k == q.0) (runs_with_access w n d (front ++ Ran q ∷ is)) ≡ false
  lacks_run q [] is once lacks = ap (λ b. list_any (λ k. k == q.0) (if b then (q.0 ∷ runs_with_access w n d is) else runs_with_access w n d is)) lacks ∙ no_run q.0 is (once.0 q.0 (eq-eqb q.0 q.0 refl))
  lacks_run q (Failed e k ∷ front) is once lacks = lacks_run q front is once.1 lacks
  lacks_run q (Back e k ∷ front) is once lacks = lacks_run q front is once.1 lacks
  lacks_run q (Ran p ∷ front) is once lacks = at (uses w n d p.0 && not (list_any (covers n d) (front ++ Ran q ∷ is))) (other (p.0 == q.0) refl) (lacks_run q front is once.1 lacks)
    where
      rest : List ℕ
      rest = runs_with_access w n d (front ++ Ran q ∷ is)

      other : (b : Bool) → (p.0 == q.0) ≡ b → (p.0 == q.0) ≡ false
      other true e = absurd (cc (once.0 q.0 e, any_behind q front is))
      other false e = e

      at : (b : Bool) → (p.0 == q.0) ≡ false → list_any (λ k. k == q.0) rest ≡ false → list_any (λ k. k == q.0) (if b then (p.0 ∷ rest) else rest) ≡ false
      at true apart none = or_from (p.0 == q.0) (list_any (λ k. k == q.0) rest) apart none
      at false apart none = none

  by_runs : (q : ℕ) (xs : List Access) → has_access q xs ≡ list_any (λ k. k == q) (map (λ x. x.run.0) xs)
  by_runs q [] = refl
  by_runs q (x ∷ xs) = ap (λ b. is_of q x || b) (by_runs q xs)

  pub lacks_access : (q : RunNo) (front is : List Item) (xs : List Access) → n.line ≡ front ++ Ran q ∷ is → EachTail Alone (front ++ Ran q ∷ is) → AreOfLine w n g d xs → (uses w n d q.0 && not (list_any (covers n d) is)) ≡ false → has_access q.0 xs ≡ false
  lacks_access q front is xs cut once all lacks = by_runs q.0 xs ∙ ap (list_any (λ k. k == q.0)) (all.runs ∙ ap (runs_with_access w n d) cut) ∙ lacks_run q front is once lacks

  -- a run with an access is among those of the line
  has_run : (q : RunNo) (front is : List Item) → (uses w n d q.0 && not (list_any (covers n d) is)) ≡ true → list_any (λ k. k == q.0) (runs_with_access w n d (front ++ Ran q ∷ is)) ≡ true
  has_run q [] is has =
      ap (λ b. list_any (λ k. k == q.0) (if b then (q.0 ∷ runs_with_access w n d is) else runs_with_access w n d is)) has
      ∙ or_left (q.0 == q.0) (list_any (λ k. k == q.0) (runs_with_access w n d is)) (eq-eqb q.0 q.0 refl)
  has_run q (Failed e k ∷ front) is has = has_run q front is has
  has_run q (Back e k ∷ front) is has = has_run q front is has
  has_run q (Ran p ∷ front) is has = at (uses w n d p.0 && not (list_any (covers n d) (front ++ Ran q ∷ is))) (has_run q front is has)
    where
      rest : List ℕ
      rest = runs_with_access w n d (front ++ Ran q ∷ is)

      at : (b : Bool) → list_any (λ k. k == q.0) rest ≡ true → list_any (λ k. k == q.0) (if b then (p.0 ∷ rest) else rest) ≡ true
      at true some = or_right (p.0 == q.0) (list_any (λ k. k == q.0) rest) some
      at false some = some

  -- its access tells of it
  pub record IsToldBy (q : ℕ) (xs : List Access) : Type 0 where
    access : Access
    rest : List Access
    found : access_of q xs ≡ Some access
    own : access.run.0 ≡ q
    tells : TellsOfRun (point w n g) d access rest

  told_by : (q : ℕ) (xs : List Access) → EachTellsOfRun (point w n g) d xs → has_access q xs ≡ true → IsToldBy q xs
  told_by q [] all some = absurd (cc)
  told_by q (x ∷ xs) all some = at (is_of q x) refl (told_by q xs all.1)
    where
      first : is_of q x ≡ true → x.run.0 ≡ q
      first here = grind (arith, common_steps)

      behind : is_of q x ≡ false → has_access q xs ≡ true
      behind other = grind (arith, common_steps)

      at : (b : Bool) → is_of q x ≡ b → (has_access q xs ≡ true → IsToldBy q xs) → IsToldBy q (x ∷ xs)
      at true here rest = record { access = x; rest = xs; found = ap (λ b. cond b (Some x) (access_of q xs)) here; own = first here; tells = all.0 }
      at false other rest =
          let told = rest (behind other) in
          record { access = told.access; rest = told.rest; found = ap (λ b. cond b (Some x) (access_of q xs)) other ∙ told.found; own = told.own; tells = told.tells }

  pub found_in : (q : RunNo) (front is : List Item) (xs : List Access) → n.line ≡ front ++ Ran q ∷ is → EachTail Alone (front ++ Ran q ∷ is) → AreOfLine w n g d xs → Found w n g d q.0 is xs
  found_in q front is xs cut once all = at (uses w n d q.0 && not (list_any (covers n d) is)) refl
    where
      at : (b : Bool) → (uses w n d q.0 && not (list_any (covers n d) is)) ≡ b → Found w n g d q.0 is xs
      at true has =
          let told = told_by q.0 xs all.each (by_runs q.0 xs ∙ ap (list_any (λ k. k == q.0)) (all.runs ∙ ap (runs_with_access w n d) cut) ∙ has_run q front is has) in
          Own told.access told.rest told.found has told.own told.tells
      at false lacks = Other (none_of q.0 xs (lacks_access q front is xs cut once all lacks)) lacks

module _ (w : Setting) (n : Reading) (g : Grips) (f : Facts w n g) (r d : ℕ) where
  -- one item further

  abbrev end_on : ℕ → ℕ
  end_on x = if is_open w n x d then planned_end (n.run x).planned d else 0

  abbrev end_whole : ℕ → ℕ
  end_whole x = if is_live n x && reads_first w.runs r d && writes_on w.runs x d then whole_end w n x else 0

  -- the planned end on the device
  abbrev pub end_there : Item → ℕ
  end_there (Ran x) = end_on x.0
  end_there (Failed e k) = 0
  end_there (Back e k) = 0

  -- .. and the one of the whole run, where it is waited for
  abbrev pub end_awaited : Item → ℕ
  end_awaited (Ran x) = end_whole x.0
  end_awaited (Failed e k) = 0
  end_awaited (Back e k) = 0

  abbrev end_of : Item → ℕ
  end_of (Ran x) = max (end_on x.0) (end_whole x.0)
  end_of (Failed e k) = 0
  end_of (Back e k) = 0

  both_there : (i : Item) → end_of i ≡ max (end_there i) (end_awaited i)
  both_there (Ran x) = refl
  both_there (Failed e k) = refl
  both_there (Back e k) = refl

  -- the device is free behind these items when none of them holds it, and none is waited for
  pub free_is : (front : List Item) → fold (λ t i. max t (end_awaited i)) (fold (λ t i. max t (end_there i)) 0 front) front ≡ free w n r front d
  free_is front = ap (λ t. fold (λ u i. max u (end_awaited i)) t front) (sym (none_max (fold (λ t i. max t (end_there i)) 0 front))) ∙ both_ends end_there end_awaited end_of both_there front 0 0

  -- the access tells whether the run is open
  own_end : (q : ℕ) (x : Access) (rest : List Access) (t : ℕ) → x.run.0 ≡ q → TellsOfRun (point w n g) d x rest → uses w n d q ≡ true → (if is_doomed n q || is_released x.status then t else max t x.to) ≡ max t (end_on q)
  own_end q x rest t own tells used = subst (λ p. uses w n d p ≡ true → (if is_doomed n p || is_released x.status then t else max t x.to) ≡ max t (end_on p)) own at used
    where
      shut : is_open w n x.run.0 d ≡ false → t ≡ max t (end_on x.run.0)
      shut no' = sym (ap (λ b. max t (if b then planned_end (n.run x.run.0).planned d else 0)) no' ∙ max_none t)

      opened : is_open w n x.run.0 d ≡ true → max t x.to ≡ max t (end_on x.run.0)
      opened yes' = ap (max t) tells.to ∙ sym (ap (λ b. max t (if b then planned_end (n.run x.run.0).planned d else 0)) yes')

      by_doom : (a b : Bool) → is_doomed n x.run.0 ≡ a → is_released x.status ≡ b → uses w n d x.run.0 ≡ true → (if a || b then t else max t x.to) ≡ max t (end_on x.run.0)
      by_doom true b doom done used = shut (grind (arith, common_steps))
      by_doom false true doom done used =
          let holds : not (is_released x.status) ≡ holds_device (point w n g) x.run.0 d = sound_holds w n g f d x rest tells used doom in
          let none : holds_device (point w n g) x.run.0 d ≡ false = sym holds ∙ ap not done in
          shut (grind (arith, common_steps))
      by_doom false false doom done used =
          let holds : not (is_released x.status) ≡ holds_device (point w n g) x.run.0 d = sound_holds w n g f d x rest tells used doom in
          let some : holds_device (point w n g) x.run.0 d ≡ true = sym holds ∙ ap not done in
          opened (grind (arith, common_steps))

      at : uses w n d x.run.0 ≡ true → (if is_doomed n x.run.0 || is_released x.status then t else max t x.to) ≡ max t (end_on x.run.0)
      at used = by_doom (is_doomed n x.run.0) (is_released x.status) refl refl used

  -- a run with no access holds nothing
  no_end : (q : RunNo) (is : List Item) → HasAccess w n g f d (Ran q) is → (uses w n d q.0 && not (list_any (covers n d) is)) ≡ false → end_on q.0 ≡ 0
  no_end q is has lacks = ap (λ b. if b then planned_end (n.run q.0).planned d else 0) (closed (is_open w n q.0 d) refl)
    where
      closed : (b : Bool) → is_open w n q.0 d ≡ b → b ≡ false
      closed true e = let some : (uses w n d q.0 && not (list_any (covers n d) is)) ≡ true = has (ap (λ b. b || (is_live n q.0 && has_effect n g q.0 d)) e) in absurd (cc (some, lacks))
      closed false e = refl

  module _ (counts : ℕ → Bool) where
    -- the runs of these items are counted where they are in the set, and not doomed
    abbrev CountsIn : List Item → List Item → Type 0
    CountsIn is set = (q : RunNo) → list_any (is_ran q.0) is ≡ true → counts q.0 ≡ (list_any (is_ran q.0) set && not (is_doomed n q.0))

    -- the accesses of these items have the latest planned end of the set
    abbrev HaveEnd : List Item → List Item → Type 0
    HaveEnd is set = (xs : List Access) (t : ℕ) → map (λ x. x.run.0) xs ≡ runs_with_access w n d is → EachTellsOfRun (point w n g) d xs → fold (later_end counts) t xs ≡ fold (λ u i. max u (end_there i)) t set

    counts_tail : (i : Item) (is set : List Item) (b : Bool) → Alone i is → CountsIn (i ∷ is) (if b then i ∷ set else set) → CountsIn is set
    counts_tail i is set b alone counted q among = counted q (or_right (is_ran q.0 i) (list_any (is_ran q.0) is) among) ∙ ap (λ c. c && not (is_doomed n q.0)) (at b (is_ran q.0 i) refl)
      where
        at : (c e : Bool) → is_ran q.0 i ≡ e → list_any (is_ran q.0) (if c then i ∷ set else set) ≡ list_any (is_ran q.0) set
        at true true own = absurd (cc (alone q.0 own, among))
        at true false other = ap (λ e. e || list_any (is_ran q.0) set) other
        at false e own = refl

    -- an item that holds nothing
    with_none : (i : Item) (set : List Item) (b : Bool) (t : ℕ) → end_there i ≡ 0 → fold (λ u j. max u (end_there j)) t set ≡ fold (λ u j. max u (end_there j)) t (if b then i ∷ set else set)
    with_none i set true t none = ap (λ u. fold (λ v j. max v (end_there j)) u set) (sym (ap (max t) none ∙ max_none t))
    with_none i set false t none = refl

    -- one item more
    end_more : (i : Item) (is set : List Item) (b : Bool) → HasAccess w n g f d i is → ((q : ℕ) → is_ran q i ≡ true → list_any (is_ran q) set ≡ false) → CountsIn (i ∷ is) (if b then i ∷ set else set) → HaveEnd is set → HaveEnd (i ∷ is) (if b then i ∷ set else set)
    end_more (Failed e k) is set b has apart counted rest xs t runs each = rest xs t runs each ∙ with_none (Failed e k) set b t refl
    end_more (Back e k) is set b has apart counted rest xs t runs each = rest xs t runs each ∙ with_none (Back e k) set b t refl
    end_more (Ran p) is set b has apart counted rest xs t runs each = by_access (uses w n d p.0 && not (list_any (covers n d) is)) refl xs runs each
      where
        mine : (c : Bool) → list_any (is_ran p.0) (if c then Ran p ∷ set else set) ≡ c
        mine true = or_left (p.0 == p.0) (list_any (is_ran p.0) set) (eq-eqb p.0 p.0 refl)
        mine false = apart p.0 (eq-eqb p.0 p.0 refl)

        counts_own : counts p.0 ≡ (b && not (is_doomed n p.0))
        counts_own = counted p (or_left (p.0 == p.0) (list_any (is_ran p.0) is) (eq-eqb p.0 p.0 refl)) ∙ ap (λ c. c && not (is_doomed n p.0)) (mine b)

        turned : (a c : Bool) (s u : ℕ) → (if not a && (true && not c) then s else u) ≡ (if c || a then u else s)
        turned true true s u = refl
        turned true false s u = refl
        turned false true s u = refl
        turned false false s u = refl

        passed_by : (a : Bool) (s : ℕ) → (if not a && false then s else t) ≡ t
        passed_by true s = refl
        passed_by false s = refl

        here : (x : Access) (ys : List Access) → x.run.0 ≡ p.0 → TellsOfRun (point w n g) d x ys → uses w n d p.0 ≡ true → (c : Bool) → (if not (is_released x.status) && (c && not (is_doomed n p.0)) then max t x.to else t) ≡ (if c then max t (end_on p.0) else t)
        here x ys own tells used true = turned (is_released x.status) (is_doomed n p.0) (max t x.to) t ∙ own_end p.0 x ys t own tells used
        here x ys own tells used false = passed_by (is_released x.status) (max t x.to)

        behind : (c : Bool) → fold (λ u j. max u (end_there j)) (if c then max t (end_on p.0) else t) set ≡ fold (λ u j. max u (end_there j)) t (if c then Ran p ∷ set else set)
        behind true = refl
        behind false = refl

        by_access : (u : Bool) → (uses w n d p.0 && not (list_any (covers n d) is)) ≡ u → (ys : List Access) → map (λ x. x.run.0) ys ≡ (if u then (p.0 ∷ runs_with_access w n d is) else runs_with_access w n d is) → EachTellsOfRun (point w n g) d ys
            → fold (later_end counts) t ys ≡ fold (λ v i. max v (end_there i)) t (if b then Ran p ∷ set else set)
        by_access false lacks ys all tell = rest ys t all tell ∙ with_none (Ran p) set b t (no_end p is has lacks)
        by_access true used [] all tell = absurd (cc)
        by_access true used (x ∷ ys) all tell =
            let own : x.run.0 ≡ p.0 = cc in
            let others : map (λ a. a.run.0) ys ≡ runs_with_access w n d is = cc in
            ap (λ u. fold (later_end counts) u ys) (ap (λ c. if not (is_released x.status) && c then max t x.to else t) (ap counts own ∙ counts_own) ∙ here x ys own tell.0 (and_parts (uses w n d p.0) (not (list_any (covers n d) is)) used).0 b)
            ∙ rest ys (if b then max t (end_on p.0) else t) others tell.1 ∙ behind b

    end_along : (is : List Item) (bs : List Bool) → EachTail Alone is → EachTail (HasAccess w n g f d) is → CountsIn is (chosen bs is) → HaveEnd is (chosen bs is)
    unfolding chosen
    end_along [] bs alone has counted [] t runs each = refl
    end_along [] bs alone has counted (x ∷ xs) t runs each = absurd (cc)
    end_along (i ∷ is) [] alone has counted xs t runs each =
        end_more i is [] false has.0 (λ q own. refl) counted (subst (HaveEnd is) (nothing is) (end_along is [] alone.1 has.1 (subst (CountsIn is) (sym (nothing is)) (counts_tail i is [] false alone.0 counted)))) xs t runs each
      where
        nothing : (js : List Item) → chosen [] js ≡ []
        nothing [] = refl
        nothing (j ∷ js) = refl
    end_along (i ∷ is) (b ∷ bs) alone has counted xs t runs each =
        end_more i is (chosen bs is) b has.0 (λ q own. chosen_lacks (is_ran q) bs is (alone.0 q own)) counted (end_along is bs alone.1 has.1 (counts_tail i is (chosen bs is) b alone.0 counted)) xs t runs each

  -- the accesses of the line have the latest planned end of the set
  pub latest_is : (history : List Kept) (bs : List Bool) (xs : List Access) → ((q : ℕ) → is_some (doom_of history q) ≡ is_doomed n q) → AreOfLine w n g d xs → EachTail Alone n.line → EachTail (HasAccess w n g f d) n.line
      → latest_end (is_counted history (chosen bs n.line)) xs ≡ fold (λ t i. max t (end_there i)) 0 (chosen bs n.line)
  latest_is history bs xs dooms all once has =
      end_along (is_counted history (chosen bs n.line)) n.line bs once has (λ q among. ap (λ b. list_any (is_ran q.0) (chosen bs n.line) && not b) (dooms q.0)) xs 0 all.runs all.each

  -- where the whole run is waited for, the device is free at its end
  pub awaited_free : (q : RunNo) (s : Slot) (whole : ℕ) → whole ≡ (if is_live n q.0 then whole_end w n q.0 else 0) → (slot_waiting w.runs r q.0 whole d s).free ≡ max s.free (end_awaited (Ran q))
  awaited_free q s whole is =
      waits_to (nat_lt s.free whole && (reads_first w.runs r d && writes_on w.runs q.0 d)) ∙ later_of s.free (whole_end w n q.0) (is_live n q.0) (reads_first w.runs r d) (writes_on w.runs q.0 d) whole (λ reading. is)
    where
      waits_to : (b : Bool) → (if b then record s { free = whole } else s).free ≡ (if b then whole else s.free)
      waits_to true = refl
      waits_to false = refl
