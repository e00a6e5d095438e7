-- The access of a run in a chain, and what a call of the chain makes of the accesses.
use Rattle.chain_arena.proofs.Cited.{apart_front, apart_rest, from_cut, has_cut, length_values, put_cut, set_cut, value_cut, values_cut, values_join, without_cut}
use Rattle.lineage_table.proofs.Prelude.{Access, AllByRecursion, AreApart, AreOfTwoRuns, Bool, CutAtKnot, IsBehind, Knot, List, None, Option, Some, [], access_of, accesses_before, accesses_behind, ap, append_assoc, arith, common_steps, cond, drop, drop_at, false, fold, from_knot, get_or, get_or_at, has_access, has_knot, if◌then◌else◌, is_at, is_of, is_scheduled, is_some, length, length-append, lt-ltb, nat_lt, or_from, position, position_or_len, put_before, put_before_run, refl, rest_of, set, set_at, set_value, slice_get, some_scheduled, subst, sym, true, true≢false, value_at, values_of, without, ℕ, ◌++◌, ◌+◌, ◌<◌, ◌==◌, ◌||◌, ◌∙◌, ◌∷◌, ◌≡◌}
use Rattle.chain_arena.specs.Linked.{knot}
use Rattle.lineage_table.proofs.Keeping.{has_place, remove_parts}
use Rattle.lineage_table.proofs.Pairs.{Pairs}
use Rattle.lineage_table.proofs.Splits.{access_at, before_at, behind_at, put_at}
use Rattle.std.proofs.Common.{insert, remove}

first_at : (r : ℕ) (a : List Access) (x : Access) (b : List Access) → has_access r a ≡ false → is_of r x ≡ true → position_or_len (is_of r) (a ++ x ∷ b) ≡ length a
first_at r [] x b n o = grind (arith, common_steps)
first_at r (y ∷ a) x b n o = grind (arith, common_steps, first_at r a x b)

position_cut : (r : ℕ) (a : List Access) (x : Access) (b : List Access) → has_access r a ≡ false → is_of r x ≡ true → position (is_of r) (a ++ x ∷ b) ≡ Some (length a)
position_cut r a x b n o =
    let within : length a < length (a ++ x ∷ b) = omega (arith, length-append a (x ∷ b)) in
    ap (λ i. cond (nat_lt i (length (a ++ x ∷ b))) (Some i) None) (first_at r a x b n o) ∙ ap (λ t. cond t (Some (length a)) None) (lt-ltb (length a) (length (a ++ x ∷ b)) within)

some_same : (x y : Access) → Some x ≡ Some y → x ≡ y
some_same x y e = cc

apart_runs : (r : ℕ) (y z : Access) → is_of r z ≡ true → AreOfTwoRuns y z → is_of r y ≡ false
apart_runs r y z own two = grind (arith, common_steps)

own_knot : (k : Knot) (x : Access) → is_at k.0 (k, x) ≡ true
own_knot k x = grind (arith, common_steps)

module _ (r : ℕ) (k : Knot) (ps : List (Knot × Access)) (h : CutAtKnot r k ps) (apart : AreApart ps) where
  apart_there : AreApart (h.front ++ (k, h.access) ∷ h.rest)
  apart_there = subst AreApart h.list apart

  values_are : values_of ps ≡ values_of h.front ++ h.access ∷ values_of h.rest
  values_are = ap values_of h.list ∙ values_cut h.front (k, h.access) h.rest

  none_front : has_knot k.0 h.front ≡ false
  none_front = apart_front k.0 h.front (k, h.access) h.rest (own_knot k h.access) apart_there

  none_rest : has_knot k.0 h.rest ≡ false
  none_rest = apart_rest k.0 h.front (k, h.access) h.rest (own_knot k h.access) apart_there

  pub there : has_knot k.0 ps ≡ true
  there = ap (has_knot k.0) h.list ∙ has_cut k.0 h.front (k, h.access) h.rest (own_knot k h.access)

  pub place : position (is_of r) (values_of ps) ≡ Some (length (values_of h.front))
  place = ap (position (is_of r)) values_are ∙ position_cut r (values_of h.front) h.access (values_of h.rest) h.none h.own

  value_there : value_at k.0 ps ≡ Some h.access
  value_there = ap (value_at k.0) h.list ∙ value_cut k.0 h.front (k, h.access) h.rest (own_knot k h.access) none_front

  -- what is read under its knot
  pub read : (x : Access) → value_at k.0 ps ≡ Some x → Some x ≡ access_of r (values_of ps)
  read x e = sym e ∙ value_there ∙ sym (ap (access_of r) values_are ∙ access_at r (values_of h.front) h.access (values_of h.rest) h.none h.own)

  pub read_in_place : (x : Access) → value_at k.0 ps ≡ Some x → x ≡ get_or (values_of ps) (length (values_of h.front)) x
  read_in_place x e =
      some_same x h.access (sym e ∙ value_there) ∙ sym (ap (λ l. get_or l (length (values_of h.front)) x) values_are ∙ get_or_at (values_of h.front) h.access (values_of h.rest) x (length (values_of h.front)) refl)

  -- it is taken out, written, or another one is put before it
  pub taken : values_of (without k.0 ps) ≡ remove (values_of ps) (length (values_of h.front))
  taken =
      ap (λ l. values_of (without k.0 l)) h.list ∙ ap values_of (without_cut k.0 h.front (k, h.access) h.rest (own_knot k h.access) none_front none_rest) ∙ values_join h.front h.rest
      ∙ sym (ap (λ l. remove l (length (values_of h.front))) values_are ∙ remove_parts (values_of h.front) h.access (values_of h.rest) (length (values_of h.front)) refl)

  pub set_in_place : (y : Access) → values_of (set_value k.0 y ps) ≡ set (values_of ps) (length (values_of h.front)) y
  set_in_place y =
      ap (λ l. values_of (set_value k.0 y l)) h.list ∙ ap values_of (set_cut k.0 y h.front (k, h.access) h.rest (own_knot k h.access) none_front none_rest) ∙ values_cut h.front (k, y) h.rest
      ∙ sym (ap (λ l. set l (length (values_of h.front)) y) values_are ∙ set_at (values_of h.front) h.access (values_of h.rest) y (length (values_of h.front)) refl)

  pub put_there : (q : Knot × Access) → values_of (put_before k.0 q ps) ≡ put_before_run r q.1 (values_of ps)
  put_there q =
      ap (λ l. values_of (put_before k.0 q l)) h.list ∙ ap values_of (put_cut k.0 q h.front (k, h.access) h.rest (own_knot k h.access) none_front) ∙ values_cut h.front q ((k, h.access) ∷ h.rest)
      ∙ sym (ap (put_before_run r q.1) values_are ∙ put_at r q.1 (values_of h.front) h.access (values_of h.rest) h.none h.own)

  -- the pairs before it leave, and then it leaves
  from_there : from_knot k.0 ps ≡ (k, h.access) ∷ h.rest
  from_there = ap (from_knot k.0) h.list ∙ from_cut k.0 h.front (k, h.access) h.rest (own_knot k h.access) none_front

  pub left_has : has_knot k.0 (from_knot k.0 ps) ≡ true
  left_has = ap (has_knot k.0) from_there ∙ has_cut k.0 [] (k, h.access) h.rest (own_knot k h.access)

  pub left_value : value_at k.0 (from_knot k.0 ps) ≡ value_at k.0 ps
  left_value = ap (value_at k.0) from_there ∙ value_cut k.0 [] (k, h.access) h.rest (own_knot k h.access) refl ∙ sym value_there

  pub left : values_of (without k.0 (from_knot k.0 ps)) ≡ drop (length (values_of h.front) + 1) (values_of ps)
  left =
      ap (λ l. values_of (without k.0 l)) from_there ∙ ap values_of (without_cut k.0 [] (k, h.access) h.rest (own_knot k h.access) refl none_rest)
      ∙ sym (ap (drop (length (values_of h.front) + 1)) (values_are ∙ sym (append_assoc (values_of h.front) (h.access ∷ []) (values_of h.rest)))
      ∙ drop_at (values_of h.front ++ h.access ∷ []) (values_of h.rest) (length (values_of h.front) + 1) (length-append (values_of h.front) (h.access ∷ [])))

  pub left_length : length (from_knot k.0 ps) ≡ length (values_of (without k.0 (from_knot k.0 ps))) + 1
  left_length =
      let after : values_of (without k.0 (from_knot k.0 ps)) ≡ values_of h.rest = ap (λ l. values_of (without k.0 l)) from_there ∙ ap values_of (without_cut k.0 [] (k, h.access) h.rest (own_knot k h.access) refl none_rest) in
      omega (arith, ap length from_there, ap length after, length_values h.rest)

  pub length_there : length (values_of ps) ≡ length (values_of h.front) + length (from_knot k.0 ps)
  length_there = omega (arith, length_values ps, ap length h.list, length-append h.front ((k, h.access) ∷ h.rest), length_values h.front, ap length from_there)

  -- what stands behind it
  pub behind_there : (o : Option Knot) → IsBehind k o ps → accesses_behind r (values_of ps) ≡ values_of (rest_of o ps)
  behind_there o e =
      ap (accesses_behind r) values_are ∙ behind_at r (values_of h.front) h.access (values_of h.rest) h.none h.own ∙ ap (λ l. values_of (drop 1 l)) (sym from_there ∙ e h.access value_there)

  -- where the accesses are those of a lineage
  pub at_now : (xs : List Access) → values_of ps ≡ xs → position (is_of r) xs ≡ Some (length (values_of h.front))
  at_now xs e = ap (position (is_of r)) (sym e) ∙ place

  pub before_there : accesses_before r (values_of ps) ≡ values_of h.front
  before_there = ap (accesses_before r) values_are ∙ before_at r (values_of h.front) h.access (values_of h.rest) h.none h.own

-- one more pair was looked at
pub seen_list : (ps front next rest : List (Knot × Access)) (q : Knot × Access) → ps ≡ front ++ next → next ≡ q ∷ rest → ps ≡ (front ++ q ∷ []) ++ rest
seen_list ps front next rest q e f = e ∙ ap (λ l. front ++ l) f ∙ sym (append_assoc front (q ∷ []) rest)

-- .. and it is not the run's
pub seen_none : (r : ℕ) (front : List (Knot × Access)) (q : Knot × Access) → has_access r (values_of front) ≡ false → is_of r q.1 ≡ false → has_access r (values_of (front ++ q ∷ [])) ≡ false
seen_none r [] q n o = grind (arith, common_steps)
seen_none r (p ∷ front) q n o = grind (arith, common_steps, seen_none r front q)

-- .. and it is the run's
pub before_cut : (r : ℕ) (ps front next rest : List (Knot × Access)) (q : Knot × Access) → ps ≡ front ++ next → next ≡ q ∷ rest → has_access r (values_of front) ≡ false → is_of r q.1 ≡ true → accesses_before r (values_of ps) ≡ values_of front
before_cut r ps front next rest q e f n o =
    ap (λ l. accesses_before r (values_of l)) (e ∙ ap (λ l. front ++ l) f) ∙ ap (accesses_before r) (values_cut front q rest) ∙ before_at r (values_of front) q.1 (values_of rest) n o

-- .. and whether one of those so far is scheduled
pub seen_waits : (front : List (Knot × Access)) (q : Knot × Access) (b more : Bool) → b ≡ some_scheduled (values_of front) → more ≡ (b || is_scheduled q.1.status) → more ≡ some_scheduled (values_of (front ++ q ∷ []))
seen_waits front q b more was is = is ∙ ap (λ x. x || is_scheduled q.1.status) was ∙ sym (last_waits front)
  where
    last_waits : (a : List (Knot × Access)) → some_scheduled (values_of (a ++ q ∷ [])) ≡ (some_scheduled (values_of a) || is_scheduled q.1.status)
    last_waits [] = grind (arith, common_steps)
    last_waits (p ∷ a) = grind (arith, common_steps, last_waits a)

-- .. and which runs have one
pub seen_has : (n : ℕ) (front : List (Knot × Access)) (q : Knot × Access) → has_access n (values_of (front ++ q ∷ [])) ≡ (has_access n (values_of front) || (n == q.1.run.0))
seen_has n [] q = grind (arith, common_steps)
seen_has n (p ∷ front) q = grind (arith, common_steps, seen_has n front q)

-- a run with no access
pub none_behind_run : (r : ℕ) (xs : List Access) → has_access r xs ≡ false → [] ≡ accesses_behind r xs
none_behind_run r [] n = refl
none_behind_run r (x ∷ xs) n = grind (arith, common_steps, none_behind_run r xs)

pub none_read : (r : ℕ) (xs : List Access) → has_access r xs ≡ false → None ≡ access_of r xs
none_read r [] n = refl
none_read r (x ∷ xs) n = grind (arith, common_steps, none_read r xs)

-- what is folded over the values
pub fold_values : {B : Type 0} (g : B → Access → B) (b : B) (ps : List (Knot × Access)) → fold (λ v (p : Knot × Access). g v p.1) b ps ≡ fold g b (values_of ps)
fold_values g b [] = refl
fold_values g b (p ∷ ps) = fold_values g (g b p.1) ps

-- where no two are of one run, an access that is found under its knot is the run's only one
pub cut_near : (r : ℕ) (k : Knot) (ps : List (Knot × Access)) (x : Access) → Pairs AreOfTwoRuns (values_of ps) → value_at k.0 ps ≡ Some x → is_of r x ≡ true → CutAtKnot r k ps
unfolding Pairs
cut_near r k [] x apart e own = absurd (cc)
cut_near r k (p ∷ ps) x apart e own = at (is_at k.0 p) refl e (λ past. cut_near r k ps x apart.1 past own)
  where
    named : is_at k.0 p ≡ true → p.0 ≡ k
    named here = ap knot (grind (arith, common_steps))

    other : (y : Access) (ys : List (Knot × Access)) → value_at k.0 ys ≡ Some x → AllByRecursion (AreOfTwoRuns y) (values_of ys) → is_of r y ≡ false
    other y [] found all = absurd (cc)
    other y (q ∷ ys) found all = by (is_at k.0 q) found (λ past. other y ys past all.1)
      where
        by : (b : Bool) → (if b then Some q.1 else value_at k.0 ys) ≡ Some x → (value_at k.0 ys ≡ Some x → is_of r y ≡ false) → is_of r y ≡ false
        by true here rest = let same : q.1 ≡ x = some_same q.1 x here in apart_runs r y q.1 (ap (is_of r) same ∙ own) all.0
        by false past rest = rest past

    at : (b : Bool) → is_at k.0 p ≡ b → (if b then Some p.1 else value_at k.0 ps) ≡ Some x → (value_at k.0 ps ≡ Some x → CutAtKnot r k ps) → CutAtKnot r k (p ∷ ps)
    at true here found rest = record { front = []; access = p.1; rest = ps; list = ap (λ j. (j, p.1) ∷ ps) (named here); none = refl; own = ap (is_of r) (some_same p.1 x found) ∙ own }
    at false past found rest =
        let c = rest found in
        record { front = p ∷ c.front; access = c.access; rest = c.rest; list = ap (λ l. p ∷ l) c.list; none = or_from (is_of r p.1) (has_access r (values_of c.front)) (other p.1 ps found apart.0) c.none; own = c.own }

-- the value of a knot is the first one from there on
pub first_from : (j : ℕ) (ps : List (Knot × Access)) (x : Access) → value_at j ps ≡ Some x → slice_get (values_of (from_knot j ps)) 0 ≡ Some x
first_from j [] x e = absurd (cc)
first_from j (p ∷ ps) x e = at (is_at j p) e (first_from j ps x)
  where
    at : (b : Bool) → (if b then Some p.1 else value_at j ps) ≡ Some x → (value_at j ps ≡ Some x → slice_get (values_of (from_knot j ps)) 0 ≡ Some x) → slice_get (values_of (if b then (p ∷ ps) else from_knot j ps)) 0 ≡ Some x
    at true here rest = here
    at false past rest = rest past

no_place : (o : Option ℕ) → is_some o ≡ false → o ≡ None
no_place None e = refl
no_place (Some i) e = absurd (true≢false e)

pub none_placed : (r : ℕ) (xs : List Access) → has_access r xs ≡ false → position (is_of r) xs ≡ None
none_placed r xs n = no_place (position (is_of r) xs) (sym (has_place r xs) ∙ n)
