-- Why the accesses stay in the order of a line.
use Rattle.home_types.specs.declared.numbers.RunNo.{RunNo}
use Rattle.lineage_laws.proofs.Prelude.{Access, AllByRecursion, AllPairs, AreInRunOrder, Bool, List, None, Option, RunsDiffer, Some, [], accesses_without, ap, ap₂, arith, common_steps, cond, drop, false, filter, filter-append, filter_agree, find, has_access, if◌then◌else◌, insert, is_one_of_runs, map, next_with_access, not, pairs_from_all, pairs_front, put_access_before, put_before_run, refl, run_no, subst, suc, sym, take, true, without_none, zero, ℕ, ◌&&◌, ◌++◌, ◌==◌, ◌||◌, ◌∙◌, ◌∷◌, ◌≡◌, ◌≢◌}
use Rattle.lineage_table.proofs.Cited.{Pairs}
use Rattle.lineage_table.specs.Accesses.{is_of}
use Rattle.std.proofs.lemmas.Bool.{or_from, or_parts}
use Rattle.std.proofs.lemmas.List.Kept.{AllPairs-filter}
use Rattle.std.proofs.lemmas.List.{append-nil, map-append, take-append-drop}

abbrev run_of : Access → RunNo
run_of x = x.run

abbrev has : List Access → RunNo → Bool
has xs q = has_access q.0 xs

-- Without a run

has_without : (r q : ℕ) (xs : List Access) → has_access q (accesses_without r xs) ≡ (has_access q xs && not (q == r))
has_without r q [] = refl
has_without r q (x ∷ xs) = grind (arith, common_steps, has_without r q xs)

filter_both : (p s : RunNo → Bool) (l : List RunNo) → filter (λ q. p q && s q) l ≡ filter s (filter p l)
filter_both p s [] = refl
filter_both p s (q ∷ l) = grind (arith, common_steps, filter_both p s l)

map_without : (r : ℕ) (xs : List Access) → filter (λ q. not (q.0 == r)) (map run_of xs) ≡ map run_of (accesses_without r xs)
map_without r [] = refl
map_without r (x ∷ xs) = grind (arith, common_steps, map_without r xs)

pub order_without : (runs : List RunNo) (xs : List Access) (r : ℕ) → AreInRunOrder runs xs → AreInRunOrder runs (accesses_without r xs)
order_without runs xs r h =
    filter_agree (has (accesses_without r xs)) (λ q. has xs q && not (q.0 == r)) (λ q. has_without r q.0 xs) runs
    ∙ filter_both (has xs) (λ q. not (q.0 == r)) runs
    ∙ ap (filter (λ q. not (q.0 == r))) h
    ∙ map_without r xs

-- Without a left part

differ : (a b : RunNo) → a ≢ b → (b.0 == a.0) ≡ false
differ a b h = at (b.0 == a.0) refl
  where
    same : (b.0 == a.0) ≡ true → a ≡ b
    same e = ap run_no (grind (arith, common_steps))

    at : (t : Bool) → (b.0 == a.0) ≡ t → (b.0 == a.0) ≡ false
    at true e = absurd (h (same e))
    at false e = e

none_later : (x : Access) (xs : List Access) → AllByRecursion (λ q. x.run ≢ q) (map run_of xs) → has_access x.run.0 xs ≡ false
none_later x [] h = refl
none_later x (y ∷ xs) h = or_from (is_of x.run.0 y) (has_access x.run.0 xs) (differ x.run y.run h.0) (none_later x xs h.1)

runs_differ : (runs : List RunNo) (xs : List Access) → RunsDiffer runs → AreInRunOrder runs xs → Pairs (λ a b. a ≢ b) (map run_of xs)
runs_differ runs xs d h = pairs_from_all (λ a b. a ≢ b) (map run_of xs) (subst (AllPairs (λ a b. a ≢ b)) h (AllPairs-filter (λ a b. a ≢ b) (has xs) runs d))

order_tail : (runs : List RunNo) (x : Access) (xs : List Access) → RunsDiffer runs → AreInRunOrder runs (x ∷ xs) → AreInRunOrder runs xs
unfolding Pairs
order_tail runs x xs d h = subst (AreInRunOrder runs) (first x xs (none_later x xs (runs_differ runs (x ∷ xs) d h).0)) (order_without runs (x ∷ xs) x.run.0 h)
  where
    first : (x : Access) (xs : List Access) → has_access x.run.0 xs ≡ false → accesses_without x.run.0 (x ∷ xs) ≡ xs
    first x xs n = let e = without_none x.run.0 xs n in grind (arith, common_steps)

pub order_drop : (runs : List RunNo) (k : ℕ) (xs : List Access) → RunsDiffer runs → AreInRunOrder runs xs → AreInRunOrder runs (drop k xs)
order_drop runs zero xs d h = h
order_drop runs (suc k) [] d h = h
order_drop runs (suc k) (x ∷ xs) d h = order_drop runs k xs d (order_tail runs x xs d h)

-- With an access put in

has_put_run : (r q : ℕ) (y : Access) (xs : List Access) → has_access q (put_before_run r y xs) ≡ (has_access q xs || is_of q y)
has_put_run r q y [] = grind (arith, common_steps)
has_put_run r q y (x ∷ xs) = grind (arith, common_steps, has_put_run r q y xs)

has_last : (q : ℕ) (y : Access) (xs : List Access) → has_access q (xs ++ y ∷ []) ≡ (has_access q xs || is_of q y)
has_last q y [] = grind (arith, common_steps)
has_last q y (x ∷ xs) = grind (arith, common_steps, has_last q y xs)

has_put : (before : Option RunNo) (q : ℕ) (y : Access) (xs : List Access) → has_access q (put_access_before before y xs) ≡ (has_access q xs || is_of q y)
has_put None q y xs = has_last q y xs
has_put (Some r) q y xs = has_put_run r.0 q y xs

-- among other runs the same ones have an access
same_runs : (y : Access) (xs zs : List Access) (l : List RunNo) → ((q : RunNo) → has zs q ≡ (has xs q || is_of q.0 y)) → is_one_of_runs y.run l ≡ false → filter (has zs) l ≡ filter (has xs) l
same_runs y xs zs [] h n = refl
same_runs y xs zs (q ∷ l) h n =
    let p = or_parts (q.0 == y.run.0) (is_one_of_runs y.run l) n in
    one (has zs q) (has xs q) (is_of q.0 y) (h q) (turned q.0 y.run.0 p.0) (filter (has zs) l) (filter (has xs) l) (same_runs y xs zs l h p.1)
  where
    turned : (a b : ℕ) → (a == b) ≡ false → (b == a) ≡ false
    turned a b e = grind (arith, common_steps)

    one : (a b o : Bool) → a ≡ (b || o) → o ≡ false → (u v : List RunNo) → u ≡ v → cond a (q ∷ u) u ≡ cond b (q ∷ v) v
    one a b o e f u v g = grind (arith, common_steps)

among_parts : (r : RunNo) (a b : List RunNo) → is_one_of_runs r (a ++ b) ≡ false → (is_one_of_runs r a ≡ false) × (is_one_of_runs r b ≡ false)
among_parts r [] b n = (refl, n)
among_parts r (q ∷ a) b n = let p = or_parts (q.0 == r.0) (is_one_of_runs r (a ++ b)) n in let f = among_parts r a b p.1 in (or_from (q.0 == r.0) (is_one_of_runs r a) p.0 f.0, f.1)

put_runs : (y : Access) (xs zs : List Access) (a b : List RunNo) → ((q : RunNo) → has zs q ≡ (has xs q || is_of q.0 y)) → is_one_of_runs y.run (a ++ b) ≡ false
    → filter (has zs) (a ++ y.run ∷ b) ≡ filter (has xs) a ++ y.run ∷ filter (has xs) b
put_runs y xs zs a b h n =
    let p = among_parts y.run a b n in
    filter-append (has zs) a (y.run ∷ b)
    ∙ ap₂ (λ u v. u ++ v) (same_runs y xs zs a h p.0) (here (has zs y.run) (own y (has zs y.run) (has xs y.run) (h y.run)) ∙ ap (λ l. y.run ∷ l) (same_runs y xs zs b h p.1))
  where
    own : (y : Access) (a b : Bool) → a ≡ (b || is_of y.run.0 y) → a ≡ true
    own y a b e = grind (arith, common_steps)

    here : (a : Bool) → a ≡ true → cond a (y.run ∷ filter (has zs) b) (filter (has zs) b) ≡ y.run ∷ filter (has zs) b
    here true e = refl
    here false e = absurd (cc)

find_none : (p : RunNo → Bool) (l : List RunNo) → find p l ≡ None → filter p l ≡ []
find_none p [] h = refl
find_none p (q ∷ l) h = grind (arith, common_steps, find_none p l)

record Found (p : RunNo → Bool) (l : List RunNo) (q : RunNo) : Type 0 where
  pub rest : List RunNo
  pub is : filter p l ≡ q ∷ rest

find_some : (p : RunNo → Bool) (l : List RunNo) (q : RunNo) → find p l ≡ Some q → Found p l q
find_some p [] q h = absurd (cc)
find_some p (u ∷ l) q h = at (p u) (find_some p l q) h refl
  where
    at : (b : Bool) → (find p l ≡ Some q → Found p l q) → cond b (Some u) (find p l) ≡ Some q → p u ≡ b → Found p (u ∷ l) q
    at true f h e = record { rest = filter p l; is = subst (λ b. cond b (u ∷ filter p l) (filter p l) ≡ q ∷ filter p l) (sym e) (ap (λ x. x ∷ filter p l) (same u q h)) }
      where
        same : (u q : RunNo) → Some u ≡ Some q → u ≡ q
        same u q h = cc
    at false f h e = let g = f h in record { rest = g.rest; is = subst (λ b. cond b (u ∷ filter p l) (filter p l) ≡ q ∷ g.rest) (sym e) g.is }

put_run : (q : RunNo) (y : Access) (a b : List RunNo) (xs : List Access) → map run_of xs ≡ a ++ q ∷ b → is_one_of_runs q a ≡ false → map run_of (put_before_run q.0 y xs) ≡ a ++ y.run ∷ q ∷ b
put_run q y [] b [] e n = absurd (cc)
put_run q y (u ∷ a) b [] e n = absurd (cc)
put_run q y [] b (x ∷ xs) e n = first (is_of q.0 x) (own (cc))
  where
    own : x.run ≡ q → is_of q.0 x ≡ true
    own h = grind (arith, common_steps)

    first : (t : Bool) → t ≡ true → map run_of (if t then (y ∷ x ∷ xs) else (x ∷ put_before_run q.0 y xs)) ≡ y.run ∷ q ∷ b
    first true h = ap (λ l. y.run ∷ l) e
    first false h = absurd (cc)
put_run q y (u ∷ a) b (x ∷ xs) e n =
    let p = or_parts (u.0 == q.0) (is_one_of_runs q a) n in
    later (is_of q.0 x) (own (cc) p.0) (cc) (put_run q y a b xs (cc) p.1)
  where
    own : x.run ≡ u → (u.0 == q.0) ≡ false → is_of q.0 x ≡ false
    own h k = grind (arith, common_steps)

    later : (t : Bool) → t ≡ false → x.run ≡ u → map run_of (put_before_run q.0 y xs) ≡ a ++ y.run ∷ q ∷ b → map run_of (if t then (y ∷ x ∷ xs) else (x ∷ put_before_run q.0 y xs)) ≡ u ∷ (a ++ y.run ∷ q ∷ b)
    later true h k f = absurd (cc)
    later false h k f = ap₂ (λ r l. r ∷ l) k f

not_before : (q : RunNo) (a b : List RunNo) → Pairs (λ a b. a ≢ b) (a ++ q ∷ b) → is_one_of_runs q a ≡ false
not_before q a b h = none a (pairs_front (λ a b. a ≢ b) a q b h)
  where
    none : (a : List RunNo) → AllByRecursion (λ u. u ≢ q) a → is_one_of_runs q a ≡ false
    none [] f = refl
    none (u ∷ a) f = or_from (u.0 == q.0) (is_one_of_runs q a) (differ q u (λ e. f.0 (sym e))) (none a f.1)

pub order_put : (runs : List RunNo) (xs : List Access) (place : ℕ) (y : Access) → RunsDiffer runs → AreInRunOrder runs xs → is_one_of_runs y.run runs ≡ false
    → AreInRunOrder (insert runs place y.run) (put_access_before (next_with_access (drop place runs) xs) y xs)
order_put runs xs place y d h n = at (next_with_access (drop place runs) xs) refl
  where
    front : List RunNo
    front = filter (has xs) (take place runs)

    back : List RunNo
    back = filter (has xs) (drop place runs)

    parts : front ++ back ≡ map run_of xs
    parts = sym (filter-append (has xs) (take place runs) (drop place runs)) ∙ ap (filter (has xs)) (take-append-drop place runs) ∙ h

    placed : (o : Option RunNo) → filter (has (put_access_before o y xs)) (insert runs place y.run) ≡ front ++ y.run ∷ back
    placed o = put_runs y xs (put_access_before o y xs) (take place runs) (drop place runs) (λ q. has_put o q.0 y xs) (subst (λ l. is_one_of_runs y.run l ≡ false) (sym (take-append-drop place runs)) n)

    at : (o : Option RunNo) → next_with_access (drop place runs) xs ≡ o → AreInRunOrder (insert runs place y.run) (put_access_before o y xs)
    at None e =
        let none : back ≡ [] = find_none (has xs) (drop place runs) e in
        placed None
        ∙ ap (λ l. front ++ y.run ∷ l) none
        ∙ ap (λ l. l ++ y.run ∷ []) (sym (append-nil front) ∙ ap (λ l. front ++ l) (sym none) ∙ parts)
        ∙ sym (map-append run_of xs (y ∷ []))
    at (Some q) e =
        let g : Found (has xs) (drop place runs) q = find_some (has xs) (drop place runs) q e in
        let whole : map run_of xs ≡ front ++ q ∷ g.rest = sym parts ∙ ap (λ l. front ++ l) g.is in
        placed (Some q)
        ∙ ap (λ l. front ++ y.run ∷ l) g.is
        ∙ sym (put_run q y front g.rest xs whole (not_before q front g.rest (subst (Pairs (λ a b. a ≢ b)) whole (runs_differ runs xs d h))))
