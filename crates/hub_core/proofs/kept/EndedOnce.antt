-- How many runs have ended, and how many are doomed: no more than there are.
use Rattle.hub_core.proofs.Prelude.{Aborted, Arrived, Bool, Committed, Did, Doomed, End, Ended, Entry, Fell, IsTrue, IsWellFormed, List, None, OfRun, Option, Placed, Reading, Rose, Setting, Some, Undid, [], along, ap, arith, common_steps, cond, count_by, count_cons, entry, false, fold, is_doom, is_end, is_none, is_some, length, may_follow, nothing_read, put, put_keeps, put_other, put_same, refl, suc, true, zero, ℕ, ◌*◌, ◌+◌, ◌<◌, ◌∙◌, ◌∷◌, ◌≡◌, ◌≤◌}
use Rattle.hub_core.proofs.kept.Sizes.{at_most_one, one_if, run_within, sum_below, sum_fits, sum_more, sum_same}

-- of how many of the first runs the test holds
runs_that : (OfRun → Bool) → Reading → ℕ → ℕ
runs_that test n k = sum_below (λ i. one_if (test (n.run (suc i)))) k

-- the same, where it holds of the run as before
as_many : (test : OfRun → Bool) (n m : Reading) (r k : ℕ) (o : OfRun) → m.run ≡ put n.run r o → test o ≡ test (n.run r) → runs_that test m k ≡ runs_that test n k + 0
unfolding runs_that
as_many test n m r k o run same = let all = sum_same (λ i. one_if (test (n.run (suc i)))) (λ i. one_if (test (m.run (suc i)))) k (λ i less. ap (λ f. one_if (test (f (suc i)))) run ∙ ap one_if (put_keeps test n.run r o same (suc i))) in omega (arith, all)

-- the same runs
no_run : (test : OfRun → Bool) (n m : Reading) (k : ℕ) → m.run ≡ n.run → runs_that test m k ≡ runs_that test n k + 0
unfolding runs_that
no_run test n m k run = let same = ap (λ f. sum_below (λ i. one_if (test (f (suc i)))) k) run in omega (arith, same)

-- one more, where it held not of the run, and holds now
one_more : (test : OfRun → Bool) (n m : Reading) (r k : ℕ) (o : OfRun) → (0 < r) × (r ≤ k) → m.run ≡ put n.run r o → test (n.run r) ≡ false → test o ≡ true → runs_that test m k ≡ runs_that test n k + 1
unfolding runs_that one_if
one_more test n m zero k o within run before' now = absurd (omega (arith, within.0))
one_more test n m (suc i) k o within run before' now =
    let then' : one_if (test (m.run (suc i))) ≡ 1 = ap (λ f. one_if (test (f (suc i)))) run ∙ ap (λ x. one_if (test x)) (put_same n.run (suc i) o) ∙ ap one_if now in
    let none : one_if (test (n.run (suc i))) ≡ 0 = ap one_if before' in
    sum_more (λ j. one_if (test (n.run (suc j)))) (λ j. one_if (test (m.run (suc j)))) i k
    (λ j other. ap (λ f. one_if (test (f (suc j)))) run ∙ ap (λ x. one_if (test x)) (put_other n.run (suc i) o (suc j) (λ same. other (omega (arith, same)))))
    (omega (arith, then', none)) (omega (arith, within.1))

-- the runs of which the test holds are as many as the entries that tell so
abbrev IsCounted : (OfRun → Bool) → (Entry → Bool) → Setting → Type 0
IsCounted test tells w = (n : Reading) (e : Entry) → IsTrue (may_follow w n e) → runs_that test (entry w n e) (length w.runs) ≡ runs_that test n (length w.runs) + cond (tells e) 1 0

counted_from : (test : OfRun → Bool) (tells : Entry → Bool) (w : Setting) (n : Reading) (h : List Entry) → IsCounted test tells w → IsTrue (along w (may_follow w) n h) → runs_that test (fold (entry w) n h) (length w.runs) ≡ runs_that test n (length w.runs) + count_by tells h
counted_from test tells w n [] each ok = omega arith
counted_from test tells w n (e ∷ h) each ok =
    let rest = counted_from test tells w (entry w n e) h each (grind (arith, common_steps)) in
    let now = each n e (grind (arith, common_steps)) in
    let more = count_cons tells e h in
    omega (arith, rest, now, more)

-- so such entries are no more than the runs
counted_fits : (test : OfRun → Bool) (tells : Entry → Bool) (w : Setting) (h : List Entry) → IsCounted test tells w → IsWellFormed w h → count_by tells h ≤ length w.runs
unfolding runs_that
counted_fits test tells w h each ok =
    let all = counted_from test tells w (nothing_read w) h each ok in
    let most : sum_below (λ i. one_if (test ((fold (entry w) (nothing_read w) h).run (suc i)))) (length w.runs)
    ≤ length w.runs * 1 = sum_fits (λ i. one_if (test ((fold (entry w) (nothing_read w) h).run (suc i)))) (length w.runs) 1
    (λ i. at_most_one (test ((fold (entry w) (nothing_read w) h).run (suc i)))) in
    omega (arith, all, most)

abbrev has_ended : OfRun → Bool
has_ended o = is_some o.ended

unended : (o : Option End) → is_none o ≡ true → is_some o ≡ false
unended None e = refl
unended (Some x) e = absurd (cc)

ends_counted : (w : Setting) → IsCounted has_ended is_end w
ends_counted w n (Arrived r m) ok = as_many has_ended n (entry w n (Arrived r m)) r.0 (length w.runs) _ refl refl
ends_counted w n (Placed r at m) ok = as_many has_ended n (entry w n (Placed r at m)) r.0 (length w.runs) _ refl refl
ends_counted w n (Did r c a) ok = as_many has_ended n (entry w n (Did r c a)) r.0 (length w.runs) _ refl refl
ends_counted w n (Undid r d drove) ok = as_many has_ended n (entry w n (Undid r d drove)) r.0 (length w.runs) _ refl refl
ends_counted w n (Fell d) ok = no_run has_ended n (entry w n (Fell d)) (length w.runs) refl
ends_counted w n (Rose d) ok = no_run has_ended n (entry w n (Rose d)) (length w.runs) refl
ends_counted w n (Doomed r cause) ok = as_many has_ended n (entry w n (Doomed r cause)) r.0 (length w.runs) _ refl refl
ends_counted w n (Ended r Committed) ok = one_more has_ended n (entry w n (Ended r Committed)) r.0 (length w.runs) _ (run_within w.runs r.0 (grind (arith, common_steps))) refl (unended (n.run r.0).ended (grind (arith, common_steps))) refl
ends_counted w n (Ended r (Aborted cause)) ok = one_more has_ended n (entry w n (Ended r (Aborted cause))) r.0 (length w.runs) _ (run_within w.runs r.0 (grind (arith, common_steps))) refl (unended (n.run r.0).ended (grind (arith, common_steps))) refl

abbrev is_lost : OfRun → Bool
is_lost o = is_some o.doomed

dooms_counted : (w : Setting) → IsCounted is_lost is_doom w
dooms_counted w n (Arrived r m) ok = as_many is_lost n (entry w n (Arrived r m)) r.0 (length w.runs) _ refl refl
dooms_counted w n (Placed r at m) ok = as_many is_lost n (entry w n (Placed r at m)) r.0 (length w.runs) _ refl refl
dooms_counted w n (Did r c a) ok = as_many is_lost n (entry w n (Did r c a)) r.0 (length w.runs) _ refl refl
dooms_counted w n (Undid r d drove) ok = as_many is_lost n (entry w n (Undid r d drove)) r.0 (length w.runs) _ refl refl
dooms_counted w n (Fell d) ok = no_run is_lost n (entry w n (Fell d)) (length w.runs) refl
dooms_counted w n (Rose d) ok = no_run is_lost n (entry w n (Rose d)) (length w.runs) refl
dooms_counted w n (Doomed r cause) ok = one_more is_lost n (entry w n (Doomed r cause)) r.0 (length w.runs) _ (run_within w.runs r.0 (grind (arith, common_steps))) refl (grind (arith, common_steps)) refl
dooms_counted w n (Ended r Committed) ok = as_many is_lost n (entry w n (Ended r Committed)) r.0 (length w.runs) _ refl refl
dooms_counted w n (Ended r (Aborted cause)) ok = as_many is_lost n (entry w n (Ended r (Aborted cause))) r.0 (length w.runs) _ refl refl

pub ends_fit : (w : Setting) (h : List Entry) → IsWellFormed w h → count_by is_end h ≤ length w.runs
ends_fit w h ok = counted_fits has_ended is_end w h (ends_counted w) ok

pub dooms_fit : (w : Setting) (h : List Entry) → IsWellFormed w h → count_by is_doom h ≤ length w.runs
dooms_fit w h ok = counted_fits is_lost is_doom w h (dooms_counted w) ok
