-- How many runs of a window committed, and how many were aborted: by the history, by the reading, by the ends that are told.
use Rattle.printed_records.proofs.Prelude.{Aborted, Arrived, Bool, Committed, Did, Doomed, End, Ended, Entry, Fell, IsTrue, IsWellFormed, Kept, List, None, OfRun, Option, Placed, Reading, Rose, RunText, Setting, Some, Undid, WindowText, [], along, ap, ap₂, arith, common_steps, cond, count_by, count_cons, end_is, end_of, ends_told, entries_of, entry, enumerate_from, false, fold, is_abort, is_commit, is_run, is_some, length, list_all, map, may_follow, none_is, nothing_read, put, put_keeps, range_with_len, reading, refl, run_numbers, suc, sym, told_end, true, true≢false, zero, ℕ, ◌+◌, ◌<◌, ◌==◌, ◌∙◌, ◌∷◌, ◌≡◌, ◌≤◌}
use Rattle.printed_records.proofs.CausesKept.{run-among}

-- the end is a commit
abbrev pub commits : Option End → Bool
commits None = false
commits (Some Committed) = true
commits (Some (Aborted cause)) = false

-- the end is an abort
abbrev pub aborts : Option End → Bool
aborts None = false
aborts (Some Committed) = false
aborts (Some (Aborted cause)) = true

count-same : (p q : ℕ → Bool) (xs : List ℕ) → ((r : ℕ) → p r ≡ q r) → count_by p xs ≡ count_by q xs
count-same p q [] same = refl
count-same p q (x ∷ xs) same =
    count_cons p x xs ∙ ap₂ (λ b k. cond b 1 0 + k) (same x) (count-same p q xs same) ∙ sym (count_cons q x xs)

-- two tests that differ at one number alone count the same behind it
count-past : (p q : ℕ → Bool) (k a m : ℕ) → ((r : ℕ) → (r == k) ≡ false → p r ≡ q r) → k < a → count_by p (range_with_len a m) ≡ count_by q (range_with_len a m)
count-past p q k a zero same past = refl
count-past p q k a (suc m) same past =
    let other : (a == k) ≡ false = grind (arith, common_steps) in
    count_cons p a (range_with_len (a + 1) m) ∙ ap₂ (λ b n. cond b 1 0 + n) (same a other) (count-past p q k (a + 1) m same (omega arith)) ∙ sym (count_cons q a (range_with_len (a + 1) m))

-- .. and one more where it is among the numbers
count-one : (p q : ℕ → Bool) (k a m : ℕ) → p k ≡ true → q k ≡ false → ((r : ℕ) → (r == k) ≡ false → p r ≡ q r) → a ≤ k → k < a + m
    → count_by p (range_with_len a m) ≡ count_by q (range_with_len a m) + 1
count-one p q k a zero is not_yet same low high = absurd (omega arith)
count-one p q k a (suc m) is not_yet same low high = by (λ later. count-one p q k (a + 1) m is not_yet same later (omega arith)) (a == k) refl
  where
    by : (a + 1 ≤ k → count_by p (range_with_len (a + 1) m) ≡ count_by q (range_with_len (a + 1) m) + 1) → (b : Bool) → (a == k) ≡ b → count_by p (range_with_len a (suc m)) ≡ count_by q (range_with_len a (suc m)) + 1
    by behind true here =
        let equal : a ≡ k = grind (arith, common_steps) in
        let first : ◌≡◌ {A = ℕ} (cond (p a) 1 0) 1 = ap (λ n. cond (p n) 1 0) equal ∙ ap (λ b. cond b 1 0) is in
        let before : ◌≡◌ {A = ℕ} (cond (q a) 1 0) 0 = ap (λ n. cond (q n) 1 0) equal ∙ ap (λ b. cond b 1 0) not_yet in
        let rest = count-past p q k (a + 1) m same (omega (arith, equal)) in
        omega (arith, count_cons p a (range_with_len (a + 1) m), count_cons q a (range_with_len (a + 1) m), first, before, rest)
    by behind false other =
        let first : ◌≡◌ {A = ℕ} (cond (p a) 1 0) (cond (q a) 1 0) = ap (λ b. cond b 1 0) (same a other) in
        let later : a + 1 ≤ k = grind (arith, common_steps) in
        let rest = behind later in
        omega (arith, count_cons p a (range_with_len (a + 1) m), count_cons q a (range_with_len (a + 1) m), first, rest)

-- how many runs have ended so
abbrev tally : (Option End → Bool) → Setting → Reading → ℕ
tally t w n = count_by (λ r. t (n.run r).ended) (run_numbers w)

-- the entry ends a run so
abbrev ends_so : (Option End → Bool) → Entry → Bool
ends_so t (Ended r end) = t (Some end)
ends_so t (Arrived r m) = false
ends_so t (Placed r at m) = false
ends_so t (Did r c a) = false
ends_so t (Undid r d drove) = false
ends_so t (Fell d) = false
ends_so t (Rose d) = false
ends_so t (Doomed r cause) = false

-- an entry that leaves the end of its run
kept-tally : (t : Option End → Bool) (w : Setting) (n : Reading) (k : ℕ) (v : OfRun) → v.ended ≡ (n.run k).ended
    → count_by (λ r. t (put n.run k v r).ended) (run_numbers w) ≡ tally t w n + 0
kept-tally t w n k v same =
    let kept = count-same (λ r. t (put n.run k v r).ended) (λ r. t (n.run r).ended) (run_numbers w) (put_keeps (λ o. t o.ended) n.run k v (ap t same)) in
    omega (arith, kept)

put-at : (f : ℕ → OfRun) (k : ℕ) (v : OfRun) → put f k v k ≡ v
put-at f k v = let same : (k == k) ≡ true = grind (arith, common_steps) in rw same refl

put-other : (f : ℕ → OfRun) (k : ℕ) (v : OfRun) (r : ℕ) → (r == k) ≡ false → put f k v r ≡ f r
put-other f k v r other = rw other refl

-- an entry that ends its run
ended-tally : (t : Option End → Bool) (w : Setting) (n : Reading) (k : ℕ) (end : End) → t None ≡ false → is_run w.runs k ≡ true → (n.run k).ended ≡ None
    → count_by (λ r. t (put n.run k (record (n.run k) { ended = Some end }) r).ended) (run_numbers w) ≡ tally t w n + cond (t (Some end)) 1 0
ended-tally t w n k end nothing is live = by (t (Some end)) refl
  where
    v : OfRun
    v = record (n.run k) { ended = Some end }

    p : ℕ → Bool
    p = λ r. t (put n.run k v r).ended

    q : ℕ → Bool
    q = λ r. t (n.run r).ended

    before : q k ≡ false
    before = ap t live ∙ nothing

    by : (b : Bool) → t (Some end) ≡ b → count_by p (run_numbers w) ≡ tally t w n + cond b 1 0
    by true so =
        let among = run-among w k is in
        count-one p q k 1 (length w.runs) (ap (λ (o : OfRun). t o.ended) (put-at n.run k v) ∙ so) before (λ r other. ap (λ (o : OfRun). t o.ended) (put-other n.run k v r other)) among.0 (omega (arith, among.1))
    by false so =
        let kept = count-same p q (run_numbers w) (put_keeps (λ o. t o.ended) n.run k v (so ∙ sym before)) in
        omega (arith, kept)

no-more : (k : ℕ) → k ≡ k + 0
no-more k = omega arith

tally-step : (t : Option End → Bool) (w : Setting) (n : Reading) (e : Entry) → t None ≡ false → IsTrue (may_follow w n e)
    → tally t w (entry w n e) ≡ tally t w n + cond (ends_so t e) 1 0
tally-step t w n (Arrived r m) nothing ok = kept-tally t w n r.0 _ refl
tally-step t w n (Placed r at m) nothing ok = kept-tally t w n r.0 _ refl
tally-step t w n (Did r c a) nothing ok = kept-tally t w n r.0 _ refl
tally-step t w n (Undid r d drove) nothing ok = kept-tally t w n r.0 _ refl
tally-step t w n (Fell d) nothing ok = no-more (tally t w n)
tally-step t w n (Rose d) nothing ok = no-more (tally t w n)
tally-step t w n (Doomed r cause) nothing ok = kept-tally t w n r.0 _ refl
tally-step t w n (Ended r Committed) nothing ok =
    ended-tally t w n r.0 Committed nothing (grind (arith, common_steps)) (none_is (n.run r.0).ended (grind (arith, common_steps)))
tally-step t w n (Ended r (Aborted cause)) nothing ok =
    ended-tally t w n r.0 (Aborted cause) nothing (grind (arith, common_steps)) (none_is (n.run r.0).ended (grind (arith, common_steps)))

tally-from : (t : Option End → Bool) (w : Setting) (n : Reading) (h : List Kept) → t None ≡ false → IsTrue (along w (may_follow w) n (entries_of h))
    → tally t w (fold (entry w) n (entries_of h)) ≡ tally t w n + count_by (λ kept. ends_so t kept.entry) h
tally-from t w n [] nothing ok = no-more (tally t w n)
tally-from t w n (kept ∷ h) nothing ok =
    let rest = tally-from t w (entry w n kept.entry) h nothing (grind (arith, common_steps)) in
    let step = tally-step t w n kept.entry nothing (grind (arith, common_steps)) in
    omega (arith, rest, step, count_cons (λ (k : Kept). ends_so t k.entry) kept h)

none-so : (t : Option End → Bool) (xs : List ℕ) → t None ≡ false → count_by (λ r. t None) xs ≡ 0
none-so t [] nothing = refl
none-so t (x ∷ xs) nothing =
    let first : ◌≡◌ {A = ℕ} (cond (t None) 1 0) 0 = ap (λ b. cond b 1 0) nothing in
    omega (arith, count_cons (λ (r : ℕ). t None) x xs, first, none-so t xs nothing)

-- as many runs have ended so as entries end one so
tally-history : (t : Option End → Bool) (w : Setting) (h : List Kept) → t None ≡ false → IsWellFormed w (entries_of h)
    → tally t w (reading w (entries_of h)) ≡ count_by (λ kept. ends_so t kept.entry) h
tally-history t w h nothing ok =
    let all = tally-from t w (nothing_read w) h nothing ok in
    omega (arith, all, none-so t (run_numbers w) nothing)

same-commit : (e : Entry) → ends_so commits e ≡ is_commit e
same-commit (Ended r Committed) = refl
same-commit (Ended r (Aborted cause)) = refl
same-commit (Arrived r m) = refl
same-commit (Placed r at m) = refl
same-commit (Did r c a) = refl
same-commit (Undid r d drove) = refl
same-commit (Fell d) = refl
same-commit (Rose d) = refl
same-commit (Doomed r cause) = refl

same-abort : (e : Entry) → ends_so aborts e ≡ is_abort e
same-abort (Ended r Committed) = refl
same-abort (Ended r (Aborted cause)) = refl
same-abort (Arrived r m) = refl
same-abort (Placed r at m) = refl
same-abort (Did r c a) = refl
same-abort (Undid r d drove) = refl
same-abort (Fell d) = refl
same-abort (Rose d) = refl
same-abort (Doomed r cause) = refl

count-entries : (p q : Entry → Bool) (h : List Kept) → ((e : Entry) → p e ≡ q e) → count_by (λ kept. p kept.entry) h ≡ count_by (λ kept. q kept.entry) h
count-entries p q [] same = refl
count-entries p q (kept ∷ h) same =
    count_cons (λ (k : Kept). p k.entry) kept h ∙ ap₂ (λ b k. cond b 1 0 + k) (same kept.entry) (count-entries p q h same) ∙ sym (count_cons (λ (k : Kept). q k.entry) kept h)

told-some : (r : ℕ) (h : List Kept) (e : Option End) → is_some (told_end r h e) ≡ commits e
told-some r h None = refl
told-some r h (Some Committed) = refl
told-some r h (Some (Aborted cause)) = refl

told-from : (w : Setting) (h : List Kept) (k : ℕ) (runs : List RunText) → IsWellFormed w (entries_of h)
    → count_by is_some (map (λ (r, run). told_end r h (end_of h r)) (enumerate_from k runs)) ≡ count_by (λ r. commits ((reading w (entries_of h)).run r).ended) (range_with_len k (length runs))
told-from w h k [] ok = refl
told-from w h k (run ∷ runs) ok =
    let first : is_some (told_end k h (end_of h k)) ≡ commits ((reading w (entries_of h)).run k).ended = told-some k h (end_of h k) ∙ ap commits (end_is w h k ok) in
    count_cons is_some (told_end k h (end_of h k)) (map (λ (r, run). told_end r h (end_of h r)) (enumerate_from (k + 1) runs))
    ∙ ap₂ (λ b n. cond b 1 0 + n) first (told-from w h (k + 1) runs ok)
    ∙ sym (count_cons (λ r. commits ((reading w (entries_of h)).run r).ended) k (range_with_len (k + 1) (length runs)))

-- the ends that are told are as many as the commits of the history
pub ends-committed : (w : Setting) (window : WindowText) (h : List Kept) → IsWellFormed w (entries_of h) → length w.runs ≡ length window.runs.items
    → count_by is_some (ends_told window h) ≡ count_by (λ kept. is_commit kept.entry) h
unfolding ends_told
ends-committed w window h ok same =
    told-from w h 1 window.runs.items ok
    ∙ ap (λ m. count_by (λ r. commits ((reading w (entries_of h)).run r).ended) (range_with_len 1 m)) (sym same)
    ∙ tally-history commits w h refl ok ∙ count-entries (ends_so commits) is_commit h same-commit

either-end : (o : Option End) → is_some o ≡ true → cond (commits o) 1 0 + cond (aborts o) 1 0 ≡ 1
either-end None is = absurd (true≢false (sym is))
either-end (Some Committed) is = refl
either-end (Some (Aborted cause)) is = refl

ended-from : (f : ℕ → OfRun) (a m : ℕ) → list_all (λ r. is_some (f r).ended) (range_with_len a m) ≡ true
    → m ≡ count_by (λ r. commits (f r).ended) (range_with_len a m) + count_by (λ r. aborts (f r).ended) (range_with_len a m)
ended-from f a zero all = refl
ended-from f a (suc m) all =
    let first : cond (commits (f a).ended) 1 0 + cond (aborts (f a).ended) 1 0 ≡ 1 = either-end (f a).ended (grind (arith, common_steps)) in
    let rest = ended-from f (a + 1) m (grind (arith, common_steps)) in
    omega (arith, first, rest, count_cons (λ r. commits (f r).ended) a (range_with_len (a + 1) m), count_cons (λ r. aborts (f r).ended) a (range_with_len (a + 1) m))

-- where each run has ended, the runs are as many as the commits and the aborts of the history
pub all-ended : (w : Setting) (h : List Kept) → IsWellFormed w (entries_of h) → list_all (λ r. is_some ((reading w (entries_of h)).run r).ended) (run_numbers w) ≡ true
    → length w.runs ≡ count_by (λ kept. is_commit kept.entry) h + count_by (λ kept. is_abort kept.entry) h
all-ended w h ok all =
    let split = ended-from (reading w (entries_of h)).run 1 (length w.runs) all in
    let committed = tally-history commits w h refl ok ∙ count-entries (ends_so commits) is_commit h same-commit in
    let aborted = tally-history aborts w h refl ok ∙ count-entries (ends_so aborts) is_abort h same-abort in
    omega (arith, split, committed, aborted)
