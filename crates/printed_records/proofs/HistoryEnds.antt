-- The ends of a window's runs, and their answers, by what the history says.
use Rattle.printed_records.proofs.Prelude.{Aborted, Answer, AnswersInOrder, AreTyped, Arrived, Bool, Committed, Did, Doomed, End, Ended, Entry, Fell, IsShaped, IsTrue, IsWellFormed, Kept, List, None, OfRun, Option, Placed, PlacedAt, Reading, Rose, Run, RunText, Setting, Some, Undid, WindowText, [], along, answer_by, answer_in, answers_are, answers_of_run, ap, arith, at_place, commands_of, committed_in, common_steps, cons_option, end_is, end_of, ends_told, entries_of, entry, enumerate_from, false, if◌then◌else◌, is_committed, is_committing, is_none, is_run, is_some, length, length-append, map, may_follow, next_of, nothing_read, numbered_answers, numbered_in, option_and_then, option_map, put, put_keeps, reading, refl, shapes, slice_get, slice_get-map, slice_get_within, subst, suc, sym, told_end, told_of, true, unwrap_or, zero, ℕ, ◌++◌, ◌+◌, ◌<◌, ◌==◌, ◌∙◌, ◌∷◌, ◌≡◌}
use Rattle.order_checker.specs.RunLines as checked
use Rattle.printed_records.proofs.ToldEnds.{told_at}
use Rattle.printed_records.proofs.TypedAnswers.{all_suit, all_typed}
use Rattle.std.specs.Prelude.{filter_map}

-- ---- answers

same_answer : (r : ℕ) (e : Entry) → answer_by r e ≡ answer_in r e
same_answer r (Did q c a) = let same : (r == q.0) ≡ (q.0 == r) = grind (arith, common_steps) in ap (λ b. if b then Some a else None) same
same_answer r (Arrived q m) = refl
same_answer r (Placed q at m) = refl
same_answer r (Undid q d driven) = refl
same_answer r (Fell d) = refl
same_answer r (Rose d) = refl
same_answer r (Doomed q k) = refl
same_answer r (Ended q e) = refl

same_answers : (r : ℕ) (h : List Kept) → filter_map (answer_by r) (entries_of h) ≡ answers_of_run r h
unfolding answers_of_run
same_answers r [] = refl
same_answers r (k ∷ h) = ap (λ o. cons_option o (filter_map (answer_by r) (entries_of h))) (same_answer r k.entry) ∙ ap (λ told. cons_option (answer_in r k.entry) told) (same_answers r h)

-- the answers of a run in a history are those of its reading
pub answers_read : (w : Setting) (h : List Kept) (r : ℕ) → ((reading w (entries_of h)).run r).answers ≡ answers_of_run r h
answers_read w h r = answers_are w (entries_of h) r ∙ same_answers r h

-- the answers of a committed run are typed
pub committed_typed : (w : Setting) (h : List Kept) (r : ℕ) → IsWellFormed w (entries_of h) → is_committed (reading w (entries_of h)) r ≡ true
    → AreTyped w.kinds (commands_of w.runs r) (answers_of_run r h)
committed_typed w h r ok done =
    subst (AreTyped w.kinds (commands_of w.runs r)) (answers_read w h r)
    (all_typed w.kinds ((reading w (entries_of h)).run r).answers (commands_of w.runs r) ((shapes w (entries_of h) ok r).whole done) (all_suit w (entries_of h) ok r))

-- ---- in turn

-- what an entry tells in turn
turn_step : (w : Setting) (n : Reading) (e : Entry) (r : ℕ) → IsTrue (may_follow w n e) → numbered_in r e ≡ option_map (λ a. (next_of n r, a)) (answer_in r e)
turn_step w n (Did q c a) r ok = of_bool (q.0 == r) refl
  where
    of_bool : (b : Bool) → (q.0 == r) ≡ b → if◌then◌else◌ {A = Option (ℕ × Answer)} b (Some (c, a)) None ≡ option_map (λ x. (next_of n r, x)) (if b then Some a else None)
    of_bool false e = refl
    of_bool true e =
        let same : q.0 ≡ r = grind (arith, common_steps) in
        let number : c ≡ next_of n q.0 = grind (arith, common_steps) in
        ap (λ k. Some (k, a)) (number ∙ ap (next_of n) same)
turn_step w n (Arrived q m) r ok = refl
turn_step w n (Placed q at m) r ok = refl
turn_step w n (Undid q d driven) r ok = refl
turn_step w n (Fell d) r ok = refl
turn_step w n (Rose d) r ok = refl
turn_step w n (Doomed q k) r ok = refl
turn_step w n (Ended q e) r ok = refl

put_more : (f : ℕ → OfRun) (k r : ℕ) (v : OfRun) (a : Answer) → v.answers ≡ (f k).answers ++ a ∷ [] → length (put f k v r).answers ≡ length (f r).answers + (if is_some (if k == r then Some a else None) then 1 else 0)
put_more f k r v a more = of_bools (r == k) (k == r) refl (grind (arith, common_steps))
  where
    of_bools : (b c : Bool) → (r == k) ≡ b → b ≡ c → length (if b then v else f r).answers ≡ length (f r).answers + (if is_some (if c then Some a else None) then 1 else 0)
    of_bools true true e same = let equal : k ≡ r = grind (arith, common_steps) in ap length more ∙ length-append (f k).answers (a ∷ []) ∙ ap (λ x. length (f x).answers + 1) equal
    of_bools false false e same = omega arith
    of_bools true false e same = absurd (cc)
    of_bools false true e same = absurd (cc)

next_step : (w : Setting) (n : Reading) (e : Entry) (r : ℕ) → next_of (entry w n e) r ≡ next_of n r + (if is_some (answer_in r e) then 1 else 0)
next_step w n (Did q c a) r = put_more n.run q.0 r _ a refl
next_step w n (Arrived q m) r = put_keeps (λ o. length o.answers) n.run q.0 _ refl r ∙ omega arith
next_step w n (Placed q at m) r = put_keeps (λ o. length o.answers) n.run q.0 _ refl r ∙ omega arith
next_step w n (Undid q d driven) r = put_keeps (λ o. length o.answers) n.run q.0 _ refl r ∙ omega arith
next_step w n (Fell d) r = omega arith
next_step w n (Rose d) r = omega arith
next_step w n (Doomed q k) r = put_keeps (λ o. length o.answers) n.run q.0 _ refl r ∙ omega arith
next_step w n (Ended q e) r = put_keeps (λ o. length o.answers) n.run q.0 _ refl r ∙ omega arith

turn_from : (w : Setting) (n : Reading) (h : List Kept) (r : ℕ) → IsTrue (along w (may_follow w) n (entries_of h)) → numbered_answers r h ≡ enumerate_from (next_of n r) (answers_of_run r h)
unfolding numbered_answers answers_of_run
turn_from w n [] r ok = refl
turn_from w n (k ∷ h) r ok = of_answer (answer_in r k.entry) (turn_step w n k.entry r (grind (arith, common_steps))) (next_step w n k.entry r) (turn_from w (entry w n k.entry) h r (grind (arith, common_steps)))
  where
    of_answer : (o : Option Answer) → numbered_in r k.entry ≡ option_map (λ a. (next_of n r, a)) o → next_of (entry w n k.entry) r ≡ next_of n r + (if is_some o then 1 else 0)
        → numbered_answers r h ≡ enumerate_from (next_of (entry w n k.entry) r) (answers_of_run r h)
        → cons_option (numbered_in r k.entry) (numbered_answers r h) ≡ enumerate_from (next_of n r) (cons_option o (answers_of_run r h))
    of_answer None told next rest = ap (λ x. cons_option x (numbered_answers r h)) told ∙ rest ∙ ap (λ i. enumerate_from i (answers_of_run r h)) (next ∙ omega arith)
    of_answer (Some a) told next rest = ap (λ x. cons_option x (numbered_answers r h)) told ∙ ap (λ xs. (next_of n r, a) ∷ xs) (rest ∙ ap (λ i. enumerate_from i (answers_of_run r h)) next)

-- the answers of a run stand in the order of its commands
pub in_turn : (w : Setting) (h : List Kept) (r : ℕ) → IsWellFormed w (entries_of h) → AnswersInOrder r h
in_turn w h r ok = turn_from w (nothing_read w) h r ok

-- ---- ends

get_numbered : {X Y : Type 0} (f : ℕ → Y) (n : ℕ) (xs : List X) (i : ℕ) → slice_get (map (λ ((r, x) : ℕ × X). f r) (enumerate_from n xs)) i ≡ option_map (λ x. f (n + i)) (slice_get xs i)
get_numbered f n [] i = refl
get_numbered f n (x ∷ xs) zero = ap (λ k. Some (f k)) (omega arith)
get_numbered f n (x ∷ xs) (suc i) = get_numbered f (n + 1) xs i ∙ ap (λ k. option_map (λ x. f k) (slice_get xs i)) (omega arith)

-- the end of a run of the window as it is told
pub end_told : (window : WindowText) (h : List Kept) (i : ℕ) → slice_get (ends_told window h) i ≡ option_map (λ x. told_end (suc i) h (end_of h (suc i))) (slice_get window.runs.items i)
unfolding ends_told
end_told window h i =
    let same : 1 + i ≡ suc i = omega arith in
    get_numbered (λ r. told_end r h (end_of h r)) 1 window.runs.items i ∙ ap (λ k. option_map (λ x. told_end k h (end_of h k)) (slice_get window.runs.items i)) same

-- .. where it is one of the window
end_there : (window : WindowText) (h : List Kept) (i : ℕ) → i < length window.runs.items → told_of (ends_told window h) (suc i) ≡ told_end (suc i) h (end_of h (suc i))
end_there window h i within =
    let run = at_place window.runs.items i within in
    told_at (ends_told window h) i ∙ ap (λ o. option_and_then (λ told. told) o) (end_told window h i ∙ ap (λ o. option_map (λ x. told_end (suc i) h (end_of h (suc i))) o) run.1)

-- ---- committed runs

end_committed : (r : ℕ) (h : List Kept) (e : Option End) → unwrap_or (option_map is_committing e) false ≡ true → told_end r h e ≡ Some (answers_of_run r h)
end_committed r h None done = absurd (cc)
end_committed r h (Some Committed) done = refl
end_committed r h (Some (Aborted cause)) done = absurd (cc)

end_some : (r : ℕ) (h : List Kept) (e : Option End) → is_some (told_end r h e) ≡ unwrap_or (option_map is_committing e) false
end_some r h None = refl
end_some r h (Some Committed) = refl
end_some r h (Some (Aborted cause)) = refl

-- a committed run is told with its answers in the history
pub told_committed : (w : Setting) (window : WindowText) (h : List Kept) (i : ℕ) → IsWellFormed w (entries_of h) → i < length window.runs.items
    → is_committed (reading w (entries_of h)) (suc i) ≡ true → told_of (ends_told window h) (suc i) ≡ Some ((reading w (entries_of h)).run (suc i)).answers
told_committed w window h i ok within done =
    end_there window h i within
    ∙ end_committed (suc i) h (end_of h (suc i)) (ap (λ e. unwrap_or (option_map is_committing e) false) (end_is w h (suc i) ok) ∙ done)
    ∙ ap Some (sym (answers_read w h (suc i)))

-- a run that is not of the window is not committed
outside : (w : Setting) (r : ℕ) (o : OfRun) → IsShaped w r o → is_run w.runs r ≡ false → committed_in o ≡ false
outside w r o shape none = of_placed o.placed refl
  where
    of_placed : (placed : Option PlacedAt) → o.placed ≡ placed → committed_in o ≡ false
    of_placed None e = ap (λ end. unwrap_or (option_map is_committing end) false) (shape.going (ap is_none e))
    of_placed (Some p) e = let known = shape.known (shape.arrived (ap is_some e)) in absurd (cc)

-- the runs that are told with answers are the committed ones
pub same_committed : (w : Setting) (window : WindowText) (f : RunText → Run) (h : List Kept) (r : ℕ) → IsWellFormed w (entries_of h) → w.runs ≡ map f window.runs.items
    → checked.is_told_committed (ends_told window h) r ≡ is_committed (reading w (entries_of h)) r
same_committed w window f h zero ok runs = sym (outside w zero ((reading w (entries_of h)).run zero) (shapes w (entries_of h) ok zero) refl)
same_committed w window f h (suc i) ok runs = of_found (slice_get window.runs.items i) refl
  where
    of_found : (found : Option RunText) → slice_get window.runs.items i ≡ found → checked.is_told_committed (ends_told window h) (suc i) ≡ is_committed (reading w (entries_of h)) (suc i)
    of_found (Some run) is =
        ap is_some (end_there window h i (slice_get_within window.runs.items i run is)) ∙ end_some (suc i) h (end_of h (suc i))
        ∙ ap (λ e. unwrap_or (option_map is_committing e) false) (end_is w h (suc i) ok)
    of_found None is =
        let none : is_run w.runs (suc i) ≡ false = ap (λ rs. is_some (slice_get rs i)) runs ∙ ap is_some (slice_get-map f window.runs.items i) ∙ ap (λ o. is_some (option_map f o)) is in
        let told : checked.is_told_committed (ends_told window h) (suc i) ≡ false =
        ap is_some (told_at (ends_told window h) i) ∙ ap (λ o. is_some (option_and_then (λ x. x) o)) (end_told window h i ∙ ap (λ o. option_map (λ x. told_end (suc i) h (end_of h (suc i))) o) is) in
        told ∙ sym (outside w (suc i) ((reading w (entries_of h)).run (suc i)) (shapes w (entries_of h) ok (suc i)) none)

-- a run that is told as committed is told with its answers in the history
pub told_whole : (w : Setting) (window : WindowText) (f : RunText → Run) (h : List Kept) (r : ℕ) → IsWellFormed w (entries_of h) → w.runs ≡ map f window.runs.items
    → checked.is_told_committed (ends_told window h) r ≡ true → told_of (ends_told window h) r ≡ Some ((reading w (entries_of h)).run r).answers
told_whole w window f h zero ok runs told = absurd (cc)
told_whole w window f h (suc i) ok runs told = of_found (slice_get window.runs.items i) refl
  where
    of_found : (found : Option RunText) → slice_get window.runs.items i ≡ found → told_of (ends_told window h) (suc i) ≡ Some ((reading w (entries_of h)).run (suc i)).answers
    of_found (Some run) is = told_committed w window h i ok (slice_get_within window.runs.items i run is) (sym (same_committed w window f h (suc i) ok runs) ∙ told)
    of_found None is =
        let none : checked.is_told_committed (ends_told window h) (suc i) ≡ false =
        ap is_some (told_at (ends_told window h) i) ∙ ap (λ o. is_some (option_and_then (λ x. x) o)) (end_told window h i ∙ ap (λ o. option_map (λ x. told_end (suc i) h (end_of h (suc i))) o) is) in
        absurd (cc)
