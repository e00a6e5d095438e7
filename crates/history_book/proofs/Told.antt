-- What the book tells of the end, the doom, the placing and the answers of a run is what the history says.
use Rattle.history_book.proofs.KnownRuns.{position_cons}
use Rattle.history_book.proofs.Snoc.{put_keeps}
use Rattle.history_book.proofs.Prelude.{Aborted, Answer, Arrived, Bool, Cause, Committed, Did, Doomed, Ended, Entry, Fell, IsTrue, IsWellFormed, Kept, List, None, OfRun, Option, Placed, PlacedAt, Reading, Rose, Setting, Some, Undid, [], along, answer_count, ap, arith, arrival_in, arrival_of, common_steps, cond, doom_in, doom_of, end_in, end_of, entries_of, entry, false, fold, if◌then◌else◌, is_answer_of, is_none, is_some, length, may_follow, next_of, nothing_read, option_map, option_or, placing_in, placing_of, progress_in, progress_of, put, reading, refl, sum_by-cons, sym, true, ℕ, ◌++◌, ◌+◌, ◌==◌, ◌∙◌, ◌∷◌, ◌≡◌}
use Rattle.std.proofs.lemmas.List.{length-append}

or_none : {T : Type 0} (o : Option T) → o ≡ option_or o None
or_none None = refl
or_none (Some x) = refl

or_or : {T : Type 0} (a b c : Option T) → option_or (option_or a b) c ≡ option_or a (option_or b c)
or_or None b c = refl
or_or (Some x) b c = refl

none_is : {T : Type 0} (o : Option T) → is_none o ≡ true → o ≡ None
none_is None e = refl
none_is (Some x) e = absurd (cc)

no_more : (k : ℕ) → k ≡ k + 0
no_more k = omega arith

-- an entry that leaves this of its run
kept_part : {T : Type 0} (part : OfRun → Option T) (f : ℕ → OfRun) (k r : ℕ) (v : OfRun) → part v ≡ part (f k) → part (put f k v r) ≡ option_or (part (f r)) None
kept_part part f k r v same = at (r == k) refl ∙ or_none (part (f r))
  where
    at : (b : Bool) → (r == k) ≡ b → part (if b then v else f r) ≡ part (f r)
    at true e = let equal : r ≡ k = grind (arith, common_steps) in same ∙ ap (λ x. part (f x)) (sym equal)
    at false e = refl

-- one that tells it of its run for the first time
told_part : {T : Type 0} (part : OfRun → Option T) (f : ℕ → OfRun) (k r : ℕ) (v : OfRun) (x : T) → part v ≡ Some x → part (f k) ≡ None → part (put f k v r) ≡ option_or (part (f r)) (if k == r then Some x else None)
told_part {T} part f k r v x new old = at (r == k) (k == r) refl (grind (arith, common_steps))
  where
    at : (b c : Bool) → (r == k) ≡ b → b ≡ c → part (if b then v else f r) ≡ option_or (part (f r)) (if c then Some x else None)
    at true true e same = let equal : k ≡ r = grind (arith, common_steps) in new ∙ ap (λ o. option_or o (Some x)) (sym old ∙ ap (λ y. part (f y)) equal)
    at false false e same = or_none (part (f r))
    at true false e same = absurd (cc)
    at false true e same = absurd (cc)

end_told : (w : Setting) (n : Reading) (e : Entry) (r : ℕ) → IsTrue (may_follow w n e) → ((entry w n e).run r).ended ≡ option_or (n.run r).ended (end_in r e)
end_told w n (Arrived q m) r ok = kept_part (λ o. o.ended) n.run q.0 r _ refl
end_told w n (Placed q at m) r ok = kept_part (λ o. o.ended) n.run q.0 r _ refl
end_told w n (Did q c a) r ok = kept_part (λ o. o.ended) n.run q.0 r _ refl
end_told w n (Undid q d drove) r ok = kept_part (λ o. o.ended) n.run q.0 r _ refl
end_told w n (Fell d) r ok = or_none (n.run r).ended
end_told w n (Rose d) r ok = or_none (n.run r).ended
end_told w n (Doomed q cause) r ok = kept_part (λ o. o.ended) n.run q.0 r _ refl
end_told w n (Ended q Committed) r ok = told_part (λ o. o.ended) n.run q.0 r _ Committed refl (none_is (n.run q.0).ended (grind (arith, common_steps)))
end_told w n (Ended q (Aborted cause)) r ok = told_part (λ o. o.ended) n.run q.0 r _ (Aborted cause) refl (none_is (n.run q.0).ended (grind (arith, common_steps)))

doom_told : (w : Setting) (n : Reading) (e : Entry) (r : ℕ) → IsTrue (may_follow w n e) → ((entry w n e).run r).doomed ≡ option_or (n.run r).doomed (doom_in r e)
doom_told w n (Arrived q m) r ok = kept_part (λ o. o.doomed) n.run q.0 r _ refl
doom_told w n (Placed q at m) r ok = kept_part (λ o. o.doomed) n.run q.0 r _ refl
doom_told w n (Did q c a) r ok = kept_part (λ o. o.doomed) n.run q.0 r _ refl
doom_told w n (Undid q d drove) r ok = kept_part (λ o. o.doomed) n.run q.0 r _ refl
doom_told w n (Fell d) r ok = or_none (n.run r).doomed
doom_told w n (Rose d) r ok = or_none (n.run r).doomed
doom_told w n (Doomed q cause) r ok = told_part (λ o. o.doomed) n.run q.0 r _ cause refl (none_is (n.run q.0).doomed (unsome (n.run q.0).doomed (grind (arith, common_steps))))
  where
    unsome : (o : Option Cause) → is_some o ≡ false → is_none o ≡ true
    unsome None e = refl
    unsome (Some x) e = absurd (cc)
doom_told w n (Ended q e) r ok = kept_part (λ o. o.doomed) n.run q.0 r _ refl

arrival_told : (w : Setting) (n : Reading) (e : Entry) (r : ℕ) → IsTrue (may_follow w n e) → ((entry w n e).run r).arrived ≡ option_or (n.run r).arrived (arrival_in r e)
arrival_told w n (Arrived q m) r ok = told_part (λ o. o.arrived) n.run q.0 r _ m refl (none_is (n.run q.0).arrived (grind (arith, common_steps)))
arrival_told w n (Placed q at m) r ok = kept_part (λ o. o.arrived) n.run q.0 r _ refl
arrival_told w n (Did q c a) r ok = kept_part (λ o. o.arrived) n.run q.0 r _ refl
arrival_told w n (Undid q d drove) r ok = kept_part (λ o. o.arrived) n.run q.0 r _ refl
arrival_told w n (Fell d) r ok = or_none (n.run r).arrived
arrival_told w n (Rose d) r ok = or_none (n.run r).arrived
arrival_told w n (Doomed q cause) r ok = kept_part (λ o. o.arrived) n.run q.0 r _ refl
arrival_told w n (Ended q e) r ok = kept_part (λ o. o.arrived) n.run q.0 r _ refl

-- the number of entries before the run's placing
abbrev pub stamp_in : OfRun → Option ℕ
stamp_in o = option_map (λ p. p.stamp) o.placed

placing_told : (w : Setting) (n : Reading) (e : Entry) (r : ℕ) → IsTrue (may_follow w n e) → stamp_in ((entry w n e).run r) ≡ option_or (stamp_in (n.run r)) (if is_some (placing_in r e) then Some n.size else None)
placing_told w n (Arrived q m) r ok = kept_part stamp_in n.run q.0 r _ refl
placing_told w n (Placed q at m) r ok = told_part stamp_in n.run q.0 r _ n.size refl (unplaced (n.run q.0).placed (grind (arith, common_steps))) ∙ as_told (q.0 == r)
  where
    unplaced : (o : Option PlacedAt) → is_none o ≡ true → option_map (λ p. p.stamp) o ≡ None
    unplaced None e = refl
    unplaced (Some p) e = absurd (cc)

    as_told : (b : Bool) → option_or (stamp_in (n.run r)) (if b then Some n.size else None) ≡ option_or (stamp_in (n.run r)) (if is_some (if b then Some at else None) then Some n.size else None)
    as_told true = refl
    as_told false = refl
placing_told w n (Did q c a) r ok = kept_part stamp_in n.run q.0 r _ refl
placing_told w n (Undid q d drove) r ok = kept_part stamp_in n.run q.0 r _ refl
placing_told w n (Fell d) r ok = or_none (stamp_in (n.run r))
placing_told w n (Rose d) r ok = or_none (stamp_in (n.run r))
placing_told w n (Doomed q cause) r ok = kept_part stamp_in n.run q.0 r _ refl
placing_told w n (Ended q e) r ok = kept_part stamp_in n.run q.0 r _ refl

one_larger : (w : Setting) (n : Reading) (e : Entry) → (entry w n e).size ≡ n.size + 1
one_larger w n (Arrived q m) = refl
one_larger w n (Placed q at m) = refl
one_larger w n (Did q c a) = refl
one_larger w n (Undid q d drove) = refl
one_larger w n (Fell d) = refl
one_larger w n (Rose d) = refl
one_larger w n (Doomed q cause) = refl
one_larger w n (Ended q e) = refl

end_from : (w : Setting) (n : Reading) (h : List Kept) (r : ℕ) → IsTrue (along w (may_follow w) n (entries_of h)) → ((fold (entry w) n (entries_of h)).run r).ended ≡ option_or (n.run r).ended (end_of h r)
end_from w n [] r ok = or_none (n.run r).ended
end_from w n (k ∷ h) r ok =
    end_from w (entry w n k.entry) h r (grind (arith, common_steps))
    ∙ ap (λ o. option_or o (end_of h r)) (end_told w n k.entry r (grind (arith, common_steps)))
    ∙ or_or (n.run r).ended (end_in r k.entry) (end_of h r)

doom_from : (w : Setting) (n : Reading) (h : List Kept) (r : ℕ) → IsTrue (along w (may_follow w) n (entries_of h)) → ((fold (entry w) n (entries_of h)).run r).doomed ≡ option_or (n.run r).doomed (doom_of h r)
doom_from w n [] r ok = or_none (n.run r).doomed
doom_from w n (k ∷ h) r ok =
    doom_from w (entry w n k.entry) h r (grind (arith, common_steps))
    ∙ ap (λ o. option_or o (doom_of h r)) (doom_told w n k.entry r (grind (arith, common_steps)))
    ∙ or_or (n.run r).doomed (doom_in r k.entry) (doom_of h r)

arrival_from : (w : Setting) (n : Reading) (h : List Kept) (r : ℕ) → IsTrue (along w (may_follow w) n (entries_of h)) → ((fold (entry w) n (entries_of h)).run r).arrived ≡ option_or (n.run r).arrived (arrival_of h r)
arrival_from w n [] r ok = or_none (n.run r).arrived
arrival_from w n (k ∷ h) r ok =
    arrival_from w (entry w n k.entry) h r (grind (arith, common_steps))
    ∙ ap (λ o. option_or o (arrival_of h r)) (arrival_told w n k.entry r (grind (arith, common_steps)))
    ∙ or_or (n.run r).arrived (arrival_in r k.entry) (arrival_of h r)

-- the end of a run, as its history says it
pub end_is : (w : Setting) (h : List Kept) (r : ℕ) → IsWellFormed w (entries_of h) → end_of h r ≡ ((reading w (entries_of h)).run r).ended
end_is w h r ok = sym (end_from w (nothing_read w) h r ok)

-- .. and its doom
pub doom_is : (w : Setting) (h : List Kept) (r : ℕ) → IsWellFormed w (entries_of h) → doom_of h r ≡ ((reading w (entries_of h)).run r).doomed
doom_is w h r ok = sym (doom_from w (nothing_read w) h r ok)

placing_from : (w : Setting) (n : Reading) (h : List Kept) (r : ℕ) → IsTrue (along w (may_follow w) n (entries_of h)) → stamp_in ((fold (entry w) n (entries_of h)).run r) ≡ option_or (stamp_in (n.run r)) (option_map (λ k. n.size + k) (placing_of h r))
placing_from w n [] r ok = or_none (stamp_in (n.run r))
placing_from w n (k ∷ h) r ok =
    placing_from w (entry w n k.entry) h r (grind (arith, common_steps))
    ∙ ap (λ o. option_or o (option_map (λ i. (entry w n k.entry).size + i) (placing_of h r))) (placing_told w n k.entry r (grind (arith, common_steps)))
    ∙ or_or (stamp_in (n.run r)) (if is_some (placing_in r k.entry) then Some n.size else None) _
    ∙ ap (option_or (stamp_in (n.run r))) (further (is_some (placing_in r k.entry)) (placing_of h r) (entry w n k.entry).size (one_larger w n k.entry) ∙ ap (option_map (λ i. n.size + i)) (sym (position_cons (λ (x : Kept). is_some (placing_in r x.entry)) k h)))
  where
    further : (b : Bool) (o : Option ℕ) (size : ℕ) → size ≡ n.size + 1 → option_or (if b then Some n.size else None) (option_map (λ i. size + i) o) ≡ option_map (λ i. n.size + i) (if b then Some 0 else option_map (λ i. i + 1) o)
    further true o size e = ap Some (omega arith)
    further false None size e = refl
    further false (Some i) size e = ap Some (omega (arith, e))

-- .. and how many entries stood before its placing
pub placing_is : (w : Setting) (h : List Kept) (r : ℕ) → IsWellFormed w (entries_of h) → placing_of h r ≡ option_map (λ p. p.stamp) ((reading w (entries_of h)).run r).placed
placing_is w h r ok = counted (placing_of h r) ∙ sym (placing_from w (nothing_read w) h r ok)
  where
    counted : (o : Option ℕ) → o ≡ option_map (λ i. 0 + i) o
    counted None = refl
    counted (Some i) = ap Some (omega arith)

more_answers : (f : ℕ → OfRun) (k r : ℕ) (v : OfRun) (a : Answer) → v.answers ≡ (f k).answers ++ a ∷ [] → length (put f k v r).answers ≡ length (f r).answers + cond (k == r) 1 0
more_answers f k r v a more = at (r == k) (k == r) refl (grind (arith, common_steps))
  where
    at : (b c : Bool) → (r == k) ≡ b → b ≡ c → length (if b then v else f r).answers ≡ length (f r).answers + cond c 1 0
    at true true e same = let equal : k ≡ r = grind (arith, common_steps) in ap length more ∙ length-append (f k).answers (a ∷ []) ∙ ap (λ x. length (f x).answers + 1) equal
    at false false e same = no_more (length (f r).answers)
    at true false e same = absurd (cc)
    at false true e same = absurd (cc)

-- each answer is one more
answer_told : (w : Setting) (n : Reading) (e : Entry) (r : ℕ) → next_of (entry w n e) r ≡ next_of n r + cond (is_answer_of r e) 1 0
answer_told w n (Arrived q m) r = put_keeps (λ o. length o.answers) n.run q.0 _ refl r ∙ no_more (next_of n r)
answer_told w n (Placed q at m) r = put_keeps (λ o. length o.answers) n.run q.0 _ refl r ∙ no_more (next_of n r)
answer_told w n (Did q c a) r = more_answers n.run q.0 r _ a refl
answer_told w n (Undid q d drove) r = put_keeps (λ o. length o.answers) n.run q.0 _ refl r ∙ no_more (next_of n r)
answer_told w n (Fell d) r = no_more (next_of n r)
answer_told w n (Rose d) r = no_more (next_of n r)
answer_told w n (Doomed q cause) r = put_keeps (λ o. length o.answers) n.run q.0 _ refl r ∙ no_more (next_of n r)
answer_told w n (Ended q e) r = put_keeps (λ o. length o.answers) n.run q.0 _ refl r ∙ no_more (next_of n r)

answers_from : (w : Setting) (n : Reading) (h : List Kept) (r : ℕ) → next_of (fold (entry w) n (entries_of h)) r ≡ next_of n r + answer_count h r
answers_from w n [] r = no_more (next_of n r)
answers_from w n (k ∷ h) r =
    let rest = answers_from w (entry w n k.entry) h r in
    let more = answer_told w n k.entry r in
    let all : answer_count (k ∷ h) r ≡ cond (is_answer_of r k.entry) 1 0 + answer_count h r = sum_by-cons (λ (x : Kept). cond (is_answer_of r x.entry) 1 0) k h in
    omega (arith, rest, more, all)

-- .. and the number of its next command
pub answer_count_is : (w : Setting) (h : List Kept) (r : ℕ) → answer_count h r ≡ next_of (reading w (entries_of h)) r
answer_count_is w h r = let counted = answers_from w (nothing_read w) h r in omega (arith, counted)

-- .. so what its entries say of a run is what it says
pub progress_is : (w : Setting) (h : List Kept) (r : ℕ) → IsWellFormed w (entries_of h) → progress_in h r ≡ progress_of ((reading w (entries_of h)).run r)
progress_is w h r ok = λ i. record {
  arrived = sym (arrival_from w (nothing_read w) h r ok) i;
  placed = placing_is w h r ok i;
  answered = answer_count_is w h r i;
  doomed = doom_is w h r ok i;
  ended = end_is w h r ok i;
}
