-- What the reading says, in words of the entries alone.
use Rattle.history_book.proofs.Prelude.{Answer, Arrived, Did, Doomed, Ended, Entry, Fell, List, None, Option, Placed, Reading, Rose, Setting, Some, Undid, [], answered, ap, append-nil, append_assoc, arith, command_at, common_steps, cons_option, driven, entry, false, filter_map, fold, if◌then◌else◌, is_some, kind_at, nothing_read, option_to_list, put, reading, refl, register_after, sym, true, ℕ, ◌++◌, ◌==◌, ◌||◌, ◌∙◌, ◌∷◌, ◌≡◌}
use Rattle.history_book.proofs.Snoc.{put_keeps}

-- the answer that an entry gives to the run
abbrev pub answer_by : ℕ → Entry → Option Answer
answer_by r (Did q c a) = if r == q.0 then Some a else None
answer_by r (Arrived q m) = None
answer_by r (Placed q at m) = None
answer_by r (Undid q d driven) = None
answer_by r (Fell d) = None
answer_by r (Rose d) = None
answer_by r (Doomed q k) = None
answer_by r (Ended q e) = None

answers_step : (w : Setting) (n : Reading) (e : Entry) (r : ℕ) → ((entry w n e).run r).answers ≡ (n.run r).answers ++ option_to_list (answer_by r e)
answers_step w n (Did q c a) r = elim (r == q.0) as (λ b. (r == q.0) ≡ b → (if b then record (n.run q.0) {
  answers = (n.run q.0).answers ++ a ∷ [];
  register = register_after (command_at w.runs q.0 c).job a (n.run q.0).register;
  answered_doomed = (n.run q.0).answered_doomed || is_some (n.run q.0).doomed;
  on = put (n.run q.0).on (command_at w.runs q.0 c).device.0 (answered (kind_at w.kinds (command_at w.runs q.0 c).device.0) (command_at w.runs q.0 c) (is_some (n.run q.0).doomed) (n.run q.0).register a ((n.run q.0).on (command_at w.runs q.0 c).device.0));
} else n.run r).answers ≡ (n.run r).answers ++ option_to_list (if b then Some a else None)) [
  | true ↦ (λ e. let same : r ≡ q.0 = grind (arith, common_steps) in rw same refl)
  | false ↦ (λ e. sym (append-nil (n.run r).answers))
] refl
answers_step w n (Arrived q m) r = put_keeps (λ o. o.answers) n.run q.0 _ refl r ∙ sym (append-nil (n.run r).answers)
answers_step w n (Placed q at m) r = put_keeps (λ o. o.answers) n.run q.0 _ refl r ∙ sym (append-nil (n.run r).answers)
answers_step w n (Undid q d driven) r = put_keeps (λ o. o.answers) n.run q.0 _ refl r ∙ sym (append-nil (n.run r).answers)
answers_step w n (Fell d) r = sym (append-nil (n.run r).answers)
answers_step w n (Rose d) r = sym (append-nil (n.run r).answers)
answers_step w n (Doomed q k) r = put_keeps (λ o. o.answers) n.run q.0 _ refl r ∙ sym (append-nil (n.run r).answers)
answers_step w n (Ended q e) r = put_keeps (λ o. o.answers) n.run q.0 _ refl r ∙ sym (append-nil (n.run r).answers)

cons_is : {A : Type 0} (o : Option A) (xs : List A) → option_to_list o ++ xs ≡ cons_option o xs
cons_is None xs = refl
cons_is (Some x) xs = refl

answers_from : (w : Setting) (n : Reading) (h : List Entry) (r : ℕ) → ((fold (entry w) n h).run r).answers ≡ (n.run r).answers ++ filter_map (answer_by r) h
answers_from w n [] r = sym (append-nil (n.run r).answers)
answers_from w n (e ∷ h) r =
    answers_from w (entry w n e) h r ∙ ap (λ xs. xs ++ filter_map (answer_by r) h) (answers_step w n e r)
    ∙ append_assoc (n.run r).answers (option_to_list (answer_by r e)) (filter_map (answer_by r) h)
    ∙ ap (λ xs. (n.run r).answers ++ xs) (cons_is (answer_by r e) (filter_map (answer_by r) h))

-- the answers of a run are its answers in the history, in order
pub answers_are : (w : Setting) (h : List Entry) (r : ℕ) → ((reading w h).run r).answers ≡ filter_map (answer_by r) h
answers_are w h r = answers_from w (nothing_read w) h r
