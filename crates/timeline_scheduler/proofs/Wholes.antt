-- The next accesses of a run tell the planned end of the whole run.
use Rattle.timeline_scheduler.proofs.Prelude.{Alone, Bool, EachTail, Grips, Item, LineageState, List, Option, Ran, Reading, RunNo, Setting, [], access_of, accesses_at, ap, arith, common_steps, cond, end_of_access, eq-eqb, false, filter, fold, has_access, if◌then◌else◌, is_live, is_overwritten, is_ran, length, list_any, max, not, passed_by, planned_end, range_with_len, refl, suc, sym, touches, true, whole_end, whole_passed, zero, ℕ, ◌&&◌, ◌++◌, ◌+◌, ◌<◌, ◌∙◌, ◌∷◌, ◌≡◌}
use Rattle.history_book.specs.Lines.{behind}
use Rattle.lineage_table.specs.declared.accesses.Access.{Access}
use Rattle.lock_leasing.specs.Order.{covers}
use Rattle.timeline_scheduler.proofs.Frees.{AreOfLine, Found, Other, Own, any_behind, found_in, max_none, none_of}

-- Folds

fold_filter : (f : ℕ → ℕ → ℕ) (p : ℕ → Bool) (t : ℕ) (xs : List ℕ) → fold f t (filter p xs) ≡ fold (λ u d. if p d then f u d else u) t xs
fold_filter f p t [] = refl
fold_filter f p t (x ∷ xs) = by_test (p x) (λ u. fold_filter f p u xs)
  where
    by_test : (b : Bool) → ((u : ℕ) → fold f u (filter p xs) ≡ fold (λ v d. if p d then f v d else v) u xs) → fold f t (cond b (x ∷ filter p xs) (filter p xs)) ≡ fold (λ v d. if p d then f v d else v) (if b then f t x else t) xs
    by_test true rest = rest (f t x)
    by_test false rest = rest t

fold_alike : (f h : ℕ → ℕ → ℕ) (a n : ℕ) → ((t d : ℕ) → d < a + n → f t d ≡ h t d) → (t : ℕ) → fold f t (range_with_len a n) ≡ fold h t (range_with_len a n)
fold_alike f h a zero same t = refl
fold_alike f h a (suc n) same t = ap (λ u. fold f u (range_with_len (a + 1) n)) (same t a (omega arith)) ∙ fold_alike f h (a + 1) n (λ u d within. same u d (omega (arith, within))) (h t a)

fold_stays : (t : ℕ) (xs : List ℕ) → fold (λ u d. u) t xs ≡ t
fold_stays t [] = refl
fold_stays t (x ∷ xs) = fold_stays t xs

-- What stands behind a run of a line in which no run stands twice

behind_is : (q : RunNo) (front is : List Item) → EachTail Alone (front ++ Ran q ∷ is) → behind q.0 (front ++ Ran q ∷ is) ≡ is
behind_is q [] is alone = ap (λ b. if b then is else behind q.0 is) (eq-eqb q.0 q.0 refl)
behind_is q (i ∷ front) is alone = by_test (is_ran q.0 i) refl (behind_is q front is alone.1)
  where
    by_test : (b : Bool) → is_ran q.0 i ≡ b → behind q.0 (front ++ Ran q ∷ is) ≡ is → (if b then front ++ Ran q ∷ is else behind q.0 (front ++ Ran q ∷ is)) ≡ is
    by_test true e rest = absurd (cc (alone.0 q.0 e, any_behind q front is))
    by_test false e rest = rest

module _ (w : Setting) (n : Reading) (g : Grips) (table : List LineageState) (q : RunNo) (front is : List Item) (cut : n.line ≡ front ++ Ran q ∷ is)
    (alone : EachTail Alone (front ++ Ran q ∷ is)) (size : length table ≡ length w.first)
    (lines : (d : ℕ) → d < length w.first → AreOfLine w n g d (accesses_at table d)) where
  abbrev next : ℕ → Option Access
  next d = access_of q.0 (accesses_at table d)

  abbrev has : ℕ → Bool
  has d = has_access q.0 (accesses_at table d)

  abbrev counts : ℕ → Bool
  counts d = not (passed_by w n q.0 d) && not (is_overwritten n q.0 d)

  abbrev end_at : ℕ → ℕ
  end_at d = planned_end (n.run q.0).planned d

  overwritten : (d : ℕ) → is_overwritten n q.0 d ≡ list_any (covers n d) is
  overwritten d = ap (λ l. list_any (covers n d) (behind q.0 l)) cut ∙ ap (list_any (covers n d)) (behind_is q front is alone)

  any_next : (t d : ℕ) → (if has d then max t (end_of_access (next d)) else t) ≡ max t (end_of_access (next d))
  any_next t d = by_test (has_access q.0 (accesses_at table d)) refl
    where
      by_test : (b : Bool) → has_access q.0 (accesses_at table d) ≡ b → (if b then max t (end_of_access (next d)) else t) ≡ max t (end_of_access (next d))
      by_test true e = refl
      by_test false e = sym (ap (λ o. max t (end_of_access o)) (none_of q.0 (accesses_at table d) e) ∙ max_none t)

  tells : (d : ℕ) → d < length w.first → Found w n g d q.0 is (accesses_at table d)
  tells d within = found_in w n g d q front is (accesses_at table d) cut alone (lines d within)

  one_live : is_live n q.0 ≡ true → (t d : ℕ) → d < length w.first → max t (end_of_access (next d)) ≡ (if touches w.runs q.0 d then (if counts d then max t (end_at d) else t) else t)
  one_live live t d within = by_next (tells d within)
    where
      counted : (a b : Bool) → touches w.runs q.0 d ≡ a → counts d ≡ b → a ≡ true → b ≡ true → max t (end_at d) ≡ (if touches w.runs q.0 d then (if counts d then max t (end_at d) else t) else t)
      counted a b on count yes' also = sym (ap (λ c. if c then (if counts d then max t (end_at d) else t) else t) (on ∙ yes') ∙ ap (λ c. if c then max t (end_at d) else t) (count ∙ also))

      touched : (a b c : Bool) → (is_live n q.0 && a && not b && not c) ≡ true → a ≡ true
      touched a b c e = grind (arith, common_steps)

      unpassed : (a b c : Bool) → (is_live n q.0 && a && not b && not c) ≡ true → (not b && not c) ≡ true
      unpassed a b c e = grind (arith, common_steps)

      uncounted : (a b c : Bool) → (is_live n q.0 && a && not b && not c) ≡ false → is_live n q.0 ≡ true → t ≡ (if a then (if not b && not c then max t (end_at d) else t) else t)
      uncounted true true c e h = refl
      uncounted true false true e h = refl
      uncounted true false false e h = absurd (grind (arith, common_steps))
      uncounted false b c e h = refl

      by_next : Found w n g d q.0 is (accesses_at table d) → max t (end_of_access (next d)) ≡ (if touches w.runs q.0 d then (if counts d then max t (end_at d) else t) else t)
      by_next (Own x rest found its own tells) =
          ap (λ o. max t (end_of_access o)) found ∙ ap (max t) (tells.to ∙ ap (λ k. planned_end (n.run k).planned d) own)
          ∙ counted (touches w.runs q.0 d) (counts d) refl refl (touched (touches w.runs q.0 d) (passed_by w n q.0 d) (list_any (covers n d) is) its)
          (ap (λ c. not (passed_by w n q.0 d) && not c) (overwritten d) ∙ unpassed (touches w.runs q.0 d) (passed_by w n q.0 d) (list_any (covers n d) is) its)
      by_next (Other none lacks) =
          ap (λ o. max t (end_of_access o)) none ∙ max_none t ∙ uncounted (touches w.runs q.0 d) (passed_by w n q.0 d) (list_any (covers n d) is) lacks live
          ∙ ap (λ c. if touches w.runs q.0 d then (if not (passed_by w n q.0 d) && not c then max t (end_at d) else t) else t) (sym (overwritten d))

  one_dead : is_live n q.0 ≡ false → (t d : ℕ) → d < length w.first → max t (end_of_access (next d)) ≡ t
  one_dead dead t d within = by_next (tells d within)
    where
      lives : (a b c : Bool) → (is_live n q.0 && a && not b && not c) ≡ true → is_live n q.0 ≡ true
      lives a b c e = grind (arith, common_steps)

      by_next : Found w n g d q.0 is (accesses_at table d) → max t (end_of_access (next d)) ≡ t
      by_next (Own x rest found its own tells) = absurd (cc (lives (touches w.runs q.0 d) (passed_by w n q.0 d) (list_any (covers n d) is) its, dead))
      by_next (Other none lacks) = ap (λ o. max t (end_of_access o)) none ∙ max_none t

  by_devices : whole_passed table q.0 ≡ fold (λ t d. max t (end_of_access (next d))) 0 (range_with_len 0 (length w.first))
  by_devices =
      fold_filter (λ t d. max t (end_of_access (next d))) has 0 (range_with_len 0 (length table))
      ∙ ap (λ k. fold (λ t d. if has d then max t (end_of_access (next d)) else t) 0 (range_with_len 0 k)) size
      ∙ fold_alike (λ t d. if has d then max t (end_of_access (next d)) else t) (λ t d. max t (end_of_access (next d))) 0 (length w.first) (λ t d within. any_next t d) 0

  pub whole_is : whole_passed table q.0 ≡ (if is_live n q.0 then whole_end w n q.0 else 0)
  whole_is = by_devices ∙ by_live (is_live n q.0) refl
    where
      by_live : (b : Bool) → is_live n q.0 ≡ b → fold (λ t d. max t (end_of_access (next d))) 0 (range_with_len 0 (length w.first)) ≡ (if b then whole_end w n q.0 else 0)
      by_live true live =
          fold_alike (λ t d. max t (end_of_access (next d))) (λ t d. if touches w.runs q.0 d then (if counts d then max t (end_at d) else t) else t) 0 (length w.first) (λ t d within. one_live live t d (omega (arith, within))) 0
          ∙ sym (fold_filter (λ t d. if counts d then max t (end_at d) else t) (touches w.runs q.0) 0 (range_with_len 0 (length w.first)))
      by_live false dead = fold_alike (λ t d. max t (end_of_access (next d))) (λ t d. t) 0 (length w.first) (λ t d within. one_dead dead t d (omega (arith, within))) 0 ∙ fold_stays 0 (range_with_len 0 (length w.first))
