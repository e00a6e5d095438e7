-- The first live run of which a test holds, where it stands in the first part of a line.
use Rattle.command_rules.specs.Items.{is_ran}
use Rattle.jit_scheduler.proofs.Prelude.{Back, Bool, Failed, Item, List, None, Option, Ran, Reading, RunNo, Some, [], ap, arith, common_steps, cond, cons_option, false, find, if◌then◌else◌, is_live, length, list_any, live_runs, nat_lt, not, option_and_then, option_map, position, prefix_len, refl, subst, suc, sym, take, true, unwrap_or, zero, ℕ, ◌&&◌, ◌+◌, ◌==◌, ◌||◌, ◌∙◌, ◌∷◌, ◌≡◌}

-- the first place at which a test passes is below a number where some of so many items pass

abbrev is_below : ℕ → Option ℕ → Bool
is_below k place = unwrap_or (option_map (λ at. nat_lt at k) place) false

never_below : (place : Option ℕ) → is_below zero place ≡ false
never_below None = refl
never_below (Some at) = grind (arith, common_steps)

one_further : (j l k : ℕ) → is_below (suc k) (cond (nat_lt (suc j) (suc l)) (Some (suc j)) None) ≡ is_below k (cond (nat_lt j l) (Some j) None)
one_further j l k = at (nat_lt j l) (nat_lt (suc j) (suc l)) (grind (arith, common_steps))
  where
    at : (b c : Bool) → c ≡ b → is_below (suc k) (cond c (Some (suc j)) None) ≡ is_below k (cond b (Some j) None)
    at true true e = grind (arith, common_steps)
    at false false e = refl
    at true false e = absurd (cc)
    at false true e = absurd (cc)

one_more : (j : ℕ) → 1 + j ≡ suc j
one_more j = omega arith

at_front : (l k : ℕ) → is_below (suc k) (cond (nat_lt 0 (suc l)) (Some 0) None) ≡ true
at_front l k =
    let some : nat_lt 0 (suc l) ≡ true = grind (arith, common_steps) in
    let below : nat_lt 0 (suc k) ≡ true = grind (arith, common_steps) in
    ap (λ b. is_below (suc k) (cond b (Some 0) None)) some ∙ below

pub position_among : {A : Type 0} (p : A → Bool) (xs : List A) (k : ℕ) → unwrap_or (option_map (λ at. nat_lt at k) (position p xs)) false ≡ list_any p (take k xs)
position_among p xs zero = never_below (position p xs)
position_among p [] (suc k) = refl
position_among {A} p (x ∷ xs) (suc k) = at (p x) (position_among p xs k)
  where
    rest : ℕ
    rest = prefix_len (λ y. not (p y)) xs

    at : (b : Bool) → is_below k (cond (nat_lt rest (length xs)) (Some rest) None) ≡ list_any p (take k xs)
        → is_below (suc k) (cond (nat_lt (cond (not b) (1 + rest) 0) (suc (length xs))) (Some (cond (not b) (1 + rest) 0)) None) ≡ (b || list_any p (take k xs))
    at true behind = at_front (length xs) k
    at false behind = ap (λ z. is_below (suc k) (cond (nat_lt z (suc (length xs))) (Some z) None)) (one_more rest) ∙ one_further rest (length xs) k ∙ behind

-- the first live run of which the test holds

module _ (n : Reading) (held : ℕ → Bool) where
  abbrev first_held : List Item → Option ℕ
  first_held is = find held (live_runs n is)

  abbrev with_run : Bool → Bool → ℕ → Option ℕ → Option ℕ
  with_run live holds q rest = if live then cond holds (Some q) rest else rest

  first_ran : (q : RunNo) (is : List Item) → first_held (Ran q ∷ is) ≡ with_run (is_live n q.0) (held q.0) q.0 (first_held is)
  first_ran q is = at (is_live n q.0)
    where
      at : (b : Bool) → find held (cons_option (if b then Some q.0 else None) (live_runs n is)) ≡ with_run b (held q.0) q.0 (first_held is)
      at true = refl
      at false = refl

  -- it is live, and the test holds of it
  found_held : (is : List Item) (x : ℕ) → first_held is ≡ Some x → (is_live n x && held x) ≡ true
  found_held [] x found = absurd (cc)
  found_held (Failed d k ∷ is) x found = found_held is x found
  found_held (Back d k ∷ is) x found = found_held is x found
  found_held (Ran q ∷ is) x found = at (is_live n q.0) (held q.0) refl refl (sym (first_ran q is) ∙ found) (found_held is x)
    where
      at : (a b : Bool) → is_live n q.0 ≡ a → held q.0 ≡ b → with_run a b q.0 (first_held is) ≡ Some x → (first_held is ≡ Some x → (is_live n x && held x) ≡ true) → (is_live n x && held x) ≡ true
      at true true e h this rest = let same : q.0 ≡ x = ap (λ o. unwrap_or o x) this in subst (λ k. (is_live n k && held k) ≡ true) same (rw (e, h) refl)
      at true false e h this rest = rest this
      at false true e h this rest = rest this
      at false false e h this rest = rest this

  -- a run where it is among some items
  abbrev pub where_among : List Item → Option ℕ → Option ℕ
  where_among front run = option_and_then (λ x. if list_any (is_ran x) front then Some x else None) run

  among_none : (run : Option ℕ) → where_among [] run ≡ None
  among_none None = refl
  among_none (Some x) = refl

  -- among the first items it is the first one of all, where that is among them
  pub first_in_front : (is : List Item) (k : ℕ) → find held (live_runs n (take k is)) ≡ where_among (take k is) (find held (live_runs n is))
  first_in_front is zero = sym (among_none (first_held is))
  first_in_front [] (suc k) = refl
  first_in_front (Failed d j ∷ is) (suc k) = first_in_front is k
  first_in_front (Back d j ∷ is) (suc k) = first_in_front is k
  first_in_front (Ran q ∷ is) (suc k) =
      first_ran q (take k is) ∙ at (is_live n q.0) (held q.0) refl refl (first_in_front is k) ∙ sym (ap (where_among (Ran q ∷ take k is)) (first_ran q is))
    where
      -- another run is among the items with q where it is among them
      other : (run : Option ℕ) → ((x : ℕ) → run ≡ Some x → (q.0 == x) ≡ false) → where_among (take k is) run ≡ where_among (Ran q ∷ take k is) run
      other None differs = refl
      other (Some x) differs = let apart : (q.0 == x) ≡ false = differs x refl in ap (λ b. if b || list_any (is_ran x) (take k is) then Some x else None) (sym apart)

      differs : (a b : Bool) → is_live n q.0 ≡ a → held q.0 ≡ b → (a && b) ≡ false → (x : ℕ) → first_held is ≡ Some x → (q.0 == x) ≡ false
      differs a b e h none x found = by_same (q.0 == x) refl
        where
          by_same : (c : Bool) → (q.0 == x) ≡ c → c ≡ false
          by_same true s = let same : q.0 ≡ x = grind (arith, common_steps) in let holds : (is_live n q.0 && held q.0) ≡ true = subst (λ k. (is_live n k && held k) ≡ true) (sym same) (found_held is x found) in absurd (grind (arith, common_steps))
          by_same false s = refl

      own : (q.0 == q.0) ≡ true
      own = grind (arith, common_steps)

      at : (a b : Bool) → is_live n q.0 ≡ a → held q.0 ≡ b → first_held (take k is) ≡ where_among (take k is) (first_held is)
          → with_run a b q.0 (first_held (take k is)) ≡ where_among (Ran q ∷ take k is) (with_run a b q.0 (first_held is))
      at true true e h rest = ap (λ c. if c || list_any (is_ran q.0) (take k is) then Some q.0 else None) (sym own)
      at true false e h rest = rest ∙ other (first_held is) (differs true false e h refl)
      at false true e h rest = rest ∙ other (first_held is) (differs false true e h refl)
      at false false e h rest = rest ∙ other (first_held is) (differs false false e h refl)
