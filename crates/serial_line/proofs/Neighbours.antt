-- Which marks of a line may be exchanged, by their items.
use Rattle.serial_line.proofs.Prelude.{Bool, IsClosed, Item, List, Mark, None, Option, Run, Some, [], ap, apart_there, are_apart, chosen, false, items_of, length, length-map, list_any, meet, meet_marks, not, option_and_then, option_map, refl, slice_get, slice_get-map, subst, sym, true, unwrap_or, ℕ, ◌+◌, ◌<◌, ◌||◌, ◌∙◌, ◌∷◌, ◌≡◌}

-- neighbours that are apart are there
pub neighbours_there : (runs : List Run) (ms : List Mark) (at : ℕ) → are_apart (meet runs) at (items_of ms) ≡ true → at + 1 < length ms
neighbours_there runs ms at apart = subst (λ n. at + 1 < n) (length-map ms (λ m. m.item)) (apart_there (meet runs) at (items_of ms) apart)

pub apart_items : (runs : List Run) (ms : List Mark) (at : ℕ) → are_apart (meet_marks runs) at ms ≡ are_apart (meet runs) at (items_of ms)
apart_items runs ms at =
    by_cases (slice_get ms at) (slice_get ms (at + 1))
    ∙ sym (λ k. unwrap_or (option_and_then (λ i. option_map (λ j. not (meet runs i j)) (slice_get-map (λ (m : Mark). m.item) ms (at + 1) k)) (slice_get-map (λ (m : Mark). m.item) ms at k)) false)
  where
    by_cases : (o p : Option Mark) → unwrap_or (option_and_then (λ (m : Mark). option_map (λ (n : Mark). not (meet_marks runs m n)) p) o) false
        ≡ unwrap_or (option_and_then (λ (i : Item). option_map (λ (j : Item). not (meet runs i j)) (option_map (λ (m : Mark). m.item) p)) (option_map (λ (m : Mark). m.item) o)) false
    by_cases None p = refl
    by_cases (Some m) None = refl
    by_cases (Some m) (Some n) = refl

-- a set is closed over the marks as it is over their items
any_chosen : (p : Item → Bool) (bs : List Bool) (ms : List Mark) → list_any p (chosen bs (items_of ms)) ≡ list_any (λ (m : Mark). p m.item) (chosen bs ms)
unfolding chosen
any_chosen p bs [] = refl
any_chosen p [] (m ∷ ms) = refl
any_chosen p (true ∷ bs) (m ∷ ms) = ap (λ b. p m.item || b) (any_chosen p bs ms)
any_chosen p (false ∷ bs) (m ∷ ms) = any_chosen p bs ms

pub closed_marks : (runs : List Run) (bs : List Bool) (ms : List Mark) → IsClosed (meet runs) bs (items_of ms) → IsClosed (meet_marks runs) bs ms
unfolding IsClosed
closed_marks runs bs [] closed = closed
closed_marks runs [] (m ∷ ms) closed = closed
closed_marks runs (b ∷ bs) (m ∷ ms) closed = ((λ out. sym (any_chosen (meet runs m.item) bs ms) ∙ closed.0 out), closed_marks runs bs ms closed.1)
