-- Where an event goes into a line: at its end, or before a run that waits there.
use Rattle.device_order.proofs.Prelude.{Back, Bool, Failed, Item, Kind, List, Ran, RunStates, [], ap, false, if◌then◌else◌, inl, inr, line_with_event, refl, rest, run_no, true, waits_at, ℕ, ◌++◌, ◌∙◌, ◌∷◌, ◌≡◌, ◌⊎◌}

-- where an event goes in: at the end, or before a run that waits
pub record EventCut (kinds : List Kind) (states : RunStates) (d : ℕ) (i : Item) (line : List Item) : Type 0 where
  pub front : List Item
  pub back : List Item
  pub whole : line ≡ front ++ back
  pub with_it : line_with_event kinds states d i line ≡ front ++ i ∷ back
  pub head : (back ≡ []) ⊎ ((q : ℕ) × (rest : List Item) × (back ≡ Ran (run_no q) ∷ rest) × (waits_at kinds states d (Ran (run_no q)) ≡ true))

pub event_cut : (kinds : List Kind) (states : RunStates) (d : ℕ) (i : Item) (line : List Item) → EventCut kinds states d i line
unfolding line_with_event
event_cut kinds states d i [] = record { front = []; back = []; whole = refl; with_it = refl; head = inl refl }
event_cut kinds states d i (Failed e n ∷ is) = let c = event_cut kinds states d i is in record { front = Failed e n ∷ c.front; back = c.back; whole = ap (λ l. Failed e n ∷ l) c.whole; with_it = ap (λ l. Failed e n ∷ l) c.with_it; head = c.head }
event_cut kinds states d i (Back e n ∷ is) = let c = event_cut kinds states d i is in record { front = Back e n ∷ c.front; back = c.back; whole = ap (λ l. Back e n ∷ l) c.whole; with_it = ap (λ l. Back e n ∷ l) c.with_it; head = c.head }
event_cut kinds states d i (Ran r ∷ is) = at_ (event_cut kinds states d i is) (waits_at kinds states d (Ran r)) refl
  where
    at_ : EventCut kinds states d i is → (b : Bool) → waits_at kinds states d (Ran r) ≡ b → EventCut kinds states d i (Ran r ∷ is)
    at_ c true h = record { front = []; back = Ran r ∷ is; whole = refl; with_it = ap (λ b. if b then i ∷ Ran r ∷ is else Ran r ∷ line_with_event kinds states d i is) h; head = inr (r.0, is, refl, h) }
    at_ c false h = record { front = Ran r ∷ c.front; back = c.back; whole = ap (λ l. Ran r ∷ l) c.whole; with_it = ap (λ b. if b then i ∷ Ran r ∷ is else Ran r ∷ line_with_event kinds states d i is) h ∙ ap (λ l. Ran r ∷ l) c.with_it; head = c.head }
