-- What inserting, removing and changing a run, and an event, do to the order of a device.
use Rattle.device_order.proofs.Prelude.{Answer, Back, Bool, Command, Event, Failed, Failure, Item, Kind, Lacks, List, None, Occurred, Option, OrderEntry, Ran, Restart, RunStates, SameBut, Some, Used, [], ap, arith, awaits_first, common_steps, device_summary, entries, entry_if, entry_of, false, if◌then◌else◌, is_some, line_with_event, not, or_parts, refl, remaining, rest, run_no, stage_is_open, stage_of, subst, sym, true, usage, uses_device, waits_at, with_event, with_order_entry, ℕ, ◌&&◌, ◌++◌, ◌==◌, ◌∙◌, ◌∷◌, ◌≡◌}

with_join : (o : Option OrderEntry) (cs ds : List OrderEntry) → with_order_entry o (cs ++ ds) ≡ with_order_entry o cs ++ ds
with_join None cs ds = refl
with_join (Some c) cs ds = refl

pub entries_join : (kinds : List Kind) (states : RunStates) (d : ℕ) (a b : List Item) → entries kinds states d (a ++ b) ≡ entries kinds states d a ++ entries kinds states d b
unfolding entries
entries_join kinds states d [] b = refl
entries_join kinds states d (i ∷ a) b = ap (with_order_entry (entry_of kinds states d i)) (entries_join kinds states d a b) ∙ with_join (entry_of kinds states d i) (entries kinds states d a) (entries kinds states d b)

-- an item in a line is its entry at the corresponding place
pub entries_at : (kinds : List Kind) (states : RunStates) (d : ℕ) (a b : List Item) (i : Item) → entries kinds states d (a ++ i ∷ b) ≡ entries kinds states d a ++ with_order_entry (entry_of kinds states d i) (entries kinds states d b)
unfolding entries
entries_at kinds states d a b i = entries_join kinds states d a (i ∷ b)

pub used_at : (kinds : List Kind) (states : RunStates) (d r : ℕ) (a b : List Item) → uses_device d (states r).commands ≡ true → entries kinds states d (a ++ Ran (run_no r) ∷ b) ≡ entries kinds states d a ++ Used (usage kinds (states r) d) ∷ entries kinds states d b
used_at kinds states d r a b u = entries_at kinds states d a b (Ran (run_no r)) ∙ ap (λ x. entries kinds states d a ++ with_order_entry (entry_if x (Used (usage kinds (states r) d))) (entries kinds states d b)) u

pub unused_at : (kinds : List Kind) (states : RunStates) (d r : ℕ) (a b : List Item) → uses_device d (states r).commands ≡ false → entries kinds states d (a ++ Ran (run_no r) ∷ b) ≡ entries kinds states d (a ++ b)
unused_at kinds states d r a b u = entries_at kinds states d a b (Ran (run_no r)) ∙ ap (λ x. entries kinds states d a ++ with_order_entry (entry_if x (Used (usage kinds (states r) d))) (entries kinds states d b)) u ∙ sym (entries_join kinds states d a b)

-- what is the same to each item is the same
pub entries_same : (kinds : List Kind) (states states' : RunStates) (d : ℕ) (is : List Item) → ((i : Item) → entry_of kinds states' d i ≡ entry_of kinds states d i) → entries kinds states' d is ≡ entries kinds states d is
unfolding entries
entries_same kinds states states' d [] h = refl
entries_same kinds states states' d (i ∷ is) h = ap (λ o. with_order_entry o (entries kinds states' d is)) (h i) ∙ ap (with_order_entry (entry_of kinds states d i)) (entries_same kinds states states' d is h)

-- a change of one run is nothing to a line that lacks it
pub entries_lack : (kinds : List Kind) (states states' : RunStates) (d r : ℕ) (is : List Item) → SameBut r states states' → Lacks r is → entries kinds states' d is ≡ entries kinds states d is
unfolding entries Lacks
entries_lack kinds states states' d r [] h k = refl
entries_lack kinds states states' d r (Ran q ∷ is) h k = ap (λ l. with_order_entry (entry_if (uses_device d l.commands) (Used (usage kinds l d))) (entries kinds states' d is)) (h q.0 k.0) ∙ ap (with_order_entry (entry_of kinds states d (Ran q))) (entries_lack kinds states states' d r is h k.1)
entries_lack kinds states states' d r (Failed e n ∷ is) h k = ap (with_order_entry (entry_of kinds states d (Failed e n))) (entries_lack kinds states states' d r is h k)
entries_lack kinds states states' d r (Back e n ∷ is) h k = ap (with_order_entry (entry_of kinds states d (Back e n))) (entries_lack kinds states states' d r is h k)

-- .. and changes its one entry in a line where it stands
pub entries_changed : (kinds : List Kind) (states states' : RunStates) (d r : ℕ) (a b : List Item) → SameBut r states states' → Lacks r a → Lacks r b → uses_device d (states' r).commands ≡ true
    → entries kinds states' d (a ++ Ran (run_no r) ∷ b) ≡ entries kinds states d a ++ Used (usage kinds (states' r) d) ∷ entries kinds states d b
entries_changed kinds states states' d r a b h la lb u =
    used_at kinds states' d r a b u ∙ ap (λ x. x ++ Used (usage kinds (states' r) d) ∷ entries kinds states' d b) (entries_lack kinds states states' d r a h la) ∙ ap (λ x. entries kinds states d a ++ Used (usage kinds (states' r) d) ∷ x) (entries_lack kinds states states' d r b h lb)

-- .. which is none where the run is at the device as it was
pub entries_unmoved : (kinds : List Kind) (states states' : RunStates) (d r : ℕ) (is : List Item) → SameBut r states states' → entry_of kinds states' d (Ran (run_no r)) ≡ entry_of kinds states d (Ran (run_no r)) → entries kinds states' d is ≡ entries kinds states d is
entries_unmoved kinds states states' d r is h e = entries_same kinds states states' d is item
  where
    at_ : (q : ℕ) (b : Bool) → (q == r) ≡ b → entry_of kinds states' d (Ran (run_no q)) ≡ entry_of kinds states d (Ran (run_no q))
    at_ q true x = subst (λ y. entry_of kinds states' d (Ran (run_no y)) ≡ entry_of kinds states d (Ran (run_no y))) (sym (same q x)) e
      where
        same : (q : ℕ) → (q == r) ≡ true → q ≡ r
        same q x = grind (arith, common_steps)
    at_ q false x = ap (λ l. entry_if (uses_device d l.commands) (Used (usage kinds l d))) (h q (λ y. differ q x y))
      where
        differ : (q : ℕ) → (q == r) ≡ false → q ≡ r → ⊥
        differ q x y = grind (arith, common_steps)

    item : (i : Item) → entry_of kinds states' d i ≡ entry_of kinds states d i
    item (Ran q) = at_ q.0 (q.0 == r) refl
    item (Failed e n) = refl
    item (Back e n) = refl

-- a command without an answer is one of the routine
pub uses_rest : (d : ℕ) (cs : List Command) (xs : List Answer) → uses_device d cs ≡ false → uses_device d (remaining cs xs) ≡ false
unfolding remaining
uses_rest d [] xs h = h
uses_rest d (c ∷ cs) [] h = h
uses_rest d (c ∷ cs) (a ∷ xs) h = uses_rest d cs xs (or_parts (c.device.0 == d) (uses_device d cs) h).1

-- an event goes where the device's own order has it
pub entries_event : (kinds : List Kind) (states : RunStates) (d : ℕ) (e : Event) (i : Item) (is : List Item) → entry_of kinds states d i ≡ Some (Occurred e)
    → entries kinds states d (line_with_event kinds states d i is) ≡ with_event e (entries kinds states d is)
unfolding entries line_with_event with_event
entries_event kinds states d e i [] h = ap (λ o. with_order_entry o []) h
entries_event kinds states d e i (Failed x n ∷ is) h = at_ (entries_event kinds states d e i is h) (x.0 == d)
  where
    at_ : entries kinds states d (line_with_event kinds states d i is) ≡ with_event e (entries kinds states d is)
        → (b : Bool) → with_order_entry (entry_if b (Occurred Failure)) (entries kinds states d (line_with_event kinds states d i is))
        ≡ with_event e (with_order_entry (entry_if b (Occurred Failure)) (entries kinds states d is))
    at_ g true = ap (λ l. Occurred Failure ∷ l) g
    at_ g false = g
entries_event kinds states d e i (Back x n ∷ is) h = at_ (entries_event kinds states d e i is h) (x.0 == d)
  where
    at_ : entries kinds states d (line_with_event kinds states d i is) ≡ with_event e (entries kinds states d is)
        → (b : Bool) → with_order_entry (entry_if b (Occurred Restart)) (entries kinds states d (line_with_event kinds states d i is))
        ≡ with_event e (with_order_entry (entry_if b (Occurred Restart)) (entries kinds states d is))
    at_ g true = ap (λ l. Occurred Restart ∷ l) g
    at_ g false = g
entries_event kinds states d e i (Ran r ∷ is) h = one (entries_event kinds states d e i is h) (waits_at kinds states d (Ran r)) ∙ two (uses_device d (states r.0).commands) refl
  where
    one : entries kinds states d (line_with_event kinds states d i is) ≡ with_event e (entries kinds states d is) → (x : Bool)
        → entries kinds states d (if x then i ∷ Ran r ∷ is else Ran r ∷ line_with_event kinds states d i is)
        ≡ (if x then Occurred e ∷ with_order_entry (entry_of kinds states d (Ran r)) (entries kinds states d is)
        else with_order_entry (entry_of kinds states d (Ran r)) (with_event e (entries kinds states d is)))
    one g true = ap (λ o. with_order_entry o (with_order_entry (entry_of kinds states d (Ran r)) (entries kinds states d is))) h
    one g false = ap (with_order_entry (entry_of kinds states d (Ran r))) g

    same : waits_at kinds states d (Ran r) ≡ awaits_first (usage kinds (states r.0) d)
    same = part (states r.0).committed (states r.0).doomed (uses_device d (rest (states r.0))) (is_some (device_summary kinds (states r.0) d).view)
      where
        part : (a b c v : Bool) → (not a && not b && c && not v) ≡ (stage_is_open (stage_of a b c) && not v)
        part a b c v = grind (arith, common_steps)

    none : uses_device d (states r.0).commands ≡ false → waits_at kinds states d (Ran r) ≡ false
    none u = part (states r.0).committed (states r.0).doomed (uses_device d (rest (states r.0))) (is_some (device_summary kinds (states r.0) d).view) (uses_rest d (states r.0).commands (states r.0).answers u)
      where
        part : (a b c v : Bool) → c ≡ false → (not a && not b && c && not v) ≡ false
        part a b c v h = grind (arith, common_steps)

    two : (u : Bool) → uses_device d (states r.0).commands ≡ u
        → (if waits_at kinds states d (Ran r) then Occurred e ∷ with_order_entry (entry_if u (Used (usage kinds (states r.0) d))) (entries kinds states d is) else with_order_entry (entry_if u (Used (usage kinds (states r.0) d))) (with_event e (entries kinds states d is)))
        ≡ with_event e (with_order_entry (entry_if u (Used (usage kinds (states r.0) d))) (entries kinds states d is))
    two true h = ap (λ b. if b then Occurred e ∷ Used (usage kinds (states r.0) d) ∷ entries kinds states d is else Used (usage kinds (states r.0) d) ∷ with_event e (entries kinds states d is)) same
    two false h = ap (λ b. if b then Occurred e ∷ entries kinds states d is else with_event e (entries kinds states d is)) (none h)

-- .. and at another device nowhere
pub entries_event_off : (kinds : List Kind) (states : RunStates) (d e : ℕ) (i : Item) (is : List Item) → entry_of kinds states d i ≡ None → entries kinds states d (line_with_event kinds states e i is) ≡ entries kinds states d is
unfolding entries line_with_event
entries_event_off kinds states d e i [] h = ap (λ o. with_order_entry o []) h
entries_event_off kinds states d e i (j ∷ is) h = at_ (entries_event_off kinds states d e i is h) (waits_at kinds states e j)
  where
    at_ : entries kinds states d (line_with_event kinds states e i is) ≡ entries kinds states d is → (x : Bool) → entries kinds states d (if x then i ∷ j ∷ is else j ∷ line_with_event kinds states e i is) ≡ with_order_entry (entry_of kinds states d j) (entries kinds states d is)
    at_ g true = ap (λ o. with_order_entry o (with_order_entry (entry_of kinds states d j) (entries kinds states d is))) h
    at_ g false = ap (with_order_entry (entry_of kinds states d j)) g
