-- Words on a line and on the order of a device that it makes.
use Rattle.device_order.proofs.Prelude.{Back, Bool, CutAt, Failed, Failure, Item, Kind, Lacks, List, None, Occurred, Option, Ran, Restart, RunStates, RunsAreDistinct, Some, Usage, Used, [], and_from, and_parts, any_run, ap, arith, at_device, common_steps, device_summary, effective, entries, entry_if, false, has, has_used_device, if◌then◌else◌, is_calm, is_calm_line, is_in_effect, last_in_effect, not, option_map, or_parts, refl, run_no, standing_value_on, subst, sym, true, unwrap_or, usage, uses_device, walk_end, walk_start, with_order_entry, written_or_first, ℕ, ◌&&◌, ◌++◌, ◌==◌, ◌||◌, ◌∙◌, ◌∷◌, ◌≡◌, ◌≢◌}
use Rattle.device_order.proofs.Claims.{effect}
use Rattle.std.specs.Option.{option_map_or}

-- a word over the entries is one over the line
pub has_entries : (kinds : List Kind) (states : RunStates) (d : ℕ) (p : Usage → Bool) (is : List Item) → has p (entries kinds states d is) ≡ any_run (at_device kinds states d p) is
unfolding entries has any_run
has_entries kinds states d p [] = refl
has_entries kinds states d p (Ran r ∷ is) = at_ (uses_device d (states r.0).commands) ∙ ap (λ x. at_device kinds states d p r.0 || x) (has_entries kinds states d p is)
  where
    at_ : (b : Bool) → has p (with_order_entry (entry_if b (Used (usage kinds (states r.0) d))) (entries kinds states d is)) ≡ ((b && p (usage kinds (states r.0) d)) || has p (entries kinds states d is))
    at_ true = refl
    at_ false = refl
has_entries kinds states d p (Failed e n ∷ is) = at_ (e.0 == d) ∙ has_entries kinds states d p is
  where
    at_ : (b : Bool) → has p (with_order_entry (entry_if b (Occurred Failure)) (entries kinds states d is)) ≡ has p (entries kinds states d is)
    at_ true = refl
    at_ false = refl
has_entries kinds states d p (Back e n ∷ is) = at_ (e.0 == d) ∙ has_entries kinds states d p is
  where
    at_ : (b : Bool) → has p (with_order_entry (entry_if b (Occurred Restart)) (entries kinds states d is)) ≡ has p (entries kinds states d is)
    at_ true = refl
    at_ false = refl

pub calm_entries : (kinds : List Kind) (states : RunStates) (d : ℕ) (is : List Item) → is_calm (entries kinds states d is) ≡ is_calm_line kinds states d is
unfolding entries is_calm is_calm_line
calm_entries kinds states d [] = refl
calm_entries kinds states d (Ran r ∷ is) = at_ (uses_device d (states r.0).commands) ∙ ap (λ x. not (at_device kinds states d has_used_device r.0) && x) (calm_entries kinds states d is)
  where
    at_ : (b : Bool) → is_calm (with_order_entry (entry_if b (Used (usage kinds (states r.0) d))) (entries kinds states d is)) ≡ (not (b && has_used_device (usage kinds (states r.0) d)) && is_calm (entries kinds states d is))
    at_ true = refl
    at_ false = refl
calm_entries kinds states d (Failed e n ∷ is) = at_ (e.0 == d) ∙ ap (λ x. not (e.0 == d) && x) (calm_entries kinds states d is)
  where
    at_ : (b : Bool) → is_calm (with_order_entry (entry_if b (Occurred Failure)) (entries kinds states d is)) ≡ (not b && is_calm (entries kinds states d is))
    at_ true = refl
    at_ false = refl
calm_entries kinds states d (Back e n ∷ is) = at_ (e.0 == d) ∙ ap (λ x. not (e.0 == d) && x) (calm_entries kinds states d is)
  where
    at_ : (b : Bool) → is_calm (with_order_entry (entry_if b (Occurred Restart)) (entries kinds states d is)) ≡ (not b && is_calm (entries kinds states d is))
    at_ true = refl
    at_ false = refl

abbrev usage_at : List Kind → RunStates → ℕ → ℕ → Usage
usage_at kinds states d r = usage kinds (states r) d

pub effective_entries : (kinds : List Kind) (states : RunStates) (d : ℕ) (o : Option ℕ) (is : List Item)
    → effective (option_map (usage_at kinds states d) o) (entries kinds states d is) ≡ option_map (usage_at kinds states d) (last_in_effect kinds states d o is)
unfolding entries effective last_in_effect
effective_entries kinds states d o [] = refl
effective_entries kinds states d o (Ran r ∷ is) = at_ (uses_device d (states r.0).commands) ∙ effective_entries kinds states d (if at_device kinds states d is_in_effect r.0 then Some r.0 else o) is
  where
    v : Usage
    v = usage kinds (states r.0) d

    pick : (b : Bool) → (if b then Some v else option_map (usage_at kinds states d) o) ≡ option_map (usage_at kinds states d) (if b then Some r.0 else o)
    pick true = refl
    pick false = refl

    at_ : (b : Bool) → effective (option_map (usage_at kinds states d) o) (with_order_entry (entry_if b (Used v)) (entries kinds states d is)) ≡ effective (option_map (usage_at kinds states d) (if (b && is_in_effect v) then Some r.0 else o)) (entries kinds states d is)
    at_ true = ap (λ x. effective x (entries kinds states d is)) (pick (is_in_effect v))
    at_ false = refl
effective_entries kinds states d o (Failed e n ∷ is) = at_ (e.0 == d) ∙ effective_entries kinds states d o is
  where
    at_ : (b : Bool) → effective (option_map (usage_at kinds states d) o) (with_order_entry (entry_if b (Occurred Failure)) (entries kinds states d is)) ≡ effective (option_map (usage_at kinds states d) o) (entries kinds states d is)
    at_ true = refl
    at_ false = refl
effective_entries kinds states d o (Back e n ∷ is) = at_ (e.0 == d) ∙ effective_entries kinds states d o is
  where
    at_ : (b : Bool) → effective (option_map (usage_at kinds states d) o) (with_order_entry (entry_if b (Occurred Restart)) (entries kinds states d is)) ≡ effective (option_map (usage_at kinds states d) o) (entries kinds states d is)
    at_ true = refl
    at_ false = refl

abbrev is_it : ℕ → ℕ → Bool
is_it r q = q == r

-- a line without duplicates is cut at a run that stands in it
pub cut_at : (r : ℕ) (is : List Item) → RunsAreDistinct is → any_run (is_it r) is ≡ true → CutAt r is
unfolding RunsAreDistinct any_run Lacks
cut_at r [] h g = absurd (none g)
  where
    none : false ≡ true → ⊥
    none h = grind (arith, common_steps)
cut_at r (Failed e n ∷ is) h g = let c = cut_at r is h g in record { front = Failed e n ∷ c.front; back = c.back; at = ap (λ l. Failed e n ∷ l) c.at; before = c.before; behind = c.behind }
cut_at r (Back e n ∷ is) h g = let c = cut_at r is h g in record { front = Back e n ∷ c.front; back = c.back; at = ap (λ l. Back e n ∷ l) c.at; before = c.before; behind = c.behind }
cut_at r (Ran q ∷ is) h g = at_ (λ x. cut_at r is h.1 x) (q.0 == r) refl
  where
    same : (q.0 == r) ≡ true → q.0 ≡ r
    same x = grind (arith, common_steps)

    differ : (q.0 == r) ≡ false → q.0 ≡ r → ⊥
    differ x y = grind (arith, common_steps)

    tail : (x y : Bool) → x ≡ false → (x || y) ≡ true → y ≡ true
    tail x y e h = grind (arith, common_steps)

    at_ : (any_run (is_it r) is ≡ true → CutAt r is) → (b : Bool) → (q.0 == r) ≡ b → CutAt r (Ran q ∷ is)
    at_ ih true x = record { front = []; back = is; at = ap (λ z. Ran (run_no z) ∷ is) (same x); before = tt; behind = subst (λ z. Lacks z is) (same x) h.0 }
    at_ ih false x = let c = ih (tail (q.0 == r) (any_run (is_it r) is) x g) in record { front = Ran q ∷ c.front; back = c.back; at = ap (λ l. Ran q ∷ l) c.at; before = ((λ y. differ x y), c.before); behind = c.behind }

-- where no run of the line has a write in effect, the effective write is what it was
writer_none : (kinds : List Kind) (states : RunStates) (d : ℕ) (o : Option ℕ) (is : List Item) → any_run (at_device kinds states d is_in_effect) is ≡ false → last_in_effect kinds states d o is ≡ o
unfolding any_run last_in_effect
writer_none kinds states d o [] h = refl
writer_none kinds states d o (Ran q ∷ is) h =
    let e = or_parts (at_device kinds states d is_in_effect q.0) (any_run (at_device kinds states d is_in_effect) is) h in
    ap (λ x. last_in_effect kinds states d (if x then Some q.0 else o) is) e.0 ∙ writer_none kinds states d o is e.1
writer_none kinds states d o (Failed e k ∷ is) h = writer_none kinds states d o is h
writer_none kinds states d o (Back e k ∷ is) h = writer_none kinds states d o is h

-- a run that the line lacks has the effective write behind it where it had it before, and no run of the line has a write in effect
writer_is : (kinds : List Kind) (states : RunStates) (d r : ℕ) (o : Option ℕ) (is : List Item) → Lacks r is → last_in_effect kinds states d o is ≡ Some r → (o ≡ Some r) × (any_run (at_device kinds states d is_in_effect) is ≡ false)
unfolding any_run last_in_effect Lacks
writer_is kinds states d r o [] l h = (h, refl)
writer_is kinds states d r o (Ran q ∷ is) l h = at_ (at_device kinds states d is_in_effect q.0) (writer_is kinds states d r (if at_device kinds states d is_in_effect q.0 then Some q.0 else o) is l.1 h)
  where
    other : Some q.0 ≡ Some r → q.0 ≡ r
    other e = grind (arith, common_steps)

    at_ : (b : Bool) → ((if b then Some q.0 else o) ≡ Some r) × (any_run (at_device kinds states d is_in_effect) is ≡ false) → (o ≡ Some r) × ((b || any_run (at_device kinds states d is_in_effect) is) ≡ false)
    at_ true e = absurd (l.0 (other e.0))
    at_ false e = e
writer_is kinds states d r o (Failed e k ∷ is) l h = writer_is kinds states d r o is l h
writer_is kinds states d r o (Back e k ∷ is) l h = writer_is kinds states d r o is l h

pub writer_join : (kinds : List Kind) (states : RunStates) (d : ℕ) (o : Option ℕ) (a b : List Item) → last_in_effect kinds states d o (a ++ b) ≡ last_in_effect kinds states d (last_in_effect kinds states d o a) b
unfolding last_in_effect
writer_join kinds states d o [] b = refl
writer_join kinds states d o (Ran q ∷ a) b = writer_join kinds states d (if at_device kinds states d is_in_effect q.0 then Some q.0 else o) a b
writer_join kinds states d o (Failed e k ∷ a) b = writer_join kinds states d o a b
writer_join kinds states d o (Back e k ∷ a) b = writer_join kinds states d o a b

-- the run with the effective write has a write in effect, and none behind it has
pub record WritesLast (kinds : List Kind) (states : RunStates) (d r : ℕ) (back : List Item) : Type 0 where
  pub uses : uses_device d (states r).commands ≡ true
  pub effect : is_in_effect (usage kinds (states r) d) ≡ true
  pub none_behind : has is_in_effect (entries kinds states d back) ≡ false

pub writer_cut : (kinds : List Kind) (states : RunStates) (d r : ℕ) (a b : List Item) → Lacks r a → Lacks r b → last_in_effect kinds states d None (a ++ Ran (run_no r) ∷ b) ≡ Some r → WritesLast kinds states d r b
unfolding last_in_effect
writer_cut kinds states d r a b la lb h =
    let w = writer_is kinds states d r (if at_device kinds states d is_in_effect r then Some r else last_in_effect kinds states d None a) b lb (sym (writer_join kinds states d None a (Ran (run_no r) ∷ b)) ∙ h) in
    let e = own (at_device kinds states d is_in_effect r) w.0 in
    record { uses = (and_parts (uses_device d (states r).commands) (is_in_effect (usage kinds (states r) d)) e).0; effect = (and_parts (uses_device d (states r).commands) (is_in_effect (usage kinds (states r) d)) e).1; none_behind = has_entries kinds states d is_in_effect b ∙ w.1 }
  where
    none : None ≡ Some r → ⊥
    none e = grind (arith, common_steps)

    own : (x : Bool) → (if x then Some r else last_in_effect kinds states d None a) ≡ Some r → x ≡ true
    own true e = refl
    own false e = absurd (none (writer_is kinds states d r None a la e).0)

-- a run that has not the effective write has no write in effect, or one behind it has
pub writer_not : (kinds : List Kind) (states : RunStates) (d r : ℕ) (a b : List Item) → last_in_effect kinds states d None (a ++ Ran (run_no r) ∷ b) ≢ Some r → uses_device d (states r).commands ≡ true
    → (is_in_effect (usage kinds (states r) d) && not (has is_in_effect (entries kinds states d b))) ≡ false
unfolding last_in_effect
writer_not kinds states d r a b n u = at_ (is_in_effect (usage kinds (states r) d)) (has is_in_effect (entries kinds states d b)) refl refl
  where
    at_ : (x y : Bool) → is_in_effect (usage kinds (states r) d) ≡ x → has is_in_effect (entries kinds states d b) ≡ y → (x && not y) ≡ false
    at_ true false h g = absurd (n (
        writer_join kinds states d None a (Ran (run_no r) ∷ b)
        ∙ ap (λ x. last_in_effect kinds states d (if x then Some r else last_in_effect kinds states d None a) b) (and_from (uses_device d (states r).commands) (is_in_effect (usage kinds (states r) d)) u h)
        ∙ writer_none kinds states d (Some r) b (sym (has_entries kinds states d is_in_effect b) ∙ g)))
    at_ true true h g = refl
    at_ false y h g = refl

-- where the walk along a device's order leaves it, with the undo that is out, is the standing value
pub stand_line : (kinds : List Kind) (states : RunStates) (d first : ℕ) (up : Bool) (line : List Item) → (walk_end (walk_start up first) (entries kinds states d line)).stand ≡ standing_value_on kinds states d first line
stand_line kinds states d first up line =
    (effect (walk_start up first) first None (entries kinds states d line) (record { stand = refl; settled = refl })).stand
    ∙ ap (λ o. written_or_first o first) (effective_entries kinds states d None line)
    ∙ by (last_in_effect kinds states d None line)
  where
    by : (o : Option ℕ) → written_or_first (option_map (usage_at kinds states d) o) first ≡ option_map_or (λ r. unwrap_or (device_summary kinds (states r) d).wrote first) o first
    by None = refl
    by (Some r) = refl
