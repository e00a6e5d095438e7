-- Where the lineage tells by itself which run waits, and which is lost.
use Rattle.failure_serialization.proofs.Prelude.{Access, Bool, Kept, List, None, Released, RunNo, Scheduled, Some, [], ap, arith, common_steps, cond, doom_of, false, find, first_waiting, is_acquired, is_lost, is_none, is_of, is_scheduled, is_sound, is_up_view, list_any, lost_run, not, option_map, refl, status_of, sym, true, unwrap_or, waits, ℕ, ◌&&◌, ◌==◌, ◌||◌, ◌∙◌, ◌∷◌, ◌≡◌}

-- The run whose first access has just died

-- its access is scheduled until the answer is noted there, so it waits by that alone
pub died_waits : (history : List Kept) (r : RunNo) (accesses : List Access) → status_of r.0 accesses ≡ Some Scheduled → first_waiting history (Some r) accesses ≡ first_waiting history None accesses
died_waits history r accesses scheduled = by_doom (is_none (doom_of history r.0)) refl
  where
    equal : (x y : ℕ) → (x == y) ≡ true → y ≡ x
    equal x y h = grind (arith, common_steps)

    turned : (x y : ℕ) (b : Bool) → (x == y) ≡ b → (y == x) ≡ b
    turned x y b h = grind (arith, common_steps)

    -- an access of it is sound where it is
    own_sound : (x : Access) (b : Bool) → is_none (doom_of history r.0) ≡ b → (r.0 == x.run.0) ≡ true → is_sound history x ≡ b
    own_sound x b d h = ap (λ k. is_none (doom_of history k)) (equal r.0 x.run.0 h) ∙ d

    doomed : (a b s : Bool) → (b ≡ true → s ≡ false) → ((a || b) && s) ≡ ((a || false) && s)
    doomed a true s h = off a s (h refl)
      where
        off : (a s : Bool) → s ≡ false → ((a || true) && s) ≡ ((a || false) && s)
        off a s h = grind (arith, common_steps)
    doomed a false s h = refl

    other : (a b s : Bool) → b ≡ false → ((a || b) && s) ≡ ((a || false) && s)
    other a b s h = grind (arith, common_steps)

    passes : (a b s : Bool) → a ≡ true → s ≡ true → ((a || b) && s) ≡ true
    passes a b s h k = grind (arith, common_steps)

    along : (xs : List Access) → is_none (doom_of history r.0) ≡ true → status_of r.0 xs ≡ Some Scheduled → find (waits history (Some r)) xs ≡ find (waits history None) xs
    along [] sound h = refl
    along (x ∷ xs) sound h = at_ (along xs sound) (x.run.0 == r.0) refl h
      where
        at_ : (status_of r.0 xs ≡ Some Scheduled → find (waits history (Some r)) xs ≡ find (waits history None) xs) → (b : Bool) → (x.run.0 == r.0) ≡ b → option_map (λ (y : Access). y.status) (cond b (Some x) (find (is_of r.0) xs)) ≡ Some Scheduled
            → cond (waits history (Some r) x) (Some x) (find (waits history (Some r)) xs) ≡ cond (waits history None x) (Some x) (find (waits history None) xs)
        at_ ih true own k =
            let waiting : is_scheduled x.status ≡ true = ap (λ o. is_scheduled (unwrap_or o Released)) k in
            let its : is_sound history x ≡ true = own_sound x true sound (turned x.run.0 r.0 true own) in
            ap (λ b. cond b (Some x) (find (waits history (Some r)) xs)) (passes (is_scheduled x.status) (r.0 == x.run.0) (is_sound history x) waiting its)
            ∙ sym (ap (λ b. cond b (Some x) (find (waits history None) xs)) (passes (is_scheduled x.status) false (is_sound history x) waiting its))
        at_ ih false own k =
            ap (λ b. cond b (Some x) (find (waits history (Some r)) xs)) (other (is_scheduled x.status) (r.0 == x.run.0) (is_sound history x) (turned x.run.0 r.0 false own))
            ∙ ap (λ l. cond (waits history None x) (Some x) l) (ih k)

    by_doom : (b : Bool) → is_none (doom_of history r.0) ≡ b → first_waiting history (Some r) accesses ≡ first_waiting history None accesses
    by_doom true d = ap (option_map (λ (x : Access). x.run)) (along accesses d scheduled)
    by_doom false d = λ i. option_map (λ (x : Access). x.run) (find (λ (x : Access). doomed (is_scheduled x.status) (r.0 == x.run.0) (is_sound history x) (own_sound x false d) i) accesses)

-- The run that is lost

-- where no acquired access is of a doomed run, it is the first acquired one that sees the device up
pub lost_acquired : (history : List Kept) (accesses : List Access) → list_any (λ x. is_acquired x.status && not (is_sound history x)) accesses ≡ false → lost_run history accesses ≡ option_map (λ x. x.run) (find (λ x. is_acquired x.status && unwrap_or (option_map is_up_view x.view) false) accesses)
lost_acquired history accesses none = ap (option_map (λ (x : Access). x.run)) (along accesses none)
  where
    parts : (a s b : Bool) → ((a && not s) || b) ≡ false → ((a && not s) ≡ false) × (b ≡ false)
    parts a s b h = (grind (arith, common_steps), grind (arith, common_steps))

    same : (a u s : Bool) → (a && not s) ≡ false → (a && u && s) ≡ (a && u)
    same a u s h = grind (arith, common_steps)

    along : (xs : List Access) → list_any (λ (x : Access). is_acquired x.status && not (is_sound history x)) xs ≡ false → find (is_lost history) xs ≡ find (λ (x : Access). is_acquired x.status && unwrap_or (option_map is_up_view x.view) false) xs
    along [] h = refl
    along (x ∷ xs) h =
        let here = parts (is_acquired x.status) (is_sound history x) (list_any (λ (y : Access). is_acquired y.status && not (is_sound history y)) xs) h in
        λ i. cond (same (is_acquired x.status) (unwrap_or (option_map is_up_view x.view) false) (is_sound history x) here.0 i) (Some x) (along xs here.1 i)
