-- Which runs have an access: each with more to do on the device that is not doomed, and each live one with the effective write there.
use Rattle.lock_leasing.proofs.Prelude.{Back, Bool, Failed, Grips, Item, List, None, Option, Ran, Reading, Setting, Some, StandsOnce, Write, [], ap, arith, common_steps, cond, count_by, covers, effective_write, false, fold, has_effect, if◌then◌else◌, is_live, is_open, is_ran, is_some, is_touched, is_undone, list_any, map_some, not, of_run, open_runs_are_last, option_map, option_or, point, refl, stands_in, subst, sum_by-cons, sym, true, unwrap_or, uses, write_of, ℕ, ⊤, ◌&&◌, ◌+◌, ◌==◌, ◌||◌, ◌∙◌, ◌∷◌, ◌≡◌, ◌≤◌}
use Rattle.lock_leasing.proofs.Effects.{effect_is}
use Rattle.lock_leasing.proofs.Facts.{Facts, committed_stays, pending_uses, written_did, written_uses}

-- each item is so, with what stands behind it
abbrev pub EachTail : (Item → List Item → Type 0) → List Item → Type 0
EachTail P [] = ⊤
EachTail P (i ∷ is) = P i is × EachTail P is

-- A run does not stand behind itself

abbrev pub Alone : Item → List Item → Type 0
Alone i is = (r : ℕ) → is_ran r i ≡ true → list_any (is_ran r) is ≡ false

count_first : {A : Type 0} (p : A → Bool) (x : A) (xs : List A) → count_by p (x ∷ xs) ≡ cond (p x) 1 0 + count_by p xs
count_first p x xs = sum_by-cons (λ y. cond (p y) 1 0) x xs

none_counted : {A : Type 0} (p : A → Bool) (xs : List A) → count_by p xs ≡ 0 → list_any p xs ≡ false
none_counted p [] none = refl
none_counted {A} p (x ∷ xs) none = at (p x) refl (λ less. none_counted p xs less)
  where
    at : (b : Bool) → p x ≡ b → (count_by p xs ≡ 0 → list_any p xs ≡ false) → (b || list_any p xs) ≡ false
    at true e rest-none = let some : count_by p (x ∷ xs) ≡ 1 + count_by p xs = count_first p x xs ∙ ap (λ b. cond b 1 0 + count_by p xs) e in absurd (omega (arith, some, none))
    at false e rest-none = let rest : count_by p (x ∷ xs) ≡ 0 + count_by p xs = count_first p x xs ∙ ap (λ b. cond b 1 0 + count_by p xs) e in rest-none (omega (arith, rest, none))

alone_from : (is : List Item) → ((r : ℕ) → count_by (is_ran r) is ≤ 1) → EachTail Alone is
alone_from [] few = tt
alone_from (i ∷ is) few = (first, alone_from is rest)
  where
    first : Alone i is
    first r own =
        let here : count_by (is_ran r) (i ∷ is) ≡ 1 + count_by (is_ran r) is = count_first (is_ran r) i is ∙ ap (λ b. cond b 1 0 + count_by (is_ran r) is) own in
        let once : count_by (is_ran r) (i ∷ is) ≤ 1 = few r in
        none_counted (is_ran r) is (omega (arith, here, once))

    rest : (r : ℕ) → count_by (is_ran r) is ≤ 1
    rest r =
        let here : count_by (is_ran r) (i ∷ is) ≡ cond (is_ran r i) 1 0 + count_by (is_ran r) is = count_first (is_ran r) i is in
        let once : count_by (is_ran r) (i ∷ is) ≤ 1 = few r in
        omega (arith, here, once)

-- in a line in which each run stands once
pub alone : (n : Reading) → StandsOnce n → EachTail Alone n.line
alone n once = alone_from n.line (λ r. at (stands_in (n.run r)) (once r))
  where
    at : {k : ℕ} (b : Bool) → k ≡ cond b 1 0 → k ≤ 1
    at true e = omega (arith, e)
    at false e = omega (arith, e)

-- A run that is not doomed, with more to do

any_weaker : {A : Type 0} (p q : A → Bool) → ((x : A) → p x ≡ true → q x ≡ true) → (xs : List A) → list_any p xs ≡ true → list_any q xs ≡ true
any_weaker p q each [] some = absurd (cc)
any_weaker {A} p q each (x ∷ xs) some = at (p x) refl (λ more. any_weaker p q each xs more)
  where
    at : (b : Bool) → p x ≡ b → (list_any p xs ≡ true → list_any q xs ≡ true) → (q x || list_any q xs) ≡ true
    at true e behind = rw (each x e) refl
    at false e behind = let rest : list_any q xs ≡ true = behind (grind (arith, common_steps)) in grind (arith, common_steps)

module _ (w : Setting) (n : Reading) (g : Grips) (f : Facts w n g) (d : ℕ) where
  -- a committed run that wrote has touched the device
  covers_touches : (i : Item) → covers n d i ≡ true → is_touched n g d i ≡ true
  covers_touches (Ran r) covering = let wrote = written_did w n g r.0 d f (grind (arith, common_steps)) in rw wrote refl
  covers_touches (Failed e k) covering = absurd (cc)
  covers_touches (Back e k) covering = absurd (cc)

  -- no committed run behind it wrote
  open_access : (is : List Item) (r : ℕ) → is_open w n r d ≡ true → (not (is_open w n r d) || not (list_any (is_touched n g d) is)) ≡ true → (uses w n d r && not (list_any (covers n d) is)) ≡ true
  open_access is r opened last =
      let used : uses w n d r ≡ true = pending_uses w n r d (grind (arith, common_steps)) (grind (arith, common_steps)) in
      at (list_any (covers n d) is) refl used
    where
      at : (b : Bool) → list_any (covers n d) is ≡ b → uses w n d r ≡ true → (uses w n d r && not b) ≡ true
      at true e used = let touched = any_weaker (covers n d) (is_touched n g d) covers_touches is e in absurd (grind (arith, common_steps))
      at false e used = rw used refl

  -- The effective write

  abbrev pub last_from : Option Write → List Item → Option Write
  last_from best is = fold (λ o x. option_or (write_of n g d x) o) best is

  abbrev pub is_write_of : Option Write → ℕ → Bool
  is_write_of e r = unwrap_or (option_map (λ x. x.run == r) e) false

  pub effect_write : (e : Option Write) (r : ℕ) → unwrap_or (option_map (λ x. x == r) (option_map (λ x. x.run) e)) false ≡ is_write_of e r
  effect_write None r = refl
  effect_write (Some e) r = refl

  pub own_write : (i : Item) (e : Write) → write_of n g d i ≡ Some e → is_ran e.run i ≡ true
  own_write (Failed x k) e at = absurd (cc)
  own_write (Back x k) e at = absurd (cc)
  own_write (Ran r) e at = by_undone (is_undone n g r.0 d) at
    where
      by_undone : (b : Bool) → (if b then None else option_map (λ v. record { run = r.0; value = v }) ((n.run r.0).on d).wrote) ≡ Some e → (r.0 == e.run) ≡ true
      by_undone true none = absurd (cc)
      by_undone false found =
          let made = map_some (λ v. record { run = r.0; value = v }) ((n.run r.0).on d).wrote e found in
          let same : r.0 ≡ e.run = ap (λ (x : Write). x.run) made.2 in
          grind (arith, common_steps)

  -- the effective write is that of before, or one of a run of the list
  write_among : (is : List Item) (best : Option Write) (e : Write) → last_from best is ≡ Some e → (is_write_of best e.run || list_any (is_ran e.run) is) ≡ true
  write_among [] best e at = rw at (grind (arith, common_steps))
  write_among (i ∷ is) best e at = by_write (write_of n g d i) (λ x found. own_write i x found) (write_among is (option_or (write_of n g d i) best) e at)
    where
      by_write : (o : Option Write) → ((x : Write) → o ≡ Some x → is_ran x.run i ≡ true) → (is_write_of (option_or o best) e.run || list_any (is_ran e.run) is) ≡ true → (is_write_of best e.run || (is_ran e.run i || list_any (is_ran e.run) is)) ≡ true
      by_write None own rest = grind (arith, common_steps)
      by_write (Some x) own rest = is_own (x.run == e.run) refl rest
        where
          is_own : (b : Bool) → (x.run == e.run) ≡ b → (b || list_any (is_ran e.run) is) ≡ true → (is_write_of best e.run || (is_ran e.run i || list_any (is_ran e.run) is)) ≡ true
          is_own true same rest = let equal : x.run ≡ e.run = grind (arith, common_steps) in let here : is_ran e.run i ≡ true = subst (λ q. is_ran q i ≡ true) equal (own x refl) in grind (arith, common_steps)
          is_own false other rest = grind (arith, common_steps)

  -- a committed run that wrote has a write
  pub covers_write : (i : Item) → covers n d i ≡ true → (e : Write) × (write_of n g d i ≡ Some e)
  covers_write (Failed x k) covering = absurd (cc)
  covers_write (Back x k) covering = absurd (cc)
  covers_write (Ran r) covering = of_value ((n.run r.0).on d).wrote (committed_stays w n g r.0 d f (grind (arith, common_steps))) (grind (arith, common_steps))
    where
      of_value : (o : Option ℕ) → is_undone n g r.0 d ≡ false → is_some o ≡ true → (e : Write) × ((if is_undone n g r.0 d then None else option_map (λ v. record { run = r.0; value = v }) o) ≡ Some e)
      of_value None stays wrote = absurd (cc)
      of_value (Some v) stays wrote = (record { run = r.0; value = v }, rw stays refl)

  -- behind it the writes of before are forgotten
  covered_forgets : (is : List Item) (a b : Option Write) → list_any (covers n d) is ≡ true → last_from a is ≡ last_from b is
  covered_forgets [] a b covered = absurd (cc)
  covered_forgets (i ∷ is) a b covered = at (list_any (covers n d) is) refl (λ behind. covered_forgets is (option_or (write_of n g d i) a) (option_or (write_of n g d i) b) behind)
    where
      at : (c : Bool) → list_any (covers n d) is ≡ c → (list_any (covers n d) is ≡ true → last_from (option_or (write_of n g d i) a) is ≡ last_from (option_or (write_of n g d i) b) is) → last_from (option_or (write_of n g d i) a) is ≡ last_from (option_or (write_of n g d i) b) is
      at true e behind = behind e
      at false e behind = let found = covers_write i (grind (arith, common_steps)) in ap (λ o. last_from (option_or o a) is) found.1 ∙ sym (ap (λ o. last_from (option_or o b) is) found.1)

  -- a live run with the effective write: no committed run behind it wrote
  effect_access : (is : List Item) (best : Option Write) (r : ℕ) → effective_write n g d ≡ last_from best is → list_any (is_ran r) is ≡ false → is_live n r ≡ true → has_effect n g r d ≡ true → (uses w n d r && not (list_any (covers n d) is)) ≡ true
  effect_access is best r along none live effect =
      let used : uses w n d r ≡ true = written_uses w n g r d f live (effect_is n g r d effect).0 in
      at (list_any (covers n d) is) refl used
    where
      among : (o : Option Write) → last_from None is ≡ o → is_write_of o r ≡ true → list_any (is_ran r) is ≡ true
      among None e yes' = absurd (cc)
      among (Some x) e yes' = let same : x.run ≡ r = grind (arith, common_steps) in subst (λ q. list_any (is_ran q) is ≡ true) same (write_among is None x e)

      at : (b : Bool) → list_any (covers n d) is ≡ b → uses w n d r ≡ true → (uses w n d r && not b) ≡ true
      at true e used =
          let last : effective_write n g d ≡ last_from None is = along ∙ covered_forgets is best None e in
          let held : is_write_of (last_from None is) r ≡ true = sym (ap (λ o. is_write_of o r) last) ∙ sym (effect_write (effective_write n g d) r) ∙ effect in
          absurd (cc (among (last_from None is) refl held, none))
      at false e used = rw used refl

  -- Both

  abbrev pub has_work : ℕ → Bool
  has_work r = is_open w n r d || (is_live n r && has_effect n g r d)

  -- the run has an access: it uses the device, and no committed run behind it wrote
  abbrev pub HasAccess : Item → List Item → Type 0
  HasAccess i is = of_run has_work i ≡ true → (of_run (uses w n d) i && not (list_any (covers n d) is)) ≡ true

  have_access : (is : List Item) (best : Option Write) → open_runs_are_last (point w n g) d is ≡ true → EachTail Alone is → effective_write n g d ≡ last_from best is → EachTail HasAccess is
  have_access [] best last alone along = tt
  have_access (Ran r ∷ is) best last alone along = (λ works. at (is_open w n r.0 d) refl works, have_access is (option_or (write_of n g d (Ran r)) best) (grind (arith, common_steps)) alone.1 along)
    where
      at : (b : Bool) → is_open w n r.0 d ≡ b → (b || (is_live n r.0 && has_effect n g r.0 d)) ≡ true → (uses w n d r.0 && not (list_any (covers n d) is)) ≡ true
      at true e works = open_access is r.0 e (grind (arith, common_steps))
      at false e works = effect_access is (option_or (write_of n g d (Ran r)) best) r.0 along (alone.0 r.0 (grind (arith, common_steps))) (grind (arith, common_steps)) (grind (arith, common_steps))
  have_access (Failed e k ∷ is) best last alone along = (λ works. absurd (cc), have_access is best (grind (arith, common_steps)) alone.1 along)
  have_access (Back e k ∷ is) best last alone along = (λ works. absurd (cc), have_access is best (grind (arith, common_steps)) alone.1 along)

  -- each run of the line that has work on the device has an access there
  pub workers_have_access : EachTail HasAccess n.line
  workers_have_access = have_access n.line None (f.last d) (alone n f.once) refl
