-- What a read finds, while it is out: its run's own last write, else the last committed write before the run in the line; and no live run before it has the effective write.
use Rattle.window_order.proofs.Prelude.{Back, Bool, Commands, DeviceInvariant, End, Failed, Free, GripFits, Grips, Item, List, None, Option, OrderEntry, OrderIsKept, Ran, Reading, Reads, Setting, Some, Usage, Used, WalkHolds, WalkState, Write, Writes, [], and_right, ap, ap₂, arith, before, behind, both_ways, command_at, committed_write, common_steps, cond, cons_option, count_append, count_by, count_insert, device_record, effective, effective_entries, effective_write, entries, eq-eqb, false, fold, grips_undo, has_effect, held_by, if◌then◌else◌, inl, inr, is_command, is_committed, is_committing, is_device, is_doomed, is_live, is_none, is_ran, is_some, is_undo, is_undone, is_write_settled, last_some, list_any, live_before, live_runs, no_grips, not, option_map, option_or, or_parts, or_right, point, reads, refl, rest, run_no, run_state, some_is, stage_is_committed, stage_of, stand_at, stands_in, subst, sym, take_while-cons, touches, true, unwrap_or, usage, used_at, uses_device, walk_back, walk_end, walk_start, window_of, write_of, ℕ, ◌&&◌, ◌++◌, ◌+◌, ◌==◌, ◌||◌, ◌∙◌, ◌∷◌, ◌≡◌, ◌≤◌, ◌⊎◌}
use Rattle.device_order.proofs.Cited.{reads as read_finds}
use Rattle.device_order.specs.Claims.{ReadFinds}
use Rattle.std.proofs.lemmas.Grind.{fold-append}
use Rattle.window_order.proofs.PromisedWords.{device_below}
use Rattle.window_order.proofs.ReadFacts.{IsRead}
use Rattle.window_order.proofs.SettledOrders.{value_along}
use Rattle.window_order.proofs.StandingValues.{ActsOn, acts_on, live_stands, writer_on_line}

-- Lines

before_cons : (r : ℕ) (i : Item) (is : List Item) → before r (i ∷ is) ≡ cond (not (is_ran r i)) (i ∷ before r is) []
before_cons r i is = take_while-cons (λ j. not (is_ran r j)) i is

-- a line is what stands before a run of it, the run, and what stands behind
pub cut_before : (r : ℕ) (line : List Item) → list_any (is_ran r) line ≡ true → line ≡ before r line ++ Ran (run_no r) ∷ behind r line
cut_before r [] h = absurd (cc)
cut_before r (i ∷ is) h = at_ (λ e. cut_before r is e) (is_ran r i) refl h ∙ ap (λ l. l ++ Ran (run_no r) ∷ behind r (i ∷ is)) (sym (before_cons r i is))
  where
    here : (j : Item) → is_ran r j ≡ true → j ≡ Ran (run_no r)
    here (Ran q) e = ap (λ z. Ran (run_no z)) (same q.0 e)
      where
        same : (q : ℕ) → (q == r) ≡ true → q ≡ r
        same q e = grind (arith, common_steps)
    here (Failed e k) x = absurd (cc)
    here (Back e k) x = absurd (cc)

    at_ : (list_any (is_ran r) is ≡ true → is ≡ before r is ++ Ran (run_no r) ∷ behind r is) → (b : Bool) → is_ran r i ≡ b → (b || list_any (is_ran r) is) ≡ true
        → i ∷ is ≡ cond (not b) (i ∷ before r is) [] ++ Ran (run_no r) ∷ (if b then is else behind r is)
    at_ ih true e h = ap (λ x. x ∷ is) (here i e)
    at_ ih false e h = ap (λ l. i ∷ l) (ih h)

not_before : (r : ℕ) (line : List Item) → list_any (is_ran r) (before r line) ≡ false
not_before r [] = refl
not_before r (i ∷ is) = ap (list_any (is_ran r)) (before_cons r i is) ∙ at_ (is_ran r i) refl (not_before r is)
  where
    at_ : (b : Bool) → is_ran r i ≡ b → list_any (is_ran r) (before r is) ≡ false → list_any (is_ran r) (cond (not b) (i ∷ before r is) []) ≡ false
    at_ true e h = refl
    at_ false e h = ap (λ b. b || list_any (is_ran r) (before r is)) e ∙ h

counted : (r : ℕ) (line : List Item) → list_any (is_ran r) line ≡ true → 1 ≤ count_by (is_ran r) line
counted r [] h = absurd (cc)
counted r (i ∷ is) h = at_ (λ e. counted r is e) (is_ran r i) refl h (count_insert (is_ran r) [] is i)
  where
    at_ : (list_any (is_ran r) is ≡ true → 1 ≤ count_by (is_ran r) is) → (b : Bool) → is_ran r i ≡ b → (b || list_any (is_ran r) is) ≡ true → count_by (is_ran r) (i ∷ is) ≡ cond (is_ran r i) 1 0 + count_by (is_ran r) is → 1 ≤ count_by (is_ran r) (i ∷ is)
    at_ ih true e h k = let one : ◌≡◌ {A = ℕ} (cond (is_ran r i) 1 0) 1 = ap (λ b. cond b 1 0) e in omega (arith, k, one)
    at_ ih false e h k = let more : 1 ≤ count_by (is_ran r) is = ih h in omega (arith, k, more)

uncounted : (r : ℕ) (line : List Item) → count_by (is_ran r) line ≡ 0 → list_any (is_ran r) line ≡ false
uncounted r line h = at_ (list_any (is_ran r) line) refl
  where
    at_ : (b : Bool) → list_any (is_ran r) line ≡ b → b ≡ false
    at_ true e = let one : 1 ≤ count_by (is_ran r) line = counted r line e in let no : ⊥ = omega (arith, one, h) in absurd no
    at_ false e = refl

-- a run that stands in a line once, and behind a place, does not stand before it
once_behind : (r : ℕ) (a b : List Item) (i : Item) → count_by (is_ran r) (a ++ i ∷ b) ≤ 1 → list_any (is_ran r) b ≡ true → list_any (is_ran r) a ≡ false
once_behind r a b i h s =
    let whole : count_by (is_ran r) (a ++ i ∷ b) ≡ cond (is_ran r i) 1 0 + count_by (is_ran r) (a ++ b) = count_insert (is_ran r) a b i in
    let parts : count_by (is_ran r) (a ++ b) ≡ count_by (is_ran r) a + count_by (is_ran r) b = count_append (is_ran r) a b in
    let one : 1 ≤ count_by (is_ran r) b = counted r b s in
    uncounted r a (omega (arith, whole, parts, one, h))

-- Last writes

fold_or : {A B : Type 0} (f : A → Option B) (best : Option B) (xs : List A) → fold (λ o x. option_or (f x) o) best xs ≡ option_or (last_some f xs) best
fold_or f best [] = refl
fold_or {B = B} f best (x ∷ xs) = fold_or f (option_or (f x) best) xs ∙ or_or (last_some f xs) (f x) ∙ ap (λ o. option_or o best) (sym (fold_or f (option_or (f x) None) xs))
  where
    or_or : (o p : Option B) → option_or o (option_or p best) ≡ option_or (option_or o (option_or p None)) best
    or_or None None = refl
    or_or None (Some y) = refl
    or_or (Some y) p = refl

last_some_cut : {A B : Type 0} (f : A → Option B) (a b : List A) (i : A) → last_some f (a ++ i ∷ b) ≡ option_or (last_some f b) (option_or (f i) (last_some f a))
last_some_cut f a b i = fold-append (λ o x. option_or (f x) o) None a (i ∷ b) ∙ fold_or f (option_or (f i) (last_some f a)) b

fold_same : {A B : Type 0} (f h : A → Option B) (best : Option B) (xs : List A) → ((x : A) → f x ≡ h x) → fold (λ o x. option_or (f x) o) best xs ≡ fold (λ o x. option_or (h x) o) best xs
fold_same f h best [] e = refl
fold_same f h best (x ∷ xs) e = fold_same f h (option_or (f x) best) xs e ∙ ap (λ o. fold (λ o x. option_or (h x) o) (option_or o best) xs) (e x)

write_at : (n : Reading) (g : Grips) (d : ℕ) (i : Item) (e : Write) → write_of n g d i ≡ Some e → is_ran e.run i ≡ true
write_at n g d (Ran q) e h = by (is_undone n g q.0 d) ((n.run q.0).on d).wrote h
  where
    same : (k : ℕ) → q.0 ≡ k → (q.0 == k) ≡ true
    same k e = grind (arith, common_steps)

    by : (x : Bool) (v : Option ℕ) → (if x then None else option_map (λ v. record { run = q.0; value = v }) v) ≡ Some e → (q.0 == e.run) ≡ true
    by true v h = absurd (cc)
    by false None h = absurd (cc)
    by false (Some v) h = same e.run (ap (λ (x : Write). x.run) (some_is (record { run = q.0; value = v }) e h))
write_at n g d (Failed k j) e h = absurd (cc)
write_at n g d (Back k j) e h = absurd (cc)

-- the last write of a list is by a run that stands there
last_write_at : (n : Reading) (g : Grips) (d : ℕ) (line : List Item) (e : Write) → last_some (write_of n g d) line ≡ Some e → list_any (is_ran e.run) line ≡ true
last_write_at n g d [] e h = absurd (cc)
last_write_at n g d (i ∷ is) e h = by (λ k. last_write_at n g d is e k) (last_some (write_of n g d) is) (write_of n g d i) refl refl (sym (last_some_cut (write_of n g d) [] is i) ∙ h)
  where
    by : (last_some (write_of n g d) is ≡ Some e → list_any (is_ran e.run) is ≡ true) → (x y : Option Write) → last_some (write_of n g d) is ≡ x → write_of n g d i ≡ y → option_or (last_some (write_of n g d) is) (option_or (write_of n g d i) None) ≡ Some e → list_any (is_ran e.run) (i ∷ is) ≡ true
    by ih (Some z) y f k m = ap (λ b. is_ran e.run i || b) (ih (f ∙ sym (ap (λ o. option_or o (option_or (write_of n g d i) None)) f) ∙ m)) ∙ or_right (is_ran e.run i) true refl
    by ih None (Some z) f k m = ap (λ b. b || list_any (is_ran e.run) is) (write_at n g d i e (k ∙ sym (ap₂ (λ o p. option_or o (option_or p None)) f k) ∙ m))
    by ih None None f k m = absurd (none (sym (ap₂ (λ o p. option_or o (option_or p None)) f k) ∙ m))
      where
        none : None ≡ Some e → ⊥
        none y = absurd (cc)

-- no live run of a list is one that does not stand in it, or is not live
not_live_there : (n : Reading) (k : ℕ) (line : List Item) → (list_any (is_ran k) line ≡ false) ⊎ (is_live n k ≡ false) → list_any (λ x. k == x) (live_runs n line) ≡ false
not_live_there n k [] h = refl
not_live_there n k (Failed d j ∷ is) h = not_live_there n k is h
not_live_there n k (Back d j ∷ is) h = not_live_there n k is h
not_live_there n k (Ran q ∷ is) h = at_ (not_live_there n k is (later h)) (is_live n q.0) (k == q.0) refl refl
  where
    later : (list_any (is_ran k) (Ran q ∷ is) ≡ false) ⊎ (is_live n k ≡ false) → (list_any (is_ran k) is ≡ false) ⊎ (is_live n k ≡ false)
    later (inl e) = inl (or_parts (q.0 == k) (list_any (is_ran k) is) e).1
    later (inr e) = inr e

    same : (k == q.0) ≡ true → k ≡ q.0
    same e = grind (arith, common_steps)

    turned : k ≡ q.0 → (q.0 == k) ≡ true
    turned e = grind (arith, common_steps)

    never : (list_any (is_ran k) (Ran q ∷ is) ≡ false) ⊎ (is_live n k ≡ false) → is_live n q.0 ≡ true → k ≡ q.0 → ⊥
    never (inl e) f g = both_ways (list_any (is_ran k) (Ran q ∷ is)) e (ap (λ b. b || list_any (is_ran k) is) (turned g))
    never (inr e) f g = both_ways (is_live n q.0) (subst (λ x. is_live n x ≡ false) g e) f

    at_ : list_any (λ x. k == x) (live_runs n is) ≡ false → (x y : Bool) → is_live n q.0 ≡ x → (k == q.0) ≡ y → list_any (λ x. k == x) (cons_option (if x then Some q.0 else None) (live_runs n is)) ≡ false
    at_ ih true true e f = absurd (never h e (same f))
    at_ ih true false e f = ap (λ b. b || list_any (λ x. k == x) (live_runs n is)) f ∙ ih
    at_ ih false y e f = ih

no_effect_there : (n : Reading) (o : Option Write) (line : List Item) → ((e : Write) → o ≡ Some e → (list_any (is_ran e.run) line ≡ false) ⊎ (is_live n e.run ≡ false))
    → list_any (λ x. unwrap_or (option_map (λ y. y == x) (option_map (λ e. e.run) o)) false) (live_runs n line) ≡ false
no_effect_there n None line h = none (live_runs n line)
  where
    none : (xs : List ℕ) → list_any (λ x. false) xs ≡ false
    none [] = refl
    none (x ∷ xs) = none xs
no_effect_there n (Some e) line h = not_live_there n e.run line (h e refl)

-- What a read finds

-- the read of a run is out
pub record ReadIsOut (w : Setting) (g : Grips) (d r k : ℕ) : Type 0 where
  pub out : g d ≡ Some (record { maker = r; purpose = Commands k })
  pub reading : reads (command_at w.runs r k).job ≡ true

-- .. so it stands between what is before it in the line and what is behind, and holds the grip to read
record ReadsAt (w : Setting) (n : Reading) (g : Grips) (held : ℕ → ℕ) (d r : ℕ) : Type 0 where
  uses : touches w.runs r d ≡ true
  line : n.line ≡ before r n.line ++ Ran (run_no r) ∷ behind r n.line
  grip : (usage w.kinds (run_state (point w n g) r) d).grip ≡ Reads
  undid : ((n.run r).on d).undid ≡ false
  finds : ReadFinds (device_record w.kinds (window_of (point w n g) held) d) (entries w.kinds (λ q. run_state (point w n g) q) d (before r n.line)) (usage w.kinds (run_state (point w n g) r) d) (held d)

kept_write : (s : WalkState) (u : Usage) (b : List OrderEntry) → u.grip ≡ Reads → WalkHolds s (Used u ∷ b) → u.undid ≡ false
unfolding WalkHolds
kept_write s u b e h = (subst (λ y. GripFits y u) e h.0.grip).1

reads_at : (w : Setting) (n : Reading) (g : Grips) (held : ℕ → ℕ) (d r k : ℕ) → IsRead w n → OrderIsKept (point w n g) held → is_device w d ≡ true → ReadIsOut w g d r k → ReadsAt w n g held d r
reads_at w n g held d r k s o device h =
    let acts : ActsOn w n r d = acts_on w n g held r d o (ap (λ x. unwrap_or (option_map (λ p. (p.maker == r) && is_command p.purpose) x) false) h.out ∙ own r) in
    let line : n.line ≡ before r n.line ++ Ran (run_no r) ∷ behind r n.line = cut_before r n.line (live_stands w n r s acts.live) in
    let grip : (usage w.kinds (run_state (point w n g) r) d).grip ≡ Reads = ap (held_by w r) h.out ∙ to_read (r == r) (reads (command_at w.runs r k).job) (eq-eqb r r refl) h.reading in
    let order : entries w.kinds (λ q. run_state (point w n g) q) d n.line ≡ entries w.kinds (λ q. run_state (point w n g) q) d (before r n.line) ++ Used (usage w.kinds (run_state (point w n g) r) d) ∷ entries w.kinds (λ q. run_state (point w n g) q) d (behind r n.line) =
    ap (entries w.kinds (λ q. run_state (point w n g) q) d) line ∙ used_at w.kinds (λ q. run_state (point w n g) q) d r (before r n.line) (behind r n.line) acts.uses in
    let kept : DeviceInvariant (device_record w.kinds (window_of (point w n g) held) d) = o.window.devices d (device_below w d device) in
    let start : WalkState = walk_start (stand_at w.first d).up (stand_at w.first d).value in
    record {
      uses = acts.uses;
      line = line;
      grip = grip;
      undid = kept_write (walk_end start (entries w.kinds (λ q. run_state (point w n g) q) d (before r n.line))) (usage w.kinds (run_state (point w n g) r) d) (entries w.kinds (λ q. run_state (point w n g) q) d (behind r n.line)) grip
          (walk_back start (entries w.kinds (λ q. run_state (point w n g) q) d (before r n.line)) (Used (usage w.kinds (run_state (point w n g) r) d) ∷ entries w.kinds (λ q. run_state (point w n g) q) d (behind r n.line)) (subst (λ l. WalkHolds start l) order kept.walk));
      finds = read_finds (device_record w.kinds (window_of (point w n g) held) d) (entries w.kinds (λ q. run_state (point w n g) q) d (before r n.line)) (entries w.kinds (λ q. run_state (point w n g) q) d (behind r n.line)) (usage w.kinds (run_state (point w n g) r) d) kept order grip;
    }
  where
    own : (r : ℕ) → ((r == r) && true) ≡ true
    own r = grind (arith, common_steps)

    to_read : (x y : Bool) → x ≡ true → y ≡ true → (if x then (if y then Reads else Writes) else Free) ≡ Reads
    to_read true true e f = refl
    to_read true false e f = absurd (cc)
    to_read false y e f = absurd (cc)

-- it finds the run's own last write, else the last committed write before it, else the first value
pub finds_clean : (w : Setting) (n : Reading) (g : Grips) (held : ℕ → ℕ) (d r k : ℕ) → IsRead w n → OrderIsKept (point w n g) held → is_device w d ≡ true → ReadIsOut w g d r k
    → held d ≡ unwrap_or (option_or ((n.run r).on d).wrote (last_some (committed_write n d) (before r n.line))) (stand_at w.first d).value
finds_clean w n g held d r k s o device h = by ((n.run r).on d).wrote refl (reads_at w n g held d r k s o device h)
  where
    by : (v : Option ℕ) → ((n.run r).on d).wrote ≡ v → ReadsAt w n g held d r → held d ≡ unwrap_or (option_or v (last_some (committed_write n d) (before r n.line))) (stand_at w.first d).value
    by (Some v) e at = at.finds.own v ((s.summarized r).wrote d ∙ e)
    by None e at = at.finds.committed ((s.summarized r).wrote d ∙ e) ∙ value_along w n g d (stand_at w.first d).value (walk_start (stand_at w.first d).up (stand_at w.first d).value) None (before r n.line) s refl

-- a committed stage is that of a committed run
settled_run : (c x y : Bool) → stage_is_committed (stage_of c x y) ≡ true → c ≡ true
settled_run true x y h = refl
settled_run false true true h = absurd (cc)
settled_run false true false h = absurd (cc)
settled_run false false true h = absurd (cc)
settled_run false false false h = absurd (cc)

committed_over : (n : Reading) (r : ℕ) → is_committed n r ≡ true → is_live n r ≡ false
committed_over n r h = by (n.run r).ended h (is_some (n.run r).placed)
  where
    by : (e : Option End) → unwrap_or (option_map is_committing e) false ≡ true → (b : Bool) → (b && is_none e) ≡ false
    by None h b = absurd (cc)
    by (Some e) h true = refl
    by (Some e) h false = refl

-- where the last write before the reading run is by a live run, a later one is in effect
writer_behind : (w : Setting) (n : Reading) (g : Grips) (held : ℕ → ℕ) (d r k : ℕ) → IsRead w n → g d ≡ Some (record { maker = r; purpose = Commands k }) → ReadsAt w n g held d r → (e : Write) → effective_write n g d ≡ Some e
    → (list_any (is_ran e.run) (before r n.line) ≡ false) ⊎ (is_live n e.run ≡ false)
writer_behind w n g held d r k s out at e h =
    by (last_some (write_of n g d) (behind r n.line)) (write_of n g d (Ran (run_no r))) refl refl (sym (ap (last_some (write_of n g d)) at.line ∙ last_some_cut (write_of n g d) (before r n.line) (behind r n.line) (Ran (run_no r))) ∙ h)
  where
    at_most_one : (b : Bool) (c : ℕ) → c ≡ cond b 1 0 → c ≤ 1
    at_most_one true c e = omega (arith, e)
    at_most_one false c e = omega (arith, e)

    once : count_by (is_ran e.run) (before r n.line ++ Ran (run_no r) ∷ behind r n.line) ≤ 1
    once = at_most_one (stands_in (n.run e.run)) _ (ap (count_by (is_ran e.run)) (sym at.line) ∙ s.once e.run)

    same : (r == e.run) ≡ true → r ≡ e.run
    same x = grind (arith, common_steps)

    no_undo : grips_undo g r d ≡ false
    no_undo = ap (λ x. unwrap_or (option_map (λ p. (p.maker == r) && is_undo p.purpose) x) false) out ∙ and_right (r == r) false refl

    writes : Option ℕ → Bool → Option Write
    writes v x = if x then None else option_map (λ v. record { run = r; value = v }) v

    no_write : (v : Option ℕ) (x y : Bool) → x ≡ false → y ≡ false → writes v (x || y) ≡ None → v ≡ None
    no_write None x y p q f = refl
    no_write (Some v) false false p q f = absurd (cc)
    no_write (Some v) false true p q f = absurd (cc)
    no_write (Some v) true y p q f = absurd (cc)

    settled : last_some (write_of n g d) (before r n.line) ≡ Some e → is_write_settled (effective None (entries w.kinds (λ q. run_state (point w n g) q) d (before r n.line))) ≡ true → is_committed n e.run ≡ true
    settled f x =
        settled_run (is_committed n e.run) (is_doomed n e.run) (uses e.run)
        (sym (ap is_write_settled (effective_entries w.kinds (λ q. run_state (point w n g) q) d None (before r n.line)
        ∙ ap (option_map (λ q. usage w.kinds (run_state (point w n g) q) d)) (writer_on_line w n g d (before r n.line) s ∙ ap (option_map (λ e. e.run)) f))) ∙ x)
      where
        uses : ℕ → Bool
        uses q = uses_device d (rest (run_state (point w n g) q))

    by : (x y : Option Write) → last_some (write_of n g d) (behind r n.line) ≡ x → write_of n g d (Ran (run_no r)) ≡ y → option_or (last_some (write_of n g d) (behind r n.line)) (option_or (write_of n g d (Ran (run_no r))) (last_some (write_of n g d) (before r n.line))) ≡ Some e
        → (list_any (is_ran e.run) (before r n.line) ≡ false) ⊎ (is_live n e.run ≡ false)
    by (Some z) y f c m = inl (once_behind e.run (before r n.line) (behind r n.line) (Ran (run_no r)) once (last_write_at n g d (behind r n.line) e (f ∙ sym (ap (λ o. option_or o (option_or (write_of n g d (Ran (run_no r))) (last_some (write_of n g d) (before r n.line)))) f) ∙ m)))
    by None (Some z) f c m = inl (subst (λ x. list_any (is_ran x) (before r n.line) ≡ false) (same (write_at n g d (Ran (run_no r)) e (c ∙ sym (ap₂ (λ o p. option_or o (option_or p (last_some (write_of n g d) (before r n.line)))) f c) ∙ m))) (not_before r n.line))
    by None None f c m =
        inr (committed_over n e.run (settled (sym (ap₂ (λ o p. option_or o (option_or p (last_some (write_of n g d) (before r n.line)))) f c) ∙ m)
        (at.finds.settled ((s.summarized r).wrote d ∙ no_write ((n.run r).on d).wrote ((n.run r).on d).undid (grips_undo g r d) at.undid no_undo c))))

-- .. and no live run before the run has the effective write
pub none_dirty : (w : Setting) (n : Reading) (g : Grips) (held : ℕ → ℕ) (d r k : ℕ) → IsRead w n → OrderIsKept (point w n g) held → is_device w d ≡ true → ReadIsOut w g d r k → list_any (λ x. has_effect n no_grips x d) (live_before n r) ≡ false
none_dirty w n g held d r k s o device h =
    no_effect_there n (effective_write n no_grips d) (before r n.line) (λ e f. writer_behind w n g held d r k s h.out (reads_at w n g held d r k s o device h) e (sym same_effect ∙ f))
  where
    no_undo : (q : ℕ) → grips_undo g q d ≡ false
    no_undo q = ap (λ x. unwrap_or (option_map (λ p. (p.maker == q) && is_undo p.purpose) x) false) h.out ∙ and_right (r == q) false refl

    same_write : (i : Item) → write_of n no_grips d i ≡ write_of n g d i
    same_write (Ran q) = ap (λ x. if (((n.run q.0).on d).undid || x) then None else option_map (λ v. record { run = q.0; value = v }) ((n.run q.0).on d).wrote) (sym (no_undo q.0))
    same_write (Failed e j) = refl
    same_write (Back e j) = refl

    same_effect : effective_write n no_grips d ≡ effective_write n g d
    same_effect = fold_same (write_of n no_grips d) (write_of n g d) None n.line same_write
