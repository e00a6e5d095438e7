-- What the entries say of a run: of an empty history, and with one entry more.
use Rattle.history_book.specs.BookParts.{IsReadAlong}
use Rattle.history_book.proofs.Prelude.{Arrived, Bool, Did, Doomed, Ended, Entry, Fell, Kept, List, Listed, None, Option, Placed, Rose, RunNo, RunProgress, Some, Undid, [], ap, arith, arrival_in, common_steps, cond, count_by, count_by-le-length, doom_in, drop, end_in, false, first_told, get_or-set_at, get_or-set_other, if◌then◌else◌, is_answer_of, is_some, length, most_runs, nat_lt, noted, nothing_done, option_map, option_or, placing_in, position, position_or_len, progress_after, progress_in, refl, run_in, slice_index_or, slice_set, subst, suc, sum_by-cons, sym, take, take_more, tells_of, true, unwrap_or, ℕ, ◌++◌, ◌+◌, ◌-◌, ◌<◌, ◌==◌, ◌∙◌, ◌∷◌, ◌≡◌, ◌≢◌, ◌≤◌}

-- With one item more

count_more : {A : Type 0} (p : A → Bool) (xs : List A) (y : A) → count_by p (xs ++ y ∷ []) ≡ count_by p xs + cond (p y) 1 0
count_more p [] y = let one = sum_by-cons (λ x. cond (p x) 1 0) y [] in omega (arith, one)
count_more p (x ∷ xs) y =
    let rest = count_more p xs y in
    let longer = sum_by-cons (λ z. cond (p z) 1 0) x (xs ++ y ∷ []) in
    let shorter = sum_by-cons (λ z. cond (p z) 1 0) x xs in
    omega (arith, rest, longer, shorter)

pub position_cons : {A : Type 0} (p : A → Bool) (x : A) (xs : List A) → position p (x ∷ xs) ≡ (if p x then Some 0 else option_map (λ k. k + 1) (position p xs))
position_cons p x xs = by_cases (p x) refl
  where
    further : (b : Bool) → nat_lt (position_or_len p xs) (length xs) ≡ b → cond (nat_lt (1 + position_or_len p xs) (suc (length xs))) (Some (1 + position_or_len p xs)) None ≡ option_map (λ k. k + 1) (cond b (Some (position_or_len p xs)) None)
    further true e = let within : nat_lt (1 + position_or_len p xs) (suc (length xs)) ≡ true = grind (arith, common_steps) in rw within (ap Some (omega arith))
    further false e = let outside : nat_lt (1 + position_or_len p xs) (suc (length xs)) ≡ false = grind (arith, common_steps) in rw outside refl

    by_cases : (b : Bool) → p x ≡ b → position p (x ∷ xs) ≡ (if b then Some 0 else option_map (λ k. k + 1) (position p xs))
    by_cases true e = rw e (grind (arith, common_steps))
    by_cases false e = rw e (further (nat_lt (position_or_len p xs) (length xs)) refl)

-- the first place is that of before, and else the new one
position_more : {A : Type 0} (p : A → Bool) (xs : List A) (y : A) → position p (xs ++ y ∷ []) ≡ option_or (position p xs) (if p y then Some (length xs) else None)
position_more p [] y = position_cons p y []
position_more p (x ∷ xs) y =
    position_cons p x (xs ++ y ∷ [])
    ∙ ap (λ o. if p x then Some 0 else option_map (λ k. k + 1) o) (position_more p xs y)
    ∙ further (p x) (p y) (position p xs)
    ∙ ap (λ o. option_or o (if p y then Some (suc (length xs)) else None)) (sym (position_cons p x xs))
  where
    further : (b c : Bool) (o : Option ℕ) → (if b then Some 0 else option_map (λ k. k + 1) (option_or o (if c then Some (length xs) else None))) ≡ option_or (if b then Some 0 else option_map (λ k. k + 1) o) (if c then Some (suc (length xs)) else None)
    further true c o = refl
    further false c (Some k) = refl
    further false true None = ap Some (omega arith)
    further false false None = refl

first_more : {T : Type 0} (told : Entry → Option T) (h : List Kept) (k : Kept) → first_told told (h ++ k ∷ []) ≡ option_or (first_told told h) (told k.entry)
first_more told [] k = last_or (told k.entry)
  where
    last_or : {U : Type 0} (o : Option U) → option_or o None ≡ o
    last_or None = refl
    last_or (Some x) = refl
first_more {T} told (x ∷ h) k = ap (option_or (told x.entry)) (first_more told h k) ∙ or_or (told x.entry) (first_told told h)
  where
    or_or : (a b : Option T) → option_or a (option_or b (told k.entry)) ≡ option_or (option_or a b) (told k.entry)
    or_or None b = refl
    or_or (Some y) b = refl

-- With one entry more

-- what it tells of the run
abbrev with_told : ℕ → Entry → ℕ → RunProgress → RunProgress
with_told r e before p = record {
  arrived = option_or p.arrived (arrival_in r e);
  placed = option_or p.placed (if is_some (placing_in r e) then Some before else None);
  answered = p.answered + cond (is_answer_of r e) 1 0;
  doomed = option_or p.doomed (doom_in r e);
  ended = option_or p.ended (end_in r e);
}

told_more : (h : List Kept) (k : Kept) (r : ℕ) → progress_in (h ++ k ∷ []) r ≡ with_told r k.entry (length h) (progress_in h r)
told_more h k r = λ i. record {
  arrived = first_more (arrival_in r) h k i;
  placed = position_more (λ (x : Kept). is_some (placing_in r x.entry)) h k i;
  answered = count_more (λ (x : Kept). is_answer_of r x.entry) h k i;
  doomed = first_more (doom_in r) h k i;
  ended = first_more (end_in r) h k i;
}

or_none : {T : Type 0} (o : Option T) → option_or o None ≡ o
or_none None = refl
or_none (Some x) = refl

no_more : (n : ℕ) → n + 0 ≡ n
no_more n = omega arith

-- an entry of the run
told_own : (r : ℕ) (e : Entry) (n : ℕ) (p : RunProgress) → tells_of r e ≡ true → with_told r e n p ≡ progress_after e n p
told_own r (Arrived q m) n p own = λ i. record { arrived = option_or p.arrived (if own i then Some m else None); placed = or_none p.placed i; answered = no_more p.answered i; doomed = or_none p.doomed i; ended = or_none p.ended i }
told_own r (Placed q at m) n p own = λ i. record { arrived = or_none p.arrived i; placed = option_or p.placed (if is_some (if own i then Some at else None) then Some n else None); answered = no_more p.answered i; doomed = or_none p.doomed i; ended = or_none p.ended i }
told_own r (Did q k a) n p own = λ i. record { arrived = or_none p.arrived i; placed = or_none p.placed i; answered = p.answered + cond (own i) 1 0; doomed = or_none p.doomed i; ended = or_none p.ended i }
told_own r (Undid q d drove) n p own = λ i. record { arrived = or_none p.arrived i; placed = or_none p.placed i; answered = no_more p.answered i; doomed = or_none p.doomed i; ended = or_none p.ended i }
told_own r (Fell d) n p own = absurd (cc)
told_own r (Rose d) n p own = absurd (cc)
told_own r (Doomed q cause) n p own = λ i. record { arrived = or_none p.arrived i; placed = or_none p.placed i; answered = no_more p.answered i; doomed = option_or p.doomed (if own i then Some cause else None); ended = or_none p.ended i }
told_own r (Ended q end) n p own = λ i. record { arrived = or_none p.arrived i; placed = or_none p.placed i; answered = no_more p.answered i; doomed = or_none p.doomed i; ended = option_or p.ended (if own i then Some end else None) }

-- .. or of another one, or of none
told_other : (r : ℕ) (e : Entry) (n : ℕ) (p : RunProgress) → tells_of r e ≡ false → with_told r e n p ≡ p
told_other r e n p other = (λ i. record {
  arrived = option_or p.arrived (no_arrival e other i);
  placed = option_or p.placed (if is_some (no_placing e other i) then Some n else None);
  answered = p.answered + cond (no_answer e other i) 1 0;
  doomed = option_or p.doomed (no_doom e other i);
  ended = option_or p.ended (no_end e other i);
}) ∙ (λ i. record { arrived = or_none p.arrived i; placed = or_none p.placed i; answered = no_more p.answered i; doomed = or_none p.doomed i; ended = or_none p.ended i })
  where
    no_arrival : (e : Entry) → tells_of r e ≡ false → arrival_in r e ≡ None
    no_arrival (Arrived q m) o = λ i. if o i then Some m else None
    no_arrival (Placed q at m) o = refl
    no_arrival (Did q k a) o = refl
    no_arrival (Undid q d drove) o = refl
    no_arrival (Fell d) o = refl
    no_arrival (Rose d) o = refl
    no_arrival (Doomed q cause) o = refl
    no_arrival (Ended q end) o = refl

    no_placing : (e : Entry) → tells_of r e ≡ false → placing_in r e ≡ None
    no_placing (Arrived q m) o = refl
    no_placing (Placed q at m) o = λ i. if o i then Some at else None
    no_placing (Did q k a) o = refl
    no_placing (Undid q d drove) o = refl
    no_placing (Fell d) o = refl
    no_placing (Rose d) o = refl
    no_placing (Doomed q cause) o = refl
    no_placing (Ended q end) o = refl

    no_answer : (e : Entry) → tells_of r e ≡ false → is_answer_of r e ≡ false
    no_answer (Arrived q m) o = refl
    no_answer (Placed q at m) o = refl
    no_answer (Did q k a) o = o
    no_answer (Undid q d drove) o = refl
    no_answer (Fell d) o = refl
    no_answer (Rose d) o = refl
    no_answer (Doomed q cause) o = refl
    no_answer (Ended q end) o = refl

    no_doom : (e : Entry) → tells_of r e ≡ false → doom_in r e ≡ None
    no_doom (Arrived q m) o = refl
    no_doom (Placed q at m) o = refl
    no_doom (Did q k a) o = refl
    no_doom (Undid q d drove) o = refl
    no_doom (Fell d) o = refl
    no_doom (Rose d) o = refl
    no_doom (Doomed q cause) o = λ i. if o i then Some cause else None
    no_doom (Ended q end) o = refl

    no_end : (e : Entry) → tells_of r e ≡ false → end_in r e ≡ None
    no_end (Arrived q m) o = refl
    no_end (Placed q at m) o = refl
    no_end (Did q k a) o = refl
    no_end (Undid q d drove) o = refl
    no_end (Fell d) o = refl
    no_end (Rose d) o = refl
    no_end (Doomed q cause) o = refl
    no_end (Ended q end) o = λ i. if o i then Some end else None

pub progress_own : (h : List Kept) (k : Kept) (r : ℕ) → tells_of r k.entry ≡ true → progress_in (h ++ k ∷ []) r ≡ progress_after k.entry (length h) (progress_in h r)
progress_own h k r own = told_more h k r ∙ told_own r k.entry (length h) (progress_in h r) own

pub progress_other : (h : List Kept) (k : Kept) (r : ℕ) → tells_of r k.entry ≡ false → progress_in (h ++ k ∷ []) r ≡ progress_in h r
progress_other h k r other = told_more h k r ∙ told_other r k.entry (length h) (progress_in h r) other

-- a run has no more answers than there are entries
pub answered_low : (h : List Kept) (r : ℕ) → (progress_in h r).answered ≤ length h
answered_low h r = count_by-le-length (λ (k : Kept). is_answer_of r k.entry) h

-- What is known of all runs

noted_at : (known : List RunProgress) (q n r : ℕ) (e : Entry) → r < length known
    → slice_index_or (noted q e n known) r nothing_done ≡ (if q == r then progress_after e n (slice_index_or known r nothing_done) else slice_index_or known r nothing_done)
noted_at known q n r e within = by_place (nat_lt q (length known)) refl
  where
    new : RunProgress
    new = progress_after e n (slice_index_or known q nothing_done)

    set_one : nat_lt q (length known) ≡ true → (c : Bool) → (q == r) ≡ c → slice_index_or (slice_set known q new) r nothing_done ≡ (if c then progress_after e n (slice_index_or known r nothing_done) else slice_index_or known r nothing_done)
    set_one inside true same =
        let own : r ≡ q = grind (arith, common_steps) in
        get_or-set_at known q r new nothing_done own (grind (arith, common_steps)) ∙ ap (λ k. progress_after e n (slice_index_or known k nothing_done)) (sym own)
    set_one inside false apart =
        let other : r ≢ q = grind (arith, common_steps) in
        get_or-set_other known q r new nothing_done other

    past : nat_lt q (length known) ≡ false → (c : Bool) → (q == r) ≡ c → slice_index_or known r nothing_done ≡ (if c then progress_after e n (slice_index_or known r nothing_done) else slice_index_or known r nothing_done)
    past outside true same = let own : q ≡ r = grind (arith, common_steps) in absurd (grind (arith, common_steps))
    past outside false apart = refl

    by_place : (b : Bool) → nat_lt q (length known) ≡ b → slice_index_or (if b then slice_set known q new else known) r nothing_done ≡ (if q == r then progress_after e n (slice_index_or known r nothing_done) else slice_index_or known r nothing_done)
    by_place true inside = set_one inside (q == r) refl
    by_place false outside = past outside (q == r) refl

pub length_noted : (known : List RunProgress) (q n : ℕ) (e : Entry) → length (noted q e n known) ≡ length known
length_noted known q n e = grind (arith, common_steps)

-- an entry of this run
pub noted_along : (h g : Listed Kept) (k : Kept) (q : RunNo) (known new : List RunProgress) → g.items ≡ h.items ++ k ∷ [] → g.spare + 1 ≡ h.spare → run_in k.entry ≡ Some q → new ≡ noted q.0 k.entry (length h.items) known → IsReadAlong h known → IsReadAlong g new
noted_along h g k q known new more left run is along = record {
  size = λ some. ap length is ∙ length_noted known q.0 (length h.items) k.entry ∙ along.size (omega (arith, left));
  each = λ r within. ap (λ x. slice_index_or x r nothing_done) is ∙ each r (subst (λ x. r < length x) is within) ∙ ap (λ x. progress_in x r) (sym more);
}
  where
    tells : (r : ℕ) → tells_of r k.entry ≡ (q.0 == r)
    tells r = ap (λ o. unwrap_or (option_map (λ (x : RunNo). x.0 == r) o) false) run

    told : (r : ℕ) (b : Bool) → tells_of r k.entry ≡ b → (if b then progress_after k.entry (length h.items) (progress_in h.items r) else progress_in h.items r) ≡ progress_in (h.items ++ k ∷ []) r
    told r true own = sym (progress_own h.items k r own)
    told r false other = sym (progress_other h.items k r other)

    each : (r : ℕ) → r < length (noted q.0 k.entry (length h.items) known) → slice_index_or (noted q.0 k.entry (length h.items) known) r nothing_done ≡ progress_in (h.items ++ k ∷ []) r
    each r within =
        let inside = subst (λ n. r < n) (length_noted known q.0 (length h.items) k.entry) within in
        noted_at known q.0 (length h.items) r k.entry inside
        ∙ ap (λ p. if q.0 == r then progress_after k.entry (length h.items) p else p) (along.each r inside)
        ∙ told r (q.0 == r) (tells r)

-- .. or of no run
pub stays_along : (h g : Listed Kept) (k : Kept) (known : List RunProgress) → g.items ≡ h.items ++ k ∷ [] → g.spare + 1 ≡ h.spare → run_in k.entry ≡ None → IsReadAlong h known → IsReadAlong g known
stays_along h g k known more left none along = record {
  size = λ some. along.size (omega (arith, left));
  each = λ r within. along.each r within ∙ sym (progress_other h.items k r (ap (λ o. unwrap_or (option_map (λ (x : RunNo). x.0 == r) o) false) none)) ∙ ap (λ x. progress_in x r) (sym more);
}

-- room is made: a place for each run that a window may have
pub places_along : (h g : Listed Kept) (known new : List RunProgress) → g.items ≡ h.items → length new ≡ suc most_runs
    → ((r : ℕ) (d : RunProgress) → r < suc most_runs → r < length known → slice_index_or new r d ≡ slice_index_or known r d) → ((r : ℕ) (d : RunProgress) → length known ≤ r → r < suc most_runs → slice_index_or new r d ≡ nothing_done)
    → IsReadAlong h known → IsReadAlong g new
places_along h g known new same long old made along = record {
  size = λ some. long;
  each = λ r within. each r (subst (λ n. r < n) long within) (nat_lt r (length known)) refl ∙ ap (λ x. progress_in x r) (sym same);
}
  where
    empty : (xs : List Kept) → (0 < length xs → length known ≡ suc most_runs) → (r : ℕ) → length known ≤ r → r < suc most_runs → nothing_done ≡ progress_in xs r
    empty [] full r past below = refl
    empty (x ∷ xs) full r past below = let all = full (omega arith) in let none : ⊥ = omega (arith, all, past, below) in absurd none

    each : (r : ℕ) → r < suc most_runs → (b : Bool) → nat_lt r (length known) ≡ b → slice_index_or new r nothing_done ≡ progress_in h.items r
    each r below true inside = let within : r < length known = grind (arith, common_steps) in old r nothing_done below within ∙ along.each r within
    each r below false outside = let past : length known ≤ r = grind (arith, common_steps) in made r nothing_done past below ∙ empty h.items (λ some. along.size (omega (arith, some))) r past below

-- the same room
pub same_along : (h g : Listed Kept) (known new : List RunProgress) → g ≡ h → new ≡ known → IsReadAlong h known → IsReadAlong g new
same_along h g known new same is along = subst (λ x. IsReadAlong x new) (sym same) (subst (λ x. IsReadAlong h x) (sym is) along)

-- where there is an entry, or room for one, each run has a place
pub has_place : (h : Listed Kept) (known : List RunProgress) (r : ℕ) → r ≤ most_runs → 0 < length h.items + h.spare → IsReadAlong h known → r < length known
has_place h known r low some along = let all = along.size some in omega (arith, all, low)

-- Read one after another

pub read_one : (h : List Kept) (at r : ℕ) (d : Kept) (p : RunProgress) (b : Bool) → at < length h → p ≡ progress_in (take at h) r → tells_of r (slice_index_or h at d).entry ≡ b
    → (if b then progress_after (slice_index_or h at d).entry at p else p) ≡ progress_in (take (at + 1) h) r
read_one h at r d p b within read tells = by_run b tells ∙ ap (λ x. progress_in x r) (sym (take_more h at d within))
  where
    k : Kept
    k = slice_index_or h at d

    long : length (take at h) ≡ at
    long = grind (arith, common_steps)

    by_run : (b : Bool) → tells_of r k.entry ≡ b → (if b then progress_after k.entry at p else p) ≡ progress_in (take at h ++ k ∷ []) r
    by_run true own = ap (progress_after k.entry at) read ∙ ap (λ n. progress_after k.entry n (progress_in (take at h) r)) (sym long) ∙ sym (progress_own (take at h) k r own)
    by_run false other = read ∙ sym (progress_other (take at h) k r other)

-- the place of an item that was put at the end
pub place_before : {A : Type 0} (xs ys : List A) (y : A) (n : ℕ) → ys ≡ xs ++ y ∷ [] → n ≡ length ys → n - 1 ≡ length xs
place_before xs ys y n more long = let all : length ys ≡ length xs + 1 = rw more (grind (arith, common_steps)) in omega (arith, long, all)

-- .. and room for one answer more, where there are that many entries
pub answer_fits : (h : Listed Kept) (g : List Kept) (k : Kept) (known : List RunProgress) (r bound : ℕ) → g ≡ h.items ++ k ∷ [] → IsReadAlong h known → length g < bound → r < length known → (slice_index_or known r nothing_done).answered + 1 < bound
answer_fits h g k known r bound more along low within =
    let all : length g ≡ length h.items + 1 = rw more (grind (arith, common_steps)) in
    let low' = subst (λ (p : RunProgress). p.answered ≤ length h.items) (sym (along.each r within)) (answered_low h.items r) in
    omega (arith, all, low, low')

-- what is lent comes back
pub comes_back : {A : Type 0} (xs new : List A) (n : ℕ) → n ≡ length xs → length new ≡ length xs → take n (new ++ drop (length new) xs) ≡ new
comes_back xs new n all same = let whole : n ≡ length new = all ∙ sym same in rw whole (grind (arith, common_steps))
