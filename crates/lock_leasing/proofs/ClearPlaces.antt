-- The places behind which nothing must stand before a run: those of every scheduler are such places.
use Rattle.lock_leasing.proofs.Prelude.{At, Back, Bool, Denial, DeniedBy, Failed, Fcfs, Grips, IsClear, IsTrue, Item, JustInTime, List, MayBeOut, None, Option, Placing, Ran, Reading, RunNo, Scheduler, Setting, Some, Split, Timeline, [], ap, arith, asks_next, asks_on, at_end, binds, chosen, common_steps, denial_of, devices_of, did, drop, false, first_place, first_within, follows, gap_holds, gap_set, gaps_behind, grips_command, has_touched, if◌then◌else◌, in_order, is_committed, is_device, is_event_on, is_live, is_needed, is_next_on, is_ran, length, line_for, line_length, list_any, list_any-append, max, nat_le, next_of, of_run, others, patience, point, range_with_len, rearranged, refl, scheduled_place, scheduler_of, split_at, subst, suc, sym, take, touches, true, unwrap_or, up_to_first, up_to_last, zero, ℕ, ◌&&◌, ◌++◌, ◌+◌, ◌<◌, ◌==◌, ◌||◌, ◌∙◌, ◌∷◌, ◌≡◌, ◌≤◌}
use Rattle.history_book.specs.Sealed.{sealed_in}
use Rattle.lock_leasing.proofs.Bindings.{any_filter, any_range}
use Rattle.lock_leasing.proofs.Facts.{command_out}
use Rattle.std.proofs.lemmas.List.{length-append, take-append-drop}

-- The first place

last_within : (test : Item → Bool) (is : List Item) → up_to_last test is ≤ length is
last_within test [] = omega arith
last_within test (i ∷ is) = at (list_any test (i ∷ is)) (last_within test is)
  where
    at : (b : Bool) → up_to_last test is ≤ length is → (if b then up_to_last test is + 1 else 0) ≤ length (i ∷ is)
    at true behind = omega (arith, behind)
    at false behind = omega arith

-- it is one of the line
pub place_within : (w : Setting) (n : Reading) (g : Grips) (r : ℕ) → first_place (point w n g) r ≤ length n.line
place_within w n g r =
    let last = last_within (binds (point w n g) r) n.line in
    let live = first_within (of_run (is_live n)) n.line in
    both (up_to_last (binds (point w n g) r) n.line) (up_to_first (of_run (is_live n)) n.line) (length n.line) last live
  where
    both : (a b k : ℕ) → a ≤ k → b ≤ k → max a b ≤ k
    both a b k h l = grind (arith, common_steps)

-- behind the last item of which a test holds it holds of none
none_behind : (test : Item → Bool) (is : List Item) (at : ℕ) → up_to_last test is ≤ at → list_any test (drop at is) ≡ false
none_behind test [] zero le = refl
none_behind test [] (suc k) le = refl
none_behind test (i ∷ is) zero le = by_some (list_any test (i ∷ is)) le
  where
    by_some : (b : Bool) → (if b then up_to_last test is + 1 else 0) ≤ 0 → b ≡ false
    by_some true le = absurd (omega (arith, le))
    by_some false le = refl
none_behind test (i ∷ is) (suc k) le = by_some (list_any test (i ∷ is)) refl le (λ less. none_behind test is k less)
  where
    last : (a b : Bool) → (a || b) ≡ false → b ≡ false
    last a b h = grind (arith, common_steps)

    by_some : (b : Bool) → list_any test (i ∷ is) ≡ b → (if b then up_to_last test is + 1 else 0) ≤ suc k → (up_to_last test is ≤ k → list_any test (drop k is) ≡ false) → list_any test (drop k is) ≡ false
    by_some true e le rest = rest (omega (arith, le))
    by_some false e le rest =
        last (list_any test (take k is)) (list_any test (drop k is)) (sym (list_any-append test (take k is) (drop k is)) ∙ ap (list_any test) (take-append-drop k is) ∙ last (test i) (list_any test is) e)

-- each place from the first one on is clear
pub clear_from : (w : Setting) (n : Reading) (g : Grips) (r at : ℕ) → first_place (point w n g) r ≤ at → IsClear (point w n g) r at
clear_from w n g r at from = none_behind (binds (point w n g) r) n.line at (first (up_to_last (binds (point w n g) r) n.line) (up_to_first (of_run (is_live n)) n.line) at from)
  where
    first : (a b k : ℕ) → max a b ≤ k → a ≤ k
    first a b k h = grind (arith, common_steps)

-- .. and behind what is sealed
behind_sealed : (w : Setting) (n : Reading) (g : Grips) (r at : ℕ) → first_place (point w n g) r ≤ at → sealed_in n ≤ at
behind_sealed w n g r at from = last (up_to_last (binds (point w n g) r) n.line) (sealed_in n) at from
  where
    last : (a b k : ℕ) → max a b ≤ k → b ≤ k
    last a b k h = grind (arith, common_steps)

-- .. and so is the end
pub clear_at_end : (w : Setting) (n : Reading) (g : Grips) (r : ℕ) → IsClear (point w n g) r (length n.line)
clear_at_end w n g r = clear_from w n g r (length n.line) (place_within w n g r)

-- where one test holds of none of these items, neither does one that fails wherever it does
pub none_beside : (test : Item → Bool) (p : Item → Bool) (is : List Item) → ((i : Item) → test i ≡ false → p i ≡ false) → list_any test is ≡ false → list_any p is ≡ false
none_beside test p [] each none = refl
none_beside test p (i ∷ is) each none = λ j. each i (first (test i) (list_any test is) none) j || none_beside test p is each (last (test i) (list_any test is) none) j
  where
    first : (a b : Bool) → (a || b) ≡ false → a ≡ false
    first a b h = grind (arith, common_steps)

    last : (a b : Bool) → (a || b) ≡ false → b ≡ false
    last a b h = grind (arith, common_steps)

-- The set of the timeline

-- what binds is needed
bound_needed : (w : Setting) (n : Reading) (g : Grips) (r : ℕ) → MayBeOut (point w n g) → (i : Item) → is_needed w n r i ≡ false → binds (point w n g) r i ≡ false
bound_needed w n g r out (Ran x) none =
    let parts = neither (list_any (λ d. did n x.0 d || (is_live n x.0 && is_next_on w n x.0 d)) (devices_of w r)) (follows w.runs r x.0 && is_committed n x.0) none in
    λ k. none_touched (devices_of w r) parts.0 k || parts.1 k
  where
    neither : (a b : Bool) → (a || b) ≡ false → (a ≡ false) × (b ≡ false)
    neither a b h = (grind (arith, common_steps), grind (arith, common_steps))

    held : (d : ℕ) → grips_command g x.0 d ≡ true → (is_live n x.0 && is_next_on w n x.0 d) ≡ true
    held d at =
        let found = command_out g x.0 d at in
        let may = two (is_live n x.0) (asks_on w n x.0 d) (found.0 == next_of n x.0) (out.commands d x.0 found.0 found.1) in
        λ i. may.0 i && asks_next w n x.0 d may.1 i
      where
        two : (a b c : Bool) → IsTrue (a && b && c) → (a ≡ true) × (b ≡ true)
        two a b c h = (grind (arith, common_steps), grind (arith, common_steps))

    touched : (d : ℕ) (a b c : Bool) → (c ≡ true → b ≡ true) → (a || b) ≡ false → (a || c) ≡ false
    touched d a b c h e = grind (arith, common_steps)

    none_touched : (ds : List ℕ) → list_any (λ d. did n x.0 d || (is_live n x.0 && is_next_on w n x.0 d)) ds ≡ false → list_any (has_touched n g x.0) ds ≡ false
    none_touched [] e = refl
    none_touched (d ∷ ds) e =
        let parts = neither (did n x.0 d || (is_live n x.0 && is_next_on w n x.0 d)) (list_any (λ d. did n x.0 d || (is_live n x.0 && is_next_on w n x.0 d)) ds) e in
        λ k. touched d (did n x.0 d) (is_live n x.0 && is_next_on w n x.0 d) (grips_command g x.0 d) (held d) parts.0 k || none_touched ds parts.1 k
bound_needed w n g r out (Failed d k) none = none
bound_needed w n g r out (Back d k) none = none

-- The schedulers

-- the run stands at a place of the line, in the order that it has for the run, behind what is sealed
pub record StandsAt (w : Setting) (n : Reading) (r m : ℕ) (s : Split) : Type 0 where
  pub parted : s ≡ split_at (line_for w n r m) (length s.front)
  pub sealed : sealed_in n ≤ length s.front
  pub within : length s.front ≤ length n.line

-- .. and where only such grips are out as may be, nothing behind it must stand before
abbrev IsPlaceFor : Setting → Reading → Grips → ℕ → ℕ → Split → Type 0
IsPlaceFor w n g r m s = StandsAt w n r m s × (MayBeOut (point w n g) → IsClear (point w (in_order n (line_for w n r m)) g) r (length s.front))

-- a place from the first one on, where the line stays as it is
stands_at : (w : Setting) (n : Reading) (g : Grips) (r at m : ℕ) (s : Split) → line_for w n r m ≡ n.line → first_place (point w n g) r ≤ at → at ≤ length n.line → At (split_at n.line at) ≡ At s → IsPlaceFor w n g r m s
stands_at w n g r at m s stays from within is = subst (IsPlaceFor w n g r m) (ap placed is) (stands, clear)
  where
    placed : Placing → Split
    placed (At s) = s
    placed (DeniedBy d x) = split_at n.line at

    size : length (take at n.line) ≡ at
    size = grind (arith, common_steps)

    stands : StandsAt w n r m (split_at n.line at)
    stands = record {
      parted = sym (ap (split_at n.line) size) ∙ sym (ap (λ l. split_at l (length (take at n.line))) stays);
      sealed = subst (λ k. sealed_in n ≤ k) (sym size) (behind_sealed w n g r at from);
      within = subst (λ k. k ≤ length n.line) (sym size) within;
    }

    clear : MayBeOut (point w n g) → IsClear (point w (in_order n (line_for w n r m)) g) r (length (take at n.line))
    clear out = subst (IsClear (point w (in_order n (line_for w n r m)) g) r) (sym size) (subst (λ l. IsClear (point w (in_order n l) g) r at) (sym stays) (clear_from w n g r at from))

-- behind the set of the timeline, where its items come first in the line
stands_in_gaps : (w : Setting) (n : Reading) (g : Grips) (r m : ℕ) (s : Split) → line_for w n r m ≡ rearranged (gap_set w n r m) n.line → At (record { front = chosen (gap_set w n r m) n.line; back = others (gap_set w n r m) n.line }) ≡ At s → IsPlaceFor w n g r m s
stands_in_gaps w n g r m s parts is = subst (IsPlaceFor w n g r m) (ap placed is) (stands, clear)
  where
    ahead : List Item
    ahead = chosen (gap_set w n r m) n.line

    rest : List Item
    rest = others (gap_set w n r m) n.line

    placed : Placing → Split
    placed (At s) = s
    placed (DeniedBy d x) = record { front = ahead; back = rest }

    front_is : take (length ahead) (ahead ++ rest) ≡ ahead
    front_is = grind (arith, common_steps)

    back_is : drop (length ahead) (ahead ++ rest) ≡ rest
    back_is = grind (arith, common_steps)

    long : length (ahead ++ rest) ≡ length n.line
    long = ap length (sym parts) ∙ line_length w n r m

    stands : StandsAt w n r m (record { front = ahead; back = rest })
    stands = record {
      parted = (λ k. record { front = sym front_is k; back = sym back_is k }) ∙ ap (λ l. split_at l (length ahead)) (sym parts);
      sealed = gaps_behind w n r m;
      within = let sum = length-append ahead rest in omega (arith, sum, long);
    }

    clear : MayBeOut (point w n g) → IsClear (point w (in_order n (line_for w n r m)) g) r (length ahead)
    clear out = subst (λ l. IsClear (point w (in_order n l) g) r (length ahead)) (sym parts) (ap (list_any (binds (point w n g) r)) back_is ∙ none_beside (is_needed w n r) (binds (point w n g) r) rest (bound_needed w n g r out) (gap_holds w n r m))

scheduled : (w : Setting) (n : Reading) (g : Grips) (r m : ℕ) (s : Split) → scheduled_place (point w n g) r m ≡ At s → IsPlaceFor w n g r m s
scheduled w n g r m s is = by_scheduler (scheduler_of w.mode) refl is
  where
    admitted : Option Denial → Placing
    admitted None = At (split_at n.line (first_place (point w n g) r))
    admitted (Some x) = if nat_le (unwrap_or (n.run r).arrived 0 + patience) m then at_end n else DeniedBy x.device x.run

    placed : Scheduler → Placing
    placed Fcfs = at_end n
    placed JustInTime = admitted (denial_of (point w n g) r)
    placed Timeline = At (record { front = chosen (gap_set w n r m) n.line; back = others (gap_set w n r m) n.line })

    line : Scheduler → List Item
    line Fcfs = n.line
    line JustInTime = n.line
    line Timeline = rearranged (gap_set w n r m) n.line

    whole : first_place (point w n g) r ≤ length n.line
    whole = place_within w n g r

    last : line_for w n r m ≡ n.line → at_end n ≡ At s → IsPlaceFor w n g r m s
    last stays = stands_at w n g r (length n.line) m s stays whole (omega arith)

    by_denial : line_for w n r m ≡ n.line → (o : Option Denial) → admitted o ≡ At s → IsPlaceFor w n g r m s
    by_denial stays None is = stands_at w n g r (first_place (point w n g) r) m s stays (omega arith) whole is
    by_denial stays (Some x) is = by_time (nat_le (unwrap_or (n.run r).arrived 0 + patience) m) is
      where
        by_time : (b : Bool) → (if b then at_end n else DeniedBy x.device x.run) ≡ At s → IsPlaceFor w n g r m s
        by_time true is = last stays is
        by_time false is = absurd (cc)

    by_scheduler : (scheduler : Scheduler) → line_for w n r m ≡ line scheduler → placed scheduler ≡ At s → IsPlaceFor w n g r m s
    by_scheduler Fcfs same is = last same is
    by_scheduler JustInTime same is = by_denial same (denial_of (point w n g) r) is
    by_scheduler Timeline same is = stands_in_gaps w n g r m s same is

-- where a scheduler places a run is a place of the line
pub scheduled_stands : (w : Setting) (n : Reading) (g : Grips) (r m : ℕ) (s : Split) → scheduled_place (point w n g) r m ≡ At s → StandsAt w n r m s
scheduled_stands w n g r m s is = (scheduled w n g r m s is).0

-- .. and a clear one
pub scheduled_is_clear : (w : Setting) (n : Reading) (g : Grips) (r m : ℕ) (s : Split) → MayBeOut (point w n g) → scheduled_place (point w n g) r m ≡ At s → IsClear (point w (in_order n (line_for w n r m)) g) r (length s.front)
scheduled_is_clear w n g r m s out is = (scheduled w n g r m s is).1 out

-- What stands behind a clear place

-- a run that does not bind has touched no device of the run
pub unbound_touch : (w : Setting) (n : Reading) (g : Grips) (r d : ℕ) (q : RunNo) → binds (point w n g) r (Ran q) ≡ false → is_device w d ≡ true → touches w.runs r d ≡ true → has_touched n g q.0 d ≡ false
unbound_touch w n g r d q unbound device used = by_touch (has_touched n g q.0 d) refl
  where
    none : list_any (has_touched n g q.0) (devices_of w r) ≡ false
    none = first (list_any (has_touched n g q.0) (devices_of w r)) (follows w.runs r q.0 && is_committed n q.0) unbound
      where
        first : (a b : Bool) → (a || b) ≡ false → a ≡ false
        first a b h = grind (arith, common_steps)

    both : (a b : Bool) → a ≡ true → b ≡ true → (a && b) ≡ true
    both a b h k = grind (arith, common_steps)

    by_touch : (b : Bool) → has_touched n g q.0 d ≡ b → b ≡ false
    by_touch true e = absurd (
        let some = any_range (λ k. touches w.runs r k && has_touched n g q.0 k) 0 (length w.first) d (omega arith) (below device) (both (touches w.runs r d) (has_touched n g q.0 d) used e) in
        let clash : true ≡ false = sym some ∙ sym (any_filter (has_touched n g q.0) (touches w.runs r) (range_with_len 0 (length w.first))) ∙ none in
        cc
        )
      where
        below : is_device w d ≡ true → d < 0 + length w.first
        below h = grind (arith, common_steps)
    by_touch false e = refl

-- no run behind the place has touched a device of the run
pub clear_touch : (w : Setting) (n : Reading) (g : Grips) (r at d : ℕ) → IsClear (point w n g) r at → is_device w d ≡ true → touches w.runs r d ≡ true → list_any (of_run (λ x. has_touched n g x d)) (drop at n.line) ≡ false
clear_touch w n g r at d clear device used = none_beside (binds (point w n g) r) (of_run (λ x. has_touched n g x d)) (drop at n.line) untouched clear
  where
    untouched : (i : Item) → binds (point w n g) r i ≡ false → of_run (λ x. has_touched n g x d) i ≡ false
    untouched (Ran q) unbound = unbound_touch w n g r d q unbound device used
    untouched (Failed e k) unbound = refl
    untouched (Back e k) unbound = refl

-- .. and no event of one stands there
pub clear_event : (w : Setting) (n : Reading) (g : Grips) (r at d : ℕ) → IsClear (point w n g) r at → touches w.runs r d ≡ true → list_any (is_event_on d) (drop at n.line) ≡ false
clear_event w n g r at d clear used = none_beside (binds (point w n g) r) (is_event_on d) (drop at n.line) elsewhere clear
  where
    differ : (e : ℕ) → touches w.runs r e ≡ false → (b : Bool) → (e == d) ≡ b → b ≡ false
    differ e off true h = absurd (let same : e ≡ d = grind (arith, common_steps) in let clash : true ≡ false = sym used ∙ sym (ap (touches w.runs r) same) ∙ off in cc)
    differ e off false h = refl

    elsewhere : (i : Item) → binds (point w n g) r i ≡ false → is_event_on d i ≡ false
    elsewhere (Ran q) unbound = refl
    elsewhere (Failed e k) unbound = differ e.0 unbound (e.0 == d) refl
    elsewhere (Back e k) unbound = differ e.0 unbound (e.0 == d) refl

-- the committed run that the run follows does not stand there
pub clear_followed : (w : Setting) (n : Reading) (g : Grips) (r at x : ℕ) → IsClear (point w n g) r at → follows w.runs r x ≡ true → is_committed n x ≡ true → list_any (is_ran x) (drop at n.line) ≡ false
clear_followed w n g r at x clear followed committed = none_beside (binds (point w n g) r) (is_ran x) (drop at n.line) other clear
  where
    last : (a b : Bool) → (a || b) ≡ false → b ≡ false
    last a b h = grind (arith, common_steps)

    differ : (q : ℕ) → (follows w.runs r q && is_committed n q) ≡ false → (b : Bool) → (q == x) ≡ b → b ≡ false
    differ q off true h = absurd (
        let same : q ≡ x = grind (arith, common_steps) in
        let clash : true ≡ false = sym (λ i. followed i && committed i) ∙ sym (ap (λ y. follows w.runs r y && is_committed n y) same) ∙ off in
        cc
        )
    differ q off false h = refl

    other : (i : Item) → binds (point w n g) r i ≡ false → is_ran x i ≡ false
    other (Ran q) unbound = differ q.0 (last (list_any (has_touched n g q.0) (devices_of w r)) (follows w.runs r q.0 && is_committed n q.0) unbound) (q.0 == x) refl
    other (Failed e k) unbound = refl
    other (Back e k) unbound = refl
