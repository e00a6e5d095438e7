-- The items before the first live run stay as they are, and do not become fewer, with one entry more; and so along a history.
use Rattle.history_book.proofs.Prelude.{Aborted, Along, Arrived, Back, BeginsWithSealed, Bool, Committed, Did, Doomed, Ended, Entry, Failed, Fell, IsPlacedBehind, IsTrue, IsWellFormed, Item, List, None, OfRun, Option, Placed, PlacedAt, Ran, Reading, Rose, Setting, Some, StaysSealed, Undid, [], along, ap, arith, common_steps, cond, did, drop, entry, false, fold, front_for, if◌then◌else◌, is_cause_of, is_doomed, is_live, is_none, is_open, is_ran, is_run, is_some, is_weak, length, line_for, line_of, list_any, may_follow, not, nothing_read, of_run, pends, planned_times, put_before, reading, refl, sealed_in, sealed_of, split_of, subst, suc, sym, take, take-append-drop, true, up_to_first, without, zero, ℕ, ◌&&◌, ◌++◌, ◌+◌, ◌==◌, ◌||◌, ◌∙◌, ◌∷◌, ◌≡◌, ◌≤◌}
use Rattle.history_book.proofs.GapFronts.{line_front}
use Rattle.history_book.proofs.Lines.{take_next}
use Rattle.history_book.proofs.Shapes.{put_all}
use Rattle.history_book.proofs.Snoc.{along_on, put_keeps, reading_on}
use Rattle.history_book.proofs.Splits.{line_length}
use Rattle.history_book.proofs.Standing.{Standing, standing, standing_step}

-- Lists

-- an event goes no further in front than the first live run
before_event : (live test : Item → Bool) (x : Item) (line : List Item) → ((i : Item) → live i ≡ false → test i ≡ false) → take (up_to_first live line) (put_before test x line) ≡ take (up_to_first live line) line
before_event live test x [] each = refl
before_event live test x (i ∷ is) each = by_live (live i) refl (before_event live test x is each)
  where
    by_live : (b : Bool) → live i ≡ b → take (up_to_first live is) (put_before test x is) ≡ take (up_to_first live is) is → take (if b then 0 else up_to_first live is + 1) (put_before test x (i ∷ is)) ≡ take (if b then 0 else up_to_first live is + 1) (i ∷ is)
    by_live true e rest = refl
    by_live false e rest =
        ap (λ b. take (up_to_first live is + 1) (if b then x ∷ i ∷ is else i ∷ put_before test x is)) (each i e)
        ∙ take_next (up_to_first live is) i (put_before test x is) ∙ ap (λ l. i ∷ l) rest ∙ sym (take_next (up_to_first live is) i is)

-- a live run that leaves is none of those
before_leaver : (live : Item → Bool) (r : ℕ) (line : List Item) → ((i : Item) → live i ≡ false → is_ran r i ≡ false) → take (up_to_first live line) (without r line) ≡ take (up_to_first live line) line
before_leaver live r [] each = refl
before_leaver live r (i ∷ is) each = by_live (live i) refl (before_leaver live r is each)
  where
    by_live : (b : Bool) → live i ≡ b → take (up_to_first live is) (without r is) ≡ take (up_to_first live is) is → take (if b then 0 else up_to_first live is + 1) (without r (i ∷ is)) ≡ take (if b then 0 else up_to_first live is + 1) (i ∷ is)
    by_live true e rest = refl
    by_live false e rest =
        ap (λ b. take (up_to_first live is + 1) (cond (not b) (i ∷ without r is) (without r is))) (each i e)
        ∙ take_next (up_to_first live is) i (without r is) ∙ ap (λ l. i ∷ l) rest ∙ sym (take_next (up_to_first live is) i is)

-- a run that is put in at or behind a place leaves those before it
before_place : (line : List Item) (x : Item) (at k : ℕ) → k ≤ at → k ≤ length line → take k (take at line ++ x ∷ drop at line) ≡ take k line
before_place line x at zero low within = refl
before_place line x zero (suc k) low within = absurd (omega (arith, low))
before_place [] x (suc at) (suc k) low within = absurd (omega (arith, within))
before_place (i ∷ is) x (suc at) (suc k) low within = ap (λ l. i ∷ l) (before_place is x at k (omega (arith, low)) (omega (arith, within)))

pub first_within : (live : Item → Bool) (line : List Item) → up_to_first live line ≤ length line
first_within live [] = omega arith
first_within live (i ∷ is) = by_live (live i) (first_within live is)
  where
    by_live : (b : Bool) → up_to_first live is ≤ length is → (if b then 0 else up_to_first live is + 1) ≤ suc (length is)
    by_live true rest = omega arith
    by_live false rest = omega (arith, rest)

-- none of them is live, and so many that are not live are among them
none_sealed : (live : Item → Bool) (line : List Item) → list_any live (take (up_to_first live line) line) ≡ false
none_sealed live [] = refl
none_sealed live (i ∷ is) = by_live (live i) refl (none_sealed live is)
  where
    by_live : (b : Bool) → live i ≡ b → list_any live (take (up_to_first live is) is) ≡ false → list_any live (take (if b then 0 else up_to_first live is + 1) (i ∷ is)) ≡ false
    by_live true e rest = refl
    by_live false e rest = ap (list_any live) (take_next (up_to_first live is) i is) ∙ (λ k. e k || rest k)

sealed_least : (live : Item → Bool) (line : List Item) (k : ℕ) → k ≤ length line → list_any live (take k line) ≡ false → k ≤ up_to_first live line
sealed_least live line zero within none = omega arith
sealed_least live [] (suc k) within none = absurd (omega (arith, within))
sealed_least live (i ∷ is) (suc k) within none = by_live (live i) refl (sealed_least live is k (omega (arith, within)) (last (live i) (list_any live (take k is)) none))
  where
    last : (a b : Bool) → (a || b) ≡ false → b ≡ false
    last a b h = grind (arith, common_steps)

    clash : (a b : Bool) → (a || b) ≡ false → a ≡ true → ⊥
    clash a b h e = grind (arith, common_steps)

    by_live : (b : Bool) → live i ≡ b → k ≤ up_to_first live is → suc k ≤ (if b then 0 else up_to_first live is + 1)
    by_live true e rest = absurd (clash (live i) (list_any live (take k is)) none e)
    by_live false e rest = omega (arith, rest)

-- One entry more: they stay

-- who waits for its first answer is live
dead_waits : (w : Setting) (n : Reading) (d : ℕ) (i : Item) → of_run (is_live n) i ≡ false → of_run (λ r. not (is_weak w.mode) && is_open w n r d && not (did n r d)) i ≡ false
dead_waits w n d (Ran r) dead = by_parts (not (is_weak w.mode)) (is_live n r.0) (not (is_doomed n r.0)) (pends w n r.0 d) (not (did n r.0 d)) dead
  where
    by_parts : (a b c e f : Bool) → b ≡ false → (a && (b && c && e) && f) ≡ false
    by_parts a b c e f h = grind (arith, common_steps)
dead_waits w n d (Failed e k) dead = refl
dead_waits w n d (Back e k) dead = refl

-- a live run is none of the others
dead_other : (n : Reading) (r : ℕ) → is_live n r ≡ true → (i : Item) → of_run (is_live n) i ≡ false → is_ran r i ≡ false
dead_other n r live (Ran q) dead = at_ (q.0 == r) refl
  where
    same : (q.0 == r) ≡ true → q.0 ≡ r
    same e = grind (arith, common_steps)

    at_ : (b : Bool) → (q.0 == r) ≡ b → b ≡ false
    at_ true e = absurd (cc (sym (ap (is_live n) (same e) ∙ live) ∙ dead))
    at_ false e = refl
dead_other n r live (Failed e k) dead = refl
dead_other n r live (Back e k) dead = refl

sealed_first : (w : Setting) (n : Reading) (e : Entry) → may_follow w n e ≡ true → IsPlacedBehind n e → take (sealed_in n) (entry w n e).line ≡ take (sealed_in n) n.line
unfolding split_of
sealed_first w n (Arrived r m) may behind = refl
sealed_first w n (Placed r at m) may behind = before_place (line_for w n r.0 m) (Ran r) at (sealed_in n) behind within ∙ line_front w n r.0 m
  where
    within : sealed_in n ≤ length (line_for w n r.0 m)
    within = let low = first_within (of_run (is_live n)) n.line in let same = line_length w n r.0 m in omega (arith, low, same)
sealed_first w n (Did r c a) may behind = refl
sealed_first w n (Undid r d drove) may behind = refl
sealed_first w n (Fell d) may behind = before_event (of_run (is_live n)) _ (Failed d _) n.line (λ i e. dead_waits w n d.0 i e)
sealed_first w n (Rose d) may behind = before_event (of_run (is_live n)) _ (Back d _) n.line (λ i e. dead_waits w n d.0 i e)
sealed_first w n (Doomed r cause) may behind = refl
sealed_first w n (Ended r Committed) may behind = refl
sealed_first w n (Ended r (Aborted cause)) may behind = before_leaver (of_run (is_live n)) r.0 n.line (λ i e. dead_other n r.0 (acts (is_run w.runs r.0) (is_live n r.0) (is_cause_of n r.0 cause) may) i e)
  where
    acts : (a b c : Bool) → (a && b && c) ≡ true → b ≡ true
    acts a b c h = grind (arith, common_steps)

-- .. and they do not become fewer

reaches : (k : ℕ) (xs ys : List Item) → take k xs ≡ take k ys → k ≤ length ys → k ≤ length xs
reaches zero xs ys same within = omega arith
reaches (suc k) xs [] same within = absurd (omega (arith, within))
reaches (suc k) [] (y ∷ ys) same within = absurd cc
reaches (suc k) (x ∷ xs) (y ∷ ys) same within = let rest = reaches k xs ys (ap tail same) (omega (arith, within)) in omega (arith, rest)
  where
    tail : List Item → List Item
    tail [] = []
    tail (z ∷ zs) = zs

left_of : (a b : Bool) → (a || b) ≡ false → a ≡ false
left_of a b h = grind (arith, common_steps)

right_of : (a b : Bool) → (a || b) ≡ false → b ≡ false
right_of a b h = grind (arith, common_steps)

still_none : (live later : Item → Bool) (is : List Item) → ((i : Item) → live i ≡ false → later i ≡ false) → list_any live is ≡ false → list_any later is ≡ false
still_none live later [] each none = refl
still_none live later (i ∷ is) each none = λ k. each i (left_of (live i) (list_any live is) none) k || still_none live later is each (right_of (live i) (list_any live is) none) k

part_none : (p : Item → Bool) (k : ℕ) (is : List Item) → list_any p is ≡ false → list_any p (take k is) ≡ false
part_none p zero is none = refl
part_none p (suc k) [] none = refl
part_none p (suc k) (i ∷ is) none = λ j. left_of (p i) (list_any p is) none j || part_none p k is (right_of (p i) (list_any p is) none) j

both_none : (p q : Item → Bool) (is : List Item) → list_any p is ≡ false → list_any q is ≡ false → list_any (λ i. p i || q i) is ≡ false
both_none p q [] h k = refl
both_none p q (i ∷ is) h k = parts (p i) (q i) (list_any p is) (list_any q is) (list_any (λ j. p j || q j) is) h k (both_none p q is)
  where
    parts : (a b c e f : Bool) → (a || c) ≡ false → (b || e) ≡ false → (c ≡ false → e ≡ false → f ≡ false) → ((a || b) || f) ≡ false
    parts a b c e f h k rest = grind (arith, common_steps)

-- where the entry makes no other run of the line live than those that this test names
grows : (n next : Reading) (p : Item → Bool) → take (sealed_in n) next.line ≡ take (sealed_in n) n.line → list_any p (take (sealed_in n) n.line) ≡ false → ((i : Item) → (of_run (is_live n) i || p i) ≡ false → of_run (is_live next) i ≡ false) → sealed_in n ≤ sealed_in next
grows n next p same none each =
    sealed_least (of_run (is_live next)) next.line (sealed_in n) (reaches (sealed_in n) next.line n.line same (first_within (of_run (is_live n)) n.line))
    (ap (list_any (of_run (is_live next))) same ∙ still_none (λ i. of_run (is_live n) i || p i) (of_run (is_live next)) (take (sealed_in n) n.line) each (both_none (of_run (is_live n)) p (take (sealed_in n) n.line) (none_sealed (of_run (is_live n)) n.line) none))

abbrev never : Item → Bool
never i = false

none_never : (is : List Item) → list_any never is ≡ false
none_never [] = refl
none_never (i ∷ is) = none_never is

-- the run is live
abbrev lives : OfRun → Bool
lives o = is_some o.placed && is_none o.ended

-- where the entry makes no run live
calm : (n next : Reading) → take (sealed_in n) next.line ≡ take (sealed_in n) n.line → ((q : ℕ) → is_live n q ≡ false → is_live next q ≡ false) → sealed_in n ≤ sealed_in next
calm n next same each = grows n next never same (none_never (take (sealed_in n) n.line)) by_item
  where
    by_item : (i : Item) → (of_run (is_live n) i || never i) ≡ false → of_run (is_live next) i ≡ false
    by_item (Ran q) h = each q.0 (left_of (is_live n q.0) false h)
    by_item (Failed d k) h = refl
    by_item (Back d k) h = refl

ended_dead : (p : Option PlacedAt) → (is_some p && false) ≡ false
ended_dead None = refl
ended_dead (Some x) = refl

sealed_grows : (w : Setting) (n : Reading) (e : Entry) → Standing n → may_follow w n e ≡ true → IsPlacedBehind n e → sealed_in n ≤ sealed_in (entry w n e)
sealed_grows w n (Arrived r m) stands may behind = calm n (entry w n (Arrived r m)) (sealed_first w n (Arrived r m) may behind) (λ q dead. put_keeps lives n.run r.0 _ refl q ∙ dead)
sealed_grows w n (Placed r at m) stands may behind =
    grows n (entry w n (Placed r at m)) (is_ran r.0) (sealed_first w n (Placed r at m) may behind) (part_none (is_ran r.0) (sealed_in n) n.line (stands.line r.0 ∙ absent (n.run r.0).placed _ unplaced)) by_item
  where
    unplaced : is_none (n.run r.0).placed ≡ true
    unplaced = grind (arith, common_steps)

    absent : (p : Option PlacedAt) (b : Bool) → is_none p ≡ true → (is_some p && b) ≡ false
    absent None b h = refl
    absent (Some x) b h = absurd cc

    new : OfRun
    new = record (n.run r.0) { placed = Some (record { place = at; moment = m; stamp = n.size }); planned = planned_times w n r.0 (front_for w n r.0 at m) m }

    own : (a : Bool) (x : ℕ) → (a || (x == x)) ≡ false → ⊥
    own a x h = grind (arith, common_steps)

    by_item : (i : Item) → (of_run (is_live n) i || is_ran r.0 i) ≡ false → of_run (is_live (entry w n (Placed r at m))) i ≡ false
    by_item (Ran q) h = put_all (λ k x. (is_live n k || (k == r.0)) ≡ false → lives x ≡ false) n.run r.0 new (λ k e. left_of (is_live n k) (k == r.0) e) (λ e. absurd (own (is_live n r.0) r.0 e)) q.0 h
    by_item (Failed d k) h = refl
    by_item (Back d k) h = refl
sealed_grows w n (Did r c a) stands may behind = calm n (entry w n (Did r c a)) (sealed_first w n (Did r c a) may behind) (λ q dead. put_keeps lives n.run r.0 _ refl q ∙ dead)
sealed_grows w n (Undid r d drove) stands may behind = calm n (entry w n (Undid r d drove)) (sealed_first w n (Undid r d drove) may behind) (λ q dead. put_keeps lives n.run r.0 _ refl q ∙ dead)
sealed_grows w n (Fell d) stands may behind = calm n (entry w n (Fell d)) (sealed_first w n (Fell d) may behind) (λ q dead. dead)
sealed_grows w n (Rose d) stands may behind = calm n (entry w n (Rose d)) (sealed_first w n (Rose d) may behind) (λ q dead. dead)
sealed_grows w n (Doomed r cause) stands may behind = calm n (entry w n (Doomed r cause)) (sealed_first w n (Doomed r cause) may behind) (λ q dead. put_keeps lives n.run r.0 _ refl q ∙ dead)
sealed_grows w n (Ended r e) stands may behind =
    calm n (entry w n (Ended r e)) (sealed_first w n (Ended r e) may behind) (λ q dead. put_all (λ k x. is_live n k ≡ false → lives x ≡ false) n.run r.0 (record (n.run r.0) { ended = Some e }) (λ k h. h) (λ h. ended_dead (n.run r.0).placed) q dead)

-- Along a history

pub stays_itself : (n : Reading) → StaysSealed n n
stays_itself n = record { first = refl; grows = omega arith }

take_less : (k j : ℕ) (xs : List Item) → k ≤ j → take k (take j xs) ≡ take k xs
take_less zero j xs low = refl
take_less (suc k) zero xs low = absurd (omega (arith, low))
take_less (suc k) (suc j) [] low = refl
take_less (suc k) (suc j) (x ∷ xs) low = ap (λ l. x ∷ l) (take_less k j xs (omega (arith, low)))

stays_on : (a b c : Reading) → StaysSealed a b → StaysSealed b c → StaysSealed a c
stays_on a b c one two =
    let low = one.grows in
    let more = two.grows in
    record {
      first =
          sym (take_less (sealed_in a) (sealed_in b) c.line low) ∙ ap (take (sealed_in a)) two.first ∙ take_less (sealed_in a) (sealed_in b) b.line low ∙ one.first;
      grows = omega (arith, low, more);
    }

-- the final items stay along entries that may follow, where runs are placed behind them
pub sealed_along : (w : Setting) (n : Reading) (es : List Entry) → Standing n → IsTrue (along w (may_follow w) n es) → Along w IsPlacedBehind n es → StaysSealed n (fold (entry w) n es)
sealed_along w n [] stands may behind = stays_itself n
sealed_along w n (e ∷ es) stands may behind =
    let one = head (may_follow w n e) (along w (may_follow w) (entry w n e) es) may in
    let rest = last (may_follow w n e) (along w (may_follow w) (entry w n e) es) may in
    stays_on n (entry w n e) (fold (entry w) (entry w n e) es) (record { first = sealed_first w n e one behind.0; grows = sealed_grows w n e stands one behind.0 })
    (sealed_along w (entry w n e) es (standing_step w n e one stands) rest behind.1)
  where
    head : (a b : Bool) → (a && b) ≡ true → a ≡ true
    head a b h = grind (arith, common_steps)

    last : (a b : Bool) → (a && b) ≡ true → b ≡ true
    last a b h = grind (arith, common_steps)

-- with more entries
pub sealed_on : (w : Setting) (h more : List Entry) → IsWellFormed w (h ++ more) → Along w IsPlacedBehind (reading w h) more → StaysSealed (reading w h) (reading w (h ++ more))
sealed_on w h more formed behind =
    let parts = sym (along_on w (may_follow w) (nothing_read w) h more) ∙ formed in
    subst (StaysSealed (reading w h)) (sym (reading_on w h more)) (sealed_along w (reading w h) more (standing w h (head parts)) (last parts) behind)
  where
    head : (along w (may_follow w) (nothing_read w) h && along w (may_follow w) (reading w h) more) ≡ true → IsWellFormed w h
    head both = grind (arith, common_steps)

    last : (along w (may_follow w) (nothing_read w) h && along w (may_follow w) (reading w h) more) ≡ true → IsTrue (along w (may_follow w) (reading w h) more)
    last both = grind (arith, common_steps)

along_back : (w : Setting) (P : Reading → Entry → Type 0) (n : Reading) (h more : List Entry) → Along w P n (h ++ more) → Along w P (fold (entry w) n h) more
along_back w P n [] more all = all
along_back w P n (x ∷ h) more all = along_back w P (entry w n x) h more all.1

-- a history's line begins with each part that was ever final
pub begins_with_sealed : (w : Setting) (h : List Entry) → IsWellFormed w h → Along w IsPlacedBehind (nothing_read w) h → BeginsWithSealed w h (line_of w h)
begins_with_sealed w h formed behind k =
    let parted : take k h ++ drop k h ≡ h = take-append-drop k h in
    let back = along_back w IsPlacedBehind (nothing_read w) (take k h) (drop k h) (subst (Along w IsPlacedBehind (nothing_read w)) (sym parted) behind) in
    let stays = sealed_on w (take k h) (drop k h) (subst (IsWellFormed w) (sym parted) formed) back in
    ap (λ (l : List Entry). take (sealed_of w (take k h)) (line_of w l)) (sym parted) ∙ stays.first
