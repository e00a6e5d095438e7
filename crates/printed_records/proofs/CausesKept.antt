-- The cause of an aborted run names its own commands and values, and devices and runs that there are.
use Rattle.printed_records.proofs.Prelude.{Aborted, Answer, Arrived, Bool, Cause, Command, Committed, Did, Doomed, Down, DownAtEnd, End, Ended, Entry, Fell, Fine, Found, IsTrue, IsTyped, IsWellFormed, Kind, List, Lost, MustDown, None, OfRun, Option, Placed, Reading, Refuted, Revoked, Rose, Run, RunNo, Setting, Skipped, Some, Undid, [], along, ap, arith, cause_fits, command_at, commands_of, common_steps, entry, false, fold, has_value, is_run, is_some, kind_at, length, may_follow, no_command, nothing_read, option_map, put_all, reading, refl, same_answer, same_cause, slice_get, slice_index_or, subst, subst₂, suc, sym, true, true≢false, unwrap_or, zero, ℕ, ◌<◌, ◌∷◌, ◌≡◌, ◌≤◌}
use Rattle.printed_records.proofs.TypedAnswers.{AllSuit, SuitSoFar, none_suit, suits_step}

-- what a cause names is there
abbrev pub NamesWell : Setting → ℕ → Cause → Type 0
NamesWell w r (MustDown c) = c < length (commands_of w.runs r)
NamesWell w r (Refuted c x) = (c < length (commands_of w.runs r)) × (has_value (kind_at w.kinds (command_at w.runs r c).device.0) x ≡ true)
NamesWell w r (Lost d) = d.0 < length w.first
NamesWell w r (Revoked l d t m) = (1 ≤ l.0) × (l.0 ≤ length w.runs) × (d.0 < length w.first)
NamesWell w r (DownAtEnd d) = d.0 < length w.first

same-names : (w : Setting) (r : ℕ) (a b : Cause) → same_cause a b ≡ true → NamesWell w r b → NamesWell w r a
same-names w r (MustDown c) (MustDown c') same names = let equal : c ≡ c' = grind (arith, common_steps) in omega (arith, equal, names)
same-names w r (MustDown c) (Refuted c' x') same names = absurd (true≢false (sym same))
same-names w r (MustDown c) (Lost d') same names = absurd (true≢false (sym same))
same-names w r (MustDown c) (Revoked l' d' t' m') same names = absurd (true≢false (sym same))
same-names w r (MustDown c) (DownAtEnd d') same names = absurd (true≢false (sym same))
same-names w r (Refuted c x) (MustDown c') same names = absurd (true≢false (sym same))
same-names w r (Refuted c x) (Refuted c' x') same names =
    let equal : c ≡ c' = grind (arith, common_steps) in
    let value : x ≡ x' = grind (arith, common_steps) in
    subst₂ (λ k v. NamesWell w r (Refuted k v)) (sym equal) (sym value) names
same-names w r (Refuted c x) (Lost d') same names = absurd (true≢false (sym same))
same-names w r (Refuted c x) (Revoked l' d' t' m') same names = absurd (true≢false (sym same))
same-names w r (Refuted c x) (DownAtEnd d') same names = absurd (true≢false (sym same))
same-names w r (Lost d) (MustDown c') same names = absurd (true≢false (sym same))
same-names w r (Lost d) (Refuted c' x') same names = absurd (true≢false (sym same))
same-names w r (Lost d) (Lost d') same names = let equal : d.0 ≡ d'.0 = grind (arith, common_steps) in omega (arith, equal, names)
same-names w r (Lost d) (Revoked l' d' t' m') same names = absurd (true≢false (sym same))
same-names w r (Lost d) (DownAtEnd d') same names = absurd (true≢false (sym same))
same-names w r (Revoked l d t m) (MustDown c') same names = absurd (true≢false (sym same))
same-names w r (Revoked l d t m) (Refuted c' x') same names = absurd (true≢false (sym same))
same-names w r (Revoked l d t m) (Lost d') same names = absurd (true≢false (sym same))
same-names w r (Revoked l d t m) (Revoked l' d' t' m') same names =
    let lender : l.0 ≡ l'.0 = grind (arith, common_steps) in
    let device : d.0 ≡ d'.0 = grind (arith, common_steps) in
    (omega (arith, lender, names.0), omega (arith, lender, names.1), omega (arith, device, names.2))
same-names w r (Revoked l d t m) (DownAtEnd d') same names = absurd (true≢false (sym same))
same-names w r (DownAtEnd d) (MustDown c') same names = absurd (true≢false (sym same))
same-names w r (DownAtEnd d) (Refuted c' x') same names = absurd (true≢false (sym same))
same-names w r (DownAtEnd d) (Lost d') same names = absurd (true≢false (sym same))
same-names w r (DownAtEnd d) (Revoked l' d' t' m') same names = absurd (true≢false (sym same))
same-names w r (DownAtEnd d) (DownAtEnd d') same names = let equal : d.0 ≡ d'.0 = grind (arith, common_steps) in omega (arith, equal, names)

-- a value with which a check failed is one that the run was told
abbrev pub found_shown : Reading → Entry → Bool
found_shown n (Doomed r (Refuted c x)) = unwrap_or (option_map (same_answer (Found x)) (slice_get (n.run r.0).answers c)) false
found_shown n (Doomed r (MustDown c)) = true
found_shown n (Doomed r (Lost d)) = true
found_shown n (Doomed r (Revoked l d t m)) = true
found_shown n (Doomed r (DownAtEnd d)) = true
found_shown n (Arrived r m) = true
found_shown n (Placed r at m) = true
found_shown n (Did r c a) = true
found_shown n (Undid r d drove) = true
found_shown n (Fell d) = true
found_shown n (Rose d) = true
found_shown n (Ended r end) = true

same-found : (x : ℕ) (a : Answer) → same_answer (Found x) a ≡ true → a ≡ Found x
same-found x Fine same = absurd (true≢false (sym same))
same-found x (Found y) same = let equal : y ≡ x = grind (arith, common_steps) in ap Found equal
same-found x Down same = absurd (true≢false (sym same))
same-found x Skipped same = absurd (true≢false (sym same))

-- the answer that a command was told is of its type
told-typed : (kinds : List Kind) (answers : List Answer) (commands : List Command) (c x : ℕ) → SuitSoFar kinds answers commands
    → unwrap_or (option_map (same_answer (Found x)) (slice_get answers c)) false ≡ true → has_value (kind_at kinds (slice_index_or commands c no_command).device.0) x ≡ true
told-typed kinds [] commands c x suit told = absurd (true≢false (sym told))
told-typed kinds (a ∷ answers) [] c x suit told = absurd suit
told-typed kinds (a ∷ answers) (k ∷ commands) zero x suit told = (subst (IsTyped kinds k) (same-found x a told) suit.0).1
told-typed kinds (a ∷ answers) (k ∷ commands) (suc c) x suit told = told-typed kinds answers commands c x suit.1 told

pub run-among : (w : Setting) (r : ℕ) → is_run w.runs r ≡ true → (1 ≤ r) × (r ≤ length w.runs)
run-among w zero is = absurd (true≢false (sym is))
run-among w (suc i) is = (omega arith, there w.runs i is)
  where
    there : (runs : List Run) (k : ℕ) → is_some (slice_get runs k) ≡ true → suc k ≤ length runs
    there [] k is = absurd (true≢false (sym is))
    there (x ∷ runs) zero is = omega arith
    there (x ∷ runs) (suc k) is = let rest = there runs k is in omega arith

cause-names : (w : Setting) (n : Reading) (r : RunNo) (cause : Cause) → AllSuit w n → cause_fits w n r.0 cause ≡ true → found_shown n (Doomed r cause) ≡ true → NamesWell w r.0 cause
cause-names w n r (MustDown c) suit fits shown = grind (arith, common_steps)
cause-names w n r (Refuted c x) suit fits shown = (grind (arith, common_steps), told-typed w.kinds (n.run r.0).answers (commands_of w.runs r.0) c x (suit r.0) shown)
cause-names w n r (Lost d) suit fits shown = grind (arith, common_steps)
cause-names w n r (Revoked l d t m) suit fits shown =
    let lender = run-among w l.0 (grind (arith, common_steps)) in
    (lender.0, lender.1, grind (arith, common_steps))
cause-names w n r (DownAtEnd d) suit fits shown = grind (arith, common_steps)

-- the doom of a run, and its end, have a cause that names well
pub record CausesNameWell (w : Setting) (r : ℕ) (o : OfRun) : Type 0 where
  pub doom : (cause : Cause) → o.doomed ≡ Some cause → NamesWell w r cause
  pub end : (cause : Cause) → o.ended ≡ Some (Aborted cause) → NamesWell w r cause

abbrev pub AllNameWell : Setting → Reading → Type 0
AllNameWell w n = (r : ℕ) → CausesNameWell w r (n.run r)

some-same : {X : Type 0} (x y : X) → ◌≡◌ {A = Option X} (Some x) (Some y) → x ≡ y
some-same x y same = cc

pub aborted-same : (a b : Cause) → ◌≡◌ {A = Option End} (Some (Aborted a)) (Some (Aborted b)) → a ≡ b
aborted-same a b same = cc

committed-not : (b : Cause) → ◌≡◌ {A = Option End} (Some Committed) (Some (Aborted b)) → ⊥
committed-not b same = absurd cc

doomed-names : (w : Setting) (r : ℕ) (doomed : Option Cause) (cause : Cause) → ((k : Cause) → doomed ≡ Some k → NamesWell w r k)
    → unwrap_or (option_map (same_cause cause) doomed) false ≡ true → NamesWell w r cause
doomed-names w r None cause names is = absurd (true≢false (sym is))
doomed-names w r (Some k) cause names is = same-names w r cause k is (names k refl)

names_step : (w : Setting) (n : Reading) (e : Entry) → IsTrue (may_follow w n e) → IsTrue (found_shown n e) → AllSuit w n → AllNameWell w n → AllNameWell w (entry w n e)
names_step w n (Arrived r m) ok shown suit s = put_all (CausesNameWell w) n.run r.0 _ s (record { doom = (s r.0).doom; end = (s r.0).end })
names_step w n (Placed r at m) ok shown suit s = put_all (CausesNameWell w) n.run r.0 _ s (record { doom = (s r.0).doom; end = (s r.0).end })
names_step w n (Did r c a) ok shown suit s = put_all (CausesNameWell w) n.run r.0 _ s (record { doom = (s r.0).doom; end = (s r.0).end })
names_step w n (Undid r d drove) ok shown suit s = put_all (CausesNameWell w) n.run r.0 _ s (record { doom = (s r.0).doom; end = (s r.0).end })
names_step w n (Fell d) ok shown suit s = s
names_step w n (Rose d) ok shown suit s = s
names_step w n (Doomed r cause) ok shown suit s =
    let names = cause-names w n r cause suit (grind (arith, common_steps)) shown in
    put_all (CausesNameWell w) n.run r.0 _ s (record { doom = λ k same. subst (NamesWell w r.0) (some-same cause k same) names; end = (s r.0).end })
names_step w n (Ended r Committed) ok shown suit s =
    put_all (CausesNameWell w) n.run r.0 _ s (record { doom = (s r.0).doom; end = λ k same. absurd (committed-not k same) })
names_step w n (Ended r (Aborted cause)) ok shown suit s =
    let names = doomed-names w r.0 (n.run r.0).doomed cause (s r.0).doom (grind (arith, common_steps)) in
    put_all (CausesNameWell w) n.run r.0 _ s (record { doom = (s r.0).doom; end = λ k same. subst (NamesWell w r.0) (aborted-same cause k same) names })

names_from : (w : Setting) (n : Reading) (h : List Entry) → AllSuit w n → AllNameWell w n → IsTrue (along w (may_follow w) n h) → IsTrue (along w found_shown n h) → AllNameWell w (fold (entry w) n h)
names_from w n [] suit s ok shown = s
names_from w n (e ∷ h) suit s ok shown =
    let may : IsTrue (may_follow w n e) = grind (arith, common_steps) in
    let found : IsTrue (found_shown n e) = grind (arith, common_steps) in
    names_from w (entry w n e) h (suits_step w n e may suit) (names_step w n e may found suit s) (grind (arith, common_steps)) (grind (arith, common_steps))

none-cause : (cause : Cause) → ◌≡◌ {A = Option Cause} None (Some cause) → ⊥
none-cause cause same = absurd cc

none-end : (end : End) → ◌≡◌ {A = Option End} None (Some end) → ⊥
none-end end same = absurd cc

-- the causes of a well-formed history name well, where each value with which a check failed is one that the run was told
pub all_name_well : (w : Setting) (h : List Entry) → IsWellFormed w h → IsTrue (along w found_shown (nothing_read w) h) → AllNameWell w (reading w h)
all_name_well w h ok shown =
    names_from w (nothing_read w) h (none_suit w) (λ r. record { doom = λ cause same. absurd (none-cause cause same); end = λ cause same. absurd (none-end (Aborted cause) same) }) ok shown
