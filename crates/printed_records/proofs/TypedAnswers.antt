-- The answers of a run suit its commands.
use Rattle.printed_records.proofs.Prelude.{Aborted, Answer, AreTyped, Arrived, Command, Committed, Did, Doomed, Down, Ended, Entry, Fell, Fine, Found, Guard, IsTrue, IsTyped, IsWellFormed, Kind, List, OfRun, Placed, Reading, Rose, Setting, Skipped, Undid, [], along, arith, command_at, commands_of, common_steps, entry, false, fold, holds, is_always, length, may_follow, no_command, not, nothing_read, put_all, reading, refl, slice_index_or, subst, suits, sym, true, true≢false, ℕ, ⊤, ◌++◌, ◌<◌, ◌∷◌, ◌≡◌}
use Rattle.home_types.specs.declared.commands.Guard.TheVariants.{Always, Below, Is}

-- the answers so far suit the first commands
abbrev pub SuitSoFar : List Kind → List Answer → List Command → Type 0
SuitSoFar kinds [] commands = ⊤
SuitSoFar kinds (a ∷ answers) [] = ⊥
SuitSoFar kinds (a ∷ answers) (c ∷ commands) = IsTyped kinds c a × SuitSoFar kinds answers commands

-- a guard that does not hold is one
is_guarded : (g : Guard) (register : ℕ) → not (holds g register) ≡ true → is_always g ≡ false
is_guarded Always register ok = absurd (true≢false (sym ok))
is_guarded (Is x) register ok = refl
is_guarded (Below x) register ok = refl

-- an answer that suits its command is typed
suited : (w : Setting) (n : Reading) (r : ℕ) (c : Command) (a : Answer) → suits w n r c a ≡ true → IsTyped w.kinds c a
suited w n r c Fine ok = grind (arith, common_steps)
suited w n r c (Found x) ok = (grind (arith, common_steps), grind (arith, common_steps))
suited w n r c Down ok = tt
suited w n r c Skipped ok = is_guarded c.when (n.run r).register (grind (arith, common_steps))

-- one answer more
suit_more : (kinds : List Kind) (answers : List Answer) (commands : List Command) (a : Answer) → length answers < length commands
    → IsTyped kinds (slice_index_or commands (length answers) no_command) a → SuitSoFar kinds answers commands → SuitSoFar kinds (answers ++ a ∷ []) commands
suit_more kinds [] [] a within typed so = absurd (omega (arith, within))
suit_more kinds [] (c ∷ commands) a within typed so = (typed, tt)
suit_more kinds (b ∷ answers) [] a within typed so = so
suit_more kinds (b ∷ answers) (c ∷ commands) a within typed so = (so.0, suit_more kinds answers commands a (omega (arith, within)) typed so.1)

-- as many answers as commands are typed
pub all_typed : (kinds : List Kind) (answers : List Answer) (commands : List Command) → length answers ≡ length commands → SuitSoFar kinds answers commands → AreTyped kinds commands answers
unfolding AreTyped
all_typed kinds [] [] same so = tt
all_typed kinds [] (c ∷ commands) same so = absurd (omega (arith, same))
all_typed kinds (a ∷ answers) [] same so = so
all_typed kinds (a ∷ answers) (c ∷ commands) same so = (so.0, all_typed kinds answers commands (omega (arith, same)) so.1)

abbrev pub Suits : Setting → ℕ → OfRun → Type 0
Suits w r o = SuitSoFar w.kinds o.answers (commands_of w.runs r)

abbrev pub AllSuit : Setting → Reading → Type 0
AllSuit w n = (r : ℕ) → Suits w r (n.run r)

-- an entry more
pub suits_step : (w : Setting) (n : Reading) (e : Entry) → IsTrue (may_follow w n e) → AllSuit w n → AllSuit w (entry w n e)
suits_step w n (Arrived r m) ok s = put_all (Suits w) n.run r.0 _ s (s r.0)
suits_step w n (Placed r at m) ok s = put_all (Suits w) n.run r.0 _ s (s r.0)
suits_step w n (Did r c a) ok s =
    put_all (Suits w) n.run r.0 _ s
    (let number : c ≡ length (n.run r.0).answers = grind (arith, common_steps) in
    let typed : IsTyped w.kinds (command_at w.runs r.0 c) a = suited w n r.0 (command_at w.runs r.0 c) a (grind (arith, common_steps)) in
    suit_more w.kinds (n.run r.0).answers (commands_of w.runs r.0) a (grind (arith, common_steps))
    (subst (λ k. IsTyped w.kinds (command_at w.runs r.0 k) a) number typed) (s r.0))
suits_step w n (Undid r d drove) ok s = put_all (Suits w) n.run r.0 _ s (s r.0)
suits_step w n (Fell d) ok s = s
suits_step w n (Rose d) ok s = s
suits_step w n (Doomed r cause) ok s = put_all (Suits w) n.run r.0 _ s (s r.0)
suits_step w n (Ended r Committed) ok s = put_all (Suits w) n.run r.0 _ s (s r.0)
suits_step w n (Ended r (Aborted cause)) ok s = put_all (Suits w) n.run r.0 _ s (s r.0)

pub none_suit : (w : Setting) → AllSuit w (nothing_read w)
none_suit w r = tt

suits_from : (w : Setting) (n : Reading) (h : List Entry) → AllSuit w n → IsTrue (along w (may_follow w) n h) → AllSuit w (fold (entry w) n h)
suits_from w n [] s ok = s
suits_from w n (e ∷ h) s ok = suits_from w (entry w n e) h (suits_step w n e (grind (arith, common_steps)) s) (grind (arith, common_steps))

-- the answers of each run of a well-formed history suit its commands
pub all_suit : (w : Setting) (h : List Entry) → IsWellFormed w h → AllSuit w (reading w h)
all_suit w h ok = suits_from w (nothing_read w) h (none_suit w) ok
