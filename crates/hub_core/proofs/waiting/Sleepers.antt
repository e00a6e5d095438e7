-- Who may sleep: a take of a blocked run changes nothing but the moment, and each sleeper that no step has called is blocked.
use Rattle.hub_core.proofs.Prelude.{Absent, Bool, Choice, Configuration, HandsOut, IsBlocked, Moves, Over, Waits, after_choice, after_take, ap, arith, at_moment, choice_of, decide, is_wait, max, point_of, refl, true, ℕ, ◌∙◌, ◌≡◌, ◌≤◌}
use Rattle.hub_core.specs.declared.waits.Why.{Why}

-- Takes of a blocked run

-- what is a wait waits for something
pub wait_is : (c : Choice) → is_wait c ≡ true → (why : Why) × (c ≡ Waits why)
wait_is Absent e = absurd (cc)
wait_is (Over end entries) e = absurd (cc)
wait_is (Moves entries) e = absurd (cc)
wait_is (Waits why) e = (why, refl)
wait_is (HandsOut d purpose) e = absurd (cc)

-- a take that is told to wait moves the clock alone
pub wait_take : (s : Configuration) (r m : ℕ) → is_wait (choice_of s r m) ≡ true → after_take s r m ≡ at_moment s m
wait_take s r m waits = let told = wait_is (choice_of s r m) waits in ap (after_choice (at_moment s m) r) told.1

-- so does each take of a blocked run
pub blocked_take : (s : Configuration) (r m : ℕ) → IsBlocked s r → after_take s r m ≡ at_moment s m
blocked_take s r m blocked = wait_take s r m (blocked.waits m)

-- .. which changes nothing at a moment that was reached
pub blocked_still : (s : Configuration) (r m : ℕ) → m ≤ s.moment → IsBlocked s r → after_take s r m ≡ s
blocked_still s r m reached blocked = blocked_take s r m blocked ∙ ap (λ k. record s { moment = k }) (omega (arith, reached))

-- the clock leaves a blocked run blocked
pub blocked_later : (s : Configuration) (r m : ℕ) → IsBlocked s r → IsBlocked (at_moment s m) r
blocked_later s r m blocked = record {
  run = blocked.run;
  free = blocked.free;
  waits = λ a. ap (λ k. is_wait (decide (point_of s) r k)) (omega arith) ∙ blocked.waits (max m a);
}

-- Sleepers

-- each run that sleeps is blocked
abbrev pub SleepersAreBlocked : Configuration → (ℕ → Bool) → Type 0
SleepersAreBlocked s sleeping = (r : ℕ) → sleeping r ≡ true → IsBlocked s r

-- the clock wakes nobody
pub sleepers_later : (s : Configuration) (m : ℕ) (sleeping : ℕ → Bool) → SleepersAreBlocked s sleeping → SleepersAreBlocked (at_moment s m) sleeping
sleepers_later s m sleeping blocked r sleeps = blocked_later s r m (blocked r sleeps)
