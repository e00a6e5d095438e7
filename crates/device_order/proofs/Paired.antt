-- The commands of a run with their answers.
use Rattle.device_order.proofs.Runs.{then_there}
use Rattle.device_order.proofs.Prelude.{Answer, Answered, Bool, Command, Kind, List, Summary, [], ap, arith, common_steps, false, length, map, pair_answer, pair_command, paired, refl, summary, summary_then, uses_device, ℕ, ◌==◌, ◌||◌, ◌∙◌, ◌∷◌, ◌≡◌, ◌≢◌}

pub commands_all : (cs : List Command) (xs : List Answer) → length xs ≡ length cs → map pair_command (paired cs xs) ≡ cs
unfolding paired
commands_all [] xs h = refl
commands_all (c ∷ cs) [] h = absurd (omega arith)
commands_all (c ∷ cs) (a ∷ xs) h = ap (λ l. c ∷ l) (commands_all cs xs (omega arith))

pub answers_all : (cs : List Command) (xs : List Answer) → length xs ≡ length cs → map pair_answer (paired cs xs) ≡ xs
unfolding paired
answers_all [] [] h = refl
answers_all [] (a ∷ xs) h = absurd (omega arith)
answers_all (c ∷ cs) [] h = absurd (omega arith)
answers_all (c ∷ cs) (a ∷ xs) h = ap (λ l. a ∷ l) (answers_all cs xs (omega arith))

-- a run has no answer on a device that it does not use
pub unused_there : (kinds : List Kind) (s : Summary) (cs : List Command) (xs : List Answer) (d : ℕ) → uses_device d cs ≡ false → (summary kinds s (paired cs xs)).on d ≡ s.on d
unfolding paired summary
unused_there kinds s [] xs d h = refl
unused_there kinds s (c ∷ cs) [] d h = refl
unused_there kinds s (c ∷ cs) (a ∷ xs) d h =
    let p : Answered = record { command = c; answer = a } in
    unused_there kinds (summary_then kinds s p) cs xs d (parts c (uses_device d cs) h).1 ∙ then_there kinds s p d (parts c (uses_device d cs) h).0
  where
    parts : (c : Command) (b : Bool) → ((c.device.0 == d) || b) ≡ false → (d ≢ c.device.0) × (b ≡ false)
    parts c b h = (λ e. other c b h e, tail c b h)
      where
        other : (c : Command) (b : Bool) → ((c.device.0 == d) || b) ≡ false → d ≡ c.device.0 → ⊥
        other c b h e = grind (arith, common_steps)

        tail : (c : Command) (b : Bool) → ((c.device.0 == d) || b) ≡ false → b ≡ false
        tail c b h = grind (arith, common_steps)
