-- Which rosters may be indexed.
use Rattle.command_rules.proofs.Prelude.{Bool, Command, List, Some, [], arith, common_steps, false, is_on, list_any, refl, slice_get, subst, suc, true, zero, ℕ, ◌<◌, ◌==◌, ◌||◌, ◌∷◌, ◌≡◌}

-- a device on which a command is, is below what all their devices are below
pub device_below : (d size : ℕ) (cs : List Command) → ((k : ℕ) (c : Command) → slice_get cs k ≡ Some c → c.device.0 < size) → list_any (is_on d) cs ≡ true → d < size
device_below d size [] homed some = absurd (cc)
device_below d size (c ∷ cs) homed some = at (c.device.0 == d) refl some (device_below d size cs (λ k e there. homed (suc k) e there))
  where
    at : (b : Bool) → (c.device.0 == d) ≡ b → (b || list_any (is_on d) cs) ≡ true → (list_any (is_on d) cs ≡ true → d < size) → d < size
    at true e some behind = let same : c.device.0 ≡ d = grind (arith, common_steps) in let here : c.device.0 < size = homed zero c refl in subst (λ k. k < size) same here
    at false e some behind = behind some
