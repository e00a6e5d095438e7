-- A run that asks for a device has its next command there.
use Rattle.history_book.proofs.Prelude.{Command, List, None, Option, Reading, Setting, Some, [], arith, asks_on, command_at, commands_of, common_steps, false, holds, is_next_on, is_on, next_command, next_of, no_command, option_map, slice_get, slice_index_or, suc, true, unwrap_or, zero, ℕ, ◌&&◌, ◌∷◌, ◌≡◌}

pub asks_next : (w : Setting) (n : Reading) (r d : ℕ) → asks_on w n r d ≡ true → is_next_on w n r d ≡ true
asks_next w n r d asks = at (next_command w n r) asks
  where
    at : (o : Option Command) → unwrap_or (option_map (λ c. is_on d c && holds c.when (n.run r).register) o) false ≡ true → unwrap_or (option_map (is_on d) o) false ≡ true
    at None e = absurd (cc)
    at (Some c) e = grind (arith, common_steps)

-- the next command is there and its guard holds: it asks
pub command_asks : (w : Setting) (n : Reading) (r d : ℕ) (c : Command) → next_command w n r ≡ Some c → is_on d c ≡ true → holds c.when (n.run r).register ≡ true → asks_on w n r d ≡ true
command_asks w n r d c next on guard = grind (arith, common_steps)

-- .. and that command's guard holds
pub asks_guard : (w : Setting) (n : Reading) (r d : ℕ) → asks_on w n r d ≡ true → holds (command_at w.runs r (next_of n r)).when (n.run r).register ≡ true
asks_guard w n r d asks = at (commands_of w.runs r) (next_of n r) asks
  where
    at : (cs : List Command) (k : ℕ) → unwrap_or (option_map (λ c. is_on d c && holds c.when (n.run r).register) (slice_get cs k)) false ≡ true → holds (slice_index_or cs k no_command).when (n.run r).register ≡ true
    at [] k e = absurd (cc)
    at (c ∷ cs) zero e = grind (arith, common_steps)
    at (c ∷ cs) (suc k) e = at cs k e
