-- Whether a device is read first is decided by one command.
use Rattle.command_rules.proofs.Prelude.{Command, List, [], arith, common_steps, false, filter, find, is_on, list_any, option_map, reads, reads_unwritten, refl, settles, unwrap_or, ℕ, ◌∷◌, ◌≡◌}

pub settled : (d : ℕ) (cs : List Command) → unwrap_or (option_map (λ c. reads c.job) (find (settles d) cs)) false ≡ reads_unwritten (filter (is_on d) cs)
settled d [] = refl
settled d (c ∷ cs) = grind (arith, common_steps, settled d cs)

-- a device that no command is on is not read
pub unread : (d : ℕ) (cs : List Command) → list_any (is_on d) cs ≡ false → reads_unwritten (filter (is_on d) cs) ≡ false
unread d [] none = refl
unread d (c ∷ cs) none = grind (arith, common_steps, unread d cs)
