-- The devices that a run reads first, and writes, are told from its last command on.
use Rattle.command_rules.proofs.FirstReads.{unread}
use Rattle.command_rules.proofs.Prelude.{Bool, Command, Devices, List, Run, [], alone, ap, arith, commands_of, common_steps, contains_insert, contains_remove, drop, drop_all, drop_more, false, is_always, length, nat_cmp, not, reads, reads_first, refl, slice_index_or, subst, sym, touches, true, writes, writes_on, ℕ, ◌&&◌, ◌+◌, ◌-◌, ◌<◌, ◌==◌, ◌||◌, ◌∙◌, ◌∷◌, ◌≡◌}
use Rattle.std.specs.FinSet as set

-- What one command more in front makes of both

read_more : (c : Command) (cs : List Command) (d : ℕ) → reads c.job ≡ true → reads_first (alone (c ∷ cs)) 1 d ≡ ((d == c.device.0) || reads_first (alone cs) 1 d)
read_more c cs d read = grind (arith, common_steps)

write_more : (c : Command) (cs : List Command) (d : ℕ) → reads c.job ≡ false → is_always c.when ≡ true → reads_first (alone (c ∷ cs)) 1 d ≡ (not (d == c.device.0) && reads_first (alone cs) 1 d)
write_more c cs d driven always = grind (arith, common_steps)

guarded_more : (c : Command) (cs : List Command) (d : ℕ) → reads c.job ≡ false → is_always c.when ≡ false → reads_first (alone (c ∷ cs)) 1 d ≡ reads_first (alone cs) 1 d
guarded_more c cs d driven guarded = grind (arith, common_steps)

written_more : (c : Command) (cs : List Command) (d : ℕ) → reads c.job ≡ false → writes_on (alone (c ∷ cs)) 1 d ≡ ((d == c.device.0) || writes_on (alone cs) 1 d)
written_more c cs d driven = grind (arith, common_steps)

written_same : (c : Command) (cs : List Command) (d : ℕ) → reads c.job ≡ true → writes_on (alone (c ∷ cs)) 1 d ≡ writes_on (alone cs) 1 d
written_same c cs d read = grind (arith, common_steps)

-- a device that a run reads first is one of its footprint
pub read_touched : (runs : List Run) (r d : ℕ) → reads_first runs r d ≡ true → touches runs r d ≡ true
read_touched runs r d read = at (touches runs r d) refl
  where
    at : (b : Bool) → touches runs r d ≡ b → b ≡ true
    at true e = refl
    at false e = let none = unread d (commands_of runs r) e in sym none ∙ read

-- the sets have the devices that the commands from this number on read first, and write
pub record CoversUses (cs : List Command) (left : ℕ) (reading driven : Devices) : Type 0 where
  pub first_reads : (d : ℕ) → set.contains reading d ≡ reads_first (alone (drop left cs)) 1 d
  pub written : (d : ℕ) → set.contains driven d ≡ writes_on (alone (drop left cs)) 1 d

-- no command is passed yet
pub uses_none : (cs : List Command) → CoversUses cs (length cs - 0) set.empty set.empty
uses_none cs = let all : length cs ≡ length cs - 0 = omega arith in let none = drop_all (length cs) cs (omega arith) in subst (λ n. CoversUses cs n set.empty set.empty) all (record {
  first_reads = λ d. set.contains-empty nat_cmp d ∙ sym (ap (λ rest. reads_first (alone rest) 1 d) none);
  written = λ d. set.contains-empty nat_cmp d ∙ sym (ap (λ rest. writes_on (alone rest) 1 d) none);
})

module _ (cs : List Command) (passed : ℕ) (e : Command) (within : passed < length cs) (first_reads written : Devices) (old : CoversUses cs (length cs - passed) first_reads written) where
  abbrev pub passed_command : Command
  passed_command = slice_index_or cs (length cs - 1 - passed) e

  abbrev pub behind : List Command
  behind = drop (length cs - passed) cs

  one_more : drop (length cs - (passed + 1)) cs ≡ passed_command ∷ behind
  one_more =
      let here : length cs - 1 - passed ≡ length cs - (passed + 1) = omega arith in
      let next : length cs - 1 - passed + 1 ≡ length cs - passed = omega (arith, within) in
      ap (λ n. drop n cs) (sym here) ∙ drop_more cs (length cs - 1 - passed) e (omega (arith, within)) ∙ ap (λ n. passed_command ∷ drop n cs) next

  -- one command more is passed, which reads, writes, or may be skipped in place of writing
  pub uses_read : reads passed_command.job ≡ true → CoversUses cs (length cs - (passed + 1)) (set.insert first_reads passed_command.device.0) written
  uses_read read = record {
    first_reads = λ d. contains_insert first_reads passed_command.device.0 d ∙ ap (λ b. (d == passed_command.device.0) || b) (old.first_reads d) ∙ sym (read_more passed_command behind d read) ∙ sym (ap (λ rest. reads_first (alone rest) 1 d) one_more);
    written = λ d. old.written d ∙ sym (written_same passed_command behind d read) ∙ sym (ap (λ rest. writes_on (alone rest) 1 d) one_more);
  }

  written_one_more : reads passed_command.job ≡ false → (d : ℕ) → set.contains (set.insert written passed_command.device.0) d ≡ writes_on (alone (drop (length cs - (passed + 1)) cs)) 1 d
  written_one_more driven d = contains_insert written passed_command.device.0 d ∙ ap (λ b. (d == passed_command.device.0) || b) (old.written d) ∙ sym (written_more passed_command behind d driven) ∙ sym (ap (λ rest. writes_on (alone rest) 1 d) one_more)

  pub uses_write : reads passed_command.job ≡ false → is_always passed_command.when ≡ true → CoversUses cs (length cs - (passed + 1)) (set.remove first_reads passed_command.device.0) (set.insert written passed_command.device.0)
  uses_write driven always = record {
    first_reads = λ d. contains_remove first_reads passed_command.device.0 d ∙ ap (λ b. not (d == passed_command.device.0) && b) (old.first_reads d) ∙ sym (write_more passed_command behind d driven always) ∙ sym (ap (λ rest. reads_first (alone rest) 1 d) one_more);
    written = written_one_more driven;
  }

  pub uses_guarded_write : reads passed_command.job ≡ false → is_always passed_command.when ≡ false → CoversUses cs (length cs - (passed + 1)) first_reads (set.insert written passed_command.device.0)
  uses_guarded_write driven guarded = record {
    first_reads = λ d. old.first_reads d ∙ sym (guarded_more passed_command behind d driven guarded) ∙ sym (ap (λ rest. reads_first (alone rest) 1 d) one_more);
    written = written_one_more driven;
  }
