-- What a source has given, where it tells its bytes.
use Rattle.day_clock.specs.declared.sources.InputFault.TheVariants.{Failed, NoMemory, OverLimit}
use Rattle.day_clock.specs.declared.sources.InputFault.{InputFault}
use Rattle.std.specs.Prelude.{Err, List, None, Ok, Option, Result, Some, drop, length, ℕ, ⊤, ◌<◌, ◌≡◌, ◌≤◌}

-- the first n bytes of those to come were taken
abbrev pub TakesCount : Option (List ℕ) → Option (List ℕ) → ℕ → Type 0
TakesCount None new n = ⊤
TakesCount (Some left) None n = ⊥
TakesCount (Some left) (Some rest) n = (n ≤ length left) × (rest ≡ drop n left)

-- at most n bytes were taken
abbrev pub TakesUpTo : Option (List ℕ) → Option (List ℕ) → ℕ → Type 0
TakesUpTo old new n = (count : ℕ) × (count ≤ n) × TakesCount old new count

-- the count of faults has risen where the source failed, and is else what it was
abbrev pub CountsFaults : {T : Type 0} → Result T InputFault → ℕ → ℕ → Type 0
CountsFaults (Ok bytes) old new = new ≡ old
CountsFaults (Err OverLimit) old new = new ≡ old
CountsFaults (Err Failed) old new = old < new
CountsFaults (Err NoMemory) old new = new ≡ old
