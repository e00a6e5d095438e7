-- The walk over a script: one reading after the other, up to the first refusal.
use Rattle.routine_reader.specs.Limits.{limit_of}
use Rattle.routine_reader.specs.Spots.{is_memory}
use Rattle.routine_reader.specs.declared.faults.Count.{Count}
use Rattle.routine_reader.specs.declared.faults.ReadFault.TheVariants.{TooMany}
use Rattle.routine_reader.specs.declared.faults.ReadFault.{ReadFault}
use Rattle.serde_json.specs.Data.{Data}
use Rattle.std.specs.Prelude.{Err, List, Ok, Result, [], false, if◌then◌else◌, nat_le, ℕ, ◌++◌, ◌≡◌, ◌∷◌}

infixl 10 ◌>>=◌
-- what is read next, where this is no refusal
abbrev pub ◌>>=◌ : {A B : Type 0} → Result A ReadFault → (A → Result B ReadFault)
    → Result B ReadFault
Ok a >>= next = next a
Err fault >>= next = Err fault

-- the items so far, and then one read from each value; a reading sees what was read before it
unfoldable pub read_each : {T : Type 0} → (List T → Data → Result T ReadFault) → List T → List Data
    → Result (List T) ReadFault
read_each reading earlier [] = Ok earlier
read_each reading earlier (value ∷ values) = do
  item ← reading earlier value
  read_each reading (earlier ++ item ∷ []) values

-- so many are no more than the limit
abbrev pub within_limit : Count → ℕ → Result ℕ ReadFault
within_limit kind count =
    if nat_le count (limit_of kind) then Ok count else Err (TooMany kind count (limit_of kind))

-- the answer of a reader: what the reading says, as it is seen, or its refusal, or want of memory
abbrev pub IsReading : {T U : Type 0} → (T → U) → Result T ReadFault → Result U ReadFault → Type 0
IsReading plain (Ok answer) reading = reading ≡ Ok (plain answer)
IsReading plain (Err fault) reading = is_memory fault ≡ false → reading ≡ Err fault
