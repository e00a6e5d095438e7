-- More bytes than a script may have are refused.
use Rattle.day_clock.specs.Sources.{TakesCount}
use Rattle.routine_reader.specs.Readings.{script_reading}
use Rattle.routine_reader.specs.declared.faults.Count.TheVariants.{Bytes}
use Rattle.routine_reader.specs.declared.faults.ReadFault.TheVariants.{TooMany}
use Rattle.hub_commands.proofs.Prelude.{Err, IfSome, List, None, Option, Some, arith, common_steps, false, length, nat_le, refl, ℕ, ◌≡◌, ◌≤◌}

too_long : (bytes : List ℕ) → 4194305 ≤ length bytes → script_reading bytes ≡ Err (TooMany Bytes 4194305 4194304)
unfolding script_reading
too_long bytes long =
    let over : nat_le (length bytes) 4194304 ≡ false = grind (arith, common_steps) in
    rw over (refl)

pub over_limit : (left rest : Option (List ℕ)) → TakesCount left rest 4194305 → IfSome left (λ bytes. script_reading bytes ≡ Err (TooMany Bytes 4194305 4194304))
over_limit None rest takes = tt
over_limit (Some bytes) None takes = absurd takes
over_limit (Some bytes) (Some rest) takes = too_long bytes takes.0
