-- What a device shows, and what is counted of it.
use Rattle.std.specs.Prelude.{List, Option, ℕ, ◌+◌, ◌<◌, ◌^◌}

-- the ranges of calls in which a device is down, where it tells them
abbrev pub Plan : Type 0
Plan = Option (List (ℕ × ℕ))

-- its number, the ranges of calls in which it is down, where it tells them, the value at which it
-- stands, how many drives and senses it has answered, how many of these were drives, how many
-- probes were made of it, whatever it answered, and how many calls it has failed
pub record Shown : Type 0 where
  pub tag : ℕ
  pub plan : Plan
  pub stands : ℕ
  pub turns : ℕ
  pub drives : ℕ
  pub probes : ℕ
  pub faults : ℕ

-- each count of a device may still rise: the turns, the probes and the faults are below this bound
abbrev pub HasRoom : ℕ → ℕ → ℕ → Type 0
HasRoom turns probes faults = (turns < 2 ^ 63) × (probes < 2 ^ 63) × (faults < 2 ^ 63)

-- the device may be called
abbrev pub MayBeCalled : Shown → Type 0
MayBeCalled shown = HasRoom shown.turns shown.probes shown.faults

-- the device may be called behind a probe too
abbrev pub MayBeProbed : Shown → Type 0
MayBeProbed shown = HasRoom shown.turns (shown.probes + 1) shown.faults
