-- Why a call is refused that looks for reasons against it in an order, and may want memory after.
use Rattle.std.specs.Prelude.{None, Option, Some, ◌≡◌, ◌⊎◌}

-- the call is refused for the first reason that holds, or for want of memory, where none does
abbrev pub IsRefusedFor : {W : Type 0} → W → Option W → W → Type 0
IsRefusedFor memory first why = (first ≡ Some why) ⊎ ((first ≡ None) × (why ≡ memory))
