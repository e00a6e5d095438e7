-- When two serial executions come to the same, and which items share no device.
use Rattle.command_rules.specs.Rosters.{Run, touches}
use Rattle.command_rules.specs.Serial.{SerialRun, Served}
use Rattle.home_types.specs.Numbers.{DeviceId, RunId}
use Rattle.home_types.specs.declared.items.Item.TheVariants.{Back, Failed, Ran}
use Rattle.home_types.specs.declared.items.Item.{Item}
use Rattle.std.specs.Prelude.{Bool, List, false, filter, true, ◌==◌, ◌≡◌}

-- the item is on the device: a run with a command on it, or an event of it
abbrev pub is_on_device : List Run → DeviceId → Item → Bool
is_on_device runs d (Ran r) = touches runs r.0 d
is_on_device runs d (Failed e k) = e.0 == d
is_on_device runs d (Back e k) = e.0 == d

-- no device has both items on it
abbrev pub ShareNoDevice : List Run → Item → Item → Type 0
ShareNoDevice runs a b =
    (d : DeviceId) → is_on_device runs d a ≡ true → is_on_device runs d b ≡ false

-- what the run answered, once for each time that it was served
abbrev pub servings_of : RunId → List Served → List Served
servings_of r all = filter (λ s. s.run.0 == r) all

-- two serial executions with the same refusal or none, the same home at the end, and the same
-- answers of each run
pub record SameOutcome (a b : SerialRun) : Type 0 where
  pub refused : a.refused ≡ b.refused
  pub home : a.home ≡ b.home
  pub answers : (r : RunId) → servings_of r a.answers ≡ servings_of r b.answers
