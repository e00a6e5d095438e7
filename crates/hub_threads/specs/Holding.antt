-- What the type keeps of what lies under the lock.
use Rattle.device_states.specs.Devices.{Shown}
use Rattle.grip_seats.specs.Desks.{DeskName, DeskState}
use Rattle.hub_core.specs.OpenHubs.{OpenHub, configuration_of}
use Rattle.hub_threads.specs.Named.{IsNamed}
use Rattle.hub_threads.specs.Names.{NamedWindow}
use Rattle.hub_threads.specs.Passes.{Lent, what_is_out}
use Rattle.hub_threads.specs.Sleepers.{SleepersAreBlocked}
use Rattle.std.specs.Prelude.{length, ℕ, ◌≡◌}

-- so many entries were told as the hub's history has, the hub is of the window of the name, each
-- run of the word is blocked, and the desk of this name knows what is out of each place
pub record IsHeld {D : Type 0} (shows : D → Shown) (window : NamedWindow) (name : DeskName)
    (s : OpenHub D) (told blocked : ℕ) (desk : DeskState Lent) : Type 0 where
  pub counted : told ≡ length s.history
  pub named : IsNamed shows window s
  pub sleepers : SleepersAreBlocked (configuration_of s) blocked
  pub desk_is : desk.name ≡ name
  pub out : desk.out ≡ what_is_out s.places
