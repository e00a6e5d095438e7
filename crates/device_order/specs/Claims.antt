-- What is claimed of an order beside the invariant.
use Rattle.device_order.specs.Records.{DeviceRecord, NothingIsOut, walk_after}
use Rattle.device_order.specs.Walks.{effective, is_write_settled, written_or_first}
use Rattle.device_order.specs.declared.records.OrderEntry.TheVariants.{Used}
use Rattle.device_order.specs.declared.records.OrderEntry.{OrderEntry}
use Rattle.device_order.specs.declared.records.Usage.{Usage}
use Rattle.device_order.specs.Usages.{counts_serially, holds_command}
use Rattle.device_order.specs.declared.records.HeldGrip.TheVariants.{Undoes}
use Rattle.device_order.specs.declared.records.Probe.TheVariants.{Asks, Restores}
use Rattle.std.specs.Prelude.{List, None, Some, true, ℕ, ◌++◌, ◌∷◌, ◌≡◌}

-- what a read of a run finds, behind these entries: its own last write, else the committed value
-- there, which is what it read before if it counts; and then no run that is not committed has the
-- effective write
pub record ReadFinds (d : DeviceRecord) (before : List OrderEntry) (u : Usage)
    (x : ℕ) : Type 0 where
  pub own : (v : ℕ) → u.wrote ≡ Some v → x ≡ v
  pub committed : u.wrote ≡ None → x ≡ (walk_after d before).value
  pub again : counts_serially u.stage ≡ true → u.wrote ≡ None → (y : ℕ) → u.read ≡ Some y → x ≡ y
  pub settled : u.wrote ≡ None → is_write_settled (effective None before) ≡ true

-- the device stands at this value wherever it is up, and each drive that is out drives it
pub record StandsAt (d : DeviceRecord) (v : ℕ) : Type 0 where
  pub home : NothingIsOut d → d.up ≡ true → d.held ≡ v
  pub asked : d.probe ≡ Asks → d.held ≡ v
  pub restored : (x : ℕ) → d.probe ≡ Restores x → x ≡ v
  pub called : (a b : List OrderEntry) (u : Usage) → d.order ≡ a ++ Used u ∷ b
      → holds_command u.grip ≡ true → d.held ≡ v
  pub undone : (a b : List OrderEntry) (u : Usage) (x : ℕ) → d.order ≡ a ++ Used u ∷ b
      → u.grip ≡ Undoes x → x ≡ v

-- the value of the last write in effect, else the first one
abbrev pub value_in_effect : DeviceRecord → ℕ
value_in_effect d = written_or_first (effective None d.order) d.first
