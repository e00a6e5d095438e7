-- The invariant of one device.
use Rattle.device_order.specs.Records.{DeviceRecord, walk_after, walk_start}
use Rattle.device_order.specs.Walks.{Commands, GripOut, Home, Undo, WalkHolds, WalkState}
use Rattle.device_order.specs.declared.records.Probe.TheVariants.{Asks, Restores, Unprobed}
use Rattle.device_order.specs.declared.records.Probe.{Probe}
use Rattle.std.specs.Prelude.{Bool, false, true, ℕ, ◌≡◌}

-- what is out fits the end of the walk, and so does where the device stands
abbrev pub OutFits : GripOut → Probe → WalkState → Bool → ℕ → Type 0
OutFits Home Unprobed s up held = up ≡ true → held ≡ s.stand
OutFits Home Asks s up held = (up ≡ true) × (held ≡ s.stand)
OutFits Home (Restores v) s up held = (up ≡ false) × (v ≡ s.stand)
OutFits (Commands fresh) Unprobed s up held =
    (up ≡ true) × (held ≡ s.stand) × (fresh ≡ true → s.settled ≡ true)
OutFits (Commands fresh) Asks s up held = ⊥
OutFits (Commands fresh) (Restores v) s up held = ⊥
OutFits (Undo v) Unprobed s up held = (up ≡ true) × (s.undoing ≡ true) × (v ≡ s.stand)
OutFits (Undo v) Asks s up held = ⊥
OutFits (Undo v) (Restores x) s up held = ⊥

-- the device fits the end of the walk along its order
pub record DeviceFits (s : WalkState) (up : Bool) (held : ℕ) (probe : Probe) : Type 0 where
  -- it is counted as its last event left it
  pub same : s.up ≡ up
  -- where a run sees it up and has more to do there, it is up
  pub span : s.spanned ≡ true → up ≡ true
  pub out : OutFits s.out probe s up held

-- the walk along the order holds, and the device fits its end
pub record DeviceInvariant (d : DeviceRecord) : Type 0 where
  pub walk : WalkHolds (walk_start d.first_up d.first) d.order
  pub ends : DeviceFits (walk_after d d.order) d.up d.held d.probe
