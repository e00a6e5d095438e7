-- What is out of the places of a hub, and the passes with which it comes home.
use Rattle.device_gate.specs.declared.gates.Place.TheVariants.{Home, Out}
use Rattle.device_gate.specs.declared.gates.Place.{Place}
use Rattle.device_gate.specs.declared.slips.Slip.{Slip}
use Rattle.device_gate.specs.declared.slips.Task.{Task}
use Rattle.grip_seats.specs.Desks.{DeskName, PassState}
use Rattle.hub_core.specs.HubCalls.{carried_by}
use Rattle.hub_core.specs.HubSteps.{Carried}
use Rattle.hub_core.specs.declared.turns.Turn.TheVariants.{Absent, Go, Moved, Over, Wait}
use Rattle.hub_core.specs.declared.turns.Turn.{Turn}
use Rattle.std.specs.Prelude.{List, None, Option, Some, map, slice_get, slice_set, ⊤, ◌<◌, ◌≡◌}

-- with what a device is out: the slip and the task of its grip
abbrev pub Lent : Type 0
Lent = Slip × Task

-- with what the device is out of this place, where it is
abbrev pub out_in : {D : Type 0} → Place D → Option Lent
out_in (Home device) = None
out_in (Out slip task) = Some (slip, task)

-- what is out of each place
abbrev pub what_is_out : {D : Type 0} → List (Place D) → List (Option Lent)
what_is_out places = map (λ place. out_in place) places

-- the pass claims, at the desk of this name, what the grip carries
pub record IsPassOf (name : DeskName) (carried : Carried) (pass : PassState Lent) : Type 0 where
  pub desk : pass.name ≡ name
  pub claim : pass.claim ≡ Some (carried.slip.device.0, (carried.slip, carried.task))

-- .. and a run has the grip
abbrev pub IsRunsPass : DeskName → Carried → PassState Lent → Type 0
IsRunsPass name carried pass = IsPassOf name carried pass × (0 < carried.slip.maker)

-- .. and the detector has it
abbrev pub IsDetectorsPass : DeskName → Carried → PassState Lent → Type 0
IsDetectorsPass name carried pass = IsPassOf name carried pass × (carried.slip.maker ≡ 0)

-- with the device that the step hands out, where it does, goes a pass that fits what its grip
-- carries
abbrev pub GoesWith : {D : Type 0} → (Carried → PassState Lent → Type 0) → Turn D
    → Option (PassState Lent) → Type 0
GoesWith fits (Go grip) None = ⊥
GoesWith fits (Go grip) (Some pass) = fits (carried_by grip) pass
GoesWith fits (Moved made) pass = ⊤
GoesWith fits (Wait why) pass = ⊤
GoesWith fits (Over end made) pass = ⊤
GoesWith fits Absent pass = ⊤

-- nothing is out of the place of the device that the step hands out
abbrev pub CanGoOut : {D : Type 0} → List (Option Lent) → Turn D → Type 0
CanGoOut out (Go grip) = slice_get out grip.slip.device.0 ≡ Some None
CanGoOut out (Moved made) = ⊤
CanGoOut out (Wait why) = ⊤
CanGoOut out (Over end made) = ⊤
CanGoOut out Absent = ⊤

-- what is out after the step
abbrev pub out_after : {D : Type 0} → List (Option Lent) → Turn D → List (Option Lent)
out_after out (Go grip) = slice_set out grip.slip.device.0 (Some (grip.slip, grip.task))
out_after out (Moved made) = out
out_after out (Wait why) = out
out_after out (Over end made) = out
out_after out Absent = out
