-- An open window with the grips that are out of it.
use Rattle.device_gate.specs.Calls.{is_counted_up}
use Rattle.device_gate.specs.Grips.{Gripped}
use Rattle.device_gate.specs.Places.{kept_of}
use Rattle.device_gate.specs.declared.gates.Place.{Place}
use Rattle.device_gate.specs.declared.grips.Done.{Done}
use Rattle.device_gate.specs.declared.grips.Ready.{Ready}
use Rattle.device_gate.specs.declared.slips.Slip.{Slip}
use Rattle.device_gate.specs.declared.slips.Task.{Task}
use Rattle.history_book.specs.declared.entries.Entry.{Entry}
use Rattle.hub_core.specs.HubCalls.{IsGiven, IsProbeGiven}
use Rattle.hub_core.specs.OpenHubs.{OpenHub, configuration_of}
use Rattle.hub_core.specs.declared.turns.Turn.TheVariants.{Absent, Go, Moved, Over, Wait}
use Rattle.hub_core.specs.declared.turns.Turn.{Turn}
use Rattle.hub_table.specs.declared.told.Taken.TheVariants.{Absent as IsAbsent, Moved as HasMoved, Out, Over as IsOver, Waits}
use Rattle.hub_table.specs.declared.told.Taken.{Taken}
use Rattle.lock_leasing.specs.Configurations.{point_of}
use Rattle.lock_leasing.specs.Words.{standing_value}
use Rattle.std.specs.Prelude.{IsTrue, List, None, Ok, Option, Some, map, slice_get, ℕ, ⊤, ◌≡◌, ◌⊎◌}

-- with what a device is out: the slip and the task of its grip
abbrev pub SlipAndTask : Type 0
SlipAndTask = Slip × Task

-- with what the device is out whose grip this is
abbrev pub lent_by : {D : Type 0} → Option (Gripped D Ready) → Option SlipAndTask
lent_by None = None
lent_by (Some grip) = Some (grip.slip, grip.task)

-- .. of this place, where there is one
abbrev pub lent_in_place : {D : Type 0} → Option (Option (Gripped D Ready)) → Option SlipAndTask
lent_in_place None = None
lent_in_place (Some hand) = lent_by hand

-- with what each device is out, by its place
abbrev pub what_is_lent : {D : Type 0} → List (Place D) → List (Option SlipAndTask)
what_is_lent places = map (λ place. kept_of (Some place)) places

-- .. and by the grip that is held for it
abbrev pub what_is_held : {D : Type 0} → List (Option (Gripped D Ready)) → List (Option SlipAndTask)
what_is_held grips = map (λ hand. lent_by hand) grips

-- each grip is of the device in whose place it lies
abbrev pub AreInPlace : {D : Type 0} → List (Option (Gripped D Ready)) → Type 0
AreInPlace {D} grips =
    (d : ℕ) (grip : Gripped D Ready) → slice_get grips d ≡ Some (Some grip) → grip.slip.device.0 ≡ d

-- what the type of a table keeps: for each device that is out the grip with which it is out, and
-- for no other one
pub record GripsAreHeld {D : Type 0} (places : List (Place D))
    (grips : List (Option (Gripped D Ready))) : Type 0 where
  pub held : what_is_held grips ≡ what_is_lent places
  pub own : AreInPlace grips

-- the grip came back to the hub: a run's, or the detector's
abbrev pub IsBack : {D : Type 0} → OpenHub D → Gripped D Done → ℕ → List Entry → OpenHub D → Type 0
IsBack s done m made t = IsGiven s done m (Ok made) t ⊎ IsProbeGiven s done (Ok made) t

-- what is told of a turn: of a device that goes out its slip and its task
abbrev pub taken_of : {D : Type 0} → Turn D → Taken
taken_of (Go grip) = Out grip.slip grip.task
taken_of (Moved made) = HasMoved made
taken_of (Wait why) = Waits why
taken_of (Over end made) = IsOver end made
taken_of Absent = IsAbsent

-- a device that goes out, and is counted up, stood where the order of the window has it
abbrev pub StoodInOrder : {D : Type 0} → OpenHub D → Slip → Task → Type 0
StoodInOrder hub slip task =
    IsTrue (is_counted_up task)
    → slip.stood ≡ standing_value (point_of (configuration_of hub)) slip.device.0

-- .. where one goes out
abbrev pub TookInOrder : {D : Type 0} → OpenHub D → Taken → Type 0
TookInOrder hub (Out slip task) = StoodInOrder hub slip task
TookInOrder hub (HasMoved made) = ⊤
TookInOrder hub (Waits why) = ⊤
TookInOrder hub (IsOver end made) = ⊤
TookInOrder hub IsAbsent = ⊤

-- none of these places holds a thing
abbrev pub PlacesAreEmpty : {A : Type 0} → List (Option A) → Type 0
PlacesAreEmpty {A} hands = (d : ℕ) (x : A) → slice_get hands d ≡ Some (Some x) → ⊥
