-- Answers to calls that were made elsewhere.
use Rattle.device_gate.specs.Calls.{may_tell}
use Rattle.device_gate.specs.Grips.{Gripped}
use Rattle.device_gate.specs.Places.{kept_of}
use Rattle.device_gate.specs.declared.grips.Done.{Done}
use Rattle.device_gate.specs.declared.slips.Slip.{Slip}
use Rattle.device_gate.specs.declared.slips.Task.{Task}
use Rattle.device_gate.specs.declared.slips.Task.TheVariants.{Drive, Probe, Sense}
use Rattle.device_gate.specs.declared.slips.Told.{Told}
use Rattle.device_gate.specs.declared.slips.Told.TheVariants.{Died, Sensed, Worked}
use Rattle.handed_devices.specs.declared.devices.HandedDevice.{HandedDevice}
use Rattle.history_book.specs.declared.entries.Entry.{Entry}
use Rattle.hub_core.specs.OpenHubs.{OpenHub}
use Rattle.hub_table.specs.Tables.{IsBack}
use Rattle.hub_table.specs.declared.told.NotTaken.{NotTaken}
use Rattle.hub_table.specs.declared.told.NotTaken.TheVariants.{Differs, NotOut, OtherKind}
use Rattle.std.specs.Prelude.{List, None, Option, Some, if◌then◌else◌, slice_get, ℕ, ◌==◌, ◌≡◌}

-- what is wrong with an answer to the task that the device may not tell: a sense has found another
-- value, all else is of another kind
abbrev pub unfit_for : Task → Told → NotTaken
unfit_for (Drive v) told = OtherKind
unfit_for Sense Worked = OtherKind
unfit_for Sense (Sensed x) = Differs
unfit_for Sense Died = OtherKind
unfit_for (Probe restored) told = OtherKind

-- why this is no answer to the call with this ticket, by what the device is out with
abbrev pub refusal : Option (Slip × Task) → ℕ → Told → Option NotTaken
refusal None ticket told = Some NotOut
refusal (Some out) ticket told =
    if out.0.ticket == ticket
    then (if may_tell out.1 out.0.stood told then None else Some (unfit_for out.1 told))
    else Some NotOut

-- the device d was out with this ticket, told this, which is an answer to its task, and is back
pub record HasComeBack (s : OpenHub HandedDevice) (d ticket : ℕ) (told : Told) (m : ℕ)
    (made : List Entry) (t : OpenHub HandedDevice) : Type 0 where
  pub done : Gripped HandedDevice Done
  pub device : done.slip.device.0 ≡ d
  pub ticket_is : done.slip.ticket ≡ ticket
  pub told_is : done.stage.told ≡ told
  pub free : refusal (kept_of (slice_get s.places d)) ticket told ≡ None
  pub back : IsBack s done m made t
