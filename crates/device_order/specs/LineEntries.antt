-- The order of each device that a line makes.
use Rattle.device_order.specs.RunStates.{RunState, RunStates, device_summary, rest, uses_device}
use Rattle.device_order.specs.declared.records.Event.TheVariants.{Failure, Restart}
use Rattle.device_order.specs.declared.records.HeldGrip.TheVariants.{Reads, Writes}
use Rattle.device_order.specs.declared.records.HeldGrip.{HeldGrip}
use Rattle.device_order.specs.declared.records.OrderEntry.TheVariants.{Occurred, Used}
use Rattle.device_order.specs.declared.records.OrderEntry.{OrderEntry}
use Rattle.device_order.specs.declared.records.RunStage.TheVariants.{Committed, Done, DoomedDone, DoomedPending, Pending}
use Rattle.device_order.specs.declared.records.RunStage.{RunStage}
use Rattle.device_order.specs.declared.records.Usage.{Usage}
use Rattle.home_types.specs.Commands.{reads}
use Rattle.home_types.specs.Numbers.{DeviceId}
use Rattle.home_types.specs.declared.commands.Job.{Job}
use Rattle.home_types.specs.declared.items.Item.TheVariants.{Back, Failed, Ran}
use Rattle.home_types.specs.declared.items.Item.{Item}
use Rattle.home_types.specs.declared.kinds.Kind.{Kind}
use Rattle.std.specs.Prelude.{Bool, List, None, Option, Some, [], false, if◌then◌else◌, true, ◌==◌, ◌∷◌}

-- the stage of a run at a device: by whether it is committed, whether it is doomed, and whether a
-- command on the device has no answer
abbrev pub stage_of : Bool → Bool → Bool → RunStage
stage_of true doomed pending = Committed
stage_of false false true = Pending
stage_of false false false = Done
stage_of false true true = DoomedPending
stage_of false true false = DoomedDone

-- the use that a run makes of a device
abbrev pub usage : List Kind → RunState → DeviceId → Usage
usage kinds r d = record {
  stage = stage_of r.committed r.doomed (uses_device d (rest r));
  view = (device_summary kinds r d).view;
  read = (device_summary kinds r d).read;
  wrote = (device_summary kinds r d).wrote;
  undid = r.undid d;
  grip = r.grip d;
}

-- what a command's grip is held for
abbrev pub command_grip : Job → HeldGrip
command_grip job = if reads job then Reads else Writes

-- the entry, where it is one
abbrev pub entry_if : Bool → OrderEntry → Option OrderEntry
entry_if true x = Some x
entry_if false x = None

-- what an item is in the order of the device: a run with a command on it is its use, an event of
-- the device that event, and anything else nothing
abbrev pub entry_of : List Kind → RunStates → DeviceId → Item → Option OrderEntry
entry_of kinds states d (Ran r) =
    entry_if (uses_device d (states r.0).commands) (Used (usage kinds (states r.0) d))
entry_of kinds states d (Failed e k) = entry_if (e.0 == d) (Occurred Failure)
entry_of kinds states d (Back e k) = entry_if (e.0 == d) (Occurred Restart)

-- an order with an entry before it, where it is one
abbrev pub with_order_entry : Option OrderEntry → List OrderEntry → List OrderEntry
with_order_entry None xs = xs
with_order_entry (Some x) xs = x ∷ xs

-- the order of the device that a line makes
unfoldable pub entries : List Kind → RunStates → DeviceId → List Item → List OrderEntry
entries kinds states d [] = []
entries kinds states d (i ∷ is) =
    with_order_entry (entry_of kinds states d i) (entries kinds states d is)
