-- Words on the use that one run makes of a device.
use Rattle.device_order.specs.declared.records.Event.TheVariants.{Failure, Restart}
use Rattle.device_order.specs.declared.records.Event.{Event}
use Rattle.device_order.specs.declared.records.HeldGrip.TheVariants.{Free, Reads, Undoes, Writes}
use Rattle.device_order.specs.declared.records.HeldGrip.{HeldGrip}
use Rattle.device_order.specs.declared.records.RunStage.TheVariants.{Committed, Done, DoomedDone, DoomedPending, Pending}
use Rattle.device_order.specs.declared.records.RunStage.{RunStage}
use Rattle.device_order.specs.declared.records.Usage.{Usage}
use Rattle.home_types.specs.declared.commands.View.TheVariants.{Down, Up}
use Rattle.home_types.specs.declared.commands.View.{View}
use Rattle.std.specs.Prelude.{Bool, None, Option, Some, false, is_some, not, true, ◌&&◌, ◌||◌}

-- a command on the device has no answer
abbrev pub is_pending : RunStage → Bool
is_pending Committed = false
is_pending Pending = true
is_pending Done = false
is_pending DoomedPending = true
is_pending DoomedDone = false

-- the run is doomed
abbrev pub stage_is_doomed : RunStage → Bool
stage_is_doomed Committed = false
stage_is_doomed Pending = false
stage_is_doomed Done = false
stage_is_doomed DoomedPending = true
stage_is_doomed DoomedDone = true

-- the run is committed
abbrev pub stage_is_committed : RunStage → Bool
stage_is_committed Committed = true
stage_is_committed Pending = false
stage_is_committed Done = false
stage_is_committed DoomedPending = false
stage_is_committed DoomedDone = false

-- the answers of the run count
abbrev pub counts_serially : RunStage → Bool
counts_serially stage = not (stage_is_doomed stage)

-- the answers of the run count, and a command on the device has none
abbrev pub stage_is_open : RunStage → Bool
stage_is_open Committed = false
stage_is_open Pending = true
stage_is_open Done = false
stage_is_open DoomedPending = false
stage_is_open DoomedDone = false

-- the stage of a run that is doomed
abbrev pub doomed_stage : RunStage → RunStage
doomed_stage Committed = Committed
doomed_stage Pending = DoomedPending
doomed_stage Done = DoomedDone
doomed_stage DoomedPending = DoomedPending
doomed_stage DoomedDone = DoomedDone

-- a restart leaves the device up, a failure down
abbrev pub is_restart : Event → Bool
is_restart Failure = false
is_restart Restart = true

-- the run sees the device up
abbrev pub is_up : Option View → Bool
is_up None = false
is_up (Some Up) = true
is_up (Some Down) = false

-- the run sees the device down
abbrev pub is_seen_down : Option View → Bool
is_seen_down None = false
is_seen_down (Some Up) = false
is_seen_down (Some Down) = true

-- the run does not hold the grip
abbrev pub is_free : HeldGrip → Bool
is_free Free = true
is_free Reads = false
is_free Writes = false
is_free (Undoes v) = false

-- the run holds the grip for a command
abbrev pub holds_command : HeldGrip → Bool
holds_command Free = false
holds_command Reads = true
holds_command Writes = true
holds_command (Undoes v) = false

-- .. which reads
abbrev pub is_read : HeldGrip → Bool
is_read Free = false
is_read Reads = true
is_read Writes = false
is_read (Undoes v) = false

-- the run holds the grip for an undo
abbrev pub holds_undo : HeldGrip → Bool
holds_undo Free = false
holds_undo Reads = false
holds_undo Writes = false
holds_undo (Undoes v) = true

-- the run holds the grip of the device
abbrev pub holds_grip : Usage → Bool
holds_grip u = not (is_free u.grip)

-- the answers of the run count, and it has more to do on the device
abbrev pub has_pending : Usage → Bool
has_pending u = stage_is_open u.stage

-- the run has an answer on the device, or its command is out
abbrev pub has_used_device : Usage → Bool
has_used_device u = is_some u.view || holds_command u.grip

-- its first answer on the device is still to come, and will count
abbrev pub awaits_first : Usage → Bool
awaits_first u = stage_is_open u.stage && not (is_some u.view)

-- its answers count, it sees the device up, and it has more to do there
abbrev pub spans_up : Usage → Bool
spans_up u = stage_is_open u.stage && is_up u.view

-- it wrote, and no entry undid that
abbrev pub has_write : Usage → Bool
has_write u = is_some u.wrote && not u.undid

-- it wrote, no entry undid that, and no undo of it is out: its write is in effect
abbrev pub is_in_effect : Usage → Bool
is_in_effect u = is_some u.wrote && not (u.undid || holds_undo u.grip)

-- it wrote, and is committed
abbrev pub has_committed_write : Usage → Bool
has_committed_write u = is_some u.wrote && stage_is_committed u.stage

-- it wrote, no entry undid that, and it is not committed
abbrev pub has_uncommitted_write : Usage → Bool
has_uncommitted_write u = is_some u.wrote && not u.undid && not (stage_is_committed u.stage)
