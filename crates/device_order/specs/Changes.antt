-- The kinds of change on one device, each with what it may assume.
use Rattle.device_order.specs.Records.{DeviceRecord, NothingIsOut, walk_after}
use Rattle.device_order.specs.Usages.{doomed_stage, has_pending, has_used_device, holds_command, holds_grip, is_in_effect, is_read, is_seen_down, spans_up, stage_is_committed, stage_is_doomed, stage_is_open}
use Rattle.device_order.specs.Walks.{effective, has, is_write_settled, with_event}
use Rattle.device_order.specs.declared.records.Event.TheVariants.{Failure, Restart}
use Rattle.device_order.specs.declared.records.HeldGrip.TheVariants.{Free, Reads, Undoes, Writes}
use Rattle.device_order.specs.declared.records.HeldGrip.{HeldGrip}
use Rattle.device_order.specs.declared.records.OrderEntry.TheVariants.{Occurred, Used}
use Rattle.device_order.specs.declared.records.OrderEntry.{OrderEntry}
use Rattle.device_order.specs.declared.records.Probe.TheVariants.{Asks, Restores, Unprobed}
use Rattle.device_order.specs.declared.records.Probe.{Probe}
use Rattle.device_order.specs.declared.records.RunStage.TheVariants.{Committed, Done, Pending}
use Rattle.device_order.specs.declared.records.RunStage.{RunStage}
use Rattle.device_order.specs.declared.records.Usage.{Usage}
use Rattle.home_types.specs.declared.commands.View.TheVariants.{Down, Up}
use Rattle.std.specs.Prelude.{Bool, List, None, Option, Some, [], false, if◌then◌else◌, is_some, not, true, ℕ, ◌&&◌, ◌++◌, ◌||◌, ◌∷◌, ◌≡◌}

-- neither an event nor a run that touched the device
unfoldable pub is_calm : List OrderEntry → Bool
is_calm [] = true
is_calm (Occurred e ∷ xs) = false
is_calm (Used u ∷ xs) = not (has_used_device u) && is_calm xs

-- the use of a run that was just placed
abbrev pub new_usage : Usage
new_usage =
    record { stage = Pending; view = None; read = None; wrote = None; undid = false; grip = Free }

-- an answer leaves the run with more to do on the device only where it had, and doomed where it
-- was; it may doom it, and does not commit it
pub record IsAnswered (old new : RunStage) : Type 0 where
  pub closes : stage_is_open new ≡ true → stage_is_open old ≡ true
  pub doom : stage_is_doomed old ≡ true → stage_is_doomed new ≡ true
  pub live : stage_is_committed new ≡ false

-- what a run read before its first write, after a read that found x
abbrev pub first_read : Usage → ℕ → Option ℕ
first_read u x = if is_some u.read || is_some u.wrote then u.read else Some x

-- a use after a write of v was answered, ..
abbrev pub usage_after_write : Usage → RunStage → ℕ → Usage
usage_after_write u stage v =
    record u { stage = stage; view = Some Up; wrote = Some v; grip = Free }

-- .. after a read that found x, ..
abbrev pub usage_after_read : Usage → RunStage → ℕ → Usage
usage_after_read u stage x =
    record u { stage = stage; view = Some Up; read = first_read u x; grip = Free }

-- .. after its first access died, ..
abbrev pub after_first_death : Usage → RunStage → Usage
after_first_death u stage = record u { stage = stage; view = Some Down; grip = Free }

-- .. after a later one died, ..
abbrev pub after_later_death : Usage → RunStage → Usage
after_later_death u stage = record u { stage = stage; grip = Free }

-- .. and after its undo came back
abbrev pub after_undo : Usage → Usage
after_undo u = record u { undid = true; grip = Free }

-- a device that is up is asked, one that is down is restored to the value
abbrev pub probe_for : Bool → ℕ → Probe
probe_for up v = if up then Asks else Restores v

-- what may happen on a device, each with what it assumes
pub data DeviceChange (d : DeviceRecord) : DeviceRecord → Type 0 where
  -- a run is placed: behind it stands neither an event nor a run that touched the device
  RunPlaced : (a b : List OrderEntry) (at : d.order ≡ a ++ b) (calm : is_calm b ≡ true)
      → DeviceChange d (record d { order = a ++ Used new_usage ∷ b })
  -- the grip goes out for a command: the device is home and up, the run does not see it down, no
  -- run before it has more to do there, and a read finds no live write
  CommandOut : (a b : List OrderEntry) (u : Usage) (g : HeldGrip) (at : d.order ≡ a ++ Used u ∷ b)
      (pending : u.stage ≡ Pending) (home : NothingIsOut d) (counted_up : d.up ≡ true)
      (not_down : is_seen_down u.view ≡ false) (none_before : has has_pending a ≡ false)
      (command : holds_command g ≡ true) (clean : (is_read g && not (is_some u.wrote)) ≡ true
      → is_write_settled (effective None a) ≡ true)
      → DeviceChange d (record d { order = a ++ Used (record u { grip = g }) ∷ b })
  WriteAnswered : (a b : List OrderEntry) (u : Usage) (v : ℕ) (stage : RunStage)
      (at : d.order ≡ a ++ Used u ∷ b) (out : u.grip ≡ Writes) (answered : IsAnswered u.stage stage)
      → DeviceChange d (record d { order = a ++ Used (usage_after_write u stage v) ∷ b; held = v })
  ReadAnswered : (a b : List OrderEntry) (u : Usage) (stage : RunStage)
      (at : d.order ≡ a ++ Used u ∷ b) (out : u.grip ≡ Reads) (answered : IsAnswered u.stage stage)
      → DeviceChange d (record d { order = a ++ Used (usage_after_read u stage d.held) ∷ b })
  -- the device fails at a command: at the run's first access, ..
  FirstAccessDied : (a b : List OrderEntry) (u : Usage) (stage : RunStage) (held : ℕ)
      (at : with_event Failure d.order ≡ a ++ Used u ∷ b) (out : holds_command u.grip ≡ true)
      (first : u.view ≡ None) (answered : IsAnswered u.stage stage)
      → DeviceChange d
      (record d { order = a ++ Used (after_first_death u stage) ∷ b; up = false; held = held })
  -- .. or at a later one, and the run is doomed
  LaterAccessDied : (a b : List OrderEntry) (u : Usage) (stage : RunStage) (held : ℕ)
      (at : with_event Failure d.order ≡ a ++ Used u ∷ b) (out : holds_command u.grip ≡ true)
      (later : is_some u.view ≡ true) (doom : stage_is_doomed stage ≡ true)
      → DeviceChange d
      (record d { order = a ++ Used (after_later_death u stage) ∷ b; up = false; held = held })
  -- a command is answered Down with no call: the run sees the device down already, ..
  DownAgain : (a b : List OrderEntry) (u : Usage) (stage : RunStage)
      (at : d.order ≡ a ++ Used u ∷ b) (pending : u.stage ≡ Pending) (down : u.view ≡ Some Down)
      (answered : IsAnswered u.stage stage)
      → DeviceChange d (record d { order = a ++ Used (record u { stage = stage }) ∷ b })
  -- .. or the device is home and counted down, and no run before it has more to do there
  DownFirst : (a b : List OrderEntry) (u : Usage) (stage : RunStage)
      (at : d.order ≡ a ++ Used u ∷ b) (pending : u.stage ≡ Pending) (home : NothingIsOut d)
      (counted_down : d.up ≡ false) (none_before : has has_pending a ≡ false)
      (answered : IsAnswered u.stage stage)
      → DeviceChange d
      (record d { order = a ++ Used (record u { stage = stage; view = Some Down }) ∷ b })
  -- the last command on the device is skipped by its guard
  GuardSkipped : (a b : List OrderEntry) (u : Usage) (at : d.order ≡ a ++ Used u ∷ b)
      (pending : u.stage ≡ Pending) (not_out : holds_command u.grip ≡ false)
      → DeviceChange d (record d { order = a ++ Used (record u { stage = Done }) ∷ b })
  RunDoomed : (a b : List OrderEntry) (u : Usage) (at : d.order ≡ a ++ Used u ∷ b)
      → DeviceChange d
      (record d { order = a ++ Used (record u { stage = doomed_stage u.stage }) ∷ b })
  RunCommitted : (a b : List OrderEntry) (u : Usage) (at : d.order ≡ a ++ Used u ∷ b)
      (done : u.stage ≡ Done)
      → DeviceChange d (record d { order = a ++ Used (record u { stage = Committed }) ∷ b })
  -- a doomed run is aborted and gone: it holds no grip, and the effective write is not its own
  RunAborted : (a b : List OrderEntry) (u : Usage) (at : d.order ≡ a ++ Used u ∷ b)
      (doomed : stage_is_doomed u.stage ≡ true) (no_grip : holds_grip u ≡ false)
      (not_effective : (is_in_effect u && not (has is_in_effect b)) ≡ false)
      → DeviceChange d (record d { order = a ++ b })
  -- the grip goes out for the undo of the effective write: it drives the value without that run
  UndoOut : (a b : List OrderEntry) (u : Usage) (at : d.order ≡ a ++ Used u ∷ b)
      (doomed : stage_is_doomed u.stage ≡ true) (wrote : is_in_effect u ≡ true)
      (last : has is_in_effect b ≡ false) (home : NothingIsOut d) (counted_up : d.up ≡ true)
      → DeviceChange d (record d {
        order = a ++ Used (record u { grip = Undoes (walk_after d (a ++ b)).stand }) ∷ b;
      })
  -- the device is down, and the undo is left to its restart
  UndoDropped : (a b : List OrderEntry) (u : Usage) (at : d.order ≡ a ++ Used u ∷ b)
      (doomed : stage_is_doomed u.stage ≡ true) (wrote : is_in_effect u ≡ true)
      (last : has is_in_effect b ≡ false) (home : NothingIsOut d) (counted_down : d.up ≡ false)
      → DeviceChange d (record d { order = a ++ Used (record u { undid = true }) ∷ b })
  UndoAnswered : (a b : List OrderEntry) (u : Usage) (v : ℕ) (at : d.order ≡ a ++ Used u ∷ b)
      (out : u.grip ≡ Undoes v)
      → DeviceChange d (record d { order = a ++ Used (after_undo u) ∷ b; held = v })
  UndoDied : (a b : List OrderEntry) (u : Usage) (v held : ℕ)
      (at : with_event Failure d.order ≡ a ++ Used u ∷ b) (out : u.grip ≡ Undoes v)
      → DeviceChange d (record d { order = a ++ Used (after_undo u) ∷ b; up = false; held = held })
  -- a probe goes out of a device that is home: it asks one that is up, and restores one that is
  -- down to its standing value
  ProbeOut : (home : NothingIsOut d)
      → DeviceChange d (record d { probe = probe_for d.up (walk_after d d.order).stand })
  -- a probe brings no news: the device is up still, or down still
  ProbeFoundUp : (out : d.probe ≡ Asks) → DeviceChange d (record d { probe = Unprobed })
  ProbeFoundDown : (v held : ℕ) (out : d.probe ≡ Restores v)
      → DeviceChange d (record d { probe = Unprobed; held = held })
  -- a probe finds that the device has failed: no run spans the failure, ..
  ProbeDied : (held : ℕ) (out : d.probe ≡ Asks) (none_spans : has spans_up d.order ≡ false)
      → DeviceChange d
      (record d { order = with_event Failure d.order; up = false; held = held; probe = Unprobed })
  -- .. or one does, and is doomed
  ProbeDiedUnderRun : (a b : List OrderEntry) (u : Usage) (held : ℕ) (out : d.probe ≡ Asks)
      (at : with_event Failure d.order ≡ a ++ Used u ∷ b) (spans : spans_up u ≡ true)
      → DeviceChange d (record d {
        order = a ++ Used (record u { stage = doomed_stage u.stage }) ∷ b;
        up = false;
        held = held;
        probe = Unprobed;
      })
  DeviceRestarted : (v : ℕ) (out : d.probe ≡ Restores v)
      → DeviceChange d
      (record d { order = with_event Restart d.order; up = true; held = v; probe = Unprobed })
