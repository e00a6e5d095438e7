-- For what a run waits. Each reason is a case of its own: it tells its run or device where it
-- applies. They are not tried alone: the order of a step's cases says which one a run is told.
use Rattle.command_rules.specs.Rosters.{Run, followed_by, shares}
use Rattle.history_book.specs.Readings.{Reading, has_written, is_open, sees_down, sees_up}
use Rattle.history_book.specs.Settings.{Setting, device_numbers, devices_of, is_strict, is_weak}
use Rattle.home_types.specs.Commands.{reads}
use Rattle.home_types.specs.Numbers.{DeviceId, RunId}
use Rattle.home_types.specs.declared.commands.Command.{Command}
use Rattle.home_types.specs.declared.modes.Visibility.{Visibility}
use Rattle.home_types.specs.declared.modes.Visibility.TheVariants.{Eventual, Global, Partitioned, Weak}
use Rattle.home_types.specs.declared.numbers.RunNo.{RunNo}
use Rattle.lock_leasing.specs.Configurations.{Grips, Point, has_grip, is_out}
use Rattle.lock_leasing.specs.Words.{has_effect, has_touched, holds_device, live_before, live_runs, next_undo_of}
use Rattle.std.specs.Prelude.{Bool, List, None, Option, Some, false, find, if◌then◌else◌, is_none, not, true, ◌&&◌, ◌||◌}

-- r follows a run that has not ended
abbrev pub follow_wait : Setting → Reading → RunId → Option RunNo
follow_wait w n r = unended (followed_by w.runs r)
  where
    unended : Option RunNo → Option RunNo
    unended None = None
    unended (Some f) = if is_none (n.run f.0).ended then Some f else None

-- r holds the grip of this device, the smallest one
abbrev pub grip_wait : Setting → Grips → RunId → Option DeviceId
grip_wait w g r = find (has_grip g r) (device_numbers w)

-- the next device on which r is undone, where it is out
abbrev pub undo_wait : Point → RunId → Option DeviceId
undo_wait p r = while_out (next_undo_of p r)
  where
    while_out : Option DeviceId → Option DeviceId
    while_out None = None
    while_out (Some d) = if is_out p.grips d then Some d else None

-- the first live run before r that holds the device
abbrev pub behind_wait : Point → RunId → DeviceId → Option RunId
behind_wait p r d = find (λ x. holds_device p x d) (live_before p.reading r)

-- r would read the write of a live run before it
abbrev pub dirty_wait : Point → RunId → Command → Option RunId
dirty_wait p r c =
    if reads c.job && not (sees_down p.reading r c.device.0)
    && not (has_written p.reading r c.device.0)
    then find (λ x. has_effect p.reading p.grips x c.device.0) (live_before p.reading r) else None

-- under the model, r does not go on while x is live before it
abbrev pub model_bars : Visibility → List Run → RunId → RunId → Bool
model_bars Weak runs r x = false
model_bars Global runs r x = true
model_bars Partitioned runs r x = shares runs x r
model_bars Eventual runs r x = false

-- the first live run before r under the global model, the first that shares a device with r under
-- the partitioned one
abbrev pub strict_wait : Setting → Reading → RunId → Option RunId
strict_wait w n r = by_model w.mode.model
  where
    by_model : Visibility → Option RunId
    by_model Weak = None
    by_model Global = find (λ x. true) (live_before n r)
    by_model Partitioned = find (λ x. shares w.runs x r) (live_before n r)
    by_model Eventual = None

-- the device is out, and r does not see it down
abbrev pub busy_wait : Point → RunId → DeviceId → Bool
busy_wait p r d = (is_weak p.setting.mode || not (sees_down p.reading r d)) && is_out p.grips d

-- under a strict model: the smallest device that r has touched and that is counted down
abbrev pub down_at_end : Point → RunId → Option DeviceId
down_at_end p r =
    if is_strict p.setting.mode then find
    (λ d. has_touched p.reading p.grips r d && not (p.reading.up d)) (devices_of p.setting r)
    else None

-- the run that is lost where the device fails: live, not doomed, not done with the device, and it
-- sees it up
abbrev pub lost_by : Setting → Reading → DeviceId → Option RunId
lost_by w n d =
    if is_weak w.mode then None
    else find (λ x. is_open w n x d && sees_up n x d) (live_runs n n.line)
