-- The windows of all rooms of a home, worked at once.
use Rattle.command_rules.specs.Rosters.{runs_of}
use Rattle.device_states.specs.Devices.{Shown}
use Rattle.home_types.specs.Numbers.{DeviceId, Moment}
use Rattle.hub_core.specs.OpenHubs.{configuration_of}
use Rattle.hub_core.specs.Steps.{opened}
use Rattle.hub_threads.specs.WorkedWindows.{IsWorked}
use Rattle.hub_threads.specs.declared.rooms.RoomDone.{RoomDone}
use Rattle.hub_threads.specs.declared.rooms.RoomHub.{RoomHub}
use Rattle.std.specs.Prelude.{List, Some, length, slice_get, ℕ, ◌<◌, ◌≡◌}

-- the hub was opened with the roster of its room, for so many rounds of probes, and nothing was
-- done in it yet
pub record IsReady {D : Type 0} (n : ℕ) (job : RoomHub D) : Type 0 where
  pub runs : job.hub.setting.runs ≡ runs_of job.roster.roster
  pub fresh : configuration_of job.hub ≡ opened job.hub.setting job.hub.rounds
  pub rounds : (d : DeviceId) → d < length job.hub.setting.first
      → (configuration_of job.hub).probes d ≡ n

-- the window of the room was worked
pub record IsRoomWorked {D : Type 0} (shows : D → Shown) (earliest latest : Moment)
    (job : RoomHub D) (done : RoomDone D) : Type 0 where
  pub roster : done.window.roster ≡ job.roster
  pub worked : IsWorked shows earliest latest job.hub done.home done.window.closed

-- one for each room, in order
pub record AreRoomsWorked {D : Type 0} (shows : D → Shown) (earliest latest : Moment)
    (jobs : List (RoomHub D)) (all : List (RoomDone D)) : Type 0 where
  pub count : length all ≡ length jobs
  pub each : (k : ℕ) (job : RoomHub D) (done : RoomDone D) → slice_get jobs k ≡ Some job
      → slice_get all k ≡ Some done → IsRoomWorked shows earliest latest job done
