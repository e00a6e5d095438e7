-- A window that was replayed on a hub, from the hub that was opened to the home that it leaves.
use Rattle.device_states.specs.Devices.{Shown}
use Rattle.history_book.specs.Settings.{Setting}
use Rattle.history_book.specs.declared.records.WindowRecord.{WindowRecord}
use Rattle.home_types.specs.Numbers.{ActorId, DeviceId}
use Rattle.hub_core.specs.Homes.{HomeState}
use Rattle.hub_core.specs.OpenHubs.{OpenHub}
use Rattle.hub_core.specs.WindowWays.{WindowIsWorked}
use Rattle.run_replay.specs.Replays.{IsReplay, Play}
use Rattle.std.specs.Prelude.{List, ℕ, ◌-◌, ◌≡◌}

-- a window with so many probes of each device, replayed by these picks, and then by draws from this
-- seed, in so many rounds of the detector: the record has the history of this play, and the probes
-- are those that it took
pub record IsReplayBy (probes rounds : ℕ) (picks : List ActorId) (seed : ℕ) (w : Setting)
    (closed : WindowRecord) (taken : DeviceId → ℕ) : Type 0 where
  pub play : Play
  pub replay : IsReplay w probes rounds picks seed play
  pub history : closed.history.items ≡ play.configuration.history
  pub took : (d : DeviceId) → taken d ≡ probes - play.configuration.probes d

-- the hub's window was replayed by these picks, and then by draws from this seed, in so many rounds
abbrev pub IsReplayed : {D : Type 0} → (D → Shown) → OpenHub D → List ActorId → ℕ → ℕ → HomeState D
    → WindowRecord → Type 0
IsReplayed shows s picks seed rounds home closed =
    WindowIsWorked (IsReplayBy s.rounds rounds picks seed) shows s home closed
