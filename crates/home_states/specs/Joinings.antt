-- A run is added to the window that was begun, or joins the one that is open.
use Rattle.handed_devices.specs.declared.devices.HandedDevice.{HandedDevice}
use Rattle.home_states.specs.Drafts.{HasAddedRun}
use Rattle.home_states.specs.LiveHomes.{LiveState}
use Rattle.home_states.specs.declared.homes.Phase.TheVariants.{InWindow}
use Rattle.home_types.specs.declared.numbers.RunNo.{RunNo}
use Rattle.hub_core.specs.Joins.{joined}
use Rattle.hub_core.specs.OpenHubs.{OpenHub}
use Rattle.live_scripts.specs.Growth.{HasRun, new_run}
use Rattle.routine_reader.specs.Rosters.{run_of_text}
use Rattle.routine_reader.specs.declared.scripts.Script.{Script}
use Rattle.std.specs.Prelude.{Option, length, ℕ, ◌+◌, ◌≡◌, ◌⊎◌}

-- the window of this number, the script's last one, and the one that is open have one run more, the
-- last one, of the same number in both; nothing else of the open window is changed
pub record HasJoinedBoth (script : Script) (k : ℕ) (hub : OpenHub HandedDevice) (routine : ℕ)
    (follows : Option RunNo) (r : ℕ) (grown : Script)
    (next : OpenHub HandedDevice) : Type 0 where
  pub last : length script.windows.items ≡ k + 1
  pub added : HasRun script routine follows r grown
  pub number : r ≡ length hub.setting.runs + 1
  pub is : next ≡ joined hub (run_of_text script (new_run routine follows))

-- the run has joined the window in which the live home is, and nothing else is changed
pub record HasJoined (s : LiveState) (routine : ℕ) (follows : Option RunNo) (r : ℕ)
    (t : LiveState) : Type 0 where
  pub number : ℕ
  pub hub : OpenHub HandedDevice
  pub next : OpenHub HandedDevice
  pub script : Script
  pub was : s.phase ≡ InWindow number hub
  pub both : HasJoinedBoth s.script number hub routine follows r script next
  pub is : t ≡ record s { script = script; phase = InWindow number next }

-- .. or was added to the window that was begun
abbrev pub HasTakenRun : LiveState → ℕ → Option RunNo → ℕ → LiveState → Type 0
HasTakenRun s routine follows r t =
    HasAddedRun s routine follows r t ⊎ HasJoined s routine follows r t
