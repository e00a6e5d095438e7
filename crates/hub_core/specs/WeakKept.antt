-- What is kept of a hub's configuration in each of its steps under the weak model, which promises
-- no order.
use Rattle.command_rules.specs.Rosters.{commands_of}
use Rattle.history_book.specs.Histories.{entries_of}
use Rattle.history_book.specs.Readings.{Reading, is_doomed}
use Rattle.history_book.specs.Settings.{Setting, is_weak}
use Rattle.history_book.specs.WellFormed.{IsWellFormed, each_entry}
use Rattle.home_types.specs.HomeStates.{stand_at}
use Rattle.home_types.specs.Kinds.{has_value, kind_at}
use Rattle.home_types.specs.Numbers.{DeviceId, RunId}
use Rattle.hub_core.specs.HubKept.{EachOut, probes_of}
use Rattle.hub_core.specs.Openings.{MayOpen}
use Rattle.legal_days.specs.LegalWindows.{none_fails, weakly_allowed}
use Rattle.lock_leasing.specs.Configurations.{Configuration, Grip, point_of, read_of}
use Rattle.lock_leasing.specs.declared.purposes.Purpose.TheVariants.{Commands, Probes, Undoes}
use Rattle.lock_leasing.specs.declared.purposes.Purpose.{Purpose}
use Rattle.lock_leasing.specs.Places.{GripsFit}
use Rattle.std.specs.Prelude.{Bool, IsTrue, None, Some, false, length, not, true, ℕ, ◌&&◌, ◌<◌, ◌==◌, ◌≡◌, ◌≤◌}

-- the device may be out so: for a command of a run that is not doomed, where it is counted up, for
-- no undo, and for a probe that restores the last value written where it is counted down, and none
-- where it is counted up
abbrev pub goes_weakly : Reading → DeviceId → Grip → Bool
goes_weakly n d grip = by_purpose grip.purpose
  where
    by_purpose : Purpose → Bool
    by_purpose (Commands k) = n.up d && not (is_doomed n grip.maker)
    by_purpose (Undoes v) = false
    by_purpose (Probes None) = n.up d
    by_purpose (Probes (Some v)) = not (n.up d) && (v == n.last d)

-- no must command of a run that is not doomed has failed
abbrev pub NoneHasFailed : Setting → Reading → Type 0
NoneHasFailed w n =
    (r : RunId) → (n.run r).doomed ≡ None
    → IsTrue (none_fails (commands_of w.runs r) (n.run r).answers)

-- what is kept of a configuration of the weak model in which the hub holds this to be the value of
-- each device: the last one written
pub record WeakIsKept (s : Configuration) (rounds opened : ℕ) (held : DeviceId → ℕ) : Type 0 where
  pub opens : MayOpen s.setting rounds opened
  pub weak : is_weak s.setting.mode ≡ true
  pub kinds : length s.setting.kinds ≡ length s.setting.first
  -- each restart answers a probe, and no more probes of a device are taken than there are rounds
  pub probes : (d : DeviceId) → probes_of s d ≤ rounds
  pub values : (d : DeviceId) → d < length s.setting.first
      → IsTrue (has_value (kind_at s.setting.kinds d) (stand_at s.setting.first d).value)
  pub well_formed : IsWellFormed s.setting (entries_of s.history)
  pub moment : (read_of s).moment ≤ s.moment
  pub allowed : IsTrue (each_entry s.setting (weakly_allowed s.setting) (entries_of s.history))
  pub grips : GripsFit (point_of s)
  pub out : EachOut s.grips (goes_weakly (read_of s))
  pub passes : NoneHasFailed s.setting (read_of s)
  -- also where the device is counted down, or has just died: there the hub leaves what it holds as
  -- it was
  pub held_is : (d : DeviceId) → d < length s.setting.first → held d ≡ (read_of s).last d
