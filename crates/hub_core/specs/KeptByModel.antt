-- What is kept of a hub's configuration, in every model and by its own.
use Rattle.history_book.specs.Histories.{entries_of}
use Rattle.history_book.specs.Settings.{is_weak}
use Rattle.history_book.specs.WellFormed.{IsWellFormed}
use Rattle.home_types.specs.HomeStates.{stand_at}
use Rattle.home_types.specs.Kinds.{has_value, kind_at}
use Rattle.home_types.specs.Numbers.{DeviceId}
use Rattle.hub_core.specs.HubKept.{ConfigurationIsKept, probes_of}
use Rattle.hub_core.specs.Openings.{MayOpen}
use Rattle.hub_core.specs.WeakKept.{WeakIsKept}
use Rattle.legal_days.specs.JustifiedAborts.{IsJustified}
use Rattle.lock_leasing.specs.Configurations.{Configuration, point_of, read_of}
use Rattle.lock_leasing.specs.Places.{GripsFit}
use Rattle.std.specs.Prelude.{IsTrue, false, length, true, ℕ, ◌<◌, ◌≡◌, ◌≤◌}

-- of the history in every model
pub record HistoryStands (s : Configuration) : Type 0 where
  pub well_formed : IsWellFormed s.setting (entries_of s.history)
  pub moment : (read_of s).moment ≤ s.moment
  pub justified : IsJustified s.setting (entries_of s.history)

-- of a configuration in which each device stands, or stood as it went out, at this value
pub record IsKeptByModel (s : Configuration) (rounds opened : ℕ)
    (held : DeviceId → ℕ) : Type 0 where
  pub opens : MayOpen s.setting rounds opened
  pub kinds : length s.setting.kinds ≡ length s.setting.first
  pub probes : (d : DeviceId) → probes_of s d ≤ rounds
  pub values : (d : DeviceId) → d < length s.setting.first
      → IsTrue (has_value (kind_at s.setting.kinds d) (stand_at s.setting.first d).value)
  pub history : HistoryStands s
  pub grips : GripsFit (point_of s)
  -- where the model has an order
  pub ordered : is_weak s.setting.mode ≡ false → ConfigurationIsKept s rounds opened held
  -- .. and under the weak one
  pub weakly : is_weak s.setting.mode ≡ true → WeakIsKept s rounds opened held
