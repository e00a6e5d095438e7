-- What a model asks of a run, for parts that belong to one window.
use Rattle.command_rules.specs.Rosters.{device_no, run_no}
use Rattle.history_book.specs.Readings.{Reading, is_doomed, is_live}
use Rattle.history_book.specs.Settings.{Setting}
use Rattle.home_types.specs.Numbers.{RunId}
use Rattle.home_types.specs.declared.modes.Visibility.{Visibility}
use Rattle.home_types.specs.declared.modes.Visibility.TheVariants.{Weak}
use Rattle.home_types.specs.declared.numbers.DeviceNo.{DeviceNo}
use Rattle.home_types.specs.declared.numbers.RunNo.{RunNo}
use Rattle.lock_leasing.specs.Configurations.{Configuration, point, read_of}
use Rattle.lock_leasing.specs.Standings.{IsStandingOf, IsWeakStandingOf, WindowParts}
use Rattle.lock_leasing.specs.Waits.{down_at_end, strict_wait}
use Rattle.std.specs.Prelude.{Option, false, option_map, true, ◌≡◌}

-- the run is placed, and neither doomed nor ended
pub record IsUnderWay (n : Reading) (r : RunId) : Type 0 where
  pub live : is_live n r ≡ true
  pub sound : is_doomed n r ≡ false

-- the parts belong to one window, in which the run is under way; where its model is the weak one,
-- no other is asked about
pub data MayAskOfModel (model : Visibility) (parts : WindowParts) (r : RunId) : Type 0 where
  InOrder : (s : Configuration) (stands : IsStandingOf s parts) (turn : IsUnderWay (read_of s) r)
      → MayAskOfModel model parts r
  Weakly : (s : Configuration) (stands : IsWeakStandingOf s parts) (turn : IsUnderWay (read_of s) r)
      (weak : model ≡ Weak) → MayAskOfModel model parts r

-- the setting, under this model
abbrev pub under : Visibility → Setting → Setting
under model w = record w { mode = record w.mode { model = model } }

-- the run is the one for which the model lets r wait, in each configuration that the parts are
-- those of
abbrev pub IsStrictWaitOf : Visibility → WindowParts → RunId → Option RunNo → Type 0
IsStrictWaitOf model parts r run =
    (s : Configuration) → IsStandingOf s parts
    → run ≡ option_map run_no (strict_wait (under model s.setting) (read_of s) r)

-- the device is the one for which the model aborts r at its end, in each configuration that the
-- parts are those of
abbrev pub IsDownAtEndOf : Visibility → WindowParts → RunId → Option DeviceNo → Type 0
IsDownAtEndOf model parts r device =
    (s : Configuration) → IsStandingOf s parts → device
    ≡ option_map device_no (down_at_end (point (under model s.setting) (read_of s) s.grips) r)
