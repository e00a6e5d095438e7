-- The configuration of a window: what was fixed, what has happened, and what is out.
use Rattle.history_book.specs.Histories.{entries_of, reading}
use Rattle.history_book.specs.Readings.{Reading}
use Rattle.history_book.specs.Settings.{Setting}
use Rattle.history_book.specs.declared.entries.Kept.{Kept}
use Rattle.home_types.specs.Numbers.{ActorId, DeviceId, Moment, RunId}
use Rattle.lock_leasing.specs.declared.purposes.Purpose.TheVariants.{Commands, Probes, Undoes}
use Rattle.lock_leasing.specs.declared.purposes.Purpose.{Purpose}
use Rattle.std.specs.Prelude.{Bool, List, None, Option, false, is_some, option_map, true, unwrap_or, ℕ, ◌&&◌, ◌==◌}

-- a device that is out: its maker, a run or 0 for the detector, and its purpose
pub record Grip : Type 0 where
  pub maker : ActorId
  pub purpose : Purpose

-- for each device the grip with which it is out
abbrev pub Grips : Type 0
Grips = DeviceId → Option Grip

abbrev pub no_grips : Grips
no_grips d = None

pub record Configuration : Type 0 where
  pub setting : Setting
  pub history : List Kept
  -- the last moment, in ms
  pub moment : Moment
  -- how many probes of a device may still be taken
  pub probes : DeviceId → ℕ
  pub grips : Grips

-- what its history says
abbrev pub read_of : Configuration → Reading
read_of s = reading s.setting (entries_of s.history)

-- what definitions speak of: what was fixed, what a history says, and what is out
pub record Point : Type 0 where
  pub setting : Setting
  pub reading : Reading
  pub grips : Grips

-- the point of these three
abbrev pub point : Setting → Reading → Grips → Point
point w n g = record { setting = w; reading = n; grips = g }

-- where a configuration stands
abbrev pub point_of : Configuration → Point
point_of s = point s.setting (read_of s) s.grips

abbrev pub is_command : Purpose → Bool
is_command (Commands k) = true
is_command (Undoes v) = false
is_command (Probes v) = false

abbrev pub is_undo : Purpose → Bool
is_undo (Commands k) = false
is_undo (Undoes v) = true
is_undo (Probes v) = false

abbrev pub is_out : Grips → DeviceId → Bool
is_out g d = is_some (g d)

-- the run holds the grip of the device
abbrev pub has_grip : Grips → RunId → DeviceId → Bool
has_grip g r d = unwrap_or (option_map (λ p. p.maker == r) (g d)) false

-- .. for a command
abbrev pub grips_command : Grips → RunId → DeviceId → Bool
grips_command g r d =
    unwrap_or (option_map (λ p. (p.maker == r) && is_command p.purpose) (g d)) false

-- .. for an undo
abbrev pub grips_undo : Grips → RunId → DeviceId → Bool
grips_undo g r d = unwrap_or (option_map (λ p. (p.maker == r) && is_undo p.purpose) (g d)) false
