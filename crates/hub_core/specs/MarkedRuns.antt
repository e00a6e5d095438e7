-- What the hub asks when it marks a run as blocked, and when it frees runs.
use Rattle.command_rules.specs.Rosters.{command_at, commands_of, is_run}
use Rattle.history_book.specs.Readings.{is_doomed, is_live, pends}
use Rattle.history_book.specs.Settings.{Setting}
use Rattle.history_book.specs.declared.entries.Entry.{Entry}
use Rattle.history_book.specs.declared.entries.Entry.TheVariants.{Did}
use Rattle.home_types.specs.Numbers.{CommandIndex, DeviceId, RunId}
use Rattle.home_types.specs.declared.commands.Answer.{Answer}
use Rattle.home_types.specs.declared.numbers.RunNo.{RunNo}
use Rattle.lock_leasing.specs.Configurations.{Configuration, is_command, read_of}
use Rattle.std.specs.Prelude.{Bool, List, [], false, length, option_map, true, unwrap_or, ◌<◌, ◌∷◌, ◌≡◌}

-- the device is out for a command
abbrev pub is_out_for_command : Configuration → DeviceId → Bool
is_out_for_command s d = unwrap_or (option_map (λ grip. is_command grip.purpose) (s.grips d)) false

-- the run is live, not doomed, and has a command left on the device, which is that of its command k
pub record HoldsStill (s : Configuration) (r : RunId) (k : CommandIndex)
    (d : DeviceId) : Type 0 where
  pub live : is_live (read_of s) r ≡ true
  pub going : is_doomed (read_of s) r ≡ false
  pub device : (command_at s.setting.runs r k).device.0 ≡ d
  pub left : pends s.setting (read_of s) r d ≡ true

-- the step has answered a command on the device, and made no other entry, and its run holds the
-- device still
pub record IsAnsweredStill (s : Configuration) (d : DeviceId) (entries : List Entry) : Type 0 where
  pub run : RunNo
  pub command : CommandIndex
  pub answer : Answer
  pub only : entries ≡ Did run command answer ∷ []
  pub holds : HoldsStill s run.0 command d

-- the step has answered this command of the run, which is on the device, and made no other entry
pub record IsAnswerAlone (w : Setting) (r : RunNo) (k : CommandIndex) (d : DeviceId)
    (entries : List Entry) : Type 0 where
  pub answer : Answer
  pub only : entries ≡ Did r k answer ∷ []
  pub run : is_run w.runs r.0 ≡ true
  pub there : k < length (commands_of w.runs r.0)
  pub device : (command_at w.runs r.0 k).device.0 ≡ d
