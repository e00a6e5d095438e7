-- The devices of a trial.
use Rattle.home_types.specs.declared.kinds.Kind.TheVariants.{Range}
use Rattle.routine_reader.specs.Scripts.{PlainDevice}
use Rattle.std.specs.List.{range_with_len}
use Rattle.std.specs.Prelude.{List, [], codes, map, ℕ, ◌++◌}
use Rattle.trial_scripts.specs.Drawings.{two_digit_text}

-- how many there are
abbrev pub device_count : ℕ
device_count = 32

-- the device with this number: values from 0 to 999, at first 0, and never down
abbrev pub trial_device : ℕ → PlainDevice
trial_device number =
    record {
      name = codes "d" ++ two_digit_text number;
      kind = Range 0 999;
      states = [];
      start = 0;
      downs = [];
    }

-- they are numbered from 0
abbrev pub trial_devices : List PlainDevice
trial_devices = map trial_device (range_with_len 0 device_count)
