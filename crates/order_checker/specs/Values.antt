-- What words name in a script: its devices, their values, and answers.
use Rattle.home_types.specs.Commands.{is_always, writes}
use Rattle.home_types.specs.Kinds.{has_value}
use Rattle.home_types.specs.declared.commands.Answer.TheVariants.{Down, Fine, Found, Skipped}
use Rattle.home_types.specs.declared.commands.Answer.{Answer}
use Rattle.home_types.specs.declared.commands.Command.{Command}
use Rattle.home_types.specs.declared.kinds.Kind.TheVariants.{Range, States}
use Rattle.home_types.specs.declared.kinds.Kind.{Kind}
use Rattle.order_checker.specs.Words.{number_of}
use Rattle.routine_reader.specs.declared.scripts.DeviceText.{DeviceText}
use Rattle.std.specs.List.{list_any, position}
use Rattle.std.specs.Prelude.{Bool, List, None, Option, Some, codes, if◌then◌else◌, not, option_and_then, option_map, slice_get, ℕ, ◌&&◌}
use Rattle.std.specs.Str.{bytes_eq}

-- the number of the device with this name, from 0
abbrev pub device_named : List DeviceText → List ℕ → Option ℕ
device_named devices name = position (λ device. bytes_eq name device.name) devices

-- a device has this name
abbrev pub is_device : List DeviceText → List ℕ → Bool
is_device devices name = list_any (λ device. bytes_eq name device.name) devices

-- the place of the state with this name, or the number itself
abbrev pub value_written : Kind → List (List ℕ) → List ℕ → Option ℕ
value_written (States n) states word = position (λ state. bytes_eq word state) states
value_written (Range low high) states word = number_of word

-- the value of the device that the word is
abbrev pub value_of : DeviceText → List ℕ → Option ℕ
value_of device word =
    option_and_then (λ v. if has_value device.kind v then Some v else None)
    (value_written device.kind device.states.items word)

-- the same of the device with this number
abbrev pub value_at : List DeviceText → ℕ → List ℕ → Option ℕ
value_at devices d word = option_and_then (λ device. value_of device word) (slice_get devices d)

-- the answer to a command that the word is: `-` to any, `/` to one with a guard, `.` to a write, a
-- value of its device to a read
abbrev pub answer_of : List DeviceText → Command → List ℕ → Option Answer
answer_of devices c word =
    if bytes_eq word (codes "-") then Some Down
    else (if not (is_always c.when) && bytes_eq word (codes "/") then Some Skipped
    else (if writes c.job then (if bytes_eq word (codes ".") then Some Fine else None)
    else option_map Found (value_at devices c.device.0 word)))
