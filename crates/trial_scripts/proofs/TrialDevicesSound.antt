-- The devices of a trial are such as the format allows.
use Rattle.home_types.specs.Kinds.{kind_at}
use Rattle.trial_scripts.proofs.Prelude.{All, All-cons, All-nil, AreDifferent, IsSoundDevice, IsSoundDown, PlainDevice, Range, States, ap, arith, device_count, device_kinds, get_or-map-range_with_len, length, length-map-range_with_len, map, range_with_len, refl, subst, suc, sym, trial_device, trial_devices, zero, ℕ, ◌+◌, ◌<◌, ◌∙◌, ◌≡◌}
use Rattle.routine_reader.specs.Devices.{device_names}
use Rattle.std.proofs.lemmas.Simd.{map-map}
use Rattle.trial_scripts.proofs.TrialNames.{are_different, name_is}

device_is_sound : (number : ℕ) → number < 100 → IsSoundDevice (trial_device number)
device_is_sound number below =
    record {
      name = name_is 100 number refl below;
      kind = (refl, omega arith, omega arith);
      start = refl;
      few_downs = omega arith;
      downs = All-nil IsSoundDown;
    }

each_is_sound : (number count : ℕ) → number + count < 100 → All IsSoundDevice (map trial_device (range_with_len number count))
each_is_sound number zero below = All-nil IsSoundDevice
each_is_sound number (suc count) below =
    All-cons IsSoundDevice (trial_device number) (map trial_device (range_with_len (number + 1) count)) (device_is_sound number (omega (arith, below)))
    (each_is_sound (number + 1) count (omega (arith, below)))

pub devices_are_sound : All IsSoundDevice trial_devices
devices_are_sound = each_is_sound 0 device_count (omega arith)

pub devices_count : length trial_devices ≡ device_count
devices_count = length-map-range_with_len trial_device 0 device_count

pub names_of_devices : AreDifferent (device_names trial_devices)
names_of_devices = subst AreDifferent (sym (map-map (λ (device : PlainDevice). device.name) trial_device (range_with_len 0 device_count))) (are_different 100 device_count)

-- each of them has the values 0 to 999
pub kind_of_device : (d : ℕ) → d < device_count → kind_at (device_kinds trial_devices) d ≡ Range 0 999
kind_of_device d below =
    ap (λ kinds. kind_at kinds d) (map-map (λ (device : PlainDevice). device.kind) trial_device (range_with_len 0 device_count))
    ∙ get_or-map-range_with_len (λ number. (trial_device number).kind) 0 device_count d d (States 0) below (omega arith)
