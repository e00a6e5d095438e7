use Rattle.room_hubs.proofs.Prelude.{DeviceNo, DeviceText, List, ap, arith, map, no_device_text, plain_device, slice_index_or, sym, ℕ, ◌∙◌}
use Rattle.room_hubs.proofs.Loops.{all_mapped, map_map}
use Rattle.room_hubs.proofs.scripts.copy_devices.Goals as goal

pub returns : goal.returns
returns c =
    let devices : List DeviceText = c.args.devices.now in
    let numbers : List DeviceNo = c.args.numbers.now in
    let at : ℕ → DeviceText = λ d. slice_index_or devices d no_device_text in
    c.numbers.invariant ∙ all_mapped (λ (n : DeviceNo). plain_device (at n.0)) numbers c.numbers.number-index (omega (arith, c.numbers-test.false))
    ∙ sym (map_map plain_device (λ (n : DeviceNo). at n.0) numbers)
    ∙ ap (map plain_device) (sym (map_map at (λ (n : DeviceNo). n.0) numbers))
