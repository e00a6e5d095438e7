use Rattle.trial_scripts.proofs.Prelude.{[], ap, arith, map, map-append, map-range_with_len_more, plain_device, range_with_len, sym, trial_device, ◌++◌, ◌∙◌, ◌∷◌}
use Rattle.trial_scripts.proofs.devices.make_devices.Goals as goal

pub devices-preserved : goal.devices-preserved
devices-preserved c =
    let device = c.in_ok-make_device.field-0 in
    ap (map plain_device) c.in_ok-push.ensures.ok
    ∙ map-append plain_device c.devices.devices.items (device ∷ [])
    ∙ ap (λ front. front ++ plain_device device ∷ []) c.devices.invariant
    ∙ ap (λ last. map trial_device (range_with_len 0 c.devices.number) ++ last ∷ []) c.in_ok-make_device.ensures
    ∙ sym (map-range_with_len_more trial_device 0 c.devices.number c.devices.number (omega arith))
