use Rattle.hub_core.proofs.calls.NewDevices.{new_next}
use Rattle.hub_core.proofs.homes.build_devices.Goals as goal
use Rattle.hub_core.proofs.Prelude.{AreNew, IfSome, List, Option, Some, refl, subst, sym, take_all, ℕ, ◌∙◌, ◌≡◌}
use Rattle.routine_reader.specs.declared.scripts.DeviceText.{DeviceText}

-- no device yet
pub texts-init : goal.texts-init
texts-init g c = rw (c.new-devices.ensures.empty) (record { size = refl; each = λ d y t device_at text_at. absurd (cc) })

-- one more
pub texts-preserved : goal.texts-preserved
texts-preserved g c =
    new_next g.B.Dev.Device.shows
    c.args.script.now.devices.items c.texts.number c.text-item.result c.texts.devices.items c.push.new.self.items c.in_ok-device.device
    (rw (sym c.as_slice-text-items.ensures) c.texts-test.true)
    (rw (sym c.as_slice-text-items.ensures) c.text-item.is)
    c.in_ok-push.ensures.ok
    c.texts.invariant
    (record { own = record { tag_is = c.in_ok-device.ensures.tag; plan_is = λ p told. told_plan p told }; at_start = c.in_ok-device.ensures.stands; no_turns = c.in_ok-device.ensures.turns; no_probes = c.in_ok-device.ensures.probes; no_faults = c.in_ok-device.ensures.faults })
  where
    told_plan : (p : List (ℕ × ℕ)) → (g.B.Dev.Device.shows c.in_ok-device.device).plan ≡ Some p → p ≡ c.text-item.result.downs.items
    told_plan p told = subst (λ (o : Option (List (ℕ × ℕ))). IfSome o (λ t. t ≡ c.as_slice.result.now)) told c.in_ok-device.ensures.plan ∙ c.as_slice.ensures

-- all of them
pub returns : goal.returns
returns g c =
    let whole = take_all c.texts.number c.args.script.now.devices.items (rw (sym c.as_slice-text-items.ensures) c.texts-test.false) in
    subst (λ (texts : List DeviceText). AreNew g.B.Dev.Device.shows texts c.texts.devices.items) whole c.texts.invariant
