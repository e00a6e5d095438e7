use Rattle.hub_core.proofs.calls.ResumedHomes.{resumed_more}
use Rattle.hub_core.proofs.resumed_homes.resume_devices.Goals as goal
use Rattle.hub_core.proofs.Prelude.{stand_at, subst, sym}
use Rattle.legal_days.specs.ResumedDays.{IsDeviceResumed}

-- one more
pub texts-preserved : goal.texts-preserved
texts-preserved g c =
    let D = g.B.Dev.Device in
    rw (c.in_ok-push.ensures.ok, c.in_ok-push-2.ensures.ok)
    (resumed_more D.shows c.args.script.now.devices.items c.args.world.now.devices.items c.texts.place c.texts.stands.items c.texts.devices.items
    c.text-item.result c.in_ok-device.stand c.in_ok-device.device c.texts.invariant
    (rw (sym c.as_slice-text-items.ensures) c.texts-test.true)
    (rw (sym c.as_slice-text-items.ensures) c.text-item.is)
    (subst (λ before. IsDeviceResumed D.shows c.text-item.result c.texts.place (stand_at before c.texts.place) c.in_ok-device.stand c.in_ok-device.device)
    c.as_slice-stood.ensures c.in_ok-device.ensures))
