use Rattle.jit_scheduler.proofs.Prelude.{None, Some, WindowParts, subst, sym, touches, ◌∙◌}
use Rattle.home_types.specs.DeviceSets.{IsFirstFrom}
use Rattle.jit_scheduler.proofs.DeviceWalks.{first_one, none_left, passed_one}
use Rattle.jit_scheduler.proofs.denials.find_denial.Goals as goal

pub find_denier-requires-clause-device : goal.find_denier-requires-clause-device
find_denier-requires-clause-device c =
    let next =
    subst (λ (p : WindowParts). IsFirstFrom (touches p.runs c.args.r.0) c.devices.from.0 (Some c.in-Some.device.0)) c.s.view_is c.in-Some.ensures in
    c.requires.homed c.in-Some.device.0 next.1

pub returns-in-Some-find_denier : goal.returns-in-Some-find_denier
returns-in-Some-find_denier c =
    let next =
    subst (λ (p : WindowParts). IsFirstFrom (touches p.runs c.args.r.0) c.devices.from.0 (Some c.in-Some.device.0)) c.s.view_is c.in-Some.ensures in
    first_one c.args.s.now c.args.r.0 c.args.place
    c.devices.from.0 c.in-Some.device c.in-Some-find_denier.run' (c.requires.homed c.in-Some.device.0 next.1) next.1 (sym c.in-Some-find_denier.is ∙ c.find_denier.ensures) c.devices.invariant next.2

pub devices-preserved : goal.devices-preserved
devices-preserved c =
    let next =
    subst (λ (p : WindowParts). IsFirstFrom (touches p.runs c.args.r.0) c.devices.from.0 (Some c.in-Some.device.0)) c.s.view_is c.in-Some.ensures in
    passed_one c.args.s.now c.args.r.0 c.args.place
    c.devices.from.0 c.in-Some.device (sym c.in-None.is ∙ c.find_denier.ensures) c.devices.invariant next.2

pub returns : goal.returns
returns c =
    none_left c.args.s.now c.args.r.0 c.args.place
    c.devices.from.0 c.devices.invariant
    (subst (λ (p : WindowParts). IsFirstFrom (touches p.runs c.args.r.0) c.devices.from.0 None) c.s.view_is c.in_default.ensures)
