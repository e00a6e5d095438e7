use Rattle.hub_core.proofs.calls.ResumedHomes.{driven_once, kept_resumed, left_resumed, never_probed, state_resumed}
use Rattle.hub_core.proofs.homes.Home.resume.Goals as goal

-- the home is as every home is kept
pub invariant_of-result : goal.invariant_of-result
invariant_of-result g c =
    let D = g.D.Device in
    kept_resumed D.shows c.args.script.now c.args.world.now.devices.items c.in_ok-devices.world.devices.items c.in_ok-devices.devices.items
    c.requires.world c.in_ok-devices.ensures c.in_ok-kinds.kinds.items c.requires.sound c.in_ok-kinds.ensures.kinds

pub returns-clause-world : goal.returns-clause-world
returns-clause-world g c =
    let D = g.D.Device in
    state_resumed D.shows c.args.script.now c.args.world.now.devices.items c.in_ok-devices.world.devices.items c.in_ok-devices.devices.items
    c.requires.world c.in_ok-devices.ensures

pub returns-clause-devices : goal.returns-clause-devices
returns-clause-devices g c =
    let D = g.D.Device in
    left_resumed D.shows c.args.script.now c.args.world.now.devices.items c.in_ok-devices.world.devices.items c.in_ok-devices.devices.items
    c.requires.world c.in_ok-devices.ensures

pub returns-clause-driven : goal.returns-clause-driven
returns-clause-driven g c =
    let D = g.D.Device in
    driven_once D.shows c.args.script.now c.args.world.now.devices.items c.in_ok-devices.world.devices.items c.in_ok-devices.devices.items
    c.requires.world c.in_ok-devices.ensures

pub returns-clause-unprobed : goal.returns-clause-unprobed
returns-clause-unprobed g c =
    let D = g.D.Device in
    never_probed D.shows c.args.script.now c.args.world.now.devices.items c.in_ok-devices.world.devices.items c.in_ok-devices.devices.items
    c.requires.world c.in_ok-devices.ensures
