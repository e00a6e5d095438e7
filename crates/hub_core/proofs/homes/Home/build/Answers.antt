use Rattle.hub_core.proofs.calls.NewHomes.{new_home}
use Rattle.hub_core.proofs.homes.Home.build.Goals as goal

-- src/homes.rt:54:9
pub invariant_of-result : goal.invariant_of-result
invariant_of-result g c = new_home g.D.Device.shows c.args.script.now _ _ _ c.requires.sound c.in_ok-devices.ensures c.in_ok-kinds.ensures.kinds c.in_ok-world.ensures
