use Rattle.hub_core.proofs.FoundDevices.{restand_keeps}
use Rattle.hub_core.proofs.homes.Home.restand.Goals as goal
use Rattle.hub_core.proofs.Prelude.{rules}

-- the home that is told where a device was found is kept
pub invariant_of-self : goal.invariant_of-self
invariant_of-self g c =
    let D = g.D.Device in
    rw (c.set.ensures.items, c.set-2.ensures.items) (restand_keeps D.shows (record { kinds = c.self.inside.kinds.items; world = c.self.inside.world.devices.items; devices = c.self.inside.devices.items; opened = c.self.inside.opened })
    c.args.d.0 c.args.device c.args.value c.self.invariant (search rules) (search rules) c.requires.stands c.requires.tag (search rules))
