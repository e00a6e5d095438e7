use Rattle.hub_core.proofs.Prelude.{HomeIsKept, Some, Stand, false, get_or_from_slice_get, nowhere, rules, slice_get, slice_set, subst, ◌≡◌}
use Rattle.hub_core.proofs.FoundDevices.{lose_keeps}
use Rattle.hub_core.proofs.homes.Home.lose.Goals as goal

-- the home that is told that a device is lost is kept
pub invariant_of-self : goal.invariant_of-self
invariant_of-self g c =
    let D = g.D.Device in
    let world = c.self.inside.world.devices.items in
    let at : slice_get world c.args.d.0 ≡ Some c.unwrap.result.now = search rules in
    rw (c.set.ensures.items)
    (subst (λ (s : Stand). HomeIsKept D.shows (record {
      kinds = c.self.inside.kinds.items;
      world = slice_set world c.args.d.0 (record { value = s.value; up = false });
      devices = c.self.inside.devices.items;
      opened = c.self.inside.opened;
    })) (get_or_from_slice_get world c.args.d.0 c.unwrap.result.now nowhere at)
    (lose_keeps D.shows (record { kinds = c.self.inside.kinds.items; world = world; devices = c.self.inside.devices.items; opened = c.self.inside.opened }) c.args.d.0 c.self.invariant (search rules)))
