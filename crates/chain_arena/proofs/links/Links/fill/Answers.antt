use Rattle.chain_arena.proofs.Places.{filled_in, free_within}
use Rattle.chain_arena.proofs.links.Links.fill.Goals as goal
use Rattle.chain_arena.proofs.Prelude.{arith, refl}
use Rattle.std.proofs.Common.{◌-◌}

pub returns : goal.returns
returns g c =
    let s = c.args.self.now in
    let n = c.get_mut-node.result.now in
    let within = free_within s s.spare s.free c.requires.room c.requires.free in
    filled_in s s.free n (record { left = n.left; right = n.right; value = c.replace.new.dest }) c.get_mut-node.ensures.value (λ e. omega (arith, within, c.requires.few, e))
    c.args.item n.right (s.spare - 1) refl refl refl c.replace.ensures.after refl (omega (arith, c.requires.room))
