use Rattle.chain_arena.proofs.Places.{emptied_in}
use Rattle.chain_arena.proofs.Prelude.{arith, refl, slice_get_within, sym, ◌+◌, ◌∙◌}
use Rattle.chain_arena.proofs.links.Links.empty.Goals as goal

pub returns : goal.returns
returns g c =
    let s = c.args.self.now in
    let n = c.get_mut-node.result.now in
    let within = slice_get_within s.block.items c.args.place n c.get_mut-node.ensures.value in
    emptied_in s c.args.place n (record { left = n.left; right = s.free; value = c.replace.new.dest }) c.get_mut-node.ensures.value (λ e. omega (arith, within, c.requires.few, e))
    c.in-Some.item (s.spare + 1) (sym c.replace.ensures.value ∙ c.in-Some.is) refl refl c.replace.ensures.after refl
