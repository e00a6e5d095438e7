use Rattle.chain_arena.proofs.Places.{right_set}
use Rattle.chain_arena.proofs.links.Links.set_right.Goals as goal
use Rattle.chain_arena.proofs.Prelude.{arith, refl}

pub returns-else-place-eq-NONE : goal.returns-else-place-eq-NONE
returns-else-place-eq-NONE g c =
    let n = c.get_mut.result.now in
    right_set c.args.self.now c.args.place n (record { left = n.left; right = c.args.to; value = n.value }) c.get_mut.ensures.value (λ e. omega (arith, c.if-place-eq-NONE.false, e)) refl refl
