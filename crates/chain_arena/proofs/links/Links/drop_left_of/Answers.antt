use Rattle.chain_arena.proofs.Drops.{HeadGone, head_gone}
use Rattle.chain_arena.proofs.links.Links.drop_left_of.Goals as goal
use Rattle.chain_arena.proofs.Prelude.{ap, arith, from_knot, has_knot, left, length, pairs_of, refl, right, ◌∙◌}

pub left-smaller : goal.left-smaller
left-smaller g c =
    let s = c.left.self in
    let gone : HeadGone (pairs_of s) s.first c.args.place = head_gone (right s) (left s) (pairs_of s) s.first c.args.place c.left.invariant.0.joined refl c.left.invariant.0.apart c.left.invariant.1 (λ e. omega (arith, c.left-test.true, e)) in
    omega (arith, ap length c.unlink-value.ensures.pairs, gone.less)

pub left-preserved : goal.left-preserved
left-preserved g c =
    let s = c.left.self in
    let gone : HeadGone (pairs_of s) s.first c.args.place = head_gone (right s) (left s) (pairs_of s) s.first c.args.place c.left.invariant.0.joined refl c.left.invariant.0.apart c.left.invariant.1 (λ e. omega (arith, c.left-test.true, e)) in
    let pairs = c.unlink-value.ensures.pairs in (
      c.unlink-value.ensures.linked,
      ap (has_knot c.args.place) pairs ∙ gone.still,
      ap (from_knot c.args.place) pairs ∙ gone.same ∙ c.left.invariant.2,
      omega (arith, ap length pairs, gone.less, c.unlink-value.ensures.spare, c.left.invariant.3),
    )
