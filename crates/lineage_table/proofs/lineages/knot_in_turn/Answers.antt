use Rattle.lineage_table.proofs.Keeping.{tests_scheduled}
use Rattle.lineage_table.proofs.Knots.{before_cut, seen_list, seen_none, seen_waits}
use Rattle.lineage_table.proofs.lineages.knot_in_turn.Goals as goal
use Rattle.lineage_table.proofs.Prelude.{Access, Knot, [], ap, is_scheduled, some_scheduled, sym, ◌++◌, ◌||◌, ◌∙◌, ◌∷◌}

pub returns-then-eq-clause-waits : goal.returns-then-eq-clause-waits
returns-then-eq-clause-waits c =
    let i = c.accesses.invariant in
    i.3 ∙ ap some_scheduled (sym (before_cut c.args.r.0 c.args.accesses.now.pairs i.0 c.accesses.k-iterator c.next.new.self (c.in-Some.k, c.in-Some.access.now) i.1 c.in-Some.ensures.steps i.2 (sym c.eq.ensures ∙ c.if-eq.true)))

pub accesses-preserved-then-waits : goal.accesses-preserved-then-waits
accesses-preserved-then-waits c =
    let i = c.accesses.invariant in
    let q : Knot × Access = (c.in-Some.k, c.in-Some.access.now) in (
      i.0 ++ q ∷ [],
      seen_list c.args.accesses.now.pairs i.0 c.accesses.k-iterator c.next.new.self q i.1 c.in-Some.ensures.steps,
      seen_none c.args.r.0 i.0 q i.2 (sym c.eq.ensures ∙ c.if-eq.false),
      seen_waits i.0 q c.accesses.waits c.accesses.waits i.3 (c.if-waits.true ∙ ap (λ b. b || is_scheduled q.1.status) (sym c.if-waits.true)),
    )

pub accesses-preserved : goal.accesses-preserved
accesses-preserved c =
    let i = c.accesses.invariant in
    let q : Knot × Access = (c.in-Some.k, c.in-Some.access.now) in (
      i.0 ++ q ∷ [],
      seen_list c.args.accesses.now.pairs i.0 c.accesses.k-iterator c.next.new.self q i.1 c.in-Some.ensures.steps,
      seen_none c.args.r.0 i.0 q i.2 (sym c.eq.ensures ∙ c.if-eq.false),
      seen_waits i.0 q c.accesses.waits c.eq-waits.result i.3
          (c.eq-waits.ensures ∙ tests_scheduled c.in-Some.access.now.status ∙ ap (λ b. b || is_scheduled q.1.status) (sym c.if-waits.false)),
    )
