use Rattle.lineage_table.proofs.Prelude.{Access, IsDisciplined, accesses_before, ap, effective_writer, has_access, length, not, refl, slice_set, some_scheduled, subst, sym, values_of, ◌∙◌}
use Rattle.lineage_table.proofs.Keeping.{answers, changed_state, found_to_answer}
use Rattle.lineage_table.proofs.Knots.{at_now, read_in_place, set_in_place}
use Rattle.lineage_table.proofs.Writers.{keeps_changed, keeps_written}
use Rattle.lineage_table.proofs.lineages.Lineage.note.Goals as goal
use Rattle.lineage_table.proofs.lineages.Lineage.note.Goals.{in-None, in-Some}
use Rattle.lineage_table.specs.Answers.{answered_access}
use Rattle.std.specs.Option.{option_or}

pub knot_in_turn-waits-requires : goal.knot_in_turn-waits-requires
knot_in_turn-waits-requires c = ap (λ v. has_access c.args.r.0 v.accesses) c.self.view_is ∙ found_to_answer c.args.r.0 c.args.self.now.accesses c.requires

pub returns-then-waits-clause-turn : goal.returns-then-waits-clause-turn
returns-then-waits-clause-turn c =
    ap not (sym c.if-waits.true ∙ c.knot_in_turn-waits.ensures.waits ∙ ap (λ v. some_scheduled (accesses_before c.args.r.0 v.accesses)) c.self.view_is)

pub writer_with-self-inside-requires : goal.writer_with-self-inside-requires
writer_with-self-inside-requires c = λ only.
    let r = c.args.r.0 in
    let ps = c.self.inside.accesses.pairs in
    let cut = c.knot_in_turn-waits.ensures.knot in
    let x = c.get_mut-access.result.now in
    let i = length (values_of cut.front) in
    let at = at_now r c.knot_in_turn-waits.result.0 ps cut c.kept_invariant.ensures c.args.self.now.accesses (ap (λ v. v.accesses) c.self.view_is) in
    let is = read_in_place r c.knot_in_turn-waits.result.0 ps cut c.kept_invariant.ensures x c.get_mut-access.ensures.value in
    keeps_written _ c.args.self.now c.self.inside.writer c.self.view_is c.self.invariant c.args.r i c.in-Some.field-0 x (answered_access c.args.view c.args.wrote c.args.is_last) at is (λ y. ap (λ o. option_or o y.wrote) c.in-Some.is) (λ y. refl) only
    ∙ sym (ap effective_writer (set_in_place r c.knot_in_turn-waits.result.0 ps cut c.kept_invariant.ensures c.answered.result ∙ ap (slice_set (values_of ps) i) c.answered.ensures))

pub invariant_of-self : goal.invariant_of-self
invariant_of-self c =
    let r = c.args.r.0 in
    let ps = c.self.inside.accesses.pairs in
    let cut = c.knot_in_turn-waits.ensures.knot in
    let x = c.get_mut-access.result.now in
    let i = length (values_of cut.front) in
    let at = at_now r c.knot_in_turn-waits.result.0 ps cut c.kept_invariant.ensures c.args.self.now.accesses (ap (λ v. v.accesses) c.self.view_is) in
    let is = read_in_place r c.knot_in_turn-waits.result.0 ps cut c.kept_invariant.ensures x c.get_mut-access.ensures.value in
    let set = set_in_place r c.knot_in_turn-waits.result.0 ps cut c.kept_invariant.ensures c.answered.result in
    record {
      turns = subst IsDisciplined (sym set) (answers _ c.args.self.now r i x c.answered.result c.self.view_is c.self.invariant.turns at is c.requires
          (sym (sym c.if-waits.false ∙ c.knot_in_turn-waits.ensures.waits ∙ ap (λ v. some_scheduled (accesses_before r v.accesses)) c.self.view_is)) (ap (λ (z : Access). z.run.0) c.answered.ensures));
      last = (
          elim c.match-wrote.branch [
            | in-Some w ↦ w.self-is ∙ w.writer_with-self-inside.ensures
            | in-None w ↦ w.self-is
                ∙ keeps_changed _ c.args.self.now c.self.inside.writer c.self.view_is c.self.invariant r i x (answered_access c.args.view c.args.wrote c.args.is_last) at is (λ y. ap (λ o. option_or o y.wrote) w.in-None.is) (λ y. refl)
                ∙ sym (ap effective_writer (set ∙ ap (slice_set (values_of ps) i) c.answered.ensures))
          ]
          );
    }

pub returns-clause-turn : goal.returns-clause-turn
returns-clause-turn c =
    ap not (sym c.if-waits.false ∙ c.knot_in_turn-waits.ensures.waits ∙ ap (λ v. some_scheduled (accesses_before c.args.r.0 v.accesses)) c.self.view_is)

pub returns-clause-noted : goal.returns-clause-noted
returns-clause-noted c =
    let r = c.args.r.0 in
    let ps = c.self.inside.accesses.pairs in
    let cut = c.knot_in_turn-waits.ensures.knot in
    let x = c.get_mut-access.result.now in
    let i = length (values_of cut.front) in
    let at = at_now r c.knot_in_turn-waits.result.0 ps cut c.kept_invariant.ensures c.args.self.now.accesses (ap (λ v. v.accesses) c.self.view_is) in
    let is = read_in_place r c.knot_in_turn-waits.result.0 ps cut c.kept_invariant.ensures x c.get_mut-access.ensures.value in
    ap (λ l. record { committed = c.self.inside.committed; accesses = l; room = c.self.inside.accesses.spare; up = c.self.inside.up }) (set_in_place r c.knot_in_turn-waits.result.0 ps cut c.kept_invariant.ensures c.answered.result ∙ ap (slice_set (values_of ps) i) c.answered.ensures)
    ∙ changed_state _ c.args.self.now r i x (answered_access c.args.view c.args.wrote c.args.is_last) c.self.view_is at is
