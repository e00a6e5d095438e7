use Rattle.lineage_table.proofs.Prelude.{IsDisciplined, ap, effective_writer, has_access, is_some, length, refl, subst, sym, values_of, ◌∙◌}
use Rattle.lineage_table.proofs.Keeping.{has_place, nothing_removed, removed_state, without_keeps, without_remove}
use Rattle.lineage_table.proofs.Knots.{at_now, none_placed, taken}
use Rattle.lineage_table.proofs.Writers.{keeps_removed, not_last}
use Rattle.lineage_table.proofs.lineages.Lineage.remove.Goals as goal

pub writer_of-self-inside-requires : goal.writer_of-self-inside-requires
writer_of-self-inside-requires c = λ stays.
    let r = c.args.r.0 in
    let ps = c.self.inside.accesses.pairs in
    let cut = c.in-Some.ensures in
    let at = at_now r c.in-Some.k ps cut c.kept_invariant.ensures c.args.self.now.accesses (ap (λ v. v.accesses) c.self.view_is) in
    let gone = ap values_of c.unlink.ensures.pairs ∙ taken r c.in-Some.k ps cut c.kept_invariant.ensures in
    keeps_removed _ c.args.self.now c.self.inside.writer c.self.view_is c.self.invariant c.args.r (length (values_of cut.front)) (values_of c.unlink.new.self.pairs) at gone (not_last c.args.r c.self.inside.writer c.ne-stays.result c.ne-stays.ensures stays)

pub invariant_of-self : goal.invariant_of-self
invariant_of-self c =
    let r = c.args.r.0 in
    let ps = c.self.inside.accesses.pairs in
    let cut = c.in-Some.ensures in
    let at = at_now r c.in-Some.k ps cut c.kept_invariant.ensures c.args.self.now.accesses (ap (λ v. v.accesses) c.self.view_is) in
    let gone = ap values_of c.unlink.ensures.pairs ∙ taken r c.in-Some.k ps cut c.kept_invariant.ensures in
    record {
      turns = subst IsDisciplined (sym (gone ∙ without_remove r (length (values_of cut.front)) (values_of ps) cut.access c.self.invariant.turns (at_now r c.in-Some.k ps cut c.kept_invariant.ensures (values_of ps) refl))) (without_keeps (values_of ps) r c.self.invariant.turns);
      last = c.writer_of-self-inside.ensures;
    }

pub returns-in-None-clause-found : goal.returns-in-None-clause-found
returns-in-None-clause-found c = sym (sym (ap (λ v. has_access c.args.r.0 v.accesses) c.self.view_is) ∙ c.in-None.ensures)

pub returns-in-None-clause-left : goal.returns-in-None-clause-left
returns-in-None-clause-left c = nothing_removed c.args.self.now c.args.r.0 (none_placed c.args.r.0 c.args.self.now.accesses (sym (ap (λ v. has_access c.args.r.0 v.accesses) c.self.view_is) ∙ c.in-None.ensures))

pub returns-in-Some-clause-found : goal.returns-in-Some-clause-found
returns-in-Some-clause-found c =
    let r = c.args.r.0 in
    let ps = c.self.inside.accesses.pairs in
    let cut = c.in-Some.ensures in
    let at = at_now r c.in-Some.k ps cut c.kept_invariant.ensures c.args.self.now.accesses (ap (λ v. v.accesses) c.self.view_is) in
    let gone = ap values_of c.unlink.ensures.pairs ∙ taken r c.in-Some.k ps cut c.kept_invariant.ensures in
    sym (has_place r c.args.self.now.accesses ∙ ap is_some at)

pub returns-in-Some-clause-left : goal.returns-in-Some-clause-left
returns-in-Some-clause-left c =
    let r = c.args.r.0 in
    let ps = c.self.inside.accesses.pairs in
    let cut = c.in-Some.ensures in
    let at = at_now r c.in-Some.k ps cut c.kept_invariant.ensures c.args.self.now.accesses (ap (λ v. v.accesses) c.self.view_is) in
    let gone = ap values_of c.unlink.ensures.pairs ∙ taken r c.in-Some.k ps cut c.kept_invariant.ensures in
    removed_state _ c.args.self.now r (length (values_of cut.front)) _ cut.access (values_of c.unlink.new.self.pairs) c.self.view_is c.self.invariant.turns at gone c.unlink.ensures.spare
