use Rattle.lineage_table.proofs.Prelude.{Access, IsDisciplined, None, ap, effective_writer, has_access, length, subst, sym, values_of, ◌∙◌}
use Rattle.lineage_table.proofs.Keeping.{changed_state, nothing_changed, writes}
use Rattle.lineage_table.proofs.Knots.{at_now, none_placed, read_in_place, set_in_place}
use Rattle.lineage_table.proofs.Writers.{keeps_undone, not_last}
use Rattle.lineage_table.proofs.lineages.Lineage.undone.Goals as goal

pub writer_of-self-inside-requires : goal.writer_of-self-inside-requires
writer_of-self-inside-requires c = λ another.
    let r = c.args.r.0 in
    let ps = c.self.inside.accesses.pairs in
    let cut = c.in-Some.ensures in
    let x = c.get_mut.result.now in
    let i = length (values_of cut.front) in
    let at = at_now r c.in-Some.k ps cut c.kept_invariant.ensures c.args.self.now.accesses (ap (λ v. v.accesses) c.self.view_is) in
    let is = read_in_place r c.in-Some.k ps cut c.kept_invariant.ensures x c.get_mut.ensures.value in
    keeps_undone _ c.args.self.now c.self.inside.writer c.self.view_is c.self.invariant c.args.r i x at is (not_last c.args.r c.self.inside.writer c.ne-of_another.result c.ne-of_another.ensures another)
    ∙ sym (ap effective_writer (set_in_place r c.in-Some.k ps cut c.kept_invariant.ensures ((λ (z : Access). record z { wrote = None }) x)))

pub invariant_of-self : goal.invariant_of-self
invariant_of-self c =
    let r = c.args.r.0 in
    let ps = c.self.inside.accesses.pairs in
    let cut = c.in-Some.ensures in
    let x = c.get_mut.result.now in
    let i = length (values_of cut.front) in
    let at = at_now r c.in-Some.k ps cut c.kept_invariant.ensures c.args.self.now.accesses (ap (λ v. v.accesses) c.self.view_is) in
    let is = read_in_place r c.in-Some.k ps cut c.kept_invariant.ensures x c.get_mut.ensures.value in
    record {
      turns = subst IsDisciplined (sym (set_in_place r c.in-Some.k ps cut c.kept_invariant.ensures (record x { wrote = None }))) (writes _ c.args.self.now r i x None c.self.view_is c.self.invariant.turns at is);
      last = c.writer_of-self-inside.ensures;
    }

pub returns-in-Some : goal.returns-in-Some
returns-in-Some c =
    let r = c.args.r.0 in
    let ps = c.self.inside.accesses.pairs in
    let cut = c.in-Some.ensures in
    let x = c.get_mut.result.now in
    let i = length (values_of cut.front) in
    let at = at_now r c.in-Some.k ps cut c.kept_invariant.ensures c.args.self.now.accesses (ap (λ v. v.accesses) c.self.view_is) in
    let is = read_in_place r c.in-Some.k ps cut c.kept_invariant.ensures x c.get_mut.ensures.value in
    ap (λ l. record { committed = c.self.inside.committed; accesses = l; room = c.self.inside.accesses.spare; up = c.self.inside.up }) (set_in_place r c.in-Some.k ps cut c.kept_invariant.ensures ((λ (z : Access). record z { wrote = None }) x))
    ∙ changed_state _ c.args.self.now r i x (λ (z : Access). record z { wrote = None }) c.self.view_is at is

pub returns-in_default : goal.returns-in_default
returns-in_default c =
    nothing_changed c.args.self.now c.args.r.0 (λ (z : Access). record z { wrote = None }) (none_placed c.args.r.0 c.args.self.now.accesses (sym (ap (λ v. has_access c.args.r.0 v.accesses) c.self.view_is) ∙ c.in_default.ensures))
