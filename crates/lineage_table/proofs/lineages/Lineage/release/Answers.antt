use Rattle.lineage_table.proofs.Prelude.{Access, Acquired, IsDisciplined, Released, Scheduled, Some, ap, effective_writer, has_access, length, refl, subst, sym, values_of, ◌∙◌}
use Rattle.lineage_table.proofs.Keeping.{changed_state, found_by_status, releases}
use Rattle.lineage_table.proofs.Knots.{at_now, read_in_place, set_in_place}
use Rattle.lineage_table.proofs.Writers.{keeps_changed}
use Rattle.lineage_table.proofs.lineages.Lineage.release.Goals as goal

pub knot-k-requires : goal.knot-k-requires
knot-k-requires c = ap (λ v. has_access c.args.r.0 v.accesses) c.self.view_is ∙ found_by_status c.args.r.0 c.args.self.now.accesses Acquired c.requires.acquired

pub invariant_of-self : goal.invariant_of-self
invariant_of-self c =
    let r = c.args.r.0 in
    let ps = c.self.inside.accesses.pairs in
    let cut = c.knot-k.ensures in
    let x = c.get_mut.result.now in
    let i = length (values_of cut.front) in
    let at = at_now r c.knot-k.result ps cut c.kept_invariant.ensures c.args.self.now.accesses (ap (λ v. v.accesses) c.self.view_is) in
    let is = read_in_place r c.knot-k.result ps cut c.kept_invariant.ensures x c.get_mut.ensures.value in
    let set = set_in_place r c.knot-k.result ps cut c.kept_invariant.ensures ((λ (z : Access). record z { status = Released }) x) in
    record {
      turns = subst IsDisciplined (sym set) (releases _ c.args.self.now r i x c.self.view_is c.self.invariant.turns at is c.requires.acquired);
      last = keeps_changed _ c.args.self.now c.self.inside.writer c.self.view_is c.self.invariant r i x (λ (z : Access). record z { status = Released }) at is (λ z. refl) (λ z. refl) ∙ sym (ap effective_writer set);
    }

pub returns : goal.returns
returns c =
    let r = c.args.r.0 in
    let ps = c.self.inside.accesses.pairs in
    let cut = c.knot-k.ensures in
    let x = c.get_mut.result.now in
    let i = length (values_of cut.front) in
    let at = at_now r c.knot-k.result ps cut c.kept_invariant.ensures c.args.self.now.accesses (ap (λ v. v.accesses) c.self.view_is) in
    let is = read_in_place r c.knot-k.result ps cut c.kept_invariant.ensures x c.get_mut.ensures.value in
    ap (λ l. record { committed = c.self.inside.committed; accesses = l; room = c.self.inside.accesses.spare; up = c.self.inside.up }) (set_in_place r c.knot-k.result ps cut c.kept_invariant.ensures ((λ (z : Access). record z { status = Released }) x))
    ∙ changed_state _ c.args.self.now r i x (λ (z : Access). record z { status = Released }) c.self.view_is at is
