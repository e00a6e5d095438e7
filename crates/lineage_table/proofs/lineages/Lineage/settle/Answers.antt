use Rattle.chain_arena.proofs.Cited.{length_values}
use Rattle.lineage_table.proofs.Prelude.{IsDisciplined, None, ap, arith, false, has_access, has_knot, if◌then◌else◌, length, length-drop, subst, sym, true, value_at, values_of, without, ◌+◌, ◌∙◌}
use Rattle.lineage_table.proofs.Keeping.{drop_keeps, found_by_value, settled_state, wrote_there}
use Rattle.lineage_table.proofs.Knots.{at_now, left, left_has, left_length, left_value, read_in_place}
use Rattle.lineage_table.proofs.Writers.{keeps_settled, tests_writer}
use Rattle.lineage_table.proofs.lineages.Lineage.settle.Goals as goal
use Rattle.lineage_table.proofs.lineages.Lineage.settle.Goals.{else-eq, then-eq}

pub knot-k-requires : goal.knot-k-requires
knot-k-requires c = ap (λ v. has_access c.args.r.0 v.accesses) c.self.view_is ∙ found_by_value c.args.r.0 c.args.self.now.accesses c.requires.wrote

pub unlink-requires : goal.unlink-requires
unlink-requires c = record { there = ap (has_knot c.knot-k.result.0) c.drop_left_of.ensures.pairs ∙ left_has c.args.r.0 c.knot-k.result c.self.inside.accesses.pairs c.knot-k.ensures c.kept_invariant.ensures }

pub unwrap-self-inside-requires : goal.unwrap-self-inside-requires
unwrap-self-inside-requires c =
    let r = c.args.r.0 in
    let ps = c.self.inside.accesses.pairs in
    let k = c.knot-k.result in
    let cut = c.knot-k.ensures in
    let i = length (values_of cut.front) in
    let x = c.unlink.result in
    let at = at_now r k ps cut c.kept_invariant.ensures c.args.self.now.accesses (ap (λ v. v.accesses) c.self.view_is) in
    let read = sym (left_value r k ps cut c.kept_invariant.ensures) ∙ sym (ap (value_at k.0) c.drop_left_of.ensures.pairs) ∙ c.unlink.ensures.value in
    let is = read_in_place r k ps cut c.kept_invariant.ensures x read in
    wrote_there _ c.args.self.now r i x c.self.view_is at is c.requires.wrote

pub invariant_of-self : goal.invariant_of-self
invariant_of-self c =
    let r = c.args.r.0 in
    let ps = c.self.inside.accesses.pairs in
    let k = c.knot-k.result in
    let cut = c.knot-k.ensures in
    let i = length (values_of cut.front) in
    let x = c.unlink.result in
    let at = at_now r k ps cut c.kept_invariant.ensures c.args.self.now.accesses (ap (λ v. v.accesses) c.self.view_is) in
    let read = sym (left_value r k ps cut c.kept_invariant.ensures) ∙ sym (ap (value_at k.0) c.drop_left_of.ensures.pairs) ∙ c.unlink.ensures.value in
    let is = read_in_place r k ps cut c.kept_invariant.ensures x read in
    let gone = ap values_of (c.unlink.ensures.pairs ∙ ap (without k.0) c.drop_left_of.ensures.pairs) in
    let left_is = gone ∙ left r k ps cut c.kept_invariant.ensures in
    record {
      turns = subst IsDisciplined (sym left_is) (drop_keeps (values_of ps) (i + 1) c.self.invariant.turns);
      last = (
          elim c.if-eq.branch [
            | then-eq w ↦ w.self-is ∙ sym (ap (λ b. if b then None else c.self.inside.writer) (tests_writer c.args.r c.self.inside.writer true w.if-eq.ensures))
            | else-eq w ↦ w.self-is ∙ sym (ap (λ b. if b then None else c.self.inside.writer) (tests_writer c.args.r c.self.inside.writer false w.if-eq.ensures))
          ]
          ) ∙ keeps_settled _ c.args.self.now c.self.inside.writer c.self.view_is c.self.invariant c.args.r i c.unwrap-self-inside.result x (values_of c.unlink.new.self.pairs) at is c.unwrap-self-inside.ensures left_is;
    }

pub returns : goal.returns
returns c =
    let r = c.args.r.0 in
    let ps = c.self.inside.accesses.pairs in
    let k = c.knot-k.result in
    let cut = c.knot-k.ensures in
    let i = length (values_of cut.front) in
    let x = c.unlink.result in
    let at = at_now r k ps cut c.kept_invariant.ensures c.args.self.now.accesses (ap (λ v. v.accesses) c.self.view_is) in
    let read = sym (left_value r k ps cut c.kept_invariant.ensures) ∙ sym (ap (value_at k.0) c.drop_left_of.ensures.pairs) ∙ c.unlink.ensures.value in
    let is = read_in_place r k ps cut c.kept_invariant.ensures x read in
    let gone = ap values_of (c.unlink.ensures.pairs ∙ ap (without k.0) c.drop_left_of.ensures.pairs) in
    let left_is = gone ∙ left r k ps cut c.kept_invariant.ensures in
    let fewer = left_length r k ps cut c.kept_invariant.ensures in
    settled_state _ c.args.self.now r i _ c.unwrap-self-inside.result x (values_of c.unlink.new.self.pairs) c.self.view_is at is c.unwrap-self-inside.ensures left_is
    (omega (arith, c.unlink.ensures.spare, c.drop_left_of.ensures.room, ap length c.drop_left_of.ensures.pairs, fewer, ap length gone, ap length left_is, length-drop (i + 1) (values_of ps), length_values ps))
