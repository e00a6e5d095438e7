use Rattle.lineage_table.proofs.Prelude.{IsSome, Some, ap, has_access, length, rules, subst, sym, values_of, ℕ, ◌∙◌, ◌≡◌}
use Rattle.lineage_table.proofs.Knots.{at_now, read_in_place}
use Rattle.lineage_table.proofs.Writers.{has_stood, stood_committed, stood_there}
use Rattle.lineage_table.proofs.lineages.Lineage.stand.Goals as goal

pub knot-k-requires : goal.knot-k-requires
knot-k-requires c = ap (λ v. has_access c.in-Some.r.0 v.accesses) c.self.view_is ∙ has_stood _ c.args.self.now c.self.inside.writer c.self.view_is c.self.invariant c.in-Some.r c.in-Some.is

pub unwrap-requires : goal.unwrap-requires
unwrap-requires c =
    let ps = c.self.inside.accesses.pairs in
    let cut = c.knot-k.ensures in
    let at = at_now c.in-Some.r.0 c.knot-k.result ps cut c.kept_invariant.ensures c.args.self.now.accesses (ap (λ v. v.accesses) c.self.view_is) in
    let is = read_in_place c.in-Some.r.0 c.knot-k.result ps cut c.kept_invariant.ensures c.get.result.now c.get.ensures in
    subst IsSome (sym (stood_there _ c.args.self.now c.self.inside.writer c.self.view_is c.self.invariant c.in-Some.r (length (values_of cut.front)) c.get.result.now c.in-Some.is at is)) (search rules)

pub returns-in-Some : goal.returns-in-Some
returns-in-Some c =
    let ps = c.self.inside.accesses.pairs in
    let cut = c.knot-k.ensures in
    let at = at_now c.in-Some.r.0 c.knot-k.result ps cut c.kept_invariant.ensures c.args.self.now.accesses (ap (λ v. v.accesses) c.self.view_is) in
    let is = read_in_place c.in-Some.r.0 c.knot-k.result ps cut c.kept_invariant.ensures c.get.result.now c.get.ensures in
    same (sym c.unwrap.ensures ∙ stood_there _ c.args.self.now c.self.inside.writer c.self.view_is c.self.invariant c.in-Some.r (length (values_of cut.front)) c.get.result.now c.in-Some.is at is)
  where
    same : {a b : ℕ} → Some a ≡ Some b → a ≡ b
    same e = cc

pub returns-in-None : goal.returns-in-None
returns-in-None c = stood_committed _ c.args.self.now c.self.inside.writer c.self.view_is c.self.invariant c.in-None.is
