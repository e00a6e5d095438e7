use Rattle.lineage_table.proofs.Prelude.{Access, Knot, LineageState, ap, fold, if◌then◌else◌, is_of, rules, unwrap_or, ◌∙◌, ◌≡◌}
use Rattle.lineage_table.proofs.Knots.{fold_values}
use Rattle.lineage_table.proofs.Standing.{passing_stands}
use Rattle.lineage_table.proofs.lineages.Lineage.stand_without.Goals as goal

pub returns : goal.returns
returns c =
    let passed : c.fold.result ≡ fold (λ value (p : Knot × Access). if is_of c.args.r.0 p.1 then value else unwrap_or p.1.wrote value) c.self.inside.committed c.self.inside.accesses.pairs = search rules in
    passed
    ∙ fold_values (λ value x. if is_of c.args.r.0 x then value else unwrap_or x.wrote value) c.self.inside.committed c.self.inside.accesses.pairs
    ∙ ap (λ (s : LineageState). fold (λ value x. if is_of c.args.r.0 x then value else unwrap_or x.wrote value) s.committed s.accesses) c.self.view_is
    ∙ passing_stands c.args.r.0 c.args.self.now.committed c.args.self.now.accesses
