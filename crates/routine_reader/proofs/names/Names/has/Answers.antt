use Rattle.routine_reader.proofs.NameLemmas.{any-map}
use Rattle.routine_reader.proofs.names.Names.has.Goals as goal
use Rattle.routine_reader.proofs.Prelude.{ap, bytes_eq, list_any, sym, ◌∙◌}

pub returns : goal.returns
returns c =
    let same = bytes_eq c.args.name.now in
    c.contains.ensures ∙ sym (any-map (λ name. name.now) same c.self.inside.names.keys) ∙ ap (list_any same) c.self.view_is
