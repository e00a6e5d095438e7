use Rattle.routine_reader.proofs.NameLemmas.{position-map}
use Rattle.routine_reader.proofs.names.Names.place_of.Goals as goal
use Rattle.routine_reader.proofs.Prelude.{ap, bytes_eq, position, sym, ◌∙◌}

pub returns-clause-place : goal.returns-clause-place
returns-clause-place c =
    let same = bytes_eq c.args.name.now in
    c.get_index_of.ensures.index ∙ sym (position-map (λ name. name.now) same c.self.inside.names.keys) ∙ ap (position same) c.self.view_is
