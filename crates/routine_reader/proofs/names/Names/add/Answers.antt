use Rattle.routine_reader.proofs.NameLemmas.{any-map}
use Rattle.routine_reader.proofs.names.Names.add.Goals as goal
use Rattle.routine_reader.proofs.names.Names.add.Goals.{in-Err, in-Ok}
use Rattle.routine_reader.proofs.Prelude.{[], ap, bytes_eq, false, if◌then◌else◌, list_any, map, map-append, sym, ◌++◌, ◌∙◌, ◌∷◌, ◌≡◌}

pub returns : goal.returns
returns c =
    let ks = c.self.inside.names.keys in
    let none : list_any (bytes_eq c.args.name.now) (map (λ name. name.now) ks) ≡ false =
    ap (list_any (bytes_eq c.args.name.now)) c.self.view_is ∙ c.requires in
    let absent : list_any (λ k. bytes_eq c.args.name.now k.now) ks ≡ false =
    sym (any-map (λ name. name.now) (bytes_eq c.args.name.now) ks) ∙ none in
    elim c.match-insert.branch [
      | in-Ok w ↦ rw w.result-is
          (ap (map (λ name. name.now)) (w.in-Ok.ensures.keys ∙ ap (λ b. if b then ks else ks ++ c.args.name ∷ []) absent)
          ∙ map-append (λ name. name.now) ks (c.args.name ∷ [])
          ∙ ap (λ names. names ++ c.args.name.now ∷ []) c.self.view_is)
      | in-Err w ↦ rw w.result-is tt
    ]
