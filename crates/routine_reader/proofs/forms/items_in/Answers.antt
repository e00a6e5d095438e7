use Rattle.routine_reader.proofs.FormLemmas.{items-list}
use Rattle.routine_reader.proofs.forms.items_in.Goals as goal
use Rattle.routine_reader.proofs.Prelude.{Some, ap, as_array, items_view, list_of, map, option_map, rules, sym, view, ◌∙◌, ◌≡◌}

pub returns-in-Some : goal.returns-in-Some
returns-in-Some c =
    let values = c.as_slice.result.now in
    let same : Some (items_view values) ≡ as_array (view c.args.value.now) = search rules in
    ap Some (sym (items-list (map view values))) ∙ ap (option_map list_of) same
