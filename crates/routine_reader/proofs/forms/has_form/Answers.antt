use Rattle.routine_reader.proofs.FormLemmas.{names-all}
use Rattle.routine_reader.proofs.forms.has_form.Goals as goal
use Rattle.routine_reader.proofs.Prelude.{Some, ap, as_object, false, knows, list_all, members_view, names_of, option_map_or, rules, view, ◌∙◌, ◌≡◌}

pub returns-in-Some : goal.returns-in-Some
returns-in-Some c =
    let entries = c.in-Some.members.now.entries in
    let same : Some (members_view entries) ≡ as_object (view c.args.value.now) = search rules in
    c.knows_all.ensures ∙ names-all c.args.form entries
    ∙ ap (λ o. option_map_or (λ members. list_all (knows c.args.form) (names_of members)) o false) same
