use Rattle.routine_reader.proofs.GivenLemmas.{kept-last, known-middle}
use Rattle.routine_reader.proofs.commands.given_members.Goals as goal
use Rattle.routine_reader.proofs.Prelude.{Entry, [], ap, append_assoc, command_form, false, knows, list_all, members_view, names_of, rules, string_bytes, string_cmp, subst, sym, true, view, with_member, ◌&&◌, ◌++◌, ◌∙◌, ◌∷◌, ◌≡◌}
use Rattle.std.specs.List.Sorted.{IsStrictlySortedBy}
use Rattle.std.specs.Map.{keys_of}

pub returns-then-not-keep-clause-known : goal.returns-then-not-keep-clause-known
returns-then-not-keep-clause-known c =
    let done = c.members.invariant.0 in
    let e : Entry = (c.in-Some.name.now, c.in-Some.value.now) in
    let left = c.next.new.self in
    let all : c.args.members.now.entries ≡ done ++ e ∷ left = c.members.invariant.1 ∙ ap (λ es. done ++ es) c.in-Some.ensures.steps in
    let unknown : false ≡ knows (command_form c.args.version) (string_bytes e.0) = search rules in
    rw all (sym (known-middle (command_form c.args.version) done e left c.members.invariant.2 ∙ ap (λ b. b && list_all (knows (command_form c.args.version)) (names_of (members_view left))) (sym unknown)))

pub members-preserved : goal.members-preserved
members-preserved c =
    let done = c.members.invariant.0 in
    let e : Entry = (c.in-Some.name.now, c.in-Some.value.now) in
    let left = c.next.new.self in
    let all : c.args.members.now.entries ≡ done ++ e ∷ left = c.members.invariant.1 ∙ ap (λ es. done ++ es) c.in-Some.ensures.steps in
    let ordered : IsStrictlySortedBy string_cmp (keys_of (done ++ e ∷ left)) = subst (λ es. IsStrictlySortedBy string_cmp (keys_of es)) all c.iter-name-items.ensures.ordered in
    let known : knows (command_form c.args.version) (string_bytes e.0) ≡ true = search rules in (
      done ++ e ∷ [],
      all ∙ sym (append_assoc done (e ∷ []) left),
      known-middle (command_form c.args.version) done e [] c.members.invariant.2 ∙ ap (λ b. b && true) known,
      search rules ∙ ap (with_member (string_bytes e.0) (view e.1)) c.members.invariant.3 ∙ kept-last c.args.version done e left ordered known,
    )
