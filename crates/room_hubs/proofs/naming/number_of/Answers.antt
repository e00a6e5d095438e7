use Rattle.room_hubs.proofs.Names.{known_room, new_number, new_room}
use Rattle.room_hubs.proofs.naming.number_of.Goals as goal
use Rattle.routine_reader.specs.Names.{place_of}
use Rattle.room_hubs.proofs.Prelude.{[], ap, ◌++◌, ◌∙◌, ◌∷◌}

pub returns-in-Some-clause-names : goal.returns-in-Some-clause-names
returns-in-Some-clause-names c =
    known_room c.args.names.now.items c.args.room.now c.in-Some.place (c.in-Some.ensures.place ∙ ap (λ l. place_of l c.args.room.now) c.as_slice.ensures)

pub returns-in_ok-push-in-None-clause-number : goal.returns-in_ok-push-in-None-clause-number
returns-in_ok-push-in-None-clause-number c =
    c.len-next.ensures ∙ new_number c.args.names.now.items c.args.room.now (c.in-None.ensures.place ∙ ap (λ l. place_of l c.args.room.now) c.as_slice.ensures)

pub returns-in_ok-push-in-None-clause-names : goal.returns-in_ok-push-in-None-clause-names
returns-in_ok-push-in-None-clause-names c =
    let names = c.args.names.now.items in
    c.in_ok-push-in-None.ensures.ok ∙ ap (λ t. names ++ t ∷ []) c.in_ok-of-in-None.ensures
    ∙ new_room names c.args.room.now (c.in-None.ensures.place ∙ ap (λ l. place_of l c.args.room.now) c.as_slice.ensures)
