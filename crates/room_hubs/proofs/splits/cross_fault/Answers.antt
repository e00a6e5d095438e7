use Rattle.room_hubs.proofs.Prelude.{List, Run, ap, crosses, crosses_rooms, false, map, plain_run, sym, true, ◌∙◌}
use Rattle.room_hubs.proofs.Found.{fault_is, no_fault}
use Rattle.room_hubs.proofs.splits.cross_fault.Goals as goal
use Rattle.routine_reader.proofs.Cited.{position-map}

pub returns-then-crosses_rooms : goal.returns-then-crosses_rooms
returns-then-crosses_rooms c =
    let room_of = c.args.room_of.now in
    let runs : List Run = map plain_run c.args.runs.now in
    fault_is room_of runs c.in-Some.place true
    (c.in-Some.ensures.place ∙ sym (position-map plain_run (crosses room_of runs) c.args.runs.now))
    (ap (crosses_rooms room_of) (sym c.commands_of.ensures) ∙ sym c.crosses_rooms.ensures ∙ c.if-crosses_rooms.true)

pub returns-else-crosses_rooms : goal.returns-else-crosses_rooms
returns-else-crosses_rooms c =
    let room_of = c.args.room_of.now in
    let runs : List Run = map plain_run c.args.runs.now in
    fault_is room_of runs c.in-Some.place false
    (c.in-Some.ensures.place ∙ sym (position-map plain_run (crosses room_of runs) c.args.runs.now))
    (ap (crosses_rooms room_of) (sym c.commands_of.ensures) ∙ sym c.crosses_rooms.ensures ∙ c.if-crosses_rooms.false)

pub returns-in-None : goal.returns-in-None
returns-in-None c =
    let room_of = c.args.room_of.now in
    let runs : List Run = map plain_run c.args.runs.now in
    no_fault room_of runs (c.in-None.ensures.place ∙ sym (position-map plain_run (crosses room_of runs) c.args.runs.now))
