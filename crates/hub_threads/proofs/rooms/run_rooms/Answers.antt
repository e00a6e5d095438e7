use Rattle.hub_threads.proofs.Prelude.{IfOk, IsRoomWorked, List, NoMemory, Result, RoomDone, RoomHub, ap, get_or, length, subst, ℕ, ◌<◌, ◌∙◌}
use Rattle.hub_threads.proofs.RoomAnswers.{rooms_worked}
use Rattle.hub_threads.proofs.rooms.run_rooms.Goals as goal

pub returns-in-Ok-run_all : goal.returns-in-Ok-run_all
returns-in-Ok-run_all g c =
    let D = g.D.Device in
    let earliest = g.C.Clock.earliest c.args.clock.now in
    let latest = g.C.Clock.latest c.args.clock.now in
    let answers = c.in-Ok-run_all.answers.items in
    rooms_worked D.shows earliest latest c.args.hubs.items answers c.gather.result c.gather.ensures
    (c.in-Ok-run_all.ensures.len ∙ ap (λ l. length l) c.in-Ok.ensures)
    (subst (λ js. (i : ℕ) (d : _) (e : _) → i < length js → IfOk (get_or answers i d) (λ done. IsRoomWorked D.shows earliest latest (get_or js i e) done))
    c.in-Ok.ensures c.in-Ok-run_all.ensures.each)
