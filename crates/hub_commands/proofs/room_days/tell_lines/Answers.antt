use Rattle.hub_commands.proofs.RoomSteps.{last_split}
use Rattle.hub_commands.proofs.ToldLines.{lines_told}
use Rattle.hub_commands.proofs.room_days.tell_lines.Goals as goal
use Rattle.hub_commands.proofs.Prelude.{[], ap, arith, length, length-append, ◌∷◌}

pub last_lines-requires-clause-some : goal.last_lines-requires-clause-some
last_lines-requires-clause-some c =
    let split = last_split c.args.windows.now.items c.requires.some in
    let told = c.in-Ok.ensures split.0 split.1 split.2 in
    let size = ap (λ l. length l) told.2 in
    omega (arith, size, length-append c.args.told.now.items (told.0 ∷ []))

pub last_lines-requires-clause-few : goal.last_lines-requires-clause-few
last_lines-requires-clause-few c =
    let split = last_split c.args.windows.now.items c.requires.some in
    let told = c.in-Ok.ensures split.0 split.1 split.2 in
    let size = ap (λ l. length l) told.2 in
    let few = c.requires.few in
    omega (arith, size, few, length-append c.args.told.now.items (told.0 ∷ []))

pub returns-in-Ok : goal.returns-in-Ok
returns-in-Ok c before ws split =
    let told = c.in-Ok.ensures before ws split in
    lines_told c.args.script.now c.args.rooms.now.room_of.items c.args.mode ws.items c.args.told.now.items c.tell_last.new.told.items told.0 c.last_lines.result told.1 told.2 (c.last_lines.ensures c.args.told.now.items told.0 told.2)
