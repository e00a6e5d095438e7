use Rattle.hub_commands.proofs.AskedRooms.{rooms_go}
use Rattle.hub_commands.proofs.rooms.room_command.Goals as goal
use Rattle.hub_commands.proofs.Prelude.{map, string_bytes}

pub run_room_day-requires-clause-goes : goal.run_room_day-requires-clause-goes
run_room_day-requires-clause-goes g c κs within = (rooms_go (map string_bytes c.args.words.now) c.in-Ok.mode c.in-Ok.ensures.meaning).0
