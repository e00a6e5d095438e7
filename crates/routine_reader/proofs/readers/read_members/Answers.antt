use Rattle.routine_reader.proofs.Prelude.{DayMembers, length, length-map, map, most_devices, most_routines, most_windows, rules, view, ◌≤◌}
use Rattle.routine_reader.proofs.ScriptSound.{answer-sound}
use Rattle.routine_reader.proofs.readers.read_members.Goals as goal

pub returns-clause-sound : goal.returns-clause-sound
returns-clause-sound c =
    let given = c.args.members.now in
    let members : DayMembers = record { version = given.version; devices = map view given.devices.now; routines = map view given.routines.now; windows = map view given.windows.now } in
    let devices : length members.devices ≤ most_devices = rw (length-map given.devices.now view) (search rules) in
    let routines : length members.routines ≤ most_routines = rw (length-map given.routines.now view) (search rules) in
    let windows : length members.windows ≤ most_windows = rw (length-map given.windows.now view) (search rules) in
    answer-sound c.read_parts.result members devices routines windows c.read_parts.ensures.reading c.read_parts.ensures.in_range
