use Rattle.room_hubs.proofs.Parts.{parts}
use Rattle.room_hubs.proofs.laws.rooms_part.Goals as goal

pub returns : goal.returns
returns c room_of runs home size parted = parts room_of runs home size parted
