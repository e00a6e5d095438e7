use Rattle.room_hubs.proofs.SoundRuns.{split_parts}
use Rattle.room_hubs.proofs.laws.split_parts.Goals as goal

pub returns : goal.returns
returns c script window all sound is = split_parts script window all sound is
