use Rattle.room_hubs.proofs.Merges.{whole}
use Rattle.room_hubs.proofs.laws.merged.Goals as goal

pub returns : goal.returns
returns c rooms runs kinds home merge ok are = whole rooms runs kinds home ok merge are
