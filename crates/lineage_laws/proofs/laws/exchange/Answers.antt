use Rattle.lineage_laws.proofs.Prelude.{runs_of}
use Rattle.lineage_laws.proofs.Exchanges.{apart_exchange}
use Rattle.lineage_laws.proofs.laws.exchange.Goals as goal

pub returns : goal.returns
returns c = apart_exchange (runs_of c.args.roster.now) c.args.kinds.now.items c.args.world.now.devices.items c.args.at c.args.items.now.items c.requires.apart
