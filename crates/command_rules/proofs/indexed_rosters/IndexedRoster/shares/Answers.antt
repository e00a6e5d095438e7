use Rattle.command_rules.proofs.Sharing.{meets_shares}
use Rattle.command_rules.proofs.indexed_rosters.IndexedRoster.shares.Goals as goal
use Rattle.command_rules.proofs.Prelude.{commands_of, runs_of}

pub returns : goal.returns
returns c =
    meets_shares (commands_of (runs_of c.args.self.now) c.args.a.0) (commands_of (runs_of c.args.self.now) c.args.b.0) c.footprint-2.result.now c.footprint.result.now c.meets.result c.footprint-2.ensures.footprint c.footprint.ensures.footprint c.meets.ensures
