use Rattle.call_log.proofs.Keeping.{head_round}
use Rattle.call_log.proofs.heads.Head.bytes.Goals as goal
use Rattle.std.proofs.Common.{rules, ◌<◌, ◌^◌}

pub returns-clause-good : goal.returns-clause-good
returns-clause-good c =
    let m : c.args.self.mode < 2 ^ 16 = search rules in
    let v : c.args.self.version < 2 ^ 32 = search rules in
    let s : c.args.self.script < 2 ^ 64 = search rules in
    head_round c.args.self m v s c.sum.ensures.small
