use Rattle.blocked_runs.proofs.marks.BlockedRuns.mark.Goals as goal
use Rattle.blocked_runs.proofs.Marking.{has_marked}
use Rattle.blocked_runs.proofs.Prelude.{slice_get_within, sym}

pub returns : goal.returns
returns c =
    rw (c.set.ensures.items, ← c.self.view_is)
    (has_marked _ c.args.r.0 c.args.d.0 c.bit_of-bit.result c.in-Some.there.now c.in-Some.ensures (slice_get_within c.self.inside.at.items c.args.d.0 c.in-Some.there.now (sym c.in-Some.ensures)) c.bit_of-bit.ensures.only)
