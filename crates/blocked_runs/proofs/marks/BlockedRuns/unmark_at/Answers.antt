use Rattle.blocked_runs.proofs.marks.BlockedRuns.unmark_at.Goals as goal
use Rattle.blocked_runs.proofs.Marking.{are_unmarked, none_there}
use Rattle.blocked_runs.proofs.Prelude.{rules, slice_get_within, sym, ◌<◌, ◌^◌}

pub returns-in_default : goal.returns-in_default
returns-in_default c = rw (← c.self.view_is) (none_there _ c.args.d.0 c.in_default.ensures)

pub set-requires : goal.set-requires
set-requires c = slice_get_within c.self.inside.at.items c.args.d.0 c.in-Some.there.now (sym c.in-Some.ensures)

pub returns : goal.returns
returns c =
    let small : c.in-Some.there.now < 2 ^ 64 = search rules in
    rw (c.set.ensures.items, ← c.self.view_is)
    (are_unmarked _ c.args.d.0 c.in-Some.there.now c.in-Some.ensures (slice_get_within c.self.inside.at.items c.args.d.0 c.in-Some.there.now (sym c.in-Some.ensures)) small)
