use Rattle.hub_commands.proofs.PublishedDays.{seen_counts}
use Rattle.hub_commands.proofs.WatchedDays.{line_ends, line_published, unbuilt_boarded}
use Rattle.hub_commands.proofs.watches.watch_day.Goals as goal
use Rattle.hub_commands.proofs.Prelude.{IsRunWithin, board_line, subst, sym, written}
use Rattle.hub_commands.specs.Watched.{IsPublished}
use Rattle.status_board.specs.Publishings.{StartsWith}

pub returns-in_default-clause-ends : goal.returns-in_default-clause-ends
returns-in_default-clause-ends g c =
    let D = g.B.Dev.Device in
    let K = g.K.Sink in
    unbuilt_boarded (IsRunWithin (g.C.Clock.earliest c.args.clock.now) (g.C.Clock.latest c.args.clock.now)) D.shows c.args.script.now c.args.options
    (K.holds c.args.sink.now) (K.faults c.args.sink.now) c.new.result c.end_without_devices.result.day c.end_without_devices.result.fault
    c.new.ensures.empty c.end_without_devices.ensures.day c.end_without_devices.ensures.fault

pub returns-clause-ends : goal.returns-clause-ends
returns-clause-ends g c =
    let D = g.B.Dev.Device in
    let K = g.K.Sink in
    let beside = c.run_watched-finish.ensures in
    let watcher = c.run_watched-finish.new.watcher.list in
    let met = subst (λ p. StartsWith p.list watcher) c.meet.ensures.same c.meet.ensures.met in
    line_ends (IsRunWithin (g.C.Clock.earliest c.args.clock.now) (g.C.Clock.latest c.args.clock.now)) D.shows c.args.script.now c.args.options
    (K.holds c.args.sink.now) (K.holds c.run_watched-finish.new.sink) (K.holds c.end_watched.new.sink) (K.faults c.args.sink.now) (K.faults c.run_watched-finish.new.sink) (K.faults c.end_watched.new.sink)
    c.run_watched-finish.result.0.day c.end_watched.result.day c.run_watched-finish.result.0.fault c.end_watched.result.fault (board_line c.run_watched-finish.result.1)
    beside.ends c.end_watched.ensures.ends (λ none d given. seen_counts _ watcher c.run_watched-finish.result.1 c.run_watched-finish.result.0.day beside.published met beside.seen beside.over d given)

pub returns-clause-published : goal.returns-clause-published
returns-clause-published g c =
    let K = g.K.Sink in
    line_published (board_line c.run_watched-finish.result.1)
    (written (K.holds c.run_watched-finish.new.sink) (K.holds c.end_watched.new.sink) (K.faults c.run_watched-finish.new.sink) (K.faults c.end_watched.new.sink))
    c.meet.new.p.list c.run_watched-finish.result.0.day c.end_watched.result.day c.run_watched-finish.result.0.fault c.end_watched.result.fault c.end_watched.ensures.ends
    (subst (λ p. IsPublished p.list c.run_watched-finish.result.0.day) (sym c.meet.ensures.same) c.run_watched-finish.ensures.published)
