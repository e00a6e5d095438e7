use Rattle.hub_commands.proofs.WorkedWays.{replayed_as, rounds_within}
use Rattle.hub_commands.proofs.replays.replay_opened.Goals as goal

pub replay_window-requires-clause-rounds : goal.replay_window-requires-clause-rounds
replay_window-requires-clause-rounds g c = rounds_within c.args.hub c.args.window.now.probes c.requires.fresh c.requires.rounds

pub returns-in-Ok : goal.returns-in-Ok
returns-in-Ok g c =
    let D = g.D.Device in
    replayed_as D.shows c.args.hub c.args.window.now c.as_slice-turns.result.now c.in-Ok.done.0 c.in-Ok.done.1
    c.requires.rounds c.as_slice-turns.ensures c.in-Ok.ensures.replayed
