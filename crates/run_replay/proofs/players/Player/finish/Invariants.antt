use Rattle.run_replay.proofs.Finishing.{HaveDrawn}
use Rattle.run_replay.proofs.players.Player.finish.Given as goal
use Rattle.run_replay.proofs.Prelude.{PlayerStays, steps_left}

abbrev pub decreases-draws : goal.decreases-draws
decreases-draws g l = steps_left l.self

-- some draws were made
abbrev pub invariant-draws : goal.invariant-draws
invariant-draws g l =
    HaveDrawn l.initial.self l.self l.seed l.draws l.live
    × PlayerStays g.D.Device.shows l.initial.self l.self
