use Rattle.run_replay.proofs.players.Player.waits_at.Goals as goal
use Rattle.run_replay.proofs.Prelude.{sym, ◌∙◌}

pub returns-clause-picked : goal.returns-clause-picked
returns-clause-picked g c = record { picked = c.pick-picked.result; waits_so = sym c.has_waited.ensures; picks = c.pick-picked.ensures.picks }

pub returns-clause-stays : goal.returns-clause-stays
returns-clause-stays g c = c.pick-picked.ensures.stays

pub returns-clause-fewer : goal.returns-clause-fewer
returns-clause-fewer g c goes going = c.pick-picked.ensures.fewer (sym c.has_waited.ensures ∙ goes) going
