use Rattle.run_replay.proofs.Replayed.{plans_of, plans_then, quiet_then, replayed_so}
use Rattle.run_replay.proofs.windows.replay_window.Goals as goal
use Rattle.run_replay.proofs.Prelude.{sym, ◌∙◌}

-- every actor had ended, so the window closes
pub unreachable-requires : goal.unreachable-requires
unreachable-requires g c =
    let D = g.D.Device in
    let quiet = quiet_then D.shows c.args.hub c.args.turns.now c.args.seed c.args.rounds c.in-Ok.player c.play.new.self
    c.finish.new.self (record {
      opens = c.in-Ok.ensures.opened;
      plays = c.play.ensures.played;
      finishes = c.finish.ensures.finished;
      window = c.play.ensures.stays.window;
      still = c.finish.ensures.stays.window;
      rounds_played = c.play.ensures.stays.rounds;
      rounds_last = c.finish.ensures.stays.rounds;
    }) c.kept_invariant-2.ensures.player.kept c.kept_invariant-2.ensures.hub in
    let not_none = sym quiet ∙ c.in-Err-close.ensures.refused in cc

pub returns-clause-replayed : goal.returns-clause-replayed
returns-clause-replayed g c =
    let D = g.D.Device in
    replayed_so D.shows c.args.hub c.args.turns.now c.args.seed c.args.rounds c.in-Ok.player c.play.new.self c.finish.new.self c.in-Ok-close.closed.0 c.in-Ok-close.closed.1
    (record { opens = c.in-Ok.ensures.opened; plays = c.play.ensures.played; finishes = c.finish.ensures.finished; window = c.play.ensures.stays.window; still = c.finish.ensures.stays.window; rounds_played = c.play.ensures.stays.rounds; rounds_last = c.finish.ensures.stays.rounds })
    c.kept_invariant.ensures c.kept_invariant-2.ensures.hub
    (c.finish.ensures.stays.plans (plans_of D.shows c.args.hub) (c.play.ensures.stays.plans (plans_of D.shows c.args.hub) (plans_then D.shows c.args.hub c.args.rounds c.in-Ok.player c.in-Ok.ensures.opened)))
    c.in-Ok-close.ensures.closed
