use Rattle.run_replay.proofs.Numbers.{begins, few_actors, first_low, low_at, moves_fewer, never_through, number_moves, number_waits, numbers_passed, those, turns}
use Rattle.run_replay.proofs.PlayerSteps.{stays_here, stays_on}
use Rattle.run_replay.proofs.players.Player.pick_from.Goals as goal
use Rattle.run_replay.proofs.Prelude.{[], are_live, arith, from_place, length, ◌+◌, ◌∙◌}

pub next_free-at-requires : goal.next_free-at-requires
next_free-at-requires g c = record { low = first_low c.args.self.now c.args.place c.live_at-first.result c.kept_invariant.ensures.player c.live_at-first.ensures }

pub ahead-init : goal.ahead-init
ahead-init g c = (
  numbers_passed c.args.self.now c.args.self.now (from_place c.args.place (are_live c.args.self.now)) (those c.args.self.now 0 c.live_at-first.result)
      (length c.args.self.now.grips) c.live_at-first.result c.next_free-at.result c.next_free-at.ensures.ahead
      (begins c.args.self.now c.args.place c.live_at-first.result c.kept_invariant.ensures.player c.live_at-first.ensures) c.next_free-at.ensures.passed,
  c.next_free-at.ensures.live,
  stays_here g.D.Device.shows c.args.self.now,
)

pub returns-then-not-waits_at-clause-picked : goal.returns-then-not-waits_at-clause-picked
returns-then-not-waits_at-clause-picked g c =
    number_moves c.args.self.now c.ahead.self (from_place c.args.place (are_live c.args.self.now)) (those c.args.self.now 0 c.live_at-first.result)
    (length c.args.self.now.grips) c.waits_at.new.self c.ahead.at c.waits_at.ensures.picked.picked c.ahead.invariant.0
    (low_at c.args.self.now c.ahead.self c.ahead.at _ _ c.kept_invariant.ensures.player c.ahead.invariant.0 (c.ahead.invariant.1 (omega (arith, c.ahead-test.true))))
    (c.ahead.invariant.1 (omega (arith, c.ahead-test.true))) c.waits_at.ensures.picked.picks (c.waits_at.ensures.picked.waits_so ∙ c.if-not-waits_at.true)

pub returns-then-not-waits_at-clause-stays : goal.returns-then-not-waits_at-clause-stays
returns-then-not-waits_at-clause-stays g c =
    stays_on g.D.Device.shows c.args.self.now c.ahead.self c.waits_at.new.self c.ahead.invariant.2 c.waits_at.ensures.stays

pub returns-then-not-waits_at-clause-fewer : goal.returns-then-not-waits_at-clause-fewer
returns-then-not-waits_at-clause-fewer g c =
    moves_fewer c.args.self.now c.ahead.self (from_place c.args.place (are_live c.args.self.now)) (those c.args.self.now 0 c.live_at-first.result)
    (length c.args.self.now.grips) c.waits_at.new.self _ c.ahead.invariant.0
    (c.waits_at.ensures.fewer c.if-not-waits_at.true (c.ahead.invariant.1 (omega (arith, c.ahead-test.true))))

pub ahead-preserved : goal.ahead-preserved
ahead-preserved g c = (
  numbers_passed c.args.self.now c.waits_at.new.self (from_place c.args.place (are_live c.args.self.now)) (those c.args.self.now 0 c.live_at-first.result) (length c.args.self.now.grips) (c.ahead.at + 1) c.next_free-at-in-ahead.result c.next_free-at-in-ahead.ensures.ahead
      (number_waits c.args.self.now c.ahead.self (from_place c.args.place (are_live c.args.self.now)) (those c.args.self.now 0 c.live_at-first.result)
      (length c.args.self.now.grips) c.waits_at.new.self c.ahead.at c.waits_at.ensures.picked.picked c.ahead.invariant.0
      (low_at c.args.self.now c.ahead.self c.ahead.at _ _ c.kept_invariant.ensures.player c.ahead.invariant.0 (c.ahead.invariant.1 (omega (arith, c.ahead-test.true))))
      (c.ahead.invariant.1 (omega (arith, c.ahead-test.true))) c.kept_invariant-in-ahead.ensures.player c.waits_at.ensures.stays.rounds c.waits_at.ensures.stays.window.rounds
      c.waits_at.ensures.picked.picks (c.waits_at.ensures.picked.waits_so ∙ c.if-not-waits_at.false))
      c.next_free-at-in-ahead.ensures.passed,
  c.next_free-at-in-ahead.ensures.live,
  stays_on g.D.Device.shows c.args.self.now c.ahead.self c.waits_at.new.self c.ahead.invariant.2 c.waits_at.ensures.stays,
)

pub behind-init : goal.behind-init
behind-init g c =
    let few = few_actors c.args.self.now c.kept_invariant.ensures.player in (
      numbers_passed c.args.self.now c.ahead.self (from_place c.args.place (are_live c.args.self.now)) [] c.live_at-first.result 0 c.next_free-at-2.result c.next_free-at-2.ensures.ahead
          (turns c.args.self.now c.ahead.self (from_place c.args.place (are_live c.args.self.now)) c.ahead.at c.live_at-first.result (omega (arith, few, c.ahead-test.false)) c.ahead.invariant.0) c.next_free-at-2.ensures.passed,
      c.next_free-at-2.ensures.live,
      c.ahead.invariant.2,
    )

pub returns-then-not-waits_at-2-clause-picked : goal.returns-then-not-waits_at-2-clause-picked
returns-then-not-waits_at-2-clause-picked g c =
    number_moves c.args.self.now c.behind.self (from_place c.args.place (are_live c.args.self.now)) [] c.live_at-first.result c.waits_at-in-behind.new.self
    c.behind.at c.waits_at-in-behind.ensures.picked.picked c.behind.invariant.0 (omega (arith, c.behind-test.true))
    (c.behind.invariant.1 (let few = first_low c.args.self.now c.args.place c.live_at-first.result c.kept_invariant.ensures.player c.live_at-first.ensures in
    omega (arith, few, c.behind-test.true))) c.waits_at-in-behind.ensures.picked.picks (c.waits_at-in-behind.ensures.picked.waits_so ∙ c.if-not-waits_at-2.true)

pub returns-then-not-waits_at-2-clause-stays : goal.returns-then-not-waits_at-2-clause-stays
returns-then-not-waits_at-2-clause-stays g c =
    stays_on g.D.Device.shows c.args.self.now c.behind.self c.waits_at-in-behind.new.self c.behind.invariant.2 c.waits_at-in-behind.ensures.stays

pub returns-then-not-waits_at-2-clause-fewer : goal.returns-then-not-waits_at-2-clause-fewer
returns-then-not-waits_at-2-clause-fewer g c =
    moves_fewer c.args.self.now c.behind.self (from_place c.args.place (are_live c.args.self.now)) [] c.live_at-first.result c.waits_at-in-behind.new.self _
    c.behind.invariant.0 (c.waits_at-in-behind.ensures.fewer c.if-not-waits_at-2.true (c.behind.invariant.1 (let few =
    first_low c.args.self.now c.args.place c.live_at-first.result c.kept_invariant.ensures.player c.live_at-first.ensures in omega (arith, few, c.behind-test.true))))

pub next_free-at-requires-in-behind : goal.next_free-at-requires-in-behind
next_free-at-requires-in-behind g c = let few = first_low c.args.self.now c.args.place c.live_at-first.result c.kept_invariant.ensures.player c.live_at-first.ensures in record { low = omega (arith, few, c.behind-test.true) }

pub behind-preserved : goal.behind-preserved
behind-preserved g c = (
  numbers_passed c.args.self.now c.waits_at-in-behind.new.self (from_place c.args.place (are_live c.args.self.now)) [] c.live_at-first.result (c.behind.at + 1) c.next_free-at-in-behind.result c.next_free-at-in-behind.ensures.ahead
      (number_waits c.args.self.now c.behind.self (from_place c.args.place (are_live c.args.self.now)) [] c.live_at-first.result c.waits_at-in-behind.new.self
      c.behind.at c.waits_at-in-behind.ensures.picked.picked c.behind.invariant.0 (omega (arith, c.behind-test.true))
      (c.behind.invariant.1 (let few = first_low c.args.self.now c.args.place c.live_at-first.result c.kept_invariant.ensures.player c.live_at-first.ensures in
      omega (arith, few, c.behind-test.true))) c.kept_invariant-in-behind.ensures.player c.waits_at-in-behind.ensures.stays.rounds c.waits_at-in-behind.ensures.stays.window.rounds
      c.waits_at-in-behind.ensures.picked.picks (c.waits_at-in-behind.ensures.picked.waits_so ∙ c.if-not-waits_at-2.false))
      c.next_free-at-in-behind.ensures.passed,
  c.next_free-at-in-behind.ensures.live,
  stays_on g.D.Device.shows c.args.self.now c.behind.self c.waits_at-in-behind.new.self c.behind.invariant.2 c.waits_at-in-behind.ensures.stays,
)

pub unreachable-requires : goal.unreachable-requires
unreachable-requires g c = never_through c.args.self.now c.behind.self c.args.place c.behind.at c.live_at-first.result (omega (arith, c.behind-test.false)) c.behind.invariant.0 (omega (arith, c.requires.live, c.requires.place))
