use Rattle.hub_threads.proofs.Prelude.{CanGoOut, OpenHub, ap, entries_told, is_idle, kept_by, length, rules, subst, sym, true, turn_entries, ◌++◌, ◌+◌, ◌∙◌, ◌≡◌}
use Rattle.hub_threads.proofs.Added.{turn_adds}
use Rattle.hub_threads.proofs.Holding.{idle_sleepers, turn_held}
use Rattle.hub_threads.proofs.Passes.{turn_can, turn_pass}
use Rattle.hub_threads.proofs.held.HeldStepsGripDone.take.Goals as goal
use Rattle.hub_threads.proofs.held.HeldStepsGripDone.take.Goals.{else-not-is_idle, then-not-is_idle}

pub pass_for-pass-requires : goal.pass_for-pass-requires
pass_for-pass-requires g c = record { home = subst (λ o. CanGoOut o c.take-turn.result) (sym c.self.invariant.out) (turn_can c.self.inside.hub c.take-turn.new.self c.args.r.0 c.args.moment c.take-turn.result c.take-turn.ensures.turn) }

pub invariant_of-self : goal.invariant_of-self
invariant_of-self g c =
    let more : c.add.new.self.total ≡ c.self.inside.book.total + turn_entries c.take-turn.result = c.add.ensures.total ∙ ap (λ n. c.self.inside.book.total + n) (c.count.ensures ∙ ap length c.made_by-told.ensures) in
    elim c.if-not-is_idle.branch [
      | then-not-is_idle w ↦ rw w.self-inside-is (turn_held g.D.Device.shows g.N.Name.window g.N.Name.desk c.self.inside.hub c.take-turn.new.self c.args.r.0
          c.args.moment c.take-turn.result _ _ _ _ c.self.inside.desk c.pass_for-pass.new.desk c.self.invariant c.take-turn.ensures.turn
          c.take-turn.ensures.window c.requires.moment more w.call.ensures.blocked c.pass_for-pass.ensures.name c.pass_for-pass.ensures.out)
      | else-not-is_idle w ↦ (
          let idle : is_idle c.take-turn.result ≡ true = search rules in
          rw w.self-inside-is (turn_held g.D.Device.shows g.N.Name.window g.N.Name.desk c.self.inside.hub c.take-turn.new.self c.args.r.0 c.args.moment
          c.take-turn.result _ _ _ _ c.self.inside.desk c.pass_for-pass.new.desk c.self.invariant c.take-turn.ensures.turn c.take-turn.ensures.window
          c.requires.moment more (idle_sleepers c.self.inside.hub c.take-turn.new.self c.args.r.0 c.args.moment c.take-turn.result
          c.self.inside.sleepers.blocked c.take-turn.ensures.turn idle c.self.invariant.sleepers) c.pass_for-pass.ensures.name c.pass_for-pass.ensures.out))
    ]

pub returns-clause-appended : goal.returns-clause-appended
returns-clause-appended g c =
    let after : c.if-not-is_idle.self-inside.hub ≡ c.take-turn.new.self = search rules in
    ap (λ (t : OpenHub _). t.history) after
    ∙ subst (λ (s : OpenHub _). c.take-turn.new.self.history ≡ s.history ++ kept_by c.args.r.0 (entries_told c.take-turn.result)) c.self.view_is
    (turn_adds c.self.inside.hub c.take-turn.new.self c.args.r.0 c.args.moment c.take-turn.result c.take-turn.ensures.turn).history

pub returns-clause-pass : goal.returns-clause-pass
returns-clause-pass g c = turn_pass c.self.inside.desk.name g.N.Name.desk c.self.inside.hub c.take-turn.new.self c.args.r.0 c.args.moment c.take-turn.result c.pass_for-pass.result c.self.invariant.desk_is c.take-turn.ensures.turn c.pass_for-pass.ensures.pass
