use Rattle.hub_core.proofs.Prelude.{OpenHub, ap, configuration_of, max, point_of, subst, sym, ◌∙◌, ◌≡◌}
use Rattle.hub_core.specs.Decisions.{strong_command, told_choice}
use Rattle.hub_core.proofs.open_windows.OpenWindow.decide.Goals as goal

pub decide_command-requires : goal.decide_command-requires
decide_command-requires g c = record { strong = c.in-Some.ensures.strong; turn = c.in-Some.ensures.turn; command = c.in-Some.ensures.command }

pub returns-in-Some-clause-choice : goal.returns-in-Some-clause-choice
returns-in-Some-clause-choice g c =
    subst (λ m. told_choice c.args.r.0 m c.decide_command.result ≡ strong_command (point_of (configuration_of c.args.self.now)) c.args.r.0 m c.in-Some.k c.in-Some.command)
    (c.max.ensures ∙ ap (λ (t : OpenHub g.row.D.Denot). max t.moment c.args.moment) c.self.view_is) c.decide_command.ensures
    ∙ sym (c.in-Some.ensures.choice c.args.moment)

pub returns-in-Some-clause-planned : goal.returns-in-Some-clause-planned
returns-in-Some-clause-planned g c = λ none. absurd (c.in-Some.ensures.placed none)
