use Rattle.hub_core.proofs.Prelude.{OpenHub, ap, configuration_of, false, is_run, is_some, max, point_of, read_of, subst, sym, ◌∙◌, ◌≡◌}
use Rattle.hub_core.specs.Decisions.{strong_command, told_choice}
use Rattle.history_book.specs.Progress.{progress_of}
use Rattle.hub_core.proofs.calls.HubChanges.{strong_seen}
use Rattle.hub_core.proofs.calls.HubChoices.{hub_answers, hub_at_command, hub_commands, hub_dooms, hub_is_live, hub_skips, hub_under_way, hub_weakly, placed_before}
use Rattle.hub_core.proofs.open_windows.OpenWindow.decide_by_case.Goals as goal

pub grip_of-requires : goal.grip_of-requires
grip_of-requires g c = sym (c.if-not-has_run.ensures ∙ ap (λ s. is_run s.setting.runs c.args.r.0) c.self.view_is)

pub decide_doomed-requires : goal.decide_doomed-requires
decide_doomed-requires g c = record { strong = (strong_seen c.self.inside c.args.self.now false c.self.view_is (sym c.if-is_weak.ensures)); live = hub_is_live _ c.args.self.now c.args.r.0 c.progress-progress.result c.self.view_is c.progress-progress.ensures c.in_default.is c.if-is_none.ensures }

pub returns-in-Some-doomed-clause-choice : goal.returns-in-Some-doomed-clause-choice
returns-in-Some-doomed-clause-choice g c =
    hub_dooms _ _ c.args.r.0 c.args.moment c.progress-progress.result c.in-Some-doomed.cause _ c.self.view_is
    (sym c.if-is_weak.ensures) c.if-not-has_run.ensures c.progress-progress.ensures c.in_default.is c.in_default-grip_of.ensures
    (ap is_some c.in-Some-arrived.is) c.if-is_none.ensures c.in-Some-doomed.is (c.decide_doomed.ensures _)

pub decide_answered-requires : goal.decide_answered-requires
decide_answered-requires g c = record {
  strong = (strong_seen c.self.inside c.args.self.now false c.self.view_is (sym c.if-is_weak.ensures));
  turn =
      hub_under_way _ c.args.self.now c.args.r.0 c.progress-progress.result c.self.view_is c.progress-progress.ensures c.in_default.is c.if-is_none.ensures
      c.in_default-doomed.is;
}

pub returns-in-None-clause-choice : goal.returns-in-None-clause-choice
returns-in-None-clause-choice g c =
    hub_answers _ _ c.args.r.0 c.args.moment c.progress-progress.result _ c.self.view_is
    (sym c.if-is_weak.ensures) c.if-not-has_run.ensures c.progress-progress.ensures c.in_default.is c.in_default-grip_of.ensures
    (ap is_some c.in-Some-arrived.is) c.if-is_none.ensures c.in_default-doomed.is c.in-None.ensures (c.decide_answered.ensures _)

pub decide_command-requires : goal.decide_command-requires
decide_command-requires g c =
    let at = hub_at_command g.D.Device.shows _ _ c.args.r.0 c.next-k.result c.register.result
    c.progress-progress.result c.in-Some-next_command.command c.self.view_is c.self.invariant.shown c.progress-progress.ensures c.in_default.is
    c.if-is_none.ensures c.in_default-doomed.is c.in-Some-next_command.ensures c.next-k.ensures c.register.ensures (sym c.if-holds.ensures) in
    record { strong = (strong_seen c.self.inside c.args.self.now false c.self.view_is (sym c.if-is_weak.ensures)); turn = at.0; command = at.1 }

pub decide_skip-requires : goal.decide_skip-requires
decide_skip-requires g c = record {
  strong = (strong_seen c.self.inside c.args.self.now false c.self.view_is (sym c.if-is_weak.ensures));
  turn =
      hub_under_way _ c.args.self.now c.args.r.0 c.progress-progress.result c.self.view_is c.progress-progress.ensures c.in_default.is c.if-is_none.ensures
      c.in_default-doomed.is;
}

pub returns-then-holds-clause-choice : goal.returns-then-holds-clause-choice
returns-then-holds-clause-choice g c =
    hub_commands _ _ c.args.r.0 c.args.moment c.next-k.result c.register.result c.progress-progress.result c.in-Some-next_command.command _ c.self.view_is
    (sym c.if-is_weak.ensures) c.if-not-has_run.ensures c.progress-progress.ensures c.in_default.is c.in_default-grip_of.ensures
    (ap is_some c.in-Some-arrived.is) c.if-is_none.ensures c.in_default-doomed.is c.in-Some-next_command.ensures c.next-k.ensures c.register.ensures
    (sym c.if-holds.ensures)
    (subst (λ m. told_choice c.args.r.0 m c.decide_command.result ≡ strong_command (point_of (configuration_of c.args.self.now)) c.args.r.0 m c.next-k.result c.in-Some-next_command.command)
    (c.max-moment.ensures ∙ ap (λ (t : OpenHub g.row.D.Denot). max t.moment c.args.moment) c.self.view_is) c.decide_command.ensures)

pub returns-else-holds-clause-choice : goal.returns-else-holds-clause-choice
returns-else-holds-clause-choice g c =
    hub_skips _ _ c.args.r.0 c.args.moment c.next-k.result c.register.result c.progress-progress.result c.in-Some-next_command.command _ c.self.view_is
    c.if-not-has_run.ensures c.progress-progress.ensures c.in_default.is c.in_default-grip_of.ensures (ap is_some c.in-Some-arrived.is) c.if-is_none.ensures
    c.in_default-doomed.is c.in-Some-next_command.ensures c.next-k.ensures c.register.ensures (sym c.if-holds.ensures) (c.decide_skip.ensures _)

pub decide_weakly-requires : goal.decide_weakly-requires
decide_weakly-requires g c = record {
  run = sym (c.if-not-has_run.ensures ∙ ap (λ s. is_run s.setting.runs c.args.r.0) c.self.view_is);
  known = c.progress-progress.ensures ∙ ap (λ (t : OpenHub g.row.D.Denot). progress_of ((read_of (configuration_of t)).run c.args.r.0)) c.self.view_is;
}

pub returns-then-is_weak-clause-choice : goal.returns-then-is_weak-clause-choice
returns-then-is_weak-clause-choice g c =
    hub_weakly _ _ c.args.r.0 c.args.moment c.progress-progress.result _ c.self.view_is (sym c.if-is_weak.ensures) c.if-not-has_run.ensures
    c.progress-progress.ensures c.in_default.is c.in_default-grip_of.ensures (ap is_some c.in-Some-arrived.is) c.if-is_none.ensures (c.decide_weakly.ensures _)

pub returns-in-Some-doomed-clause-planned : goal.returns-in-Some-doomed-clause-planned
returns-in-Some-doomed-clause-planned g c = λ none. absurd (placed_before _ c.args.self.now c.args.r.0 c.progress-progress.result c.self.view_is c.progress-progress.ensures c.if-is_none.ensures none)

pub returns-in-None-clause-planned : goal.returns-in-None-clause-planned
returns-in-None-clause-planned g c = λ none. absurd (placed_before _ c.args.self.now c.args.r.0 c.progress-progress.result c.self.view_is c.progress-progress.ensures c.if-is_none.ensures none)

pub returns-then-holds-clause-planned : goal.returns-then-holds-clause-planned
returns-then-holds-clause-planned g c = λ none. absurd (placed_before _ c.args.self.now c.args.r.0 c.progress-progress.result c.self.view_is c.progress-progress.ensures c.if-is_none.ensures none)

pub returns-else-holds-clause-planned : goal.returns-else-holds-clause-planned
returns-else-holds-clause-planned g c = λ none. absurd (placed_before _ c.args.self.now c.args.r.0 c.progress-progress.result c.self.view_is c.progress-progress.ensures c.if-is_none.ensures none)

pub returns-then-is_weak-clause-planned : goal.returns-then-is_weak-clause-planned
returns-then-is_weak-clause-planned g c = λ none. absurd (placed_before _ c.args.self.now c.args.r.0 c.progress-progress.result c.self.view_is c.progress-progress.ensures c.if-is_none.ensures none)
