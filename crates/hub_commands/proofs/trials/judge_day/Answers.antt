use Rattle.day_report.specs.Days.{abort_count, commit_count}
use Rattle.day_report.specs.Trials.{trial_text}
use Rattle.hub_commands.proofs.GivenDays.{line_given, starved_given}
use Rattle.hub_commands.proofs.ToldWindows.{told_agrees, trial_told}
use Rattle.hub_commands.proofs.trials.judge_day.Goals as goal
use Rattle.hub_commands.proofs.Prelude.{IfOk, Some, agreeing, ap, ap₂, finding, length, line_due, subst, written, ◌∙◌, ◌≡◌}
use Rattle.order_checker.specs.Records.{verdict_of}

pub returns-clause-judged : goal.returns-clause-judged
returns-clause-judged g c =
    let windows = c.args.day.windows.items in
    let agree : c.agreeing-agree.result ≡ agreeing (finding c.args.script.now c.args.day) (length windows) =
    c.agreeing-agree.ensures ∙ ap₂ agreeing (c.in-Ok.ensures ∙ ap (verdict_of c.args.script.now) c.requires.text) c.len.ensures in
    let line = trial_told c.args.number c.agreeing-agree.result windows c.len-2.result c.ends_told-ends.result.committed c.ends_told-ends.result.aborted c.trial_text-line.result
    c.len-2.ensures (c.ends_told-ends.ensures.committed ∙ ap commit_count c.as_slice-2.ensures) (c.ends_told-ends.ensures.aborted ∙ ap abort_count c.as_slice-2.ensures) c.trial_text-line.ensures in
    c.end_with_line.ensures.ends (line_due c.args.number c.args.script.now c.args.day)
    (subst (λ n. IfOk c.trial_text-line.result (λ b. b ≡ trial_text c.args.number windows n)) agree line)

pub returns-in_default-clause-given : goal.returns-in_default-clause-given
returns-in_default-clause-given g c = starved_given (Some c.args.day) c.starve.result.day c.starve.result.fault c.starve.ensures.starved (λ none. absurd (cc))

pub returns-clause-given : goal.returns-clause-given
returns-clause-given g c =
    let K = g.K.Sink in
    let judged = returns-clause-judged g c in
    line_given (line_due c.args.number c.args.script.now c.args.day)
    (written (K.holds c.args.sink.now) (K.holds c.end_with_line.new.sink) (K.faults c.args.sink.now) (K.faults c.end_with_line.new.sink))
    c.args.day c.end_with_line.result.day c.end_with_line.result.fault judged

pub returns-in_default-clause-agrees : goal.returns-in_default-clause-agrees
returns-in_default-clause-agrees g c =
    told_agrees c.args.script.now c.args.day.windows.items c.as_slice.result.now c.requires.sound c.requires.legal c.requires.count c.as_slice.ensures c.small_times.ensures

pub returns-clause-agrees : goal.returns-clause-agrees
returns-clause-agrees g c =
    told_agrees c.args.script.now c.args.day.windows.items c.as_slice.result.now c.requires.sound c.requires.legal c.requires.count c.as_slice.ensures c.small_times.ensures
