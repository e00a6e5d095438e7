use Rattle.hub_commands.proofs.GivenDays.{day_given, starved_given}
use Rattle.hub_commands.proofs.TrialDays.{judged_ends, whole_legal}
use Rattle.hub_commands.proofs.trials.play_script.Goals as goal
use Rattle.hub_commands.proofs.Prelude.{IsReplayOf, None, Some, false, new_course, plain, rules, trial_mode, written, ◌∙◌, ◌≡◌}

pub judge_day-requires-clause-legal : goal.judge_day-requires-clause-legal
judge_day-requires-clause-legal g c =
    let D = g.B.Dev.Device in
    let day : c.replay_day-day.result.day ≡ Some c.in-Some-None.day = search rules in
    let none : c.replay_day-day.result.fault ≡ None = search rules in
    whole_legal D.shows c.args.script.now (record { mode = trial_mode; trace = false })
    (written (Some c.args.text.held) (Some c.replay_day-day.new.sink.held) c.args.text.faults c.replay_day-day.new.sink.faults)
    c.replay_day-day.result.day c.replay_day-day.result.fault c.in-Some-None.day day none c.replay_day-day.ensures.ends

pub returns-in-Some-None-clause-ends : goal.returns-in-Some-None-clause-ends
returns-in-Some-None-clause-ends g c =
    let D = g.B.Dev.Device in
    let K = g.K.Sink in
    let day : c.replay_day-day.result.day ≡ Some c.in-Some-None.day = search rules in
    let none : c.replay_day-day.result.fault ≡ None = search rules in
    let judged = c.judge_day in
    judged_ends D.shows c.args.number c.args.script.now c.requires.made
    (written (Some c.args.text.held) (Some c.replay_day-day.new.sink.held) c.args.text.faults c.replay_day-day.new.sink.faults)
    (written (K.holds c.args.sink.now) (K.holds judged.new.sink) (K.faults c.args.sink.now) (K.faults judged.new.sink))
    judged.result.day c.replay_day-day.result.day c.replay_day-day.result.fault c.in-Some-None.day judged.result.fault day none c.replay_day-day.ensures.ends
    judged.ensures.agrees judged.ensures.judged

pub returns-clause-given : goal.returns-clause-given
returns-clause-given g c =
    let D = g.B.Dev.Device in
    let replay = c.replay_day-day in
    let same : replay.result.day ≡ c.in_default-1.day = search rules in
    starved_given c.in_default-1.day c.starve.result.day c.starve.result.fault c.starve.ensures.starved
    (λ none. day_given IsReplayOf D.shows plain (new_course c.args.script.now) (record { mode = trial_mode; trace = false })
    (written (Some c.args.text.held) (Some replay.new.sink.held) c.args.text.faults replay.new.sink.faults)
    replay.result.day replay.result.fault replay.ensures.ends (same ∙ none))
