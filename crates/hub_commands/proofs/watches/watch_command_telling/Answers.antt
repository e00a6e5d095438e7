use Rattle.hub_commands.proofs.GivenDays.{day_given}
use Rattle.hub_commands.proofs.ProbedDays.{probed_in_all}
use Rattle.hub_commands.proofs.watches.watch_command_telling.Goals as goal
use Rattle.hub_commands.proofs.Prelude.{IsRunWithin, IsUnread, IsUnwritten, Some, Watch, boarded, inl, map, new_course, read_off, refl, rules, string_bytes, watch_line_of, written}
use Rattle.hub_commands.proofs.EndedCalls.{asked_for, no_script, starved_words}

pub returns-clause-probed : goal.returns-clause-probed
returns-clause-probed g c none =
    let D = g.B.Dev.Device in
    let K = g.K.Sink in
    let S = g.S.Source in
    probed_in_all (g.C.Clock.earliest c.args.clock.now) (g.C.Clock.latest c.args.clock.now) D.shows boarded c.in-Ok-read_input.script c.in-Ok.options
    (read_off (S.left c.args.source.now) (S.left c.read_input.new.source) (S.faults c.args.source.now) (S.faults c.read_input.new.source))
    (written (K.holds c.args.sink.now) (K.holds c.watch_day.new.sink) (K.faults c.args.sink.now) (K.faults c.watch_day.new.sink))
    c.watch_day.result.0.day c.watch_day.result.0.fault
    c.in-Ok-read_input.ensures.read c.watch_day.ensures.ends none

pub returns-clause-unasked : goal.returns-clause-unasked
returns-clause-unasked g c none =
    let D = g.B.Dev.Device in
    let K = g.K.Sink in
    absurd (day_given (IsRunWithin (g.C.Clock.earliest c.args.clock.now) (g.C.Clock.latest c.args.clock.now)) D.shows boarded (new_course c.in-Ok-read_input.script) c.in-Ok.options
    (written (K.holds c.args.sink.now) (K.holds c.watch_day.new.sink) (K.faults c.args.sink.now) (K.faults c.watch_day.new.sink))
    c.watch_day.result.0.day c.watch_day.result.0.fault c.watch_day.ensures.ends none)

pub returns-in-Err-NoMemory-clause-ends : goal.returns-in-Err-NoMemory-clause-ends
returns-in-Err-NoMemory-clause-ends g c =
    let D = g.B.Dev.Device in
    let K = g.K.Sink in
    let S = g.S.Source in
    let source = read_off (S.left c.args.source.now) (S.left c.args.source.now) (S.faults c.args.source.now) (S.faults c.args.source.now) in
    let unread : IsUnread source = (refl, refl) in
    let sink = written (K.holds c.args.sink.now) (K.holds c.args.sink.now) (K.faults c.args.sink.now) (K.faults c.args.sink.now) in
    let unwritten : IsUnwritten sink = search rules in
    let refused = c.refuse-in-Err-NoMemory in
    starved_words (IsRunWithin (g.C.Clock.earliest c.args.clock.now) (g.C.Clock.latest c.args.clock.now)) D.shows source sink
    refused.result.day refused.result.fault (watch_line_of (map string_bytes c.args.words.now)) refused.ensures.fault unread (refused.ensures.day, unwritten)

pub returns-in-Err-clause-ends : goal.returns-in-Err-clause-ends
returns-in-Err-clause-ends g c =
    let D = g.B.Dev.Device in
    let K = g.K.Sink in
    let S = g.S.Source in
    let source = read_off (S.left c.args.source.now) (S.left c.read_input.new.source) (S.faults c.args.source.now) (S.faults c.read_input.new.source) in
    let sink = written (K.holds c.args.sink.now) (K.holds c.args.sink.now) (K.faults c.args.sink.now) (K.faults c.args.sink.now) in
    let unwritten : IsUnwritten sink = search rules in
    let refused = c.refuse-in-Err in
    asked_for (IsRunWithin (g.C.Clock.earliest c.args.clock.now) (g.C.Clock.latest c.args.clock.now)) D.shows source sink
    refused.result.day refused.result.fault (watch_line_of (map string_bytes c.args.words.now)) (Some (Watch c.in-Ok.options)) c.in-Ok.ensures.meaning
    (inl (no_script source refused.result.fault c.in-Err.fault c.in-Err.ensures.read refused.ensures.fault, (refused.ensures.day, unwritten)))
