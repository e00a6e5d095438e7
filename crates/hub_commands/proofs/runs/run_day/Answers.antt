use Rattle.hub_commands.proofs.CountedRuns.{next_to_tell}
use Rattle.hub_commands.proofs.NextWindows.{next_played}
use Rattle.hub_commands.proofs.PublishedDays.{told_back}
use Rattle.hub_commands.proofs.runs.run_day.Goals as goal
use Rattle.hub_commands.proofs.Prelude.{IsRunWithin, IsToldOf, arith, length, new_course, subst, sym, ◌∙◌, ◌≡◌}

pub returns-in-Err-go_on : goal.returns-in-Err-go_on
returns-in-Err-go_on g c =
    let D = g.B.Dev.Device in
    let K = g.K.Sink in
    let end = c.in-Err-go_on.ensures.written (new_course c.args.script.now) (K.holds c.args.sink.now) (K.faults c.args.sink.now) c.windows.day.home c.windows.day.windows.items c.windows.invariant.going
    (next_played (IsRunWithin (g.C.Clock.earliest c.args.clock.now) (g.C.Clock.latest c.args.clock.now)) D.shows
    c.args.script.now 0 c.args.options.mode c.windows.day (new_course c.args.script.now) c.run_next-next.result
    c.windows.invariant.going.under_way c.run_next-next.ensures.played c.run_next-next.ensures.starved) in
    record {
      status = end.0;
      ends = end.1;
      stands = c.tell_of.ensures.stands;
      same = c.tell_of.ensures.same ∙ c.windows.invariant.same;
      told = told_back _ _ _ c.tell_of.ensures.told c.in-Err-go_on.ensures.kept;
    }

pub windows-preserved : goal.windows-preserved
windows-preserved g c =
    let D = g.B.Dev.Device in
    let K = g.K.Sink in
    let on = c.in-Ok-go_on.ensures.written (new_course c.args.script.now) (K.holds c.args.sink.now) (K.faults c.args.sink.now) c.windows.day.home c.windows.day.windows.items c.windows.invariant.going
    (next_played (IsRunWithin (g.C.Clock.earliest c.args.clock.now) (g.C.Clock.latest c.args.clock.now)) D.shows
    c.args.script.now 0 c.args.options.mode c.windows.day (new_course c.args.script.now) c.run_next-next.result
    c.windows.invariant.going.under_way c.run_next-next.ensures.played c.run_next-next.ensures.starved) in
    let counted = c.windows.invariant.counted in
    let more = on.0 in
    record {
      counted = omega (arith, counted, more);
      going = on.1;
      stands = c.tell_of.ensures.stands;
      same = c.tell_of.ensures.same ∙ c.windows.invariant.same;
      told = subst (λ ws. IsToldOf (g.O.Onlooker.told c.tell_of.new.onlooker) ws) (sym c.in-Ok-go_on.ensures.kept) c.tell_of.ensures.told;
    }

pub returns-clause-ends : goal.returns-clause-ends
returns-clause-ends g c =
    let D = g.B.Dev.Device in
    let K = g.K.Sink in
    let counted = c.windows.invariant.counted in
    let at_end = c.windows-test.false in
    let end = c.len-end.ensures in
    let within = c.windows.invariant.going.under_way.played.count in
    let all : length c.windows.day.windows.items ≡ length c.args.script.now.windows.items = omega (arith, counted, at_end, end, within) in
    c.end.ensures.ends (new_course c.args.script.now) (K.holds c.args.sink.now) (K.faults c.args.sink.now) c.windows.invariant.going all

pub tell_of-requires-clause-next : goal.tell_of-requires-clause-next
tell_of-requires-clause-next g c =
    let D = g.B.Dev.Device in
    let works = IsRunWithin (g.C.Clock.earliest c.args.clock.now) (g.C.Clock.latest c.args.clock.now) in
    let shown = D.shows in
    next_to_tell works shown c.args.script.now c.args.options.mode c.windows.day.windows.items _ c.run_next-next.result c.requires.sound c.windows.invariant.told
    (next_played works shown c.args.script.now 0 c.args.options.mode c.windows.day (new_course c.args.script.now) c.run_next-next.result
    c.windows.invariant.going.under_way c.run_next-next.ensures.played c.run_next-next.ensures.starved)

pub returns-in-Err-clause-told : goal.returns-in-Err-clause-told
returns-in-Err-clause-told g c = told_back _ _ _ c.requires.new c.in-Err.ensures.kept

pub returns-clause-told : goal.returns-clause-told
returns-clause-told g c = told_back _ _ _ c.windows.invariant.told c.end.ensures.kept
