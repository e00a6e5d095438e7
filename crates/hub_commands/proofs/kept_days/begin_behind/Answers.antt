use Rattle.hub_commands.proofs.Prelude.{IfOk, IsReplayOf, None, head_text, kept_course, kept_line, subst, ◌++◌, ◌≡◌}
use Rattle.hub_commands.proofs.BegunBehind.{begins_under_way, some_beginning}
use Rattle.hub_commands.proofs.PlayedDays.{unbuilt}
use Rattle.hub_commands.proofs.kept_days.begin_behind.Goals as goal

pub returns-in_default-clause-goes_on : goal.returns-in_default-clause-goes_on
returns-in_default-clause-goes_on g c =
    let D = g.B.Dev.Device in
    let K = g.K.Sink in
    let some = some_beginning c.args.script.now c.args.journal.now.kept c.args.journal.now.last in
    record {
      begins = some.0;
      goes_on = some.1;
      begun = (
        c.end_without_devices.ensures.status,
        unbuilt IsReplayOf D.shows (kept_course c.args.journal.now.kept some.0) c.args.options
            (K.holds c.args.sink.now) (K.faults c.args.sink.now)
            c.new.result c.end_without_devices.result.day c.end_without_devices.result.fault
            c.new.ensures.empty c.end_without_devices.ensures.day c.end_without_devices.ensures.fault,
      );
    }

pub returns-in_default-clause-kept : goal.returns-in_default-clause-kept
returns-in_default-clause-kept g c = (record { windows = c.new.result; devices = None }, c.end_without_devices.ensures.day, c.new.ensures.empty)

pub returns-clause-goes_on : goal.returns-clause-goes_on
returns-clause-goes_on g c =
    let D = g.B.Dev.Device in
    let on = c.in-Ok.ensures.home in
    record {
      begins = on.begins;
      goes_on = on.goes_on;
      begun = c.begin_on.ensures.begun (kept_course c.args.journal.now.kept on.begins)
          (begins_under_way IsReplayOf D.shows c.args.journal.now.kept on.begins c.args.options.mode c.in-Ok.home on.home_begins)
          (subst (λ n. IfOk c.kept_head_text-head.result (λ b. b ≡ head_text c.args.options.mode ++ kept_line n)) c.kept.ensures c.kept_head_text-head.ensures);
    }
