use Rattle.hub_commands.proofs.Prelude.{IsJournalSoFar, IsReplayOf, IsStateOf, course_behind, subst, sym, written, ◌∙◌}
use Rattle.hub_commands.proofs.DaysUnderWay.{last_state}
use Rattle.hub_commands.proofs.KeptDays.{ended_kept, ended_unkept, kept_more}
use Rattle.hub_commands.proofs.KeptWindows.{back_windows}
use Rattle.hub_commands.proofs.kept_days.write_kept.Goals as goal

pub keep-requires-clause-home : goal.keep-requires-clause-home
keep-requires-clause-home g c =
    subst (λ ks. IsStateOf ks c.world.result.now.devices.items) c.requires.kinds c.world.ensures.state

pub returns-in-Ok-go_on : goal.returns-in-Ok-go_on
returns-in-Ok-go_on g c course held f first home records so gone =
    let D = g.D.Device in
    let Q = g.Q.Disk in
    let next = c.args.next.day in
    let on = c.in-Ok-go_on.ensures.written course held f home records so.going gone in
    let is = c.world.ensures.world ∙ last_state IsReplayOf D.shows (course_behind c.args.script.now c.args.before course) c.args.options.mode next.home records next.windows.items gone.closed gone.under_way gone.more in (
      on.0,
      record {
        going = on.1;
        on_disk = subst (λ rs. IsJournalSoFar Q.told Q.seen Q.images Q.moment Q.images_since Q.faults c.args.script.now c.args.before first rs c.in-Ok.journal) (sym c.in-Ok-go_on.ensures.kept)
            (kept_more Q.told Q.seen Q.images Q.moment Q.images_since Q.faults c.args.script.now c.args.before first records c.args.next.journal so.on_disk next.windows.items gone.closed gone.more c.world.result.now.devices.items is
            c.in-Ok.journal c.in-Ok.ensures.home.0 c.in-Ok.ensures.home.1 c.in-Ok.ensures.last.0 c.in-Ok.ensures.later c.in-Ok.ensures.kept c.in-Ok.ensures.any_moment);
      },
    )

pub returns-in-Err-go_on : goal.returns-in-Err-go_on
returns-in-Err-go_on g c course held f first home records so gone =
    let D = g.D.Device in
    let K = g.K.Sink in
    let Q = g.Q.Disk in
    let next = c.args.next.day in
    let end = c.in-Err-go_on.ensures.written course held f home records so.going gone in
    let is = c.world.ensures.world ∙ last_state IsReplayOf D.shows (course_behind c.args.script.now c.args.before course) c.args.options.mode next.home records next.windows.items gone.closed gone.under_way gone.more in (
      end.0,
      ended_kept Q.told Q.seen Q.images Q.moment Q.images_since Q.faults c.args.script.now c.args.before IsReplayOf D.shows (course_behind c.args.script.now c.args.before course) c.args.options
          (written held (K.holds c.go_on.new.sink) f (K.faults c.go_on.new.sink)) first c.hand_back.result next.windows.items c.in-Ok.journal c.in-Err-go_on.finish.day c.in-Err-go_on.finish.fault
          (kept_more Q.told Q.seen Q.images Q.moment Q.images_since Q.faults c.args.script.now c.args.before first records c.args.next.journal so.on_disk next.windows.items gone.closed gone.more c.world.result.now.devices.items is
          c.in-Ok.journal c.in-Ok.ensures.home.0 c.in-Ok.ensures.home.1 c.in-Ok.ensures.last.0 c.in-Ok.ensures.later c.in-Ok.ensures.kept c.in-Ok.ensures.any_moment)
          c.hand_back.ensures.disk c.hand_back.ensures.durable end.1 (back_windows c.in-Err-go_on.finish.day next.windows.items c.in-Err-go_on.ensures.kept),
    )

pub returns-in-Err : goal.returns-in-Err
returns-in-Err g c course held f first home records so gone =
    let D = g.D.Device in
    let K = g.K.Sink in
    let Q = g.Q.Disk in
    let next = c.args.next.day in (
      c.end_unkept.ensures.status,
      ended_unkept Q.told Q.seen Q.images Q.moment Q.images_since Q.faults c.args.script.now c.args.before IsReplayOf D.shows (course_behind c.args.script.now c.args.before course) c.args.options
          (written held (K.holds c.args.sink.now) f (K.faults c.args.sink.now)) first c.in-Err.disk home next.home records next.windows c.args.next.journal c.end_unkept.result.day c.end_unkept.result.fault
          g.met.Q.Disk.counts_now so.going so.on_disk gone c.world.result.now.devices.items
          (λ closed more. c.world.ensures.world ∙ last_state IsReplayOf D.shows (course_behind c.args.script.now c.args.before course) c.args.options.mode next.home records next.windows.items closed gone.under_way more)
          c.in-Err.ensures.any_moment c.in-Err.ensures.failed c.end_unkept.ensures.ends c.end_unkept.ensures.fault,
    )
