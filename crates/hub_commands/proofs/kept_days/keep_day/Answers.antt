use Rattle.hub_commands.proofs.BegunBehind.{same_course}
use Rattle.hub_commands.proofs.KeptDays.{behind_all, ended_kept, starts_kept}
use Rattle.hub_commands.proofs.KeptWindows.{back_windows}
use Rattle.hub_commands.proofs.kept_days.keep_day.Goals as goal
use Rattle.hub_commands.proofs.Prelude.{HasEndedBehind, HasEndedKept, IsGoingOn, IsReplayOf, None, [], arith, course_behind, drop, kept_course, length, length-drop, length-map, plain_window, refl, subst, sym, written, ◌∙◌, ◌≡◌, ◌≤◌}
use Rattle.legal_days.specs.ResumedDays.{GoesOnBehind}

pub returns-in-Err : goal.returns-in-Err
returns-in-Err g c =
    let D = g.B.Dev.Device in
    let K = g.K.Sink in
    let Q = g.Q.Disk in
    let begun = c.in-Err.ensures.goes_on in
    record {
      status = begun.begun.0;
      ends = record {
        begins = begun.begins;
        goes_on = begun.goes_on;
        ended = ended_kept Q.told Q.seen Q.images Q.moment Q.images_since Q.faults c.args.script.now c.args.journal.kept IsReplayOf D.shows (kept_course c.args.journal.kept begun.begins) c.args.options
            (written (K.holds c.args.sink.now) (K.holds c.begin_behind.new.sink) (K.faults c.args.sink.now) (K.faults c.begin_behind.new.sink)) c.args.journal.disk c.hand_back.result [] c.args.journal c.in-Err.finish.day c.in-Err.finish.fault
            (starts_kept Q.told Q.seen Q.images Q.moment Q.images_since Q.faults c.args.script.now c.args.journal.kept c.args.journal [] g.met.Q.Disk.only_now refl c.requires.kinds c.requires.most refl)
            c.hand_back.ensures.disk c.hand_back.ensures.durable begun.begun.1 (back_windows c.in-Err.finish.day [] c.in-Err.ensures.kept);
      };
      durable = c.settled.ensures.durable;
    }

pub windows-init : goal.windows-init
windows-init g c =
    let D = g.B.Dev.Device in
    let K = g.K.Sink in
    let Q = g.Q.Disk in
    let begun = c.in-Ok.ensures.goes_on in
    let before = c.kept-before.result in
    let same : c.args.journal.kept ≡ before = sym c.kept-before.ensures in
    let goes_on : GoesOnBehind c.args.script.now before c.args.journal.last begun.begins = subst (λ n. GoesOnBehind c.args.script.now n c.args.journal.last begun.begins) same begun.goes_on in
    let sink = written (K.holds c.args.sink.now) (K.holds c.begin_behind.new.sink) (K.faults c.args.sink.now) (K.faults c.begin_behind.new.sink) in
    let shown = D.shows in
    let going : IsGoingOn IsReplayOf shown (kept_course before begun.begins) c.args.options sink c.in-Ok.day.home c.in-Ok.day.windows.items =
    subst (λ n. IsGoingOn IsReplayOf shown (kept_course n begun.begins) c.args.options sink c.in-Ok.day.home c.in-Ok.day.windows.items) same begun.begun.1 in
    let none = λ (last : c.args.journal.last ≡ None). sym same ∙ c.begin_behind.ensures.none last in
    record {
      counted = begun.begun.0;
      so_far = (
        begun.begins,
        goes_on,
        record {
          going = subst (λ cs. IsGoingOn IsReplayOf shown cs c.args.options sink c.in-Ok.day.home c.in-Ok.day.windows.items) (sym (same_course c.args.script.now before c.args.journal.last begun.begins none goes_on)) going;
          on_disk = starts_kept Q.told Q.seen Q.images Q.moment Q.images_since Q.faults c.args.script.now before c.args.journal c.in-Ok.day.windows.items g.met.Q.Disk.only_now c.in-Ok.ensures.kept c.requires.kinds c.requires.most same;
        },
      );
    }

-- the next window is one of the script
pub keep_next-requires-clause-next : goal.keep_next-requires-clause-next
keep_next-requires-clause-next g c =
    let counted = c.windows.invariant.counted in
    let more = c.windows-test.true in
    let len = c.len.ensures in
    let from = c.from.ensures in
    omega (arith, counted, more, len, from)

pub keep_next-requires-clause-kinds : goal.keep_next-requires-clause-kinds
keep_next-requires-clause-kinds g c = c.windows.invariant.so_far.2.going.under_way.kinds

pub keep_next-requires-clause-few : goal.keep_next-requires-clause-few
keep_next-requires-clause-few g c =
    let opened = c.windows.invariant.so_far.2.going.under_way.opened in
    let counted = c.windows.invariant.counted in
    let more = c.windows-test.true in
    let len = c.len.ensures in
    let few = c.requires.sound.few_windows in
    let all = length-map c.args.script.now.windows.items plain_window in
    omega (arith, opened, counted, more, len, few, all)

pub keep_next-requires-clause-room : goal.keep_next-requires-clause-room
keep_next-requires-clause-room g c =
    let on_disk = c.windows.invariant.so_far.2.on_disk in
    let counts = on_disk.counts in
    let most = on_disk.most in
    let counted = c.windows.invariant.counted in
    let more = c.windows-test.true in
    let len = c.len.ensures in
    let from = c.from.ensures in
    omega (arith, counts, most, counted, more, len, from)

pub keep_next-requires-clause-same : goal.keep_next-requires-clause-same
keep_next-requires-clause-same g c = c.windows.invariant.so_far.2.on_disk.kinds

pub windows-preserved : goal.windows-preserved
windows-preserved g c =
    let K = g.K.Sink in
    let so = c.windows.invariant.so_far in
    let on = c.in-Ok-keep_next.ensures (kept_course c.kept-before.result so.0) (K.holds c.args.sink.now) (K.faults c.args.sink.now) c.args.journal.disk so.2 in
    let counted = c.windows.invariant.counted in
    let more = on.0 in
    record { counted = omega (arith, counted, more); so_far = (so.0, so.1, on.1) }

pub returns-in-Err-keep_next : goal.returns-in-Err-keep_next
returns-in-Err-keep_next g c =
    let D = g.B.Dev.Device in
    let K = g.K.Sink in
    let Q = g.Q.Disk in
    let so = c.windows.invariant.so_far in
    let before = c.kept-before.result in
    let same : c.args.journal.kept ≡ before = sym c.kept-before.ensures in
    let shown = D.shows in
    let sink = written (K.holds c.args.sink.now) (K.holds c.keep_next.new.sink) (K.faults c.args.sink.now) (K.faults c.keep_next.new.sink) in
    let ended = c.in-Err-keep_next.ended in
    let end = c.in-Err-keep_next.ensures (kept_course before so.0) (K.holds c.args.sink.now) (K.faults c.args.sink.now) c.args.journal.disk so.2 in
    let none = λ (last : c.args.journal.last ≡ None). sym same ∙ c.begin_behind.ensures.none last in
    record {
      status = end.0;
      ends = subst (λ n. HasEndedBehind IsReplayOf shown Q.told Q.seen Q.images Q.moment Q.images_since Q.faults c.args.script.now n c.args.journal.last c.args.options sink c.args.journal.disk ended.1 ended.0.day ended.0.fault) (sym same)
          (record {
            begins = so.0;
            goes_on = so.1;
            ended = subst (λ cs. HasEndedKept IsReplayOf shown Q.told Q.seen Q.images Q.moment Q.images_since Q.faults c.args.script.now cs c.args.options sink c.args.journal.disk ended.1 ended.0.day ended.0.fault)
                (same_course c.args.script.now before c.args.journal.last so.0 none so.1) end.1;
          });
      durable = c.settled.ensures.durable;
    }

pub returns : goal.returns
returns g c =
    let D = g.B.Dev.Device in
    let K = g.K.Sink in
    let Q = g.Q.Disk in
    let so = c.windows.invariant.so_far in
    let before = c.kept-before.result in
    let same : c.args.journal.kept ≡ before = sym c.kept-before.ensures in
    let shown = D.shows in
    let sink = written (K.holds c.args.sink.now) (K.holds c.end-finish.new.sink) (K.faults c.args.sink.now) (K.faults c.end-finish.new.sink) in
    let course = course_behind c.args.script.now before (kept_course before so.0) in
    let counted = c.windows.invariant.counted in
    let at_end = c.windows-test.false in
    let within : length c.windows.kept.day.windows.items ≤ length (drop before c.args.script.now.windows.items) = so.2.going.under_way.played.count in
    let len = c.len.ensures in
    let from = c.from.ensures in
    let all = behind_all c.args.script.now before (length c.windows.kept.day.windows.items) (omega (arith, counted, at_end, within, len, from, length-drop before c.args.script.now.windows.items)) in
    let end = c.end-finish.ensures.ends course (K.holds c.args.sink.now) (K.faults c.args.sink.now) so.2.going all in
    let none = λ (last : c.args.journal.last ≡ None). sym same ∙ c.begin_behind.ensures.none last in
    record {
      status = c.end-finish.ensures.status;
      ends = subst (λ n. HasEndedBehind IsReplayOf shown Q.told Q.seen Q.images Q.moment Q.images_since Q.faults c.args.script.now n c.args.journal.last c.args.options sink c.args.journal.disk c.hand_back-disk.result c.end-finish.result.day c.end-finish.result.fault) (sym same)
          (record {
            begins = so.0;
            goes_on = so.1;
            ended = subst (λ cs. HasEndedKept IsReplayOf shown Q.told Q.seen Q.images Q.moment Q.images_since Q.faults c.args.script.now cs c.args.options sink c.args.journal.disk c.hand_back-disk.result c.end-finish.result.day c.end-finish.result.fault)
                (same_course c.args.script.now before c.args.journal.last so.0 none so.1)
                (ended_kept Q.told Q.seen Q.images Q.moment Q.images_since Q.faults c.args.script.now before IsReplayOf shown course c.args.options sink
                c.args.journal.disk c.hand_back-disk.result c.windows.kept.day.windows.items c.windows.kept.journal c.end-finish.result.day
                c.end-finish.result.fault
                so.2.on_disk c.hand_back-disk.ensures.disk c.hand_back-disk.ensures.durable end (back_windows c.end-finish.result.day c.windows.kept.day.windows.items c.end-finish.ensures.kept));
          });
      durable = c.settled.ensures.durable;
    }
