use Rattle.serial_line.proofs.Prelude.{List, ap, arith, commands_at, is_on, leader_at, length, length-map, list_any, plain_run, runs_of, slice_get, subst, suc, sym, ◌∙◌, ◌≡◌}
use Rattle.home_types.specs.declared.commands.Command.{Command}
use Rattle.serial_line.proofs.KeptRuns.{AreFirstKept, all_kept, one_kept, room_stays}
use Rattle.serial_line.proofs.kept_runs.KeptRuns.of.Goals as goal
use Rattle.std.specs.Option.{option_copied}

pub kept_of-requires : goal.kept_of-requires
kept_of-requires c = λ k e there.
    let same = commands_at c.args.roster.now c.runs.at c.unwrap-run.result.now (sym c.get.ensures ∙ ap option_copied c.unwrap-run.ensures) in
    c.requires.low_devices (suc c.runs.at) k e (ap (λ (cs : List Command). slice_get cs k) same ∙ there)

pub runs-preserved : goal.runs-preserved
runs-preserved c =
    let there = sym c.get.ensures ∙ ap option_copied c.unwrap-run.ensures in
    let same = commands_at c.args.roster.now c.runs.at c.unwrap-run.result.now there in record {
      end = c.runs.invariant.end;
      kept = rw c.in_ok-push.ensures.ok (one_kept c.runs.at (runs_of c.args.roster.now) c.runs.runs.items _ c.runs.invariant.kept (record {
        devices = λ d. c.kept_of.ensures.devices d ∙ ap (list_any (is_on d)) (sym same);
        leader = c.kept_of.ensures.leader ∙ sym (leader_at c.args.roster.now c.runs.at c.unwrap-run.result.now there);
      }));
      room = room_stays c.runs.runs c.push.new.self _ c.in_ok-push.ensures.ok c.in_ok-push.ensures.used c.runs.invariant.room;
    }

pub returns : goal.returns
returns c =
    let upto = c.runs-test.false in
    let low = c.runs.auto.at-end in
    let end = c.runs.invariant.end in
    let many : length (runs_of c.args.roster.now) ≡ length c.args.roster.now.runs.items = length-map c.args.roster.now.runs.items plain_run in
    let all : c.runs.at ≡ length (runs_of c.args.roster.now) = omega (arith, upto, low, end, many) in
    all_kept (runs_of c.args.roster.now) c.runs.runs.items (subst (λ n. AreFirstKept n (runs_of c.args.roster.now) c.runs.runs.items) all c.runs.invariant.kept)
