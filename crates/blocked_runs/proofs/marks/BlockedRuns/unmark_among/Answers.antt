use Rattle.command_rules.proofs.Cited.{device_below}
use Rattle.blocked_runs.proofs.Prelude.{arith, commands_of, most_devices, runs_of, sym, touches, ◌<◌, ◌∙◌}
use Rattle.blocked_runs.proofs.marks.BlockedRuns.unmark_among.Goals as goal
use Rattle.blocked_runs.proofs.Marking.{all_left, left_done, left_more}

pub overflow_add-from : goal.overflow_add-from
overflow_add-from c =
    let low : c.in-Some.d.0 < most_devices = device_below c.in-Some.d.0 most_devices (commands_of (runs_of c.args.roster.now) c.args.r.0) (c.kept_invariant.ensures.low_devices c.args.r.0) (sym (c.devices-devices.ensures c.in-Some.d.0) ∙ c.in-Some.ensures.1) in
    omega (arith, low)

pub marked-init : goal.marked-init
marked-init c = all_left _ (λ d low. absurd (omega (arith, low)))

pub marked-preserved : goal.marked-preserved
marked-preserved c = left_more _ _ _ (λ e. touches (runs_of c.args.roster.now) c.args.r.0 e) c.marked.from.0 c.in-Some.d.0 c.marked.invariant (λ q low high. sym (c.devices-devices.ensures q) ∙ c.in-Some.ensures.2 q low high) c.unmark_at.ensures

pub marked-smaller : goal.marked-smaller
marked-smaller c =
    let low : c.in-Some.d.0 < most_devices = device_below c.in-Some.d.0 most_devices (commands_of (runs_of c.args.roster.now) c.args.r.0) (c.kept_invariant.ensures.low_devices c.args.r.0) (sym (c.devices-devices.ensures c.in-Some.d.0) ∙ c.in-Some.ensures.1) in
    omega (arith, low, c.in-Some.ensures.0)

pub returns : goal.returns
returns c = left_done _ _ (λ e. touches (runs_of c.args.roster.now) c.args.r.0 e) c.marked.from.0 c.marked.invariant (λ q low. sym (c.devices-devices.ensures q) ∙ c.in_default.ensures q low)
