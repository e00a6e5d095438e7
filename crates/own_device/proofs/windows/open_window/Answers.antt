use Rattle.command_rules.specs.Rosters.{runs_of}
use Rattle.hub_core.proofs.Cited.{may_open}
use Rattle.own_device.proofs.windows.open_window.Goals as goal
use Rattle.routine_reader.specs.Rosters.{script_runs}
use Rattle.std.proofs.Common.{arith, refl, rules, ◌≡◌}
use Rattle.std.specs.Prelude.{Some, slice_get, ◌≤◌}

pub open_window-requires : goal.open_window-requires
open_window-requires c =
    let script = c.args.script.now in
    let window = c.in-Some.window.now in
    let home = c.args.home in
    let at : slice_get script.windows.items c.args.number ≡ Some window = search rules in
    let runs : runs_of c.in-Ok.roster ≡ script_runs script c.args.number = search rules in
    let new = c.requires.new in
    let few : home.opened ≤ 288 = omega (arith, new) in
    record {
      may = may_open _ script _ c.args.number window home c.in-Ok.roster
          (record { sound = c.requires.sound; goes = refl; at = at; runs = runs; kept = c.kept_invariant.ensures; kinds = c.requires.kinds; opened = few });
    }
