use Rattle.command_rules.specs.Rosters.{runs_of}
use Rattle.hub_core.proofs.Cited.{may_open}
use Rattle.day_tests.proofs.hubs.open_first.Goals as goal
use Rattle.routine_reader.specs.Rosters.{kinds_of, script_runs}
use Rattle.std.proofs.Common.{arith, refl, rules, ◌≡◌}
use Rattle.std.specs.Prelude.{Some, slice_get, ◌≤◌}

pub open_window-requires : goal.open_window-requires
open_window-requires g c =
    let D = g.B.Dev.Device in
    let script = c.args.script.now in
    let window = c.in_ok-window.window.now in
    let home = c.in_ok-home.home in
    let at : slice_get script.windows.items 0 ≡ Some window = search rules in
    let runs : runs_of c.in_ok-roster.roster ≡ script_runs script 0 = search rules in
    let kinds : home.kinds ≡ kinds_of script = search rules in
    let opened : home.opened ≡ 0 = search rules in
    let few : home.opened ≤ 288 = omega (arith, opened) in
    record {
      may = may_open D.shows script _ 0 window home c.in_ok-roster.roster
          (record { sound = c.requires.sound; goes = refl; at = at; runs = runs; kept = c.kept_invariant.ensures; kinds = kinds; opened = few });
    }
