use Rattle.hub_core.proofs.Cited.{may_open}
use Rattle.routine_reader.proofs.Cited.{window-there}
use Rattle.step_table.proofs.Prelude.{arith, ◌≤◌}
use Rattle.step_table.proofs.openings.open_window.Goals as goal

pub open_window-requires : goal.open_window-requires
open_window-requires c =
    let script = c.args.script.now in
    let mode = c.args.mode in
    let home = c.in-Ok-build.home in
    let window = c.index-as_slice-0.result in
    let at = window-there script 0 c.as_slice.result.now window c.requires.there c.as_slice.ensures c.index-as_slice-0.is in
    let few : home.opened ≤ 288 = omega (arith, c.in-Ok-build.ensures.opened) in
    record {
      may = may_open _ script mode 0 window home c.in-Ok.roster
          (record { sound = c.requires.sound; goes = c.requires.goes; at = at; runs = c.in-Ok.ensures; kept = c.kept_invariant.ensures; kinds = c.in-Ok-build.ensures.kinds; opened = few });
    }
