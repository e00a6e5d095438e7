use Rattle.home_states.proofs.Joining.{both_joined, if_not_err, may_join}
use Rattle.home_states.proofs.joinings.join_in.Goals as goal
use Rattle.live_scripts.proofs.Cited.{may_take}
use Rattle.home_states.proofs.Prelude.{length, rules, ◌+◌, ◌≡◌}

pub add_run-requires : goal.add_run-requires
add_run-requires c =
    let last : length c.args.script.now.windows.items ≡ c.args.number + 1 = search rules in
    record {
      may = may_join c.args.script.now c.args.table.now.setting.mode c.args.number c.args.table.now.setting c.args.routine c.args.follows _ c.script.ensures.sound c.requires.own
          (may_take c.args.script.now c.args.number c.args.routine c.args.follows last c.in-Ok.ensures.free) c.in-Ok.ensures.run;
    }

pub returns-clause-joined : goal.returns-clause-joined
returns-clause-joined c =
    let last : length c.args.script.now.windows.items ≡ c.args.number + 1 = search rules in
    both_joined c.args.script.now c.add_run-2.new.self c.args.table.now.setting.mode c.args.number c.args.table.now c.add_run.new.self c.args.routine c.args.follows c.in-Ok-add_run.run'.0 _
    c.requires.own last c.in-Ok-add_run.ensures.added c.in-Ok.ensures.run (if_not_err _ c.add_run.result c.if-is_err.ensures.value c.add_run.ensures.joined)
