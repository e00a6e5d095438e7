use Rattle.hub_commands.proofs.Prelude.{IsStateOf, ap, option_map, subst, sym, ◌∙◌}
use Rattle.hub_commands.proofs.BegunBehind.{built_or_none, resumed_or_none}
use Rattle.hub_commands.proofs.kept_days.home_behind.Goals as goal

pub returns-in-Some-clause-home : goal.returns-in-Some-clause-home
returns-in-Some-clause-home g c =
    let D = g.B.Dev.Device in
    resumed_or_none D.shows c.args.script.now c.args.journal.now.kept c.args.journal.now.last c.in-Some.world.now.devices.items c.resume.result
    (sym (ap (λ o. option_map (λ home. home.now.devices.items) o) c.in-Some.is) ∙ c.last.ensures.last) (subst (λ ks. IsStateOf ks c.in-Some.world.now.devices.items) c.requires.kinds c.in-Some.ensures.state)
    c.resume.ensures.kinds c.resume.ensures.opened c.resume.ensures.world c.resume.ensures.devices c.resume.ensures.unprobed

pub returns-in-None-clause-home : goal.returns-in-None-clause-home
returns-in-None-clause-home g c =
    let D = g.B.Dev.Device in
    built_or_none D.shows c.args.script.now c.args.journal.now.kept c.args.journal.now.last c.build.result
    (sym (ap (λ o. option_map (λ home. home.now.devices.items) o) c.in-None.is) ∙ c.last.ensures.last) c.build.ensures.devices c.build.ensures.kinds c.build.ensures.world c.build.ensures.opened
