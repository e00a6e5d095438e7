use Rattle.hub_commands.proofs.NextWindows.{opened_behind}
use Rattle.hub_commands.proofs.plays.open_next.Goals as goal
use Rattle.hub_commands.proofs.Prelude.{NextIsOpened, ap, length, subst, windows_behind, ◌∙◌}

pub returns-in-Ok-clause-opened : goal.returns-in-Ok-clause-opened
returns-in-Ok-clause-opened g c =
    let D = g.Dev.Device in
    subst (λ k. NextIsOpened D.shows (windows_behind c.args.before c.args.script.now) c.args.mode k c.args.day.home c.in-Ok.hub c.in-Ok.window.now)
    (c.len-count.ensures ∙ ap (λ ws. length ws) c.reserve.ensures.items)
    (opened_behind D.shows c.args.script.now c.args.mode c.args.before c.len-count.result c.args.day.home c.in-Ok.hub c.in-Ok.window.now c.in-Ok.ensures)
