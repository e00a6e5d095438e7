use Rattle.lock_leasing.proofs.Prelude.{WindowParts, ap, command_at, sym, ◌∙◌}
use Rattle.lock_leasing.proofs.Meetings.{met_holder, met_none, met_writer}
use Rattle.lock_leasing.proofs.touches.test_touch.Goals as goal

pub returns-in-Some : goal.returns-in-Some
returns-in-Some c = met_holder c.args.s.now c.args.r.0 c.args.c c.command_at-command.result c.in-Some.x (c.command_at-command.ensures ∙ ap (λ (p : WindowParts). command_at p.runs c.args.r.0 c.args.c) c.s.view_is) (sym c.in-Some.is ∙ c.first_holder.ensures)

pub returns-in-Some-find_dirty_writer : goal.returns-in-Some-find_dirty_writer
returns-in-Some-find_dirty_writer c =
    met_writer c.args.s.now c.args.r.0 c.args.c c.command_at-command.result c.in-Some-find_dirty_writer.x (c.command_at-command.ensures ∙ ap (λ (p : WindowParts). command_at p.runs c.args.r.0 c.args.c) c.s.view_is)
    (sym c.in-None.is ∙ c.first_holder.ensures) (sym c.in-Some-find_dirty_writer.is ∙ c.find_dirty_writer.ensures)

pub returns-in-None-find_dirty_writer : goal.returns-in-None-find_dirty_writer
returns-in-None-find_dirty_writer c =
    met_none c.args.s.now c.args.r.0 c.args.c c.command_at-command.result (c.command_at-command.ensures ∙ ap (λ (p : WindowParts). command_at p.runs c.args.r.0 c.args.c) c.s.view_is)
    (sym c.in-None.is ∙ c.first_holder.ensures) (sym c.in-None-find_dirty_writer.is ∙ c.find_dirty_writer.ensures)
