use Rattle.order_checker.proofs.SoundRuns.{reader-stands}
use Rattle.order_checker.proofs.windows.read_order_end.Goals as goal
use Rattle.order_checker.proofs.Prelude.{ap, length, ◌∙◌}

pub read_order-requires : goal.read_order-requires
read_order-requires c =
    reader-stands c.args.script.now c.args.number c.args.window.now _ c.requires.sound c.requires.window c.as_slice.ensures c.requires.home c.in_ok-roster.ensures (ap length c.as_slice-2.ensures ∙ c.requires.count)

pub home_behind-requires-clause-reader : goal.home_behind-requires-clause-reader
home_behind-requires-clause-reader c =
    reader-stands c.args.script.now c.args.number c.args.window.now _ c.requires.sound c.requires.window c.as_slice.ensures c.requires.home c.in_ok-roster.ensures (ap length c.as_slice-2.ensures ∙ c.requires.count)
