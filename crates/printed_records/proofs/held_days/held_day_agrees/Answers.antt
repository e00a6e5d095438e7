use Rattle.printed_records.proofs.Prelude.{WindowRecord, ap, are_small, list_all, sym, ◌∙◌}
use Rattle.printed_records.proofs.LegalDays.{legal_agrees}
use Rattle.printed_records.proofs.SmallCauses.{held_small}
use Rattle.printed_records.proofs.held_days.held_day_agrees.Goals as goal

pub returns : goal.returns
returns c =
    legal_agrees c.args.script.now c.args.mode c.args.records.now.items c.requires.sound c.requires.promised c.requires.legal c.requires.count c.args.trace
    (held_small c.args.records.now.items (ap (list_all (λ (closed : WindowRecord). are_small closed.history.items)) (sym c.as_slice.ensures) ∙ c.small_times.ensures))
