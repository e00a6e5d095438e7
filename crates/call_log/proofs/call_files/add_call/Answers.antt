use Rattle.call_log.proofs.Keeping.{slots_more}
use Rattle.call_log.proofs.call_files.add_call.Goals as goal
use Rattle.std.proofs.Common.{[], ap, refl, ◌++◌, ◌∙◌, ◌∷◌}

pub returns-clause-slots : goal.returns-clause-slots
returns-clause-slots c =
    slots_more c.args.pending.now.items c.args.call c.reserve-else-is_err.new.self.items c.push_reserved.new.self.items c.put.new.bytes.items _ c.push_reserved-2.new.self.items
    (c.reserve-else-is_err.ensures.items ∙ c.requires.slots)
    c.push_reserved.ensures.items
    (c.put.ensures.items ∙ ap (λ l. c.push_reserved.new.self.items ++ l) c.bytes.ensures)
    refl
    (c.push_reserved-2.ensures.items ∙ ap (λ l. l ++ c.args.call ∷ []) c.reserve.ensures.items)
