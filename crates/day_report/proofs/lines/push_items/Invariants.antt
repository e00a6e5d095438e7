use Rattle.day_report.proofs.lines.push_items.Given as goal
use Rattle.day_report.proofs.Prelude.{flat_map, item_word, string_bytes, take, ◌++◌, ◌≡◌}

-- the text has grown by the items so far
abbrev pub invariant-items : goal.invariant-items
invariant-items l = string_bytes l.text ≡ string_bytes l.initial.text ++ flat_map (item_word l.script) (take l.item-index l.order)
