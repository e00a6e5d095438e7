use Rattle.routine_reader.proofs.RosterLemmas.{few_kinds}
use Rattle.routine_reader.proofs.homes.script_kinds.Goals as goal
use Rattle.routine_reader.proofs.Prelude.{ap, map, sym, take_all, ◌∙◌}

-- all of them
pub returns-clause-few : goal.returns-clause-few
returns-clause-few c =
    let whole = take_all c.texts.text-index c.args.script.now.devices.items (rw (sym c.as_slice-text-items.ensures) c.texts-test.false) in
    few_kinds c.args.script.now c.texts.kinds.items c.requires.sound (c.texts.invariant ∙ ap (λ ts. map (λ t. t.kind) ts) whole)
