use Rattle.routine_reader.proofs.homes.script_kinds.Given as goal
use Rattle.routine_reader.proofs.Prelude.{map, take, ◌≡◌}

-- the kinds of the devices up to here
abbrev pub invariant-texts : goal.invariant-texts
invariant-texts l = l.kinds.items ≡ map (λ d. d.kind) (take l.text-index l.script.devices.items)
