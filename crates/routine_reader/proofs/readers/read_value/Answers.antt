use Rattle.routine_reader.proofs.ReadingLemmas.{value-none, value-some}
use Rattle.routine_reader.proofs.readers.read_value.Goals as goal
use Rattle.routine_reader.proofs.Prelude.{refl, rules, view}

pub returns-else-is_memory-clause-refused : goal.returns-else-is_memory-clause-refused
returns-else-is_memory-clause-refused c = λ _. (refl, value-none c.args.bytes.now (search rules))

pub returns-in-Ok-clause-reading : goal.returns-in-Ok-clause-reading
returns-in-Ok-clause-reading c =
    value-some c.args.bytes.now (view c.in-Ok.value) c.in-Ok.ensures.ok.0 c.in-Ok.ensures.ok.1
