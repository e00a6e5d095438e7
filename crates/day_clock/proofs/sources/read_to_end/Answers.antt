use Rattle.day_clock.proofs.Chunks.{TakesUpTo-of_bytes}
use Rattle.day_clock.proofs.sources.read_to_end.Goals as goal
use Rattle.std.proofs.Common.{arith, length, take, ◌++◌, ◌+◌, ◌≤◌}
use Rattle.std.proofs.KnownBytes.{Consumes-trans}
use Rattle.std.proofs.lemmas.Grind.{common_steps}

-- a chunk that finds no memory was taken all the same
pub returns-in_err-extend_from_slice-clause-taken :
    goal.returns-in_err-extend_from_slice-clause-taken
returns-in_err-extend_from_slice-clause-taken g c =
    let held = c.loop-chunk.held in
    let chunk = take c.in_ok-count.count c.read.new.into in
    let few : length (held.items ++ chunk) ≤ c.args.limit + 1 = grind (arith, common_steps) in
    TakesUpTo-of_bytes _ _ (held.items ++ chunk) _ few (Consumes-trans _ _ _ _ _ c.loop-chunk.invariant.taken c.in_ok-count.ensures.gives)
