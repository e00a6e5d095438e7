use Rattle.day_clock.proofs.Chunks.{AppendsPart-of_rest, front_goes, front_moves}
use Rattle.day_clock.proofs.sinks.write_all.Goals as goal
use Rattle.std.proofs.Common.{arith, drop, length, rules, take, ◌++◌, ◌<◌}
use Rattle.std.proofs.KnownBytes.{Appends-kept, Appends-trans}
use Rattle.std.proofs.lemmas.List.{length-drop}
use Rattle.std.proofs.lemmas.Result.{err_from_is_err_and}

pub returns-in_err-count-clause-part : goal.returns-in_err-count-clause-part
returns-in_err-count-clause-part g c =
    let (done, split, appended) = c.loop-rest.invariant.0 in
    let some : 0 < length c.loop-rest.rest.now = search rules in
    let p = err_from_is_err_and c.from_residual.result c.from_residual.ensures.1 in
    rw p.1 (AppendsPart-of_rest _ _ _ done _ split some (Appends-kept _ _ _ _ appended c.in_err-count.ensures.keeps))

-- nothing was taken of what is left
pub returns-then-count-eq0-clause-part : goal.returns-then-count-eq0-clause-part
returns-then-count-eq0-clause-part g c =
    let (done, split, appended) = c.loop-rest.invariant.0 in
    let rest = c.loop-rest.rest.now in
    let n = c.in_ok-count.count in
    let some : 0 < length rest = search rules in
    let left : 0 < length (drop n rest) = simp length-drop (omega arith) in
    AppendsPart-of_rest _ _ _ (done ++ take n rest) _ (front_moves _ done rest n split) left
    (Appends-trans _ _ _ _ _ appended c.in_ok-count.ensures.appends)

pub loop-rest-preserved : goal.loop-rest-preserved
loop-rest-preserved g c =
    let (done, split, appended) = c.loop-rest.invariant.0 in
    let rest = c.loop-rest.rest.now in
    let n = c.in_ok-count.count in
    ((done ++ take n rest, front_goes _ done rest n split, Appends-trans _ _ _ _ _ appended c.in_ok-count.ensures.appends), search rules)
