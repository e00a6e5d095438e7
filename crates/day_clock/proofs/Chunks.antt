-- Bytes that are taken chunk by chunk.
use Rattle.day_clock.specs.Sinks.{AppendsPart}
use Rattle.day_clock.specs.Sources.{TakesCount, TakesUpTo}
use Rattle.std.proofs.Common.{List, None, Option, Some, append_assoc, ap, arith, drop, length, length-append, subst, sym, take, take-append-drop, ℕ, ◌++◌, ◌+◌, ◌-◌, ◌<◌, ◌≡◌, ◌≤◌, ◌∙◌}
use Rattle.std.proofs.Math.Seq.{drop-append_seam, take-append_seam}
use Rattle.std.proofs.lemmas.List.{take_rest}
use Rattle.std.specs.Io.KnownBytes.{Appends, Consumes}

-- what was appended so far is a first part, where something is left
pub AppendsPart-of_rest : (old new : Option (List ℕ)) (bytes done rest : List ℕ) → bytes ≡ done ++ rest → 0 < length rest
    → Appends old new done → AppendsPart old new bytes
AppendsPart-of_rest old new bytes done rest split some appended =
    let whole : length bytes ≡ length done + length rest = ap length split ∙ length-append done rest in
    let front : take (length done) bytes ≡ done = ap (take (length done)) split ∙ take-append_seam done rest in
    let less : length done < length bytes = omega arith in
    (length done, less, subst (Appends old new) (sym front) appended)

-- the next n bytes of the rest go over to those done
pub front_moves : (bytes done rest : List ℕ) (n : ℕ) → bytes ≡ done ++ rest → bytes ≡ (done ++ take n rest) ++ drop n rest
front_moves bytes done rest n split =
    split ∙ ap (λ l. done ++ l) (sym (take-append-drop n rest)) ∙ sym (append_assoc done (take n rest) (drop n rest))

-- the same, where the rest is the slice that the code takes
pub front_goes : (bytes done rest : List ℕ) (n : ℕ) → bytes ≡ done ++ rest
    → bytes ≡ (done ++ take n rest) ++ take (length rest - n) (drop n rest)
front_goes bytes done rest n split = front_moves bytes done rest n split ∙ ap (λ l. (done ++ take n rest) ++ l) (sym (take_rest rest n))

-- bytes that a source has given are its first ones
pub TakesCount-of_bytes : (old new : Option (List ℕ)) (bytes : List ℕ) → Consumes old new bytes → TakesCount old new (length bytes)
TakesCount-of_bytes None new bytes given = tt
TakesCount-of_bytes (Some left) None bytes given = given
TakesCount-of_bytes (Some left) (Some rest) bytes given =
    let whole : length left ≡ length bytes + length rest = ap length given ∙ length-append bytes rest in
    (omega arith, sym (ap (drop (length bytes)) given ∙ drop-append_seam bytes rest))

pub TakesUpTo-of_bytes : (old new : Option (List ℕ)) (bytes : List ℕ) (n : ℕ) → length bytes ≤ n → Consumes old new bytes
    → TakesUpTo old new n
TakesUpTo-of_bytes old new bytes n few given = (length bytes, few, TakesCount-of_bytes old new bytes given)
