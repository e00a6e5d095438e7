-- The calls of a source in memory are those of a source.
use Rattle.day_clock.specs.BytesSources.{SourceState, after_read, read_answer, read_count}
use Rattle.day_clock.specs.CallPlans.{fails_next}
use Rattle.day_clock.specs.declared.faults.Failed.{Failed}
use Rattle.std.proofs.Common.{Bool, IfOk, List, OnErr, OnOk, Result, Some, ap, arith, drop, false, length, refl, sym, take, true, ℕ, ◌++◌, ◌<◌, ◌≡◌, ◌≤◌, ◌∙◌}
use Rattle.std.proofs.lemmas.List.{length-take-le, take-append-drop}
use Rattle.std.proofs.Math.Seq.{take-append_seam}
use Rattle.std.specs.Io.KnownBytes.{Consumes}

-- the front of what was given is taken from the front of what was left
pub front_given : (left into given : List ℕ) (n : ℕ) → n ≤ length left → given ≡ take n left ++ drop n into
    → left ≡ take n given ++ drop n left
front_given left into given n few e =
    let long : length (take n left) ≡ n = length-take-le n left few in
    let front : take n given ≡ take n left =
    ap (take n) e ∙ ap (λ k. take k (take n left ++ drop n into)) (sym long) ∙ take-append_seam (take n left) (drop n into) in
    sym (ap (λ l. l ++ drop n left) front ∙ take-append-drop n left)

pub record Reads (s s' : SourceState) (given : List ℕ) (r : Result ℕ Failed) : Type 0 where
  pub gives : IfOk r (λ n. Consumes (Some s.left) (Some s'.left) (take n given))
  pub keeps : OnErr r (s'.left ≡ s.left)
  pub fine : OnOk r (s'.faults ≡ s.faults)
  pub failed : OnErr r (s.faults < s'.faults)

pub reads : (b : Bool) (s s' : SourceState) (into given : List ℕ) (r : Result ℕ Failed) → fails_next s.plan ≡ b
    → r ≡ read_answer s (length into) → s' ≡ after_read s (length into) → IfOk r (λ n. given ≡ take n s.left ++ drop n into)
    → Reads s s' given r
reads true s s' into given r plan answer after front =
    let e = rw plan at answer in let e' = rw plan at after in
    rw e (rw e' (record { gives = tt; keeps = refl; fine = tt; failed = omega arith }))
reads false s s' into given r plan answer after front =
    let e = rw plan at answer in let e' = rw plan at after in
    let front' = rw e at front in
    let few : read_count s (length into) ≤ length s.left = omega arith in
    rw e (rw e' (record { gives = front_given s.left into given _ few front'; keeps = tt; fine = refl; failed = tt }))
