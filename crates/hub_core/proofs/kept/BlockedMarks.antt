-- Where no run is marked, each that is marked is blocked.
use Rattle.blocked_runs.specs.Marks.{BlockedState, NoneMarked}
use Rattle.hub_core.specs.BlockedMarks.{AreBlocked}
use Rattle.hub_core.proofs.Prelude.{Configuration, false, sym, true, ◌∙◌, ◌≡◌}

-- where no run is marked, each that is marked is blocked
pub none_blocked : (s : Configuration) (b : BlockedState) → NoneMarked b → AreBlocked s b
none_blocked s b none = record {
  blocked = λ r marked. absurd (let no : false ≡ true = sym (none r) ∙ marked in cc);
  there = λ r marked. absurd (let no : false ≡ true = sym (none r) ∙ marked in cc);
}
