use Rattle.timeline_scheduler.proofs.Prelude.{count_by, not, ◌≡◌}
use Rattle.timeline_scheduler.proofs.Rounds.{IsRound}
use Rattle.timeline_scheduler.proofs.places.place.Given as goal

-- the set so far is closed, holds the base, and is part of the timeline's
abbrev pub invariant-rounds : goal.invariant-rounds
invariant-rounds l = IsRound l.s l.r.0 l.moment l.scratch.before l.scratch.slots × (l.scratch.items ≡ l.initial.scratch.items)

abbrev pub decreases-rounds : goal.decreases-rounds
decreases-rounds l = count_by not l.scratch.before
