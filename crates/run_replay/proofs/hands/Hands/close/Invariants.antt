use Rattle.run_replay.proofs.Prelude.{HoldNothing, vec_len}
use Rattle.run_replay.proofs.hands.Hands.close.Given as goal

-- the hands that are left hold nothing
abbrev pub invariant-hands : goal.invariant-hands
invariant-hands g l = HoldNothing l.grips.items

abbrev pub decreases-hands : goal.decreases-hands
decreases-hands g l = vec_len l.grips
