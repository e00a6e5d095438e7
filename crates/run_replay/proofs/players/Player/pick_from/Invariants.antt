use Rattle.run_replay.proofs.Numbers.{HaveTried, those}
use Rattle.run_replay.proofs.players.Player.pick_from.Given as goal
use Rattle.run_replay.proofs.Prelude.{PlayerStays, [], are_live, false, from_place, is_ended, length, ◌++◌, ◌-◌, ◌<◌, ◌≡◌}

abbrev pub decreases-ahead : goal.decreases-ahead
decreases-ahead g l = 65 - l.at

-- those that are left stand from this number on, and before the first one
abbrev pub invariant-ahead : goal.invariant-ahead
invariant-ahead g l =
    HaveTried l.initial.self l.self (from_place l.place (are_live l.initial.self)) (those l.initial.self l.at (length l.initial.self.grips) ++ those l.initial.self 0 l.first)
    × (l.at < 65 → is_ended l.self l.at ≡ false)
    × PlayerStays g.D.Device.shows l.initial.self l.self

abbrev pub decreases-behind : goal.decreases-behind
decreases-behind g l = l.first - l.at

-- those that are left stand from this number on, before the first one
abbrev pub invariant-behind : goal.invariant-behind
invariant-behind g l =
    HaveTried l.fn.self l.self (from_place l.place (are_live l.fn.self)) (those l.fn.self l.at l.first ++ [])
    × (l.at < 65 → is_ended l.self l.at ≡ false)
    × PlayerStays g.D.Device.shows l.fn.self l.self
