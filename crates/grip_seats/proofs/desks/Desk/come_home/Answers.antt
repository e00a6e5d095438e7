use Rattle.grip_seats.proofs.Moves.{comes_home, joins}
use Rattle.grip_seats.proofs.desks.Desk.come_home.Goals as goal
use Rattle.std.proofs.Common.{rules}

pub join_seat-requires : goal.join_seat-requires
join_seat-requires g c = (c.self.invariant.same, search rules, c.pass.invariant, c.self.invariant.words, λ s kept at apart there. joins s.views _ _ _ _ kept at apart there)

pub load-requires : goal.load-requires
load-requires g c = (search rules, c.self.invariant.words, comes_home _ _ 0 c.self.inside.seat.me.0.out c.pass.inside.seat.me.0.claim c.join_seat.new.seat.me (search rules))
