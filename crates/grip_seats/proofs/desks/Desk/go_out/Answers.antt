use Rattle.grip_seats.proofs.Moves.{cuts, goes_out}
use Rattle.grip_seats.proofs.desks.Desk.go_out.Goals as goal
use Rattle.std.proofs.Common.{rules}
use Rattle.std.specs.Prelude.{None, Some, slice_get, ◌==◌, ◌≡◌}
use prog.Atomic.{either}

pub compare_exchange_with-requires : goal.compare_exchange_with-requires
compare_exchange_with-requires g c =
    let home : slice_get c.self.inside.seat.me.0.out c.args.place ≡ Some None = search rules in
    (c.self.invariant.same, c.self.invariant.words, goes_out _ c.self.inside.seat.id 0 c.args.place (λ n. either (n == 0) 0 n) c.args.what c.self.inside.seat.me.0.out c.self.inside.seat.me c.self.invariant.keeps home)

pub split_seat-seat-requires : goal.split_seat-seat-requires
split_seat-seat-requires g c = (search rules, c.self.invariant.words, λ s kept at. cuts s.views _ _ kept at)
