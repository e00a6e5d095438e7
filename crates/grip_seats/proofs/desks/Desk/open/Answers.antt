use Rattle.grip_seats.proofs.Moves.{opens}
use Rattle.grip_seats.proofs.desks.Desk.open.Goals as goal

pub of_words-requires : goal.of_words-requires
of_words-requires g c = opens c.args.places
