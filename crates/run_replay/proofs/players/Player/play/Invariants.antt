use Rattle.run_replay.proofs.players.Player.play.Given as goal
use Rattle.run_replay.proofs.Prelude.{ArePicked, PlayerStays, play_of, take, ℕ}

abbrev pub invariant-picks : goal.invariant-picks
invariant-picks g l =
    ((acts : ℕ) → (later : ℕ) × ArePicked l.initial.self.rounds (take l.actor-index l.picks) (play_of l.initial.self acts) (play_of l.self later))
    × PlayerStays g.D.Device.shows l.initial.self l.self
