use Rattle.room_hubs.proofs.Prelude.{ap, get_or, run_no, ◌-◌, ◌∙◌}
use Rattle.room_hubs.proofs.Found.{home_run_at}
use Rattle.room_hubs.proofs.rosters.RoomRoster.home_run.Goals as goal

pub returns : goal.returns
returns c = ap (λ l. get_or l (c.args.run.0 - 1) (run_no 0)) c.as_slice.ensures ∙ home_run_at c.args.self.now c.args.run.0 c.requires
