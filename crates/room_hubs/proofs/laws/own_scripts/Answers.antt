use Rattle.room_hubs.proofs.RoomScripts.{own_kinds_are, own_runs_are, own_start_is}
use Rattle.room_hubs.proofs.laws.own_scripts.Goals as goal

pub returns-clause-runs : goal.returns-clause-runs
returns-clause-runs c script k window = own_runs_are script k window

pub returns-clause-kinds : goal.returns-clause-kinds
returns-clause-kinds c script k window = own_kinds_are script k window

pub returns-clause-start : goal.returns-clause-start
returns-clause-start c script k window = own_start_is script k window
