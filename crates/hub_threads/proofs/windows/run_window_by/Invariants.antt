use Rattle.hub_threads.proofs.windows.run_window_by.Given as goal
use Rattle.hub_threads.proofs.Worked.{window_of}

abbrev pub ghosts-run_named-N-Ledger : goal.ghosts-run_named-N-Ledger
ghosts-run_named-N-Ledger g a = record { name = a.blank.name; parts = a.blank.parts }

abbrev pub ghosts-run_named-N-Name : goal.ghosts-run_named-N-Name
ghosts-run_named-N-Name g a = record { window = window_of g.D.Device.shows (g.C.Clock.earliest a.window.clock.now) (g.C.Clock.latest a.window.clock.now) a.hub; desk = a.desk.name }
