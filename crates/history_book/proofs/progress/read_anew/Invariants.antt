use Rattle.history_book.proofs.progress.read_anew.Given as goal
use Rattle.history_book.proofs.Prelude.{progress_in, take, ◌≡◌}

-- the entries before this one are read
abbrev pub invariant-entries : goal.invariant-entries
invariant-entries l = l.progress ≡ progress_in (take l.at l.history) l.r.0
