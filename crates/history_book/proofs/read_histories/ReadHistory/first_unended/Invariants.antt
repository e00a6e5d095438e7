use Rattle.history_book.proofs.Searching.{numbers}
use Rattle.history_book.proofs.read_histories.ReadHistory.first_unended.Given as goal
use Rattle.history_book.proofs.Prelude.{is_none, length, read_in, ◌+◌, ◌-◌, ◌≡◌}

-- each run up to here has ended
abbrev pub invariant-runs : goal.invariant-runs
invariant-runs l =
    numbers (λ r. is_none ((read_in l.self).run r).ended) (1 + l.at) (length l.self.setting.runs - l.at)
    ≡ numbers (λ r. is_none ((read_in l.self).run r).ended) 1 (length l.self.setting.runs)
