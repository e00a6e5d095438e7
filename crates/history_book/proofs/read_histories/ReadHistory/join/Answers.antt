use Rattle.history_book.proofs.HistoryReads.{join_read}
use Rattle.history_book.proofs.read_histories.ReadHistory.join.Goals as goal
use Rattle.history_book.proofs.Prelude.{HistoryState, ap, arith, length, most_runs, plain_run, rules, runs_of, ◌+◌, ◌<◌, ◌≡◌}

pub invariant_of-self-2 : goal.invariant_of-self-2
invariant_of-self-2 c =
    let room : c.reserve.new.self.spare ≡ c.self.inside.book.spare + c.args.entries = search rules in
    let some : 0 < c.reserve.new.self.spare = omega (arith, room, c.requires.some) in
    let low : length (runs_of c.self.inside.roster) < most_runs = rw (ap (λ (s : HistoryState). length s.setting.runs) c.self.view_is) c.requires.number in
    join_read c.join.result _ (plain_run c.args.run) (runs_of c.join.new.self) _ _ _ _ _ c.join.ensures.joined c.join.ensures.refused c.reserve.ensures.items low some c.self.invariant
