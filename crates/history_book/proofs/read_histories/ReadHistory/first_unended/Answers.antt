use Rattle.history_book.proofs.HistoryReads.{place_run, unended}
use Rattle.history_book.proofs.Searching.{here_number, no_number, past_number}
use Rattle.history_book.proofs.read_histories.ReadHistory.first_unended.Goals as goal
use Rattle.history_book.proofs.Prelude.{IsTrue, RunProgress, Some, ap, arith, false, is_none, is_run, length, not, read_in, subst, suc, sym, true, ℕ, ◌+◌, ◌<◌, ◌∙◌, ◌≡◌, ◌≤◌}

pub overflow_cast-r : goal.overflow_cast-r
overflow_cast-r c = omega (arith, c.runs-test.true, c.run_count-at-end.ensures.few)

pub overflow_add-r : goal.overflow_add-r
overflow_add-r c = omega (arith, c.runs-test.true, c.run_count-at-end.ensures.few)

pub progress-requires : goal.progress-requires
progress-requires c =
    let within : c.runs.at < length c.args.self.now.setting.runs = omega (arith, c.runs-test.true, c.run_count-at-end.ensures.count) in
    let number : suc c.runs.at ≡ c.runs.at + 1 = omega arith in
    subst (λ r. IsTrue (is_run c.args.self.now.setting.runs r)) number (place_run c.args.self.now.setting.runs c.runs.at within)

pub runs-preserved : goal.runs-preserved
runs-preserved c =
    let within : c.runs.at < length c.args.self.now.setting.runs = omega (arith, c.runs-test.true, c.run_count-at-end.ensures.count) in
    let number : 1 + c.runs.at ≡ c.runs.at + 1 = omega arith in
    let here = ap (λ k. is_none ((read_in c.args.self.now).run k).ended) number ∙ ap (λ (p : RunProgress). is_none p.ended) (sym c.progress.ensures) ∙ unended c.progress.result.ended false (c.is_none.ensures ∙ ap not c.if-is_none.false) in
    past_number (λ r. is_none ((read_in c.args.self.now).run r).ended) 1 _ c.runs.at within here c.runs.invariant

pub returns-then-is_none : goal.returns-then-is_none
returns-then-is_none c =
    let within : c.runs.at < length c.args.self.now.setting.runs = omega (arith, c.runs-test.true, c.run_count-at-end.ensures.count) in
    let number : 1 + c.runs.at ≡ c.runs.at + 1 = omega arith in
    let here = ap (λ k. is_none ((read_in c.args.self.now).run k).ended) number ∙ ap (λ (p : RunProgress). is_none p.ended) (sym c.progress.ensures) ∙ unended c.progress.result.ended true (c.is_none.ensures ∙ ap not c.if-is_none.true) in
    ap (λ (k : ℕ). Some k) (sym number) ∙ here_number (λ r. is_none ((read_in c.args.self.now).run r).ended) 1 _ c.runs.at within here c.runs.invariant

pub returns : goal.returns
returns c =
    let past : length c.args.self.now.setting.runs ≤ c.runs.at = omega (arith, c.runs-test.false, c.run_count-at-end.ensures.count) in
    no_number (λ r. is_none ((read_in c.args.self.now).run r).ended) 1 _ c.runs.at past c.runs.invariant
