use Rattle.hub_threads.proofs.Prelude.{IsBlocked, SleepersAreBlocked, ap, configuration_of, has_run, has_run_bit, rules, subst, sym, true, ℕ, ◌&&◌, ◌==◌, ◌||◌, ◌∙◌, ◌≡◌}
use Rattle.hub_threads.proofs.RunWords.{blocked_noted, noted, word_noted}
use Rattle.hub_threads.proofs.sleepers.still_blocked.Goals as goal
use Rattle.hub_threads.proofs.sleepers.still_blocked.Goals.{else-has, then-has+then-is_blocked}

pub runs-preserved : goal.runs-preserved
runs-preserved g c = elim c.if-has.branch [
  | then-has+then-is_blocked w ↦ (
      let more : (q : ℕ) → has_run c.if-has.left q ≡ (has_run c.runs.left q || (has_run_bit c.lowest-r.result.0 && (q == c.lowest-r.result.0))) = λ q. ap (λ word. has_run word q) w.left-is ∙ noted c.runs.left w.bit_of-left.result c.lowest-r.result.0 w.bit_of-left.ensures q in
      let own : IsBlocked (configuration_of c.args.hub.now) c.lowest-r.result.0 = search rules in
      let within : has_run c.args.word c.lowest-r.result.0 ≡ true = search rules in
      (blocked_noted (configuration_of c.args.hub.now) c.runs.left c.if-has.left c.lowest-r.result.0 more own c.runs.invariant.0, word_noted c.args.word c.runs.left c.if-has.left c.lowest-r.result.0 more within c.runs.invariant.1))
  | else-has w ↦ subst (λ left. SleepersAreBlocked (configuration_of c.args.hub.now) left × ((r : ℕ) → has_run left r ≡ true → has_run c.args.word r ≡ true)) (sym w.left-is) c.runs.invariant
]
