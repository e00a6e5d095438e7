use Rattle.timeline_scheduler.proofs.Prelude.{arith, count_by, rules, ◌≡◌}
use Rattle.timeline_scheduler.proofs.Counting.{count_within}
use Rattle.timeline_scheduler.proofs.scratches.Scratch.count.Goals as goal

pub overflow_cast-result : goal.overflow_cast-result
overflow_cast-result c =
    let all : c.count_set.result ≡ count_by (λ flag. flag) c.args.self.now.before = search rules in
    let most = count_within c.args.self.now.before in
    let few = c.requires in
    omega (arith, all, most, few)
