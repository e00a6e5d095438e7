use Rattle.hub_commands.proofs.Prelude.{Kind, KnowsKept, LeavesOldOrSame, List, arith, length-map, plain_window, states_kept, subst, ℕ, ◌∙◌, ◌≡◌}
use Rattle.home_journal.specs.KeptStates.{kept_states}
use Rattle.hub_commands.proofs.KeptCalls.{not_opened}
use Rattle.hub_commands.proofs.keeps.open_journal.Goals as goal

pub returns-in-Ok-open : goal.returns-in-Ok-open
returns-in-Ok-open g c =
    let Q = g.Q.Disk in
    let kinds = c.in-Ok.ensures.kinds in
    let most = c.len.ensures in
    let journal = c.in-Ok-open.journal in
    record {
      kinds = c.in-Ok-open.ensures.home.0 ∙ kinds;
      most = c.in-Ok-open.ensures.home.1 ∙ most;
      knows = λ told. subst (λ (q : List Kind × ℕ). KnowsKept q.0 q.1 (Q.seen c.args.disk) journal.kept journal.last) (λ i. (kinds i, most i)) (c.in-Ok-open.ensures.knows told);
      same = λ told. subst (λ (q : List Kind × ℕ). states_kept Q.seen journal ≡ kept_states q.0 q.1 (Q.seen c.args.disk)) (λ i. (kinds i, most i)) (c.in-Ok-open.ensures.same told);
      later = c.in-Ok-open.ensures.later;
      any_moment = λ told. subst (λ (q : List Kind × ℕ). LeavesOldOrSame Q.seen Q.images Q.moment Q.images_since q.0 q.1 c.args.disk journal.disk) (λ i. (kinds i, most i)) (c.in-Ok-open.ensures.any_moment told);
    }

pub returns : goal.returns
returns g c =
    let Q = g.Q.Disk in
    let few = c.requires.sound.few_windows in
    let all = length-map c.args.script.now.windows.items plain_window in
    let count = c.len.ensures in
    not_opened Q.told Q.seen Q.images Q.moment Q.images_since Q.faults c.args.script.now c.args.disk c.in-Err.disk
    c.in-Ok.kinds.items c.len.result c.in-Err.fault c.opening_fault.result c.in-Ok.ensures.kinds c.len.ensures (omega (arith, few, all, count)) c.opening_fault.ensures
    c.in-Err.ensures.damaged c.in-Err.ensures.failed c.in-Err.ensures.no_memory c.in-Err.ensures.any_moment
