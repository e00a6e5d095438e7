use Rattle.run_replay.proofs.Counted.{few_at_first}
use Rattle.run_replay.proofs.Counting.{none_passes, one_passes}
use Rattle.run_replay.proofs.LiveRuns.{AreLiveBelow, all_live, none_below, one_has_ended, one_lives}
use Rattle.run_replay.proofs.players.Player.open.Goals as goal
use Rattle.run_replay.proofs.players.Player.open.Goals.{else-not-has_ended, then-not-has_ended}
use Rattle.run_replay.proofs.Prelude.{OpenHub, Play, ap, arith, filter, is_ended, length, not, range_with_len, refl, rules, subst, sym, vec_capacity, vec_len, ◌+◌, ◌∙◌, ◌≡◌}

pub push_reserved-requires : goal.push_reserved-requires
push_reserved-requires g c = omega (arith, c.actors.invariant.1, c.actors.invariant.2, c.actors-test.true)

-- the actor stands behind those before it, where it has not ended
pub actors-preserved : goal.actors-preserved
actors-preserved g c = elim c.if-not-has_ended.branch [
  | then-not-has_ended w ↦
      let size = ap (λ v. vec_len v) w.actors-is ∙ w.push_reserved.ensures.len in
      let room = ap (λ v. vec_capacity v) w.actors-is ∙ w.push_reserved.ensures.capacity in
      let hands = c.kept_invariant.ensures.player.kept.actors in
      let few = c.kept_invariant.ensures.player.few_runs in
      let own = ap (λ (h : OpenHub _). length h.setting.runs) c.in-Ok-open.ensures.opened.own in (
        one_passes (λ a. not (is_ended c.in-Ok-open.hands a)) c.actors.actor c.actors.actors.items c.if-not-has_ended.actors.items c.actors.invariant.0 (ap not (sym c.has_ended.ensures ∙ w.if-not-has_ended.true)) (ap (λ v. v.items) w.actors-is ∙ w.push_reserved.ensures.items),
        omega (arith, size, c.actors.invariant.1),
        omega (arith, room, c.actors.invariant.2),
        subst (λ word. AreLiveBelow c.in-Ok-open.hands word (c.actors.actor + 1)) (sym w.runs-is)
            (one_lives c.in-Ok-open.hands c.actors.runs w.with_run-runs.result c.actors.actor (c.actors.actor + 1) c.actors.invariant.3
            (sym c.has_ended.ensures ∙ w.if-not-has_ended.true)
            (omega (arith, c.actors-test.true, c.run_count-count.ensures, few, own)) w.with_run-runs.ensures.others w.with_run-runs.ensures.own refl),
      )
  | else-not-has_ended w ↦
      let size = ap (λ v. vec_len v) w.actors-is in
      let room = ap (λ v. vec_capacity v) w.actors-is in (
        ap (λ v. v.items) w.actors-is ∙ none_passes (λ a. not (is_ended c.in-Ok-open.hands a)) c.actors.actor c.actors.actors.items c.actors.invariant.0 (ap not (sym c.has_ended.ensures ∙ w.if-not-has_ended.false)),
        omega (arith, size, c.actors.invariant.1),
        omega (arith, room, c.actors.invariant.2),
        subst (λ word. AreLiveBelow c.in-Ok-open.hands word (c.actors.actor + 1)) (sym w.runs-is)
            (one_has_ended c.in-Ok-open.hands c.actors.runs c.actors.actor (c.actors.actor + 1) c.actors.invariant.3 (sym c.has_ended.ensures ∙ w.if-not-has_ended.false) refl),
      )
]

pub actors-init : goal.actors-init
actors-init g c = (c.in-Ok.ensures.items, search rules, search rules, none_below c.in-Ok-open.hands)

-- every actor was looked at
pub invariant_of-result : goal.invariant_of-result
invariant_of-result g c =
    let hands = c.kept_invariant.ensures.player.kept.actors in
    let own = ap (λ (h : OpenHub _). length h.setting.runs) c.in-Ok-open.ensures.opened.own in
    let all : c.actors.actor
    ≡ length c.in-Ok-open.hands.grips = omega (arith, c.actors-test.false, c.actors.auto.actor-end, c.run_count-count.ensures, hands, own) in (
      c.actors.invariant.0 ∙ ap (λ n. filter (λ a. not (is_ended c.in-Ok-open.hands a)) (range_with_len 0 n)) all,
      few_at_first c.in-Ok-open.hands c.kept_invariant.ensures.player.kept
          (ap (λ (p : Play). p.moves) c.in-Ok-open.ensures.opened.start) c.in-Ok-open.ensures.opened.hands,
      all_live c.in-Ok-open.hands c.actors.runs c.actors.actor c.kept_invariant.ensures.player.kept all c.actors.invariant.3,
    )
