use Rattle.timeline_scheduler.proofs.Prelude.{IsEarliestOf, IsLeastOf, IsPlanOf, IsSetOf, ScratchRoom, ap, arith, count_by, length, refl, subst, sym, ◌∙◌}
use Rattle.timeline_scheduler.proofs.KnownItems.{all_homed, all_known}
use Rattle.timeline_scheduler.proofs.Needs.{seeds_length}
use Rattle.timeline_scheduler.proofs.Rounds.{closed_flags, earliest_told, first_of, least_told, next_fewer, next_of, place_told, place_within, planned_told, set_told, taken_flags}
use Rattle.timeline_scheduler.proofs.places.place.Goals as goal

pub seed-requires-clause-known : goal.seed-requires-clause-known
seed-requires-clause-known c = all_known c.args.s.now c.args.r.0 c.requires.may

pub close-requires-clause-size : goal.close-requires-clause-size
close-requires-clause-size c = ap (λ (s : ScratchRoom). length s.before) c.seed.ensures.flags ∙ seeds_length c.args.s.now.history c.args.s.now.runs c.args.r.0 c.args.s.now.line

pub close-requires-clause-known : goal.close-requires-clause-known
close-requires-clause-known c = all_known c.args.s.now c.args.r.0 c.requires.may

pub plan-requires-clause-size : goal.plan-requires-clause-size
plan-requires-clause-size c = ap (λ (s : ScratchRoom). length s.slots) c.close.ensures ∙ ap (λ (s : ScratchRoom). length s.slots) c.seed.ensures.flags ∙ c.requires.room

pub plan-requires-clause-flags : goal.plan-requires-clause-flags
plan-requires-clause-flags c = closed_flags c.args.s.now c.args.r.0 c.args.moment c.seed.new.self c.close.new.self c.close.ensures

pub plan-requires-clause-known : goal.plan-requires-clause-known
plan-requires-clause-known c = all_known c.args.s.now c.args.r.0 c.requires.may

pub plan-requires-clause-homed : goal.plan-requires-clause-homed
plan-requires-clause-homed c = all_homed c.args.s.now c.args.r.0 c.requires.may

pub rounds-init : goal.rounds-init
rounds-init c = (
  first_of c.args.s.now c.args.r.0 c.args.moment
      c.args.scratch.now c.seed.new.self c.close.new.self c.plan.new.self c.seed.ensures.flags c.close.ensures c.plan.ensures.rest c.requires.room c.plan.ensures.size c.plan.ensures.times,
  refl,
)

pub close-requires-in-rounds-clause-size : goal.close-requires-in-rounds-clause-size
close-requires-in-rounds-clause-size c =
    taken_flags c.args.s.now c.args.r.0 c.args.moment c.rounds.scratch c.take_misfits.new.self c.rounds.invariant.0 c.take_misfits.ensures.flags

pub close-requires-in-rounds-clause-known : goal.close-requires-in-rounds-clause-known
close-requires-in-rounds-clause-known c = all_known c.args.s.now c.args.r.0 c.requires.may

pub plan-requires-in-rounds-clause-size : goal.plan-requires-in-rounds-clause-size
plan-requires-in-rounds-clause-size c = ap (λ (s : ScratchRoom). length s.slots) c.close-in-rounds.ensures ∙ ap (λ (s : ScratchRoom). length s.slots) c.take_misfits.ensures.flags ∙ c.rounds.invariant.0.size

pub plan-requires-in-rounds-clause-flags : goal.plan-requires-in-rounds-clause-flags
plan-requires-in-rounds-clause-flags c =
    closed_flags c.args.s.now c.args.r.0 c.args.moment c.take_misfits.new.self c.close-in-rounds.new.self c.close-in-rounds.ensures

pub plan-requires-in-rounds-clause-known : goal.plan-requires-in-rounds-clause-known
plan-requires-in-rounds-clause-known c = all_known c.args.s.now c.args.r.0 c.requires.may

pub plan-requires-in-rounds-clause-homed : goal.plan-requires-in-rounds-clause-homed
plan-requires-in-rounds-clause-homed c = all_homed c.args.s.now c.args.r.0 c.requires.may

pub rounds-smaller : goal.rounds-smaller
rounds-smaller c =
    next_fewer c.args.s.now c.args.r.0 c.args.moment
    c.rounds.scratch c.take_misfits.new.self c.close-in-rounds.new.self c.plan-in-rounds.new.self c.rounds.invariant.0 c.take_misfits.ensures.flags c.close-in-rounds.ensures c.plan-in-rounds.ensures.rest (c.take_misfits.ensures.more c.rounds-test.true)

pub rounds-preserved : goal.rounds-preserved
rounds-preserved c = (
  next_of c.args.s.now c.args.r.0 c.args.moment
      c.rounds.scratch c.take_misfits.new.self c.close-in-rounds.new.self c.plan-in-rounds.new.self c.rounds.invariant.0 c.take_misfits.ensures.flags c.close-in-rounds.ensures c.plan-in-rounds.ensures.rest c.plan-in-rounds.ensures.size c.plan-in-rounds.ensures.times,
  ap (λ (s : ScratchRoom). s.items) c.plan-in-rounds.ensures.rest ∙ ap (λ (s : ScratchRoom). s.items) c.close-in-rounds.ensures ∙ ap (λ (s : ScratchRoom). s.items) c.take_misfits.ensures.flags ∙ c.rounds.invariant.1,
)

pub returns-clause-exact : goal.returns-clause-exact
returns-clause-exact c =
    let none = c.take_misfits.ensures.none c.rounds-test.false in
    place_told c.args.s.now c.args.r.0 c.args.moment
    c.rounds.scratch.before c.take_misfits.new.self.before c.rounds.scratch.slots c.rounds.invariant.0 (ap (λ (s : ScratchRoom). s.before) c.take_misfits.ensures.flags) none c.count.result (c.count.ensures ∙ ap (count_by (λ flag. flag)) none)

pub returns-clause-within : goal.returns-clause-within
returns-clause-within c =
    let none = c.take_misfits.ensures.none c.rounds-test.false in
    place_within c.args.s.now c.args.r.0 c.args.moment
    c.rounds.scratch.before c.take_misfits.new.self.before c.rounds.scratch.slots c.rounds.invariant.0 (ap (λ (s : ScratchRoom). s.before) c.take_misfits.ensures.flags) none c.count.result (c.count.ensures ∙ ap (count_by (λ flag. flag)) none)

pub returns-clause-before : goal.returns-clause-before
returns-clause-before c =
    let none = c.take_misfits.ensures.none c.rounds-test.false in
    subst (IsSetOf c.args.s.now c.args.r.0 c.args.moment) (sym none)
    (set_told c.args.s.now c.args.r.0 c.args.moment
    c.rounds.scratch.before c.take_misfits.new.self.before c.rounds.scratch.slots c.rounds.invariant.0 (ap (λ (s : ScratchRoom). s.before) c.take_misfits.ensures.flags) none)

pub returns-clause-flags : goal.returns-clause-flags
returns-clause-flags c =
    taken_flags c.args.s.now c.args.r.0 c.args.moment c.rounds.scratch c.take_misfits.new.self c.rounds.invariant.0 c.take_misfits.ensures.flags

pub returns-clause-planned : goal.returns-clause-planned
returns-clause-planned c =
    let none = c.take_misfits.ensures.none c.rounds-test.false in
    subst (IsPlanOf c.args.s.now c.args.r.0 c.args.moment) (sym (ap (λ (s : ScratchRoom). s.slots) c.take_misfits.ensures.flags))
    (planned_told c.args.s.now c.args.r.0 c.args.moment
    c.rounds.scratch.before c.take_misfits.new.self.before c.rounds.scratch.slots c.rounds.invariant.0 (ap (λ (s : ScratchRoom). s.before) c.take_misfits.ensures.flags) none)

pub returns-clause-least : goal.returns-clause-least
returns-clause-least c =
    let none = c.take_misfits.ensures.none c.rounds-test.false in
    subst (IsLeastOf c.args.s.now c.args.r.0 c.args.moment) (sym none)
    (least_told c.args.s.now c.args.r.0 c.args.moment
    c.rounds.scratch.before c.take_misfits.new.self.before c.rounds.scratch.slots c.rounds.invariant.0 (ap (λ (s : ScratchRoom). s.before) c.take_misfits.ensures.flags) none)

pub returns-clause-earliest : goal.returns-clause-earliest
returns-clause-earliest c =
    let none = c.take_misfits.ensures.none c.rounds-test.false in
    subst (IsEarliestOf c.args.s.now c.args.r.0 c.args.moment) (sym none)
    (earliest_told c.args.s.now c.args.r.0 c.args.moment
    c.rounds.scratch.before c.take_misfits.new.self.before c.rounds.scratch.slots c.rounds.invariant.0 (ap (λ (s : ScratchRoom). s.before) c.take_misfits.ensures.flags) none)

pub returns-clause-size : goal.returns-clause-size
returns-clause-size c = ap (λ (s : ScratchRoom). length s.slots) c.take_misfits.ensures.flags ∙ c.rounds.invariant.0.size ∙ sym c.requires.room

pub count-requires : goal.count-requires
count-requires c =
    let few = c.seed.ensures.few in
    let size = taken_flags c.args.s.now c.args.r.0 c.args.moment c.rounds.scratch c.take_misfits.new.self c.rounds.invariant.0 c.take_misfits.ensures.flags in
    omega (arith, few, size)

pub returns-clause-room_stays : goal.returns-clause-room_stays
returns-clause-room_stays c =
    ap (λ (s : ScratchRoom). s.items) c.take_misfits.ensures.flags ∙ c.rounds.invariant.1 ∙ ap (λ (s : ScratchRoom). s.items) c.plan.ensures.rest ∙ ap (λ (s : ScratchRoom). s.items) c.close.ensures ∙ ap (λ (s : ScratchRoom). s.items) c.seed.ensures.flags
