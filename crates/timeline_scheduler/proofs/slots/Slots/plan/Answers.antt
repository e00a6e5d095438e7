use Rattle.timeline_scheduler.proofs.Prelude.{Command, ap, arith, false, length, plan_behind, planned_span, refl, runs_of, slice_index_or, slot_at, sym, ◌∙◌}
use Rattle.home_types.specs.declared.commands.Guard.TheVariants.{Always}
use Rattle.home_types.specs.declared.commands.Job.TheVariants.{Set}
use Rattle.timeline_scheduler.proofs.HeldTimes.{command_told, command_within, planned_all, planned_next, planned_none}
use Rattle.timeline_scheduler.proofs.slots.Slots.plan.Goals as goal

-- what is told of a place that is none
abbrev none_there : Command
none_there = record { device = record { 0 = 0 }; job = Set 0; when = Always; must = false; ms = 0; takes = 0 }

pub commands-init : goal.commands-init
commands-init c = (planned_none c.self.inside.slots.items c.commands-commands.result.now c.args.moment (λ d. ap (λ xs. (slot_at xs d).planned) c.self.view_is ∙ c.requires.none d), refl)

pub index-slot-requires : goal.index-slot-requires
index-slot-requires c =
    let there = command_within (length c.args.self.now) (runs_of c.args.roster.now) c.args.r.0 c.commands-commands.result.now c.commands.command-index none_there c.requires.homed c.commands-commands.ensures c.commands-test.true in
    let old = ap length c.self.view_is in
    let now = c.commands.invariant.0.left.size in
    omega (arith, there, old, now)

pub index_mut-requires : goal.index_mut-requires
index_mut-requires c =
    let there = command_within (length c.args.self.now) (runs_of c.args.roster.now) c.args.r.0 c.commands-commands.result.now c.commands.command-index none_there c.requires.homed c.commands-commands.ensures c.commands-test.true in
    let old = ap length c.self.view_is in
    let now = c.commands.invariant.0.left.size in
    omega (arith, there, old, now)

pub commands-preserved : goal.commands-preserved
commands-preserved c =
    let there = command_within (length c.args.self.now) (runs_of c.args.roster.now) c.args.r.0 c.commands-commands.result.now c.commands.command-index none_there c.requires.homed c.commands-commands.ensures c.commands-test.true in
    let old = ap length c.self.view_is in
    let now = c.commands.invariant.0.left.size in (
      planned_next c.self.inside.slots.items c.commands.self-inside.slots.items c.commands-commands.result.now c.args.moment c.commands.command-index c.commands.clock c.max-start.result c.saturating_add-clock.result
          (slice_index_or c.commands-commands.result.now c.commands.command-index none_there) c.index-slot.result.now _ c.used_again.result c.commands.invariant.0 c.commands-test.true
          (command_told c.commands-commands.result.now c.commands.command-index none_there _ c.commands-test.true) (omega (arith, there, old, now))
          c.index-slot.ensures c.max-start.ensures c.saturating_add-clock.ensures c.used_again.ensures refl,
      c.commands.invariant.1,
    )

pub returns-clause-times : goal.returns-clause-times
returns-clause-times c = λ d.
    planned_all c.self.inside.slots.items c.commands.self-inside.slots.items c.commands-commands.result.now c.args.moment c.commands.command-index c.commands.clock c.commands.invariant.0 c.commands-test.false d
    ∙ ap (λ q. planned_span q d) (ap (λ xs. plan_behind xs c.commands-commands.result.now c.args.moment) c.self.view_is
    ∙ ap (λ cs. plan_behind c.args.self.now cs c.args.moment) c.commands-commands.ensures)

pub returns-clause-size : goal.returns-clause-size
returns-clause-size c = c.commands.invariant.0.left.size ∙ ap length c.self.view_is

pub invariant_of-self : goal.invariant_of-self
invariant_of-self c = c.commands.invariant.1 ∙ c.self.invariant ∙ sym c.commands.invariant.0.left.size
