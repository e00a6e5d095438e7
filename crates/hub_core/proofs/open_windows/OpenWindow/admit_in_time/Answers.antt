use Rattle.hub_core.proofs.calls.HubOrders.{standing_size}
use Rattle.hub_core.proofs.calls.Placings.{placed_so}
use Rattle.hub_core.proofs.open_windows.OpenWindow.admit_in_time.Goals as goal
use Rattle.hub_core.proofs.Prelude.{At, ap, arith, configuration_of, place_choice, read_of, split_at, ◌∙◌}
use Rattle.jit_scheduler.specs.Admissions.{Admitting}

pub admit-requires : goal.admit-requires
admit-requires g c = Admitting (configuration_of c.args.self.now) c.standing.ensures c.requires.turn

pub returns-in-At : goal.returns-in-At
returns-in-At g c =
    let size = standing_size (configuration_of c.args.self.now) _ c.standing.ensures in
    let within = c.in-At.ensures.within in
    placed_so (read_of (configuration_of c.args.self.now)).line c.args.r.0 c.args.moment c.in-At.place _ (omega (arith, within, size)) (c.in-At.ensures.placing (configuration_of c.args.self.now) c.standing.ensures c.requires.turn)

pub returns-in-Denied : goal.returns-in-Denied
returns-in-Denied g c = ap (place_choice c.args.r.0 c.args.moment) (c.in-Denied.ensures.placing (configuration_of c.args.self.now) c.standing.ensures c.requires.turn)

pub returns-in-Patience : goal.returns-in-Patience
returns-in-Patience g c =
    let line = (read_of (configuration_of c.args.self.now)).line in
    let last = c.end_of_line.ensures in
    placed_so line c.args.r.0 c.args.moment c.end_of_line.result _ (omega (arith, last)) (ap (λ k. At (split_at line k)) last ∙ c.in-Patience.ensures.placing (configuration_of c.args.self.now) c.standing.ensures c.requires.turn)
