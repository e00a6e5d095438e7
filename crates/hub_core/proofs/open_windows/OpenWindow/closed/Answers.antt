use Rattle.history_book.specs.declared.records.WindowRecord.{WindowRecord}
use Rattle.hub_core.proofs.calls.HubCloses.{Closes, Tells, all_are_home, faults_fell, home_left, hub_leaves, items_fit, turns_fell, window_closed}
use Rattle.hub_core.proofs.open_windows.OpenWindow.closed.Goals as goal
use Rattle.hub_core.proofs.windows.Closings.{IsLastState}
use Rattle.hub_core.proofs.Prelude.{None, OpenHub, WindowIsClosed, arith, configuration_of, not_quiet, open_of, subst, sym, ◌+◌, ◌∙◌, ◌≡◌}

-- every device is home
pub close-devices-requires : goal.close-devices-requires
close-devices-requires g c =
    let quiet = subst (λ (t : OpenHub g.row.D.Denot). not_quiet (configuration_of t) ≡ None) (sym c.self.view_is) c.requires.quiet in
    record { home = all_are_home g.D.Device.shows _ c.self.invariant.shown quiet }

pub rises_in-turns-requires-clause-turns_fell : goal.rises_in-turns-requires-clause-turns_fell
rises_in-turns-requires-clause-turns_fell g c =
    let quiet = subst (λ (t : OpenHub g.row.D.Denot). not_quiet (configuration_of t) ≡ None) (sym c.self.view_is) c.requires.quiet in
    let closes : Closes g.D.Device.shows
    (open_of c.self.inside) c.close-devices.result.items =
    record { kept = c.self.invariant.shown; quiet = quiet; places = c.close-devices.ensures.devices; numbered = c.close-devices.ensures.numbers } in
    turns_fell _ _ _ closes

pub rises_in-turns-requires-clause-faults_fell : goal.rises_in-turns-requires-clause-faults_fell
rises_in-turns-requires-clause-faults_fell g c =
    let quiet = subst (λ (t : OpenHub g.row.D.Denot). not_quiet (configuration_of t) ≡ None) (sym c.self.view_is) c.requires.quiet in
    let closes : Closes g.D.Device.shows
    (open_of c.self.inside) c.close-devices.result.items =
    record { kept = c.self.invariant.shown; quiet = quiet; places = c.close-devices.ensures.devices; numbered = c.close-devices.ensures.numbers } in
    faults_fell _ _ _ closes

-- the record has room for the line
pub order_of-requires : goal.order_of-requires
order_of-requires g c = record { room = items_fit c.self.inside c.self.invariant }

-- the home has room for the devices
pub copied-world-requires : goal.copied-world-requires
copied-world-requires g c =
    let quiet = subst (λ (t : OpenHub g.row.D.Denot). not_quiet (configuration_of t) ≡ None) (sym c.self.view_is) c.requires.quiet in
    let left = hub_leaves c.self.inside c.stands_left-last.result.items c.self.invariant quiet (λ e. c.stands_left-last.ensures.ordered (c.is_weak-weak.ensures ∙ e)) (λ e. c.stands_left-last.ensures.weakly (c.is_weak-weak.ensures ∙ e)) in
    let room = c.self.invariant.room.world in
    record { room = (room.0, omega (arith, left.size, room.1)) }

-- the home that is left
pub invariant_of-home : goal.invariant_of-home
invariant_of-home g c =
    let quiet = subst (λ (t : OpenHub g.row.D.Denot). not_quiet (configuration_of t) ≡ None) (sym c.self.view_is) c.requires.quiet in
    let closes : Closes g.D.Device.shows
    (open_of c.self.inside) c.close-devices.result.items =
    record { kept = c.self.invariant.shown; quiet = quiet; places = c.close-devices.ensures.devices; numbered = c.close-devices.ensures.numbers } in
    home_left _ _ _ c.into_parts-kinds.result.1.items c.copied-world.result.items closes c.into_parts-kinds.ensures.kinds
    (subst (IsLastState (configuration_of (open_of c.self.inside))) (sym c.copied-world.ensures)
    (hub_leaves c.self.inside c.stands_left-last.result.items c.self.invariant quiet (λ e. c.stands_left-last.ensures.ordered (c.is_weak-weak.ensures ∙ e))
    (λ e. c.stands_left-last.ensures.weakly (c.is_weak-weak.ensures ∙ e))))

-- and the record
pub returns : goal.returns
returns g c =
    let quiet = subst (λ (t : OpenHub g.row.D.Denot). not_quiet (configuration_of t) ≡ None) (sym c.self.view_is) c.requires.quiet in
    let closes : Closes g.D.Device.shows
    (open_of c.self.inside) c.close-devices.result.items =
    record { kept = c.self.invariant.shown; quiet = quiet; places = c.close-devices.ensures.devices; numbered = c.close-devices.ensures.numbers } in
    let closed : WindowRecord = record {
      mode = c.into_parts-kinds.result.0;
      first = c.into_parts-kinds.result.2;
      history = c.into_parts-kinds.result.3;
      order = c.order_of.result;
      last = record { devices = c.stands_left-last.result };
      turns = c.rises_in-turns.result.turns;
      faults = c.rises_in-turns.result.faults;
    } in
    let tells : Tells g.D.Device.shows (open_of c.self.inside) c.close-devices.result.items closed = record {
      mode = c.into_parts-kinds.ensures.mode;
      first = c.into_parts-kinds.ensures.first;
      history = c.into_parts-kinds.ensures.history;
      order = λ e. c.order_of.ensures.ordered (c.is_weak-weak.ensures ∙ e) ∙ c.self.invariant.order.line_is.items;
      unclaimed = λ e. c.order_of.ensures.weakly (c.is_weak-weak.ensures ∙ e);
      last = hub_leaves c.self.inside c.stands_left-last.result.items c.self.invariant quiet (λ e. c.stands_left-last.ensures.ordered (c.is_weak-weak.ensures ∙ e)) (λ e. c.stands_left-last.ensures.weakly (c.is_weak-weak.ensures ∙ e));
      turns_rose = c.rises_in-turns.ensures.turns;
      faults_rose = c.rises_in-turns.ensures.faults;
    } in
    subst (λ (t : OpenHub g.row.D.Denot). WindowIsClosed g.D.Device.shows t (record {
      kinds = c.into_parts-kinds.result.1.items;
      world = c.copied-world.result.items;
      devices = c.close-devices.result.items;
      opened = c.self.inside.opened + 1;
    }) closed) c.self.view_is
    (window_closed _ _ _ c.into_parts-kinds.result.1.items c.copied-world.result.items closed closes tells c.into_parts-kinds.ensures.kinds c.copied-world.ensures)
