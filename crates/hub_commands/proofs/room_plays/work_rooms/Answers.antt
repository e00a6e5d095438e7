use Rattle.hub_commands.proofs.RoomsUnderWay.{all_ready, may_all_open, rooms_went, same_count}
use Rattle.hub_commands.proofs.room_plays.work_rooms.Goals as goal
use Rattle.hub_commands.specs.RoomPlays.{RoomsWent}
use Rattle.hub_commands.proofs.Prelude.{MayOpen, Some, WindowText, setting_for, subst, sym, window-there, ◌∙◌, ◌≡◌}

pub open_rooms-requires-clause-may : goal.open_rooms-requires-clause-may
open_rooms-requires-clause-may g c k roster home roster_at home_at =
    let D = g.Dev.Device in
    let shown = D.shows in
    let window = c.index-as_slice-number.result in
    let at = window-there c.args.script.now c.args.number c.as_slice.result.now window c.requires.there c.as_slice.ensures c.index-as_slice-number.is in
    subst (λ (w : WindowText). MayOpen (setting_for home roster.roster c.args.mode) w.probes home.opened) c.index-as_slice-number.is
    (may_all_open (g.C.Clock.earliest c.args.clock.now) (g.C.Clock.latest c.args.clock.now) shown c.args.script.now c.requires.sound c.args.mode c.requires.goes c.args.number window at
    c.in-Ok.rosters.items c.in-Ok.ensures.rosters c.args.homes.items c.requires.under_way.0 c.requires.under_way.1 c.requires.under_way.2 k roster home roster_at home_at)

pub open_rooms-requires-clause-count : goal.open_rooms-requires-clause-count
open_rooms-requires-clause-count g c =
    let D = g.Dev.Device in
    same_count (g.C.Clock.earliest c.args.clock.now) (g.C.Clock.latest c.args.clock.now) D.shows c.args.script.now c.args.mode c.args.number
    c.in-Ok.rosters.items c.args.homes.items c.requires.under_way.0 c.in-Ok.ensures.rosters c.requires.under_way.2

pub run_rooms-requires-after_bounds : goal.run_rooms-requires-after_bounds
run_rooms-requires-after_bounds g c κs within =
    let D = g.Dev.Device in
    all_ready D.shows c.args.mode _ c.in-Ok.rosters.items c.args.homes.items c.in_ok-hubs.hubs.items c.in_ok-hubs.ensures

pub returns-in-Ok-run_rooms : goal.returns-in-Ok-run_rooms
returns-in-Ok-run_rooms g c window at =
    let D = g.Dev.Device in
    let shown = D.shows in
    let earliest = g.C.Clock.earliest c.args.clock.now in
    let latest = g.C.Clock.latest c.args.clock.now in
    let mine = c.index-as_slice-number.result in
    let there = window-there c.args.script.now c.args.number c.as_slice.result.now mine c.requires.there c.as_slice.ensures c.index-as_slice-number.is in
    let both : Some mine ≡ Some window = sym there ∙ at in
    let same : mine ≡ window = cc in
    subst (λ (w : WindowText). RoomsWent shown earliest latest c.args.script.now c.args.mode c.args.number w.probes c.args.homes.items c.close.result.homes.items c.close.result.windows.items) (sym c.index-as_slice-number.is ∙ same)
    (rooms_went shown earliest latest c.args.script.now c.args.mode c.args.number _ c.in-Ok.rosters.items c.args.homes.items c.close.result.homes.items c.in_ok-hubs.hubs.items c.in-Ok-run_rooms.done.items c.close.result.windows.items
    c.in-Ok.ensures.rosters c.in_ok-hubs.ensures c.in-Ok-run_rooms.ensures c.close.ensures)
