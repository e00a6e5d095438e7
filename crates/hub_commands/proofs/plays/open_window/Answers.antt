use Rattle.hub_core.proofs.Cited.{may_open}
use Rattle.hub_core.specs.HubCalls.{IsOpened}
use Rattle.run_replay.proofs.Cited.{fresh_where}
use Rattle.hub_commands.proofs.plays.open_window.Goals as goal
use Rattle.hub_commands.proofs.Prelude.{setting_on, subst, window-there}

pub open_window-requires : goal.open_window-requires
open_window-requires g c =
    let D = g.Dev.Device in
    let window = c.index-as_slice-number.result in
    let at = window-there c.args.script.now c.args.number c.as_slice.result.now window c.requires.there c.as_slice.ensures c.index-as_slice-number.is in
    record {
      may = may_open D.shows c.args.script.now c.args.mode c.args.number window c.args.home c.in_ok-roster.roster
          (record { sound = c.requires.sound; goes = c.requires.goes; at = at; runs = c.in_ok-roster.ensures; kept = c.kept_invariant.ensures; kinds = c.requires.kinds; opened = c.requires.few });
    }

pub returns-in-Ok : goal.returns-in-Ok
returns-in-Ok g c =
    let D = g.Dev.Device in
    let window = c.index-as_slice-number.result in
    let opened : IsOpened D.shows (setting_on c.args.script.now c.args.mode c.args.number c.args.home) window.probes c.args.home c.in-Ok.hub =
    subst (λ runs. IsOpened D.shows (record { runs = runs; mode = c.args.mode; kinds = c.args.home.kinds; first = c.args.home.world }) window.probes c.args.home c.in-Ok.hub)
    c.in_ok-roster.ensures c.in-Ok.ensures.opened in
    record {
      fresh = fresh_where D.shows (setting_on c.args.script.now c.args.mode c.args.number c.args.home) window.probes c.args.home c.in-Ok.hub opened;
      rounds = opened.rounds_are;
      at = window-there c.args.script.now c.args.number c.as_slice.result.now window c.requires.there c.as_slice.ensures c.index-as_slice-number.is;
      opened = opened;
      numbered = c.kept_invariant.ensures.numbered;
    }
