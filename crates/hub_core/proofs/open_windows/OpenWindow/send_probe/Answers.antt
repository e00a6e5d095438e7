use Rattle.hub_core.proofs.calls.ProbesOut.{may_send_probe, probe_sent, sent_whole}
use Rattle.hub_core.proofs.open_windows.OpenWindow.send_probe.Goals as goal
use Rattle.hub_core.proofs.Prelude.{Inside, ap, configuration_of, may_probe, refl, restored, sym, ◌∙◌}

pub send-requires : goal.send-requires
send-requires g c = record { may = may_send_probe c.self.inside c.args.self.now c.args.d.0 c.restored-value.result c.known-known.result c.self.view_is c.requires c.restored-value.ensures c.known-known.ensures c.self.invariant }

pub invariant_of-self : goal.invariant_of-self
invariant_of-self g c = sent_whole c.self.inside _ c.args.d.0 c.restored-value.result c.known-known.result c.send.result (record {
  may = ap (λ s. may_probe (configuration_of s) c.args.d.0) c.self.view_is ∙ c.requires;
  value_is = c.restored-value.ensures ∙ ap (λ s. restored (configuration_of s) c.args.d.0) (sym c.self.view_is);
  known_is = c.known-known.ensures;
  sent = c.send.ensures.sent;
  moment_is = refl;
  new = refl;
}) refl c.self.invariant

pub returns : goal.returns
returns g c =
    let t : Inside g.row.D.Denot = record c.self.inside { checkouts = c.send.new.self } in
    let made = probe_sent c.self.inside t c.args.self.now c.args.d.0 c.restored-value.result c.known-known.result c.send.result c.self.view_is (record {
      may = ap (λ s. may_probe (configuration_of s) c.args.d.0) c.self.view_is ∙ c.requires;
      value_is = c.restored-value.ensures ∙ ap (λ s. restored (configuration_of s) c.args.d.0) (sym c.self.view_is);
      known_is = c.known-known.ensures;
      sent = c.send.ensures.sent;
      moment_is = refl;
      new = refl;
    }) c.self.invariant in
    record { probed = made.probed; window = made.window }
