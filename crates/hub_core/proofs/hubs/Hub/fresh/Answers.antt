use Rattle.hub_core.proofs.calls.HubLaws.{fresh_hub, fresh_out}
use Rattle.hub_core.proofs.hubs.Hub.fresh.Goals as goal
use Rattle.hub_core.proofs.Prelude.{IsTrue, OpenHub, configuration_of, false, opened, subst, sym, true, ◌↔◌, ◌∙◌, ◌≡◌}

-- a device is out
pub returns-then-is_some : goal.returns-then-is_some
returns-then-is_some g c = (
  λ never. absurd (let no : false ≡ true = never in cc),
  λ fresh. absurd (fresh_out _ _ c.first_out.result (c.window.view_is ∙ c.self.view_is) c.first_out.ensures.some (sym c.is_some.ensures ∙ c.if-is_some.true) fresh),
)

-- else no probe is left out
pub returns : goal.returns
returns g c =
    subst (λ (s : OpenHub g.row.D.Denot). IsTrue c.has_all_probes.result ↔ (configuration_of s ≡ opened s.setting s.rounds)) c.self.view_is
    (fresh_hub g.D.Device.shows _ _ c.first_out.result c.has_all_probes.result c.window.view_is c.window.invariant.shown (sym c.len.ensures ∙ c.if-len-ne0.false) c.if-window-ne0.false
    c.first_out.ensures.none (sym c.is_some.ensures ∙ c.if-is_some.false) c.has_all_probes.ensures)
