use Rattle.hub_core.proofs.calls.HubOrders.{bare_whole, few_whole, standing_whole}
use Rattle.hub_core.proofs.hubs.Hub.table.Goals as goal
use Rattle.hub_core.proofs.Prelude.{OpenHub, Represents, [], accesses_at, configuration_of, false, is_weak, length, point_of, subst, true, ℕ, ◌∙◌, ◌≡◌, ◌≤◌}

pub returns-clause-represents : goal.returns-clause-represents
returns-clause-represents g c =
    subst (λ (t : OpenHub g.row.D.Denot). is_weak t.setting.mode ≡ false → Represents (point_of (configuration_of t)) c.window.inside.order.table) (c.window.view_is ∙ c.self.view_is)
    (λ strong. (standing_whole c.window.inside c.kept_invariant.ensures strong c.window.invariant).its_table)

-- at most one access for each run
pub returns-clause-few : goal.returns-clause-few
returns-clause-few g c =
    subst (λ (t : OpenHub g.row.D.Denot). (d : ℕ) → length (accesses_at c.window.inside.order.table d) ≤ length t.setting.runs) (c.window.view_is ∙ c.self.view_is)
    (few_whole c.window.inside c.kept_invariant.ensures c.window.invariant)

pub returns-clause-disciplined : goal.returns-clause-disciplined
returns-clause-disciplined g c = c.kept_invariant.ensures

-- under the weak model none
pub returns-clause-bare : goal.returns-clause-bare
returns-clause-bare g c =
    subst (λ (t : OpenHub g.row.D.Denot). is_weak t.setting.mode ≡ true → (d : ℕ) → accesses_at c.window.inside.order.table d ≡ []) (c.window.view_is ∙ c.self.view_is)
    (bare_whole c.window.inside c.window.invariant)
