-- What many proofs of this crate cite, passed on from one place.
pub use Rattle.hub_core.specs.OpenHubs.{OpenHub, configuration_of}
pub use Rattle.hub_core.specs.Steps.{opened}
pub use Rattle.std.proofs.Common.{ap, arith, refl, rules, subst, ◌∙◌}
pub use Rattle.std.proofs.lemmas.Grind.{common_steps}
pub use Rattle.std.specs.List.{list_all}
pub use Rattle.std.specs.Prelude.{All, Bool, IfSome, IsTrue, List, [], false, if◌then◌else◌, is_some, length, nat_le, nat_lt, slice_get, slice_index_or, suc, true, zero, ℕ, ◌&&◌, ◌<◌, ◌∷◌, ◌≡◌, ◌≤◌}
pub use Rattle.step_table.specs.Orders.{item_fits}
pub use Rattle.step_table.specs.declared.openings.Opened.{Opened}
