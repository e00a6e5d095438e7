-- What many proofs of this crate cite, passed on from one place.
pub use Rattle.blocked_runs.specs.Marks.{AreLeft, BlockedState, HasMarked, is_marked, is_marked_at}
pub use Rattle.blocked_runs.specs.RunBits.{has_run}
pub use Rattle.command_rules.specs.Rosters.{commands_of, runs_of, touches}
pub use Rattle.home_types.specs.Limits.{most_devices}
pub use Rattle.std.proofs.Common.{ap, arith, inl, inr, refl, rules, sym, ◌∙◌}
pub use Rattle.std.proofs.lemmas.Grind.{common_steps}
pub use Rattle.std.proofs.lemmas.Option.{slice_get_within, unwrap_or-slice_get}
pub use Rattle.std.specs.Int.{bit_at, bit_not, w64}
pub use Rattle.std.specs.Prelude.{Bool, List, None, Option, Some, bit_and, bit_or, false, length, max, min, nat_lt, not, slice_get, slice_index_or, slice_set, suc, true, unwrap_or, zero, ℕ, ◌&&◌, ◌+◌, ◌-◌, ◌<◌, ◌==◌, ◌^◌, ◌||◌, ◌≡◌, ◌≢◌, ◌≤◌, ◌⊎◌}
