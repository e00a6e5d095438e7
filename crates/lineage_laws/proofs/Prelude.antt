-- What many proofs of this crate cite, passed on from one place.
pub use Rattle.command_rules.specs.Rosters.{Run, run_no, runs_of}
pub use Rattle.lineage_laws.specs.Laws.{AreInRunOrder, RunsDiffer, StandByStatus, is_one_of_runs, next_with_access}
pub use Rattle.lineage_table.proofs.Cited.{change_stands, not_writer, pairs_from_all, pairs_front, settled_stands, without_none, without_stands}
pub use Rattle.lineage_table.specs.Accesses.{AreInTurn, IsDisciplined, accesses_without, effective_writer, has_access, put_access_before, put_before_run}
pub use Rattle.lineage_table.specs.Lineages.{accesses_at, lineage_at}
pub use Rattle.lineage_table.specs.declared.accesses.Access.{Access}
pub use Rattle.lineage_table.specs.declared.accesses.Status.TheVariants.{Acquired, Released, Scheduled}
pub use Rattle.std.proofs.Common.{None, Option, Some, ap, ap₂, arith, cond, drop, refl, subst, sym, take, ◌∙◌}
pub use Rattle.std.proofs.lemmas.Grind.{common_steps}
pub use Rattle.std.proofs.lemmas.List.Elements.{All-cons, All-from_recursion, All-nil, filter-append, filter_agree}
pub use Rattle.std.specs.List.{AllByRecursion, AllPairs, insert}
pub use Rattle.std.specs.Prelude.{Bool, List, [], false, filter, find, if◌then◌else◌, map, not, option_and_then, option_map, slice_get, suc, true, unwrap_or, zero, ℕ, ◌&&◌, ◌++◌, ◌+◌, ◌==◌, ◌||◌, ◌∷◌, ◌≡◌, ◌≢◌}
