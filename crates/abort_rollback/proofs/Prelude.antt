-- What many proofs of this crate cite, passed on from one place.
pub use Rattle.abort_rollback.specs.Undos.{first_effective, has_effective_write, next_undo, undo_on}
pub use Rattle.abort_rollback.specs.declared.undos.Undo.TheVariants.{Drive, Drop, Finished}
pub use Rattle.command_rules.specs.Rosters.{device_no, run_no}
pub use Rattle.lineage_table.proofs.Cited.{ChangedUpTo, changed_all, changed_more, changed_none, not_writer, removes_nothing, without_stands, writes_nothing}
pub use Rattle.lineage_table.specs.Accesses.{IsDisciplined, effective_writer, has_access}
pub use Rattle.lineage_table.specs.Lineages.{LineageState, accesses_at, counted_up, lineage_at, removed, stand_of_lineage, undone}
pub use Rattle.std.proofs.Common.{Bool, List, None, Option, Some, [], ap, arith, cond, false, length, refl, rules, subst, suc, sym, true, zero, ℕ, ◌+◌, ◌-◌, ◌<◌, ◌∙◌, ◌∷◌, ◌≡◌, ◌≤◌}
