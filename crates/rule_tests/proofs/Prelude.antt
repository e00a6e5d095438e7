-- What many proofs of this crate cite, passed on from one place.
pub use Rattle.command_rules.specs.Rosters.{is_run}
pub use Rattle.failure_serialization.proofs.Cited.{first_of_all, some_found, some_run}
pub use Rattle.home_journal.specs.Journals.{IsStateOf}
pub use Rattle.home_types.specs.declared.kinds.Kind.{Kind}
pub use Rattle.lineage_table.specs.Accesses.{accesses_before, first_before, is_acquired, is_of, is_scheduled}
pub use Rattle.lineage_table.specs.Lineages.{accesses_at}
pub use Rattle.lineage_table.specs.declared.accesses.Access.{Access}
pub use Rattle.std.proofs.Common.{ap, arith, refl, rules, subst, suc, sym, zero, ◌∙◌}
pub use Rattle.std.specs.Prelude.{List, [], false, find, is_some, take, true, ℕ, ◌<◌, ◌||◌, ◌∷◌, ◌≡◌}
