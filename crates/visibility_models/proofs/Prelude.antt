-- What many proofs of this crate cite, passed on from one place.
pub use Rattle.command_rules.specs.Items.{is_ran, of_run}
pub use Rattle.command_rules.specs.Rosters.{Run, device_no, is_run, run_no, touches}
pub use Rattle.history_book.proofs.Cited.{Shaped, Standing, end_is, is_abort, shapes, standing, stands_in}
pub use Rattle.history_book.specs.Books.{end_of}
pub use Rattle.history_book.specs.Readings.{OfRun, Reading, is_live}
pub use Rattle.history_book.specs.declared.entries.End.{End}
pub use Rattle.history_book.specs.declared.entries.Kept.{Kept}
pub use Rattle.home_types.specs.declared.items.Item.{Item}
pub use Rattle.home_types.specs.declared.items.Item.TheVariants.{Back, Failed, Ran}
pub use Rattle.home_types.specs.declared.modes.Visibility.{Visibility}
pub use Rattle.home_types.specs.declared.modes.Visibility.TheVariants.{Eventual, Global, Partitioned, Weak}
pub use Rattle.home_types.specs.declared.numbers.RunNo.{RunNo}
pub use Rattle.lock_leasing.specs.Configurations.{Configuration, point, read_of}
pub use Rattle.lock_leasing.specs.Standings.{IsStandingOf, WindowParts, has_ended}
pub use Rattle.lock_leasing.specs.Waits.{down_at_end, model_bars, strict_wait}
pub use Rattle.lock_leasing.specs.Words.{has_touched, live_runs}
pub use Rattle.serial_line.specs.Marks.{Mark, front_of, is_open_run, items_of, mark_has_touched, stands}
pub use Rattle.std.proofs.Common.{ap, arith, refl, subst, sym, ◌-◌, ◌∙◌, ◌≤◌}
pub use Rattle.std.proofs.lemmas.Bool.{both_ways, eqb-true}
pub use Rattle.std.proofs.lemmas.Grind.{common_steps}
pub use Rattle.std.specs.List.{list_any, range_with_len}
pub use Rattle.std.specs.Option.{option_or}
pub use Rattle.std.specs.Prelude.{Bool, IsTrue, List, None, Option, Some, [], drop, false, filter, find, if◌then◌else◌, is_none, is_some, length, not, option_map, slice_get, suc, true, unwrap_or, zero, ℕ, ◌&&◌, ◌+◌, ◌<◌, ◌==◌, ◌||◌, ◌∷◌, ◌≡◌}
pub use Rattle.visibility_models.specs.Models.{InOrder, IsUnderWay, MayAskOfModel, Weakly, under}
pub use Rattle.visibility_models.specs.Searches.{AreRunsOf, IsRunOf, first_down_for, first_unended_before, is_down_for, is_strict_model, unended_run}
