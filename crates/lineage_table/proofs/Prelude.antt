-- What many proofs of this crate cite, passed on from one place.
pub use Rattle.chain_arena.specs.Chains.{AreApart, IsBehind, from_knot, has_knot, is_at, put_before, rest_of, set_value, value_at, values_of, without}
pub use Rattle.chain_arena.specs.declared.knots.Knot.{Knot}
pub use Rattle.command_rules.specs.Rosters.{Run, is_on, plain_run, run_no, runs_of}
pub use Rattle.home_types.specs.Limits.{most_devices, most_runs}
pub use Rattle.home_types.specs.declared.numbers.RunNo.{RunNo}
pub use Rattle.lineage_table.specs.Accesses.{AreInTurn, AreOfTwoRuns, IsDisciplined, access_of, accesses_before, accesses_behind, accesses_without, behind_run, effective_writer, first_before, has_access, is_acquired, is_of, is_released, is_scheduled, place_before, put_access_before, put_before_run, run_behind, some_acquired, some_scheduled, status_of, value_standing, with_change, written_by}
pub use Rattle.lineage_table.specs.Knots.{CutAtKnot, IsKnotOf}
pub use Rattle.lineage_table.specs.Lineages.{IsNewLineage, IsTable, LineageState, accesses_at, committed_lineage, lineage_at, no_lineage, removed, runs_on, scheduled, settled, with_lineage, with_more_room}
pub use Rattle.lineage_table.specs.RunDevices.{HasLess, HasMore, TableIsSound, is_in}
pub use Rattle.lineage_table.specs.declared.accesses.Access.{Access}
pub use Rattle.lineage_table.specs.declared.accesses.Status.TheVariants.{Acquired, Released, Scheduled}
pub use Rattle.std.proofs.Common.{IsSome, List, Option, Some, [], add-one, ap, append_assoc, ap₂, arith, cond, drop, get_or, inl, inr, length, length-append, lt-ltb, refl, rules, set, subst, suc, sym, take, true≢false, zero, ◌++◌, ◌+◌, ◌-◌, ◌<◌, ◌∙◌, ◌∷◌, ◌≡◌}
pub use Rattle.std.proofs.lemmas.Bool.{and_right, both_ways, eq-eqb, eqb-false, eqb-true, or_from, or_left, or_parts, or_right}
pub use Rattle.std.proofs.lemmas.Grind.{common_steps}
pub use Rattle.std.proofs.lemmas.List.{append-nil, drop_at, get_or-map, get_or-replicate, get_or-set_other, get_or-set_same, get_or_at, length-drop, length-map, length-set, set_at, take-append-drop, take_all, take_at, take_more}
pub use Rattle.std.specs.List.{AllByRecursion, AllPairs, insert, list_any, position_or_len, remove}
pub use Rattle.std.specs.Prelude.{Bool, Err, IsTrue, None, Ok, OnErr, OnOk, Result, false, fold, if◌then◌else◌, is_some, nat_lt, not, option_and_then, option_map, position, slice_get, slice_set, true, unwrap_or, ℕ, ◌&&◌, ◌==◌, ◌||◌, ◌≢◌, ◌≤◌}
