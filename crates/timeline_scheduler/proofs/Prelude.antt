-- What many proofs of this crate cite, passed on from one place.
pub use Rattle.command_rules.proofs.Cited.{both_touch, closure_closed, closure_holds, closure_least, closure_size, device_below, either_first, either_in, either_second, either_size, map_part, of_one_device, part_of_part, read_touched, same_least, unread}
pub use Rattle.command_rules.specs.Apart.{are_tied, meet, share_device}
unfoldable pub use Rattle.command_rules.specs.ClosedSets.{IsClosed, IsPart, chosen, closure, either_of}
pub use Rattle.command_rules.specs.ClosedSets.{IsLeast}
pub use Rattle.command_rules.specs.Items.{is_ran, of_run}
pub use Rattle.command_rules.specs.Rosters.{Run, commands_of, followed_by, follows, is_on, is_run, reads_first, runs_of, touches, writes_on}
pub use Rattle.history_book.proofs.Cited.{among_more, answer_count_is, asks_next, differ, doom_is, end_is, is_among, is_stray, none_strays, stands_in}
pub use Rattle.history_book.specs.Books.{answer_count, doom_of, end_of}
pub use Rattle.history_book.specs.Plans.{Planning, free, greatest, is_overwritten, plan_more, planned_end, planned_start, planned_times, whole_end}
pub use Rattle.history_book.specs.Readings.{OfRun, Planned, Reading, asks_on, did, has_written, is_committed, is_committing, is_doomed, is_live, is_next_on, is_open, next_of, passed_by}
pub use Rattle.history_book.specs.Settings.{Setting, device_numbers, devices_of, scheduler_of}
pub use Rattle.home_types.specs.DeviceSets.{Devices, IsFirstFrom, Meet}
pub use Rattle.home_types.specs.declared.commands.Command.{Command}
pub use Rattle.home_types.specs.declared.items.Item.{Item}
pub use Rattle.home_types.specs.declared.items.Item.TheVariants.{Back, Failed, Ran}
pub use Rattle.home_types.specs.declared.modes.Scheduler.TheVariants.{Fcfs, JustInTime, Timeline}
pub use Rattle.home_types.specs.declared.numbers.RunNo.{RunNo}
pub use Rattle.lineage_table.specs.Accesses.{IsDisciplined, access_of, has_access, is_of, is_released}
pub use Rattle.lineage_table.specs.Lineages.{LineageState, accesses_at}
pub use Rattle.lineage_table.specs.declared.accesses.Access.{Access}
pub use Rattle.lock_leasing.proofs.Cited.{Alone, EachTail, Facts, HasAccess, alone, any_filter, any_range, bars_rise, command_out, devices_by_commands, facts_of, gap_is_earliest, gap_least, sound_holds, workers_have_access, written_did, written_touches}
pub use Rattle.lock_leasing.specs.Configurations.{Configuration, Grips, grips_command, point, read_of}
pub use Rattle.lock_leasing.specs.Order.{covers}
pub use Rattle.lock_leasing.specs.Standings.{IsRosterFor, IsStandingOf, WindowParts, has_ended, item_has_touched}
pub use Rattle.serial_line.specs.Marks.{Mark, front_of, is_open_run, items_of, meets}
pub use Rattle.std.proofs.Common.{ap, append-nil, append_assoc, ap₂, arith, cond, inl, inr, refl, rules, set, subst, sym, vec_len, ◌∙◌}
pub use Rattle.std.proofs.lemmas.Bool.{and_parts, eq-eqb, eqb-true, or_from, or_left, or_parts, or_right}
pub use Rattle.std.proofs.lemmas.Grind.{common_steps}
pub use Rattle.std.proofs.lemmas.List.{drop_all, drop_more, get_or-set_other, get_or-set_same, get_or_default, length-map, length-set, take_all, take_more}
pub use Rattle.std.proofs.lemmas.List.Folds.{list_any-append}
pub use Rattle.std.proofs.lemmas.List.Sums.{fold-append, sum_by-cons}
pub use Rattle.std.specs.List.{list_any, range_with_len}
pub use Rattle.std.specs.Prelude.{Bool, IsSome, IsTrue, List, None, Option, Some, [], count_by, drop, false, filter, find, fold, get_or, if◌then◌else◌, is_none, is_some, length, map, max, min, nat_lt, not, option_map, replicate, slice_get, slice_index_or, slice_set, suc, take, true, unwrap_or, vec_capacity, zero, ℕ, ◌&&◌, ◌++◌, ◌+◌, ◌-◌, ◌<◌, ◌==◌, ◌^◌, ◌||◌, ◌↔◌, ◌∷◌, ◌≡◌, ◌≢◌, ◌≤◌}
pub use Rattle.timeline_scheduler.specs.Bases.{goes_on, run_binds, seeds}
pub use Rattle.timeline_scheduler.specs.Gathered.{IsGathered, IsKnown, ItemsAreKnown}
pub use Rattle.timeline_scheduler.specs.Placings.{IsEarliestOf, IsLeastOf, IsPlanOf, IsSetOf, MayPlan}
pub use Rattle.timeline_scheduler.specs.PlannedUses.{planned_again, planned_in_turn, planned_use, use_between}
pub use Rattle.timeline_scheduler.specs.Scratches.{HoldsTimes, ScratchRoom, planned_in, planned_span}
pub use Rattle.timeline_scheduler.specs.Slots.{RunsAreHomed, changed, changed_on, cleared, devices_among, end_of_access, is_counted, is_misfit, later_end, latest_end, no_slot, overlaps, plan_behind, slot_at, slot_behind, slot_waiting, slots_behind, slots_passed, used_again, waited_item, waited_run, whole_passed}
pub use Rattle.timeline_scheduler.specs.declared.slots.Slot.{Slot}
pub use Rattle.history_book.specs.declared.entries.Kept.{Kept}
