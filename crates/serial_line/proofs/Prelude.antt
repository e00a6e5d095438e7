-- What many proofs of this crate cite, passed on from one place.
pub use Rattle.command_rules.proofs.Cited.{apart_there, begins, both_touch, commands_at, first_held, flag_is, found, front_chosen, front_size, further, last_before, last_found, last_unfound, leader_at, length_moved, low_device, may_exchange, moved, partly, pass_there, passed_more, passes, size_more, size_same, starts, stays, there}
pub use Rattle.command_rules.specs.Apart.{are_tied, meet, share_device}
unfoldable pub use Rattle.command_rules.specs.ClosedSets.{IsClosed, chosen, exchanged, others}
pub use Rattle.command_rules.specs.ClosedSets.{Exchanged, HoldsFirst, Stays, Swaps, are_apart, brought, may_pass, rearranged}
pub use Rattle.command_rules.specs.Items.{is_ran, of_run}
pub use Rattle.command_rules.specs.Rosters.{Run, commands_of, followed_by, follows, is_on, is_run, plain_run, run_in_roster, runs_of, shares, touches}
pub use Rattle.command_rules.specs.Searches.{last_place}
pub use Rattle.home_types.proofs.Cited.{contains_insert, contains_one, snoc_get}
pub use Rattle.home_types.specs.declared.items.Item.{Item}
pub use Rattle.home_types.specs.declared.items.Item.TheVariants.{Back, Failed, Ran}
pub use Rattle.home_types.specs.declared.numbers.RunNo.{RunNo}
pub use Rattle.serial_line.specs.KeptRuns.{AreKeptOf, HasRoomForRuns, kept_run, on_device}
pub use Rattle.serial_line.specs.Labels.{AreLabels, IsBetween, IsUnder, LabelsAreInOrder, LabelsRise, LastLeavesRoom, LeavesRoom, end_leaves_room, has_free, label_at_end, label_before, label_of, labels_without, new_label}
pub use Rattle.serial_line.specs.Marks.{Mark, Marked, all_differ, front_of, is_failure, is_item, is_open_run, is_restart_of, items_of, last_meeting, mark_has_touched, marks_without, meet_marks, meets, place_of, settling, stands, touching, untouched, with_end, with_item, with_touch}
pub use Rattle.serial_line.specs.RunPlaces.{ArePlacesBefore, AreRunPlaces, is_before_place, run_place, with_place}
pub use Rattle.std.proofs.Common.{ap, append_assoc, ap₂, arith, cond, inl, inr, refl, rules, set, subst, sym, take_all, vec_capacity, vec_len, ◌∙◌, ◌⊎◌}
pub use Rattle.std.proofs.lemmas.Grind.{common_steps, get_or-set_at}
pub use Rattle.std.proofs.lemmas.List.{append-nil, at_drop_more, drop-map, drop_all, get_or-map, get_or-set_other, get_or-set_same, length-append, length-map, map-append, take-append-drop, take-map}
pub use Rattle.std.proofs.lemmas.Option.{slice_get-get_or, slice_get-map, slice_get_within}
pub use Rattle.std.specs.List.{list_any, prefix_len, swap}
pub use Rattle.std.specs.Option.{option_or}
pub use Rattle.std.specs.Ordering.{eq_by_cmp, nat_cmp}
pub use Rattle.std.specs.Prelude.{Bool, IfSome, IsTrue, List, None, Option, Some, [], drop, false, filter, get_or, if◌then◌else◌, insert, is_some, length, map, max, nat_lt, not, option_and_then, option_copied, option_map, position, remove, replicate, slice_get, slice_index_or, slice_set, suc, take, true, unwrap_or, zero, ℕ, ◌&&◌, ◌++◌, ◌+◌, ◌-◌, ◌/◌, ◌<◌, ◌==◌, ◌^◌, ◌||◌, ◌↔◌, ◌∷◌, ◌≡◌, ◌≢◌, ◌≤◌}
