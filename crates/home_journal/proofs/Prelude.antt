-- What many proofs of this crate cite, passed on from one place.
pub use Rattle.home_journal.specs.Journals.{IsStateOf, JournalState, KeepsFirst, KnowsKept, LeavesFirst, last_kept, last_kept_home, states_kept}
pub use Rattle.home_journal.specs.KeptStates.{kept_states, states_from, with_first}
pub use Rattle.home_journal.specs.Slots.{body_size, slot_state, stand_bytes, stands_of, state_bytes, with_slot}
pub use Rattle.home_types.specs.HomeStates.{stand_at}
pub use Rattle.home_types.specs.Kinds.{has_value, kind_at}
pub use Rattle.home_types.specs.declared.kinds.Kind.{Kind}
pub use Rattle.home_types.specs.declared.kinds.Kind.TheVariants.{States}
pub use Rattle.home_types.specs.declared.worlds.Stand.{Stand}
pub use Rattle.slot_disks.specs.Disks.{LeavesOnly}
pub use Rattle.slot_disks.specs.SlotFiles.{IsFound, IsGroup, IsOldOrAll}
pub use Rattle.slot_disks.specs.Slots.{is_to_shut, open_slots, with_group}
pub use Rattle.std.proofs.Common.{All, List, [], ap, append_assoc, arith, drop, false, get_or, inl, inr, length, length-append, length-drop, map, min, refl, rules, subst, suc, suc-mul, sym, take, take-append-drop, true, true≢false, vec_capacity, w16, w32, zero, ℕ, ⊎_elim, ◌*◌, ◌++◌, ◌+◌, ◌<◌, ◌^◌, ◌∙◌, ◌∷◌, ◌≡◌, ◌≢◌, ◌≤◌, ◌⊎◌}
pub use Rattle.std.proofs.lemmas.Bool.Decides.{nat_tests}
pub use Rattle.std.proofs.lemmas.Grind.{common_steps}
pub use Rattle.std.proofs.lemmas.List.{append-nil, drop-take, drop_all, drop_at, drop_more, flat_map_more, get_or-map, length-map, length-take, length-take-le, take-take, take_all, take_at, take_more, take_more_set, take_rest}
pub use Rattle.std.proofs.lemmas.List.Elements.{All-append, All-more}
pub use Rattle.std.proofs.lemmas.Nat.{from_le_bytes-to_le_bytes_2, from_le_bytes-to_le_bytes_4, mul-le}
pub use Rattle.std.specs.Int.{from_le_bytes, to_le_bytes}
pub use Rattle.std.specs.List.{flat_map}
pub use Rattle.std.specs.Option.{option_map}
pub use Rattle.std.specs.Prelude.{Bool, Err, None, Ok, OnOk, Option, Result, Some, if◌then◌else◌, is_ok, nat_le, nat_lt, set, slice_get, ◌&&◌, ◌-◌, ◌==◌}
