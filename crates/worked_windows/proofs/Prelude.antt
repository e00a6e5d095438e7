-- What many proofs of this crate cite, passed on from one place.
pub use Rattle.history_book.specs.Histories.{answers_in, executed, kept_by, line_of, reading}
pub use Rattle.history_book.specs.Readings.{Reading, events_of, is_committed, is_doomed, is_event, put, same_answer, sees_up, span_of, view_of}
pub use Rattle.home_types.specs.declared.commands.Guard.TheVariants.{Always}
pub use Rattle.home_types.specs.declared.items.Item.{Item}
pub use Rattle.lock_leasing.specs.Configurations.{Grip, Grips, no_grips, point}
pub use Rattle.lock_leasing.specs.Places.{At, DeniedBy, MayBeOut, PlacesAreScheduled, Placing, first_place, in_order, scheduled_place}
pub use Rattle.std.proofs.Common.{ap, arith, subst, sym}
pub use Rattle.std.specs.Prelude.{Bool, IfSome, List, None, Option, Some, [], codes, count_by, drop, false, filter, fold, if◌then◌else◌, is_none, is_some, length, map, not, option_map, refl, slice_get, slice_set, suc, take, true, zero, ℕ, ⊤, ◌&&◌, ◌++◌, ◌+◌, ◌<◌, ◌==◌, ◌||◌, ◌∷◌, ◌≡◌, ◌≤◌}
