-- What many proofs of this crate cite, passed on from one place.
pub use Rattle.history_book.specs.Readings.{Reading, put}
pub use Rattle.home_types.specs.HomeStates.{stand_at}
pub use Rattle.home_types.specs.declared.worlds.Stand.{Stand}
pub use Rattle.lock_leasing.specs.Configurations.{Grip, Grips, has_grip, point}
pub use Rattle.lock_leasing.specs.declared.purposes.Purpose.{Purpose}
pub use Rattle.std.proofs.Common.{ap, arith, inl, inr, length-append, refl, subst, sym, ◌∙◌}
pub use Rattle.std.proofs.lemmas.Bool.{eq-eqb, eqb-true, lt-ltb}
pub use Rattle.std.proofs.lemmas.Grind.{common_steps}
pub use Rattle.std.proofs.lemmas.List.{get_or-set_other, get_or-set_same, length-replicate, length-set, replicate-append-replicate}
pub use Rattle.std.proofs.lemmas.Option.{get_or_from_slice_get, same_Some, slice_get_cases, slice_get_within, unwrap_or-slice_get}
pub use Rattle.std.specs.Prelude.{Bool, List, None, Option, Some, [], cond, false, find, if◌then◌else◌, is_none, is_some, length, nat_lt, option_map, replicate, slice_get, slice_index_or, slice_set, suc, true, unwrap_or, zero, ℕ, ⊤, ◌++◌, ◌+◌, ◌-◌, ◌<◌, ◌==◌, ◌∷◌, ◌≡◌, ◌≢◌, ◌≤◌, ◌⊎◌}
pub use Rattle.window_devices.specs.KnownDevices.{AreKnown, grip_in, known_first, no_device, progress_at}
pub use Rattle.window_devices.specs.LeftDevices.{HaveRisen, all_known_left, known_left}
pub use Rattle.window_devices.specs.declared.known.DeviceProgress.{DeviceProgress}
