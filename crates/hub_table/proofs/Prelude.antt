-- What many proofs of this crate cite, passed on from one place.
pub use Rattle.device_gate.specs.Calls.{is_counted_up, may_tell}
pub use Rattle.device_gate.specs.Grips.{Gripped, IsAsLeft}
pub use Rattle.device_gate.specs.Places.{IsKept, all_home, kept_of}
pub use Rattle.device_gate.specs.declared.gates.Place.{Place}
pub use Rattle.device_gate.specs.declared.gates.Place.TheVariants.{Home, Out}
pub use Rattle.device_gate.specs.declared.grips.Ready.{Ready}
pub use Rattle.device_gate.specs.declared.slips.Slip.{Slip}
pub use Rattle.device_gate.specs.declared.slips.Task.{Task}
pub use Rattle.history_book.specs.Sealed.{BeginsWithSealed, StaysSealed}
pub use Rattle.hub_core.proofs.Cited.{decide_is, took_choice, took_probe}
pub use Rattle.hub_core.specs.HubCalls.{DeviceGoesOut, HubStands, IsProbed}
pub use Rattle.hub_core.specs.OpenHubs.{OpenHub, configuration_of, hub_state_of}
pub use Rattle.hub_table.specs.Answers.{refusal, unfit_for}
pub use Rattle.hub_table.specs.Tables.{AreInPlace, GripsAreHeld, IsBack, PlacesAreEmpty, SlipAndTask, StoodInOrder, lent_by, lent_in_place, what_is_held, what_is_lent}
pub use Rattle.lock_leasing.specs.Configurations.{Configuration, point_of, read_of}
pub use Rattle.std.proofs.Common.{ap, arith, refl, subst, subst₂, sym, ◌∙◌}
pub use Rattle.std.proofs.lemmas.Option.{slice_get-map, slice_get_within}
pub use Rattle.std.specs.Prelude.{Bool, IsTrue, List, None, Option, Some, [], false, if◌then◌else◌, length, max, not, option_map, slice_get, slice_set, suc, true, vec_capacity, vec_len, zero, ℕ, ⊤, ◌++◌, ◌-◌, ◌<◌, ◌==◌, ◌||◌, ◌∷◌, ◌≡◌, ◌≢◌, ◌≤◌}
