-- What many proofs of this crate cite, passed on from one place.
pub use Rattle.day_clock.specs.Times.{IsCivilTime}
pub use Rattle.day_clock.specs.declared.times.When.{When}
pub use Rattle.device_gate.specs.declared.slips.Told.TheVariants.{Died, Sensed, Worked}
pub use Rattle.logged_calls.specs.CallBytes.{call_bytes, calls_bytes, calls_from, front_call, front_calls, front_record, good_bytes, record_bytes, with_first}
pub use Rattle.logged_calls.specs.Calls.{FollowFits, HasCivilTime, IsLoggable}
pub use Rattle.logged_calls.specs.Records.{call_of, call_of_kind, follow_in, if_same, record_of, same_record}
pub use Rattle.logged_calls.specs.Times.{digits_time, is_civil, number_time, time_number}
pub use Rattle.logged_calls.specs.declared.calls.Logged.{Logged}
pub use Rattle.logged_calls.specs.declared.calls.Logged.TheVariants.{Added, Began, Closed, Gave, Lost, Opened, Probed, Restood, Took}
pub use Rattle.logged_calls.specs.declared.records.Record.{Record}
pub use Rattle.std.proofs.Common.{All, Bool, IfNone, IfSome, List, None, Option, Some, [], ap, append_assoc, arith, drop, drop-drop, false, get_or, inl, inr, length, length-append, length-drop, length-take-le, refl, subst, suc, sym, take, take-add, take_all, true, true≢false, w16, w32, w64, zero, ℕ, ◌%◌, ◌*◌, ◌++◌, ◌+◌, ◌-◌, ◌/◌, ◌<◌, ◌^◌, ◌∙◌, ◌∷◌, ◌≡◌, ◌≤◌}
pub use Rattle.std.proofs.lemmas.Bool.Decides.{nat_tests}
pub use Rattle.std.proofs.lemmas.List.{append-nil, drop_more}
pub use Rattle.std.specs.Prelude.{if◌then◌else◌, is_some, nat_lt}
