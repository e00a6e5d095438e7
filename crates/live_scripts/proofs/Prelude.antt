-- What many proofs of this crate cite, passed on from one place.
pub use Rattle.home_types.specs.Listed.{Listed}
pub use Rattle.home_types.specs.declared.numbers.RunNo.{RunNo}
pub use Rattle.live_scripts.specs.Growth.{HasBegun, HasRoomForRun, HasRun, IsNewWindow, first_against_run, first_in_last, first_in_window, is_earlier, is_later_after, new_run, windows_before}
pub use Rattle.routine_reader.specs.declared.scripts.RunText.{RunText}
pub use Rattle.routine_reader.specs.declared.scripts.Script.{Script}
pub use Rattle.routine_reader.specs.declared.scripts.WindowText.{WindowText}
pub use Rattle.std.proofs.Common.{ap, arith, inl, inr, refl, rules, subst, sym, ◌∙◌}
pub use Rattle.std.proofs.lemmas.List.{length-append, length-map, map-append}
pub use Rattle.std.specs.Prelude.{All, Bool, Err, IfErr, IfOk, IfSome, List, None, Ok, Option, Result, Some, [], false, if◌then◌else◌, length, map, nat_le, nat_lt, option_map, slice_get, suc, true, unwrap_or, zero, ℕ, ◌&&◌, ◌++◌, ◌+◌, ◌-◌, ◌<◌, ◌∷◌, ◌≡◌, ◌≤◌}
