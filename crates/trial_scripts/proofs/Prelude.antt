-- What many proofs of this crate cite, passed on from one place.
pub use Rattle.home_types.specs.declared.kinds.Kind.TheVariants.{Range, States}
pub use Rattle.routine_reader.proofs.Cited.{EachAfter, each-more, each-none, length-before}
pub use Rattle.routine_reader.specs.Scripts.{PlainDevice, PlainRoutine, PlainWindow, plain_device, plain_routine, plain_script, plain_window}
pub use Rattle.routine_reader.specs.Sound.{AreDifferent, AreInOrder, IsBefore, IsSound, IsSoundCommand, IsSoundDevice, IsSoundDown, IsSoundRoutine, IsSoundRun, IsSoundWindow, device_kinds, suits_device}
pub use Rattle.seeded_draws.specs.Draws.{below, drawn}
pub use Rattle.std.proofs.Common.{Bool, Equal, Less, List, None, Some, [], ap, arith, false, inl, inr, length, length-append, map, refl, rules, subst, suc, sym, true, zero, ℕ, ◌%◌, ◌*◌, ◌+◌, ◌/◌, ◌<◌, ◌||◌, ◌∙◌, ◌∷◌, ◌≡◌, ◌≤◌}
pub use Rattle.std.proofs.lemmas.Grind.{common_steps}
pub use Rattle.std.proofs.lemmas.List.{map-append}
pub use Rattle.std.proofs.lemmas.List.Elements.{All-append, All-cons, All-get_or, All-nil}
pub use Rattle.std.proofs.lemmas.List.FromFn.{get_or-map-range_with_len, length-map-range_with_len, map-range_with_len_more}
pub use Rattle.std.specs.List.{range_with_len}
pub use Rattle.std.specs.Prelude.{All, IfSome, codes, if◌then◌else◌, slice_get, ◌++◌, ◌==◌}
unfoldable pub use Rattle.trial_scripts.specs.Drawings.{draw_each}
pub use Rattle.trial_scripts.specs.Drawings.{Drawing, two_digit_text}
pub use Rattle.trial_scripts.specs.TrialDevices.{device_count, trial_device, trial_devices}
unfoldable pub use Rattle.trial_scripts.specs.TrialRoutines.{draw_command, draw_job, draw_routine, draw_routines}
pub use Rattle.trial_scripts.specs.TrialRoutines.{draw_job_of, draw_valued, routine_count}
unfoldable pub use Rattle.trial_scripts.specs.TrialScripts.{trial_script}
unfoldable pub use Rattle.trial_scripts.specs.TrialWindows.{draw_run, draw_window, draw_windows}
pub use Rattle.trial_scripts.specs.TrialWindows.{trial_time}
