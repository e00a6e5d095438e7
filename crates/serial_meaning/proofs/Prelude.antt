-- What many proofs of this crate cite, passed on from one place.
pub use Rattle.command_rules.specs.Rosters.{Run, commands_of, plain_run, runs_of}
pub use Rattle.command_rules.specs.Serial.{SerialRun, serial_execution, serve}
pub use Rattle.home_types.specs.Commands.{Execution, execute, routine_execution}
pub use Rattle.serial_meaning.specs.Progress.{execution_of, serial_run_of}
pub use Rattle.std.proofs.Common.{All, Bool, List, None, Option, Some, [], ap, arith, drop, false, fold, get_or, if◌then◌else◌, length, option_map, refl, rules, slice_get, slice_index_or, suc, sym, true, unwrap_or, zero, ℕ, ◌+◌, ◌<◌, ◌∙◌, ◌∷◌, ◌≡◌}
