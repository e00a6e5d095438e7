-- What many proofs of this crate cite, passed on from one place.
pub use Rattle.clap.specs.Faults.{bundle_fault, check_fault, default_fault, entered_fault, fault_of, is_simple_and_free, long_fault, option_fault, react_fault, settle_fault, step_fault, turn_fault, use_fault}
pub use Rattle.clap.specs.Kinds.{HasKind, IsAmong, Kinds, or_else}
pub use Rattle.clap.specs.Lexer.{long_of, short_of}
pub use Rattle.clap.specs.Simple.{App, Shape, built, entered, filled, is_simple, matches_of}
pub use Rattle.clap.specs.Walk.{Held, Row, Rule, Step, Text, Waiting, Walk, after_flag, after_step, arg_by_long, at_row, finished, first_of, has_row, idle, long_met, more_values, next, nothing_held, option, plain_word, positional, reading_by, rows_of, settled, settled_rows, short_word, takes_values, used, walk, walk_from, with_default, with_values, without}
pub use Rattle.clap.specs.Words.{app_of, found_of, kind_of, rule_of, with_rule}
pub use Rattle.clap.specs.declared.error.kind.ErrorKind.TheVariants.{OutOfMemory, TooManyValues, UnknownArgument}
pub use Rattle.command_words.specs.CommandLines.{check_of, command_line_of, command_of, trial_of}
pub use Rattle.command_words.specs.OptionGrammar.{GivenOptions, Valued, is_equals, model, nothing_given, option_name, option_value, options_after, options_by_words, options_given, scheduler, with_option, with_trace, with_value, with_valued, with_word}
pub use Rattle.command_words.specs.OptionWords.{bare_shape, goes_with, has_end_mark, mode_asked_for, mode_from_pair, model_asked_for, model_rule, named_model, named_scheduler, options_app, options_found, options_from, options_of, options_read, options_with, scheduler_asked_for, scheduler_rule, trace_of, trace_rule, unless_refused}
pub use Rattle.command_words.specs.TrialNumbers.{is_decimal_digit, is_short_numeral, is_window_count, starts_with_no_zero, trial_number}
pub use Rattle.command_words.specs.declared.command_lines.CommandLine.TheVariants.{Check, Keep, Replay, Run, Trial, Watch}
pub use Rattle.command_words.specs.declared.command_lines.Options.{Options}
pub use Rattle.home_types.specs.declared.modes.Visibility.{Visibility}
pub use Rattle.std.proofs.Common.{Bool, Err, IfOk, List, None, Ok, Option, Some, [], ap, append-nil, ap₂, arith, codes, cond, drop, false, fold, if◌then◌else◌, inl, inr, is_some, length, map, nat_le, not, one-add, option_map, refl, rules, slice_get, string_bytes, subst, suc, sym, take, true, true≢false, ℕ, ◌*◌, ◌++◌, ◌+◌, ◌-◌, ◌<◌, ◌==◌, ◌^◌, ◌||◌, ◌∙◌, ◌∷◌, ◌≡◌, ◌≢◌, ◌≤◌, ◌⊎◌}
pub use Rattle.std.proofs.lemmas.Slice.Eq.{bytes_eq-Decides}
pub use Rattle.std.specs.List.{after_first, find, list_all, list_any, position_or_len}
pub use Rattle.std.specs.Prelude.{Result, option_and_then, slice_index_or, ⊤}
pub use Rattle.std.specs.Str.{all_ascii_digits, bytes_eq, chars}
