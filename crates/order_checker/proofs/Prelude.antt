-- What many proofs of this crate cite, passed on from one place.
pub use Rattle.command_rules.specs.Rosters.{Run, commands_of, device_no, runs_of}
pub use Rattle.home_types.specs.Commands.{Effect, Execution, command_effect, execute, fails, routine_execution}
pub use Rattle.home_types.specs.declared.commands.Answer.{Answer}
pub use Rattle.home_types.specs.declared.commands.Command.{Command}
pub use Rattle.home_types.specs.declared.items.Item.{Item}
pub use Rattle.home_types.specs.declared.kinds.Kind.{Kind}
pub use Rattle.home_types.specs.declared.worlds.Stand.{Stand}
pub use Rattle.order_checker.specs.Ends.{plain_end, plain_ends}
pub use Rattle.order_checker.specs.HomeLines.{next_device_told, next_stand, stand_by_word, stands_so}
unfoldable pub use Rattle.order_checker.specs.Lines.{lines_of_pieces}
pub use Rattle.order_checker.specs.Lines.{has_no_line, is_note, line_at, lines_of, pieces_of}
pub use Rattle.order_checker.specs.OrderLines.{OrderSetting, home_with_event, item_of, next_item, next_stands, order_place}
pub use Rattle.order_checker.specs.Readers.{AreWindowsTold, IsReader, progress_told, runs_told, setting_for_order}
pub use Rattle.order_checker.specs.Records.{in_window, next_window_told}
pub use Rattle.order_checker.specs.RunLines.{next_answer, told_of}
unfoldable pub use Rattle.order_checker.specs.Steps.{walk}
pub use Rattle.order_checker.specs.Steps.{IsTold, required, ◌>>=◌}
pub use Rattle.order_checker.specs.Windows.{DayProgress, next_run_told, run_text_told, window_told}
unfoldable pub use Rattle.order_checker.specs.Words.{number_of}
pub use Rattle.order_checker.specs.Words.{is_numeral, texts, words_of}
pub use Rattle.order_checker.specs.declared.run_lines.RunEnd.{RunEnd}
pub use Rattle.order_checker.specs.declared.verdicts.Place.{Place}
pub use Rattle.routine_reader.specs.declared.scripts.Script.{Script}
pub use Rattle.std.proofs.Common.{Bool, Bor, Err, List, None, Ok, Option, Result, Some, [], ap, append-nil, append_assoc, arith, drop, drop-drop, false, fold, get_or, if◌then◌else◌, length, length-append, length-set, map, nat_lt, not, option_map, refl, rules, subst, suc, sym, take, true, unwrap_or, zero, ℕ, ⊎_elim, ◌&&◌, ◌*◌, ◌++◌, ◌+◌, ◌-◌, ◌<◌, ◌==◌, ◌^◌, ◌∙◌, ◌∷◌, ◌≡◌, ◌≤◌}
pub use Rattle.std.proofs.lemmas.Grind.{common_steps}
pub use Rattle.std.proofs.lemmas.List.{drop_all, drop_more, get_or-map, get_or_default, length-drop, length-map, length-take, map-append, take_all}
pub use Rattle.std.proofs.lemmas.List.Sums.{fails_before_first, fold-append, position_or_len_is}
pub use Rattle.std.proofs.lemmas.Option.{get_or_from_slice_get, slice_get-get_or, slice_get-map, slice_get_past, slice_get_within}
pub use Rattle.std.specs.List.{list_all, list_any, position, position_or_len, slice_split}
pub use Rattle.std.specs.Option.{option_map_or, option_or}
pub use Rattle.std.specs.Prelude.{All, is_none, ok_or, option_and_then, slice_get, slice_index_or, slice_set, ◌||◌}
