-- What many proofs of this crate cite, passed on from one place.
pub use Rattle.command_rules.proofs.Cited.{both_touch, found, is_of, of_one_device}
pub use Rattle.command_rules.specs.Apart.{meet, share_device}
pub use Rattle.command_rules.specs.ClosedSets.{Exchanged, Stays, Swaps, are_apart, exchanged}
pub use Rattle.command_rules.specs.Items.{is_ran, of_run}
pub use Rattle.command_rules.specs.Rosters.{Run, commands_of, device_no, follows, run_no, shares, touches}
pub use Rattle.exchange_laws.specs.ExchangedOrders.{IsLegalUpToExchanges, IsRearranged, IsSeriallyLegalUpToExchanges, point_with_line, with_order}
pub use Rattle.history_book.specs.Histories.{answers_in, entries_of, executed, line_of, reading}
pub use Rattle.history_book.specs.Lines.{behind, is_event_on}
pub use Rattle.history_book.specs.Readings.{Event, First, Last, LogMark, Reading, asks_on, did, has_written, is_committed, is_doomed, is_live, next_of, pends, sees_up}
pub use Rattle.history_book.specs.Settings.{Setting, device_numbers, is_weak}
pub use Rattle.home_types.specs.declared.items.Item.{Item}
pub use Rattle.home_types.specs.declared.items.Item.TheVariants.{Back, Failed, Ran}
pub use Rattle.home_types.specs.declared.worlds.Stand.{Stand}
pub use Rattle.legal_days.proofs.Cited.{count_cons}
pub use Rattle.lineage_laws.proofs.Cited.{ArePair, pair, share_none}
pub use Rattle.std.proofs.Common.{ap, ap₂, arith, cond, eq-eqb, inl, inr, refl, subst, sym, ◌∙◌}
pub use Rattle.std.proofs.lemmas.Grind.{common_steps}
pub use Rattle.std.proofs.lemmas.List.Elements.{filter-append}
pub use Rattle.std.specs.List.{cons_option, list_any}
pub use Rattle.std.specs.Prelude.{Bool, IsTrue, List, None, Option, Some, [], count_by, false, filter, filter_map, fold, if◌then◌else◌, is_some, map, not, true, unwrap_or, ℕ, ⊤, ◌&&◌, ◌++◌, ◌+◌, ◌<◌, ◌==◌, ◌||◌, ◌∷◌, ◌≡◌, ◌⊎◌}
