-- A legal window whose runs are apart, put together whole; and the same record with its two runs exchanged, by the law and by the
-- definitions.
use Rattle.worked_windows.proofs.FirstLiveRunBoundsTheFloor as worked
use Rattle.command_rules.specs.Apart.{meet}
use Rattle.command_rules.specs.ClosedSets.{are_apart, exchanged}
use Rattle.exchange_laws.proofs.Cited.{legal_exchanged, legal_itself}
use Rattle.exchange_laws.specs.ExchangedOrders.{IsLegalUpToExchanges, with_order}
use Rattle.worked_windows.proofs.Prelude.{Item, List, MayBeOut, [], arith, drop, kept_by, line_of, point, reading, refl, take, true, ◌++◌, ◌∷◌, ◌≡◌}
use Rattle.history_book.specs.declared.records.WindowRecord.{WindowRecord}
use Rattle.legal_days.specs.AccountedCalls.{CallsAreAccounted}
use Rattle.legal_days.specs.Agreement.{AgreesWithSerial}
use Rattle.legal_days.specs.LegalWindows.{IsLegalWindow}
use Rattle.legal_days.specs.Orders.{IsOrderFor}
use Rattle.std.proofs.lemmas.Grind.{common_steps}
use Rattle.worked_windows.proofs.Words.{Ran, no_grips, run_no, split_of}

-- four entries of each run
abbrev closed : WindowRecord
closed = record {
  mode = worked.window.mode;
  first = record { devices = record { items = worked.window.first; spare = 0 } };
  history = record { items = kept_by 1 (take 4 worked.history) ++ kept_by 2 (drop 4 worked.history); spare = 0 };
  order = record { items = worked.table.outcome.order; spare = 0 };
  last = record { devices = record { items = worked.table.outcome.home; spare = 0 } };
  turns = record { items = 1 ∷ 1 ∷ []; spare = 0 };
  faults = record { items = 0 ∷ 0 ∷ []; spare = 0 };
}

first_out : MayBeOut (point worked.window (reading worked.window (take 1 worked.history)) no_grips)
unfolding split_of
first_out = record { commands = λ d r k out. absurd (cc); undos = λ d r v out. absurd (cc); one = λ d e r p q out too. absurd (cc) }

second_out : MayBeOut (point worked.window (reading worked.window (take 5 worked.history)) no_grips)
unfolding split_of
second_out = record { commands = λ d r k out. absurd (cc); undos = λ d r v out. absurd (cc); one = λ d e r p q out too. absurd (cc) }

calls_are : CallsAreAccounted worked.window worked.history (1 ∷ 1 ∷ []) (0 ∷ 0 ∷ [])
unfolding split_of
calls_are = record { turns_size = refl; faults_size = refl; turns_of = λ d within. grind (arith, common_steps); faults_of = λ d within. grind (arith, common_steps) }

order_is : IsOrderFor worked.window worked.history worked.table.outcome.order
unfolding split_of
order_is = record { runs = λ r. grind (arith, common_steps); events = λ d. grind (arith, common_steps); following = λ r f both. grind (arith, common_steps) }

agrees_is : AgreesWithSerial worked.window worked.history worked.table.outcome.order worked.table.outcome.home
unfolding split_of
agrees_is = record { applies = refl; answers = refl; home = refl; counted = λ d within. grind (arith, common_steps) }

window_is_legal : IsLegalWindow worked.window closed
unfolding split_of
window_is_legal = record {
  mode = refl;
  first = refl;
  well_formed = refl;
  ended = refl;
  line = refl;
  places = (tt, ((no_grips, first_out, refl, refl), (tt, (tt, (tt, ((no_grips, second_out, refl, refl), (tt, (tt, tt))))))));
  is_order = order_is;
  agrees = agrees_is;
  clean = refl;
  justified = refl;
  accounted = calls_are;
  isolated = λ strict. absurd (cc);
}

-- Exchanged

runs_are_apart : are_apart (meet worked.window.runs) 0 closed.order.items ≡ true
runs_are_apart = refl

abbrev other_order : List Item
other_order = Ran (run_no 2) ∷ Ran (run_no 1) ∷ []

exchanged_is_legal : IsLegalUpToExchanges worked.window (with_order closed other_order)
unfolding exchanged
exchanged_is_legal = legal_exchanged worked.window closed 0 (legal_itself worked.window closed window_is_legal) runs_are_apart

-- though it is not the line of the history
is_not_the_line : other_order ≡ line_of worked.window worked.history → ⊥
unfolding split_of
is_not_the_line same = cc

-- what the definitions compute of it
exchanged_order_is : IsOrderFor worked.window worked.history other_order
unfolding split_of
exchanged_order_is = record { runs = λ r. grind (arith, common_steps); events = λ d. grind (arith, common_steps); following = λ r f both. grind (arith, common_steps) }

exchanged_agrees : AgreesWithSerial worked.window worked.history other_order worked.table.outcome.home
unfolding split_of
exchanged_agrees = record { applies = refl; answers = refl; home = refl; counted = λ d within. grind (arith, common_steps) }
