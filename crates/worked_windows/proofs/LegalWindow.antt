-- A window's record that is legal, put together whole.
use Rattle.worked_windows.proofs.FailureAfterLastAccess as worked
use Rattle.worked_windows.proofs.Prelude.{List, MayBeOut, [], arith, drop, false, kept_by, point, reading, refl, take, true, ◌++◌, ◌∷◌}
use Rattle.history_book.specs.declared.entries.Kept.{Kept}
use Rattle.history_book.specs.declared.records.WindowRecord.{WindowRecord}
use Rattle.legal_days.specs.AccountedCalls.{CallsAreAccounted}
use Rattle.legal_days.specs.Agreement.{AgreesWithSerial}
use Rattle.legal_days.specs.LegalWindows.{IsLegalWindow}
use Rattle.legal_days.specs.Orders.{IsOrderFor}
use Rattle.std.proofs.lemmas.Grind.{common_steps}
use Rattle.worked_windows.proofs.Words.{Eventual, Fcfs, no_grips, split_of}

-- the failure is the detector's, all else the run's
abbrev pub made : List Kept
made = kept_by 1 (take 3 worked.history) ++ kept_by 0 (take 1 (drop 3 worked.history)) ++ kept_by 1 (drop 4 worked.history)

abbrev pub closed : WindowRecord
closed = record {
  mode = record { model = Eventual; scheduler = Fcfs };
  first = record { devices = record { items = worked.window.first; spare = 0 } };
  history = record { items = made; spare = 0 };
  order = record { items = worked.table.outcome.order; spare = 0 };
  last = record { devices = record { items = (record { value = 1; up = false } ∷ record { value = 1; up = true } ∷ record { value = 0; up = true } ∷ record { value = 18; up = true } ∷ []); spare = 0 } };
  turns = record { items = 1 ∷ 1 ∷ 0 ∷ 0 ∷ []; spare = 0 };
  faults = record { items = 1 ∷ 0 ∷ 0 ∷ 0 ∷ []; spare = 0 };
}

-- nothing is out when the run is placed
nothing_out : MayBeOut (point worked.window (reading worked.window (take 1 worked.history)) no_grips)
unfolding split_of
nothing_out = record { commands = λ d r k out. absurd (cc); undos = λ d r v out. absurd (cc); one = λ d e r p q out too. absurd (cc) }

order_is : IsOrderFor worked.window worked.history worked.table.outcome.order
unfolding split_of
order_is = record { runs = λ r. grind (arith, common_steps); events = λ d. grind (arith, common_steps); following = λ r f both. grind (arith, common_steps) }

calls_are : CallsAreAccounted worked.window worked.history (1 ∷ 1 ∷ 0 ∷ 0 ∷ []) (1 ∷ 0 ∷ 0 ∷ 0 ∷ [])
unfolding split_of
calls_are = record { turns_size = refl; faults_size = refl; turns_of = λ d within. grind (arith, common_steps); faults_of = λ d within. grind (arith, common_steps) }

agrees_is : AgreesWithSerial worked.window worked.history worked.table.outcome.order closed.last.devices.items
unfolding split_of
agrees_is = record { applies = refl; answers = refl; home = refl; counted = λ d within. grind (arith, common_steps) }

-- each field of a legal window
pub one_window_is_legal : IsLegalWindow worked.window closed
unfolding split_of
one_window_is_legal = record {
  mode = refl;
  first = refl;
  well_formed = refl;
  ended = refl;
  line = refl;
  places = (tt, ((no_grips, nothing_out, refl, refl), (tt, (tt, (tt, (tt, tt))))));
  is_order = order_is;
  agrees = agrees_is;
  clean = refl;
  justified = refl;
  accounted = calls_are;
  isolated = λ strict. absurd (cc);
}
