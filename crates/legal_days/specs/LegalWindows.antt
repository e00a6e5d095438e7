-- Legal windows: what a window's record has to be for its runs, its mode, and the kinds and the
-- first state of the home.
use Rattle.command_rules.specs.Rosters.{command_at, commands_of}
use Rattle.history_book.specs.Histories.{entries_of, line_of, reading}
use Rattle.history_book.specs.Readings.{Reading}
use Rattle.history_book.specs.Settings.{Setting, is_strict, is_weak, run_numbers}
use Rattle.history_book.specs.WellFormed.{IsWellFormed, each_entry}
use Rattle.history_book.specs.declared.entries.Cause.TheVariants.{MustDown, Refuted}
use Rattle.history_book.specs.declared.entries.End.TheVariants.{Committed}
use Rattle.history_book.specs.declared.entries.Entry.{Entry}
use Rattle.history_book.specs.declared.entries.Entry.TheVariants.{Did, Doomed, Ended}
use Rattle.history_book.specs.declared.records.WindowRecord.{WindowRecord}
use Rattle.home_types.specs.Commands.{fails}
use Rattle.home_types.specs.HomeStates.{stand_at}
use Rattle.home_types.specs.Numbers.{DeviceId}
use Rattle.home_types.specs.declared.commands.Answer.{Answer}
use Rattle.home_types.specs.declared.commands.Answer.TheVariants.{Down, Fine, Found, Skipped}
use Rattle.home_types.specs.declared.commands.Command.{Command}
use Rattle.legal_days.specs.AccountedCalls.{CallsAreAccounted}
use Rattle.legal_days.specs.Agreement.{AgreesWithSerial}
use Rattle.legal_days.specs.CleanReads.{ReadsAreClean}
use Rattle.legal_days.specs.Isolation.{IsStrict}
use Rattle.legal_days.specs.JustifiedAborts.{IsJustified, shows}
use Rattle.legal_days.specs.Orders.{IsOrderFor}
use Rattle.lock_leasing.specs.Places.{PlacesAreScheduled}
use Rattle.std.specs.List.{list_all}
use Rattle.std.specs.Prelude.{Bool, IsTrue, List, [], false, is_some, length, not, true, ◌&&◌, ◌<◌, ◌==◌, ◌∷◌, ◌≡◌}

abbrev pub history_of : WindowRecord → List Entry
history_of closed = entries_of closed.history.items

-- every run has ended
abbrev pub all_ended : Setting → List Entry → Bool
all_ended w history = list_all (λ r. is_some ((reading w history).run r).ended) (run_numbers w)

-- legal under the models that promise an order
pub record IsSeriallyLegal (w : Setting) (closed : WindowRecord) : Type 0 where
  pub mode : closed.mode ≡ w.mode
  pub first : closed.first.devices.items ≡ w.first
  pub well_formed : IsWellFormed w (history_of closed)
  pub ended : IsTrue (all_ended w (history_of closed))
  pub line : closed.order.items ≡ line_of w (history_of closed)
  pub places : PlacesAreScheduled w (history_of closed)
  pub is_order : IsOrderFor w (history_of closed) closed.order.items
  pub agrees : AgreesWithSerial w (history_of closed) closed.order.items closed.last.devices.items
  pub clean : ReadsAreClean w (history_of closed)
  pub justified : IsJustified w (history_of closed)
  pub accounted : CallsAreAccounted w (history_of closed) closed.turns.items closed.faults.items
  pub isolated : IsTrue (is_strict w.mode) → IsStrict w (history_of closed)

-- The weak model

abbrev pub none_fails : List Command → List Answer → Bool
none_fails [] answers = true
none_fails (c ∷ cs) [] = true
none_fails (c ∷ cs) (a ∷ answers) = not (fails c a) && none_fails cs answers

-- Down is answered where the device is counted down, a read finds what the last write left,
-- a run is doomed by a must command that failed, and a committed run has none
abbrev pub weakly_allowed : Setting → Reading → Entry → Bool
weakly_allowed w n (Did r c Down) = not (n.up (command_at w.runs r.0 c).device.0)
weakly_allowed w n (Did r c (Found x)) = x == n.last (command_at w.runs r.0 c).device.0
weakly_allowed w n (Did r c Fine) = true
weakly_allowed w n (Did r c Skipped) = true
weakly_allowed w n (Doomed r (MustDown c)) = shows w n r.0 (MustDown c)
weakly_allowed w n (Doomed r (Refuted c x)) = shows w n r.0 (Refuted c x)
weakly_allowed w n (Doomed r cause) = false
weakly_allowed w n (Ended r Committed) = none_fails (commands_of w.runs r.0) (n.run r.0).answers
weakly_allowed w n e = true

-- legal under the weak model, which promises no order
pub record IsWeaklyLegal (w : Setting) (closed : WindowRecord) : Type 0 where
  pub mode : closed.mode ≡ w.mode
  pub first : closed.first.devices.items ≡ w.first
  pub well_formed : IsWellFormed w (history_of closed)
  pub ended : IsTrue (all_ended w (history_of closed))
  pub accounted : CallsAreAccounted w (history_of closed) closed.turns.items closed.faults.items
  pub allowed : IsTrue (each_entry w (weakly_allowed w) (history_of closed))
  pub size : length closed.last.devices.items ≡ length w.first
  pub counted : (d : DeviceId) → d < length w.first
      → (stand_at closed.last.devices.items d).up ≡ (reading w (history_of closed)).up d
  pub values : (d : DeviceId) → d < length w.first
      → (stand_at closed.last.devices.items d).value ≡ (reading w (history_of closed)).last d
  -- no order is claimed
  pub unclaimed : closed.order.items ≡ []

-- a legal window: weakly legal under the weak model, serially legal under each other one
abbrev pub IsLegalWindow : Setting → WindowRecord → Type 0
IsLegalWindow w closed = under_weak (is_weak w.mode)
  where
    under_weak : Bool → Type 0
    under_weak true = IsWeaklyLegal w closed
    under_weak false = IsSeriallyLegal w closed
