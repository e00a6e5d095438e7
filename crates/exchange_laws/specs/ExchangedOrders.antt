-- A window whose order was rearranged by exchanges of neighbours that are apart.
use Rattle.command_rules.specs.Apart.{meet}
use Rattle.command_rules.specs.ClosedSets.{Exchanged}
use Rattle.command_rules.specs.Rosters.{Run}
use Rattle.history_book.specs.Histories.{line_of}
use Rattle.history_book.specs.Settings.{Setting, is_strict, is_weak}
use Rattle.history_book.specs.WellFormed.{IsWellFormed}
use Rattle.history_book.specs.declared.records.WindowRecord.{WindowRecord}
use Rattle.home_types.specs.declared.items.Item.{Item}
use Rattle.legal_days.specs.AccountedCalls.{CallsAreAccounted}
use Rattle.legal_days.specs.Agreement.{AgreesWithSerial}
use Rattle.legal_days.specs.CleanReads.{ReadsAreClean}
use Rattle.legal_days.specs.Isolation.{IsStrict}
use Rattle.legal_days.specs.JustifiedAborts.{IsJustified}
use Rattle.legal_days.specs.LegalWindows.{IsWeaklyLegal, all_ended, history_of}
use Rattle.legal_days.specs.Orders.{IsOrderFor}
use Rattle.lock_leasing.specs.Configurations.{Configuration, Point, point, read_of}
use Rattle.lock_leasing.specs.Places.{PlacesAreScheduled, in_order}
use Rattle.serial_line.specs.Marks.{is_item}
use Rattle.std.specs.Prelude.{Bool, IsTrue, List, count_by, false, filter, true, ◌||◌, ◌≡◌}

-- the record with this order
abbrev pub with_order : WindowRecord → List Item → WindowRecord
with_order closed order = record closed { order = record closed.order { items = order } }

-- where the configuration stands, with its line in this order
abbrev pub point_with_line : Configuration → List Item → Point
point_with_line s line = point s.setting (in_order (read_of s) line) s.grips

-- both hold the same items, each as often, and any two that are not apart in the same order
pub record IsRearranged (runs : List Run) (line next : List Item) : Type 0 where
  pub same : (i : Item) → count_by (is_item i) next ≡ count_by (is_item i) line
  pub order : (i j : Item) → meet runs i j ≡ true
      → filter (λ x. is_item i x || is_item j x) next
      ≡ filter (λ x. is_item i x || is_item j x) line

-- all that a serially legal window is, but that its order is reached from the line of its history
-- by exchanges of neighbours that are apart
pub record IsSeriallyLegalUpToExchanges (w : Setting) (closed : WindowRecord) : Type 0 where
  pub mode : closed.mode ≡ w.mode
  pub first : closed.first.devices.items ≡ w.first
  pub well_formed : IsWellFormed w (history_of closed)
  pub ended : IsTrue (all_ended w (history_of closed))
  pub line : Exchanged (meet w.runs) (line_of w (history_of closed)) closed.order.items
  pub places : PlacesAreScheduled w (history_of closed)
  pub is_order : IsOrderFor w (history_of closed) closed.order.items
  pub agrees : AgreesWithSerial w (history_of closed) closed.order.items closed.last.devices.items
  pub clean : ReadsAreClean w (history_of closed)
  pub justified : IsJustified w (history_of closed)
  pub accounted : CallsAreAccounted w (history_of closed) closed.turns.items closed.faults.items
  pub isolated : IsTrue (is_strict w.mode) → IsStrict w (history_of closed)

-- legal, with its order or one that is reached so; the weak model promises no order that could be
-- exchanged
abbrev pub IsLegalUpToExchanges : Setting → WindowRecord → Type 0
IsLegalUpToExchanges w closed = under_weak (is_weak w.mode)
  where
    under_weak : Bool → Type 0
    under_weak true = IsWeaklyLegal w closed
    under_weak false = IsSeriallyLegalUpToExchanges w closed
