-- The items of the line that are final: those before the first live run.
use Rattle.command_rules.specs.Items.{of_run}
use Rattle.history_book.specs.Histories.{line_of, reading}
use Rattle.history_book.specs.Lines.{up_to_first}
use Rattle.history_book.specs.Readings.{Reading, is_live}
use Rattle.history_book.specs.Settings.{Setting}
use Rattle.history_book.specs.declared.entries.Entry.{Entry}
use Rattle.history_book.specs.declared.entries.Entry.TheVariants.{Placed}
use Rattle.home_types.specs.declared.items.Item.{Item}
use Rattle.std.specs.Prelude.{List, take, ℕ, ⊤, ◌≡◌, ◌≤◌}

-- how many there are: all items where no run is live
abbrev pub sealed_in : Reading → ℕ
sealed_in n = up_to_first (of_run (is_live n)) n.line

-- .. after a history
abbrev pub sealed_of : Setting → List Entry → ℕ
sealed_of w history = sealed_in (reading w history)

-- a run is placed behind them
abbrev pub IsPlacedBehind : Reading → Entry → Type 0
IsPlacedBehind n (Placed r at m) = sealed_in n ≤ at
IsPlacedBehind n e = ⊤

-- the final items of the one line are, in order, the first ones of the other, and no fewer are
-- final there
pub record StaysSealed (before after : Reading) : Type 0 where
  pub first : take (sealed_in before) after.line ≡ take (sealed_in before) before.line
  pub grows : sealed_in before ≤ sealed_in after

-- at each point of the history the items that were final then are, in order, the first ones of this
-- order
abbrev pub BeginsWithSealed : Setting → List Entry → List Item → Type 0
BeginsWithSealed w history order =
    (k : ℕ) → take (sealed_of w (take k history)) order
    ≡ take (sealed_of w (take k history)) (line_of w (take k history))
