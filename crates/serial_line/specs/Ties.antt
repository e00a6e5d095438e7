-- What a layer above keeps of a line: that it is the line which a history says, with the touches
-- and the ends that it says.
use Rattle.command_rules.specs.Items.{of_run}
use Rattle.home_types.specs.Numbers.{DeviceId, RunId}
use Rattle.home_types.specs.declared.items.Item.{Item}
use Rattle.serial_line.specs.Marks.{Mark, items_of}
use Rattle.std.specs.FinSet as set
use Rattle.std.specs.Prelude.{Bool, List, [], ⊤, ◌∷◌, ◌≡◌}

-- it holds of each
abbrev pub Each : {A : Type 0} → (A → Type 0) → List A → Type 0
Each P [] = ⊤
Each P (x ∷ xs) = P x × Each P xs

-- an item with a mark has touched the devices that the test tells
abbrev pub TouchesAs : (Item → DeviceId → Bool) → Mark → Type 0
TouchesAs touched m = (d : DeviceId) → set.contains m.touched d ≡ touched m.item d

-- an item with a mark has ended where it is a run of which the test tells it
abbrev pub EndsAs : (RunId → Bool) → Mark → Type 0
EndsAs ended m = m.ended ≡ of_run ended m.item

-- these are the items, and each has touched the devices, and has ended where it is a run, as the
-- tests tell
pub record IsLineOf (line : List Item) (touched : Item → DeviceId → Bool) (ended : RunId → Bool)
    (marks : List Mark) : Type 0 where
  pub items : items_of marks ≡ line
  pub touches : Each (TouchesAs touched) marks
  pub ends : Each (EndsAs ended) marks
