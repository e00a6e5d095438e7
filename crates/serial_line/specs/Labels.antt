-- The labels of a line, one for each item: they rise along it, so that two items are compared by
-- their labels.
use Rattle.home_types.specs.Numbers.{LinePlace}
use Rattle.home_types.specs.declared.items.Item.TheVariants.{Ran}
use Rattle.home_types.specs.declared.items.Item.{Item}
use Rattle.home_types.specs.declared.numbers.RunNo.{RunNo}
use Rattle.serial_line.specs.Marks.{Marked, place_of, stands}
use Rattle.std.specs.Option.{option_and_then}
use Rattle.std.specs.Prelude.{Bool, List, Option, Some, [], if◌then◌else◌, length, min, nat_lt, option_map, remove, slice_get, slice_index_or, suc, take, true, unwrap_or, zero, ℕ, ⊤, ◌+◌, ◌-◌, ◌/◌, ◌<◌, ◌==◌, ◌^◌, ◌∷◌, ◌≡◌, ◌≤◌}

-- each is greater than the one before it, and the first one than this
abbrev pub LabelsRise : ℕ → List ℕ → Type 0
LabelsRise left [] = ⊤
LabelsRise left (x ∷ xs) = (left < x) × LabelsRise x xs

-- each, the first one at this place, leaves room in 64 bits for 2^32 more items behind the first
abbrev pub LeavesRoom : LinePlace → List ℕ → Type 0
LeavesRoom at [] = ⊤
LeavesRoom at (x ∷ xs) = (x + 2 ^ 32 ≤ 2 ^ 64 + at) × LeavesRoom (at + 1) xs

-- what is kept of the labels of a line
pub record AreLabels (labels : List ℕ) : Type 0 where
  pub rising : LabelsRise 0 labels
  pub room : LeavesRoom 0 labels

-- the label before this place, where this one stands before the first
abbrev pub label_before : ℕ → LinePlace → List ℕ → ℕ
label_before left at [] = left
label_before left zero (x ∷ xs) = left
label_before left (suc at) (x ∷ xs) = label_before x at xs

-- it is smaller than the label at this place, where one stands there
abbrev pub IsUnder : ℕ → LinePlace → List ℕ → Type 0
IsUnder label at [] = ⊤
IsUnder label zero (x ∷ xs) = label < x
IsUnder label (suc at) (x ∷ xs) = IsUnder label at xs

-- it is a label for an item at this place
pub record IsBetween (at : LinePlace) (label : ℕ) (labels : List ℕ) : Type 0 where
  pub above : label_before 0 at labels < label
  pub under : IsUnder label at labels
  pub room : label + 2 ^ 32 ≤ 2 ^ 64 + at

-- the last one, where the first one stands at this place, leaves room as each is to do
abbrev pub LastLeavesRoom : LinePlace → List ℕ → Type 0
LastLeavesRoom at [] = ⊤
LastLeavesRoom at (x ∷ []) = x + 2 ^ 32 ≤ 2 ^ 64 + at
LastLeavesRoom at (x ∷ y ∷ ys) = LastLeavesRoom (at + 1) (y ∷ ys)

-- a label is free between the neighbours of this place, where this one stands before the first; at
-- the end there always is one
abbrev pub has_free : ℕ → LinePlace → List ℕ → Bool
has_free left at [] = true
has_free left zero (x ∷ xs) = nat_lt (left + 1) x
has_free left (suc at) (x ∷ xs) = has_free x at xs

-- the label at the end of a line, at this place and behind this label: greater by 2^32, or the
-- greatest that leaves room, where that is smaller
abbrev pub label_at_end : ℕ → LinePlace → ℕ
label_at_end left at = min (left + 2 ^ 32) (2 ^ 64 - 2 ^ 32 + at)

-- the label that an item gets at this place, where one is free: in the middle between those of its
-- neighbours, or that at the end
abbrev pub new_label : LinePlace → List ℕ → ℕ
new_label at labels =
    if at == length labels then label_at_end left at
    else left + (slice_index_or labels at 0 - left) / 2
  where
    left : ℕ
    left = label_before 0 at labels

-- each label from this place on is given as if its item came at the end
abbrev pub AreGivenAnew : LinePlace → List ℕ → Type 0
AreGivenAnew from labels =
    (at : LinePlace) → from ≤ at → at < length labels
    → slice_index_or labels at 0 ≡ label_at_end (label_before 0 at labels) at

-- the last label leaves room as each is to do
abbrev pub end_leaves_room : List ℕ → Bool
end_leaves_room labels =
    nat_lt (label_before 0 (length labels) labels) (2 ^ 64 - 2 ^ 32 + length labels)

-- the labels of the other items, where the run leaves
abbrev pub labels_without : RunNo → Marked → List ℕ
labels_without run line =
    unwrap_or (option_map (remove line.labels) (place_of (Ran run) line.marks)) line.labels

-- the label of an item
abbrev pub label_of : Item → Marked → Option ℕ
label_of item line = option_and_then (slice_get line.labels) (place_of item line.marks)

-- of two items of the line the earlier one has the smaller label
abbrev pub LabelsAreInOrder : Marked → Type 0
LabelsAreInOrder line =
    (x y : Item) (i j : LinePlace) (a b : ℕ) → place_of x line.marks ≡ Some i
    → place_of y line.marks ≡ Some j → label_of x line ≡ Some a → label_of y line ≡ Some b
    → nat_lt i j ≡ nat_lt a b

-- the item is one of those that are sealed
abbrev pub is_sealed : Item → Marked → Bool
is_sealed item line = stands item (take line.sealed line.marks)
