-- The labels of a line: that they rise and leave room after an item comes or goes, and after they are given anew.
use Rattle.serial_line.proofs.Prelude.{AreLabels, Bool, IfSome, IsBetween, IsUnder, Item, LabelsAreInOrder, LabelsRise, LastLeavesRoom, LeavesRoom, List, Marked, None, Option, Ran, RunNo, Some, [], ap, arith, common_steps, false, get_or, get_or-set_other, get_or-set_same, has_free, if◌then◌else◌, insert, is_some, label_at_end, label_before, label_of, labels_without, length, nat_lt, new_label, option_map, place_of, refl, remove, slice_get, slice_get-get_or, slice_get_within, slice_set, subst, suc, sym, take, true, unwrap_or, zero, ℕ, ◌+◌, ◌-◌, ◌/◌, ◌<◌, ◌==◌, ◌^◌, ◌∙◌, ◌∷◌, ◌≡◌, ◌≤◌}
use Rattle.std.proofs.lemmas.Bool.{eqb-false, eqb-true}
use Rattle.std.specs.Option.{option_and_then}

-- What stands at a place

pub before_first : (left : ℕ) (xs : List ℕ) → left ≡ label_before left 0 xs
before_first left [] = refl
before_first left (x ∷ xs) = refl

pub before_at : (left : ℕ) (xs : List ℕ) (k d : ℕ) → k < length xs → get_or xs k d ≡ label_before left (suc k) xs
before_at left [] k d within = absurd (omega (arith, within))
before_at left (x ∷ xs) zero d within = before_first x xs
before_at left (x ∷ xs) (suc k) d within = before_at x xs k d (omega (arith, within))

pub rises_at : (left : ℕ) (xs : List ℕ) (k d : ℕ) → LabelsRise left xs → k < length xs → label_before left k xs < get_or xs k d
rises_at left [] k d rises within = absurd (omega (arith, within))
rises_at left (x ∷ xs) zero d rises within = rises.0
rises_at left (x ∷ xs) (suc k) d rises within = rises_at x xs k d rises.1 (omega (arith, within))

pub room_at : (first : ℕ) (xs : List ℕ) (k d : ℕ) → LeavesRoom first xs → k < length xs → get_or xs k d + 2 ^ 32 ≤ 2 ^ 64 + (first + k)
room_at first [] k d room within = absurd (omega (arith, within))
room_at first (x ∷ xs) zero d room within = let here = room.0 in omega (arith, here)
room_at first (x ∷ xs) (suc k) d room within = let rest = room_at (first + 1) xs k d room.1 (omega (arith, within)) in omega (arith, rest)

-- each is greater than those before it
rises_over : (left : ℕ) (xs : List ℕ) (k d : ℕ) → LabelsRise left xs → k < length xs → left < get_or xs k d
rises_over left [] k d rises within = absurd (omega (arith, within))
rises_over left (x ∷ xs) zero d rises within = rises.0
rises_over left (x ∷ xs) (suc k) d rises within = let rest = rises_over x xs k d rises.1 (omega (arith, within)) in let here = rises.0 in omega (arith, rest, here)

pub rises_between : (left : ℕ) (xs : List ℕ) (i j d : ℕ) → LabelsRise left xs → i < j → j < length xs → get_or xs i d < get_or xs j d
rises_between left [] i j d rises before within = absurd (omega (arith, within))
rises_between left (x ∷ xs) i zero d rises before within = absurd (omega (arith, before))
rises_between left (x ∷ xs) zero (suc j) d rises before within = rises_over x xs j d rises.1 (omega (arith, within))
rises_between left (x ∷ xs) (suc i) (suc j) d rises before within = rises_between x xs i j d rises.1 (omega (arith, before)) (omega (arith, within))

-- The first ones

rises_part : (left : ℕ) (xs : List ℕ) (k : ℕ) → LabelsRise left xs → LabelsRise left (take k xs)
rises_part left xs zero rises = tt
rises_part left [] (suc k) rises = tt
rises_part left (x ∷ xs) (suc k) rises = (rises.0, rises_part x xs k rises.1)

room_part : (first : ℕ) (xs : List ℕ) (k : ℕ) → LeavesRoom first xs → LeavesRoom first (take k xs)
room_part first xs zero room = tt
room_part first [] (suc k) room = tt
room_part first (x ∷ xs) (suc k) room = (room.0, room_part (first + 1) xs k room.1)

pub labels_part : (xs : List ℕ) (k : ℕ) → AreLabels xs → AreLabels (take k xs)
labels_part xs k are = record { rising = rises_part 0 xs k are.rising; room = room_part 0 xs k are.room }

-- An item comes

rises_inserted : (left : ℕ) (xs : List ℕ) (at x : ℕ) → LabelsRise left xs → label_before left at xs < x → IsUnder x at xs → LabelsRise left (insert xs at x)
rises_inserted left [] zero x rises above under = (above, tt)
rises_inserted left [] (suc at) x rises above under = (above, tt)
rises_inserted left (y ∷ ys) zero x rises above under = (above, (under, rises.1))
rises_inserted left (y ∷ ys) (suc at) x rises above under = (rises.0, rises_inserted y ys at x rises.1 above under)

room_later : (first : ℕ) (xs : List ℕ) → LeavesRoom first xs → LeavesRoom (first + 1) xs
room_later first [] room = tt
room_later first (x ∷ xs) room = let here = room.0 in (omega (arith, here), room_later (first + 1) xs room.1)

room_inserted : (first : ℕ) (xs : List ℕ) (at x : ℕ) → LeavesRoom first xs → at ≤ length xs → x + 2 ^ 32 ≤ 2 ^ 64 + (first + at) → LeavesRoom first (insert xs at x)
room_inserted first [] zero x room within low = (omega (arith, low), tt)
room_inserted first [] (suc at) x room within low = absurd (omega (arith, within))
room_inserted first (y ∷ ys) zero x room within low = (omega (arith, low), room_later first (y ∷ ys) room)
room_inserted first (y ∷ ys) (suc at) x room within low = (room.0, room_inserted (first + 1) ys at x room.1 (omega (arith, within)) (omega (arith, low)))

pub labels_inserted : (xs : List ℕ) (at x : ℕ) → AreLabels xs → at ≤ length xs → IsBetween at x xs → AreLabels (insert xs at x)
labels_inserted xs at x are within between = let low = between.room in record {
  rising = rises_inserted 0 xs at x are.rising between.above between.under;
  room = room_inserted 0 xs at x are.room within (omega (arith, low));
}

pub part_inserted : (xs : List ℕ) (at x k : ℕ) → k ≤ at → at ≤ length xs → take k (insert xs at x) ≡ take k xs
part_inserted xs at x zero low within = refl
part_inserted xs zero x (suc k) low within = absurd (omega (arith, low))
part_inserted [] (suc at) x (suc k) low within = absurd (omega (arith, within))
part_inserted (y ∷ ys) (suc at) x (suc k) low within = ap (λ zs. y ∷ zs) (part_inserted ys at x k (omega (arith, low)) (omega (arith, within)))

pub inserted_removed : (xs : List ℕ) (at x : ℕ) → at ≤ length xs → remove (insert xs at x) at ≡ xs
inserted_removed [] zero x within = refl
inserted_removed [] (suc at) x within = absurd (omega (arith, within))
inserted_removed (y ∷ ys) zero x within = refl
inserted_removed (y ∷ ys) (suc at) x within = ap (λ zs. y ∷ zs) (inserted_removed ys at x (omega (arith, within)))

-- where it is free

pub free_is : (left : ℕ) (xs : List ℕ) (at d : ℕ) → at < length xs → has_free left at xs ≡ nat_lt (label_before left at xs + 1) (get_or xs at d)
free_is left [] at d within = absurd (omega (arith, within))
free_is left (x ∷ xs) zero d within = refl
free_is left (x ∷ xs) (suc at) d within = free_is x xs at d (omega (arith, within))

pub under_is : (xs : List ℕ) (at label d : ℕ) → at < length xs → label < get_or xs at d → IsUnder label at xs
under_is [] at label d within low = absurd (omega (arith, within))
under_is (x ∷ xs) zero label d within low = low
under_is (x ∷ xs) (suc at) label d within low = under_is xs at label d (omega (arith, within)) low

pub under_end : (xs : List ℕ) (at label : ℕ) → length xs ≤ at → IsUnder label at xs
under_end [] at label past = tt
under_end (x ∷ xs) zero label past = absurd (omega (arith, past))
under_end (x ∷ xs) (suc at) label past = under_end xs at label (omega (arith, past))

-- An item goes

rises_smaller : (low left : ℕ) (xs : List ℕ) → low < left → LabelsRise left xs → LabelsRise low xs
rises_smaller low left [] small rises = tt
rises_smaller low left (x ∷ xs) small rises = let here = rises.0 in (omega (arith, small, here), rises.1)

rises_removed : (left : ℕ) (xs : List ℕ) (k : ℕ) → LabelsRise left xs → LabelsRise left (remove xs k)
rises_removed left [] zero rises = tt
rises_removed left [] (suc k) rises = tt
rises_removed left (x ∷ xs) zero rises = rises_smaller left x xs rises.0 rises.1
rises_removed left (x ∷ xs) (suc k) rises = (rises.0, rises_removed x xs k rises.1)

room_by_last : (left first : ℕ) (xs : List ℕ) → LabelsRise left xs → LastLeavesRoom first xs → LeavesRoom first xs
room_by_last left first [] rises last = tt
room_by_last left first (x ∷ []) rises last = (last, tt)
room_by_last left first (x ∷ y ∷ ys) rises last =
    let rest = room_by_last x (first + 1) (y ∷ ys) rises.1 last in
    let next = rest.0 in
    let rise = rises.1.0 in
    (omega (arith, next, rise), rest)

pub labels_removed : (xs : List ℕ) (k : ℕ) → AreLabels xs → LastLeavesRoom 0 (remove xs k) → AreLabels (remove xs k)
labels_removed xs k are last = let rises = rises_removed 0 xs k are.rising in record { rising = rises; room = room_by_last 0 0 (remove xs k) rises last }

pub part_removed : (xs : List ℕ) (at k : ℕ) → k ≤ at → take k (remove xs at) ≡ take k xs
part_removed xs at zero low = refl
part_removed xs zero (suc k) low = absurd (omega (arith, low))
part_removed [] (suc at) (suc k) low = refl
part_removed (x ∷ xs) (suc at) (suc k) low = ap (λ ys. x ∷ ys) (part_removed xs at k (omega (arith, low)))

pub last_leaves : (left first : ℕ) (xs : List ℕ) → 0 < length xs → label_before left (length xs) xs + 2 ^ 32 < 2 ^ 64 + first + length xs → LastLeavesRoom first xs
last_leaves left first [] some low = absurd (omega (arith, some))
last_leaves left first (x ∷ []) some low = omega (arith, low)
last_leaves left first (x ∷ y ∷ ys) some low = last_leaves x (first + 1) (y ∷ ys) (omega arith) (omega (arith, low))

-- They are given anew

rises_told : (left : ℕ) (xs : List ℕ) (k x : ℕ) → k < length xs → LabelsRise left (take k xs) → label_before left k xs < x → LabelsRise left (take (suc k) (slice_set xs k x))
rises_told left [] k x within rises above = absurd (omega (arith, within))
rises_told left (y ∷ ys) zero x within rises above = (above, tt)
rises_told left (y ∷ ys) (suc k) x within rises above = (rises.0, rises_told y ys k x (omega (arith, within)) rises.1 above)

room_told : (first : ℕ) (xs : List ℕ) (k x : ℕ) → k < length xs → LeavesRoom first (take k xs) → x + 2 ^ 32 ≤ 2 ^ 64 + (first + k) → LeavesRoom first (take (suc k) (slice_set xs k x))
room_told first [] k x within room low = absurd (omega (arith, within))
room_told first (y ∷ ys) zero x within room low = (omega (arith, low), tt)
room_told first (y ∷ ys) (suc k) x within room low = (room.0, room_told (first + 1) ys k x (omega (arith, within)) room.1 (omega (arith, low)))

pub labels_told : (xs : List ℕ) (k x : ℕ) → k < length xs → AreLabels (take k xs) → label_before 0 k xs < x → x + 2 ^ 32 ≤ 2 ^ 64 + k → AreLabels (take (k + 1) (slice_set xs k x))
labels_told xs k x within are above low =
    let next : suc k ≡ k + 1 = omega arith in
    subst (λ n. AreLabels (take n (slice_set xs k x))) next (record { rising = rises_told 0 xs k x within are.rising above; room = room_told 0 xs k x within are.room (omega (arith, low)) })

pub part_told : (xs : List ℕ) (at x k : ℕ) → k ≤ at → take k (slice_set xs at x) ≡ take k xs
part_told xs at x zero low = refl
part_told [] at x (suc k) low = refl
part_told (y ∷ ys) zero x (suc k) low = absurd (omega (arith, low))
part_told (y ∷ ys) (suc at) x (suc k) low = ap (λ zs. y ∷ zs) (part_told ys at x k (omega (arith, low)))

-- the label before a place is told by those before it
before_told : (left : ℕ) (xs : List ℕ) (at x k : ℕ) → k ≤ at → label_before left k (slice_set xs at x) ≡ label_before left k xs
before_told left [] at x k low = refl
before_told left (y ∷ ys) zero x zero low = refl
before_told left (y ∷ ys) zero x (suc k) low = absurd (omega (arith, low))
before_told left (y ∷ ys) (suc at) x zero low = refl
before_told left (y ∷ ys) (suc at) x (suc k) low = before_told y ys at x k (omega (arith, low))

-- those from a place on are given anew up to another
abbrev pub AreAnewUpTo : ℕ → ℕ → List ℕ → Type 0
AreAnewUpTo from upto xs = (k : ℕ) → from ≤ k → k < upto → get_or xs k 0 ≡ label_at_end (label_before 0 k xs) k

pub anew_told : (from : ℕ) (xs : List ℕ) (at x : ℕ) → at < length xs → AreAnewUpTo from at xs → x ≡ label_at_end (label_before 0 at xs) at → AreAnewUpTo from (at + 1) (slice_set xs at x)
anew_told from xs at x within before is k low high = by_place (k == at) refl
  where
    by_place : (b : Bool) → (k == at) ≡ b → get_or (slice_set xs at x) k 0 ≡ label_at_end (label_before 0 k (slice_set xs at x)) k
    by_place true same =
        subst (λ m. get_or (slice_set xs at x) m 0 ≡ label_at_end (label_before 0 m (slice_set xs at x)) m) (sym (eqb-true k at same))
        (get_or-set_same xs at x 0 within ∙ is ∙ ap (λ l. label_at_end l at) (sym (before_told 0 xs at x at (omega arith))))
    by_place false other =
        let differ = eqb-false k at other in
        let under : k < at = omega (arith, high, differ) in
        get_or-set_other xs at k x 0 differ ∙ before k low under ∙ ap (λ l. label_at_end l k) (sym (before_told 0 xs at x k (omega (arith, under))))

room_before : (left first : ℕ) (xs : List ℕ) (k : ℕ) → k ≤ length xs → left + 2 ^ 32 < 2 ^ 64 + first → LeavesRoom first (take k xs) → label_before left k xs + 2 ^ 32 < 2 ^ 64 + (first + k)
room_before left first [] zero within low room = omega (arith, low)
room_before left first [] (suc k) within low room = absurd (omega (arith, within))
room_before left first (x ∷ xs) zero within low room = omega (arith, low)
room_before left first (x ∷ xs) (suc k) within low room =
    let here = room.0 in
    let rest = room_before x (first + 1) xs k (omega (arith, within)) (omega (arith, here)) room.1 in omega (arith, rest)

-- so the label for the next item is not too great
pub before_leaves : (xs : List ℕ) (k : ℕ) → k ≤ length xs → AreLabels (take k xs) → label_before 0 k xs + 2 ^ 32 < 2 ^ 64 + k
before_leaves xs k within are = let room = room_before 0 0 xs k within (omega arith) are.room in omega (arith, room)

-- Labels for an item

-- at the end
pub end_between : (xs : List ℕ) (at left x : ℕ) → at ≡ length xs → left ≡ label_before 0 at xs → left < x → x + 2 ^ 32 ≤ 2 ^ 64 + at → IsBetween at x xs
end_between xs at left x end is above low = record { above = rw (← is) above; under = under_end xs at x (omega (arith, end)); room = low }

-- between two others
pub middle_between : (xs : List ℕ) (at left x d : ℕ) → AreLabels xs → at < length xs → left ≡ label_before 0 at xs → left < x → x < get_or xs at d → IsBetween at x xs
middle_between xs at left x d are within is above below =
    let room = room_at 0 xs at d are.room within in
    record { above = rw (← is) above; under = under_is xs at x d within below; room = omega (arith, room, below) }

-- none is free
pub none_free : (xs : List ℕ) (at left d : ℕ) → at < length xs → left ≡ label_before 0 at xs → get_or xs at d ≤ left + 1 → has_free 0 at xs ≡ false
none_free xs at left d within is near = rw (free_is 0 xs at d within, ← is) (grind (arith, common_steps))

-- one is
pub some_free : (xs : List ℕ) (at left d : ℕ) → at < length xs → left ≡ label_before 0 at xs → left + 1 < get_or xs at d → true ≡ has_free 0 at xs
some_free xs at left d within is apart = rw (free_is 0 xs at d within, ← is) (grind (arith, common_steps))

pub end_free : (left : ℕ) (xs : List ℕ) (at : ℕ) → length xs ≤ at → true ≡ has_free left at xs
end_free left [] at past = refl
end_free left (x ∷ xs) zero past = absurd (omega (arith, past))
end_free left (x ∷ xs) (suc at) past = end_free x xs at (omega (arith, past))

-- which it is
module _ (xs : List ℕ) (at left x : ℕ) (is : left ≡ label_before 0 at xs) where
  chosen : Bool → ℕ
  chosen b = if b then label_at_end (label_before 0 at xs) at else label_before 0 at xs + (get_or xs at 0 - label_before 0 at xs) / 2

  pub end_label : at ≡ length xs → x ≡ label_at_end left at → x ≡ new_label at xs
  unfolding chosen
  end_label end told =
      let there : (at == length xs) ≡ true = grind (arith, common_steps) in
      told ∙ ap (λ l. label_at_end l at) is ∙ ap chosen (sym there)

  pub middle_label : at < length xs → x ≡ left + (get_or xs at 0 - left) / 2 → x ≡ new_label at xs
  unfolding chosen
  middle_label within told =
      let there : (at == length xs) ≡ false = grind (arith, common_steps) in
      told ∙ ap (λ l. l + (get_or xs at 0 - l) / 2) is ∙ ap chosen (sym there)

pub label_found : (o : Option ℕ) (x : ℕ) → IfSome o (λ y. y ≡ x) → is_some o ≡ true → unwrap_or o 0 ≡ x
label_found None x found some = absurd (cc)
label_found (Some y) x found some = found

-- the label that was found
pub given_between : (xs : List ℕ) (at : ℕ) (o : Option ℕ) → IfSome o (λ x. IsBetween at x xs) → is_some o ≡ true → IsBetween at (unwrap_or o 0) xs
given_between xs at None found some = absurd (cc)
given_between xs at (Some x) found some = found

-- those of the others, where a run leaves

pub labels_left : (run : RunNo) (line : Marked) (at : ℕ) → place_of (Ran run) line.marks ≡ Some at → labels_without run line ≡ remove line.labels at
labels_left run line at told = ap (λ o. unwrap_or (option_map (remove line.labels) o) line.labels) told

pub labels_stay : (run : RunNo) (line : Marked) → place_of (Ran run) line.marks ≡ None → labels_without run line ≡ line.labels
labels_stay run line told = ap (λ o. unwrap_or (option_map (remove line.labels) o) line.labels) told

-- of two items

get_told : (xs : List ℕ) (i a : ℕ) → slice_get xs i ≡ Some a → (i < length xs) × (get_or xs i 0 ≡ a)
get_told xs i a told =
    let within : i < length xs = slice_get_within xs i a told in
    (within, ap (λ o. unwrap_or o 0) (sym (slice_get-get_or xs i 0 within) ∙ told))

pub label_told : (x : Item) (line : Marked) (i a : ℕ) → place_of x line.marks ≡ Some i → label_of x line ≡ Some a → slice_get line.labels i ≡ Some a
label_told x line i a place told = sym (ap (option_and_then (slice_get line.labels)) place) ∙ told

-- where the labels rise, the earlier one has the smaller label
pub in_order : (line : Marked) → LabelsRise 0 line.labels → LabelsAreInOrder line
in_order line rises x y i j a b px py lx ly = by_cases (nat_lt i j) (nat_lt j i) refl refl
  where
    fx : (i < length line.labels) × (get_or line.labels i 0 ≡ a)
    fx = get_told line.labels i a (label_told x line i a px lx)

    fy : (j < length line.labels) × (get_or line.labels j 0 ≡ b)
    fy = get_told line.labels j b (label_told y line j b py ly)

    by_cases : (s t : Bool) → nat_lt i j ≡ s → nat_lt j i ≡ t → nat_lt i j ≡ nat_lt a b
    by_cases true t e f =
        let before : i < j = grind (arith, common_steps) in
        let rise = rises_between 0 line.labels i j 0 rises before fy.0 in
        let fa = fx.1 in
        let fb = fy.1 in
        let less : a < b = omega (arith, rise, fa, fb) in
        let more : nat_lt a b ≡ true = grind (arith, common_steps) in
        e ∙ sym more
    by_cases false true e f =
        let before : j < i = grind (arith, common_steps) in
        let rise = rises_between 0 line.labels j i 0 rises before fx.0 in
        let fa = fx.1 in
        let fb = fy.1 in
        let less : b < a = omega (arith, rise, fa, fb) in
        let more : nat_lt a b ≡ false = grind (arith, common_steps) in
        e ∙ sym more
    by_cases false false e f =
        let same : i ≡ j = grind (arith, common_steps) in
        let both : a ≡ b = sym fx.1 ∙ ap (λ k. get_or line.labels k 0) same ∙ fy.1 in
        let more : nat_lt a b ≡ false = grind (arith, common_steps) in
        e ∙ sym more
