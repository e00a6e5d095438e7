-- The devices of the rooms, put in the order of the script from the last one on.
use Rattle.hub_commands.proofs.Prelude.{AreAllPlaced, Bool, HasDevicesOf, HomeState, IsRoomed, List, Listed, Some, [], all_numbers, ap, append_assoc, arith, at_place, common_steps, device_room, devices_in, drop, false, filter, filtered, get_or, get_or-set_same, if◌then◌else◌, inl, inr, length, length-append, length-map, length-set, length-take-le, map, next_number, option_map, range_with_len, refl, reverse, reverse-append, slice_get, slice_get-get_or, slice_get-map, slice_get_within, slice_index_or, slice_set, suc, sym, take, take-append-drop, take_all, take_more, true, zero, ℕ, ◌++◌, ◌+◌, ◌<◌, ◌==◌, ◌∙◌, ◌∷◌, ◌≡◌, ◌≢◌, ◌≤◌, ◌⊎◌}
use Rattle.hub_commands.proofs.Snocs.{snoc_front}
use Rattle.std.proofs.lemmas.Bool.{cases_eq}
use Rattle.std.proofs.lemmas.List.Elements.{filter-append}
use Rattle.std.proofs.lemmas.List.{append-nil}

equal_self : (a : ℕ) → (a == a) ≡ true
equal_self a = grind (arith, common_steps)

none_more : (d : ℕ) → d + 0 ≡ d
none_more d = omega arith

equal : (a b : ℕ) → (a == b) ≡ true → a ≡ b
equal a b e = grind (arith, common_steps)

unequal : (a b : ℕ) → a ≢ b → (a == b) ≡ false
unequal a b ne = grind (arith, common_steps)

get_behind : (xs : List ℕ) (x : ℕ) (ys : List ℕ) (d : ℕ) → get_or (xs ++ x ∷ ys) (length xs) d ≡ x
get_behind [] x ys d = refl
get_behind (z ∷ xs) x ys d = get_behind xs x ys d

module _ (room_of : List ℕ) where
  abbrev pub In : ℕ → ℕ → Bool
  In k e = device_room room_of e == k

  abbrev All_of : List ℕ
  All_of = range_with_len 0 (length room_of)

  -- how many of the first so many devices are in the room
  abbrev pub rank : ℕ → ℕ → ℕ
  rank k d = length (filter (In k) (take d All_of))

  nothing_more : (d : ℕ) → 0 + d ≡ d
  nothing_more d = omega arith

  front_more : (k d : ℕ) (b : Bool) → d < length room_of → In k d ≡ b → filter (In k) (take (d + 1) All_of) ≡ filter (In k) (take d All_of) ++ (if b then d ∷ [] else [])
  front_more k d b within is = next_number (In k) 0 (length room_of) d d b within (nothing_more d) is

  pub rank_more : (d : ℕ) → d < length room_of → rank (device_room room_of d) (d + 1) ≡ rank (device_room room_of d) d + 1
  rank_more d within =
      let k = device_room room_of d in
      ap (λ l. length l) (front_more k d true within (equal_self k)) ∙ length-append (filter (In k) (take d All_of)) (d ∷ [])

  pub rank_else : (k d : ℕ) → d < length room_of → device_room room_of d ≢ k → rank k (d + 1) ≡ rank k d
  rank_else k d within ne = ap (λ l. length l) (front_more k d false within (unequal (device_room room_of d) k ne) ∙ append-nil (filter (In k) (take d All_of)))

  pub rank_all : (k : ℕ) → rank k (length room_of) ≡ length (devices_in room_of k)
  rank_all k = ap (λ l. length l) (all_numbers (In k) 0 (length room_of))

  split_at : (k d : ℕ) → devices_in room_of k ≡ filter (In k) (take d All_of) ++ filter (In k) (drop d All_of)
  split_at k d = ap (filter (In k)) (sym (take-append-drop d All_of)) ∙ filter-append (In k) (take d All_of) (drop d All_of)

  -- the device is the one of its rank in its room
  pub rank_is : (d : ℕ) → d < length room_of → slice_index_or (devices_in room_of (device_room room_of d)) (rank (device_room room_of d) d) 0 ≡ d
  rank_is d within =
      let k = device_room room_of d in
      let front = filter (In k) (take d All_of) in
      let back = filter (In k) (drop (d + 1) All_of) in
      ap (λ l. get_or l (length front) 0) (split_at k (d + 1) ∙ ap (λ l. l ++ back) (front_more k d true within (equal_self k)) ∙ append_assoc front (d ∷ []) back)
      ∙ get_behind front d back 0

  pub rank_within : (k d : ℕ) → rank k d ≤ length (devices_in room_of k)
  rank_within k d = let all = ap (λ l. length l) (split_at k d) in omega (arith, all, length-append (filter (In k) (take d All_of)) (filter (In k) (drop d All_of)))

-- ---- the devices that are taken from their rooms, the last one of the script first

-- those from this number on are taken; each room has those before it
pub record IsOrdering {D : Type 0} (room_of : List ℕ) (homes : List (HomeState D)) (of_rooms : List (Listed D)) (backward : Listed D) (left : ℕ) : Type 0 where
  pub within : left ≤ length room_of
  pub count : length of_rooms ≡ length homes
  pub size : length backward.items + left ≡ length room_of
  pub room : left ≤ backward.spare
  pub lists : (k : ℕ) (home : HomeState D) (own : Listed D) → slice_get homes k ≡ Some home → slice_get of_rooms k ≡ Some own → own.items ≡ take (rank room_of k left) home.devices
  pub placed : (k : ℕ) (home : HomeState D) (a : ℕ) (device : D) (j : ℕ) → slice_get homes k ≡ Some home → slice_get home.devices a ≡ Some device → slice_index_or (devices_in room_of k) a 0 ≡ left + j
      → slice_get (reverse backward.items) j ≡ Some device

-- all are taken
pub all_ordered : {D : Type 0} (room_of : List ℕ) (homes : List (HomeState D)) (of_rooms : List (Listed D)) (backward : Listed D) (left : ℕ) → IsOrdering room_of homes of_rooms backward left → left ≡ 0
    → AreAllPlaced room_of homes (reverse backward.items)
all_ordered room_of homes of_rooms backward left is none k home a device at device_at =
    is.placed k home a device (slice_index_or (devices_in room_of k) a 0) at device_at (let zero_left : left + slice_index_or (devices_in room_of k) a 0 ≡ slice_index_or (devices_in room_of k) a 0 = omega (arith, none) in sym zero_left)

-- what a list has at a place that another one has
last_same : {X : Type 0} (xs ys : List X) (x y : X) → xs ++ x ∷ [] ≡ ys ++ y ∷ [] → x ≡ y
last_same xs ys x y same =
    let turned : x ∷ reverse xs ≡ y ∷ reverse ys = sym (reverse-append xs (x ∷ [])) ∙ ap reverse same ∙ reverse-append ys (y ∷ []) in
    cc

-- none is taken yet
pub ordering_begins : {D : Type 0} (room_of : List ℕ) (homes : List (HomeState D)) (of_rooms : List (Listed D)) (backward : Listed D) → HasDevicesOf room_of homes → map (λ (own : Listed D). own.items) of_rooms ≡ map (λ (home : HomeState D). home.devices) homes
    → backward.items ≡ [] → length room_of ≤ backward.spare → IsOrdering room_of homes of_rooms backward (length room_of)
ordering_begins {D = D} room_of homes of_rooms backward has same empty room = record {
  within = omega arith;
  count = sym (length-map of_rooms (λ (own : Listed D). own.items)) ∙ ap (λ l. length l) same ∙ length-map homes (λ (home : HomeState D). home.devices);
  size = let none = ap (λ l. length l) empty in omega (arith, none);
  room = room;
  lists = λ k home own at own_at.
      let is : Some own.items ≡ Some home.devices = sym (slice_get-map (λ (o : Listed D). o.items) of_rooms k ∙ ap (option_map (λ (o : Listed D). o.items)) own_at)
      ∙ ap (λ l. slice_get l k) same ∙ slice_get-map (λ (h : HomeState D). h.devices) homes k ∙ ap (option_map (λ (h : HomeState D). h.devices)) at in
      let items : own.items ≡ home.devices = cc in
      items ∙ sym (take_all (rank room_of k (length room_of)) home.devices (let all = rank_all room_of k in let size = has k home at in omega (arith, all, size)));
  placed = λ k home a device j at device_at is.
      let f = filtered (In room_of k) 0 (length room_of) in
      let within = slice_get_within home.devices a device device_at in
      let size = has k home at in
      let low = f.each a (omega (arith, within, size)) in
      absurd (let high = low.2 in omega (arith, high, is));
}

-- the last of those that are left is taken from its room
pub ordering_goes_on : {D : Type 0} (room_of : List ℕ) (homes : List (HomeState D)) (of_rooms rest_rooms : List (Listed D)) (backward more : Listed D) (left d : ℕ) (own less : Listed D) (device : D)
    → HasDevicesOf room_of homes → IsOrdering room_of homes of_rooms backward left → left ≡ d + 1 → slice_get of_rooms (device_room room_of d) ≡ Some own
    → own.items ≡ less.items ++ device ∷ [] → more.items ≡ backward.items ++ device ∷ [] → more.spare + 1 ≡ backward.spare
    → length rest_rooms ≡ length of_rooms → slice_get rest_rooms (device_room room_of d) ≡ Some less → ((j : ℕ) → j ≢ device_room room_of d → slice_get rest_rooms j ≡ slice_get of_rooms j)
    → IsOrdering room_of homes rest_rooms more d
ordering_goes_on {D = D} room_of homes of_rooms rest_rooms backward more left d own less device has is left_is own_at popped more_is used size here others = record {
  within = let all = is.within in omega (arith, all, left_is);
  count = size ∙ is.count;
  size = let all = is.size in let n = ap (λ l. length l) more_is in omega (arith, all, n, left_is, length-append backward.items (device ∷ []));
  room = let n = is.room in omega (arith, n, used, left_is);
  lists = λ j home own' at own'_at. lists j home own' at own'_at (cases_eq j k);
  placed = λ j home a x i at x_at place. placed j home a x i at x_at place;
}
  where
    k : ℕ
    k = device_room room_of d

    in_home : d < length room_of
    in_home = let all = is.within in omega (arith, all, left_is)

    room_then : rank room_of k left ≡ rank room_of k d + 1
    room_then = ap (rank room_of k) left_is ∙ rank_more room_of d in_home

    -- the home of that room had this device behind those of the lower ranks
    parts_of : (home : HomeState D) → slice_get homes k ≡ Some home → (less.items ≡ take (rank room_of k d) home.devices) × (slice_get home.devices (rank room_of k d) ≡ Some device)
    parts_of home at =
        let within : rank room_of k d < length home.devices = (let all = rank_within room_of k left in let n = has k home at in omega (arith, all, n, room_then)) in
        let seen = sym popped ∙ is.lists k home own at own_at ∙ ap (λ n. take n home.devices) room_then ∙ take_more home.devices (rank room_of k d) device within in (
          snoc_front less.items (take (rank room_of k d) home.devices) device (get_or home.devices (rank room_of k d) device) seen,
          slice_get-get_or home.devices (rank room_of k d) device within ∙ ap (λ x. Some x) (sym (last_same less.items (take (rank room_of k d) home.devices) device (get_or home.devices (rank room_of k d) device) seen)),
        )

    lists : (j : ℕ) (home : HomeState D) (own' : Listed D) → slice_get homes j ≡ Some home → slice_get rest_rooms j ≡ Some own' → (j ≡ k) ⊎ (j ≢ k) → own'.items ≡ take (rank room_of j d) home.devices
    lists j home own' at own'_at (inl same) =
        let both : Some less ≡ Some own' = sym here ∙ ap (slice_get rest_rooms) (sym same) ∙ own'_at in
        let is_less : less ≡ own' = cc in
        ap (λ (o : Listed D). o.items) (sym is_less) ∙ (parts_of home (ap (slice_get homes) (sym same) ∙ at)).0 ∙ ap (λ m. take (rank room_of m d) home.devices) (sym same)
    lists j home own' at own'_at (inr ne) =
        is.lists j home own' at (sym (others j ne) ∙ own'_at)
        ∙ ap (λ n. take n home.devices) (ap (rank room_of j) left_is ∙ rank_else room_of j d in_home (λ same. ne (sym same)))

    turned : reverse more.items ≡ device ∷ reverse backward.items
    turned = ap reverse more_is ∙ reverse-append backward.items (device ∷ [])

    placed : (j : ℕ) (home : HomeState D) (a : ℕ) (x : D) (i : ℕ) → slice_get homes j ≡ Some home → slice_get home.devices a ≡ Some x → slice_index_or (devices_in room_of j) a 0 ≡ d + i → slice_get (reverse more.items) i ≡ Some x
    placed j home a x zero at x_at place =
        let f = filtered (In room_of j) 0 (length room_of) in
        let within = slice_get_within home.devices a x x_at in
        let inside : a < length (devices_in room_of j) = (let n = has j home at in omega (arith, within, n)) in
        let number : slice_index_or (devices_in room_of j) a 0 ≡ d = place ∙ none_more d in
        let room : k ≡ j = equal (device_room room_of d) j (ap (In room_of j) (sym number) ∙ (f.each a inside).0) in
        let mine = ap (λ m. slice_index_or (devices_in room_of m) (rank room_of m d) 0) (sym room) ∙ rank_is room_of d in_home in
        let low : rank room_of j d < length (devices_in room_of j) = (let all = rank_within room_of k left in let same = ap (λ m. length (devices_in room_of m)) room in let r = ap (λ m. rank room_of m d) room in omega (arith, all, same, r, room_then)) in
        let rank_a : a ≡ rank room_of j d = f.distinct a (rank room_of j d) inside low (number ∙ sym mine) in
        let at_k : slice_get homes k ≡ Some home = ap (slice_get homes) room ∙ at in
        ap (λ l. slice_get l 0) turned ∙ sym (parts_of home at_k).1 ∙ ap (slice_get home.devices) (ap (λ m. rank room_of m d) room ∙ sym rank_a) ∙ x_at
    placed j home a x (suc i) at x_at place =
        ap (λ l. slice_get l (suc i)) turned ∙ is.placed j home a x i at x_at (let n : d + suc i ≡ left + i = omega (arith, left_is) in place ∙ n)

set_other : {X : Type 0} (xs : List X) (i j : ℕ) (x : X) → j ≢ i → slice_get (slice_set xs i x) j ≡ slice_get xs j
set_other [] i j x ne = refl
set_other (y ∷ xs) zero zero x ne = absurd (ne refl)
set_other (y ∷ xs) zero (suc j) x ne = refl
set_other (y ∷ xs) (suc i) zero x ne = refl
set_other (y ∷ xs) (suc i) (suc j) x ne = set_other xs i j x (λ same. ne (ap (λ n. suc n) same))

module _ {D : Type 0} (room_of : List ℕ) (homes : List (HomeState D)) (of_rooms : List (Listed D)) (backward : Listed D) (left d : ℕ) (own : Listed D) (roomed : IsRoomed room_of (length homes)) (has : HasDevicesOf room_of homes)
    (is : IsOrdering room_of homes of_rooms backward left) (left_is : left ≡ d + 1) (here : own ≡ get_or of_rooms (device_room room_of d) own) where
  in_script : d < length room_of
  in_script = let all = is.within in omega (arith, all, left_is)

  there : device_room room_of d < length of_rooms
  there = let low = roomed d in_script in let count = is.count in omega (arith, low, count)

  own_at : slice_get of_rooms (device_room room_of d) ≡ Some own
  own_at = slice_get-get_or of_rooms (device_room room_of d) own there ∙ ap (λ x. Some x) (sym here)

  -- the room has a device left
  pub never_empty : 0 < length own.items
  never_empty = by (at_place homes (device_room room_of d) (roomed d in_script))
    where
      by : (home : HomeState D) × (slice_get homes (device_room room_of d) ≡ Some home) → 0 < length own.items
      by (home, at) =
          let k = device_room room_of d in
          let all = rank_within room_of k left in
          let n = has k home at in
          let size = ap (λ l. length l) (is.lists k home own at own_at) ∙ length-take-le (rank room_of k left) home.devices (omega (arith, all, n)) in
          let before = ap (rank room_of k) left_is ∙ rank_more room_of d in_script in
          omega (arith, size, before)

  pub ordering_takes : (less more : Listed D) (device : D) → own.items ≡ less.items ++ device ∷ [] → more.items ≡ backward.items ++ device ∷ [] → (0 < backward.spare → more.spare + 1 ≡ backward.spare)
      → IsOrdering room_of homes (slice_set of_rooms (device_room room_of d) less) more d
  ordering_takes less more device popped more_is used =
      let k = device_room room_of d in
      let rest = slice_set of_rooms k less in
      let size : length rest ≡ length of_rooms = length-set of_rooms k less in
      let low = there in
      let spare = is.room in
      ordering_goes_on room_of homes of_rooms rest backward more left d own less device has is left_is own_at popped more_is (used (omega (arith, spare, left_is))) size
      (slice_get-get_or rest k less (omega (arith, size, low)) ∙ ap (λ x. Some x) (get_or-set_same of_rooms k less less low))
      (λ j ne. set_other of_rooms k j less ne)

-- a list that was found empty is not left with a device
pub none_left : (n : ℕ) → 0 < n → (0 < n → false ≡ true) → ⊥
none_left n some none = let both = none some in cc
