-- The joined order is a merge in which each room has its own order.
use Rattle.home_types.specs.declared.items.Item.{Item}
use Rattle.room_hubs.proofs.Loops.{next_mapped}
use Rattle.room_hubs.proofs.Prelude.{All, IsMerge, IsOwnItem, List, Merge, Room, RoomOrders, [], ap, append-nil, append_assoc, arith, common_steps, filter, filter-append, get_or, home_item, home_order, if◌then◌else◌, joined_merge, joined_order, length, map, map-append, order_of_room, own_order, plain_room, refl, room_in, room_order, subst, suc, sym, take, zero, ℕ, ◌++◌, ◌+◌, ◌<◌, ◌==◌, ◌∙◌, ◌∷◌, ◌≡◌, ◌≢◌}
use Rattle.room_hubs.specs.declared.rosters.RoomWindow.{RoomWindow}

own_append : (k : ℕ) (a b : Merge) → own_order k (a ++ b) ≡ own_order k a ++ own_order k b
own_append k a b =
    ap (map (λ (x : ℕ × Item). x.1)) (filter-append (λ (x : ℕ × Item). x.0 == k) a b)
    ∙ map-append (λ (x : ℕ × Item). x.1) (filter (λ (x : ℕ × Item). x.0 == k) a) (filter (λ (x : ℕ × Item). x.0 == k) b)

others : (k j : ℕ) (order : List Item) → k ≢ j → own_order j (map (λ i. (k, i)) order) ≡ []
others k j [] ne = refl
others k j (i ∷ order) ne = hidden (filter (λ (x : ℕ × Item). x.0 == j) (map (λ i. (k, i)) order)) ∙ others k j order ne
  where
    hidden : (rest : Merge) → map (λ (x : ℕ × Item). x.1) (if k == j then (k, i) ∷ rest else rest) ≡ map (λ (x : ℕ × Item). x.1) rest
    hidden rest = grind (arith, common_steps, ne)

its_own : (k : ℕ) (order : List Item) → own_order k (map (λ i. (k, i)) order) ≡ order
its_own k [] = refl
its_own k (i ∷ order) = shown (filter (λ (x : ℕ × Item). x.0 == k) (map (λ i. (k, i)) order)) ∙ ap (λ l. i ∷ l) (its_own k order)
  where
    shown : (rest : Merge) → map (λ (x : ℕ × Item). x.1) (if k == k then (k, i) ∷ rest else rest) ≡ i ∷ map (λ (x : ℕ × Item). x.1) rest
    shown rest = grind (arith, common_steps)

before : (k j : ℕ) (orders : RoomOrders) → j < k → own_order j (joined_merge k orders) ≡ []
before k j [] less = refl
before k j (x ∷ xs) less =
    own_append j (map (λ i. (k, i)) x.1) (joined_merge (k + 1) xs)
    ∙ (λ i. others k j x.1 (λ e. omega (arith, e, less)) i ++ before (k + 1) j xs (omega (arith, less)) i)

pub own_from : (k j : ℕ) (orders : RoomOrders) → own_order (k + j) (joined_merge k orders) ≡ order_of_room orders j
own_from k j [] = refl
own_from k zero (x ∷ xs) =
    let here : k + 0 ≡ k = omega arith in
    ap (λ n. own_order n (joined_merge k (x ∷ xs))) here ∙ own_append k (map (λ i. (k, i)) x.1) (joined_merge (k + 1) xs)
    ∙ (λ i. its_own k x.1 i ++ before (k + 1) k xs (omega arith) i) ∙ append-nil x.1
own_from k (suc j) (x ∷ xs) =
    let further : k + suc j ≡ (k + 1) + j = omega arith in
    own_append (k + suc j) (map (λ i. (k, i)) x.1) (joined_merge (k + 1) xs)
    ∙ (λ i. others k (k + suc j) x.1 (λ e. omega (arith, e)) i ++ own_order (further i) (joined_merge (k + 1) xs)) ∙ own_from (k + 1) j xs

-- the joined order is the merge in the home's numbers, whatever the numbers of the rooms
numbered : (rooms : ℕ → Room) (k : ℕ) (order : List Item) → home_order rooms (map (λ i. (k, i)) order) ≡ map (home_item (rooms k)) order
numbered rooms k [] = refl
numbered rooms k (i ∷ order) = ap (λ l. home_item (rooms k) i ∷ l) (numbered rooms k order)

joined_from : (rooms : ℕ → Room) (k : ℕ) (orders : RoomOrders) → ((j : ℕ) → j < length orders → room_in orders j ≡ rooms (k + j)) → joined_order orders ≡ home_order rooms (joined_merge k orders)
joined_from rooms k [] same = refl
joined_from rooms k (x ∷ xs) same =
    (λ i. map (home_item (here i)) x.1 ++ joined_from rooms (k + 1) xs later i)
    ∙ ap (λ l. l ++ home_order rooms (joined_merge (k + 1) xs)) (sym (numbered rooms k x.1))
    ∙ sym (map-append (λ y. home_item (rooms y.0) y.1) (map (λ i. (k, i)) x.1) (joined_merge (k + 1) xs))
  where
    here : x.0 ≡ rooms k
    here = let at : k + 0 ≡ k = omega arith in same 0 (omega arith) ∙ ap rooms at

    later : (j : ℕ) → j < length xs → room_in xs j ≡ rooms ((k + 1) + j)
    later j within = let at : k + suc j ≡ (k + 1) + j = omega arith in same (suc j) (omega (arith, within)) ∙ ap rooms at

from_zero : (orders : RoomOrders) (j : ℕ) → room_in orders j ≡ room_in orders (0 + j)
from_zero orders j = let same : j ≡ 0 + j = omega arith in ap (room_in orders) same

pub joined_is : (orders : RoomOrders) → joined_order orders ≡ home_order (room_in orders) (joined_merge 0 orders)
joined_is orders = joined_from (room_in orders) 0 orders (λ j within. from_zero orders j)

pub own_is : (orders : RoomOrders) (k : ℕ) → own_order k (joined_merge 0 orders) ≡ order_of_room orders k
own_is orders k = let same : k ≡ 0 + k = omega arith in ap (λ n. own_order n (joined_merge 0 orders)) same ∙ own_from 0 k orders

tagged_items : (rooms : ℕ → Room) (k : ℕ) (order : List Item) (merge : Merge) → All (IsOwnItem (rooms k)) order → IsMerge rooms merge → IsMerge rooms (map (λ i. (k, i)) order ++ merge)
tagged_items rooms k [] merge all rest n d within = rest n d within
tagged_items rooms k (i ∷ order) merge all rest zero d within = all 0 i (omega arith)
tagged_items rooms k (i ∷ order) merge all rest (suc n) d within =
    tagged_items rooms k order merge (λ m e inside. all (suc m) e (omega (arith, inside))) rest n d (omega (arith, within))

merge_from : (rooms : ℕ → Room) (k : ℕ) (orders : RoomOrders) → ((j : ℕ) → j < length orders → room_in orders j ≡ rooms (k + j)) → All (λ x. All (IsOwnItem x.0) x.1) orders → IsMerge rooms (joined_merge k orders)
merge_from rooms k [] same all n d within = absurd (omega (arith, within))
merge_from rooms k (x ∷ xs) same all n d within =
    tagged_items rooms k x.1 (joined_merge (k + 1) xs) first (merge_from rooms (k + 1) xs later (λ m e inside. all (suc m) e (omega (arith, inside)))) n d within
  where
    here : x.0 ≡ rooms k
    here = let at : k + 0 ≡ k = omega arith in same 0 (omega arith) ∙ ap rooms at

    first : All (IsOwnItem (rooms k)) x.1
    first = subst (λ room. All (IsOwnItem room) x.1) here (all 0 x (omega arith))

    later : (j : ℕ) → j < length xs → room_in xs j ≡ rooms ((k + 1) + j)
    later j within = let at : k + suc j ≡ (k + 1) + j = omega arith in same (suc j) (omega (arith, within)) ∙ ap rooms at

pub is_merge : (orders : RoomOrders) → All (λ x. All (IsOwnItem x.0) x.1) orders → IsMerge (room_in orders) (joined_merge 0 orders)
is_merge orders all = merge_from (room_in orders) 0 orders (λ j within. from_zero orders j) all

-- the order of one more room
joined_more : (orders : RoomOrders) (x : Room × List Item) → joined_order (orders ++ x ∷ []) ≡ joined_order orders ++ map (home_item x.0) x.1
joined_more [] x = append-nil (map (home_item x.0) x.1)
joined_more (y ∷ orders) x = ap (λ l. map (home_item y.0) y.1 ++ l) (joined_more orders x) ∙ sym (append_assoc (map (home_item y.0) y.1) (joined_order orders) (map (home_item x.0) x.1))

pub join_next : (windows : List RoomWindow) (i : ℕ) (w : RoomWindow) (start order items : List Item) → i < length windows → w ≡ get_or windows i w
    → order ≡ start ++ joined_order (map room_order (take i windows)) → items ≡ w.closed.order.items
    → order ++ map (home_item (plain_room w.roster)) items ≡ start ++ joined_order (map room_order (take (i + 1) windows))
join_next windows i w start order items within is so same =
    let before = map room_order (take i windows) in
    let own = map (home_item (plain_room w.roster)) w.closed.order.items in
    let more : map room_order (take (i + 1) windows) ≡ before ++ room_order w ∷ [] =
    next_mapped room_order windows i w within ∙ ap (λ x. before ++ room_order x ∷ []) (sym is) in
    (λ j. so j ++ map (home_item (plain_room w.roster)) (same j))
    ∙ append_assoc start (joined_order before) own
    ∙ ap (λ l. start ++ l) (sym (joined_more before (room_order w)) ∙ ap joined_order (sym more))
