-- Merges, items and records by their places.
use Rattle.command_rules.specs.Items.{is_ran}
use Rattle.history_book.specs.Histories.{answers_in}
use Rattle.history_book.specs.Readings.{Reading}
use Rattle.hub_commands.proofs.Prelude.{All, Bool, List, Listed, Option, RoomWindow, Some, WindowRecord, Windows, [], ap, arith, at_place, common_steps, count_by, false, filter, if◌then◌else◌, length, map, option_and_then, option_map, records_of, refl, replicate, slice_get, subst, suc, sym, true, zero, ℕ, ◌<◌, ◌==◌, ◌∙◌, ◌∷◌, ◌≡◌}
use Rattle.home_types.specs.declared.items.Item.TheVariants.{Back, Failed, Ran}
use Rattle.home_types.specs.declared.items.Item.{Item}
use Rattle.room_hubs.specs.Merges.{Merge, answers_of, home_order, own_order}
use Rattle.room_hubs.specs.Numbers.{Room, home_item}

-- ---- merges

equal_self : (a : ℕ) → (a == a) ≡ true
equal_self a = grind (arith, common_steps)

-- the order of a room with one item more in front
first_own : (x : ℕ × Item) (merge : Merge) → own_order x.0 (x ∷ merge) ≡ x.1 ∷ own_order x.0 merge
first_own x merge = ap (λ (b : Bool). map (λ (y : ℕ × Item). y.1) (if b then x ∷ filter (λ y. y.0 == x.0) merge else filter (λ y. y.0 == x.0) merge)) (equal_self x.0)

-- what holds of all orders of the rooms holds of those behind the first item
rest_own : (P : ℕ → Item → Type 0) (x : ℕ × Item) (merge : Merge) → ((k : ℕ) → All (P k) (own_order k (x ∷ merge))) → (k : ℕ) → All (P k) (own_order k merge)
rest_own P x merge all k = by (x.0 == k) (all k)
  where
    by : (b : Bool) → All (P k) (map (λ (y : ℕ × Item). y.1) (if b then x ∷ filter (λ y. y.0 == k) merge else filter (λ y. y.0 == k) merge)) → All (P k) (own_order k merge)
    by true them = λ i d within. them (suc i) d (omega (arith, within))
    by false them = them

-- what holds of each room's items holds of all
pub each_item : (P : ℕ → Item → Type 0) (merge : Merge) → ((k : ℕ) → All (P k) (own_order k merge)) → All (λ x. P x.0 x.1) merge
each_item P [] all i d within = absurd (omega (arith, within))
each_item P (x ∷ merge) all zero d within = (subst (All (P x.0)) (first_own x merge) (all x.0)) 0 x.1 (omega arith)
each_item P (x ∷ merge) all (suc i) d within = each_item P merge (rest_own P x merge all) i d (omega (arith, within))

-- orders of the home that give each item the same number
pub same_order : (f g : ℕ → Room) (merge : Merge) → All (λ x. f x.0 ≡ g x.0) merge → home_order f merge ≡ home_order g merge
same_order f g [] all = refl
same_order f g (x ∷ merge) all = λ i. home_item (all 0 x (omega arith) i) x.1 ∷ same_order f g merge (λ k d within. all (suc k) d (omega (arith, within))) i

-- ---- the answers of a run

pub answered : (n : Reading) (r : ℕ) (order : List Item) → answers_of r (answers_in n order) ≡ replicate (count_by (is_ran r) order) (n.run r).answers
answered n r [] = refl
answered n r (Failed d k ∷ order) = answered n r order
answered n r (Back d k ∷ order) = answered n r order
answered n r (Ran q ∷ order) = by (answered n r order) (q.0 == r) refl
  where
    same : (q.0 == r) ≡ true → q.0 ≡ r
    same e = grind (arith, common_steps)

    by : answers_of r (answers_in n order) ≡ replicate (count_by (is_ran r) order) (n.run r).answers
        → (b : Bool) → (q.0 == r) ≡ b → answers_of r (answers_in n (Ran q ∷ order)) ≡ replicate (count_by (is_ran r) (Ran q ∷ order)) (n.run r).answers
    by rest true e =
        let more : count_by (is_ran r) (Ran q ∷ order) ≡ suc (count_by (is_ran r) order) = grind (arith, common_steps, e) in
        let front : answers_of r (answers_in n (Ran q ∷ order)) ≡ (n.run r).answers ∷ replicate (count_by (is_ran r) order) (n.run r).answers = rw e (λ i. (n.run (same e i)).answers ∷ rest i) in
        front ∙ ap (λ c. replicate c (n.run r).answers) (sym more)
    by rest false e = rw e rest

-- ---- the records of a room

module _ (k : ℕ) where
  abbrev closed_in : Listed RoomWindow → Option WindowRecord
  closed_in ws = option_map (λ w. w.closed) (slice_get ws.items k)

  there : (ws : Listed RoomWindow) → k < length ws.items → (x : WindowRecord) × (closed_in ws ≡ Some x)
  there ws within = let at = at_place ws.items k within in (at.0.closed, ap (option_map (λ w. w.closed)) at.1)

  -- each window has one of the room
  abbrev pub HaveRoom : Windows → Type 0
  HaveRoom windows = (w : ℕ) (ws : Listed RoomWindow) → slice_get windows w ≡ Some ws → k < length ws.items

  pub records_at : (windows : Windows) (w : ℕ) → HaveRoom windows → slice_get (records_of k windows) w ≡ option_and_then closed_in (slice_get windows w)
  records_at [] w each = refl
  records_at (ws ∷ windows) w each = by (λ v. records_at windows v (λ u xs at. each (suc u) xs at)) (there ws (each 0 ws refl)) w
    where
      by : ((v : ℕ) → slice_get (records_of k windows) v ≡ option_and_then closed_in (slice_get windows v))
          → (x : WindowRecord) × (closed_in ws ≡ Some x) → (w : ℕ) → slice_get (records_of k (ws ∷ windows)) w ≡ option_and_then closed_in (slice_get (ws ∷ windows) w)
      by rest (x, is) zero = rw is refl
      by rest (x, is) (suc w) = rw is (rest w)

  pub records_count : (windows : Windows) → HaveRoom windows → length (records_of k windows) ≡ length windows
  records_count [] each = refl
  records_count (ws ∷ windows) each = by (records_count windows (λ v xs at. each (suc v) xs at)) (there ws (each 0 ws refl))
    where
      by : length (records_of k windows) ≡ length windows → (x : WindowRecord) × (closed_in ws ≡ Some x) → length (records_of k (ws ∷ windows)) ≡ length (ws ∷ windows)
      by rest (x, is) = rw is (ap suc rest)

  pub record_at : (windows : Windows) (w : ℕ) (ws : Listed RoomWindow) (window : RoomWindow) → HaveRoom windows → slice_get windows w ≡ Some ws → slice_get ws.items k ≡ Some window
      → slice_get (records_of k windows) w ≡ Some window.closed
  record_at windows w ws window each at here = records_at windows w each ∙ ap (option_and_then closed_in) at ∙ ap (option_map (λ (x : RoomWindow). x.closed)) here
