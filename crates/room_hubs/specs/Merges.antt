-- Orders of a home that are merged from the orders of its rooms.
use Rattle.command_rules.specs.Rosters.{Run, commands_of}
use Rattle.command_rules.specs.Serial.{SerialRun, Served, serial_execution}
use Rattle.home_types.specs.HomeStates.{stand_at}
use Rattle.home_types.specs.declared.commands.Answer.{Answer}
use Rattle.home_types.specs.declared.items.Item.{Item}
use Rattle.home_types.specs.declared.kinds.Kind.{Kind}
use Rattle.home_types.specs.declared.worlds.Stand.{Stand}
use Rattle.room_hubs.specs.Numbers.{IsOwnDevice, IsOwnItem, IsOwnRun, Room, home_command, home_device, home_item, home_run, plain_room, room_home, room_kinds}
use Rattle.room_hubs.specs.declared.rosters.RoomWindow.{RoomWindow}
use Rattle.std.specs.Prelude.{All, List, [], false, filter, length, map, slice_index_or, ℕ, ◌+◌, ◌++◌, ◌<◌, ◌==◌, ◌≡◌, ◌≤◌, ◌∷◌}

-- the rooms, by their numbers, part the home: each of its devices is one device of one room, each
-- of its runs one run of one room, and with the same commands there
pub record PartHome (rooms : ℕ → Room) (runs : List Run) (home : List Stand) : Type 0 where
  pub devices_apart : (j k a b : ℕ) → IsOwnDevice (rooms j) a → IsOwnDevice (rooms k) b
      → home_device (rooms j) a ≡ home_device (rooms k) b → (j ≡ k) × (a ≡ b)
  pub runs_apart : (j k r q : ℕ) → IsOwnRun (rooms j) r → IsOwnRun (rooms k) q
      → home_run (rooms j) r ≡ home_run (rooms k) q → (j ≡ k) × (r ≡ q)
  pub devices_there : (k a : ℕ) → IsOwnDevice (rooms k) a → home_device (rooms k) a < length home
  pub runs_there : (k r : ℕ) → IsOwnRun (rooms k) r
      → (1 ≤ home_run (rooms k) r) × (home_run (rooms k) r ≤ length runs)
  pub all_devices : (d : ℕ) → d < length home
      → (k : ℕ) × (a : ℕ) × IsOwnDevice (rooms k) a × (home_device (rooms k) a ≡ d)
  pub all_runs : (r : ℕ) → 1 ≤ r → r ≤ length runs
      → (k : ℕ) × (q : ℕ) × IsOwnRun (rooms k) q × (home_run (rooms k) q ≡ r)
  pub commands : (k r : ℕ) → IsOwnRun (rooms k) r → commands_of runs (home_run (rooms k) r)
      ≡ map (home_command (rooms k)) (commands_of (rooms k).own_runs r)
  pub inside : (k r : ℕ) → IsOwnRun (rooms k) r
      → All (λ c. IsOwnDevice (rooms k) c.device.0) (commands_of (rooms k).own_runs r)

-- a merge: items in the numbers of their rooms, each with the number of its room
abbrev pub Merge : Type 0
Merge = List (ℕ × Item)

abbrev pub IsMerge : (ℕ → Room) → Merge → Type 0
IsMerge rooms merge = All (λ x. IsOwnItem (rooms x.0) x.1) merge

-- the order of room k in the merge
abbrev pub own_order : ℕ → Merge → List Item
own_order k merge = map (λ x. x.1) (filter (λ x. x.0 == k) merge)

-- the merge as an order of the home
abbrev pub home_order : (ℕ → Room) → Merge → List Item
home_order rooms merge = map (λ x. home_item (rooms x.0) x.1) merge

-- what a run answered in a serial execution, each time that it was served
abbrev pub answers_of : ℕ → List Served → List (List Answer)
answers_of r all = map (λ s. s.answers) (filter (λ s. s.run.0 == r) all)

-- a serial execution of the home goes in step with those of its rooms: devices stand alike, runs
-- answered alike, and where none of the rooms' is refused the home's is not
pub record InStep (rooms : ℕ → Room) (s : SerialRun) (t : ℕ → SerialRun) : Type 0 where
  pub stands : (k a : ℕ) → IsOwnDevice (rooms k) a
      → stand_at s.home (home_device (rooms k) a) ≡ stand_at (t k).home a
  pub answers : (k r : ℕ) → IsOwnRun (rooms k) r
      → answers_of (home_run (rooms k) r) s.answers ≡ answers_of r (t k).answers
  pub refused : ((k : ℕ) → (t k).refused ≡ false) → s.refused ≡ false
  pub home_size : (k a : ℕ) → IsOwnDevice (rooms k) a → home_device (rooms k) a < length s.home
  pub room_size : (k : ℕ) → length (t k).home ≡ length (rooms k).devices

-- what the merge does to the home, and what the own order of room k does to that room
abbrev pub home_execution : (ℕ → Room) → List Run → List Kind → List Stand → Merge → SerialRun
home_execution rooms runs kinds home merge =
    serial_execution runs kinds home (home_order rooms merge)

abbrev pub room_execution : (ℕ → Room) → List Kind → List Stand → Merge → ℕ → SerialRun
room_execution rooms kinds home merge k =
    serial_execution (rooms k).own_runs (room_kinds (rooms k) kinds) (room_home (rooms k) home)
    (own_order k merge)

-- rooms with their orders
abbrev pub RoomOrders : Type 0
RoomOrders = List (Room × List Item)

-- the orders of the rooms, room after room, in the home's numbers
abbrev pub joined_order : RoomOrders → List Item
joined_order [] = []
joined_order (x ∷ xs) = map (home_item x.0) x.1 ++ joined_order xs

-- the same as a merge, where the first room has the number k
abbrev pub joined_merge : ℕ → RoomOrders → Merge
joined_merge k [] = []
joined_merge k (x ∷ xs) = map (λ i. (k, i)) x.1 ++ joined_merge (k + 1) xs

abbrev pub room_order : RoomWindow → Room × List Item
room_order window = (plain_room window.roster, window.closed.order.items)

-- each item of the room's order names one of the room's runs or devices
abbrev pub HasOwnOrder : Room × List Item → Type 0
HasOwnOrder x = All (IsOwnItem x.0) x.1

abbrev pub no_room : Room
no_room = record { number = 0; devices = []; runs = []; own_runs = [] }

abbrev pub room_in : RoomOrders → ℕ → Room
room_in orders k = (slice_index_or orders k (no_room, [])).0

abbrev pub order_of_room : RoomOrders → ℕ → List Item
order_of_room orders k = (slice_index_or orders k (no_room, [])).1
