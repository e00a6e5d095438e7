-- A routine does to the home what it does to its room.
use Rattle.home_types.specs.Commands.{Effect, Execution, command_effect, execute, fails, with_effect}
use Rattle.room_hubs.proofs.Prelude.{All, Command, IsOwnDevice, Kind, List, Room, Stand, [], ap, arith, cases_eq, fold, get_or-map, get_or-set_at, get_or-set_other, home_command, home_device, kind_at, length, length-set, map, nowhere, refl, room_home, room_kinds, set, stand_at, subst, suc, sym, ℕ, ⊎_elim, ◌++◌, ◌<◌, ◌||◌, ◌∙◌, ◌∷◌, ◌≡◌, ◌≢◌}
use Rattle.home_types.specs.declared.kinds.Kind.TheVariants.{States}

-- what the room has of the home is the home's at its devices
pub kind_in_room : (room : Room) (kinds : List Kind) (a : ℕ) → IsOwnDevice room a → kind_at (room_kinds room kinds) a ≡ kind_at kinds (home_device room a)
kind_in_room room kinds a within = get_or-map (kind_at kinds) room.devices a 0 (States 0) within

pub stand_in_room : (room : Room) (home : List Stand) (a : ℕ) → IsOwnDevice room a → stand_at (room_home room home) a ≡ stand_at home (home_device room a)
stand_in_room room home a within = get_or-map (stand_at home) room.devices a 0 nowhere within

abbrev pub Apart : (ℕ → Room) → Type 0
Apart rooms = (j k a b : ℕ) → IsOwnDevice (rooms j) a → IsOwnDevice (rooms k) b → home_device (rooms j) a ≡ home_device (rooms k) b → (j ≡ k) × (a ≡ b)

module _ (rooms : ℕ → Room) (apart : Apart rooms) where
  -- a device is set in the home and in its room
  pub stands_set : (k b : ℕ) (h r : List Stand) (v : Stand) → IsOwnDevice (rooms k) b → home_device (rooms k) b < length h → b < length r
      → ((a : ℕ) → IsOwnDevice (rooms k) a → stand_at h (home_device (rooms k) a) ≡ stand_at r a)
      → (a : ℕ) → IsOwnDevice (rooms k) a → stand_at (set h (home_device (rooms k) b) v) (home_device (rooms k) a) ≡ stand_at (set r b v) a
  stands_set k b h r v within home_within room_within same a here = ⊎_elim
      (λ (is : a ≡ b). get_or-set_at h (home_device (rooms k) b) (home_device (rooms k) a) v nowhere (ap (home_device (rooms k)) is) home_within ∙ sym (get_or-set_at r b a v nowhere is room_within))
      (λ (ne : a ≢ b). get_or-set_other h (home_device (rooms k) b) (home_device (rooms k) a) v nowhere (λ e. ne (apart k k a b here within e).1) ∙ same a here ∙ sym (get_or-set_other r b a v nowhere ne))
      (cases_eq a b)

  -- the devices of another room do not see it
  pub others_set : (k b j a : ℕ) (h : List Stand) (v : Stand) → j ≢ k → IsOwnDevice (rooms k) b → IsOwnDevice (rooms j) a
      → stand_at (set h (home_device (rooms k) b) v) (home_device (rooms j) a) ≡ stand_at h (home_device (rooms j) a)
  others_set k b j a h v ne within here = get_or-set_other h (home_device (rooms k) b) (home_device (rooms j) a) v nowhere (λ e. ne (apart j k a b here within e).0)

-- a routine in the home and in its room; the other rooms stand as at the start
pub record Alike (rooms : ℕ → Room) (k : ℕ) (start : List Stand) (x y : Execution) : Type 0 where
  pub stands : (a : ℕ) → IsOwnDevice (rooms k) a → stand_at x.home (home_device (rooms k) a) ≡ stand_at y.home a
  pub register : x.register ≡ y.register
  pub answers : x.answers ≡ y.answers
  pub refused : x.refused ≡ y.refused
  pub home_size : length x.home ≡ length start
  pub room_size : length y.home ≡ length (rooms k).devices
  pub others : (j a : ℕ) → j ≢ k → IsOwnDevice (rooms j) a → stand_at x.home (home_device (rooms j) a) ≡ stand_at start (home_device (rooms j) a)

module _ (rooms : ℕ → Room) (apart : Apart rooms) (kinds : List Kind) (k : ℕ) (start : List Stand) (inside : (a : ℕ) → IsOwnDevice (rooms k) a → home_device (rooms k) a < length start) where
  one : (x y : Execution) (c : Command) → IsOwnDevice (rooms k) c.device.0 → Alike rooms k start x y
      → Alike rooms k start (execute kinds x (home_command (rooms k) c)) (execute (room_kinds (rooms k) kinds) y c)
  one x y c within alike = subst (λ z. Alike rooms k start (with_effect x (home_command (rooms k) c) z) (with_effect y c e)) (sym same) (record {
    stands = stands_set rooms apart k c.device.0 x.home y.home e.stand within (omega (arith, inside c.device.0 within, alike.home_size)) (omega (arith, within, alike.room_size)) alike.stands;
    register = refl;
    answers = ap (λ l. l ++ e.answer ∷ []) alike.answers;
    refused = ap (λ b. b || fails c e.answer) alike.refused;
    home_size = length-set x.home (home_device (rooms k) c.device.0) e.stand ∙ alike.home_size;
    room_size = length-set y.home c.device.0 e.stand ∙ alike.room_size;
    others = λ j a ne here. others_set rooms apart k c.device.0 j a x.home e.stand ne within here ∙ alike.others j a ne here;
  })
    where
      e : Effect
      e = command_effect (kind_at (room_kinds (rooms k) kinds) c.device.0) c.when c.job y.register (stand_at y.home c.device.0)

      same : command_effect (kind_at kinds (home_device (rooms k) c.device.0)) c.when c.job x.register (stand_at x.home (home_device (rooms k) c.device.0)) ≡ e
      same = λ i. command_effect (sym (kind_in_room (rooms k) kinds c.device.0 within) i) c.when c.job (alike.register i) (alike.stands c.device.0 within i)

  pub commands : (x y : Execution) (cs : List Command) → All (λ c. IsOwnDevice (rooms k) c.device.0) cs → Alike rooms k start x y
      → Alike rooms k start (fold (execute kinds) x (map (home_command (rooms k)) cs)) (fold (execute (room_kinds (rooms k) kinds)) y cs)
  commands x y [] all alike = alike
  commands x y (c ∷ cs) all alike =
      commands (execute kinds x (home_command (rooms k) c)) (execute (room_kinds (rooms k) kinds) y c) cs (λ i d within. all (suc i) d (omega (arith, within))) (one x y c (all 0 c (omega arith)) alike)
