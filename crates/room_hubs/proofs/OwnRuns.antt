-- The runs of a room of a sound script, in the room's own numbers: their commands suit the room's devices, and each follows an earlier one.
use Rattle.room_hubs.proofs.Prelude.{Bool, Command, IsOwnDevice, IsOwnRun, IsParted, IsSound, Kind, List, None, Option, PartHome, Room, Run, RunNo, Script, Some, [], ap, arith, cases_order, commands_of, common_steps, crosses, crosses_rooms, false, filter, followed_by, follows_across, get_or, get_or_from_slice_get, home_command, home_run, if◌then◌else◌, inl, inr, kind_at, kinds_of, length, length-map, map, most_commands, most_runs, not, option_and_then, option_map, own_run, own_run_no, place_in, plain_script, range_with_len, refl, room_at, room_kinds, rooms_of, run_in_roster, run_room, run_with, runs_in, script_runs, slice_get, slice_get-get_or, slice_get-map, slice_get_within, start_home, subst, suc, suits_device, sym, true, true≢false, unwrap_or, zero, ℕ, ◌+◌, ◌<◌, ◌==◌, ◌||◌, ◌∙◌, ◌∷◌, ◌≡◌, ◌≤◌, ◌⊎◌}
use Rattle.room_hubs.proofs.Parts.{Filtered, filtered, no_place, parts, placed}
use Rattle.room_hubs.proofs.Sizes.{runs_few}
use Rattle.room_hubs.proofs.SoundRuns.{commands_sound, follows_sound, rooms_size}
use Rattle.room_hubs.proofs.Steps.{kind_in_room}
use Rattle.std.specs.Option.{option_map_or}

-- numbers that pass ascend
pub ascends : (p : ℕ → Bool) (a n : ℕ) (i j : ℕ) → i < j → j < length (filter p (range_with_len a n)) → get_or (filter p (range_with_len a n)) i 0 < get_or (filter p (range_with_len a n)) j 0
ascends p a zero i j less within = absurd (omega (arith, within))
ascends p a (suc n) i j less within = by (ascends p (a + 1) n) (p a) i j less within
  where
    rest : List ℕ
    rest = filter p (range_with_len (a + 1) n)

    by : ((i j : ℕ) → i < j → j < length rest → get_or rest i 0 < get_or rest j 0)
        → (b : Bool) (i j : ℕ) → i < j → j < length (if b then a ∷ rest else rest) → get_or (if b then a ∷ rest else rest) i 0 < get_or (if b then a ∷ rest else rest) j 0
    by later true zero zero less within = absurd (omega (arith, less))
    by later true zero (suc j) less within = let e = (filtered p (a + 1) n).each j (omega (arith, within)) in omega (arith, e.1)
    by later true (suc i) zero less within = absurd (omega (arith, less))
    by later true (suc i) (suc j) less within = later i j (omega (arith, less)) (omega (arith, within))
    by later false i j less within = later i j less within

-- what the runs of a room are, for its own numbers of devices and kinds
pub record OwnRunsAreSound (devices : ℕ) (room : Room) (kinds : List Kind) : Type 0 where
  pub few_runs : length room.own_runs ≤ most_runs
  pub few_commands : (r : ℕ) → length (commands_of room.own_runs r) ≤ most_commands
  pub homed : (r i : ℕ) (c : Command) → slice_get (commands_of room.own_runs r) i ≡ Some c → (c.device.0 < devices) × (suits_device (kind_at kinds c.device.0) c.job ≡ true)
  pub follows : (r : ℕ) (f : RunNo) → followed_by room.own_runs r ≡ Some f → (1 ≤ f.0) × (f.0 < r)

module _ (script : Script) (sound : IsSound (plain_script script)) (w : ℕ) (there : w < length script.windows.items) (parted : IsParted (rooms_of script).room_of (script_runs script w)) (k : ℕ) where
  abbrev Runs : List Run
  Runs = script_runs script w

  abbrev RoomOf : List ℕ
  RoomOf = (rooms_of script).room_of

  abbrev The_room : Room
  The_room = room_at RoomOf Runs k

  abbrev Mine : List ℕ
  Mine = runs_in RoomOf Runs k

  part : PartHome (room_at RoomOf Runs) Runs (start_home script)
  part = parts RoomOf Runs (start_home script) (length-map script.devices.items _ ∙ sym (rooms_size script)) parted

  f : Filtered (λ r. run_room RoomOf (commands_of Runs r) == k) 1 (length Runs) Mine
  f = filtered (λ r. run_room RoomOf (commands_of Runs r) == k) 1 (length Runs)

  abbrev made : ℕ → Run
  made r = own_run The_room.devices Mine (run_with Runs r)

  own_length : length The_room.own_runs ≡ length Mine
  own_length = length-map Mine _

  -- a run of the room's list is one of its runs
  is_own : (r : ℕ) (run : Run) → run_in_roster The_room.own_runs r ≡ Some run → IsOwnRun The_room r
  is_own zero run at = absurd (cc)
  is_own (suc i) run at = let within = slice_get_within The_room.own_runs i run at in omega (arith, within, own_length)

  by_run : {X : Type 0} (P : X → Type 0) (get : Run → X) (none : X) (r : ℕ) → P none → (IsOwnRun The_room r → P (unwrap_or (option_map get (run_in_roster The_room.own_runs r)) none)) → P (unwrap_or (option_map get (run_in_roster The_room.own_runs r)) none)
  by_run P get none r without with_run = by (run_in_roster The_room.own_runs r) refl
    where
      by : (o : Option Run) → run_in_roster The_room.own_runs r ≡ o → P (unwrap_or (option_map get (run_in_roster The_room.own_runs r)) none)
      by None at = subst (λ o. P (unwrap_or (option_map get o) none)) (sym at) without
      by (Some run) at = with_run (is_own r run at)

  -- a command of the room is one of the home
  home_commands : (r : ℕ) → IsOwnRun The_room r → commands_of Runs (home_run The_room r) ≡ map (home_command The_room) (commands_of The_room.own_runs r)
  home_commands r own = part.commands k r own

  few : (r : ℕ) → length (commands_of The_room.own_runs r) ≤ most_commands
  few r = by_run (λ (cs : List Command). length cs ≤ most_commands) (λ run. run.commands) [] r (omega arith)
      (λ own. let all = (commands_sound script sound w (home_run The_room r)).few in let same = ap (λ l. length l) (home_commands r own) in
      omega (arith, all, same, length-map (commands_of The_room.own_runs r) (home_command The_room)))

  at_home : (r i : ℕ) (c : Command) → IsOwnRun The_room r → slice_get (commands_of The_room.own_runs r) i ≡ Some c
      → (c.device.0 < length The_room.devices) × (suits_device (kind_at (room_kinds The_room (kinds_of script)) c.device.0) c.job ≡ true)
  at_home r i c own at =
      let cs = commands_of The_room.own_runs r in
      let within = slice_get_within cs i c at in
      let inside : IsOwnDevice The_room c.device.0 = subst (λ (x : Command). IsOwnDevice The_room x.device.0) (get_or_from_slice_get cs i c c at) (part.inside k r own i c within) in
      let home : slice_get (commands_of Runs (home_run The_room r)) i ≡ Some (home_command The_room c) =
      ap (λ l. slice_get l i) (home_commands r own) ∙ slice_get-map (home_command The_room) cs i ∙ ap (option_map (home_command The_room)) at in
      let is = (commands_sound script sound w (home_run The_room r)).each i (home_command The_room c) home in
      (inside, ap (λ kind. suits_device kind c.job) (kind_in_room The_room (kinds_of script) c.device.0 inside) ∙ is.1)

  own_homed : (r i : ℕ) (c : Command) → slice_get (commands_of The_room.own_runs r) i ≡ Some c
      → (c.device.0 < length The_room.devices) × (suits_device (kind_at (room_kinds The_room (kinds_of script)) c.device.0) c.job ≡ true)
  own_homed r i c at = by_run (λ (cs : List Command). slice_get cs i ≡ Some c → (c.device.0 < length The_room.devices) × (suits_device (kind_at (room_kinds The_room (kinds_of script)) c.device.0) c.job ≡ true))
      (λ run. run.commands) [] r (λ none. absurd (cc)) (λ own at. at_home r i c own at) at

  -- a run of the room follows one of the room, by an earlier number
  earlier : (i : ℕ) → i < length Mine → (g : RunNo) → (1 ≤ g.0) × (g.0 < get_or Mine i 0) → run_room RoomOf (commands_of Runs g.0) ≡ k → place_in Mine g.0 < i
  earlier i within g before same =
      let e = f.each i within in
      let here = placed g.0 Mine (f.all g.0 before.0 (omega (arith, before.1, e.2)) (ap (λ m. m == k) same ∙ equal_self k)) in
      by (cases_order (place_in Mine g.0) i) here
    where
      equal_self : (a : ℕ) → (a == a) ≡ true
      equal_self a = grind (arith, common_steps)

      by : (place_in Mine g.0 ≡ i) ⊎ ((place_in Mine g.0 < i) ⊎ (i < place_in Mine g.0)) → (place_in Mine g.0 < length Mine) × (get_or Mine (place_in Mine g.0) 0 ≡ g.0) → place_in Mine g.0 < i
      by (inl is) p = absurd (let at = sym (ap (λ n. get_or Mine n 0) is) ∙ p.1 in omega (arith, at, before.1))
      by (inr (inl less)) p = less
      by (inr (inr more)) p = absurd (let up = ascends (λ r. run_room RoomOf (commands_of Runs r) == k) 1 (length Runs) i (place_in Mine g.0) more p.0 in omega (arith, up, p.1, before.1))

  -- the run that a run of the room follows is of the room
  followed_here : (i : ℕ) → i < length Mine → (g : RunNo) → followed_by Runs (get_or Mine i 0) ≡ Some g → run_room RoomOf (commands_of Runs g.0) ≡ k
  followed_here i within g is = by (get_or Mine i 0) refl
    where
      e : ((run_room RoomOf (commands_of Runs (get_or Mine i 0)) == k) ≡ true) × (1 ≤ get_or Mine i 0) × (get_or Mine i 0 < 1 + length Runs)
      e = f.each i within

      equal : (a b : ℕ) → (a == b) ≡ true → a ≡ b
      equal a b z = grind (arith, common_steps)

      unequal_not : (a b : ℕ) → not (a == b) ≡ false → a ≡ b
      unequal_not a b z = grind (arith, common_steps)

      right_false : (a b : Bool) → (a || b) ≡ false → b ≡ false
      right_false false b h = h
      right_false true b h = absurd (true≢false h)

      by : (r : ℕ) → get_or Mine i 0 ≡ r → run_room RoomOf (commands_of Runs g.0) ≡ k
      by zero at = absurd (let low = e.1 in omega (arith, low, at))
      by (suc j) at =
          let in_runs : j < length Runs = (let high = e.2 in omega (arith, high, at)) in
          let no_run : Run = record { commands = []; follows = None } in
          let run = get_or Runs j no_run in
          let there : run_in_roster Runs (suc j) ≡ Some run = slice_get-get_or Runs j no_run in_runs in
          let follows : run.follows ≡ Some g = sym (ap (option_and_then (λ (x : Run). x.follows)) there) ∙ ap (followed_by Runs) (sym at) ∙ is in
          let stays = right_false (crosses_rooms RoomOf run.commands) (follows_across RoomOf Runs run) (no_place (crosses RoomOf Runs) Runs j no_run parted.none in_runs) in
          let across : not (run_room RoomOf (commands_of Runs g.0) == run_room RoomOf run.commands) ≡ false =
          sym (ap (λ (o : Option RunNo). option_map_or (λ (x : RunNo). not (run_room RoomOf (commands_of Runs x.0) == run_room RoomOf run.commands)) o false) follows) ∙ stays in
          let mine : run_room RoomOf run.commands ≡ k =
          ap (λ (o : Option Run). run_room RoomOf (unwrap_or (option_map (λ x. x.commands) o) [])) (sym there) ∙ ap (λ r. run_room RoomOf (commands_of Runs r)) (sym at) ∙ equal (run_room RoomOf (commands_of Runs (get_or Mine i 0))) k e.0 in
          unequal_not (run_room RoomOf (commands_of Runs g.0)) (run_room RoomOf run.commands) across ∙ mine

  own_follows : (r : ℕ) (g : RunNo) → followed_by The_room.own_runs r ≡ Some g → (1 ≤ g.0) × (g.0 < r)
  own_follows zero g is = absurd (cc)
  own_follows (suc i) g is = by (slice_get Mine i) refl
    where
      seen : option_and_then (λ (x : Run). x.follows) (option_map made (slice_get Mine i)) ≡ Some g
      seen = ap (option_and_then (λ (x : Run). x.follows)) (sym (slice_get-map made Mine i)) ∙ is

      by_follows : (i : ℕ) (r : ℕ) → i < length Mine → get_or Mine i 0 ≡ r → (o : Option RunNo) → followed_by Runs r ≡ o → option_map (own_run_no Mine) o ≡ Some g → (1 ≤ g.0) × (g.0 < suc i)
      by_follows i r within at None o none = absurd (cc)
      by_follows i r within at (Some h) o some =
          let same : own_run_no Mine h ≡ g = cc in
          let before = follows_sound script sound w r h o in
          let low = earlier i within h (before.0, omega (arith, before.1, at)) (followed_here i within h (ap (followed_by Runs) at ∙ o)) in
          let number : g.0 ≡ place_in Mine h.0 + 1 = ap (λ (x : RunNo). x.0) (sym same) in
          (omega (arith, number), omega (arith, number, low))

      by : (o : Option ℕ) → slice_get Mine i ≡ o → (1 ≤ g.0) × (g.0 < suc i)
      by None at = absurd (let none : ◌≡◌ {A = Option RunNo} None (Some g) = ap (λ o. option_and_then (λ (x : Run). x.follows) (option_map made o)) (sym at) ∙ seen in cc)
      by (Some r) at = by_follows i r (slice_get_within Mine i r at) (get_or_from_slice_get Mine i r 0 at) (followed_by Runs r) refl
          (ap (λ o. option_and_then (λ (x : Run). x.follows) (option_map made o)) (sym at) ∙ seen)

  pub own_runs_sound : OwnRunsAreSound (length The_room.devices) The_room (room_kinds The_room (kinds_of script))
  own_runs_sound = record {
    few_runs = let all = runs_few script w sound there in let mine = f.few in omega (arith, own_length, mine, all);
    few_commands = few;
    homed = own_homed;
    follows = own_follows;
  }
