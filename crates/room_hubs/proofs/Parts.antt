-- Where no run crosses rooms, the rooms of a window part the home.
use Rattle.room_hubs.proofs.Prelude.{All, Bool, Command, IsOwnRun, IsParted, List, None, Option, PartHome, Room, Run, Some, Stand, [], ap, arith, cases_eq, commands_of, common_steps, cond, crosses, crosses_rooms, device_room, devices_in, false, filter, follows_across, get_or, get_or-map, home_command, home_run, if◌then◌else◌, length, length-map, list_any, map, nat_lt, not, option_map, own_command, own_run, place_in, position, position_or_len, range_with_len, refl, room_at, run_room, run_with, runs_in, slice_get-get_or, subst, suc, sym, true, true≢false, unwrap_or, zero, ℕ, ⊎_elim, ◌+◌, ◌<◌, ◌==◌, ◌||◌, ◌∙◌, ◌∷◌, ◌≡◌, ◌≢◌, ◌≤◌}
use Rattle.std.proofs.lemmas.List.Sums.{fails_before_first}

equal : (a b : ℕ) → (a == b) ≡ true → a ≡ b
equal a b e = grind (arith, common_steps)

equal_self : (a : ℕ) → (a == a) ≡ true
equal_self a = grind (arith, common_steps)

unequal_not : (a b : ℕ) → not (a == b) ≡ false → a ≡ b
unequal_not a b e = grind (arith, common_steps)

abbrev pub Has : List ℕ → ℕ → Type 0
Has xs d = (a : ℕ) × (a < length xs) × (get_or xs a 0 ≡ d)

-- what a filter of ascending numbers has
pub record Filtered (p : ℕ → Bool) (a n : ℕ) (xs : List ℕ) : Type 0 where
  pub each : (i : ℕ) → i < length xs → (p (get_or xs i 0) ≡ true) × (a ≤ get_or xs i 0) × (get_or xs i 0 < a + n)
  pub all : (d : ℕ) → a ≤ d → d < a + n → p d ≡ true → Has xs d
  pub distinct : (i j : ℕ) → i < length xs → j < length xs → get_or xs i 0 ≡ get_or xs j 0 → i ≡ j
  pub few : length xs ≤ n

pub filtered : (p : ℕ → Bool) (a n : ℕ) → Filtered p a n (filter p (range_with_len a n))
filtered p a zero = record { each = λ i within. absurd (omega (arith, within)); all = λ d low high t. absurd (omega (arith, low, high)); distinct = λ i j within. absurd (omega (arith, within)); few = omega arith }
filtered p a (suc n) = by (filtered p (a + 1) n) (p a) refl
  where
    rest : List ℕ
    rest = filter p (range_with_len (a + 1) n)

    by : Filtered p (a + 1) n rest → (b : Bool) → p a ≡ b → Filtered p a (suc n) (if b then a ∷ rest else rest)
    by f true is = record { each = each; all = all; distinct = distinct; few = omega (arith, f.few) }
      where
        each : (i : ℕ) → i < length (a ∷ rest) → (p (get_or (a ∷ rest) i 0) ≡ true) × (a ≤ get_or (a ∷ rest) i 0) × (get_or (a ∷ rest) i 0 < a + suc n)
        each zero within = (is, omega arith, omega arith)
        each (suc i) within = let g = f.each i (omega (arith, within)) in (g.0, omega (arith, g.1), omega (arith, g.2))

        all : (d : ℕ) → a ≤ d → d < a + suc n → p d ≡ true → Has (a ∷ rest) d
        all d low high t = ⊎_elim
            (λ (e : d ≡ a). (0, omega arith, sym e))
            (λ (ne : d ≢ a). let h = f.all d (omega (arith, low, ne)) (omega (arith, high)) t in (suc h.0, omega (arith, h.1), h.2))
            (cases_eq d a)

        distinct : (i j : ℕ) → i < length (a ∷ rest) → j < length (a ∷ rest) → get_or (a ∷ rest) i 0 ≡ get_or (a ∷ rest) j 0 → i ≡ j
        distinct zero zero _ _ _ = refl
        distinct zero (suc j) _ within e = let g = f.each j (omega (arith, within)) in absurd (omega (arith, e, g.1))
        distinct (suc i) zero within _ e = let g = f.each i (omega (arith, within)) in absurd (omega (arith, e, g.1))
        distinct (suc i) (suc j) wi wj e = ap suc (f.distinct i j (omega (arith, wi)) (omega (arith, wj)) e)
    by f false is = record {
      each = λ i within. let g = f.each i within in (g.0, omega (arith, g.1), omega (arith, g.2));
      all = λ d low high t. f.all d (later d low t) (omega (arith, high)) t;
      distinct = f.distinct;
      few = omega (arith, f.few);
    }
      where
        later : (d : ℕ) → a ≤ d → p d ≡ true → a + 1 ≤ d
        later d low t = ⊎_elim (λ (e : d ≡ a). absurd (true≢false (sym t ∙ ap p e ∙ is))) (λ (ne : d ≢ a). omega (arith, low, ne)) (cases_eq d a)

-- the place of a number that is there
pub placed : (d : ℕ) (xs : List ℕ) → Has xs d → (place_in xs d < length xs) × (get_or xs (place_in xs d) 0 ≡ d)
placed d [] has = absurd (omega (arith, has.1))
placed d (x ∷ xs) (zero, within, is) = first (x == d) refl
  where
    first : (b : Bool) → (x == d) ≡ b → (place_in (x ∷ xs) d < length (x ∷ xs)) × (get_or (x ∷ xs) (place_in (x ∷ xs) d) 0 ≡ d)
    first true e = let here : place_in (x ∷ xs) d ≡ 0 = grind (arith, common_steps, e) in (omega (arith, here), ap (λ n. get_or (x ∷ xs) n 0) here ∙ is)
    first false e = absurd (true≢false (sym (ap (λ y. y == d) is ∙ equal_self d) ∙ e))
placed d (x ∷ xs) (suc a, within, is) = first (placed d xs (a, omega (arith, within), is)) (x == d) refl
  where
    first : (place_in xs d < length xs) × (get_or xs (place_in xs d) 0 ≡ d) → (b : Bool) → (x == d) ≡ b
        → (place_in (x ∷ xs) d < length (x ∷ xs)) × (get_or (x ∷ xs) (place_in (x ∷ xs) d) 0 ≡ d)
    first more true e = let here : place_in (x ∷ xs) d ≡ 0 = grind (arith, common_steps, e) in (omega (arith, here), ap (λ n. get_or (x ∷ xs) n 0) here ∙ equal x d e)
    first more false e = let here : place_in (x ∷ xs) d ≡ suc (place_in xs d) = grind (arith, common_steps, e) in (omega (arith, here, more.0), ap (λ n. get_or (x ∷ xs) n 0) here ∙ more.1)

-- there and back
back : (devices : List ℕ) (room : Room) (cs : List Command) → room.devices ≡ devices → All (λ c. Has devices c.device.0) cs → cs ≡ map (home_command room) (map (own_command devices) cs)
back devices room [] same all = refl
back devices room (c ∷ cs) same all = λ i. (one i) ∷ (back devices room cs same (λ k d within. all (suc k) d (omega (arith, within))) i)
  where
    at : c.device.0 ≡ get_or room.devices (place_in devices c.device.0) 0
    at = sym (ap (λ l. get_or l (place_in devices c.device.0) 0) same ∙ (placed c.device.0 devices (all 0 c (omega arith))).1)

    one : c ≡ home_command room (own_command devices c)
    one = λ i. record c { device = record { 0 = at i } }

-- a test that is true of none
pub none_passes : {X : Type 0} (p : X → Bool) (xs : List X) → list_any p xs ≡ false → (k : ℕ) (d : X) → k < length xs → p (get_or xs k d) ≡ false
none_passes p [] none k d within = absurd (omega (arith, within))
none_passes p (x ∷ xs) none zero d within = first (p x) none
  where
    first : (b : Bool) → (b || list_any p xs) ≡ false → b ≡ false
    first true e = e
    first false e = refl
none_passes p (x ∷ xs) none (suc k) d within = none_passes p xs (rest (p x) none) k d (omega (arith, within))
  where
    rest : (b : Bool) → (b || list_any p xs) ≡ false → list_any p xs ≡ false
    rest true e = absurd (true≢false e)
    rest false e = e

pub no_place : {X : Type 0} (p : X → Bool) (xs : List X) (k : ℕ) (d : X) → position p xs ≡ None → k < length xs → p (get_or xs k d) ≡ false
no_place p xs k d none within = by (nat_lt (position_or_len p xs) (length xs)) refl
  where
    seen : (b : Bool) → nat_lt (position_or_len p xs) (length xs) ≡ b → cond b (Some (position_or_len p xs)) None ≡ position p xs
    seen b e = ap (λ z. cond z (Some (position_or_len p xs)) None) (sym e)

    by : (b : Bool) → nat_lt (position_or_len p xs) (length xs) ≡ b → p (get_or xs k d) ≡ false
    by true e = absurd (some≢none (seen true e ∙ none))
      where
        some≢none : Some (position_or_len p xs) ≡ None → ⊥
        some≢none z = cc
    by false e = fails_before_first p xs k d (omega (arith, within, past e))
      where
        past : nat_lt (position_or_len p xs) (length xs) ≡ false → length xs ≤ position_or_len p xs
        past z = grind (arith, common_steps)

left_false : (a b : Bool) → (a || b) ≡ false → a ≡ false
left_false false b h = refl
left_false true b h = h

-- the commands of a run that is there
pub commands_there : (runs : List Run) (i : ℕ) (d : Run) → i < length runs → commands_of runs (suc i) ≡ (get_or runs i d).commands
commands_there runs i d within = ap (λ (o : Option Run). unwrap_or (option_map (λ run. run.commands) o) []) (slice_get-get_or runs i d within)

abbrev no_run : Run
no_run = record { commands = []; follows = None }

module _ (room_of : List ℕ) (runs : List Run) (home : List Stand) (size : length home ≡ length room_of) (parted : IsParted room_of runs) where
  devs : (k : ℕ) → Filtered (λ d. device_room room_of d == k) 0 (length room_of) (devices_in room_of k)
  devs k = filtered (λ d. device_room room_of d == k) 0 (length room_of)

  own : (k : ℕ) → Filtered (λ r. run_room room_of (commands_of runs r) == k) 1 (length runs) (runs_in room_of runs k)
  own k = filtered (λ r. run_room room_of (commands_of runs r) == k) 1 (length runs)

  in_room : (k a : ℕ) → a < length (devices_in room_of k) → device_room room_of (get_or (devices_in room_of k) a 0) ≡ k
  in_room k a within = equal _ k ((devs k).each a within).0

  devices_apart : (j k a b : ℕ) → a < length (devices_in room_of j) → b < length (devices_in room_of k) → get_or (devices_in room_of j) a 0 ≡ get_or (devices_in room_of k) b 0 → (j ≡ k) × (a ≡ b)
  devices_apart j k a b wa wb e =
      let same : j ≡ k = sym (in_room j a wa) ∙ ap (device_room room_of) e ∙ in_room k b wb in
      (same, (devs k).distinct a b (subst (λ m. a < length (devices_in room_of m)) same wa) wb (subst (λ m. get_or (devices_in room_of m) a 0 ≡ get_or (devices_in room_of k) b 0) same e))

  runs_apart : (j k r q : ℕ) → IsOwnRun (room_at room_of runs j) r → IsOwnRun (room_at room_of runs k) q → home_run (room_at room_of runs j) r ≡ home_run (room_at room_of runs k) q → (j ≡ k) × (r ≡ q)
  runs_apart j k zero q wr wq e = elim wr [ ]
  runs_apart j k (suc r) zero wr wq e = elim wq [ ]
  runs_apart j k (suc r) (suc q) wr wq e =
      let same : j ≡ k = sym (equal _ j ((own j).each r wr).0) ∙ ap (λ n. run_room room_of (commands_of runs n)) e ∙ equal _ k ((own k).each q wq).0 in
      (same, ap suc ((own k).distinct r q (subst (λ m. r < length (runs_in room_of runs m)) same wr) wq (subst (λ m. get_or (runs_in room_of runs m) r 0 ≡ get_or (runs_in room_of runs k) q 0) same e)))

  -- a run has its commands in one room
  one_room : (r : ℕ) → 1 ≤ r → r ≤ length runs → All (λ c. device_room room_of c.device.0 ≡ run_room room_of (commands_of runs r)) (commands_of runs r)
  one_room zero low high = absurd (omega (arith, low))
  one_room (suc i) low high = subst
      (λ cs. All (λ c. device_room room_of c.device.0 ≡ run_room room_of cs) cs)
      (sym (commands_there runs i no_run (omega (arith, high))))
      (λ k c within. unequal_not _ _ (none_passes (λ c. not (device_room room_of c.device.0 == run_room room_of run.commands)) run.commands stays k c within))
    where
      run : Run
      run = get_or runs i no_run

      stays : crosses_rooms room_of run.commands ≡ false
      stays = left_false (crosses_rooms room_of run.commands) (follows_across room_of runs run) (no_place (crosses room_of runs) runs i no_run parted.none (omega (arith, high)))

  -- the commands of a room's run are on the room's devices
  there : (k i : ℕ) → i < length (runs_in room_of runs k) → All (λ c. Has (devices_in room_of k) c.device.0) (commands_of runs (get_or (runs_in room_of runs k) i 0))
  there k i within n c here =
      let g = (own k).each i within in
      let r = get_or (runs_in room_of runs k) i 0 in
      let is = one_room r g.1 (omega (arith, g.2)) n c here in
      let low = parted.devices r n c here in
      (devs k).all (get_or (commands_of runs r) n c).device.0 (omega arith) (omega (arith, low)) (ap (λ m. m == k) (is ∙ equal _ k g.0) ∙ equal_self k)

  commands_at : (k i : ℕ) → i < length (runs_in room_of runs k)
      → commands_of (room_at room_of runs k).own_runs (suc i) ≡ map (own_command (devices_in room_of k)) (commands_of runs (get_or (runs_in room_of runs k) i 0))
  commands_at k i within =
      let f : ℕ → Run = λ r. own_run (devices_in room_of k) (runs_in room_of runs k) (run_with runs r) in
      commands_there (map f (runs_in room_of runs k)) i no_run (omega (arith, within, length-map (runs_in room_of runs k) f))
      ∙ ap (λ (run : Run). run.commands) (get_or-map f (runs_in room_of runs k) i 0 no_run within)

  inside_all : (devices : List ℕ) (cs : List Command) → All (λ c. Has devices c.device.0) cs → All (λ c. c.device.0 < length devices) (map (own_command devices) cs)
  inside_all devices [] all k d within = absurd (omega (arith, within))
  inside_all devices (c ∷ cs) all zero d within = (placed c.device.0 devices (all 0 c (omega arith))).0
  inside_all devices (c ∷ cs) all (suc k) d within = inside_all devices cs (λ k d within. all (suc k) d (omega (arith, within))) k d (omega (arith, within))

  same_commands : (k r : ℕ) → IsOwnRun (room_at room_of runs k) r → commands_of runs (home_run (room_at room_of runs k) r) ≡ map (home_command (room_at room_of runs k)) (commands_of (room_at room_of runs k).own_runs r)
  same_commands k zero within = elim within [ ]
  same_commands k (suc i) within = back (devices_in room_of k) (room_at room_of runs k) (commands_of runs (get_or (runs_in room_of runs k) i 0)) refl (there k i within) ∙ ap (map (home_command (room_at room_of runs k))) (sym (commands_at k i within))

  inside : (k r : ℕ) → IsOwnRun (room_at room_of runs k) r → All (λ c. c.device.0 < length (devices_in room_of k)) (commands_of (room_at room_of runs k).own_runs r)
  inside k zero within = elim within [ ]
  inside k (suc i) within = subst (λ cs. All (λ c. c.device.0 < length (devices_in room_of k)) cs) (sym (commands_at k i within)) (inside_all (devices_in room_of k) (commands_of runs (get_or (runs_in room_of runs k) i 0)) (there k i within))

  runs_there : (k r : ℕ) → IsOwnRun (room_at room_of runs k) r → (1 ≤ home_run (room_at room_of runs k) r) × (home_run (room_at room_of runs k) r ≤ length runs)
  runs_there k zero within = elim within [ ]
  runs_there k (suc i) within = let g = (own k).each i within in (g.1, omega (arith, g.2))

  pub parts : PartHome (room_at room_of runs) runs home
  parts = record {
    devices_apart = devices_apart;
    runs_apart = runs_apart;
    devices_there = λ k a here. let g = (devs k).each a here in omega (arith, size, g.2);
    runs_there = runs_there;
    all_devices = λ d within. let k = device_room room_of d in let h = (devs k).all d (omega arith) (omega (arith, within, size)) (equal_self k) in (k, h.0, h.1, h.2);
    all_runs = λ r low high. let k = run_room room_of (commands_of runs r) in let h = (own k).all r low (omega (arith, high)) (equal_self k) in (k, suc h.0, h.1, h.2);
    commands = same_commands;
    inside = inside;
  }
