-- The items that must stand before a run, as line, history and roster tell them, are those of the base.
use Rattle.timeline_scheduler.proofs.Prelude.{Back, Bool, Command, Configuration, Devices, Facts, Failed, Grips, IsRosterFor, IsStandingOf, IsTrue, Item, List, Mark, None, OfRun, Option, Ran, Reading, Run, RunNo, Setting, Some, WindowParts, [], answer_count, answer_count_is, any_filter, any_range, ap, ap₂, arith, asks_next, asks_on, command_out, commands_of, common_steps, device_numbers, devices_by_commands, devices_of, did, end_is, end_of, facts_of, false, follows, front_of, goes_on, grips_command, has_ended, if◌then◌else◌, is_committing, is_live, is_next_on, is_none, is_on, is_open_run, is_some, item_has_touched, items_of, length, list_any, map, meets, nat_lt, next_of, not, of_run, option_map, read_of, refl, run_binds, seeds, slice_get, stands_in, suc, sym, touches, true, unwrap_or, zero, ℕ, ◌&&◌, ◌+◌, ◌<◌, ◌==◌, ◌||◌, ◌∙◌, ◌∷◌, ◌≡◌, ◌≤◌}
use Rattle.history_book.specs.Gaps as gaps
use Rattle.history_book.specs.declared.entries.End.TheVariants.{Aborted, Committed}
use Rattle.history_book.specs.declared.entries.End.{End}
use Rattle.history_book.specs.declared.entries.Kept.{Kept}
use Rattle.lock_leasing.specs.Words.{has_touched}
use Rattle.serial_line.proofs.Cited.{meets_by}
use Rattle.serial_line.specs.Ties.{Each, EndsAs, TouchesAs}
use Rattle.std.specs.FinSet as set
use Rattle.timeline_scheduler.specs.Bases.{is_needed}

-- Flags one by one

map_get : {A B : Type 0} (f : A → B) (xs : List A) (k : ℕ) → slice_get (map f xs) k ≡ option_map f (slice_get xs k)
map_get f [] k = refl
map_get f (x ∷ xs) zero = refl
map_get f (x ∷ xs) (suc k) = map_get f xs k

module _ (history : List Kept) (runs : List Run) (r : ℕ) where
  -- the flag at a place
  pub seed_at : (marks : List Mark) (k : ℕ) → k < length marks → slice_get (seeds history runs r marks) k ≡ Some (nat_lt k (front_of marks) || unwrap_or (option_map (is_needed history runs r) (slice_get marks k)) false)
  seed_at [] k within = absurd (omega (arith, within))
  seed_at (m ∷ ms) k within = at (is_open_run m) k within (λ j inside. seed_at ms j inside)
    where
      some_at : (xs : List Mark) (j : ℕ) → j < length xs → option_map (is_needed history runs r) (slice_get xs j) ≡ Some (unwrap_or (option_map (is_needed history runs r) (slice_get xs j)) false)
      some_at [] j inside = absurd (omega (arith, inside))
      some_at (x ∷ xs) zero inside = refl
      some_at (x ∷ xs) (suc j) inside = some_at xs j (omega (arith, inside))

      at : (b : Bool) (k : ℕ) → k < suc (length ms)
          → ((j : ℕ) → j < length ms → slice_get (seeds history runs r ms) j ≡ Some (nat_lt j (front_of ms) || unwrap_or (option_map (is_needed history runs r) (slice_get ms j)) false))
          → slice_get (if b then map (is_needed history runs r) (m ∷ ms) else true ∷ seeds history runs r ms) k ≡ Some (nat_lt k (if b then 0 else front_of ms + 1) || unwrap_or (option_map (is_needed history runs r) (slice_get (m ∷ ms) k)) false)
      at true k inside rest = map_get (is_needed history runs r) (m ∷ ms) k ∙ some_at (m ∷ ms) k inside ∙ ap (λ b. Some (b || unwrap_or (option_map (is_needed history runs r) (slice_get (m ∷ ms) k)) false)) (never k)
        where
          never : (j : ℕ) → false ≡ nat_lt j 0
          never j = grind (arith, common_steps)
      at false zero inside rest = ap (λ b. Some (b || is_needed history runs r m)) (first (front_of ms))
        where
          first : (j : ℕ) → true ≡ nat_lt 0 (j + 1)
          first j = grind (arith, common_steps)
      at false (suc k) inside rest = rest k (omega (arith, inside)) ∙ ap (λ b. Some (b || unwrap_or (option_map (is_needed history runs r) (slice_get ms k)) false)) (further k (front_of ms))
        where
          further : (j f : ℕ) → nat_lt j f ≡ nat_lt (suc j) (f + 1)
          further j f = grind (arith, common_steps)

  module _ (marks : List Mark) (k : ℕ) (within : k < length marks) where
    -- an item before the first run that has not ended
    pub seed_front : k < front_of marks → slice_get (seeds history runs r marks) k ≡ Some true
    seed_front before = seed_at marks k within ∙ ap (λ b. Some (b || unwrap_or (option_map (is_needed history runs r) (slice_get marks k)) false)) (less k (front_of marks) before)
      where
        less : (a b : ℕ) → a < b → nat_lt a b ≡ true
        less a b h = grind (arith, common_steps)

    module _ (devices : Devices) (are : (d : ℕ) → set.contains devices d ≡ touches runs r d) where
      needed_by : (m : Mark) → is_needed history runs r m ≡ (meets devices m || of_run (run_binds history runs r) m.item)
      needed_by m = ap (λ b. b || of_run (run_binds history runs r) m.item) (sym (meets_by (λ (c : Command). c.device.0) (set.contains m.touched) devices (commands_of runs r) are))

      last : (b : Bool) → (b || true) ≡ true
      last true = refl
      last false = refl

      -- one that has touched a device of the run
      pub seed_met : true ≡ unwrap_or (option_map (meets devices) (slice_get marks k)) false → slice_get (seeds history runs r marks) k ≡ Some true
      seed_met met = seed_at marks k within ∙ ap (λ b. Some (nat_lt k (front_of marks) || b)) (by_mark (slice_get marks k) met) ∙ ap Some (last (nat_lt k (front_of marks)))
        where
          by_mark : (o : Option Mark) → true ≡ unwrap_or (option_map (meets devices) o) false → unwrap_or (option_map (is_needed history runs r) o) false ≡ true
          by_mark None e = sym e
          by_mark (Some m) e = needed_by m ∙ ap (λ b. b || of_run (run_binds history runs r) m.item) (sym e)

      -- another one
      pub seed_rest : (item : Item) (bound : Bool) → front_of marks ≤ k → false ≡ unwrap_or (option_map (meets devices) (slice_get marks k)) false → slice_get (items_of marks) k ≡ Some item → bound ≡ of_run (run_binds history runs r) item
          → slice_get (seeds history runs r marks) k ≡ Some bound
      seed_rest item bound behind unmet there is = seed_at marks k within ∙ ap₂ (λ a b. Some (a || b)) (more k (front_of marks) behind) (by_mark (slice_get marks k) unmet (sym (map_get (λ (m : Mark). m.item) marks k) ∙ there))
        where
          more : (a b : ℕ) → b ≤ a → nat_lt a b ≡ false
          more a b h = grind (arith, common_steps)

          by_mark : (o : Option Mark) → false ≡ unwrap_or (option_map (meets devices) o) false → option_map (λ (m : Mark). m.item) o ≡ Some item → unwrap_or (option_map (is_needed history runs r) o) false ≡ bound
          by_mark None e at = absurd (cc)
          by_mark (Some m) e at = let own : m.item ≡ item = cc in needed_by m ∙ ap₂ (λ a b. a || b) (sym e) (ap (of_run (run_binds history runs r)) own ∙ sym is)

  -- there are as many as items
  pub seeds_length : (marks : List Mark) → length (seeds history runs r marks) ≡ length marks
  seeds_length [] = refl
  seeds_length (m ∷ ms) = at (is_open_run m) (seeds_length ms)
    where
      mapped : (xs : List Mark) → length (map (is_needed history runs r) xs) ≡ length xs
      mapped [] = refl
      mapped (x ∷ xs) = ap suc (mapped xs)

      at : (b : Bool) → length (seeds history runs r ms) ≡ length ms → length (if b then map (is_needed history runs r) (m ∷ ms) else true ∷ seeds history runs r ms) ≡ suc (length ms)
      at true rest = mapped (m ∷ ms)
      at false rest = ap suc rest

-- Tests of lists

any_alike : {A : Type 0} (p q : A → Bool) → ((x : A) → p x ≡ q x) → (xs : List A) → list_any p xs ≡ list_any q xs
any_alike p q same [] = refl
any_alike p q same (x ∷ xs) = ap₂ (λ a b. a || b) (same x) (any_alike p q same xs)

-- with a grip of the next command alone, to have touched or to go on is to have answered or to go on
either_way : (a b c : ℕ → Bool) → ((d : ℕ) → b d ≡ true → c d ≡ true) → (xs : List ℕ) → (list_any (λ d. a d || b d) xs || list_any c xs) ≡ list_any (λ d. a d || c d) xs
either_way a b c less [] = refl
either_way a b c less (d ∷ xs) = turn (a d) (b d) (c d) (list_any (λ e. a e || b e) xs) (list_any c xs) (less d) ∙ ap (λ t. (a d || c d) || t) (either_way a b c less xs)
  where
    turn : (p q s t u : Bool) → (q ≡ true → s ≡ true) → (((p || q) || t) || (s || u)) ≡ ((p || s) || (t || u))
    turn p q s t u h = grind (arith, common_steps)

none_so : (xs : List ℕ) → list_any (λ (d : ℕ). false) xs ≡ false
none_so [] = refl
none_so (d ∷ xs) = none_so xs

module _ (w : Setting) (n : Reading) (g : Grips) (f : Facts w n g) (allowed : IsRosterFor (length w.first) w.runs) (history : List Kept) (ends : (q : ℕ) → end_of history q ≡ (n.run q).ended) (answers : (q : ℕ) → answer_count history q ≡ next_of n q) (r : ℕ) where
  -- some device of r is that of the next command of x where r uses the device of that command
  next_among : (x : ℕ) → goes_on history w.runs r x ≡ list_any (is_next_on w n x) (devices_of w r)
  next_among x = ap (λ k. unwrap_or (option_map (λ (c : Command). touches w.runs r c.device.0) (slice_get (commands_of w.runs x) k)) false) (answers x) ∙ at (slice_get (commands_of w.runs x) (next_of n x)) refl
    where
      at : (o : Option Command) → slice_get (commands_of w.runs x) (next_of n x) ≡ o → unwrap_or (option_map (λ (c : Command). touches w.runs r c.device.0) o) false ≡ list_any (λ d. unwrap_or (option_map (is_on d) o) false) (devices_of w r)
      at None e = sym (none_so (devices_of w r))
      at (Some c) e = sym (any_filter (λ d. c.device.0 == d) (touches w.runs r) (device_numbers w) ∙ own (touches w.runs r c.device.0) refl)
        where
          homed : c.device.0 < length w.first
          homed = allowed.homed x (next_of n x) c e

          other : (d : ℕ) → touches w.runs r c.device.0 ≡ false → (touches w.runs r d && (c.device.0 == d)) ≡ false
          other d none = by_device (c.device.0 == d) refl
            where
              last : (b : Bool) → (b && false) ≡ false
              last true = refl
              last false = refl

              by_device : (b : Bool) → (c.device.0 == d) ≡ b → (touches w.runs r d && b) ≡ false
              by_device true same = let equal : d ≡ c.device.0 = grind (arith, common_steps) in ap (λ k. touches w.runs r k && true) equal ∙ ap (λ b. b && true) none
              by_device false different = last (touches w.runs r d)

          own : (b : Bool) → touches w.runs r c.device.0 ≡ b → list_any (λ d. touches w.runs r d && (c.device.0 == d)) (device_numbers w) ≡ b
          own true on = any_range (λ d. touches w.runs r d && (c.device.0 == d)) 0 (length w.first) c.device.0 (omega arith) (omega (arith, homed)) (ap₂ (λ a b. a && b) on (itself c.device.0))
            where
              itself : (k : ℕ) → (k == k) ≡ true
              itself k = grind (arith, common_steps)
          own false none = any_alike (λ d. touches w.runs r d && (c.device.0 == d)) (λ d. false) (λ d. other d none) (device_numbers w) ∙ none_so (device_numbers w)

  -- a grip is of the next command
  grip_next : (x d : ℕ) → grips_command g x d ≡ true → (is_live n x && is_next_on w n x d) ≡ true
  grip_next x d held =
      let out = command_out g x d held in
      let may : IsTrue (is_live n x && asks_on w n x d && (out.0 == next_of n x)) = f.grips.commands d x out.0 out.1 in
      let next = asks_next w n x d (grind (arith, common_steps)) in
      grind (arith, common_steps)

  -- a run of the line
  run_needed : (x : ℕ) → is_some (n.run x).placed ≡ true → (list_any (has_touched n g x) (devices_of w r) || run_binds history w.runs r x) ≡ gaps.is_needed w n r (Ran (record { 0 = x }))
  run_needed x placed = by_end (n.run x).ended refl
    where
      bound : Option End → Bool
      bound None = goes_on history w.runs r x
      bound (Some Committed) = follows w.runs r x
      bound (Some (Aborted cause)) = false

      Goal : Option End → Type 0
      Goal o = (list_any (has_touched n g x) (devices_of w r) || bound o)
          ≡ (list_any (λ d. did n x d || ((is_some (n.run x).placed && is_none o) && is_next_on w n x d)) (devices_of w r) || (follows w.runs r x && unwrap_or (option_map is_committing o) false))

      plain : (a b : Bool) → a ≡ (a || (b && false))
      plain a b = grind (arith, common_steps)

      -- one that has ended has no grip out
      gripless : (e : End) → (n.run x).ended ≡ Some e → (d : ℕ) → has_touched n g x d ≡ (did n x d || ((is_some (n.run x).placed && false) && is_next_on w n x d))
      gripless e over d = by_grip (grips_command g x d) refl
        where
          dead : is_live n x ≡ false
          dead = ap (λ o. is_some (n.run x).placed && is_none o) over ∙ last (is_some (n.run x).placed)
            where
              last : (b : Bool) → (b && false) ≡ false
              last true = refl
              last false = refl

          none : (a p q : Bool) → (a || false) ≡ (a || ((p && false) && q))
          none a p q = grind (arith, common_steps)

          by_grip : (b : Bool) → grips_command g x d ≡ b → (did n x d || b) ≡ (did n x d || ((is_some (n.run x).placed && false) && is_next_on w n x d))
          by_grip true held = let clash = sym (grip_next x d held) ∙ ap (λ b. b && is_next_on w n x d) dead in absurd (cc (clash))
          by_grip false free = none (did n x d) (is_some (n.run x).placed) (is_next_on w n x d)

      of_end : (o : Option End) → (n.run x).ended ≡ o → Goal o
      of_end None over =
          ap (λ b. list_any (has_touched n g x) (devices_of w r) || b) (next_among x)
          ∙ either_way (did n x) (grips_command g x) (is_next_on w n x) (λ d held. second (is_live n x) (is_next_on w n x d) (grip_next x d held)) (devices_of w r)
          ∙ any_alike (λ d. did n x d || is_next_on w n x d) (λ d. did n x d || ((is_some (n.run x).placed && true) && is_next_on w n x d)) (λ d. ap (λ b. did n x d || ((b && true) && is_next_on w n x d)) (sym placed)) (devices_of w r)
          ∙ plain (list_any (λ d. did n x d || ((is_some (n.run x).placed && true) && is_next_on w n x d)) (devices_of w r)) (follows w.runs r x)
        where
          second : (a b : Bool) → (a && b) ≡ true → b ≡ true
          second a b e = grind (arith, common_steps)
      of_end (Some Committed) over =
          ap₂ (λ a b. a || b)
          (any_alike (has_touched n g x) (λ d. did n x d || ((is_some (n.run x).placed && false) && is_next_on w n x d)) (gripless Committed over) (devices_of w r))
          (whole (follows w.runs r x))
        where
          whole : (b : Bool) → b ≡ (b && true)
          whole true = refl
          whole false = refl
      of_end (Some (Aborted cause)) over =
          ap₂ (λ a b. a || b)
          (any_alike (has_touched n g x) (λ d. did n x d || ((is_some (n.run x).placed && false) && is_next_on w n x d)) (gripless (Aborted cause) over) (devices_of w r))
          (nothing (follows w.runs r x))
        where
          nothing : (b : Bool) → false ≡ (b && false)
          nothing true = refl
          nothing false = refl

      by_end : (o : Option End) → (n.run x).ended ≡ o → (list_any (has_touched n g x) (devices_of w r) || run_binds history w.runs r x) ≡ gaps.is_needed w n r (Ran (record { 0 = x }))
      by_end o over = ap (λ e. list_any (has_touched n g x) (devices_of w r) || bound e) (ends x ∙ over) ∙ of_end o over
          ∙ ap (λ e. list_any (λ d. did n x d || ((is_some (n.run x).placed && is_none e) && is_next_on w n x d)) (devices_of w r) || (follows w.runs r x && unwrap_or (option_map is_committing e) false)) (sym over)

  -- an item of the line
  pub mark_needed : (m : Mark) → TouchesAs (item_has_touched n g) m → ((x : RunNo) → m.item ≡ Ran x → is_some (n.run x.0).placed ≡ true) → is_needed history w.runs r m ≡ gaps.is_needed w n r m.item
  mark_needed m told placed =
      ap (λ b. b || of_run (run_binds history w.runs r) m.item) (any_alike (λ (c : Command). set.contains m.touched c.device.0) (λ (c : Command). item_has_touched n g m.item c.device.0) (λ c. told c.device.0) (commands_of w.runs r))
      ∙ by_item m.item (λ x e. placed x e)
    where
      by_item : (i : Item) → ((x : RunNo) → i ≡ Ran x → is_some (n.run x.0).placed ≡ true) → (list_any (λ (c : Command). item_has_touched n g i c.device.0) (commands_of w.runs r) || of_run (run_binds history w.runs r) i) ≡ gaps.is_needed w n r i
      by_item (Ran x) there = ap (λ b. b || run_binds history w.runs r x.0) (sym (devices_by_commands w r (has_touched n g x.0) allowed)) ∙ run_needed x.0 (there x refl)
      by_item (Failed e k) there = on_device e.0
        where
          on_device : (d : ℕ) → (list_any (λ (c : Command). d == c.device.0) (commands_of w.runs r) || false) ≡ touches w.runs r d
          on_device d = drop_false (list_any (λ (c : Command). d == c.device.0) (commands_of w.runs r)) ∙ any_alike (λ (c : Command). d == c.device.0) (is_on d) (λ c. turned d c.device.0) (commands_of w.runs r)
            where
              drop_false : (b : Bool) → (b || false) ≡ b
              drop_false true = refl
              drop_false false = refl

              turned : (a b : ℕ) → (a == b) ≡ (b == a)
              turned a b = grind (arith, common_steps)
      by_item (Back e k) there = on_device e.0
        where
          on_device : (d : ℕ) → (list_any (λ (c : Command). d == c.device.0) (commands_of w.runs r) || false) ≡ touches w.runs r d
          on_device d = drop_false (list_any (λ (c : Command). d == c.device.0) (commands_of w.runs r)) ∙ any_alike (λ (c : Command). d == c.device.0) (is_on d) (λ c. turned d c.device.0) (commands_of w.runs r)
            where
              drop_false : (b : Bool) → (b || false) ≡ b
              drop_false true = refl
              drop_false false = refl

              turned : (a b : ℕ) → (a == b) ≡ (b == a)
              turned a b = grind (arith, common_steps)

  open_is : (m : Mark) → EndsAs (has_ended n) m → ((x : RunNo) → m.item ≡ Ran x → is_some (n.run x.0).placed ≡ true) → is_open_run m ≡ of_run (is_live n) m.item
  open_is m told placed = ap (λ b. of_run (λ x. not b) m.item) told ∙ by_item m.item placed
    where
      lives : (o : OfRun) → is_some o.placed ≡ true → not (is_some o.ended) ≡ (is_some o.placed && is_none o.ended)
      lives o there = grind (arith, common_steps)

      by_item : (i : Item) → ((x : RunNo) → i ≡ Ran x → is_some (n.run x.0).placed ≡ true) → of_run (λ x. not (of_run (has_ended n) i)) i ≡ of_run (is_live n) i
      by_item (Ran x) there = lives (n.run x.0) (there x refl)
      by_item (Failed e k) there = refl
      by_item (Back e k) there = refl

  -- the flags of a line
  pub seeds_are : (marks : List Mark) → Each (TouchesAs (item_has_touched n g)) marks → Each (EndsAs (has_ended n)) marks → Each (λ m. (x : RunNo) → m.item ≡ Ran x → is_some (n.run x.0).placed ≡ true) marks
      → seeds history w.runs r marks ≡ gaps.base_flags (of_run (is_live n)) (gaps.is_needed w n r) (items_of marks)
  seeds_are [] touches ends placed = refl
  seeds_are (m ∷ ms) touches ends placed =
      ap (λ b. if b then map (is_needed history w.runs r) (m ∷ ms) else true ∷ seeds history w.runs r ms) (open_is m ends.0 placed.0)
      ∙ ap₂ (λ xs ys. if of_run (is_live n) m.item then xs else true ∷ ys) (all (m ∷ ms) touches placed) (seeds_are ms touches.1 ends.1 placed.1)
    where
      all : (xs : List Mark) → Each (TouchesAs (item_has_touched n g)) xs → Each (λ x. (q : RunNo) → x.item ≡ Ran q → is_some (n.run q.0).placed ≡ true) xs → map (is_needed history w.runs r) xs ≡ map (gaps.is_needed w n r) (items_of xs)
      all [] told there = refl
      all (x ∷ xs) told there = ap₂ (λ b bs. b ∷ bs) (mark_needed x told.0 there.0) (all xs told.1 there.1)

-- In each configuration

placed_if : (o : OfRun) → stands_in o ≡ true → is_some o.placed ≡ true
placed_if o stands = grind (arith, common_steps)

-- the runs among the items are placed
each_placed : (n : Reading) (marks : List Mark) → ((q : ℕ) → list_any (λ i. of_run (λ x. x == q) i) (items_of marks) ≡ true → is_some (n.run q).placed ≡ true) → Each (λ m. (x : RunNo) → m.item ≡ Ran x → is_some (n.run x.0).placed ≡ true) marks
each_placed n [] among = tt
each_placed n (m ∷ ms) among = ((λ x e. among x.0 (ap (λ i. of_run (λ q. q == x.0) i || list_any (λ j. of_run (λ q. q == x.0) j) (items_of ms)) e ∙ here x.0 _)), each_placed n ms (λ q some. among q (behind (of_run (λ x. x == q) m.item) _ some)))
  where
    here : (k : ℕ) (b : Bool) → ((k == k) || b) ≡ true
    here k b = grind (arith, common_steps)

    behind : (a b : Bool) → b ≡ true → (a || b) ≡ true
    behind a b e = grind (arith, common_steps)

module _ (parts : WindowParts) (r : ℕ) where
  -- the seeds are the base
  pub base_is : (s : Configuration) → IsStandingOf s parts → seeds parts.history parts.runs r parts.line ≡ gaps.base_of s.setting (read_of s) r
  base_is s stands =
      ap (λ rs. seeds parts.history rs r parts.line) (sym stands.its_roster)
      ∙ seeds_are s.setting (read_of s) s.grips f stands.allowed parts.history ends answers r parts.line stands.its_line.touches stands.its_line.ends
      (each_placed (read_of s) parts.line (λ q among. placed_if ((read_of s).run q) (sym (f.line.line q) ∙ sym (ap (list_any (λ i. of_run (λ x. x == q) i)) stands.its_line.items) ∙ among)))
      ∙ ap (gaps.base_flags (of_run (is_live (read_of s))) (gaps.is_needed s.setting (read_of s) r)) stands.its_line.items
    where
      f : Facts s.setting (read_of s) s.grips
      f = facts_of s parts stands

      ends : (q : ℕ) → end_of parts.history q ≡ ((read_of s).run q).ended
      ends q = ap (λ h. end_of h q) (sym stands.its_history) ∙ end_is s.setting s.history q stands.well_formed

      answers : (q : ℕ) → answer_count parts.history q ≡ next_of (read_of s) q
      answers q = ap (λ h. answer_count h q) (sym stands.its_history) ∙ answer_count_is s.setting s.history q
