-- The orders of the rooms of a window, merged, are serial for the home.
use Rattle.command_rules.specs.Items.{is_ran}
use Rattle.command_rules.specs.Rosters.{Run, is_run}
use Rattle.command_rules.specs.Serial.{SerialRun, serial_execution}
use Rattle.history_book.specs.Histories.{executed, reading}
use Rattle.history_book.specs.Readings.{is_committed}
use Rattle.hub_commands.proofs.Prelude.{AgreesWithRooms, All, AreSplit, Bool, EachOrderAgrees, IsSound, List, Listed, Mode, None, Option, RecordsAreLegal, RoomWindow, Script, Setting, Some, Stand, WindowRecord, Windows, [], ap, arith, at_place, common_steps, count_by, false, get_or, get_or-map, get_or_from_slice_get, get_or_past, home_executed, home_of_rooms, if◌then◌else◌, inl, inr, is_some, is_weak, joined_is, kinds_of, length, length-map, list_any, map, none_passes, option_map, own_is, own_kinds_are, own_runs_are, own_script, own_start_is, parts, plain_script, range_with_len, records_of, refl, replicate, room_at, room_count, rooms_home_before, rooms_of, rooms_size, runs_in, script_runs, setting_of, slice_get, slice_get-get_or, slice_get-map, slice_get_cases, slice_get_within, slice_index_or, split_is, split_parts, state_after, subst, suc, sym, true, unwrap_or, whole, zero, ℕ, ◌+◌, ◌<◌, ◌==◌, ◌∙◌, ◌∷◌, ◌≡◌, ◌≤◌}
use Rattle.home_types.specs.declared.items.Item.TheVariants.{Back, Failed, Ran}
use Rattle.home_types.specs.declared.items.Item.{Item}
use Rattle.home_types.specs.HomeStates.{stand_at}
use Rattle.hub_commands.proofs.MergedLists.{HaveRoom, answered, each_item, record_at, same_order}
use Rattle.hub_commands.proofs.OwnItems.{is_stray, none_strays}
use Rattle.legal_days.specs.LegalWindows.{IsLegalWindow, IsSeriallyLegal, IsWeaklyLegal, history_of}
use Rattle.room_hubs.specs.Merges.{HasOwnOrder, InStep, IsMerge, Merge, PartHome, RoomOrders, answers_of, home_order, joined_merge, no_room, order_of_room, own_order, room_in, room_order}
use Rattle.room_hubs.specs.Numbers.{IsOwnDevice, IsOwnItem, IsOwnRun, Room, home_device, home_run, plain_room, room_home, room_kinds}
use Rattle.room_hubs.specs.ToldWindows.{RoomHome, joined_home, last_of_room}
use Rattle.std.proofs.lemmas.List.FromFn.{get_or-range_with_len, length-range_with_len}

-- a legal window is serially legal outside the weak model
pub serially : (w : Setting) (closed : WindowRecord) → is_weak w.mode ≡ false → IsLegalWindow w closed → IsSeriallyLegal w closed
serially w closed strong legal = subst under_weak strong legal
  where
    under_weak : Bool → Type 0
    under_weak true = IsWeaklyLegal w closed
    under_weak false = IsSeriallyLegal w closed

nothing_more : (k : ℕ) → 0 + k ≡ k
nothing_more k = omega arith

past_none : {X : Type 0} (xs : List X) (k : ℕ) → slice_get xs k ≡ None → length xs ≤ k
past_none {X = X} xs k none = elim (slice_get_cases xs k).1 [
  | inl p ↦ absurd (let both : ◌≡◌ {A = Option X} (Some p.0) None = sym p.2 ∙ none in cc)
  | inr p ↦ p.0
]

-- ---- items of a room

-- a run of the room's runs has one of its numbers
own_run_there : (f : ℕ → Run) (mine : List ℕ) (r : ℕ) → is_run (map f mine) r ≡ true → (room : Room) → room.runs ≡ mine → IsOwnRun room r
own_run_there f mine zero is room same = absurd (cc)
own_run_there f mine (suc i) is room same = subst (λ l. i < length l) (sym same) (by (slice_get mine i) refl (sym (ap (λ (o : Option Run). is_some o) (slice_get-map f mine i)) ∙ is))
  where
    by : (o : Option ℕ) → slice_get mine i ≡ o → is_some (option_map f o) ≡ true → i < length mine
    by None at some = absurd (cc)
    by (Some x) at some = slice_get_within mine i x at

-- a run that stands in the order is one of the room
ran_is_own : (room : Room) (r : ℕ) (order : List Item) → 1 ≤ count_by (is_ran r) order → All (IsOwnItem room) order → IsOwnRun room r
ran_is_own room r [] some all = absurd (omega (arith, some))
ran_is_own room r (Failed d k ∷ order) some all = ran_is_own room r order some (λ i d within. all (suc i) d (omega (arith, within)))
ran_is_own room r (Back d k ∷ order) some all = ran_is_own room r order some (λ i d within. all (suc i) d (omega (arith, within)))
ran_is_own room r (Ran q ∷ order) some all = by (λ more. ran_is_own room r order more (λ i d within. all (suc i) d (omega (arith, within)))) (q.0 == r) refl
  where
    same : (q.0 == r) ≡ true → q.0 ≡ r
    same e = grind (arith, common_steps)

    later : (q.0 == r) ≡ false → 1 ≤ count_by (is_ran r) order
    later e = grind (arith, common_steps)

    by : (1 ≤ count_by (is_ran r) order → IsOwnRun room r) → (b : Bool) → (q.0 == r) ≡ b → IsOwnRun room r
    by rest true e = subst (IsOwnRun room) (same e) (all 0 (Ran q) (omega arith))
    by rest false e = rest (later e)

module _ (script : Script) (sound : IsSound (plain_script script)) (mode : Mode) (strong : is_weak mode ≡ false) (windows : Windows)
    (split : AreSplit script windows) (legal : (k : ℕ) → k < room_count script → RecordsAreLegal (own_script script k) mode (records_of k windows)) where
  abbrev RoomOf : List ℕ
  RoomOf = (rooms_of script).room_of

  -- the rooms of a window
  abbrev At : ℕ → ℕ → Room
  At w = room_at RoomOf (script_runs script w)

  abbrev Fixed : ℕ → ℕ → Setting
  Fixed k w = setting_of (own_script script k) mode (records_of k windows) w

  abbrev orders_of : Listed RoomWindow → RoomOrders
  orders_of ws = map room_order ws.items

  plain : RoomWindow → Room
  plain x = plain_room x.roster

  rosters : (w : ℕ) (ws : Listed RoomWindow) → slice_get windows w ≡ Some ws → map (λ (x : RoomWindow). plain_room x.roster) ws.items ≡ map (At w) (range_with_len 0 (room_count script))
  rosters w ws at = (split_is (rooms_of script) (script_runs script w) (map (λ (x : RoomWindow). plain_room x.roster) ws.items) (split w ws at)).1

  pub count : (w : ℕ) (ws : Listed RoomWindow) → slice_get windows w ≡ Some ws → length ws.items ≡ room_count script
  count w ws at =
      let r = ap (λ l. length l) (rosters w ws at) in
      omega (arith, r, length-map ws.items (λ (x : RoomWindow). plain_room x.roster), length-map (range_with_len 0 (room_count script)) (At w), length-range_with_len 0 (room_count script))

  pub have_room : (k : ℕ) → k < room_count script → HaveRoom k windows
  have_room k within w ws at = omega (arith, within, count w ws at)

  -- the room's window has the room's roster
  pub roster_is : (w k : ℕ) (ws : Listed RoomWindow) (window : RoomWindow) → slice_get windows w ≡ Some ws → slice_get ws.items k ≡ Some window → (k < room_count script) × (plain_room window.roster ≡ At w k)
  roster_is w k ws window at here =
      let within = slice_get_within ws.items k window here in
      let inside : k < room_count script = omega (arith, within, count w ws at) in
      let p : RoomWindow → Room = λ x. plain_room x.roster in (
        inside,
        sym (get_or-map p ws.items k window (p window) within ∙ ap p (get_or_from_slice_get ws.items k window window here))
            ∙ ap (λ l. get_or l k (p window)) (rosters w ws at)
            ∙ get_or-map (At w) (range_with_len 0 (room_count script)) k 0 (p window) (omega (arith, inside, length-range_with_len 0 (room_count script)))
            ∙ ap (At w) (get_or-range_with_len 0 (room_count script) k 0 inside ∙ nothing_more k),
      )

  legal_at : (w k : ℕ) (ws : Listed RoomWindow) (window : RoomWindow) → slice_get windows w ≡ Some ws → slice_get ws.items k ≡ Some window → IsSeriallyLegal (Fixed k w) window.closed
  legal_at w k ws window at here =
      let inside = (roster_is w k ws window at here).0 in
      serially (Fixed k w) window.closed strong (legal k inside w window.closed (record_at k windows w ws window (have_room k inside) at here))

  own_item : (k w : ℕ) (item : Item) → length (Fixed k w).first ≡ length (At w k).devices → is_stray (Fixed k w) item ≡ false → IsOwnItem (At w k) item
  own_item k w (Ran r) size own =
      let is : is_run (script_runs (own_script script k) w) r.0 ≡ true = grind (arith, common_steps) in
      own_run_there _ (runs_in RoomOf (script_runs script w) k) r.0 (ap (λ runs. is_run runs r.0) (sym (own_runs_are script k w)) ∙ is) (At w k) refl
  own_item k w (Failed d n) size own = let home : d.0 < length (Fixed k w).first = grind (arith, common_steps) in omega (arith, home, size)
  own_item k w (Back d n) size own = let home : d.0 < length (Fixed k w).first = grind (arith, common_steps) in omega (arith, home, size)

  -- the orders of the rooms name their own runs and devices
  own_orders : (w k : ℕ) (ws : Listed RoomWindow) (window : RoomWindow) → slice_get windows w ≡ Some ws → slice_get ws.items k ≡ Some window → length (Fixed k w).first ≡ length (At w k).devices
      → All (IsOwnItem (At w k)) window.closed.order.items
  own_orders w k ws window at here size i d within =
      let is = legal_at w k ws window at here in
      let none = ap (list_any (is_stray (Fixed k w))) is.line ∙ none_strays (Fixed k w) (history_of window.closed) is.well_formed in
      own_item k w (get_or window.closed.order.items i d) size (none_passes (is_stray (Fixed k w)) window.closed.order.items none i d within)

  -- ---- the home and its rooms at a window's start

  abbrev Starts : ℕ → Type 0
  Starts w = (k : ℕ) → k < room_count script → room_home (At w k) (rooms_home_before script windows w) ≡ state_after (own_script script k) (records_of k windows) w

  first_size : (w k : ℕ) → Starts w → k < room_count script → length (Fixed k w).first ≡ length (At w k).devices
  first_size w k starts inside = sym (ap (λ l. length l) (starts k inside)) ∙ length-map (At w k).devices _

  home_size : (w : ℕ) → w ≤ length windows → length (rooms_home_before script windows w) ≡ length RoomOf
  home_size zero within = length-map script.devices.items _ ∙ sym (rooms_size script)
  home_size (suc w) within = by (at_place windows w (omega (arith, within)))
    where
      by : (ws : Listed RoomWindow) × (slice_get windows w ≡ Some ws) → length (rooms_home_before script windows (suc w)) ≡ length RoomOf
      by (ws, at) = ap (λ (o : Option (Listed RoomWindow)). length (unwrap_or (option_map (λ (x : Listed RoomWindow). joined_home RoomOf (map last_of_room x.items)) o) [])) at
          ∙ length-map (range_with_len 0 (length RoomOf)) _ ∙ length-range_with_len 0 (length RoomOf)

  module _ (w : ℕ) (ws : Listed RoomWindow) (at : slice_get windows w ≡ Some ws) (starts : Starts w) where
    abbrev Home : List Stand
    Home = rooms_home_before script windows w

    part : PartHome (At w) (script_runs script w) Home
    part = parts RoomOf (script_runs script w) Home (home_size w (let within = slice_get_within windows w ws at in omega (arith, within)))
        (split_parts script w (map (λ (x : RoomWindow). plain_room x.roster) ws.items) sound (split w ws at))

    order_is : (k : ℕ) (window : RoomWindow) → slice_get ws.items k ≡ Some window → slice_index_or (orders_of ws) k (no_room, []) ≡ room_order window
    order_is k window here = get_or-map room_order ws.items k window (no_room, []) (slice_get_within ws.items k window here) ∙ ap room_order (get_or_from_slice_get ws.items k window window here)

    no_order : (k : ℕ) → length ws.items ≤ k → slice_index_or (orders_of ws) k (no_room, []) ≡ (no_room, [])
    no_order k past = get_or_past (orders_of ws) k (no_room, []) (omega (arith, past, length-map ws.items room_order))

    module _ (merge : Merge) (own : (k : ℕ) → own_order k merge ≡ order_of_room (orders_of ws) k) where
      own_is_of : (k : ℕ) (window : RoomWindow) → slice_get ws.items k ≡ Some window → own_order k merge ≡ window.closed.order.items
      own_is_of k window here = own k ∙ ap (λ x. x.1) (order_is k window here)

      nothing_past : (k : ℕ) → length ws.items ≤ k → own_order k merge ≡ []
      nothing_past k past = own k ∙ ap (λ x. x.1) (no_order k past)

      -- what holds of the rooms that there are holds of each item of the merge
      in_rooms : (P : ℕ → Item → Type 0) → ((k : ℕ) (window : RoomWindow) → slice_get ws.items k ≡ Some window → All (P k) window.closed.order.items) → All (λ x. P x.0 x.1) merge
      in_rooms P each = each_item P merge (λ k. by k (slice_get ws.items k) refl)
        where
          by : (k : ℕ) (o : Option RoomWindow) → slice_get ws.items k ≡ o → All (P k) (own_order k merge)
          by k (Some window) here = subst (All (P k)) (sym (own_is_of k window here)) (each k window here)
          by k None none = λ i d within.
              let empty = ap (λ l. length l) (nothing_past k (past_none ws.items k none)) in
              absurd (omega (arith, within, empty))

      is_merge : IsMerge (At w) merge
      is_merge = in_rooms (λ k i. IsOwnItem (At w k) i) (λ k window here. own_orders w k ws window at here (first_size w k starts (roster_is w k ws window at here).0))

      same : home_order (room_in (orders_of ws)) merge ≡ home_order (At w) merge
      same = same_order (room_in (orders_of ws)) (At w) merge
          (in_rooms (λ k i. room_in (orders_of ws) k ≡ At w k) (λ k window here i d within. ap (λ x. x.0) (order_is k window here) ∙ (roster_is w k ws window at here).1))

      in_step : InStep (At w) (home_executed script windows w (home_order (At w) merge))
          (λ k. serial_execution (At w k).own_runs (room_kinds (At w k) (kinds_of script)) (room_home (At w k) Home) (own_order k merge))
      in_step = whole (At w) (script_runs script w) (kinds_of script) Home part merge is_merge

      abbrev InRoom : ℕ → SerialRun
      InRoom k = serial_execution (At w k).own_runs (room_kinds (At w k) (kinds_of script)) (room_home (At w k) Home) (own_order k merge)

      room_is : (k : ℕ) (window : RoomWindow) → slice_get ws.items k ≡ Some window → InRoom k ≡ executed (Fixed k w) window.closed.order.items
      room_is k window here =
          let inside = (roster_is w k ws window at here).0 in
          λ i. serial_execution (sym (own_runs_are script k w) i) (sym (own_kinds_are script k w) i) (starts k inside i) (own_is_of k window here i)

      applies : (k : ℕ) → (InRoom k).refused ≡ false
      applies k = by (slice_get ws.items k) refl
        where
          by : (o : Option RoomWindow) → slice_get ws.items k ≡ o → (InRoom k).refused ≡ false
          by (Some window) here = ap (λ s. s.refused) (room_is k window here) ∙ (legal_at w k ws window at here).agrees.applies
          by None none = ap (λ l. (serial_execution (At w k).own_runs (room_kinds (At w k) (kinds_of script)) (room_home (At w k) Home) l).refused) (nothing_past k (past_none ws.items k none))

      last_is : (k : ℕ) (window : RoomWindow) → slice_get ws.items k ≡ Some window → (InRoom k).home ≡ window.closed.last.devices.items
      last_is k window here = ap (λ s. s.home) (room_is k window here) ∙ (legal_at w k ws window at here).agrees.home

      pub last_size : (k : ℕ) (window : RoomWindow) → slice_get ws.items k ≡ Some window → length window.closed.last.devices.items ≡ length (At w k).devices
      last_size k window here = ap (λ l. length l) (sym (last_is k window here)) ∙ in_step.room_size k

      answered_as : (k r : ℕ) (window : RoomWindow) → slice_get ws.items k ≡ Some window → is_committed (reading (Fixed k w) (history_of window.closed)) r ≡ true
          → answers_of (home_run (plain_room window.roster) r) (home_executed script windows w (home_order (At w) merge)).answers ≡ ((reading (Fixed k w) (history_of window.closed)).run r).answers ∷ []
      answered_as k r window here committed =
          let is = legal_at w k ws window at here in
          let n = reading (Fixed k w) (history_of window.closed) in
          let once : count_by (is_ran r) window.closed.order.items ≡ 1 = is.is_order.runs r ∙ ap (λ b. if b then 1 else 0) committed in
          let size = first_size w k starts (roster_is w k ws window at here).0 in
          let ran = ran_is_own (At w k) r window.closed.order.items (omega (arith, once)) (own_orders w k ws window at here size) in
          ap (λ room. answers_of (home_run room r) (home_executed script windows w (home_order (At w) merge)).answers) (roster_is w k ws window at here).1
          ∙ in_step.answers k r ran
          ∙ ap (λ (s : SerialRun). answers_of r s.answers) (room_is k window here)
          ∙ ap (answers_of r) is.agrees.answers
          ∙ answered n r window.closed.order.items
          ∙ ap (λ c. replicate c (n.run r).answers) once

      agrees_at : AgreesWithRooms script mode windows w ws.items (home_order (At w) merge)
      agrees_at = record {
        applies = in_step.refused applies;
        answers = answered_as;
        last = λ k a window here own_device.
            let room = (roster_is w k ws window at here).1 in
            let mine : IsOwnDevice (At w k) a = subst (λ (x : Room). IsOwnDevice x a) room own_device in
            ap (λ (x : Room). stand_at (home_executed script windows w (home_order (At w) merge)).home (home_device x a)) room
            ∙ in_step.stands k a mine ∙ ap (λ l. stand_at l a) (last_is k window here);
      }

      pub agrees : AgreesWithRooms script mode windows w ws.items (home_order (room_in (orders_of ws)) merge)
      agrees = subst (AgreesWithRooms script mode windows w ws.items) (sym same) agrees_at

  -- ---- one window after the other

  pub starts_at : (w : ℕ) → w ≤ length windows → Starts w
  starts_at zero within k inside = sym (own_start_is script k 0)
  starts_at (suc w) within k inside = by (starts_at w (omega (arith, within))) (at_place windows w (omega (arith, within)))
    where
      by : Starts w → (ws : Listed RoomWindow) × (slice_get windows w ≡ Some ws) → room_home (At (suc w) k) (rooms_home_before script windows (suc w)) ≡ state_after (own_script script k) (records_of k windows) (suc w)
      by starts (ws, at) = by_window (at_place ws.items k (have_room k inside w ws at))
        where
          by_window : (window : RoomWindow) × (slice_get ws.items k ≡ Some window) → room_home (At (suc w) k) (rooms_home_before script windows (suc w)) ≡ state_after (own_script script k) (records_of k windows) (suc w)
          by_window (window, here) =
              let roster = (roster_is w k ws window at here).1 in
              let size = last_size w ws at starts (joined_merge 0 (orders_of ws)) (own_is (orders_of ws)) k window here in
              let home : RoomHome = last_of_room window in
              let there : slice_index_or (map last_of_room ws.items) k ([], []) ≡ home =
              get_or-map last_of_room ws.items k window ([], []) (slice_get_within ws.items k window here) ∙ ap last_of_room (get_or_from_slice_get ws.items k window window here) in
              ap (λ (o : Option (Listed RoomWindow)). room_home (At (suc w) k) (unwrap_or (option_map (λ (x : Listed RoomWindow). joined_home RoomOf (map last_of_room x.items)) o) [])) at
              ∙ home_of_rooms RoomOf (map last_of_room ws.items) (At (suc w) k) k home refl there (ap (λ (x : Room). x.devices) roster) size
              ∙ sym (ap (λ (o : Option WindowRecord). unwrap_or (option_map (λ (c : WindowRecord). c.last.devices.items) o) []) (record_at k windows w ws window (have_room k inside) at here))

  starts_there : (w : ℕ) (ws : Listed RoomWindow) → slice_get windows w ≡ Some ws → Starts w
  starts_there w ws at = starts_at w (let within = slice_get_within windows w ws at in omega (arith, within))

  pub each_order_agrees : EachOrderAgrees script mode windows
  each_order_agrees = record {
    joined = λ w ws at. subst (AgreesWithRooms script mode windows w ws.items) (sym (joined_is (orders_of ws))) (agrees w ws at (starts_there w ws at) (joined_merge 0 (orders_of ws)) (own_is (orders_of ws)));
    merged = λ w ws at merge own. agrees w ws at (starts_there w ws at) merge own;
  }

  -- each room's order names the room's own runs and devices
  pub own_windows : (w : ℕ) (ws : Listed RoomWindow) → slice_get windows w ≡ Some ws → All (λ (window : RoomWindow). HasOwnOrder (room_order window)) ws.items
  own_windows w ws at k d within =
      let window = get_or ws.items k d in
      let here = slice_get-get_or ws.items k d within in
      let roster = roster_is w k ws window at here in
      subst (λ (x : Room). All (IsOwnItem x) window.closed.order.items) (sym roster.1) (own_orders w k ws window at here (first_size w k (starts_there w ws at) roster.0))
