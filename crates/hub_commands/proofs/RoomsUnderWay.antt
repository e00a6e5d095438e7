-- The rooms of a day under way: their next window may be opened, and the day goes on by it.
use Rattle.device_gate.specs.Places.{AreNumbered}
use Rattle.hub_commands.proofs.Prelude.{All, DayIsUnderWay, HomeIsKept, HomeState, IsRunWithin, IsSound, IsSoundWindow, IsTrue, Kind, List, Listed, MayOpen, Mode, Ok, Option, OwnRunsAreSound, RoomWindow, RoomsAreUnderWay, Script, Shown, Some, WindowText, Windows, [], ap, arith, at_place, cons_option, device_room, devices_in, filtered, get_or, get_or-map, get_or_from_slice_get, inl, inr, is_mode, kinds_of, length, length-append, length-map, map, names_values_of, nat_lt, new_course, option_map, own_kinds_are, own_runs_are, own_runs_sound, own_script, own_window, plain_device, plain_routine, plain_script, plain_window, range_with_len, records_of, refl, room_at, room_count, rooms_of, rooms_size, script_runs, script_split, setting_for, setting_on, slice_get, slice_get-get_or, slice_get-map, slice_get_within, snoc_get, split_is, split_parts, subst, suc, suits_device, sym, true, ℕ, ◌++◌, ◌+◌, ◌<◌, ◌==◌, ◌∙◌, ◌∷◌, ◌≡◌, ◌≤◌}
use Rattle.home_types.specs.Kinds.{kind_at}
use Rattle.home_types.specs.declared.commands.Job.TheVariants.{Check, Load, Set, Store}
use Rattle.home_types.specs.declared.commands.Job.{Job}
use Rattle.hub_commands.proofs.MergedLists.{HaveRoom, records_count}
use Rattle.hub_commands.proofs.DaysUnderWay.{gone_on}
use Rattle.hub_commands.proofs.PlayedWindows.{IsPlayed}
use Rattle.hub_commands.proofs.WorkedWays.{rounds_at, run_as}
use Rattle.hub_commands.specs.RoomPlays.{AreOpened, AreTakenApart, MayAllOpen, RoomWent, RoomsWent}
use Rattle.hub_core.specs.HubCalls.{IsOpened}
use Rattle.hub_threads.specs.WorkedRooms.{AreRoomsWorked, IsReady}
use Rattle.hub_threads.specs.declared.rooms.RoomDone.{RoomDone}
use Rattle.hub_threads.specs.declared.rooms.RoomHub.{RoomHub}
use Rattle.room_hubs.specs.Numbers.{Room, plain_room, room_kinds}
use Rattle.room_hubs.specs.declared.rosters.RoomRoster.{RoomRoster}
use Rattle.run_replay.proofs.Cited.{fresh_where}
use Rattle.std.proofs.lemmas.Bool.{and_from, lt-ltb}
use Rattle.std.proofs.lemmas.List.Elements.{All-get_or, filter_map-append}
use Rattle.std.proofs.lemmas.List.FromFn.{get_or-range_with_len, length-range_with_len}

nothing_more : (k : ℕ) → 0 + k ≡ k
nothing_more k = omega arith

map_twice : {X Y Z : Type 0} (g : Y → Z) (f : X → Y) (xs : List X) → map g (map f xs) ≡ map (λ x. g (f x)) xs
map_twice g f [] = refl
map_twice g f (x ∷ xs) = ap (λ l. g (f x) ∷ l) (map_twice g f xs)

-- lists that agree at each place
maps_agree : {X Y Z : Type 0} (f : X → Z) (g : Y → Z) (xs : List X) (ys : List Y) → length xs ≡ length ys → ((k : ℕ) (x : X) (y : Y) → slice_get xs k ≡ Some x → slice_get ys k ≡ Some y → f x ≡ g y) → map f xs ≡ map g ys
maps_agree f g [] [] size each = refl
maps_agree f g [] (y ∷ ys) size each = absurd (omega (arith, size))
maps_agree f g (x ∷ xs) [] size each = absurd (omega (arith, size))
maps_agree f g (x ∷ xs) (y ∷ ys) size each = λ i. each 0 x y refl refl i ∷ maps_agree f g xs ys (omega (arith, size)) (λ k a b at_a at_b. each (suc k) a b at_a at_b) i

-- the roster in this place is that of the room with its number
pub at_roster : (script : Script) (w : ℕ) (rosters : List RoomRoster) → script_split script w ≡ Ok (map plain_room rosters) → (k : ℕ) (roster : RoomRoster) → slice_get rosters k ≡ Some roster
    → (k < room_count script) × (plain_room roster ≡ room_at (rooms_of script).room_of (script_runs script w) k)
at_roster script w rosters split k roster at =
    let all = (split_is (rooms_of script) (script_runs script w) (map plain_room rosters) split).1 in
    let n = room_count script in
    let room : ℕ → Room = room_at (rooms_of script).room_of (script_runs script w) in
    let sizes = ap (λ l. length l) all in
    let within = slice_get_within rosters k roster at in
    let inside : k < n = omega (arith, within, sizes, length-map rosters plain_room, length-map (range_with_len 0 n) room, length-range_with_len 0 n) in (
      inside,
      sym (get_or-map plain_room rosters k roster (plain_room roster) within ∙ ap plain_room (get_or_from_slice_get rosters k roster roster at))
          ∙ ap (λ l. get_or l k (plain_room roster)) all
          ∙ get_or-map room (range_with_len 0 n) k 0 (plain_room roster) (omega (arith, inside, length-range_with_len 0 n))
          ∙ ap room (get_or-range_with_len 0 n k 0 inside ∙ nothing_more k),
    )

pub rosters_count : (script : Script) (w : ℕ) (rosters : List RoomRoster) → script_split script w ≡ Ok (map plain_room rosters) → length rosters ≡ room_count script
rosters_count script w rosters split =
    let all = ap (λ l. length l) (split_is (rooms_of script) (script_runs script w) (map plain_room rosters) split).1 in
    let room : ℕ → Room = room_at (rooms_of script).room_of (script_runs script w) in
    omega (arith, all, length-map rosters plain_room, length-map (range_with_len 0 (room_count script)) room, length-range_with_len 0 (room_count script))

-- ---- a room's window may be opened

names_as : (kind : Kind) (job : Job) → suits_device kind job ≡ true → names_values_of kind job ≡ true
names_as kind (Set v) is = is
names_as kind (Check v) is = is
names_as kind Load is = is
names_as kind Store is = is

-- no more devices are in a room than in the home
room_few : (script : Script) (k : ℕ) → length (devices_in (rooms_of script).room_of k) ≤ length script.devices.items
room_few script k = let f = (filtered (λ d. device_room (rooms_of script).room_of d == k) 0 (length (rooms_of script).room_of)).few in omega (arith, f, rooms_size script)

own_size : (script : Script) (k : ℕ) → length (own_script script k).devices.items ≡ length (devices_in (rooms_of script).room_of k)
own_size script k = length-map (devices_in (rooms_of script).room_of k) _

pub may_open_room : {D : Type 0} (script : Script) → IsSound (plain_script script) → (mode : Mode) → IsTrue (is_mode mode) → (w : ℕ) (window : WindowText) → slice_get script.windows.items w ≡ Some window
    → (all : List Room) → script_split script w ≡ Ok all → (k : ℕ) (home : HomeState D) (roster : RoomRoster) → plain_room roster ≡ room_at (rooms_of script).room_of (script_runs script w) k
    → home.kinds ≡ kinds_of (own_script script k) → length home.world ≡ length (own_script script k).devices.items → home.opened ≤ 288
    → MayOpen (setting_for home roster.roster mode) window.probes home.opened
may_open_room script sound mode goes w window at all split k home roster is kinds world opened =
    subst (λ runs. MayOpen (record { runs = runs; mode = mode; kinds = home.kinds; first = home.world }) window.probes home.opened) (sym (ap (λ (r : Room). r.own_runs) is)) (record {
      few_devices = let few = room_few script k in let n = sound.few_devices in let own = own_size script k in omega (arith, few, n, own, world, length-map script.devices.items plain_device);
      few_runs = own.few_runs;
      few_commands = own.few_commands;
      homed = λ r i c there. let c_is = own.homed r i c there in
          and_from (nat_lt c.device.0 (length home.world)) _ (lt-ltb c.device.0 (length home.world) (let low = c_is.0 in let n = own_size script k in omega (arith, low, world, n)))
          (names_as (kind_at home.kinds c.device.0) c.job (ap (λ ks. suits_device (kind_at ks c.device.0) c.job) (kinds ∙ own_kinds_are script k w) ∙ c_is.1));
      follows = λ r f there. let earlier = own.follows r f there in and_from (nat_lt 0 f.0) (nat_lt f.0 r) (lt-ltb 0 f.0 earlier.0) (lt-ltb f.0 r earlier.1);
      mode = goes;
      few_rounds = window_sound.probes;
      few_windows = omega (arith, opened);
    })
  where
    own : OwnRunsAreSound (length (room_at (rooms_of script).room_of (script_runs script w) k).devices) (room_at (rooms_of script).room_of (script_runs script w) k) (room_kinds (room_at (rooms_of script).room_of (script_runs script w) k) (kinds_of script))
    own = own_runs_sound script sound w (slice_get_within script.windows.items w window at) (split_parts script w all sound split) k

    window_sound : IsSoundWindow (length (map plain_routine script.routines.items)) (plain_window window)
    window_sound =
        let windows = map plain_window script.windows.items in
        let there : slice_get windows w ≡ Some (plain_window window) = slice_get-map plain_window script.windows.items w ∙ ap (option_map plain_window) at in
        let P = IsSoundWindow (length (map plain_routine script.routines.items)) in
        subst P (get_or_from_slice_get windows w (plain_window window) (plain_window window) there) (All-get_or P windows w (plain_window window) (slice_get_within windows w (plain_window window) there) sound.windows)

-- ---- all rooms

-- each home of the day may have its next window opened with the rosters of the split
pub may_all_open : {D : Type 0} (earliest latest : ℕ) (shows : D → Shown) (script : Script) → IsSound (plain_script script) → (mode : Mode) → IsTrue (is_mode mode) → (w : ℕ) (window : WindowText) → slice_get script.windows.items w ≡ Some window
    → (rosters : List RoomRoster) → script_split script w ≡ Ok (map plain_room rosters) → (homes : List (HomeState D)) (windows : Windows) → length windows ≡ w → RoomsAreUnderWay earliest latest shows script mode homes windows
    → MayAllOpen mode window.probes rosters homes
may_all_open earliest latest shows script sound mode goes w window at rosters split homes windows count day k roster home roster_at home_at =
    let is = day.each k home home_at in
    let place = at_roster script w rosters split k roster roster_at in
    may_open_room script sound mode goes w window at (map plain_room rosters) split k home roster place.1 is.kinds is.size
    (let n = is.opened in let within = slice_get_within script.windows.items w window at in let few = sound.few_windows in let all = is.played.count in
    omega (arith, n, all, few, length-map script.windows.items plain_window, length-map script.windows.items (own_window script k)))

pub same_count : {D : Type 0} (earliest latest : ℕ) (shows : D → Shown) (script : Script) (mode : Mode) (w : ℕ) (rosters : List RoomRoster) (homes : List (HomeState D)) (windows : Windows) → script_split script w ≡ Ok (map plain_room rosters)
    → RoomsAreUnderWay earliest latest shows script mode homes windows → length rosters ≡ length homes
same_count earliest latest shows script mode w rosters homes windows split day = rosters_count script w rosters split ∙ sym day.homed

-- what came of the rooms' windows
pub rooms_went : {D : Type 0} (shows : D → Shown) (earliest latest : ℕ) (script : Script) (mode : Mode) (w rounds : ℕ) (rosters : List RoomRoster) (before after : List (HomeState D)) (hubs : List (RoomHub D)) (done : List (RoomDone D)) (windows : List RoomWindow)
    → script_split script w ≡ Ok (map plain_room rosters) → AreOpened shows mode rounds rosters before hubs
    → AreRoomsWorked shows earliest latest hubs done
    → AreTakenApart shows done after windows
    → RoomsWent shows earliest latest script mode w rounds before after windows
rooms_went {D = D} shows earliest latest script mode w rounds rosters before after hubs done windows split opened worked apart = record {
  split = split ∙ ap (λ rs. Ok (map plain_room rs)) (sym opened.rosters_are) ∙ ap (λ l. Ok l) (sym same_rosters);
  homed = let n = ap (λ l. length l) apart.homes_are in let m = length-map done (λ (room : RoomDone D). room.home) in omega (arith, n, m, worked.count, opened.count);
  count = let n = ap (λ l. length l) apart.windows_are in let m = length-map done (λ (room : RoomDone D). room.window) in omega (arith, n, m, worked.count, opened.count);
  each = λ k x y window x_at y_at window_at. each k x y window x_at y_at window_at;
}
  where
    rosters_done : map (λ (room : RoomDone D). room.window.roster) done ≡ map (λ (room : RoomHub D). room.roster) hubs
    rosters_done = maps_agree (λ (room : RoomDone D). room.window.roster) (λ (room : RoomHub D). room.roster) done hubs worked.count (λ k d h d_at h_at. (worked.each k h d h_at d_at).roster)

    same_rosters : map (λ (x : RoomWindow). plain_room x.roster) windows ≡ map plain_room (map (λ (room : RoomHub D). room.roster) hubs)
    same_rosters = ap (map (λ (x : RoomWindow). plain_room x.roster)) apart.windows_are
        ∙ map_twice (λ (x : RoomWindow). plain_room x.roster) (λ (room : RoomDone D). room.window) done
        ∙ sym (map_twice plain_room (λ (room : RoomDone D). room.window.roster) done)
        ∙ ap (map plain_room) rosters_done

    each : (k : ℕ) (x y : HomeState D) (window : RoomWindow) → slice_get before k ≡ Some x → slice_get after k ≡ Some y → slice_get windows k ≡ Some window → RoomWent shows earliest latest mode rounds x y window
    each k x y window x_at y_at window_at = by (at_place done k within) (at_place hubs k (omega (arith, within, worked.count)))
      where
        within : k < length done
        within = let n = slice_get_within windows k window window_at in let m = ap (λ l. length l) apart.windows_are in omega (arith, n, m, length-map done (λ (room : RoomDone D). room.window))

        by : (room : RoomDone D) × (slice_get done k ≡ Some room) → (hub : RoomHub D) × (slice_get hubs k ≡ Some hub) → RoomWent shows earliest latest mode rounds x y window
        by (room, room_at) (hub, hub_at) =
            let is = worked.each k hub room hub_at room_at in
            let home : Some room.home ≡ Some y = sym (ap (λ l. slice_get l k) apart.homes_are ∙ slice_get-map (λ (r : RoomDone D). r.home) done k ∙ ap (option_map (λ (r : RoomDone D). r.home)) room_at) ∙ y_at in
            let win : Some room.window ≡ Some window = sym (ap (λ l. slice_get l k) apart.windows_are ∙ slice_get-map (λ (r : RoomDone D). r.window) done k ∙ ap (option_map (λ (r : RoomDone D). r.window)) room_at) ∙ window_at in
            let home_is : room.home ≡ y = cc in
            let win_is : room.window ≡ window = cc in
            let P : HomeState D × RoomWindow → Type 0 = λ q. RoomWent shows earliest latest mode rounds x q.0 q.1 in
            subst P (λ i. (home_is i, win_is i)) (record {
              hub = hub.hub;
              opened = subst (λ (r : RoomRoster). IsOpened shows (setting_for x r.roster mode) rounds x hub.hub) (sym is.roster) (opened.each k x hub x_at hub_at);
              worked = is.worked;
              kept = subst (λ h. HomeIsKept shows h) (sym home_is) (apart.kept k y y_at);
            })

-- the windows of a room with one more
records_more : (k : ℕ) (windows : Windows) (ws : Listed RoomWindow) (window : RoomWindow) → slice_get ws.items k ≡ Some window → records_of k (windows ++ ws ∷ []) ≡ records_of k windows ++ window.closed ∷ []
records_more k windows ws window at =
    filter_map-append (λ (xs : Listed RoomWindow). option_map (λ w. w.closed) (slice_get xs.items k)) windows (ws ∷ [])
    ∙ ap (λ (o : Option RoomWindow). records_of k windows ++ cons_option (option_map (λ w. w.closed) o) []) at

-- the day with one window more of every room
pub rooms_gone_on : {D : Type 0} (earliest latest : ℕ) (shows : D → Shown) (script : Script) (mode : Mode) (w : ℕ) (window : WindowText) (before after : List (HomeState D)) (windows : Windows) (ws : Listed RoomWindow)
    → slice_get script.windows.items w ≡ Some window → length windows ≡ w → RoomsAreUnderWay earliest latest shows script mode before windows
    → RoomsWent shows earliest latest script mode w window.probes before after ws.items
    → RoomsAreUnderWay earliest latest shows script mode after (windows ++ ws ∷ [])
rooms_gone_on {D = D} earliest latest shows script mode w window before after windows ws at count day went = record {
  count = let within = slice_get_within script.windows.items w window at in omega (arith, within, count, length-append windows (ws ∷ []));
  homed = went.homed ∙ day.homed;
  split = λ v xs xs_at. elim (snoc_get windows ws xs v xs_at) [
    | inl old ↦ day.split v xs old
    | inr new ↦ (let P : ℕ × Listed RoomWindow → Type 0 = λ q. script_split script q.0 ≡ Ok (map (λ (x : RoomWindow). plain_room x.roster) q.1.items) in
        subst P (λ i. ((sym count ∙ sym new.0) i, new.1 i)) went.split)
  ];
  each = λ k y y_at.
      let within = slice_get_within after k y y_at in
      each k y y_at (at_place before k (let n = went.homed in omega (arith, within, n))) (at_place ws.items k (let n = went.homed in let m = went.count in omega (arith, within, n, m)));
}
  where
    rooms_there : (k : ℕ) → k < room_count script → HaveRoom k windows
    rooms_there k inside v xs xs_at = let n = windows_count v xs xs_at in omega (arith, inside, n)
      where
        windows_count : (v : ℕ) (xs : Listed RoomWindow) → slice_get windows v ≡ Some xs → length xs.items ≡ room_count script
        windows_count v xs at =
            let all = ap (λ l. length l) (split_is (rooms_of script) (script_runs script v) (map (λ (x : RoomWindow). plain_room x.roster) xs.items) (day.split v xs at)).1 in
            let room : ℕ → Room = room_at (rooms_of script).room_of (script_runs script v) in
            omega (arith, all, length-map xs.items (λ (x : RoomWindow). plain_room x.roster), length-map (range_with_len 0 (room_count script)) room, length-range_with_len 0 (room_count script))

    each : (k : ℕ) (y : HomeState D) → slice_get after k ≡ Some y → (x : HomeState D) × (slice_get before k ≡ Some x) → (win : RoomWindow) × (slice_get ws.items k ≡ Some win)
        → DayIsUnderWay (IsRunWithin earliest latest) shows (own_script script k) mode y (records_of k (windows ++ ws ∷ []))
    each k y y_at (x, x_at) (win, win_at) =
        let is = day.each k x x_at in
        let room = went.each k x y win x_at y_at win_at in
        let place = at_window in
        let own_at : slice_get (own_script script k).windows.items (length (records_of k windows)) ≡ Some (own_window script k window) =
        ap (slice_get (own_script script k).windows.items) (number ∙ count) ∙ slice_get-map (own_window script k) script.windows.items w ∙ ap (option_map (own_window script k)) at in
        let opened : IsOpened shows (setting_on (own_script script k) mode (length (records_of k windows)) x) window.probes x room.hub =
        subst (λ runs. IsOpened shows (record { runs = runs; mode = mode; kinds = x.kinds; first = x.world }) window.probes x room.hub)
        (ap (λ (r : Room). r.own_runs) place ∙ sym (own_runs_are script k w) ∙ ap (script_runs (own_script script k)) (sym (number ∙ count))) room.opened in
        let fresh = fresh_where shows (setting_on (own_script script k) mode (length (records_of k windows)) x) window.probes x room.hub opened in
        let played : IsPlayed (IsRunWithin earliest latest) shows (own_script script k) mode (length (records_of k windows)) x y win.closed = record {
          hub = room.hub;
          window = own_window script k window;
          opens = record { fresh = fresh; rounds = room.opened.rounds_are; at = own_at; opened = opened; numbered = numbered is };
          worked = run_as shows earliest latest room.hub (own_window script k window) y win.closed room.opened.rounds_are room.worked;
        } in
        let gone = gone_on (IsRunWithin earliest latest) shows (new_course (own_script script k)) mode x y (records_of k windows) (records_of k windows ++ win.closed ∷ []) win.closed is room.kept played refl in
        subst (λ rs. DayIsUnderWay (IsRunWithin earliest latest) shows (own_script script k) mode y rs) (sym (records_more k windows ws win win_at)) gone.under_way
      where
        inside : k < room_count script
        inside = let within = slice_get_within before k x x_at in let n = day.homed in omega (arith, within, n)

        number : length (records_of k windows) ≡ length windows
        number = records_count k windows (rooms_there k inside)

        at_window : plain_room win.roster ≡ room_at (rooms_of script).room_of (script_runs script w) k
        at_window = (at_roster script w (map (λ (z : RoomWindow). z.roster) ws.items) (went.split ∙ ap (λ l. Ok l) (sym (map_twice plain_room (λ (z : RoomWindow). z.roster) ws.items))) k win.roster
            (slice_get-map (λ (z : RoomWindow). z.roster) ws.items k ∙ ap (option_map (λ (z : RoomWindow). z.roster)) win_at)).1

        numbered : DayIsUnderWay (IsRunWithin earliest latest) shows (own_script script k) mode x (records_of k windows) → AreNumbered shows x.devices
        numbered is d device device_at =
            let within = slice_get_within x.devices d device device_at in
            let text = at_place (own_script script k).devices.items d (let size = is.left.size in omega (arith, within, size)) in
            (is.left.own d device text.0 device_at text.1).tag_is

-- hubs that were opened are ready to be worked
pub all_ready : {D : Type 0} (shows : D → Shown) (mode : Mode) (rounds : ℕ) (rosters : List RoomRoster) (homes : List (HomeState D)) (hubs : List (RoomHub D)) → AreOpened shows mode rounds rosters homes hubs → All (IsReady rounds) hubs
all_ready {D = D} shows mode rounds rosters homes hubs are k d within = by (at_place homes k (let n = are.count in omega (arith, within, n)))
  where
    room : RoomHub D
    room = get_or hubs k d

    by : (home : HomeState D) × (slice_get homes k ≡ Some home) → IsReady rounds room
    by (home, at) =
        let opened = are.each k home room at (slice_get-get_or hubs k d within) in
        let fresh = fresh_where shows (setting_for home room.roster.roster mode) rounds home room.hub opened in
        record {
          runs = ap (λ c. c.setting.runs) opened.configuration;
          fresh = fresh;
          rounds = rounds_at room.hub rounds fresh opened.rounds_are;
        }
