-- What a day of rooms is, from the homes of the rooms.
use Rattle.hub_commands.proofs.Prelude.{All, AreAllPlaced, AreNewHomes, HasDevicesOf, HomeState, IsRunWithin, IsSound, List, Listed, Mode, RecordsAreLegal, RoomWindow, RoomsAreLeft, RoomsArePlayed, RoomsAreUnderWay, Script, Shown, Some, Windows, [], arith, at_place, devices_in, false, get_or, is_weak, length, length-map, new_course, own_script, plain_script, records_of, room_count, rooms_of, rooms_size, slice_get, slice_get-get_or, ℕ, ◌<◌, ◌∙◌, ◌≡◌}
use Rattle.hub_commands.proofs.DaysUnderWay.{no_window, starts}
use Rattle.hub_commands.proofs.RoomOrders.{each_order_agrees, own_windows}
use Rattle.room_hubs.specs.Merges.{HasOwnOrder, room_order}

module _ {D : Type 0} (earliest latest : ℕ) (shows : D → Shown) (script : Script) (sound : IsSound (plain_script script)) (mode : Mode) (strong : is_weak mode ≡ false) (homes : List (HomeState D)) (windows : Windows)
    (day : RoomsAreUnderWay earliest latest shows script mode homes windows) where
  -- the home of a room
  home_there : (k : ℕ) → k < room_count script → (home : HomeState D) × (slice_get homes k ≡ Some home)
  home_there k within = at_place homes k (let n = day.homed in omega (arith, within, n))

  legal : (k : ℕ) → k < room_count script → RecordsAreLegal (own_script script k) mode (records_of k windows)
  legal k within = let home = home_there k within in (day.each k home.0 home.1).played.legal

  pub rooms_played : RoomsArePlayed earliest latest script mode windows
  rooms_played = record {
    count = day.count;
    split = day.split;
    rooms = λ k within. let home = home_there k within in let is = day.each k home.0 home.1 in record { takes = is.takes; played = is.played };
    orders = each_order_agrees script sound mode strong windows day.split legal;
  }

  pub rooms_left : (devices : List D) → length devices ≡ length (rooms_of script).room_of → AreAllPlaced (rooms_of script).room_of homes devices → RoomsAreLeft earliest latest shows script mode windows devices
  rooms_left devices size placed = record {
    played = rooms_played;
    size = size ∙ rooms_size script;
    rooms = λ k within. let home = home_there k within in let is = day.each k home.0 home.1 in record {
      takes = is.takes;
      played = is.played;
      own = home.0.devices;
      left = is.left;
      probed = is.probed;
      placed = λ a device at. placed k home.0 a device home.1 at;
    };
  }

  -- each room's windows name their own runs and devices
  pub own_orders : All (λ (ws : Listed RoomWindow). All (λ window. HasOwnOrder (room_order window)) ws.items) windows
  own_orders k d within = own_windows script sound mode strong windows day.split legal k _ (there k d within)
    where
      there : (k : ℕ) (d : Listed RoomWindow) → k < length windows → slice_get windows k ≡ Some (get_or windows k d)
      there k d within = slice_get-get_or windows k d within

  pub has_devices : HasDevicesOf (rooms_of script).room_of homes
  has_devices k home at = (day.each k home at).left.size ∙ length-map (devices_in (rooms_of script).room_of k) _

-- the day before its first window
pub rooms_begun : {D : Type 0} (earliest latest : ℕ) (shows : D → Shown) (script : Script) (mode : Mode) (homes : List (HomeState D)) → AreNewHomes shows script homes → RoomsAreUnderWay earliest latest shows script mode homes []
rooms_begun {D = D} earliest latest shows script mode homes are = record {
  count = omega arith;
  homed = are.count;
  split = λ w ws at. absurd (cc);
  each = λ k home at. let new = are.each k home at in
      starts (IsRunWithin earliest latest) shows (own_script script k) mode home new.devices new.kinds new.world new.opened;
}

-- no window of it is worked
pub none_played : (earliest latest : ℕ) (script : Script) (mode : Mode) → RoomsArePlayed earliest latest script mode []
none_played earliest latest script mode = record {
  count = omega arith;
  split = λ w ws at. absurd (cc);
  rooms = λ k within. record { takes = []; played = no_window (IsRunWithin earliest latest) (new_course (own_script script k)) mode };
  orders = record { joined = λ w ws at. absurd (cc); merged = λ w ws at merge own. absurd (cc) };
}
