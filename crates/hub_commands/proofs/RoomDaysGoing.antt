-- A day of rooms that begins, goes on and ends, as its calls see it.
use Rattle.hub_commands.proofs.Prelude.{All, AreAllPlaced, AreTold, ChunkFault, Err, HasDevicesOf, HasRoomFor, HomeState, IfOk, IsFirstDay, IsRoomDay, IsRoomed, IsSound, IsWrittenSoFar, List, Listed, Mode, None, Ok, Option, Result, RoomGoesOn, RoomNextIs, RoomStopEnds, RoomWindow, RoomsAreLeft, RoomsAreUnderWay, Script, Shown, Some, TellsLines, WindowRecord, WindowText, Windows, [], ap, arith, at_place, false, head_text, is_weak, length, length-map, lines_from, map, plain_device, plain_rooms, plain_script, room_count, rooms_of, rooms_size, slice_get, subst, suc, sym, told_records, total_text, window_text, written, ℕ, ◌++◌, ◌+◌, ◌<◌, ◌∙◌, ◌∷◌, ◌≡◌, ◌≤◌}
use Rattle.home_types.specs.Limits.{most_devices}
use Rattle.hub_commands.proofs.RoomDaysLeft.{has_devices, none_played, own_orders, rooms_begun, rooms_left, rooms_played}
use Rattle.hub_commands.proofs.RoomsUnderWay.{rooms_gone_on}
use Rattle.hub_commands.proofs.RoomTexts.{lines_are, room_begun, room_finished, room_goes_on, room_head_stopped, room_lines_stopped, room_starved, room_total_stopped, rooms_unbuilt, told_more}
use Rattle.hub_commands.proofs.RoomedDevices.{are_roomed}
use Rattle.hub_commands.proofs.Snocs.{length_more}
use Rattle.hub_commands.specs.Chunks.{ChunkEnds}
use Rattle.hub_commands.specs.RoomCalls.{RoomDayEnds}
use Rattle.hub_commands.specs.RoomPlays.{RoomsWent}
use Rattle.hub_commands.specs.Statuses.{status_for_fault}
use Rattle.hub_commands.specs.declared.faults.Fault.TheVariants.{Memory as WantsMemory}
use Rattle.hub_commands.specs.declared.room_days.RoomDay.{RoomDay}
use Rattle.hub_commands.specs.declared.room_finishes.RoomFinish.{RoomFinish}
use Rattle.room_hubs.specs.Merges.{HasOwnOrder, room_order}
use Rattle.room_hubs.specs.declared.rosters.Rooms.{Rooms}
use Rattle.room_hubs.specs.ToldWindows.{told_record}

module _ {D : Type 0} (earliest latest : ℕ) (shows : D → Shown) (script : Script) (sound : IsSound (plain_script script)) (mode : Mode) (strong : is_weak mode ≡ false) (rooms : Rooms) (are : plain_rooms rooms ≡ rooms_of script) where
  same_rooms : rooms.room_of.items ≡ (rooms_of script).room_of
  same_rooms = ap (λ r. r.room_of) are

  -- the rooms of the homes, however many there are
  homes_roomed : (homes : List (HomeState D)) → length homes ≡ room_count script → IsRoomed rooms.room_of.items (length homes)
  homes_roomed homes count =
      let P : List ℕ × ℕ → Type 0 = λ q. IsRoomed q.0 q.1 in
      subst P (λ i. (sym same_rooms i, sym count i)) (are_roomed script)

  module _ (day : RoomDay D) (before : Windows) (is : IsRoomDay earliest latest shows script mode before day) where
    pub day_roomed : IsRoomed rooms.room_of.items (length day.homes.items)
    day_roomed = homes_roomed day.homes.items is.under_way.homed

    pub day_devices : HasDevicesOf rooms.room_of.items day.homes.items
    day_devices = subst (λ l. HasDevicesOf l day.homes.items) (sym same_rooms) (has_devices earliest latest shows script sound mode strong day.homes.items day.windows.items is.under_way)

    -- the devices that are handed back, in the order of the script
    pub day_left : (devices : List D) → length devices ≡ length rooms.room_of.items → AreAllPlaced rooms.room_of.items day.homes.items devices → RoomsAreLeft earliest latest shows script mode day.windows.items devices
    day_left devices size placed = rooms_left earliest latest shows script sound mode strong day.homes.items day.windows.items is.under_way devices
        (size ∙ ap (λ l. length l) same_rooms) (subst (λ l. AreAllPlaced l day.homes.items devices) same_rooms placed)

    left_of : (devices : List D) → length devices ≡ length (rooms_of script).room_of → AreAllPlaced (rooms_of script).room_of day.homes.items devices → RoomsAreLeft earliest latest shows script mode day.windows.items devices
    left_of = rooms_left earliest latest shows script sound mode strong day.homes.items day.windows.items is.under_way

    -- each room's windows name their own runs and devices
    pub day_own : All (λ (ws : Listed RoomWindow). All (λ window. HasOwnOrder (room_order window)) ws.items) day.windows.items
    day_own = own_orders earliest latest shows script sound mode strong day.homes.items day.windows.items is.under_way

    -- the total is not written
    pub end_stopped : {M : Type 0} (held mid holds : Option (List ℕ)) (f f_mid f_after : ℕ) (chunk : Result (List ℕ) M) (fault : ChunkFault) (finish : RoomFinish D) → before ≡ day.windows.items
        → IsWrittenSoFar script mode (written held mid f f_mid) day.windows.items → length day.windows.items ≡ length script.windows.items
        → IfOk chunk (λ b. b ≡ total_text day.told.items) → ChunkEnds (written mid holds f_mid f_after) chunk (Err fault)
        → finish.windows ≡ day.windows → RoomStopEnds rooms.room_of.items day.homes.items fault finish.devices finish.fault
        → RoomDayEnds earliest latest shows script mode (written held holds f f_after) finish.windows.items finish.devices finish.fault
    end_stopped held mid holds f f_mid f_after chunk fault finish all_told so_far all ok ended windows stop =
        subst (λ (ws : Listed (Listed RoomWindow)). RoomDayEnds earliest latest shows script mode (written held holds f f_after) ws.items finish.devices finish.fault) (sym windows)
        (room_total_stopped script mode earliest latest shows held mid holds f f_mid f_after day.homes.items day.windows.items day.told.items chunk fault finish.devices finish.fault
        (rooms_played earliest latest shows script sound mode strong day.homes.items day.windows.items is.under_way) left_of so_far all (subst (λ ws. AreTold script mode ws day.told.items) all_told is.told_are) ok ended
        (subst (λ l. RoomStopEnds l day.homes.items fault finish.devices finish.fault) same_rooms stop))

    -- all is written
    pub end_finished : {M : Type 0} (held mid holds : Option (List ℕ)) (f f_mid f_after : ℕ) (chunk : Result (List ℕ) M) (devices : Listed D) → before ≡ day.windows.items
        → IsWrittenSoFar script mode (written held mid f f_mid) day.windows.items → length day.windows.items ≡ length script.windows.items
        → IfOk chunk (λ b. b ≡ total_text day.told.items) → ChunkEnds (written mid holds f_mid f_after) chunk (Ok tt)
        → length devices.items ≡ length rooms.room_of.items → AreAllPlaced rooms.room_of.items day.homes.items devices.items
        → RoomDayEnds earliest latest shows script mode (written held holds f f_after) day.windows.items (Some devices) None
    end_finished held mid holds f f_mid f_after chunk devices all_told so_far all ok ended size placed =
        room_finished script mode earliest latest shows held mid holds f f_mid f_after day.windows.items devices day.told.items chunk (day_left devices.items size placed) so_far all
        (subst (λ ws. AreTold script mode ws day.told.items) all_told is.told_are) ok ended

  -- ---- the beginning

  pub first_is_day : (day : RoomDay D) → IsFirstDay shows script day → IsRoomDay earliest latest shows script mode day.windows.items day
  first_is_day day first = record {
    under_way = subst (λ ws. RoomsAreUnderWay earliest latest shows script mode day.homes.items ws) (sym first.no_windows) (rooms_begun earliest latest shows script mode day.homes.items first.homes);
    told_are = ap (map lines_from) first.none_told ∙ sym (ap (λ ws. map lines_from (told_records script mode ws)) first.no_windows);
    room = subst (λ n. HasRoomFor n (length (rooms_of script).room_of) day.room) (sym first.homes.count) first.room;
    windows_room = first.windows_room;
  }

  -- no memory for the homes
  pub begin_unbuilt : (held : Option (List ℕ)) (f : ℕ) (finish : RoomFinish D) → finish.status ≡ status_for_fault finish.fault → finish.windows.items ≡ [] → finish.devices ≡ None → finish.fault ≡ Some WantsMemory
      → RoomGoesOn earliest latest shows script mode (written held held f f) 0 (Err finish)
  begin_unbuilt held f finish status windows devices fault = (
    status,
    subst (λ ws. RoomDayEnds earliest latest shows script mode (written held held f f) ws finish.devices finish.fault) (sym windows)
        (rooms_unbuilt script mode earliest latest shows held f finish.devices finish.fault (none_played earliest latest script mode) devices fault),
  )

  pub begin_written : {M : Type 0} (held holds : Option (List ℕ)) (f f_after : ℕ) (chunk : Result (List ℕ) M) (day : RoomDay D) → IsFirstDay shows script day
      → IfOk chunk (λ b. b ≡ head_text mode) → ChunkEnds (written held holds f f_after) chunk (Ok tt) → RoomGoesOn earliest latest shows script mode (written held holds f f_after) 0 (Ok day)
  begin_written held holds f f_after chunk day first ok ended = (
    ap (λ ws. length ws) first.no_windows,
    first_is_day day first,
    subst (λ ws. IsWrittenSoFar script mode (written held holds f f_after) ws) (sym first.no_windows) (room_begun script mode held holds f f_after chunk ok ended),
  )

  pub begin_stopped : {M : Type 0} (held holds : Option (List ℕ)) (f f_after : ℕ) (chunk : Result (List ℕ) M) (fault : ChunkFault) (day : RoomDay D) (finish : RoomFinish D) → IsFirstDay shows script day
      → IfOk chunk (λ b. b ≡ head_text mode) → ChunkEnds (written held holds f f_after) chunk (Err fault)
      → finish.status ≡ status_for_fault finish.fault → finish.windows ≡ day.windows → RoomStopEnds rooms.room_of.items day.homes.items fault finish.devices finish.fault
      → RoomGoesOn earliest latest shows script mode (written held holds f f_after) 0 (Err finish)
  begin_stopped held holds f f_after chunk fault day finish first ok ended status windows stop = (
    status,
    subst (λ ws. RoomDayEnds earliest latest shows script mode (written held holds f f_after) ws finish.devices finish.fault) (sym (ap (λ (l : Listed (Listed RoomWindow)). l.items) windows ∙ first.no_windows))
        (room_head_stopped script mode earliest latest shows held holds f f_after day.homes.items chunk fault finish.devices finish.fault (none_played earliest latest script mode)
        (rooms_left earliest latest shows script sound mode strong day.homes.items [] (rooms_begun earliest latest shows script mode day.homes.items first.homes)) ok ended
        (subst (λ l. RoomStopEnds l day.homes.items fault finish.devices finish.fault) same_rooms stop)),
  )

  -- ---- one window more

  -- it was worked in every room
  pub next_day : (day : RoomDay D) (number : ℕ) (homes : Listed (HomeState D)) (closed : Listed RoomWindow) (more : Listed (Listed RoomWindow))
      → IsRoomDay earliest latest shows script mode day.windows.items day → number ≡ length day.windows.items → length day.windows.items < length script.windows.items
      → ((window : WindowText) → slice_get script.windows.items number ≡ Some window → RoomsWent shows earliest latest script mode number window.probes day.homes.items homes.items closed.items)
      → more.items ≡ day.windows.items ++ closed ∷ [] → (0 < day.windows.spare → more.spare + 1 ≡ day.windows.spare)
      → RoomNextIs earliest latest shows script mode day.windows.items (Ok (record { homes = homes; windows = more; told = day.told; room = day.room }))
  next_day day number homes closed more is count next went more_is used = by (at_place script.windows.items number (omega (arith, count, next)))
    where
      by : (window : WindowText) × (slice_get script.windows.items number ≡ Some window) → RoomNextIs earliest latest shows script mode day.windows.items (Ok (record { homes = homes; windows = more; told = day.told; room = day.room }))
      by (window, at) = (
        closed,
        more_is,
        record {
          under_way = subst (λ ws. RoomsAreUnderWay earliest latest shows script mode homes.items ws) (sym more_is)
              (rooms_gone_on earliest latest shows script mode number window day.homes.items homes.items day.windows.items closed at (sym count) is.under_way (went window at));
          told_are = is.told_are;
          room = subst (λ n. HasRoomFor n (length (rooms_of script).room_of) day.room) (sym (went window at).homed) is.room;
          windows_room = let n = ap (λ ws. length ws) more_is in let room = is.windows_room in let less = used (omega (arith, room, next)) in
              omega (arith, n, room, next, less, length_more day.windows.items closed);
        },
      )

  -- no memory for it
  pub next_starved : (held holds : Option (List ℕ)) (f f_after : ℕ) (before : Windows) (windows : Listed (Listed RoomWindow)) (finish : RoomFinish D)
      → IsWrittenSoFar script mode (written held holds f f_after) before → RoomNextIs earliest latest shows script mode before (Err windows)
      → finish.status ≡ status_for_fault finish.fault → finish.windows ≡ windows → finish.devices ≡ None → finish.fault ≡ Some WantsMemory
      → RoomGoesOn earliest latest shows script mode (written held holds f f_after) (suc (length before)) (Err finish)
  next_starved held holds f f_after before windows finish so_far missed status same devices fault = (
    status,
    subst (λ ws. RoomDayEnds earliest latest shows script mode (written held holds f f_after) ws finish.devices finish.fault) (sym (ap (λ (l : Listed (Listed RoomWindow)). l.items) same ∙ missed.0))
        (room_starved script mode earliest latest shows held holds f f_after before finish.devices finish.fault missed.1 so_far devices fault),
  )

  module _ (day : RoomDay D) (before : Windows) (next : RoomNextIs earliest latest shows script mode before (Ok day)) where
    pub few_devices : length rooms.room_of.items ≤ most_devices
    few_devices = let n = ap (λ l. length l) same_rooms in omega (arith, n, sound.few_devices, rooms_size script, length-map script.devices.items plain_device)

    module _ {M : Type 0} (held mid holds : Option (List ℕ)) (f f_mid f_after : ℕ) (told : Listed WindowRecord) (chunk : Result (List ℕ) M)
        (tells : (start : Windows) (ws : Listed RoomWindow) → day.windows.items ≡ start ++ ws ∷ [] → IfOk chunk (TellsLines script rooms.room_of.items mode ws.items day.told.items told.items))
        (so_far : IsWrittenSoFar script mode (written held mid f f_mid) before) where
      told_lines : (bytes : List ℕ) → chunk ≡ Ok bytes → TellsLines script (rooms_of script).room_of mode next.0.items day.told.items told.items bytes
      told_lines bytes is =
          subst (λ l. TellsLines script l mode next.0.items day.told.items told.items bytes) same_rooms
          (subst (λ (p : Result (List ℕ) M). IfOk p (TellsLines script rooms.room_of.items mode next.0.items day.told.items told.items)) is (tells before next.0 next.1))

      lines : (bytes : List ℕ) → chunk ≡ Ok bytes → bytes ≡ window_text script (length before) (told_record (rooms_of script).room_of mode next.0.items) mode false
      lines bytes is = let t = told_lines bytes is in
          lines_are script mode before next.0 day.told.items t.last chunk bytes next.2.told_are t.tells
          (subst (λ (p : Result (List ℕ) M). IfOk p (λ l. l ≡ window_text script (length day.told.items) t.last mode false)) (sym is) t.lines_are) is

      pub next_written : ChunkEnds (written mid holds f_mid f_after) chunk (Ok tt)
          → RoomGoesOn earliest latest shows script mode (written held holds f f_after) (suc (length before)) (Ok (record { homes = day.homes; windows = day.windows; told = told; room = day.room }))
      next_written ended =
          let t = told_lines ended.0 ended.1 in (
            ap (λ ws. length ws) next.1 ∙ length_more before next.0,
            record {
              under_way = next.2.under_way;
              told_are = subst (λ ts. AreTold script mode day.windows.items ts) (sym t.more_is) (subst (λ ws. AreTold script mode ws (day.told.items ++ t.last ∷ [])) (sym next.1)
                  (told_more script mode before next.0 day.told.items t.last next.2.told_are t.tells));
              room = next.2.room;
              windows_room = next.2.windows_room;
            },
            subst (λ ws. IsWrittenSoFar script mode (written held holds f f_after) ws) (sym next.1) (room_goes_on script mode held mid holds f f_mid f_after before next.0 chunk so_far lines ended),
          )

      pub next_stopped : (fault : ChunkFault) (finish : RoomFinish D) → ChunkEnds (written mid holds f_mid f_after) chunk (Err fault)
          → finish.status ≡ status_for_fault finish.fault → finish.windows ≡ day.windows → RoomStopEnds rooms.room_of.items day.homes.items fault finish.devices finish.fault
          → RoomGoesOn earliest latest shows script mode (written held holds f f_after) (suc (length before)) (Err finish)
      next_stopped fault finish ended status windows stop =
          let under_way = subst (λ ws. RoomsAreUnderWay earliest latest shows script mode day.homes.items ws) next.1 next.2.under_way in (
            status,
            subst (λ ws. RoomDayEnds earliest latest shows script mode (written held holds f f_after) ws finish.devices finish.fault) (sym (ap (λ (l : Listed (Listed RoomWindow)). l.items) windows ∙ next.1))
                (room_lines_stopped script mode earliest latest shows held mid holds f f_mid f_after day.homes.items before next.0 chunk fault finish.devices finish.fault
                (rooms_played earliest latest shows script sound mode strong day.homes.items (before ++ next.0 ∷ []) under_way)
                (rooms_left earliest latest shows script sound mode strong day.homes.items (before ++ next.0 ∷ []) under_way)
                so_far lines ended (subst (λ l. RoomStopEnds l day.homes.items fault finish.devices finish.fault) same_rooms stop)),
          )
