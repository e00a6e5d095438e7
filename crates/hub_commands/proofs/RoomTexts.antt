-- The text of a day of rooms, chunk after chunk, and how the day ends where a chunk is not written.
use Rattle.hub_commands.proofs.Prelude.{AppendsFirst, AreAllPlaced, AreTold, Bool, ChunkFault, Err, Fault, HomeState, IfOk, IsWrittenAsClosed, IsWrittenSoFar, Lines, List, Listed, Mode, None, Ok, Option, Options, Result, RoomStopEnds, RoomWindow, RoomsAreLeft, RoomsArePlayed, Script, Shown, Some, WindowRecord, Windows, [], abort_count, ap, append-nil, append_assoc, arith, commit_count, count_by, counts_line, false, head_text, if◌then◌else◌, is_abort, is_commit, length, length-map, lines_from, map, map-append, new_course, plain, refl, rooms_of, slice_get, subst, sum_by, sym, take, text_due, text_so_far, told_records, total_text, window_lines, window_text, written, ℕ, ◌++◌, ◌+◌, ◌==◌, ◌∙◌, ◌∷◌, ◌≡◌}
use Rattle.day_clock.specs.Sinks.{AppendsPart}
use Rattle.day_report.specs.Lines.{home_line, order_line, run_lines, window_line}
use Rattle.history_book.specs.declared.entries.Entry.{Entry}
use Rattle.history_book.specs.declared.entries.Kept.{Kept}
use Rattle.hub_commands.proofs.PlayedDays.{LeadWith, all_lead, keeps_same, lead_whole, lead_written, none_leads, rest_lead, said}
use Rattle.hub_commands.proofs.Texts.{appends_keeps, appends_more, due_whole, keeps_appends, part_more, part_wider, text_more, text_starts, text_whole, whole_first}
use Rattle.hub_commands.specs.Chunks.{ChunkEnds}
use Rattle.hub_commands.specs.RoomCalls.{RoomDayEnds, RoomDayIsCut, RoomDayIsStarved, RoomDayIsWhole, RoomsAreWrittenAsClosed}
use Rattle.hub_commands.specs.declared.faults.Fault.TheVariants.{Memory as WantsMemory}
use Rattle.hub_commands.specs.declared.chunks.ChunkFault.TheVariants.{Memory, Sink}
use Rattle.room_hubs.specs.ToldWindows.{IsToldOfRooms, told_record}
use Rattle.std.proofs.lemmas.List.Sums.{sum_by-cons}
use Rattle.std.specs.Io.KnownBytes.{Appends}
use Rattle.std.specs.Option.{option_map_or}

abbrev pub untraced : Mode → Options
untraced mode = record { mode = mode; trace = false }

-- ---- records of which the same lines are made

-- the lines of a window, without a trace, are made from these parts of its record
text_from : Script → ℕ → Mode → Lines → List ℕ
text_from script k mode l = option_map_or
    (λ window. window_line k window.at ++ [] ++ run_lines script window l.history ++ order_line script mode.model l.order ++ home_line script.devices.items l.last)
    (slice_get script.windows.items k) []

text_of_lines : (script : Script) (k : ℕ) (mode : Mode) (told : WindowRecord) → window_text script k told mode false ≡ text_from script k mode (lines_from told)
unfolding window_text window_lines text_from
text_of_lines script k mode told = refl

same_text : (script : Script) (k : ℕ) (mode : Mode) (a b : WindowRecord) → lines_from a ≡ lines_from b → window_text script k a mode false ≡ window_text script k b mode false
same_text script k mode a b same = text_of_lines script k mode a ∙ ap (text_from script k mode) same ∙ sym (text_of_lines script k mode b)

counted : (test : Entry → Bool) → List Lines → ℕ
counted test [] = 0
counted test (l ∷ ls) = count_by (λ (kept : Kept). test kept.entry) l.history + counted test ls

count_of_lines : (test : Entry → Bool) (told : List WindowRecord) → sum_by (λ closed. count_by (λ kept. test kept.entry) closed.history.items) told ≡ counted test (map lines_from told)
unfolding counted
count_of_lines test [] = refl
count_of_lines test (x ∷ xs) = sum_by-cons (λ (closed : WindowRecord). count_by (λ kept. test kept.entry) closed.history.items) x xs ∙ ap (λ n. count_by (λ kept. test kept.entry) x.history.items + n) (count_of_lines test xs)

same_commits : (a b : List WindowRecord) → map lines_from a ≡ map lines_from b → commit_count a ≡ commit_count b
unfolding commit_count
same_commits a b same = count_of_lines is_commit a ∙ ap (counted is_commit) same ∙ sym (count_of_lines is_commit b)

same_aborts : (a b : List WindowRecord) → map lines_from a ≡ map lines_from b → abort_count a ≡ abort_count b
unfolding abort_count
same_aborts a b same = count_of_lines is_abort a ∙ ap (counted is_abort) same ∙ sym (count_of_lines is_abort b)

same_total : (a b : List WindowRecord) → map lines_from a ≡ map lines_from b → total_text a ≡ total_text b
unfolding total_text
same_total a b same =
    let size : length a ≡ length b = sym (length-map a lines_from) ∙ ap (λ l. length l) same ∙ length-map b lines_from in
    λ i. counts_line (size i) (same_commits a b same i) (same_aborts a b same i)

-- ---- what was told of a window

told_one : (script : Script) (mode : Mode) (ws : Listed RoomWindow) (last : WindowRecord) → IsToldOfRooms (rooms_of script).room_of ws.items last → lines_from last ≡ lines_from (told_record (rooms_of script).room_of mode ws.items)
told_one script mode ws last is = λ i. record { history = is.history i; order = is.order i; last = is.last i }

told_snoc : (script : Script) (mode : Mode) (windows : Windows) (ws : Listed RoomWindow) → told_records script mode (windows ++ ws ∷ []) ≡ told_records script mode windows ++ told_record (rooms_of script).room_of mode ws.items ∷ []
told_snoc script mode windows ws = map-append (λ (xs : Listed RoomWindow). told_record (rooms_of script).room_of mode xs.items) windows (ws ∷ [])

-- one window more is told
pub told_more : (script : Script) (mode : Mode) (windows : Windows) (ws : Listed RoomWindow) (told : List WindowRecord) (last : WindowRecord) → AreTold script mode windows told → IsToldOfRooms (rooms_of script).room_of ws.items last
    → AreTold script mode (windows ++ ws ∷ []) (told ++ last ∷ [])
told_more script mode windows ws told last are is =
    map-append lines_from told (last ∷ []) ∙ (λ i. are i ++ told_one script mode ws last is i ∷ [])
    ∙ sym (map-append lines_from (told_records script mode windows) (told_record (rooms_of script).room_of mode ws.items ∷ []))
    ∙ ap (map lines_from) (sym (told_snoc script mode windows ws))

pub told_length : (script : Script) (mode : Mode) (windows : Windows) (told : List WindowRecord) → AreTold script mode windows told → length told ≡ length windows
told_length script mode windows told are =
    sym (length-map told lines_from) ∙ ap (λ l. length l) are ∙ length-map (told_records script mode windows) lines_from
    ∙ length-map windows (λ (xs : Listed RoomWindow). told_record (rooms_of script).room_of mode xs.items)

module _ (script : Script) (mode : Mode) where
  abbrev Told : Windows → List WindowRecord
  Told windows = told_records script mode windows

  abbrev So_far : Windows → List ℕ
  So_far windows = text_so_far script mode false (Told windows)

  abbrev One : Listed RoomWindow → WindowRecord
  One ws = told_record (rooms_of script).room_of mode ws.items

  abbrev Due : Windows → List ℕ
  Due windows = text_due plain script mode false (Told windows)

  -- what follows the texts so far in the text that is due
  abbrev After : Windows → List ℕ
  After windows = if length (Told windows) == length script.windows.items then total_text (Told windows) else []

  told_size : (windows : Windows) → length (Told windows) ≡ length windows
  told_size windows = length-map windows (λ (xs : Listed RoomWindow). told_record (rooms_of script).room_of mode xs.items)

  zero_more : (k : ℕ) → 0 + k ≡ k
  zero_more k = omega arith

  -- before the first window the text is the head
  starts_alone : So_far [] ≡ head_text mode
  starts_alone = text_starts (new_course script) mode false ∙ append-nil (head_text mode)

  -- the lines of a window behind those before it
  so_far_more : (windows : Windows) (ws : Listed RoomWindow) → So_far (windows ++ ws ∷ []) ≡ So_far windows ++ window_text script (length windows) (One ws) mode false
  so_far_more windows ws = ap (text_so_far script mode false) (told_snoc script mode windows ws) ∙ text_more (new_course script) mode false (Told windows) (One ws)
      ∙ ap (λ n. So_far windows ++ window_text script n (One ws) mode false) (zero_more (length (Told windows)) ∙ told_size windows)

  -- the window's lines, as they were made
  pub lines_are : {M : Type 0} (windows : Windows) (ws : Listed RoomWindow) (told : List WindowRecord) (last : WindowRecord) (lines : Result (List ℕ) M) (bytes : List ℕ) → AreTold script mode windows told → IsToldOfRooms (rooms_of script).room_of ws.items last
      → IfOk lines (λ l. l ≡ window_text script (length told) last mode false) → lines ≡ Ok bytes → bytes ≡ window_text script (length windows) (One ws) mode false
  lines_are windows ws told last lines bytes are is made given =
      said lines (window_text script (length told) last mode false) bytes made given
      ∙ ap (λ n. window_text script n last mode false) (told_length script mode windows told are)
      ∙ same_text script (length windows) mode last (One ws) (told_one script mode ws last is)

  closed_windows : (held holds : Option (List ℕ)) (f f_after : ℕ) (windows : Windows) → IsWrittenAsClosed script (untraced mode) (written held holds f f_after) (Told windows) → RoomsAreWrittenAsClosed script mode (written held holds f f_after) windows
  closed_windows held holds f f_after windows is before closed all = is (Told before) (One closed) (ap (λ ws. Told ws) all ∙ told_snoc script mode before closed)

  module _ {D : Type 0} (earliest latest : ℕ) (shows : D → Shown) where
    -- a chunk was not written: the sink has all before it, and a first part of it
    room_stopped : {M : Type 0} (held mid holds : Option (List ℕ)) (f f_mid f_after : ℕ) (homes : List (HomeState D)) (windows : Windows) (before : List ℕ) (chunk : Result (List ℕ) M) (fault : ChunkFault) (given : Option (Listed D)) (why : Option Fault)
        → RoomsArePlayed earliest latest script mode windows
        → ((devices : List D) → length devices ≡ length (rooms_of script).room_of → AreAllPlaced (rooms_of script).room_of homes devices → RoomsAreLeft earliest latest shows script mode windows devices)
        → Appends held mid before → LeadWith (new_course script) (untraced mode) (Told windows) before → f_mid ≡ f
        → ChunkEnds (written mid holds f_mid f_after) chunk (Err fault) → RoomStopEnds (rooms_of script).room_of homes fault given why
        → (tail : List ℕ) × (Due windows ≡ before ++ tail)
        → ((bytes : List ℕ) → chunk ≡ Ok bytes → (rest : List ℕ) × (Due windows ≡ (before ++ bytes) ++ rest))
        → RoomDayEnds earliest latest shows script mode (written held holds f f_after) windows given why
    room_stopped held mid holds f f_mid f_after homes windows before chunk Sink given why played left first leads calm ended stop tail due =
        let rest = due ended.0 ended.1 in
        let cut : RoomDayIsCut earliest latest shows script mode (written held holds f f_after) windows given = record {
          devices = stop.0;
          there = stop.1;
          left = left stop.0.items stop.2 stop.3;
          text = subst (λ t. AppendsPart held holds t) (sym rest.1) (part_wider held holds (before ++ ended.0) rest.0 (part_more held mid holds before ended.0 first ended.2));
          as_closed = closed_windows held holds f f_after windows
              (lead_written (new_course script) (untraced mode) held holds f f_after (Told windows) before (take ended.2.0 ended.0) leads (appends_more held mid holds before (take ended.2.0 ended.0) first ended.2.2));
          failed = let late = ended.3 in omega (arith, late, calm);
        } in
        subst (λ (w : Option Fault). RoomDayEnds earliest latest shows script mode (written held holds f f_after) windows given w) (sym stop.4) cut
    room_stopped held mid holds f f_mid f_after homes windows before chunk Memory given why played left first leads calm ended stop tail due =
        let starved : RoomDayIsStarved earliest latest script mode (written held holds f f_after) windows given = record {
          no_devices = stop.0;
          played = played;
          text = subst (λ t. AppendsFirst held holds t) (sym tail.1) (whole_first held holds before tail.0 (appends_keeps held mid holds before first ended.0));
          as_closed = closed_windows held holds f f_after windows (lead_whole (new_course script) (untraced mode) held holds f f_after (Told windows) before leads (appends_keeps held mid holds before first ended.0));
          calm = ended.1 ∙ calm;
        } in
        subst (λ (w : Option Fault). RoomDayEnds earliest latest shows script mode (written held holds f f_after) windows given w) (sym stop.1) starved

    -- the head is not written
    pub room_head_stopped : {M : Type 0} (held holds : Option (List ℕ)) (f f_after : ℕ) (homes : List (HomeState D)) (chunk : Result (List ℕ) M) (fault : ChunkFault) (given : Option (Listed D)) (why : Option Fault)
        → RoomsArePlayed earliest latest script mode []
        → ((devices : List D) → length devices ≡ length (rooms_of script).room_of → AreAllPlaced (rooms_of script).room_of homes devices → RoomsAreLeft earliest latest shows script mode [] devices)
        → IfOk chunk (λ b. b ≡ head_text mode) → ChunkEnds (written held holds f f_after) chunk (Err fault) → RoomStopEnds (rooms_of script).room_of homes fault given why
        → RoomDayEnds earliest latest shows script mode (written held holds f f_after) [] given why
    room_head_stopped held holds f f_after homes chunk fault given why played left ok ended stop =
        room_stopped held held holds f f f_after homes [] [] chunk fault given why played left
        (keeps_appends held held (keeps_same held)) (none_leads (new_course script) (untraced mode) [] [] refl) refl ended stop
        (Due [], refl)
        (λ bytes is. (After [], ap (λ t. t ++ After []) (starts_alone ∙ sym (said chunk (head_text mode) bytes ok is))))

    -- the lines of a window are not written
    pub room_lines_stopped : {M : Type 0} (held mid holds : Option (List ℕ)) (f f_mid f_after : ℕ) (homes : List (HomeState D)) (before : Windows) (closed : Listed RoomWindow) (chunk : Result (List ℕ) M) (fault : ChunkFault) (given : Option (Listed D)) (why : Option Fault)
        → RoomsArePlayed earliest latest script mode (before ++ closed ∷ [])
        → ((devices : List D) → length devices ≡ length (rooms_of script).room_of → AreAllPlaced (rooms_of script).room_of homes devices → RoomsAreLeft earliest latest shows script mode (before ++ closed ∷ []) devices)
        → IsWrittenSoFar script mode (written held mid f f_mid) before
        → ((bytes : List ℕ) → chunk ≡ Ok bytes → bytes ≡ window_text script (length before) (One closed) mode false)
        → ChunkEnds (written mid holds f_mid f_after) chunk (Err fault) → RoomStopEnds (rooms_of script).room_of homes fault given why
        → RoomDayEnds earliest latest shows script mode (written held holds f f_after) (before ++ closed ∷ []) given why
    room_lines_stopped held mid holds f f_mid f_after homes before closed chunk fault given why played left so_far lines ended stop =
        room_stopped held mid holds f f_mid f_after homes (before ++ closed ∷ []) (So_far before) chunk fault given why played left
        so_far.text (rest_lead (new_course script) (untraced mode) (Told before) (One closed) (Told (before ++ closed ∷ [])) (told_snoc script mode before closed)) so_far.calm ended stop
        (own ++ After (before ++ closed ∷ []), due ∙ append_assoc (So_far before) own (After (before ++ closed ∷ [])))
        (λ bytes is. (After (before ++ closed ∷ []), due ∙ ap (λ ls. (So_far before ++ ls) ++ After (before ++ closed ∷ [])) (sym (lines bytes is))))
      where
        own : List ℕ
        own = window_text script (length before) (One closed) mode false

        due : Due (before ++ closed ∷ []) ≡ (So_far before ++ own) ++ After (before ++ closed ∷ [])
        due = ap (λ t. t ++ After (before ++ closed ∷ [])) (so_far_more before closed)

    -- the total is not written
    pub room_total_stopped : {M : Type 0} (held mid holds : Option (List ℕ)) (f f_mid f_after : ℕ) (homes : List (HomeState D)) (windows : Windows) (told : List WindowRecord) (chunk : Result (List ℕ) M) (fault : ChunkFault) (given : Option (Listed D)) (why : Option Fault)
        → RoomsArePlayed earliest latest script mode windows
        → ((devices : List D) → length devices ≡ length (rooms_of script).room_of → AreAllPlaced (rooms_of script).room_of homes devices → RoomsAreLeft earliest latest shows script mode windows devices)
        → IsWrittenSoFar script mode (written held mid f f_mid) windows → length windows ≡ length script.windows.items → AreTold script mode windows told
        → IfOk chunk (λ b. b ≡ total_text told)
        → ChunkEnds (written mid holds f_mid f_after) chunk (Err fault) → RoomStopEnds (rooms_of script).room_of homes fault given why
        → RoomDayEnds earliest latest shows script mode (written held holds f f_after) windows given why
    room_total_stopped held mid holds f f_mid f_after homes windows told chunk fault given why played left so_far all are ok ended stop =
        room_stopped held mid holds f f_mid f_after homes windows (So_far windows) chunk fault given why played left
        so_far.text (all_lead (new_course script) (untraced mode) (Told windows)) so_far.calm ended stop
        (After windows, refl)
        (λ bytes is. (
          [],
          due_whole (new_course script) mode false (Told windows) (told_size windows ∙ all)
              ∙ ap (λ t. So_far windows ++ t) (sym (said chunk (total_text told) bytes ok is ∙ same_total told (Told windows) are))
              ∙ sym (append-nil (So_far windows ++ bytes)),
        ))

    -- all is written
    pub room_finished : {M : Type 0} (held mid holds : Option (List ℕ)) (f f_mid f_after : ℕ) (windows : Windows) (devices : Listed D) (told : List WindowRecord) (chunk : Result (List ℕ) M)
        → RoomsAreLeft earliest latest shows script mode windows devices.items
        → IsWrittenSoFar script mode (written held mid f f_mid) windows → length windows ≡ length script.windows.items → AreTold script mode windows told
        → IfOk chunk (λ b. b ≡ total_text told) → ChunkEnds (written mid holds f_mid f_after) chunk (Ok tt)
        → RoomDayIsWhole earliest latest shows script mode (written held holds f f_after) windows (Some devices)
    room_finished held mid holds f f_mid f_after windows devices told chunk left so_far all are ok ended = record {
      devices = devices;
      there = refl;
      all = all;
      left = left;
      text = subst (λ t. Appends held holds t)
          (ap (λ t. So_far windows ++ t) (said chunk (total_text told) ended.0 ok ended.1 ∙ same_total told (Told windows) are) ∙ text_whole (new_course script) mode false (Told windows))
          (appends_more held mid holds (So_far windows) ended.0 so_far.text ended.2);
      calm = ended.3 ∙ so_far.calm;
    }

    -- no memory for the next window
    pub room_starved : (held holds : Option (List ℕ)) (f f_after : ℕ) (windows : Windows) (given : Option (Listed D)) (why : Option Fault)
        → RoomsArePlayed earliest latest script mode windows → IsWrittenSoFar script mode (written held holds f f_after) windows
        → given ≡ None → why ≡ Some WantsMemory
        → RoomDayEnds earliest latest shows script mode (written held holds f f_after) windows given why
    room_starved held holds f f_after windows given why played so_far none because =
        let ends : RoomDayIsStarved earliest latest script mode (written held holds f f_after) windows given = record {
          no_devices = none;
          played = played;
          text = whole_first held holds (So_far windows) (After windows) so_far.text;
          as_closed = closed_windows held holds f f_after windows (lead_whole (new_course script) (untraced mode) held holds f f_after (Told windows) (So_far windows) (all_lead (new_course script) (untraced mode) (Told windows)) so_far.text);
          calm = so_far.calm;
        } in
        subst (λ (w : Option Fault). RoomDayEnds earliest latest shows script mode (written held holds f f_after) windows given w) (sym because) ends

    -- no memory for the homes
    pub rooms_unbuilt : (held : Option (List ℕ)) (f : ℕ) (given : Option (Listed D)) (why : Option Fault) → RoomsArePlayed earliest latest script mode [] → given ≡ None → why ≡ Some WantsMemory
        → RoomDayEnds earliest latest shows script mode (written held held f f) [] given why
    rooms_unbuilt held f given why played none because =
        let ends : RoomDayIsStarved earliest latest script mode (written held held f f) [] given = record {
          no_devices = none;
          played = played;
          text = (0, keeps_appends held held (keeps_same held));
          as_closed = closed_windows held held f f [] (lead_whole (new_course script) (untraced mode) held held f f [] [] (none_leads (new_course script) (untraced mode) [] [] refl) (keeps_appends held held (keeps_same held)));
          calm = refl;
        } in
        subst (λ (w : Option Fault). RoomDayEnds earliest latest shows script mode (written held held f f) [] given w) (sym because) ends

  -- the head is written
  pub room_begun : {M : Type 0} (held holds : Option (List ℕ)) (f f_after : ℕ) (chunk : Result (List ℕ) M) → IfOk chunk (λ b. b ≡ head_text mode) → ChunkEnds (written held holds f f_after) chunk (Ok tt)
      → IsWrittenSoFar script mode (written held holds f f_after) []
  room_begun held holds f f_after chunk ok ended = record {
    text = subst (λ t. Appends held holds t) (said chunk (head_text mode) ended.0 ok ended.1 ∙ sym starts_alone) ended.2;
    calm = ended.3;
  }

  -- the lines of a window are written
  pub room_goes_on : {M : Type 0} (held mid holds : Option (List ℕ)) (f f_mid f_after : ℕ) (before : Windows) (closed : Listed RoomWindow) (chunk : Result (List ℕ) M)
      → IsWrittenSoFar script mode (written held mid f f_mid) before
      → ((bytes : List ℕ) → chunk ≡ Ok bytes → bytes ≡ window_text script (length before) (One closed) mode false)
      → ChunkEnds (written mid holds f_mid f_after) chunk (Ok tt)
      → IsWrittenSoFar script mode (written held holds f f_after) (before ++ closed ∷ [])
  room_goes_on held mid holds f f_mid f_after before closed chunk so_far lines ended = record {
    text = subst (λ t. Appends held holds t)
        (ap (λ ls. So_far before ++ ls) (lines ended.0 ended.1) ∙ sym (so_far_more before closed))
        (appends_more held mid holds (So_far before) ended.0 so_far.text ended.2);
    calm = ended.3 ∙ so_far.calm;
  }
