-- The answers of all rooms, room by room.
use Rattle.hub_threads.proofs.Prelude.{AreRoomsWorked, Err, IfOk, IsRoomWorked, List, NoMemory, Ok, Result, RoomDone, RoomHub, Shown, Some, ap, get_or, get_or-map, get_or_from_slice_get, length, length-map, map, slice_get, slice_get_within, subst, sym, ℕ, ◌<◌, ◌∙◌, ◌≡◌}
use Rattle.home_types.specs.Listed.{Listed}

module _ {D : Type 0} (shows : D → Shown) (earliest latest : ℕ) where
  all_went : (jobs : List (RoomHub D)) (all : List (RoomDone D)) (answers : List (Result (RoomDone D) NoMemory)) → map Ok all ≡ answers → length answers ≡ length jobs
      → ((i : ℕ) (d : Result (RoomDone D) NoMemory) (e : RoomHub D) → i < length jobs → IfOk (get_or answers i d) (λ done. IsRoomWorked shows earliest latest (get_or jobs i e) done))
      → AreRoomsWorked shows earliest latest jobs all
  all_went jobs all answers are count each =
      let wrap : RoomDone D → Result (RoomDone D) NoMemory = λ done. Ok done in record {
        count = sym (length-map all wrap) ∙ ap length are ∙ count;
        each = λ k job done at_job at_done.
            let here = get_or_from_slice_get jobs k job job at_job in
            let there = get_or_from_slice_get all k done done at_done in
            let answer : get_or answers k (Ok done) ≡ Ok done = ap (λ l. get_or l k (Ok done)) (sym are) ∙ get_or-map wrap all k done (Ok done) (slice_get_within all k done at_done) ∙ ap wrap there in
            subst (λ j. IsRoomWorked shows earliest latest j done) here
            (subst (λ (r : Result (RoomDone D) NoMemory). IfOk r (λ z. IsRoomWorked shows earliest latest (get_or jobs k job) z)) answer (each k (Ok done) job (slice_get_within jobs k job at_job)));
      }

  pub rooms_worked : (jobs : List (RoomHub D)) (answers : List (Result (RoomDone D) NoMemory)) (all : Result (Listed (RoomDone D)) NoMemory) → IfOk all (λ l. map Ok l.items ≡ answers) → length answers ≡ length jobs
      → ((i : ℕ) (d : Result (RoomDone D) NoMemory) (e : RoomHub D) → i < length jobs → IfOk (get_or answers i d) (λ done. IsRoomWorked shows earliest latest (get_or jobs i e) done))
      → IfOk all (λ l. AreRoomsWorked shows earliest latest jobs l.items)
  rooms_worked jobs answers (Ok l) are count each = all_went jobs l.items answers are count each
  rooms_worked jobs answers (Err e) are count each = tt
