-- Where the home stands as its rooms do, each room stands so in it.
use Rattle.room_hubs.proofs.Prelude.{List, Room, RoomHome, Stand, [], ap, arith, common_steps, device_room, devices_in, get_or, get_or-map, get_or-range_with_len, joined_home, length, length-range_with_len, map, nowhere, place_in, range_with_len, refl, room_home, slice_index_or, stand_at, stand_in, suc, sym, true, ℕ, ◌+◌, ◌<◌, ◌==◌, ◌∙◌, ◌∷◌, ◌≡◌}
use Rattle.room_hubs.proofs.Parts.{Filtered, filtered, placed}

equal : (a b : ℕ) → (a == b) ≡ true → a ≡ b
equal a b e = grind (arith, common_steps)

nothing_more : (d : ℕ) → 0 + d ≡ d
nothing_more d = omega arith

-- a list by its places
by_places : {X Y : Type 0} (f : X → Y) (xs : List X) (ys : List Y) (d : X) (e : Y) → length xs ≡ length ys → ((i : ℕ) → i < length xs → f (get_or xs i d) ≡ get_or ys i e) → map f xs ≡ ys
by_places f [] [] d e size each = refl
by_places f [] (y ∷ ys) d e size each = absurd (omega (arith, size))
by_places f (x ∷ xs) [] d e size each = absurd (omega (arith, size))
by_places f (x ∷ xs) (y ∷ ys) d e size each = λ i. each 0 (omega arith) i ∷ by_places f xs ys d e (omega (arith, size)) (λ k within. each (suc k) (omega (arith, within))) i

-- each device of the room stands in the home as in the room
pub home_of_rooms : (room_of : List ℕ) (homes : List RoomHome) (room : Room) (k : ℕ) (home : RoomHome) → room.devices ≡ devices_in room_of k → slice_index_or homes k ([], []) ≡ home → home.0 ≡ devices_in room_of k → length home.1 ≡ length (devices_in room_of k)
    → room_home room (joined_home room_of homes) ≡ home.1
home_of_rooms room_of homes room k home own at devices size =
    ap (map (stand_at (joined_home room_of homes))) own
    ∙ by_places (stand_at (joined_home room_of homes)) (devices_in room_of k) home.1 0 nowhere (sym size) each
  where
    f : Filtered (λ d. device_room room_of d == k) 0 (length room_of) (devices_in room_of k)
    f = filtered (λ d. device_room room_of d == k) 0 (length room_of)

    stands : ℕ → Stand
    stands d = stand_in (slice_index_or homes (device_room room_of d) ([], [])) d

    each : (i : ℕ) → i < length (devices_in room_of k) → stand_at (joined_home room_of homes) (get_or (devices_in room_of k) i 0) ≡ get_or home.1 i nowhere
    each i within =
        let d = get_or (devices_in room_of k) i 0 in
        let e = f.each i within in
        let here : device_room room_of d ≡ k = equal (device_room room_of d) k e.0 in
        let p = placed d (devices_in room_of k) (i, within, refl) in
        let place : place_in (devices_in room_of k) d ≡ i = f.distinct (place_in (devices_in room_of k) d) i p.0 within p.1 in
        get_or-map stands (range_with_len 0 (length room_of)) d 0 nowhere (omega (arith, e.2, length-range_with_len 0 (length room_of)))
        ∙ ap stands (get_or-range_with_len 0 (length room_of) d 0 (omega (arith, e.2)) ∙ nothing_more d)
        ∙ ap (λ j. stand_in (slice_index_or homes j ([], [])) d) here ∙ ap (λ h. stand_in h d) at
        ∙ ap (λ l. stand_at home.1 (place_in l d)) devices ∙ ap (stand_at home.1) place
