use Rattle.room_hubs.proofs.Prelude.{Room, [], ap, arith, get_or-range_with_len, length, length-range_with_len, map, map-append, plain_room, plain_run, range_with_len, room_at, sym, take, ℕ, ◌++◌, ◌+◌, ◌<◌, ◌∙◌, ◌∷◌, ◌≡◌}
use Rattle.room_hubs.proofs.Loops.{all_mapped, next_mapped}
use Rattle.room_hubs.proofs.splits.room_rosters.Goals as goal

pub rooms-preserved : goal.rooms-preserved
rooms-preserved c =
    let rooms = c.args.rooms.now in
    let n = length rooms.names.items in
    let room = c.rooms.room in
    let G : ℕ → Room = room_at rooms.room_of.items (map plain_run c.args.runs.now) in
    let within : room < n = omega (arith, c.rooms-test.true, c.len-room-end.ensures) in
    let same : 0 + room ≡ room = omega arith in
    let made = c.in_ok-room_roster.field-0 in
    let is : plain_room made ≡ G room = c.in_ok-room_roster.ensures ∙ ap (λ l. room_at l (map plain_run c.args.runs.now) room) c.as_slice.ensures in
    ap (map plain_room) c.in_ok-push.ensures.ok ∙ map-append plain_room c.rooms.rosters.items (made ∷ [])
    ∙ (λ i. c.rooms.invariant i ++ is i ∷ [])
    ∙ ap (λ m. map G (take room (range_with_len 0 n)) ++ G m ∷ []) (sym (get_or-range_with_len 0 n room 0 within ∙ same))
    ∙ sym (next_mapped G (range_with_len 0 n) room 0 (omega (arith, within, length-range_with_len 0 n)))

pub returns : goal.returns
returns c =
    let rooms = c.args.rooms.now in
    let n = length rooms.names.items in
    let G : ℕ → Room = room_at rooms.room_of.items (map plain_run c.args.runs.now) in
    c.rooms.invariant ∙ all_mapped G (range_with_len 0 n) c.rooms.room (omega (arith, c.rooms-test.false, c.len-room-end.ensures, length-range_with_len 0 n))
