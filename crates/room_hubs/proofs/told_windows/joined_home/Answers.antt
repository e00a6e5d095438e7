use Rattle.room_hubs.proofs.Prelude.{Stand, [], ap, arith, device_room, get_or, get_or-range_with_len, last_of_room, length, length-range_with_len, map, range_with_len, slice_index_or, stand_in, sym, ℕ, ◌++◌, ◌+◌, ◌<◌, ◌∙◌, ◌∷◌, ◌≡◌}
use Rattle.room_hubs.proofs.Loops.{all_mapped, next_mapped}
use Rattle.room_hubs.proofs.told_windows.joined_home.Goals as goal

pub devices-preserved : goal.devices-preserved
devices-preserved c =
    let n = length c.args.room_of.now in
    let stands : ℕ → Stand = λ d. stand_in (slice_index_or (map last_of_room c.args.windows.now) (device_room c.args.room_of.now d) ([], [])) d in
    let d = c.devices.d in
    let within : d < n = omega (arith, c.devices-test.true) in
    let nothing_more : 0 + d ≡ d = omega arith in
    let at : get_or (range_with_len 0 n) d 0 ≡ d = get_or-range_with_len 0 n d 0 within ∙ nothing_more in
    let here : c.joined_stand.result ≡ stands d = c.joined_stand.ensures in
    c.in_ok-push.ensures.ok ∙ (λ i. c.devices.invariant i ++ (here ∙ ap stands (sym at)) i ∷ [])
    ∙ sym (next_mapped stands (range_with_len 0 n) d 0 (omega (arith, within, length-range_with_len 0 n)))

pub returns : goal.returns
returns c =
    let n = length c.args.room_of.now in
    let stands : ℕ → Stand = λ d. stand_in (slice_index_or (map last_of_room c.args.windows.now) (device_room c.args.room_of.now d) ([], [])) d in
    c.devices.invariant ∙ all_mapped stands (range_with_len 0 n) c.devices.d (omega (arith, c.devices-test.false, length-range_with_len 0 n))
