use Rattle.room_hubs.proofs.Prelude.{Bool, [], ap, append-nil, arith, device_no, device_room, false, filter, length, map-append, numbers_of_devices, range_with_len, rules, sym, take, true, ℕ, ◌++◌, ◌+◌, ◌<◌, ◌==◌, ◌∙◌, ◌∷◌, ◌≡◌}
use Rattle.room_hubs.proofs.Loops.{all_numbers, next_number}
use Rattle.room_hubs.proofs.splits.devices_in.Goals as goal
use Rattle.room_hubs.proofs.splits.devices_in.Goals.{else-room_of-d, then-room_of-d+in_ok-push}

pub devices-preserved : goal.devices-preserved
devices-preserved c =
    let p : ℕ → Bool = λ d. device_room c.args.room_of.now d == c.args.room in
    let n = length c.args.room_of.now in
    let within : c.devices.d < n = omega (arith, c.devices-test.true) in
    let same : 0 + c.devices.d ≡ c.devices.d = omega arith in
    elim c.if-room_of-d.branch [
      | then-room_of-d+in_ok-push w ↦
          let is : p c.devices.d ≡ true = search rules in
          ap (λ v. numbers_of_devices v.items) w.devices-is ∙ ap numbers_of_devices w.in_ok-push.ensures.ok
          ∙ map-append (λ d. d.0) c.devices.devices.items (device_no c.devices.d ∷ [])
          ∙ (λ i. c.devices.invariant i ++ c.devices.d ∷ []) ∙ sym (next_number p 0 n c.devices.d c.devices.d true within same is)
      | else-room_of-d w ↦
          let is : p c.devices.d ≡ false = search rules in
          ap (λ v. numbers_of_devices v.items) w.devices-is ∙ c.devices.invariant ∙ sym (next_number p 0 n c.devices.d c.devices.d false within same is ∙ append-nil _)
    ]

pub returns : goal.returns
returns c =
    let p : ℕ → Bool = λ d. device_room c.args.room_of.now d == c.args.room in
    let n = length c.args.room_of.now in
    let all : c.devices.d ≡ n = omega (arith, c.devices-test.false, c.devices.auto.d-end) in
    c.devices.invariant ∙ ap (λ d. filter p (take d (range_with_len 0 n))) all ∙ all_numbers p 0 n
