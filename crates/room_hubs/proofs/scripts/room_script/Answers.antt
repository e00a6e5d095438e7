use Rattle.room_hubs.proofs.OwnSound.{number_there, own_sound}
use Rattle.room_hubs.proofs.Sizes.{rooms_few}
use Rattle.room_hubs.proofs.scripts.room_script.Goals as goal
use Rattle.room_hubs.proofs.Prelude.{PlainRooms, ap, arith, devices_at, devices_in, length, numbers_of_devices, plain_devices, slice_index_or, subst, sym, ◌<◌, ◌∙◌}

pub devices_in-requires : goal.devices_in-requires
devices_in-requires c =
    let few = (rooms_few c.args.script.now c.requires.sound).1 in
    let same = ap (λ (r : PlainRooms). length r.room_of) c.requires.rooms in
    omega (arith, few, same, ap length c.as_slice.ensures)

pub copy_devices-requires : goal.copy_devices-requires
copy_devices-requires c k d within =
    let numbers = c.in_ok-numbers.ensures ∙ ap (λ l. devices_in l c.args.room) (c.as_slice.ensures ∙ ap (λ (r : PlainRooms). r.room_of) c.requires.rooms) in
    let low = number_there c.args.script.now c.args.room c.in_ok-numbers.numbers.items numbers k d (omega (arith, within, ap length c.as_slice-3.ensures)) in
    subst (λ l. (slice_index_or l k d).0 < length c.as_slice-2.result.now) (sym c.as_slice-3.ensures)
    (omega (arith, low, ap length c.as_slice-2.ensures))

pub returns-clause-sound : goal.returns-clause-sound
returns-clause-sound c =
    let numbers = c.in_ok-numbers.ensures ∙ ap (λ l. devices_in l c.args.room) (c.as_slice.ensures ∙ ap (λ (r : PlainRooms). r.room_of) c.requires.rooms) in
    own_sound c.args.script.now c.requires.sound c.args.room c.in_ok-devices.devices c.new.result c.new-2.result
    (c.in_ok-devices.ensures ∙ (λ i. plain_devices (devices_at (c.as_slice-2.ensures i) ((ap (λ l. numbers_of_devices l) c.as_slice-3.ensures ∙ numbers) i))))
    c.new.ensures.empty c.new-2.ensures.empty
