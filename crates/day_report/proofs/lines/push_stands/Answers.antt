use Rattle.day_report.proofs.Growing.{one_numbered_piece_more}
use Rattle.day_report.proofs.lines.push_stands.Goals as goal
use Rattle.day_report.proofs.Prelude.{ap, arith, enumerate_from, flat_map, home_word, stand_at, string_bytes, take, ◌++◌, ◌∙◌}

pub devices-preserved : goal.devices-preserved
devices-preserved c =
    let devices = c.args.devices.now in
    let i = c.devices.i in
    let device = c.index-devices-i.result in
    c.in_ok-push_stand.ensures
    ∙ ap (λ text. text ++ home_word device c.stand_at.result) c.devices.invariant
    ∙ ap (λ stand. (string_bytes c.push_none.new.text ++ flat_map (λ (d, device). home_word device (stand_at c.args.home.now.devices.items d)) (enumerate_from 0 (take i devices))) ++ home_word device stand) c.stand_at.ensures
    ∙ one_numbered_piece_more (λ (d, device). home_word device (stand_at c.args.home.now.devices.items d))
    (string_bytes c.push_none.new.text) 0 devices i i device c.devices-test.true (omega arith) c.index-devices-i.is
