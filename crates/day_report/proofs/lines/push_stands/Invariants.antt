use Rattle.day_report.proofs.lines.push_stands.Given as goal
use Rattle.day_report.proofs.Prelude.{enumerate_from, flat_map, home_word, stand_at, string_bytes, take, ◌++◌, ◌≡◌}

-- the text has grown by the devices so far
abbrev pub invariant-devices : goal.invariant-devices
invariant-devices l =
    string_bytes l.text
    ≡ string_bytes l.initial.text
    ++ flat_map (λ (d, device). home_word device (stand_at l.home.devices.items d)) (enumerate_from 0 (take l.i l.devices))
