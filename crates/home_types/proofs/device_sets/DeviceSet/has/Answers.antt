use Rattle.home_types.proofs.DeviceBits.{contains_bits, in_words, test_bit, word_at}
use Rattle.home_types.proofs.device_sets.DeviceSet.has.Goals as goal
use Rattle.std.proofs.Common.{ap, length, refl, sym, ◌%◌, ◌/◌, ◌∙◌}
use Rattle.std.specs.Int.{bit_at}
use Rattle.std.specs.Prelude.{◌==◌}

pub returns-in-Some : goal.returns-in-Some
returns-in-Some c =
    let inside = in_words c.args.device.0 (length c.self.inside.words) c.self.told ∙ sym c.in-Some.ensures.lookup.0 in
    let word = c.in-Some.ensures.lookup.1 ∙ word_at c.self.inside.words (c.args.device.0 / 64) c.in-Some.word.now c.in-Some.ensures.lookup.0 in
    rw (← c.self.view_is, contains_bits c.self.inside.words c.args.device.0, inside) (test_bit c.in-Some.word.now (c.args.device.0 % 64) ∙ ap (λ w. bit_at w (c.args.device.0 % 64) == 1) word)

pub returns-in-None : goal.returns-in-None
returns-in-None c =
    let outside = in_words c.args.device.0 (length c.self.inside.words) c.self.told ∙ sym c.in-None.ensures.lookup.0 in
    rw (← c.self.view_is, contains_bits c.self.inside.words c.args.device.0, outside) refl
