use Rattle.day_clock.proofs.InMemory.{reads}
use Rattle.std.proofs.Common.{refl, rules}
use Rattle.day_clock.proofs.bytes_sources.BytesSourceSource.TheImpl.Goals as goal

pub read-tells : goal.read-tells
read-tells c =
    let it = reads _ c.args.self.now c.new.self.now c.args.into.now c.new.into.now c.result refl c.ensures.answer c.ensures.after c.ensures.given in
    record { fits = search rules; gives = it.gives; ends = c.ensures.ends; keeps = it.keeps; fine = it.fine; failed = it.failed }
