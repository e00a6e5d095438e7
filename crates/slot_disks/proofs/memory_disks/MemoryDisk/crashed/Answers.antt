use Rattle.slot_disks.proofs.Images.{leaves_either}
use Rattle.slot_disks.proofs.memory_disks.MemoryDisk.crashed.Goals as goal
use Rattle.slot_disks.proofs.Prelude.{CrashMayLeave, MemoryState, images_of, subst, sym}

pub returns-clause-image : goal.returns-clause-image
returns-clause-image c =
    let m = c.self.inside in
    let image = leaves_either c.args.kept m.stable.items m.current.items m.ranges c.self.invariant.0 in
    subst (λ (s : MemoryState). images_of s c.settle.new.current.items) c.self.view_is (subst (CrashMayLeave m.stable.items m.ranges) (sym c.settle.ensures.bytes) image)
