-- What a crash may leave of a disk in memory.
use Rattle.slot_disks.proofs.Prelude.{Bool, CrashMayLeave, List, Torn, [], arith, false, if◌then◌else◌, refl, true, ℕ, ◌∷◌}
use Rattle.slot_disks.specs.WrittenRanges.{Range}

-- a write that a crash undoes whole
pub torn_same : (at n : ℕ) (c : List ℕ) → Torn at n c c
torn_same at n c = record { before = refl; after = refl; no_shorter = omega arith; no_longer = omega arith }

-- a crash may undo them all
pub leaves_stable : (stable : List ℕ) (ranges : List Range) → CrashMayLeave stable ranges stable
leaves_stable stable [] = refl
leaves_stable stable (r ∷ ranges) = (stable, leaves_stable stable ranges, torn_same r.at r.len stable)

pub leaves_either : (kept : Bool) (stable current : List ℕ) (ranges : List Range) → CrashMayLeave stable ranges current → CrashMayLeave stable ranges (if kept then current else stable)
leaves_either true stable current ranges now = now
leaves_either false stable current ranges now = leaves_stable stable ranges
