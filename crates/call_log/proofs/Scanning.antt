-- What a scan of the slots knows of the calls.
use Rattle.call_log.specs.KeptCalls.{calls_of}
use Rattle.call_log.specs.LogFiles.{IsRead, ReadsOn, RefusesAt}
use Rattle.call_log.specs.declared.faults.LogFault.{LogFault}
use Rattle.call_log.specs.declared.heads.Head.{Head}
use Rattle.slot_disks.proofs.Cited.{IsScannedTo, ends_all, ends_short, ends_shut, open_front, scan_first, scan_next, scan_sees}
use Rattle.slot_disks.specs.Slots.{is_to_shut, open_slots}
use Rattle.std.proofs.Common.{List, [], ap, arith, drop, get_or, length, refl, subst, sym, take, true, ℕ, ◌*◌, ◌+◌, ◌-◌, ◌<◌, ◌≡◌, ◌≢◌, ◌≤◌, ◌∙◌, ◌∷◌}
use Rattle.std.specs.Prelude.{Err, slice_get, ◌++◌}

-- slots were read up to this place, these bytes are left, and those are the bytes of the calls
pub record IsReadTo (head : Head) (place : ℕ) (bytes rest calls : List ℕ) : Type 0 where
  pub bodies : List (List ℕ)
  pub scanned : IsScannedTo 24 place bodies bytes rest
  pub read : IsRead head bodies calls

pub read_first : (head : Head) (bytes calls : List ℕ) → calls ≡ [] → IsReadTo head 0 bytes bytes calls
read_first head bytes calls fresh = record {
  bodies = [];
  scanned = scan_first 24 bytes;
  read = record {
    calls = [];
    are = refl;
    loggable = λ k d within. absurd (omega (arith, within));
    is = fresh;
  };
}

module _ (head : Head) (place : ℕ) (bytes rest after calls : List ℕ) (so_far : IsReadTo head place bytes rest calls) (some : 0 < length rest) (is_open : get_or rest 0 0 ≡ 1) (parts_are : after ≡ take (length rest - 1) (drop 1 rest)) (long : 24 < length after) where
  pub read_next : (more left : List ℕ) → left ≡ take (length after - 24) (drop 24 after) → ReadsOn head place (take 24 after) calls more → IsReadTo head (place + 1) bytes left more
  read_next more left is on = record {
    bodies = so_far.bodies ++ take 24 after ∷ [];
    scanned = scan_next 24 place so_far.bodies bytes rest after so_far.scanned some is_open parts_are long left is;
    read = on so_far.bodies so_far.scanned.counts so_far.read;
  }

  pub read_bad : (most : ℕ) (fault : LogFault) → place < most → RefusesAt head place (take 24 after) calls fault → calls_of head (open_slots 24 most bytes) ≡ Err fault
  read_bad most fault more bad =
      ap (calls_of head) (scan_sees 24 place so_far.bodies bytes rest after so_far.scanned some is_open parts_are long most more)
      ∙ bad so_far.bodies (open_slots 24 (most - (place + 1)) (drop 24 after)) so_far.scanned.counts so_far.read

module _ (head : Head) (most place : ℕ) (bytes rest calls : List ℕ) (so_far : IsReadTo head place bytes rest calls) where
  reads : open_slots 24 most bytes ≡ so_far.bodies → IsRead head (open_slots 24 most bytes) calls
  reads opens = subst (λ bs. IsRead head bs calls) (sym opens) so_far.read

  -- how a scan ends: at too little for a slot, at a gate that is not open, and after the last slot
  pub reads_short : place ≤ most → length rest ≤ 25 → is_to_shut (slice_get rest 0) ≡ true → IsRead head (open_slots 24 most bytes) calls
  reads_short few short to_shut = reads (ends_short 24 most place so_far.bodies bytes rest so_far.scanned few short to_shut).1

  pub reads_shut : place ≤ most → 0 < length rest → get_or rest 0 0 ≢ 1 → IsRead head (open_slots 24 most bytes) calls
  reads_shut few some shut = reads (ends_shut 24 most place so_far.bodies bytes rest so_far.scanned few some shut).1

  pub reads_all : place ≡ most → IsRead head (open_slots 24 most bytes) calls
  reads_all all = reads (ends_all 24 most place so_far.bodies bytes rest so_far.scanned all).1

-- the slots in the front of a file are those of the whole of it
pub front_slots : (most : ℕ) (front bytes : List ℕ) → front ≡ take (most * 25 + 1) bytes → open_slots 24 most front ≡ open_slots 24 most bytes
front_slots most front bytes cut = ap (open_slots 24 most) cut ∙ open_front 24 most (most * 25 + 1) bytes refl
