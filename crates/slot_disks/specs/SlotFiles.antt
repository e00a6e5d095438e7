-- What the proofs know of a file of slots.
use Rattle.slot_disks.specs.Disks.{LeavesOnly, LeavesThis, NoneAdded}
use Rattle.slot_disks.specs.Slots.{is_to_shut, open_slots}
use Rattle.slot_disks.specs.declared.slot_files.Found.{Found}
use Rattle.std.specs.Prelude.{All, List, [], false, length, slice_get, true, ℕ, ◌*◌, ◌++◌, ◌+◌, ◌<◌, ◌∷◌, ◌≡◌, ◌≢◌, ◌≤◌, ◌⊎◌}

-- open slots that hold these
abbrev pub slots_of : List (List ℕ) → List ℕ
slots_of [] = []
slots_of (body ∷ bodies) = 1 ∷ (body ++ slots_of bodies)

-- the bytes are open slots of these, and behind them a gate that is not open
pub record AreSlots (size : ℕ) (bodies : List (List ℕ)) (bytes : List ℕ) : Type 0 where
  pub gate : ℕ
  pub rest : List ℕ
  pub is : bytes ≡ slots_of bodies ++ gate ∷ rest
  pub shut : gate ≢ 1
  pub sizes : All (λ body. length body ≡ size) bodies

-- so many slots are open, the next one can be written behind them, and all of it is on the disk
pub record IsSettled (size most count : ℕ) (seen : List ℕ) (images : List ℕ → Type 0) : Type 0 where
  pub slots : count < most → AreSlots size (open_slots size most seen) seen
  pub counts : count ≡ length (open_slots size most seen)
  pub durable : LeavesThis seen images

-- so many slots are open, and behind them stands a gate that is not open, or too little for a slot
pub record IsFound (size most : ℕ) (bytes : List ℕ) (found : Found) : Type 0 where
  pub rest : List ℕ
  pub is : bytes ≡ slots_of (open_slots size most bytes) ++ rest
  pub sizes : All (λ body. length body ≡ size) (open_slots size most bytes)
  pub counts : found.count ≡ length (open_slots size most bytes)
  pub few : found.count ≤ most
  pub some : 0 < found.count → 0 < length rest
  pub shut : found.is_shut ≡ true → AreSlots size (open_slots size most bytes) bytes
  pub short : found.is_shut ≡ false → found.count < most → length rest ≤ size + 1
  pub to_shut : found.is_shut ≡ false → found.count < most
      → is_to_shut (slice_get bytes (found.count * (size + 1))) ≡ true

-- the bytes after the gate of the first slot of a group: with that gate they are these slots, all
-- of them open, and after them a gate that is shut
pub record IsGroup (size : ℕ) (after : List ℕ) (bodies : List (List ℕ)) : Type 0 where
  pub is : 1 ∷ after ≡ slots_of bodies ++ 0 ∷ []
  pub sizes : All (λ body. length body ≡ size) bodies

-- a crash leaves one of these, or what has these open slots
abbrev pub IsOldOrSame : (List ℕ → Type 0) → ℕ → ℕ → List (List ℕ) → List ℕ → Type 0
IsOldOrSame images size most bodies c = images c ⊎ (open_slots size most c ≡ bodies)

-- the open slots are these, or these and all of the group
abbrev pub IsOldOrAll : ℕ → ℕ → List (List ℕ) → List (List ℕ) → List ℕ → Type 0
IsOldOrAll size most bodies new c =
    (open_slots size most c ≡ bodies) ⊎ (open_slots size most c ≡ bodies ++ new)

-- the slots of the group are open after those that were
abbrev pub AddsGroup : ℕ → ℕ → List ℕ → List ℕ → List ℕ → Type 0
AddsGroup size most after old new =
    (bodies : List (List ℕ)) → IsGroup size after bodies
    → open_slots size most new ≡ open_slots size most old ++ bodies

-- so many slots were open, and those of the group are too
abbrev pub SettlesGroup : ℕ → ℕ → ℕ → List ℕ → List ℕ → (List ℕ → Type 0) → Type 0
SettlesGroup size most count after seen images =
    (bodies : List (List ℕ)) → IsGroup size after bodies
    → IsSettled size most (count + length bodies) seen images

-- a crash at any moment leaves these open slots, or these and all of the group
abbrev pub LeavesGroup : {D : Type 0} → (D → ℕ) → (D → ℕ → List ℕ → Type 0) → ℕ → ℕ → List ℕ
    → List (List ℕ) → D → D → Type 0
LeavesGroup moment since size most after bodies old new =
    (more : List (List ℕ)) → IsGroup size after more
    → LeavesOnly moment since old new (IsOldOrAll size most bodies more)

-- bytes were read, and nothing else is changed
pub record ReadsBytes {D : Type 0} (seen : D → List ℕ) (images : D → List ℕ → Type 0)
    (moment : D → ℕ)
    (since : D → ℕ → List ℕ → Type 0) (old new : D) : Type 0 where
  pub same : seen new ≡ seen old
  pub fewer : NoneAdded (images old) (images new)
  pub run : LeavesOnly moment since old new (images old)
