-- A disk in memory: what it holds, what a crash may leave of it, and what each call does.
use Rattle.day_clock.specs.declared.faults.Failed.{Failed}
use Rattle.slot_disks.specs.Disks.{Torn}
use Rattle.slot_disks.specs.WrittenRanges.{Range}
use Rattle.std.proofs.Common.{arith, inl, inr}
use Rattle.std.specs.Prelude.{Bool, Err, List, None, Ok, Option, Result, Some, [], drop, false, if◌then◌else◌, length, min, nat_le, take, ℕ, ⊤, ◌++◌, ◌+◌, ◌-◌, ◌^◌, ◌∷◌, ◌≡◌, ◌≤◌, ◌⊎◌}
use Rattle.std.specs.declared.snapshot.Snapshot.{Snapshot}

-- the bytes at the last sync, and the ranges that were written since
pub record Unsynced : Type 0 where
  pub stable : List ℕ
  pub ranges : List Range

-- the bytes at the last sync; those that a read gives; the ranges written since; how both were
-- before each call that changed them, the newest first; for how many bytes there is room; how many
-- calls were made, from which on each fails, and how many have failed
pub record MemoryState : Type 0 where
  pub stable : List ℕ
  pub current : List ℕ
  pub ranges : List Range
  pub past : List Unsynced
  pub room : ℕ
  pub calls : ℕ
  pub fails_from : Option ℕ
  pub faults : ℕ

abbrev pub past_of : Option (Snapshot MemoryState) → List Unsynced
past_of None = []
past_of (Some before) =
    (record { stable = before.value.stable; ranges = before.value.ranges }) ∷ before.value.past

-- what a crash may leave of these bytes where these ranges were written since, the newest first
abbrev pub CrashMayLeave : List ℕ → List Range → List ℕ → Type 0
CrashMayLeave stable [] c = c ≡ stable
CrashMayLeave stable (r ∷ ranges) c =
    (d : List ℕ) × CrashMayLeave stable ranges d × Torn r.at r.len d c

-- what a crash at the moment t or later might have left, of these moments, the newest first
abbrev pub HadLeft : ℕ → List Unsynced → List ℕ → Type 0
HadLeft t [] c = ⊥
HadLeft t (m ∷ past) c = ((t ≤ length past) × CrashMayLeave m.stable m.ranges c) ⊎ HadLeft t past c

abbrev pub images_of : MemoryState → List ℕ → Type 0
images_of m c = CrashMayLeave m.stable m.ranges c

abbrev pub images_since_of : MemoryState → ℕ → List ℕ → Type 0
images_since_of m t c = CrashMayLeave m.stable m.ranges c ⊎ HadLeft t m.past c

none_since : (t : ℕ) (past : List Unsynced) (c : List ℕ) → length past ≤ t → HadLeft t past c → ⊥
none_since t [] c le had = had
none_since t (m ∷ past) c le (inl here) = absurd (omega (arith, here.0))
none_since t (m ∷ past) c le (inr there) = none_since t past c (omega arith) there

-- since the last moment there is what may be left now
pub only_images : (m : MemoryState) (c : List ℕ) → images_since_of m (length m.past) c
    → images_of m c
only_images m c (inl now) = now
only_images m c (inr had) = absurd (none_since (length m.past) m.past c (omega arith) had)

-- a disk with these bytes, all of them synced
abbrev pub fresh_disk : List ℕ → ℕ → Option ℕ → MemoryState
fresh_disk bytes room fails_from =
    record {
      stable = bytes;
      current = bytes;
      ranges = [];
      past = [];
      room = room;
      calls = 0;
      fails_from = fails_from;
      faults = 0;
    }

-- the number of the next call: one more, up to 2^64 - 1
abbrev pub next_disk_call : MemoryState → ℕ
next_disk_call m = min (m.calls + 1) (2 ^ 64 - 1)

abbrev pub is_from : Option ℕ → ℕ → Bool
is_from None call = false
is_from (Some first) call = nat_le first call

-- the next call is one of those that are to fail
abbrev pub next_call_fails : MemoryState → Bool
next_call_fails m = is_from m.fails_from (next_disk_call m)

-- one more call was made
abbrev pub disk_called : MemoryState → MemoryState
disk_called m = record m { calls = next_disk_call m }

-- one more fault came
abbrev pub disk_faulted : MemoryState → MemoryState
disk_faulted m = record m { faults = m.faults + 1 }

-- after a call that changes no bytes
abbrev pub after_plain_call : MemoryState → MemoryState
after_plain_call m = if next_call_fails m then disk_faulted (disk_called m) else disk_called m

abbrev pub as_it_was : MemoryState → Unsynced
as_it_was m = record { stable = m.stable; ranges = m.ranges }

-- these bytes were written there
abbrev pub bytes_written : ℕ → List ℕ → MemoryState → MemoryState
bytes_written at bytes m =
    record m {
      current = take at m.current ++ bytes ++ drop (at + length bytes) m.current;
      ranges = (record { at = at; len = length bytes }) ∷ m.ranges;
      past = as_it_was m ∷ m.past;
    }

-- a crash leaves what a read gives
abbrev pub synced : MemoryState → MemoryState
synced m = record m { stable = m.current; ranges = []; past = as_it_was m ∷ m.past }

-- what the next call answers that gives this where it does not fail
abbrev pub call_answer : {T : Type 0} → MemoryState → T → Result T Failed
call_answer m given = if next_call_fails m then Err (record {}) else Ok given

-- there is room for so many bytes from there on
abbrev pub has_room : MemoryState → ℕ → ℕ → Bool
has_room m at n = nat_le (at + n) m.room

-- what the next call answers, a write of so many bytes
abbrev pub disk_write_answer : MemoryState → ℕ → ℕ → Result ⊤ Failed
disk_write_answer m at n = if has_room m at n then call_answer m tt else Err (record {})

-- the disk after the next call, a write: one that is to fail writes all the same, and one with no
-- room writes nothing
abbrev pub disk_after_write : MemoryState → ℕ → List ℕ → MemoryState
disk_after_write m at bytes =
    if has_room m at (length bytes) then after_plain_call (bytes_written at bytes m)
    else disk_faulted (disk_called m)

-- the disk after the next call, a sync
abbrev pub after_sync : MemoryState → MemoryState
after_sync m = if next_call_fails m then disk_faulted (disk_called m) else synced (disk_called m)
