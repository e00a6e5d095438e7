-- The runs that sleep, as words of bits.
use Rattle.blocked_runs.specs.RunBits.{has_run}
use Rattle.history_book.specs.declared.entries.Entry.TheVariants.{Arrived, Did, Doomed, Ended, Fell, Placed, Rose, Undid}
use Rattle.history_book.specs.declared.entries.Entry.{Entry}
use Rattle.home_types.specs.Numbers.{RunId}
use Rattle.hub_core.specs.BlockedRuns.{IsBlocked}
use Rattle.hub_core.specs.declared.waits.Why.TheVariants.{Behind, Busy, Denied, Dirty, Follow, Strict}
use Rattle.hub_core.specs.declared.waits.Why.{Why}
use Rattle.lock_leasing.specs.Configurations.{Configuration}
use Rattle.std.specs.List.{list_any}
use Rattle.std.specs.Prelude.{Bool, List, false, nat_lt, true, ℕ, ◌&&◌, ◌-◌, ◌≡◌}

-- the words: those that are blocked, those that wait for their place, the others, and those that
-- sleep no more and are to be called
pub record SleepersState : Type 0 where
  pub blocked : ℕ
  pub restless : ℕ
  pub unplaced : ℕ
  pub called : ℕ

-- the run has a bit in a word
abbrev pub has_run_bit : RunId → Bool
has_run_bit r = nat_lt 0 r && nat_lt (r - 1) 64

-- nobody sleeps, and nobody is to be called
pub record NoneSleep (s : SleepersState) : Type 0 where
  pub blocked : s.blocked ≡ 0
  pub restless : s.restless ≡ 0
  pub unplaced : s.unplaced ≡ 0
  pub called : s.called ≡ 0

-- each run of the word is blocked
abbrev pub SleepersAreBlocked : Configuration → ℕ → Type 0
SleepersAreBlocked s word = (r : RunId) → has_run word r ≡ true → IsBlocked s r

-- who waits so waits for its place
abbrev pub is_unplaced : Why → Bool
is_unplaced (Follow f) = true
is_unplaced (Denied d x) = true
is_unplaced (Behind d x) = false
is_unplaced (Dirty d x) = false
is_unplaced (Strict x) = false
is_unplaced (Busy d) = false

-- the entry may give a run its place that waits for it: an end, a doom, an undo
abbrev pub frees_place : Entry → Bool
frees_place (Arrived r m) = false
frees_place (Placed r at m) = false
frees_place (Did r c a) = false
frees_place (Undid r d drove) = true
frees_place (Fell d) = false
frees_place (Rose d) = false
frees_place (Doomed r cause) = true
frees_place (Ended r end) = true

-- one of these entries may
abbrev pub frees_places : List Entry → Bool
frees_places made = list_any frees_place made
