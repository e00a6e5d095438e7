-- A source of bytes in memory.
use Rattle.day_clock.specs.CallPlans.{after_call, fails_next, fresh_plan}
use Rattle.day_clock.specs.declared.call_plans.CallPlan.{CallPlan}
use Rattle.day_clock.specs.declared.faults.Failed.{Failed}
use Rattle.home_types.specs.Listed.{Listed}
use Rattle.std.specs.Prelude.{Err, List, Ok, Result, drop, if◌then◌else◌, length, min, ℕ, ◌+◌}

-- the bytes to come, the most that one call gives, the calls, and how many of them have failed
pub record SourceState : Type 0 where
  pub left : List ℕ
  pub most : ℕ
  pub plan : CallPlan
  pub faults : ℕ

-- a source of these bytes, of which nothing was read
abbrev pub fresh_source : List ℕ → Listed ℕ → ℕ → SourceState
fresh_source bytes fails most =
    record { left = bytes; most = most; plan = fresh_plan fails; faults = 0 }

-- how many bytes a call gives that does not fail and has this much room
abbrev pub read_count : SourceState → ℕ → ℕ
read_count s room = min (min room s.most) (length s.left)

-- these many bytes were given
abbrev pub after_giving : SourceState → ℕ → SourceState
after_giving s count = record s { left = drop count s.left }

-- one more call was made
abbrev pub called : SourceState → SourceState
called s = record s { plan = after_call s.plan }

-- what the next call answers, with this much room
abbrev pub read_answer : SourceState → ℕ → Result ℕ Failed
read_answer s room = if fails_next s.plan then Err (record {}) else Ok (read_count s room)

-- the source after that call
abbrev pub after_read : SourceState → ℕ → SourceState
after_read s room =
    if fails_next s.plan then record (called s) { faults = s.faults + 1 }
    else after_giving (called s) (read_count s room)
