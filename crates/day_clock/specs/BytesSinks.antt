-- A sink of bytes in memory.
use Rattle.day_clock.specs.CallPlans.{after_call, fails_next, fresh_plan}
use Rattle.day_clock.specs.declared.call_plans.CallPlan.{CallPlan}
use Rattle.day_clock.specs.declared.faults.Failed.{Failed}
use Rattle.home_types.specs.Listed.{Listed}
use Rattle.std.specs.Prelude.{Bool, Err, List, Ok, Result, [], if◌then◌else◌, length, min, nat_lt, take, ℕ, ◌&&◌, ◌++◌, ◌+◌, ◌-◌, ◌==◌}

-- the bytes held, for how many there is room in all, the most that one call takes, the calls, and
-- how often there was a fault
pub record SinkState : Type 0 where
  pub held : List ℕ
  pub room : ℕ
  pub most : ℕ
  pub plan : CallPlan
  pub faults : ℕ

-- a sink that holds nothing
abbrev pub fresh_sink : ℕ → Listed ℕ → ℕ → SinkState
fresh_sink room fails most =
    record { held = []; room = room; most = most; plan = fresh_plan fails; faults = 0 }

-- how many bytes a call takes that does not fail and is handed this many
abbrev pub write_count : SinkState → ℕ → ℕ
write_count s offered = min (min offered s.most) (s.room - length s.held)

-- these bytes were taken
abbrev pub after_taking : SinkState → List ℕ → SinkState
after_taking s taken = record s { held = s.held ++ taken }

-- a call that takes nothing of these many bytes is a fault
abbrev pub is_fault : SinkState → ℕ → Bool
is_fault s offered = (write_count s offered == 0) && nat_lt 0 offered

-- one more call was made
abbrev pub called : SinkState → SinkState
called s = record s { plan = after_call s.plan }

-- one more fault came
abbrev pub faulted : SinkState → SinkState
faulted s = record s { faults = s.faults + 1 }

-- what the next call answers that is handed this many bytes
abbrev pub write_answer : SinkState → ℕ → Result ℕ Failed
write_answer s offered = if fails_next s.plan then Err (record {}) else Ok (write_count s offered)

-- the sink after a call that does not fail
abbrev pub after_taking_call : SinkState → List ℕ → SinkState
after_taking_call s from =
    let next = after_taking (called s) (take (write_count s (length from)) from) in
    if is_fault s (length from) then faulted next else next

-- the sink after the next call
abbrev pub after_write : SinkState → List ℕ → SinkState
after_write s from = if fails_next s.plan then faulted (called s) else after_taking_call s from
