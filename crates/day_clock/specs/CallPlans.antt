-- Which calls of a source or a sink in memory are to fail.
use Rattle.day_clock.specs.declared.call_plans.CallPlan.{CallPlan}
use Rattle.home_types.specs.Listed.{Listed}
use Rattle.std.specs.List.{list_any}
use Rattle.std.specs.Prelude.{Bool, min, ℕ, ◌+◌, ◌-◌, ◌==◌, ◌^◌}

-- no call was made
abbrev pub fresh_plan : Listed ℕ → CallPlan
fresh_plan failing = record { made = 0; failing = failing }

-- the number of the next call: one more, up to 2^64 - 1
abbrev pub next_call : CallPlan → ℕ
next_call plan = min (plan.made + 1) (2 ^ 64 - 1)

-- the next call is one of those that are to fail
abbrev pub fails_next : CallPlan → Bool
fails_next plan = list_any (λ failing. failing == next_call plan) plan.failing.items

-- one more call was made
abbrev pub after_call : CallPlan → CallPlan
after_call plan = record plan { made = next_call plan }
