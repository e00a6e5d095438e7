-- The calls that a log's file keeps.
use Rattle.call_log.specs.Heads.{head_fault}
use Rattle.call_log.specs.declared.faults.LogFault.TheVariants.{Damaged}
use Rattle.call_log.specs.declared.faults.LogFault.{LogFault}
use Rattle.call_log.specs.declared.heads.Head.{Head}
use Rattle.slot_disks.specs.Slots.{open_slots}
use Rattle.logged_calls.specs.CallBytes.{call_size, front_call}
use Rattle.logged_calls.specs.declared.calls.Logged.{Logged}
use Rattle.std.specs.Prelude.{Err, List, None, Ok, Option, Result, Some, [], ℕ, ◌+◌, ◌∷◌}

-- these calls with one in front, where there is one; else the call at this place is damaged
abbrev pub with_call : ℕ → Option Logged → Result (List Logged) LogFault
    → Result (List Logged) LogFault
with_call k None rest = Err (Damaged k)
with_call k (Some call) (Ok calls) = Ok (call ∷ calls)
with_call k (Some call) (Err fault) = Err fault

-- the calls in these slots, the first of them at this place
abbrev pub calls_in : ℕ → List (List ℕ) → Result (List Logged) LogFault
calls_in k [] = Ok []
calls_in k (body ∷ bodies) = with_call k (front_call body) (calls_in (k + 1) bodies)

abbrev pub unless_fault : Option LogFault → Result (List Logged) LogFault
    → Result (List Logged) LogFault
unless_fault None calls = calls
unless_fault (Some fault) calls = Err fault

-- the calls in the slots of a log: the first slot has the head, each other one a call. Where no
-- slot is open no log was begun, and there are no calls
abbrev pub calls_of : Head → List (List ℕ) → Result (List Logged) LogFault
calls_of head [] = Ok []
calls_of head (first ∷ bodies) = unless_fault (head_fault head first) (calls_in 0 bodies)

-- the calls that a file keeps of a log with this head and room for so many; or why it is refused
abbrev pub kept_calls : Head → ℕ → List ℕ → Result (List Logged) LogFault
kept_calls head most bytes = calls_of head (open_slots call_size (most + 1) bytes)
