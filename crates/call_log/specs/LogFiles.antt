-- What a scan of the slots of a log reads.
use Rattle.call_log.specs.KeptCalls.{calls_of}
use Rattle.call_log.specs.declared.faults.LogFault.{LogFault}
use Rattle.call_log.specs.declared.heads.Head.{Head}
use Rattle.logged_calls.specs.CallBytes.{calls_bytes}
use Rattle.logged_calls.specs.Calls.{IsLoggable}
use Rattle.logged_calls.specs.declared.calls.Logged.{Logged}
use Rattle.std.specs.Prelude.{All, Err, List, Ok, [], length, ℕ, ◌++◌, ◌∷◌, ◌≡◌}

-- the slots are those of a log with this head, and these are the bytes of its calls
pub record IsRead (head : Head) (bodies : List (List ℕ)) (bytes : List ℕ) : Type 0 where
  pub calls : List Logged
  pub are : calls_of head bodies ≡ Ok calls
  pub loggable : All IsLoggable calls
  pub is : bytes ≡ calls_bytes calls

-- where the slots before this place are those of such a log, with this one they are too
abbrev pub ReadsOn : Head → ℕ → List ℕ → List ℕ → List ℕ → Type 0
ReadsOn head place body old new =
    (bodies : List (List ℕ)) → length bodies ≡ place → IsRead head bodies old
    → IsRead head (bodies ++ body ∷ []) new

-- where they are, this one makes that the log is refused, whatever stands after it
abbrev pub RefusesAt : Head → ℕ → List ℕ → List ℕ → LogFault → Type 0
RefusesAt head place body old fault =
    (bodies more : List (List ℕ)) → length bodies ≡ place → IsRead head bodies old
    → calls_of head (bodies ++ body ∷ more) ≡ Err fault
