-- A call that changed a home, as a C program tells it, and its bytes in a log.
use Rattle.lazbendix_c.specs.declared.log_calls.ToldCall.{ToldCall}
use Rattle.logged_calls.specs.CallBytes.{call_bytes, call_size, record_bytes}
use Rattle.logged_calls.specs.Calls.{IsLoggable}
use Rattle.logged_calls.specs.Records.{numbers, record_of}
use Rattle.logged_calls.specs.declared.calls.Logged.{Logged}
use Rattle.std.specs.Prelude.{List, drop, length, ℕ, ◌++◌, ◌<◌, ◌^◌, ◌≡◌, ◌≢◌, ◌≤◌}

-- the numbers with which a call is told: those of the table of docs/CALL-LOG.md
abbrev pub told_of : Logged → ToldCall
told_of call = record {
  first = (record_of call).first;
  second = (record_of call).second;
  kind = (record_of call).kind;
  sort = (record_of call).sort;
  device = (record_of call).device;
  value = (record_of call).value;
}

-- a call has these numbers, and its bytes stand in front of the room, whose rest is as it was: it
-- is one that is read back from them
pub record HasLogged (told : ToldCall) (room after : List ℕ) : Type 0 where
  pub call : Logged
  pub loggable : IsLoggable call
  pub numbers : told_of call ≡ told
  pub fits : call_size ≤ length room
  pub written : after ≡ call_bytes call ++ drop call_size room

-- no call that can be read back has these numbers
abbrev pub IsNone : ToldCall → Type 0
IsNone told = (call : Logged) → IsLoggable call → told_of call ≢ told

-- the numbers as the bytes of a record
abbrev pub told_bytes : ToldCall → List ℕ
told_bytes told =
    record_bytes (numbers told.kind told.sort told.device told.value told.first told.second)

-- each number has the bits of its place in a record
pub record FitsRecord (told : ToldCall) : Type 0 where
  pub kind : told.kind < 256
  pub sort : told.sort < 256
  pub device : told.device < 2 ^ 16
  pub value : told.value < 2 ^ 32
  pub first : told.first < 2 ^ 64
  pub second : told.second < 2 ^ 64
