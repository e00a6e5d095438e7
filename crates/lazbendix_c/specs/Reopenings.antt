-- A home is opened again from its script and a log of calls.
use Rattle.home_states.specs.LiveHomes.{LiveState}
use Rattle.home_states.specs.Rebuilt.{IsRebuilt, IsRefusedAt}
use Rattle.home_types.specs.declared.modes.Mode.{Mode}
use Rattle.lazbendix_c.specs.Calls.{IsClosed, IsOpen, IsRefusal}
use Rattle.lazbendix_c.specs.Numbers.{mode_of}
use Rattle.lazbendix_c.specs.declared.handles.Handle.{Handle}
use Rattle.lazbendix_c.specs.declared.told_faults.ToldFault.{ToldFault}
use Rattle.logged_calls.specs.CallBytes.{call_size, calls_from}
use Rattle.std.specs.Prelude.{List, None, Some, pos, ℕ, ℤ, ◌*◌, ◌≡◌, ◌≢◌}

-- the handle was closed, and is open on the home of the script, in the mode of this model and this
-- scheduler, on which the calls of the log were made
pub record HasReopened (bytes log : List ℕ) (model scheduler : ℕ)
    (before after : Handle) : Type 0 where
  pub mode : Mode
  pub home : LiveState
  pub was : IsClosed before
  pub chosen : mode_of model scheduler ≡ Some mode
  pub is : after.home.state ≡ Some home
  pub rebuilt : IsRebuilt bytes mode (calls_from log) home

-- the home refuses the call behind these bytes of the log
pub record IsNoCall (bytes log : List ℕ) (model scheduler good : ℕ) : Type 0 where
  pub mode : Mode
  pub at : ℕ
  pub chosen : mode_of model scheduler ≡ Some mode
  pub refused : IsRefusedAt bytes mode (calls_from log) at
  pub good_is : good ≡ call_size * at

-- why no home is opened again, as the status tells, with the fault of a script that is refused, and
-- the bytes before a call that is
pub data IsNoReopening (bytes log : List ℕ) (model scheduler : ℕ) (handle : Handle)
    (told : ToldFault) (good : ℕ) (status : ℤ) : Type 0 where
  WasOpen : (was : IsOpen handle) (is : status ≡ pos 2)
      → IsNoReopening bytes log model scheduler handle told good status
  NoMode : (closed : IsClosed handle) (none : mode_of model scheduler ≡ None) (is : status ≡ pos 4)
      → IsNoReopening bytes log model scheduler handle told good status
  IsRefused : (closed : IsClosed handle) (goes : mode_of model scheduler ≢ None)
      (why : IsRefusal bytes told) (is : status ≡ pos 3)
      → IsNoReopening bytes log model scheduler handle told good status
  RefusesCall : (closed : IsClosed handle) (why : IsNoCall bytes log model scheduler good)
      (is : status ≡ pos 19) → IsNoReopening bytes log model scheduler handle told good status
  NoMemory : (closed : IsClosed handle) (goes : mode_of model scheduler ≢ None)
      (is : status ≡ pos 5) → IsNoReopening bytes log model scheduler handle told good status
