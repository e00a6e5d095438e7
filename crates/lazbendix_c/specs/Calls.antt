-- What the calls of a C program do with the home behind its handle.
use Rattle.home_states.specs.LiveHomes.{BeginsAs, LiveState}
use Rattle.home_types.specs.declared.modes.Mode.{Mode}
use Rattle.lazbendix_c.specs.Faults.{fault_of}
use Rattle.lazbendix_c.specs.Numbers.{mode_of}
use Rattle.lazbendix_c.specs.declared.handles.Handle.{Handle}
use Rattle.lazbendix_c.specs.declared.told_faults.ToldFault.{ToldFault}
use Rattle.routine_reader.specs.Readings.{script_reading}
use Rattle.routine_reader.specs.declared.faults.ReadFault.{ReadFault}
use Rattle.std.specs.Prelude.{Err, List, None, Some, pos, ℕ, ℤ, ◌≡◌, ◌≢◌}

-- the handle is closed
abbrev pub IsClosed : Handle → Type 0
IsClosed handle = handle.home.state ≡ None

-- a home is behind the handle
abbrev pub IsOpen : Handle → Type 0
IsOpen handle = handle.home.state ≢ None

-- the home behind the handle is as it was, or there is none, as there was none
abbrev pub SameHome : Handle → Handle → Type 0
SameHome before after = after.home.state ≡ before.home.state

-- the handle was open, and stays open with its home changed so
pub record Changes (change : LiveState → LiveState → Type 0)
    (before after : Handle) : Type 0 where
  pub was : LiveState
  pub is : LiveState
  pub open_before : before.home.state ≡ Some was
  pub open_after : after.home.state ≡ Some is
  pub changed : change was is

-- the handle is open on a home of which this is so
pub record Shows (so : LiveState → Type 0) (handle : Handle) : Type 0 where
  pub home : LiveState
  pub is_open : handle.home.state ≡ Some home
  pub is_so : so home

-- the handle was closed, and is open on the home of the script in the mode of this model and this
-- scheduler
pub record HasOpenedHome (bytes : List ℕ) (model scheduler : ℕ)
    (before after : Handle) : Type 0 where
  pub mode : Mode
  pub home : LiveState
  pub was : IsClosed before
  pub chosen : mode_of model scheduler ≡ Some mode
  pub is : after.home.state ≡ Some home
  pub begins : BeginsAs bytes mode home

-- the fault tells why the script is refused
pub record IsRefusal (bytes : List ℕ) (told : ToldFault) : Type 0 where
  pub fault : ReadFault
  pub reading : script_reading bytes ≡ Err fault
  pub told_is : told ≡ fault_of fault

-- why no home is opened, as the status tells, and the fault of a script that is refused
pub data IsNoOpening (bytes : List ℕ) (model scheduler : ℕ) (handle : Handle) (told : ToldFault)
    (status : ℤ) : Type 0 where
  WasOpen : (was : IsOpen handle) (is : status ≡ pos 2)
      → IsNoOpening bytes model scheduler handle told status
  NoMode : (closed : IsClosed handle) (none : mode_of model scheduler ≡ None) (is : status ≡ pos 4)
      → IsNoOpening bytes model scheduler handle told status
  IsRefused : (closed : IsClosed handle) (goes : mode_of model scheduler ≢ None)
      (why : IsRefusal bytes told) (is : status ≡ pos 3)
      → IsNoOpening bytes model scheduler handle told status
  NoMemory : (closed : IsClosed handle) (goes : mode_of model scheduler ≢ None)
      (is : status ≡ pos 5) → IsNoOpening bytes model scheduler handle told status
