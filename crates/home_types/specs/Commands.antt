-- The serial meaning of a command and of a whole routine.
use Rattle.home_types.specs.HomeStates.{stand_at}
use Rattle.home_types.specs.Kinds.{kind_at, nearest}
use Rattle.home_types.specs.declared.commands.Answer.{Answer}
use Rattle.home_types.specs.declared.commands.Answer.TheVariants.{Down, Fine, Found, Skipped}
use Rattle.home_types.specs.declared.commands.Command.{Command}
use Rattle.home_types.specs.declared.commands.Guard.{Guard}
use Rattle.home_types.specs.declared.commands.Guard.TheVariants.{Always, Below, Is}
use Rattle.home_types.specs.declared.commands.Job.{Job}
use Rattle.home_types.specs.declared.commands.Job.TheVariants.{Check, Load, Set, Store}
use Rattle.home_types.specs.declared.kinds.Kind.{Kind}
use Rattle.home_types.specs.declared.worlds.Stand.{Stand}
use Rattle.std.specs.Prelude.{Bool, List, [], false, fold, if◌then◌else◌, nat_lt, not, slice_set, true, ℕ, ◌&&◌, ◌++◌, ◌==◌, ◌||◌, ◌∷◌}

abbrev pub reads : Job → Bool
reads (Set v) = false
reads (Check v) = true
reads Load = true
reads Store = false

abbrev pub writes : Job → Bool
writes job = not (reads job)

-- the guard holds of a register with this value
abbrev pub holds : Guard → ℕ → Bool
holds Always register = true
holds (Is v) register = register == v
holds (Below v) register = nat_lt register v

abbrev pub is_always : Guard → Bool
is_always Always = true
is_always (Is v) = false
is_always (Below v) = false

-- what a command does: its answer, and then the register and where its device stands
pub record Effect : Type 0 where
  pub answer : Answer
  pub register : ℕ
  pub stand : Stand

abbrev pub up_at : ℕ → Stand
up_at v = record { value = v; up = true }

-- on a device that is up at the value x
abbrev pub up_effect : Kind → Job → ℕ → ℕ → Effect
up_effect kind (Set v) register x = record { answer = Fine; register = register; stand = up_at v }
up_effect kind (Check v) register x =
    record { answer = Found x; register = register; stand = up_at x }
up_effect kind Load register x = record { answer = Found x; register = x; stand = up_at x }
up_effect kind Store register x =
    record { answer = Fine; register = register; stand = up_at (nearest kind register) }

-- a device that is down answers so, and nothing changes
abbrev pub done_effect : Kind → Job → ℕ → Stand → Effect
done_effect kind job register s =
    if s.up then up_effect kind job register s.value
    else record { answer = Down; register = register; stand = s }

-- where the guard does not hold the command is skipped, and nothing changes, on an up or a down
-- device
abbrev pub command_effect : Kind → Guard → Job → ℕ → Stand → Effect
command_effect kind guard job register s =
    if holds guard register then done_effect kind job register s
    else record { answer = Skipped; register = register; stand = s }

-- a must command with this answer has failed: it is Down, or a check found another value
abbrev pub refutes : Job → Answer → Bool
refutes job Down = true
refutes job Fine = false
refutes job Skipped = false
refutes (Check v) (Found x) = not (x == v)
refutes (Set v) (Found x) = false
refutes Load (Found x) = false
refutes Store (Found x) = false

abbrev pub fails : Command → Answer → Bool
fails c a = c.must && refutes c.job a

-- the value that a write drives with this register; a job that reads drives none, and has 0 here
abbrev pub driven : Kind → Job → ℕ → ℕ
driven kind (Set v) register = v
driven kind (Check v) register = 0
driven kind Load register = 0
driven kind Store register = nearest kind register

-- what the answer to a job leaves in the register
abbrev pub register_after : Job → Answer → ℕ → ℕ
register_after Load (Found x) register = x
register_after Load Fine register = register
register_after Load Down register = register
register_after Load Skipped register = register
register_after (Set v) answer register = register
register_after (Check v) answer register = register
register_after Store answer register = register

-- a routine in execution; it goes on after a failed must command, and is then refused
pub record Execution : Type 0 where
  pub home : List Stand
  pub register : ℕ
  pub answers : List Answer
  pub refused : Bool

-- one more command has had its effect
abbrev pub with_effect : Execution → Command → Effect → Execution
with_effect x c e =
    record {
      home = slice_set x.home c.device.0 e.stand;
      register = e.register;
      answers = x.answers ++ e.answer ∷ [];
      refused = x.refused || fails c e.answer;
    }

abbrev pub execute : List Kind → Execution → Command → Execution
execute kinds x c =
    with_effect x c
    (command_effect (kind_at kinds c.device.0) c.when c.job x.register (stand_at x.home c.device.0))

-- the execution of a whole routine: its commands in order, from the register 0
abbrev pub routine_execution : List Kind → List Command → List Stand → Execution
routine_execution kinds commands home =
    fold (execute kinds)
    (record { home = home; register = 0; answers = []; refused = false }) commands
