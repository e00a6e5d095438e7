-- The steps of a window as a C program makes them.
use Rattle.device_gate.specs.declared.slips.Told.{Told}
use Rattle.history_book.specs.declared.entries.Entry.{Entry}
use Rattle.home_states.specs.LiveHomes.{IsWindowOpen, LiveState, hub_in}
use Rattle.home_states.specs.Steps.{HasAnswered, HasNextNumber, HasProbed, HasTaken, IsBlockedRun, left_to_do}
use Rattle.home_states.specs.Tickets.{call_told}
use Rattle.hub_core.specs.declared.refusals.NotQuiet.{NotQuiet}
use Rattle.hub_table.specs.Tables.{SlipAndTask}
use Rattle.hub_table.specs.declared.told.Taken.{Taken}
use Rattle.lazbendix_c.specs.Numbers.{device_number, told_as}
use Rattle.lazbendix_c.specs.Told.{left_of, made_of, out_turn, turn_of}
use Rattle.lazbendix_c.specs.declared.told_entries.ToldMade.{ToldMade}
use Rattle.lazbendix_c.specs.declared.told_turns.ToldLeft.{ToldLeft}
use Rattle.lazbendix_c.specs.declared.told_turns.ToldTurn.{ToldTurn}
use Rattle.std.specs.Prelude.{Bool, IsTrue, List, Option, Some, if◌then◌else◌, ℕ, ◌≡◌, ◌≤◌}

abbrev pub one_where : Bool → ℕ
one_where so = (if so then 1 else 0)

-- the step of the run was made, and this is told of it, with its entries, three at most; a call
-- that goes out has the home's next ticket
pub record HasStepped (s : LiveState) (run now : ℕ) (told : ToldTurn) (t : LiveState) : Type 0 where
  pub taken : Taken
  pub step : HasTaken s run now taken t
  pub number : HasNextNumber s (call_told taken) t
  pub told_is : told ≡ turn_of run taken
  pub few : told.made.count ≤ 3

-- the answer was taken, and these are the entries that it made, three at most
pub record HasGiven (s : LiveState) (device ticket answer value now : ℕ) (told : ToldMade)
    (t : LiveState) : Type 0 where
  pub heard : Told
  pub made : List Entry
  pub means : told_as answer value ≡ Some heard
  pub answered : HasAnswered s (device_number device) ticket heard now made t
  pub told_is : told ≡ made_of made
  pub few : told.count ≤ 3

-- a probe of the device went out, with the home's next ticket, and this is told of it
pub record HasSent (s : LiveState) (device : ℕ) (told : ToldTurn) (t : LiveState) : Type 0 where
  pub out : SlipAndTask
  pub probed : HasProbed s (device_number device) (Some out) t
  pub number : HasNextNumber s (Some out) t
  pub told_is : told ≡ out_turn out.0 out.1

-- a window is open, and 1 is told of a run that is known to be blocked: it waits there at every
-- moment, until another step; 0 is told of another one
pub record IsKnownBlocked (s : LiveState) (run told : ℕ) : Type 0 where
  pub opened : IsWindowOpen s
  pub known : Bool
  pub told_is : told ≡ one_where known
  pub waits : IsTrue known → IsBlockedRun s run

-- this is told of what is left to do in the window that is open
pub record HasLeft (s : LiveState) (told : ToldLeft) : Type 0 where
  pub why : Option NotQuiet
  pub left : left_to_do (hub_in s) ≡ Some why
  pub told_is : told ≡ left_of why
