-- What a C program is told of an open window beside its steps, and the version of the library.
use Rattle.blocked_runs.specs.RunBits.{has_run}
use Rattle.home_states.specs.LiveHomes.{IsWindowOpen, LiveState}
use Rattle.home_states.specs.Queries.{IsFinal, IsLent}
use Rattle.home_states.specs.Steps.{IsBlockedRun}
use Rattle.home_types.specs.declared.items.Item.{Item}
use Rattle.hub_table.specs.Tables.{SlipAndTask}
use Rattle.lazbendix_c.specs.Numbers.{device_number}
use Rattle.lazbendix_c.specs.Told.{item_of, out_turn}
use Rattle.lazbendix_c.specs.declared.told_turns.ToldItem.{ToldItem}
use Rattle.lazbendix_c.specs.declared.told_turns.ToldTurn.{ToldTurn}
use Rattle.std.specs.Prelude.{pos, true, ℕ, ℤ, ◌≡◌}

-- a window is open, and each run whose bit is set waits in it, at every moment, until another step
pub record AreKnownBlocked (s : LiveState) (word : ℕ) : Type 0 where
  pub is_open : IsWindowOpen s
  pub waits : (r : ℕ) → has_run word r ≡ true → IsBlockedRun s r

-- this is told of the call for which the device is out
pub record IsToldLent (s : LiveState) (device : ℕ) (told : ToldTurn) : Type 0 where
  pub out : SlipAndTask
  pub lent : IsLent s (device_number device) out
  pub told_is : told ≡ out_turn out.0 out.1

-- this is told of the final item at the place
pub record IsToldFinal (s : LiveState) (at : ℕ) (told : ToldItem) : Type 0 where
  pub item : Item
  pub final : IsFinal s at item
  pub told_is : told ≡ item_of item

-- the version 1.1.0
abbrev pub version : ℤ
version = pos 1001000
