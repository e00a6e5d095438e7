-- What a command or an item leaves of a refusal, and the devices of a run's commands.
use Rattle.serial_meaning.proofs.Prelude.{All, Execution, List, None, Option, Run, SerialRun, Some, [], arith, commands_of, execute, option_map, plain_run, refl, runs_of, serve, slice_get, slice_index_or, suc, true, unwrap_or, zero, ℕ, ◌≡◌}
use Rattle.command_rules.specs.declared.rosters.Roster.{Roster}
use Rattle.command_rules.specs.declared.rosters.RosterRun.{RosterRun}
use Rattle.home_types.specs.declared.commands.Command.{Command}
use Rattle.home_types.specs.declared.items.Item.TheVariants.{Back, Failed, Ran}
use Rattle.home_types.specs.declared.items.Item.{Item}
use Rattle.home_types.specs.declared.kinds.Kind.{Kind}
use Rattle.home_types.specs.declared.worlds.Stand.{Stand}
use Rattle.serial_meaning.specs.Conditions.{HasDevices, HasRosterDevices}
use Rattle.std.proofs.lemmas.Option.{get_or_from_slice_get, slice_get-map, slice_get_within}

-- an execution that is refused stays so at a command
pub execute_stays : (kinds : List Kind) (x : Execution) (c : Command) → x.refused ≡ true → (execute kinds x c).refused ≡ true
execute_stays kinds x c is = rw is refl

-- .. and at an item
pub serve_stays : (runs : List Run) (kinds : List Kind) (s : SerialRun) (item : Item) → s.refused ≡ true → (serve runs kinds s item).refused ≡ true
serve_stays runs kinds s (Ran r) is = rw is refl
serve_stays runs kinds s (Failed d k) is = rw is refl
serve_stays runs kinds s (Back d k) is = rw is refl

all_at : {X : Type 0} (P : X → Type 0) (xs : List X) (i : ℕ) (x : X) → All P xs → slice_get xs i ≡ Some x → P x
all_at P xs i x all at =
    let here : P (slice_index_or xs i x) = all i x (slice_get_within xs i x at) in
    rw (← get_or_from_slice_get xs i x x at) here

module _ (home : List Stand) (roster : Roster) (devices : HasRosterDevices home roster) where
  found_devices : (i : ℕ) (found : Option RosterRun) → slice_get roster.runs.items i ≡ found → HasDevices home (unwrap_or (option_map (λ run. run.commands) (option_map plain_run found)) [])
  found_devices i None at = λ k d within. let no_place : ⊥ = omega (arith, within) in absurd no_place
  found_devices i (Some run) at = all_at (λ run. HasDevices home run.routine.commands.items) roster.runs.items i run devices at

  -- each command of a run is on a device of the home
  pub run_devices : (r : ℕ) → HasDevices home (commands_of (runs_of roster) r)
  run_devices zero = λ k d within. let no_place : ⊥ = omega (arith, within) in absurd no_place
  run_devices (suc i) = rw (slice_get-map plain_run roster.runs.items i) (found_devices i (slice_get roster.runs.items i) refl)
