-- A run's commands, and the run that it follows, by its place in the roster.
use Rattle.command_rules.proofs.Prelude.{IsTrue, RosterRun, Some, ap, arith, commands_of, followed_by, is_run, plain_run, refl, runs_of, slice_get, suc, zero, ℕ, ◌-◌, ◌∙◌, ◌≡◌}
use Rattle.command_rules.specs.declared.rosters.Roster.{Roster}
use Rattle.std.proofs.lemmas.Option.{slice_get-map}

-- the run at the place i has the number after it
pub commands_at : (roster : Roster) (i : ℕ) (run : RosterRun) → slice_get roster.runs.items i ≡ Some run → commands_of (runs_of roster) (suc i) ≡ run.routine.commands.items
commands_at roster i run found = rw (slice_get-map plain_run roster.runs.items i, found) refl

-- .. and follows that run
pub leader_at : (roster : Roster) (i : ℕ) (run : RosterRun) → slice_get roster.runs.items i ≡ Some run → followed_by (runs_of roster) (suc i) ≡ run.follows
leader_at roster i run found = rw (slice_get-map plain_run roster.runs.items i, found) refl

-- the run with the number r stands at the place before r
pub commands_of-run : (roster : Roster) (r : ℕ) (run : RosterRun) → IsTrue (is_run (runs_of roster) r) → slice_get roster.runs.items (r - 1) ≡ Some run → commands_of (runs_of roster) r ≡ run.routine.commands.items
commands_of-run roster zero run there at = cc
commands_of-run roster (suc i) run there at =
    let same : i ≡ suc i - 1 = omega arith in
    commands_at roster i run (ap (slice_get roster.runs.items) same ∙ at)

pub followed_by-run : (roster : Roster) (r : ℕ) (run : RosterRun) → IsTrue (is_run (runs_of roster) r) → slice_get roster.runs.items (r - 1) ≡ Some run → run.follows ≡ followed_by (runs_of roster) r
followed_by-run roster zero run there at = absurd (cc)
followed_by-run roster (suc i) run there at =
    let same : i ≡ suc i - 1 = omega arith in
    let found : slice_get roster.runs.items i ≡ Some run = ap (slice_get roster.runs.items) same ∙ at in
    rw (slice_get-map plain_run roster.runs.items i, found) refl
