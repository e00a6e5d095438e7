use Rattle.hub_commands.proofs.divisions.divide.Given as goal
use Rattle.hub_commands.specs.Divisions.{division_of, with_script_line}
use Rattle.hub_commands.proofs.Prelude.{drop, length, take, ◌-◌, ◌≡◌, ◌≤◌}

-- the lines so far are of the script
abbrev pub invariant-lines : goal.invariant-lines
invariant-lines l = record {
  within : l.at ≤ length l.text;
  so_far : division_of l.text ≡ with_script_line (take l.at l.text) (division_of (drop l.at l.text));
}

abbrev pub decreases-lines : goal.decreases-lines
decreases-lines l = length l.text - l.at
