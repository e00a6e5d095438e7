-- The run that is lost where a device fails, and the run before which its event stands, as the
-- device's lineage has them.
use Rattle.device_order.specs.Usages.{is_up}
use Rattle.home_types.specs.Numbers.{RunId}
use Rattle.lineage_table.specs.Accesses.{is_acquired, is_scheduled}
use Rattle.lineage_table.specs.Lineages.{LineageState}
use Rattle.lineage_table.specs.declared.accesses.Access.{Access}
use Rattle.std.specs.Prelude.{Bool, Option, find, not, option_map, ◌&&◌}

-- the access is acquired by a run that sees the device up
abbrev pub is_lost_access : Access → Bool
is_lost_access x = is_acquired x.status && is_up x.view

-- the run of the first such access
abbrev pub lost_on : LineageState → Option RunId
lost_on s = option_map (λ x. x.run.0) (find is_lost_access s.accesses)

-- the access waits for its first answer, and its run is not doomed
abbrev pub is_access_waiting : (RunId → Bool) → Access → Bool
is_access_waiting is_doomed x = is_scheduled x.status && not (is_doomed x.run.0)

-- the run of the first such access
abbrev pub first_waiting_run : (RunId → Bool) → LineageState → Option RunId
first_waiting_run is_doomed s =
    option_map (λ x. x.run.0) (find (is_access_waiting is_doomed) s.accesses)
