-- For what a run is doomed by the answer to one of its commands.
use Rattle.command_rules.specs.Rosters.{command_at}
use Rattle.history_book.specs.Readings.{Reading, is_doomed}
use Rattle.history_book.specs.Settings.{Setting}
use Rattle.history_book.specs.declared.entries.Cause.TheVariants.{Lost, MustDown, Refuted}
use Rattle.history_book.specs.declared.entries.Cause.{Cause}
use Rattle.home_types.specs.Commands.{fails}
use Rattle.home_types.specs.Numbers.{CommandIndex, RunId}
use Rattle.home_types.specs.declared.commands.Answer.TheVariants.{Down, Fine, Found, Skipped}
use Rattle.home_types.specs.declared.commands.Answer.{Answer}
use Rattle.std.specs.Prelude.{Bool, None, Option, Some, if◌then◌else◌, not, ◌&&◌}

-- for what the run is doomed with this answer to its command k: a must check that found another
-- value, where the run is not doomed yet
abbrev pub refuted_by : Setting → Reading → RunId → CommandIndex → Answer → Option Cause
refuted_by w n r k Fine = None
refuted_by w n r k (Found x) =
    if fails (command_at w.runs r k) (Found x) && not (is_doomed n r) then Some (Refuted k x)
    else None
refuted_by w n r k Down = None
refuted_by w n r k Skipped = None

-- for what the run is doomed whose command k died, the first one on its device or a later one: a
-- first one fails only where it must not, a later access is lost; a run that is doomed already is
-- not doomed again
abbrev pub died_by : Setting → Reading → RunId → CommandIndex → Bool → Option Cause
died_by w n r k first =
    if is_doomed n r then None
    else (if first then (if (command_at w.runs r k).must then Some (MustDown k) else None)
    else Some (Lost (command_at w.runs r k).device))
