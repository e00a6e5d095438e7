-- The step of a run under the weak model that is placed: it waits for a device that is out, and for
-- nothing else, and ends at once where it is doomed.
use Rattle.command_rules.specs.Rosters.{run_no}
use Rattle.history_book.specs.Readings.{Reading, next_command, next_of}
use Rattle.history_book.specs.declared.entries.End.TheVariants.{Committed}
use Rattle.history_book.specs.declared.entries.Entry.TheVariants.{Ended}
use Rattle.home_types.specs.Commands.{holds}
use Rattle.home_types.specs.Numbers.{CommandIndex, RunId}
use Rattle.home_types.specs.declared.commands.Command.{Command}
use Rattle.hub_core.specs.Steps.{Choice, HandsOut, Moves, Over, Waits, aborts, down_entries, first_case, only_if, skip_entries}
use Rattle.hub_core.specs.declared.waits.Why.TheVariants.{Busy}
use Rattle.lock_leasing.specs.Configurations.{Grips, Point, is_out}
use Rattle.lock_leasing.specs.declared.purposes.Purpose.TheVariants.{Commands}
use Rattle.std.specs.Prelude.{[], if◌then◌else◌, not, option_map, ◌∷◌}

-- the next command, with the number k: it is skipped, its device is out, the answer is Down with no
-- call, or the device goes out
abbrev pub weak_command : Reading → Grips → RunId → CommandIndex → Command → Choice
weak_command n g r k c =
    if holds c.when (n.run r).register
    then first_case (only_if (is_out g c.device.0) (Waits (Busy c.device)) ∷ only_if
    (not (n.up c.device.0)) (Moves (down_entries r k c)) ∷ []) (HandsOut c.device.0 (Commands k))
    else Moves (skip_entries r k)

-- what a run does that is placed and has not ended: it ends where it is doomed, else has its next
-- command, and at last commits
abbrev pub weak_rest : Point → RunId → Choice
weak_rest p r =
    first_case (option_map (aborts r) (p.reading.run r).doomed
    ∷ option_map (weak_command p.reading p.grips r (next_of p.reading r))
    (next_command p.setting p.reading r) ∷ [])
    (Over Committed (Ended (run_no r) Committed ∷ []))
