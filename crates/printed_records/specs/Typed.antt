-- Which answers and which causes a run may have, by the kinds of the devices and the commands of
-- the window's runs.
use Rattle.command_rules.specs.Rosters.{Run, command_at, commands_of}
use Rattle.history_book.specs.declared.entries.Cause.TheVariants.{DownAtEnd, Lost, MustDown, Refuted, Revoked}
use Rattle.history_book.specs.declared.entries.Cause.{Cause}
use Rattle.home_types.specs.Commands.{is_always, writes}
use Rattle.home_types.specs.Kinds.{has_value, kind_at}
use Rattle.home_types.specs.Numbers.{RunId}
use Rattle.home_types.specs.declared.commands.Answer.TheVariants.{Down, Fine, Found, Skipped}
use Rattle.home_types.specs.declared.commands.Answer.{Answer}
use Rattle.home_types.specs.declared.commands.Command.{Command}
use Rattle.home_types.specs.declared.kinds.Kind.{Kind}
use Rattle.std.specs.Prelude.{List, [], false, length, true, ⊤, ◌<◌, ◌^◌, ◌≡◌, ◌≤◌, ◌∷◌}

-- fine to a write, a value of its device to a read, down to any; skipped to one with a guard
abbrev pub IsTyped : List Kind → Command → Answer → Type 0
IsTyped kinds c Fine = writes c.job ≡ true
IsTyped kinds c (Found x) = (writes c.job ≡ false) × (has_value (kind_at kinds c.device.0) x ≡ true)
IsTyped kinds c Down = ⊤
IsTyped kinds c Skipped = is_always c.when ≡ false

-- an answer to each command, in order
unfoldable pub AreTyped : List Kind → List Command → List Answer → Type 0
AreTyped kinds [] [] = ⊤
AreTyped kinds [] (a ∷ answers) = ⊥
AreTyped kinds (c ∷ commands) [] = ⊥
AreTyped kinds (c ∷ commands) (a ∷ answers) = IsTyped kinds c a × AreTyped kinds commands answers

-- the cause names a command of the run, a value of that command's device, a device, or a run of the
-- window
abbrev pub IsCauseFor : List Kind → List Run → RunId → Cause → Type 0
IsCauseFor kinds runs r (MustDown c) = c < length (commands_of runs r)
IsCauseFor kinds runs r (Refuted c x) =
    (c < length (commands_of runs r))
    × (has_value (kind_at kinds (command_at runs r c).device.0) x ≡ true)
IsCauseFor kinds runs r (Lost d) = d.0 < length kinds
IsCauseFor kinds runs r (Revoked lender d deadline moment) =
    (1 ≤ lender.0) × (lender.0 ≤ length runs) × (d.0 < length kinds) × (deadline < 2 ^ 64)
    × (moment < 2 ^ 64)
IsCauseFor kinds runs r (DownAtEnd d) = d.0 < length kinds
