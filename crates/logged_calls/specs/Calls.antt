-- What is asked of a call that is logged.
use Rattle.day_clock.specs.Times.{IsCivilTime}
use Rattle.device_gate.specs.declared.slips.Told.TheVariants.{Died, Sensed, Worked}
use Rattle.device_gate.specs.declared.slips.Told.{Told}
use Rattle.home_types.specs.declared.numbers.RunNo.{RunNo}
use Rattle.logged_calls.specs.declared.calls.Logged.TheVariants.{Added, Began, Closed, Gave, Lost, Opened, Probed, Restood, Took}
use Rattle.logged_calls.specs.declared.calls.Logged.{Logged}
use Rattle.std.specs.Prelude.{None, Option, Some, ◌<◌, ◌^◌}

-- a window is begun at a time whose fields are in their ranges
abbrev pub HasCivilTime : Logged → Type 0
HasCivilTime (Began at rounds) = IsCivilTime at
HasCivilTime (Added routine follows) = Unit {0}
HasCivilTime (Opened number) = Unit {0}
HasCivilTime (Took run moment) = Unit {0}
HasCivilTime (Gave device ticket told moment) = Unit {0}
HasCivilTime (Probed device) = Unit {0}
HasCivilTime Closed = Unit {0}
HasCivilTime (Restood device value) = Unit {0}
HasCivilTime (Lost device) = Unit {0}

-- the run that is followed, where there is one, has a number of 32 bits
abbrev pub FollowFits : Option RunNo → Type 0
FollowFits None = Unit {0}
FollowFits (Some run) = run.0 < 2 ^ 32

-- the value that was sensed, where one was, has 32 bits
abbrev pub ToldFits : Told → Type 0
ToldFits Worked = Unit {0}
ToldFits (Sensed value) = value < 2 ^ 32
ToldFits Died = Unit {0}

-- each number of the call has the bits of its type
abbrev pub FitsItsTypes : Logged → Type 0
FitsItsTypes (Began at rounds) = rounds < 2 ^ 32
FitsItsTypes (Added routine follows) = (routine < 2 ^ 32) × FollowFits follows
FitsItsTypes (Opened number) = number < 2 ^ 32
FitsItsTypes (Took run moment) = (run.0 < 2 ^ 32) × (moment < 2 ^ 64)
FitsItsTypes (Gave device ticket told moment) =
    (device.0 < 2 ^ 16) × (ticket < 2 ^ 64) × ToldFits told × (moment < 2 ^ 64)
FitsItsTypes (Probed device) = device.0 < 2 ^ 16
FitsItsTypes Closed = Unit {0}
FitsItsTypes (Restood device value) = (device.0 < 2 ^ 16) × (value < 2 ^ 32)
FitsItsTypes (Lost device) = device.0 < 2 ^ 16

-- a call that is read back from its bytes: what is asked of each that is written
abbrev pub IsLoggable : Logged → Type 0
IsLoggable call = HasCivilTime call × FitsItsTypes call
