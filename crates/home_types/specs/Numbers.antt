-- What kind of number a definition wants. Each of these is a plain number.
use Rattle.std.specs.Prelude.{ℕ}

-- a run of a window, counted from 1
abbrev pub RunId : Type 0
RunId = ℕ

-- who makes a step: a run, or 0, the detector
abbrev pub ActorId : Type 0
ActorId = ℕ

-- a device of the home, counted from 0
abbrev pub DeviceId : Type 0
DeviceId = ℕ

-- a command of a routine, counted from 0
abbrev pub CommandIndex : Type 0
CommandIndex = ℕ

-- a place in the line, counted from 0: so many items stand before it
abbrev pub LinePlace : Type 0
LinePlace = ℕ

-- a time of a window, or one that is planned, in ms
abbrev pub Moment : Type 0
Moment = ℕ
