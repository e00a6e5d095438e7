-- The moments that a history tells: those of its arrivals, placings and revocations.
use Rattle.history_book.specs.declared.entries.Cause.TheVariants.{DownAtEnd, Lost, MustDown, Refuted, Revoked}
use Rattle.history_book.specs.declared.entries.Cause.{Cause}
use Rattle.history_book.specs.declared.entries.Entry.TheVariants.{Arrived, Did, Doomed, Ended, Fell, Placed, Rose, Undid}
use Rattle.history_book.specs.declared.entries.Entry.{Entry}
use Rattle.history_book.specs.declared.entries.Kept.{Kept}
use Rattle.home_types.specs.Numbers.{Moment}
use Rattle.std.specs.List.{All}
use Rattle.std.specs.Prelude.{IfSome, List, None, Option, Some, ◌≤◌}

abbrev pub revoked_at : Cause → Option Moment
revoked_at (MustDown c) = None
revoked_at (Refuted c x) = None
revoked_at (Lost d) = None
revoked_at (Revoked lender d deadline moment) = Some moment
revoked_at (DownAtEnd d) = None

-- the moment that the entry tells, where it tells one. The end of a revoked run repeats what its
-- doom told
abbrev pub moment_told : Entry → Option Moment
moment_told (Arrived r moment) = Some moment
moment_told (Placed r at moment) = Some moment
moment_told (Did r c answer) = None
moment_told (Undid r d drove) = None
moment_told (Fell d) = None
moment_told (Rose d) = None
moment_told (Doomed r cause) = revoked_at cause
moment_told (Ended r end) = None

-- a moment that the entry tells is from this one to that one
abbrev pub TellsWithin : Moment → Moment → Kept → Type 0
TellsWithin earliest latest kept =
    IfSome (moment_told kept.entry) (λ m. (earliest ≤ m) × (m ≤ latest))

-- .. and so is each moment that the history tells
abbrev pub AreWithin : Moment → Moment → List Kept → Type 0
AreWithin earliest latest history = All (TellsWithin earliest latest) history
