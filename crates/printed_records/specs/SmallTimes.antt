-- Times that are numbers of 64 bits, as they are in a record.
use Rattle.history_book.specs.Books.{end_of}
use Rattle.history_book.specs.declared.entries.Cause.TheVariants.{DownAtEnd, Lost, MustDown, Refuted, Revoked}
use Rattle.history_book.specs.declared.entries.Cause.{Cause}
use Rattle.history_book.specs.declared.entries.End.TheVariants.{Aborted}
use Rattle.history_book.specs.declared.entries.Entry.TheVariants.{Ended}
use Rattle.history_book.specs.declared.entries.Entry.{Entry}
use Rattle.history_book.specs.declared.entries.Kept.{Kept}
use Rattle.history_book.specs.declared.records.WindowRecord.{WindowRecord}
use Rattle.home_types.specs.Numbers.{RunId}
use Rattle.std.specs.List.{list_all}
use Rattle.std.specs.Prelude.{Bool, List, Some, nat_lt, slice_get, true, ℕ, ⊤, ◌&&◌, ◌<◌, ◌^◌, ◌≡◌}

-- the times that a cause names are below 2^64
abbrev pub IsSmall : Cause → Type 0
IsSmall (MustDown c) = ⊤
IsSmall (Refuted c x) = ⊤
IsSmall (Lost d) = ⊤
IsSmall (Revoked lender d deadline moment) = (deadline < 2 ^ 64) × (moment < 2 ^ 64)
IsSmall (DownAtEnd d) = ⊤

-- .. of each run that was aborted
abbrev pub CausesAreSmall : List Kept → Type 0
CausesAreSmall history =
    (r : RunId) (cause : Cause) → end_of history r ≡ Some (Aborted cause) → IsSmall cause

-- .. of each window
abbrev pub TimesAreSmall : List WindowRecord → Type 0
TimesAreSmall records =
    (k : ℕ) (closed : WindowRecord) → slice_get records k ≡ Some closed
    → CausesAreSmall closed.history.items

-- the entry is no end, or one with such times
abbrev pub is_small : Entry → Bool
is_small (Ended r (Aborted (Revoked lender d deadline moment))) =
    nat_lt deadline (2 ^ 64) && nat_lt moment (2 ^ 64)
is_small _ = true

-- .. each entry
abbrev pub are_small : List Kept → Bool
are_small history = list_all (λ kept. is_small kept.entry) history
