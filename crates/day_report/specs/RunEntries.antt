-- A window's history, apart by the runs of which its entries tell.
use Rattle.history_book.specs.declared.entries.Entry.TheVariants.{Arrived, Did, Doomed, Ended, Fell, Placed, Rose, Undid}
use Rattle.history_book.specs.declared.entries.Entry.{Entry}
use Rattle.history_book.specs.declared.entries.Kept.{Kept}
use Rattle.std.specs.Prelude.{List, [], filter, length, slice_index_or, ℕ, ◌+◌, ◌<◌, ◌==◌, ◌≡◌}

-- the run of whose answers or of whose end the entry tells; 0 where it tells of no such thing
abbrev pub run_told_of : Entry → ℕ
run_told_of (Arrived r moment) = 0
run_told_of (Placed r at moment) = 0
run_told_of (Did r c answer) = r.0
run_told_of (Undid r d drove) = 0
run_told_of (Fell d) = 0
run_told_of (Rose d) = 0
run_told_of (Doomed r cause) = 0
run_told_of (Ended r end) = r.0

-- the answers and the end of a run, in the order of the history
abbrev pub entries_of_run : ℕ → List Kept → List Kept
entries_of_run r history = filter (λ kept. run_told_of kept.entry == r) history

-- the entries of each run stand in the place of the run, those of run 1 first
abbrev pub AreApart : List (List Kept) → List Kept → Type 0
AreApart parts history =
    (k : ℕ) → k < length parts → slice_index_or parts k [] ≡ entries_of_run (k + 1) history
