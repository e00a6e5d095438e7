-- What the entries of a history say of a run, in short; and with one entry more.
use Rattle.history_book.specs.Books.{answer_count, doom_of, end_of, first_told, placing_of}
use Rattle.history_book.specs.Readings.{OfRun}
use Rattle.history_book.specs.declared.entries.Entry.TheVariants.{Arrived, Did, Doomed, Ended, Fell, Placed, Rose, Undid}
use Rattle.history_book.specs.declared.entries.Entry.{Entry}
use Rattle.history_book.specs.declared.entries.Kept.{Kept}
use Rattle.history_book.specs.declared.progress.RunProgress.{RunProgress}
use Rattle.home_types.specs.Numbers.{Moment, RunId}
use Rattle.home_types.specs.declared.numbers.RunNo.{RunNo}
use Rattle.std.specs.Option.{option_or}
use Rattle.std.specs.Prelude.{Bool, List, None, Option, Some, false, if◌then◌else◌, length, nat_lt, option_map, slice_index_or, slice_set, unwrap_or, ℕ, ◌+◌, ◌==◌}

-- the run of which the entry tells
abbrev pub run_in : Entry → Option RunNo
run_in (Arrived r m) = Some r
run_in (Placed r at m) = Some r
run_in (Did r k a) = Some r
run_in (Undid r d drove) = Some r
run_in (Fell d) = None
run_in (Rose d) = None
run_in (Doomed r cause) = Some r
run_in (Ended r end) = Some r

abbrev pub tells_of : RunId → Entry → Bool
tells_of r e = unwrap_or (option_map (λ q. q.0 == r) (run_in e)) false

-- the moment, where the entry is the arrival of the run
abbrev pub arrival_in : RunId → Entry → Option Moment
arrival_in r (Arrived q m) = if q.0 == r then Some m else None
arrival_in r (Placed q at m) = None
arrival_in r (Did q k a) = None
arrival_in r (Undid q d drove) = None
arrival_in r (Fell d) = None
arrival_in r (Rose d) = None
arrival_in r (Doomed q cause) = None
arrival_in r (Ended q end) = None

-- when the run arrived
abbrev pub arrival_of : List Kept → RunId → Option Moment
arrival_of history r = first_told (arrival_in r) history

-- what the entries say of the run
abbrev pub progress_in : List Kept → RunId → RunProgress
progress_in history r = record {
  arrived = arrival_of history r;
  placed = placing_of history r;
  answered = answer_count history r;
  doomed = doom_of history r;
  ended = end_of history r;
}

-- nothing has happened to a run
abbrev pub nothing_done : RunProgress
nothing_done = record { arrived = None; placed = None; answered = 0; doomed = None; ended = None }

-- with one entry more of the run, before which so many stood: what was told before stays
abbrev pub progress_after : Entry → ℕ → RunProgress → RunProgress
progress_after (Arrived r m) before p = record p { arrived = option_or p.arrived (Some m) }
progress_after (Placed r at m) before p = record p { placed = option_or p.placed (Some before) }
progress_after (Did r k a) before p = record p { answered = p.answered + 1 }
progress_after (Undid r d drove) before p = p
progress_after (Fell d) before p = p
progress_after (Rose d) before p = p
progress_after (Doomed r cause) before p = record p { doomed = option_or p.doomed (Some cause) }
progress_after (Ended r end) before p = record p { ended = option_or p.ended (Some end) }

-- by the numbers of the runs, with one entry more of this run
abbrev pub noted : RunId → Entry → ℕ → List RunProgress → List RunProgress
noted r e before known =
    if nat_lt r (length known)
    then slice_set known r (progress_after e before (slice_index_or known r nothing_done))
    else known

-- what a reading says of a run, in short
abbrev pub progress_of : OfRun → RunProgress
progress_of o = record {
  arrived = o.arrived;
  placed = option_map (λ p. p.stamp) o.placed;
  answered = length o.answers;
  doomed = o.doomed;
  ended = o.ended;
}
