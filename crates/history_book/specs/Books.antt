-- What a history tells of the placing, the answers, the doom and the end of a run.
use Rattle.history_book.specs.declared.entries.Cause.{Cause}
use Rattle.history_book.specs.declared.entries.End.{End}
use Rattle.history_book.specs.declared.entries.Entry.TheVariants.{Arrived, Did, Doomed, Ended, Fell, Placed, Rose, Undid}
use Rattle.history_book.specs.declared.entries.Entry.{Entry}
use Rattle.history_book.specs.declared.entries.Kept.{Kept}
use Rattle.home_types.specs.Numbers.{LinePlace, RunId}
use Rattle.std.specs.List.{position}
use Rattle.std.specs.Option.{option_or}
use Rattle.std.specs.Prelude.{Bool, List, None, Option, Some, [], count_by, false, if◌then◌else◌, is_some, ℕ, ◌==◌, ◌∷◌}

-- what the first entry that tells something tells
abbrev pub first_told : {T : Type 0} → (Entry → Option T) → List Kept → Option T
first_told told [] = None
first_told told (kept ∷ history) = option_or (told kept.entry) (first_told told history)

-- the place of that entry
abbrev pub first_told_place : {T : Type 0} → (Entry → Option T) → List Kept → Option ℕ
first_told_place told history = position (λ k. is_some (told k.entry)) history

-- the end of the run, where the entry is its end
abbrev pub end_in : RunId → Entry → Option End
end_in r (Arrived q m) = None
end_in r (Placed q place m) = None
end_in r (Did q c a) = None
end_in r (Undid q d drove) = None
end_in r (Fell d) = None
end_in r (Rose d) = None
end_in r (Doomed q cause) = None
end_in r (Ended q end) = if q.0 == r then Some end else None

-- the cause, where the entry dooms the run
abbrev pub doom_in : RunId → Entry → Option Cause
doom_in r (Arrived q m) = None
doom_in r (Placed q place m) = None
doom_in r (Did q c a) = None
doom_in r (Undid q d drove) = None
doom_in r (Fell d) = None
doom_in r (Rose d) = None
doom_in r (Doomed q cause) = if q.0 == r then Some cause else None
doom_in r (Ended q end) = None

-- the place in the line, where the entry places the run
abbrev pub placing_in : RunId → Entry → Option LinePlace
placing_in r (Arrived q m) = None
placing_in r (Placed q place m) = if q.0 == r then Some place else None
placing_in r (Did q c a) = None
placing_in r (Undid q d drove) = None
placing_in r (Fell d) = None
placing_in r (Rose d) = None
placing_in r (Doomed q cause) = None
placing_in r (Ended q end) = None

-- the entry answers a command of the run
abbrev pub is_answer_of : RunId → Entry → Bool
is_answer_of r (Arrived q m) = false
is_answer_of r (Placed q place m) = false
is_answer_of r (Did q c a) = q.0 == r
is_answer_of r (Undid q d drove) = false
is_answer_of r (Fell d) = false
is_answer_of r (Rose d) = false
is_answer_of r (Doomed q cause) = false
is_answer_of r (Ended q end) = false

-- the end of the run
abbrev pub end_of : List Kept → RunId → Option End
end_of history r = first_told (end_in r) history

-- the cause with which the run was doomed
abbrev pub doom_of : List Kept → RunId → Option Cause
doom_of history r = first_told (doom_in r) history

-- the number of entries before the run was placed
abbrev pub placing_of : List Kept → RunId → Option ℕ
placing_of history r = first_told_place (placing_in r) history

-- how many answers the run has
abbrev pub answer_count : List Kept → RunId → ℕ
answer_count history r = count_by (λ k. is_answer_of r k.entry) history
