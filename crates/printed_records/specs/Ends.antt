-- How the runs of a window ended, by its history.
use Rattle.history_book.specs.Books.{end_of}
use Rattle.history_book.specs.declared.entries.End.TheVariants.{Aborted, Committed}
use Rattle.history_book.specs.declared.entries.End.{End}
use Rattle.history_book.specs.declared.entries.Entry.TheVariants.{Arrived, Did, Doomed, Ended, Fell, Placed, Rose, Undid}
use Rattle.history_book.specs.declared.entries.Entry.{Entry}
use Rattle.history_book.specs.declared.entries.Kept.{Kept}
use Rattle.home_types.specs.Numbers.{CommandIndex, RunId}
use Rattle.home_types.specs.declared.commands.Answer.{Answer}
use Rattle.routine_reader.specs.declared.scripts.WindowText.{WindowText}
use Rattle.std.specs.List.{enumerate_from, filter_map}
use Rattle.std.specs.Prelude.{List, None, Option, Some, if◌then◌else◌, map, ◌==◌, ◌≡◌}

-- the answer, where the entry is one of the run
abbrev pub answer_in : RunId → Entry → Option Answer
answer_in r (Arrived q m) = None
answer_in r (Placed q place m) = None
answer_in r (Did q c a) = if q.0 == r then Some a else None
answer_in r (Undid q d drove) = None
answer_in r (Fell d) = None
answer_in r (Rose d) = None
answer_in r (Doomed q cause) = None
answer_in r (Ended q end) = None

-- the answers of a run, in the order of the history
unfoldable pub answers_of_run : RunId → List Kept → List Answer
answers_of_run r history = filter_map (λ kept. answer_in r kept.entry) history

-- the command's number and the answer, where the entry is one of the run
abbrev pub numbered_in : RunId → Entry → Option (CommandIndex × Answer)
numbered_in r (Arrived q m) = None
numbered_in r (Placed q place m) = None
numbered_in r (Did q c a) = if q.0 == r then Some (c, a) else None
numbered_in r (Undid q d drove) = None
numbered_in r (Fell d) = None
numbered_in r (Rose d) = None
numbered_in r (Doomed q cause) = None
numbered_in r (Ended q end) = None

-- the answers of a run with the numbers of their commands, in the order of the history
unfoldable pub numbered_answers : RunId → List Kept → List (CommandIndex × Answer)
numbered_answers r history = filter_map (λ kept. numbered_in r kept.entry) history

-- the answers of a run stand in the order of its commands
abbrev pub AnswersInOrder : RunId → List Kept → Type 0
AnswersInOrder r history = numbered_answers r history ≡ enumerate_from 0 (answers_of_run r history)

-- the answers of a run that is committed, none of another
abbrev pub told_end : RunId → List Kept → Option End → Option (List Answer)
told_end r history None = None
told_end r history (Some Committed) = Some (answers_of_run r history)
told_end r history (Some (Aborted cause)) = None

-- the same of each run of the window, from 1
unfoldable pub ends_told : WindowText → List Kept → List (Option (List Answer))
ends_told window history =
    map (λ (r, run). told_end r history (end_of history r)) (enumerate_from 1 window.runs.items)
