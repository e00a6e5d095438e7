-- The line of a run. A run that is committed is told by its answers, one that was aborted by none.
use Rattle.home_types.specs.declared.commands.Answer.{Answer}
use Rattle.home_types.specs.declared.commands.Command.{Command}
use Rattle.order_checker.specs.Steps.{required, walk, ◌>>=◌}
use Rattle.order_checker.specs.Values.{answer_of, is_device, value_at}
use Rattle.order_checker.specs.Words.{is_number, number_of, words_of}
use Rattle.order_checker.specs.declared.verdicts.Place.TheVariants.{Run}
use Rattle.order_checker.specs.declared.verdicts.Place.{Place}
use Rattle.command_rules.specs.Rosters.{run_no}
use Rattle.routine_reader.specs.declared.scripts.DeviceText.{DeviceText}
use Rattle.std.specs.Option.{option_map_or}
use Rattle.std.specs.Prelude.{Bool, Err, List, None, Ok, Option, Result, Some, [], codes, false, if◌then◌else◌, is_some, length, nat_le, ok_or, option_and_then, slice_get, slice_index_or, suc, zero, ℕ, ◌&&◌, ◌++◌, ◌-◌, ◌==◌, ◌||◌, ◌∷◌}
use Rattle.std.specs.Str.{bytes_eq}

-- ---- causes

-- the command of this number, from 1
abbrev pub command_numbered : List Command → ℕ → Option Command
command_numbered commands zero = None
command_numbered commands (suc i) = slice_get commands i

-- the command of the routine whose number the word is
abbrev pub command_named : List Command → List ℕ → Option Command
command_named commands word = option_and_then (command_numbered commands) (number_of word)

-- the word is a value of the device of that command
abbrev pub is_value_of : List DeviceText → Option Command → List ℕ → Bool
is_value_of devices command word =
    option_map_or (λ c. is_some (value_at devices c.device.0 word)) command false

-- the word is the number of one of so many runs
abbrev pub is_run_among : ℕ → List ℕ → Bool
is_run_among runs word = option_map_or (λ r. nat_le 1 r && nat_le r runs) (number_of word) false

-- the two words are this one and a number
abbrev pub are_number_words : List ℕ → List ℕ → List ℕ → Bool
are_number_words text word number = bytes_eq word text && is_some (number_of number)

-- the two words are `by` and one of so many runs
abbrev pub are_lender_words : ℕ → List ℕ → List ℕ → Bool
are_lender_words runs by lender = bytes_eq by (codes "by") && is_run_among runs lender

-- behind `must`: a command
abbrev pub are_must_words : List Command → List (List ℕ) → Bool
are_must_words commands (number ∷ []) = is_some (command_named commands number)
are_must_words commands words = false

-- behind `refuted`: a command, and the value that it found
abbrev pub are_refuted_words : List DeviceText → List Command → List (List ℕ) → Bool
are_refuted_words devices commands (number ∷ found ∷ value ∷ []) =
    bytes_eq found (codes "found") && is_value_of devices (command_named commands number) value
are_refuted_words devices commands words = false

-- behind `revoked`: the device, the run that lent it, the deadline, and the moment
abbrev pub are_revoked_words : List DeviceText → ℕ → List (List ℕ) → Bool
are_revoked_words devices runs (device ∷ by ∷ lender ∷ deadline ∷ end ∷ at ∷ moment ∷ []) =
    is_device devices device && are_lender_words runs by lender
    && (are_number_words (codes "deadline") deadline end && are_number_words (codes "at") at moment)
are_revoked_words devices runs words = false

-- behind `lost` and `downatend`: a device
abbrev pub are_device_words : List DeviceText → List (List ℕ) → Bool
are_device_words devices (device ∷ []) = is_device devices device
are_device_words devices words = false

-- the words have the form of a cause; whether it is true is not asked
abbrev pub is_cause : List DeviceText → ℕ → List Command → List (List ℕ) → Bool
is_cause devices runs commands [] = false
is_cause devices runs commands (kind ∷ words) =
    if bytes_eq kind (codes "must") then are_must_words commands words
    else (if bytes_eq kind (codes "refuted") then are_refuted_words devices commands words
    else (if bytes_eq kind (codes "revoked") then are_revoked_words devices runs words
    else ((bytes_eq kind (codes "lost") || bytes_eq kind (codes "downatend"))
    && are_device_words devices words)))

-- ---- answers

-- the answer to the next command
abbrev pub next_answer : List DeviceText → List (List ℕ) → Place → List Answer → Command
    → Result (List Answer) Place
next_answer devices words place earlier c = do
  answer ← ok_or (answer_of devices c (slice_index_or words (length earlier) [])) place
  Ok (earlier ++ answer ∷ [])

-- an answer to each command
unfoldable pub answers_told : List DeviceText → List Command → List (List ℕ) → Place
    → Result (List Answer) Place
answers_told devices commands words place = do
  as_many ← required (length words == length commands) place
  walk (next_answer devices words place) [] commands

-- ---- the line

-- how the run ended: committed with its answers, or aborted with a cause
unfoldable pub end_told : List DeviceText → ℕ → List Command → List ℕ → List (List ℕ) → Place
    → Result (Option (List Answer)) Place
end_told devices runs commands how words place =
    if bytes_eq how (codes "committed") then
    (do
      answers ← answers_told devices commands words place
      Ok (Some answers))
    else
    (do
      aborted ← required (bytes_eq how (codes "aborted") && is_cause devices runs commands words)
          place
      Ok None)

-- the words of the line of a run: its number, the name of its routine, and how it ended
unfoldable pub run_words_told : List DeviceText → ℕ → ℕ → List ℕ → List Command → List (List ℕ)
    → Result (Option (List Answer)) Place
run_words_told devices runs r name commands (word ∷ number ∷ routine ∷ how ∷ words) = do
  this_run ← required (bytes_eq word (codes "run") && is_number r number && bytes_eq routine name)
      (Run (run_no r))
  end_told devices runs commands how words (Run (run_no r))
run_words_told devices runs r name commands words = Err (Run (run_no r))

-- the line of a run
abbrev pub run_told : List DeviceText → ℕ → ℕ → List ℕ → List Command → Option (List ℕ)
    → Result (Option (List Answer)) Place
run_told devices runs r name commands None = Err (Run (run_no r))
run_told devices runs r name commands (Some line) =
    run_words_told devices runs r name commands (words_of line)

-- ---- what the lines of the runs tell; a run's number counts from 1

-- the answers of a run that is committed
abbrev pub told_of : List (Option (List Answer)) → ℕ → Option (List Answer)
told_of ends r = if r == 0 then None else option_and_then (λ told. told) (slice_get ends (r - 1))

-- the run is committed
abbrev pub is_told_committed : List (Option (List Answer)) → ℕ → Bool
is_told_committed ends r = is_some (told_of ends r)
