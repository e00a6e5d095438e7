-- The command line that words are.
use Rattle.command_words.specs.OptionGrammar.{options_by_words}
use Rattle.command_words.specs.TrialNumbers.{trial_number}
use Rattle.command_words.specs.declared.command_lines.CommandLine.TheVariants.{Check, Keep, Replay, Run, Trial, Watch}
use Rattle.command_words.specs.declared.command_lines.CommandLine.{CommandLine}
use Rattle.std.specs.Prelude.{Bool, List, None, Option, Some, [], codes, false, if◌then◌else◌, option_map, ℕ, ◌||◌, ◌∷◌}
use Rattle.std.specs.Str.{bytes_eq}

-- nothing stands after `check`
abbrev pub check_of : List (List ℕ) → Option CommandLine
check_of [] = Some Check
check_of (word ∷ words) = None

-- one number stands after `trial`
abbrev pub trial_of : List (List ℕ) → Option CommandLine
trial_of [] = None
trial_of (word ∷ []) = option_map Trial (trial_number word)
trial_of (word ∷ next ∷ words) = None

-- what a command means with the words after it
abbrev pub command_of : List ℕ → List (List ℕ) → Option CommandLine
command_of command words =
    if bytes_eq command (codes "run") then option_map Run (options_by_words words)
    else (if bytes_eq command (codes "replay") then option_map Replay (options_by_words words)
    else (if bytes_eq command (codes "watch") then option_map Watch (options_by_words words)
    else (if bytes_eq command (codes "keep") then option_map Keep (options_by_words words)
    else (if bytes_eq command (codes "check") then check_of words
    else (if bytes_eq command (codes "trial") then trial_of words else None)))))

-- the command line that these words are: the first is the command
abbrev pub command_line_of : List (List ℕ) → Option CommandLine
command_line_of [] = None
command_line_of (command ∷ words) = command_of command words

-- the first word is a command that has options
abbrev pub has_options : List (List ℕ) → Bool
has_options [] = false
has_options (command ∷ words) =
    bytes_eq command (codes "run") || (bytes_eq command (codes "replay")
    || (bytes_eq command (codes "watch") || bytes_eq command (codes "keep")))
