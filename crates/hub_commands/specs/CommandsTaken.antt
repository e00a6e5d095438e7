-- Which commands each of the four calls takes.
use Rattle.command_words.specs.CommandLines.{command_line_of}
use Rattle.command_words.specs.declared.command_lines.CommandLine.TheVariants.{Check, Keep, Replay, Run, Trial, Watch}
use Rattle.command_words.specs.declared.command_lines.CommandLine.{CommandLine}
use Rattle.command_words.specs.declared.command_lines.Options.{Options}
use Rattle.hub_commands.specs.declared.day_words.DayCall.TheVariants.{Keeps, Runs, Watches}
use Rattle.hub_commands.specs.declared.day_words.DayCall.{DayCall}
use Rattle.std.specs.Prelude.{List, None, Option, Some, option_and_then, ℕ, ◌≡◌}

-- every command but `run`, `watch` and `keep`
abbrev pub still_line : CommandLine → Option CommandLine
still_line (Run options) = None
still_line (Replay options) = Some (Replay options)
still_line (Watch options) = None
still_line (Keep options) = None
still_line Check = Some Check
still_line (Trial n) = Some (Trial n)

-- `run` alone
abbrev pub run_line : CommandLine → Option CommandLine
run_line (Run options) = Some (Run options)
run_line (Replay options) = None
run_line (Watch options) = None
run_line (Keep options) = None
run_line Check = None
run_line (Trial n) = None

-- `watch` alone
abbrev pub watch_line : CommandLine → Option CommandLine
watch_line (Run options) = None
watch_line (Replay options) = None
watch_line (Watch options) = Some (Watch options)
watch_line (Keep options) = None
watch_line Check = None
watch_line (Trial n) = None

-- the options of `keep`
abbrev pub keep_options : CommandLine → Option Options
keep_options (Run options) = None
keep_options (Replay options) = None
keep_options (Watch options) = None
keep_options (Keep options) = Some options
keep_options Check = None
keep_options (Trial n) = None

-- the command line that the words are, where the call takes it
abbrev pub still_line_of : List (List ℕ) → Option CommandLine
still_line_of words = option_and_then still_line (command_line_of words)

abbrev pub run_line_of : List (List ℕ) → Option CommandLine
run_line_of words = option_and_then run_line (command_line_of words)

abbrev pub watch_line_of : List (List ℕ) → Option CommandLine
watch_line_of words = option_and_then watch_line (command_line_of words)

-- the options of a kept day, where the words are of one
abbrev pub keep_options_of : List (List ℕ) → Option Options
keep_options_of words = option_and_then keep_options (command_line_of words)

-- the words are of the call's command, with these options
abbrev pub IsOfDay : DayCall → List (List ℕ) → Options → Type 0
IsOfDay Runs words options = run_line_of words ≡ Some (Run options)
IsOfDay Watches words options = watch_line_of words ≡ Some (Watch options)
IsOfDay Keeps words options = keep_options_of words ≡ Some options

-- they are of no command that the call takes
abbrev pub IsOfNoDay : DayCall → List (List ℕ) → Type 0
IsOfNoDay Runs words = run_line_of words ≡ None
IsOfNoDay Watches words = watch_line_of words ≡ None
IsOfNoDay Keeps words = keep_options_of words ≡ None
