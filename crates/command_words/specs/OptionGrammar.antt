-- The options of `run`, `replay` and `watch`, word by word.
use Rattle.command_words.specs.OptionWords.{mode_asked_for}
use Rattle.command_words.specs.declared.command_lines.Options.{Options}
use Rattle.std.specs.List.{after_first, before_first, list_any}
use Rattle.std.specs.Prelude.{Bool, List, None, Option, Some, [], codes, false, if◌then◌else◌, is_some, option_and_then, option_map, true, ℕ, ◌==◌, ◌∷◌}
use Rattle.std.specs.Str.{bytes_eq}

-- `=`
abbrev pub is_equals : ℕ → Bool
is_equals b = b == 61

-- what stands before the first `=` of a word, or the whole word where it has none
abbrev pub option_name : List ℕ → List ℕ
option_name word = before_first is_equals word

-- what stands behind the first `=` of a word, if it has one
abbrev pub option_value : List ℕ → Option (List ℕ)
option_value word = if list_any is_equals word then Some (after_first is_equals word) else None

-- the options that have a value
pub data Valued : Type 0 where
  model : Valued
  scheduler : Valued

-- what the words gave so far, and the option whose value the next word is, if one is due
pub record GivenOptions : Type 0 where
  pub model : Option (List ℕ)
  pub scheduler : Option (List ℕ)
  pub trace : Bool
  pub due : Option Valued

abbrev pub nothing_given : GivenOptions
nothing_given = record { model = None; scheduler = None; trace = false; due = None }

-- the option has this value, where it had none before
abbrev pub with_value : Valued → List ℕ → GivenOptions → Option GivenOptions
with_value model value given =
    if is_some given.model then None else Some (record given { model = Some value; due = None })
with_value scheduler value given =
    if is_some given.scheduler then None
    else Some (record given { scheduler = Some value; due = None })

-- the option is named: its value stands in the same word, or is the next one
abbrev pub with_valued : Valued → Option (List ℕ) → GivenOptions → Option GivenOptions
with_valued option None given = Some (record given { due = Some option })
with_valued option (Some value) given = with_value option value given

-- the trace is asked for, once and without a value
abbrev pub with_trace : Option (List ℕ) → GivenOptions → Option GivenOptions
with_trace None given = if given.trace then None else Some (record given { trace = true })
with_trace (Some value) given = None

-- the option of this name is given: `--model`, `--scheduler` or `--trace`
abbrev pub with_option : List ℕ → Option (List ℕ) → GivenOptions → Option GivenOptions
with_option name value given =
    if bytes_eq name (codes "--model") then with_valued model value given
    else (if bytes_eq name (codes "--scheduler") then with_valued scheduler value given
    else (if bytes_eq name (codes "--trace") then with_trace value given else None))

-- one more word: the value that is due, or else an option
abbrev pub with_word : Option Valued → List ℕ → GivenOptions → Option GivenOptions
with_word None word given = with_option (option_name word) (option_value word) given
with_word (Some option) word given = with_value option word given

-- the options that were given, where no value is due any more
abbrev pub options_given : GivenOptions → Option Options
options_given given =
    if is_some given.due then None
    else option_map (λ mode. record { mode = mode; trace = given.trace })
    (mode_asked_for given.model given.scheduler)

-- the options that were given, and those in these words
abbrev pub options_after : GivenOptions → List (List ℕ) → Option Options
options_after given [] = options_given given
options_after given (word ∷ words) =
    option_and_then (λ g. options_after g words) (with_word given.due word given)

-- the options that these words are, if they are options
abbrev pub options_by_words : List (List ℕ) → Option Options
options_by_words words = options_after nothing_given words
