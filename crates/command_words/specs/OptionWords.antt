-- The options of `run`, `replay` and `watch`, by what `clap` makes of the words.
use Rattle.clap.specs.Faults.{fault_of}
use Rattle.clap.specs.Kinds.{Kinds}
use Rattle.clap.specs.Matches.{first_value}
use Rattle.clap.specs.Simple.{App, Shape, matches_of, new_rule, new_shape, with_rule}
use Rattle.clap.specs.Walk.{Row, Rule, Text, first_of}
use Rattle.clap.specs.declared.builder.action.ArgAction.TheVariants.{SetTrue}
use Rattle.clap.specs.declared.parser.matches.Found.{Found}
use Rattle.command_words.specs.declared.command_lines.Options.{Options}
use Rattle.home_types.specs.declared.modes.Mode.{Mode}
use Rattle.home_types.specs.declared.modes.Scheduler.TheVariants.{Fcfs, JustInTime, Timeline}
use Rattle.home_types.specs.declared.modes.Scheduler.{Scheduler}
use Rattle.home_types.specs.declared.modes.Visibility.TheVariants.{Eventual, Global, Partitioned, Weak}
use Rattle.home_types.specs.declared.modes.Visibility.{Visibility}
use Rattle.std.specs.List.{list_any}
use Rattle.std.specs.Prelude.{Bool, List, None, Option, Some, [], codes, false, if◌then◌else◌, option_and_then, option_map, true, ◌∷◌}
use Rattle.std.specs.Str.{bytes_eq}

-- `--model` with a value
abbrev pub model_rule : Rule
model_rule = record (new_rule (codes "model")) { long = Some (codes "model") }

-- `--scheduler` with a value
abbrev pub scheduler_rule : Rule
scheduler_rule = record (new_rule (codes "scheduler")) { long = Some (codes "scheduler") }

-- `--trace`, without a value
abbrev pub trace_rule : Rule
trace_rule =
    record (new_rule (codes "trace")) { long = Some (codes "trace"); action = Some SetTrue }

-- a command without help and version, whose first word is no program's name
abbrev pub bare_shape : Shape
bare_shape = record (new_shape (codes "options")) {
  no_binary_name = true;
  disable_help_flag = true;
  disable_version_flag = true;
}

-- the command with these three options and nothing else
abbrev pub options_app : App
options_app =
    with_rule
    (with_rule (with_rule (record { top = bare_shape; subs = [] }) model_rule) scheduler_rule)
    trace_rule

-- the model of this name
abbrev pub named_model : Text → Option Visibility
named_model word =
    if bytes_eq word (codes "wv") then Some Weak
    else (if bytes_eq word (codes "gsv") then Some Global
    else (if bytes_eq word (codes "psv") then Some Partitioned
    else (if bytes_eq word (codes "ev") then Some Eventual else None)))

-- the model that was asked for, eventual by default
abbrev pub model_asked_for : Option Text → Option Visibility
model_asked_for None = Some Eventual
model_asked_for (Some word) = named_model word

-- the scheduler of this name
abbrev pub named_scheduler : Text → Option Scheduler
named_scheduler word =
    if bytes_eq word (codes "fcfs") then Some Fcfs
    else (if bytes_eq word (codes "jit") then Some JustInTime
    else (if bytes_eq word (codes "timeline") then Some Timeline else None))

-- the scheduler that was asked for, first come first served by default
abbrev pub scheduler_asked_for : Option Text → Option Scheduler
scheduler_asked_for None = Some Fcfs
scheduler_asked_for (Some word) = named_scheduler word

-- every model has first come first served, and the eventual one has every scheduler
abbrev pub goes_with : Scheduler → Visibility → Bool
goes_with Fcfs model = true
goes_with scheduler Eventual = true
goes_with scheduler model = false

-- the mode of a model and a scheduler that goes with it
abbrev pub mode_from_pair : Visibility → Scheduler → Option Mode
mode_from_pair model scheduler =
    if goes_with scheduler model then Some (record { model = model; scheduler = scheduler })
    else None

-- the mode that was asked for
abbrev pub mode_asked_for : Option Text → Option Text → Option Mode
mode_asked_for model scheduler =
    option_and_then (λ m. option_and_then (mode_from_pair m) (scheduler_asked_for scheduler))
    (model_asked_for model)

-- whether the trace was asked for: the value of a flag is `true` where it was given
abbrev pub trace_of : Option Text → Bool
trace_of None = false
trace_of (Some word) = bytes_eq word (codes "true")

-- the options with these values
abbrev pub options_with : Option Text → Option Text → Option Text → Option Options
options_with model scheduler trace =
    option_map (λ mode. record { mode = mode; trace = trace_of trace })
    (mode_asked_for model scheduler)

-- the options in these matches
abbrev pub options_from : List Row → Option Options
options_from rows =
    options_with (first_of (codes "model") rows) (first_of (codes "scheduler") rows)
    (first_of (codes "trace") rows)

-- the same, of what `clap` found
abbrev pub options_found : Found → Option Options
options_found found =
    options_with (first_value found (codes "model")) (first_value found (codes "scheduler"))
    (first_value found (codes "trace"))

-- where nothing is refused
abbrev pub unless_refused : Kinds → Option Options → Option Options
unless_refused [] options = options
unless_refused (k ∷ ks) options = None

-- a word is `--`
abbrev pub has_end_mark : List Text → Bool
has_end_mark words = list_any (λ word. bytes_eq word (codes "--")) words

-- what `clap` makes of the words
abbrev pub options_read : List Text → Option Options
options_read words =
    unless_refused (fault_of options_app words) (options_from (matches_of options_app words))

-- the options that these words give, where none is `--`
abbrev pub options_of : List Text → Option Options
options_of words = if has_end_mark words then None else options_read words
