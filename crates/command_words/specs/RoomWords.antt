-- The words of `rooms`.
use Rattle.command_words.specs.OptionGrammar.{options_by_words}
use Rattle.command_words.specs.declared.command_lines.Options.{Options}
use Rattle.home_types.specs.declared.modes.Mode.{Mode}
use Rattle.home_types.specs.declared.modes.Visibility.TheVariants.{Eventual, Global, Partitioned, Weak}
use Rattle.home_types.specs.declared.modes.Visibility.{Visibility}
use Rattle.std.specs.Prelude.{List, None, Option, Some, [], codes, if◌then◌else◌, option_and_then, ℕ, ◌∷◌}
use Rattle.std.specs.Str.{bytes_eq}

-- the mode, where its model promises an order
abbrev pub serial_mode : Mode → Option Mode
serial_mode mode = by_model mode.model
  where
    by_model : Visibility → Option Mode
    by_model Weak = None
    by_model Global = Some mode
    by_model Partitioned = Some mode
    by_model Eventual = Some mode

-- the mode with which rooms are run: none where the trace is asked for, or the weak model
abbrev pub mode_for_rooms : Options → Option Mode
mode_for_rooms options = if options.trace then None else serial_mode options.mode

-- `rooms` and the options of `run` but for these two
abbrev pub room_mode_of : List (List ℕ) → Option Mode
room_mode_of [] = None
room_mode_of (command ∷ words) =
    if bytes_eq command (codes "rooms") then option_and_then mode_for_rooms (options_by_words words)
    else None
