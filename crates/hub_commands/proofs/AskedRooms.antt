-- The mode that the words of rooms ask for: every model but the eventual one goes first come first served, and none is weak.
use Rattle.command_words.proofs.Cited.{line_is_paired}
use Rattle.command_words.specs.OptionGrammar.{options_by_words}
use Rattle.command_words.specs.OptionWords.{goes_with}
use Rattle.command_words.specs.RoomWords.{mode_for_rooms, room_mode_of, serial_mode}
use Rattle.hub_commands.proofs.Prelude.{Bool, IsTrue, List, Mode, None, Option, Options, Run, Some, [], ap, codes, false, if◌then◌else◌, is_mode, is_weak, option_and_then, option_map, refl, subst, true, ℕ, ◌∷◌, ◌≡◌}
use Rattle.home_types.specs.declared.modes.Visibility.TheVariants.{Eventual, Global, Partitioned, Weak}
use Rattle.home_types.specs.declared.modes.Visibility.{Visibility}
use Rattle.hub_commands.proofs.AskedModes.{pair_is_mode}
use Rattle.std.specs.Str.{bytes_eq}

-- the mode may be run, and promises an order
abbrev pub IsRoomMode : Mode → Type 0
IsRoomMode mode = IsTrue (is_mode mode) × (is_weak mode ≡ false)

serial_is : (given mode : Mode) → goes_with given.scheduler given.model ≡ true → serial_mode given ≡ Some mode → IsRoomMode mode
serial_is given mode goes found = by given.model goes found
  where
    by : (m : Visibility) → goes_with given.scheduler m ≡ true → serial_mode (record { model = m; scheduler = given.scheduler }) ≡ Some mode → IsRoomMode mode
    by Weak g f = absurd (cc)
    by Global g f = let same : record { model = Global; scheduler = given.scheduler } ≡ mode = cc in subst IsRoomMode same (pair_is_mode given.scheduler Global g, refl)
    by Partitioned g f = let same : record { model = Partitioned; scheduler = given.scheduler } ≡ mode = cc in subst IsRoomMode same (pair_is_mode given.scheduler Partitioned g, refl)
    by Eventual g f = let same : record { model = Eventual; scheduler = given.scheduler } ≡ mode = cc in subst IsRoomMode same (pair_is_mode given.scheduler Eventual g, refl)

options_are : (options : Options) (mode : Mode) → goes_with options.mode.scheduler options.mode.model ≡ true → mode_for_rooms options ≡ Some mode → IsRoomMode mode
options_are options mode goes found = by options.trace found
  where
    by : (b : Bool) → (if b then None else serial_mode options.mode) ≡ Some mode → IsRoomMode mode
    by true f = absurd (cc)
    by false f = serial_is options.mode mode goes f

pub rooms_go : (words : List (List ℕ)) (mode : Mode) → room_mode_of words ≡ Some mode → IsRoomMode mode
rooms_go [] mode is = absurd (cc)
rooms_go (command ∷ words) mode is = by (bytes_eq command (codes "rooms")) is
  where
    by_options : (o : Option Options) → options_by_words words ≡ o → option_and_then mode_for_rooms o ≡ Some mode → IsRoomMode mode
    by_options None none found = absurd (cc)
    by_options (Some options) some found = options_are options mode (line_is_paired (codes "run" ∷ words) (Run options) (ap (option_map Run) some)) found

    by : (b : Bool) → (if b then option_and_then mode_for_rooms (options_by_words words) else None) ≡ Some mode → IsRoomMode mode
    by true found = by_options (options_by_words words) refl found
    by false found = absurd (cc)
