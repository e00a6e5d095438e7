-- A command line has no mode but one whose scheduler goes with its model.
use Rattle.command_words.proofs.Prelude.{Bool, Check, GivenOptions, Keep, List, None, Option, Options, Replay, Run, Some, Trial, Valued, Visibility, Watch, [], bytes_eq, check_of, codes, command_line_of, false, goes_with, if◌then◌else◌, is_some, mode_asked_for, mode_from_pair, model_asked_for, nothing_given, option_and_then, option_map, options_after, options_by_words, options_given, refl, scheduler_asked_for, subst, trial_number, trial_of, true, with_word, ℕ, ⊤, ◌∷◌, ◌≡◌}
use Rattle.command_words.specs.declared.command_lines.CommandLine.{CommandLine}
use Rattle.home_types.specs.declared.modes.Mode.{Mode}
use Rattle.home_types.specs.declared.modes.Scheduler.{Scheduler}

-- the mode of the line, if it has one, is a pair
abbrev pub IsPaired : CommandLine → Type 0
IsPaired (Run options) = goes_with options.mode.scheduler options.mode.model ≡ true
IsPaired (Replay options) = goes_with options.mode.scheduler options.mode.model ≡ true
IsPaired (Watch options) = goes_with options.mode.scheduler options.mode.model ≡ true
IsPaired (Keep options) = goes_with options.mode.scheduler options.mode.model ≡ true
IsPaired Check = ⊤
IsPaired (Trial n) = ⊤

pair_goes : (model : Visibility) (scheduler : Scheduler) (mode : Mode) → mode_from_pair model scheduler ≡ Some mode → goes_with mode.scheduler mode.model ≡ true
pair_goes model scheduler mode is = by_goes (goes_with scheduler model) refl is
  where
    by_goes : (b : Bool) → goes_with scheduler model ≡ b → (if b then Some (record { model = model; scheduler = scheduler }) else None) ≡ Some mode → goes_with mode.scheduler mode.model ≡ true
    by_goes true goes found = let same : record { model = model; scheduler = scheduler } ≡ mode = cc in subst (λ (m : Mode). goes_with m.scheduler m.model ≡ true) same goes
    by_goes false goes found = absurd (cc)

mode_goes : (o : Option Visibility) (p : Option Scheduler) (trace : Bool) (options : Options)
    → option_map (λ mode. record { mode = mode; trace = trace }) (option_and_then (λ m. option_and_then (mode_from_pair m) p) o) ≡ Some options → goes_with options.mode.scheduler options.mode.model ≡ true
mode_goes None p trace options is = absurd (cc)
mode_goes (Some model) None trace options is = absurd (cc)
mode_goes (Some model) (Some scheduler) trace options is = by_mode (mode_from_pair model scheduler) refl is
  where
    by_mode : (o : Option Mode) → mode_from_pair model scheduler ≡ o → option_map (λ mode. record { mode = mode; trace = trace }) o ≡ Some options → goes_with options.mode.scheduler options.mode.model ≡ true
    by_mode None none found = absurd (cc)
    by_mode (Some mode) some found = let same : record { mode = mode; trace = trace } ≡ options = cc in subst (λ (x : Options). goes_with x.mode.scheduler x.mode.model ≡ true) same (pair_goes model scheduler mode some)

given_go : (given : GivenOptions) (options : Options) → options_given given ≡ Some options → goes_with options.mode.scheduler options.mode.model ≡ true
given_go given options is = by_due given.due is
  where
    by_due : (due : Option Valued)
        → (if is_some due then None else option_map (λ mode. record { mode = mode; trace = given.trace }) (mode_asked_for given.model given.scheduler)) ≡ Some options
        → goes_with options.mode.scheduler options.mode.model ≡ true
    by_due None found = mode_goes (model_asked_for given.model) (scheduler_asked_for given.scheduler) given.trace options found
    by_due (Some option) found = absurd (cc)

options_go : (words : List (List ℕ)) (given : GivenOptions) (options : Options) → options_after given words ≡ Some options → goes_with options.mode.scheduler options.mode.model ≡ true
options_go [] given options is = given_go given options is
options_go (word ∷ words) given options is = by_word (λ g more. options_go words g options more) (with_word given.due word given) is
  where
    by_word : ((g : GivenOptions) → options_after g words ≡ Some options → goes_with options.mode.scheduler options.mode.model ≡ true)
        → (o : Option GivenOptions) → option_and_then (λ g. options_after g words) o ≡ Some options → goes_with options.mode.scheduler options.mode.model ≡ true
    by_word goes None found = absurd (cc)
    by_word goes (Some g) found = goes g found

read_goes : (make : Options → CommandLine) (words : List (List ℕ)) (line : CommandLine) → ((options : Options) → goes_with options.mode.scheduler options.mode.model ≡ true → IsPaired (make options))
    → option_map make (options_by_words words) ≡ Some line → IsPaired line
read_goes make words line paired_by is = by_options (options_by_words words) refl is
  where
    by_options : (o : Option Options) → options_by_words words ≡ o → option_map make o ≡ Some line → IsPaired line
    by_options None none found = absurd (cc)
    by_options (Some options) some found = let same : make options ≡ line = cc in subst IsPaired same (paired_by options (options_go words nothing_given options some))

check_goes : (words : List (List ℕ)) (line : CommandLine) → check_of words ≡ Some line → IsPaired line
check_goes [] line is = let same : Check ≡ line = cc in subst IsPaired same tt
check_goes (word ∷ words) line is = absurd (cc)

trial_goes : (words : List (List ℕ)) (line : CommandLine) → trial_of words ≡ Some line → IsPaired line
trial_goes [] line is = absurd (cc)
trial_goes (word ∷ []) line is = by_number (trial_number word) is
  where
    by_number : (o : Option ℕ) → option_map Trial o ≡ Some line → IsPaired line
    by_number None found = absurd (cc)
    by_number (Some n) found = let same : Trial n ≡ line = cc in subst IsPaired same tt
trial_goes (word ∷ next ∷ words) line is = absurd (cc)

command_goes : (run replay watch keep check trial : Bool) (words : List (List ℕ)) (line : CommandLine)
    → (if run then option_map Run (options_by_words words)
    else (if replay then option_map Replay (options_by_words words) else (if watch then option_map Watch (options_by_words words)
    else (if keep then option_map Keep (options_by_words words) else (if check then check_of words else (if trial then trial_of words else None))))))
    ≡ Some line → IsPaired line
command_goes true replay watch keep check trial words line is = read_goes Run words line (λ options goes. goes) is
command_goes false true watch keep check trial words line is = read_goes Replay words line (λ options goes. goes) is
command_goes false false true keep check trial words line is = read_goes Watch words line (λ options goes. goes) is
command_goes false false false true check trial words line is = read_goes Keep words line (λ options goes. goes) is
command_goes false false false false true trial words line is = check_goes words line is
command_goes false false false false false true words line is = trial_goes words line is
command_goes false false false false false false words line is = absurd (cc)

pub line_is_paired : (words : List (List ℕ)) (line : CommandLine) → command_line_of words ≡ Some line → IsPaired line
line_is_paired [] line is = absurd (cc)
line_is_paired (command ∷ words) line is = command_goes (bytes_eq command (codes "run")) (bytes_eq command (codes "replay")) (bytes_eq command (codes "watch")) (bytes_eq command (codes "keep")) (bytes_eq command (codes "check")) (bytes_eq command (codes "trial")) words line is
