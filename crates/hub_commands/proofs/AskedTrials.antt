-- The number of a trial: from 1 to as many windows as a script may have.
use Rattle.command_words.specs.CommandLines.{check_of, command_line_of, trial_of}
use Rattle.command_words.specs.OptionGrammar.{options_by_words}
use Rattle.command_words.specs.TrialNumbers.{is_short_numeral, trial_number}
use Rattle.hub_commands.proofs.Prelude.{Bool, Keep, List, None, Option, Options, Replay, Run, Some, Trial, Watch, [], arith, codes, common_steps, false, if◌then◌else◌, nat_le, option_map, refl, subst, true, ℕ, ◌&&◌, ◌∷◌, ◌≡◌, ◌≤◌}
use Rattle.command_words.specs.declared.command_lines.CommandLine.{CommandLine}
use Rattle.home_types.specs.Limits.{most_windows}
use Rattle.std.specs.Str.Parse.{digits_value}
use Rattle.std.specs.Str.{bytes_eq}

abbrev IsWithin : ℕ → Type 0
IsWithin n = (1 ≤ n) × (n ≤ most_windows)

number_within : (numeral : Bool) (value n : ℕ) → (if numeral && (nat_le 1 value && nat_le value 288) then Some value else None) ≡ Some n → IsWithin n
number_within numeral value n is = by_test numeral (nat_le 1 value) (nat_le value 288) refl refl is
  where
    by_test : (a b c : Bool) → nat_le 1 value ≡ b → nat_le value 288 ≡ c → (if a && (b && c) then Some value else None) ≡ Some n → IsWithin n
    by_test false b c low high found = absurd (cc)
    by_test true false c low high found = absurd (cc)
    by_test true true false low high found = absurd (cc)
    by_test true true true low high found =
        let same : value ≡ n = cc in
        subst IsWithin same (grind (arith, common_steps), grind (arith, common_steps))

options_no_trial : (make : Options → CommandLine) (o : Option Options) (n : ℕ) → ((options : Options) → make options ≡ Trial n → ⊥) → option_map make o ≡ Some (Trial n) → ⊥
options_no_trial make None n other is = absurd (cc)
options_no_trial make (Some options) n other is = let same : make options ≡ Trial n = cc in other options same

check_no_trial : (words : List (List ℕ)) (n : ℕ) → check_of words ≡ Some (Trial n) → ⊥
check_no_trial [] n is = absurd (cc)
check_no_trial (word ∷ words) n is = absurd (cc)

trial_within : (words : List (List ℕ)) (n : ℕ) → trial_of words ≡ Some (Trial n) → IsWithin n
trial_within [] n is = absurd (cc)
trial_within (word ∷ []) n is = by_number (trial_number word) refl is
  where
    by_number : (o : Option ℕ) → trial_number word ≡ o → option_map Trial o ≡ Some (Trial n) → IsWithin n
    by_number None none found = absurd (cc)
    by_number (Some k) some found = let same : k ≡ n = cc in subst IsWithin same (number_within (is_short_numeral word) (digits_value 10 word) k some)
trial_within (word ∷ next ∷ words) n is = absurd (cc)

command_within : (run replay watch keep check trial : Bool) (words : List (List ℕ)) (n : ℕ)
    → (if run then option_map Run (options_by_words words)
    else (if replay then option_map Replay (options_by_words words) else (if watch then option_map Watch (options_by_words words)
    else (if keep then option_map Keep (options_by_words words) else (if check then check_of words else (if trial then trial_of words else None))))))
    ≡ Some (Trial n) → IsWithin n
command_within true replay watch keep check trial words n is = absurd (options_no_trial Run (options_by_words words) n (λ options same. absurd (cc)) is)
command_within false true watch keep check trial words n is = absurd (options_no_trial Replay (options_by_words words) n (λ options same. absurd (cc)) is)
command_within false false true keep check trial words n is = absurd (options_no_trial Watch (options_by_words words) n (λ options same. absurd (cc)) is)
command_within false false false true check trial words n is = absurd (options_no_trial Keep (options_by_words words) n (λ options same. absurd (cc)) is)
command_within false false false false true trial words n is = absurd (check_no_trial words n is)
command_within false false false false false true words n is = trial_within words n is
command_within false false false false false false words n is = absurd (cc)

-- a trial that the words ask for
pub asked_within : (words : List (List ℕ)) (n : ℕ) → command_line_of words ≡ Some (Trial n) → (1 ≤ n) × (n ≤ most_windows)
asked_within [] n is = absurd (cc)
asked_within (command ∷ words) n is = command_within (bytes_eq command (codes "run")) (bytes_eq command (codes "replay")) (bytes_eq command (codes "watch")) (bytes_eq command (codes "keep")) (bytes_eq command (codes "check")) (bytes_eq command (codes "trial")) words n is
