-- What `clap` answers at the options, and where a word is `--`.
use Rattle.command_words.proofs.Prelude.{IsAmong, Kinds, List, None, Option, Options, Text, [], ap, bytes_eq, codes, false, fault_of, first_of, has_end_mark, if◌then◌else◌, is_simple, is_simple_and_free, list_any, map, matches_of, options_app, options_found, options_from, options_of, options_read, options_with, refl, rows_of, sym, true, unless_refused, ℕ, ◌∙◌, ◌∷◌, ◌≡◌}
use Rattle.clap.specs.Matches.{first_value}
use Rattle.clap.specs.declared.error.kind.ErrorKind.{ErrorKind}
use Rattle.clap.specs.declared.parser.matches.Found.{Found}
use Rattle.clap.proofs.OnLiterals.{clap_on_literals}
use Rattle.clap.proofs.WalkLemmas.{first_value-rows, list_any-map}

pub options-simple : is_simple options_app ≡ true
unfolding clap_on_literals
options-simple = refl

pub options-free : is_simple_and_free options_app ≡ true
unfolding clap_on_literals
options-free = refl

none_refused : (ks : Kinds) (k : ErrorKind) (o : Option Options) → IsAmong k ks → unless_refused ks o ≡ None
none_refused [] k o among = absurd among
none_refused (x ∷ xs) k o among = refl

-- words at which an error is due give no options
pub options-refused : (words : List Text) (k : ErrorKind) → IsAmong k (fault_of options_app words) → options_read words ≡ None
options-refused words k among = none_refused (fault_of options_app words) k _ among

found_rows : (f : Found) → options_found f ≡ options_from (rows_of f)
found_rows f =
    ap (λ m. options_with m (first_value f (codes "scheduler")) (first_value f (codes "trace"))) (first_value-rows f (codes "model"))
    ∙ ap (λ s. options_with (first_of (codes "model") (rows_of f)) s (first_value f (codes "trace"))) (first_value-rows f (codes "scheduler"))
    ∙ ap (λ t. options_with (first_of (codes "model") (rows_of f)) (first_of (codes "scheduler") (rows_of f)) t) (first_value-rows f (codes "trace"))

-- words at which none is due give those of the matches
pub options-taken : (words : List Text) (found : Found) → fault_of options_app words ≡ []
    → rows_of found ≡ matches_of options_app words → options_read words ≡ options_found found
options-taken words found free rows =
    ap (λ ks. unless_refused ks (options_from (matches_of options_app words))) free
    ∙ ap options_from (sym rows)
    ∙ sym (found_rows found)

module _ {X : Type 0} (bytes : X → List ℕ) (words : List X) where
  mark : list_any (λ word. bytes_eq (bytes word) (codes "--")) words ≡ has_end_mark (map bytes words)
  mark = list_any-map (λ word. bytes_eq word (codes "--")) bytes words

  -- words with `--` give no options
  pub marked : list_any (λ word. bytes_eq (bytes word) (codes "--")) words ≡ true → options_of (map bytes words) ≡ None
  marked is = ap (λ t. if t then None else options_read (map bytes words)) (sym mark ∙ is)

  -- other words give those that `clap` reads
  pub unmarked : list_any (λ word. bytes_eq (bytes word) (codes "--")) words ≡ false
      → options_of (map bytes words) ≡ options_read (map bytes words)
  unmarked is = ap (λ t. if t then None else options_read (map bytes words)) (sym mark ∙ is)
