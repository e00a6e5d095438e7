-- The command line by its command.
use Rattle.command_words.proofs.Prelude.{Keep, List, Option, Options, Replay, Run, Watch, [], ap, ap₂, arith, codes, command_line_of, command_of, drop, length, map, option_map, options_by_words, refl, slice_index_or, sym, take, ℕ, ◌-◌, ◌∙◌, ◌∷◌, ◌≡◌, ◌≤◌}
use Rattle.std.proofs.lemmas.List.{take_rest}

module _ {X : Type 0} (bytes : X → List ℕ) where
  -- the words after the first
  abbrev Rest : List X → List (List ℕ)
  Rest words = map bytes (take (length words - 1) (drop 1 words))

  pub command_split : (words : List X) (word : X) → 1 ≤ length words → word ≡ slice_index_or words 0 word
      → command_line_of (map bytes words) ≡ command_of (bytes word) (Rest words)
  command_split [] word some is = absurd (omega (arith, some))
  command_split (w ∷ ws) word some is =
      ap₂ command_of (ap bytes (sym is)) (ap (map bytes) (sym (take_rest (w ∷ ws) 1)))

  run_read : (words : List (List ℕ)) → command_of (codes "run") words ≡ option_map Run (options_by_words words)
  run_read words = refl

  replay_read : (words : List (List ℕ)) → command_of (codes "replay") words ≡ option_map Replay (options_by_words words)
  replay_read words = refl

  watch_read : (words : List (List ℕ)) → command_of (codes "watch") words ≡ option_map Watch (options_by_words words)
  watch_read words = refl

  keep_read : (words : List (List ℕ)) → command_of (codes "keep") words ≡ option_map Keep (options_by_words words)
  keep_read words = refl

  module _ (words : List X) (word : X) (said : List ℕ) (some : 1 ≤ length words) (is : word ≡ slice_index_or words 0 word)
      (told : said ≡ bytes word) (options : Option Options) (given : options_by_words (Rest words) ≡ options) where
    pub run_means : said ≡ codes "run" → command_line_of (map bytes words) ≡ option_map Run options
    run_means run =
        command_split words word some is ∙ ap (λ w. command_of w (Rest words)) (sym told ∙ run) ∙ run_read (Rest words)
        ∙ ap (option_map Run) given

    pub replay_means : said ≡ codes "replay" → command_line_of (map bytes words) ≡ option_map Replay options
    replay_means replay =
        command_split words word some is ∙ ap (λ w. command_of w (Rest words)) (sym told ∙ replay)
        ∙ replay_read (Rest words) ∙ ap (option_map Replay) given

    pub watch_means : said ≡ codes "watch" → command_line_of (map bytes words) ≡ option_map Watch options
    watch_means watch =
        command_split words word some is ∙ ap (λ w. command_of w (Rest words)) (sym told ∙ watch)
        ∙ watch_read (Rest words) ∙ ap (option_map Watch) given

    pub keep_means : said ≡ codes "keep" → command_line_of (map bytes words) ≡ option_map Keep options
    keep_means keep =
        command_split words word some is ∙ ap (λ w. command_of w (Rest words)) (sym told ∙ keep)
        ∙ keep_read (Rest words) ∙ ap (option_map Keep) given
