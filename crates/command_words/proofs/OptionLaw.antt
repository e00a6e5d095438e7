-- The options that `clap` reads are those of the plain grammar.
use Rattle.command_words.proofs.Prelude.{Bool, GivenOptions, List, None, Some, Text, Walk, [], ap, ap₂, bytes_eq, codes, false, finished, has_end_mark, if◌then◌else◌, inl, inr, is_some, mode_asked_for, nothing_given, nothing_held, option_and_then, option_map, options_after, options_by_words, options_from, options_given, options_of, options_read, or_else, refl, settle_fault, settled_rows, subst, sym, true, unless_refused, walk_from, ◌∙◌, ◌∷◌, ◌≡◌}
use Rattle.command_words.proofs.DueValues.{due_step, settle_fails}
use Rattle.command_words.proofs.GrammarLemmas.{marked_gives_none}
use Rattle.command_words.proofs.OptionRows.{Holds, end_options, fine_defaults, finished_rows, id_of}
use Rattle.command_words.proofs.OptionSteps.{Stands, Steps, free_step}
use Rattle.command_words.proofs.WalkedOptions.{Rules, answer, fault_first, held, none_first, none_next, read_by_word, refused}
use Rattle.command_words.proofs.WordShapes.{looks}

-- ---- the law

pub step : (w : Walk) (given : GivenOptions) → Stands w given → (word : Text) → bytes_eq word (codes "--") ≡ false → Steps w given word
step w given (inl s) word mark =
    subst (λ v. Steps v given word) (sym s.at_free) (free_step s.rows s.pending given s.free s.fine s.holds (looks word) mark)
step w given (inr s) word mark =
    subst (λ v. Steps v given word) (sym s.at_due) (due_step s.rows s.which given s.due s.holds (looks word) mark)

pub at_end : (w : Walk) (given : GivenOptions) → Stands w given → answer w [] ≡ options_given given
at_end w given (inl s) =
    ap (λ v. answer v []) s.at_free
    ∙ ap₂ (λ a b. unless_refused (or_else a b) (options_from (finished Rules (held s.rows s.pending)))) s.fine (fine_defaults (settled_rows Rules s.pending s.rows))
    ∙ ap options_from (finished_rows (settled_rows Rules s.pending s.rows))
    ∙ end_options (settled_rows Rules s.pending s.rows) given s.free s.holds
at_end w given (inr s) =
    ap (λ v. answer v []) s.at_due
    ∙ refused _ _ (fault_first (settle_fault Rules false (held s.rows (Some (id_of s.which, [])))) _ (settle_fails s.rows s.which given s.due s.holds))
    ∙ sym (ap (λ due. if is_some due then None else option_map (λ mode. record { mode = mode; trace = given.trace }) (mode_asked_for given.model given.scheduler)) s.due)

pub same_after : (words : List Text) (w : Walk) (given : GivenOptions) → Stands w given → has_end_mark words ≡ false → answer w words ≡ options_after given words
same_after [] w given stands mark = at_end w given stands
same_after (word ∷ words) w given stands mark =
    by_step (none_next (bytes_eq word (codes "--")) (has_end_mark words) mark) (λ v g s m. same_after words v g s m)
    (step w given stands word (none_first (bytes_eq word (codes "--")) (has_end_mark words) mark))
  where
    by_step : has_end_mark words ≡ false → ((v : Walk) (g : GivenOptions) → Stands v g → has_end_mark words ≡ false → answer v words ≡ options_after g words)
        → Steps w given word → answer w (word ∷ words) ≡ options_after given (word ∷ words)
    by_step rest same (inl ends) = ends.walk_ends words rest ∙ sym (ends.grammar_ends words)
    by_step rest same (inr goes) =
        ap₂ (λ ks v. unless_refused ks (answer v words)) goes.fine goes.walk_goes
        ∙ same goes.after goes.next goes.stands rest
        ∙ sym (ap (option_and_then (λ g. options_after g words)) goes.grammar_goes)

pub nothing_holds : Holds [] nothing_given
nothing_holds = record { model = refl; scheduler = refl; trace = refl; has_model = refl; has_scheduler = refl; has_trace = refl }

pub begins : Stands (walk_from nothing_held) nothing_given
begins = inl (record { rows = []; pending = None; at_free = refl; free = refl; fine = refl; holds = nothing_holds })

pub options_are_by_words : (words : List Text) → options_of words ≡ options_by_words words
options_are_by_words words = by_mark (has_end_mark words) refl
  where
    by_mark : (b : Bool) → has_end_mark words ≡ b → (if b then None else options_read words) ≡ options_by_words words
    by_mark true is = sym (marked_gives_none words nothing_given is)
    by_mark false is = read_by_word words ∙ same_after words (walk_from nothing_held) nothing_given begins is
