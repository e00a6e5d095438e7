-- One word more, where a value is due.
use Rattle.command_words.proofs.Prelude.{Bool, GivenOptions, List, None, Option, Row, Some, Text, UnknownArgument, Valued, Waiting, Walk, [], after_step, ap, ap₂, arg_by_long, bytes_eq, chars, codes, false, has_row, idle, if◌then◌else◌, inl, inr, is_some, long_of, model, named_model, named_scheduler, next, option, option_and_then, option_name, option_value, options_after, or_else, plain_word, positional, refl, scheduler, settle_fault, short_of, short_word, slice_get, step_fault, sym, true, turn_fault, with_word, ℕ, ◌==◌, ◌∙◌, ◌∷◌, ◌≡◌}
use Rattle.clap.specs.Walk.{walked}
use Rattle.command_words.proofs.GrammarLemmas.{bad_value}
use Rattle.command_words.proofs.OptionRows.{Holds, fine_use, id_of, model_used, scheduler_used, second_use}
use Rattle.command_words.proofs.OptionSteps.{Steps, broken_ends, fault_ends, nothing_more}
use Rattle.command_words.proofs.WalkedOptions.{Rules, Top, at, flags_there, held, is_fault, long_turn, no_long, no_mark, pending_fails, plain_turn, short_fault_is, short_plain}
use Rattle.command_words.proofs.WordShapes.{Looks, long, other, short}

-- ---- a word, where a value is due

pub plain_walk : (waiting : Waiting) (word : Text) (rows : List Row) (pending : Option (Text × List Text)) → bytes_eq word (codes "--") ≡ false → long_of word ≡ None → short_of word ≡ None
    → walked Rules [] (at rows pending waiting) word
    ≡ after_step Rules word (at rows pending waiting) (plain_word Rules waiting word (held rows pending)).0 (plain_word Rules waiting word (held rows pending)).1
unfolding walked
plain_walk idle word rows pending mark is_long is_short = rw (mark, is_long, is_short) refl
plain_walk (option id) word rows pending mark is_long is_short = rw (mark, is_long, is_short) refl
plain_walk positional word rows pending mark is_long is_short = rw (mark, is_long, is_short) refl

pub short_walk : (waiting : Waiting) (word flags : Text) (rows : List Row) (pending : Option (Text × List Text)) → bytes_eq word (codes "--") ≡ false → long_of word ≡ None → short_of word ≡ Some flags
    → walked Rules [] (at rows pending waiting) word
    ≡ after_step Rules word (at rows pending waiting) (short_word Rules waiting word flags (held rows pending)).0 (short_word Rules waiting word flags (held rows pending)).1
unfolding walked
short_walk idle word flags rows pending mark is_long is_short = rw (mark, is_long, is_short) refl
short_walk (option id) word flags rows pending mark is_long is_short = rw (mark, is_long, is_short) refl
short_walk positional word flags rows pending mark is_long is_short = rw (mark, is_long, is_short) refl

pub other_turn : (which : Valued) (word : Text) (rows : List Row) → bytes_eq word (codes "--") ≡ false → long_of word ≡ None → short_of word ≡ None
    → turn_fault Top [] (at rows (Some (id_of which, [])) (option (id_of which))) word ≡ []
other_turn model word rows mark is_long is_short = rw (mark, is_long, is_short) refl
other_turn scheduler word rows mark is_long is_short = rw (mark, is_long, is_short) refl

-- the word becomes the value
pub value_met : (which : Valued) (word : Text) (rows : List Row)
    → plain_word Rules (option (id_of which)) word (held rows (Some (id_of which, []))) ≡ (held rows (Some (id_of which, word ∷ [])), next idle)
value_met model word rows = refl
value_met scheduler word rows = refl

module _ (rows : List Row) (which : Valued) (given : GivenOptions) (due : given.due ≡ Some which) (holds : Holds rows given) where
  abbrev waiting_walk : Walk
  waiting_walk = at rows (Some (id_of which, [])) (option (id_of which))

  pub settle_fails : is_fault (settle_fault Rules false (held rows (Some (id_of which, [])))) ≡ true
  settle_fails = by_kind which
    where
      by_kind : (w : Valued) → is_fault (settle_fault Rules false (held rows (Some (id_of w, [])))) ≡ true
      by_kind model = refl
      by_kind scheduler = refl

  -- a word that `clap` refuses is no name
  refused_value : (word : Text) → is_fault (turn_fault Top [] waiting_walk word) ≡ true → named_model word ≡ None → named_scheduler word ≡ None → Steps waiting_walk given word
  refused_value word fault bad_model bad_scheduler = inl (record {
    walk_ends = fault_ends waiting_walk word fault;
    grammar_ends = λ words. ap (λ d. option_and_then (λ g. options_after g words) (with_word d word given)) due ∙ bad_value which word given words bad_model bad_scheduler;
  })

  -- one that it takes is the value, where there was none
  taken_value : (word : Text) → turn_fault Top [] waiting_walk word ≡ [] → walked Rules [] waiting_walk word ≡ at rows (Some (id_of which, word ∷ [])) idle → Steps waiting_walk given word
  taken_value word fine goes = by_kind which due refl fine goes
    where
      by_kind : (w : Valued) → given.due ≡ Some w → which ≡ w → turn_fault Top [] waiting_walk word ≡ [] → walked Rules [] waiting_walk word ≡ at rows (Some (id_of which, word ∷ [])) idle → Steps waiting_walk given word
      by_kind w due_is same fine goes = by_row w (has_row (id_of w) rows) refl due_is (goes ∙ ap (λ v. at rows (Some (id_of v, word ∷ [])) idle) same)
        where
          by_row : (w : Valued) (b : Bool) → has_row (id_of w) rows ≡ b → given.due ≡ Some w → walked Rules [] waiting_walk word ≡ at rows (Some (id_of w, word ∷ [])) idle → Steps waiting_walk given word
          by_row model true is due_is goes = inl (record {
            walk_ends = broken_ends waiting_walk word rows (Some (codes "model", word ∷ [])) fine goes (second_use model word rows is);
            grammar_ends = nothing_more given word (ap (λ d. with_word d word given) due_is ∙ rw (sym holds.has_model ∙ is) refl);
          })
          by_row model false is due_is goes = inr (record {
            after = at rows (Some (codes "model", word ∷ [])) idle;
            next = record given { model = Some word; due = None };
            fine = fine;
            walk_goes = goes;
            grammar_goes = ap (λ d. with_word d word given) due_is ∙ rw (sym holds.has_model ∙ is) refl;
            stands = inl (record {
              rows = rows;
              pending = Some (codes "model", word ∷ []);
              at_free = refl;
              free = refl;
              fine = fine_use model word rows is;
              holds = model_used word None rows given holds is;
            });
          })
          by_row scheduler true is due_is goes = inl (record {
            walk_ends = broken_ends waiting_walk word rows (Some (codes "scheduler", word ∷ [])) fine goes (second_use scheduler word rows is);
            grammar_ends = nothing_more given word (ap (λ d. with_word d word given) due_is ∙ rw (sym holds.has_scheduler ∙ is) refl);
          })
          by_row scheduler false is due_is goes = inr (record {
            after = at rows (Some (codes "scheduler", word ∷ [])) idle;
            next = record given { scheduler = Some word; due = None };
            fine = fine;
            walk_goes = goes;
            grammar_goes = ap (λ d. with_word d word given) due_is ∙ rw (sym holds.has_scheduler ∙ is) refl;
            stands = inl (record {
              rows = rows;
              pending = Some (codes "scheduler", word ∷ []);
              at_free = refl;
              free = refl;
              fine = fine_use scheduler word rows is;
              holds = scheduler_used word None rows given holds is;
            });
          })

  goes_to_value : (word : Text) → walked Rules [] waiting_walk word
      ≡ after_step Rules word waiting_walk (plain_word Rules (option (id_of which)) word (held rows (Some (id_of which, [])))).0
      (plain_word Rules (option (id_of which)) word (held rows (Some (id_of which, [])))).1
      → walked Rules [] waiting_walk word ≡ at rows (Some (id_of which, word ∷ [])) idle
  goes_to_value word goes = goes ∙ ap (λ met. after_step Rules word waiting_walk met.0 met.1) (value_met which word rows)

  module _ (x : ℕ) (xs : Text) (differs : (x == 45) ≡ false) where
    -- a word with one hyphen is taken only where it is no text
    short_turn_is : (first : Option ℕ) → slice_get (chars (x ∷ xs)) 0 ≡ first
        → turn_fault Top [] waiting_walk (45 ∷ x ∷ xs) ≡ or_else (if is_some first then UnknownArgument ∷ [] else []) []
    short_turn_is first is =
        plain_turn x xs differs (option (id_of which)) rows (Some (id_of which, []))
        ∙ ap₂ (λ ks met. or_else ks (step_fault Top 1 met.0 met.1)) (short_fault_is x xs rows (Some (id_of which, [])) first is) (value_met which (45 ∷ x ∷ xs) rows)

    short_step : Steps waiting_walk given (45 ∷ x ∷ xs)
    short_step = by_first (slice_get (chars (x ∷ xs)) 0) refl
      where
        by_first : (first : Option ℕ) → slice_get (chars (x ∷ xs)) 0 ≡ first → Steps waiting_walk given (45 ∷ x ∷ xs)
        by_first (Some c) is = refused_value (45 ∷ x ∷ xs) (ap is_fault (short_turn_is (Some c) is)) refl refl
        by_first None is =
            taken_value (45 ∷ x ∷ xs) (short_turn_is None is)
            (goes_to_value (45 ∷ x ∷ xs)
            (short_walk (option (id_of which)) (45 ∷ x ∷ xs) (x ∷ xs) rows (Some (id_of which, [])) (no_mark x xs differs) (no_long x xs differs) (flags_there x xs differs)
            ∙ ap (λ met. after_step Rules (45 ∷ x ∷ xs) waiting_walk met.0 met.1) (short_plain (option (id_of which)) x xs rows (Some (id_of which, [])))))

  pub due_step : {word : Text} → Looks word → bytes_eq word (codes "--") ≡ false → Steps waiting_walk given word
  due_step (long z zs) mark =
      refused_value (45 ∷ 45 ∷ z ∷ zs)
      (long_turn rows (Some (id_of which, [])) (option (id_of which)) z zs
      (pending_fails (arg_by_long Rules (option_name (z ∷ zs))) (option_value (z ∷ zs)) (held rows (Some (id_of which, []))) settle_fails))
      refl refl
  due_step (short x xs differs names) mark = short_step x xs differs
  due_step (other word is_long is_short names) mark =
      taken_value word (other_turn which word rows mark is_long is_short)
      (goes_to_value word (plain_walk (option (id_of which)) word rows (Some (id_of which, [])) mark is_long is_short))
