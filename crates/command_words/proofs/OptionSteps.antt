-- One word more, where no value is due.
use Rattle.command_words.proofs.Prelude.{Bool, GivenOptions, Held, Kinds, List, None, Option, Row, Rule, Some, Step, Text, Valued, Walk, [], after_flag, after_step, ap, ap₂, arg_by_long, bytes_eq, bytes_eq-Decides, codes, false, has_end_mark, has_row, idle, if◌then◌else◌, inl, inr, long_fault, long_met, model, option, option_and_then, option_name, option_value, options_after, or_else, refl, scheduler, settle_fault, settled_rows, step_fault, sym, true, turn_fault, use_fault, used, with_option, with_trace, with_value, with_valued, with_word, ℕ, ◌∙◌, ◌∷◌, ◌≡◌, ◌⊎◌}
use Rattle.clap.specs.Walk.{walked}
use Rattle.command_words.proofs.OptionRows.{Holds, argument_of, by_name, fine_trace, fine_use, id_of, model_used, rule_of, scheduler_used, second_trace, second_use, trace_arg, trace_used}
use Rattle.command_words.proofs.WalkedOptions.{Rules, Top, answer, at, broken, fault_first, held, is_fault, refused, stray_other, stray_short}
use Rattle.command_words.proofs.WordShapes.{IsNoOption, Looks, long, long_name, long_value, other, short}

-- ---- where the walk and the grammar stand

pub record IsFree (w : Walk) (given : GivenOptions) : Type 0 where
  pub rows : List Row
  pub pending : Option (Text × List Text)
  pub at_free : w ≡ at rows pending idle
  pub free : given.due ≡ None
  pub fine : settle_fault Rules false (held rows pending) ≡ []
  pub holds : Holds (settled_rows Rules pending rows) given

pub record IsDue (w : Walk) (given : GivenOptions) : Type 0 where
  pub rows : List Row
  pub which : Valued
  pub at_due : w ≡ at rows (Some (id_of which, [])) (option (id_of which))
  pub due : given.due ≡ Some which
  pub holds : Holds rows given

abbrev pub Stands : Walk → GivenOptions → Type 0
Stands w given = IsFree w given ⊎ IsDue w given

-- one word more: both refuse it and all that follows, or both go on
pub record Ends (w : Walk) (given : GivenOptions) (word : Text) : Type 0 where
  pub walk_ends : (words : List Text) → has_end_mark words ≡ false → answer w (word ∷ words) ≡ None
  pub grammar_ends : (words : List Text) → options_after given (word ∷ words) ≡ None

pub record Goes (w : Walk) (given : GivenOptions) (word : Text) : Type 0 where
  pub after : Walk
  pub next : GivenOptions
  pub fine : turn_fault Top [] w word ≡ []
  pub walk_goes : walked Rules [] w word ≡ after
  pub grammar_goes : with_word given.due word given ≡ Some next
  pub stands : Stands after next

abbrev pub Steps : Walk → GivenOptions → Text → Type 0
Steps w given word = Ends w given word ⊎ Goes w given word

-- a fault in the word ends the walk
pub fault_ends : (w : Walk) (word : Text) → is_fault (turn_fault Top [] w word) ≡ true → (words : List Text) → has_end_mark words ≡ false → answer w (word ∷ words) ≡ None
fault_ends w word is = λ words mark. refused (turn_fault Top [] w word) _ is

-- so does one that is found at what follows
pub broken_ends : (w : Walk) (word : Text) (rows : List Row) (pending : Option (Text × List Text)) → turn_fault Top [] w word ≡ [] → walked Rules [] w word ≡ at rows pending idle
    → is_fault (settle_fault Rules false (held rows pending)) ≡ true → (words : List Text) → has_end_mark words ≡ false → answer w (word ∷ words) ≡ None
broken_ends w word rows pending fine goes is = λ words mark. rw fine (rw goes (broken words rows pending mark is))

pub nothing_more : (given : GivenOptions) (word : Text) → with_word given.due word given ≡ None → (words : List Text) → options_after given (word ∷ words) ≡ None
nothing_more given word none = λ words. ap (option_and_then (λ g. options_after g words)) none

pub more_due : (rows : List Row) (given : GivenOptions) (due : Option Valued) → Holds rows given → Holds rows (record given { due = due })
more_due rows given due holds = record {
  model = holds.model;
  scheduler = holds.scheduler;
  trace = holds.trace;
  has_model = holds.has_model;
  has_scheduler = holds.has_scheduler;
  has_trace = holds.has_trace;
}

pub same_either_way : (a b : List ℕ) → bytes_eq a b ≡ bytes_eq b a
same_either_way a b = by_tests (bytes_eq a b) (bytes_eq b a) refl refl
  where
    by_tests : (x y : Bool) → bytes_eq a b ≡ x → bytes_eq b a ≡ y → x ≡ y
    by_tests true true one two = refl
    by_tests false false one two = refl
    by_tests true false one two = sym ((bytes_eq-Decides b a).1 (sym ((bytes_eq-Decides a b).0 one))) ∙ two
    by_tests false true one two = sym one ∙ (bytes_eq-Decides a b).1 (sym ((bytes_eq-Decides b a).0 two))

-- ---- a long option, where no value is due

abbrev pub met_of : Text → Option Rule → Option Text → Held → Held × Step
met_of word found value h = after_flag Rules idle word (long_met Rules found value h).0 (long_met Rules found value h).1

abbrev pub turn_of : Text → Option Rule → Option Text → Held → Kinds
turn_of word found value h =
    or_else (long_fault Rules false found value h) (step_fault Top 1 (met_of word found value h).0 (met_of word found value h).1)

abbrev pub walk_of : Text → Option Rule → Option Text → Walk → Walk
walk_of word found value w = after_step Rules word w (met_of word found value w.held).0 (met_of word found value w.held).1

abbrev pub with_named : (model scheduler trace : Bool) → Option Text → GivenOptions → Option GivenOptions
with_named m s t value given =
    if m then with_valued model value given
    else (if s then with_valued scheduler value given else (if t then with_trace value given else None))

module _ (rows : List Row) (pending : Option (Text × List Text)) (given : GivenOptions) (free : given.due ≡ None)
    (fine : settle_fault Rules false (held rows pending) ≡ []) (holds : Holds (settled_rows Rules pending rows) given) where
  abbrev before : Walk
  before = at rows pending idle

  abbrev settled_now : List Row
  settled_now = settled_rows Rules pending rows

  fine_after : (ks : Kinds) → ks ≡ [] → or_else (or_else (settle_fault Rules false (held rows pending)) ks) [] ≡ []
  fine_after ks none = rw (fine, none) refl

  fault_after : (ks : Kinds) → is_fault ks ≡ true → is_fault (or_else (or_else (settle_fault Rules false (held rows pending)) ks) []) ≡ true
  fault_after ks some = rw fine (fault_first ks [] some)

  -- what is known of the word and of what it names
  module _ (z : ℕ) (zs : Text) (found : Option Rule) (value : Option Text) (next : Option GivenOptions)
      (found_is : arg_by_long Rules (option_name (z ∷ zs)) ≡ found) (value_is : option_value (z ∷ zs) ≡ value)
      (next_is : with_word given.due (45 ∷ 45 ∷ z ∷ zs) given ≡ next) where
    abbrev word : Text
    word = 45 ∷ 45 ∷ z ∷ zs

    turn_is : turn_fault Top [] before word ≡ turn_of word found value (held rows pending)
    turn_is = ap₂ (λ f v. turn_of word f v (held rows pending)) found_is value_is

    walk_is : walked Rules [] before word ≡ walk_of word found value before
    unfolding walked
    walk_is = ap₂ (λ f v. walk_of word f v before) found_is value_is

    long_ends : is_fault (turn_of word found value (held rows pending)) ≡ true → next ≡ None → Steps before given word
    long_ends is none = inl (record {
      walk_ends = fault_ends before word (ap is_fault turn_is ∙ is);
      grammar_ends = nothing_more given word (next_is ∙ none);
    })

    long_goes : (after : Walk) (g : GivenOptions) → turn_of word found value (held rows pending) ≡ [] → walk_of word found value before ≡ after → next ≡ Some g → Stands after g
        → Steps before given word
    long_goes after g none goes some stands = inr (record {
      after = after;
      next = g;
      fine = turn_is ∙ none;
      walk_goes = walk_is ∙ goes;
      grammar_goes = next_is ∙ some;
      stands = stands;
    })

  -- by the name of the option and its value
  module _ (z : ℕ) (zs : Text) where
    model_step : (value : Option Text) → arg_by_long Rules (option_name (z ∷ zs)) ≡ Some (rule_of model) → option_value (z ∷ zs) ≡ value
        → with_word given.due (45 ∷ 45 ∷ z ∷ zs) given ≡ with_valued model value given → Steps before given (45 ∷ 45 ∷ z ∷ zs)
    model_step None found_is value_is next_is =
        long_goes z zs (Some (rule_of model)) None (Some (record given { due = Some model })) found_is value_is next_is
        (at settled_now (Some (codes "model", [])) (option (codes "model"))) (record given { due = Some model }) (rw fine refl) refl refl
        (inr (record { rows = settled_now; which = model; at_due = refl; due = refl; holds = more_due settled_now given (Some model) holds }))
    model_step (Some v) found_is value_is next_is = by_row (has_row (codes "model") settled_now) refl
      where
        by_row : (b : Bool) → has_row (codes "model") settled_now ≡ b → Steps before given (45 ∷ 45 ∷ z ∷ zs)
        by_row true is =
            long_ends z zs (Some (rule_of model)) (Some v) (with_value model v given) found_is value_is next_is
            (fault_after (use_fault false (rule_of model) (v ∷ []) settled_now) (second_use model v settled_now is)) (rw (sym holds.has_model ∙ is) refl)
        by_row false is =
            long_goes z zs (Some (rule_of model)) (Some v) (with_value model v given) found_is value_is next_is
            (at (used (rule_of model) (v ∷ []) settled_now) None idle) (record given { model = Some v; due = None })
            (fine_after (use_fault false (rule_of model) (v ∷ []) settled_now) (fine_use model v settled_now is)) refl (rw (sym holds.has_model ∙ is) refl)
            (inl (record {
              rows = used (rule_of model) (v ∷ []) settled_now;
              pending = None;
              at_free = refl;
              free = refl;
              fine = refl;
              holds = model_used v None settled_now given holds is;
            }))

    scheduler_step : (value : Option Text) → arg_by_long Rules (option_name (z ∷ zs)) ≡ Some (rule_of scheduler) → option_value (z ∷ zs) ≡ value
        → with_word given.due (45 ∷ 45 ∷ z ∷ zs) given ≡ with_valued scheduler value given → Steps before given (45 ∷ 45 ∷ z ∷ zs)
    scheduler_step None found_is value_is next_is =
        long_goes z zs (Some (rule_of scheduler)) None (Some (record given { due = Some scheduler })) found_is value_is next_is
        (at settled_now (Some (codes "scheduler", [])) (option (codes "scheduler"))) (record given { due = Some scheduler }) (rw fine refl) refl refl
        (inr (record { rows = settled_now; which = scheduler; at_due = refl; due = refl; holds = more_due settled_now given (Some scheduler) holds }))
    scheduler_step (Some v) found_is value_is next_is = by_row (has_row (codes "scheduler") settled_now) refl
      where
        by_row : (b : Bool) → has_row (codes "scheduler") settled_now ≡ b → Steps before given (45 ∷ 45 ∷ z ∷ zs)
        by_row true is =
            long_ends z zs (Some (rule_of scheduler)) (Some v) (with_value scheduler v given) found_is value_is next_is
            (fault_after (use_fault false (rule_of scheduler) (v ∷ []) settled_now) (second_use scheduler v settled_now is)) (rw (sym holds.has_scheduler ∙ is) refl)
        by_row false is =
            long_goes z zs (Some (rule_of scheduler)) (Some v) (with_value scheduler v given) found_is value_is next_is
            (at (used (rule_of scheduler) (v ∷ []) settled_now) None idle) (record given { scheduler = Some v; due = None })
            (fine_after (use_fault false (rule_of scheduler) (v ∷ []) settled_now) (fine_use scheduler v settled_now is)) refl (rw (sym holds.has_scheduler ∙ is) refl)
            (inl (record {
              rows = used (rule_of scheduler) (v ∷ []) settled_now;
              pending = None;
              at_free = refl;
              free = refl;
              fine = refl;
              holds = scheduler_used v None settled_now given holds is;
            }))

    trace_step : (value : Option Text) → arg_by_long Rules (option_name (z ∷ zs)) ≡ Some trace_arg → option_value (z ∷ zs) ≡ value
        → with_word given.due (45 ∷ 45 ∷ z ∷ zs) given ≡ with_trace value given → Steps before given (45 ∷ 45 ∷ z ∷ zs)
    trace_step (Some v) found_is value_is next_is = long_ends z zs (Some trace_arg) (Some v) None found_is value_is next_is refl refl
    trace_step None found_is value_is next_is = by_row (has_row (codes "trace") settled_now) refl
      where
        by_row : (b : Bool) → has_row (codes "trace") settled_now ≡ b → Steps before given (45 ∷ 45 ∷ z ∷ zs)
        by_row true is =
            long_ends z zs (Some trace_arg) None (with_trace None given) found_is value_is next_is
            (fault_after (use_fault false trace_arg [] settled_now) (second_trace settled_now is)) (rw (sym holds.has_trace ∙ is) refl)
        by_row false is =
            long_goes z zs (Some trace_arg) None (with_trace None given) found_is value_is next_is
            (at (used trace_arg [] settled_now) None idle) (record given { trace = true })
            (fine_after (use_fault false trace_arg [] settled_now) (fine_trace settled_now is)) refl (rw (sym holds.has_trace ∙ is) refl)
            (inl (record {
              rows = used trace_arg [] settled_now;
              pending = None;
              at_free = refl;
              free = free;
              fine = refl;
              holds = trace_used settled_now given holds is;
            }))

    no_step : (value : Option Text) → arg_by_long Rules (option_name (z ∷ zs)) ≡ None → option_value (z ∷ zs) ≡ value
        → with_word given.due (45 ∷ 45 ∷ z ∷ zs) given ≡ None → Steps before given (45 ∷ 45 ∷ z ∷ zs)
    no_step value found_is value_is next_is = long_ends z zs None value None found_is value_is next_is refl refl

    named_step : (m s t : Bool) (value : Option Text) → arg_by_long Rules (option_name (z ∷ zs)) ≡ argument_of m s t → option_value (z ∷ zs) ≡ value
        → with_word given.due (45 ∷ 45 ∷ z ∷ zs) given ≡ with_named m s t value given → Steps before given (45 ∷ 45 ∷ z ∷ zs)
    named_step true s t value found_is value_is next_is = model_step value found_is value_is next_is
    named_step false true t value found_is value_is next_is = scheduler_step value found_is value_is next_is
    named_step false false true value found_is value_is next_is = trace_step value found_is value_is next_is
    named_step false false false value found_is value_is next_is = no_step value found_is value_is next_is

    -- what the grammar makes of the word, by the same tests
    same_tests : with_word given.due (45 ∷ 45 ∷ z ∷ zs) given
        ≡ with_named (bytes_eq (codes "model") (option_name (z ∷ zs))) (bytes_eq (codes "scheduler") (option_name (z ∷ zs)))
        (bytes_eq (codes "trace") (option_name (z ∷ zs))) (option_value (z ∷ zs)) given
    same_tests =
        let name = option_name (z ∷ zs) in
        let value = option_value (z ∷ zs) in
        ap (λ due. with_word due (45 ∷ 45 ∷ z ∷ zs) given) free
        ∙ ap₂ (λ n v. with_option n v given) (long_name z zs) (long_value z zs)
        ∙ ap (λ m. with_named m (bytes_eq name (codes "scheduler")) (bytes_eq name (codes "trace")) value given) (same_either_way name (codes "model"))
        ∙ ap (λ s. with_named (bytes_eq (codes "model") name) s (bytes_eq name (codes "trace")) value given) (same_either_way name (codes "scheduler"))
        ∙ ap (λ t. with_named (bytes_eq (codes "model") name) (bytes_eq (codes "scheduler") name) t value given) (same_either_way name (codes "trace"))

    long_step : Steps before given (45 ∷ 45 ∷ z ∷ zs)
    long_step = named_step _ _ _ (option_value (z ∷ zs)) (by_name (option_name (z ∷ zs))) refl same_tests

  -- no other word is an option
  no_option : (name : Text) (value : Option Text) → IsNoOption name → with_option name value given ≡ None
  no_option name value is = rw (is.model, is.scheduler, is.trace) refl

  strays : (word : Text) → is_fault (turn_fault Top [] before word) ≡ true → IsNoOption (option_name word) → Steps before given word
  strays word fault names = inl (record {
    walk_ends = fault_ends before word fault;
    grammar_ends = nothing_more given word (ap (λ due. with_word due word given) free ∙ no_option (option_name word) (option_value word) names);
  })

  pub free_step : {word : Text} → Looks word → bytes_eq word (codes "--") ≡ false → Steps before given word
  free_step (long z zs) mark = long_step z zs
  free_step (short x xs differs names) mark = strays (45 ∷ x ∷ xs) (stray_short x xs differs rows pending) names
  free_step (other word is_long is_short names) mark = strays word (stray_other word rows pending mark is_long is_short) names
