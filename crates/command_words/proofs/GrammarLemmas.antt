-- The plain grammar of the options.
use Rattle.command_words.proofs.Prelude.{Bool, GivenOptions, List, None, Option, Some, Valued, Visibility, [], ap, bytes_eq, bytes_eq-Decides, codes, false, has_end_mark, if◌then◌else◌, mode_asked_for, mode_from_pair, model, model_asked_for, named_model, named_scheduler, option_and_then, option_map, option_name, option_value, options_after, options_given, refl, scheduler, scheduler_asked_for, subst, sym, true, true≢false, with_trace, with_value, with_valued, with_word, ℕ, ◌||◌, ◌∙◌, ◌∷◌, ◌≡◌}

-- nothing comes of what gives nothing
none_after : {X Y : Type 0} (f : X → Option Y) → ((x : X) → f x ≡ None) → (o : Option X) → option_and_then f o ≡ None
none_after f none None = refl
none_after f none (Some x) = none x

no_options : (due : Option Valued) (trace : Bool) (m s : Option (List ℕ)) → mode_asked_for m s ≡ None
    → options_given (record { model = m; scheduler = s; trace = trace; due = due }) ≡ None
no_options (Some option) trace m s none = refl
no_options None trace m s none =
    ap (λ mode. option_map (λ x. record { mode = x; trace = trace }) mode) none

no_model : (v : List ℕ) (s : Option (List ℕ)) → named_model v ≡ None → mode_asked_for (Some v) s ≡ None
no_model v s none = ap (λ m. option_and_then (λ x. option_and_then (mode_from_pair x) (scheduler_asked_for s)) m) none

no_scheduler : (m : Option (List ℕ)) (v : List ℕ) → named_scheduler v ≡ None → mode_asked_for m (Some v) ≡ None
no_scheduler m v none =
    ap (λ s. option_and_then (λ x. option_and_then (mode_from_pair x) s) (model_asked_for m)) none ∙ by_model (model_asked_for m)
  where
    by_model : (o : Option Visibility) → option_and_then (λ x. option_and_then (mode_from_pair x) None) o ≡ None
    by_model None = refl
    by_model (Some x) = refl

-- a model that has no name stays, and no options come of it
pub bad_model : (words : List (List ℕ)) (v : List ℕ) (s : Option (List ℕ)) (trace : Bool) (due : Option Valued) → named_model v ≡ None
    → options_after (record { model = Some v; scheduler = s; trace = trace; due = due }) words ≡ None
bad_model [] v s trace due none = no_options due trace (Some v) s (no_model v s none)
bad_model (word ∷ words) v s trace (Some model) none = refl
bad_model (word ∷ words) v (Some t) trace (Some scheduler) none = refl
bad_model (word ∷ words) v None trace (Some scheduler) none = bad_model words v (Some word) trace None none
bad_model (word ∷ words) v s trace None none =
    by_name (λ t b due. bad_model words v t b due none) (bytes_eq (option_name word) (codes "--model")) (bytes_eq (option_name word) (codes "--scheduler"))
    (bytes_eq (option_name word) (codes "--trace")) (option_value word) s trace
  where
    by_name : ((t : Option (List ℕ)) (b : Bool) (due : Option Valued)
        → options_after (record { model = Some v; scheduler = t; trace = b; due = due }) words ≡ None)
        → (a b c : Bool) (value t : Option (List ℕ)) (flag : Bool)
        → option_and_then (λ g. options_after g words) (if a then with_valued model value (record { model = Some v; scheduler = t; trace = flag; due = None })
        else (if b then with_valued scheduler value (record { model = Some v; scheduler = t; trace = flag; due = None })
        else (if c then with_trace value (record { model = Some v; scheduler = t; trace = flag; due = None }) else None))) ≡ None
    by_name ends true b c None t flag = ends t flag (Some model)
    by_name ends true b c (Some x) t flag = refl
    by_name ends false true c None t flag = ends t flag (Some scheduler)
    by_name ends false true c (Some x) (Some u) flag = refl
    by_name ends false true c (Some x) None flag = ends (Some x) flag None
    by_name ends false false true None t true = refl
    by_name ends false false true None t false = ends t true None
    by_name ends false false true (Some x) t flag = refl
    by_name ends false false false value t flag = refl

-- so does a scheduler that has no name
pub bad_scheduler : (words : List (List ℕ)) (v : List ℕ) (m : Option (List ℕ)) (trace : Bool) (due : Option Valued) → named_scheduler v ≡ None
    → options_after (record { model = m; scheduler = Some v; trace = trace; due = due }) words ≡ None
bad_scheduler [] v m trace due none = no_options due trace m (Some v) (no_scheduler m v none)
bad_scheduler (word ∷ words) v m trace (Some scheduler) none = refl
bad_scheduler (word ∷ words) v (Some t) trace (Some model) none = refl
bad_scheduler (word ∷ words) v None trace (Some model) none = bad_scheduler words v (Some word) trace None none
bad_scheduler (word ∷ words) v m trace None none =
    by_name (λ t b due. bad_scheduler words v t b due none) (bytes_eq (option_name word) (codes "--model")) (bytes_eq (option_name word) (codes "--scheduler"))
    (bytes_eq (option_name word) (codes "--trace")) (option_value word) m trace
  where
    by_name : ((t : Option (List ℕ)) (b : Bool) (due : Option Valued)
        → options_after (record { model = t; scheduler = Some v; trace = b; due = due }) words ≡ None)
        → (a b c : Bool) (value t : Option (List ℕ)) (flag : Bool)
        → option_and_then (λ g. options_after g words) (if a then with_valued model value (record { model = t; scheduler = Some v; trace = flag; due = None })
        else (if b then with_valued scheduler value (record { model = t; scheduler = Some v; trace = flag; due = None })
        else (if c then with_trace value (record { model = t; scheduler = Some v; trace = flag; due = None }) else None))) ≡ None
    by_name ends true b c None t flag = ends t flag (Some model)
    by_name ends true b c (Some x) (Some u) flag = refl
    by_name ends true b c (Some x) None flag = ends (Some x) flag None
    by_name ends false true c None t flag = ends t flag (Some scheduler)
    by_name ends false true c (Some x) t flag = refl
    by_name ends false false true None t true = refl
    by_name ends false false true None t false = ends t true None
    by_name ends false false true (Some x) t flag = refl
    by_name ends false false false value t flag = refl

-- a value that has no name gives no options
pub bad_value : (option : Valued) (value : List ℕ) (given : GivenOptions) (words : List (List ℕ)) → named_model value ≡ None → named_scheduler value ≡ None
    → option_and_then (λ g. options_after g words) (with_value option value given) ≡ None
bad_value model value given words no_model no_scheduler = by_model given.model given.scheduler given.trace given.due
  where
    by_model : (m s : Option (List ℕ)) (trace : Bool) (due : Option Valued)
        → option_and_then (λ g. options_after g words) (with_value model value (record { model = m; scheduler = s; trace = trace; due = due })) ≡ None
    by_model (Some t) s trace due = refl
    by_model None s trace due = bad_model words value s trace None no_model
bad_value scheduler value given words no_model no_scheduler = by_scheduler given.scheduler given.model given.trace given.due
  where
    by_scheduler : (s m : Option (List ℕ)) (trace : Bool) (due : Option Valued)
        → option_and_then (λ g. options_after g words) (with_value scheduler value (record { model = m; scheduler = s; trace = trace; due = due })) ≡ None
    by_scheduler (Some t) m trace due = refl
    by_scheduler None m trace due = bad_scheduler words value m trace None no_scheduler

same_word : (word other : List ℕ) → bytes_eq word other ≡ true → word ≡ other
same_word word other is = (bytes_eq-Decides word other).0 is

-- the word `--` gives no options
end_mark_gives_none : (given : GivenOptions) (words : List (List ℕ)) → option_and_then (λ g. options_after g words) (with_word given.due (codes "--") given) ≡ None
end_mark_gives_none given words = by_due given.due
  where
    by_due : (due : Option Valued) → option_and_then (λ g. options_after g words) (with_word due (codes "--") given) ≡ None
    by_due None = refl
    by_due (Some option) = bad_value option (codes "--") given words refl refl

-- nor do words with it
pub marked_gives_none : (words : List (List ℕ)) (given : GivenOptions) → has_end_mark words ≡ true → options_after given words ≡ None
marked_gives_none [] given is = absurd (true≢false (sym is))
marked_gives_none (word ∷ words) given is = by_mark (bytes_eq word (codes "--")) refl (λ g rest. marked_gives_none words g rest) is
  where
    by_mark : (b : Bool) → bytes_eq word (codes "--") ≡ b → ((g : GivenOptions) → has_end_mark words ≡ true → options_after g words ≡ None)
        → (b || has_end_mark words) ≡ true → options_after given (word ∷ words) ≡ None
    by_mark true mark none some =
        subst (λ w. option_and_then (λ g. options_after g words) (with_word given.due w given) ≡ None) (sym (same_word word (codes "--") mark))
        (end_mark_gives_none given words)
    by_mark false mark none some = none_after (λ g. options_after g words) (λ g. none g some) (with_word given.due word given)
