-- What `clap` makes of the words of the options, word by word.
use Rattle.command_words.proofs.Prelude.{Bool, Held, Kinds, List, None, Option, Options, Row, Rule, Shape, Some, Text, TooManyValues, UnknownArgument, Waiting, Walk, [], ap, arg_by_long, built, bundle_fault, bytes_eq, chars, check_fault, codes, entered, entered_fault, false, finished, fold, has_end_mark, idle, if◌then◌else◌, is_some, long_fault, long_of, nothing_held, option, option_fault, option_name, option_value, options_app, options_from, options_read, or_else, plain_word, positional, react_fault, refl, settle_fault, settled, short_of, short_word, slice_get, step_fault, sym, takes_values, true, true≢false, turn_fault, unless_refused, walk, walk_from, ℕ, ◌==◌, ◌||◌, ◌∙◌, ◌∷◌, ◌≡◌}
use Rattle.clap.specs.Faults.{defaults_fault, flags_fault, walk_fault}
use Rattle.clap.specs.Walk.{bundle_met, walked}
use Rattle.command_words.proofs.WordShapes.{Looks, long, looks, other, short}
use Rattle.std.specs.List.{fold}

-- the command as it is built, and its arguments
abbrev pub Top : Shape
Top = (built options_app).top

abbrev pub Rules : List Rule
Rules = Top.rules

-- ---- refusals

-- a fault is there
abbrev pub is_fault : Kinds → Bool
is_fault [] = false
is_fault (k ∷ ks) = true

pub refused : (kinds : Kinds) (o : Option Options) → is_fault kinds ≡ true → unless_refused kinds o ≡ None
refused [] o is = absurd (true≢false (sym is))
refused (k ∷ ks) o is = refl

pub fault_first : (a b : Kinds) → is_fault a ≡ true → is_fault (or_else a b) ≡ true
fault_first [] b is = absurd (true≢false (sym is))
fault_first (k ∷ ks) b is = refl

pub fault_next : (a b : Kinds) → is_fault b ≡ true → is_fault (or_else a b) ≡ true
fault_next [] b is = is
fault_next (k ∷ ks) b is = refl

-- ---- the answer, word by word

-- what `clap` answers after a walk, and after these words more
abbrev pub answer : Walk → List Text → Option Options
answer w [] =
    unless_refused (or_else (settle_fault Rules false w.held) (defaults_fault (settled Rules w.held).rows Rules))
    (options_from (finished Rules w.held))
answer w (word ∷ words) = unless_refused (turn_fault Top [] w word) (answer (walked Rules [] w word) words)

abbrev pub end_fault : Walk → Bool → Kinds
end_fault w has =
    or_else (settle_fault Rules false w.held)
    (or_else (defaults_fault (settled Rules w.held).rows Rules) (check_fault Top (finished Rules w.held) has))

pub split : (a b c : Kinds) (o : Option Options) → unless_refused (or_else (or_else a b) c) o ≡ unless_refused a (unless_refused (or_else b c) o)
split [] b c o = refl
split (k ∷ ks) b c o = refl

pub no_check : (a b : Kinds) (rows : List Row) (has : Bool) → or_else a (or_else b (check_fault Top rows has)) ≡ or_else a b
no_check (k ∷ ks) b rows has = refl
no_check [] (k ∷ ks) rows has = refl
no_check [] [] rows true = refl
no_check [] [] rows false = refl

pub word_by_word : (words : List Text) (w : Walk) (has : Bool)
    → unless_refused (or_else (walk_fault Top [] w words) (end_fault (fold (walked Rules []) w words) has))
    (options_from (finished Rules (fold (walked Rules []) w words).held))
    ≡ answer w words
unfolding walk_fault
word_by_word [] w has =
    ap (λ ks. unless_refused ks (options_from (finished Rules w.held))) (no_check (settle_fault Rules false w.held) _ (finished Rules w.held) has)
word_by_word (word ∷ words) w has =
    split (turn_fault Top [] w word) _ _ _ ∙ ap (unless_refused (turn_fault Top [] w word)) (word_by_word words (walked Rules [] w word) has)

pub no_subcommand : (stop : Option (Text × List Text)) → entered_fault (built options_app) stop ≡ []
no_subcommand None = refl
no_subcommand (Some p) = refl

pub read_by_word : (words : List Text) → options_read words ≡ answer (walk_from nothing_held) words
read_by_word words =
    let stop : Option (Text × List Text) = (walk Rules [] nothing_held words).stopped in
    ap (λ below. unless_refused (or_else (walk_fault Top [] (walk_from nothing_held) words)
    (or_else below (end_fault (walk Rules [] nothing_held words) (is_some (entered (built options_app) stop)))))
    (options_from (finished Rules (walk Rules [] nothing_held words).held))) (no_subcommand stop)
    ∙ word_by_word words (walk_from nothing_held) (is_some (entered (built options_app) stop))

-- ---- where the walk stands between two words

abbrev pub held : List Row → Option (Text × List Text) → Held
held rows pending = record { rows = rows; pending = pending; skip = 0 }

abbrev pub at : List Row → Option (Text × List Text) → Waiting → Walk
at rows pending waiting =
    record { held = held rows pending; waiting = waiting; position = 1; is_trailing = false; stopped = None }

-- a word that begins with two hyphens, of the argument that its name has
pub long_turn : (rows : List Row) (pending : Option (Text × List Text)) (waiting : Waiting) (z : ℕ) (zs : List ℕ)
    → is_fault (long_fault Rules false (arg_by_long Rules (option_name (z ∷ zs))) (option_value (z ∷ zs)) (held rows pending)) ≡ true
    → is_fault (turn_fault Top [] (at rows pending waiting) (45 ∷ 45 ∷ z ∷ zs)) ≡ true
long_turn rows pending idle z zs is = fault_first _ _ is
long_turn rows pending (option id) z zs is = fault_first _ _ is
long_turn rows pending positional z zs is = fault_first _ _ is

-- where what is pending fails, every option fails
pub pending_fails : (found : Option Rule) (value : Option Text) (h : Held) → is_fault (settle_fault Rules false h) ≡ true
    → is_fault (long_fault Rules false found value h) ≡ true
pending_fails None value h is = refl
pending_fails (Some a) value h is = by_kind (takes_values a) value
  where
    by_kind : (b : Bool) (value : Option Text) → is_fault (if b then option_fault Rules false a value h
        else (if is_some value then TooManyValues ∷ [] else react_fault Rules false a [] h)) ≡ true
    by_kind true None = is
    by_kind true (Some v) = fault_first _ _ is
    by_kind false None = fault_first _ _ is
    by_kind false (Some v) = refl

-- a word with one hyphen names no argument
pub short_fault_is : (x : ℕ) (xs : List ℕ) (rows : List Row) (pending : Option (Text × List Text)) (first : Option ℕ) → slice_get (chars (x ∷ xs)) 0 ≡ first
    → bundle_fault Rules false (x ∷ xs) (held rows pending) ≡ (if is_some first then UnknownArgument ∷ [] else [])
unfolding flags_fault
short_fault_is x xs rows pending None is = rw is refl
short_fault_is x xs rows pending (Some c) is = rw is refl

-- and is a plain word then
pub short_plain : (waiting : Waiting) (x : ℕ) (xs : List ℕ) (rows : List Row) (pending : Option (Text × List Text))
    → short_word Rules waiting (45 ∷ x ∷ xs) (x ∷ xs) (held rows pending) ≡ plain_word Rules waiting (45 ∷ x ∷ xs) (held rows pending)
unfolding bundle_met
short_plain waiting x xs rows pending = by_first (slice_get (chars (x ∷ xs)) 0) refl
  where
    by_first : (first : Option ℕ) → slice_get (chars (x ∷ xs)) 0 ≡ first
        → short_word Rules waiting (45 ∷ x ∷ xs) (x ∷ xs) (held rows pending) ≡ plain_word Rules waiting (45 ∷ x ∷ xs) (held rows pending)
    by_first None is = rw is refl
    by_first (Some c) is = rw is refl

-- ---- a word, by what it looks like

pub short_turn : (waiting : Waiting) (word flags : Text) (rows : List Row) (pending : Option (Text × List Text)) → bytes_eq word (codes "--") ≡ false → long_of word ≡ None → short_of word ≡ Some flags
    → turn_fault Top [] (at rows pending waiting) word
    ≡ or_else (bundle_fault Rules false flags (held rows pending))
    (step_fault Top 1 (short_word Rules waiting word flags (held rows pending)).0 (short_word Rules waiting word flags (held rows pending)).1)
short_turn idle word flags rows pending mark is_long is_short = rw (mark, is_long, is_short) refl
short_turn (option id) word flags rows pending mark is_long is_short = rw (mark, is_long, is_short) refl
short_turn positional word flags rows pending mark is_long is_short = rw (mark, is_long, is_short) refl

module _ (x : ℕ) (xs : Text) (is : (x == 45) ≡ false) where
  pub no_mark : bytes_eq (45 ∷ x ∷ xs) (codes "--") ≡ false
  no_mark = rw is refl

  pub no_long : long_of (45 ∷ x ∷ xs) ≡ None
  no_long = rw is refl

  pub flags_there : short_of (45 ∷ x ∷ xs) ≡ Some (x ∷ xs)
  flags_there = rw is refl

  pub plain_turn : (waiting : Waiting) (rows : List Row) (pending : Option (Text × List Text))
      → turn_fault Top [] (at rows pending waiting) (45 ∷ x ∷ xs)
      ≡ or_else (bundle_fault Rules false (x ∷ xs) (held rows pending))
      (step_fault Top 1 (plain_word Rules waiting (45 ∷ x ∷ xs) (held rows pending)).0 (plain_word Rules waiting (45 ∷ x ∷ xs) (held rows pending)).1)
  plain_turn waiting rows pending =
      short_turn waiting (45 ∷ x ∷ xs) (x ∷ xs) rows pending no_mark no_long flags_there
      ∙ ap (λ met. or_else (bundle_fault Rules false (x ∷ xs) (held rows pending)) (step_fault Top 1 met.0 met.1)) (short_plain waiting x xs rows pending)

  -- where no value is due
  pub stray_short : (rows : List Row) (pending : Option (Text × List Text)) → is_fault (turn_fault Top [] (at rows pending idle) (45 ∷ x ∷ xs)) ≡ true
  stray_short rows pending = ap is_fault (plain_turn idle rows pending) ∙ fault_next (bundle_fault Rules false (x ∷ xs) (held rows pending)) _ refl

pub stray_other : (word : List ℕ) (rows : List Row) (pending : Option (Text × List Text)) → bytes_eq word (codes "--") ≡ false → long_of word ≡ None → short_of word ≡ None
    → is_fault (turn_fault Top [] (at rows pending idle) word) ≡ true
stray_other word rows pending mark is_long is_short = rw (mark, is_long, is_short) refl

-- a pending value that fails refuses all words
pub broken_turn : {word : List ℕ} → Looks word → (rows : List Row) (pending : Option (Text × List Text)) → bytes_eq word (codes "--") ≡ false → is_fault (settle_fault Rules false (held rows pending)) ≡ true
    → is_fault (turn_fault Top [] (at rows pending idle) word) ≡ true
broken_turn (long z zs) rows pending mark is =
    long_turn rows pending idle z zs (pending_fails (arg_by_long Rules (option_name (z ∷ zs))) (option_value (z ∷ zs)) (held rows pending) is)
broken_turn (short x xs differs names) rows pending mark is = stray_short x xs differs rows pending
broken_turn (other word is_long is_short names) rows pending mark is = stray_other word rows pending mark is_long is_short

-- ---- two parts of a test on a list of words

pub none_first : (a b : Bool) → (a || b) ≡ false → a ≡ false
none_first true b is = is
none_first false b is = refl

pub none_next : (a b : Bool) → (a || b) ≡ false → b ≡ false
none_next true b is = absurd (true≢false is)
none_next false b is = is

pub broken : (words : List Text) (rows : List Row) (pending : Option (Text × List Text)) → has_end_mark words ≡ false → is_fault (settle_fault Rules false (held rows pending)) ≡ true
    → answer (at rows pending idle) words ≡ None
broken [] rows pending mark is = refused _ _ (fault_first _ _ is)
broken (word ∷ words) rows pending mark is =
    refused _ _ (broken_turn (looks word) rows pending (none_first (bytes_eq word (codes "--")) (has_end_mark words) mark) is)
