-- The rows that `clap` keeps, and what was given.
use Rattle.command_words.proofs.Prelude.{Bool, GivenOptions, Kinds, List, None, Option, Row, Rule, Some, Text, Valued, [], ap, append-nil, ap₂, arg_by_long, at_row, bytes_eq, codes, cond, default_fault, false, filled, find, first_of, fold, has_row, if◌then◌else◌, is_some, list_any, model, model_rule, more_values, option_and_then, options_from, options_given, options_with, or_else, reading_by, refl, scheduler, scheduler_rule, slice_get, subst, sym, trace_of, trace_rule, true, use_fault, used, with_default, with_values, without, ◌++◌, ◌||◌, ◌∙◌, ◌∷◌, ◌≡◌}
use Rattle.clap.specs.Faults.{defaults_fault}
use Rattle.clap.specs.declared.builder.value_parser.Reading.{Reading}
use Rattle.clap.specs.declared.parser.matches.ValueSource.{ValueSource}
use Rattle.clap.specs.declared.parser.matches.ValueSource.TheVariants.{CommandLine, DefaultValue}
use Rattle.command_words.proofs.WalkedOptions.{Rules, is_fault, none_first, none_next}
use Rattle.std.specs.List.{fold}

-- ---- rows

pub find_other : (p : Row → Bool) (rows : List Row) (row : Row) → p row ≡ false → find p (rows ++ row ∷ []) ≡ find p rows
find_other p [] row is = rw is refl
find_other p (r ∷ rs) row is = ap (λ o. cond (p r) (Some r) o) (find_other p rs row is)

pub find_new : (p : Row → Bool) (rows : List Row) (row : Row) → list_any p rows ≡ false → p row ≡ true → find p (rows ++ row ∷ []) ≡ Some row
find_new p [] row none is = rw is refl
find_new p (r ∷ rs) row none is =
    rw (none_first (p r) (list_any p rs) none) (find_new p rs row (none_next (p r) (list_any p rs) none) is)

pub any_other : (p : Row → Bool) (rows : List Row) (row : Row) → p row ≡ false → list_any p (rows ++ row ∷ []) ≡ list_any p rows
any_other p [] row is = rw is refl
any_other p (r ∷ rs) row is = ap (λ b. p r || b) (any_other p rs row is)

pub any_new : (p : Row → Bool) (rows : List Row) (row : Row) → p row ≡ true → list_any p (rows ++ row ∷ []) ≡ true
any_new p [] row is = rw is refl
any_new p (r ∷ rs) row is = by_first (p r) (any_new p rs row is)
  where
    by_first : (b : Bool) → list_any p (rs ++ row ∷ []) ≡ true → (b || list_any p (rs ++ row ∷ [])) ≡ true
    by_first true some = refl
    by_first false some = some

pub row_added : (id : Text) (change : Row → List Row) (missing rows : List Row) → has_row id rows ≡ false → at_row id change missing rows ≡ rows ++ missing
row_added id change missing [] none = refl
row_added id change missing (r ∷ rs) none =
    rw (none_first (bytes_eq r.id id) (has_row id rs) none)
    (ap (λ more. r ∷ more) (row_added id change missing rs (none_next (bytes_eq r.id id) (has_row id rs) none)))

pub values_added : (id : Text) (how : Reading) (source : ValueSource) (values : List Text) (rows : List Row) → has_row id rows ≡ false
    → with_values id how source values rows
    ≡ rows ++ record { id = id; values = values; count = None; source = Some source; reading = how } ∷ []
values_added id how source values rows none = row_added id (more_values source values) _ rows none

pub none_removed : (id : Text) (rows : List Row) → has_row id rows ≡ false → without id rows ≡ rows
none_removed id rows none = row_added id (λ _. []) [] rows none ∙ append-nil rows

-- ---- what the rows have

pub record Holds (rows : List Row) (given : GivenOptions) : Type 0 where
  pub model : first_of (codes "model") rows ≡ given.model
  pub scheduler : first_of (codes "scheduler") rows ≡ given.scheduler
  pub trace : trace_of (first_of (codes "trace") rows) ≡ given.trace
  pub has_model : has_row (codes "model") rows ≡ is_some given.model
  pub has_scheduler : has_row (codes "scheduler") rows ≡ is_some given.scheduler
  pub has_trace : has_row (codes "trace") rows ≡ given.trace

abbrev pub row_with : Text → ValueSource → Text → Reading → Row
row_with id source value how = record { id = id; values = value ∷ []; count = None; source = Some source; reading = how }

pub first_other : (id : Text) (rows : List Row) (row : Row) → bytes_eq row.id id ≡ false → first_of id (rows ++ row ∷ []) ≡ first_of id rows
first_other id rows row is = ap (option_and_then (λ (r : Row). slice_get r.values 0)) (find_other (λ r. bytes_eq r.id id) rows row is)

pub first_new : (id : Text) (rows : List Row) (row : Row) → has_row id rows ≡ false → bytes_eq row.id id ≡ true → first_of id (rows ++ row ∷ []) ≡ slice_get row.values 0
first_new id rows row none is = ap (option_and_then (λ (r : Row). slice_get r.values 0)) (find_new (λ r. bytes_eq r.id id) rows row none is)

pub has_other : (id : Text) (rows : List Row) (row : Row) → bytes_eq row.id id ≡ false → has_row id (rows ++ row ∷ []) ≡ has_row id rows
has_other id rows row is = any_other (λ r. bytes_eq r.id id) rows row is

pub has_new : (id : Text) (rows : List Row) (row : Row) → bytes_eq row.id id ≡ true → has_row id (rows ++ row ∷ []) ≡ true
has_new id rows row is = any_new (λ r. bytes_eq r.id id) rows row is

module _ (rows : List Row) (given : GivenOptions) (holds : Holds rows given) (source : ValueSource) (how : Reading) where
  pub model_added : (v : Text) (due : Option Valued) → has_row (codes "model") rows ≡ false
      → Holds (rows ++ row_with (codes "model") source v how ∷ []) (record given { model = Some v; due = due })
  model_added v due none =
      let row = row_with (codes "model") source v how in
      record {
        model = first_new (codes "model") rows row none refl;
        scheduler = first_other (codes "scheduler") rows row refl ∙ holds.scheduler;
        trace = ap trace_of (first_other (codes "trace") rows row refl) ∙ holds.trace;
        has_model = has_new (codes "model") rows row refl;
        has_scheduler = has_other (codes "scheduler") rows row refl ∙ holds.has_scheduler;
        has_trace = has_other (codes "trace") rows row refl ∙ holds.has_trace;
      }

  pub scheduler_added : (v : Text) (due : Option Valued) → has_row (codes "scheduler") rows ≡ false
      → Holds (rows ++ row_with (codes "scheduler") source v how ∷ []) (record given { scheduler = Some v; due = due })
  scheduler_added v due none =
      let row = row_with (codes "scheduler") source v how in
      record {
        model = first_other (codes "model") rows row refl ∙ holds.model;
        scheduler = first_new (codes "scheduler") rows row none refl;
        trace = ap trace_of (first_other (codes "trace") rows row refl) ∙ holds.trace;
        has_model = has_other (codes "model") rows row refl ∙ holds.has_model;
        has_scheduler = has_new (codes "scheduler") rows row refl;
        has_trace = has_other (codes "trace") rows row refl ∙ holds.has_trace;
      }

  pub trace_added : has_row (codes "trace") rows ≡ false
      → Holds (rows ++ row_with (codes "trace") source (codes "true") how ∷ []) (record given { trace = true })
  trace_added none =
      let row = row_with (codes "trace") source (codes "true") how in
      record {
        model = first_other (codes "model") rows row refl ∙ holds.model;
        scheduler = first_other (codes "scheduler") rows row refl ∙ holds.scheduler;
        trace = ap trace_of (first_new (codes "trace") rows row none refl);
        has_model = has_other (codes "model") rows row refl ∙ holds.has_model;
        has_scheduler = has_other (codes "scheduler") rows row refl ∙ holds.has_scheduler;
        has_trace = has_new (codes "trace") rows row refl;
      }

-- ---- the three arguments

abbrev pub id_of : Valued → Text
id_of model = codes "model"
id_of scheduler = codes "scheduler"

abbrev pub rule_of : Valued → Rule
rule_of model = filled model_rule
rule_of scheduler = filled scheduler_rule

abbrev pub trace_arg : Rule
trace_arg = filled trace_rule

abbrev pub argument_of : (model scheduler trace : Bool) → Option Rule
argument_of true s t = Some (rule_of model)
argument_of false true t = Some (rule_of scheduler)
argument_of false false true = Some trace_arg
argument_of false false false = None

-- the argument of a name
pub by_name : (name : Text) → arg_by_long Rules name
    ≡ argument_of (bytes_eq (codes "model") name) (bytes_eq (codes "scheduler") name) (bytes_eq (codes "trace") name)
by_name name = by_tests (bytes_eq (codes "model") name) (bytes_eq (codes "scheduler") name) (bytes_eq (codes "trace") name)
  where
    by_tests : (m s t : Bool) → cond (m || false) (Some (rule_of model)) (cond (s || false) (Some (rule_of scheduler)) (cond (t || false) (Some trace_arg) None))
        ≡ argument_of m s t
    by_tests true s t = refl
    by_tests false true t = refl
    by_tests false false true = refl
    by_tests false false false = refl

-- ---- one use of an argument

pub fine_use : (which : Valued) (v : Text) (rows : List Row) → has_row (id_of which) rows ≡ false → use_fault false (rule_of which) (v ∷ []) rows ≡ []
fine_use model v rows none = rw none refl
fine_use scheduler v rows none = rw none refl

pub second_use : (which : Valued) (v : Text) (rows : List Row) → has_row (id_of which) rows ≡ true → is_fault (use_fault false (rule_of which) (v ∷ []) rows) ≡ true
second_use model v rows some = rw some refl
second_use scheduler v rows some = rw some refl

pub fine_trace : (rows : List Row) → has_row (codes "trace") rows ≡ false → use_fault false trace_arg [] rows ≡ []
fine_trace rows none = rw none refl

pub second_trace : (rows : List Row) → has_row (codes "trace") rows ≡ true → is_fault (use_fault false trace_arg [] rows) ≡ true
second_trace rows some = rw some refl

-- the rows after it
pub valued_rows : (id : Text) (how : Reading) (v : Text) (rows : List Row) → has_row id rows ≡ false
    → with_values id how CommandLine (v ∷ []) (without id rows) ≡ rows ++ row_with id CommandLine v how ∷ []
valued_rows id how v rows none =
    ap (with_values id how CommandLine (v ∷ [])) (none_removed id rows none) ∙ values_added id how CommandLine (v ∷ []) rows none

pub model_used : (v : Text) (due : Option Valued) (rows : List Row) (given : GivenOptions) → Holds rows given → has_row (codes "model") rows ≡ false
    → Holds (used (rule_of model) (v ∷ []) rows) (record given { model = Some v; due = due })
model_used v due rows given holds none =
    subst (λ rs. Holds rs (record given { model = Some v; due = due })) (sym (valued_rows (codes "model") (reading_by (rule_of model)) v rows none))
    (model_added rows given holds CommandLine (reading_by (rule_of model)) v due none)

pub scheduler_used : (v : Text) (due : Option Valued) (rows : List Row) (given : GivenOptions) → Holds rows given → has_row (codes "scheduler") rows ≡ false
    → Holds (used (rule_of scheduler) (v ∷ []) rows) (record given { scheduler = Some v; due = due })
scheduler_used v due rows given holds none =
    subst (λ rs. Holds rs (record given { scheduler = Some v; due = due })) (sym (valued_rows (codes "scheduler") (reading_by (rule_of scheduler)) v rows none))
    (scheduler_added rows given holds CommandLine (reading_by (rule_of scheduler)) v due none)

pub trace_used : (rows : List Row) (given : GivenOptions) → Holds rows given → has_row (codes "trace") rows ≡ false
    → Holds (used trace_arg [] rows) (record given { trace = true })
trace_used rows given holds none =
    subst (λ rs. Holds rs (record given { trace = true })) (sym (valued_rows (codes "trace") (reading_by trace_arg) (codes "true") rows none))
    (trace_added rows given holds CommandLine (reading_by trace_arg) none)

-- ---- the end of the words

abbrev pub no_kinds : Kinds
no_kinds = []

pub no_default : (which : Valued) (rows : List Row) → with_default rows (rule_of which) ≡ rows
no_default model rows = by_row (has_row (codes "model") rows)
  where
    by_row : (b : Bool) → (if b then rows else rows) ≡ rows
    by_row true = refl
    by_row false = refl
no_default scheduler rows = by_row (has_row (codes "scheduler") rows)
  where
    by_row : (b : Bool) → (if b then rows else rows) ≡ rows
    by_row true = refl
    by_row false = refl

pub either_way : (b : Bool) → (if b || true then no_kinds else no_kinds) ≡ no_kinds
either_way true = refl
either_way false = refl

pub fine_default : (which : Valued) (rows : List Row) → default_fault rows (rule_of which) ≡ []
fine_default model rows = either_way (has_row (codes "model") rows)
fine_default scheduler rows = either_way (has_row (codes "scheduler") rows)

pub fine_trace_default : (rows : List Row) → default_fault rows trace_arg ≡ []
fine_trace_default rows = by_row (has_row (codes "trace") rows)
  where
    by_row : (b : Bool) → (if b || false then no_kinds else no_kinds) ≡ no_kinds
    by_row true = refl
    by_row false = refl

pub fine_defaults : (rows : List Row) → defaults_fault rows Rules ≡ []
unfolding defaults_fault
fine_defaults rows =
    ap₂ or_else (fine_default model rows)
    (ap₂ or_else (fine_default scheduler (with_default rows (rule_of model)))
    (ap (λ ks. or_else ks []) (fine_trace_default (with_default (with_default rows (rule_of model)) (rule_of scheduler)))))

pub finished_rows : (rows : List Row) → fold with_default rows Rules ≡ with_default rows trace_arg
finished_rows rows = ap (λ rs. with_default rs trace_arg) (ap (λ rs. with_default rs (rule_of scheduler)) (no_default model rows) ∙ no_default scheduler rows)

pub options_same : (m s t : Option Text) (given : GivenOptions) → given.due ≡ None → m ≡ given.model → s ≡ given.scheduler → trace_of t ≡ given.trace
    → options_with m s t ≡ options_given given
options_same m s t given free model_is scheduler_is trace_is = rw free (rw (model_is, scheduler_is, trace_is) refl)

-- the options in the rows at the end are those that were given
pub end_options : (rows : List Row) (given : GivenOptions) → given.due ≡ None → Holds rows given → options_from (with_default rows trace_arg) ≡ options_given given
end_options rows given free holds = by_row (has_row (codes "trace") rows) refl
  where
    by_row : (b : Bool) → has_row (codes "trace") rows ≡ b → options_from (with_default rows trace_arg) ≡ options_given given
    by_row true is = rw is (options_same (first_of (codes "model") rows) (first_of (codes "scheduler") rows) (first_of (codes "trace") rows) given free holds.model holds.scheduler holds.trace)
    by_row false is =
        let row = row_with (codes "trace") DefaultValue (codes "false") (reading_by trace_arg) in
        let added : with_default rows trace_arg ≡ rows ++ row ∷ [] = rw is (values_added (codes "trace") (reading_by trace_arg) DefaultValue (codes "false" ∷ []) rows is) in
        ap options_from added
        ∙ options_same (first_of (codes "model") (rows ++ row ∷ [])) (first_of (codes "scheduler") (rows ++ row ∷ [])) (first_of (codes "trace") (rows ++ row ∷ [])) given free (first_other (codes "model") rows row refl ∙ holds.model) (first_other (codes "scheduler") rows row refl ∙ holds.scheduler)
        (ap trace_of (first_new (codes "trace") rows row is refl) ∙ (sym is ∙ holds.has_trace))
