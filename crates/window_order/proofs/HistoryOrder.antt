-- The order of first accesses and events in the line and in the history, where an entry comes.
use Rattle.window_order.proofs.Prelude.{Back, Bool, CutAt, DeviceNo, Event, Failed, First, InHistoryOrder, IsTrue, Item, Lacks, Last, List, LogMark, None, Option, Ran, Reading, RunNo, Some, [], and_parts, and_right, any_insert, any_other, any_without, ap, arith, both_ways, common_steps, cond, cons_option, did, eq-eqb, eqb-false, eqb-true, false, filter, filter_map, firsts_of_line, firsts_of_log, if◌then◌else◌, is_doomed, is_event, is_event_of, is_event_on, is_first_mark, is_in_line, is_last_mark, is_late, is_ran, is_some, list_any, marks_of_line, marks_of_log, not, of_run, or_from, or_left, or_parts, refl, run_no, sees_up, span_of, subst, sym, take_while, take_while-cons, true, unwrap_or, view_of, without, ℕ, ◌&&◌, ◌++◌, ◌==◌, ◌||◌, ◌∙◌, ◌∷◌, ◌≡◌, ◌≢◌}
use Rattle.std.proofs.lemmas.List.Elements.{filter_map-append}

-- Lists

-- two tests of items that agree on each
pub same_items : {B : Type 0} (f k : Item → Option B) (xs : List Item) → ((r : RunNo) → f (Ran r) ≡ k (Ran r)) → ((e : DeviceNo) (j : ℕ) → f (Failed e j) ≡ k (Failed e j)) → ((e : DeviceNo) (j : ℕ) → f (Back e j) ≡ k (Back e j)) → filter_map f xs ≡ filter_map k xs
same_items f k [] runs failures backs = refl
same_items f k (Ran r ∷ xs) runs failures backs = λ i. cons_option (runs r i) (same_items f k xs runs failures backs i)
same_items f k (Failed e j ∷ xs) runs failures backs = λ i. cons_option (failures e j i) (same_items f k xs runs failures backs i)
same_items f k (Back e j ∷ xs) runs failures backs = λ i. cons_option (backs e j i) (same_items f k xs runs failures backs i)

-- .. but on a run that the list lacks
pub other_items : {B : Type 0} (f k : Item → Option B) (r : ℕ) (xs : List Item) → Lacks r xs → ((q : RunNo) → q.0 ≢ r → f (Ran q) ≡ k (Ran q)) → ((e : DeviceNo) (j : ℕ) → f (Failed e j) ≡ k (Failed e j)) → ((e : DeviceNo) (j : ℕ) → f (Back e j) ≡ k (Back e j)) → filter_map f xs ≡ filter_map k xs
unfolding Lacks
other_items f k r [] lacks runs failures backs = refl
other_items f k r (Ran q ∷ xs) lacks runs failures backs = λ i. cons_option (runs q lacks.0 i) (other_items f k r xs lacks.1 runs failures backs i)
other_items f k r (Failed e j ∷ xs) lacks runs failures backs = λ i. cons_option (failures e j i) (other_items f k r xs lacks runs failures backs i)
other_items f k r (Back e j ∷ xs) lacks runs failures backs = λ i. cons_option (backs e j i) (other_items f k r xs lacks runs failures backs i)

-- two tests of marks that agree on each but the first mark of a run that the log lacks
pub other_marks : {B : Type 0} (f k : LogMark → Option B) (r : ℕ) (xs : List LogMark) → list_any (is_first_mark r) xs ≡ false → ((q : ℕ) → q ≢ r → f (First q) ≡ k (First q)) → ((i : Item) → f (Event i) ≡ k (Event i)) → ((q : ℕ) → f (Last q) ≡ k (Last q)) → filter_map f xs ≡ filter_map k xs
other_marks f k r [] none firsts events lasts = refl
other_marks f k r (First q ∷ xs) none firsts events lasts = λ i. cons_option (firsts q differ i) (other_marks f k r xs (or_parts (q == r) (list_any (is_first_mark r) xs) none).1 firsts events lasts i)
  where
    clash : (q r : ℕ) (y : Bool) → ((q == r) || y) ≡ false → q ≡ r → ⊥
    clash q r y h same = grind (arith, common_steps)

    differ : q ≢ r
    differ same = clash q r (list_any (is_first_mark r) xs) none same
other_marks f k r (Event e ∷ xs) none firsts events lasts = λ i. cons_option (events e i) (other_marks f k r xs none firsts events lasts i)
other_marks f k r (Last q ∷ xs) none firsts events lasts = λ i. cons_option (lasts q i) (other_marks f k r xs none firsts events lasts i)

pub same_marks : {B : Type 0} (f k : LogMark → Option B) (xs : List LogMark) → ((q : ℕ) → f (First q) ≡ k (First q)) → ((i : Item) → f (Event i) ≡ k (Event i)) → ((q : ℕ) → f (Last q) ≡ k (Last q)) → filter_map f xs ≡ filter_map k xs
same_marks f k [] firsts events lasts = refl
same_marks f k (First q ∷ xs) firsts events lasts = λ i. cons_option (firsts q i) (same_marks f k xs firsts events lasts i)
same_marks f k (Event e ∷ xs) firsts events lasts = λ i. cons_option (events e i) (same_marks f k xs firsts events lasts i)
same_marks f k (Last q ∷ xs) firsts events lasts = λ i. cons_option (lasts q i) (same_marks f k xs firsts events lasts i)

-- what a test keeps
abbrev pub if_kept : {A : Type 0} → (A → Bool) → A → Option A
if_kept p x = if p x then Some x else None

pub kept_items : {A : Type 0} (p : A → Bool) (xs : List A) → filter p xs ≡ filter_map (if_kept p) xs
kept_items {A = A} p [] = refl
kept_items {A = A} p (x ∷ xs) = ap (λ ys. cond (p x) (x ∷ ys) ys) (kept_items p xs) ∙ at_ (p x)
  where
    at_ : (b : Bool) → cond b (x ∷ filter_map (if_kept p) xs) (filter_map (if_kept p) xs) ≡ cons_option (if b then Some x else None) (filter_map (if_kept p) xs)
    at_ true = refl
    at_ false = refl

-- the run is new, and what stands behind it is nothing
pub newest : {B : Type 0} (f k : Item → Option B) (front back : List Item) (r : ℕ) (new : B) → Lacks r front → Lacks r back → ((q : RunNo) → q.0 ≢ r → k (Ran q) ≡ f (Ran q)) → ((e : DeviceNo) (j : ℕ) → k (Failed e j) ≡ f (Failed e j)) → ((e : DeviceNo) (j : ℕ) → k (Back e j) ≡ f (Back e j))
    → f (Ran (run_no r)) ≡ None → k (Ran (run_no r)) ≡ Some new → filter_map f back ≡ [] → filter_map k (front ++ Ran (run_no r) ∷ back) ≡ filter_map f (front ++ Ran (run_no r) ∷ back) ++ new ∷ []
newest {B = B} f k front back r new before behind runs failures backs was is none =
    filter_map-append k front (Ran (run_no r) ∷ back) ∙ (λ i. other_items k f r front before runs failures backs i ++ cons_option (is i) ((other_items k f r back behind runs failures backs ∙ none) i))
    ∙ sym (ap (λ xs. xs ++ new ∷ []) (filter_map-append f front (Ran (run_no r) ∷ back) ∙ (λ i. filter_map f front ++ cons_option (was i) (none i)) ∙ append_nil (filter_map f front)))
  where
    append_nil : (xs : List B) → xs ++ [] ≡ xs
    append_nil [] = refl
    append_nil (x ∷ xs) = ap (λ ys. x ∷ ys) (append_nil xs)

-- Spans

pub span_none : (r : ℕ) (xs : List LogMark) → list_any (is_first_mark r) xs ≡ false → span_of r xs ≡ []
span_none r [] none = refl
span_none r (x ∷ xs) none = (λ i. if (or_parts (is_first_mark r x) (list_any (is_first_mark r) xs) none).0 i then take_while (λ y. not (is_last_mark r y)) xs else span_of r xs) ∙ span_none r xs (or_parts (is_first_mark r x) (list_any (is_first_mark r) xs) none).1

-- a mark that is no event leaves a span without events
pub taken_quiet : (p : LogMark → Bool) (xs : List LogMark) (x : LogMark) → is_event x ≡ false → list_any is_event (take_while p xs) ≡ false → list_any is_event (take_while p (xs ++ x ∷ [])) ≡ false
taken_quiet p [] x plain quiet = ap (list_any is_event) (take_while-cons p x []) ∙ at_ (p x)
  where
    at_ : (b : Bool) → list_any is_event (cond b (x ∷ take_while p []) []) ≡ false
    at_ true = ap (λ b. b || false) plain
    at_ false = refl
taken_quiet p (y ∷ xs) x plain quiet = ap (list_any is_event) (take_while-cons p y (xs ++ x ∷ [])) ∙ at_ (λ h. taken_quiet p xs x plain h) (p y) (sym (ap (list_any is_event) (take_while-cons p y xs)) ∙ quiet)
  where
    at_ : (list_any is_event (take_while p xs) ≡ false → list_any is_event (take_while p (xs ++ x ∷ [])) ≡ false) → (b : Bool) → list_any is_event (cond b (y ∷ take_while p xs) []) ≡ false → list_any is_event (cond b (y ∷ take_while p (xs ++ x ∷ [])) []) ≡ false
    at_ step true h = or_from (is_event y) (list_any is_event (take_while p (xs ++ x ∷ []))) (or_parts (is_event y) (list_any is_event (take_while p xs)) h).0 (step (or_parts (is_event y) (list_any is_event (take_while p xs)) h).1)
    at_ step false h = refl

pub span_quiet : (r : ℕ) (xs : List LogMark) (x : LogMark) → is_event x ≡ false → list_any is_event (span_of r xs) ≡ false → list_any is_event (span_of r (xs ++ x ∷ [])) ≡ false
span_quiet r [] x plain quiet = at_ (is_first_mark r x)
  where
    at_ : (b : Bool) → list_any is_event (if b then take_while (λ y. not (is_last_mark r y)) [] else []) ≡ false
    at_ true = refl
    at_ false = refl
span_quiet r (y ∷ xs) x plain quiet = at_ (λ h. span_quiet r xs x plain h) (is_first_mark r y) quiet
  where
    at_ : (list_any is_event (span_of r xs) ≡ false → list_any is_event (span_of r (xs ++ x ∷ [])) ≡ false)
        → (b : Bool) → list_any is_event (if b then take_while (λ z. not (is_last_mark r z)) xs else span_of r xs) ≡ false
        → list_any is_event (if b then take_while (λ z. not (is_last_mark r z)) (xs ++ x ∷ []) else span_of r (xs ++ x ∷ [])) ≡ false
    at_ step true h = taken_quiet (λ z. not (is_last_mark r z)) xs x plain h
    at_ step false h = step h

-- One entry more

pub three : (a b c : Bool) → IsTrue (a && b && c) → (a ≡ true) × (b ≡ true) × (c ≡ true)
three a b c h = (grind (arith, common_steps), grind (arith, common_steps), grind (arith, common_steps))

pub all_three : (a b c : Bool) → a ≡ true → b ≡ true → c ≡ true → IsTrue (a && b && c)
all_three a b c h k e = grind (arith, common_steps)

pub sound : (a b : Bool) → (a ≡ false → b ≡ false) → not a ≡ true → not b ≡ true
sound a b h k = grind (arith, common_steps)

-- the device's first accesses and its log are as they were, and no doom is taken back
pub record SeesSame (n m : Reading) (d : ℕ) : Type 0 where
  pub line : m.line ≡ n.line
  pub view : (q : ℕ) → view_of m q d ≡ view_of n q d
  pub late : (q : ℕ) → is_late m q d ≡ is_late n q d
  pub doomed : (q : ℕ) → is_doomed m q ≡ false → is_doomed n q ≡ false

-- the item is an event of the device, or a run whose first answer there came when it was not doomed
abbrev pub is_marked : Reading → ℕ → Item → Bool
is_marked n d i = is_event_on d i || of_run (λ r. did n r d && not (is_late n r d)) i

same_line_of : (n m : Reading) (d : ℕ) → SeesSame n m d → (firsts_of_line m d ≡ firsts_of_line n d) × (marks_of_line m d ≡ marks_of_line n d)
same_line_of n m d s = (firsts, marks)
  where
    firsts : firsts_of_line m d ≡ firsts_of_line n d
    firsts = ap (filter_map _) s.line ∙ same_items _ _ n.line (λ r. ap (λ v. if is_some v then Some r.0 else None) (s.view r.0)) (λ e j. refl) (λ e j. refl)

    marks : marks_of_line m d ≡ marks_of_line n d
    marks =
        ap (filter (is_marked m d)) s.line ∙ kept_items (is_marked m d) n.line
        ∙ same_items (if_kept (is_marked m d)) (if_kept (is_marked n d)) n.line (λ r i. if false || (is_some (s.view r.0 i) && not (s.late r.0 i)) then Some (Ran r) else None) (λ e j. refl) (λ e j. refl)
        ∙ sym (kept_items (is_marked n d) n.line)

same_log_of : (n m : Reading) (d : ℕ) → SeesSame n m d → m.log d ≡ n.log d → (firsts_of_log m d ≡ firsts_of_log n d) × (marks_of_log m d ≡ marks_of_log n d)
same_log_of n m d s log = (firsts, marks)
  where
    firsts : firsts_of_log m d ≡ firsts_of_log n d
    firsts = ap (filter_map _) log ∙ same_marks _ _ (n.log d) (λ q i. if list_any (is_ran q) (s.line i) then Some q else None) (λ e. refl) (λ q. refl)

    marks : marks_of_log m d ≡ marks_of_log n d
    marks = ap (filter_map _) log ∙ same_marks _ _ (n.log d) (λ q i. if list_any (is_ran q) (s.line i) && not (s.late q i) then Some (Ran (run_no q)) else None) (λ e. refl) (λ q. refl)

same_spans : (n m : Reading) (d : ℕ) → SeesSame n m d → (q : ℕ) → IsTrue (is_in_line m q && not (is_doomed m q) && sees_up m q d) → IsTrue (is_in_line n q && not (is_doomed n q) && sees_up n q d)
same_spans n m d s q h =
    let parts = three (is_in_line m q) (not (is_doomed m q)) (sees_up m q d) h in
    all_three (is_in_line n q) (not (is_doomed n q)) (sees_up n q d) (ap (list_any (is_ran q)) (sym s.line) ∙ parts.0) (sound (is_doomed m q) (is_doomed n q) (s.doomed q) parts.1) (ap (λ v. unwrap_or v false) (sym (s.view q)) ∙ parts.2)

pub same_history : (n m : Reading) (d : ℕ) → SeesSame n m d → m.log d ≡ n.log d → InHistoryOrder n d → InHistoryOrder m d
same_history n m d s log h = record {
  runs = (same_line_of n m d s).0 ∙ h.runs ∙ sym (same_log_of n m d s log).0;
  events = (same_line_of n m d s).1 ∙ h.events ∙ sym (same_log_of n m d s log).1;
  spans = λ q facts. ap (λ l. list_any is_event (span_of q l)) log ∙ h.spans q (same_spans n m d s q facts);
}

pub marks_unkept : {B : Type 0} (f : LogMark → Option B) (xs : List LogMark) (x : LogMark) → f x ≡ None → filter_map f (xs ++ x ∷ []) ≡ filter_map f xs
marks_unkept f [] x none = ap (λ o. cons_option o []) none
marks_unkept f (y ∷ xs) x none = ap (cons_option (f y)) (marks_unkept f xs x none)

pub marks_kept : {B : Type 0} (f : LogMark → Option B) (xs : List LogMark) (x : LogMark) (new : B) → f x ≡ Some new → filter_map f (xs ++ x ∷ []) ≡ filter_map f xs ++ new ∷ []
marks_kept f xs x new some = filter_map-append f xs (x ∷ []) ∙ ap (λ o. filter_map f xs ++ cons_option o []) some

-- the answer to a run's last command on the device adds nothing
pub last_history : (n m : Reading) (d r : ℕ) → SeesSame n m d → m.log d ≡ n.log d ++ Last r ∷ [] → InHistoryOrder n d → InHistoryOrder m d
last_history n m d r s log h = record {
  runs = (same_line_of n m d s).0 ∙ h.runs ∙ sym firsts;
  events = (same_line_of n m d s).1 ∙ h.events ∙ sym marks;
  spans = λ q facts. ap (λ l. list_any is_event (span_of q l)) log ∙ span_quiet q (n.log d) (Last r) refl (h.spans q (same_spans n m d s q facts));
}
  where
    firsts : firsts_of_log m d ≡ firsts_of_log n d
    firsts = ap (filter_map _) log ∙ marks_unkept _ (n.log d) (Last r) refl ∙ same_marks _ _ (n.log d) (λ q i. if list_any (is_ran q) (s.line i) then Some q else None) (λ e. refl) (λ q. refl)

    marks : marks_of_log m d ≡ marks_of_log n d
    marks = ap (filter_map _) log ∙ marks_unkept _ (n.log d) (Last r) refl ∙ same_marks _ _ (n.log d) (λ q i. if list_any (is_ran q) (s.line i) && not (s.late q i) then Some (Ran (run_no q)) else None) (λ e. refl) (λ q. refl)

-- what no item passes keeps nothing
pub none_items : {B : Type 0} (f : Item → Option B) (p : Item → Bool) (xs : List Item) → list_any p xs ≡ false
    → ((r : RunNo) → p (Ran r) ≡ false → f (Ran r) ≡ None) → ((e : DeviceNo) (j : ℕ) → p (Failed e j) ≡ false → f (Failed e j) ≡ None)
    → ((e : DeviceNo) (j : ℕ) → p (Back e j) ≡ false → f (Back e j) ≡ None) → filter_map f xs ≡ []
none_items f p [] none runs failures backs = refl
none_items f p (Ran r ∷ xs) none runs failures backs = let parts = or_parts (p (Ran r)) (list_any p xs) none in λ i. cons_option (runs r parts.0 i) (none_items f p xs parts.1 runs failures backs i)
none_items f p (Failed e j ∷ xs) none runs failures backs = let parts = or_parts (p (Failed e j)) (list_any p xs) none in λ i. cons_option (failures e j parts.0 i) (none_items f p xs parts.1 runs failures backs i)
none_items f p (Back e j ∷ xs) none runs failures backs = let parts = or_parts (p (Back e j)) (list_any p xs) none in λ i. cons_option (backs e j parts.0 i) (none_items f p xs parts.1 runs failures backs i)

-- the run's first answer there came when it was not doomed
abbrev pub counts_first : Reading → ℕ → ℕ → Bool
counts_first n d r = did n r d && not (is_late n r d)

-- a run has its first answer on the device: no run behind it has one, and where it counts nothing marked stands behind it
pub record HasFirst (n m : Reading) (d r : ℕ) : Type 0 where
  pub cut : CutAt r n.line
  pub line : m.line ≡ n.line
  pub log : m.log d ≡ n.log d ++ First r ∷ []
  pub view : (q : ℕ) → q ≢ r → view_of m q d ≡ view_of n q d
  pub late : (q : ℕ) → q ≢ r → is_late m q d ≡ is_late n q d
  pub doomed : (q : ℕ) → is_doomed m q ≡ false → is_doomed n q ≡ false
  pub was : did n r d ≡ false
  pub is : did m r d ≡ true
  pub unlogged : list_any (is_first_mark r) (n.log d) ≡ false
  pub behind : list_any (of_run (λ q. did n q d)) cut.back ≡ false
  pub calm : is_late m r d ≡ false → list_any (is_marked n d) cut.back ≡ false

pub first_history : (n m : Reading) (d r : ℕ) → HasFirst n m d r → InHistoryOrder n d → InHistoryOrder m d
first_history n m d r s h = record {
  runs = line_runs ∙ ap (λ xs. xs ++ r ∷ []) h.runs ∙ sym log_runs;
  events = events (is_late m r d) refl;
  spans = λ q facts. ap (λ l. list_any is_event (span_of q l)) s.log ∙ spans q facts (q == r) refl;
}
  where
    all : List Item
    all = s.cut.front ++ Ran (run_no r) ∷ s.cut.back

    at : m.line ≡ all
    at = s.line ∙ s.cut.at

    in_line : is_in_line m r ≡ true
    in_line = ap (list_any (is_ran r)) at ∙ any_insert (is_ran r) s.cut.front s.cut.back (Ran (run_no r)) ∙ or_left (r == r) (list_any (is_ran r) (s.cut.front ++ s.cut.back)) (eq-eqb r r refl)

    line_runs : firsts_of_line m d ≡ firsts_of_line n d ++ r ∷ []
    line_runs =
        (λ i. firsts_of_line (record m { line = at i }) d)
        ∙ newest _ _ s.cut.front s.cut.back r r s.cut.before s.cut.behind (λ q ne. ap (λ v. if is_some v then Some q.0 else None) (s.view q.0 ne)) (λ e j. refl) (λ e j. refl) (ap (λ b. if b then Some r else None) s.was) (ap (λ b. if b then Some r else None) s.is)
        (none_items _ (of_run (λ q. did n q d)) s.cut.back s.behind (λ q no'. ap (λ b. if b then Some q.0 else None) no') (λ e j no'. refl) (λ e j no'. refl))
        ∙ sym (λ i. firsts_of_line (record n { line = s.cut.at i }) d ++ r ∷ [])

    log_runs : firsts_of_log m d ≡ firsts_of_log n d ++ r ∷ []
    log_runs =
        ap (filter_map _) s.log ∙ marks_kept _ (n.log d) (First r) r (ap (λ b. if b then Some r else None) in_line)
        ∙ ap (λ xs. xs ++ r ∷ []) (same_marks _ _ (n.log d) (λ q i. if list_any (is_ran q) (s.line i) then Some q else None) (λ e. refl) (λ q. refl))

    counts : (q : ℕ) → q ≢ r → counts_first m d q ≡ counts_first n d q
    counts q ne = λ i. is_some (s.view q ne i) && not (s.late q ne i)

    was_none : counts_first n d r ≡ false
    was_none = ap (λ b. b && not (is_late n r d)) s.was

    now : (b : Bool) → is_late m r d ≡ b → counts_first m d r ≡ not b
    now b late = λ i. s.is i && not (late i)

    kept : (q : ℕ) → Bool → Option Item
    kept q b = if false || b then Some (Ran (run_no q)) else None

    logged : (b : Bool) → is_late m r d ≡ b → (is_in_line m r && not (is_late m r d)) ≡ not b
    logged b late = λ i. in_line i && not (late i)

    events : (b : Bool) → is_late m r d ≡ b → marks_of_line m d ≡ marks_of_log m d
    events true late = line_marks ∙ h.events ∙ sym log_marks
      where
        at_ : (q : ℕ) (b : Bool) → (q == r) ≡ b → counts_first m d q ≡ counts_first n d q
        at_ q true e = subst (λ x. counts_first m d x ≡ counts_first n d x) (sym (eqb-true q r e)) (now true late ∙ sym was_none)
        at_ q false e = counts q (eqb-false q r e)

        line_marks : marks_of_line m d ≡ marks_of_line n d
        line_marks =
            ap (filter (is_marked m d)) s.line ∙ kept_items (is_marked m d) n.line
            ∙ same_items (if_kept (is_marked m d)) (if_kept (is_marked n d)) n.line (λ q. ap (kept q.0) (at_ q.0 (q.0 == r) refl)) (λ e j. refl) (λ e j. refl)
            ∙ sym (kept_items (is_marked n d) n.line)

        log_marks : marks_of_log m d ≡ marks_of_log n d
        log_marks =
            ap (filter_map _) s.log ∙ marks_unkept _ (n.log d) (First r) (ap (λ b. if b then Some (Ran (run_no r)) else None) (logged true late))
            ∙ other_marks _ _ r (n.log d) s.unlogged (λ q ne i. if list_any (is_ran q) (s.line i) && not (s.late q ne i) then Some (Ran (run_no q)) else None) (λ e. refl) (λ q. refl)
    events false late = line_marks ∙ ap (λ xs. xs ++ Ran (run_no r) ∷ []) h.events ∙ sym log_marks
      where
        line_marks : marks_of_line m d ≡ marks_of_line n d ++ Ran (run_no r) ∷ []
        line_marks =
            ap (filter (is_marked m d)) at ∙ kept_items (is_marked m d) all
            ∙ newest (if_kept (is_marked n d)) (if_kept (is_marked m d)) s.cut.front s.cut.back r (Ran (run_no r)) s.cut.before s.cut.behind (λ q ne. ap (kept q.0) (counts q.0 ne)) (λ e j. refl) (λ e j. refl) (ap (kept r) was_none) (ap (kept r) (now false late))
            (none_items (if_kept (is_marked n d)) (is_marked n d) s.cut.back (s.calm late) (λ q no'. ap (λ b. if b then Some (Ran q) else None) no') (λ e j no'. ap (λ b. if b then Some (Failed e j) else None) no') (λ e j no'. ap (λ b. if b then Some (Back e j) else None) no'))
            ∙ sym (ap (λ xs. xs ++ Ran (run_no r) ∷ []) (ap (filter (is_marked n d)) s.cut.at ∙ kept_items (is_marked n d) all))

        log_marks : marks_of_log m d ≡ marks_of_log n d ++ Ran (run_no r) ∷ []
        log_marks =
            ap (filter_map _) s.log ∙ marks_kept _ (n.log d) (First r) (Ran (run_no r)) (ap (λ b. if b then Some (Ran (run_no r)) else None) (logged false late))
            ∙ ap (λ xs. xs ++ Ran (run_no r) ∷ []) (other_marks _ _ r (n.log d) s.unlogged (λ q ne i. if list_any (is_ran q) (s.line i) && not (s.late q ne i) then Some (Ran (run_no q)) else None) (λ e. refl) (λ q. refl))

    spans : (q : ℕ) → IsTrue (is_in_line m q && not (is_doomed m q) && sees_up m q d) → (b : Bool) → (q == r) ≡ b → list_any is_event (span_of q (n.log d ++ First r ∷ [])) ≡ false
    spans q facts true e = span_quiet q (n.log d) (First r) refl (ap (list_any is_event) (span_none q (n.log d) (ap (λ x. list_any (is_first_mark x) (n.log d)) (eqb-true q r e) ∙ s.unlogged)))
    spans q facts false e = span_quiet q (n.log d) (First r) refl (h.spans q before)
      where
        parts : (is_in_line m q ≡ true) × (not (is_doomed m q) ≡ true) × (sees_up m q d ≡ true)
        parts = three (is_in_line m q) (not (is_doomed m q)) (sees_up m q d) facts

        before : IsTrue (is_in_line n q && not (is_doomed n q) && sees_up n q d)
        before = all_three (is_in_line n q) (not (is_doomed n q)) (sees_up n q d) (ap (list_any (is_ran q)) (sym s.line) ∙ parts.0) (sound (is_doomed m q) (is_doomed n q) (s.doomed q) parts.1) (ap (λ v. unwrap_or v false) (sym (s.view q (eqb-false q r e))) ∙ parts.2)

-- a run is placed that has no answer on the device
pub record IsInserted (n m : Reading) (d r : ℕ) (front back : List Item) : Type 0 where
  pub was : n.line ≡ front ++ back
  pub line : m.line ≡ front ++ Ran (run_no r) ∷ back
  pub log : m.log d ≡ n.log d
  pub view : (q : ℕ) → view_of m q d ≡ view_of n q d
  pub late : (q : ℕ) → is_late m q d ≡ is_late n q d
  pub doomed : (q : ℕ) → is_doomed m q ≡ false → is_doomed n q ≡ false
  pub none : did n r d ≡ false
  pub unlogged : list_any (is_first_mark r) (n.log d) ≡ false

pub skipped : {B : Type 0} (f : Item → Option B) (front back : List Item) (x : Item) → f x ≡ None → filter_map f (front ++ x ∷ back) ≡ filter_map f (front ++ back)
skipped f [] back x none = ap (λ o. cons_option o (filter_map f back)) none
skipped f (y ∷ front) back x none = ap (cons_option (f y)) (skipped f front back x none)

pub placed_history : (n m : Reading) (d r : ℕ) (front back : List Item) → IsInserted n m d r front back → InHistoryOrder n d → InHistoryOrder m d
placed_history n m d r front back s h = record {
  runs = line_runs ∙ h.runs ∙ sym log_runs;
  events = line_marks ∙ h.events ∙ sym log_marks;
  spans = λ q facts. ap (λ l. list_any is_event (span_of q l)) s.log ∙ spans q facts (q == r) refl;
}
  where
    all : List Item
    all = front ++ Ran (run_no r) ∷ back

    none : did m r d ≡ false
    none = ap is_some (s.view r) ∙ s.none

    kept : (q : ℕ) → Bool → Option Item
    kept q b = if false || b then Some (Ran (run_no q)) else None

    line_runs : firsts_of_line m d ≡ firsts_of_line n d
    line_runs =
        (λ i. firsts_of_line (record m { line = s.line i }) d) ∙ skipped _ front back (Ran (run_no r)) (ap (λ b. if b then Some r else None) none)
        ∙ same_items _ _ (front ++ back) (λ q. ap (λ v. if is_some v then Some q.0 else None) (s.view q.0)) (λ e j. refl) (λ e j. refl)
        ∙ sym (λ i. firsts_of_line (record n { line = s.was i }) d)

    line_marks : marks_of_line m d ≡ marks_of_line n d
    line_marks =
        ap (filter (is_marked m d)) s.line ∙ kept_items (is_marked m d) all
        ∙ skipped (if_kept (is_marked m d)) front back (Ran (run_no r)) (ap (λ b. kept r (b && not (is_late m r d))) none)
        ∙ same_items (if_kept (is_marked m d)) (if_kept (is_marked n d)) (front ++ back) (λ q i. kept q.0 (is_some (s.view q.0 i) && not (s.late q.0 i))) (λ e j. refl) (λ e j. refl)
        ∙ sym (ap (filter (is_marked n d)) s.was ∙ kept_items (is_marked n d) (front ++ back))

    other : (q r : ℕ) (b : Bool) → q ≢ r → ((r == q) || b) ≡ b
    other q r b ne = grind (arith, common_steps)

    in_line : (q : ℕ) → q ≢ r → is_in_line m q ≡ is_in_line n q
    in_line q ne = ap (list_any (is_ran q)) s.line ∙ any_insert (is_ran q) front back (Ran (run_no r)) ∙ other q r (list_any (is_ran q) (front ++ back)) ne ∙ sym (ap (list_any (is_ran q)) s.was)

    log_runs : firsts_of_log m d ≡ firsts_of_log n d
    log_runs = ap (filter_map _) s.log ∙ other_marks _ _ r (n.log d) s.unlogged (λ q ne i. if in_line q ne i then Some q else None) (λ e. refl) (λ q. refl)

    log_marks : marks_of_log m d ≡ marks_of_log n d
    log_marks = ap (filter_map _) s.log ∙ other_marks _ _ r (n.log d) s.unlogged (λ q ne i. if in_line q ne i && not (s.late q i) then Some (Ran (run_no q)) else None) (λ e. refl) (λ q. refl)

    unseen : (v : Option Bool) → is_some v ≡ false → unwrap_or v false ≡ false
    unseen None e = refl
    unseen (Some b) e = absurd (cc)

    spans : (q : ℕ) → IsTrue (is_in_line m q && not (is_doomed m q) && sees_up m q d) → (b : Bool) → (q == r) ≡ b → list_any is_event (span_of q (n.log d)) ≡ false
    spans q facts true e = absurd (both_ways (sees_up m q d) (unseen (view_of m q d) (ap (λ x. did m x d) (eqb-true q r e) ∙ none)) (three (is_in_line m q) (not (is_doomed m q)) (sees_up m q d) facts).2)
    spans q facts false e = h.spans q before
      where
        parts : (is_in_line m q ≡ true) × (not (is_doomed m q) ≡ true) × (sees_up m q d ≡ true)
        parts = three (is_in_line m q) (not (is_doomed m q)) (sees_up m q d) facts

        before : IsTrue (is_in_line n q && not (is_doomed n q) && sees_up n q d)
        before = all_three (is_in_line n q) (not (is_doomed n q)) (sees_up n q d) (sym (in_line q (eqb-false q r e)) ∙ parts.0) (sound (is_doomed m q) (is_doomed n q) (s.doomed q) parts.1) (ap (λ v. unwrap_or v false) (sym (s.view q)) ∙ parts.2)

-- A run leaves the line

-- what a test gives of the items that are left is what is left of what it gives of all
left_items : {B : Type 0} (f : Item → Option B) (p : Item → Bool) (k : B → Bool) (xs : List Item) → ((r : RunNo) (y : B) → f (Ran r) ≡ Some y → k y ≡ p (Ran r))
    → ((e : DeviceNo) (j : ℕ) (y : B) → f (Failed e j) ≡ Some y → k y ≡ p (Failed e j))
    → ((e : DeviceNo) (j : ℕ) (y : B) → f (Back e j) ≡ Some y → k y ≡ p (Back e j))
    → filter_map f (filter p xs) ≡ filter k (filter_map f xs)
left_items f p k [] runs failures backs = refl
left_items {B = B} f p k (x ∷ xs) runs failures backs = at_ (left_items f p k xs runs failures backs) (p x) (f x) refl refl
  where
    alike : (i : Item) (y : B) → f i ≡ Some y → k y ≡ p i
    alike (Ran r) y h = runs r y h
    alike (Failed e j) y h = failures e j y h
    alike (Back e j) y h = backs e j y h

    rest : List B
    rest = filter k (filter_map f xs)

    at_ : filter_map f (filter p xs) ≡ rest → (b : Bool) (o : Option B) → p x ≡ b → f x ≡ o → filter_map f (cond b (x ∷ filter p xs) (filter p xs)) ≡ filter k (cons_option o (filter_map f xs))
    at_ ih true None e h = ap (λ o. cons_option o (filter_map f (filter p xs))) h ∙ ih
    at_ ih false None e h = ih
    at_ ih true (Some y) e h = ap (λ o. cons_option o (filter_map f (filter p xs))) h ∙ ap (λ ys. y ∷ ys) ih ∙ ap (λ b. cond b (y ∷ rest) rest) (sym (alike x y h ∙ e))
    at_ ih false (Some y) e h = ih ∙ ap (λ b. cond b (y ∷ rest) rest) (sym (alike x y h ∙ e))

-- what is there and passes the test
abbrev pub passing : {B : Type 0} → (B → Bool) → Option B → Option B
passing k None = None
passing k (Some y) = if k y then Some y else None

-- .. and so it is with marks, in a log in which the run is no event
left_marks : {B : Type 0} (f l : LogMark → Option B) (k : B → Bool) (r : ℕ) (xs : List LogMark) → list_any (is_event_of r) xs ≡ false → ((q : ℕ) → l (First q) ≡ passing k (f (First q))) → ((i : Item) → is_ran r i ≡ false → l (Event i) ≡ passing k (f (Event i)))
    → ((q : ℕ) → l (Last q) ≡ passing k (f (Last q))) → filter_map l xs ≡ filter k (filter_map f xs)
left_marks f l k r [] none firsts events lasts = refl
left_marks {B = B} f l k r (x ∷ xs) none firsts events lasts = (λ i. cons_option (alike x (or_parts (is_event_of r x) (list_any (is_event_of r) xs) none).0 i) (left_marks f l k r xs (or_parts (is_event_of r x) (list_any (is_event_of r) xs) none).1 firsts events lasts i)) ∙ at_ (f x)
  where
    alike : (y : LogMark) → is_event_of r y ≡ false → l y ≡ passing k (f y)
    alike (First q) h = firsts q
    alike (Event i) h = events i h
    alike (Last q) h = lasts q

    rest : List B
    rest = filter_map f xs

    by : (y : B) (b : Bool) → cons_option (if b then Some y else None) (filter k rest) ≡ cond b (y ∷ filter k rest) (filter k rest)
    by y true = refl
    by y false = refl

    at_ : (o : Option B) → cons_option (passing k o) (filter k rest) ≡ filter k (cons_option o rest)
    at_ None = refl
    at_ (Some y) = by y (k y)

-- the run is gone, and all else is as it was
pub record HasLeft (n m : Reading) (d r : ℕ) : Type 0 where
  pub line : m.line ≡ without r n.line
  pub log : m.log d ≡ n.log d
  pub view : (q : ℕ) → view_of m q d ≡ view_of n q d
  pub late : (q : ℕ) → is_late m q d ≡ is_late n q d
  pub doomed : (q : ℕ) → is_doomed m q ≡ false → is_doomed n q ≡ false
  pub no_event : list_any (is_event_of r) (n.log d) ≡ false

pub left_history : (n m : Reading) (d r : ℕ) → HasLeft n m d r → InHistoryOrder n d → InHistoryOrder m d
left_history n m d r s h = record {
  runs = line_runs ∙ ap (filter other) h.runs ∙ sym log_runs;
  events = line_marks ∙ ap (filter stays) h.events ∙ sym log_marks;
  spans = λ q facts. ap (λ l. list_any is_event (span_of q l)) s.log ∙ h.spans q (before q facts);
}
  where
    other : ℕ → Bool
    other q = not (q == r)

    stays : Item → Bool
    stays i = not (is_ran r i)

    given : (b : Bool) (x y : ℕ) → (if b then Some x else None) ≡ Some y → not (y == r) ≡ not (x == r)
    given true x y e = ap (λ z. not (z == r)) (sym (the x y e))
      where
        the : (x y : ℕ) → Some x ≡ Some y → x ≡ y
        the x y e = ap (λ o. unwrap_or o x) e
    given false x y e = absurd (cc)

    line_runs : firsts_of_line m d ≡ filter other (firsts_of_line n d)
    line_runs =
        ap (filter_map _) s.line ∙ same_items _ _ (without r n.line) (λ q. ap (λ v. if is_some v then Some q.0 else None) (s.view q.0)) (λ e j. refl) (λ e j. refl)
        ∙ left_items _ stays other n.line (λ q y e. given (did n q.0 d) q.0 y e) (λ e j y x. absurd (cc)) (λ e j y x. absurd (cc))

    kept : (q : ℕ) → Bool → Option Item
    kept q b = if false || b then Some (Ran (run_no q)) else None

    same : (b : Bool) (x y : Item) → (if b then Some x else None) ≡ Some y → not (is_ran r y) ≡ not (is_ran r x)
    same true x y e = ap (λ z. not (is_ran r z)) (sym (ap (λ o. unwrap_or o x) e))
    same false x y e = absurd (cc)

    line_marks : marks_of_line m d ≡ filter stays (marks_of_line n d)
    line_marks =
        ap (filter (is_marked m d)) s.line ∙ kept_items (is_marked m d) (without r n.line)
        ∙ same_items (if_kept (is_marked m d)) (if_kept (is_marked n d)) (without r n.line) (λ q i. kept q.0 (is_some (s.view q.0 i) && not (s.late q.0 i))) (λ e j. refl) (λ e j. refl)
        ∙ left_items (if_kept (is_marked n d)) stays stays n.line (λ q y e. same (is_marked n d (Ran q)) (Ran q) y e) (λ e j y x. same (is_marked n d (Failed e j)) (Failed e j) y x) (λ e j y x. same (is_marked n d (Back e j)) (Back e j) y x)
        ∙ ap (filter stays) (sym (kept_items (is_marked n d) n.line))

    in_line : (q : ℕ) → is_in_line m q ≡ (is_in_line n q && not (q == r))
    in_line q = ap (list_any (is_ran q)) s.line ∙ at_ (q == r) refl
      where
        and_true : (b : Bool) → b ≡ (b && true)
        and_true true = refl
        and_true false = refl

        and_false : (b : Bool) → false ≡ (b && false)
        and_false true = refl
        and_false false = refl

        at_ : (b : Bool) → (q == r) ≡ b → list_any (is_ran q) (without r n.line) ≡ (is_in_line n q && not b)
        at_ true e = ap (λ x. list_any (is_ran x) (without r n.line)) (eqb-true q r e) ∙ any_without r n.line ∙ and_false (is_in_line n q)
        at_ false e = any_other q r n.line (eqb-false q r e) ∙ and_true (is_in_line n q)

    log_runs : firsts_of_log m d ≡ filter other (firsts_of_log n d)
    log_runs = ap (filter_map _) s.log ∙ left_marks _ _ other r (n.log d) s.no_event (λ q. ap (λ b. if b then Some q else None) (in_line q) ∙ by q (is_in_line n q)) (λ i e. refl) (λ q. refl)
      where
        by : (q : ℕ) (a : Bool) → (if (a && not (q == r)) then Some q else None) ≡ passing other (if a then Some q else None)
        by q true = refl
        by q false = refl

    log_marks : marks_of_log m d ≡ filter stays (marks_of_log n d)
    log_marks =
        ap (filter_map _) s.log
        ∙ left_marks _ _ stays r (n.log d) s.no_event (λ q. (λ i. if in_line q i && not (s.late q i) then Some (Ran (run_no q)) else None) ∙ by q (is_in_line n q) (not (is_late n q d))) (λ i e. ap (λ b. if not b then Some i else None) (sym e)) (λ q. refl)
      where
        and_true : (b : Bool) → (b && true) ≡ b
        and_true true = refl
        and_true false = refl

        by : (q : ℕ) (a l : Bool) → (if ((a && not (q == r)) && l) then Some (Ran (run_no q)) else None) ≡ passing stays (if (a && l) then Some (Ran (run_no q)) else None)
        by q true true = ap (λ b. if b then Some (Ran (run_no q)) else None) (and_true (not (q == r)))
        by q true false = ap (λ b. if b then Some (Ran (run_no q)) else None) (and_right (not (q == r)) false refl)
        by q false l = refl

    before : (q : ℕ) → IsTrue (is_in_line m q && not (is_doomed m q) && sees_up m q d) → IsTrue (is_in_line n q && not (is_doomed n q) && sees_up n q d)
    before q facts =
        let parts = three (is_in_line m q) (not (is_doomed m q)) (sees_up m q d) facts in
        all_three (is_in_line n q) (not (is_doomed n q)) (sees_up n q d) (and_parts (is_in_line n q) (not (q == r)) (sym (in_line q) ∙ parts.0)).0 (sound (is_doomed m q) (is_doomed n q) (s.doomed q) parts.1) (ap (λ v. unwrap_or v false) (sym (s.view q)) ∙ parts.2)
