-- The order of first accesses and events in the line and in the history, where a device fails or comes back.
use Rattle.window_order.proofs.Prelude.{Back, Bool, Event, Failed, InHistoryOrder, IsTrue, Item, List, None, Option, Ran, Reading, Some, [], any_insert, ap, append-nil, cons_option, did, false, filter, filter_map, firsts_of_line, firsts_of_log, if◌then◌else◌, is_doomed, is_event, is_event_on, is_in_line, is_late, is_ran, is_some, list_any, marks_of_line, marks_of_log, not, not-true, of_run, refl, run_no, sees_up, span_of, sym, true, unwrap_or, view_of, ℕ, ◌&&◌, ◌++◌, ◌==◌, ◌||◌, ◌∙◌, ◌∷◌, ◌≡◌}
use Rattle.std.proofs.lemmas.List.Elements.{filter_map-append}
use Rattle.window_order.proofs.HistoryOrder.{all_three, if_kept, is_marked, kept_items, marks_kept, marks_unkept, none_items, same_items, same_marks, skipped, three}

-- an event comes into the line, and the runs' first accesses to the device stay
pub record EventComes (n m : Reading) (d : ℕ) (x : Item) (front back : List Item) : Type 0 where
  pub event : (p : ℕ → Bool) → of_run p x ≡ false
  pub was : n.line ≡ front ++ back
  pub line : m.line ≡ front ++ x ∷ back
  pub view : (q : ℕ) → view_of m q d ≡ view_of n q d
  pub late : (q : ℕ) → is_late m q d ≡ is_late n q d
  pub doomed : (q : ℕ) → is_doomed m q ≡ false → is_doomed n q ≡ false

-- the run of the item, where it has an answer on the device
abbrev pub first_item : Reading → ℕ → Item → Option ℕ
first_item n d (Ran r) = if did n r.0 d then Some r.0 else None
first_item n d (Failed e k) = None
first_item n d (Back e k) = None

firsts_by : (n : Reading) (d : ℕ) → firsts_of_line n d ≡ filter_map (first_item n d) n.line
firsts_by n d = same_items _ (first_item n d) n.line (λ r. refl) (λ e j. refl) (λ e j. refl)

no_first : (n : Reading) (d : ℕ) (x : Item) → of_run (λ q. true) x ≡ false → first_item n d x ≡ None
no_first n d (Ran r) h = absurd (cc)
no_first n d (Failed e k) h = refl
no_first n d (Back e k) h = refl

-- the runs with a first access are the same, in the line ..
event_firsts : (n m : Reading) (d : ℕ) (x : Item) (front back : List Item) → EventComes n m d x front back → firsts_of_line m d ≡ firsts_of_line n d
event_firsts n m d x front back s =
    firsts_by m d ∙ ap (filter_map (first_item m d)) s.line ∙ skipped (first_item m d) front back x (no_first m d x (s.event (λ q. true)))
    ∙ same_items (first_item m d) (first_item n d) (front ++ back) (λ q. ap (λ v. if is_some v then Some q.0 else None) (s.view q.0)) (λ e j. refl) (λ e j. refl)
    ∙ ap (filter_map (first_item n d)) (sym s.was) ∙ sym (firsts_by n d)

event_in_line : (n m : Reading) (d : ℕ) (x : Item) (front back : List Item) → EventComes n m d x front back → (q : ℕ) → is_in_line m q ≡ is_in_line n q
event_in_line n m d x front back s q =
    ap (list_any (is_ran q)) s.line ∙ any_insert (is_ran q) front back x ∙ ap (λ b. b || list_any (is_ran q) (front ++ back)) (s.event (λ y. y == q)) ∙ sym (ap (list_any (is_ran q)) s.was)

-- a part of the line has the same marks
part_marks : (n m : Reading) (d : ℕ) (x : Item) (front back : List Item) → EventComes n m d x front back → (part : List Item) → filter_map (if_kept (is_marked m d)) part ≡ filter_map (if_kept (is_marked n d)) part
part_marks n m d x front back s part = same_items (if_kept (is_marked m d)) (if_kept (is_marked n d)) part (λ q i. if false || (is_some (s.view q.0 i) && not (s.late q.0 i)) then Some (Ran q) else None) (λ e j. refl) (λ e j. refl)

seen_before : (n m : Reading) (d : ℕ) (x : Item) (front back : List Item) → EventComes n m d x front back → (q : ℕ) → IsTrue (is_in_line m q && not (is_doomed m q) && sees_up m q d) → (is_in_line n q ≡ true) × (is_doomed m q ≡ false) × (sees_up n q d ≡ true)
seen_before n m d x front back s q facts =
    let parts = three (is_in_line m q) (not (is_doomed m q)) (sees_up m q d) facts in
    (sym (event_in_line n m d x front back s q) ∙ parts.0, not-true (is_doomed m q) parts.1, ap (λ v. unwrap_or v false) (sym (s.view q)) ∙ parts.2)

spans_before : (n m : Reading) (d : ℕ) (x : Item) (front back : List Item) → EventComes n m d x front back → (q : ℕ) → IsTrue (is_in_line m q && not (is_doomed m q) && sees_up m q d) → IsTrue (is_in_line n q && not (is_doomed n q) && sees_up n q d)
spans_before n m d x front back s q facts =
    let parts = seen_before n m d x front back s q facts in
    all_three (is_in_line n q) (not (is_doomed n q)) (sees_up n q d) parts.0 (ap not (s.doomed q parts.1)) parts.2

-- an event of another device changes nothing here
pub passing_history : (n m : Reading) (d : ℕ) (x : Item) (front back : List Item) → EventComes n m d x front back → is_event_on d x ≡ false → m.log d ≡ n.log d → InHistoryOrder n d → InHistoryOrder m d
passing_history n m d x front back s off log h = record {
  runs = event_firsts n m d x front back s ∙ h.runs ∙ sym log_runs;
  events = line_marks ∙ h.events ∙ sym log_marks;
  spans = λ q facts. ap (λ l. list_any is_event (span_of q l)) log ∙ h.spans q (spans_before n m d x front back s q facts);
}
  where
    line_marks : marks_of_line m d ≡ marks_of_line n d
    line_marks =
        ap (filter (is_marked m d)) s.line ∙ kept_items (is_marked m d) (front ++ x ∷ back)
        ∙ skipped (if_kept (is_marked m d)) front back x (λ i. if off i || s.event (λ r. did m r d && not (is_late m r d)) i then Some x else None)
        ∙ part_marks n m d x front back s (front ++ back) ∙ sym (ap (filter (is_marked n d)) s.was ∙ kept_items (is_marked n d) (front ++ back))

    log_runs : firsts_of_log m d ≡ firsts_of_log n d
    log_runs = ap (filter_map _) log ∙ same_marks _ _ (n.log d) (λ q i. if event_in_line n m d x front back s q i then Some q else None) (λ e. refl) (λ q. refl)

    log_marks : marks_of_log m d ≡ marks_of_log n d
    log_marks = ap (filter_map _) log ∙ same_marks _ _ (n.log d) (λ q i. if event_in_line n m d x front back s q i && not (s.late q i) then Some (Ran (run_no q)) else None) (λ e. refl) (λ q. refl)

-- an event of the device is its newest mark: nothing marked stands behind it, and it is in no span of a run that counts
pub event_history : (n m : Reading) (d : ℕ) (x : Item) (front back : List Item) → EventComes n m d x front back → is_event_on d x ≡ true → m.log d ≡ n.log d ++ Event x ∷ [] → list_any (is_marked n d) back ≡ false
    → ((q : ℕ) → is_in_line n q ≡ true → is_doomed m q ≡ false → sees_up n q d ≡ true → span_of q (n.log d ++ Event x ∷ []) ≡ span_of q (n.log d)) → InHistoryOrder n d → InHistoryOrder m d
event_history n m d x front back s on log calm closed h = record {
  runs = event_firsts n m d x front back s ∙ h.runs ∙ sym log_runs;
  events = line_marks ∙ ap (λ xs. xs ++ x ∷ []) h.events ∙ sym log_marks;
  spans = λ q facts. ap (λ l. list_any is_event (span_of q l)) log ∙ ap (list_any is_event) (outside q (seen_before n m d x front back s q facts)) ∙ h.spans q (spans_before n m d x front back s q facts);
}
  where
    outside : (q : ℕ) → (is_in_line n q ≡ true) × (is_doomed m q ≡ false) × (sees_up n q d ≡ true) → span_of q (n.log d ++ Event x ∷ []) ≡ span_of q (n.log d)
    outside q parts = closed q parts.0 parts.1 parts.2

    none_behind : filter_map (if_kept (is_marked n d)) back ≡ []
    none_behind = none_items (if_kept (is_marked n d)) (is_marked n d) back calm (λ q no'. ap (λ b. if b then Some (Ran q) else None) no') (λ e j no'. ap (λ b. if b then Some (Failed e j) else None) no') (λ e j no'. ap (λ b. if b then Some (Back e j) else None) no')

    marks_before : marks_of_line n d ≡ filter_map (if_kept (is_marked n d)) front
    marks_before =
        ap (filter (is_marked n d)) s.was ∙ kept_items (is_marked n d) (front ++ back) ∙ filter_map-append (if_kept (is_marked n d)) front back
        ∙ ap (λ xs. filter_map (if_kept (is_marked n d)) front ++ xs) none_behind ∙ append-nil (filter_map (if_kept (is_marked n d)) front)

    line_marks : marks_of_line m d ≡ marks_of_line n d ++ x ∷ []
    line_marks =
        ap (filter (is_marked m d)) s.line ∙ kept_items (is_marked m d) (front ++ x ∷ back) ∙ filter_map-append (if_kept (is_marked m d)) front (x ∷ back)
        ∙ (λ i. part_marks n m d x front back s front i ++ cons_option (if on i || of_run (λ r. did m r d && not (is_late m r d)) x then Some x else None) ((part_marks n m d x front back s back ∙ none_behind) i))
        ∙ sym (ap (λ xs. xs ++ x ∷ []) marks_before)

    log_runs : firsts_of_log m d ≡ firsts_of_log n d
    log_runs = ap (filter_map _) log ∙ marks_unkept _ (n.log d) (Event x) refl ∙ same_marks _ _ (n.log d) (λ q i. if event_in_line n m d x front back s q i then Some q else None) (λ e. refl) (λ q. refl)

    log_marks : marks_of_log m d ≡ marks_of_log n d ++ x ∷ []
    log_marks =
        ap (filter_map _) log ∙ marks_kept _ (n.log d) (Event x) x refl
        ∙ ap (λ xs. xs ++ x ∷ []) (same_marks _ _ (n.log d) (λ q i. if event_in_line n m d x front back s q i && not (s.late q i) then Some (Ran (run_no q)) else None) (λ e. refl) (λ q. refl))
