-- What the log of a device holds of each run.
use Rattle.history_book.proofs.Prelude.{Answer, Arrived, Back, Bool, Command, DeviceNo, Did, Doomed, Down, Ended, Entry, Event, Failed, Fell, Fine, First, Found, IsTrue, IsWellFormed, Item, Last, List, LogMark, None, OfRun, Option, Placed, Reading, Rose, RunNo, Setting, Skipped, Some, Undid, [], along, ap, arith, command_at, commands_of, common_steps, cond, drop, entry, false, fold, if◌then◌else◌, inl, inr, is_access, is_first_mark, is_last_mark, is_none, is_on, is_ran, is_some, length, length-append, list_any, list_any-append, may_follow, more_if, next_of, not, nothing_read, option_or, pends, put, reading, refl, span_of, subst, suc, sym, take_while, take_while-cons, touches_from, true, view_by, with_turn, zero, ℕ, ◌&&◌, ◌++◌, ◌+◌, ◌==◌, ◌||◌, ◌∙◌, ◌∷◌, ◌≡◌, ◌≢◌, ◌⊎◌}
use Rattle.history_book.proofs.Snoc.{put_keeps, put_other, put_same}

abbrev pub LogsFirsts : Reading → Type 0
LogsFirsts n = (r d : ℕ) → list_any (is_first_mark r) (n.log d) ≡ is_some ((n.run r).on d).view

abbrev pub LogsLasts : Setting → Reading → Type 0
LogsLasts w n = (r d : ℕ) → pends w n r d ≡ true → list_any (is_last_mark r) (n.log d) ≡ false

-- the mark is of an event, and the run stands for the event
abbrev pub is_event_of : ℕ → LogMark → Bool
is_event_of r (First q) = false
is_event_of r (Event i) = is_ran r i
is_event_of r (Last q) = false

abbrev pub LogsEvents : Reading → Type 0
LogsEvents n = (r d : ℕ) → list_any (is_event_of r) (n.log d) ≡ false

-- a run's first access on a device stands in the device's log, and the answer to its last command there does not while one is pending; no run is an event there
pub record Logged (w : Setting) (n : Reading) : Type 0 where
  pub firsts : LogsFirsts n
  pub lasts : LogsLasts w n
  pub events : LogsEvents n

any_more : {A : Type 0} (p : A → Bool) (b : Bool) (x : A) (xs : List A) → list_any p (more_if b x xs) ≡ (list_any p xs || (b && p x))
any_more p true x xs = list_any-append p xs (x ∷ []) ∙ ap (λ c. list_any p xs || c) (or_none (p x))
  where
    or_none : (c : Bool) → (c || false) ≡ c
    or_none true = refl
    or_none false = refl
any_more p false x xs = sym (or_false (list_any p xs))
  where
    or_false : (c : Bool) → (c || false) ≡ c
    or_false true = refl
    or_false false = refl

-- the log of the command's device when its answer is there
abbrev pub log_after : Setting → Reading → ℕ → ℕ → Answer → List LogMark
log_after w n r k a =
    more_if (not (touches_from w.runs r (command_at w.runs r k).device.0 (k + 1))) (Last r) (more_if (is_access a && is_none ((n.run r).on (command_at w.runs r k).device.0).view) (First r) (n.log (command_at w.runs r k).device.0))

first_after : (w : Setting) (n : Reading) (r k q : ℕ) (a : Answer) → list_any (is_first_mark q) (log_after w n r k a) ≡ (list_any (is_first_mark q) (n.log (command_at w.runs r k).device.0) || (is_access a && is_none ((n.run r).on (command_at w.runs r k).device.0).view && (r == q)))
first_after w n r k q a =
    any_more (is_first_mark q) (not (touches_from w.runs r (command_at w.runs r k).device.0 (k + 1))) (Last r) _
    ∙ no_last (list_any (is_first_mark q) (more_if (is_access a && is_none ((n.run r).on (command_at w.runs r k).device.0).view) (First r) (n.log (command_at w.runs r k).device.0))) (not (touches_from w.runs r (command_at w.runs r k).device.0 (k + 1)))
    ∙ any_more (is_first_mark q) (is_access a && is_none ((n.run r).on (command_at w.runs r k).device.0).view) (First r) (n.log (command_at w.runs r k).device.0)
  where
    no_last : (b c : Bool) → (b || (c && false)) ≡ b
    no_last true c = refl
    no_last false true = refl
    no_last false false = refl

last_after : (w : Setting) (n : Reading) (r k q : ℕ) (a : Answer) → list_any (is_last_mark q) (log_after w n r k a) ≡ (list_any (is_last_mark q) (n.log (command_at w.runs r k).device.0) || (not (touches_from w.runs r (command_at w.runs r k).device.0 (k + 1)) && (r == q)))
last_after w n r k q a =
    any_more (is_last_mark q) (not (touches_from w.runs r (command_at w.runs r k).device.0 (k + 1))) (Last r) _
    ∙ ap (λ b. b || (not (touches_from w.runs r (command_at w.runs r k).device.0 (k + 1)) && (r == q)))
    (any_more (is_last_mark q) (is_access a && is_none ((n.run r).on (command_at w.runs r k).device.0).view) (First r) (n.log (command_at w.runs r k).device.0)
    ∙ no_first (list_any (is_last_mark q) (n.log (command_at w.runs r k).device.0)) (is_access a && is_none ((n.run r).on (command_at w.runs r k).device.0).view))
  where
    no_first : (b c : Bool) → (b || (c && false)) ≡ b
    no_first true c = refl
    no_first false true = refl
    no_first false false = refl

event_after : (w : Setting) (n : Reading) (r k q : ℕ) (a : Answer) → list_any (is_event_of q) (log_after w n r k a) ≡ list_any (is_event_of q) (n.log (command_at w.runs r k).device.0)
event_after w n r k q a =
    any_more (is_event_of q) (not (touches_from w.runs r (command_at w.runs r k).device.0 (k + 1))) (Last r) _ ∙ unmoved (list_any (is_event_of q)
    (more_if (is_access a && is_none ((n.run r).on (command_at w.runs r k).device.0).view) (First r) (n.log (command_at w.runs r k).device.0)))
    (not (touches_from w.runs r (command_at w.runs r k).device.0 (k + 1)))
    ∙ any_more (is_event_of q) (is_access a && is_none ((n.run r).on (command_at w.runs r k).device.0).view) (First r) (n.log (command_at w.runs r k).device.0)
    ∙ unmoved (list_any (is_event_of q) (n.log (command_at w.runs r k).device.0)) (is_access a && is_none ((n.run r).on (command_at w.runs r k).device.0).view)
  where
    unmoved : (b c : Bool) → (b || (c && false)) ≡ b
    unmoved true c = refl
    unmoved false true = refl
    unmoved false false = refl

any_drop_less : {A : Type 0} (p : A → Bool) (xs : List A) (k : ℕ) → list_any p (drop (suc k) xs) ≡ true → list_any p (drop k xs) ≡ true
any_drop_less p [] k e = absurd (cc)
any_drop_less p (x ∷ xs) zero e = grind (arith, common_steps)
any_drop_less p (x ∷ xs) (suc k) e = any_drop_less p xs k e

take_while_more : {A : Type 0} (p : A → Bool) (x : A) (xs : List A) → p x ≡ true → take_while p (x ∷ xs) ≡ x ∷ take_while p xs
take_while_more p x xs e = take_while-cons p x xs ∙ ap (λ b. cond b (x ∷ take_while p xs) []) e

-- an entry that leaves the logs, and of its run answers and views
same_logs : (w : Setting) (n m : Reading) (r : ℕ) (o : OfRun) → m.log ≡ n.log → m.run ≡ put n.run r o → o.answers ≡ (n.run r).answers → ((d : ℕ) → (o.on d).view ≡ ((n.run r).on d).view) → Logged w n → Logged w m
same_logs w n m r o log run answers views s =
    record {
      firsts = λ q d. ap (λ l. list_any (is_first_mark q) (l d)) log ∙ s.firsts q d ∙ sym (ap (λ f. is_some ((f q).on d).view) run ∙ ap is_some (put_keeps (λ x. (x.on d).view) n.run r o (views d) q));
      lasts = λ q d e. ap (λ l. list_any (is_last_mark q) (l d)) log ∙ s.lasts q d (sym (ap (λ f. touches_from w.runs q d (length (f q).answers)) run ∙ ap (λ a. touches_from w.runs q d (length a)) (put_keeps (λ x. x.answers) n.run r o answers q)) ∙ e);
      events = λ q d. ap (λ l. list_any (is_event_of q) (l d)) log ∙ s.events q d;
    }

turn_logged : (w : Setting) (n : Reading) (d : DeviceNo) (x : Item) (up : Bool) → ((r : ℕ) → is_ran r x ≡ false) → Logged w n → Logged w (with_turn w n d x up)
turn_logged w n d x up never s =
    record {
      firsts = λ r e. put_keeps (list_any (is_first_mark r)) n.log d.0 (n.log d.0 ++ Event x ∷ []) (no_more (is_first_mark r) (n.log d.0) refl) e ∙ s.firsts r e;
      lasts = λ r e p. put_keeps (list_any (is_last_mark r)) n.log d.0 (n.log d.0 ++ Event x ∷ []) (no_more (is_last_mark r) (n.log d.0) refl) e ∙ s.lasts r e p;
      events = λ r e. put_keeps (list_any (is_event_of r)) n.log d.0 (n.log d.0 ++ Event x ∷ []) (no_more (is_event_of r) (n.log d.0) (never r)) e ∙ s.events r e;
    }
  where
    no_more : (p : LogMark → Bool) (marks : List LogMark) → p (Event x) ≡ false → list_any p (marks ++ Event x ∷ []) ≡ list_any p marks
    no_more p marks none = list_any-append p marks (Event x ∷ []) ∙ grind (arith, common_steps)

did_logged : (w : Setting) (n : Reading) (r : RunNo) (k : ℕ) (a : Answer) → k ≡ next_of n r.0 → Logged w n → Logged w (entry w n (Did r k a))
did_logged w n r k a number s = record { firsts = firsts'; lasts = lasts'; events = λ q d. put_keeps (list_any (is_event_of q)) n.log c.device.0 (log_after w n r.0 k a) (event_after w n r.0 k q a) d ∙ s.events q d }
  where
    c : Command
    c = command_at w.runs r.0 k

    later : Reading
    later = entry w n (Did r k a)

    seen : (v : Option Bool) (b : Answer) → (is_some v || (is_access b && is_none v && true)) ≡ is_some (option_or v (view_by b))
    seen (Some u) b = refl
    seen None Fine = refl
    seen None (Found x) = refl
    seen None Down = refl
    seen None Skipped = refl

    own_view : ((later.run r.0).on c.device.0).view ≡ option_or ((n.run r.0).on c.device.0).view (view_by a)
    own_view = ap (λ o. (o.on c.device.0).view) (put_same n.run r.0 _) ∙ ap (λ o. o.view) (put_same (n.run r.0).on c.device.0 _)

    other_view : (q d : ℕ) → (q ≢ r.0) ⊎ (d ≢ c.device.0) → ((later.run q).on d).view ≡ ((n.run q).on d).view
    other_view q d (inl other) = ap (λ o. (o.on d).view) (put_other n.run r.0 _ q other)
    other_view q d (inr other) = put_keeps (λ o. (o.on d).view) n.run r.0 _ (ap (λ o. o.view) (put_other (n.run r.0).on c.device.0 _ d other)) q

    firsts' : LogsFirsts later
    firsts' q d = elim (d == c.device.0) as (λ b. (d == c.device.0) ≡ b → list_any (is_first_mark q) (if b then log_after w n r.0 k a else n.log d) ≡ is_some ((later.run q).on d).view) [
      | true ↦ (λ e. let same : d ≡ c.device.0 = grind (arith, common_steps) in
          first_after w n r.0 k q a ∙ subst (λ x. (list_any (is_first_mark q) (n.log c.device.0) || (is_access a && is_none ((n.run r.0).on c.device.0).view && (r.0 == q))) ≡ is_some ((later.run q).on x).view) (sym same) (here q))
      | false ↦ (λ e. s.firsts q d ∙ sym (ap is_some (other_view q d (inr (grind (arith, common_steps))))))
    ] refl
      where
        here : (q : ℕ) → (list_any (is_first_mark q) (n.log c.device.0) || (is_access a && is_none ((n.run r.0).on c.device.0).view && (r.0 == q))) ≡ is_some ((later.run q).on c.device.0).view
        here q = elim (r.0 == q) as (λ b. (r.0 == q) ≡ b → (list_any (is_first_mark q) (n.log c.device.0) || (is_access a && is_none ((n.run r.0).on c.device.0).view && b)) ≡ is_some ((later.run q).on c.device.0).view) [
          | true ↦ (λ e. let same : r.0 ≡ q = grind (arith, common_steps) in
              subst (λ x. (list_any (is_first_mark x) (n.log c.device.0) || (is_access a && is_none ((n.run r.0).on c.device.0).view && true)) ≡ is_some ((later.run x).on c.device.0).view) same
              (ap (λ b. b || (is_access a && is_none ((n.run r.0).on c.device.0).view && true)) (s.firsts r.0 c.device.0) ∙ seen ((n.run r.0).on c.device.0).view a ∙ sym (ap is_some own_view)))
          | false ↦ (λ e. drop_last (list_any (is_first_mark q) (n.log c.device.0)) (is_access a && is_none ((n.run r.0).on c.device.0).view) ∙ s.firsts q c.device.0 ∙ sym (ap is_some (other_view q c.device.0 (inl (grind (arith, common_steps))))))
        ] refl
          where
            drop_last : (b x : Bool) → (b || (x && false)) ≡ b
            drop_last true x = refl
            drop_last false true = refl
            drop_last false false = refl

    -- a command that is pending after the answer was pending before it
    own_answers : length (later.run r.0).answers ≡ k + 1
    own_answers = ap (λ o. length o.answers) (put_same n.run r.0 _) ∙ length-append (n.run r.0).answers (a ∷ []) ∙ ap (λ j. j + 1) (sym number)

    one_more : length (later.run r.0).answers ≡ suc k
    one_more = omega (arith, own_answers)

    pended : (q d : ℕ) → pends w later q d ≡ true → pends w n q d ≡ true
    pended q d e = elim (r.0 == q) as (λ b. (r.0 == q) ≡ b → pends w n q d ≡ true) [
      | true ↦ (λ is. let same : r.0 ≡ q = grind (arith, common_steps) in subst (λ x. pends w n x d ≡ true) same
          (subst (λ j. touches_from w.runs r.0 d j ≡ true) number (any_drop_less (is_on d) (commands_of w.runs r.0) k (ap (λ j. touches_from w.runs r.0 d j) (sym one_more) ∙ subst (λ x. pends w later x d ≡ true) (sym same) e))))
      | false ↦ (λ is. ap (λ o. touches_from w.runs q d (length o.answers)) (sym (put_other n.run r.0 _ q (grind (arith, common_steps)))) ∙ e)
    ] refl

    lasts' : LogsLasts w later
    lasts' q d e = elim (d == c.device.0) as (λ b. (d == c.device.0) ≡ b → list_any (is_last_mark q) (if b then log_after w n r.0 k a else n.log d) ≡ false) [
      | true ↦ (λ is. let same : d ≡ c.device.0 = grind (arith, common_steps) in last_after w n r.0 k q a ∙ here q (subst (λ x. pends w later q x ≡ true) same e))
      | false ↦ (λ is. s.lasts q d (pended q d e))
    ] refl
      where
        here : (q : ℕ) → pends w later q c.device.0 ≡ true → (list_any (is_last_mark q) (n.log c.device.0) || (not (touches_from w.runs r.0 c.device.0 (k + 1)) && (r.0 == q))) ≡ false
        here q p = elim (r.0 == q) as (λ b. (r.0 == q) ≡ b → (list_any (is_last_mark q) (n.log c.device.0) || (not (touches_from w.runs r.0 c.device.0 (k + 1)) && b)) ≡ false) [
          | true ↦ (λ is. let same : r.0 ≡ q = grind (arith, common_steps) in let more : touches_from w.runs r.0 c.device.0 (k + 1) ≡ true = ap (λ j. touches_from w.runs r.0 c.device.0 j) (sym own_answers) ∙ subst (λ x. pends w later x c.device.0 ≡ true) (sym same) p in
              rw (s.lasts q c.device.0 (pended q c.device.0 p), more) refl)
          | false ↦ (λ is. rw (s.lasts q c.device.0 (pended q c.device.0 p)) (none_left (not (touches_from w.runs r.0 c.device.0 (k + 1)))))
        ] refl
          where
            none_left : (x : Bool) → (x && false) ≡ false
            none_left true = refl
            none_left false = refl

pub logged_step : (w : Setting) (n : Reading) (e : Entry) → IsTrue (may_follow w n e) → Logged w n → Logged w (entry w n e)
logged_step w n (Arrived r m) ok s = same_logs w n (entry w n (Arrived r m)) r.0 _ refl refl refl (λ d. refl) s
logged_step w n (Placed r at m) ok s = same_logs w n (entry w n (Placed r at m)) r.0 _ refl refl refl (λ d. refl) s
logged_step w n (Did r c a) ok s = did_logged w n r c a (grind (arith, common_steps)) s
logged_step w n (Undid r d drove) ok s = same_logs w n (entry w n (Undid r d drove)) r.0 _ refl refl refl (λ e. put_keeps (λ o. o.view) (n.run r.0).on d.0 _ refl e) s
logged_step w n (Fell d) ok s = let turn = turn_logged w n d (Failed d (n.fell d.0 + 1)) false (λ r. refl) s in record { firsts = turn.firsts; lasts = turn.lasts; events = turn.events }
logged_step w n (Rose d) ok s = let turn = turn_logged w n d (Back d (n.rose d.0 + 1)) true (λ r. refl) s in record { firsts = turn.firsts; lasts = turn.lasts; events = turn.events }
logged_step w n (Doomed r k) ok s = same_logs w n (entry w n (Doomed r k)) r.0 _ refl refl refl (λ d. refl) s
logged_step w n (Ended r e) ok s = same_logs w n (entry w n (Ended r e)) r.0 _ refl refl refl (λ d. refl) s

logged_from : (w : Setting) (n : Reading) (h : List Entry) → Logged w n → IsTrue (along w (may_follow w) n h) → Logged w (fold (entry w) n h)
logged_from w n [] s ok = s
logged_from w n (e ∷ h) s ok = logged_from w (entry w n e) h (logged_step w n e (grind (arith, common_steps)) s) (grind (arith, common_steps))

pub logged : (w : Setting) (h : List Entry) → IsWellFormed w h → Logged w (reading w h)
logged w h ok = logged_from w (nothing_read w) h (record { firsts = λ r d. refl; lasts = λ r d e. refl; events = λ r d. refl }) ok

-- Spans

-- what is added to the log while the run's span is open stands in the span
pub span_more : (r : ℕ) (marks more : List LogMark) → list_any (is_first_mark r) marks ≡ true → list_any (is_last_mark r) marks ≡ false → span_of r (marks ++ more) ≡ span_of r marks ++ take_while (λ x. not (is_last_mark r x)) more
span_more r [] more first last = absurd (cc)
span_more r (m ∷ ms) more first last =
    elim (is_first_mark r m) as (λ b. is_first_mark r m ≡ b → (if b then take_while (λ x. not (is_last_mark r x)) (ms ++ more) else span_of r (ms ++ more))
    ≡ (if b then take_while (λ x. not (is_last_mark r x)) ms else span_of r ms) ++ take_while (λ x. not (is_last_mark r x)) more) [
      | true ↦ (λ e. all_taken ms (grind (arith, common_steps)))
      | false ↦ (λ e. span_more r ms more (grind (arith, common_steps)) (grind (arith, common_steps)))
    ] refl
  where
    all_taken : (xs : List LogMark) → list_any (is_last_mark r) xs ≡ false → take_while (λ x. not (is_last_mark r x)) (xs ++ more) ≡ take_while (λ x. not (is_last_mark r x)) xs ++ take_while (λ x. not (is_last_mark r x)) more
    all_taken [] none = refl
    all_taken (x ∷ xs) none = elim (is_last_mark r x) as (λ b. is_last_mark r x ≡ b → take_while (λ y. not (is_last_mark r y)) (x ∷ (xs ++ more)) ≡ take_while (λ y. not (is_last_mark r y)) (x ∷ xs) ++ take_while (λ y. not (is_last_mark r y)) more) [
      | true ↦ (λ e. absurd (grind (arith, common_steps)))
      | false ↦ (λ e. take_while_more (λ y. not (is_last_mark r y)) x (xs ++ more) (ap not e) ∙ ap (λ l. x ∷ l) (all_taken xs (grind (arith, common_steps))) ∙ ap (λ l. l ++ take_while (λ y. not (is_last_mark r y)) more) (sym (take_while_more (λ y. not (is_last_mark r y)) x xs (ap not e))))
    ] refl
