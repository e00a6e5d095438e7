-- A run that has done all it has to do on a device has its span in the device's log closed: what comes later is not in it.
use Rattle.window_order.proofs.Prelude.{Answer, Arrived, Bool, Command, Did, Doomed, Ended, Entry, Fell, First, IsTrue, IsWellFormed, Last, List, LogMark, Logged, OfRun, Placed, Reading, Rose, RunNo, Setting, Undid, [], along, ap, arith, command_at, commands_of, common_steps, cond, did, drop_more, entry, eq-eqb, eqb-false, eqb-true, false, fold, if◌then◌else◌, is_access, is_first_mark, is_last_mark, is_none, is_on, is_some, length, length-append, list_any, list_any-append, logged_step, may_follow, more_if, next_of, no_command, not, nothing_read, pends, put, put_keeps, put_other, put_same, reading, refl, span_of, subst, sym, take_while, take_while-cons, touches_from, true, two_places, ℕ, ◌&&◌, ◌++◌, ◌+◌, ◌<◌, ◌==◌, ◌||◌, ◌∙◌, ◌∷◌, ◌≡◌, ◌≢◌}
use Rattle.std.proofs.lemmas.List.{append_assoc}

-- nothing that comes later is in the span
abbrev pub IsClosed : ℕ → List LogMark → Type 0
IsClosed r marks = (more : List LogMark) → span_of r (marks ++ more) ≡ span_of r marks

-- .. of a run that has an answer on the device, and none of whose commands there is left
abbrev pub SpansClose : Setting → Reading → Type 0
SpansClose w n = (r d : ℕ) → did n r d ≡ true → pends w n r d ≡ false → IsClosed r (n.log d)

-- its last mark closes it
taken_last : (r : ℕ) (xs more : List LogMark) → take_while (λ x. not (is_last_mark r x)) (xs ++ Last r ∷ more) ≡ take_while (λ x. not (is_last_mark r x)) (xs ++ Last r ∷ [])
taken_last r [] more = ends more ∙ sym (ends [])
  where
    ends : (ms : List LogMark) → take_while (λ x. not (is_last_mark r x)) (Last r ∷ ms) ≡ []
    ends ms = take_while-cons (λ x. not (is_last_mark r x)) (Last r) ms ∙ ap (λ b. cond (not b) (Last r ∷ take_while (λ x. not (is_last_mark r x)) ms) []) (eq-eqb r r refl)
taken_last r (x ∷ xs) more =
    take_while-cons (λ y. not (is_last_mark r y)) x (xs ++ Last r ∷ more) ∙ ap (λ l. cond (not (is_last_mark r x)) (x ∷ l) []) (taken_last r xs more)
    ∙ sym (take_while-cons (λ y. not (is_last_mark r y)) x (xs ++ Last r ∷ []))

closed_last : (r : ℕ) (xs more : List LogMark) → list_any (is_first_mark r) xs ≡ true → span_of r (xs ++ Last r ∷ more) ≡ span_of r (xs ++ Last r ∷ [])
closed_last r [] more first = absurd (cc)
closed_last r (x ∷ xs) more first = at_ (λ h. closed_last r xs more h) (is_first_mark r x) first
  where
    at_ : (list_any (is_first_mark r) xs ≡ true → span_of r (xs ++ Last r ∷ more) ≡ span_of r (xs ++ Last r ∷ [])) → (b : Bool) → (b || list_any (is_first_mark r) xs) ≡ true
        → (if b then take_while (λ y. not (is_last_mark r y)) (xs ++ Last r ∷ more) else span_of r (xs ++ Last r ∷ more)) ≡ (if b then take_while (λ y. not (is_last_mark r y)) (xs ++ Last r ∷ []) else span_of r (xs ++ Last r ∷ []))
    at_ ih true h = taken_last r xs more
    at_ ih false h = ih h

closed_snoc : (r : ℕ) (marks : List LogMark) (x : LogMark) → IsClosed r marks → IsClosed r (marks ++ x ∷ [])
closed_snoc r marks x closed more = ap (span_of r) (append_assoc marks (x ∷ []) more) ∙ closed (x ∷ more) ∙ sym (closed (x ∷ []))

closed_more : (r : ℕ) (marks : List LogMark) (b : Bool) (x : LogMark) → IsClosed r marks → IsClosed r (more_if b x marks)
closed_more r marks true x closed = closed_snoc r marks x closed
closed_more r marks false x closed = closed

-- an entry that leaves the logs, and of its run answers and views
same_closed : (w : Setting) (n m : Reading) (r : ℕ) (o : OfRun) → m.log ≡ n.log → m.run ≡ put n.run r o → o.answers ≡ (n.run r).answers → ((d : ℕ) → (o.on d).view ≡ ((n.run r).on d).view) → SpansClose w n → SpansClose w m
same_closed w n m r o log run answers views s q d has none =
    subst (λ l. IsClosed q (l d)) (sym log)
    (s q d (sym (ap (λ f. is_some ((f q).on d).view) run ∙ ap is_some (put_keeps (λ x. (x.on d).view) n.run r o (views d) q)) ∙ has)
    (sym (ap (λ f. touches_from w.runs q d (length (f q).answers)) run ∙ ap (λ a. touches_from w.runs q d (length a)) (put_keeps (λ x. x.answers) n.run r o answers q)) ∙ none))

-- an event comes
turn_closed : (w : Setting) (n m : Reading) (d : ℕ) (x : LogMark) → m.log ≡ put n.log d (n.log d ++ x ∷ []) → m.run ≡ n.run → SpansClose w n → SpansClose w m
turn_closed w n m d x log run s q e has none = subst (λ l. IsClosed q (l e)) (sym log) (two_places (λ y. IsClosed q (n.log y) → IsClosed q (put n.log d (n.log d ++ x ∷ []) y)) e d here there before)
  where
    before : IsClosed q (n.log e)
    before = s q e (ap (λ f. is_some ((f q).on e).view) (sym run) ∙ has) (ap (λ f. touches_from w.runs q e (length (f q).answers)) (sym run) ∙ none)

    here : IsClosed q (n.log d) → IsClosed q (put n.log d (n.log d ++ x ∷ []) d)
    here closed = subst (IsClosed q) (sym (put_same n.log d (n.log d ++ x ∷ []))) (closed_snoc q (n.log d) x closed)

    there : e ≢ d → IsClosed q (n.log e) → IsClosed q (put n.log d (n.log d ++ x ∷ []) e)
    there ne closed = subst (IsClosed q) (sym (put_other n.log d (n.log d ++ x ∷ []) e ne)) closed

-- a command is answered
did_closed : (w : Setting) (n : Reading) (r : RunNo) (k : ℕ) (a : Answer) → k ≡ next_of n r.0 → k < length (commands_of w.runs r.0) → Logged w (entry w n (Did r k a)) → SpansClose w n → SpansClose w (entry w n (Did r k a))
did_closed w n r k a number more logged s q e has none = by_device (e == d) refl
  where
    c : Command
    c = command_at w.runs r.0 k

    d : ℕ
    d = c.device.0

    next : Reading
    next = entry w n (Did r k a)

    unlike : (x y : ℕ) → x ≢ y → (y == x) ≡ false
    unlike x y h = grind (arith, common_steps)

    last : Bool
    last = not (touches_from w.runs r.0 d (k + 1))

    mid : List LogMark
    mid = more_if (is_access a && is_none ((n.run r.0).on d).view) (First r.0) (n.log d)

    log_is : next.log d ≡ more_if last (Last r.0) mid
    log_is = put_same n.log d _

    -- what the run has left after the answer
    left : (x : ℕ) → pends w next r.0 x ≡ touches_from w.runs r.0 x (k + 1)
    left x = ap (λ (o : OfRun). touches_from w.runs r.0 x (length o.answers)) (put_same n.run r.0 _) ∙ ap (touches_from w.runs r.0 x) (length-append (n.run r.0).answers (a ∷ []) ∙ ap (λ y. y + 1) (sym number))

    other_run : q ≢ r.0 → (did n q e ≡ true) × (pends w n q e ≡ false)
    other_run ne = (sym (ap (λ (o : OfRun). is_some (o.on e).view) (put_other n.run r.0 _ q ne)) ∙ has, sym (ap (λ (o : OfRun). touches_from w.runs q e (length o.answers)) (put_other n.run r.0 _ q ne)) ∙ none)

    -- on another device the run has as much left as before
    as_before : e ≢ d → pends w n r.0 e ≡ touches_from w.runs r.0 e (k + 1)
    as_before ne =
        ap (λ x. touches_from w.runs r.0 e x) (sym number) ∙ ap (list_any (is_on e)) (drop_more (commands_of w.runs r.0) k no_command more)
        ∙ ap (λ b. b || touches_from w.runs r.0 e (k + 1)) (unlike e d ne)

    own_elsewhere : q ≡ r.0 → e ≢ d → (did n q e ≡ true) × (pends w n q e ≡ false)
    own_elsewhere own ne = (
      ap (λ x. did n x e) own ∙ sym (ap (λ (o : OfRun). is_some (o.on e).view) (put_same n.run r.0 _) ∙ ap (λ x. is_some x.view) (put_other (n.run r.0).on d _ e ne)) ∙ ap (λ x. did next x e) (sym own) ∙ has,
      ap (λ x. pends w n x e) own ∙ as_before ne ∙ sym (left e) ∙ ap (λ x. pends w next x e) (sym own) ∙ none,
    )

    elsewhere : e ≢ d → (b : Bool) → (q == r.0) ≡ b → IsClosed q (n.log e)
    elsewhere ne true own = let old = own_elsewhere (eqb-true q r.0 own) ne in s q e old.0 old.1
    elsewhere ne false own = let old = other_run (eqb-false q r.0 own) in s q e old.0 old.1

    first_in : (b : Bool) → list_any (is_first_mark r.0) (more_if b (Last r.0) mid) ≡ true → list_any (is_first_mark r.0) mid ≡ true
    first_in true h = no_last (list_any (is_first_mark r.0) mid) (sym (list_any-append (is_first_mark r.0) mid (Last r.0 ∷ [])) ∙ h)
      where
        no_last : (b : Bool) → (b || (false || false)) ≡ true → b ≡ true
        no_last b h = grind (arith, common_steps)
    first_in false h = h

    closes : (b : Bool) → last ≡ b → b ≡ true → list_any (is_first_mark r.0) mid ≡ true → IsClosed r.0 (more_if b (Last r.0) mid)
    closes true is h first ms = ap (span_of r.0) (append_assoc mid (Last r.0 ∷ []) ms) ∙ closed_last r.0 mid ms first
    closes false is h first ms = absurd (cc)

    its_own : q ≡ r.0 → e ≡ d → IsClosed q (next.log e)
    its_own own here =
        subst (λ x. IsClosed x (next.log e)) (sym own) (subst (λ x. IsClosed r.0 (next.log x)) (sym here)
        (subst (IsClosed r.0) (sym log_is) (closes last refl is_last_there (first_in last (ap (list_any (is_first_mark r.0)) (sym log_is) ∙ logged.firsts r.0 d ∙ ap (λ x. did next x d) (sym own) ∙ ap (did next q) (sym here) ∙ has)))))
      where
        is_last_there : last ≡ true
        is_last_there = ap not (sym (left d) ∙ ap (λ x. pends w next x d) (sym own) ∙ ap (pends w next q) (sym here) ∙ none)

    others : q ≢ r.0 → e ≡ d → IsClosed q (next.log e)
    others ne here =
        let old = other_run ne in
        subst (λ x. IsClosed q (next.log x)) (sym here) (subst (IsClosed q) (sym log_is) (closed_more q mid last (Last r.0) (closed_more q (n.log d) (is_access a && is_none ((n.run r.0).on d).view) (First r.0) (subst (λ x. IsClosed q (n.log x)) here (s q e old.0 old.1)))))

    by_run : e ≡ d → (b : Bool) → (q == r.0) ≡ b → IsClosed q (next.log e)
    by_run here true own = its_own (eqb-true q r.0 own) here
    by_run here false own = others (eqb-false q r.0 own) here

    by_device : (b : Bool) → (e == d) ≡ b → IsClosed q (next.log e)
    by_device true here = by_run (eqb-true e d here) (q == r.0) refl
    by_device false there = subst (IsClosed q) (sym (put_other n.log d _ e (eqb-false e d there))) (elsewhere (eqb-false e d there) (q == r.0) refl)

pub closed_step : (w : Setting) (n : Reading) (e : Entry) → IsTrue (may_follow w n e) → Logged w n → SpansClose w n → SpansClose w (entry w n e)
closed_step w n (Arrived r m) ok logs s = same_closed w n (entry w n (Arrived r m)) r.0 _ refl refl refl (λ d. refl) s
closed_step w n (Placed r at m) ok logs s = same_closed w n (entry w n (Placed r at m)) r.0 _ refl refl refl (λ d. refl) s
closed_step w n (Did r c a) ok logs s = did_closed w n r c a (grind (arith, common_steps)) (grind (arith, common_steps)) (logged_step w n (Did r c a) ok logs) s
closed_step w n (Undid r d drove) ok logs s = same_closed w n (entry w n (Undid r d drove)) r.0 _ refl refl refl (λ e. put_keeps (λ o. o.view) (n.run r.0).on d.0 _ refl e) s
closed_step w n (Fell d) ok logs s = turn_closed w n (entry w n (Fell d)) d.0 _ refl refl s
closed_step w n (Rose d) ok logs s = turn_closed w n (entry w n (Rose d)) d.0 _ refl refl s
closed_step w n (Doomed r k) ok logs s = same_closed w n (entry w n (Doomed r k)) r.0 _ refl refl refl (λ d. refl) s
closed_step w n (Ended r e) ok logs s = same_closed w n (entry w n (Ended r e)) r.0 _ refl refl refl (λ d. refl) s

closed_from : (w : Setting) (n : Reading) (h : List Entry) → Logged w n → SpansClose w n → IsTrue (along w (may_follow w) n h) → SpansClose w (fold (entry w) n h)
closed_from w n [] logs s ok = s
closed_from w n (e ∷ h) logs s ok = closed_from w (entry w n e) h (logged_step w n e (grind (arith, common_steps)) logs) (closed_step w n e (grind (arith, common_steps)) logs s) (grind (arith, common_steps))

pub closed_spans : (w : Setting) (h : List Entry) → IsWellFormed w h → SpansClose w (reading w h)
closed_spans w h ok = closed_from w (nothing_read w) h (record { firsts = λ r d. refl; lasts = λ r d e. refl; events = λ r d. refl }) (λ r d has none. absurd (cc)) ok
