-- What the reading of a well-formed history says of each run and of the line, together.
use Rattle.window_order.proofs.Prelude.{Answer, Arrived, Back, Bool, Command, DeviceSummary, Did, Doomed, Ended, Entry, Failed, Fell, Fine, Found, IsTrue, IsWellFormed, Item, Kind, Lacks, List, Logged, None, OfRun, OnDevice, Option, Placed, Ran, Reading, Rose, RunsAreDistinct, Setting, Shaped, Skipped, Some, Standing, StandsOnce, Summary, Undid, Up, View, [], along, answered, ap, arith, blank, command_at, commands_of, common_steps, cond, count_by, device_summary_then, driven, drop, drop_more, entry, false, first_view, fold, if◌then◌else◌, is_ran, is_some, kind_at, length, logged, may_follow, no_command, nothing_read, option_map, option_or, pair_more, paired, put, put_all, put_keeps, reading, refl, register_after, remaining, shapes, slice_index_or, standing, stands_in, stands_once, subst, sum_by-cons, summary, summary_more, summary_then, sym, true, unread, ℕ, ◌++◌, ◌+◌, ◌<◌, ◌==◌, ◌||◌, ◌∙◌, ◌∷◌, ◌≡◌, ◌≤◌}
use Rattle.home_types.specs.declared.commands.Answer.TheVariants.{Down}
use Rattle.home_types.specs.declared.commands.View.TheVariants.{Down as SeenDown}
use Rattle.window_order.proofs.ClosedSpans.{SpansClose, closed_spans}
use Rattle.window_order.proofs.NumberedEvents.{EventsAreNumbered, events_numbered}

-- how a run sees a device that is up, or is not
abbrev pub view_from : Bool → View
view_from true = Up
view_from false = SeenDown

-- what the answers of the run say
abbrev pub summed : Setting → ℕ → OfRun → Summary
summed w r o = summary w.kinds blank (paired (commands_of w.runs r) o.answers)

-- .. is what the reading says of it
pub record IsSummed (w : Setting) (r : ℕ) (o : OfRun) : Type 0 where
  pub register : (summed w r o).register ≡ o.register
  pub view : (d : ℕ) → ((summed w r o).on d).view ≡ option_map view_from (o.on d).view
  pub read : (d : ℕ) → ((summed w r o).on d).read ≡ (o.on d).found
  pub wrote : (d : ℕ) → ((summed w r o).on d).wrote ≡ (o.on d).wrote

abbrev pub Summarized : Setting → Reading → Type 0
Summarized w n = (r : ℕ) → IsSummed w r (n.run r)

-- the facts of the reading of a well-formed history
pub record IsRead (w : Setting) (n : Reading) : Type 0 where
  pub shaped : Shaped w n
  pub standing : Standing n
  pub once : StandsOnce n
  pub logged : Logged w n
  pub summarized : Summarized w n
  pub closed : SpansClose w n
  pub numbered : EventsAreNumbered n

-- The answers of a run

-- the commands that have no answer yet
pub rest_drop : (cs : List Command) (xs : List Answer) → remaining cs xs ≡ drop (length xs) cs
unfolding remaining
rest_drop [] [] = refl
rest_drop [] (a ∷ xs) = refl
rest_drop (c ∷ cs) [] = refl
rest_drop (c ∷ cs) (a ∷ xs) = rest_drop cs xs

pub rest_next : (cs : List Command) (xs : List Answer) → length xs < length cs → remaining cs xs ≡ slice_index_or cs (length xs) no_command ∷ drop (length xs + 1) cs
rest_next cs xs more = rest_drop cs xs ∙ drop_more cs (length xs) no_command more

-- what a summary and a reading say of one device
record Agrees (t : DeviceSummary) (o : OnDevice) : Type 0 where
  view : t.view ≡ option_map view_from o.view
  read : t.read ≡ o.found
  wrote : t.wrote ≡ o.wrote

summed_at : (w : Setting) (r : ℕ) (o : OfRun) (d : ℕ) → IsSummed w r o → Agrees ((summed w r o).on d) (o.on d)
summed_at w r o d s = record { view = s.view d; read = s.read d; wrote = s.wrote d }

first_is : (o : Option Bool) (b : Bool) → first_view (option_map view_from o) (view_from b) ≡ option_map view_from (option_or o (Some b))
first_is None b = refl
first_is (Some x) b = refl

found_is : (o : Option ℕ) (p : Option ℕ) (x : ℕ) → (if is_some o || is_some p then o else Some x) ≡ (if is_some p then o else option_or o (Some x))
found_is None None x = refl
found_is None (Some y) x = refl
found_is (Some z) None x = refl
found_is (Some z) (Some y) x = refl

-- one more answer
agrees_more : (kind : Kind) (c : Command) (doomed : Bool) (register : ℕ) (a : Answer) (t : DeviceSummary) (o : OnDevice) → Agrees t o → Agrees (device_summary_then t (driven kind c.job register) a) (answered kind c doomed register a o)
agrees_more kind c doomed register Fine t o s = record { view = ap (λ v. first_view v Up) s.view ∙ first_is o.view true; read = s.read; wrote = refl }
agrees_more kind c doomed register (Found x) t o s = record { view = ap (λ v. first_view v Up) s.view ∙ first_is o.view true; read = (λ i. if is_some (s.read i) || is_some (s.wrote i) then s.read i else Some x) ∙ found_is o.found o.wrote x; wrote = s.wrote }
agrees_more kind c doomed register Down t o s = record { view = ap (λ v. first_view v SeenDown) s.view ∙ first_is o.view false; read = s.read; wrote = s.wrote }
agrees_more kind c doomed register Skipped t o s = record { view = s.view ∙ ap (option_map view_from) (no_more o.view); read = s.read; wrote = s.wrote }
  where
    no_more : (v : Option Bool) → v ≡ option_or v None
    no_more None = refl
    no_more (Some b) = refl

-- the run's next command is answered
did_summed : (w : Setting) (r : ℕ) (o : OfRun) (a : Answer) (late : Bool) → length o.answers < length (commands_of w.runs r) → IsSummed w r o
    → IsSummed w r (record o {
      answers = o.answers ++ a ∷ [];
      register = register_after (command_at w.runs r (length o.answers)).job a o.register;
      answered_doomed = late;
      on = put o.on (command_at w.runs r (length o.answers)).device.0 (answered (kind_at w.kinds (command_at w.runs r (length o.answers)).device.0) (command_at w.runs r (length o.answers)) (is_some o.doomed) o.register a (o.on (command_at w.runs r (length o.answers)).device.0));
    })
unfolding summary
did_summed w r o a late more s =
    record {
      register = ap (λ (t : Summary). t.register) then_is ∙ ap (register_after c.job a) s.register;
      view = λ d. (on_is d).view;
      read = λ d. (on_is d).read;
      wrote = λ d. (on_is d).wrote;
    }
  where
    c : Command
    c = command_at w.runs r (length o.answers)

    kind : Kind
    kind = kind_at w.kinds c.device.0

    new : OfRun
    new = record o { answers = o.answers ++ a ∷ []; register = register_after c.job a o.register; answered_doomed = late; on = put o.on c.device.0 (answered kind c (is_some o.doomed) o.register a (o.on c.device.0)) }

    then_is : summed w r new ≡ summary_then w.kinds (summed w r o) (record { command = c; answer = a })
    then_is =
        ap (summary w.kinds blank) (pair_more (commands_of w.runs r) o.answers c (drop (length o.answers + 1) (commands_of w.runs r)) a (rest_next (commands_of w.runs r) o.answers more))
        ∙ summary_more w.kinds blank (paired (commands_of w.runs r) o.answers) (record { command = c; answer = a } ∷ [])

    drove : driven kind c.job (summed w r o).register ≡ driven kind c.job o.register
    drove = ap (driven kind c.job) s.register

    at_ : (d : ℕ) (b : Bool) → (d == c.device.0) ≡ b → Agrees (if b then device_summary_then ((summed w r o).on d) (driven kind c.job (summed w r o).register) a else (summed w r o).on d) (if b then answered kind c (is_some o.doomed) o.register a (o.on c.device.0) else o.on d)
    at_ d true e = subst (λ x. Agrees (device_summary_then ((summed w r o).on d) x a) (answered kind c (is_some o.doomed) o.register a (o.on c.device.0))) (sym drove)
        (subst (λ x. Agrees (device_summary_then ((summed w r o).on d) (driven kind c.job o.register) a) (answered kind c (is_some o.doomed) o.register a (o.on x))) (same e) (agrees_more kind c (is_some o.doomed) o.register a ((summed w r o).on d) (o.on d) (summed_at w r o d s)))
      where
        same : (d == c.device.0) ≡ true → d ≡ c.device.0
        same e = grind (arith, common_steps)
    at_ d false e = summed_at w r o d s

    on_is : (d : ℕ) → Agrees ((summed w r new).on d) (new.on d)
    on_is d = subst (λ (t : Summary). Agrees (t.on d) (new.on d)) (sym then_is) (at_ d (d == c.device.0) refl)

summed_step : (w : Setting) (n : Reading) (e : Entry) → IsTrue (may_follow w n e) → Summarized w n → Summarized w (entry w n e)
summed_step w n (Arrived r m) ok s = put_all (IsSummed w) n.run r.0 _ s (let old = s r.0 in record { register = old.register; view = old.view; read = old.read; wrote = old.wrote })
summed_step w n (Placed r at m) ok s = put_all (IsSummed w) n.run r.0 _ s (let old = s r.0 in record { register = old.register; view = old.view; read = old.read; wrote = old.wrote })
summed_step w n (Did r c a) ok s = put_all (IsSummed w) n.run r.0 _ s (let number : c ≡ length (n.run r.0).answers = grind (arith, common_steps) in rw number (did_summed w r.0 (n.run r.0) a ((n.run r.0).answered_doomed || is_some (n.run r.0).doomed) (grind (arith, common_steps)) (s r.0)))
summed_step w n (Undid r d drove) ok s = put_all (IsSummed w) n.run r.0 _ s (let old = s r.0 in record {
  register = old.register;
  view = λ e. old.view e ∙ ap (option_map view_from) (sym (put_keeps (λ x. x.view) (n.run r.0).on d.0 _ refl e));
  read = λ e. old.read e ∙ sym (put_keeps (λ x. x.found) (n.run r.0).on d.0 _ refl e);
  wrote = λ e. old.wrote e ∙ sym (put_keeps (λ x. x.wrote) (n.run r.0).on d.0 _ refl e);
})
summed_step w n (Fell d) ok s = s
summed_step w n (Rose d) ok s = s
summed_step w n (Doomed r cause) ok s = put_all (IsSummed w) n.run r.0 _ s (let old = s r.0 in record { register = old.register; view = old.view; read = old.read; wrote = old.wrote })
summed_step w n (Ended r e) ok s = put_all (IsSummed w) n.run r.0 _ s (let old = s r.0 in record { register = old.register; view = old.view; read = old.read; wrote = old.wrote })

summed_from : (w : Setting) (n : Reading) (h : List Entry) → Summarized w n → IsTrue (along w (may_follow w) n h) → Summarized w (fold (entry w) n h)
summed_from w n [] s ok = s
summed_from w n (e ∷ h) s ok = summed_from w (entry w n e) h (summed_step w n e (grind (arith, common_steps)) s) (grind (arith, common_steps))

-- no answers say nothing
none_summed : (w : Setting) (r : ℕ) → IsSummed w r unread
unfolding summary paired
none_summed w r = record {
  register = ap (λ (t : Summary). t.register) (none (commands_of w.runs r));
  view = λ d. ap (λ (t : Summary). (t.on d).view) (none (commands_of w.runs r));
  read = λ d. ap (λ (t : Summary). (t.on d).read) (none (commands_of w.runs r));
  wrote = λ d. ap (λ (t : Summary). (t.on d).wrote) (none (commands_of w.runs r));
}
  where
    none : (cs : List Command) → summary w.kinds blank (paired cs []) ≡ blank
    none [] = refl
    none (c ∷ cs) = refl

pub summarized : (w : Setting) (h : List Entry) → IsWellFormed w h → Summarized w (reading w h)
summarized w h ok = summed_from w (nothing_read w) h (none_summed w) ok

pub read_facts : (w : Setting) (h : List Entry) → IsWellFormed w h → IsRead w (reading w h)
read_facts w h ok = record { shaped = shapes w h ok; standing = standing w h ok; once = stands_once w h ok; logged = logged w h ok; summarized = summarized w h ok; closed = closed_spans w h ok; numbered = events_numbered w h }

-- Each run stands in the line once

count_cons : (r : ℕ) (i : Item) (is : List Item) → count_by (is_ran r) (i ∷ is) ≡ cond (is_ran r i) 1 0 + count_by (is_ran r) is
count_cons r i is = sum_by-cons (λ y. cond (is_ran r y) 1 0) i is

pub lacks_count : (r : ℕ) (line : List Item) → count_by (is_ran r) line ≡ 0 → Lacks r line
unfolding Lacks
lacks_count r [] none = tt
lacks_count r (Ran q ∷ is) none = (differ, lacks_count r is rest)
  where
    total : cond (q.0 == r) 1 0 + count_by (is_ran r) is ≡ 0
    total = sym (count_cons r (Ran q) is) ∙ none

    rest : count_by (is_ran r) is ≡ 0
    rest = omega (arith, total)

    clash : (k : ℕ) → 1 + k ≡ 0 → ⊥
    clash k e = omega (arith, e)

    is_one : (x y k : ℕ) → x ≡ y → 1 + k ≡ cond (x == y) 1 0 + k
    is_one x y k e = grind (arith, common_steps)

    differ : q.0 ≡ r → ⊥
    differ same = clash (count_by (is_ran r) is) (is_one q.0 r (count_by (is_ran r) is) same ∙ total)
lacks_count r (Failed d k ∷ is) none = lacks_count r is (let total = count_cons r (Failed d k) is in omega (arith, total, none))
lacks_count r (Back d k ∷ is) none = lacks_count r is (let total = count_cons r (Back d k) is in omega (arith, total, none))

distinct_counts : (line : List Item) → ((r : ℕ) → count_by (is_ran r) line ≤ 1) → RunsAreDistinct line
unfolding RunsAreDistinct
distinct_counts [] once = tt
distinct_counts (Ran q ∷ is) once = (lacks_count q.0 is none, distinct_counts is (λ r. let total = count_cons r (Ran q) is in let one = once r in omega (arith, total, one)))
  where
    self : (x k : ℕ) → cond (x == x) 1 0 + k ≡ 1 + k
    self x k = grind (arith, common_steps)

    none : count_by (is_ran q.0) is ≡ 0
    none = let total : count_by (is_ran q.0) (Ran q ∷ is) ≡ 1 + count_by (is_ran q.0) is = count_cons q.0 (Ran q) is ∙ self q.0 (count_by (is_ran q.0) is) in
        let one = once q.0 in
        omega (arith, total, one)
distinct_counts (Failed d k ∷ is) once = distinct_counts is (λ r. let total = count_cons r (Failed d k) is in let one = once r in omega (arith, total, one))
distinct_counts (Back d k ∷ is) once = distinct_counts is (λ r. let total = count_cons r (Back d k) is in let one = once r in omega (arith, total, one))

pub runs_distinct : (n : Reading) → StandsOnce n → RunsAreDistinct n.line
runs_distinct n once = distinct_counts n.line (λ r. at_most r (stands_in (n.run r)) (once r))
  where
    at_most : (r : ℕ) (b : Bool) → count_by (is_ran r) n.line ≡ cond b 1 0 → count_by (is_ran r) n.line ≤ 1
    at_most r true e = omega (arith, e)
    at_most r false e = omega (arith, e)
