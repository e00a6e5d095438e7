-- What entries that end no wait leave of what the step of a run at a command looks at.
use Rattle.hub_core.proofs.Prelude.{Aborted, Answer, Arrived, Back, Bool, Cause, Command, Committed, DeviceNo, Did, Doomed, End, Ended, Entry, Failed, Fell, Grips, Item, Kind, List, None, OfRun, OnDevice, Option, Placed, PlacedAt, Ran, Reading, Rose, Run, RunNo, Scheduler, Setting, Shaped, Some, Split, Stand, Standing, Undid, Visibility, Write, [], aborted, along, answered_run, ap, arith, before, command_at, commands_of, common_steps, cons_option, did_touches, drop, drop_more, effective_write, entry, false, filter, find, fold, front_for, if◌then◌else◌, is_doomed, is_item_on, is_live, is_none, is_on, is_quiet, is_ran, is_some, is_strict, is_undo, is_undone, last_filter, last_some, left_after, length, length-drop, line_after, line_for, list_all, list_any, live_before, live_runs, map_some, may_follow, next_is, next_of, nil_from_length, no_command, not, option_map, option_or, part, planned_times, put, put_all, put_before, put_keeps, put_other, refl, shapes_step, shares, slice_get, slice_index_or, split_of, split_part, strict_wait, subst, sym, take, take-append-drop, touches, touches_from, true, unwrap_or, write_of, ℕ, ◌&&◌, ◌++◌, ◌+◌, ◌-◌, ◌<◌, ◌==◌, ◌||◌, ◌∙◌, ◌∷◌, ◌≡◌, ◌≢◌}
use Rattle.hub_core.proofs.kept.EventsKept.{IsEvent, front_with}
use Rattle.std.proofs.lemmas.List.Elements.{filter-append}
use Rattle.std.proofs.lemmas.List.{append-nil, length-append}
use Rattle.lock_leasing.proofs.Cited.{live_stands}
use Rattle.hub_core.proofs.waiting.NearRuns.{before_more, filter_insert, filter_twice, last_insert, near_part, near_same, none_left, runs_near, some_left}
use Rattle.home_types.specs.declared.modes.Visibility.TheVariants.{Eventual, Global, Partitioned, Weak}

-- What is the same

-- what the record of the run q tells to those at a command on the device
pub record SameRun (w : Setting) (d q : ℕ) (o p : OfRun) : Type 0 where
  pub placed : p.placed ≡ o.placed
  pub ended : p.ended ≡ o.ended
  pub doomed : p.doomed ≡ o.doomed
  pub planned : p.planned ≡ o.planned
  pub pending : touches_from w.runs q d (length p.answers) ≡ touches_from w.runs q d (length o.answers)
  pub there : p.on d ≡ o.on d

-- what a reading tells to the run r at a command on the device
pub record SameFor (w : Setting) (n m : Reading) (r d : ℕ) : Type 0 where
  pub runs : (q : ℕ) → is_live n q ≡ true → touches w.runs q d ≡ true → SameRun w d q (n.run q) (m.run q)
  pub own : m.run r ≡ n.run r
  pub near : runs_near w m r d ≡ runs_near w n r d
  pub strict : strict_wait w m r ≡ strict_wait w n r
  pub write : (g : Grips) → effective_write m g d ≡ effective_write n g d
  pub up : m.up d ≡ n.up d

run_itself : (w : Setting) (d q : ℕ) (o : OfRun) → SameRun w d q o o
run_itself w d q o = record { placed = refl; ended = refl; doomed = refl; planned = refl; pending = refl; there = refl }

run_after : (w : Setting) (d q : ℕ) (o p u : OfRun) → SameRun w d q o p → SameRun w d q p u → SameRun w d q o u
run_after w d q o p u first then' = record {
  placed = then'.placed ∙ first.placed;
  ended = then'.ended ∙ first.ended;
  doomed = then'.doomed ∙ first.doomed;
  planned = then'.planned ∙ first.planned;
  pending = then'.pending ∙ first.pending;
  there = then'.there ∙ first.there;
}

same_itself : (w : Setting) (n : Reading) (r d : ℕ) → SameFor w n n r d
same_itself w n r d = record { runs = λ q live on. run_itself w d q (n.run q); own = refl; near = refl; strict = refl; write = λ g. refl; up = refl }

same_after : (w : Setting) (n m u : Reading) (r d : ℕ) → SameFor w n m r d → SameFor w m u r d → SameFor w n u r d
same_after w n m u r d first then' = record {
  runs = λ q live on. let one = first.runs q live on in run_after w d q (n.run q) (m.run q) (u.run q) one (then'.runs q ((λ i. is_some (one.placed i) && is_none (one.ended i)) ∙ live) on);
  own = then'.own ∙ first.own;
  near = then'.near ∙ first.near;
  strict = then'.strict ∙ first.strict;
  write = λ g. then'.write g ∙ first.write g;
  up = then'.up ∙ first.up;
}

-- the model asks for the live runs before the run alone
pub strict_by : (runs : List Run) (kinds : List Kind) (first : List Stand) (model : Visibility) (scheduler : Scheduler) (n m : Reading) (r : ℕ) → live_before m r ≡ live_before n r
    → strict_wait (record { runs = runs; mode = record { model = model; scheduler = scheduler }; kinds = kinds; first = first }) m r ≡ strict_wait (record { runs = runs; mode = record { model = model; scheduler = scheduler }; kinds = kinds; first = first }) n r
strict_by runs kinds first Weak scheduler n m r same = refl
strict_by runs kinds first Global scheduler n m r same = ap (find (λ x. true)) same
strict_by runs kinds first Partitioned scheduler n m r same = ap (find (λ x. shares runs x r)) same
strict_by runs kinds first Eventual scheduler n m r same = refl

strict_same : (w : Setting) (n m : Reading) (r : ℕ) → live_before m r ≡ live_before n r → strict_wait w m r ≡ strict_wait w n r
strict_same w n m r same = strict_by w.runs w.kinds w.first w.mode.model w.mode.scheduler n m r same

-- .. and but for the two strict ones for none
never_strict : (w : Setting) (n m : Reading) (r : ℕ) → is_strict w.mode ≡ false → strict_wait w m r ≡ strict_wait w n r
never_strict w n m r lax = by_model w.runs w.kinds w.first w.mode.model w.mode.scheduler lax
  where
    by_model : (runs : List Run) (kinds : List Kind) (first : List Stand) (model : Visibility) (scheduler : Scheduler) → is_strict (record { model = model; scheduler = scheduler }) ≡ false
        → strict_wait (record { runs = runs; mode = record { model = model; scheduler = scheduler }; kinds = kinds; first = first }) m r ≡ strict_wait (record { runs = runs; mode = record { model = model; scheduler = scheduler }; kinds = kinds; first = first }) n r
    by_model runs kinds first Weak scheduler lax' = refl
    by_model runs kinds first Global scheduler lax' = absurd (cc)
    by_model runs kinds first Partitioned scheduler lax' = absurd (cc)
    by_model runs kinds first Eventual scheduler lax' = refl

-- The line

-- the two parts of a split are the line as it stands when the run is placed
split_joined : (w : Setting) (n : Reading) (r at m : ℕ) → (split_of w n r at m).front ++ (split_of w n r at m).back ≡ line_for w n r m
unfolding split_of
split_joined w n r at m = take-append-drop at (line_for w n r m)

-- .. which is the line itself under the two strict models
served : (w : Setting) (n : Reading) (r m : ℕ) → is_strict w.mode ≡ true → line_for w n r m ≡ n.line
served w n r m strict = by_model w.runs w.kinds w.first w.mode.model w.mode.scheduler strict
  where
    by_model : (runs : List Run) (kinds : List Kind) (first : List Stand) (model : Visibility) (scheduler : Scheduler) → is_strict (record { model = model; scheduler = scheduler }) ≡ true
        → line_for (record { runs = runs; mode = record { model = model; scheduler = scheduler }; kinds = kinds; first = first }) n r m ≡ n.line
    by_model runs kinds first Weak scheduler yes' = absurd (cc)
    by_model runs kinds first Global scheduler yes' = refl
    by_model runs kinds first Partitioned scheduler yes' = refl
    by_model runs kinds first Eventual scheduler yes' = absurd (cc)

-- nothing is behind a run whose place is the last one
pub none_behind : (w : Setting) (n : Reading) (x : RunNo) (place t : ℕ) → length (entry w n (Placed x place t)).line ≡ place + 1 → (split_of w n x.0 place t).back ≡ []
unfolding split_of
none_behind w n x place t last = nil_from_length (drop place line) (omega (arith, whole, behind, longer, last))
  where
    line : List Item
    line = line_for w n x.0 t

    whole : length (take place line) + length (drop place line) ≡ length line
    whole = sym (length-append (take place line) (drop place line)) ∙ ap length (take-append-drop place line)

    behind : length (drop place line) ≡ length line - place
    behind = length-drop place line

    longer : length (take place line ++ Ran x ∷ drop place line) ≡ length (take place line) + length (Ran x ∷ drop place line)
    longer = length-append (take place line) (Ran x ∷ drop place line)

-- where the same runs are live
pub live_same : (n m : Reading) (is : List Item) → ((q : ℕ) → is_live m q ≡ is_live n q) → live_runs m is ≡ live_runs n is
live_same n m [] same = refl
live_same n m (Ran q ∷ is) same = λ i. cons_option (if same q.0 i then Some q.0 else None) (live_same n m is same i)
live_same n m (Failed e k ∷ is) same = live_same n m is same
live_same n m (Back e k ∷ is) same = live_same n m is same

-- where the runs and the grips say the same of a device, so does an item
pub write_same : (n m : Reading) (g h : Grips) (d : ℕ) (x : Item) → ((q : ℕ) → (m.run q).on d ≡ (n.run q).on d) → h d ≡ g d → write_of m h d x ≡ write_of n g d x
write_same n m g h d (Ran q) there held = λ i. if (there q.0 i).undid || unwrap_or (option_map (λ p. (p.maker == q.0) && is_undo p.purpose) (held i)) false then None else option_map (λ v. record { run = q.0; value = v }) (there q.0 i).wrote
write_same n m g h d (Failed e k) there held = refl
write_same n m g h d (Back e k) there held = refl

-- an item of which nothing is told is passed over
last_with : {B : Type 0} (f : Item → Option B) (best : Option B) (t : Item → Bool) (x : Item) (line : List Item) → f x ≡ None → fold (λ o y. option_or (f y) o) best (put_before t x line) ≡ fold (λ o y. option_or (f y) o) best line
last_with f best t x [] none = ap (λ o. option_or o best) none
last_with f best t x (i ∷ is) none = by_test (t i) (last_with f (option_or (f i) best) t x is none)
  where
    by_test : (b : Bool) → fold (λ o y. option_or (f y) o) (option_or (f i) best) (put_before t x is) ≡ fold (λ o y. option_or (f y) o) (option_or (f i) best) is
        → fold (λ o y. option_or (f y) o) best (if b then x ∷ i ∷ is else i ∷ put_before t x is) ≡ fold (λ o y. option_or (f y) o) best (i ∷ is)
    by_test true rest = ap (λ o. fold (λ u y. option_or (f y) u) (option_or o best) (i ∷ is)) none
    by_test false rest = rest

-- Two kinds of entries

-- an entry of another run
run_says : (w : Setting) (n m : Reading) (r d x : ℕ) (new : OfRun) → m.run ≡ put n.run x new → m.line ≡ n.line → m.up ≡ n.up → r ≢ x → SameRun w d x (n.run x) new → SameFor w n m r d
run_says w n m r d x new read line up other same = record {
  runs = λ q live on. runs q;
  own = ap (λ f. f r) read ∙ put_other n.run x new r other;
  near = ap (filter (λ y. touches w.runs y d)) before_it;
  strict = strict_same w n m r before_it;
  write = λ g. ap (last_some (write_of m g d)) line ∙ (λ i. last_some (λ y. write_same n m g g d y (λ q. (runs q).there) refl i) n.line);
  up = ap (λ f. f d) up;
}
  where
    runs : (q : ℕ) → SameRun w d q (n.run q) (m.run q)
    runs q = subst (λ f. SameRun w d q (n.run q) (f q)) (sym read) (put_all (λ y o. SameRun w d y (n.run y) o) n.run x new (λ y. run_itself w d y (n.run y)) same q)

    before_it : live_before m r ≡ live_before n r
    before_it = ap (λ l. live_runs m (before r l)) line ∙ live_same n m (before r n.line) (λ q i. is_some ((runs q).placed i) && is_none ((runs q).ended i))

-- the event of another device
event_says : (w : Setting) (n m : Reading) (r d : ℕ) (t : Item → Bool) (x : Item) → m.run ≡ n.run → m.line ≡ put_before t x n.line → m.up d ≡ n.up d → IsEvent n x → ((g : Grips) → write_of n g d x ≡ None) → SameFor w n m r d
event_says w n m r d t x read line up event none = record {
  runs = λ q live on. runs q;
  own = ap (λ f. f r) read;
  near = ap (filter (λ y. touches w.runs y d)) before_it;
  strict = strict_same w n m r before_it;
  write = λ g. (λ i. last_some (λ y. write_same n m g g d y (λ q. (runs q).there) refl i) m.line) ∙ ap (last_some (write_of n g d)) line ∙ last_with (write_of n g d) None t x n.line (none g);
  up = up;
}
  where
    runs : (q : ℕ) → SameRun w d q (n.run q) (m.run q)
    runs q = subst (λ f. SameRun w d q (n.run q) (f q)) (sym read) (run_itself w d q (n.run q))

    before_it : live_before m r ≡ live_before n r
    before_it = live_same n m (before r m.line) (λ q i. is_some ((runs q).placed i) && is_none ((runs q).ended i)) ∙ ap (λ l. live_runs n (before r l)) line ∙ front_with n r t x n.line event

-- The entries

-- the run is at a command on the device, by its record
pub record IsNextOn (w : Setting) (r d : ℕ) (o : OfRun) : Type 0 where
  pub came : is_none o.arrived ≡ false
  pub live : (is_some o.placed && is_none o.ended) ≡ true
  pub sound : is_some o.doomed ≡ false
  pub on : touches w.runs r d ≡ true
  pub next : option_map (λ c. c.device.0) (slice_get (commands_of w.runs r) (length o.answers)) ≡ Some d

-- its next command is on the device
pub next_there : (w : Setting) (r d : ℕ) (o : OfRun) → IsNextOn w r d o → (command_at w.runs r (length o.answers)).device.0 ≡ d
next_there w r d o at = let found = map_some (λ c. c.device.0) (slice_get (commands_of w.runs r) (length o.answers)) d at.next in
    ap (λ c. c.device.0) (next_is (commands_of w.runs r) (length o.answers) found.0 found.1).1 ∙ found.2

-- the commands that are left on a device are those left behind a command elsewhere
left_elsewhere : (cs : List Command) (k d : ℕ) → k < length cs → ((slice_index_or cs k no_command).device.0 == d) ≡ false → list_any (is_on d) (drop (k + 1) cs) ≡ list_any (is_on d) (drop k cs)
left_elsewhere cs k d more other = sym (ap (list_any (is_on d)) (drop_more cs k no_command more) ∙ ap (λ b. b || list_any (is_on d) (drop (k + 1) cs)) other)

-- an answer elsewhere
did_same : (w : Setting) (n : Reading) (r d k : ℕ) (x : RunNo) (a : Answer) → k ≡ next_of n x.0 → next_of n x.0 < length (commands_of w.runs x.0) → ((command_at w.runs x.0 k).device.0 == d) ≡ false → IsNextOn w r d (n.run r) → SameFor w n (entry w n (Did x k a)) r d
did_same w n r d k x a number more elsewhere at = run_says w n (entry w n (Did x k a)) r d x.0 (answered_run w n x.0 k a) refl refl refl other (record {
  placed = refl;
  ended = refl;
  doomed = refl;
  planned = refl;
  pending = left_after w n x.0 k a d number ∙ left_elsewhere (commands_of w.runs x.0) k d (subst (λ y. y < length (commands_of w.runs x.0)) (sym number) more) elsewhere ∙ ap (touches_from w.runs x.0 d) number;
  there = put_other (n.run x.0).on (command_at w.runs x.0 k).device.0 _ d (λ same. apart (sym same));
})
  where
    apart : (command_at w.runs x.0 k).device.0 ≢ d
    apart = grind (arith, common_steps)

    other : r ≢ x.0
    other same = apart (ap (λ j. (command_at w.runs x.0 j).device.0) number ∙ ap (λ y. (command_at w.runs y (next_of n y)).device.0) (sym same) ∙ next_there w r d (n.run r) at)

-- an undo elsewhere
undid_same : (w : Setting) (n : Reading) (r d : ℕ) (x : RunNo) (e : DeviceNo) (drove : Bool) → is_doomed n x.0 ≡ true → (e.0 == d) ≡ false → IsNextOn w r d (n.run r) → SameFor w n (entry w n (Undid x e drove)) r d
undid_same w n r d x e drove doomed elsewhere at = run_says w n (entry w n (Undid x e drove)) r d x.0 (record (n.run x.0) { on = put (n.run x.0).on e.0 (record ((n.run x.0).on e.0) { undid = true }) }) refl refl refl other (record {
  placed = refl;
  ended = refl;
  doomed = refl;
  planned = refl;
  pending = refl;
  there = put_other (n.run x.0).on e.0 _ d (λ same. apart (sym same));
})
  where
    apart : e.0 ≢ d
    apart = grind (arith, common_steps)

    other : r ≢ x.0
    other same = let both : true ≡ false = sym doomed ∙ ap (is_doomed n) (sym same) ∙ at.sound in cc

-- Runs that do not use the device

-- a run that does not use the device has written nothing there
unwritten : (w : Setting) (n : Reading) (q d : ℕ) → Shaped w n → touches w.runs q d ≡ false → ((n.run q).on d).wrote ≡ None
unwritten w n q d shaped off = by_write ((n.run q).on d).wrote refl
  where
    by_write : (o : Option ℕ) → ((n.run q).on d).wrote ≡ o → o ≡ None
    by_write None e = refl
    by_write (Some v) e = absurd (let on = did_touches w n q d shaped ((shaped q).wrote d (ap is_some e)) in let both : true ≡ false = sym on ∙ off in cc)

-- so neither does its item give a write, nor one of no run
no_write : (n : Reading) (g : Grips) (d : ℕ) (q : RunNo) → ((n.run q.0).on d).wrote ≡ None → write_of n g d (Ran q) ≡ None
no_write n g d q none = either (is_undone n g q.0 d) (option_map (λ v. record { run = q.0; value = v }) ((n.run q.0).on d).wrote) (λ i. option_map (λ v. record { run = q.0; value = v }) (none i))
  where
    either : (b : Bool) (o : Option Write) → o ≡ None → (if b then None else o) ≡ None
    either true o none = refl
    either false o none = none

no_write_off : (w : Setting) (n : Reading) (g : Grips) (d : ℕ) → Shaped w n → (i : Item) → is_item_on w.runs d i ≡ false → write_of n g d i ≡ None
no_write_off w n g d shaped (Ran q) off = no_write n g d q (unwritten w n q.0 d shaped off)
no_write_off w n g d shaped (Failed e k) off = refl
no_write_off w n g d shaped (Back e k) off = refl

-- .. and it is no run that does
apart : (w : Setting) (q x d : ℕ) → touches w.runs x d ≡ false → touches w.runs q d ≡ true → q ≢ x
apart w q x d off on same = let both : true ≡ false = sym on ∙ ap (λ y. touches w.runs y d) same ∙ off in cc

-- another run's record is the same
other_run : (w : Setting) (n : Reading) (d q x : ℕ) (new : OfRun) → q ≢ x → SameRun w d q (n.run q) (put n.run x new q)
other_run w n d q x new other = subst (SameRun w d q (n.run q)) (sym (put_other n.run x new q other)) (run_itself w d q (n.run q))

live_other : (n : Reading) (q x : ℕ) (new : OfRun) → q ≢ x → (is_some (put n.run x new q).placed && is_none (put n.run x new q).ended) ≡ is_live n q
live_other n q x new other = ap (λ (o : OfRun). is_some o.placed && is_none o.ended) (put_other n.run x new q other)

-- its doom ends no wait there
pub doom_ends_no_wait_elsewhere : (w : Setting) (n : Reading) (r d : ℕ) (x : RunNo) (cause : Cause) → touches w.runs x.0 d ≡ false → IsNextOn w r d (n.run r) → SameFor w n (entry w n (Doomed x cause)) r d
doom_ends_no_wait_elsewhere w n r d x cause off at = record {
  runs = λ q live on. other_run w n d q x.0 new (apart w q x.0 d off on);
  own = put_other n.run x.0 new r (apart w r x.0 d off at.on);
  near = ap (filter (λ y. touches w.runs y d)) before_it;
  strict = strict_same w n m r before_it;
  write = λ g i. last_some (λ y. write_same n m g g d y (put_keeps (λ (o : OfRun). o.on d) n.run x.0 new refl) refl i) n.line;
  up = refl;
}
  where
    new : OfRun
    new = record (n.run x.0) { doomed = Some cause }

    m : Reading
    m = entry w n (Doomed x cause)

    before_it : live_before m r ≡ live_before n r
    before_it = live_same n m (before r n.line) (put_keeps (λ (o : OfRun). is_some o.placed && is_none o.ended) n.run x.0 new refl)

-- nor does its end, but under a strict model
pub end_ends_no_wait_elsewhere : (w : Setting) (n : Reading) (r d : ℕ) (x : RunNo) (e : End) → Shaped w n → is_strict w.mode ≡ false → touches w.runs x.0 d ≡ false → IsNextOn w r d (n.run r) → SameFor w n (entry w n (Ended x e)) r d
end_ends_no_wait_elsewhere w n r d x e shaped lax off at = record {
  runs = λ q live on. other_run w n d q x.0 new (apart w q x.0 d off on);
  own = put_other n.run x.0 new r (apart w r x.0 d off at.on);
  near = near_same w n m r d at.on (parts e) (λ q on. live_other n q x.0 new (apart w q x.0 d off on));
  strict = never_strict w n m r lax;
  write = λ g. (λ i. last_some (λ y. write_same n m g g d y (put_keeps (λ (o : OfRun). o.on d) n.run x.0 new refl) refl i) m.line) ∙ writes g e;
  up = refl;
}
  where
    new : OfRun
    new = record (n.run x.0) { ended = Some e }

    m : Reading
    m = entry w n (Ended x e)

    not_item : (q : RunNo) → touches w.runs q.0 d ≡ true → (b : Bool) → (q.0 == x.0) ≡ b → not b ≡ true
    not_item q on true same = absurd (apart w q.0 x.0 d off on (grind (arith, common_steps)))
    not_item q on false same = refl

    other_item : (i : Item) → is_item_on w.runs d i ≡ true → not (is_ran x.0 i) ≡ true
    other_item (Ran q) on = not_item q on (q.0 == x.0) refl
    other_item (Failed f k) on = refl
    other_item (Back f k) on = refl

    parts : (e : End) → part w d (line_after x.0 e n.line) ≡ part w d n.line
    parts Committed = refl
    parts (Aborted cause) = filter_twice (is_item_on w.runs d) (λ i. not (is_ran x.0 i)) n.line other_item

    gone : (g : Grips) (i : Item) → not (is_ran x.0 i) ≡ false → write_of n g d i ≡ None
    gone g (Ran q) own = let same : q.0 ≡ x.0 = grind (arith, common_steps) in no_write n g d q (unwritten w n q.0 d shaped (ap (λ y. touches w.runs y d) same ∙ off))
    gone g (Failed f k) own = absurd (cc)
    gone g (Back f k) own = absurd (cc)

    writes : (g : Grips) (e : End) → last_some (write_of n g d) (line_after x.0 e n.line) ≡ effective_write n g d
    writes g Committed = refl
    writes g (Aborted cause) = last_filter (write_of n g d) (λ i. not (is_ran x.0 i)) n.line None (gone g)

-- A run that is placed

module _ (w : Setting) (n : Reading) (r d : ℕ) (x : RunNo) (place t : ℕ) (shaped : Shaped w n) (follows : may_follow w n (Placed x place t) ≡ true) (at : IsNextOn w r d (n.run r)) where
  abbrev new : OfRun
  new = record (n.run x.0) { placed = Some (record { place = place; moment = t; stamp = n.size }); planned = planned_times w n x.0 (front_for w n x.0 place t) t }

  abbrev m : Reading
  m = entry w n (Placed x place t)

  abbrev split : Split
  split = split_of w n x.0 place t

  unplaced : is_none (n.run x.0).placed ≡ true
  unplaced = grind (arith, common_steps, follows)

  -- it is no live run
  not_live : (q : ℕ) → is_live n q ≡ true → q ≢ x.0
  not_live q live same = by_place (n.run x.0).placed unplaced (sym (ap (is_live n) same) ∙ live)
    where
      by_place : (o : Option PlacedAt) → is_none o ≡ true → (is_some o && is_none (n.run x.0).ended) ≡ true → ⊥
      by_place None none live = absurd (cc)
      by_place (Some p) none live = absurd (cc)

  on_same : (q : ℕ) → (m.run q).on d ≡ (n.run q).on d
  on_same q = put_keeps (λ (o : OfRun). o.on d) n.run x.0 new refl q

  out : (g : Grips) (i : Item) → is_item_on w.runs d i ≡ false → write_of n g d i ≡ None
  out g = no_write_off w n g d shaped

  write : (g : Grips) → effective_write m g d ≡ effective_write n g d
  write g =
      (λ i. last_some (λ y. write_same n m g g d y on_same refl i) m.line)
      ∙ last_insert (write_of n g d) split.front split.back (Ran x) None (no_write n g d x (ap (λ (o : OnDevice). o.wrote) ((shaped x.0).clear unplaced d)))
      ∙ sym (last_filter (write_of n g d) (is_item_on w.runs d) (split.front ++ split.back) None (out g))
      ∙ ap (last_some (write_of n g d)) (split_part w n x.0 place t d)
      ∙ last_filter (write_of n g d) (is_item_on w.runs d) n.line None (out g)

  -- a placing ends no wait at a device that its run does not use, but under a strict model
  pub placing_ends_no_wait_elsewhere : is_strict w.mode ≡ false → touches w.runs x.0 d ≡ false → SameFor w n m r d
  placing_ends_no_wait_elsewhere lax off = record {
    runs = λ q live on. other_run w n d q x.0 new (apart w q x.0 d off on);
    own = put_other n.run x.0 new r (not_live r at.live);
    near = near_same w n m r d at.on (filter_insert (is_item_on w.runs d) split.front split.back (Ran x) off ∙ split_part w n x.0 place t d) (λ q on. live_other n q x.0 new (apart w q x.0 d off on));
    strict = never_strict w n m r lax;
    write = write;
    up = refl;
  }

  -- .. and one at the end of the line ends no wait at all
  pub last_placing_ends_no_wait : Standing n → split.back ≡ [] → SameFor w n m r d
  last_placing_ends_no_wait standing last = record {
    runs = λ q live on. other_run w n d q x.0 new (not_live q live);
    own = put_other n.run x.0 new r (not_live r at.live);
    near = near;
    strict = by_model (is_strict w.mode) refl;
    write = write;
    up = refl;
  }
    where
      live : (q : ℕ) → q ≢ x.0 → is_live m q ≡ is_live n q
      live q other = live_other n q x.0 new other

      none : list_any (is_ran x.0) n.line ≡ false
      none = standing.line x.0 ∙ by_place (n.run x.0).placed unplaced
        where
          by_place : (o : Option PlacedAt) → is_none o ≡ true → (is_some o && not (aborted (n.run x.0))) ≡ false
          by_place None e = refl
          by_place (Some p) e = absurd (cc)

      there : list_any (is_ran r) n.line ≡ true
      there = standing.line r ∙ live_stands n r at.live

      own_item : (i : Item) → is_ran r i ≡ true → is_item_on w.runs d i ≡ true
      own_item (Ran q) is = let same : q.0 ≡ r = grind (arith, common_steps) in ap (λ y. touches w.runs y d) same ∙ at.on
      own_item (Failed e k) is = absurd (cc)
      own_item (Back e k) is = absurd (cc)

      front_part : part w d split.front ≡ part w d n.line
      front_part = ap (part w d) (sym (append-nil split.front) ∙ ap (λ b. split.front ++ b) (sym last)) ∙ split_part w n x.0 place t d

      near : runs_near w m r d ≡ runs_near w n r d
      near =
          near_part w m r d m.line at.on
          ∙ ap (λ l. filter (λ y. touches w.runs y d) (live_runs m (before r l))) (filter-append (is_item_on w.runs d) split.front (Ran x ∷ split.back) ∙ ap (λ l. l ++ part w d (Ran x ∷ split.back)) front_part)
          ∙ ap (filter (λ y. touches w.runs y d)) (before_more n m r x.0 (part w d n.line) (part w d (Ran x ∷ split.back)) live (none_left (is_ran x.0) (is_item_on w.runs d) n.line none) (some_left (is_ran r) (is_item_on w.runs d) n.line own_item ∙ there))
          ∙ sym (near_part w n r d n.line at.on)

      by_model : (b : Bool) → is_strict w.mode ≡ b → strict_wait w m r ≡ strict_wait w n r
      by_model true strict = strict_same w n m r (ap (λ l. live_runs m (before r (l ++ Ran x ∷ split.back))) front ∙ before_more n m r x.0 n.line (Ran x ∷ split.back) live none there)
        where
          front : split.front ≡ n.line
          front = sym (append-nil split.front) ∙ ap (λ b. split.front ++ b) (sym last) ∙ split_joined w n x.0 place t ∙ served w n x.0 t strict
      by_model false lax = never_strict w n m r lax

-- what an entry that is quiet for a device leaves to a run at a command there
pub quiet_same : (w : Setting) (n : Reading) (r d : ℕ) (e : Entry) → Shaped w n → may_follow w n e ≡ true → is_quiet w d e ≡ true → IsNextOn w r d (n.run r) → SameFor w n (entry w n e) r d
quiet_same w n r d (Arrived x t) shaped follows quiet at = run_says w n (entry w n (Arrived x t)) r d x.0 (record (n.run x.0) { arrived = Some t }) refl refl refl other (record { placed = refl; ended = refl; doomed = refl; planned = refl; pending = refl; there = refl })
  where
    new : is_none (n.run x.0).arrived ≡ true
    new = grind (arith, common_steps)

    other : r ≢ x.0
    other same = let both : true ≡ false = sym new ∙ ap (λ y. is_none (n.run y).arrived) (sym same) ∙ at.came in cc
quiet_same w n r d (Placed x p t) shaped follows quiet at = placing_ends_no_wait_elsewhere w n r d x p t shaped follows at (grind (arith, common_steps)) (grind (arith, common_steps))
quiet_same w n r d (Did x k a) shaped follows quiet at = did_same w n r d k x a (grind (arith, common_steps)) (grind (arith, common_steps)) (grind (arith, common_steps)) at
quiet_same w n r d (Undid x e drove) shaped follows quiet at = undid_same w n r d x e drove (grind (arith, common_steps)) (grind (arith, common_steps)) at
quiet_same w n r d (Fell e) shaped follows quiet at = event_says w n (entry w n (Fell e)) r d _ (Failed e (n.fell e.0 + 1)) refl refl (put_other n.up e.0 false d (λ same. apart (sym same))) (record { none = λ q. refl; later = λ stamp. refl; order = λ is. refl; live = λ is. refl }) (λ g. refl)
  where
    apart : e.0 ≢ d
    apart = grind (arith, common_steps)
quiet_same w n r d (Rose e) shaped follows quiet at = event_says w n (entry w n (Rose e)) r d _ (Back e (n.rose e.0 + 1)) refl refl (put_other n.up e.0 true d (λ same. apart (sym same))) (record { none = λ q. refl; later = λ stamp. refl; order = λ is. refl; live = λ is. refl }) (λ g. refl)
  where
    apart : e.0 ≢ d
    apart = grind (arith, common_steps)
quiet_same w n r d (Doomed x cause) shaped follows quiet at = doom_ends_no_wait_elsewhere w n r d x cause (grind (arith, common_steps)) at
quiet_same w n r d (Ended x e) shaped follows quiet at = end_ends_no_wait_elsewhere w n r d x e shaped (grind (arith, common_steps)) (grind (arith, common_steps)) at

-- .. and what several leave
pub quiet_along : (w : Setting) (n : Reading) (r d : ℕ) (es : List Entry) → Shaped w n → along w (may_follow w) n es ≡ true → list_all (is_quiet w d) es ≡ true → IsNextOn w r d (n.run r) → SameFor w n (fold (entry w) n es) r d
quiet_along w n r d [] shaped follow quiet at = same_itself w n r d
quiet_along w n r d (e ∷ es) shaped follow quiet at =
    same_after w n (entry w n e) (fold (entry w) (entry w n e) es) r d first (quiet_along w (entry w n e) r d es (shapes_step w n e follows shaped) (grind (arith, common_steps)) (grind (arith, common_steps)) (subst (IsNextOn w r d) (sym first.own) at))
  where
    follows : may_follow w n e ≡ true
    follows = grind (arith, common_steps)

    first : SameFor w n (entry w n e) r d
    first = quiet_same w n r d e shaped follows (grind (arith, common_steps)) at
