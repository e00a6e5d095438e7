-- How long a history and its line can grow.
use Rattle.hub_core.proofs.Prelude.{Aborted, Answer, Arrived, Back, Bool, Command, Committed, Configuration, DeviceNo, Did, Doomed, Ended, Entry, Failed, Fell, IsKeptByModel, IsRead, IsTrue, IsWellFormed, Item, List, None, OfRun, OnDevice, Option, Placed, Ran, Reading, Rose, Run, Setting, Shaped, Some, Undid, [], along, answered, ap, arith, command_at, commands_of, common_steps, cond, count_by, count_cons, count_insert, count_put_before, did_touches, entries_of, entry, eq-eqb, false, fell_is, fold, if◌then◌else◌, is_none, is_on, is_ran, is_run, is_some, kind_at, length, length-append, list_any, ltb-true, map, may_follow, most_entries, most_events, most_items, not, nothing_read, of_run, or_right, probes_of, put, put_keeps, put_other, put_same, read_facts, read_of, reading, refl, shapes, size_is, slice_get, slice_get_within, split_count, split_of, stand_at, stands_in, subst, suc, sym, told_falls, touches, true, unread, without, zero, ℕ, ◌*◌, ◌+◌, ◌<◌, ◌==◌, ◌||◌, ◌∙◌, ◌∷◌, ◌≡◌, ◌≢◌, ◌≤◌}
use Rattle.home_types.specs.Limits.{most_commands}

-- the sum of what is counted of the first so many, from 0
pub sum_below : (ℕ → ℕ) → ℕ → ℕ
sum_below f zero = 0
sum_below f (suc k) = sum_below f k + f k

-- .. is the same where the same is counted of each
pub sum_same : (f h : ℕ → ℕ) (k : ℕ) → ((i : ℕ) → i < k → h i ≡ f i) → sum_below h k ≡ sum_below f k
unfolding sum_below
sum_same f h zero same = refl
sum_same f h (suc k) same = rw (sum_same f h k (λ i less. same i (omega (arith, less))), same k (omega arith)) refl

-- .. and one more where one more is counted of one of them
pub sum_more : (f h : ℕ → ℕ) (i k : ℕ) → ((j : ℕ) → j ≢ i → h j ≡ f j) → h i ≡ f i + 1 → i < k → sum_below h k ≡ sum_below f k + 1
unfolding sum_below
sum_more f h i zero same more less = absurd (omega (arith, less))
sum_more f h i (suc k) same more less = elim (i == k) as (λ b. (i == k) ≡ b → sum_below h k + h k ≡ sum_below f k + f k + 1) [
  | true ↦ (λ e. let at : i ≡ k = grind (arith, common_steps) in
      let rest : sum_below h k ≡ sum_below f k = sum_same f h k (λ j ltb-true. same j (λ is. (absurd (omega (arith, ltb-true, is, at))))) in
      let here : h k ≡ f k + 1 = subst (λ x. h x ≡ f x + 1) at more in
      omega (arith, rest, here))
  | false ↦ (λ e. let other : k ≢ i = grind (arith, common_steps) in
      let rest : sum_below h k ≡ sum_below f k + 1 = sum_more f h i k same more (omega (arith, less, other)) in
      let here : h k ≡ f k = same k other in
      omega (arith, rest, here))
] refl

pub sum_fits : (f : ℕ → ℕ) (k most : ℕ) → ((i : ℕ) → f i ≤ most) → sum_below f k ≤ k * most
unfolding sum_below
sum_fits f zero most each = omega arith
sum_fits f (suc k) most each = omega (arith, sum_fits f k most each, each k)

-- at most two sums, where at most these are counted of each
sum_split : (f g h : ℕ → ℕ) (k : ℕ) → ((i : ℕ) → f i ≤ g i + h i) → sum_below f k ≤ sum_below g k + sum_below h k
unfolding sum_below
sum_split f g h zero each = omega arith
sum_split f g h (suc k) each = omega (arith, sum_split f g h k each, each k)

unfoldable pub one_if : Bool → ℕ
one_if b = if b then 1 else 0

pub at_most_one : (b : Bool) → one_if b ≤ 1
unfolding one_if
at_most_one true = omega arith
at_most_one false = omega arith

-- on how many of the first devices the run is undone
undone_of : ℕ → (ℕ → OnDevice) → ℕ
undone_of devices on = sum_below (λ d. one_if (on d).undid) devices

-- how many entries tell of the run
told_of : ℕ → OfRun → ℕ
told_of devices o = one_if (is_some o.arrived) + one_if (is_some o.placed) + length o.answers + one_if (is_some o.doomed) + undone_of devices o.on + one_if (is_some o.ended)

-- the runs of a window count from 1
pub run_within : (runs : List Run) (r : ℕ) → is_run runs r ≡ true → (0 < r) × (r ≤ length runs)
run_within runs zero e = absurd (cc)
run_within runs (suc i) e = (omega arith, at (slice_get runs i) refl e)
  where
    at : (o : Option Run) → slice_get runs i ≡ o → is_some o ≡ true → suc i ≤ length runs
    at None f g = absurd (cc)
    at (Some run) f g = omega (arith, slice_get_within runs i run f)

pub run_there : (runs : List Run) (r : ℕ) → 0 < r → r ≤ length runs → is_run runs r ≡ true
run_there runs zero from to = absurd (omega (arith, from))
run_there runs (suc i) from to = within runs i (omega (arith, to))
  where
    within : (xs : List Run) (j : ℕ) → j < length xs → is_some (slice_get xs j) ≡ true
    within [] j less = absurd (omega (arith, less))
    within (x ∷ xs) zero less = refl
    within (x ∷ xs) (suc j) less = within xs j (omega (arith, less))

-- how many failures and restarts there were of the first devices
abbrev events_told : Reading → ℕ → ℕ
events_told n devices = sum_below (λ d. n.fell d + n.rose d) devices

one_later : (a b : ℕ) → a + 1 + b ≡ a + b + 1
one_later a b = omega arith

-- one more where a device fails, ..
fell_more : (w : Setting) (n : Reading) (d : DeviceNo) (devices : ℕ) → d.0 < devices → events_told (entry w n (Fell d)) devices ≡ events_told n devices + 1
fell_more w n d devices within = sum_more (λ e. n.fell e + n.rose e) (λ e. put n.fell d.0 (n.fell d.0 + 1) e + n.rose e) d.0 devices
    (λ e other. ap (λ k. k + n.rose e) (put_other n.fell d.0 (n.fell d.0 + 1) e other))
    (ap (λ k. k + n.rose d.0) (put_same n.fell d.0 (n.fell d.0 + 1)) ∙ one_later (n.fell d.0) (n.rose d.0)) within

-- .. and where it comes back
rose_more : (w : Setting) (n : Reading) (d : DeviceNo) (devices : ℕ) → d.0 < devices → events_told (entry w n (Rose d)) devices ≡ events_told n devices + 1
rose_more w n d devices within = sum_more (λ e. n.fell e + n.rose e) (λ e. n.fell e + put n.rose d.0 (n.rose d.0 + 1) e) d.0 devices
    (λ e other. ap (λ k. n.fell e + k) (put_other n.rose d.0 (n.rose d.0 + 1) e other))
    (ap (λ k. n.fell d.0 + k) (put_same n.rose d.0 (n.rose d.0 + 1)) ∙ last_one (n.fell d.0) (n.rose d.0)) within
  where
    last_one : (a b : ℕ) → a + (b + 1) ≡ a + b + 1
    last_one a b = omega arith

-- each entry tells of one run, or of a failure or a restart
abbrev IsTold : Setting → Reading → Type 0
IsTold w n = n.size ≡ sum_below (λ i. told_of (length w.first) (n.run (suc i))) (length w.runs) + events_told n (length w.first)

told_put : (w : Setting) (n m : Reading) (r : ℕ) (o : OfRun) → m.size ≡ n.size + 1 → m.fell ≡ n.fell → m.rose ≡ n.rose → m.run ≡ put n.run r o → is_run w.runs r ≡ true → told_of (length w.first) o ≡ told_of (length w.first) (n.run r) + 1 → IsTold w n → IsTold w m
told_put w n m zero o size fell rose run known more told = absurd (cc)
told_put w n m (suc i) o size fell rose run known more told =
    let runs : sum_below (λ j. told_of (length w.first) (m.run (suc j))) (length w.runs) ≡ sum_below (λ j. told_of (length w.first) (n.run (suc j))) (length w.runs) + 1 = sum_more (λ j. told_of (length w.first) (n.run (suc j))) (λ j. told_of (length w.first) (m.run (suc j))) i (length w.runs)
    (λ j other. ap (λ f. told_of (length w.first) (f (suc j))) run ∙ ap (told_of (length w.first)) (put_other n.run (suc i) o (suc j) (λ same. other (omega (arith, same)))))
    (ap (λ f. told_of (length w.first) (f (suc i))) run ∙ ap (told_of (length w.first)) (put_same n.run (suc i) o) ∙ more)
    (let within : (0 < suc i) × (suc i ≤ length w.runs) = run_within w.runs (suc i) known in omega (arith, within.1)) in
    let events : events_told m (length w.first) ≡ events_told n (length w.first) = (λ j. sum_below (λ d. fell j d + rose j d) (length w.first)) in
    omega (arith, size, told, runs, events)

-- an event of a device
told_turn : (w : Setting) (n m : Reading) → m.size ≡ n.size + 1 → m.run ≡ n.run → events_told m (length w.first) ≡ events_told n (length w.first) + 1 → IsTold w n → IsTold w m
told_turn w n m size run events told =
    let runs : sum_below (λ j. told_of (length w.first) (m.run (suc j))) (length w.runs) ≡ sum_below (λ j. told_of (length w.first) (n.run (suc j))) (length w.runs) = ap (λ f. sum_below (λ j. told_of (length w.first) (f (suc j))) (length w.runs)) run in
    omega (arith, size, told, runs, events)

none_of : {A : Type 0} (o : Option A) → is_none o ≡ true → one_if (is_some o) ≡ 0
unfolding one_if
none_of None e = refl
none_of (Some x) e = absurd (cc)

not_yet : (b : Bool) → not b ≡ true → one_if b ≡ 0
unfolding one_if
not_yet true e = absurd (cc)
not_yet false e = refl

-- an answer undoes nothing
answer_undoes_none : (w : Setting) (n : Reading) (r k : ℕ) (a : Answer) (devices : ℕ)
    → undone_of devices (put (n.run r).on (command_at w.runs r k).device.0 (answered (kind_at w.kinds (command_at w.runs r k).device.0) (command_at w.runs r k)
    (is_some (n.run r).doomed) (n.run r).register a ((n.run r).on (command_at w.runs r k).device.0))) ≡ undone_of devices (n.run r).on
unfolding undone_of
answer_undoes_none w n r k a devices = sum_same (λ d. one_if ((n.run r).on d).undid) _ devices (λ d less. put_keeps (λ x. one_if x.undid) (n.run r).on (command_at w.runs r k).device.0 _ refl d)

-- an undo one device
undo_more : (on : ℕ → OnDevice) (d devices : ℕ) → not (on d).undid ≡ true → d < devices → undone_of devices (put on d (record (on d) { undid = true })) ≡ undone_of devices on + 1
unfolding undone_of one_if
undo_more on d devices first less = sum_more (λ e. one_if (on e).undid) _ d devices (λ e other. ap (λ x. one_if x.undid) (put_other on d _ e other)) (ap (λ x. one_if x.undid) (put_same on d _) ∙ sym (ap (λ k. k + 1) (not_yet (on d).undid first))) less

told_step : (w : Setting) (n : Reading) (e : Entry) → IsTrue (may_follow w n e) → IsTold w n → IsTold w (entry w n e)
unfolding told_of one_if
told_step w n (Arrived r m) ok told = told_put w n (entry w n (Arrived r m)) r.0 _ refl refl refl refl (grind (arith, common_steps)) (let none : one_if (is_some (n.run r.0).arrived) ≡ 0 = none_of (n.run r.0).arrived (grind (arith, common_steps)) in omega (arith, none)) told
told_step w n (Placed r at m) ok told = told_put w n (entry w n (Placed r at m)) r.0 _ refl refl refl refl (grind (arith, common_steps)) (let none : one_if (is_some (n.run r.0).placed) ≡ 0 = none_of (n.run r.0).placed (grind (arith, common_steps)) in omega (arith, none)) told
told_step w n (Did r c a) ok told = told_put w n (entry w n (Did r c a)) r.0 _ refl refl refl refl (grind (arith, common_steps)) (omega (arith, length-append (n.run r.0).answers (a ∷ []), answer_undoes_none w n r.0 c a (length w.first))) told
told_step w n (Undid r d drove) ok told = told_put w n (entry w n (Undid r d drove)) r.0 _ refl refl refl refl (grind (arith, common_steps)) (omega (arith, undo_more (n.run r.0).on d.0 (length w.first) (grind (arith, common_steps)) (ltb-true d.0 (length w.first) (grind (arith, common_steps))))) told
told_step w n (Fell d) ok told = told_turn w n (entry w n (Fell d)) refl refl (fell_more w n d (length w.first) (ltb-true d.0 (length w.first) (grind (arith, common_steps)))) told
told_step w n (Rose d) ok told = told_turn w n (entry w n (Rose d)) refl refl (rose_more w n d (length w.first) (ltb-true d.0 (length w.first) (grind (arith, common_steps)))) told
told_step w n (Doomed r cause) ok told = told_put w n (entry w n (Doomed r cause)) r.0 _ refl refl refl refl (grind (arith, common_steps)) (let none : one_if (is_some (n.run r.0).doomed) ≡ 0 = not_yet (is_some (n.run r.0).doomed) (grind (arith, common_steps)) in omega (arith, none)) told
told_step w n (Ended r Committed) ok told = told_put w n (entry w n (Ended r Committed)) r.0 _ refl refl refl refl (grind (arith, common_steps)) (let none : one_if (is_some (n.run r.0).ended) ≡ 0 = none_of (n.run r.0).ended (grind (arith, common_steps)) in omega (arith, none)) told
told_step w n (Ended r (Aborted cause)) ok told = told_put w n (entry w n (Ended r (Aborted cause))) r.0 _ refl refl refl refl (grind (arith, common_steps)) (let none : one_if (is_some (n.run r.0).ended) ≡ 0 = none_of (n.run r.0).ended (grind (arith, common_steps)) in omega (arith, none)) told

told_from : (w : Setting) (n : Reading) (h : List Entry) → IsTold w n → IsTrue (along w (may_follow w) n h) → IsTold w (fold (entry w) n h)
told_from w n [] told ok = told
told_from w n (e ∷ h) told ok = told_from w (entry w n e) h (told_step w n e (grind (arith, common_steps)) told) (grind (arith, common_steps))

sum_none : (f : ℕ → ℕ) (k : ℕ) → ((i : ℕ) → f i ≡ 0) → sum_below f k ≡ 0
unfolding sum_below
sum_none f zero none = refl
sum_none f (suc k) none = omega (arith, sum_none f k none, none k)

told_start : (w : Setting) → IsTold w (nothing_read w)
unfolding told_of undone_of one_if
told_start w =
    let undone : sum_below (λ d. one_if (unread.on d).undid) (length w.first) ≡ 0 = sum_none (λ d. 0) (length w.first) (λ d. refl) in
    let runs : sum_below (λ i. told_of (length w.first) unread) (length w.runs) ≡ 0 = sum_none (λ i. told_of (length w.first) unread) (length w.runs) (λ i. omega (arith, undone)) in
    let events : sum_below (λ d. 0) (length w.first) ≡ 0 = sum_none (λ d. 0) (length w.first) (λ d. refl) in
    omega (arith, runs, events)

-- Undos of a run

-- at most one device has this number
one_device : (c devices : ℕ) → sum_below (λ d. one_if (c == d)) devices ≤ 1
unfolding sum_below one_if
one_device c zero = omega arith
one_device c (suc k) = elim (c == k) as (λ b. (c == k) ≡ b → sum_below (λ d. one_if (c == d)) k + one_if b ≤ 1) [
  | true ↦ (λ e. let at : c ≡ k = grind (arith, common_steps) in let none : sum_below (λ d. one_if (c == d)) k ≡ 0 = others k (omega (arith, at)) in omega (arith, none))
  | false ↦ (λ e. omega (arith, one_device c k))
] refl
  where
    others : (j : ℕ) → j ≤ c → sum_below (λ d. one_if (c == d)) j ≡ 0
    others zero less = refl
    others (suc j) less = let apart : (c == j) ≡ false = grind (arith, common_steps, less) in let here : one_if (c == j) ≡ 0 = ap one_if apart in omega (arith, others j (omega (arith, less)), here)

-- commands are on no more devices than there are commands
devices_of_commands : (cs : List Command) (devices : ℕ) → sum_below (λ d. one_if (list_any (is_on d) cs)) devices ≤ length cs
unfolding one_if
devices_of_commands [] devices = let fits : sum_below (λ d. one_if false) devices ≤ devices * 0 = sum_fits (λ d. 0) devices 0 (λ d. omega arith) in omega (arith, fits)
devices_of_commands (c ∷ cs) devices =
    let split = sum_split (λ d. one_if (list_any (is_on d) (c ∷ cs))) (λ d. one_if (c.device.0 == d)) (λ d. one_if (list_any (is_on d) cs)) devices (λ d. either (c.device.0 == d) (list_any (is_on d) cs)) in
    omega (arith, split, one_device c.device.0 devices, devices_of_commands cs devices)
  where
    either : (a b : Bool) → one_if (a || b) ≤ one_if a + one_if b
    either true b = omega arith
    either false b = omega arith

sum_less : (f h : ℕ → ℕ) (k : ℕ) → ((i : ℕ) → f i ≤ h i) → sum_below f k ≤ sum_below h k
unfolding sum_below
sum_less f h zero each = omega arith
sum_less f h (suc k) each = omega (arith, sum_less f h k each, each k)

-- a run is undone where it has written, so on no more devices than it has commands
undone_fits : (w : Setting) (n : Reading) (r devices : ℕ) → Shaped w n → undone_of devices (n.run r).on ≤ length (commands_of w.runs r)
unfolding undone_of one_if
undone_fits w n r devices shaped =
    let each = sum_less (λ d. one_if ((n.run r).on d).undid) (λ d. one_if (touches w.runs r d)) devices (λ d. less ((n.run r).on d).undid (touches w.runs r d) (written d)) in
    omega (arith, each, devices_of_commands (commands_of w.runs r) devices)
  where
    written : (d : ℕ) → ((n.run r).on d).undid ≡ true → touches w.runs r d ≡ true
    written d undid = did_touches w n r d shaped ((shaped r).wrote d ((shaped r).undid d undid))

    less : (a b : Bool) → (a ≡ true → b ≡ true) → one_if a ≤ one_if b
    less true b if_true = let one : one_if b ≡ 1 = ap one_if (if_true refl) in omega (arith, one)
    less false b if_true = omega arith

-- a run tells of its arrival, its place, its answers, its doom, its undos and its end
told_fits : (w : Setting) (n : Reading) (r : ℕ) → Shaped w n → length (commands_of w.runs r) ≤ 64 → told_of (length w.first) (n.run r) ≤ 132
unfolding told_of
told_fits w n r shaped few = omega (arith, at_most_one (is_some (n.run r).arrived), at_most_one (is_some (n.run r).placed), at_most_one (is_some (n.run r).doomed), at_most_one (is_some (n.run r).ended), undone_fits w n r (length w.first) shaped, (shaped r).fits, few)

-- Failures and restarts

-- they take turns
abbrev TakeTurns : Setting → Reading → Type 0
TakeTurns w n = (d : ℕ) → n.fell d + one_if (n.up d) ≡ n.rose d + one_if (stand_at w.first d).up

fell_turns : (w : Setting) (n : Reading) (d : DeviceNo) → n.up d.0 ≡ true → TakeTurns w n → TakeTurns w (entry w n (Fell d))
unfolding one_if
fell_turns w n d up turns e = at_ (e == d.0) refl
  where
    at_ : (b : Bool) → (e == d.0) ≡ b → (if b then n.fell d.0 + 1 else n.fell e) + one_if (if b then false else n.up e) ≡ n.rose e + one_if (stand_at w.first e).up
    at_ true same =
        let here : d.0 ≡ e = grind (arith, common_steps) in
        let one : one_if (n.up d.0) ≡ 1 = ap one_if up in
        subst (λ x. n.fell d.0 + 1 + 0 ≡ n.rose x + one_if (stand_at w.first x).up) here (omega (arith, one, turns d.0))
    at_ false other = turns e

rose_turns : (w : Setting) (n : Reading) (d : DeviceNo) → n.up d.0 ≡ false → TakeTurns w n → TakeTurns w (entry w n (Rose d))
unfolding one_if
rose_turns w n d down turns e = at_ (e == d.0) refl
  where
    at_ : (b : Bool) → (e == d.0) ≡ b → n.fell e + one_if (if b then true else n.up e) ≡ (if b then n.rose d.0 + 1 else n.rose e) + one_if (stand_at w.first e).up
    at_ true same =
        let here : d.0 ≡ e = grind (arith, common_steps) in
        let none : one_if (n.up d.0) ≡ 0 = ap one_if down in
        subst (λ x. n.fell x + 1 ≡ n.rose d.0 + 1 + one_if (stand_at w.first x).up) here (omega (arith, none, turns d.0))
    at_ false other = turns e

turns_step : (w : Setting) (n : Reading) (e : Entry) → IsTrue (may_follow w n e) → TakeTurns w n → TakeTurns w (entry w n e)
turns_step w n (Arrived r m) ok turns = turns
turns_step w n (Placed r at m) ok turns = turns
turns_step w n (Did r c a) ok turns = turns
turns_step w n (Undid r d drove) ok turns = turns
turns_step w n (Fell d) ok turns = fell_turns w n d (grind (arith, common_steps)) turns
turns_step w n (Rose d) ok turns = rose_turns w n d (grind (arith, common_steps)) turns
turns_step w n (Doomed r cause) ok turns = turns
turns_step w n (Ended r e) ok turns = turns

turns_from : (w : Setting) (n : Reading) (h : List Entry) → TakeTurns w n → IsTrue (along w (may_follow w) n h) → TakeTurns w (fold (entry w) n h)
turns_from w n [] turns ok = turns
turns_from w n (e ∷ h) turns ok = turns_from w (entry w n e) h (turns_step w n e (grind (arith, common_steps)) turns) (grind (arith, common_steps))

take_turns : (w : Setting) (h : List Entry) → IsWellFormed w h → TakeTurns w (reading w h)
take_turns w h ok = turns_from w (nothing_read w) h (λ d. refl) ok

-- a device that is up as the window opens, and of which no failure is told, is counted up
pub steady_up : (w : Setting) (h : List Entry) (d : ℕ) → IsWellFormed w h → (stand_at w.first d).up ≡ true → told_falls h d ≡ 0 → (reading w h).up d ≡ true
unfolding one_if
steady_up w h d ok up steady = by_up ((reading w h).up d) (take_turns w h ok d)
  where
    by_up : (b : Bool) → (reading w h).fell d + one_if b ≡ (reading w h).rose d + one_if (stand_at w.first d).up → b ≡ true
    by_up true turns = refl
    by_up false turns =
        let none : (reading w h).fell d ≡ 0 = fell_is w h d ∙ steady in
        let one : one_if (stand_at w.first d).up ≡ 1 = ap one_if up in
        absurd (omega (arith, turns, none, one))

pub stays_up : (s : Configuration) (rounds opened d : ℕ) (held : ℕ → ℕ) → IsKeptByModel s rounds opened held → (stand_at s.setting.first d).up ≡ true → told_falls (entries_of s.history) d ≡ 0 → (read_of s).up d ≡ true
stays_up s rounds opened d held kept up steady = steady_up s.setting (entries_of s.history) d kept.history.well_formed up steady

-- what its sizes rest on: a history that is well formed, restarts that each answer a probe, and runs with few commands
pub record IsSized (s : Configuration) (rounds : ℕ) : Type 0 where
  pub well_formed : IsWellFormed s.setting (entries_of s.history)
  pub probes : (d : ℕ) → probes_of s d ≤ rounds
  pub few_commands : (r : ℕ) → length (commands_of s.setting.runs r) ≤ most_commands

pub is_sized : (s : Configuration) (rounds opened : ℕ) (held : ℕ → ℕ) → IsKeptByModel s rounds opened held → IsSized s rounds
is_sized s rounds opened held kept = record { well_formed = kept.history.well_formed; probes = kept.probes; few_commands = kept.opens.few_commands }

-- a device fails at most once more often than it comes back, and comes back at most once in a round of probes
pub sized_events : (s : Configuration) (rounds d : ℕ) → IsSized s rounds → (read_of s).fell d + (read_of s).rose d ≤ 2 * rounds + 1
sized_events s rounds d sized = omega (arith, take_turns s.setting (entries_of s.history) sized.well_formed d, sized.probes d, at_most_one (stand_at s.setting.first d).up)

pub few_events : (s : Configuration) (rounds opened : ℕ) (held : ℕ → ℕ) (d : ℕ) → IsKeptByModel s rounds opened held → (read_of s).fell d + (read_of s).rose d ≤ 2 * rounds + 1
few_events s rounds opened held d kept = sized_events s rounds d (is_sized s rounds opened held kept)

events_fit : (s : Configuration) (rounds : ℕ) → IsSized s rounds → events_told (read_of s) (length s.setting.first) ≤ most_events (length s.setting.first) rounds
events_fit s rounds sized =
    let fits : events_told (read_of s) (length s.setting.first) ≤ length s.setting.first * (2 * rounds + 1) = sum_fits (λ d. (read_of s).fell d + (read_of s).rose d) (length s.setting.first) (2 * rounds + 1) (λ d. sized_events s rounds d sized) in
    omega (arith, fits, each_device (length s.setting.first) rounds)
  where
    each_device : (k r : ℕ) → k * (2 * r + 1) ≡ 2 * (r * k) + k
    each_device zero r = omega arith
    each_device (suc k) r = omega (arith, each_device k r)

length_map : {A B : Type 0} (f : A → B) (xs : List A) → length (map f xs) ≡ length xs
length_map f [] = refl
length_map f (x ∷ xs) = ap suc (length_map f xs)

-- the history has room for what its runs and devices can tell
pub sized_history : (s : Configuration) (rounds : ℕ) → IsSized s rounds → length s.history ≤ most_entries (length s.setting.runs) (length s.setting.first) rounds
sized_history s rounds sized =
    let size : (read_of s).size ≡ length (entries_of s.history) = size_is s.setting (entries_of s.history) in
    let told : IsTold s.setting (read_of s) = told_from s.setting (nothing_read s.setting) (entries_of s.history) (told_start s.setting) sized.well_formed in
    let fits : sum_below (λ i. told_of (length s.setting.first) ((read_of s).run (suc i))) (length s.setting.runs)
    ≤ length s.setting.runs * 132 = sum_fits (λ i. told_of (length s.setting.first) ((read_of s).run (suc i))) (length s.setting.runs) 132
    (λ i. told_fits s.setting (read_of s) (suc i) (shapes s.setting (entries_of s.history) sized.well_formed) (sized.few_commands (suc i))) in
    let events : events_told (read_of s) (length s.setting.first) ≤ most_events (length s.setting.first) rounds = events_fit s rounds sized in
    let same : length (entries_of s.history) ≡ length s.history = length_map (λ k. k.entry) s.history in
    omega (arith, size, told, fits, events, same)

pub history_fits : (s : Configuration) (rounds opened : ℕ) (held : ℕ → ℕ) → IsKeptByModel s rounds opened held → length s.history ≤ most_entries (length s.setting.runs) (length s.setting.first) rounds
history_fits s rounds opened held kept = sized_history s rounds (is_sized s rounds opened held kept)

-- How long a line can grow

pub one_at_most : (b : Bool) (k : ℕ) → k ≡ cond b 1 0 → k ≤ 1
one_at_most true k is = omega (arith, is)
one_at_most false k is = omega (arith, is)

abbrev is_event_item : Item → Bool
is_event_item i = not (of_run (λ r. true) i)

none_before : (k : ℕ) → 0 + k ≡ k
none_before k = omega arith

-- a run that leaves the line is no event of it
events_without : (r : ℕ) (line : List Item) → count_by is_event_item (without r line) ≡ count_by is_event_item line
events_without r [] = refl
events_without r (Ran q ∷ is) = at_ (events_without r is) (q.0 == r)
  where
    at_ : count_by is_event_item (without r is) ≡ count_by is_event_item is → (b : Bool) → count_by is_event_item (cond (not b) (Ran q ∷ without r is) (without r is)) ≡ count_by is_event_item (Ran q ∷ is)
    at_ rest true = rest ∙ sym (count_cons is_event_item (Ran q) is ∙ none_before (count_by is_event_item is))
    at_ rest false = count_cons is_event_item (Ran q) (without r is) ∙ ap (λ k. 0 + k) rest ∙ sym (count_cons is_event_item (Ran q) is)
events_without r (Failed d k ∷ is) = count_cons is_event_item (Failed d k) (without r is) ∙ ap (λ k. 1 + k) (events_without r is) ∙ sym (count_cons is_event_item (Failed d k) is)
events_without r (Back d k ∷ is) = count_cons is_event_item (Back d k) (without r is) ∙ ap (λ k. 1 + k) (events_without r is) ∙ sym (count_cons is_event_item (Back d k) is)

-- the line has an item for each failure and each restart
abbrev HasEvents : Setting → Reading → Type 0
HasEvents w n = count_by is_event_item n.line ≡ events_told n (length w.first)

events_step : (w : Setting) (n : Reading) (e : Entry) → IsTrue (may_follow w n e) → HasEvents w n → HasEvents w (entry w n e)
events_step w n (Arrived r m) ok all = all
events_step w n (Placed r at m) ok all = count_insert is_event_item (split_of w n r.0 at m).front (split_of w n r.0 at m).back (Ran r) ∙ ap (λ k. 0 + k) (split_count w n r.0 at m is_event_item ∙ all) ∙ none_before (events_told n (length w.first))
events_step w n (Did r c a) ok all = all
events_step w n (Undid r d drove) ok all = all
events_step w n (Fell d) ok all =
    let more = fell_more w n d (length w.first) (ltb-true d.0 (length w.first) (grind (arith, common_steps))) in
    count_put_before is_event_item _ (Failed d (n.fell d.0 + 1)) n.line ∙ ap (λ k. 1 + k) all ∙ one_first (events_told n (length w.first)) ∙ sym more
  where
    one_first : (k : ℕ) → 1 + k ≡ k + 1
    one_first k = omega arith
events_step w n (Rose d) ok all =
    let more = rose_more w n d (length w.first) (ltb-true d.0 (length w.first) (grind (arith, common_steps))) in
    count_put_before is_event_item _ (Back d (n.rose d.0 + 1)) n.line ∙ ap (λ k. 1 + k) all ∙ one_first (events_told n (length w.first)) ∙ sym more
  where
    one_first : (k : ℕ) → 1 + k ≡ k + 1
    one_first k = omega arith
events_step w n (Doomed r cause) ok all = all
events_step w n (Ended r Committed) ok all = all
events_step w n (Ended r (Aborted cause)) ok all = events_without r.0 n.line ∙ all

events_from : (w : Setting) (n : Reading) (h : List Entry) → HasEvents w n → IsTrue (along w (may_follow w) n h) → HasEvents w (fold (entry w) n h)
events_from w n [] all ok = all
events_from w n (e ∷ h) all ok = events_from w (entry w n e) h (events_step w n e (grind (arith, common_steps)) all) (grind (arith, common_steps))

has_events : (w : Setting) (h : List Entry) → IsWellFormed w h → HasEvents w (reading w h)
has_events w h ok = events_from w (nothing_read w) h (sym (sum_none (λ d. 0) (length w.first) (λ d. refl))) ok

-- so many items are events, or counted of the first so many runs
abbrev ItemsFit : ℕ → List Item → Type 0
ItemsFit k line = length line ≤ count_by is_event_item line + sum_below (λ i. count_by (is_ran (suc i)) line) k

-- one event more
event_counted : (k : ℕ) (i : Item) (is : List Item) → is_event_item i ≡ true → ((r : ℕ) → is_ran r i ≡ false) → ItemsFit k is → ItemsFit k (i ∷ is)
event_counted k i is event no_run rest =
    let one : count_by is_event_item (i ∷ is) ≡ 1 + count_by is_event_item is = count_cons is_event_item i is ∙ ap (λ b. cond b 1 0 + count_by is_event_item is) event in
    let same : sum_below (λ j. count_by (is_ran (suc j)) (i ∷ is)) k ≡ sum_below (λ j. count_by (is_ran (suc j)) is) k = sum_same (λ j. count_by (is_ran (suc j)) is) (λ j. count_by (is_ran (suc j)) (i ∷ is)) k
    (λ j less. count_cons (is_ran (suc j)) i is ∙ ap (λ b. cond b 1 0 + count_by (is_ran (suc j)) is) (no_run (suc j)) ∙ none_before (count_by (is_ran (suc j)) is)) in
    omega (arith, rest, one, same)

-- where each run of the items is one of so many, each item is counted
items_counted : (k : ℕ) (line : List Item) → ((r : ℕ) → list_any (is_ran r) line ≡ true → (0 < r) × (r ≤ k)) → ItemsFit k line
items_counted k [] each = omega arith
items_counted k (Failed d j ∷ is) each = event_counted k (Failed d j) is refl (λ r. refl) (items_counted k is each)
items_counted k (Back d j ∷ is) each = event_counted k (Back d j) is refl (λ r. refl) (items_counted k is each)
items_counted k (Ran q ∷ is) each = at_run (items_counted k is (λ r there. each r (or_right (q.0 == r) (list_any (is_ran r) is) there))) q.0 refl
  where
    own : (r : ℕ) → q.0 ≡ r → (0 < r) × (r ≤ k)
    own r same = each r (itself q.0 r (list_any (is_ran r) is) same)
      where
        itself : (a b : ℕ) (c : Bool) → a ≡ b → ((a == b) || c) ≡ true
        itself a b c e = grind (arith, common_steps)

    counted : (r : ℕ) (b : Bool) → (q.0 == r) ≡ b → count_by (is_ran r) (Ran q ∷ is) ≡ cond b 1 0 + count_by (is_ran r) is
    counted r b e = count_cons (is_ran r) (Ran q) is ∙ ap (λ x. cond x 1 0 + count_by (is_ran r) is) e

    differ : (a b c : ℕ) → a ≡ suc b → c ≢ b → (a == suc c) ≡ false
    differ a b c e other = grind (arith, common_steps)

    at_run : ItemsFit k is → (r : ℕ) → q.0 ≡ r → ItemsFit k (Ran q ∷ is)
    at_run rest zero same = absurd (let first = own 0 same in omega (arith, first.0))
    at_run rest (suc i) same =
        let first = own (suc i) same in
        let more = sum_more (λ j. count_by (is_ran (suc j)) is) (λ j. count_by (is_ran (suc j)) (Ran q ∷ is)) i k
        (λ j other. let none = counted (suc j) false (differ q.0 i j same other) in omega (arith, none))
        (let one = counted (suc i) true (eq-eqb q.0 (suc i) same) in omega (arith, one))
        (omega (arith, first.1)) in
        let events : count_by is_event_item (Ran q ∷ is) ≡ 0 + count_by is_event_item is = count_cons is_event_item (Ran q) is in
        omega (arith, rest, more, events)

-- a line has at most an item for each run, each failure and each restart
pub sized_line : (s : Configuration) (rounds : ℕ) → IsSized s rounds → length (read_of s).line ≤ most_items (length s.setting.runs) (length s.setting.first) rounds
sized_line s rounds sized =
    let counted : ItemsFit (length s.setting.runs) (read_of s).line = items_counted (length s.setting.runs) (read_of s).line each in
    let few : sum_below (λ i. count_by (is_ran (suc i)) (read_of s).line) (length s.setting.runs) ≤ length s.setting.runs * 1 = sum_fits (λ i. count_by (is_ran (suc i)) (read_of s).line) (length s.setting.runs) 1 (λ i. one_at_most (stands_in ((read_of s).run (suc i))) _ (read.once (suc i))) in
    let events : HasEvents s.setting (read_of s) = has_events s.setting (entries_of s.history) sized.well_formed in
    let fits : events_told (read_of s) (length s.setting.first) ≤ most_events (length s.setting.first) rounds = events_fit s rounds sized in
    omega (arith, counted, few, events, fits)
  where
    read : IsRead s.setting (read_of s)
    read = read_facts s.setting (entries_of s.history) sized.well_formed

    each : (r : ℕ) → list_any (is_ran r) (read_of s).line ≡ true → (0 < r) × (r ≤ length s.setting.runs)
    each r there =
        let stands : stands_in ((read_of s).run r) ≡ true = sym (read.standing.line r) ∙ there in
        let placed : is_some ((read_of s).run r).placed ≡ true = grind (arith, common_steps) in
        run_within s.setting.runs r ((read.shaped r).known ((read.shaped r).arrived placed))

pub line_fits : (s : Configuration) (rounds opened : ℕ) (held : ℕ → ℕ) → IsKeptByModel s rounds opened held → length (read_of s).line ≤ most_items (length s.setting.runs) (length s.setting.first) rounds
line_fits s rounds opened held kept = sized_line s rounds (is_sized s rounds opened held kept)
