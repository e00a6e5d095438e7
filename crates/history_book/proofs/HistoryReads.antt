-- A history beside what is fixed in its window: as it opens, with one entry more, where a run joins, and what is known of a run.
use Rattle.history_book.proofs.Prelude.{Answer, Arrived, Bool, Did, Doomed, End, Ended, Entry, Err, Fell, HistoryState, IsReadWith, IsTrue, IsWellFormed, Kept, List, None, Ok, OnErr, OnOk, Option, Placed, Reading, Result, Rose, Run, RunNo, RunProgress, Setting, Some, Undid, [], ap, append_assoc, arith, command_at, commands_of, common_steps, entries_of, entry, false, get_or-set_at, get_or-set_other, if◌then◌else◌, is_none, is_run, is_some, kept_by, length, length-append, length-set, may_follow, most_runs, next_of, not, nothing_read, progress_in, progress_of, read_in, reading, refl, register_after, replicate, slice_get, slice_get_within, slice_index_or, slice_set, subst, suc, sym, true, with_entry, with_joined, zero, ℕ, ◌++◌, ◌+◌, ◌-◌, ◌<◌, ◌==◌, ◌∙◌, ◌∷◌, ◌≡◌, ◌≢◌, ◌≤◌}
use Rattle.history_book.proofs.JoinedReads.{formed_joined, same_reading}
use Rattle.history_book.proofs.Shapes.{shapes}
use Rattle.history_book.proofs.Snoc.{each_at, each_more, entries_on, put_keeps, reading_more}
use Rattle.history_book.proofs.Told.{progress_is}

-- a run has a number from 1 on, and a place in the roster
pub run_place : (runs : List Run) (r : ℕ) → IsTrue (is_run runs r) → (r ≡ suc (r - 1)) × (r - 1 < length runs)
run_place runs zero is = absurd (cc)
run_place runs (suc i) is =
    let same : i ≡ suc i - 1 = omega arith in
    (ap (λ n. suc n) same, rw (← same) (within (slice_get runs i) refl is))
  where
    within : (o : Option Run) → slice_get runs i ≡ o → IsTrue (is_some o) → i < length runs
    within None at is = absurd (cc)
    within (Some run) at is = slice_get_within runs i run at

-- .. and each place of the roster is one of a run
pub place_run : (runs : List Run) (i : ℕ) → i < length runs → IsTrue (is_run runs (suc i))
place_run [] i within = let none : ⊥ = omega (arith, within) in absurd none
place_run (run ∷ runs) zero within = refl
place_run (run ∷ runs) (suc i) within = place_run runs i (omega (arith, within))

-- As the window opens

nothing_at : (n r : ℕ) → slice_index_or (replicate n zero) r zero ≡ zero
nothing_at zero r = refl
nothing_at (suc n) zero = refl
nothing_at (suc n) (suc r) = nothing_at n r

pub opened_read : (w : Setting) (h : List Kept) (n : ℕ) → h ≡ [] → length w.runs ≤ most_runs → (0 < length w.runs → 0 < n) → IsReadWith (record { setting = w; history = h; spare = n }) (replicate (suc most_runs) 0)
opened_read w h n none few room = subst (λ x. IsReadWith (record { setting = w; history = x; spare = n }) (replicate (suc most_runs) 0)) (sym none) (record {
  few = few;
  room = λ some. let more = room some in omega (arith, more);
  well_formed = refl;
  size = refl;
  registers_are = λ r within. nothing_at (suc most_runs) r;
})

-- With one entry more

read_more : (w : Setting) (h g : List Kept) (k : Kept) → g ≡ h ++ k ∷ [] → reading w (entries_of g) ≡ entry w (reading w (entries_of h)) k.entry
read_more w h g k more = ap (λ x. reading w (entries_of x)) more ∙ ap (reading w) (entries_on h k.maker (k.entry ∷ [])) ∙ reading_more w (entries_of h) k.entry

formed_more : (w : Setting) (h g : List Kept) (k : Kept) → g ≡ h ++ k ∷ [] → IsTrue (may_follow w (reading w (entries_of h)) k.entry) → IsWellFormed w (entries_of h) → IsWellFormed w (entries_of g)
formed_more w h g k more follows formed =
    subst (λ es. IsWellFormed w es) (sym (ap (λ x. entries_of x) more ∙ entries_on h k.maker (k.entry ∷ []))) (each_more w (may_follow w) (entries_of h) k.entry formed follows)

-- where each register is then that of its run
read_with : (w : Setting) (h g : List Kept) (n m : ℕ) (k : Kept) (registers new : List ℕ) → g ≡ h ++ k ∷ [] → IsTrue (may_follow w (reading w (entries_of h)) k.entry) → length new ≡ length registers
    → ((r : ℕ) → r < length registers → slice_index_or new r 0 ≡ ((entry w (reading w (entries_of h)) k.entry).run r).register)
    → IsReadWith (record { setting = w; history = h; spare = n }) registers → IsReadWith (record { setting = w; history = g; spare = m }) new
read_with w h g n m k registers new more follows long each read = record {
  few = read.few;
  room = λ some. let longer : length g ≡ length h + 1 = rw more (grind (arith, common_steps)) in omega (arith, longer);
  well_formed = formed_more w h g k more follows read.well_formed;
  size = long ∙ read.size;
  registers_are = λ r within. each r (subst (λ x. r < x) long within) ∙ ap (λ (x : Reading). (x.run r).register) (sym (read_more w h g k more));
}

-- an answer of a run
pub answer_read : (w : Setting) (h g : List Kept) (n m maker c : ℕ) (r : RunNo) (a : Answer) (registers : List ℕ) → g ≡ h ++ record { maker = maker; entry = Did r c a } ∷ []
    → IsTrue (may_follow w (reading w (entries_of h)) (Did r c a)) → IsReadWith (record { setting = w; history = h; spare = n }) registers
    → IsReadWith (record { setting = w; history = g; spare = m }) (slice_set registers r.0 (register_after (command_at w.runs r.0 c).job a ((reading w (entries_of h)).run r.0).register))
answer_read w h g n m maker c r a registers more follows read =
    read_with w h g n m (record { maker = maker; entry = Did r c a }) registers (slice_set registers r.0 new) more follows (length-set registers r.0 new) (λ q within. each q within (q == r.0) refl) read
  where
    new : ℕ
    new = register_after (command_at w.runs r.0 c).job a ((reading w (entries_of h)).run r.0).register

    then' : Reading
    then' = entry w (reading w (entries_of h)) (Did r c a)

    told : (q : ℕ) (b : Bool) → (q == r.0) ≡ b → (then'.run q).register ≡ (if b then new else ((reading w (entries_of h)).run q).register)
    told q true same = grind (arith, common_steps)
    told q false other = grind (arith, common_steps)

    each : (q : ℕ) → q < length registers → (b : Bool) → (q == r.0) ≡ b → slice_index_or (slice_set registers r.0 new) q 0 ≡ (then'.run q).register
    each q within true is =
        let same : q ≡ r.0 = grind (arith, common_steps) in
        get_or-set_at registers r.0 q new 0 same (subst (λ x. x < length registers) same within) ∙ sym (told q true is)
    each q within false is =
        let other : q ≢ r.0 = grind (arith, common_steps) in
        get_or-set_other registers r.0 q new 0 other ∙ read.registers_are q within ∙ sym (told q false is)

-- an entry that is no answer
pub other_read : (w : Setting) (h g : List Kept) (n m maker : ℕ) (e : Entry) (registers : List ℕ) → ((r : RunNo) (c : ℕ) (a : Answer) → e ≢ Did r c a) → g ≡ h ++ record { maker = maker; entry = e } ∷ []
    → IsTrue (may_follow w (reading w (entries_of h)) e) → IsReadWith (record { setting = w; history = h; spare = n }) registers → IsReadWith (record { setting = w; history = g; spare = m }) registers
other_read w h g n m maker e registers silent more follows read =
    read_with w h g n m (record { maker = maker; entry = e }) registers registers more follows refl (λ q within. read.registers_are q within ∙ sym (same e silent q)) read
  where
    before : Reading
    before = reading w (entries_of h)

    same : (x : Entry) → ((r : RunNo) (c : ℕ) (a : Answer) → x ≢ Did r c a) → (q : ℕ) → ((entry w before x).run q).register ≡ (before.run q).register
    same (Arrived r t) no' q = put_keeps (λ o. o.register) before.run r.0 _ refl q
    same (Placed r at t) no' q = put_keeps (λ o. o.register) before.run r.0 _ refl q
    same (Did r c a) no' q = absurd (no' r c a refl)
    same (Undid r d drove) no' q = put_keeps (λ o. o.register) before.run r.0 _ refl q
    same (Fell d) no' q = refl
    same (Rose d) no' q = refl
    same (Doomed r cause) no' q = put_keeps (λ o. o.register) before.run r.0 _ refl q
    same (Ended r end) no' q = put_keeps (λ o. o.register) before.run r.0 _ refl q

-- Where a run joins the window

-- the window has one run more, and there is room
joined_read : (w : Setting) (q : Run) (h : List Kept) (n m : ℕ) (registers : List ℕ) → length w.runs < most_runs → 0 < m → IsReadWith (record { setting = w; history = h; spare = n }) registers
    → IsReadWith (record { setting = with_joined w q; history = h; spare = m }) registers
joined_read w q h n m registers low some read = record {
  few = let longer : length (w.runs ++ q ∷ []) ≡ length w.runs + 1 = length-append w.runs (q ∷ []) in omega (arith, longer, low);
  room = λ runs. omega (arith, some);
  well_formed = formed_joined w q (entries_of h) read.well_formed;
  size = read.size;
  registers_are = λ r within. read.registers_are r within ∙ ap (λ (x : Reading). (x.run r).register) (sym (same_reading w q (entries_of h) read.well_formed));
}

-- it has the runs that it had
roomier_read : (w : Setting) (h : List Kept) (n m : ℕ) (registers : List ℕ) → 0 < m → IsReadWith (record { setting = w; history = h; spare = n }) registers → IsReadWith (record { setting = w; history = h; spare = m }) registers
roomier_read w h n m registers some read = record {
  few = read.few;
  room = λ runs. omega (arith, some);
  well_formed = read.well_formed;
  size = read.size;
  registers_are = read.registers_are;
}

-- .. by what the call answers that lets the run join the roster
pub join_read : {T E : Type 0} (result : Result T E) (w : Setting) (q : Run) (runs : List Run) (h g : List Kept) (n m : ℕ) (registers : List ℕ) → OnOk result (runs ≡ w.runs ++ q ∷ []) → OnErr result (runs ≡ w.runs) → g ≡ h
    → length w.runs < most_runs → 0 < m → IsReadWith (record { setting = w; history = h; spare = n }) registers → IsReadWith (record { setting = record w { runs = runs }; history = g; spare = m }) registers
join_read (Ok t) w q runs h g n m registers more none same low some read =
    rw (more, same) (joined_read w q h n m registers low some read)
join_read (Err e) w q runs h g n m registers more none same low some read =
    rw (none, same) (roomier_read w h n m registers some read)

-- What is known of a run

pub known_is : (s : HistoryState) (registers : List ℕ) (r : ℕ) (p : RunProgress) → IsReadWith s registers → p ≡ progress_in s.history r → p ≡ progress_of ((read_in s).run r)
known_is s registers r p read known = known ∙ progress_is s.setting s.history r read.well_formed

-- a run of the window has a low number, and there is an entry or room for one
pub run_low : (s : HistoryState) (registers : List ℕ) (r : ℕ) → IsReadWith s registers → IsTrue (is_run s.setting.runs r) → (r ≤ most_runs) × (0 < length s.history + s.spare)
run_low s registers r read run =
    let place = run_place s.setting.runs r run in
    let same = place.0 in
    let within = place.1 in
    let all = read.few in
    let some : 0 < length s.setting.runs = omega (arith, within) in
    (omega (arith, same, within, all), read.room some)

-- the number of its next command is no greater than that of its commands
pub next_low : (s : HistoryState) (registers : List ℕ) (r : ℕ) → IsReadWith s registers → next_of (read_in s) r ≤ length (commands_of s.setting.runs r)
next_low s registers r read = (shapes s.setting (entries_of s.history) read.well_formed r).fits

-- a register stands in its place
pub register_place : (s : HistoryState) (registers : List ℕ) (r : ℕ) → IsReadWith s registers → IsTrue (is_run s.setting.runs r) → r < length registers
register_place s registers r read run = let place = run_place s.setting.runs r run in let same = place.0 in let within = place.1 in let all = read.few in let size = read.size in omega (arith, same, within, all, size)

-- the runs up to here have ended, and this one
pub unended : (o : Option End) (b : Bool) → is_some o ≡ not b → is_none o ≡ b
unended None true e = refl
unended None false e = absurd (cc)
unended (Some x) true e = absurd (cc)
unended (Some x) false e = refl

-- What is appended

-- these entries of a step may be appended, one after another
abbrev pub MayTake : HistoryState → ℕ → List Entry → Type 0
MayTake s maker es = IsWellFormed s.setting (entries_of (s.history ++ kept_by maker es))

-- the first one may follow
pub takes_first : (s : HistoryState) (maker : ℕ) (e : Entry) (es : List Entry) → MayTake s maker (e ∷ es) → IsTrue (may_follow s.setting (read_in s) e)
takes_first s maker e es takes = each_at s.setting (may_follow s.setting) (nothing_read s.setting) (entries_of s.history) e es (subst (IsWellFormed s.setting) (entries_on s.history maker (e ∷ es)) takes)

-- .. and then the others
pub takes_rest : (s : HistoryState) (maker : ℕ) (e : Entry) (es : List Entry) → MayTake s maker (e ∷ es) → MayTake (with_entry s maker e) maker es
takes_rest s maker e es takes = subst (λ h. IsWellFormed s.setting (entries_of h)) (sym (append_assoc s.history (kept_by maker (e ∷ [])) (kept_by maker es))) takes
