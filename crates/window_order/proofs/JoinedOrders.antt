-- The order of a window is kept where one run more joins the window: the invariant of its devices and runs, and the lineage table, which needs room for the accesses of the new run.
use Rattle.window_order.proofs.Prelude.{Acquired, AnswersFit, AreHomed, Back, Bool, Command, Commands, DeviceInvariant, Failed, Free, Grip, Grips, Item, Kind, LineageIsKept, LineageState, List, NoCommandFails, None, Option, OrderIsKept, Point, Probes, Purpose, Ran, Reading, ReadsOwn, Released, Run, RunInvariant, RunState, Scheduled, Setting, Shaped, Some, Status, TableIsKept, Undoes, Used, WindowInvariant, [], access_read, accesses_along, accesses_read, answered_commands, ap, arith, blank, command_grip, commands_of, commits_write, device_record, did, entries, entry_if, entry_of, false, first_holds, grips_command, held_by, held_for, if◌then◌else◌, is_committed, is_committing, is_doomed, is_live, is_none, is_on, is_run, is_some, is_stray, joined_grips, length, lineage_at, list_any, live_own, masked, no_command, not, option_map, own_commands, own_passed, own_pends, own_touches, paired, passed_by, pends, point, refl, run_state, slice_index_or, status_by_answers, subst, suc, sym, touches, true, unplaced_among, unwrap_or, usage, uses, uses_device, window_of, with_order_entry, ℕ, ◌&&◌, ◌++◌, ◌+◌, ◌<◌, ◌==◌, ◌||◌, ◌∙◌, ◌∷◌, ◌≡◌, ◌≤◌}
use Rattle.history_book.specs.Joined.{with_joined}
use Rattle.window_order.specs.Joins.{HasMoreRoom}

none_first : (a b : Bool) → (a || b) ≡ false → a ≡ false
none_first true b e = e
none_first false b e = refl

none_later : (a b : Bool) → (a || b) ≡ false → b ≡ false
none_later true b e = absurd (cc)
none_later false b e = e

own_of : (b : Bool) → not b ≡ false → b ≡ true
own_of true e = refl
own_of false e = absurd (cc)

-- The states of the runs

own_state : (w : Setting) (q : Run) (n : Reading) (g : Grips) (r : ℕ) → is_run w.runs r ≡ true → run_state (point (with_joined w q) n g) r ≡ run_state (point w n g) r
own_state w q n g r own = λ k. record {
  commands = own_commands w.runs q r own k;
  answers = (n.run r).answers;
  committed = is_committed n r;
  doomed = is_doomed n r;
  undid = λ d. ((n.run r).on d).undid;
  grip = λ d. same_held (g d) k;
}
  where
    same_for : (x : Purpose) → held_for (with_joined w q) r x ≡ held_for w r x
    same_for (Commands c) = λ k. command_grip (slice_index_or (own_commands w.runs q r own k) c no_command).job
    same_for (Undoes v) = refl
    same_for (Probes v) = refl

    same_held : (o : Option Grip) → held_by (with_joined w q) r o ≡ held_by w r o
    same_held None = refl
    same_held (Some grip) = λ k. if grip.maker == r then same_for grip.purpose k else Free

-- nothing has happened to a run that is none of the window
pub record IsIdle (n : Reading) (r : ℕ) : Type 0 where
  pub answers : (n.run r).answers ≡ []
  pub uncommitted : is_committed n r ≡ false
  pub undone : (d : ℕ) → did n r d ≡ false

pub stranger_idle : (w : Setting) (n : Reading) (r : ℕ) → Shaped w n → is_run w.runs r ≡ false → IsIdle n r
stranger_idle w n r shaped none = record {
  answers = (shaped r).unanswered unplaced;
  uncommitted = λ k. unwrap_or (option_map is_committing ((shaped r).going unplaced k)) false;
  undone = λ d. λ k. is_some ((shaped r).clear unplaced d k).view;
}
  where
    clash : true ≡ false → ⊥
    clash h = cc

    by : (b : Bool) → is_some (n.run r).placed ≡ b → not b ≡ true
    by true e = absurd (clash (sym ((shaped r).known ((shaped r).arrived e)) ∙ none))
    by false e = refl

    unplaced : is_none (n.run r).placed ≡ true
    unplaced = by (is_some (n.run r).placed) refl

idle_run : (kinds : List Kind) (size : ℕ) (s : RunState) → s.answers ≡ [] → s.committed ≡ false → AreHomed size s.commands → RunInvariant kinds size s
unfolding paired AnswersFit NoCommandFails
idle_run kinds size s no_answer going homed = record {
  homed = homed;
  size = subst (λ xs. length xs ≤ length s.commands) (sym no_answer) (omega arith);
  fit = λ e. subst (AnswersFit kinds blank) (sym none_answered) tt;
  none_fails = λ e. subst NoCommandFails (sym none_answered) tt;
  whole = λ e. absurd (clash (sym e ∙ going));
}
  where
    clash : true ≡ false → ⊥
    clash h = cc

    with_none : (cs : List Command) → paired cs [] ≡ []
    with_none [] = refl
    with_none (c ∷ cs) = refl

    none_answered : answered_commands s ≡ []
    none_answered = ap (paired s.commands) no_answer ∙ with_none s.commands

joined_run : (w : Setting) (q : Run) (n : Reading) (g : Grips) (r : ℕ) → Shaped w n → AreHomed (length w.first) (commands_of (with_joined w q).runs r)
    → RunInvariant w.kinds (length w.first) (run_state (point w n g) r) → RunInvariant w.kinds (length w.first) (run_state (point (with_joined w q) n g) r)
joined_run w q n g r shaped homed kept = by (is_run w.runs r) refl
  where
    by : (b : Bool) → is_run w.runs r ≡ b → RunInvariant w.kinds (length w.first) (run_state (point (with_joined w q) n g) r)
    by true own = subst (RunInvariant w.kinds (length w.first)) (sym (own_state w q n g r own)) kept
    by false none = let idle = stranger_idle w n r shaped none in idle_run w.kinds (length w.first) (run_state (point (with_joined w q) n g) r) idle.answers idle.uncommitted homed

-- The order on each device

same_entries : (w : Setting) (q : Run) (n : Reading) (g : Grips) (d : ℕ) (line : List Item) → list_any (is_stray w) line ≡ false
    → entries w.kinds (run_state (point (with_joined w q) n g)) d line ≡ entries w.kinds (run_state (point w n g)) d line
unfolding entries
same_entries w q n g d [] none = refl
same_entries w q n g d (i ∷ is) none = λ k. with_order_entry (same_one i (none_first _ _ none) k) (same_entries w q n g d is (none_later _ _ none) k)
  where
    same_one : (i : Item) → is_stray w i ≡ false → entry_of w.kinds (run_state (point (with_joined w q) n g)) d i ≡ entry_of w.kinds (run_state (point w n g)) d i
    same_one (Ran r) own = λ k. entry_if (uses_device d (own_state w q n g r.0 (own_of _ own) k).commands) (Used (usage w.kinds (own_state w q n g r.0 (own_of _ own) k) d))
    same_one (Failed e l) own = refl
    same_one (Back e l) own = refl

joined_window : (w : Setting) (q : Run) (n : Reading) (g : Grips) (held : ℕ → ℕ) → ReadsOwn w n → ((r : ℕ) → AreHomed (length w.first) (commands_of (with_joined w q).runs r))
    → WindowInvariant w.kinds (window_of (point w n g) held) → WindowInvariant w.kinds (window_of (point (with_joined w q) n g) held)
joined_window w q n g held reads homed kept = record {
  devices = λ d lt. subst DeviceInvariant (λ k. record (device_record w.kinds (window_of (point w n g) held) d) { order = sym (same_entries w q n g d n.line reads.none) k }) (kept.devices d lt);
  runs = λ r. joined_run w q n g r reads.shaped (homed r) (kept.runs r);
  commands = λ r. refl;
  events = kept.events;
}

-- what is kept of the order is kept
pub joined_window_order : (w : Setting) (q : Run) (n : Reading) (g : Grips) (held : ℕ → ℕ) → ReadsOwn w n → ((r : ℕ) → AreHomed (length w.first) (commands_of (with_joined w q).runs r))
    → OrderIsKept (point w n g) held → OrderIsKept (point (with_joined w q) n g) held
joined_window_order w q n g held reads homed kept = record {
  grips = joined_grips w q n g reads.shaped kept.grips;
  window = joined_window w q n g held reads homed kept.window;
  history = kept.history;
}

-- The table

same_uses : (w : Setting) (q : Run) (n : Reading) (d : ℕ) → Shaped w n → (r : ℕ) → uses (with_joined w q) n d r ≡ uses w n d r
same_uses w q n d shaped r =
    (λ k. masked (is_live n r) _ _ (λ live. own_touches w.runs q r d (live_own w n r shaped live)) k && not (passed_by (with_joined w q) n r d))
    ∙ masked (is_live n r && touches w.runs r d) _ _ (λ both. λ k. not (own_passed w q n r d (live_own w n r shaped (first_holds _ _ both)) k))

same_status : (w : Setting) (q : Run) (n : Reading) (g : Grips) (d : ℕ) → Shaped w n → (r : ℕ) → status_by_answers (point (with_joined w q) n g) r d ≡ status_by_answers (point w n g) r d
same_status w q n g d shaped r = by (is_run w.runs r) refl
  where
    status : Bool → Bool → Status
    status some work = if some then (if work then Acquired else Released) else Scheduled

    work : Setting → Bool
    work u = (not (is_doomed n r) && pends u n r d) || grips_command g r d

    by : (b : Bool) → is_run w.runs r ≡ b → status (did n r d) (work (with_joined w q)) ≡ status (did n r d) (work w)
    by true own = λ k. status (did n r d) ((not (is_doomed n r) && own_pends w q n r d own k) || grips_command g r d)
    by false none = let idle = stranger_idle w n r shaped none in ap (λ b. status b (work (with_joined w q))) (idle.undone d) ∙ ap (λ b. status b (work w)) (sym (idle.undone d))

same_access : (w : Setting) (q : Run) (n : Reading) (g : Grips) (passed : ℕ → Bool) (d : ℕ) → Shaped w n → (r : ℕ) → access_read (point (with_joined w q) n g) passed d r ≡ access_read (point w n g) passed d r
same_access w q n g passed d shaped r = λ k. record (access_read (point w n g) passed d r) { status = if passed r then Released else same_status w q n g d shaped r k }

same_accesses : (w : Setting) (q : Run) (n : Reading) (g : Grips) (passed : ℕ → Bool) (d : ℕ) → Shaped w n → accesses_read (point (with_joined w q) n g) passed d n.line ≡ accesses_read (point w n g) passed d n.line
same_accesses w q n g passed d shaped = λ k. accesses_along (λ r. same_uses w q n d shaped r k) (commits_write n d) (λ r. same_access w q n g passed d shaped r k) n.line

-- one access more may come, where the new run uses the device
unplaced_more : (n : Reading) (d r : ℕ) (runs : List Run) (q : Run) → unplaced_among n d r (runs ++ q ∷ []) ≤ unplaced_among n d r runs + (if list_any (is_on d) q.commands then 1 else 0)
unplaced_more n d r [] q = last (list_any (is_on d) q.commands) (is_none (n.run r).placed)
  where
    last : (on free : Bool) → (if on && free then 1 else 0) + 0 ≤ 0 + (if on then 1 else 0)
    last true true = omega arith
    last true false = omega arith
    last false free = omega arith
unplaced_more n d r (run ∷ runs) q = let rest = unplaced_more n d (suc r) runs q in omega (arith, rest)

pub joined_lineage : (w : Setting) (q : Run) (n : Reading) (g : Grips) (d : ℕ) (s : LineageState) (room : ℕ) → Shaped w n
    → s.room + (if list_any (is_on d) q.commands then 1 else 0) ≤ room → LineageIsKept (point w n g) d s → LineageIsKept (point (with_joined w q) n g) d (record s { room = room })
joined_lineage w q n g d s room shaped enough kept = record {
  passed = kept.passed;
  may_pass = kept.may_pass;
  committed = kept.committed;
  accesses = kept.accesses ∙ sym (same_accesses w q n g kept.passed d shaped);
  room = let old = kept.room in let more = unplaced_more n d 1 w.runs q in omega (arith, old, more, enough);
  up = kept.up;
}

-- .. and with more room the table is kept
pub roomier_table : (p : Point) (table later : List LineageState) → HasMoreRoom table later → TableIsKept p table → TableIsKept p later
roomier_table p table later roomy kept = record {
  devices = roomy.size ∙ kept.devices;
  each = λ d lt. subst (LineageIsKept p d) (sym (roomy.rest d (here d lt))) (roomier d (lineage_at table d) (roomy.room d) (roomy.more d (here d lt)) (kept.each d lt));
}
  where
    here : (d : ℕ) → d < length p.setting.first → d < length table
    here d lt = let size = kept.devices in omega (arith, lt, size)

    roomier : (d : ℕ) (s : LineageState) (room : ℕ) → s.room ≤ room → LineageIsKept p d s → LineageIsKept p d (record s { room = room })
    roomier d s room enough is = record {
      passed = is.passed;
      may_pass = is.may_pass;
      committed = is.committed;
      accesses = is.accesses;
      room = let old = is.room in omega (arith, old, enough);
      up = is.up;
    }
