-- What the type of a hub keeps of its configuration is kept where a run joins its window.
use Rattle.hub_core.proofs.Prelude.{ActsInTurn, Along_joined, Back, Bool, Command, Configuration, ConfigurationIsKept, Entry, Failed, FollowersStand, Grips, HistoryIsKept, IsScheduled, IsTrue, IsWellFormed, Item, List, MayOpen, None, NoneAnsweredDoomed, Option, Ran, Reading, ReadsOwn, Run, RunNo, Setting, Shaped, Some, Visibility, [], ap, arith, before, commands_of, common_steps, cons_option, entries_of, false, find, first_holds, followed_by, formed_joined, if◌then◌else◌, is_device, is_live, is_probed, is_ran, is_run, is_stray, joined_clean, joined_justified, joined_scheduled, joined_strict, joined_window_order, kind_at, length, length-append, list_any, live_before, live_own, live_runs, names_values_of, nat_lt, none_strays, not, nothing_read, option_and_then, option_map, own_commands, own_run, own_shares, own_start, placed_in_order, point, read_of, reading, refl, run_in_roster, same_reading, shapes, shares, slice_get, strict_wait, subst, suc, sym, true, unwrap_or, zero, ℕ, ◌&&◌, ◌++◌, ◌+◌, ◌<◌, ◌==◌, ◌||◌, ◌∙◌, ◌∷◌, ◌≡◌, ◌≤◌}
use Rattle.device_order.specs.Summaries.{AreHomed}
use Rattle.history_book.specs.Joined.{with_joined}
use Rattle.home_types.specs.Limits.{most_commands}
use Rattle.home_types.specs.declared.modes.Visibility.TheVariants.{Eventual, Global, Partitioned, Weak}
use Rattle.hub_core.specs.Joins.{MayJoin, joined_to}
use Rattle.window_order.specs.OrderKept.{OrderIsKept}

-- The runs of the longer roster

-- a run of it is one that there was, or the one that joined
pub data OneOf (runs : List Run) (q : Run) (r : ℕ) : Type 0 where
  Own : (own : is_run runs r ≡ true) → OneOf runs q r
  New : (is : run_in_roster (runs ++ q ∷ []) r ≡ Some q) (number : r ≡ suc (length runs)) → OneOf runs q r
  NoRun : (none : run_in_roster (runs ++ q ∷ []) r ≡ None) → OneOf runs q r

one_of : (runs : List Run) (q : Run) (r : ℕ) → OneOf runs q r
one_of runs q zero = NoRun refl
one_of [] q (suc zero) = New refl refl
one_of [] q (suc (suc i)) = NoRun refl
one_of (x ∷ runs) q (suc zero) = Own refl
one_of (x ∷ runs) q (suc (suc i)) = later (one_of runs q (suc i))
  where
    later : OneOf runs q (suc i) → OneOf (x ∷ runs) q (suc (suc i))
    later (Own own) = Own own
    later (New is number) = New is (ap suc number)
    later (NoRun none) = NoRun none

-- whom a run follows that there was
own_leader : (runs : List Run) (q : Run) (r : ℕ) → is_run runs r ≡ true → followed_by (runs ++ q ∷ []) r ≡ followed_by runs r
own_leader runs q r own = ap (λ x. option_and_then (λ run. run.follows) x) (own_run runs q r own)

-- the window with the run that joined may be opened
pub may_open_joined : (w : Setting) (q : Run) (rounds opened : ℕ) → MayJoin w q → MayOpen w rounds opened → MayOpen (with_joined w q) rounds opened
may_open_joined w q rounds opened may opens = record {
  few_devices = opens.few_devices;
  few_runs = let long = length-append w.runs (q ∷ []) in let number = may.number in omega (arith, long, number);
  few_commands = λ r. few r (one_of w.runs q r);
  homed = λ r k c at. homed r (one_of w.runs q r) k c at;
  follows = λ r f leads. follows r (one_of w.runs q r) f leads;
  mode = opens.mode;
  few_rounds = opens.few_rounds;
  few_windows = opens.few_windows;
}
  where
    commands_in : (r : ℕ) → Option Run → List Command
    commands_in r x = unwrap_or (option_map (λ run. run.commands) x) []

    few : (r : ℕ) → OneOf w.runs q r → length (commands_of (w.runs ++ q ∷ []) r) ≤ most_commands
    few r (Own own) = subst (λ cs. length cs ≤ most_commands) (sym (own_commands w.runs q r own)) (opens.few_commands r)
    few r (New is number) = subst (λ x. length (commands_in r x) ≤ most_commands) (sym is) may.few_commands
    few r (NoRun none) = subst (λ x. length (commands_in r x) ≤ most_commands) (sym none) (omega arith)

    homed : (r : ℕ) → OneOf w.runs q r → (k : ℕ) (c : Command) → slice_get (commands_of (w.runs ++ q ∷ []) r) k ≡ Some c → IsTrue (is_device w c.device.0 && names_values_of (kind_at w.kinds c.device.0) c.job)
    homed r (Own own) k c at = opens.homed r k c (ap (λ cs. slice_get cs k) (sym (own_commands w.runs q r own)) ∙ at)
    homed r (New is number) k c at = may.homed k c (ap (λ x. slice_get (commands_in r x) k) (sym is) ∙ at)
    homed r (NoRun none) k c at = let nothing : slice_get [] k ≡ Some c = ap (λ x. slice_get (commands_in r x) k) (sym none) ∙ at in absurd (cc)

    follows : (r : ℕ) → OneOf w.runs q r → (f : RunNo) → followed_by (w.runs ++ q ∷ []) r ≡ Some f → IsTrue (nat_lt 0 f.0 && nat_lt f.0 r)
    follows r (Own own) f leads = opens.follows r f (sym (own_leader w.runs q r own) ∙ leads)
    follows r (New is number) f leads = let low = may.follows f (ap (λ x. option_and_then (λ run. run.follows) x) (sym is) ∙ leads) in let one = low.0 in let other = low.1 in grind (arith, common_steps)
    follows r (NoRun none) f leads = let nothing : None ≡ Some f = ap (λ x. option_and_then (λ run. run.follows) x) (sym none) ∙ leads in absurd (cc)

-- each command is on a device of the home
homed_at : (size : ℕ) (cs : List Command) → ((k : ℕ) (c : Command) → slice_get cs k ≡ Some c → c.device.0 < size) → AreHomed size cs
unfolding AreHomed
homed_at size [] each = tt
homed_at size (c ∷ cs) each = (each 0 c refl, homed_at size cs (λ k x at. each (suc k) x at))

pub all_homed : (w : Setting) (rounds opened : ℕ) → MayOpen w rounds opened → (r : ℕ) → AreHomed (length w.first) (commands_of w.runs r)
all_homed w rounds opened opens r = homed_at (length w.first) (commands_of w.runs r) (λ k c at. let home = opens.homed r k c at in grind (arith, common_steps))

-- Who stands in the line

line_own : (w : Setting) (r : ℕ) (line : List Item) → list_any (is_ran r) line ≡ true → list_any (is_stray w) line ≡ false → is_run w.runs r ≡ true
line_own w r [] stands none = absurd (cc)
line_own w r (Ran x ∷ is) stands none = by (is_run w.runs x.0) refl (λ stood rest. line_own w r is stood rest)
  where
    same : (a b : ℕ) → (a == b) ≡ true → a ≡ b
    same a b e = grind (arith, common_steps)

    at : (b : Bool) → (x.0 == r) ≡ b → is_run w.runs x.0 ≡ true → (b || list_any (is_ran r) is) ≡ true → list_any (is_stray w) is ≡ false
        → (list_any (is_ran r) is ≡ true → list_any (is_stray w) is ≡ false → is_run w.runs r ≡ true) → is_run w.runs r ≡ true
    at true e own stood rest later = subst (λ k. is_run w.runs k ≡ true) (same x.0 r e) own
    at false e own stood rest later = later stood rest

    by : (b : Bool) → is_run w.runs x.0 ≡ b → (list_any (is_ran r) is ≡ true → list_any (is_stray w) is ≡ false → is_run w.runs r ≡ true) → is_run w.runs r ≡ true
    by true own later = at (x.0 == r) refl own stands (grind (arith, common_steps)) later
    by false other later = absurd (let clash : list_any (is_stray w) (Ran x ∷ is) ≡ true = (λ k. not (other k) || list_any (is_stray w) is) in cc)
line_own w r (Failed d k ∷ is) stands none = line_own w r is stands (grind (arith, common_steps))
line_own w r (Back d k ∷ is) stands none = line_own w r is stands (grind (arith, common_steps))

joined_followers : (w : Setting) (q : Run) (n : Reading) → ReadsOwn w n → FollowersStand w n → FollowersStand (with_joined w q) n
joined_followers w q n reads stand = record {
  ended = λ r f leads placed. stand.ended r f (sym (own_leader w.runs q r ((reads.shaped r).known ((reads.shaped r).arrived placed))) ∙ leads) placed;
  behind_it = λ r f leads one other. stand.behind_it r f (sym (own_leader w.runs q r (line_own w r n.line one reads.none)) ∙ leads) one other;
}

-- For whom a run waits by its model

find_live : (w : Setting) (n : Reading) (f g : ℕ → Bool) → ((x : ℕ) → is_live n x ≡ true → f x ≡ g x) → (line : List Item) → find f (live_runs n line) ≡ find g (live_runs n line)
find_live w n f g same [] = refl
find_live w n f g same (Ran x ∷ is) = by (is_live n x.0) refl (find_live w n f g same is)
  where
    by : (b : Bool) → is_live n x.0 ≡ b → find f (live_runs n is) ≡ find g (live_runs n is) → find f (cons_option (if b then Some x.0 else None) (live_runs n is)) ≡ find g (cons_option (if b then Some x.0 else None) (live_runs n is))
    by true live rest = λ k. if same x.0 live k then Some x.0 else rest k
    by false dead rest = rest
find_live w n f g same (Failed d k ∷ is) = find_live w n f g same is
find_live w n f g same (Back d k ∷ is) = find_live w n f g same is

same_strict : (w : Setting) (q : Run) (n : Reading) (r : ℕ) → Shaped w n → is_run w.runs r ≡ true → strict_wait (with_joined w q) n r ≡ strict_wait w n r
same_strict w q n r shaped own = by_model w.mode.model
  where
    wait : Setting → Visibility → Option ℕ
    wait u Weak = None
    wait u Global = find (λ x. true) (live_before n r)
    wait u Partitioned = find (λ x. shares u.runs x r) (live_before n r)
    wait u Eventual = None

    by_model : (m : Visibility) → wait (with_joined w q) m ≡ wait w m
    by_model Weak = refl
    by_model Global = refl
    by_model Partitioned = find_live w n _ _ (λ x live. own_shares w.runs q x r (live_own w n x shaped live) own) (before r n.line)
    by_model Eventual = refl

joined_turns : (w : Setting) (q : Run) (n : Reading) (g : Grips) → Shaped w n → ActsInTurn (point w n g) → ActsInTurn (point (with_joined w q) n g)
joined_turns w q n g shaped turns r d acts = same_strict w q n r shaped (live_own w n r shaped (first_holds _ _ acts)) ∙ turns r d acts

-- The configuration

pub reads_own : (w : Setting) (h : List Entry) → IsWellFormed w h → ReadsOwn w (reading w h)
reads_own w h ok = record { shaped = shapes w h ok; none = none_strays w h ok }

pub joined_history : (s : Configuration) (q : Run) → HistoryIsKept s → HistoryIsKept (joined_to s q)
joined_history s q kept = record {
  well_formed = formed_joined s.setting q h kept.well_formed;
  moment = subst (λ n. n.moment ≤ s.moment) same kept.moment;
  clean = joined_clean s.setting q h kept.well_formed kept.clean;
  justified = joined_justified s.setting q h kept.well_formed kept.justified;
  places = Along_joined s.setting q (IsScheduled s.setting) (IsScheduled (with_joined s.setting q)) (joined_scheduled s.setting q) (nothing_read s.setting) h (own_start s.setting) kept.well_formed kept.places;
  isolated = λ strict. joined_strict s.setting q h kept.well_formed (kept.isolated strict);
  unrevoked = kept.unrevoked;
  in_order = λ fcfs. subst (λ n. IsTrue (placed_in_order n n.line)) same (kept.in_order fcfs);
  followed = subst (FollowersStand (with_joined s.setting q)) same (joined_followers s.setting q (read_of s) reads kept.followed);
  in_turn = subst (λ n. ActsInTurn (point (with_joined s.setting q) n s.grips)) same (joined_turns s.setting q (read_of s) s.grips reads.shaped kept.in_turn);
  first = subst (λ n. NoneAnsweredDoomed n s.grips) same kept.first;
}
  where
    h : List Entry
    h = entries_of s.history

    reads : ReadsOwn s.setting (read_of s)
    reads = reads_own s.setting h kept.well_formed

    same : read_of s ≡ read_of (joined_to s q)
    same = sym (same_reading s.setting q h kept.well_formed)

-- what is kept of a configuration in a model with an order
pub joined_configuration : (s : Configuration) (q : Run) (rounds opened : ℕ) (held : ℕ → ℕ) → MayJoin s.setting q → ConfigurationIsKept s rounds opened held → ConfigurationIsKept (joined_to s q) rounds opened held
joined_configuration s q rounds opened held may kept = record {
  opens = opens;
  strong = kept.strong;
  kinds = kept.kinds;
  probes = λ d. subst (λ n. n.rose d + (if is_probed s.grips d then 1 else 0) + s.probes d ≤ rounds) same (kept.probes d);
  values = kept.values;
  undos = kept.undos;
  history = joined_history s q kept.history;
  order = subst (λ n. OrderIsKept (point (with_joined s.setting q) n s.grips) held) same
      (joined_window_order s.setting q (read_of s) s.grips held reads (all_homed (with_joined s.setting q) rounds opened opens) kept.order);
}
  where
    opens : MayOpen (with_joined s.setting q) rounds opened
    opens = may_open_joined s.setting q rounds opened may kept.opens

    reads : ReadsOwn s.setting (read_of s)
    reads = reads_own s.setting (entries_of s.history) kept.history.well_formed

    same : read_of s ≡ read_of (joined_to s q)
    same = sym (same_reading s.setting q (entries_of s.history) kept.history.well_formed)
