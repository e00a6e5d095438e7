-- Where an event of a device stands, and which run a failure loses, as the code reads it off the line, the table and the dooms of the history.
use Rattle.device_order.specs.Usages.{is_up}
use Rattle.failure_serialization.proofs.Cited.{lost_acquired}
use Rattle.failure_serialization.specs.Events.{event_place, is_sound, is_up_view, lost_run, waits as waits_by, place_or_end}
use Rattle.hub_core.proofs.Prelude.{Bool, Cause, Grip, Grips, IsRead, IsWellFormed, Kept, LineageIsKept, LineageState, List, Mark, MarksAreKept, None, Option, Point, Probes, Reading, RunNo, Setting, Some, access_read, along_none, and-false, ap, arith, awaits_there, commits_write, common_steps, did, doom_is, each_found, entries_of, eqb-true, event_before, event_last, event_place_of, false, find, grips_command, has_access, if◌then◌else◌, is_acquired, is_command, is_device, is_doomed, is_live, is_none, is_of, is_scheduled, is_some, is_weak, length, length-map, list_any, live_run, live_runs, live_runs_live, live_stands, lost_by, lost_read, not, option_map, pends, point, reading, refl, run_stands, status_by_answers, sym, three, true, unwrap_or, uses, waiting_read, ℕ, ◌&&◌, ◌==◌, ◌||◌, ◌∙◌, ◌≡◌}
use Rattle.history_book.specs.Books.{doom_of}
use Rattle.home_types.specs.declared.commands.View.TheVariants.{Down, Up}
use Rattle.home_types.specs.declared.commands.View.{View}
use Rattle.lineage_table.specs.declared.accesses.Access.{Access}
use Rattle.lineage_table.specs.declared.accesses.Status.TheVariants.{Acquired, Released, Scheduled}
use Rattle.lock_leasing.proofs.Cited.{run_place}
use Rattle.window_order.specs.LostRuns.{first_waiting_run, is_access_waiting, is_lost_access}
use Rattle.window_order.specs.OrderKept.{OrderIsKept}

-- no access is of no run
pub none_of_detector : (p : Point) (d : ℕ) (s : LineageState) → IsRead p.setting p.reading → LineageIsKept p d s → has_access 0 s.accesses ≡ false
none_of_detector p d s read own = ap (has_access 0) own.accesses ∙ along_none (uses p.setting p.reading d) (commits_write p.reading d) (access_read p own.passed d) (is_of 0) p.reading.line (λ x there used. by_number x (x == 0) refl used)
  where
    by_number : (x : ℕ) (b : Bool) → (x == 0) ≡ b → uses p.setting p.reading d x ≡ true → (x == 0) ≡ false
    by_number x true e used = absurd (no_run (ap (is_live p.reading) (sym (eqb-true x 0 e)) ∙ (three (is_live p.reading x) _ _ used).0))
      where
        no_run : is_live p.reading 0 ≡ true → ⊥
        no_run live = let run = live_run p.setting p.reading 0 read live in absurd (cc)
    by_number x false e used = e

-- the dooms of the history are those of its reading
pub sound_is : (w : Setting) (h : List Kept) (r : ℕ) → IsWellFormed w (entries_of h) → is_none (doom_of h r) ≡ not (is_doomed (reading w (entries_of h)) r)
sound_is w h r formed = ap (λ (o : Option Cause). is_none o) (doom_is w h r formed) ∙ turned ((reading w (entries_of h)).run r).doomed
  where
    turned : (o : Option Cause) → is_none o ≡ not (is_some o)
    turned None = refl
    turned (Some c) = refl

-- the line has as many items as its marks
pub line_size : (n : Reading) (g : Grips) (marks : List Mark) → MarksAreKept n g marks → length marks ≡ length n.line
line_size n g marks lines = sym (length-map marks (λ (x : Mark). x.item)) ∙ ap length lines.items

-- the event of the device stands where the definition puts it
pub event_told : (w : Setting) (n : Reading) (g : Grips) (held : ℕ → ℕ) (d : ℕ) (h : List Kept) (s : LineageState) (marks : List Mark) → IsRead w n → is_weak w.mode ≡ false → is_device w d ≡ true → OrderIsKept (point w n g) held → LineageIsKept (point w n g) d s → MarksAreKept n g marks
    → ((r : ℕ) → is_none (doom_of h r) ≡ not (is_doomed n r)) → event_place h None s.accesses marks ≡ event_place_of w n d
event_told w n g held d h s marks read strong device order own lines sound = ap (λ o. place_or_end (option_map (λ (x : Access). x.run) o) marks) same_found ∙ by_found (find (is_access_waiting (is_doomed n)) s.accesses) refl
  where
    unnamed : (a b : Bool) → ((a || false) && b) ≡ (a && b)
    unnamed a b = grind (arith, common_steps)

    same_found : find (waits_by h None) s.accesses ≡ find (is_access_waiting (is_doomed n)) s.accesses
    same_found = λ i. find (λ (x : Access). (unnamed (is_scheduled x.status) (is_sound h x) ∙ ap (λ b. is_scheduled x.status && b) (sound x.run.0)) i) s.accesses

    awaited : find (awaits_there w n d) (live_runs n n.line) ≡ first_waiting_run (is_doomed n) s
    awaited = waiting_read w n g held d s read strong device order own

    by_found : (o : Option Access) → find (is_access_waiting (is_doomed n)) s.accesses ≡ o → place_or_end (option_map (λ (x : Access). x.run) o) marks ≡ event_place_of w n d
    by_found None e = line_size n g marks lines ∙ sym (event_last w n d (awaited ∙ ap (option_map (λ (x : Access). x.run.0)) e))
    by_found (Some x) e =
        let first : find (awaits_there w n d) (live_runs n n.line) ≡ Some x.run.0 = awaited ∙ ap (option_map (λ (y : Access). y.run.0)) e in
        let live : is_live n x.run.0 ≡ true = (each_found (λ r. is_live n r ≡ true) (awaits_there w n d) (live_runs n n.line) x.run.0 (live_runs_live n n.line) first).0 in
        ap (λ o. unwrap_or o (length marks)) (run_place x.run.0 n.line marks (sym (run_stands n g x.run.0 marks lines) ∙ live_stands w n g x.run.0 marks read live lines) lines.items) ∙ sym (event_before w n d x.run.0 first)

-- The run that is lost

-- an acquired access on a device that is out for no command is of a run that is not doomed
unacquired : (w : Setting) (n : Reading) (g : Grips) (passed : ℕ → Bool) (d r : ℕ) → grips_command g r d ≡ false → is_doomed n r ≡ true → is_acquired (if passed r then Released else status_by_answers (point w n g) r d) ≡ false
unacquired w n g passed d r free doomed = by_tests (passed r) (did n r d) (is_doomed n r) (pends w n r d) (grips_command g r d) doomed free
  where
    by_tests : (p v x l c : Bool) → x ≡ true → c ≡ false → is_acquired (if p then Released else (if v then (if (not x && l) || c then Acquired else Released) else Scheduled)) ≡ false
    by_tests true v x l c h k = refl
    by_tests false false x l c h k = refl
    by_tests false true false l c h k = absurd (cc)
    by_tests false true true l true h k = absurd (cc)
    by_tests false true true l false h k = refl

-- the run that the code finds is the one of the definition, where the device is out for no command
pub lost_told : (p : Point) (held : ℕ → ℕ) (d : ℕ) (h : List Kept) (s : LineageState) → IsRead p.setting p.reading → is_weak p.setting.mode ≡ false → is_device p.setting d ≡ true → ((q : ℕ) → grips_command p.grips q d ≡ false) → OrderIsKept p held → LineageIsKept p d s
    → ((r : ℕ) → is_none (doom_of h r) ≡ not (is_doomed p.reading r)) → option_map (λ r. r.0) (lost_run h s.accesses) ≡ lost_by p.setting p.reading d
lost_told p held d h s read strong device free order own sound =
    ap (option_map (λ (r : RunNo). r.0)) (lost_acquired h s.accesses none ∙ ap (option_map (λ (x : Access). x.run)) (λ i. find (λ (x : Access). is_acquired x.status && seen x.view i) s.accesses))
    ∙ number (find is_lost_access s.accesses) ∙ sym (lost_read p.setting p.reading p.grips held d s read strong device free order own)
  where
    number : (o : Option Access) → option_map (λ (r : RunNo). r.0) (option_map (λ (x : Access). x.run) o) ≡ option_map (λ x. x.run.0) o
    number None = refl
    number (Some x) = refl

    seen : (v : Option View) → unwrap_or (option_map is_up_view v) false ≡ is_up v
    seen None = refl
    seen (Some Up) = refl
    seen (Some Down) = refl

    sound_one : (x : ℕ) (b : Bool) → is_doomed p.reading x ≡ b → (is_acquired (if own.passed x then Released else status_by_answers p x d) && not (is_none (doom_of h x))) ≡ false
    sound_one x true e = ap (λ a. a && not (is_none (doom_of h x))) (unacquired p.setting p.reading p.grips own.passed d x (free x) e)
    sound_one x false e = ap (λ b. is_acquired (if own.passed x then Released else status_by_answers p x d) && not b) (sound x ∙ ap not e) ∙ and-false (is_acquired (if own.passed x then Released else status_by_answers p x d))

    none : list_any (λ x. is_acquired x.status && not (is_sound h x)) s.accesses ≡ false
    none = ap (list_any (λ (x : Access). is_acquired x.status && not (is_sound h x))) own.accesses
        ∙ along_none (uses p.setting p.reading d) (commits_write p.reading d) (access_read p own.passed d) (λ (x : Access). is_acquired x.status && not (is_sound h x)) p.reading.line (λ x there used. sound_one x (is_doomed p.reading x) refl)

-- the detector's grip is for no command
pub probe_commands : (g : Grips) (d m : ℕ) (v : Option ℕ) → g d ≡ Some (record { maker = m; purpose = Probes v }) → (q : ℕ) → grips_command g q d ≡ false
probe_commands g d m v at q = ap (λ o. unwrap_or (option_map (λ (p : Grip). (p.maker == q) && is_command p.purpose) o) false) at ∙ and-false (m == q)
