-- What a window has to be that is closed.
use Rattle.hub_core.proofs.Prelude.{Aborted, AgreesAtEnd, Back, Bool, CallsAreAccounted, Cause, Command, Committed, Configuration, ConfigurationIsKept, DownAtEnd, End, Entry, Failed, Fcfs, Found, Grip, GripsFit, IsJustified, IsLegalWindow, IsSeriallyLegal, IsTrue, IsWeaklyLegal, IsWellFormed, Item, LineageState, List, Lost, MustDown, None, NoneIsLive, Option, PlacesAreScheduled, Ran, Reading, Refuted, Revoked, Setting, Some, Stand, TableIsKept, [], access_read, accesses_along, accesses_read, agrees_at_end, all_ended, ap, arith, command_at, commands_of, commits_write, common_steps, device_no, device_numbers, entries_of, fails, false, find, get_or-map, history_of, if◌then◌else◌, is_abort, is_device, is_none, is_out, is_run, is_some, length, length-map, line_of, lineage_at, list_all, list_any, logs_own_events, map, nat_lt, no_command, no_lineage, none_does, none_is_live, not, not_quiet, nowhere, of_run, option_map, option_or, or-true, order_events, order_runs, passed_by, point, point_of, range_with_len, read_facts, read_of, refl, refutes, run_no, run_numbers, shapes, slice_index_or, stand_at, standing, standing_committed, standing_value, subst, suc, sym, touches, true, unwrap_or, uses, value_standing, zero, ℕ, ◌&&◌, ◌+◌, ◌<◌, ◌||◌, ◌∙◌, ◌∷◌, ◌≡◌, ◌≤◌}
use Rattle.history_book.specs.declared.records.WindowRecord.{WindowRecord}
use Rattle.home_types.specs.declared.commands.Job.TheVariants.{Check, Load, Set, Store}
use Rattle.home_types.specs.declared.commands.Job.{Job}
use Rattle.hub_core.proofs.kept.Followed.{committed_behind}
use Rattle.hub_core.proofs.kept.Sizes.{run_there, run_within}
use Rattle.hub_core.proofs.windows.CalmHistories.{IsPlain, NoneFailed, dooms_are_refuted, is_plain, is_refuted}
use Rattle.legal_days.specs.Agreement.{AgreesWithSerial}
use Rattle.legal_days.specs.CleanReads.{ReadsAreClean}
use Rattle.window_order.specs.Leavings.{stand_left}
use Rattle.legal_days.specs.Isolation.{IsStrict}
use Rattle.legal_days.specs.Orders.{IsOrderFor}
use Rattle.hub_core.specs.MustChecks.{has_must_check, is_check, is_must_check}
use Rattle.hub_core.specs.declared.refusals.NotQuiet.TheVariants.{StillLive, StillOut}
use Rattle.lineage_table.specs.declared.accesses.Access.{Access}

-- What a quiet window is

neither : (live out : Option ℕ) → option_or (option_map (λ r. StillLive (run_no r)) live) (option_map (λ d. StillOut (device_no d)) out) ≡ None → (live ≡ None) × (out ≡ None)
neither None None e = (refl, refl)
neither None (Some d) e = absurd (cc)
neither (Some r) None e = absurd (cc)
neither (Some r) (Some d) e = absurd (cc)

-- each run has ended, and each device of the home is there
pub record IsQuiet (s : Configuration) : Type 0 where
  pub ended : (r : ℕ) → is_run s.setting.runs r ≡ true → is_some ((read_of s).run r).ended ≡ true
  pub home : (d : ℕ) → is_device s.setting d ≡ true → is_out s.grips d ≡ false

pub quiet_is : (s : Configuration) → not_quiet s ≡ None → IsQuiet s
quiet_is s quiet =
    record {
      ended = λ r run. some_of ((read_of s).run r).ended (let within : (0 < r) × (r ≤ length s.setting.runs) = run_within s.setting.runs r run in none_does (λ q. is_none ((read_of s).run q).ended) 1 (length s.setting.runs) none.0 r (omega (arith, within.0)) (omega (arith, within.1)));
      home = λ d device. none_does (is_out s.grips) 0 (length s.setting.first) none.1 d (omega arith) (below d device);
    }
  where
    none : (find (λ q. is_none ((read_of s).run q).ended) (run_numbers s.setting) ≡ None) × (find (is_out s.grips) (device_numbers s.setting) ≡ None)
    none = neither (find (λ q. is_none ((read_of s).run q).ended) (run_numbers s.setting)) (find (is_out s.grips) (device_numbers s.setting)) quiet

    some_of : (o : Option End) → is_none o ≡ false → is_some o ≡ true
    some_of None e = absurd (cc)
    some_of (Some x) e = refl

    below : (d : ℕ) → is_device s.setting d ≡ true → d < 0 + length s.setting.first
    below d device = let less : nat_lt d (length s.setting.first) ≡ true = device in grind (arith, common_steps)

-- a command that fails by what it found is a must `check`
fails_is : (c : Command) (x : ℕ) → fails c (Found x) ≡ true → is_must_check c ≡ true
fails_is c x e = by_job c.must c.job e
  where
    never : (b : Bool) → (b && false) ≡ true → ⊥
    never true f = absurd (cc)
    never false f = absurd (cc)

    by_job : (must : Bool) (job : Job) → (must && refutes job (Found x)) ≡ true → (must && is_check job) ≡ true
    by_job true (Check v) f = refl
    by_job false (Check v) f = absurd (cc)
    by_job must (Set v) f = absurd (never must f)
    by_job must Load f = absurd (never must f)
    by_job must Store f = absurd (never must f)

-- .. of the run
check_is : (cs : List Command) (k : ℕ) → is_must_check (slice_index_or cs k no_command) ≡ true → list_any is_must_check cs ≡ true
check_is [] k e = absurd (cc)
check_is (c ∷ cs) zero e = ap (λ b. b || list_any is_must_check cs) e
check_is (c ∷ cs) (suc k) e = ap (λ b. is_must_check c || b) (check_is cs k e) ∙ or-true (is_must_check c)

-- so a run that has none is not doomed
sound_without : (w : Setting) (r : ℕ) (doom : Option Cause) → is_refuted w r doom ≡ true → has_must_check w.runs r ≡ false → is_some doom ≡ false
sound_without w r None shown none = refl
sound_without w r (Some (MustDown c)) shown none = absurd (cc)
sound_without w r (Some (Refuted c x)) shown none = absurd (let both : true ≡ false = sym (check_is (commands_of w.runs r) c (fails_is (command_at w.runs r c) x shown)) ∙ none in cc)
sound_without w r (Some (Lost d)) shown none = absurd (cc)
sound_without w r (Some (Revoked lender d deadline m)) shown none = absurd (cc)
sound_without w r (Some (DownAtEnd d)) shown none = absurd (cc)

-- and has ended committed, where no device fails
pub plain_committed : (s : Configuration) (r : ℕ) → IsPlain s.setting (entries_of s.history) → IsQuiet s → NoneFailed s → is_run s.setting.runs r ≡ true → has_must_check s.setting.runs r ≡ false → ((read_of s).run r).ended ≡ Some Committed
plain_committed s r plain quiet calm run none = committed ((read_of s).run r).ended (quiet.ended r run) (λ aborts. (shapes s.setting (entries_of s.history) plain.well_formed r).aborts aborts)
  where
    sound : is_some ((read_of s).run r).doomed ≡ false
    sound = sound_without s.setting r ((read_of s).run r).doomed (dooms_are_refuted s.setting (entries_of s.history) plain calm.up calm.steady r) none

    committed : (o : Option End) → is_some o ≡ true → (unwrap_or (option_map is_abort o) false ≡ true → is_some ((read_of s).run r).doomed ≡ true) → o ≡ Some Committed
    committed None e doomed = absurd (cc)
    committed (Some Committed) e doomed = refl
    committed (Some (Aborted cause)) e doomed = absurd (let both : true ≡ false = sym (doomed refl) ∙ sound in cc)

-- .. where runs are served as they come
pub ended_committed : (s : Configuration) (rounds opened : ℕ) (held : ℕ → ℕ) (r : ℕ) → ConfigurationIsKept s rounds opened held → IsQuiet s
    → s.setting.mode.scheduler ≡ Fcfs → NoneFailed s → is_run s.setting.runs r ≡ true → has_must_check s.setting.runs r ≡ false
    → ((read_of s).run r).ended ≡ Some Committed
ended_committed s rounds opened held r kept quiet first calm run none = plain_committed s r (is_plain s rounds opened held kept first) quiet calm run none

-- and no device is out
pub homed_in : (s : Configuration) (d : ℕ) → GripsFit (point_of s) → IsQuiet s → s.grips d ≡ None
homed_in s d fit quiet = by_grip (s.grips d) refl
  where
    by_grip : (o : Option Grip) → s.grips d ≡ o → o ≡ None
    by_grip None e = refl
    by_grip (Some p) e =
        let out : is_out s.grips d ≡ true = ap (λ x. is_some x) e in
        absurd (let both : true ≡ false = sym out ∙ quiet.home d (fit.homed d out) in cc)

pub none_out : (s : Configuration) (rounds opened : ℕ) (held : ℕ → ℕ) (d : ℕ) → ConfigurationIsKept s rounds opened held → IsQuiet s → s.grips d ≡ None
none_out s rounds opened held d kept quiet = homed_in s d kept.order.grips quiet

-- What a quiet window promises

-- the last state has each device at its standing value, up or down as it is counted
pub record IsLastState (s : Configuration) (last : List Stand) : Type 0 where
  pub size : length last ≡ length s.setting.first
  pub each : (d : ℕ) → d < length s.setting.first → stand_at last d ≡ record { value = standing_value (point_of s) d; up = (read_of s).up d }

none_live : (s : Configuration) (rounds opened : ℕ) (held : ℕ → ℕ) → ConfigurationIsKept s rounds opened held → IsQuiet s → NoneIsLive (read_of s)
none_live s rounds opened held kept quiet = none_is_live s.setting (read_of s) (read_facts s.setting (entries_of s.history) kept.history.well_formed) quiet.ended

-- its line is an order for its history
pub order_is : (s : Configuration) (rounds opened : ℕ) (held : ℕ → ℕ) → ConfigurationIsKept s rounds opened held → IsQuiet s → IsOrderFor s.setting (entries_of s.history) (read_of s).line
order_is s rounds opened held kept quiet =
    record {
      runs = order_runs s.setting (read_of s) (read_facts s.setting (entries_of s.history) kept.history.well_formed) (none_live s rounds opened held kept quiet);
      events = order_events s.setting (read_of s) s.grips held kept.order (logs_own_events s.setting (entries_of s.history));
      following = committed_behind s.setting (read_of s) (standing s.setting (entries_of s.history) kept.history.well_formed) kept.history.followed;
    }

-- and the serial execution of it gives the last state
pub serial_is : (s : Configuration) (rounds opened : ℕ) (held : ℕ → ℕ) (last : List Stand) → ConfigurationIsKept s rounds opened held → IsQuiet s → IsLastState s last → AgreesWithSerial s.setting (entries_of s.history) (read_of s).line last
serial_is s rounds opened held last kept quiet at = record { applies = agrees.applies; answers = agrees.answers; home = agrees.home; counted = agrees.counted }
  where
    agrees : AgreesAtEnd s.setting (read_of s) last
    agrees = agrees_at_end s.setting (read_of s) s.grips held last (read_facts s.setting (entries_of s.history) kept.history.well_formed) kept.order kept.strong (none_live s rounds opened held kept quiet) at.size at.each

-- where no run has an access, there is none
none_along : (has_one covering : ℕ → Bool) (access : ℕ → Access) (line : List Item) → ((r : ℕ) → has_one r ≡ false) → accesses_along has_one covering access line ≡ []
none_along has_one covering access [] none = refl
none_along has_one covering access (Ran r ∷ is) none =
    ap (λ b. if b && not (list_any (of_run covering) is) then (access r.0 ∷ accesses_along has_one covering access is) else accesses_along has_one covering access is) (none r.0)
    ∙ none_along has_one covering access is none
none_along has_one covering access (Failed d k ∷ is) none = none_along has_one covering access is none
none_along has_one covering access (Back d k ∷ is) none = none_along has_one covering access is none

-- the lineage table leaves each device so
pub table_leaves : (s : Configuration) (rounds opened : ℕ) (held : ℕ → ℕ) (table : List LineageState) (last : List Stand) → ConfigurationIsKept s rounds opened held → IsQuiet s → TableIsKept (point_of s) table → last ≡ map stand_left table → IsLastState s last
table_leaves s rounds opened held table last kept quiet fits are =
    record {
      size = ap length are ∙ length-map table stand_left ∙ fits.devices;
      each = λ d within. ap (λ l. stand_at l d) are ∙ get_or-map stand_left table d no_lineage nowhere (omega (arith, within, fits.devices)) ∙ left d within;
    }
  where
    w : Setting
    w = s.setting

    n : Reading
    n = read_of s

    over : NoneIsLive n
    over = none_live s rounds opened held kept quiet

    left : (d : ℕ) → d < length w.first → stand_left (lineage_at table d) ≡ record { value = standing_value (point w n s.grips) d; up = n.up d }
    left d within =
        let lineage = fits.each d within in
        let none : accesses_read (point w n s.grips) lineage.passed d n.line ≡ [] = none_along (uses w n d) (commits_write n d) (access_read (point w n s.grips) lineage.passed d) n.line (λ r. ap (λ b. b && touches w.runs r d && not (passed_by w n r d)) (over r)) in
        let stands : value_standing (lineage_at table d).committed (lineage_at table d).accesses ≡ standing_value (point w n s.grips) d =
        ap (value_standing (lineage_at table d).committed) (lineage.accesses ∙ none) ∙ lineage.committed ∙ sym (standing_committed w n s.grips held d (read_facts w (entries_of s.history) kept.history.well_formed) kept.order kept.strong over) in
        (λ i. record { value = stands i; up = lineage.up i })

each_ended : (s : Configuration) (a k : ℕ) → ((r : ℕ) → a ≤ r → r < a + k → is_some ((read_of s).run r).ended ≡ true) → IsTrue (list_all (λ r. is_some ((read_of s).run r).ended) (range_with_len a k))
each_ended s a zero each = refl
each_ended s a (suc k) each = rw (each a (omega arith) (omega arith), each_ended s (a + 1) k (λ r from to. each r (omega (arith, from)) (omega (arith, to)))) refl

pub all_have_ended : (s : Configuration) → IsQuiet s → IsTrue (all_ended s.setting (entries_of s.history))
all_have_ended s quiet = each_ended s 1 (length s.setting.runs) (λ r from to. quiet.ended r (run_there s.setting.runs r (omega (arith, from)) (omega (arith, to))))

-- what the record of a quiet window tells
pub record IsRecordOf (s : Configuration) (closed : WindowRecord) : Type 0 where
  pub mode : closed.mode ≡ s.setting.mode
  pub first : closed.first.devices.items ≡ s.setting.first
  pub history : closed.history.items ≡ s.history
  pub order : closed.order.items ≡ (read_of s).line
  pub last : IsLastState s closed.last.devices.items
  pub accounted : CallsAreAccounted s.setting (entries_of s.history) closed.turns.items closed.faults.items

-- it is a legal window
pub legal_is : (s : Configuration) (rounds opened : ℕ) (held : ℕ → ℕ) (closed : WindowRecord) → ConfigurationIsKept s rounds opened held → IsQuiet s → IsRecordOf s closed → IsSeriallyLegal s.setting closed
legal_is s rounds opened held closed kept quiet told =
    record {
      mode = told.mode;
      first = told.first;
      well_formed = of_history (λ h. IsWellFormed s.setting h) kept.history.well_formed;
      ended = of_history (λ h. IsTrue (all_ended s.setting h)) (all_have_ended s quiet);
      line = told.order ∙ ap (λ h. line_of s.setting (entries_of h)) (sym told.history);
      places = of_history (λ h. PlacesAreScheduled s.setting h) kept.history.places;
      is_order = subst (λ o. IsOrderFor s.setting (history_of closed) o) (sym told.order) (of_history (λ h. IsOrderFor s.setting h (read_of s).line) (order_is s rounds opened held kept quiet));
      agrees = subst (λ o. AgreesWithSerial s.setting (history_of closed) o closed.last.devices.items) (sym told.order) (of_history (λ h. AgreesWithSerial s.setting h (read_of s).line closed.last.devices.items) (serial_is s rounds opened held closed.last.devices.items kept quiet told.last));
      clean = of_history (λ h. ReadsAreClean s.setting h) kept.history.clean;
      justified = of_history (λ h. IsJustified s.setting h) kept.history.justified;
      accounted = of_history (λ h. CallsAreAccounted s.setting h closed.turns.items closed.faults.items) told.accounted;
      isolated = λ strict. of_history (λ h. IsStrict s.setting h) (kept.history.isolated strict);
    }
  where
    of_history : (P : List Entry → Type 0) → P (entries_of s.history) → P (history_of closed)
    of_history P p = subst (λ h. P (entries_of h)) (sym told.history) p

pub legal_window : (s : Configuration) (rounds opened : ℕ) (held : ℕ → ℕ) (closed : WindowRecord) → ConfigurationIsKept s rounds opened held → IsQuiet s → IsRecordOf s closed → IsLegalWindow s.setting closed
legal_window s rounds opened held closed kept quiet told = subst under_weak (sym kept.strong) (legal_is s rounds opened held closed kept quiet told)
  where
    under_weak : Bool → Type 0
    under_weak true = IsWeaklyLegal s.setting closed
    under_weak false = IsSeriallyLegal s.setting closed
