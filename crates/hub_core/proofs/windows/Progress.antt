-- Where no device is out and a run has not ended, some run goes on.
use Rattle.hub_core.proofs.Prelude.{Absent, Arrived, At, Back, Bool, Cause, Choice, Command, Commands, Committed, Configuration, ConfigurationIsKept, Denial, DeniedBy, Doomed, DownAtEnd, End, Ended, Failed, Fcfs, Grips, HandsOut, IsTrue, Item, JustInTime, List, Moves, None, NoneIsLive, Option, Over, PlacedAt, Placing, Ran, Reading, RunNo, Scheduler, Setting, Shaped, Some, Timeline, Undid, Undoes, Waits, [], aborts, and-false, answers_down, ap, arith, at_end, behind_wait, both_ways, busy_case, busy_wait, choice_of, command_cases, common_steps, cond, cons_option, decide, decide_answered, decide_arrived, decide_command, decide_doomed, denied_by, device_no, device_numbers, devices_of, dirty_wait, down_at_end, down_case, down_entries, effective_writer_of, entries_of, false, find, find_least, first_case, first_live, first_place, first_some, follow_wait, followed_by, grip_wait, has_grip, holds, holds_device, if◌then◌else◌, is_live, is_none, is_out, is_overdue, is_run, is_some, is_wait, is_weak, just_in_time, length, live_before, live_runs, max, nat_le, nat_lt, next_command, next_of, next_undo_of, none_does, none_found, none_is, not, not_none, only_if, option_map, option_or, patience, place_choice, point, read_of, reads_first, refl, run_no, run_numbers, scheduled_place, scheduler_of, sees_down, shapes, skip_entries, split_at, standing, strict_wait, sym, take, timeline, true, undo_cases, undo_choice, unwrap_or, value_without, waits_for_none, ℕ, ◌&&◌, ◌+◌, ◌<◌, ◌==◌, ◌||◌, ◌∙◌, ◌∷◌, ◌≡◌, ◌≤◌}
use Rattle.hub_core.proofs.kept.Sizes.{run_there, run_within}
use Rattle.hub_core.proofs.windows.StrongChoices.{command_current, live_stands}
use Rattle.hub_core.proofs.steps.Causes.{never_strict}
use Rattle.hub_core.proofs.steps.Choices.{by_map, by_test}
use Rattle.hub_core.proofs.steps.Takes.{live_run}
use Rattle.hub_core.specs.Decisions.{skipped_command, strong_command, unbarred_command}
use Rattle.hub_core.specs.declared.waits.Why.TheVariants.{Behind, Busy, Dirty, Follow, Strict}
use Rattle.lock_leasing.specs.FirstRuns.{IsFirstLive, WaitsForNone}

-- Where no run is live

none_among : (n : Reading) (items : List Item) → NoneIsLive n → live_runs n items ≡ []
none_among n [] over = refl
none_among n (Ran x ∷ is) over = ap (λ b. cons_option (if b then Some x.0 else None) (live_runs n is)) (over x.0) ∙ none_among n is over
none_among n (Failed d k ∷ is) over = none_among n is over
none_among n (Back d k ∷ is) over = none_among n is over

-- no device is denied
not_denied : (w : Setting) (n : Reading) (g : Grips) (r d : ℕ) → NoneIsLive n → denied_by (point w n g) r d ≡ None
not_denied w n g r d over =
    ap (λ xs. option_or (find (λ x. holds_device (point w n g) x d) xs) (if reads_first w.runs r d then live_writer (effective_writer_of n g d) else None))
    (none_among n (take (first_place (point w n g) r) n.line) over) ∙ by_read (reads_first w.runs r d) (effective_writer_of n g d)
  where
    live_writer : Option ℕ → Option ℕ
    live_writer None = None
    live_writer (Some x) = if is_live n x then Some x else None

    by_read : (b : Bool) (o : Option ℕ) → (if b then live_writer o else None) ≡ None
    by_read false o = refl
    by_read true None = refl
    by_read true (Some x) = ap (λ b. cond b (Some x) None) (over x)

-- so a run is placed
placed_at_once : (w : Setting) (n : Reading) (g : Grips) (r m : ℕ) → NoneIsLive n → is_wait (place_choice r m (scheduled_place (point w n g) r m)) ≡ false
placed_at_once w n g r m over = by_scheduler (scheduler_of w.mode)
  where
    admit : Option Denial → Placing
    admit None = At (split_at n.line (first_place (point w n g) r))
    admit (Some x) = if nat_le (unwrap_or (n.run r).arrived 0 + patience) m then at_end n else DeniedBy x.device x.run

    place_by : Scheduler → Placing
    place_by Fcfs = at_end n
    place_by JustInTime = just_in_time (point w n g) r m
    place_by Timeline = timeline w n r m

    denial : ℕ → Option Denial
    denial d = option_map (λ x. record { device = d; run = x }) (denied_by (point w n g) r d)

    none_denies : (ds : List ℕ) → first_some denial ds ≡ None
    none_denies [] = refl
    none_denies (d ∷ ds) = ap (λ o. option_or {T = Denial} (option_map (λ x. record { device = d; run = x }) o) (first_some denial ds)) (not_denied w n g r d over) ∙ none_denies ds

    by_scheduler : (scheduler : Scheduler) → is_wait (place_choice r m (place_by scheduler)) ≡ false
    by_scheduler Fcfs = refl
    by_scheduler JustInTime = ap (λ o. is_wait (place_choice r m (admit o))) (none_denies (devices_of w r))
    by_scheduler Timeline = refl

-- The least run that has not ended

pub record IsLeastUnended (w : Setting) (n : Reading) (q : ℕ) : Type 0 where
  pub run : is_run w.runs q ≡ true
  pub going : (n.run q).ended ≡ None
  -- each run before it has ended
  pub earlier : (f : ℕ) → 0 < f → f < q → is_some (n.run f).ended ≡ true

-- there is one, where some run has not ended
pub least_unended : (w : Setting) (n : Reading) (r : ℕ) → is_run w.runs r ≡ true → (n.run r).ended ≡ None → (q : ℕ) × IsLeastUnended w n q
least_unended w n r run going = by_found (find (λ q. is_none (n.run q).ended) (run_numbers w)) refl
  where
    within : (0 < r) × (r ≤ length w.runs)
    within = run_within w.runs r run

    over : (o : Option End) → is_none o ≡ false → is_some o ≡ true
    over None e = absurd (cc)
    over (Some x) e = refl

    by_found : (o : Option ℕ) → find (λ q. is_none (n.run q).ended) (run_numbers w) ≡ o → (q : ℕ) × IsLeastUnended w n q
    by_found None e = absurd (let both : true ≡ false = sym (ap (λ o. is_none o) going) ∙ none_does (λ q. is_none (n.run q).ended) 1 (length w.runs) e r (omega (arith, within.0)) (omega (arith, within.1)) in cc)
    by_found (Some q) e =
        let least = find_least (λ x. is_none (n.run x).ended) 1 (length w.runs) q e in (
          q,
          record {
            run = run_there w.runs q (omega (arith, least.low)) (omega (arith, least.high));
            going = none_is (n.run q).ended least.does;
            earlier = λ f low less. over (n.run f).ended (least.none_before f (omega (arith, low)) less);
          },
        )

-- it waits for no run that it follows, where each run follows an earlier one
pub least_leads : (w : Setting) (n : Reading) (q : ℕ) → ((r : ℕ) (f : RunNo) → followed_by w.runs r ≡ Some f → IsTrue (nat_lt 0 f.0 && nat_lt f.0 r)) → IsLeastUnended w n q → follow_wait w n q ≡ None
least_leads w n q earlier least = by_leader (followed_by w.runs q) refl
  where
    unended : Option RunNo → Option RunNo
    unended None = None
    unended (Some f) = if is_none (n.run f.0).ended then Some f else None

    by_leader : (o : Option RunNo) → followed_by w.runs q ≡ o → unended o ≡ None
    by_leader None e = refl
    by_leader (Some f) e =
        let before' : (nat_lt 0 f.0 && nat_lt f.0 q) ≡ true = earlier q f e in
        ap (λ b. cond b (Some f) None) (not_none (n.run f.0).ended (least.earlier f.0 (grind (arith, common_steps)) (grind (arith, common_steps))))

-- The runs that go on

home_free : (w : Setting) (g : Grips) (r : ℕ) → ((d : ℕ) → g d ≡ None) → grip_wait w g r ≡ None
home_free w g r home = none_found (has_grip g r) (device_numbers w) (λ d. ap (λ o. unwrap_or (option_map (λ p. p.maker == r) o) false) (home d))

-- with its devices home a doomed run is undone or ends
doomed_goes : (w : Setting) (n : Reading) (g : Grips) (r : ℕ) (cause : Cause) → ((d : ℕ) → g d ≡ None) → is_wait (decide_doomed (point w n g) r cause) ≡ false
doomed_goes w n g r cause home = by_model (is_weak w.mode)
  where
    while_out : Option ℕ → Option ℕ
    while_out None = None
    while_out (Some d) = if is_out g d then Some d else None

    driven_or_dropped : (d : ℕ) (b : Bool) → is_wait (if b then HandsOut d (Undoes (value_without (point w n g) r d)) else Moves (Undid (run_no r) (device_no d) false ∷ [])) ≡ false
    driven_or_dropped d true = refl
    driven_or_dropped d false = refl

    by_next : (o : Option ℕ) → is_wait (first_case (option_map (λ d. Waits (Busy (device_no d))) (while_out o) ∷ option_map (undo_choice (point w n g) r) o ∷ []) (aborts r cause)) ≡ false
    by_next None = refl
    by_next (Some d) = ap (λ b. is_wait (first_case (option_map (λ e. Waits (Busy (device_no e))) (if b then Some d else None) ∷ Some (undo_choice (point w n g) r d) ∷ []) (aborts r cause))) (ap (λ o. is_some o) (home d)) ∙ driven_or_dropped d (n.up d)

    by_model : (b : Bool) → is_wait (first_case (if b then [] else undo_cases (point w n g) r) (aborts r cause)) ≡ false
    by_model true = refl
    by_model false = by_next (next_undo_of (point w n g) r)

-- .. and the next command is answered, or its device goes out, in a model with an order where the run stands behind no live run
command_goes : (w : Setting) (n : Reading) (g : Grips) (r m k : ℕ) (c : Command) → (is_weak w.mode ≡ false → live_before n r ≡ []) → ((d : ℕ) → g d ≡ None) → is_wait (decide_command (point w n g) r m k c) ≡ false
command_goes w n g r m k c first home = elim (holds c.when (n.run r).register) as (λ b. is_wait (if b then first_case (command_cases (is_weak w.mode) (point w n g) r m k c) (HandsOut c.device.0 (Commands k)) else skipped_command (point w n g) r k) ≡ false) [
  | true ↦ done
  | false ↦ ap (λ o. is_wait (first_case (option_map (λ x. Waits (Strict (run_no x))) o ∷ []) (Moves (skip_entries r k)))) unheld
]
  where
    unheld : strict_wait w n r ≡ None
    unheld = elim (is_weak w.mode) as (λ b. is_weak w.mode ≡ b → strict_wait w n r ≡ None) [
      | true ↦ (λ weak. never_strict w n r weak)
      | false ↦ (λ strong. (waits_for_none w n g r (first strong)).strict)
    ] refl

    answers : (b : Bool) → is_wait (unwrap_or (only_if b (Moves (down_entries r k c))) (HandsOut c.device.0 (Commands k))) ≡ false
    answers true = refl
    answers false = refl

    unbarred : is_wait (unbarred_command (point w n g) r k c) ≡ false
    unbarred =
        let at_home : busy_wait (point w n g) r c.device.0 ≡ false = ap (λ o. (is_weak w.mode || not (sees_down n r c.device.0)) && is_some o) (home c.device.0) ∙ and-false (is_weak w.mode || not (sees_down n r c.device.0)) in
        ap (λ b. is_wait (first_case (only_if b (Waits (Busy c.device)) ∷ down_case (point w n g) r k c ∷ []) (HandsOut c.device.0 (Commands k)))) at_home ∙ answers (answers_down w n r c.device.0)

    in_front : live_before n r ≡ [] → is_wait (strong_command (point w n g) r m k c) ≡ false
    in_front none =
        let alone : WaitsForNone (point w n g) r = waits_for_none w n g r none in
        let behind' : behind_wait (point w n g) r c.device.0 ≡ None = alone.behind c.device.0 in
        let clean : dirty_wait (point w n g) r c ≡ None = alone.dirty c in
        let free : strict_wait w n r ≡ None = alone.strict in
        ap is_wait (command_current (point w n g) r m k c (ap (find (is_overdue (point w n g) r c.device.0 m)) none))
        ∙ (λ i. is_wait (first_case (option_map (λ x. Waits (Behind c.device (run_no x))) (behind' i) ∷ option_map (λ x. Waits (Dirty c.device (run_no x)))
        (clean i) ∷ option_map (λ x. Waits (Strict (run_no x))) (free i) ∷ busy_case (point w n g) r c ∷ down_case (point w n g) r k c ∷ []) (HandsOut c.device.0 (Commands k))))
        ∙ unbarred

    done : is_wait (first_case (command_cases (is_weak w.mode) (point w n g) r m k c) (HandsOut c.device.0 (Commands k))) ≡ false
    done = elim (is_weak w.mode) as (λ b. is_weak w.mode ≡ b → is_wait (first_case (command_cases b (point w n g) r m k c) (HandsOut c.device.0 (Commands k))) ≡ false) [
      | true ↦ (λ weak. unbarred)
      | false ↦ (λ strong. in_front (first strong))
    ] refl

-- with its devices home a run goes on: it arrives; it is placed, where it waits for no run that it follows and is denied no device; or, in a model with an order where it stands behind no live run, it acts
pub run_goes : (w : Setting) (n : Reading) (g : Grips) (r m : ℕ) → ((d : ℕ) → g d ≡ None)
    → (is_none (n.run r).placed ≡ true → (follow_wait w n r ≡ None) × (is_wait (place_choice r m (scheduled_place (point w n g) r m)) ≡ false))
    → (is_none (n.run r).placed ≡ false → is_weak w.mode ≡ false → live_before n r ≡ [])
    → is_wait (decide (point w n g) r m) ≡ false
run_goes w n g r m home comes first =
    by_test IsGoing (not (is_run w.runs r)) Absent _ (λ e. refl)
    (λ run. by_map IsGoing (λ e. Over e []) (n.run r).ended _ (λ e at. refl)
    (λ going. by_map IsGoing (λ d. Waits (Busy (device_no d))) (grip_wait w g r) _ (λ d at. absurd (let both : None ≡ Some d = sym (home_free w g r home) ∙ at in cc))
    (λ free. by_test IsGoing (is_none (n.run r).arrived) (Moves (Arrived (run_no r) m ∷ [])) _ (λ e. refl)
    (λ came. by_test IsGoing (is_none (n.run r).placed) (decide_arrived (point w n g) r m) _
    (λ unplaced. let may = comes unplaced in by_map IsGoing (λ f. Waits (Follow f)) (follow_wait w n r) _ (λ f at. absurd (let both : None ≡ Some f = sym may.0 ∙ at in cc)) (λ leader. may.1))
    (λ placed. by_map IsGoing (decide_doomed (point w n g) r) (n.run r).doomed _ (λ cause at. doomed_goes w n g r cause home)
    (λ sound. by_map IsGoing (decide_command (point w n g) r m (next_of n r)) (next_command w n r) (decide_answered (point w n g) r) (λ c at. command_goes w n g r m (next_of n r) c (first placed) home)
    (λ none. ends (down_at_end (point w n g) r))))))))
  where
    IsGoing : Choice → Type 0
    IsGoing c = is_wait c ≡ false

    ends : (o : Option ℕ) → is_wait (unwrap_or (option_map (λ d. Moves (Doomed (run_no r) (DownAtEnd (device_no d)) ∷ [])) o) (Over Committed (Ended (run_no r) Committed ∷ []))) ≡ false
    ends None = refl
    ends (Some d) = refl

-- some run that has not ended is not told to wait
pub some_run_moves : (s : Configuration) (rounds opened : ℕ) (held : ℕ → ℕ) (r : ℕ) → ConfigurationIsKept s rounds opened held → ((d : ℕ) → s.grips d ≡ None) → is_run s.setting.runs r ≡ true → ((read_of s).run r).ended ≡ None
    → (q : ℕ) × (is_run s.setting.runs q ≡ true) × (((read_of s).run q).ended ≡ None) × ((m : ℕ) → is_wait (choice_of s q m) ≡ false)
some_run_moves s rounds opened held r kept home run going = by_live (find (is_live n) (run_numbers w)) refl
  where
    w : Setting
    w = s.setting

    n : Reading
    n = read_of s

    shaped : Shaped w n
    shaped = shapes w (entries_of s.history) kept.history.well_formed

    some_of : (o : Option PlacedAt) → is_none o ≡ false → (is_some o && true) ≡ true
    some_of None e = absurd (cc)
    some_of (Some x) e = refl

    unplaced_is : (o : Option PlacedAt) → is_none o ≡ true → is_some o ≡ true → ⊥
    unplaced_is None e f = absurd (cc)
    unplaced_is (Some x) e f = absurd (cc)

    -- the first live run of the line
    from_line : (q : ℕ) × IsFirstLive n n.line q → (q : ℕ) × (is_run w.runs q ≡ true) × ((n.run q).ended ≡ None) × ((m : ℕ) → is_wait (choice_of s q m) ≡ false)
    from_line at = (q, live_run w n q shaped at.1.live, none_is (n.run q).ended unended, λ m. run_goes w n s.grips q (max s.moment m) home (λ unplaced. absurd (unplaced_is (n.run q).placed unplaced begun)) (λ placed strong. at.1.first))
      where
        q : ℕ
        q = at.0

        unended : is_none (n.run q).ended ≡ true
        unended = let now = at.1.live in grind (arith, common_steps, now)

        begun : is_some (n.run q).placed ≡ true
        begun = let now = at.1.live in grind (arith, common_steps, now)

    -- the least run that has not ended
    from_least : NoneIsLive n → (q : ℕ) × IsLeastUnended w n q → (q : ℕ) × (is_run w.runs q ≡ true) × ((n.run q).ended ≡ None) × ((m : ℕ) → is_wait (choice_of s q m) ≡ false)
    from_least over (q, least) = (
      q,
      least.run,
      least.going,
      λ m. run_goes w n s.grips q (max s.moment m) home
          (λ unplaced. (least_leads w n q kept.opens.follows least, placed_at_once w n s.grips q (max s.moment m) over))
          (λ placed. absurd (both_ways (is_live n q) (over q) (ap (λ o. is_some (n.run q).placed && is_none o) least.going ∙ some_of (n.run q).placed placed))),
    )

    by_live : (o : Option ℕ) → find (is_live n) (run_numbers w) ≡ o → (q : ℕ) × (is_run w.runs q ≡ true) × ((n.run q).ended ≡ None) × ((m : ℕ) → is_wait (choice_of s q m) ≡ false)
    by_live (Some x) e = let live : is_live n x ≡ true = (find_least (is_live n) 1 (length w.runs) x e).does in from_line (first_live n x n.line (live_stands n x (standing w (entries_of s.history) kept.history.well_formed) live) live)
    by_live None e = from_least none_live (least_unended w n r run going)
      where
        none_live : NoneIsLive n
        none_live q = elim (is_live n q) as (λ b. is_live n q ≡ b → b ≡ false) [
          | true ↦ (λ live. let within : (0 < q) × (q ≤ length w.runs) = run_within w.runs q (live_run w n q shaped live) in sym live ∙ none_does (is_live n) 1 (length w.runs) e q (omega (arith, within.0)) (omega (arith, within.1)))
          | false ↦ (λ gone. refl)
        ] refl
