-- What is kept of a hub's configuration is so at the start, and stays so with each step of a run.
use Rattle.hub_core.proofs.Prelude.{Aborted, ActsInTurn, Arrived, At, Bool, Cause, Command, Commands, Committed, Configuration, ConfigurationIsKept, DeniedBy, Did, Doomed, Down, DownAtEnd, EachOut, Ended, Entry, Fcfs, Grip, Grips, GripsFit, HandsOut, HistoryIsKept, IsRead, IsScheduled, IsSkipped, IsToldDown, IsTrue, Kept, List, MayBeOut, MayOpen, Moves, MustDown, None, NoneAnsweredDoomed, Option, Placed, PlacedAt, Placing, Point, Probes, Purpose, Reading, Revoked, Setting, Skipped, Some, Split, Undid, Undoes, UndosFit, [], abort_is_justified, aborts_kept, after_choice, after_take, along, answers_down, ap, append-nil, append_assoc, arith, arrives_kept, asks_on, at_end, at_moment, both, busy_wait, commits_kept, common_steps, device_no, doomed_kept, down_doomed_kept, down_entries, down_kept, dropped_kept, effect_is, entries_of, entry, false, fold, goes_kept, has_grip, has_value, has_written, if◌then◌else◌, is_command, is_device, is_doomed, is_live, is_none, is_of_run, is_out, is_probed, is_run, is_some, is_weak, joined_order, kept_by, kind_at, lease_deadline, length, max, may_follow, names_values_of, nat_lt, next_of, not, opened, option_map, overdue_for, point, probes_of, put, read_facts, read_of, reading, refl, refutes, run_no, scheduled_is_clear, scheduled_place, scheduled_stands, scheduler_of, sees_down, shows, skipped_holds, skipped_kept, some_is, split_of, stand_at, starts_kept, strict_wait, subst, sym, told_holds, true, undo_fits, undo_goes_kept, unwrap_or, value_without, ℕ, ◌&&◌, ◌++◌, ◌+◌, ◌<◌, ◌==◌, ◌||◌, ◌∙◌, ◌∷◌, ◌≡◌, ◌≤◌}
use Rattle.hub_core.proofs.steps.Afters.{read_with}
use Rattle.hub_core.proofs.steps.Causes.{IsClean, Shows, take_is_clean, take_shows}
use Rattle.hub_core.proofs.steps.Choices.{Commanding, Enters, IsNext, Skipping, decide_is}
use Rattle.hub_core.proofs.kept.Followed.{none_placed}
use Rattle.hub_core.proofs.kept.HistoryKept.{MayAdd, ServesStrict, aborted_may, added, arrival_may, commit_may, doom_may, drop_may, grip_turn, history_added, in_turn_wrote, less_one, placing_may, serves_strict, told_may}
use Rattle.hub_core.proofs.windows.StrongChoices.{IsPlacing, StrongSteps, served_in_turn, strong_steps, take_all}
use Rattle.hub_core.proofs.steps.Takes.{Follows, take_follows}
use Rattle.hub_core.proofs.kept.WrittenValues.{ValuesFit, undo_value, writes_fit}
use Rattle.legal_days.specs.CleanReads.{entry_is_clean}
use Rattle.window_order.specs.OrderKept.{OrderIsKept}

-- Restarts and probes

-- with no restart more, and no probe more out, there are no more of them
probes_fewer : (s : Configuration) (h : List Kept) (m : ℕ) (g : Grips) → (reading s.setting (entries_of h)).rose ≡ (read_of s).rose → ((d : ℕ) → is_probed g d ≡ true → is_probed s.grips d ≡ true) → (d : ℕ) → probes_of (record s { history = h; moment = m; grips = g }) d ≤ probes_of s d
probes_fewer s h m g same less d = fewer ((reading s.setting (entries_of h)).rose d) ((read_of s).rose d) (s.probes d) (is_probed g d) (is_probed s.grips d) (ap (λ f. f d) same) (less d)
  where
    fewer : (a b c : ℕ) (p q : Bool) → a ≡ b → (p ≡ true → q ≡ true) → a + (if p then 1 else 0) + c ≤ b + (if q then 1 else 0) + c
    fewer a b c true true same less = omega (arith, same)
    fewer a b c true false same less = absurd (let both : false ≡ true = less refl in cc)
    fewer a b c false true same less = omega (arith, same)
    fewer a b c false false same less = omega (arith, same)

-- entries that tell of no restart
pub probes_told : (s : Configuration) (maker m : ℕ) (entries : List Entry) → (fold (entry s.setting) (read_of s) entries).rose ≡ (read_of s).rose → (d : ℕ) → probes_of (record s { history = s.history ++ kept_by maker entries; moment = m }) d ≤ probes_of s d
probes_told s maker m entries none = probes_fewer s (s.history ++ kept_by maker entries) m s.grips (ap (λ n. n.rose) (read_with s maker entries) ∙ none) (λ d e. e)

-- .. and a device that comes home
pub probes_home : (s : Configuration) (maker m d : ℕ) (entries : List Entry) → (fold (entry s.setting) (read_of s) entries).rose ≡ (read_of s).rose → (e : ℕ) → probes_of (record s { history = s.history ++ kept_by maker entries; moment = m; grips = put s.grips d None }) e ≤ probes_of s e
probes_home s maker m d entries none = probes_fewer s (s.history ++ kept_by maker entries) m (put s.grips d None) (ap (λ n. n.rose) (read_with s maker entries) ∙ none) (λ e. at_ e (e == d))
  where
    at_ : (e : ℕ) (b : Bool) → unwrap_or (option_map (λ grip. not (is_of_run grip.purpose)) (if b then None else s.grips e)) false ≡ true → is_probed s.grips e ≡ true
    at_ e true f = absurd (cc)
    at_ e false f = f

-- a device that goes out for a run
pub probes_out : (s : Configuration) (m d : ℕ) (new : Grip) → is_of_run new.purpose ≡ true → (e : ℕ) → probes_of (record s { moment = m; grips = put s.grips d (Some new) }) e ≤ probes_of s e
probes_out s m d new of_run = probes_fewer s s.history m (put s.grips d (Some new)) refl (λ e. at_ e (e == d))
  where
    at_ : (e : ℕ) (b : Bool) → unwrap_or (option_map (λ grip. not (is_of_run grip.purpose)) (if b then Some new else s.grips e)) false ≡ true → is_probed s.grips e ≡ true
    at_ e true f = absurd (let both : true ≡ false = sym f ∙ ap not of_run in cc)
    at_ e false f = f

-- Parts of a configuration that change

-- another history, moment and grips, with no more restarts and probes out
pub kept_after : (s : Configuration) (rounds opened : ℕ) (held after : ℕ → ℕ) (h : List Kept) (m : ℕ) (g : Grips)
    → HistoryIsKept (record s { history = h; moment = m; grips = g })
    → ((d : ℕ) → probes_of (record s { history = h; moment = m; grips = g }) d ≤ probes_of s d) → UndosFit s.setting g
    → OrderIsKept (point s.setting (reading s.setting (entries_of h)) g) after → ConfigurationIsKept s rounds opened held
    → ConfigurationIsKept (record s { history = h; moment = m; grips = g }) rounds opened after
kept_after s rounds opened held after h m g history fewer undos order kept =
    record {
      opens = kept.opens;
      strong = kept.strong;
      kinds = kept.kinds;
      probes = λ d. omega (arith, fewer d, kept.probes d);
      values = kept.values;
      undos = undos;
      history = history;
      order = order;
    }

-- the moment and the grips alone
pub history_same : (s : Configuration) (m : ℕ) (g : Grips) → (read_of s).moment ≤ m → ActsInTurn (point s.setting (read_of s) g) → NoneAnsweredDoomed (read_of s) g → HistoryIsKept s → HistoryIsKept (record s { moment = m; grips = g })
history_same s m g later turn first kept =
    record {
      well_formed = kept.well_formed;
      moment = later;
      clean = kept.clean;
      justified = kept.justified;
      places = kept.places;
      isolated = kept.isolated;
      unrevoked = kept.unrevoked;
      in_order = kept.in_order;
      followed = kept.followed;
      in_turn = turn;
      first = first;
    }

pub still_later : (s : Configuration) (m : ℕ) → HistoryIsKept s → (read_of s).moment ≤ max s.moment m
still_later s m kept = let before' : (read_of s).moment ≤ s.moment = kept.moment in omega (arith, before')

-- the moment alone
pub kept_at : (s : Configuration) (rounds opened m : ℕ) (held : ℕ → ℕ) → ConfigurationIsKept s rounds opened held → ConfigurationIsKept (at_moment s m) rounds opened held
kept_at s rounds opened m held kept =
    kept_after s rounds opened held held s.history (max s.moment m) s.grips (history_same s (max s.moment m) s.grips (still_later s m kept.history) kept.history.in_turn kept.history.first kept.history) (probes_fewer s s.history (max s.moment m) s.grips refl (λ d e. e)) kept.undos kept.order kept

-- one entry more
pub kept_with : (s : Configuration) (rounds opened maker m : ℕ) (held after : ℕ → ℕ) (g : Grips) (e : Entry) → MayAdd s e m g
    → ((d : ℕ) → probes_of (added s maker m g e) d ≤ probes_of s d) → UndosFit s.setting g → OrderIsKept (point s.setting (entry s.setting (read_of s) e) g) after
    → ConfigurationIsKept s rounds opened held → ConfigurationIsKept (added s maker m g e) rounds opened after
kept_with s rounds opened maker m held after g e may fewer undos order kept =
    kept_after s rounds opened held after (s.history ++ kept_by maker (e ∷ [])) m g (history_added s maker m g e may kept.history) fewer undos (subst (λ n. OrderIsKept (point s.setting n g) after) (sym (read_with s maker (e ∷ []))) order) kept

-- two entries more
pub kept_with_two : (s : Configuration) (rounds opened maker m : ℕ) (held after : ℕ → ℕ) (g : Grips) (e f : Entry) → MayAdd s e m g
    → MayAdd (added s maker m g e) f m g
    → ((d : ℕ) → probes_of (record s { history = s.history ++ kept_by maker (e ∷ f ∷ []); moment = m; grips = g }) d ≤ probes_of s d) → UndosFit s.setting g
    → OrderIsKept (point s.setting (entry s.setting (entry s.setting (read_of s) e) f) g) after → ConfigurationIsKept s rounds opened held
    → ConfigurationIsKept (record s { history = s.history ++ kept_by maker (e ∷ f ∷ []); moment = m; grips = g }) rounds opened after
kept_with_two s rounds opened maker m held after g e f may next fewer undos order kept =
    kept_after s rounds opened held after (s.history ++ kept_by maker (e ∷ f ∷ [])) m g
    (subst (λ h. HistoryIsKept (record s { history = h; moment = m; grips = g })) (append_assoc s.history (kept_by maker (e ∷ [])) (kept_by maker (f ∷ []))) (history_added (added s maker m g e) maker m g f next (history_added s maker m g e may kept.history)))
    fewer undos (subst (λ n. OrderIsKept (point s.setting n g) after) (sym (read_with s maker (e ∷ f ∷ []))) order) kept

-- one device more is out
pub out_with : (g : Grips) (test : ℕ → Grip → Bool) (d : ℕ) (new : Grip) → test d new ≡ true → EachOut g test → EachOut (put g d (Some new)) test
out_with g test d new now all e p = elim (e == d) as (λ b. (e == d) ≡ b → (if b then Some new else g e) ≡ Some p → test e p ≡ true) [
  | true ↦ (λ at f. let same : e ≡ d = grind (arith, common_steps) in subst (λ x. test x p ≡ true) (sym same) (subst (λ q. test d q ≡ true) (some_is new p f) now))
  | false ↦ (λ at f. all e p f)
] refl

-- .. or one less
pub out_less : (g : Grips) (test : ℕ → Grip → Bool) (d : ℕ) → EachOut g test → EachOut (put g d None) test
out_less g test d all e p at = all e p (less_one g d e p at)

-- a run that is not live has no grip
pub gripless : (w : Setting) (n : Reading) (g : Grips) (r d : ℕ) → GripsFit (point w n g) → is_run w.runs r ≡ true → is_live n r ≡ false → has_grip g r d ≡ false
gripless w n g r d fit run gone = by_grip (g d) refl
  where
    not_live : is_live n r ≡ true → ⊥
    not_live live = let both : true ≡ false = sym live ∙ gone in absurd (cc)

    not_zero : r ≡ 0 → ⊥
    not_zero none_first = let none : is_run w.runs 0 ≡ true = subst (λ x. is_run w.runs x ≡ true) none_first run in absurd (cc)

    idle : (q : ℕ) (p : Purpose) → g d ≡ Some (record { maker = q; purpose = p }) → q ≡ r → ⊥
    idle q (Commands k) out same = not_live (let may : IsTrue (is_live n q && asks_on w n q d && (k == next_of n q)) = fit.runs.commands d q k out in let live : is_live n q ≡ true = grind (arith, common_steps) in subst (λ x. is_live n x ≡ true) same live)
    idle q (Undoes v) out same = not_live (let may : IsTrue (is_live n q && is_doomed n q && has_written n q d && not ((n.run q).on d).undid) = fit.runs.undos d q v out in let live : is_live n q ≡ true = grind (arith, common_steps) in subst (λ x. is_live n x ≡ true) same live)
    idle q (Probes v) out same = not_zero (sym same ∙ fit.probes d q v out)

    by_grip : (o : Option Grip) → g d ≡ o → unwrap_or (option_map (λ p. p.maker == r) o) false ≡ false
    by_grip None e = refl
    by_grip (Some p) e = elim (p.maker == r) as (λ b. (p.maker == r) ≡ b → b ≡ false) [
      | true ↦ (λ f. absurd (idle p.maker p.purpose e (grind (arith, common_steps))))
      | false ↦ (λ f. refl)
    ] refl

-- a place that the scheduler gives to a run that enters
pub enters_place : (p : Point) (r m : ℕ) (x : Split) → MayBeOut p → Enters p r m x → IsPlacing p r (length x.front) m
enters_place p r m x out enters = let is = scheduled_stands p.setting p.reading p.grips r m x enters.place in record { leader = enters.leader; clear = scheduled_is_clear p.setting p.reading p.grips r m x out enters.place; sealed = is.sealed; within = is.within; last = λ first. last first }
  where
    front_of : Placing → ℕ
    front_of (At s) = length s.front
    front_of (DeniedBy d x) = 0

    at_the_end : scheduler_of p.setting.mode ≡ Fcfs → scheduled_place p r m ≡ at_end p.reading
    at_the_end first = rw first refl

    last : scheduler_of p.setting.mode ≡ Fcfs → length x.front ≡ length p.reading.line
    last first = ap front_of (sym enters.place ∙ at_the_end first) ∙ take_all p.reading.line

-- .. is the scheduler's
entered_is_scheduled : (w : Setting) (n : Reading) (g : Grips) (r m : ℕ) (x : Split) → MayBeOut (point w n g) → Enters (point w n g) r m x → IsScheduled w n (Placed (run_no r) (length x.front) m)
unfolding split_of
entered_is_scheduled w n g r m x out enters = let is = scheduled_stands w n g r m x enters.place in (g, out, enters.place ∙ ap At is.parted, ap (λ y. length y.front) (sym is.parted))

-- commands name values of their devices, and so do the first values
pub values_fit : (s : Configuration) (rounds opened : ℕ) (held : ℕ → ℕ) → ConfigurationIsKept s rounds opened held → ValuesFit s.setting
values_fit s rounds opened held kept = record { homed = kept.opens.homed; first = λ d device. kept.values d (below d device) }
  where
    below : (d : ℕ) → is_device s.setting d ≡ true → d < length s.setting.first
    below d device = let less : nat_lt d (length s.setting.first) ≡ true = device in grind (arith, common_steps)

-- The step of a run

pub first_follows : (w : Setting) (n : Reading) (e : Entry) → IsTrue (along w (may_follow w) n (e ∷ [])) → may_follow w n e ≡ true
first_follows w n e all = grind (arith, common_steps)

pub take_kept : (s : Configuration) (rounds opened : ℕ) (held : ℕ → ℕ) (r m : ℕ) → ConfigurationIsKept s rounds opened held → ConfigurationIsKept (after_take s r m) rounds opened held
take_kept s rounds opened held r m kept =
    decide_is (λ c. Follows w n c → Shows w n c → IsClean w n c → ConfigurationIsKept (after_choice (at_moment s m) r c) rounds opened held) w n s.grips r now (record {
      absent = λ none ok shown clean. timed;
      over = λ e at ok shown clean. subst (λ h. ConfigurationIsKept (record (at_moment s m) { history = h }) rounds opened held) (sym (append-nil s.history)) timed;
      waits = λ why ok shown clean. timed;
      arrives = λ run none ok shown clean. let follows : may_follow w n (Arrived (run_no r) now) ≡ true = first_follows w n (Arrived (run_no r) now) ok in
          moves (Arrived (run_no r) now) refl (arrival_may s r now follows later kept.history) (arrives_kept w n s.grips held r now read follows kept.order);
      enters = λ x enters ok shown clean. let follows : may_follow w n (Placed (run_no r) (length x.front) now) ≡ true = first_follows w n (Placed (run_no r) (length x.front) now) ok in
          let place = enters_place (point w n s.grips) r now x kept.order.grips.runs enters in
          moves (Placed (run_no r) (length x.front) now) refl
          (placing_may s r (length x.front) now follows later (entered_is_scheduled w n s.grips r now x kept.order.grips.runs enters) place enters.unplaced
          (λ d. gripless w n s.grips r d kept.order.grips enters.run (unplaced (n.run r).placed enters.unplaced)) kept.history)
          (joined_order w n s.grips held r (length x.front) now read follows place.clear kept.order);
      aborted = λ cause act doomed over ok shown clean. let follows : may_follow w n (Ended (run_no r) (Aborted cause)) ≡ true = first_follows w n (Ended (run_no r) (Aborted cause)) ok in
          moves (Ended (run_no r) (Aborted cause)) refl (aborted_may s r now cause follows later kept.history) (aborts_kept w n s.grips held r cause read follows act.free (over kept.strong) kept.order);
      drops = λ cause d undoing down ok shown clean. let follows : may_follow w n (Undid (run_no r) (device_no d) false) ≡ true = first_follows w n (Undid (run_no r) (device_no d) false) ok in
          moves (Undid (run_no r) (device_no d) false) refl (drop_may s r d now follows later served kept.history) (dropped_kept w n s.grips held r d read undoing.act.live (ap is_some undoing.doomed) undoing.act.free undoing.next undoing.home down kept.order);
      undoes = λ cause d undoing up ok shown clean. goes d (Undoes (value_without (point w n s.grips) r d)) refl (undo_value (point w n s.grips) r d (writes_fit w (entries_of s.history) values kept.history.well_formed) (values.first d undoing.device)) refl
          (in_turn_wrote s r d undoing.act.live (effect_is n s.grips r d undoing.effect).0 kept.history)
          (undo_goes_kept w n s.grips held r d read undoing.act.live (ap is_some undoing.doomed) undoing.act.free undoing.next undoing.home up kept.order);
      revokes = λ c x run strong at ok shown clean. revokes c x run at (first_follows w n (Doomed (run_no x) (Revoked (run_no r) c.device (lease_deadline w n x c.device.0) now)) ok) (both (shows w n x (Revoked (run_no r) c.device (lease_deadline w n x c.device.0) now)) true shown).0;
      skips = λ c skip ok shown clean. let skipped = skipping c skip in
          moves (Did (run_no r) (next_of n r) Skipped) refl (told_may s r (next_of n r) now Skipped (first_follows w n (Did (run_no r) (next_of n r) Skipped) ok) refl later served (skipped_holds w n s.grips held r c skipped) skip.act.live skip.alone kept.history)
          (skipped_kept w n s.grips held r c skipped);
      downs = λ c run next home down. downs c run (next kept.strong) home down;
      goes = λ c run next home up ok shown clean. let there = reached (is_weak w.mode) (sees_down n r c.device.0) (is_out s.grips c.device.0) (n.up c.device.0) kept.strong home up in
          goes c.device.0 (Commands (next_of n r)) refl refl (ap not (unanswered (n.run r).answered_doomed (n.run r).doomed (read.shaped r).answers_late run.sound)) (next kept.strong).alone
          (goes_kept w n s.grips held r c read run.act.run run.act.live run.sound run.act.free run.next run.guard (next kept.strong).first (next kept.strong).clean there.0 there.1 there.2 (staged.homed r (next_of n r) c run.next) kept.order);
      fails_at_end = λ d all at ok shown clean. let follows : may_follow w n (Doomed (run_no r) (DownAtEnd (device_no d))) ≡ true = first_follows w n (Doomed (run_no r) (DownAtEnd (device_no d))) ok in
          moves (Doomed (run_no r) (DownAtEnd (device_no d))) refl (doom_may s r now (DownAtEnd (device_no d)) follows (λ first_come. refl) (both (shows w n r (DownAtEnd (device_no d))) true shown).0 later kept.history)
          (doomed_kept w n s.grips held r (DownAtEnd (device_no d)) read all.act.live kept.order);
      commits = λ all up ok shown clean. let follows : may_follow w n (Ended (run_no r) Committed) ≡ true = first_follows w n (Ended (run_no r) Committed) ok in
          moves (Ended (run_no r) Committed) refl (commit_may s r now follows later up kept.history) (commits_kept w n s.grips held r read follows all.act.free kept.order);
    }) (take_follows w n s.grips r now (record { shaped = read.shaped; homed = staged.homed; moment = grind (arith, common_steps, later) })) (take_shows (point w n s.grips) r now kept.strong) (take_is_clean (point w n s.grips) r now kept.strong)
  where
    w : Setting
    w = s.setting

    n : Reading
    n = read_of s

    now : ℕ
    now = max s.moment m

    staged : StrongSteps w n
    staged = strong_steps s rounds opened held kept

    served : ServesStrict w
    served = serves_strict w rounds opened kept.opens

    read : IsRead w n
    read = read_facts w (entries_of s.history) kept.history.well_formed

    later : n.moment ≤ now
    later = still_later s m kept.history

    timed : ConfigurationIsKept (at_moment s m) rounds opened held
    timed = kept_at s rounds opened m held kept

    unplaced : (p : Option PlacedAt) → is_none p ≡ true → (is_some p && is_none (n.run r).ended) ≡ false
    unplaced None e = refl
    unplaced (Some p) e = absurd (cc)

    values : ValuesFit w
    values = values_fit s rounds opened held kept

    -- a sound run has no answer since a doom
    unanswered : (late : Bool) (doom : Option Cause) → (late ≡ true → is_some doom ≡ true) → doom ≡ None → late ≡ false
    unanswered false doom if_late none = refl
    unanswered true doom if_late none = absurd (let both : true ≡ false = sym (if_late refl) ∙ ap is_some none in cc)

    -- a device that is called is home, and neither seen down nor counted down
    reached : (weak sees out up : Bool) → weak ≡ false → ((weak || not sees) && out) ≡ false → ((not weak && sees) || not up) ≡ false → (out ≡ false) × (sees ≡ false) × (up ≡ true)
    reached weak sees out up strong home answers = (grind (arith, common_steps), grind (arith, common_steps), grind (arith, common_steps))

    -- a step with one entry
    moves : (e : Entry) → (entry w n e).rose ≡ n.rose → MayAdd s e now s.grips → OrderIsKept (point w (entry w n e) s.grips) held → ConfigurationIsKept (added s r now s.grips e) rounds opened held
    moves e none may order = kept_with s rounds opened r now held held s.grips e may (probes_told s r now (e ∷ []) none) kept.undos order kept

    goes : (d : ℕ) (p : Purpose) → is_of_run p ≡ true → undo_fits (kind_at w.kinds d) p ≡ true → not (is_command p && (n.run r).answered_doomed) ≡ true → strict_wait w n r ≡ None → OrderIsKept (point w n (put s.grips d (Some (record { maker = r; purpose = p })))) held
        → ConfigurationIsKept (after_choice (at_moment s m) r (HandsOut d p)) rounds opened held
    goes d p of_run fits first alone order =
        kept_after s rounds opened held held s.history now (put s.grips d (Some (record { maker = r; purpose = p })))
        (history_same s now (put s.grips d (Some (record { maker = r; purpose = p }))) later (grip_turn w n s.grips r d p (λ live. alone) kept.history.in_turn)
        (out_with s.grips (λ e q. not (is_command q.purpose && (n.run q.maker).answered_doomed)) d (record { maker = r; purpose = p }) first kept.history.first)
        kept.history)
        (probes_out s now d (record { maker = r; purpose = p }) of_run) (out_with s.grips (λ e q. undo_fits (kind_at w.kinds e) q.purpose) d (record { maker = r; purpose = p }) fits kept.undos) order kept

    -- the doom of a borrower, whose lease is overdue
    revokes : (c : Command) (x : ℕ) → Commanding (point w n s.grips) r c → overdue_for (point w n s.grips) r c.device.0 now ≡ Some x → may_follow w n (Doomed (run_no x) (Revoked (run_no r) c.device (lease_deadline w n x c.device.0) now)) ≡ true
        → shows w n x (Revoked (run_no r) c.device (lease_deadline w n x c.device.0) now) ≡ true → ConfigurationIsKept (added s r now s.grips (Doomed (run_no x) (Revoked (run_no r) c.device (lease_deadline w n x c.device.0) now))) rounds opened held
    revokes c x run at follows shown =
        moves (Doomed (run_no x) cause) refl (doom_may s x now cause follows (λ first. absurd (let never : None ≡ Some x = sym (served_in_turn s rounds opened held r c.device.0 kept first run.act.live now) ∙ at in cc)) shown (omega (arith, later)) kept.history)
        (doomed_kept w n s.grips held x cause read live kept.order)
      where
        cause : Cause
        cause = Revoked (run_no r) c.device (lease_deadline w n x c.device.0) now

        live : is_live n x ≡ true
        live = grind (arith, common_steps, follows)

    -- a command that is skipped
    skipping : (c : Command) → Skipping (point w n s.grips) r c → IsSkipped w n s.grips held r c
    skipping c skip = record {
      read = read;
      live = skip.act.live;
      sound = skip.sound;
      free = skip.act.free;
      next = skip.next;
      guard = skip.guard;
      device = staged.homed r (next_of n r) c skip.next;
      kept = kept.order;
    }

    -- the answer Down with no call, and the doom of a must command
    downs : (c : Command) → Commanding (point w n s.grips) r c → IsNext (point w n s.grips) r now c → busy_wait (point w n s.grips) r c.device.0 ≡ false → answers_down w n r c.device.0 ≡ true
        → Follows w n (Moves (down_entries r (next_of n r) c)) → Shows w n (Moves (down_entries r (next_of n r) c)) → IsClean w n (Moves (down_entries r (next_of n r) c)) → ConfigurationIsKept (after_choice (at_moment s m) r (Moves (down_entries r (next_of n r) c))) rounds opened held
    downs c run next home down ok shown clean =
        elim c.must as (λ b. c.must ≡ b → IsTrue (along w (may_follow w) n (entries b)) → IsTrue (along w (abort_is_justified w) n (entries b))
        → IsTrue (along w (entry_is_clean w) n (entries b))
        → ConfigurationIsKept (record s { history = s.history ++ kept_by r (entries b); moment = now }) rounds opened held) [
          | true ↦ dooms
          | false ↦ misses
        ] refl ok shown clean
      where
        answer : Entry
        answer = Did (run_no r) (next_of n r) Down

        doom : Entry
        doom = Doomed (run_no r) (MustDown (next_of n r))

        entries : Bool → List Entry
        entries b = answer ∷ (if b then doom ∷ [] else [])

        told : IsToldDown w n s.grips held r c
        told = record {
          read = read;
          strong = kept.strong;
          live = run.act.live;
          sound = run.sound;
          free = run.act.free;
          next = run.next;
          guard = run.guard;
          device = staged.homed r (next_of n r) c run.next;
          behind = next.first;
          busy = home;
          down = either (is_weak w.mode) (sees_down n r c.device.0) (n.up c.device.0) down;
          kept = kept.order;
        }
          where
            either : (weak sees up : Bool) → ((not weak && sees) || not up) ≡ true → (sees || not up) ≡ true
            either weak sees up h = grind (arith, common_steps)

        may : may_follow w n answer ≡ true → entry_is_clean w n answer ≡ true → MayAdd s answer now s.grips
        may follows clean = told_may s r (next_of n r) now Down follows clean later served (told_holds w n s.grips held r c told) run.act.live next.alone kept.history

        misses : c.must ≡ false → IsTrue (along w (may_follow w) n (answer ∷ [])) → IsTrue (along w (abort_is_justified w) n (answer ∷ [])) → IsTrue (along w (entry_is_clean w) n (answer ∷ [])) → ConfigurationIsKept (added s r now s.grips answer) rounds opened held
        misses free ok shown clean = moves answer refl (may (first_follows w n answer ok) (both (entry_is_clean w n answer) true clean).0) (down_kept w n s.grips held r c told (ap (λ b. b && refutes c.job Down) free))

        dooms : c.must ≡ true → IsTrue (along w (may_follow w) n (answer ∷ doom ∷ [])) → IsTrue (along w (abort_is_justified w) n (answer ∷ doom ∷ [])) → IsTrue (along w (entry_is_clean w) n (answer ∷ doom ∷ []))
            → ConfigurationIsKept (record s { history = s.history ++ kept_by r (answer ∷ doom ∷ []); moment = now }) rounds opened held
        dooms must ok shown clean =
            kept_with_two s rounds opened r now held held s.grips answer doom answers
            (doom_may after r now (MustDown (next_of n r))
            (subst (λ x. may_follow w x doom ≡ true) read_after (first_follows w (entry w n answer) doom follows.1)) (λ first_come. refl)
            (subst (λ x. shows w x r (MustDown (next_of n r)) ≡ true) read_after (both (shows w (entry w n answer) r (MustDown (next_of n r))) true shown).0)
            so_far.moment so_far)
            (probes_told s r now (answer ∷ doom ∷ []) refl) kept.undos (down_doomed_kept w n s.grips held r c (MustDown (next_of n r)) told) kept
          where
            follows : (may_follow w n answer ≡ true) × IsTrue (along w (may_follow w) (entry w n answer) (doom ∷ []))
            follows = both (may_follow w n answer) (along w (may_follow w) (entry w n answer) (doom ∷ [])) ok

            answers : MayAdd s answer now s.grips
            answers = may follows.0 (both (entry_is_clean w n answer) true clean).0

            after : Configuration
            after = added s r now s.grips answer

            so_far : HistoryIsKept after
            so_far = history_added s r now s.grips answer answers kept.history

            read_after : entry w n answer ≡ read_of after
            read_after = sym (read_with s r (answer ∷ []))

-- The start

pub starts : (w : Setting) (rounds opened' : ℕ) → MayOpen w rounds opened' → is_weak w.mode ≡ false → length w.kinds ≡ length w.first → ((d : ℕ) → d < length w.first → IsTrue (has_value (kind_at w.kinds d) (stand_at w.first d).value))
    → ConfigurationIsKept (opened w rounds) rounds opened' (λ d. (stand_at w.first d).value)
starts w rounds opened' opens strong kinds values =
    record {
      opens = opens;
      strong = strong;
      kinds = kinds;
      probes = λ d. few (is_device w d);
      values = values;
      undos = λ d grip e. absurd (cc);
      history = record {
        well_formed = refl;
        moment = omega arith;
        clean = refl;
        justified = refl;
        places = tt;
        isolated = λ strict. refl;
        unrevoked = λ first. refl;
        in_order = λ first. refl;
        followed = none_placed w;
        in_turn = λ r d e. absurd (cc);
        first = λ d grip e. absurd (cc);
      };
      order = starts_kept w (λ r k c at. let home : IsTrue (is_device w c.device.0 && names_values_of (kind_at w.kinds c.device.0) c.job) = opens.homed r k c at in grind (arith, common_steps));
    }
  where
    few : (b : Bool) → 0 + 0 + (if b then rounds else 0) ≤ rounds
    few true = omega arith
    few false = omega arith
