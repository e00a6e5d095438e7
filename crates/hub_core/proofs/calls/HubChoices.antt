-- What the code finds in each case of a step is the choice of the step.
use Rattle.hub_core.proofs.Prelude.{Absent, Bool, Cause, Choice, Command, Commands, Committed, Configuration, DeviceNo, Did, Doomed, Down, DownAtEnd, Ended, Grips, HandsOut, Home, HubIsKept, IsAtCommand, IsKeptByModel, IsSkipped, IsStandingOf, IsToldDown, IsTrue, Moves, MustDown, None, OpenHub, Option, Out, Over, Place, PlacedAt, Point, Purpose, Reading, Revoked, RunNo, Setting, Shown, Slip, Some, Undid, Undoes, Visibility, Waits, WindowParts, [], aborts, answers_down, ap, arith, behind_wait, busy_wait, choice_of, command_at, commands_of, common_steps, configuration_of, decide, decide_answered, decide_command, decide_doomed, device_no, dirty_wait, down_at_end, down_entries, entries_of, false, first_case, grip_in, grip_wait, holds, if◌then◌else◌, is_device, is_doomed, is_live, is_none, is_out, is_run, is_some, is_weak, kind_at, lease_deadline, length, max, names_values_of, next_command, next_is, next_of, next_undo_of, not, not_none, option_map, overdue_for, point, point_of, read_facts, read_of, refl, run_no, sees_down, skip_entries, slip_of, strict_wait, subst, sym, true, unwrap_or, value_without, ℕ, ◌&&◌, ◌<◌, ◌||◌, ◌∙◌, ◌∷◌, ◌≡◌}
use Rattle.hub_core.specs.WeakSteps.{weak_rest}
use Rattle.hub_core.proofs.weak.WeakChoices.{rest_is}
use Rattle.hub_core.proofs.steps.Choices.{Commanding, IsNext, Skipping, known_by}
use Rattle.abort_rollback.specs.declared.undos.Undo.TheVariants.{Drive, Drop, Finished}
use Rattle.abort_rollback.specs.declared.undos.Undo.{Undo}
use Rattle.hub_core.proofs.calls.NextUndos.{undo_of}
use Rattle.hub_core.proofs.windows.StrongChoices.{command_current, command_is, doomed_is, skip_is}
use Rattle.hub_core.specs.Decisions.{current_command, skipped_command, strong_command, strong_doomed, unbarred_command}
use Rattle.history_book.specs.Progress.{progress_of}
use Rattle.history_book.specs.declared.progress.RunProgress.{RunProgress}
use Rattle.hub_core.specs.declared.waits.Why.TheVariants.{Behind, Busy, Dirty, Strict}
use Rattle.lock_leasing.specs.Leases.{overdue_lease}
use Rattle.lock_leasing.specs.Touches.{IsTouchOf, touch_of}
use Rattle.lock_leasing.specs.declared.touches.Touch.TheVariants.{Behind as TouchBehind, Dirty as TouchDirty, Free}
use Rattle.lock_leasing.specs.declared.touches.Touch.{Touch}
use Rattle.visibility_models.specs.Models.{IsDownAtEndOf, IsStrictWaitOf, IsUnderWay, under}

-- The grip and the slip of a place

pub out_by_slip : {D : Type 0} (o : Option (Place D)) (purpose : Purpose) (x : Option Slip) → x ≡ slip_of o → is_some x ≡ is_some (grip_in o purpose)
out_by_slip None purpose x is = rw is refl
out_by_slip (Some (Home device)) purpose x is = rw is refl
out_by_slip (Some (Out slip task)) purpose x is = rw is refl

-- The cases of the next command

-- what the run meets at its device, by the two reasons
abbrev touch_from : Command → Option ℕ → Option ℕ → Touch
touch_from c (Some x) dirty = TouchBehind c.device (run_no x)
touch_from c None (Some x) = TouchDirty c.device (run_no x)
touch_from c None None = Free

touch_is : (w : Setting) (n : Reading) (g : Grips) (r : ℕ) (c : Command) (o p : Option ℕ) → behind_wait (point w n g) r c.device.0 ≡ o → dirty_wait (point w n g) r c ≡ p → touch_of (point w n g) r c ≡ touch_from c o p
touch_is w n g r c (Some x) p behind dirty = rw behind refl
touch_is w n g r c None (Some x) behind dirty = rw (behind, dirty) refl
touch_is w n g r c None None behind dirty = rw (behind, dirty) refl

-- a run that is met is waited for
abbrev waits_for : Touch → Choice
waits_for (TouchBehind d x) = Waits (Behind d x)
waits_for (TouchDirty d x) = Waits (Dirty d x)
waits_for Free = Absent

pub command_behind : (p : Point) (r k : ℕ) (c : Command) (d : DeviceNo) (x : RunNo) → TouchBehind d x ≡ touch_of p r c → Waits (Behind d x) ≡ current_command p r k c
command_behind p r k c d x touch = at_ (behind_wait p r c.device.0) (dirty_wait p r c) refl refl
  where
    at_ : (o q : Option ℕ) → behind_wait p r c.device.0 ≡ o → dirty_wait p r c ≡ q → Waits (Behind d x) ≡ current_command p r k c
    at_ (Some y) q behind dirty = ap waits_for (touch ∙ touch_is p.setting p.reading p.grips r c (Some y) q behind dirty) ∙ sym (rw behind refl)
    at_ None (Some y) behind dirty = absurd (let both : TouchBehind d x ≡ TouchDirty c.device (run_no y) = touch ∙ touch_is p.setting p.reading p.grips r c None (Some y) behind dirty in cc)
    at_ None None behind dirty = absurd (let both : TouchBehind d x ≡ Free = touch ∙ touch_is p.setting p.reading p.grips r c None None behind dirty in cc)

pub command_dirty : (p : Point) (r k : ℕ) (c : Command) (d : DeviceNo) (x : RunNo) → TouchDirty d x ≡ touch_of p r c → Waits (Dirty d x) ≡ current_command p r k c
command_dirty p r k c d x touch = at_ (behind_wait p r c.device.0) (dirty_wait p r c) refl refl
  where
    at_ : (o q : Option ℕ) → behind_wait p r c.device.0 ≡ o → dirty_wait p r c ≡ q → Waits (Dirty d x) ≡ current_command p r k c
    at_ (Some y) q behind dirty = absurd (let both : TouchDirty d x ≡ TouchBehind c.device (run_no y) = touch ∙ touch_is p.setting p.reading p.grips r c (Some y) q behind dirty in cc)
    at_ None (Some y) behind dirty = ap waits_for (touch ∙ touch_is p.setting p.reading p.grips r c None (Some y) behind dirty) ∙ sym (rw (behind, dirty) refl)
    at_ None None behind dirty = absurd (let both : TouchDirty d x ≡ Free = touch ∙ touch_is p.setting p.reading p.grips r c None None behind dirty in cc)

-- a run that meets none
record IsFree (p : Point) (r : ℕ) (c : Command) : Type 0 where
  behind : behind_wait p r c.device.0 ≡ None
  dirty : dirty_wait p r c ≡ None

free_is : (w : Setting) (n : Reading) (g : Grips) (r : ℕ) (c : Command) → Free ≡ touch_of (point w n g) r c → IsFree (point w n g) r c
free_is w n g r c touch = at_ (behind_wait (point w n g) r c.device.0) (dirty_wait (point w n g) r c) refl refl
  where
    at_ : (o p : Option ℕ) → behind_wait (point w n g) r c.device.0 ≡ o → dirty_wait (point w n g) r c ≡ p → IsFree (point w n g) r c
    at_ (Some y) p behind dirty = absurd (let both : Free ≡ TouchBehind c.device (run_no y) = touch ∙ touch_is w n g r c (Some y) p behind dirty in cc)
    at_ None (Some y) behind dirty = absurd (let both : Free ≡ TouchDirty c.device (run_no y) = touch ∙ touch_is w n g r c None (Some y) behind dirty in cc)
    at_ None None behind dirty = record { behind = behind; dirty = dirty }

pub command_strict : (p : Point) (r k : ℕ) (c : Command) (x : RunNo) → Free ≡ touch_of p r c → Some x ≡ option_map run_no (strict_wait p.setting p.reading r) → Waits (Strict x) ≡ current_command p r k c
command_strict p r k c x touch found = at_ (strict_wait p.setting p.reading r) refl
  where
    at_ : (o : Option ℕ) → strict_wait p.setting p.reading r ≡ o → Waits (Strict x) ≡ current_command p r k c
    at_ None e = absurd (let both : Some x ≡ None = found ∙ ap (option_map run_no) e in cc)
    at_ (Some y) e = let free = free_is p.setting p.reading p.grips r c touch in ap (λ o. unwrap_or (option_map (λ z. Waits (Strict z)) o) Absent) (found ∙ ap (option_map run_no) e) ∙ sym (rw (free.behind, free.dirty, e) refl)

-- .. and waits for none by its model
not_strict : (w : Setting) (n : Reading) (r : ℕ) → None ≡ option_map run_no (strict_wait w n r) → strict_wait w n r ≡ None
not_strict w n r none = at_ (strict_wait w n r) refl
  where
    at_ : (o : Option ℕ) → strict_wait w n r ≡ o → strict_wait w n r ≡ None
    at_ None e = e
    at_ (Some y) e = absurd (let both : None ≡ Some (run_no y) = none ∙ ap (option_map run_no) e in cc)

-- .. so it goes, where it skips its next command; else it waits
pub skip_goes : (p : Point) (r k : ℕ) → None ≡ option_map run_no (strict_wait p.setting p.reading r) → Moves (skip_entries r k) ≡ skipped_command p r k
skip_goes p r k none = sym (ap (λ o. first_case (option_map (λ x. Waits (Strict (run_no x))) o ∷ []) (Moves (skip_entries r k))) (not_strict p.setting p.reading r none))

pub skip_waits : (p : Point) (r k : ℕ) (x : RunNo) → Some x ≡ option_map run_no (strict_wait p.setting p.reading r) → Waits (Strict x) ≡ skipped_command p r k
skip_waits p r k x found = at_ (strict_wait p.setting p.reading r) found
  where
    at_ : (o : Option ℕ) → Some x ≡ option_map run_no o → Waits (Strict x) ≡ first_case (option_map (λ y. Waits (Strict (run_no y))) o ∷ []) (Moves (skip_entries r k))
    at_ None f = absurd (cc)
    at_ (Some y) f = ap (λ o. unwrap_or (option_map (λ z. Waits (Strict z)) o) Absent) f

-- .. so nothing bars it but its device
pub command_unbarred : (p : Point) (r k : ℕ) (c : Command) (x : Choice) → Free ≡ touch_of p r c → None ≡ option_map run_no (strict_wait p.setting p.reading r) → x ≡ unbarred_command p r k c → x ≡ current_command p r k c
command_unbarred p r k c x touch none is = let free = free_is p.setting p.reading p.grips r c touch in is ∙ sym (rw (free.behind, free.dirty, not_strict p.setting p.reading r none) refl)

pub unbarred_seen : (p : Point) (r k : ℕ) (c : Command) → is_weak p.setting.mode ≡ false → sees_down p.reading r c.device.0 ≡ true → Moves (down_entries r k c) ≡ unbarred_command p r k c
unbarred_seen p r k c strong seen = sym (rw (strong, seen) refl)

pub unbarred_busy : (p : Point) (r k : ℕ) (c : Command) → is_weak p.setting.mode ≡ false → sees_down p.reading r c.device.0 ≡ false → is_out p.grips c.device.0 ≡ true → Waits (Busy c.device) ≡ unbarred_command p r k c
unbarred_busy p r k c strong unseen out = sym (rw (strong, unseen, out) refl)

pub unbarred_down : (p : Point) (r k : ℕ) (c : Command) → is_weak p.setting.mode ≡ false → sees_down p.reading r c.device.0 ≡ false → is_out p.grips c.device.0 ≡ false → p.reading.up c.device.0 ≡ false → Moves (down_entries r k c) ≡ unbarred_command p r k c
unbarred_down p r k c strong unseen home down = sym (rw (strong, unseen, home, down) refl)

pub unbarred_goes : (p : Point) (r k : ℕ) (c : Command) → is_weak p.setting.mode ≡ false → sees_down p.reading r c.device.0 ≡ false → is_out p.grips c.device.0 ≡ false → p.reading.up c.device.0 ≡ true → HandsOut c.device.0 (Commands k) ≡ unbarred_command p r k c
unbarred_goes p r k c strong unseen home up = sym (rw (strong, unseen, home, up) refl)

-- .. where no lease is overdue; one that is gets revoked

pub command_revokes : (p : Point) (r m k : ℕ) (c : Command) (borrower : RunNo) (deadline : ℕ) → Some (borrower, deadline) ≡ overdue_lease p r c.device.0 m → Moves (Doomed borrower (Revoked (run_no r) c.device deadline m) ∷ []) ≡ strong_command p r m k c
command_revokes p r m k c borrower deadline is = at_ (overdue_for p r c.device.0 m) refl
  where
    revoked : Option (RunNo × ℕ) → Choice
    revoked o = unwrap_or (option_map (λ q. Moves (Doomed q.0 (Revoked (run_no r) c.device q.1 m) ∷ [])) o) Absent

    at_ : (o : Option ℕ) → overdue_for p r c.device.0 m ≡ o → Moves (Doomed borrower (Revoked (run_no r) c.device deadline m) ∷ []) ≡ strong_command p r m k c
    at_ None e = absurd (let both : Some (borrower, deadline) ≡ None = is ∙ ap (option_map (λ x. (run_no x, lease_deadline p.setting p.reading x c.device.0))) e in cc)
    at_ (Some x) e = ap revoked (is ∙ ap (option_map (λ y. (run_no y, lease_deadline p.setting p.reading y c.device.0))) e) ∙ sym (rw e refl)

pub command_stays : (p : Point) (r m k : ℕ) (c : Command) (x : Choice) → None ≡ overdue_lease p r c.device.0 m → x ≡ current_command p r k c → x ≡ strong_command p r m k c
command_stays p r m k c x none is = is ∙ sym (command_current p r m k c (at_ (overdue_for p r c.device.0 m) refl))
  where
    at_ : (o : Option ℕ) → overdue_for p r c.device.0 m ≡ o → overdue_for p r c.device.0 m ≡ None
    at_ None e = e
    at_ (Some y) e = absurd (let both : None ≡ Some (run_no y, lease_deadline p.setting p.reading y c.device.0) = none ∙ ap (option_map (λ z. (run_no z, lease_deadline p.setting p.reading z c.device.0))) e in cc)

-- what was told of the hub's own parts

pub touch_said : (s : Configuration) (parts : WindowParts) (r k : ℕ) (c : Command)
    (touch : Touch) → IsStandingOf s parts → IsAtCommand s r k → command_at s.setting.runs r k ≡ c
    → IsTouchOf parts r k touch
    → touch ≡ touch_of (point_of s) r c
touch_said s parts r k c touch stands turn command told = told s stands turn ∙ ap (touch_of (point_of s) r) (ap (λ x. command_at x r k) (sym stands.its_roster) ∙ command)

pub strict_said : (s : Configuration) (parts : WindowParts) (r : ℕ) (model : Visibility) (run : Option RunNo) → IsStandingOf s parts → model ≡ s.setting.mode.model → IsStrictWaitOf model parts r run
    → run ≡ option_map run_no (strict_wait s.setting (read_of s) r)
strict_said s parts r model run stands same told = told s stands ∙ ap (λ m. option_map run_no (strict_wait (under m s.setting) (read_of s) r)) same

pub down_said : (s : Configuration) (parts : WindowParts) (r : ℕ) (model : Visibility)
    (device : Option DeviceNo) → IsStandingOf s parts → model ≡ s.setting.mode.model → IsDownAtEndOf model parts r device
    → device ≡ option_map device_no (down_at_end (point_of s) r)
down_said s parts r model device stands same told = told s stands ∙ ap (λ m. option_map device_no (down_at_end (point (under m s.setting) (read_of s) s.grips) r)) same

-- The end of a run with all its commands answered

pub answered_fails : (p : Point) (r : ℕ) (d : DeviceNo) → Some d ≡ option_map device_no (down_at_end p r) → Moves (Doomed (run_no r) (DownAtEnd d) ∷ []) ≡ decide_answered p r
answered_fails p r d found = at (down_at_end p r) found
  where
    at : (o : Option ℕ) → Some d ≡ option_map device_no o → Moves (Doomed (run_no r) (DownAtEnd d) ∷ []) ≡ unwrap_or (option_map (λ e. Moves (Doomed (run_no r) (DownAtEnd (device_no e)) ∷ [])) o) (Over Committed (Ended (run_no r) Committed ∷ []))
    at None f = absurd (cc)
    at (Some e) f = ap (λ o. unwrap_or (option_map (λ x. Moves (Doomed (run_no r) (DownAtEnd x) ∷ [])) o) Absent) f

pub answered_commits : (p : Point) (r : ℕ) → None ≡ option_map device_no (down_at_end p r) → Over Committed (Ended (run_no r) Committed ∷ []) ≡ decide_answered p r
answered_commits p r none = at (down_at_end p r) none
  where
    at : (o : Option ℕ) → None ≡ option_map device_no o → Over Committed (Ended (run_no r) Committed ∷ []) ≡ unwrap_or (option_map (λ e. Moves (Doomed (run_no r) (DownAtEnd (device_no e)) ∷ [])) o) (Over Committed (Ended (run_no r) Committed ∷ []))
    at None f = refl
    at (Some e) f = absurd (cc)

-- The cases of a doomed run

-- what the lineage table tells, of a run in a configuration with this next device
abbrev undo_by : Reading → (ℕ → ℕ) → Option ℕ → Undo
undo_by n without o = unwrap_or (option_map (λ d. if n.up d then Drive (device_no d) (without d) else Drop (device_no d)) o) Finished

-- the device is driven ..
pub record IsDriven (p : Point) (r d v : ℕ) : Type 0 where
  pub next : next_undo_of p r ≡ Some d
  pub up : p.reading.up d ≡ true
  pub value : v ≡ value_without p r d

pub driven_is : (p : Point) (r : ℕ) (d : DeviceNo) (v : ℕ) → Drive d v ≡ undo_of p r → IsDriven p r d.0 v
driven_is p r d v told = by_next (next_undo_of p r) refl told
  where
    same_device : (e : ℕ) → Drive d v ≡ Drive (device_no e) (value_without p r e) → e ≡ d.0
    same_device e t = sym (ap (λ (x : DeviceNo). x.0) (first_of t))
      where
        first_of : Drive d v ≡ Drive (device_no e) (value_without p r e) → d ≡ device_no e
        first_of f = cc

    same_value : (e : ℕ) → Drive d v ≡ Drive (device_no e) (value_without p r e) → v ≡ value_without p r e
    same_value e t = cc

    at : (e : ℕ) → next_undo_of p r ≡ Some e → (b : Bool) → p.reading.up e ≡ b → Drive d v ≡ (if b then Drive (device_no e) (value_without p r e) else Drop (device_no e)) → IsDriven p r d.0 v
    at e next true up t = let same = same_device e t in record { next = next ∙ ap (λ x. Some x) same; up = sym (ap p.reading.up same) ∙ up; value = same_value e t ∙ ap (value_without p r) same }
    at e next false up t = absurd (cc)

    by_next : (o : Option ℕ) → next_undo_of p r ≡ o → Drive d v ≡ undo_by p.reading (value_without p r) o → IsDriven p r d.0 v
    by_next None next t = absurd (cc)
    by_next (Some e) next t = at e next (p.reading.up e) refl t

-- .. or is counted down, and the write there is dropped
pub record IsDropped (p : Point) (r d : ℕ) : Type 0 where
  pub next : next_undo_of p r ≡ Some d
  pub down : p.reading.up d ≡ false

pub dropped_is : (p : Point) (r : ℕ) (d : DeviceNo) → Drop d ≡ undo_of p r → IsDropped p r d.0
dropped_is p r d told = by_next (next_undo_of p r) refl told
  where
    same_device : (e : ℕ) → Drop d ≡ Drop (device_no e) → e ≡ d.0
    same_device e t = sym (ap (λ (x : DeviceNo). x.0) (only_of t))
      where
        only_of : Drop d ≡ Drop (device_no e) → d ≡ device_no e
        only_of f = cc

    at : (e : ℕ) → next_undo_of p r ≡ Some e → (b : Bool) → p.reading.up e ≡ b → Drop d ≡ (if b then Drive (device_no e) (value_without p r e) else Drop (device_no e)) → IsDropped p r d.0
    at e next true up t = absurd (cc)
    at e next false down t = let same = same_device e t in record { next = next ∙ ap (λ x. Some x) same; down = sym (ap p.reading.up same) ∙ down }

    by_next : (o : Option ℕ) → next_undo_of p r ≡ o → Drop d ≡ undo_by p.reading (value_without p r) o → IsDropped p r d.0
    by_next None next t = absurd (cc)
    by_next (Some e) next t = at e next (p.reading.up e) refl t

pub doomed_busy : (p : Point) (r : ℕ) (cause : Cause) (d : DeviceNo) → next_undo_of p r ≡ Some d.0 → is_out p.grips d.0 ≡ true → Waits (Busy d) ≡ strong_doomed p r cause
doomed_busy p r cause d next out = sym (rw (next, out) refl)

pub doomed_goes : (p : Point) (r : ℕ) (cause : Cause) (d : DeviceNo) (v : ℕ) → IsDriven p r d.0 v → is_out p.grips d.0 ≡ false → HandsOut d.0 (Undoes v) ≡ strong_doomed p r cause
doomed_goes p r cause d v driven home = ap (λ x. HandsOut d.0 (Undoes x)) driven.value ∙ sym (rw (driven.next, home, driven.up) refl)

pub doomed_drops : (p : Point) (r : ℕ) (cause : Cause) (d : DeviceNo) → IsDropped p r d.0 → is_out p.grips d.0 ≡ false → Moves (Undid (run_no r) d false ∷ []) ≡ strong_doomed p r cause
doomed_drops p r cause d dropped home = sym (rw (dropped.next, home, dropped.down) refl)

pub doomed_ends : (p : Point) (r : ℕ) (cause : Cause) → Finished ≡ undo_of p r → aborts r cause ≡ strong_doomed p r cause
doomed_ends p r cause told = sym (rw (none (next_undo_of p r) told) refl)
  where
    either : (b : Bool) (e : ℕ) → Finished ≡ (if b then Drive (device_no e) (value_without p r e) else Drop (device_no e)) → ⊥
    either true e t = absurd (cc)
    either false e t = absurd (cc)

    none : (o : Option ℕ) → Finished ≡ undo_by p.reading (value_without p r) o → o ≡ None
    none None t = refl
    none (Some e) t = absurd (either (p.reading.up e) e t)

-- The cases of a run

pub case_answered : (p : Point) (r m : ℕ) (x : Choice) → is_run p.setting.runs r ≡ true → (p.reading.run r).ended ≡ None → None ≡ grip_wait p.setting p.grips r → is_none (p.reading.run r).arrived ≡ false → is_none (p.reading.run r).placed ≡ false
    → (p.reading.run r).doomed ≡ None → None ≡ next_command p.setting p.reading r → x ≡ decide_answered p r → x ≡ decide p r m
case_answered p r m x run going free there placed sound none is = is ∙ sym (rw (run, going, ← free, there, placed, sound, ← none) refl)

pub case_doomed : (p : Point) (r m : ℕ) (cause : Cause) (x : Choice) → is_run p.setting.runs r ≡ true → (p.reading.run r).ended ≡ None → None ≡ grip_wait p.setting p.grips r → is_none (p.reading.run r).arrived ≡ false → is_none (p.reading.run r).placed ≡ false
    → (p.reading.run r).doomed ≡ Some cause → x ≡ decide_doomed p r cause → x ≡ decide p r m
case_doomed p r m cause x run going free there placed doomed is = is ∙ sym (rw (run, going, ← free, there, placed, doomed) refl)

pub case_command : (p : Point) (r m : ℕ) (c : Command) (x : Choice) → is_run p.setting.runs r ≡ true → (p.reading.run r).ended ≡ None → None ≡ grip_wait p.setting p.grips r → is_none (p.reading.run r).arrived ≡ false → is_none (p.reading.run r).placed ≡ false
    → (p.reading.run r).doomed ≡ None → Some c ≡ next_command p.setting p.reading r → x ≡ decide_command p r m (next_of p.reading r) c → x ≡ decide p r m
case_command p r m c x run going free there placed sound next is = is ∙ sym (rw (run, going, ← free, there, placed, sound, ← next) refl)

-- The last cases, of a run that is under way, by what is kept of it

-- a run with a stamp was placed
was_placed : (o : Option PlacedAt) → is_some (option_map (λ p. p.stamp) o) ≡ true → is_some o ≡ true
was_placed None e = absurd (cc)
was_placed (Some p) e = refl

pub hub_answers : {D : Type 0} (s t : OpenHub D) (r m : ℕ) (p : RunProgress) (x : Choice) → s ≡ t → is_weak s.setting.mode ≡ false
    → true ≡ is_run s.setting.runs r → p ≡ progress_of ((read_of (configuration_of s)).run r) → p.ended ≡ None → None ≡ grip_wait t.setting (configuration_of t).grips r
    → is_some p.arrived ≡ true → is_some p.placed ≡ true → p.doomed ≡ None → None ≡ next_command s.setting (read_of (configuration_of s)) r
    → x ≡ decide_answered (point_of (configuration_of t)) r
    → x ≡ choice_of (configuration_of t) r m
hub_answers {D = D} s t r m p x same strong run known going free there placed sound none is =
    case_answered (point_of (configuration_of s)) r (max s.moment m) x (sym run)
    (ap (λ (y : RunProgress). y.ended) (sym known) ∙ going)
    (free ∙ ap (λ (y : OpenHub D). grip_wait y.setting (configuration_of y).grips r) (sym same))
    (not_none ((read_of (configuration_of s)).run r).arrived (ap (λ (y : RunProgress). is_some y.arrived) (sym known) ∙ there))
    (not_none ((read_of (configuration_of s)).run r).placed (was_placed ((read_of (configuration_of s)).run r).placed (ap (λ (y : RunProgress). is_some y.placed) (sym known) ∙ placed)))
    (ap (λ (y : RunProgress). y.doomed) (sym known) ∙ sound)
    none
    (is ∙ ap (λ (y : OpenHub D). decide_answered (point_of (configuration_of y)) r) (sym same))
    ∙ ap (λ (y : OpenHub D). choice_of (configuration_of y) r m) same

-- .. that goes on with its next command
hub_goes_on : {D : Type 0} (s t : OpenHub D) (r m : ℕ) (p : RunProgress) (c : Command) (x : Choice) → s ≡ t
    → true ≡ is_run s.setting.runs r → p ≡ progress_of ((read_of (configuration_of s)).run r) → p.ended ≡ None → None ≡ grip_wait t.setting (configuration_of t).grips r
    → is_some p.arrived ≡ true → is_some p.placed ≡ true → p.doomed ≡ None → Some c ≡ next_command s.setting (read_of (configuration_of s)) r
    → x ≡ decide_command (point_of (configuration_of s)) r (max s.moment m) (next_of (read_of (configuration_of s)) r) c
    → x ≡ choice_of (configuration_of t) r m
hub_goes_on {D = D} s t r m p c x same run known going free there placed sound next is =
    case_command (point_of (configuration_of s)) r (max s.moment m) c x (sym run)
    (ap (λ (y : RunProgress). y.ended) (sym known) ∙ going)
    (free ∙ ap (λ (y : OpenHub D). grip_wait y.setting (configuration_of y).grips r) (sym same))
    (not_none ((read_of (configuration_of s)).run r).arrived (ap (λ (y : RunProgress). is_some y.arrived) (sym known) ∙ there))
    (not_none ((read_of (configuration_of s)).run r).placed (was_placed ((read_of (configuration_of s)).run r).placed (ap (λ (y : RunProgress). is_some y.placed) (sym known) ∙ placed)))
    (ap (λ (y : RunProgress). y.doomed) (sym known) ∙ sound)
    next is
    ∙ ap (λ (y : OpenHub D). choice_of (configuration_of y) r m) same

pub hub_commands : {D : Type 0} (s t : OpenHub D) (r m k v : ℕ) (p : RunProgress) (c : Command) (x : Choice) → s ≡ t → is_weak s.setting.mode ≡ false
    → true ≡ is_run s.setting.runs r → p ≡ progress_of ((read_of (configuration_of s)).run r) → p.ended ≡ None → None ≡ grip_wait t.setting (configuration_of t).grips r
    → is_some p.arrived ≡ true → is_some p.placed ≡ true → p.doomed ≡ None → Some c ≡ next_command s.setting (read_of (configuration_of s)) r → k ≡ next_of (read_of (configuration_of s)) r → v ≡ ((read_of (configuration_of s)).run r).register → holds c.when v ≡ true
    → x ≡ strong_command (point_of (configuration_of t)) r (max t.moment m) k c
    → x ≡ choice_of (configuration_of t) r m
hub_commands {D = D} s t r m k v p c x same strong run known going free there placed sound next number value guard is =
    hub_goes_on s t r m p c x same run known going free there placed sound next
    (is ∙ ap (λ (y : OpenHub D). strong_command (point_of (configuration_of y)) r (max y.moment m) k c) (sym same) ∙ ap (λ j. strong_command (point_of (configuration_of s)) r (max s.moment m) j c) number
    ∙ sym (command_is (point_of (configuration_of s)) r (max s.moment m) (next_of (read_of (configuration_of s)) r) c strong (ap (holds c.when) (sym value) ∙ guard)))

-- .. or skips it
pub hub_skips : {D : Type 0} (s t : OpenHub D) (r m k v : ℕ) (p : RunProgress) (c : Command) (x : Choice) → s ≡ t
    → true ≡ is_run s.setting.runs r → p ≡ progress_of ((read_of (configuration_of s)).run r) → p.ended ≡ None → None ≡ grip_wait t.setting (configuration_of t).grips r
    → is_some p.arrived ≡ true → is_some p.placed ≡ true → p.doomed ≡ None → Some c ≡ next_command s.setting (read_of (configuration_of s)) r → k ≡ next_of (read_of (configuration_of s)) r → v ≡ ((read_of (configuration_of s)).run r).register → holds c.when v ≡ false
    → x ≡ skipped_command (point_of (configuration_of t)) r k
    → x ≡ choice_of (configuration_of t) r m
hub_skips {D = D} s t r m k v p c x same run known going free there placed sound next number value guard is =
    hub_goes_on s t r m p c x same run known going free there placed sound next
    (is ∙ ap (λ (y : OpenHub D). skipped_command (point_of (configuration_of y)) r k) (sym same) ∙ ap (λ j. skipped_command (point_of (configuration_of s)) r j) number
    ∙ sym (skip_is (point_of (configuration_of s)) r (max s.moment m) (next_of (read_of (configuration_of s)) r) c (ap (holds c.when) (sym value) ∙ guard)))

pub hub_dooms : {D : Type 0} (s t : OpenHub D) (r m : ℕ) (p : RunProgress) (cause : Cause) (x : Choice) → s ≡ t → is_weak s.setting.mode ≡ false
    → true ≡ is_run s.setting.runs r → p ≡ progress_of ((read_of (configuration_of s)).run r) → p.ended ≡ None → None ≡ grip_wait t.setting (configuration_of t).grips r
    → is_some p.arrived ≡ true → is_some p.placed ≡ true → p.doomed ≡ Some cause
    → x ≡ strong_doomed (point_of (configuration_of t)) r cause
    → x ≡ choice_of (configuration_of t) r m
hub_dooms {D = D} s t r m p cause x same strong run known going free there placed doomed is =
    case_doomed (point_of (configuration_of s)) r (max s.moment m) cause x (sym run)
    (ap (λ (y : RunProgress). y.ended) (sym known) ∙ going)
    (free ∙ ap (λ (y : OpenHub D). grip_wait y.setting (configuration_of y).grips r) (sym same))
    (not_none ((read_of (configuration_of s)).run r).arrived (ap (λ (y : RunProgress). is_some y.arrived) (sym known) ∙ there))
    (not_none ((read_of (configuration_of s)).run r).placed (was_placed ((read_of (configuration_of s)).run r).placed (ap (λ (y : RunProgress). is_some y.placed) (sym known) ∙ placed)))
    (ap (λ (y : RunProgress). y.doomed) (sym known) ∙ doomed)
    (is ∙ ap (λ (y : OpenHub D). strong_doomed (point_of (configuration_of y)) r cause) (sym same) ∙ sym (doomed_is (point_of (configuration_of s)) r cause strong))
    ∙ ap (λ (y : OpenHub D). choice_of (configuration_of y) r m) same

-- .. under the weak model
case_rest : (w : Setting) (n : Reading) (g : Grips) (r m : ℕ) (x : Choice) → is_run w.runs r ≡ true → (n.run r).ended ≡ None → None ≡ grip_wait w g r
    → is_none (n.run r).arrived ≡ false → is_none (n.run r).placed ≡ false → is_weak w.mode ≡ true → x ≡ weak_rest (point w n g) r
    → x ≡ decide (point w n g) r m
case_rest w n g r m x run going free there placed weak is = is ∙ sym (rest_is w n g r m weak) ∙ sym (rw (run, going, ← free, there, placed) refl)

pub hub_weakly : {D : Type 0} (s t : OpenHub D) (r m : ℕ) (p : RunProgress) (x : Choice) → s ≡ t → is_weak s.setting.mode ≡ true
    → true ≡ is_run s.setting.runs r → p ≡ progress_of ((read_of (configuration_of s)).run r) → p.ended ≡ None → None ≡ grip_wait t.setting (configuration_of t).grips r
    → is_some p.arrived ≡ true → is_some p.placed ≡ true → x ≡ weak_rest (point_of (configuration_of t)) r
    → x ≡ choice_of (configuration_of t) r m
hub_weakly {D = D} s t r m p x same weak run known going free there placed is =
    case_rest s.setting (read_of (configuration_of s)) (configuration_of s).grips r (max s.moment m) x (sym run)
    (ap (λ (y : RunProgress). y.ended) (sym known) ∙ going)
    (free ∙ ap (λ (y : OpenHub D). grip_wait y.setting (configuration_of y).grips r) (sym same))
    (not_none ((read_of (configuration_of s)).run r).arrived (ap (λ (y : RunProgress). is_some y.arrived) (sym known) ∙ there))
    (not_none ((read_of (configuration_of s)).run r).placed (was_placed ((read_of (configuration_of s)).run r).placed (ap (λ (y : RunProgress). is_some y.placed) (sym known) ∙ placed)))
    weak (is ∙ ap (λ (y : OpenHub D). weak_rest (point_of (configuration_of y)) r) (sym same))
    ∙ ap (λ (y : OpenHub D). choice_of (configuration_of y) r m) same

pub rest_downs : (p : Point) (r : ℕ) (c : Command) → (p.reading.run r).doomed ≡ None → next_command p.setting p.reading r ≡ Some c
    → holds c.when (p.reading.run r).register ≡ true → is_out p.grips c.device.0 ≡ false → p.reading.up c.device.0 ≡ false
    → Moves (down_entries r (next_of p.reading r) c) ≡ weak_rest p r
rest_downs p r c sound next guard home down = sym (rw (sound, next, guard, home, down) refl)

-- a run that has a place, by its progress, is placed
pub placed_before : {D : Type 0} (s t : OpenHub D) (r : ℕ) (p : RunProgress) → s ≡ t → p ≡ progress_of ((read_of (configuration_of s)).run r) → is_some p.placed ≡ true → ((read_of (configuration_of t)).run r).placed ≡ None → ⊥
placed_before {D = D} s t r p same known placed none =
    let is : is_some ((read_of (configuration_of s)).run r).placed ≡ true = was_placed ((read_of (configuration_of s)).run r).placed (ap (λ (x : RunProgress). is_some x.placed) (sym known) ∙ placed) in
    let gone : is_some ((read_of (configuration_of s)).run r).placed ≡ false = ap (λ (x : OpenHub D). is_some ((read_of (configuration_of x)).run r).placed) same ∙ ap is_some none in
    absurd (let both : true ≡ false = sym is ∙ gone in cc)

-- the run is live
pub hub_is_live : {D : Type 0} (s t : OpenHub D) (r : ℕ) (p : RunProgress) → s ≡ t → p ≡ progress_of ((read_of (configuration_of s)).run r) → p.ended ≡ None → is_some p.placed ≡ true → is_live (read_of (configuration_of t)) r ≡ true
hub_is_live {D = D} s t r p same known going placed =
    subst (λ (x : OpenHub D). is_live (read_of (configuration_of x)) r ≡ true) same
    (λ i. (was_placed ((read_of (configuration_of s)).run r).placed (ap (λ (x : RunProgress). is_some x.placed) (sym known) ∙ placed)) i && is_none ((ap (λ (x : RunProgress). x.ended) (sym known) ∙ going) i))

-- .. and under way, where it is not doomed
pub hub_under_way : {D : Type 0} (s t : OpenHub D) (r : ℕ) (p : RunProgress) → s ≡ t → p ≡ progress_of ((read_of (configuration_of s)).run r) → p.ended ≡ None → is_some p.placed ≡ true → p.doomed ≡ None → IsUnderWay (read_of (configuration_of t)) r
hub_under_way {D = D} s t r p same known going placed sound = record {
  live = hub_is_live s t r p same known going placed;
  sound = ap (λ (x : OpenHub D). is_doomed (read_of (configuration_of x)) r) (sym same) ∙ ap (λ (x : RunProgress). is_some x.doomed) (sym known) ∙ ap is_some sound;
}

-- A run that ends aborted

-- it is live, doomed for this cause, and has nothing left to undo
pub record IsAborting (s : Configuration) (r : ℕ) (cause : Cause) : Type 0 where
  pub live : is_live (read_of s) r ≡ true
  pub doomed : ((read_of s).run r).doomed ≡ Some cause
  pub over : is_weak s.setting.mode ≡ false → next_undo_of (point_of s) r ≡ None

pub aborting : (s : Configuration) (rounds opened : ℕ) (held : ℕ → ℕ) (r m : ℕ) (cause : Cause) → IsKeptByModel s rounds opened held → choice_of s r m ≡ aborts r cause → IsAborting s r cause
aborting s rounds opened held r m cause kept is =
    let known = known_by s r m (aborts r cause) is in record { live = known.0.live; doomed = known.1; over = known.2 }

-- so the table tells that its undos are finished
pub finished_is : (s : Configuration) (r : ℕ) (cause : Cause) → is_weak s.setting.mode ≡ false → IsAborting s r cause → undo_of (point_of s) r ≡ Finished
finished_is s r cause strong ends = ap (undo_by (read_of s) (value_without (point_of s) r)) (ends.over strong)

-- the run is at its next command, whose guard holds
pub hub_at_command : {D : Type 0} (shows : D → Shown) (s t : OpenHub D) (r k v : ℕ) (p : RunProgress) (c : Command) → s ≡ t
    → HubIsKept shows s → p ≡ progress_of ((read_of (configuration_of s)).run r) → p.ended ≡ None → is_some p.placed ≡ true
    → p.doomed ≡ None → Some c ≡ next_command s.setting (read_of (configuration_of s)) r → k ≡ next_of (read_of (configuration_of s)) r
    → v ≡ ((read_of (configuration_of s)).run r).register → holds c.when v ≡ true
    → IsAtCommand (configuration_of t) r k × (command_at t.setting.runs r k ≡ c)
hub_at_command {D = D} shows s t r k v p c same kept known going placed sound next number value guard =
    subst (λ (x : OpenHub D). IsAtCommand (configuration_of x) r k × (command_at x.setting.runs r k ≡ c)) same (
      record {
        live = λ i. (was_placed ((read_of (configuration_of s)).run r).placed (ap (λ (x : RunProgress). is_some x.placed) (sym known) ∙ placed)) i && is_none ((ap (λ (x : RunProgress). x.ended) (sym known) ∙ going) i);
        sound = ap is_some (ap (λ (x : RunProgress). x.doomed) (sym known) ∙ sound);
        next = sym number;
        command = subst (λ y. y < length (commands_of s.setting.runs r)) (sym number) there.0;
        guard = (λ i. holds ((ap (command_at s.setting.runs r) number ∙ there.1) i).when (sym value i)) ∙ guard;
      },
      ap (command_at s.setting.runs r) number ∙ there.1,
    )
  where
    there : (next_of (read_of (configuration_of s)) r < length (commands_of s.setting.runs r)) × (command_at s.setting.runs r (next_of (read_of (configuration_of s)) r) ≡ c)
    there = next_is (commands_of s.setting.runs r) (next_of (read_of (configuration_of s)) r) c (sym next)

-- A run whose write is dropped

-- it is live, and the device is one of the home
pub record IsDropping (s : Configuration) (r d : ℕ) : Type 0 where
  pub live : is_live (read_of s) r ≡ true
  pub device : is_device s.setting d ≡ true

pub dropping : (s : Configuration) (rounds opened : ℕ) (held : ℕ → ℕ) (r m d : ℕ) → IsKeptByModel s rounds opened held → choice_of s r m ≡ Moves (Undid (run_no r) (device_no d) false ∷ []) → IsDropping s r d
dropping s rounds opened held r m d kept is =
    let known = known_by s r m (Moves (Undid (run_no r) (device_no d) false ∷ [])) is in record { live = known.1.act.live; device = known.1.device }

-- A run that is told Down with no call

-- the command of this number is its next one, which is so answered
pub record IsAnsweringDown (s : Configuration) (held : ℕ → ℕ) (r k : ℕ) : Type 0 where
  pub number : k ≡ next_of (read_of s) r
  pub within : k < length (commands_of s.setting.runs r)
  pub live : is_live (read_of s) r ≡ true
  pub free : grip_wait s.setting s.grips r ≡ None
  pub device : is_device s.setting (command_at s.setting.runs r k).device.0 ≡ true
  pub told : is_weak s.setting.mode ≡ false → IsToldDown s.setting (read_of s) s.grips held r (command_at s.setting.runs r k)

-- the next command of a run is on a device of the home
next_homed : (s : Configuration) (rounds opened : ℕ) (held : ℕ → ℕ) (r : ℕ) (c : Command) → IsKeptByModel s rounds opened held → next_command s.setting (read_of s) r ≡ Some c → is_device s.setting c.device.0 ≡ true
next_homed s rounds opened held r c kept next = let home : IsTrue (is_device s.setting c.device.0 && names_values_of (kind_at s.setting.kinds c.device.0) c.job) = kept.opens.homed r (next_of (read_of s) r) c next in grind (arith, common_steps)

pub answering : (s : Configuration) (rounds opened : ℕ) (held : ℕ → ℕ) (r m k : ℕ) (must : Bool) → IsKeptByModel s rounds opened held → choice_of s r m ≡ Moves (Did (run_no r) k Down ∷ (if must then Doomed (run_no r) (MustDown k) ∷ [] else [])) → IsAnsweringDown s held r k
answering s rounds opened held r m k must kept is =
    let known = known_by s r m (Moves (Did (run_no r) k Down ∷ (if must then Doomed (run_no r) (MustDown k) ∷ [] else []))) is in
    next_down known.0 known.1 known.2 known.3 known.4 known.5
  where
    n : Reading
    n = read_of s

    told_by : (weak sees down : Bool) → ((not weak && sees) || down) ≡ true → (sees || down) ≡ true
    told_by weak sees down h = grind (arith, common_steps)

    next_down : (c : Command) → Commanding (point s.setting n s.grips) r c → (is_weak s.setting.mode ≡ false → IsNext (point s.setting n s.grips) r (max s.moment m) c)
        → busy_wait (point s.setting n s.grips) r c.device.0 ≡ false → answers_down s.setting n r c.device.0 ≡ true → k ≡ next_of n r → IsAnsweringDown s held r k
    next_down c run next home down same =
        let there = next_is (commands_of s.setting.runs r) (next_of n r) c run.next in
        let command : c ≡ command_at s.setting.runs r k = sym there.1 ∙ ap (command_at s.setting.runs r) (sym same) in
        record {
          number = same;
          within = subst (λ x. x < length (commands_of s.setting.runs r)) (sym same) there.0;
          live = run.act.live;
          free = run.act.free;
          device = subst (λ (x : Command). is_device s.setting x.device.0 ≡ true) command (next_homed s rounds opened held r c kept run.next);
          told = λ strong. subst (IsToldDown s.setting n s.grips held r) command (record {
            read = read_facts s.setting (entries_of s.history) kept.history.well_formed;
            strong = strong;
            live = run.act.live;
            sound = run.sound;
            free = run.act.free;
            next = run.next;
            guard = run.guard;
            device = next_homed s rounds opened held r c kept run.next;
            behind = (next strong).first;
            busy = home;
            down = told_by (is_weak s.setting.mode) (sees_down n r c.device.0) (not (n.up c.device.0)) down;
            kept = (kept.ordered strong).order;
          });
        }

-- A run that skips its next command

-- the command of this number is its next one, which is skipped
pub record IsSkipping (s : Configuration) (held : ℕ → ℕ) (r k : ℕ) : Type 0 where
  pub number : k ≡ next_of (read_of s) r
  pub within : k < length (commands_of s.setting.runs r)
  pub live : is_live (read_of s) r ≡ true
  pub device : is_device s.setting (command_at s.setting.runs r (next_of (read_of s) r)).device.0 ≡ true
  pub skipped : is_weak s.setting.mode ≡ false → IsSkipped s.setting (read_of s) s.grips held r (command_at s.setting.runs r (next_of (read_of s) r))

pub skipping : (s : Configuration) (rounds opened : ℕ) (held : ℕ → ℕ) (r m k : ℕ) → IsKeptByModel s rounds opened held → choice_of s r m ≡ Moves (skip_entries r k) → IsSkipping s held r k
skipping s rounds opened held r m k kept is = let known = known_by s r m (Moves (skip_entries r k)) is in next_skipped known.0 known.1 known.2
  where
    n : Reading
    n = read_of s

    next_skipped : (c : Command) → Skipping (point s.setting n s.grips) r c → k ≡ next_of n r → IsSkipping s held r k
    next_skipped c skip same =
        let there = next_is (commands_of s.setting.runs r) (next_of n r) c skip.next in
        record {
          number = same;
          within = subst (λ x. x < length (commands_of s.setting.runs r)) (sym same) there.0;
          live = skip.act.live;
          device = subst (λ (x : Command). is_device s.setting x.device.0 ≡ true) (sym there.1) (next_homed s rounds opened held r c kept skip.next);
          skipped = λ strong. subst (IsSkipped s.setting n s.grips held r) (sym there.1) (record {
            read = read_facts s.setting (entries_of s.history) kept.history.well_formed;
            live = skip.act.live;
            sound = skip.sound;
            free = skip.act.free;
            next = skip.next;
            guard = skip.guard;
            device = next_homed s rounds opened held r c kept skip.next;
            kept = (kept.ordered strong).order;
          });
        }

-- A run that is doomed at its end

-- it is live, and holds no grip
pub record IsFailing (s : Configuration) (r : ℕ) : Type 0 where
  pub live : is_live (read_of s) r ≡ true
  pub free : grip_wait s.setting s.grips r ≡ None

pub failing : (s : Configuration) (rounds opened : ℕ) (held : ℕ → ℕ) (r m : ℕ) (d : DeviceNo) → IsKeptByModel s rounds opened held → choice_of s r m ≡ Moves (Doomed (run_no r) (DownAtEnd d) ∷ []) → IsFailing s r
failing s rounds opened held r m d kept is =
    let known = known_by s r m (Moves (Doomed (run_no r) (DownAtEnd d) ∷ [])) is in record { live = known.act.live; free = known.act.free }
