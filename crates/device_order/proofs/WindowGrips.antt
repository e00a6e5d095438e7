-- The steps in which a grip or a probe goes out or comes home keep the invariant of the window.
use Rattle.device_order.proofs.Prelude.{Back, Bool, ChangesInPlace, Command, CommandGoesOut, CommandOut, DeviceChange, DeviceInvariant, DeviceRecord, DeviceRestarted, DeviceRestarts, EventsAreHomed, Failed, Failure, Free, HeldGrip, IsStill, Item, KeepsAnswers, KeepsElsewhere, KeepsRuns, Kind, List, MayUndo, None, Occurred, Option, OrderEntry, Probe, ProbeDied, ProbeDies, ProbeFindsDown, ProbeFindsUp, ProbeFoundDown, ProbeFoundUp, ProbeGoesOut, ProbeOut, Reads, Restart, RunInvariant, RunState, RunStates, Some, UndoAnswered, UndoDied, UndoDies, UndoDropped, UndoGoesOut, UndoIsAnswered, UndoIsDropped, UndoOut, Undoes, Unprobed, Usage, Used, WindowInvariant, WindowModel, Writes, ap, arith, command_grip, commands_of, common_steps, device_no, device_record, device_summary, entries, false, has_pending, holds_command, if◌then◌else◌, is_read, is_some, is_write_settled, last_in_effect, length, line_with_event, not, option_map, probe_for, reads, refl, rest, spans_up, stage_is_committed, stage_is_doomed, stage_of, stand_at, standing_value_on, subst, sym, true, usage, uses_device, walk_after, with_event, ℕ, ◌&&◌, ◌++◌, ◌<◌, ◌∙◌, ◌∷◌, ◌≡◌, ◌≢◌}
use Rattle.device_order.proofs.Changes.{keeps}
use Rattle.device_order.proofs.InPlace.{acted, entries_before, evented, events_event, next_used, same_run, same_usage, stepped, two_places}
use Rattle.device_order.proofs.LineEntries.{entries_event, entries_event_off, entries_join}
use Rattle.device_order.proofs.LineWords.{WritesLast, effective_entries, has_entries, stand_line, writer_cut}
use Rattle.device_order.proofs.SerialLines.{event_here, event_there}
use Rattle.device_order.proofs.WindowAnswers.{home_at, homed_failure, pends_counts}
use Rattle.std.specs.Option.{option_map_or}

-- a run changes at one device in what it undid there and what it holds the grip for, and the line may get an event of the device
record AtOneDevice (kinds : List Kind) (s s' : WindowModel) (r d : ℕ) (L : List Item) : Type 0 where
  place : ChangesInPlace (record s { line = L }) s' r
  off : (e : ℕ) → e ≢ d → entries kinds s.states e L ≡ entries kinds s.states e s.line
  homed : EventsAreHomed (length s.first) L
  keeps : KeepsElsewhere (s.states r) (s'.states r) d
  still : (e : ℕ) → e ≢ d → IsStill s s' e
  used : uses_device d (s.states r).commands ≡ true
  change : DeviceChange (device_record kinds s d) (record (device_record kinds s d) {
    order = entries kinds s.states d place.front ++ Used (record (usage kinds (s.states r) d) { undid = (s'.states r).undid d; grip = (s'.states r).grip d }) ∷ entries kinds s.states d place.back;
    up = s'.up d;
    held = s'.held d;
    probe = s'.probe d;
  })

at_one_device : (kinds : List Kind) (s s' : WindowModel) (r d : ℕ) (L : List Item) → AtOneDevice kinds s s' r d L → WindowInvariant kinds s → WindowInvariant kinds s'
at_one_device kinds s s' r d L w o =
    let l : RunState = s.states r in
    let u : Usage = usage kinds l d in
    let same : KeepsAnswers l (s'.states r) = record { commands = w.keeps.commands; answers = w.keeps.answers } in
    let stage : (q : ℕ) → stage_of (s'.states r).committed (s'.states r).doomed (uses_device q (rest l)) ≡ (usage kinds l q).stage = λ q. λ i. stage_of (w.keeps.committed i) (w.keeps.doomed i) (uses_device q (rest l)) in
    acted kinds s s' r d L false w.place w.off w.still (λ q n. same_usage kinds l (s'.states r) q (usage kinds l q).stage (l.undid q) (l.grip q) same (stage q) (w.keeps.undid q n) (w.keeps.grip q n)) w.homed
    (same_run kinds (length s.first) l (s'.states r) same (λ h. sym w.keeps.doomed ∙ h) (λ h. (w.keeps.doomed ∙ ((o.runs r).whole (sym w.keeps.committed ∙ h)).0, ((o.runs r).whole (sym w.keeps.committed ∙ h)).1)) (o.runs r))
    (stepped kinds s s' r d L w.place (record u { undid = (s'.states r).undid d; grip = (s'.states r).grip d }) (s'.up d) (s'.held d) (s'.probe d) w.used (same_usage kinds l (s'.states r) d u.stage ((s'.states r).undid d) ((s'.states r).grip d) same (stage d) refl refl) refl refl refl w.change) o

-- the device that a change leaves, in other words
changed : (d : DeviceRecord) (a b : List OrderEntry) (u : Usage) (y y' : Bool) (g g' : HeldGrip) (up up' : Bool) (held held' : ℕ) (probe probe' : Probe) → y' ≡ y → g' ≡ g → up' ≡ up → held' ≡ held → probe' ≡ probe
    → DeviceChange d (record d { order = a ++ Used (record u { undid = y; grip = g }) ∷ b; up = up; held = held; probe = probe })
    → DeviceChange d (record d { order = a ++ Used (record u { undid = y'; grip = g' }) ∷ b; up = up'; held = held'; probe = probe' })
changed d a b u y y' g g' up up' held held' probe probe' ey eg eu eh ep c =
    subst (DeviceChange d) (λ i. record d { order = a ++ Used (record u { undid = sym ey i; grip = sym eg i }) ∷ b; up = sym eu i; held = sym eh i; probe = sym ep i }) c

-- the effective write is a committed run's, or there is none
settled_line : (kinds : List Kind) (states : RunStates) (d : ℕ) (o : Option ℕ) → option_map_or (λ q. (states q).committed) o true ≡ true → is_write_settled (option_map (λ q. usage kinds (states q) d) o) ≡ true
settled_line kinds states d None h = refl
settled_line kinds states d (Some q) h = one (states q).committed (states q).doomed (uses_device d (rest (states q))) h
  where
    one : (a x p : Bool) → a ≡ true → stage_is_committed (stage_of a x p) ≡ true
    one a x p h = grind (arith, common_steps)

pub command_out : (kinds : List Kind) (s s' : WindowModel) (r : ℕ) (c : Command) (ds : List Command) → CommandGoesOut kinds s s' r c ds → WindowInvariant kinds s → WindowInvariant kinds s'
command_out kinds s s' r c ds w o = at_one_device kinds s s' r d s.line (record {
  place = w.place;
  off = λ e n. refl;
  homed = o.events;
  keeps = w.keeps;
  still = λ e n. w.still e;
  used = used;
  change = changed (device_record kinds s d) a b u (l.undid d) ((s'.states r).undid d) (command_grip c.job) ((s'.states r).grip d) (s.up d) (s'.up d) (s.held d) (s'.held d) (s.probe d) (s'.probe d) w.undid w.out (w.still d).up (w.still d).held (w.still d).probe
      (CommandOut a b u (command_grip c.job) (entries_before kinds s s' r d w.place used) (pends_counts l c ds w.next w.live w.counts)
      (home_at kinds s d w.home) w.up w.view (has_entries kinds s.states d has_pending w.place.front ∙ w.none_before) (command (reads c.job))
      (λ h. ap is_write_settled (effective_entries kinds s.states d None w.place.front)
      ∙ settled_line kinds s.states d (last_in_effect kinds s.states d None w.place.front)
      (w.clean (first (reads c.job) (device_summary kinds l d).wrote h) (unwritten (reads c.job) (device_summary kinds l d).wrote h))));
}) o
  where
    d : ℕ
    d = c.device.0

    l : RunState
    l = s.states r

    u : Usage
    u = usage kinds l d

    a : List OrderEntry
    a = entries kinds s.states d w.place.front

    b : List OrderEntry
    b = entries kinds s.states d w.place.back

    used : uses_device d l.commands ≡ true
    used = next_used l c ds w.next

    command : (x : Bool) → holds_command (if x then Reads else Writes) ≡ true
    command true = refl
    command false = refl

    first : (x : Bool) (v : Option ℕ) → (is_read (if x then Reads else Writes) && not (is_some v)) ≡ true → x ≡ true
    first x v h = grind (arith, common_steps)

    unwritten : (x : Bool) (v : Option ℕ) → (is_read (if x then Reads else Writes) && not (is_some v)) ≡ true → v ≡ None
    unwritten x v h = grind (arith, common_steps)

doomed_live : (a x p : Bool) → a ≡ false → x ≡ true → stage_is_doomed (stage_of a x p) ≡ true
doomed_live a x p h g = grind (arith, common_steps)

-- a run that may be undone has the last write in effect
undone : (kinds : List Kind) (s s' : WindowModel) (r d : ℕ) (m : ChangesInPlace s s' r) → MayUndo kinds s r d → WritesLast kinds s.states d r m.back
undone kinds s s' r d m w = writer_cut kinds s.states d r m.front m.back m.before m.behind (sym (ap (last_in_effect kinds s.states d None) m.at) ∙ w.effective)

pub undo_out : (kinds : List Kind) (s s' : WindowModel) (r d : ℕ) → UndoGoesOut kinds s s' r d → WindowInvariant kinds s → WindowInvariant kinds s'
undo_out kinds s s' r d w o = at_one_device kinds s s' r d s.line (record {
  place = w.place;
  off = λ e n. refl;
  homed = o.events;
  keeps = w.keeps;
  still = λ e n. w.still e;
  used = last.uses;
  change =
      changed (device_record kinds s d) a b u (l.undid d) ((s'.states r).undid d) (Undoes (walk_after (device_record kinds s d) (a ++ b)).stand)
      ((s'.states r).grip d) (s.up d) (s'.up d) (s.held d) (s'.held d) (s.probe d) (s'.probe d) w.undid (w.out ∙ ap (λ v. Undoes v) (sym value)) (w.still d).up
      (w.still d).held (w.still d).probe
      (UndoOut a b u (entries_before kinds s s' r d w.place last.uses) (doomed_live l.committed l.doomed (uses_device d (rest l)) w.may.live w.may.doomed) last.effect last.none_behind (home_at kinds s d w.may.home) w.up);
}) o
  where
    l : RunState
    l = s.states r

    u : Usage
    u = usage kinds l d

    a : List OrderEntry
    a = entries kinds s.states d w.place.front

    b : List OrderEntry
    b = entries kinds s.states d w.place.back

    last : WritesLast kinds s.states d r w.place.back
    last = undone kinds s s' r d w.place w.may

    value : (walk_after (device_record kinds s d) (a ++ b)).stand ≡ standing_value_on kinds s.states d (stand_at s.first d).value (w.place.front ++ w.place.back)
    value = ap (λ l. (walk_after (device_record kinds s d) l).stand) (sym (entries_join kinds s.states d w.place.front w.place.back)) ∙ stand_line kinds s.states d (stand_at s.first d).value (stand_at s.first d).up (w.place.front ++ w.place.back)

pub undo_dropped : (kinds : List Kind) (s s' : WindowModel) (r d : ℕ) → UndoIsDropped kinds s s' r d → WindowInvariant kinds s → WindowInvariant kinds s'
undo_dropped kinds s s' r d w o = at_one_device kinds s s' r d s.line (record {
  place = w.place;
  off = λ e n. refl;
  homed = o.events;
  keeps = w.keeps;
  still = λ e n. w.still e;
  used = last.uses;
  change =
      changed (device_record kinds s d) (entries kinds s.states d w.place.front) (entries kinds s.states d w.place.back) u true ((s'.states r).undid d)
      (l.grip d) ((s'.states r).grip d) (s.up d) (s'.up d) (s.held d) (s'.held d) (s.probe d) (s'.probe d) w.undid w.grip (w.still d).up (w.still d).held
      (w.still d).probe
      (UndoDropped (entries kinds s.states d w.place.front) (entries kinds s.states d w.place.back) u (entries_before kinds s s' r d w.place last.uses)
      (doomed_live l.committed l.doomed (uses_device d (rest l)) w.may.live w.may.doomed) last.effect last.none_behind (home_at kinds s d w.may.home) w.down);
}) o
  where
    l : RunState
    l = s.states r

    u : Usage
    u = usage kinds l d

    last : WritesLast kinds s.states d r w.place.back
    last = undone kinds s s' r d w.place w.may

pub undo_answered : (kinds : List Kind) (s s' : WindowModel) (r d v : ℕ) → UndoIsAnswered s s' r d v → WindowInvariant kinds s → WindowInvariant kinds s'
undo_answered kinds s s' r d v w o = at_one_device kinds s s' r d s.line (record {
  place = w.place;
  off = λ e n. refl;
  homed = o.events;
  keeps = w.keeps;
  still = w.still;
  used = w.used;
  change =
      changed (device_record kinds s d) (entries kinds s.states d w.place.front) (entries kinds s.states d w.place.back) (usage kinds (s.states r) d) true
      ((s'.states r).undid d) Free ((s'.states r).grip d) (s.up d) (s'.up d) v (s'.held d) (s.probe d) (s'.probe d) w.undid w.free w.up w.held w.probe
      (UndoAnswered (entries kinds s.states d w.place.front) (entries kinds s.states d w.place.back) (usage kinds (s.states r) d) v (entries_before kinds s s' r d w.place w.used) w.out);
}) o

pub undo_died : (kinds : List Kind) (s s' : WindowModel) (r d k v : ℕ) → UndoDies kinds s s' r d k v → WindowInvariant kinds s → WindowInvariant kinds s'
undo_died kinds s s' r d k v w o = at_one_device kinds s s' r d (line_with_event kinds s.states d (Failed (device_no d) k) s.line) (record {
  place = w.place;
  off = λ e n. entries_event_off kinds s.states e d (Failed (device_no d) k) s.line (event_there d e (Occurred Failure) n);
  homed = homed_failure kinds s d k w.homed o;
  keeps = w.keeps;
  still = w.still;
  used = w.used;
  change =
      changed (device_record kinds s d) (entries kinds s.states d w.place.front) (entries kinds s.states d w.place.back) (usage kinds (s.states r) d) true
      ((s'.states r).undid d) Free ((s'.states r).grip d) false (s'.up d) (s'.held d) (s'.held d) (s.probe d) (s'.probe d) w.undid w.free w.up refl w.probe
      (UndoDied (entries kinds s.states d w.place.front) (entries kinds s.states d w.place.back) (usage kinds (s.states r) d) v (s'.held d)
      (evented kinds s s' r d (Failed (device_no d) k) Failure w.place w.used (event_here d d (Occurred Failure) refl)) w.out);
}) o

-- a device changes at a probe, and the line may get an event of it
record AtProbe (kinds : List Kind) (s s' : WindowModel) (d : ℕ) (L : List Item) : Type 0 where
  line : s'.line ≡ L
  keeps : KeepsRuns s s' d
  off : (e : ℕ) → e ≢ d → entries kinds s.states e L ≡ entries kinds s.states e s.line
  homed : EventsAreHomed (length s.first) L
  change : DeviceChange (device_record kinds s d) (record (device_record kinds s d) { order = entries kinds s.states d L; up = s'.up d; held = s'.held d; probe = s'.probe d })

-- where no run changes, the runs are as they were
pub same_runs : (kinds : List Kind) (s s' : WindowModel) → ((q : ℕ) → s'.states q ≡ s.states q) → s'.first ≡ s.first → WindowInvariant kinds s → (q : ℕ) → RunInvariant kinds (length s'.first) (s'.states q)
same_runs kinds s s' states first o q = subst (λ (l : RunState). RunInvariant kinds (length s'.first) l) (sym (states q)) (subst (λ x. RunInvariant kinds (length x) (s.states q)) (sym first) (o.runs q))

pub same_commands : (kinds : List Kind) (s s' : WindowModel) → ((q : ℕ) → s'.states q ≡ s.states q) → s'.runs ≡ s.runs → WindowInvariant kinds s → (q : ℕ) → (s'.states q).commands ≡ commands_of s'.runs q
same_commands kinds s s' states runs o q = ap (λ (l : RunState). l.commands) (states q) ∙ o.commands q ∙ ap (λ x. commands_of x q) (sym runs)

at_probe : (kinds : List Kind) (s s' : WindowModel) (d : ℕ) (L : List Item) → AtProbe kinds s s' d L → WindowInvariant kinds s → WindowInvariant kinds s'
at_probe kinds s s' d L w o = record {
  devices = λ q lt. two_places (λ q. DeviceInvariant (device_record kinds s q) → DeviceInvariant (device_record kinds s' q)) q d
      (λ i. subst DeviceInvariant (λ e. record { order = entries kinds (states e) d (sym w.line e); first_up = (stand_at (sym w.keeps.first e) d).up; first = (stand_at (sym w.keeps.first e) d).value; up = s'.up d; held = s'.held d; probe = s'.probe d })
      (keeps (device_record kinds s d) (record (device_record kinds s d) { order = entries kinds s.states d L; up = s'.up d; held = s'.held d; probe = s'.probe d }) w.change i))
      (λ n i. subst DeviceInvariant (λ e. record {
        order = (sym (w.off q n) ∙ (λ e. entries kinds (states e) q (sym w.line e))) e;
        first_up = (stand_at (sym w.keeps.first e) q).up;
        first = (stand_at (sym w.keeps.first e) q).value;
        up = sym (w.keeps.still q n).up e;
        held = sym (w.keeps.still q n).held e;
        probe = sym (w.keeps.still q n).probe e;
      }) i)
      (o.devices q (subst (λ x. q < length x) w.keeps.first lt));
  runs = same_runs kinds s s' w.keeps.states w.keeps.first o;
  commands = same_commands kinds s s' w.keeps.states w.keeps.runs o;
  events = subst (EventsAreHomed (length s'.first)) (sym w.line) (subst (λ x. EventsAreHomed (length x) L) (sym w.keeps.first) w.homed);
}
  where
    states : s.states ≡ s'.states
    states = λ e q. sym (w.keeps.states q) e

-- the device that a change leaves at a probe, in other words
probed : (d : DeviceRecord) (xs ys : List OrderEntry) (up up' : Bool) (held held' : ℕ) (probe probe' : Probe) → ys ≡ xs → up' ≡ up → held' ≡ held → probe' ≡ probe
    → DeviceChange d (record d { order = xs; up = up; held = held; probe = probe }) → DeviceChange d (record d { order = ys; up = up'; held = held'; probe = probe' })
probed d xs ys up up' held held' probe probe' ex eu eh ep c = subst (DeviceChange d) (λ i. record d { order = sym ex i; up = sym eu i; held = sym eh i; probe = sym ep i }) c

pub probe_out : (kinds : List Kind) (s s' : WindowModel) (d : ℕ) → ProbeGoesOut kinds s s' d → WindowInvariant kinds s → WindowInvariant kinds s'
probe_out kinds s s' d w o = at_probe kinds s s' d s.line (record {
  line = w.line;
  keeps = w.keeps;
  off = λ e n. refl;
  homed = o.events;
  change = probed (device_record kinds s d) (entries kinds s.states d s.line) (entries kinds s.states d s.line) (s.up d) (s'.up d) (s.held d) (s'.held d) (probe_for (s.up d) (walk_after (device_record kinds s d) (entries kinds s.states d s.line)).stand) (s'.probe d) refl w.up w.held
      (w.probe ∙ ap (probe_for (s.up d)) (sym (stand_line kinds s.states d (stand_at s.first d).value (stand_at s.first d).up s.line))) (ProbeOut (home_at kinds s d w.home));
}) o

pub probe_found_up : (kinds : List Kind) (s s' : WindowModel) (d : ℕ) → ProbeFindsUp s s' d → WindowInvariant kinds s → WindowInvariant kinds s'
probe_found_up kinds s s' d w o = at_probe kinds s s' d s.line (record {
  line = w.line;
  keeps = w.keeps;
  off = λ e n. refl;
  homed = o.events;
  change = probed (device_record kinds s d) (entries kinds s.states d s.line) (entries kinds s.states d s.line) (s.up d) (s'.up d) (s.held d) (s'.held d) Unprobed (s'.probe d) refl w.up w.held w.probe (ProbeFoundUp w.out);
}) o

pub probe_found_down : (kinds : List Kind) (s s' : WindowModel) (d v : ℕ) → ProbeFindsDown s s' d v → WindowInvariant kinds s → WindowInvariant kinds s'
probe_found_down kinds s s' d v w o = at_probe kinds s s' d s.line (record {
  line = w.line;
  keeps = w.keeps;
  off = λ e n. refl;
  homed = o.events;
  change = probed (device_record kinds s d) (entries kinds s.states d s.line) (entries kinds s.states d s.line) (s.up d) (s'.up d) (s'.held d) (s'.held d) Unprobed (s'.probe d) refl w.up refl w.probe (ProbeFoundDown v (s'.held d) w.out);
}) o

pub probe_died : (kinds : List Kind) (s s' : WindowModel) (d k : ℕ) → ProbeDies kinds s s' d k → WindowInvariant kinds s → WindowInvariant kinds s'
probe_died kinds s s' d k w o = at_probe kinds s s' d (line_with_event kinds s.states d (Failed (device_no d) k) s.line) (record {
  line = w.line;
  keeps = w.keeps;
  off = λ e n. entries_event_off kinds s.states e d (Failed (device_no d) k) s.line (event_there d e (Occurred Failure) n);
  homed = homed_failure kinds s d k w.homed o;
  change = probed (device_record kinds s d) (with_event Failure (entries kinds s.states d s.line)) (entries kinds s.states d (line_with_event kinds s.states d (Failed (device_no d) k) s.line)) false (s'.up d) (s'.held d) (s'.held d) Unprobed (s'.probe d)
      (entries_event kinds s.states d Failure (Failed (device_no d) k) s.line (event_here d d (Occurred Failure) refl)) w.up refl w.probe (ProbeDied (s'.held d) w.out (has_entries kinds s.states d spans_up s.line ∙ w.none));
}) o

homed_restart : (kinds : List Kind) (s : WindowModel) (d k : ℕ) → d < length s.first → WindowInvariant kinds s → EventsAreHomed (length s.first) (line_with_event kinds s.states d (Back (device_no d) k) s.line)
unfolding EventsAreHomed
homed_restart kinds s d k lt o = events_event kinds s.states (length s.first) d (Back (device_no d) k) s.line (lt, tt) o.events

pub device_restarted : (kinds : List Kind) (s s' : WindowModel) (d k v : ℕ) → DeviceRestarts kinds s s' d k v → WindowInvariant kinds s → WindowInvariant kinds s'
device_restarted kinds s s' d k v w o = at_probe kinds s s' d (line_with_event kinds s.states d (Back (device_no d) k) s.line) (record {
  line = w.line;
  keeps = w.keeps;
  off = λ e n. entries_event_off kinds s.states e d (Back (device_no d) k) s.line (event_there d e (Occurred Restart) n);
  homed = homed_restart kinds s d k w.homed o;
  change = probed (device_record kinds s d) (with_event Restart (entries kinds s.states d s.line)) (entries kinds s.states d (line_with_event kinds s.states d (Back (device_no d) k) s.line)) true (s'.up d) v (s'.held d) Unprobed (s'.probe d)
      (entries_event kinds s.states d Restart (Back (device_no d) k) s.line (event_here d d (Occurred Restart) refl)) w.up w.held w.probe (DeviceRestarted v w.out);
}) o
