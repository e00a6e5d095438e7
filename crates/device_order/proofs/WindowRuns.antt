-- The steps in which a run is placed, doomed, committed or aborted keep the invariant of the window.
use Rattle.device_order.proofs.Prelude.{AnswersFit, AreHomed, Back, Bool, Command, Committed, DeviceInvariant, Done, EventsAreHomed, Failed, Failure, Free, HasDoneNothing, HeldGrip, Item, KeepsAnswers, Kind, List, NoCommandFails, None, Occurred, Option, OrderEntry, ProbeDiedUnderRun, ProbeDiesUnderRun, Ran, RunAborted, RunCommits, RunCommitted, RunDoomed, RunInvariant, RunIsDoomed, RunIsPlaced, RunLeaves, RunPlaced, RunState, Unprobed, Usage, Used, View, WindowInvariant, WindowModel, WindowStarts, [], and_parts, answered_commands, ap, arith, blank, both_ways, common_steps, device_no, device_record, doomed_stage, entries, false, is_free, is_up, last_in_effect, length, line_with_event, new_usage, not, paired, refl, remaining, rest, run_no, spans_up, stage_is_doomed, stage_is_open, stage_of, stand_at, subst, summary, sym, true, usage, uses_device, ℕ, ◌&&◌, ◌++◌, ◌<◌, ◌∙◌, ◌∷◌, ◌≡◌, ◌≤◌}
use Rattle.device_order.proofs.Changes.{keeps}
use Rattle.device_order.proofs.Claims.{begins}
use Rattle.device_order.proofs.InPlace.{acted, entries_before, evented, events_insert, off_device, same_run, same_usage, stepped, window_keeps}
use Rattle.device_order.proofs.LineEntries.{entries_changed, entries_event_off, entries_join, entries_lack, unused_at, used_at}
use Rattle.device_order.proofs.LineWords.{calm_entries, writer_not}
use Rattle.device_order.proofs.NewAnswers.{length_done, rest_none}
use Rattle.device_order.proofs.SerialLines.{event_here, event_there}
use Rattle.device_order.proofs.WindowAnswers.{homed_failure}
use Rattle.device_order.proofs.WindowGrips.{same_commands, same_runs}

-- a run that commits: the same at each of its devices
commit_device : (kinds : List Kind) (s s' : WindowModel) (r d : ℕ) → RunCommits s s' r → DeviceInvariant (device_record kinds s d) → DeviceInvariant (device_record kinds s' d)
commit_device kinds s s' r d w i = at_ (uses_device d l.commands) refl
  where
    l : RunState
    l = s.states r

    u : Usage
    u = usage kinds l d

    done : u.stage ≡ Done
    done = λ i. stage_of (w.live i) (w.counts i) (uses_device d (w.done i))

    at_ : (b : Bool) → uses_device d l.commands ≡ b → DeviceInvariant (device_record kinds s' d)
    at_ true used = stepped kinds s s' r d s.line w.place (record u { stage = Committed }) (s.up d) (s.held d) (s.probe d) used
        (same_usage kinds l (s'.states r) d Committed (l.undid d) (l.grip d) (record { commands = w.keeps.commands; answers = w.keeps.answers })
        (λ i. stage_of (w.committed i) (s'.states r).doomed (uses_device d (rest l))) (w.keeps.undid d) (w.keeps.grip d)) (w.still d).up (w.still d).held
        (w.still d).probe
        (RunCommitted (entries kinds s.states d w.place.front) (entries kinds s.states d w.place.back) u (entries_before kinds s s' r d w.place used) done) i
    at_ false used = subst DeviceInvariant (sym (off_device kinds s s' r d w.place (w.still d) used)) i

pub run_commits : (kinds : List Kind) (s s' : WindowModel) (r : ℕ) → RunCommits s s' r → WindowInvariant kinds s → WindowInvariant kinds s'
run_commits kinds s s' r w o =
    window_keeps kinds s s' r w.place.first w.place.runs w.place.others w.place.commands (subst (EventsAreHomed (length s.first)) (sym w.place.line) o.events) o
    (same_run kinds (length s.first) (s.states r) (s'.states r) (record { commands = w.keeps.commands; answers = w.keeps.answers }) (λ h. w.counts) (λ h. (w.doomed, length_done (s.states r).commands (s.states r).answers w.done (o.runs r).size)) (o.runs r))
    (λ d lt. commit_device kinds s s' r d w (o.devices d lt))

stage_doomed : (a x p a' x' : Bool) → a ≡ false → a' ≡ false → x' ≡ true → stage_of a' x' p ≡ doomed_stage (stage_of a x p)
stage_doomed a x p a' x' h g e = grind (arith, common_steps)

pub run_doomed : (kinds : List Kind) (s s' : WindowModel) (r : ℕ) → RunIsDoomed s s' r → WindowInvariant kinds s → WindowInvariant kinds s'
run_doomed kinds s s' r w o =
    window_keeps kinds s s' r w.place.first w.place.runs w.place.others w.place.commands (subst (EventsAreHomed (length s.first)) (sym w.place.line) o.events) o
    (same_run kinds (length s.first) l (s'.states r) same (λ h. absurd (both_ways (s'.states r).doomed h w.doomed)) (λ h. absurd (both_ways (s'.states r).committed w.committed h)) (o.runs r))
    (λ d lt. at_ d (o.devices d lt) (uses_device d l.commands) refl)
  where
    l : RunState
    l = s.states r

    same : KeepsAnswers l (s'.states r)
    same = record { commands = w.keeps.commands; answers = w.keeps.answers }

    at_ : (d : ℕ) → DeviceInvariant (device_record kinds s d) → (b : Bool) → uses_device d l.commands ≡ b → DeviceInvariant (device_record kinds s' d)
    at_ d i true used = let u : Usage = usage kinds l d in
        stepped kinds s s' r d s.line w.place (record u { stage = doomed_stage u.stage }) (s.up d) (s.held d) (s.probe d) used
        (same_usage kinds l (s'.states r) d (doomed_stage u.stage) (l.undid d) (l.grip d) same
        (stage_doomed l.committed l.doomed (uses_device d (rest l)) (s'.states r).committed (s'.states r).doomed w.live w.committed w.doomed) (w.keeps.undid d)
        (w.keeps.grip d)) (w.still d).up (w.still d).held (w.still d).probe
        (RunDoomed (entries kinds s.states d w.place.front) (entries kinds s.states d w.place.back) u (entries_before kinds s s' r d w.place used)) i
    at_ d i false used = subst DeviceInvariant (sym (off_device kinds s s' r d w.place (w.still d) used)) i

-- the run that a probe's failure dooms is live
spans_live : (a x p : Bool) (b : Option View) → (stage_is_open (stage_of a x p) && is_up b) ≡ true → a ≡ false
spans_live a x p b h = grind (arith, common_steps)

pub probe_died_under_run : (kinds : List Kind) (s s' : WindowModel) (r d k : ℕ) → ProbeDiesUnderRun kinds s s' r d k → WindowInvariant kinds s → WindowInvariant kinds s'
probe_died_under_run kinds s s' r d k w o =
    acted kinds s s' r d L true w.place (λ q ne. entries_event_off kinds s.states q d (Failed (device_no d) k) s.line (event_there d q (Occurred Failure) ne)) w.still
    (λ q ne. same_usage kinds l (s'.states r) q (doomed_stage (usage kinds l q).stage) (l.undid q) (l.grip q) same (stage q) (w.keeps.undid q) (w.keeps.grip q)) (homed_failure kinds s d k w.homed o)
    (same_run kinds (length s.first) l (s'.states r) same (λ h. absurd (both_ways (s'.states r).doomed h w.doomed)) (λ h. absurd (both_ways (s'.states r).committed w.committed h)) (o.runs r))
    (stepped kinds s s' r d L w.place (record u { stage = doomed_stage u.stage }) false (s'.held d) Unprobed used (same_usage kinds l (s'.states r) d (doomed_stage u.stage) (l.undid d) (l.grip d) same (stage d) (w.keeps.undid d) (w.keeps.grip d)) w.up refl w.probe
    (ProbeDiedUnderRun (entries kinds s.states d w.place.front) (entries kinds s.states d w.place.back) u (s'.held d) w.out (evented kinds s s' r d (Failed (device_no d) k) Failure w.place used (event_here d d (Occurred Failure) refl)) spans)) o
  where
    l : RunState
    l = s.states r

    L : List Item
    L = line_with_event kinds s.states d (Failed (device_no d) k) s.line

    u : Usage
    u = usage kinds l d

    used : uses_device d l.commands ≡ true
    used = (and_parts (uses_device d l.commands) (spans_up u) w.spans).0

    spans : spans_up u ≡ true
    spans = (and_parts (uses_device d l.commands) (spans_up u) w.spans).1

    same : KeepsAnswers l (s'.states r)
    same = record { commands = w.keeps.commands; answers = w.keeps.answers }

    stage : (q : ℕ) → stage_of (s'.states r).committed (s'.states r).doomed (uses_device q (rest l)) ≡ doomed_stage (usage kinds l q).stage
    stage q = stage_doomed l.committed l.doomed (uses_device q (rest l)) (s'.states r).committed (s'.states r).doomed (spans_live l.committed l.doomed (uses_device d (rest l)) u.view spans) w.committed w.doomed

events_remove : (n r : ℕ) (a b : List Item) → EventsAreHomed n (a ++ Ran (run_no r) ∷ b) → EventsAreHomed n (a ++ b)
unfolding EventsAreHomed
events_remove n r [] b h = h
events_remove n r (Ran q ∷ a) b h = events_remove n r a b h
events_remove n r (Failed e k ∷ a) b h = (h.0, events_remove n r a b h.1)
events_remove n r (Back e k ∷ a) b h = (h.0, events_remove n r a b h.1)

pub run_leaves_line : (kinds : List Kind) (s s' : WindowModel) (r : ℕ) → RunLeaves kinds s s' r → WindowInvariant kinds s → WindowInvariant kinds s'
run_leaves_line kinds s s' r w o = record {
  devices = λ d lt. at_ d (o.devices d (subst (λ x. d < length x) w.first lt)) (uses_device d l.commands) refl;
  runs = same_runs kinds s s' w.states w.first o;
  commands = same_commands kinds s s' w.states w.runs o;
  events = subst (λ x. EventsAreHomed (length x) s'.line) (sym w.first) (subst (EventsAreHomed (length s.first)) (sym w.line) (events_remove (length s.first) r w.front w.back (subst (EventsAreHomed (length s.first)) w.at o.events)));
}
  where
    l : RunState
    l = s.states r

    stage : (a x p : Bool) → a ≡ false → x ≡ true → stage_is_doomed (stage_of a x p) ≡ true
    stage a x p h g = grind (arith, common_steps)

    free : (g : HeldGrip) → g ≡ Free → not (is_free g) ≡ false
    free g h = grind (arith, common_steps)

    then_ : (d : ℕ) → device_record kinds s' d ≡ record (device_record kinds s d) { order = entries kinds s.states d (w.front ++ w.back) }
    then_ d = λ i. record { order = entries kinds (λ q. w.states q i) d (w.line i); first_up = (stand_at (w.first i) d).up; first = (stand_at (w.first i) d).value; up = (w.still d).up i; held = (w.still d).held i; probe = (w.still d).probe i }

    at_ : (d : ℕ) → DeviceInvariant (device_record kinds s d) → (b : Bool) → uses_device d l.commands ≡ b → DeviceInvariant (device_record kinds s' d)
    at_ d i true used =
        let u : Usage = usage kinds l d in
        let a : List OrderEntry = entries kinds s.states d w.front in
        let b : List OrderEntry = entries kinds s.states d w.back in
        subst DeviceInvariant (sym (then_ d ∙ ap (λ x. record (device_record kinds s d) { order = x }) (entries_join kinds s.states d w.front w.back)))
        (keeps (device_record kinds s d) (record (device_record kinds s d) { order = a ++ b })
        (RunAborted a b u (ap (entries kinds s.states d) w.at ∙ used_at kinds s.states d r w.front w.back used) (stage l.committed l.doomed (uses_device d (rest l)) w.live w.doomed) (free (l.grip d) (w.free d used))
        (writer_not kinds s.states d r w.front w.back (λ e. w.undone d used (ap (last_in_effect kinds s.states d None) w.at ∙ e)) used)) i)
    at_ d i false used =
        subst DeviceInvariant (sym (then_ d ∙ ap (λ x. record (device_record kinds s d) { order = x }) (sym (unused_at kinds s.states d r w.front w.back used) ∙ ap (entries kinds s.states d) (sym w.at)))) i

paired_none : (cs : List Command) → paired cs [] ≡ []
unfolding paired
paired_none [] = refl
paired_none (c ∷ cs) = refl

pub new_run : (kinds : List Kind) (n : ℕ) (l : RunState) → HasDoneNothing l → AreHomed n l.commands → RunInvariant kinds n l
unfolding AnswersFit NoCommandFails
new_run kinds n l w h = record {
  homed = h;
  size = subst (λ xs. length xs ≤ length l.commands) (sym w.answers) (omega arith);
  fit = λ g. subst (AnswersFit kinds blank) (sym none) tt;
  none_fails = λ g. subst NoCommandFails (sym none) tt;
  whole = λ g. absurd (both_ways l.committed w.committed g);
}
  where
    none : answered_commands l ≡ []
    none = ap (paired l.commands) w.answers ∙ paired_none l.commands

pub run_placed : (kinds : List Kind) (s s' : WindowModel) (r : ℕ) → RunIsPlaced kinds s s' r → WindowInvariant kinds s → WindowInvariant kinds s'
unfolding summary
run_placed kinds s s' r w o =
    window_keeps kinds s s' r w.first w.runs w.others w.commands (subst (EventsAreHomed (length s.first)) (sym w.line) (events_insert (length s.first) r w.front w.back (subst (EventsAreHomed (length s.first)) w.at o.events))) o
    (new_run kinds (length s.first) l w.new (subst (AreHomed (length s.first)) (sym w.commands) (o.runs r).homed))
    (λ d lt. at_ d lt (uses_device d l.commands) refl)
  where
    l : RunState
    l = s'.states r

    none : answered_commands l ≡ []
    none = ap (paired l.commands) w.new.answers ∙ paired_none l.commands

    at_ : (d : ℕ) → d < length s.first → (b : Bool) → uses_device d (s'.states r).commands ≡ b → DeviceInvariant (device_record kinds s' d)
    at_ d lt true used =
        let a : List OrderEntry = entries kinds s.states d w.front in
        let b : List OrderEntry = entries kinds s.states d w.back in
        let e : usage kinds l d ≡ new_usage = λ i. record {
          stage = stage_of (w.new.committed i) (w.new.doomed i) ((ap (λ xs. uses_device d (remaining l.commands xs)) w.new.answers ∙ ap (uses_device d) (rest_none l.commands) ∙ used) i);
          view = ((summary kinds blank (none i)).on d).view;
          read = ((summary kinds blank (none i)).on d).read;
          wrote = ((summary kinds blank (none i)).on d).wrote;
          undid = w.new.undid d i;
          grip = w.new.grip d i;
        } in
        let x : entries kinds s'.states d s'.line ≡ a ++ Used new_usage ∷ b = ap (entries kinds s'.states d) w.line ∙ entries_changed kinds s.states s'.states d r w.front w.back w.others w.before w.behind used ∙ ap (λ c. a ++ Used c ∷ b) e in
        let y : device_record kinds s' d ≡ record (device_record kinds s d) { order = a ++ Used new_usage ∷ b } = λ i. record {
          order = x i;
          first_up = (stand_at (w.first i) d).up;
          first = (stand_at (w.first i) d).value;
          up = (w.still d).up i;
          held = (w.still d).held i;
          probe = (w.still d).probe i;
        } in
        subst DeviceInvariant (sym y) (keeps (device_record kinds s d) (record (device_record kinds s d) { order = a ++ Used new_usage ∷ b }) (RunPlaced a b
        (ap (entries kinds s.states d) w.at ∙ entries_join kinds s.states d w.front w.back) (calm_entries kinds s.states d w.back ∙ w.calm d used))
        (o.devices d lt))
    at_ d lt false used =
        let x : entries kinds s'.states d s'.line ≡ entries kinds s.states d s.line =
        ap (entries kinds s'.states d) w.line ∙ unused_at kinds s'.states d r w.front w.back used ∙ entries_join kinds s'.states d w.front w.back
        ∙ ap (λ z. z ++ entries kinds s'.states d w.back) (entries_lack kinds s.states s'.states d r w.front w.others w.before) ∙ ap (λ z. entries kinds s.states d w.front ++ z) (entries_lack kinds s.states s'.states d r w.back w.others w.behind)
        ∙ sym (ap (entries kinds s.states d) w.at ∙ entries_join kinds s.states d w.front w.back) in
        let y : device_record kinds s' d ≡ device_record kinds s d = λ i. record { order = x i; first_up = (stand_at (w.first i) d).up; first = (stand_at (w.first i) d).value; up = (w.still d).up i; held = (w.still d).held i; probe = (w.still d).probe i } in
        subst DeviceInvariant (sym y) (o.devices d lt)

-- at its start a window is so
pub window_begins : (kinds : List Kind) (s : WindowModel) → WindowStarts s → WindowInvariant kinds s
unfolding entries EventsAreHomed
window_begins kinds s w = record {
  devices =
      λ d lt. subst DeviceInvariant (λ i. record {
        order = entries kinds s.states d (sym w.line i);
        first_up = (stand_at s.first d).up;
        first = (stand_at s.first d).value;
        up = sym (w.up d) i;
        held = sym (w.held d) i;
        probe = sym (w.probe d) i;
      }) (begins (stand_at s.first d).up (stand_at s.first d).value);
  runs = λ r. new_run kinds (length s.first) (s.states r) (w.new r) (subst (AreHomed (length s.first)) (sym (w.commands r)) (w.homed r));
  commands = w.commands;
  events = subst (EventsAreHomed (length s.first)) (sym w.line) tt;
}
