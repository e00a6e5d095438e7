-- The steps in which a run gets an answer keep the invariant of the window.
use Rattle.device_order.proofs.Prelude.{AccessDies, Bool, ChangesInPlace, Command, DeviceInvariant, Done, DownAgain, DownFirst, DownIsAnswered, EventsAreHomed, Failed, Failure, FirstAccessDied, Free, GripFits, GuardSkipped, HeldGrip, IsAnswered, IsHomeAt, Kind, LaterAccessDied, List, None, NothingIsOut, Occurred, Option, Pending, ReadAnswered, ReadFinds, ReadIsAnswered, Reads, RunStage, RunState, SkipIsAnswered, Some, Undoes, Up, Usage, UsageFits, Used, View, WalkState, WindowInvariant, WindowModel, WriteAnswered, WriteIsAnswered, Writes, any_run, ap, arith, at_device, common_steps, counts_serially, device_no, device_record, driven, entries, entry_if, fails, false, first_read, first_view, has_pending, holds_command, holds_grip, inl, inr, is_seen_down, is_some, is_up, kind_at, length, line_with_event, refl, rest, stage_is_committed, stage_is_doomed, stage_is_open, stage_of, stand_at, subst, summary_of, sym, true, usage, uses_device, walk_end, walk_start, with_event, with_event_in, ℕ, ◌++◌, ◌<◌, ◌==◌, ◌||◌, ◌∙◌, ◌∷◌, ◌≡◌}
use Rattle.device_order.proofs.Claims.{reads as reads_find}
use Rattle.device_order.proofs.InPlace.{acted, entries_before, evented, events_event, next_homed, next_used, run_fits, stepped, still_device}
use Rattle.device_order.proofs.LineEntries.{entries_event_off}
use Rattle.device_order.proofs.LineWords.{has_entries}
use Rattle.device_order.proofs.NewAnswers.{gave_run, gave_there, gave_usage}
use Rattle.device_order.proofs.SerialLines.{event_here, event_there}
use Rattle.home_types.specs.declared.commands.Answer.TheVariants.{Down, Fine, Found, Skipped}
use Rattle.home_types.specs.declared.commands.View.TheVariants.{Down as ViewDown}

up_first : (o : Option View) → is_seen_down o ≡ false → first_view o Up ≡ Some Up
up_first o h = grind (arith, common_steps)

-- a run whose command is out does not see the device down
out_view : (z : WalkState) (u : Usage) → UsageFits z u → holds_command u.grip ≡ true → is_seen_down u.view ≡ false
out_view z u f e = at_ u.grip f.grip e
  where
    at_ : (g : HeldGrip) → GripFits g u → holds_command g ≡ true → is_seen_down u.view ≡ false
    at_ Free f e = grind (arith, common_steps)
    at_ Reads f e = f.2
    at_ Writes f e = f.2
    at_ (Undoes v) f e = grind (arith, common_steps)

answered_stage : (a x k p : Bool) → a ≡ false → IsAnswered (stage_of a x true) (stage_of a (x || k) p)
answered_stage a x k p h = record { closes = closes a x k p h; doom = doom a x k p h; live = live a x k p h }
  where
    closes : (a x k p : Bool) → a ≡ false → stage_is_open (stage_of a (x || k) p) ≡ true → stage_is_open (stage_of a x true) ≡ true
    closes a x k p h g = grind (arith, common_steps)

    doom : (a x k p : Bool) → a ≡ false → stage_is_doomed (stage_of a x true) ≡ true → stage_is_doomed (stage_of a (x || k) p) ≡ true
    doom a x k p h g = grind (arith, common_steps)

    live : (a x k p : Bool) → a ≡ false → stage_is_committed (stage_of a (x || k) p) ≡ false
    live a x k p h = grind (arith, common_steps)

-- a command of the run on the device of its next one is left
next_pends : (l : RunState) (c : Command) (ds : List Command) → rest l ≡ c ∷ ds → uses_device c.device.0 (rest l) ≡ true
next_pends l c ds e = ap (uses_device c.device.0) e ∙ self c.device.0 (uses_device c.device.0 ds)
  where
    self : (d : ℕ) (x : Bool) → ((d == d) || x) ≡ true
    self d x = grind (arith, common_steps)

-- a failure in the line is of a device of the home
pub homed_failure : (kinds : List Kind) (s : WindowModel) (d k : ℕ) → d < length s.first → WindowInvariant kinds s → EventsAreHomed (length s.first) (line_with_event kinds s.states d (Failed (device_no d) k) s.line)
unfolding EventsAreHomed
homed_failure kinds s d k lt o = events_event kinds s.states (length s.first) d (Failed (device_no d) k) s.line (lt, tt) o.events

clash : (x : Bool) → x ≡ false → x ≡ true → ⊥
clash x h g = grind (arith, common_steps)

unless : (x y : Bool) → x ≡ false → (y ≡ true → x ≡ true) → y ≡ false
unless x y h g = grind (arith, common_steps)

pub pends_answered : (l : RunState) (c : Command) (ds : List Command) (k : Bool) → rest l ≡ c ∷ ds → l.committed ≡ false → IsAnswered (stage_of l.committed l.doomed (uses_device c.device.0 (rest l))) (stage_of l.committed (l.doomed || k) (uses_device c.device.0 ds))
pends_answered l c ds k e h = subst (λ p. IsAnswered (stage_of l.committed l.doomed p) (stage_of l.committed (l.doomed || k) (uses_device c.device.0 ds))) (sym (next_pends l c ds e)) (answered_stage l.committed l.doomed k (uses_device c.device.0 ds) h)

pub pends_counts : (l : RunState) (c : Command) (ds : List Command) → rest l ≡ c ∷ ds → l.committed ≡ false → l.doomed ≡ false → stage_of l.committed l.doomed (uses_device c.device.0 (rest l)) ≡ Pending
pends_counts l c ds e h g = λ i. stage_of (h i) (g i) (next_pends l c ds e i)

pub write_answered : (kinds : List Kind) (s s' : WindowModel) (r : ℕ) (c : Command) (ds : List Command) (k : Bool) → WriteIsAnswered kinds s s' r c ds k → WindowInvariant kinds s → WindowInvariant kinds s'
write_answered kinds s s' r c ds k w o =
    acted kinds s s' r d s.line k m (λ q n. refl) w.still (λ q n. gave_there kinds l (s'.states r) c ds Fine k q w.answer n) o.events
    (gave_run kinds (length s.first) l (s'.states r) c ds Fine k w.answer (o.runs r) w.live (λ h g. record { guard = w.guard; answer = (w.job, down) }) (λ h. passes c))
    (stepped kinds s s' r d s.line m (record u { stage = st; view = Some Up; wrote = Some x; grip = Free }) (s.up d) x (s.probe d) used e w.up w.held w.probe
    (WriteAnswered (entries kinds s.states d m.front) (entries kinds s.states d m.back) u x st (entries_before kinds s s' r d m used) w.out (pends_answered l c ds k w.answer.next w.live))) o
  where
    l : RunState
    l = s.states r

    d : ℕ
    d = c.device.0

    m : ChangesInPlace s s' r
    m = w.place

    lt : d < length s.first
    lt = next_homed (length s.first) l.commands l.answers c ds w.answer.next (o.runs r).homed

    used : uses_device d l.commands ≡ true
    used = next_used l c ds w.answer.next

    z : WalkState
    z = walk_end (walk_start (stand_at s.first d).up (stand_at s.first d).value) (entries kinds s.states d m.front)

    u : Usage
    u = usage kinds l d

    down : is_seen_down u.view ≡ false
    down = out_view z u (run_fits kinds s r d m.front m.back (o.devices d lt) m.at used) (ap holds_command w.out)

    x : ℕ
    x = driven (kind_at kinds d) c.job (summary_of kinds l).register

    st : RunStage
    st = stage_of l.committed (l.doomed || k) (uses_device d ds)

    e : usage kinds (s'.states r) d ≡ record u { stage = st; view = Some Up; wrote = Some x; grip = Free }
    e = gave_usage kinds l (s'.states r) c ds Fine k w.answer ∙ ap (λ o. record u { stage = st; view = o; wrote = Some x; grip = Free }) (up_first u.view down)

    passes : (c : Command) → fails c Fine ≡ false
    passes c = grind (arith, common_steps)

pub read_answered : (kinds : List Kind) (s s' : WindowModel) (r : ℕ) (c : Command) (ds : List Command) (x : ℕ) (k : Bool) → ReadIsAnswered kinds s s' r c ds x k → WindowInvariant kinds s → WindowInvariant kinds s'
read_answered kinds s s' r c ds x k w o =
    acted kinds s s' r d s.line k m (λ q n. refl) (λ q n. w.still q) (λ q n. gave_there kinds l (s'.states r) c ds (Found x) k q w.answer n) o.events
    (gave_run kinds (length s.first) l (s'.states r) c ds (Found x) k w.answer (o.runs r) w.live
    (λ h q. record { guard = w.guard; answer = (w.job, down, (λ y g. w.found ∙ finds.own y g), (λ n y g. w.found ∙ finds.again (counts l.committed l.doomed (uses_device d (rest l)) h) n y g)) })
    (λ h. unless k (fails c (Found x)) h w.refutes))
    (stepped kinds s s' r d s.line m (record u { stage = st; view = Some Up; read = first_read u (s.held d); grip = Free }) (s.up d) (s.held d) (s.probe d) used e (w.still d).up (w.still d).held (w.still d).probe
    (ReadAnswered (entries kinds s.states d m.front) (entries kinds s.states d m.back) u st (entries_before kinds s s' r d m used) w.out (pends_answered l c ds k w.answer.next w.live))) o
  where
    l : RunState
    l = s.states r

    d : ℕ
    d = c.device.0

    m : ChangesInPlace s s' r
    m = w.place

    lt : d < length s.first
    lt = next_homed (length s.first) l.commands l.answers c ds w.answer.next (o.runs r).homed

    used : uses_device d l.commands ≡ true
    used = next_used l c ds w.answer.next

    z : WalkState
    z = walk_end (walk_start (stand_at s.first d).up (stand_at s.first d).value) (entries kinds s.states d m.front)

    u : Usage
    u = usage kinds l d

    down : is_seen_down u.view ≡ false
    down = out_view z u (run_fits kinds s r d m.front m.back (o.devices d lt) m.at used) (ap holds_command w.out)

    finds : ReadFinds (device_record kinds s d) (entries kinds s.states d m.front) u (s.held d)
    finds = reads_find (device_record kinds s d) (entries kinds s.states d m.front) (entries kinds s.states d m.back) u (o.devices d lt) (entries_before kinds s s' r d m used) w.out

    st : RunStage
    st = stage_of l.committed (l.doomed || k) (uses_device d ds)

    e : usage kinds (s'.states r) d ≡ record u { stage = st; view = Some Up; read = first_read u (s.held d); grip = Free }
    e = gave_usage kinds l (s'.states r) c ds (Found x) k w.answer ∙ (λ i. record u { stage = st; view = up_first u.view down i; read = first_read u (w.found i); grip = Free })

    counts : (a b p : Bool) → b ≡ false → counts_serially (stage_of a b p) ≡ true
    counts a b p h = grind (arith, common_steps)

-- a view where the answer is Down, and the run is neither doomed nor lost
died_view : (o : Option View) → (is_some o ≡ true → ⊥) → is_up o ≡ false
died_view None h = refl
died_view (Some v) h = absurd (h refl)

pub access_died : (kinds : List Kind) (s s' : WindowModel) (r n : ℕ) (c : Command) (ds : List Command) (k : Bool) → AccessDies kinds s s' r n c ds k → WindowInvariant kinds s → WindowInvariant kinds s'
access_died kinds s s' r n c ds k w o =
    acted kinds s s' r d (line_with_event kinds s.states d (Failed c.device n) s.line) k m (λ q ne. entries_event_off kinds s.states q d (Failed c.device n) s.line (event_there d q (Occurred Failure) ne)) w.still
    (λ q ne. gave_there kinds l (s'.states r) c ds Down k q w.answer ne) (homed_failure kinds s d n (next_homed (length s.first) l.commands l.answers c ds w.answer.next (o.runs r).homed) o)
    (gave_run kinds (length s.first) l (s'.states r) c ds Down k w.answer (o.runs r) w.live (λ h g. record { guard = w.guard; answer = died_view u.view (λ x. clash k g (w.lost x)) }) (λ h. unless k (fails c Down) h w.must))
    (by_view u.view refl) o
  where
    d : ℕ
    d = c.device.0

    m : ChangesInPlace (with_event_in kinds s d (Failed c.device n)) s' r
    m = w.place

    l : RunState
    l = s.states r

    u : Usage
    u = usage kinds l d

    st : RunStage
    st = stage_of l.committed (l.doomed || k) (uses_device d ds)

    used : uses_device d l.commands ≡ true
    used = next_used l c ds w.answer.next

    answered : IsAnswered u.stage st
    answered = pends_answered l c ds k w.answer.next w.live

    placed : with_event Failure (entries kinds s.states d s.line) ≡ entries kinds s.states d m.front ++ Used u ∷ entries kinds s.states d m.back
    placed = evented kinds s s' r d (Failed c.device n) Failure m used (event_here d d (Occurred Failure) refl)

    dooms : (e x y : Bool) (p : Bool) → e ≡ false → y ≡ true → stage_is_doomed (stage_of e (x || y) p) ≡ true
    dooms e x y p h g = grind (arith, common_steps)

    stays : (o : Option View) → is_some o ≡ true → first_view o ViewDown ≡ o
    stays o h = grind (arith, common_steps)

    then_ : (o : Option View) → first_view u.view ViewDown ≡ o → usage kinds (s'.states r) d ≡ record u { stage = st; view = o; grip = Free }
    then_ o e = gave_usage kinds l (s'.states r) c ds Down k w.answer ∙ ap (λ o. record u { stage = st; view = o; grip = Free }) e

    by_view : (o : Option View) → u.view ≡ o → DeviceInvariant (device_record kinds s d) → DeviceInvariant (device_record kinds s' d)
    by_view None e i = stepped kinds s s' r d (line_with_event kinds s.states d (Failed c.device n) s.line) m (record u { stage = st; view = Some ViewDown; grip = Free }) false (s'.held d) (s.probe d) used (then_ (Some ViewDown) (ap (λ o. first_view o ViewDown) e)) w.up refl w.probe
        (FirstAccessDied (entries kinds s.states d m.front) (entries kinds s.states d m.back) u st (s'.held d) placed w.out e answered) i
    by_view (Some x) e i =
        let some : is_some u.view ≡ true = ap is_some e in
        stepped kinds s s' r d (line_with_event kinds s.states d (Failed c.device n) s.line) m (record u { stage = st; grip = Free }) false (s'.held d) (s.probe d) used (then_ u.view (stays u.view some)) w.up refl w.probe
        (LaterAccessDied (entries kinds s.states d m.front) (entries kinds s.states d m.back) u st (s'.held d) placed w.out some (dooms l.committed l.doomed k (uses_device d ds) w.live (w.lost some))) i

pub home_at : (kinds : List Kind) (s : WindowModel) (d : ℕ) → IsHomeAt kinds s d → NothingIsOut (device_record kinds s d)
home_at kinds s d h = record { free = has_entries kinds s.states d holds_grip s.line ∙ h.free; unprobed = h.unprobed }

pub down_answered : (kinds : List Kind) (s s' : WindowModel) (r : ℕ) (c : Command) (ds : List Command) (k : Bool) → DownIsAnswered kinds s s' r c ds k → WindowInvariant kinds s → WindowInvariant kinds s'
down_answered kinds s s' r c ds k w o =
    acted kinds s s' r d s.line k m (λ q n. refl) (λ q n. w.still q) (λ q n. gave_there kinds l (s'.states r) c ds Down k q w.answer n) o.events
    (gave_run kinds (length s.first) l (s'.states r) c ds Down k w.answer (o.runs r) w.live (λ h g. record { guard = w.guard; answer = elim w.may [ inl e ↦ ap is_up e | inr e ↦ ap is_up e.0 ] }) (λ h. unless k (fails c Down) h w.must))
    (elim w.may [ inl e ↦ again e | inr e ↦ first e.0 e.1 e.2 e.3 ]) o
  where
    d : ℕ
    d = c.device.0

    m : ChangesInPlace s s' r
    m = w.place

    l : RunState
    l = s.states r

    u : Usage
    u = usage kinds l d

    st : RunStage
    st = stage_of l.committed (l.doomed || k) (uses_device d ds)

    used : uses_device d l.commands ≡ true
    used = next_used l c ds w.answer.next

    then_ : first_view u.view ViewDown ≡ Some ViewDown → usage kinds (s'.states r) d ≡ record u { stage = st; view = Some ViewDown }
    then_ e = gave_usage kinds l (s'.states r) c ds Down k w.answer ∙ (λ i. record u { stage = st; view = e i; grip = sym w.free i })

    again : u.view ≡ Some ViewDown → DeviceInvariant (device_record kinds s d) → DeviceInvariant (device_record kinds s' d)
    again e i = stepped kinds s s' r d s.line m (record u { stage = st }) (s.up d) (s.held d) (s.probe d) used (then_ (ap (λ o. first_view o ViewDown) e) ∙ (λ i. record u { stage = st; view = sym e i })) (w.still d).up (w.still d).held (w.still d).probe
        (DownAgain (entries kinds s.states d m.front) (entries kinds s.states d m.back) u st (entries_before kinds s s' r d m used) (pends_counts l c ds w.answer.next w.live w.counts) e (pends_answered l c ds k w.answer.next w.live)) i

    first : u.view ≡ None → s.up d ≡ false → IsHomeAt kinds s d → any_run (at_device kinds s.states d has_pending) m.front ≡ false → DeviceInvariant (device_record kinds s d) → DeviceInvariant (device_record kinds s' d)
    first e down h none i = stepped kinds s s' r d s.line m (record u { stage = st; view = Some ViewDown }) (s.up d) (s.held d) (s.probe d) used (then_ (ap (λ o. first_view o ViewDown) e)) (w.still d).up (w.still d).held (w.still d).probe
        (DownFirst (entries kinds s.states d m.front) (entries kinds s.states d m.back) u st (entries_before kinds s s' r d m used)
        (pends_counts l c ds w.answer.next w.live w.counts) (home_at kinds s d h) down (has_entries kinds s.states d has_pending m.front ∙ none)
        (pends_answered l c ds k w.answer.next w.live)) i

-- a skipped command leaves its device as it is, but that the run may have no more to do there
pub skip_answered : (kinds : List Kind) (s s' : WindowModel) (r : ℕ) (c : Command) (ds : List Command) → SkipIsAnswered kinds s s' r c ds → WindowInvariant kinds s → WindowInvariant kinds s'
skip_answered kinds s s' r c ds w o =
    acted kinds s s' r d s.line false m (λ q n. refl) (λ q n. w.still q) (λ q n. gave_there kinds l (s'.states r) c ds Skipped false q w.answer n) o.events
    (gave_run kinds (length s.first) l (s'.states r) c ds Skipped false w.answer (o.runs r) w.live (λ h g. record { guard = w.guard; answer = tt }) (λ h. passes c))
    (by_rest (uses_device d ds) refl) o
  where
    d : ℕ
    d = c.device.0

    m : ChangesInPlace s s' r
    m = w.place

    l : RunState
    l = s.states r

    u : Usage
    u = usage kinds l d

    used : uses_device d l.commands ≡ true
    used = next_used l c ds w.answer.next

    pending : u.stage ≡ Pending
    pending = pends_counts l c ds w.answer.next w.live w.counts

    stage : (b : Bool) → uses_device d ds ≡ b → stage_of l.committed (l.doomed || false) (uses_device d ds) ≡ stage_of false false b
    stage b e = λ i. stage_of (w.live i) (w.counts i || false) (e i)

    then_ : (st : RunStage) → stage_of l.committed (l.doomed || false) (uses_device d ds) ≡ st → usage kinds (s'.states r) d ≡ record u { stage = st }
    then_ st e = gave_usage kinds l (s'.states r) c ds Skipped false w.answer ∙ (λ i. record u { stage = e i; grip = sym w.free i })

    by_rest : (b : Bool) → uses_device d ds ≡ b → DeviceInvariant (device_record kinds s d) → DeviceInvariant (device_record kinds s' d)
    by_rest true e i =
        subst DeviceInvariant (sym (still_device kinds s s' r d m (w.still d) (ap (λ x. entry_if x (Used (usage kinds (s'.states r) d))) (ap (uses_device d) m.commands)
        ∙ ap (λ v. entry_if (uses_device d l.commands) (Used v)) (then_ u.stage (stage true e ∙ sym pending))))) i
    by_rest false e i = stepped kinds s s' r d s.line m (record u { stage = Done }) (s.up d) (s.held d) (s.probe d) used (then_ Done (stage false e)) (w.still d).up (w.still d).held (w.still d).probe
        (GuardSkipped (entries kinds s.states d m.front) (entries kinds s.states d m.back) u (entries_before kinds s s' r d m used) pending (ap holds_command w.free)) i

    passes : (c : Command) → fails c Skipped ≡ false
    passes c = grind (arith, common_steps)
