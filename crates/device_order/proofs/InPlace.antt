-- One run of a window changes in its place: what that is to each device, and to the window.
use Rattle.device_order.proofs.Prelude.{Answer, AnswersFit, AreHomed, Back, Bool, ChangesInPlace, Command, DeviceChange, DeviceInvariant, Event, EventsAreHomed, Failed, HeldGrip, IsStill, Item, KeepsAnswers, Kind, List, NoCommandFails, Occurred, Probe, Ran, RunDoomed, RunInvariant, RunStage, RunState, RunStates, SameBut, Some, Usage, UsageFits, Used, WalkState, WindowInvariant, WindowModel, [], answered_commands, ap, arith, blank, both_ways, commands_of, common_steps, device_record, doomed_stage, entries, entry_if, entry_of, eq-eqb, false, if◌then◌else◌, length, line_with_event, or_left, paired, refl, remaining, rest, run_no, stage_of, stand_at, subst, summary, summary_of, sym, true, usage, uses_device, waits_at, walk_end, walk_start, with_event, with_event_in, ℕ, ◌++◌, ◌<◌, ◌==◌, ◌∙◌, ◌∷◌, ◌≡◌, ◌≢◌, ◌≤◌}
use Rattle.device_order.proofs.Changes.{keeps}
use Rattle.device_order.proofs.LineEntries.{entries_changed, entries_event, entries_unmoved, used_at, uses_rest}
use Rattle.device_order.proofs.NewAnswers.{doomed_if}
use Rattle.device_order.proofs.Parts.{cut}

-- the device's list at a run that moves, and the list then
pub entries_before : (kinds : List Kind) (s s' : WindowModel) (r d : ℕ) (m : ChangesInPlace s s' r) → uses_device d (s.states r).commands ≡ true → entries kinds s.states d s.line ≡ entries kinds s.states d m.front ++ Used (usage kinds (s.states r) d) ∷ entries kinds s.states d m.back
entries_before kinds s s' r d m u = ap (entries kinds s.states d) m.at ∙ used_at kinds s.states d r m.front m.back u

pub entries_then : (kinds : List Kind) (s s' : WindowModel) (r d : ℕ) (m : ChangesInPlace s s' r) → uses_device d (s.states r).commands ≡ true → entries kinds s'.states d s'.line ≡ entries kinds s.states d m.front ++ Used (usage kinds (s'.states r) d) ∷ entries kinds s.states d m.back
entries_then kinds s s' r d m u = ap (entries kinds s'.states d) (m.line ∙ m.at) ∙ entries_changed kinds s.states s'.states d r m.front m.back m.others m.before m.behind (ap (uses_device d) m.commands ∙ u)

-- a device of which the run is another
pub moved_device : (kinds : List Kind) (s s' : WindowModel) (r d : ℕ) (m : ChangesInPlace s s' r) (c : Usage) (up : Bool) (held : ℕ) (probe : Probe) → uses_device d (s.states r).commands ≡ true → usage kinds (s'.states r) d ≡ c → s'.up d ≡ up → s'.held d ≡ held → s'.probe d ≡ probe
    → device_record kinds s' d ≡ record (device_record kinds s d) { order = entries kinds s.states d m.front ++ Used c ∷ entries kinds s.states d m.back; up = up; held = held; probe = probe }
moved_device kinds s s' r d m c up held probe u e eu eh ep =
    let x = entries_then kinds s s' r d m u ∙ ap (λ c. entries kinds s.states d m.front ++ Used c ∷ entries kinds s.states d m.back) e in
    λ i. record { order = x i; first_up = (stand_at (m.first i) d).up; first = (stand_at (m.first i) d).value; up = eu i; held = eh i; probe = ep i }

-- a device that is as it was
pub still_device : (kinds : List Kind) (s s' : WindowModel) (r d : ℕ) → ChangesInPlace s s' r → IsStill s s' d → entry_of kinds s'.states d (Ran (run_no r)) ≡ entry_of kinds s.states d (Ran (run_no r)) → device_record kinds s' d ≡ device_record kinds s d
still_device kinds s s' r d m h e =
    let x = ap (entries kinds s'.states d) m.line ∙ entries_unmoved kinds s.states s'.states d r s.line m.others e in
    λ i. record { order = x i; first_up = (stand_at (m.first i) d).up; first = (stand_at (m.first i) d).value; up = h.up i; held = h.held i; probe = h.probe i }

pub off_device : (kinds : List Kind) (s s' : WindowModel) (r d : ℕ) → ChangesInPlace s s' r → IsStill s s' d → uses_device d (s.states r).commands ≡ false → device_record kinds s' d ≡ device_record kinds s d
off_device kinds s s' r d m h u = still_device kinds s s' r d m h (ap (λ x. entry_if x (Used (usage kinds (s'.states r) d))) (ap (uses_device d) m.commands ∙ u) ∙ ap (λ x. entry_if x (Used (usage kinds (s.states r) d))) (sym u))

-- the device of the next command is used
pub next_used : (l : RunState) (c : Command) (ds : List Command) → rest l ≡ c ∷ ds → uses_device c.device.0 l.commands ≡ true
next_used l c ds e = at_ (uses_device c.device.0 l.commands) refl
  where
    at_ : (b : Bool) → uses_device c.device.0 l.commands ≡ b → uses_device c.device.0 l.commands ≡ true
    at_ true u = u
    at_ false u = absurd (both_ways (uses_device c.device.0 (rest l)) (uses_rest c.device.0 l.commands l.answers u) (ap (uses_device c.device.0) e ∙ or_left (c.device.0 == c.device.0) (uses_device c.device.0 ds) (eq-eqb c.device.0 c.device.0 refl)))

-- the next command's device is one of the home
pub next_homed : (n : ℕ) (cs : List Command) (xs : List Answer) (c : Command) (ds : List Command) → remaining cs xs ≡ c ∷ ds → AreHomed n cs → c.device.0 < n
unfolding remaining AreHomed
next_homed n [] xs c ds e h = absurd (clash e)
  where
    clash : [] ≡ c ∷ ds → ⊥
    clash h = grind (arith, common_steps)
next_homed n (f ∷ cs) [] c ds e h = subst (λ (x : Command). x.device.0 < n) (head f cs e) h.0
  where
    head : (f : Command) (cs : List Command) → f ∷ cs ≡ c ∷ ds → f ≡ c
    head f cs h = grind (arith, common_steps)
next_homed n (f ∷ cs) (x ∷ xs) c ds e h = next_homed n cs xs c ds e h.1

-- a run that is at a device fits there
pub run_fits : (kinds : List Kind) (s : WindowModel) (r d : ℕ) (a b : List Item) → DeviceInvariant (device_record kinds s d) → s.line ≡ a ++ Ran (run_no r) ∷ b
    → uses_device d (s.states r).commands ≡ true
    → UsageFits (walk_end (walk_start (stand_at s.first d).up (stand_at s.first d).value) (entries kinds s.states d a)) (usage kinds (s.states r) d)
run_fits kinds s r d a b i e u =
    let z : WalkState = walk_start (stand_at s.first d).up (stand_at s.first d).value in
    (cut z (entries kinds s.states d a) (usage kinds (s.states r) d) (entries kinds s.states d b) (subst (λ l. DeviceInvariant (record (device_record kinds s d) { order = l })) (ap (entries kinds s.states d) e ∙ used_at kinds s.states d r a b u) i).walk).fits

-- all runs are runs as before, where the one that changed is
pub all_runs : (kinds : List Kind) (s s' : WindowModel) (r : ℕ) → s'.first ≡ s.first → SameBut r s.states s'.states → WindowInvariant kinds s → RunInvariant kinds (length s.first) (s'.states r) → (q : ℕ) → RunInvariant kinds (length s'.first) (s'.states q)
all_runs kinds s s' r first others o i q = subst (λ w. RunInvariant kinds (length w) (s'.states q)) (sym first) (at_ (q == r) refl)
  where
    at_ : (b : Bool) → (q == r) ≡ b → RunInvariant kinds (length s.first) (s'.states q)
    at_ true h = subst (λ x. RunInvariant kinds (length s.first) (s'.states x)) (sym (same h)) i
      where
        same : (q == r) ≡ true → q ≡ r
        same h = grind (arith, common_steps)
    at_ false h = subst (RunInvariant kinds (length s.first)) (sym (others q (λ y. differ h y))) (o.runs q)
      where
        differ : (q == r) ≡ false → q ≡ r → ⊥
        differ h y = grind (arith, common_steps)

-- and each has the commands of the window's runs
all_commands : (s s' : WindowModel) (r : ℕ) → s'.runs ≡ s.runs → SameBut r s.states s'.states → (s'.states r).commands ≡ (s.states r).commands → ((q : ℕ) → (s.states q).commands ≡ commands_of s.runs q) → (q : ℕ) → (s'.states q).commands ≡ commands_of s'.runs q
all_commands s s' r runs others c h q = at_ (q == r) refl ∙ h q ∙ ap (λ x. commands_of x q) (sym runs)
  where
    at_ : (b : Bool) → (q == r) ≡ b → (s'.states q).commands ≡ (s.states q).commands
    at_ true e = subst (λ x. (s'.states x).commands ≡ (s.states x).commands) (sym (same e)) c
      where
        same : (q == r) ≡ true → q ≡ r
        same h = grind (arith, common_steps)
    at_ false e = ap (λ (x : RunState). x.commands) (others q (λ y. differ e y))
      where
        differ : (q == r) ≡ false → q ≡ r → ⊥
        differ h y = grind (arith, common_steps)

-- a window in which one run changes: each device, the run, the events, and nothing else
pub window_keeps : (kinds : List Kind) (s s' : WindowModel) (r : ℕ) → s'.first ≡ s.first → s'.runs ≡ s.runs → SameBut r s.states s'.states
    → (s'.states r).commands ≡ (s.states r).commands → EventsAreHomed (length s.first) s'.line → WindowInvariant kinds s
    → RunInvariant kinds (length s.first) (s'.states r) → ((d : ℕ) → d < length s.first → DeviceInvariant (device_record kinds s' d)) → WindowInvariant kinds s'
window_keeps kinds s s' r first runs others commands events o i h = record {
  devices = λ d lt. h d (subst (λ w. d < length w) first lt);
  runs = all_runs kinds s s' r first others o i;
  commands = all_commands s s' r runs others commands o.commands;
  events = subst (λ w. EventsAreHomed (length w) s'.line) (sym first) events;
}

-- at the device of the answer, and at others
pub two_places : (P : ℕ → Type 0) (d e : ℕ) → P e → (d ≢ e → P d) → P d
two_places P d e h g = at_ (d == e) refl
  where
    at_ : (b : Bool) → (d == e) ≡ b → P d
    at_ true x = subst P (sym (same x)) h
      where
        same : (d == e) ≡ true → d ≡ e
        same x = grind (arith, common_steps)
    at_ false x = g (λ y. differ x y)
      where
        differ : (d == e) ≡ false → d ≡ e → ⊥
        differ x y = grind (arith, common_steps)

-- all changes of one run go like this: the line may get an event of d first (L); at d there is one step, and at each other device nothing, or the doom
pub acted : (kinds : List Kind) (s s' : WindowModel) (r d : ℕ) (L : List Item) (k : Bool) → ChangesInPlace (record s { line = L }) s' r → ((q : ℕ) → q ≢ d → entries kinds s.states q L ≡ entries kinds s.states q s.line) → ((q : ℕ) → q ≢ d → IsStill s s' q)
    → ((q : ℕ) → q ≢ d → usage kinds (s'.states r) q ≡ record (usage kinds (s.states r) q) { stage = doomed_if k (usage kinds (s.states r) q).stage }) → EventsAreHomed (length s.first) L → RunInvariant kinds (length s.first) (s'.states r)
    → (DeviceInvariant (device_record kinds s d) → DeviceInvariant (device_record kinds s' d)) → WindowInvariant kinds s → WindowInvariant kinds s'
acted kinds s s' r d L k m off still there homed i here o =
    window_keeps kinds s s' r m.first m.runs m.others m.commands (subst (EventsAreHomed (length s.first)) (sym m.line) homed) o i
    (λ q lt. two_places (λ q. DeviceInvariant (device_record kinds s q) → DeviceInvariant (device_record kinds s' q)) q d here (λ n j. elsewhere q n (subst DeviceInvariant (λ e. record (device_record kinds s q) { order = sym (off q n) e }) j)) (o.devices q lt))
  where
    t : WindowModel
    t = record s { line = L }

    elsewhere : (q : ℕ) → q ≢ d → DeviceInvariant (device_record kinds t q) → DeviceInvariant (device_record kinds s' q)
    elsewhere q n j = at_ (uses_device q (s.states r).commands) refl k (there q n)
      where
        v : Usage
        v = usage kinds (s.states r) q

        h : IsStill t s' q
        h = let x = still q n in record { up = x.up; held = x.held; probe = x.probe }

        at_ : (b : Bool) → uses_device q (s.states r).commands ≡ b → (k : Bool) → usage kinds (s'.states r) q ≡ record v { stage = doomed_if k v.stage } → DeviceInvariant (device_record kinds s' q)
        at_ true u true e =
            subst DeviceInvariant (sym (moved_device kinds t s' r q m (record v { stage = doomed_stage v.stage }) (s.up q) (s.held q) (s.probe q) u e h.up h.held h.probe))
            (keeps (device_record kinds t q) (record (device_record kinds t q) { order = entries kinds s.states q m.front ++ Used (record v { stage = doomed_stage v.stage }) ∷ entries kinds s.states q m.back })
            (RunDoomed (entries kinds s.states q m.front) (entries kinds s.states q m.back) v (entries_before kinds t s' r q m u)) j)
        at_ true u false e =
            subst DeviceInvariant (sym (still_device kinds t s' r q m h (ap (λ x. entry_if x (Used (usage kinds (s'.states r) q))) (ap (uses_device q) m.commands) ∙ ap (λ c. entry_if (uses_device q (s.states r).commands) (Used c)) e))) j
        at_ false u k e = subst DeviceInvariant (sym (off_device kinds t s' r q m h u)) j

-- .. and at d, one change of the device
pub stepped : (kinds : List Kind) (s s' : WindowModel) (r d : ℕ) (L : List Item) (m : ChangesInPlace (record s { line = L }) s' r) (u : Usage) (up : Bool)
    (held : ℕ) (probe : Probe) → uses_device d (s.states r).commands ≡ true → usage kinds (s'.states r) d ≡ u → s'.up d ≡ up → s'.held d ≡ held
    → s'.probe d ≡ probe
    → DeviceChange (device_record kinds s d) (record (device_record kinds s d) { order = entries kinds s.states d m.front ++ Used u ∷ entries kinds s.states d m.back; up = up; held = held; probe = probe }) → DeviceInvariant (device_record kinds s d) → DeviceInvariant (device_record kinds s' d)
stepped kinds s s' r d L m u up held probe used e eu eh ep x i =
    subst DeviceInvariant (sym (moved_device kinds (record s { line = L }) s' r d m u up held probe used e eu eh ep))
    (keeps (device_record kinds s d) (record (device_record kinds s d) { order = entries kinds s.states d m.front ++ Used u ∷ entries kinds s.states d m.back; up = up; held = held; probe = probe }) x i)

-- the device's own order with an event, cut at the run
pub evented : (kinds : List Kind) (s s' : WindowModel) (r d : ℕ) (i : Item) (e : Event) (m : ChangesInPlace (with_event_in kinds s d i) s' r) → uses_device d (s.states r).commands ≡ true → entry_of kinds s.states d i ≡ Some (Occurred e)
    → with_event e (entries kinds s.states d s.line) ≡ entries kinds s.states d m.front ++ Used (usage kinds (s.states r) d) ∷ entries kinds s.states d m.back
evented kinds s s' r d i e m u h = sym (entries_event kinds s.states d e i s.line h) ∙ entries_before kinds (with_event_in kinds s d i) s' r d m u

-- a run that has the same answers is the same where its other parts are
pub same_usage : (kinds : List Kind) (l l' : RunState) (d : ℕ) (st : RunStage) (y : Bool) (g : HeldGrip) → KeepsAnswers l l' → stage_of l'.committed l'.doomed (uses_device d (rest l)) ≡ st → l'.undid d ≡ y → l'.grip d ≡ g
    → usage kinds l' d ≡ record (usage kinds l d) { stage = st; undid = y; grip = g }
same_usage kinds l l' d st y g a es ey eg =
    let read_is : summary_of kinds l' ≡ summary_of kinds l = λ i. summary kinds blank (paired (a.commands i) (a.answers i)) in
    λ i. record {
      stage = (ap (λ cs. stage_of l'.committed l'.doomed (uses_device d cs)) (λ i. remaining (a.commands i) (a.answers i)) ∙ es) i;
      view = ((read_is i).on d).view;
      read = ((read_is i).on d).read;
      wrote = ((read_is i).on d).wrote;
      undid = ey i;
      grip = eg i;
    }

pub same_run : (kinds : List Kind) (n : ℕ) (l l' : RunState) → KeepsAnswers l l' → (l'.doomed ≡ false → l.doomed ≡ false) → (l'.committed ≡ true → (l'.doomed ≡ false) × (length l.answers ≡ length l.commands)) → RunInvariant kinds n l → RunInvariant kinds n l'
same_run kinds n l l' a sound live i =
    let e : answered_commands l' ≡ answered_commands l = λ i. paired (a.commands i) (a.answers i) in
    record {
      homed = subst (AreHomed n) (sym a.commands) i.homed;
      size = subst (λ (q : RunState). length q.answers ≤ length q.commands) (λ i. record l { commands = sym a.commands i; answers = sym a.answers i }) i.size;
      fit = λ h. subst (AnswersFit kinds blank) (sym e) (i.fit (sound h));
      none_fails = λ h. subst NoCommandFails (sym e) (i.none_fails (sound h));
      whole = λ h. ((live h).0, ap length a.answers ∙ (live h).1 ∙ ap length (sym a.commands));
    }

pub events_insert : (n r : ℕ) (a b : List Item) → EventsAreHomed n (a ++ b) → EventsAreHomed n (a ++ Ran (run_no r) ∷ b)
unfolding EventsAreHomed
events_insert n r [] b h = h
events_insert n r (Ran q ∷ a) b h = events_insert n r a b h
events_insert n r (Failed e k ∷ a) b h = (h.0, events_insert n r a b h.1)
events_insert n r (Back e k ∷ a) b h = (h.0, events_insert n r a b h.1)

pub events_event : (kinds : List Kind) (states : RunStates) (n d : ℕ) (i : Item) (is : List Item) → EventsAreHomed n (i ∷ []) → EventsAreHomed n is → EventsAreHomed n (line_with_event kinds states d i is)
unfolding EventsAreHomed line_with_event
events_event kinds states n d i [] e h = e
events_event kinds states n d i (j ∷ is) e h = at_ (events_event kinds states n d i is e (tail j h)) (waits_at kinds states d j)
  where
    tail : (j : Item) → EventsAreHomed n (j ∷ is) → EventsAreHomed n is
    tail (Ran q) h = h
    tail (Failed x k) h = h.1
    tail (Back x k) h = h.1

    cons : (j : Item) (l : List Item) → EventsAreHomed n (j ∷ []) → EventsAreHomed n l → EventsAreHomed n (j ∷ l)
    cons (Ran q) l h g = g
    cons (Failed x k) l h g = (h.0, g)
    cons (Back x k) l h g = (h.0, g)

    head : (j : Item) → EventsAreHomed n (j ∷ is) → EventsAreHomed n (j ∷ [])
    head (Ran q) h = tt
    head (Failed x k) h = (h.0, tt)
    head (Back x k) h = (h.0, tt)

    at_ : EventsAreHomed n (line_with_event kinds states d i is) → (b : Bool) → EventsAreHomed n (if b then i ∷ j ∷ is else j ∷ line_with_event kinds states d i is)
    at_ g true = cons i (j ∷ is) e h
    at_ g false = cons j (line_with_event kinds states d i is) (head j h) g
