-- The committed part of a line is a serial execution.
use Rattle.device_order.proofs.Prelude.{Answer, AreHomed, Back, Bool, DeviceSummary, EntryFits, Event, EventsAreHomed, Execution, Failed, Failure, IsAllAnswered, Item, Kind, LineIsSerial, List, MeetsStand, None, Occurred, Option, OrderEntry, Ran, Restart, Run, RunState, RunStates, SerialRun, Served, Some, Stand, Usage, Used, WalkHolds, WalkState, [], after_entry, answered_commands, ap, append-nil, append_assoc, arith, blank, commands_of, common_steps, counts_serially, device_summary, entries, entry_if, entry_of, false, fold, if◌then◌else◌, inl, inr, is_restart, is_some, is_up, length, length-set, not, or_from, overwritten, refl, rest, routine_execution, serial_order, serve, served, stage_is_committed, stage_of, stand_at, subst, summary_of, sym, true, unanswered, usage, uses_device, walk_end, walk_stand, with_order_entry, with_up, ℕ, ◌++◌, ◌<◌, ◌==◌, ◌||◌, ◌∙◌, ◌∷◌, ◌≡◌, ◌≢◌}
use Rattle.device_order.proofs.Paired.{answers_all, commands_all, unused_there}
use Rattle.device_order.proofs.Runs.{Executes, serves, stand_at_set}
use Rattle.home_types.specs.declared.numbers.DeviceNo.{DeviceNo}
use Rattle.home_types.specs.declared.numbers.RunNo.{RunNo}

-- the walk over an entry that may be there
abbrev pub met : WalkState → Option OrderEntry → WalkState
met z None = z
met z (Some x) = after_entry z x

abbrev pub FitsIf : WalkState → Option OrderEntry → Type 0
FitsIf z None = Unit {0}
FitsIf z (Some x) = EntryFits z x

pub walk_first : (z : WalkState) (o : Option OrderEntry) (xs : List OrderEntry) → WalkHolds z (with_order_entry o xs) → FitsIf z o
unfolding WalkHolds
walk_first z None xs h = tt
walk_first z (Some x) xs h = h.0

pub walk_rest : (z : WalkState) (o : Option OrderEntry) (xs : List OrderEntry) → WalkHolds z (with_order_entry o xs) → WalkHolds (met z o) xs
unfolding WalkHolds
walk_rest z None xs h = h
walk_rest z (Some x) xs h = h.1

pub end_first : (z : WalkState) (o : Option OrderEntry) (xs : List OrderEntry) → walk_end z (with_order_entry o xs) ≡ walk_end (met z o) xs
unfolding walk_end
end_first z None xs = refl
end_first z (Some x) xs = refl

-- what a committed run leaves is what the walk makes of it; another run leaves nothing
run_stands : (z : WalkState) (b : Bool) (u : Usage) → stage_is_committed u.stage ≡ true → (b ≡ false → u.wrote ≡ None) → overwritten (walk_stand z) u.wrote ≡ walk_stand (met z (entry_if b (Used u)))
run_stands z b u h g = grind (arith, common_steps)

run_idle : (z : WalkState) (b : Bool) (u : Usage) → stage_is_committed u.stage ≡ false → walk_stand z ≡ walk_stand (met z (entry_if b (Used u)))
run_idle z b u h = grind (arith, common_steps)

run_meets : (z : WalkState) (b : Bool) (u : Usage) (t : DeviceSummary) → u.view ≡ t.view → u.read ≡ t.read → FitsIf z (entry_if b (Used u)) → counts_serially u.stage ≡ true → (b ≡ false → t ≡ unanswered) → MeetsStand (walk_stand z) t
run_meets z true u t ev er f h g = record { view = λ e. sym (ap is_up ev) ∙ f.view h (ap is_some ev ∙ e); read = λ x e. f.read h x (er ∙ e) }
run_meets z false u t ev er f h g = subst (MeetsStand (walk_stand z)) (sym (g refl)) (record { view = λ e. nothing e; read = λ x e. none x e })
  where
    nothing : false ≡ true → false ≡ z.up
    nothing e = grind (arith, common_steps)

    none : (x : ℕ) → None ≡ Some x → x ≡ z.value
    none x e = grind (arith, common_steps)

-- from the middle of an execution that is not refused
pub record Serializes (kinds : List Kind) (runs : List Run) (states : RunStates) (s : SerialRun) (z : ℕ → WalkState) (line : List Item) : Type 0 where
  pub home : List Stand
  pub is : fold (serve runs kinds) s (serial_order states line) ≡ record { home = home; answers = s.answers ++ served states line; refused = false }
  pub size : length home ≡ length s.home
  pub stands : (d : ℕ) → d < length s.home → stand_at home d ≡ walk_stand (walk_end (z d) (entries kinds states d line))

-- one item: the execution of the rest from what the item leaves
later : (kinds : List Kind) (runs : List Run) (states : RunStates) (s n : SerialRun) (z : ℕ → WalkState) (i : Item) (is : List Item)
    → fold (serve runs kinds) s (serial_order states (i ∷ is)) ≡ fold (serve runs kinds) n (serial_order states is) → n.answers ++ served states is ≡ s.answers ++ served states (i ∷ is) → length n.home ≡ length s.home
    → Serializes kinds runs states n (λ d. met (z d) (entry_of kinds states d i)) is → Serializes kinds runs states s z (i ∷ is)
unfolding entries
later kinds runs states s n z i is e t l r = record {
  home = r.home;
  is = e ∙ r.is ∙ ap (λ x. record { home = r.home; answers = x; refused = false }) t;
  size = r.size ∙ l;
  stands = λ d lt. r.stands d (subst (λ x. d < x) (sym l) lt) ∙ ap walk_stand (sym (end_first (z d) (entry_of kinds states d i) (entries kinds states d is)));
}

-- the two readings of an item that is an event
pub event_here : (e d : ℕ) (x : OrderEntry) → d ≡ e → entry_if (e == d) x ≡ Some x
event_here e d x h = grind (arith, common_steps)

pub event_there : (e d : ℕ) (x : OrderEntry) → d ≢ e → entry_if (e == d) x ≡ None
event_there e d x h = grind (arith, common_steps)

event_stands : (home : List Stand) (z : ℕ → WalkState) (e : ℕ) (x : Event) → e < length home → ((d : ℕ) → d < length home → stand_at home d ≡ walk_stand (z d)) → (d : ℕ) → d < length home
    → stand_at (with_up home e (is_restart x)) d ≡ walk_stand (met (z d) (entry_if (e == d) (Occurred x)))
event_stands home z e x h st d lt = elim (stand_at_set home e d (record { value = (stand_at home e).value; up = is_restart x }) h) [
  | inl q ↦ q.1 ∙ ap (λ (s : Stand). record { value = s.value; up = is_restart x }) (st e h) ∙ ap (λ n. record { value = (z n).value; up = is_restart x }) (sym q.0) ∙ ap (λ o. walk_stand (met (z d) o)) (sym (event_here e d (Occurred x) q.0))
  | inr q ↦ q.1 ∙ st d lt ∙ ap (λ o. walk_stand (met (z d) o)) (sym (event_there e d (Occurred x) q.0))
]

-- an event applies where its entry fits
event_applies : (home : List Stand) (z : WalkState) (e : ℕ) (x : Event) → stand_at home e ≡ walk_stand z → FitsIf z (entry_if (e == e) (Occurred x)) → (stand_at home e).up ≡ not (is_restart x)
event_applies home z e x st f = ap (λ (s : Stand). s.up) st ∙ (subst (FitsIf z) (event_here e e (Occurred x) refl) f).turns

falls : (kinds : List Kind) (runs : List Run) (s : SerialRun) (e : DeviceNo) (k : ℕ) (is : List Item) → s.refused ≡ false → (stand_at s.home e.0).up ≡ true
    → fold (serve runs kinds) s (Failed e k ∷ is) ≡ fold (serve runs kinds) (record { home = with_up s.home e.0 false; answers = s.answers; refused = false }) is
falls kinds runs s e k is h g = ap (λ b. fold (serve runs kinds) (record { home = with_up s.home e.0 false; answers = s.answers; refused = b }) is) (or_from s.refused (not (stand_at s.home e.0).up) h (ap not g))

comes : (kinds : List Kind) (runs : List Run) (s : SerialRun) (e : DeviceNo) (k : ℕ) (is : List Item) → s.refused ≡ false → (stand_at s.home e.0).up ≡ false
    → fold (serve runs kinds) s (Back e k ∷ is) ≡ fold (serve runs kinds) (record { home = with_up s.home e.0 true; answers = s.answers; refused = false }) is
comes kinds runs s e k is h g = ap (λ b. fold (serve runs kinds) (record { home = with_up s.home e.0 true; answers = s.answers; refused = b }) is) (or_from s.refused (stand_at s.home e.0).up h g)

sound : (committed doomed pending : Bool) → committed ≡ true → (stage_is_committed (stage_of committed doomed pending) ≡ true) × (counts_serially (stage_of committed doomed pending) ≡ true)
sound committed doomed pending h = (grind (arith, common_steps), grind (arith, common_steps))

unsound : (committed doomed pending : Bool) → committed ≡ false → stage_is_committed (stage_of committed doomed pending) ≡ false
unsound committed doomed pending h = grind (arith, common_steps)

-- a committed run of a line in the serial execution
run_serves : (kinds : List Kind) (home : List Stand) (z : ℕ → WalkState) (r : RunState) → r.committed ≡ true → IsAllAnswered kinds (length home) r → ((d : ℕ) → d < length home → stand_at home d ≡ walk_stand (z d))
    → ((d : ℕ) → d < length home → FitsIf (z d) (entry_if (uses_device d r.commands) (Used (usage kinds r d)))) → Executes kinds home (record { home = home; register = 0; answers = []; refused = false }) (summary_of kinds r) (answered_commands r)
run_serves kinds home z r h whole st fit = serves kinds home (answered_commands r) whole.fit whole.none_fails (subst (AreHomed (length home)) (sym (commands_all r.commands r.answers whole.all)) whole.homed)
    (λ d lt. subst (λ x. MeetsStand x (device_summary kinds r d)) (sym (st d lt))
    (run_meets (z d) (uses_device d r.commands) (usage kinds r d) (device_summary kinds r d) refl refl (fit d lt)
    (sound r.committed r.doomed (uses_device d (rest r)) h).1 (λ u. unused_there kinds blank r.commands r.answers d u)))

run_leaves : (kinds : List Kind) (home : List Stand) (z : ℕ → WalkState) (r : RunState) → r.committed ≡ true → ((d : ℕ) → d < length home → stand_at home d ≡ walk_stand (z d))
    → (p : Executes kinds home (record { home = home; register = 0; answers = []; refused = false }) (summary_of kinds r) (answered_commands r))
    → (d : ℕ) → d < length home → stand_at p.home d ≡ walk_stand (met (z d) (entry_if (uses_device d r.commands) (Used (usage kinds r d))))
run_leaves kinds home z r h st p d lt =
    p.stands d lt ∙ ap (λ x. overwritten x (device_summary kinds r d).wrote) (st d lt)
    ∙ run_stands (z d) (uses_device d r.commands) (usage kinds r d) (sound r.committed r.doomed (uses_device d (rest r)) h).0 (λ u. ap (λ (t : DeviceSummary). t.wrote) (unused_there kinds blank r.commands r.answers d u))

served_here : (states : RunStates) (all : List Served) (r : RunNo) (is : List Item) → (states r.0).committed ≡ true
    → (all ++ record { run = r; answers = (states r.0).answers } ∷ []) ++ served states is ≡ all ++ served states (Ran r ∷ is)
unfolding served
served_here states all r is h = append_assoc all (record { run = r; answers = (states r.0).answers } ∷ []) (served states is) ∙ ap (λ b. all ++ (if b then record { run = r; answers = (states r.0).answers } ∷ served states is else served states is)) (sym h)

-- a run in the serial execution
runs_so : (kinds : List Kind) (runs : List Run) (s : SerialRun) (r : RunNo) (home : List Stand) (register : ℕ) (answers : List Answer) (is : List Item) → s.refused ≡ false
    → routine_execution kinds (commands_of runs r.0) s.home ≡ record { home = home; register = register; answers = answers; refused = false }
    → fold (serve runs kinds) s (Ran r ∷ is) ≡ fold (serve runs kinds) (record { home = home; answers = s.answers ++ record { run = r; answers = answers } ∷ []; refused = false }) is
runs_so kinds runs s r home register answers is h e =
    ap (λ (x : Execution). fold (serve runs kinds) (record { home = x.home; answers = s.answers ++ record { run = r; answers = x.answers } ∷ []; refused = s.refused || x.refused }) is) e
    ∙ ap (λ b. fold (serve runs kinds) (record { home = home; answers = s.answers ++ record { run = r; answers = answers } ∷ []; refused = b }) is) (or_from s.refused false h refl)

pub serializes : (kinds : List Kind) (runs : List Run) (states : RunStates) (s : SerialRun) (z : ℕ → WalkState) (line : List Item) → ((r : ℕ) → (states r).commands ≡ commands_of runs r) → s.refused ≡ false
    → ((d : ℕ) → d < length s.home → stand_at s.home d ≡ walk_stand (z d)) → ((d : ℕ) → d < length s.home → WalkHolds (z d) (entries kinds states d line)) → EventsAreHomed (length s.home) line
    → ((r : ℕ) → (states r).committed ≡ true → IsAllAnswered kinds (length s.home) (states r)) → Serializes kinds runs states s z line
unfolding entries serial_order served EventsAreHomed walk_end
serializes kinds runs states s z [] same yet st walk ho whole = record { home = s.home; is = nothing; size = refl; stands = ended }
  where
    nothing : s ≡ record { home = s.home; answers = s.answers ++ []; refused = false }
    nothing = λ i. record { home = s.home; answers = sym (append-nil s.answers) i; refused = yet i }

    ended : (d : ℕ) → d < length s.home → stand_at s.home d ≡ walk_stand (walk_end (z d) [])
    ended d lt = st d lt
serializes kinds runs states s z (Failed e k ∷ is) same yet st walk ho whole =
    let n : SerialRun = record { home = with_up s.home e.0 false; answers = s.answers; refused = false } in
    let size : length n.home ≡ length s.home = length-set s.home e.0 (record { value = (stand_at s.home e.0).value; up = false }) in
    let up : (stand_at s.home e.0).up ≡ true = event_applies s.home (z e.0) e.0 Failure (st e.0 ho.0) (walk_first (z e.0) (entry_of kinds states e.0 (Failed e k)) (entries kinds states e.0 is) (walk e.0 ho.0)) in
    later kinds runs states s n z (Failed e k) is (falls kinds runs s e k (serial_order states is) yet up) refl size
    (serializes kinds runs states n (λ d. met (z d) (entry_of kinds states d (Failed e k))) is same refl
    (λ d lt. event_stands s.home z e.0 Failure ho.0 st d (subst (λ x. d < x) size lt))
    (λ d lt. walk_rest (z d) (entry_of kinds states d (Failed e k)) (entries kinds states d is) (walk d (subst (λ x. d < x) size lt)))
    (subst (λ x. EventsAreHomed x is) (sym size) ho.1)
    (λ r c. subst (λ x. IsAllAnswered kinds x (states r)) (sym size) (whole r c)))
serializes kinds runs states s z (Back e k ∷ is) same yet st walk ho whole =
    let n : SerialRun = record { home = with_up s.home e.0 true; answers = s.answers; refused = false } in
    let size : length n.home ≡ length s.home = length-set s.home e.0 (record { value = (stand_at s.home e.0).value; up = true }) in
    let up : (stand_at s.home e.0).up ≡ false = event_applies s.home (z e.0) e.0 Restart (st e.0 ho.0) (walk_first (z e.0) (entry_of kinds states e.0 (Back e k)) (entries kinds states e.0 is) (walk e.0 ho.0)) in
    later kinds runs states s n z (Back e k) is (comes kinds runs s e k (serial_order states is) yet up) refl size
    (serializes kinds runs states n (λ d. met (z d) (entry_of kinds states d (Back e k))) is same refl
    (λ d lt. event_stands s.home z e.0 Restart ho.0 st d (subst (λ x. d < x) size lt))
    (λ d lt. walk_rest (z d) (entry_of kinds states d (Back e k)) (entries kinds states d is) (walk d (subst (λ x. d < x) size lt)))
    (subst (λ x. EventsAreHomed x is) (sym size) ho.1)
    (λ r c. subst (λ x. IsAllAnswered kinds x (states r)) (sym size) (whole r c)))
serializes kinds runs states s z (Ran r ∷ is) same yet st walk ho whole =
    decide (λ n size yet' st'. serializes kinds runs states n (λ d. met (z d) (entry_of kinds states d (Ran r))) is same yet' st'
    (λ d lt. walk_rest (z d) (entry_of kinds states d (Ran r)) (entries kinds states d is) (walk d (subst (λ x. d < x) size lt)))
    (subst (λ x. EventsAreHomed x is) (sym size) ho)
    (λ q c. subst (λ x. IsAllAnswered kinds x (states q)) (sym size) (whole q c))) (states r.0).committed refl
  where
    l : RunState
    l = states r.0

    decide : ((n : SerialRun) → length n.home ≡ length s.home → n.refused ≡ false → ((d : ℕ) → d < length n.home → stand_at n.home d ≡ walk_stand (met (z d) (entry_of kinds states d (Ran r)))) → Serializes kinds runs states n (λ d. met (z d) (entry_of kinds states d (Ran r))) is)
        → (b : Bool) → l.committed ≡ b → Serializes kinds runs states s z (Ran r ∷ is)
    decide ih true h =
        let w : IsAllAnswered kinds (length s.home) l = whole r.0 h in
        let p : Executes kinds s.home (record { home = s.home; register = 0; answers = []; refused = false }) (summary_of kinds l) (answered_commands l) =
        run_serves kinds s.home z l h w st (λ d lt. walk_first (z d) (entry_of kinds states d (Ran r)) (entries kinds states d is) (walk d lt)) in
        let x : routine_execution kinds (commands_of runs r.0) s.home ≡ record { home = p.home; register = (summary_of kinds l).register; answers = l.answers; refused = false } =
        ap (λ cs. routine_execution kinds cs s.home) (sym (same r.0) ∙ sym (commands_all l.commands l.answers w.all)) ∙ p.is ∙ ap (λ xs. record { home = p.home; register = (summary_of kinds l).register; answers = xs; refused = false }) (answers_all l.commands l.answers w.all) in
        let n : SerialRun = record { home = p.home; answers = s.answers ++ record { run = r; answers = l.answers } ∷ []; refused = false } in
        later kinds runs states s n z (Ran r) is
        (ap (λ b. fold (serve runs kinds) s (if b then Ran r ∷ serial_order states is else serial_order states is)) h ∙ runs_so kinds runs s r p.home (summary_of kinds l).register l.answers (serial_order states is) yet x)
        (served_here states s.answers r is h) p.size
        (ih n p.size refl (λ d lt. run_leaves kinds s.home z l h st p d (subst (λ x. d < x) p.size lt)))
    decide ih false h =
        later kinds runs states s s z (Ran r) is
        (ap (λ b. fold (serve runs kinds) s (if b then Ran r ∷ serial_order states is else serial_order states is)) h)
        (ap (λ b. s.answers ++ (if b then record { run = r; answers = l.answers } ∷ served states is else served states is)) (sym h)) refl
        (ih s refl yet (λ d lt. st d lt ∙ run_idle (z d) (uses_device d l.commands) (usage kinds l d) (unsound l.committed l.doomed (uses_device d (rest l)) h)))

pub line_serial : (kinds : List Kind) (runs : List Run) (states : RunStates) (s : SerialRun) (z : ℕ → WalkState) (line : List Item) → ((r : ℕ) → (states r).commands ≡ commands_of runs r) → s.refused ≡ false
    → ((d : ℕ) → d < length s.home → stand_at s.home d ≡ walk_stand (z d)) → ((d : ℕ) → d < length s.home → WalkHolds (z d) (entries kinds states d line)) → EventsAreHomed (length s.home) line
    → ((r : ℕ) → (states r).committed ≡ true → IsAllAnswered kinds (length s.home) (states r)) → LineIsSerial kinds runs states s z line
line_serial kinds runs states s z line same yet st walk ho whole =
    let e = serializes kinds runs states s z line same yet st walk ho whole in
    record {
      refused = ap (λ (x : SerialRun). x.refused) e.is;
      answers = ap (λ (x : SerialRun). x.answers) e.is;
      size = ap (λ (x : SerialRun). length x.home) e.is ∙ e.size;
      stands = λ d lt. ap (λ (x : SerialRun). stand_at x.home d) e.is ∙ e.stands d lt;
    }
