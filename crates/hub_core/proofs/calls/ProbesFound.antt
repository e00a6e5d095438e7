-- The grip of the detector comes back: its device is as it was counted, is back, or has failed.
use Rattle.hub_core.proofs.Prelude.{Back, Bool, Commands, DeviceNo, Died, Done, Doomed, Entry, Failed, Fell, Grip, Gripped, Grips, GripsFit, HasFallen, HasRisen, HeldTokensAre, HistoryState, IfSome, Inside, IsHomeAgain, IsKept, IsLostTo, IsRead, IsSome, IsTrue, IsWellFormed, IsWhole, LineageState, List, Lost, Marked, MayTake, MayTurn, None, OpenHub, Option, OrderIsBeside, Probes, Purpose, Reading, Rose, RunNo, Sensed, Setting, Shown, Slip, Some, Told, Undoes, WasCalled, Worked, [], accesses_at, and-true, ap, ap₂, arith, common_steps, cond, configuration_of, each_found, each_more, entries_made, entries_of, entries_on, entry, eq-eqb, eqb-true, event_place_of, events_after, false, find, fits_same, fold, grip_wait, grips_command, hand_of, has_died, has_grip, has_written, held_in, if◌then◌else◌, is_command, is_device, is_doomed, is_live, is_named_device, is_open, is_run, length, lineage_at, live_run, live_runs, live_runs_live, lost_by, lt-ltb, may_follow, none_does, not, open_of, option_map, option_to_list, pends, point, probe_entries, progress_at, read_facts, read_in, read_of, refl, run_no, run_place, same_Some, sees_up, slice_get, slice_index_or, subst, suc, sym, takes_first, takes_rest, true, unwrap_or, with_entry, with_hand, with_lost, with_more, zero, ℕ, ◌&&◌, ◌++◌, ◌+◌, ◌-◌, ◌<◌, ◌==◌, ◌∙◌, ◌∷◌, ◌≡◌, ◌≤◌}
use Rattle.failure_serialization.specs.Events.{event_place, lost_run}
use Rattle.hub_core.proofs.calls.Deaths.{more_after}
use Rattle.hub_core.proofs.calls.Departures.{gone_past}
use Rattle.hub_core.proofs.calls.Homecomings.{CameHome, IsHome, IsReturned, ProbeBack, came_whole, probe_given, returned_for, returned_places, takes_back}
use Rattle.hub_core.proofs.calls.HubOrders.{read_whole}
use Rattle.hub_core.proofs.calls.OutFor.{IsFor, probe_purpose}
use Rattle.hub_core.proofs.calls.Turning.{Falls, Rises, TellsTurn, fallen_number, may_fall, may_rise, risen_number, tells_may}
use Rattle.hub_core.proofs.kept.EventsTold.{event_told, lost_told, probe_commands, sound_is}
use Rattle.hub_core.proofs.kept.FallenOrders.{weak_place}
use Rattle.hub_core.proofs.kept.OrderSteps.{read_more}
use Rattle.hub_core.proofs.kept.ProbeSteps.{order_fell, order_lost, order_probe_home, order_rose}
use Rattle.hub_core.proofs.kept.TableFits.{either_model}
use Rattle.hub_core.proofs.steps.Calls.{back_entries, dead_entries}
use Rattle.window_devices.specs.declared.checkouts.Checkouts.{Checkouts}
use Rattle.window_order.specs.declared.order_states.OrderState.{OrderState}
use Rattle.window_devices.specs.declared.known.Events.{Events}

-- What the detector's grip brings home

-- what the code knows of it
pub record ProbeKnown {D : Type 0} (shows : D → Shown) (h : Inside D) (s : OpenHub D) (grip : Gripped D Done) (sl : Slip) : Type 0 where
  pub seen : open_of h ≡ s
  pub there : IsKept s.places grip.slip grip.task
  pub maker : grip.slip.maker ≡ 0
  pub called : WasCalled grip.stage.told grip.task grip.slip (shows grip.device)
  pub same : sl ≡ grip.slip

-- .. as the parts tell it: a probe was out, which says how its device is counted
pub record ProbeHere {D : Type 0} (shows : D → Shown) (h : Inside D) (grip : Gripped D Done) : Type 0 where
  pub v : Option ℕ
  pub returned : IsReturned shows h (Probes v) grip
  pub for : IsFor (open_of h) grip.slip grip.task (Probes v)

probe_here : {D : Type 0} {shows : D → Shown} (h : Inside D) (s : OpenHub D) (grip : Gripped D Done) (sl : Slip) → ProbeKnown shows h s grip sl → IsWhole shows h → ProbeHere shows h grip
probe_here {D = D} {shows = shows} h s grip sl known k =
    record { v = out.0; returned = returned; for = returned_for h (Probes out.0) grip returned k }
  where
    there : IsKept h.checkouts.gate.places grip.slip grip.task
    there = ap (λ (x : OpenHub D). slice_get x.places grip.slip.device.0) known.seen ∙ known.there

    out : (v : Option ℕ) × ((progress_at h.checkouts.known.items grip.slip.device.0).purpose ≡ Probes v)
    out = probe_purpose _ (open_of h) grip.slip grip.task k.shown there known.maker

    returned : IsReturned shows h (Probes out.0) grip
    returned = record { there = there; purpose = out.1; called = known.called }

-- the grip that was out
probe_grip : {D : Type 0} {shows : D → Shown} {h : Inside D} {grip : Gripped D Done}
    (here : ProbeHere shows h grip) → grip.slip.maker ≡ 0
    → (configuration_of (open_of h)).grips grip.slip.device.0 ≡ Some (record { maker = 0; purpose = Probes here.v })
probe_grip here none = here.for.grip ∙ ap (λ m. Some (record { maker = m; purpose = Probes here.v })) none

-- it was in no run's hand
hands_same : {D : Type 0} (a b : Checkouts D) (grip : Gripped D Done) → IsHomeAgain a grip b → grip.slip.maker ≡ 0 → b.held_tokens.items ≡ a.held_tokens.items
hands_same a b grip home none = home.held_tokens ∙ ap (λ m. with_hand a.held_tokens.items m None) none

-- how the device is counted, also where it is told of what the hub shows
counted_here : {D : Type 0} (h : Inside D) (s : OpenHub D) (d : ℕ) (b : Bool) → open_of h ≡ s → (read_of (configuration_of s)).up d ≡ b → (read_in h.history).up d ≡ b
counted_here {D = D} h s d b seen up = ap (λ (x : OpenHub D). (read_of (configuration_of x)).up d) seen ∙ up

-- It is as it was counted

same_gives : (w : Setting) (n : Reading) (d : ℕ) (told : Told) → n.up d ≡ not (has_died told) → probe_entries w n d told ≡ []
same_gives w n d Worked up = ap (λ b. if b then [] else back_entries d) up
same_gives w n d (Sensed x) up = ap (λ b. if b then [] else back_entries d) up
same_gives w n d Died up = ap (λ b. if b then dead_entries d (lost_by w n d) else []) up

-- no entries are none more
none_more : (h : HistoryState) (maker : ℕ) → h ≡ with_more h maker []
none_more h maker =
    let history : h.history ≡ h.history ++ [] = sym (append_nil h.history) in
    let spare : h.spare ≡ h.spare - 0 = omega arith in
    λ i. record h { history = history i; spare = spare i }
  where
    append_nil : {A : Type 0} (xs : List A) → xs ++ [] ≡ xs
    append_nil [] = refl
    append_nil (x ∷ xs) = ap (λ l. x ∷ l) (append_nil xs)

same_back : {D : Type 0} {shows : D → Shown} (h t : Inside D) (s : OpenHub D) (grip : Gripped D Done) (sl : Slip) → ProbeKnown shows h s grip sl → (read_of (configuration_of s)).up grip.slip.device.0 ≡ not (has_died grip.stage.told)
    → IsHome h t grip → t.history ≡ h.history → (here : ProbeHere shows h grip) → CameHome shows h t (Probes here.v) grip []
same_back h t s grip sl known same parts history here =
    record {
      returned = here.returned;
      parts = parts;
      gives = same_gives h.history.setting (read_in h.history) grip.slip.device.0 grip.stage.told (counted_here h s grip.slip.device.0 (not (has_died grip.stage.told)) known.seen same);
      history_is = history ∙ none_more h.history grip.slip.maker;
    }

pub same_whole : {D : Type 0} {shows : D → Shown} (h t : Inside D) (s : OpenHub D) (grip : Gripped D Done) (sl : Slip) → ProbeKnown shows h s grip sl → (read_of (configuration_of s)).up grip.slip.device.0 ≡ not (has_died grip.stage.told)
    → IsHome h t grip → t.history ≡ h.history → t.order ≡ h.order → IsWhole shows h → IsWhole shows t
same_whole h t s grip sl known same parts history order k =
    let here = probe_here h s grip sl known k in
    came_whole h t (Probes here.v) grip [] (same_back h t s grip sl known same parts history here)
    (λ formed home. subst (λ (x : HistoryState). OrderIsBeside h.rounds x (configuration_of (open_of t)).grips t.order.line t.order.table) (sym history)
    (subst (λ (x : OrderState). OrderIsBeside h.rounds h.history (configuration_of (open_of t)).grips x.line x.table) (sym order)
    (order_probe_home h.history.setting (read_in h.history) (configuration_of (open_of h)).grips (configuration_of (open_of t)).grips grip.slip.device.0 here.v h.order.line h.order.table (probe_grip here known.maker) home k.order))) k

pub same_given : {D : Type 0} {shows : D → Shown} (h t : Inside D) (s : OpenHub D) (grip : Gripped D Done) (sl : Slip) (made : List Entry)
    → ProbeKnown shows h s grip sl → (read_of (configuration_of s)).up grip.slip.device.0 ≡ not (has_died grip.stage.told)
    → IsHome h t grip → t.moment ≡ h.moment → t.history ≡ h.history → made ≡ [] → IsWhole shows h → ProbeBack s (open_of t) grip made
same_given h t s grip sl made known same parts moment history made_is k =
    let here = probe_here h s grip sl known k in
    probe_given h t s (Probes here.v) grip [] made known.seen known.maker moment (same_back h t s grip sl known same parts history here) made_is k

-- The device is back

rose_gives : (w : Setting) (n : Reading) (d : ℕ) (told : Told) → n.up d ≡ false → has_died told ≡ false → probe_entries w n d told ≡ back_entries d
rose_gives w n d Worked down lives = ap (λ b. if b then [] else back_entries d) down
rose_gives w n d (Sensed x) down lives = ap (λ b. if b then [] else back_entries d) down
rose_gives w n d Died down lives = absurd (cc)

-- what is known of it
pub record FoundBack {D : Type 0} (h : Inside D) (s : OpenHub D) (grip : Gripped D Done) (events : Events) : Type 0 where
  pub down : (read_of (configuration_of s)).up grip.slip.device.0 ≡ false
  pub lives : has_died grip.stage.told ≡ false
  pub events_are : events ≡ events_after grip.task grip.stage.told (progress_at h.checkouts.known.items grip.slip.device.0).events

back_tells : {D : Type 0} {shows : D → Shown} (h : Inside D) (s : OpenHub D) (grip : Gripped D Done) (sl : Slip) (events : Events)
    → ProbeKnown shows h s grip sl → FoundBack h s grip events
    → (here : ProbeHere shows h grip) → TellsTurn shows h (Probes here.v) grip (Rose grip.slip.device) []
back_tells h s grip sl events known found here = record {
  returned = here.returned;
  gives = rose_gives h.history.setting (read_in h.history) grip.slip.device.0 grip.stage.told (counted_here h s grip.slip.device.0 false known.seen found.down) found.lives;
  leave = refl;
}

back_rises : {D : Type 0} {shows : D → Shown} (h : Inside D) (s : OpenHub D) (grip : Gripped D Done) (sl : Slip) (events : Events)
    → ProbeKnown shows h s grip sl → FoundBack h s grip events
    → (here : ProbeHere shows h grip) → Rises h (Probes here.v) grip sl events
back_rises h s grip sl events known found here = record { same = known.same; down = sym here.for.on ∙ counted_here h s grip.slip.device.0 false known.seen found.down; lives = found.lives; events_are = found.events_are }

-- the device may come back
pub back_may : {D : Type 0} {shows : D → Shown} (h : Inside D) (s : OpenHub D) (grip : Gripped D Done) (sl : Slip) (events : Events) → ProbeKnown shows h s grip sl → FoundBack h s grip events → IsWhole shows h
    → MayTurn false (Back sl.device events.rose) h.history.spare sl.device h.order.line h.order.table
back_may h s grip sl events known found k =
    let here = probe_here h s grip sl known k in
    may_rise h (Probes here.v) grip [] sl events (back_tells h s grip sl events known found here) (back_rises h s grip sl events known found here) k

-- its restart may be told
pub back_follows : {D : Type 0} {shows : D → Shown} (h : Inside D) (s : OpenHub D) (grip : Gripped D Done) (sl : Slip) (events : Events) → ProbeKnown shows h s grip sl → FoundBack h s grip events → IsWhole shows h
    → IsTrue (may_follow h.history.setting (read_in h.history) (Rose sl.device))
back_follows h s grip sl events known found k =
    let here = probe_here h s grip sl known k in
    subst (λ (z : Slip). IsTrue (may_follow h.history.setting (read_in h.history) (Rose z.device))) (sym known.same)
    (tells_may h (Probes here.v) grip (Rose grip.slip.device) [] (back_tells h s grip sl events known found here) k)

-- what history, line and table make of it
pub record IsRisen {D : Type 0} (h t : Inside D) (sl : Slip) (events : Events) : Type 0 where
  pub history : t.history ≡ with_entry h.history 0 (Rose sl.device)
  pub rises : HasRisen h.history sl.device events.rose h.order.line t.order.line h.order.table t.order.table

risen_back : {D : Type 0} {shows : D → Shown} (h t : Inside D) (s : OpenHub D) (grip : Gripped D Done) (sl : Slip) (events : Events)
    → ProbeKnown shows h s grip sl → FoundBack h s grip events → IsHome h t grip → IsRisen h t sl events
    → (here : ProbeHere shows h grip) → CameHome shows h t (Probes here.v) grip (Rose grip.slip.device ∷ [])
risen_back h t s grip sl events known found parts risen here =
    record {
      returned = here.returned;
      parts = parts;
      gives = (back_tells h s grip sl events known found here).gives;
      history_is = risen.history ∙ ap (λ (x : Slip). with_entry h.history 0 (Rose x.device)) known.same ∙ ap (λ m. with_more h.history m (Rose grip.slip.device ∷ [])) (sym known.maker);
    }

-- where its event stands
place_told : {D : Type 0} {shows : D → Shown} (h : Inside D) (d : DeviceNo) → d.0 < length h.history.setting.first
    → IsWhole shows h
    → event_place h.history.history None (accesses_at h.order.table d.0) h.order.line.marks ≡ event_place_of h.history.setting (read_in h.history) d.0
place_told h d below k = either_model (event_place h.history.history None (accesses_at h.order.table d.0) h.order.line.marks ≡ event_place_of h.history.setting (read_in h.history) d.0) h.history.setting
    (λ weak. weak_place h.history.setting (read_in h.history) (configuration_of (open_of h)).grips d.0 h.history.history (accesses_at h.order.table d.0) h.order.line.marks weak (k.order.table_is.weakly weak d.0 below).accesses k.order.line_is)
    (λ strong. event_told h.history.setting (read_in h.history) (configuration_of (open_of h)).grips (held_in (open_of h)) d.0 h.history.history
    (lineage_at h.order.table d.0) h.order.line.marks (read_whole h k) strong (lt-ltb d.0 (length h.history.setting.first) below)
    (k.shown.configuration.ordered strong).order ((k.order.table_is.ordered strong).each d.0 below) k.order.line_is
    (λ q. sound_is h.history.setting h.history.history q k.shown.configuration.history.well_formed))

table_place : {D : Type 0} {shows : D → Shown} (h : Inside D) (d : ℕ) → d < length h.history.setting.first → IsWhole shows h → d < length h.order.table
table_place h d below k = let size : length h.order.table ≡ length h.history.setting.first = k.order.table_is.devices in omega (arith, below, size)

pub risen_whole : {D : Type 0} {shows : D → Shown} (h t : Inside D) (s : OpenHub D) (grip : Gripped D Done) (sl : Slip)
    (events : Events) → ProbeKnown shows h s grip sl → FoundBack h s grip events → IsHome h t grip → IsRisen h t sl events
    → IsWhole shows h → IsWhole shows t
risen_whole {D = D} {shows = shows} h t s grip sl events known found parts risen k =
    came_whole h t (Probes here.v) grip (Rose grip.slip.device ∷ []) (risen_back h t s grip sl events known found parts risen here)
    (λ formed home. order_probe_home t.history.setting (read_in t.history) (configuration_of (open_of h)).grips (configuration_of (open_of t)).grips d.0 here.v t.order.line t.order.table (probe_grip here known.maker) home
    (order_rose h.history t.history (configuration_of (open_of h)).grips 0 d.0 events.rose
    (event_place h.history.history None (accesses_at h.order.table d.0) h.order.line.marks) h.order.line t.order.line h.order.table t.order.table
    (table_place h d.0 here.for.below k) own.history (place_told h d here.for.below k)
    (risen_number h (Probes here.v) grip sl events here.returned (back_rises h s grip sl events known found here) k) own.rises.marks own.rises.spare own.rises.runs own.rises.sealed own.rises.counted k.order)) k
  where
    d : DeviceNo
    d = grip.slip.device

    here : ProbeHere shows h grip
    here = probe_here h s grip sl known k

    own : IsRisen h t grip.slip events
    own = subst (λ (z : Slip). IsRisen h t z events) known.same risen

pub risen_given : {D : Type 0} {shows : D → Shown} (h t : Inside D) (s : OpenHub D) (grip : Gripped D Done) (sl : Slip)
    (events : Events) (made : List Entry) → ProbeKnown shows h s grip sl → FoundBack h s grip events → IsHome h t grip → t.moment ≡ h.moment
    → IsRisen h t sl events → made ≡ Rose sl.device ∷ [] → IsWhole shows h → ProbeBack s (open_of t) grip made
risen_given h t s grip sl events made known found parts moment risen made_is k =
    let here = probe_here h s grip sl known k in
    probe_given h t s (Probes here.v) grip (Rose grip.slip.device ∷ []) made known.seen known.maker moment (risen_back h t s grip sl events known found parts risen here) (made_is ∙ ap (λ (z : Slip). Rose z.device ∷ []) known.same) k

-- The device has failed

-- the run that is lost, as the code finds it
pub lost_is : {D : Type 0} {shows : D → Shown} (h : Inside D) (d : ℕ) (v : Option ℕ) → (configuration_of (open_of h)).grips d
    ≡ Some (record { maker = 0; purpose = Probes v }) → d < length h.history.setting.first → IsWhole shows h
    → option_map (λ (r : RunNo). r.0) (lost_run h.history.history (accesses_at h.order.table d)) ≡ lost_by h.history.setting (read_in h.history) d
lost_is h d v at below k = either_model (option_map (λ (r : RunNo). r.0) (lost_run h.history.history (accesses_at h.order.table d)) ≡ lost_by h.history.setting (read_in h.history) d) h.history.setting
    (λ weak. ap (λ xs. option_map (λ (r : RunNo). r.0) (lost_run h.history.history xs)) (k.order.table_is.weakly weak d below).accesses
    ∙ sym (ap (λ b. if b then None else find (λ x. is_open h.history.setting (read_in h.history) x d && sees_up (read_in h.history) x d)
    (live_runs (read_in h.history) (read_in h.history).line)) weak))
    (λ strong. lost_told (point h.history.setting (read_in h.history) (configuration_of (open_of h)).grips) (held_in (open_of h)) d h.history.history
    (lineage_at h.order.table d) (read_whole h k) strong (lt-ltb d (length h.history.setting.first) below)
    (probe_commands (configuration_of (open_of h)).grips d 0 v at) (k.shown.configuration.ordered strong).order ((k.order.table_is.ordered strong).each d below)
    (λ q. sound_is h.history.setting h.history.history q k.shown.configuration.history.well_formed))

-- it is a live run that is not doomed
pub record IsLostRun (w : Setting) (n : Reading) (r : ℕ) : Type 0 where
  pub live : is_live n r ≡ true
  pub sound : is_doomed n r ≡ false
  pub run : is_run w.runs r ≡ true

pub lost_runs : (w : Setting) (n : Reading) (d r : ℕ) → IsRead w n → lost_by w n d ≡ Some r → IsLostRun w n r
lost_runs w n d r read lost = either_model (IsLostRun w n r) w
    (λ weak. absurd (let none : None ≡ Some r = sym (ap (λ b. if b then None else find (λ x. is_open w n x d && sees_up n x d) (live_runs n n.line)) weak) ∙ lost in cc))
    (λ strong.
    let found = each_found (λ x. is_live n x ≡ true) (λ x. is_open w n x d && sees_up n x d) (live_runs n n.line) r (live_runs_live n n.line) (sym (ap (λ b. if b then None else find (λ x. is_open w n x d && sees_up n x d) (live_runs n n.line)) strong) ∙ lost) in
    record { live = found.0; sound = third (is_live n r) (is_doomed n r) (pends w n r d) (sees_up n r d) found.1; run = live_run w n r read found.0 })
  where
    third : (a b c e : Bool) → ((a && not b && c) && e) ≡ true → b ≡ false
    third a b c e h = grind (arith, common_steps)

-- the device that is out for a command of a run that is not doomed is the one whose grip it holds
found_does : {A : Type 0} (p : A → Bool) (xs : List A) (x : A) → find p xs ≡ Some x → p x ≡ true
found_does p [] x e = absurd (cc)
found_does p (y ∷ ys) x e = elim (p y) as (λ b. p y ≡ b → cond b (Some y) (find p ys) ≡ Some x → p x ≡ true) [
  | true ↦ (λ t f. subst (λ z. p z ≡ true) (same_Some y x f) t)
  | false ↦ (λ t f. found_does p ys x f)
] refl e

-- a run that is not doomed has a grip for commands alone
for_commands : (w : Setting) (n : Reading) (g : Grips) (r e : ℕ) → GripsFit (point w n g) → is_run w.runs r ≡ true → is_doomed n r ≡ false → grips_command g r e ≡ has_grip g r e
for_commands w n g r e fit run sound = by_grip (g e) refl
  where
    differs : (m : ℕ) (b c : Bool) → (m == r) ≡ false → ((m == r) && b) ≡ (m == r)
    differs m b c h = grind (arith, common_steps)

    doomed_then : (a b c f : Bool) → (a && b && c && f) ≡ true → b ≡ true
    doomed_then a b c f h = grind (arith, common_steps)

    by_purpose : (m : ℕ) (p : Purpose) → g e ≡ Some (record { maker = m; purpose = p }) → (b : Bool) → (m == r) ≡ b → ((m == r) && is_command p) ≡ (m == r)
    by_purpose m (Commands k) at b is = and-true (m == r)
    by_purpose m (Undoes v) at true is =
        absurd (let both : false ≡ true = sym sound ∙ ap (is_doomed n) (sym (eqb-true m r is)) ∙ doomed_then (is_live n m) (is_doomed n m) (has_written n m e) (not ((n.run m).on e).undid) (fit.runs.undos e m v at) in cc)
    by_purpose m (Undoes v) at false is = differs m false false is
    by_purpose m (Probes v) at true is =
        absurd (let none : r ≡ 0 = sym (eqb-true m r is) ∙ fit.probes e m v at in let no : is_run w.runs 0 ≡ true = subst (λ x. is_run w.runs x ≡ true) none run in cc)
    by_purpose m (Probes v) at false is = differs m false false is

    by_grip : (o : Option Grip) → g e ≡ o → unwrap_or (option_map (λ p. (p.maker == r) && is_command p.purpose) o) false ≡ unwrap_or (option_map (λ p. p.maker == r) o) false
    by_grip None at = refl
    by_grip (Some p) at = by_purpose p.maker p.purpose at (p.maker == r) refl

-- .. and one at most: that of this device, where there is one
pub out_commands : (w : Setting) (n : Reading) (g : Grips) (r : ℕ) (out : Option DeviceNo) → GripsFit (point w n g) → is_run w.runs r ≡ true → is_doomed n r ≡ false → option_map (λ d. d.0) out ≡ grip_wait w g r → (e : ℕ) → grips_command g r e ≡ is_named_device out e
out_commands w n g r out fit run sound held e = for_commands w n g r e fit run sound ∙ by_out out held
  where
    place : (r ≡ suc (r - 1)) × (r - 1 < length w.runs)
    place = run_place w.runs r run

    outside : (x : ℕ) → is_device w x ≡ false → has_grip g r x ≡ false
    outside x none = by_grip (g x) refl
      where
        by_grip : (o : Option Grip) → g x ≡ o → unwrap_or (option_map (λ p. p.maker == r) o) false ≡ false
        by_grip None at = refl
        by_grip (Some p) at = absurd (let both : false ≡ true = sym none ∙ fit.homed x (ap (λ o. is_there o) at) in cc)
          where
            is_there : Option Grip → Bool
            is_there None = false
            is_there (Some q) = true

    -- no grip where the hand is empty
    empty : grip_wait w g r ≡ None → has_grip g r e ≡ false
    empty none = by_place (is_device w e) refl
      where
        by_place : (b : Bool) → is_device w e ≡ b → has_grip g r e ≡ false
        by_place true home = none_does (has_grip g r) 0 (length w.first) none e (omega arith) (let lt : e < length w.first = grind (arith, common_steps, home) in omega (arith, lt))
        by_place false away = outside e away

    maker_of : (x : ℕ) (o : Option Grip) → g x ≡ o → unwrap_or (option_map (λ p. p.maker == r) o) false ≡ true → (p : Purpose) × (g x ≡ Some (record { maker = suc (r - 1); purpose = p }))
    maker_of x None at h = absurd (cc)
    maker_of x (Some p) at h = (p.purpose, at ∙ ap (λ m. Some (record { maker = m; purpose = p.purpose })) (eqb-true p.maker r h ∙ place.0))

    -- it holds this one alone
    alone : (x : DeviceNo) → grip_wait w g r ≡ Some x.0 → has_grip g r e ≡ (x.0 == e)
    alone x held = by_test (x.0 == e) refl (has_grip g r e) refl
      where
        here : has_grip g r x.0 ≡ true
        here = found_does (has_grip g r) _ x.0 held

        by_test : (b : Bool) → (x.0 == e) ≡ b → (c : Bool) → has_grip g r e ≡ c → c ≡ b
        by_test true same true has = refl
        by_test true same false has = sym has ∙ ap (has_grip g r) (sym (eqb-true x.0 e same)) ∙ here
        by_test false other false has = refl
        by_test false other true has =
            let one = maker_of x.0 (g x.0) refl here in
            let two = maker_of e (g e) refl has in
            absurd (let same : x.0 ≡ e = fit.runs.one x.0 e (r - 1) one.0 two.0 one.1 two.1 in let both : false ≡ true = sym other ∙ ap (λ z. x.0 == z) (sym same) ∙ eq-eqb x.0 _ refl in cc)

    by_out : (o : Option DeviceNo) → option_map (λ d. d.0) o ≡ grip_wait w g r → has_grip g r e ≡ is_named_device o e
    by_out None is = empty (sym is)
    by_out (Some x) is = alone x (sym is)

-- .. of its hand
pub hand_commands : (w : Setting) (n : Reading) (g : Grips) (r : ℕ) (held_tokens : List (Option DeviceNo)) → GripsFit (point w n g) → HeldTokensAre w g held_tokens → is_run w.runs r ≡ true → is_doomed n r ≡ false → (e : ℕ) → grips_command g r e ≡ is_named_device (hand_of held_tokens r) e
hand_commands w n g r held_tokens fit are run sound = out_commands w n g r (hand_of held_tokens r) fit run sound (by_hand (slice_get held_tokens (r - 1)) refl)
  where
    place : (r ≡ suc (r - 1)) × (r - 1 < length w.runs)
    place = run_place w.runs r run

    -- what the hand says
    holds : (hand : Option DeviceNo) → slice_get held_tokens (r - 1) ≡ Some hand → option_map (λ d. d.0) hand ≡ grip_wait w g r
    holds hand at = are.each (r - 1) hand at ∙ ap (grip_wait w g) (sym place.0)

    by_hand : (o : Option (Option DeviceNo)) → slice_get held_tokens (r - 1) ≡ o → option_map (λ d. d.0) (hand_of held_tokens r) ≡ grip_wait w g r
    by_hand None at = absurd (let size = are.size in let past = gone_past held_tokens (r - 1) at in omega (arith, size, past, place.1))
    by_hand (Some hand) at = ap (option_map (λ d. d.0)) (hand_is held_tokens (r - 1) hand at) ∙ holds hand at
      where
        hand_is : (xs : List (Option DeviceNo)) (i : ℕ) (x : Option DeviceNo) → slice_get xs i ≡ Some x → slice_index_or xs i None ≡ x
        hand_is [] i x at' = absurd (cc)
        hand_is (y ∷ ys) zero x at' = same_Some y x at'
        hand_is (y ∷ ys) (suc i) x at' = hand_is ys i x at'

-- The device has failed, and a run is lost with it, or none

fell_gives : (w : Setting) (n : Reading) (d : ℕ) (told : Told) → n.up d ≡ true → has_died told ≡ true → probe_entries w n d told ≡ dead_entries d (lost_by w n d)
fell_gives w n d Worked up died = absurd (cc)
fell_gives w n d (Sensed x) up died = absurd (cc)
fell_gives w n d Died up died = ap (λ b. if b then dead_entries d (lost_by w n d) else []) up

-- what is known of it
pub record FoundDead {D : Type 0} (h : Inside D) (s : OpenHub D) (grip : Gripped D Done) (events : Events) : Type 0 where
  pub up : (read_of (configuration_of s)).up grip.slip.device.0 ≡ true
  pub died : has_died grip.stage.told ≡ true
  pub events_are : events ≡ events_after grip.task grip.stage.told (progress_at h.checkouts.known.items grip.slip.device.0).events

-- the run that is lost
abbrev lost_here : {D : Type 0} → Inside D → Gripped D Done → Option ℕ
lost_here h grip = lost_by h.history.setting (read_in h.history) grip.slip.device.0

abbrev doom_entries : DeviceNo → Option ℕ → List Entry
doom_entries d lost = option_to_list (option_map (λ x. Doomed (run_no x) (Lost d)) lost)

dead_tells : {D : Type 0} {shows : D → Shown} (h : Inside D) (s : OpenHub D) (grip : Gripped D Done) (sl : Slip) (events : Events) → ProbeKnown shows h s grip sl → FoundDead h s grip events → (here : ProbeHere shows h grip)
    → TellsTurn shows h (Probes here.v) grip (Fell grip.slip.device) (doom_entries grip.slip.device (lost_here h grip))
dead_tells h s grip sl events known found here = record {
  returned = here.returned;
  gives = fell_gives h.history.setting (read_in h.history) grip.slip.device.0 grip.stage.told (counted_here h s grip.slip.device.0 true known.seen found.up) found.died;
  leave = leaves (lost_here h grip);
}
  where
    fell : Reading
    fell = entry h.history.setting (read_in h.history) (Fell grip.slip.device)

    leaves : (lost : Option ℕ) → (fold (entry h.history.setting) fell (doom_entries grip.slip.device lost)).line ≡ fell.line
    leaves None = refl
    leaves (Some r) = refl

dead_falls : {D : Type 0} {shows : D → Shown} (h : Inside D) (s : OpenHub D) (grip : Gripped D Done) (sl : Slip) (events : Events)
    → ProbeKnown shows h s grip sl → FoundDead h s grip events
    → (here : ProbeHere shows h grip) → Falls h (Probes here.v) grip sl events
dead_falls h s grip sl events known found here = record { same = known.same; up = sym here.for.on ∙ counted_here h s grip.slip.device.0 true known.seen found.up; died = found.died; events_are = found.events_are }

-- the device may fail
pub dead_may : {D : Type 0} {shows : D → Shown} (h : Inside D) (s : OpenHub D) (grip : Gripped D Done) (sl : Slip) (events : Events) → ProbeKnown shows h s grip sl → FoundDead h s grip events → IsWhole shows h
    → MayTurn true (Failed sl.device events.fell) h.history.spare sl.device h.order.line h.order.table
dead_may h s grip sl events known found k =
    let here = probe_here h s grip sl known k in
    may_fall h (Probes here.v) grip (doom_entries grip.slip.device (lost_here h grip)) sl events (dead_tells h s grip sl events known found here) (dead_falls h s grip sl events known found here) k

-- its failure may be told
pub dead_follows : {D : Type 0} {shows : D → Shown} (h : Inside D) (s : OpenHub D) (grip : Gripped D Done) (sl : Slip) (events : Events) → ProbeKnown shows h s grip sl → FoundDead h s grip events → IsWhole shows h
    → IsTrue (may_follow h.history.setting (read_in h.history) (Fell sl.device))
dead_follows h s grip sl events known found k =
    let here = probe_here h s grip sl known k in
    subst (λ (z : Slip). IsTrue (may_follow h.history.setting (read_in h.history) (Fell z.device))) (sym known.same)
    (tells_may h (Probes here.v) grip (Fell grip.slip.device) (doom_entries grip.slip.device (lost_here h grip)) (dead_tells h s grip sl events known found here) k)

-- what the code finds of the lost run: it is one of the window, and its doom has a place and may be told
pub record LostFits (fell : HistoryState) (d : DeviceNo) (held_tokens : ℕ) (lost : Option RunNo) : Type 0 where
  pub run : IfSome lost (λ r. IsTrue (is_run fell.setting.runs r.0) × (r.0 ≤ held_tokens))
  pub room : IsSome lost → 0 < fell.spare
  pub follows : IfSome lost (λ r. IsTrue (may_follow fell.setting (read_in fell) (Doomed r (Lost d))))

pub lost_fits : {D : Type 0} {shows : D → Shown} (h : Inside D) (away : Checkouts D) (s : OpenHub D) (grip : Gripped D Done) (sl : Slip)
    (events : Events) (lost : Option RunNo) (fell : HistoryState) → ProbeKnown shows h s grip sl → FoundDead h s grip events
    → lost ≡ lost_run h.history.history (accesses_at h.order.table sl.device.0) → fell ≡ with_entry h.history 0 (Fell sl.device) → IsHomeAgain h.checkouts grip away → IsWhole shows h → LostFits fell sl.device (length away.held_tokens.items) lost
lost_fits {D = D} {shows = shows} h away s grip sl events lost fell known dead found told home k =
    subst (λ x. LostFits fell sl.device (length x) lost) (sym (hands_same h.checkouts away grip home known.maker)) (record {
      run = subst (λ (w : Setting). IfSome lost (λ r. IsTrue (is_run w.runs r.0) × (r.0 ≤ length h.checkouts.held_tokens.items))) (sym (ap (λ (x : HistoryState). x.setting) told)) (runs lost loses);
      room = λ some. places lost some loses;
      follows = may lost loses;
    })
  where
    w : Setting
    w = h.history.setting

    n : Reading
    n = read_in h.history

    d : ℕ
    d = grip.slip.device.0

    here : ProbeHere shows h grip
    here = probe_here h s grip sl known k

    loses : option_map (λ (r : RunNo). r.0) lost ≡ lost_by w n d
    loses = ap (option_map (λ (r : RunNo). r.0)) (found ∙ ap (λ (z : Slip). lost_run h.history.history (accesses_at h.order.table z.device.0)) known.same) ∙ lost_is h d here.v (probe_grip here known.maker) here.for.below k

    runs : (o : Option RunNo) → option_map (λ (r : RunNo). r.0) o ≡ lost_by w n d → IfSome o (λ r. IsTrue (is_run w.runs r.0) × (r.0 ≤ length h.checkouts.held_tokens.items))
    runs None is = tt
    runs (Some r) is =
        let of = lost_runs w n d r.0 (read_whole h k) (sym is) in
        let place = run_place w.runs r.0 of.run in
        (of.run, omega (arith, place.0, place.1, k.held_tokens.size))

    places : (o : Option RunNo) → IsSome o → option_map (λ (r : RunNo). r.0) o ≡ lost_by w n d → 0 < fell.spare
    places None none is = absurd (cc none)
    places (Some r) some is =
        let fits : length (dead_entries d (lost_by w n d)) ≤ h.history.spare = subst (λ es. length es ≤ h.history.spare) (dead_tells h s grip sl events known dead here).gives (returned_places h (Probes here.v) grip here.returned k) in
        let two : 2 ≤ h.history.spare = subst (λ o. length (dead_entries d o) ≤ h.history.spare) (sym is) fits in
        let left : fell.spare ≡ h.history.spare - 1 = ap (λ (x : HistoryState). x.spare) told in
        omega (arith, two, left)

    -- the entries of its step may be appended
    takes : MayTake h.history grip.slip.maker (dead_entries d (lost_by w n d))
    takes = subst (MayTake h.history grip.slip.maker) (dead_tells h s grip sl events known dead here).gives (takes_back h (Probes here.v) grip here.returned k)

    may : (o : Option RunNo) → option_map (λ (r : RunNo). r.0) o ≡ lost_by w n d → IfSome o (λ r. IsTrue (may_follow fell.setting (read_in fell) (Doomed r (Lost sl.device))))
    may None is = tt
    may (Some r) is =
        let both : MayTake h.history 0 (Fell sl.device ∷ Doomed r (Lost sl.device) ∷ []) =
        subst (λ (z : Slip). MayTake h.history 0 (Fell z.device ∷ Doomed r (Lost z.device) ∷ [])) (sym known.same)
        (subst (λ m. MayTake h.history m (dead_entries d (Some r.0))) known.maker
        (subst (λ o. MayTake h.history grip.slip.maker (dead_entries d o)) (sym is) takes)) in
        subst (λ (x : HistoryState). IsTrue (may_follow x.setting (read_in x) (Doomed r (Lost sl.device)))) (sym told) (takes_first (with_entry h.history 0 (Fell sl.device)) 0 (Doomed r (Lost sl.device)) [] (takes_rest h.history 0 (Fell sl.device) (Doomed r (Lost sl.device) ∷ []) both))

-- what the code wrote of it
pub record IsFallen {D : Type 0} (h t : Inside D) (sl : Slip) (events : Events) (lost : Option RunNo) (fell : HistoryState) (fallen : OrderState) : Type 0 where
  pub told : fell ≡ with_entry h.history 0 (Fell sl.device)
  pub falls : HasFallen h.history sl.device None events.fell h.order.line fallen.line h.order.table fallen.table
  pub found : lost ≡ lost_run h.history.history (accesses_at h.order.table sl.device.0)
  pub doomed : t.history ≡ with_lost fell sl.device lost
  pub line : t.order.line ≡ fallen.line
  pub table : IsLostTo lost t.checkouts.held_tokens.items fallen.table t.order.table

-- its entries
fallen_more : (h : HistoryState) (d : DeviceNo) (lost : Option RunNo) → with_lost (with_entry h 0 (Fell d)) d lost ≡ with_more h 0 (dead_entries d.0 (option_map (λ (r : RunNo). r.0) lost))
fallen_more h d None = refl
fallen_more h d (Some r) = more_after h 0 (Fell d) (Doomed r (Lost d) ∷ [])

-- .. of the probe that came home
fallen_back : {D : Type 0} {shows : D → Shown} (h t : Inside D) (s : OpenHub D) (grip : Gripped D Done) (sl : Slip) (events : Events)
    (lost : Option RunNo) (fell : HistoryState) (fallen : OrderState) → ProbeKnown shows h s grip sl → FoundDead h s grip events
    → IsHome h t grip → IsFallen h t sl events lost fell fallen
    → (here : ProbeHere shows h grip) → IsWhole shows h → CameHome shows h t (Probes here.v) grip (dead_entries grip.slip.device.0 (lost_here h grip))
fallen_back h t s grip sl events lost fell fallen known found parts is here k =
    record {
      returned = here.returned;
      parts = parts;
      gives = (dead_tells h s grip sl events known found here).gives;
      history_is = is.doomed ∙ ap (λ x. with_lost x sl.device lost) is.told ∙ fallen_more h.history sl.device lost
          ∙ ap (λ o. with_more h.history 0 (dead_entries sl.device.0 (option_map (λ (r : RunNo). r.0) o))) is.found
          ∙ ap (λ (z : Slip). with_more h.history 0 (dead_entries z.device.0 (option_map (λ (r : RunNo). r.0) (lost_run h.history.history (accesses_at h.order.table z.device.0))))) known.same
          ∙ ap₂ (λ m o. with_more h.history m (dead_entries grip.slip.device.0 o)) (sym known.maker) (lost_is h grip.slip.device.0 here.v (probe_grip here known.maker) here.for.below k);
    }

-- line and table, by the run that is lost
order_fallen : {rounds : ℕ} (w : Setting) (h fell t : HistoryState) (g : Grips) (held : ℕ → ℕ) (d : DeviceNo) (v : Option ℕ) (number : ℕ) (lost : Option RunNo) (held_tokens : List (Option DeviceNo)) (line mid after : Marked) (table between later : List LineageState)
    → h.setting ≡ w → d.0 < length table → fell ≡ with_entry h 0 (Fell d) → event_place h.history None (accesses_at table d.0) line.marks ≡ event_place_of h.setting (read_in h) d.0 → number ≡ (read_in h).fell d.0 + 1 → HasFallen h d None number line mid table between
    → IsWellFormed h.setting (entries_of h.history) → may_follow h.setting (read_in h) (Fell d) ≡ true → GripsFit (point h.setting (read_in h) g) → HeldTokensAre h.setting g held_tokens → IfSome lost (λ r. IsLostRun h.setting (read_in h) r.0)
    → t ≡ with_lost fell d lost → after ≡ mid → IsLostTo lost held_tokens between later → OrderIsBeside rounds h g line table → OrderIsBeside rounds t g after later
order_fallen {rounds = rounds} w h fell t g held d v number lost held_tokens line mid after table between later same below told place number_is falls formed may fit are lost_one doomed kept changed beside = by_lost lost lost_one doomed changed
  where
    next : Reading
    next = entry h.setting (read_in h) (Fell d)

    fallen : OrderIsBeside rounds fell g mid between
    fallen = order_fell h fell g 0 d.0 number (event_place h.history None (accesses_at table d.0) line.marks) line mid table between below told place number_is falls.marks falls.spare falls.runs falls.sealed falls.counted beside

    reads : read_in fell ≡ next
    reads = ap read_in told ∙ read_more h.setting h.history 0 (Fell d)

    setting : fell.setting ≡ h.setting
    setting = ap (λ (x : HistoryState). x.setting) told

    formed_then : IsWellFormed fell.setting (entries_of fell.history)
    formed_then = subst (λ (x : HistoryState). IsWellFormed x.setting (entries_of x.history)) (sym told) (subst (IsWellFormed h.setting) (sym (entries_on h.history 0 (Fell d ∷ []))) (each_more h.setting (may_follow h.setting) (entries_of h.history) (Fell d) formed may))

    fit_then : GripsFit (point fell.setting (read_in fell) g)
    fit_then = subst (λ x. GripsFit (point x (read_in fell) g)) (sym setting) (subst (λ x. GripsFit (point h.setting x g)) (sym reads) (fits_same h.setting (read_in h) next g (λ q e k. refl) (λ q e. refl) fit))

    by_lost : (o : Option RunNo) → IfSome o (λ r. IsLostRun h.setting (read_in h) r.0) → t ≡ with_lost fell d o → IsLostTo o held_tokens between later → OrderIsBeside rounds t g after later
    by_lost None one is change =
        subst (λ (x : HistoryState). OrderIsBeside rounds x g after later) (sym is) (subst (λ (x : Marked). OrderIsBeside rounds fell g x later) (sym kept) (subst (λ (x : List LineageState). OrderIsBeside rounds fell g mid x) (sym change) fallen))
    by_lost (Some r) one is change =
        order_lost fell t g 0 r.0 (Lost d) (hand_of held_tokens r.0) mid after between later (read_facts fell.setting (entries_of fell.history) formed_then) fit_then
        (ap (λ x. is_doomed x r.0) reads ∙ one.sound) (hand_commands h.setting (read_in h) g r.0 held_tokens fit are one.run one.sound) is kept change fallen

pub fallen_whole : {D : Type 0} {shows : D → Shown} (h t : Inside D) (s : OpenHub D) (grip : Gripped D Done) (sl : Slip)
    (events : Events) (lost : Option RunNo) (fell : HistoryState) (fallen : OrderState) → ProbeKnown shows h s grip sl
    → FoundDead h s grip events → IsHome h t grip → IsFallen h t sl events lost fell fallen
    → IsWhole shows h → IsWhole shows t
fallen_whole {D = D} {shows = shows} h t s grip sl events lost fell fallen known found parts falls k =
    came_whole h t (Probes here.v) grip (dead_entries d.0 (lost_by w n d.0)) (fallen_back h t s grip sl events lost fell fallen known found parts falls here k)
    (λ formed home. order_probe_home t.history.setting (read_in t.history) (configuration_of (open_of h)).grips (configuration_of (open_of t)).grips d.0 here.v t.order.line t.order.table out home
    (order_fallen w h.history fell t.history (configuration_of (open_of h)).grips
    (held_in (open_of h)) d here.v events.fell lost h.checkouts.held_tokens.items h.order.line fallen.line t.order.line h.order.table fallen.table t.order.table refl
    (table_place h d.0 here.for.below k) own.told (place_told h d here.for.below k)
    (fallen_number h (Probes here.v) grip sl events here.returned (dead_falls h s grip sl events known found here) k) own.falls k.shown.configuration.history.well_formed
    (tells_may h (Probes here.v) grip (Fell d) (doom_entries d (lost_here h grip)) (dead_tells h s grip sl events known found here) k)
    k.shown.configuration.grips k.held_tokens (one lost loses) own.doomed own.line
    (subst (λ x. IsLostTo lost x fallen.table t.order.table) (hands_same h.checkouts t.checkouts grip parts.home known.maker) own.table) k.order)) k
  where
    w : Setting
    w = h.history.setting

    n : Reading
    n = read_in h.history

    d : DeviceNo
    d = grip.slip.device

    here : ProbeHere shows h grip
    here = probe_here h s grip sl known k

    out : (configuration_of (open_of h)).grips d.0 ≡ Some (record { maker = 0; purpose = Probes here.v })
    out = probe_grip here known.maker

    own : IsFallen h t grip.slip events lost fell fallen
    own = subst (λ (z : Slip). IsFallen h t z events lost fell fallen) known.same falls

    loses : option_map (λ (r : RunNo). r.0) lost ≡ lost_by w n d.0
    loses = ap (option_map (λ (r : RunNo). r.0)) own.found ∙ lost_is h d.0 here.v out here.for.below k

    one : (o : Option RunNo) → option_map (λ (r : RunNo). r.0) o ≡ lost_by w n d.0 → IfSome o (λ r. IsLostRun w n r.0)
    one None is = tt
    one (Some r) is = lost_runs w n d.0 r.0 (read_whole h k) (sym is)

-- the entries that the code made are these
pub fallen_made : (d : DeviceNo) (lost : Option RunNo) (e : Entry) (o : Option Entry) → e ≡ Fell d → o ≡ option_map (λ r. Doomed r (Lost d)) lost → entries_made (record { a = Some e; b = o; c = None }) ≡ dead_entries d.0 (option_map (λ (r : RunNo). r.0) lost)
fallen_made d lost e o fell_is doom_is = (λ i. entries_made (record { a = Some (fell_is i); b = doom_is i; c = None })) ∙ by_lost lost
  where
    by_lost : (x : Option RunNo) → entries_made (record { a = Some (Fell d); b = option_map (λ r. Doomed r (Lost d)) x; c = None }) ≡ dead_entries d.0 (option_map (λ (r : RunNo). r.0) x)
    by_lost None = refl
    by_lost (Some r) = refl

pub fallen_given : {D : Type 0} {shows : D → Shown} (h t : Inside D) (s : OpenHub D) (grip : Gripped D Done) (sl : Slip)
    (events : Events) (lost : Option RunNo) (fell : HistoryState) (fallen : OrderState) (made : List Entry) → ProbeKnown shows h s grip sl
    → FoundDead h s grip events → IsHome h t grip → t.moment ≡ h.moment
    → IsFallen h t sl events lost fell fallen → made ≡ dead_entries sl.device.0 (option_map (λ (r : RunNo). r.0) lost) → IsWhole shows h → ProbeBack s (open_of t) grip made
fallen_given h t s grip sl events lost fell fallen made known found parts moment falls made_is k =
    let here = probe_here h s grip sl known k in
    probe_given h t s (Probes here.v) grip _ made known.seen known.maker moment (fallen_back h t s grip sl events lost fell fallen known found parts falls here k)
    (made_is ∙ ap (λ o. dead_entries sl.device.0 (option_map (λ (r : RunNo). r.0) o)) falls.found
    ∙ ap (λ (z : Slip). dead_entries z.device.0 (option_map (λ (r : RunNo). r.0) (lost_run h.history.history (accesses_at h.order.table z.device.0)))) known.same
    ∙ ap (dead_entries grip.slip.device.0) (lost_is h grip.slip.device.0 here.v (probe_grip here known.maker) here.for.below k)) k
