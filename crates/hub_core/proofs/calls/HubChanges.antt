-- A step of a run in which no device goes out keeps what the type of a hub keeps, and is the step that it says.
use Rattle.hub_core.proofs.Prelude.{Answer, Answers, Bool, Cause, Choice, Chose, Commands, Configuration, Did, Doomed, End, Entry, HasRoomLeft, HistoryState, HubIsKept, HubStep, IfSome, Inside, IsKeptByModel, IsTrue, IsWellFormed, IsWhole, Kept, List, MayTake, Moves, None, OpenHub, Option, OrderIsBeside, Over, Probes, Purpose, Setting, Shown, Slip, SlipFits, Some, Take, Undoes, [], after_choice, after_take, all_probes_taken, ap, append_assoc, ap₂, arith, at_moment, carried_after, choice_of, command_at, configuration_of, count_by, driven, entries_of, events_in, fell_is, held_in, hub_state_of, if◌then◌else◌, is_away, is_weak, kept_by, kind_at, length, length-append, length-map, max, may_follow, most_entries, open_of, option_map, option_to_list, progress_at, read_in, read_of, reading, reads, refl, run_no, subst, sym, takes_first, takes_rest, task_of, told_calls, told_falls, with_doom, with_entry, with_more, ℕ, ◌*◌, ◌++◌, ◌+◌, ◌-◌, ◌<◌, ◌∙◌, ◌∷◌, ◌≡◌, ◌≤◌}
use Rattle.hub_core.proofs.kept.KeptByModel.{later_kept, taken_kept}
use Rattle.home_types.specs.Limits.{most_devices, most_probes, most_runs}
use Rattle.device_gate.specs.declared.slips.Task.TheVariants.{Drive, Sense}
use Rattle.hub_core.proofs.steps.Calls.{take_calls, take_counted, take_falls, take_registers, take_rises}
use Rattle.hub_core.proofs.kept.Sizes.{history_fits}
use Rattle.hub_core.specs.Decisions.{told_choice}
use Rattle.hub_core.specs.declared.decisions.Chosen.{Chosen}
use Rattle.hub_core.specs.declared.open_windows.ClosingLists.{ClosingLists}
use Rattle.window_order.specs.declared.order_states.OrderState.{OrderState}
use Rattle.std.proofs.lemmas.Nat.{mul-le}

-- where a register is the same, what a device is out for does the same
pub task_same : (s c : Configuration) (r : ℕ) (purpose : Purpose) → s.setting ≡ c.setting → ((read_of s).run r).register ≡ ((read_of c).run r).register → task_of s r purpose ≡ task_of c r purpose
task_same s c r (Commands k) setting same =
    ap₂ (λ w v. if reads (command_at w.runs r k).job then Sense else Drive (driven (kind_at w.kinds (command_at w.runs r k).device.0) (command_at w.runs r k).job v)) setting same
task_same s c r (Undoes v) setting same = refl
task_same s c r (Probes v) setting same = refl

-- failures and restarts are counted the same where the entries tell of as many
pub events_same : (w : Setting) (h x : List Entry) (d : ℕ) → told_falls x d ≡ told_falls h d → (reading w x).rose d ≡ (reading w h).rose d → events_in (reading w x) d ≡ events_in (reading w h) d
events_same w h x d falls rises =
    let fell : (reading w x).fell d ≡ (reading w h).fell d = fell_is w x d ∙ falls ∙ sym (fell_is w h d) in
    λ i. record { fell = fell i; rose = rises i }

-- Nothing goes out, and nothing comes home

still_kept : {D : Type 0} (shows : D → Shown) (s : OpenHub D) (x : List Kept) (m : ℕ)
    → IsKeptByModel (configuration_of (record s { history = x; moment = m })) s.rounds s.opened (held_in s)
    → ((d : ℕ) → told_calls s.setting.runs (entries_of x) d ≡ told_calls s.setting.runs (entries_of s.history) d)
    → ((d : ℕ) → told_falls (entries_of x) d ≡ told_falls (entries_of s.history) d)
    → ((d : ℕ) → (reading s.setting (entries_of x)).rose d ≡ (read_of (configuration_of s)).rose d)
    → ((d : ℕ) → (reading s.setting (entries_of x)).up d ≡ (read_of (configuration_of s)).up d)
    → ((q : ℕ) → ((reading s.setting (entries_of x)).run q).register ≡ ((read_of (configuration_of s)).run q).register)
    → length s.history ≤ length x
    → HubIsKept shows s → HubIsKept shows (record s { history = x; moment = m })
still_kept shows s x m now told falls rises counted registers more k =
    record {
      configuration = now;
      devices_size = k.devices_size;
      places_size = k.places_size;
      home = λ d device at. let fits = k.home d device at in record {
        stand = λ up. fits.stand (sym (counted d) ∙ up);
        turns_are = fits.turns_are ∙ ap (λ n. (progress_at s.devices d).at_opening.turns + n) (sym (told d));
        probes_are = fits.probes_are;
        falls_told = omega (arith, fits.falls_told, falls d);
        few_faults = omega (arith, fits.few_faults, falls d);
      };
      out = λ d slip task at. let fits = k.out d slip task at in record {
        device = fits.device;
        stand = fits.stand;
        turns_are = fits.turns_are ∙ ap (λ n. (progress_at s.devices d).at_opening.turns + n) (sym (told d));
        probes_are = fits.probes_are;
        falls_told = omega (arith, fits.falls_told, falls d);
        few_faults = omega (arith, fits.few_faults, falls d);
        does = fits.does ∙ task_same (configuration_of s) (configuration_of (record s { history = x; moment = m })) slip.maker (progress_at s.devices d).purpose refl (sym (registers slip.maker));
      };
      low = k.low;
      values = k.values;
      events = λ d within. k.events d within ∙ sym (events_same s.setting (entries_of s.history) (entries_of x) d (falls d) (rises d));
      few_tickets = let few : s.tickets ≤ length s.history + count_by is_away s.places + all_probes_taken s = k.few_tickets in omega (arith, few, more);
    }

-- the moment alone
pub reached : {D : Type 0} (shows : D → Shown) (s : OpenHub D) (m : ℕ) → HubIsKept shows s → HubIsKept shows (record s { moment = max s.moment m })
reached shows s m k =
    still_kept shows s s.history (max s.moment m) (later_kept (configuration_of s) s.rounds s.opened m (held_in s) k.configuration) (λ d. refl) (λ d. refl) (λ d. refl) (λ d. refl) (λ q. refl) (omega arith) k

-- a step that makes entries: the run moves on, or ends
pub data Making : Type 0 where
  Going : Making
  Ending : End → Making

abbrev pub making : Making → List Entry → Choice
making Going es = Moves es
making (Ending end) es = Over end es

-- these entries more
added_entries : {D : Type 0} (s : OpenHub D) (r m : ℕ) (es : List Entry) (c : Making) → choice_of (configuration_of s) r m ≡ making c es
    → after_take (configuration_of s) r m ≡ configuration_of (record s { history = s.history ++ kept_by r es; moment = max s.moment m })
added_entries s r m es Going is = ap (after_choice (at_moment (configuration_of s) m) r) is
added_entries s r m es (Ending end) is = ap (after_choice (at_moment (configuration_of s) m) r) is

-- how long the history is then
pub length_with : (h : List Kept) (r : ℕ) (es : List Entry) → length (h ++ kept_by r es) ≡ length h + length es
length_with h r es = length-append h (kept_by r es) ∙ ap (λ n. length h + n) (length-map es _)

pub entries_kept : {D : Type 0} (shows : D → Shown) (s : OpenHub D) (r m : ℕ) (es : List Entry) (c : Making) → choice_of (configuration_of s) r m ≡ making c es
    → HubIsKept shows s → HubIsKept shows (record s { history = s.history ++ kept_by r es; moment = max s.moment m })
entries_kept {D = D} shows s r m es c is k =
    still_kept shows s (s.history ++ kept_by r es) (max s.moment m)
    (subst (λ x. IsKeptByModel x s.rounds s.opened (held_in s)) step (taken_kept (configuration_of s) s.rounds s.opened (held_in s) r m k.configuration))
    (λ d. ap (λ (x : Configuration). told_calls s.setting.runs (entries_of x.history) d) (sym step) ∙ take_calls (configuration_of s) r m d)
    (λ d. ap (λ (x : Configuration). told_falls (entries_of x.history) d) (sym step) ∙ take_falls (configuration_of s) r m d)
    (λ d. ap (λ (x : Configuration). (reading s.setting (entries_of x.history)).rose d) (sym step) ∙ take_rises (configuration_of s) r m d)
    (λ d. ap (λ (x : Configuration). (reading s.setting (entries_of x.history)).up d) (sym step) ∙ take_counted (configuration_of s) r m d)
    (λ q. ap (λ (x : Configuration). ((reading s.setting (entries_of x.history)).run q).register) (sym step) ∙ take_registers (configuration_of s) r m q)
    (let more = length_with s.history r es in omega (arith, more))
    k
  where
    step : after_take (configuration_of s) r m ≡ configuration_of (record s { history = s.history ++ kept_by r es; moment = max s.moment m })
    step = added_entries s r m es c is

-- What the parts of a hub become

-- the hub stands at this moment, where it is a later one
abbrev pub reached_at : {D : Type 0} → Inside D → ℕ → Inside D
reached_at h m = record h { moment = max h.moment m }

pub reached_whole : {D : Type 0} {shows : D → Shown} (h : Inside D) (m : ℕ) → IsWhole shows h → IsWhole shows (reached_at h m)
reached_whole h m k = record { shown = reached _ (open_of h) m k.shown; room = k.room; order = k.order; held_tokens = k.held_tokens }

-- it has these entries more then, and this line and table
abbrev pub entered : {D : Type 0} → Inside D → ℕ → ℕ → List Entry → OrderState → Inside D
entered h r m es order = record h { history = with_more h.history r es; moment = max h.moment m; order = order }

-- what the step of the run does is told of the parts, also where it is told of what the hub shows
pub chosen_here : {D : Type 0} (h : Inside D) (s : OpenHub D) (r m : ℕ) (x : Chosen) → open_of h ≡ s → choice_of (configuration_of s) r m ≡ told_choice r (max s.moment m) x
    → choice_of (configuration_of (open_of h)) r m ≡ told_choice r (max h.moment m) x
chosen_here {D = D} h s r m x seen is = subst (λ (y : OpenHub D). choice_of (configuration_of y) r m ≡ told_choice r (max y.moment m) x) (sym seen) is

-- the model has an order, also where it is told of what the hub shows
pub strong_here : {D : Type 0} (h : Inside D) (s : OpenHub D) (b : Bool) → open_of h ≡ s → is_weak s.setting.mode ≡ b → is_weak h.history.setting.mode ≡ b
strong_here {D = D} h s b seen model = ap (λ (x : OpenHub D). is_weak x.setting.mode) seen ∙ model

pub strong_seen : {D : Type 0} (h : Inside D) (s : OpenHub D) (b : Bool) → open_of h ≡ s → is_weak h.history.setting.mode ≡ b → is_weak s.setting.mode ≡ b
strong_seen {D = D} h s b seen model = ap (λ (x : OpenHub D). is_weak x.setting.mode) (sym seen) ∙ model

-- the step of the run at this moment makes these entries: so the parts change
pub record IsEntered {D : Type 0} (h t : Inside D) (r m : ℕ) (es : List Entry) (c : Making) : Type 0 where
  pub chosen : choice_of (configuration_of (open_of h)) r m ≡ making c es
  pub new : t ≡ entered h r m es t.order

-- the history has a place for each, ..
pub has_places : {D : Type 0} {shows : D → Shown} (h : Inside D) (r m : ℕ) (es : List Entry) (c : Making) → choice_of (configuration_of (open_of h)) r m ≡ making c es → IsWhole shows h → length es ≤ h.history.spare
has_places h r m es c is k =
    let made = entries_kept _ (open_of h) r m es c is k.shown in
    let fits = history_fits _ h.rounds h.opened _ made.configuration in
    let long = length_with h.history.history r es in
    omega (arith, fits, long, k.room.history)

-- .. also where it is one
pub has_place : {D : Type 0} {shows : D → Shown} (h : Inside D) (r m : ℕ) (e : Entry) (c : Making) → choice_of (configuration_of (open_of h)) r m ≡ making c (e ∷ []) → IsWhole shows h → 0 < h.history.spare
has_place h r m e c is k = let places : 1 ≤ h.history.spare = has_places h r m (e ∷ []) c is k in omega (arith, places)

-- these entries may be appended, ..
pub takes_here : {D : Type 0} {shows : D → Shown} (h : Inside D) (r m : ℕ) (es : List Entry) (c : Making) → choice_of (configuration_of (open_of h)) r m ≡ making c es → IsWhole shows h → MayTake h.history r es
takes_here h r m es c is k = (entries_kept _ (open_of h) r m es c is k.shown).configuration.history.well_formed

-- .. also where it is one
pub follows_here : {D : Type 0} {shows : D → Shown} (h : Inside D) (r m : ℕ) (e : Entry) (c : Making) → choice_of (configuration_of (open_of h)) r m ≡ making c (e ∷ []) → IsWhole shows h → IsTrue (may_follow h.history.setting (read_in h.history) e)
follows_here h r m e c is k = takes_first h.history r e [] (takes_here h r m (e ∷ []) c is k)

room_with : (rounds : ℕ) (h : HistoryState) (r : ℕ) (es : List Entry) (closing : ClosingLists) → length es ≤ h.spare → HasRoomLeft rounds h closing → HasRoomLeft rounds (with_more h r es) closing
room_with rounds h r es closing some room =
    record {
      history = let long = length_with h.history r es in omega (arith, long, room.history, some);
      order = room.order;
      last = room.last;
      world = room.world;
      turns = room.turns;
      faults = room.faults;
    }

-- what is kept is kept with them, where line and table are
pub entered_whole : {D : Type 0} {shows : D → Shown} (h t : Inside D) (r m : ℕ) (es : List Entry) (c : Making) → IsEntered h t r m es c
    → (IsWellFormed h.history.setting (entries_of (h.history.history ++ kept_by r es)) → OrderIsBeside h.rounds (with_more h.history r es) (configuration_of (open_of h)).grips t.order.line t.order.table) → IsWhole shows h → IsWhole shows t
entered_whole {D = D} {shows = shows} h t r m es c enters order k =
    subst (λ (x : Inside D). IsWhole shows x) (sym enters.new) (record {
      shown = made;
      room = room_with h.rounds h.history r es h.closing (has_places h r m es c enters.chosen k) k.room;
      order = order made.configuration.history.well_formed;
      held_tokens = k.held_tokens;
    })
  where
    made : HubIsKept shows (open_of (entered h r m es t.order))
    made = entries_kept shows (open_of h) r m es c enters.chosen k.shown

-- An answer, and the doom of its run where there is a cause

abbrev pub answer_entries : ℕ → ℕ → Answer → Option Cause → List Entry
answer_entries r k a cause = Did (run_no r) k a ∷ option_to_list (option_map (λ c. Doomed (run_no r) c) cause)

-- one after the other
pub answered_more : (h : HistoryState) (r k : ℕ) (a : Answer) (cause : Option Cause) → with_doom (with_entry h r (Did (run_no r) k a)) r cause ≡ with_more h r (answer_entries r k a cause)
answered_more h r k a None = refl
answered_more h r k a (Some c) =
    let history = append_assoc h.history (kept_by r (Did (run_no r) k a ∷ [])) (kept_by r (Doomed (run_no r) c ∷ [])) in
    let left : h.spare - 1 - 1 ≡ h.spare - 2 = omega arith in
    λ i. record h { history = history i; spare = left i }

-- the answer may be appended, and then the doom
pub doom_follows : (h mid : HistoryState) (r k : ℕ) (a : Answer) (cause : Option Cause) → mid ≡ with_entry h r (Did (run_no r) k a) → MayTake h r (answer_entries r k a cause) → IfSome cause (λ c. IsTrue (may_follow mid.setting (read_in mid) (Doomed (run_no r) c)))
doom_follows h mid r k a None is takes = tt
doom_follows h mid r k a (Some c) is takes =
    subst (λ (x : HistoryState). IsTrue (may_follow x.setting (read_in x) (Doomed (run_no r) c))) (sym is) (takes_first (with_entry h r (Did (run_no r) k a)) r (Doomed (run_no r) c) [] (takes_rest h r (Did (run_no r) k a) (Doomed (run_no r) c ∷ []) takes))

-- The answers

-- the step says so of the hub, whatever slip
pub step_is : {D : Type 0} (s t : OpenHub D) (r m : ℕ) (c : Choice) (slip : Slip) → choice_of (configuration_of s) r m ≡ c
    → hub_state_of t ≡ record { configuration = after_choice (at_moment (configuration_of s) m) r c; carried = carried_after (hub_state_of s) r c slip } → SlipFits r c slip
    → HubStep (hub_state_of s) (Take r m slip) (Chose c) (hub_state_of t)
step_is s t r m c slip is next fits = (
  ap (λ x. Chose x) (sym is),
  next ∙ ap (λ x. record { configuration = after_choice (at_moment (configuration_of s) m) r x; carried = carried_after (hub_state_of s) r x slip }) (sym is),
  subst (λ x. SlipFits r x slip) (sym is) fits,
)

-- a run that moves on with these entries
pub entered_answers : {D : Type 0} (h t : Inside D) (s : OpenHub D) (r m : ℕ) (es : List Entry) (made : List Entry) → open_of h ≡ s → IsEntered h t r m es Going → made ≡ es → Answers s r m (Moves made) (open_of t)
entered_answers {D = D} h t s r m es made seen enters is =
    subst (λ x. Answers s r m (Moves x) (open_of t)) (sym is)
    (subst (λ (x : OpenHub D). Answers x r m (Moves es) (open_of t)) seen
    (subst (λ (x : Inside D). Answers (open_of h) r m (Moves es) (open_of x)) (sym enters.new)
    (record { step = λ slip. step_is (open_of h) (open_of (entered h r m es t.order)) r m (Moves es) slip enters.chosen refl tt; places = refl; tickets = refl })))

-- a history that is kept has few entries
pub few_entries : {D : Type 0} (shows : D → Shown) (s : OpenHub D) → HubIsKept shows s → length s.history ≤ most_entries most_runs most_devices most_probes
few_entries shows s k =
    let fits = history_fits (configuration_of s) s.rounds s.opened (held_in s) k.configuration in
    let probed : s.rounds * length s.setting.first ≤ 100 * 256 = mul-le s.rounds (length s.setting.first) 100 256 k.configuration.opens.few_rounds k.configuration.opens.few_devices in
    omega (arith, fits, probed, k.configuration.opens.few_runs, k.configuration.opens.few_devices)
