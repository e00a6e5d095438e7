-- What the steps of a hub add to its history, and its last moment after them.
use Rattle.hub_threads.proofs.Prelude.{Absent, Bool, Carried, Choice, Chose, Configuration, Done, Entry, Gave, Give, GiveProbe, Go, Grip, Gripped, HandsOut, Home, HubState, HubStep, IsGiven, IsProbeGiven, IsProbed, IsTurn, List, Moved, Moves, None, Ok, OpenHub, Option, Out, Over, Place, Ready, Returned, Slip, Some, Take, Told, Turn, Wait, Waits, [], after_choice, after_give, ap, append-nil, arith, at_moment, carried_by, carried_in, common_steps, configuration_of, entries_told, false, gave_back, gave_probe_back, give_entries, give_if, grip_in, hub_state_of, if◌then◌else◌, is_kept, kept_by, length, length-append, length-map, max, may_probe, nat_lt, option_map, progress_at, read_of, refl, same_carried, same_slip, same_task, slice_get, subst, sym, took_after, took_choice, took_probe, true, unwrap_or, ℕ, ◌&&◌, ◌++◌, ◌+◌, ◌==◌, ◌∙◌, ◌≡◌, ◌≤◌}
use Rattle.history_book.specs.declared.entries.Kept.{Kept}
use Rattle.hub_core.specs.Steps.{Absent as IsAbsent, Over as IsOver}
use Rattle.window_order.proofs.Cited.{both}

-- the step has added these entries of this maker, and this is the last moment then
pub record Adds {D : Type 0} (s : OpenHub D) (maker : ℕ) (entries : List Entry) (moment : ℕ) (t : OpenHub D) : Type 0 where
  pub history : t.history ≡ s.history ++ kept_by maker entries
  pub moment_is : t.moment ≡ moment

-- a history has so many entries more
pub more_entries : (history : List Kept) (maker : ℕ) (entries : List Entry) → length (history ++ kept_by maker entries) ≡ length history + length entries
more_entries history maker entries = length-append history (kept_by maker entries) ∙ ap (λ n. length history + n) (length-map entries (λ e. record { maker = maker; entry = e }))

adds_nothing : {D : Type 0} (s t : OpenHub D) (maker moment : ℕ) → t.history ≡ s.history → t.moment ≡ moment → Adds s maker [] moment t
adds_nothing s t maker moment same at = record { history = same ∙ sym (append-nil s.history); moment_is = at }

-- Steps of a run

abbrev pub chosen_entries : Choice → List Entry
chosen_entries IsAbsent = []
chosen_entries (IsOver end entries) = entries
chosen_entries (Moves entries) = entries
chosen_entries (Waits why) = []
chosen_entries (HandsOut d purpose) = []

history_after : (s : Configuration) (r m : ℕ) (choice : Choice) → (after_choice (at_moment s m) r choice).history ≡ s.history ++ kept_by r (chosen_entries choice)
history_after s r m IsAbsent = sym (append-nil s.history)
history_after s r m (IsOver end entries) = refl
history_after s r m (Moves entries) = refl
history_after s r m (Waits why) = sym (append-nil s.history)
history_after s r m (HandsOut d purpose) = sym (append-nil s.history)

moment_after : (s : Configuration) (r m : ℕ) (choice : Choice) → (after_choice (at_moment s m) r choice).moment ≡ max s.moment m
moment_after s r m IsAbsent = refl
moment_after s r m (IsOver end entries) = refl
moment_after s r m (Moves entries) = refl
moment_after s r m (Waits why) = refl
moment_after s r m (HandsOut d purpose) = refl

-- the configuration after a step is that after its choice
pub took : {D : Type 0} (s t : OpenHub D) (r m : ℕ) (slip : Slip) (choice : Choice) → HubStep (hub_state_of s) (Take r m slip) (Chose choice) (hub_state_of t) → configuration_of t ≡ after_choice (at_moment (configuration_of s) m) r choice
took s t r m slip choice step =
    took_after (hub_state_of s) (hub_state_of t) r m slip choice step ∙ ap (after_choice (at_moment (configuration_of s) m) r) (sym (took_choice (hub_state_of s) (hub_state_of t) r m slip choice step))

took_adds : {D : Type 0} (s t : OpenHub D) (r m : ℕ) (slip : Slip) (choice : Choice) → HubStep (hub_state_of s) (Take r m slip) (Chose choice) (hub_state_of t) → Adds s r (chosen_entries choice) (max s.moment m) t
took_adds s t r m slip choice step =
    let is = took s t r m slip choice step in
    record {
      history = ap (λ (x : Configuration). x.history) is ∙ history_after (configuration_of s) r m choice;
      moment_is = ap (λ (x : Configuration). x.moment) is ∙ moment_after (configuration_of s) r m choice;
    }

pub some_slip : Slip
some_slip = record { ticket = 0; device = record { 0 = 0 }; maker = 0; stood = 0; turns = 0; drives = 0; probes = 0; faults = 0 }

pub turn_adds : {D : Type 0} (s t : OpenHub D) (r m : ℕ) (turn : Turn D) → IsTurn s r m turn t → Adds s r (entries_told turn) (max s.moment m) t
turn_adds s t r m (Go grip) is = took_adds s t r m grip.slip (HandsOut grip.slip.device.0 is.purpose) is.step
turn_adds s t r m (Moved made) is = took_adds s t r m some_slip (Moves made) (is.step some_slip)
turn_adds s t r m (Wait why) is = took_adds s t r m some_slip (Waits why) (is.0.step some_slip)
turn_adds s t r m (Over end made) is = took_adds s t r m some_slip (IsOver end made) (is.step some_slip)
turn_adds s t r m Absent is = took_adds s t r m some_slip IsAbsent (is.0.step some_slip)

-- Grips that come back

-- a grip that was taken back was kept
taken_if : (b : Bool) (s : HubState) (c : Configuration) (told : Carried) (result : Told) (entries : List Entry) → Returned (Gave entries) ≡ Returned (give_if b s c told result).answer → b ≡ true
taken_if true s c told result entries answer = refl
taken_if false s c told result entries answer = absurd (cc)

-- the grip that is out of the device has the maker of the one that is kept
pub record IsOutBy {D : Type 0} (s : OpenHub D) (told : Carried) : Type 0 where
  pub grip : Grip
  pub out : (configuration_of s).grips told.slip.device.0 ≡ Some grip
  pub maker : grip.maker ≡ told.slip.maker

out_by : {D : Type 0} (s : OpenHub D) (told : Carried) → is_kept (hub_state_of s) told ≡ true → IsOutBy s told
out_by {D} s told kept = by_place (slice_get s.places d) refl kept
  where
    d : ℕ
    d = told.slip.device.0

    by_place : (place : Option (Place D)) → slice_get s.places d ≡ place → unwrap_or (option_map (same_carried told) (carried_in place)) false ≡ true → IsOutBy s told
    by_place None at e = absurd (cc)
    by_place (Some (Home device)) at e = absurd (cc)
    by_place (Some (Out slip task)) at e = record {
      grip = _;
      out = ap (λ o. grip_in o (progress_at s.devices d).purpose) at;
      maker = same_maker (both (same_slip told.slip slip) (same_task told.task task) e).0;
    }
      where
        same_maker : same_slip told.slip slip ≡ true → slip.maker ≡ told.slip.maker
        same_maker same = grind (arith, common_steps)

history_back : (s : Configuration) (m d : ℕ) (grip : Grip) (result : Told) (maker : ℕ) (entries : List Entry) → grip.maker ≡ maker → entries ≡ give_entries s.setting (read_of s) d grip result → (after_give (at_moment s m) d grip result).history ≡ s.history ++ kept_by maker entries
history_back s m d grip result maker entries own made = ap (λ k. s.history ++ kept_by k (give_entries s.setting (read_of s) d grip result)) own ∙ ap (λ es. s.history ++ kept_by maker es) (sym made)

-- the entries of a grip that is taken back, by the grip that is out
gave_entries : {D : Type 0} (s t : OpenHub D) (told : Carried) (result : Told) (m : ℕ) (entries : List Entry) → HubStep (hub_state_of s) (Give told result m) (Returned (Gave entries)) (hub_state_of t)
    → (by : IsOutBy s told) × (entries ≡ give_entries s.setting (read_of (configuration_of s)) told.slip.device.0 by.grip result) × (configuration_of t ≡ after_give (at_moment (configuration_of s) m) told.slip.device.0 by.grip result)
gave_entries s t told result m entries step =
    let kept = both (is_kept (hub_state_of s) told) (nat_lt 0 told.slip.maker) (taken_if (is_kept (hub_state_of s) told && nat_lt 0 told.slip.maker) (hub_state_of s) (at_moment (configuration_of s) m) told result entries step.0) in
    let by = out_by s told kept.0 in
    let back = gave_back (hub_state_of s) (hub_state_of t) told result m by.grip entries by.out step in
    (by, back.0, back.1)

gave_adds : {D : Type 0} (s t : OpenHub D) (told : Carried) (result : Told) (m : ℕ) (entries : List Entry) → HubStep (hub_state_of s) (Give told result m) (Returned (Gave entries)) (hub_state_of t) → Adds s told.slip.maker entries (max s.moment m) t
gave_adds s t told result m entries step =
    let back = gave_entries s t told result m entries step in
    record {
      history = ap (λ (x : Configuration). x.history) back.2 ∙ history_back (configuration_of s) m told.slip.device.0 back.0.grip result told.slip.maker entries back.0.maker back.1;
      moment_is = ap (λ (x : Configuration). x.moment) back.2;
    }

gave_probe_entries : {D : Type 0} (s t : OpenHub D) (told : Carried) (result : Told) (entries : List Entry) → HubStep (hub_state_of s) (GiveProbe told result) (Returned (Gave entries)) (hub_state_of t)
    → (by : IsOutBy s told) × (told.slip.maker ≡ 0) × (entries ≡ give_entries s.setting (read_of (configuration_of s)) told.slip.device.0 by.grip result) × (configuration_of t ≡ after_give (configuration_of s) told.slip.device.0 by.grip result)
gave_probe_entries s t told result entries step =
    let kept = both (is_kept (hub_state_of s) told) (told.slip.maker == 0) (taken_if (is_kept (hub_state_of s) told && (told.slip.maker == 0)) (hub_state_of s) (configuration_of s) told result entries step.0) in
    let by = out_by s told kept.0 in
    let back = gave_probe_back (hub_state_of s) (hub_state_of t) told result by.grip entries by.out step in
    (by, of_detector told.slip.maker kept.1, back.0, back.1)
  where
    of_detector : (maker : ℕ) → (maker == 0) ≡ true → maker ≡ 0
    of_detector maker e = grind (arith, common_steps)

gave_probe_adds : {D : Type 0} (s t : OpenHub D) (told : Carried) (result : Told) (entries : List Entry) → HubStep (hub_state_of s) (GiveProbe told result) (Returned (Gave entries)) (hub_state_of t) → Adds s 0 entries s.moment t
gave_probe_adds s t told result entries step =
    let back = gave_probe_entries s t told result entries step in
    record {
      history = ap (λ (x : Configuration). x.history) back.3 ∙ history_back (configuration_of s) 0 told.slip.device.0 back.0.grip result 0 entries (back.0.maker ∙ back.1) back.2;
      moment_is = ap (λ (x : Configuration). x.moment) back.3;
    }

-- the entries of a step back are those of some grip that is out
pub given_entries_are : {D : Type 0} (s t : OpenHub D) (grip : Gripped D Done) (m : ℕ) (made : List Entry) → IsGiven s grip m (Ok made) t
    → (out : Grip) × (made ≡ give_entries s.setting (read_of (configuration_of s)) grip.slip.device.0 out grip.stage.told)
given_entries_are s t grip m made is = let back = gave_entries s t (carried_by grip) grip.stage.told m made is.0 in (back.0.grip, back.1)

pub probe_given_entries_are : {D : Type 0} (s t : OpenHub D) (grip : Gripped D Done) (made : List Entry) → IsProbeGiven s grip (Ok made) t
    → (out : Grip) × (made ≡ give_entries s.setting (read_of (configuration_of s)) grip.slip.device.0 out grip.stage.told)
probe_given_entries_are s t grip made is = let back = gave_probe_entries s t (carried_by grip) grip.stage.told made is.0 in (back.0.grip, back.2)

-- what a grip that comes back adds
pub given_adds : {D : Type 0} (s t : OpenHub D) (grip : Gripped D Done) (m : ℕ) (made : List Entry) → IsGiven s grip m (Ok made) t → Adds s grip.slip.maker made t.moment t
given_adds s t grip m made is = record { history = (gave_adds s t (carried_by grip) grip.stage.told m made is.0).history; moment_is = refl }

pub probe_given_adds : {D : Type 0} (s t : OpenHub D) (grip : Gripped D Done) (made : List Entry) → IsProbeGiven s grip (Ok made) t → Adds s 0 made s.moment t
probe_given_adds s t grip made is = gave_probe_adds s t (carried_by grip) grip.stage.told made is.0

-- the last moment after a grip came back at this one
pub given_moment : {D : Type 0} (s t : OpenHub D) (grip : Gripped D Done) (m latest : ℕ) (made : List Entry) → IsGiven s grip m (Ok made) t → s.moment ≤ latest → m ≤ latest → t.moment ≤ latest
given_moment s t grip m latest made is was now = let at = (gave_adds s t (carried_by grip) grip.stage.told m made is.0).moment_is in subst (λ k. k ≤ latest) (sym at) (omega (arith, was, now))

-- Probes that go out

probe_adds_if : (b : Bool) (s : Configuration) (t : Configuration) → s.history ≡ t.history → s.moment ≡ t.moment → ((if b then s else t).history ≡ t.history) × ((if b then s else t).moment ≡ t.moment)
probe_adds_if true s t history moment = (history, moment)
probe_adds_if false s t history moment = (refl, refl)

pub probed_adds : {D : Type 0} (s t : OpenHub D) (d : ℕ) (probe : Option (Gripped D Ready)) → IsProbed s d probe t → (t.history ≡ s.history) × (t.moment ≡ s.moment)
probed_adds s t d (Some grip) is =
    let after = (took_probe (hub_state_of s) (hub_state_of t) d grip.slip grip.task is.0).1 in
    let same = probe_adds_if (may_probe (configuration_of s) d) _ (configuration_of s) refl refl in
    (ap (λ (x : Configuration). x.history) after ∙ same.0, ap (λ (x : Configuration). x.moment) after ∙ same.1)
probed_adds s t d None is = (ap (λ (x : OpenHub _). x.history) is.1, ap (λ (x : OpenHub _). x.moment) is.1)
