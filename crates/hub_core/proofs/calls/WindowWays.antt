-- A window that was closed was worked from its opening on.
use Rattle.device_gate.proofs.Cited.{home_at}
use Rattle.hub_core.proofs.Prelude.{Home, HomeAfter, HomeState, HubStands, IsLegalWindow, List, None, NoneFails, OpenHub, Option, Out, Place, RunsHaveEnded, SameWindow, Setting, Shown, Some, WindowIsClosed, ap, length, length-map, probes_taken, progress_at, slice_get, slice_get_within, slice_index_or, subst, sym, ℕ, ◌+◌, ◌<◌, ◌∙◌, ◌≡◌}
use Rattle.history_book.specs.declared.records.WindowRecord.{WindowRecord}
use Rattle.hub_core.specs.WindowWays.{WindowIsWorked}

-- the plan of the device that is home in this place
abbrev pub plan_in : {D : Type 0} → (D → Shown) → Option (Place D) → Option (List (ℕ × ℕ))
plan_in shows None = None
plan_in shows (Some (Home device)) = (shows device).plan
plan_in shows (Some (Out slip task)) = None

-- each device that is home has the plan of the one that was home there before
abbrev pub PlansAreThose : {D : Type 0} → (D → Shown) → OpenHub D → OpenHub D → Type 0
PlansAreThose {D} shows hub last = (d : ℕ) (device : D) → slice_get last.places d ≡ Some (Home device) → (shows device).plan ≡ plan_in shows (slice_get hub.places d)

-- a home is after the window of a hub as it is after that of any hub of the same window
home_after : {D : Type 0} (shows : D → Shown) (hub last : OpenHub D) (home : HomeState D) (closed : WindowRecord) (taken now : ℕ → ℕ)
    → SameWindow hub last → ((d : ℕ) (device : D) → slice_get home.devices d ≡ Some device → taken d ≡ now d) → HomeAfter shows last closed taken home
    → HomeAfter shows hub closed now home
home_after shows hub last home closed taken now same probed after = record {
  kinds = after.kinds ∙ ap (λ w. w.kinds) same.setting;
  last = after.last;
  opened = after.opened ∙ ap (λ n. n + 1) same.opened;
  up = λ calm. after.up (subst (λ w. NoneFails w closed.faults.items) (sym same.setting) calm);
  turns_rose = λ d device at. after.turns_rose d device at ∙ ap (λ c. c.turns + slice_index_or closed.turns.items d 0) (same.at_opening d);
  probes_rose = λ d device at. after.probes_rose d device at ∙ ap (λ c. c.probes + taken d) (same.at_opening d) ∙ ap (λ n. (progress_at hub.devices d).at_opening.probes + n) (probed d device at);
  faults_rose = λ d device at. after.faults_rose d device at ∙ ap (λ c. c.faults + slice_index_or closed.faults.items d 0) (same.at_opening d);
}

-- the hub that was opened, and that of the same window with which it was closed
pub window_worked : {D : Type 0} (works : Setting → WindowRecord → (ℕ → ℕ) → Type 0) (shows : D → Shown) (hub last : OpenHub D) (home : HomeState D) (closed : WindowRecord) (taken : ℕ → ℕ)
    → HubStands shows hub → HubStands shows last → SameWindow hub last → PlansAreThose shows hub last
    → WindowIsClosed shows last home closed → ((d : ℕ) → d < length last.setting.first → probes_taken last d ≡ taken d) → works hub.setting closed taken
    → WindowIsWorked works shows hub home closed
window_worked {D = D} works shows hub last home closed taken before after same plans closes probed way = record {
  taken = taken;
  way = way;
  legal = subst (λ w. IsLegalWindow w closed) same.setting closes.legal;
  ends = subst (λ w. RunsHaveEnded w closed) same.setting closes.ends;
  after = home_after shows hub last home closed (probes_taken last) taken same (λ d device at. probed d (subst (λ n. d < n) sizes (slice_get_within home.devices d device at))) closes.after;
  size = sizes ∙ ap (λ w. length w.first) same.setting ∙ sym before.size;
  numbered = λ d device at. after.numbered d device (at_home d device at);
  plans = λ d x y x_at y_at. plans d y (at_home d y y_at) ∙ ap (plan_in shows) x_at;
}
  where
    at_home : (d : ℕ) (device : D) → slice_get home.devices d ≡ Some device → slice_get last.places d ≡ Some (Home device)
    at_home d device at = ap (λ ps. slice_get ps d) closes.places ∙ home_at home.devices d device at

    sizes : length home.devices ≡ length last.setting.first
    sizes = sym (length-map home.devices (λ x. Home x)) ∙ ap (λ ps. length ps) (sym closes.places) ∙ after.size
