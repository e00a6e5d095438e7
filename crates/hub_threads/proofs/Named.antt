-- A hub that is of the window of a name is so after each of its steps at a moment that is not after the clock's latest, and the device that a step hands out has the plan of its place.
use Rattle.hub_threads.proofs.Prelude.{Absent, AreWithin, Done, Entry, Go, Gripped, HasPlan, IsGiven, IsNamed, IsProbeGiven, IsProbed, IsTurn, IsWithin, List, Moved, NamedWindow, None, Ok, OpenHub, Option, Over, Place, PlacesHavePlans, Plan, Ready, SameWindow, Shown, Some, Turn, TurnHasPlan, Wait, ap, arith, hub_state_of, max, subst, sym, took_probe, ℕ, ◌∙◌, ◌≡◌, ◌≤◌}
use Rattle.hub_threads.proofs.Plans.{plans_home, plans_out}
use Rattle.hub_threads.proofs.Added.{given_adds, given_moment, probe_given_adds, probed_adds, turn_adds}
use Rattle.hub_threads.proofs.Moments.{given_within, probe_given_within, turn_within, within_more}

named_after : {D : Type 0} (shows : D → Shown) (window : NamedWindow) (s t : OpenHub D)
    → IsNamed shows window s → SameWindow s t → t.moment ≤ window.latest → AreWithin window.earliest window.latest t.history → PlacesHavePlans shows window.plans t.places → IsNamed shows window t
named_after shows window s t named same moment moments have = record {
  setting = same.setting ∙ named.setting;
  rounds_are = same.rounds ∙ named.rounds_are;
  opened_are = same.opened ∙ named.opened_are;
  at_opening = λ d. same.at_opening d ∙ named.at_opening d;
  moment = moment;
  moments = moments;
  have_plans = have;
}

-- the plans after a change of the places
plans_by : {D : Type 0} (shows : D → Shown) (plans : ℕ → Plan) (before after : List (Place D)) → after ≡ before → PlacesHavePlans shows plans before → PlacesHavePlans shows plans after
plans_by shows plans before after same have = subst (PlacesHavePlans shows plans) (sym same) have

turn_plans : {D : Type 0} (shows : D → Shown) (plans : ℕ → Plan) (s t : OpenHub D) (r m : ℕ) (turn : Turn D) → IsTurn s r m turn t → PlacesHavePlans shows plans s.places → PlacesHavePlans shows plans t.places
turn_plans shows plans s t r m (Go grip) is have = plans_by shows plans _ t.places is.places (plans_out shows plans s.places grip.slip.device.0 grip.slip grip.task have)
turn_plans shows plans s t r m (Moved made) is have = plans_by shows plans s.places t.places is.places have
turn_plans shows plans s t r m (Wait why) is have = plans_by shows plans s.places t.places is.0.places have
turn_plans shows plans s t r m (Over end made) is have = plans_by shows plans s.places t.places is.places have
turn_plans shows plans s t r m Absent is have = plans_by shows plans s.places t.places is.0.places have

pub turn_named : {D : Type 0} (shows : D → Shown) (window : NamedWindow) (s t : OpenHub D) (r m : ℕ) (turn : Turn D)
    → IsNamed shows window s → IsTurn s r m turn t → SameWindow s t → IsWithin window m → IsNamed shows window t
turn_named shows window s t r m turn named is same early =
    let adds = turn_adds s t r m turn is in
    let was : s.moment ≤ window.latest = named.moment in
    let until : m ≤ window.latest = early.1 in
    let now : max s.moment m ≤ window.latest = omega (arith, was, until) in
    named_after shows window s t named same (subst (λ k. k ≤ window.latest) (sym adds.moment_is) now)
    (within_more window.earliest window.latest s t r _ adds.history named.moments (turn_within window.earliest window.latest s t r m turn early.0 now is))
    (turn_plans shows window.plans s t r m turn is named.have_plans)

pub turn_plan : {D : Type 0} (shows : D → Shown) (plans : ℕ → Plan) (s t : OpenHub D) (r m : ℕ) (turn : Turn D) → PlacesHavePlans shows plans s.places → IsTurn s r m turn t → TurnHasPlan shows plans turn
turn_plan shows plans s t r m (Go grip) have is = have grip.slip.device.0 grip.device is.home
turn_plan shows plans s t r m (Moved made) have is = tt
turn_plan shows plans s t r m (Wait why) have is = tt
turn_plan shows plans s t r m (Over end made) have is = tt
turn_plan shows plans s t r m Absent have is = tt

given_plans : {D : Type 0} (shows : D → Shown) (plans : ℕ → Plan) (s t : OpenHub D) (grip : Gripped D Done) (m : ℕ) (made : List Entry) → IsGiven s grip m (Ok made) t → HasPlan shows plans grip → PlacesHavePlans shows plans s.places → PlacesHavePlans shows plans t.places
given_plans shows plans s t grip m made is own have = plans_by shows plans _ t.places is.1 (plans_home shows plans s.places grip.slip.device.0 grip.device have own)

pub given_named : {D : Type 0} (shows : D → Shown) (window : NamedWindow) (s t : OpenHub D) (grip : Gripped D Done) (m : ℕ) (made : List Entry)
    → IsNamed shows window s → IsGiven s grip m (Ok made) t → SameWindow s t → HasPlan shows window.plans grip → IsWithin window m → IsNamed shows window t
given_named shows window s t grip m made named is same own early =
    named_after shows window s t named same (given_moment s t grip m window.latest made is named.moment early.1)
    (within_more window.earliest window.latest s t grip.slip.maker _ (given_adds s t grip m made is).history named.moments (given_within window.earliest window.latest s t grip m made is))
    (given_plans shows window.plans s t grip m made is own named.have_plans)

probed_plans : {D : Type 0} (shows : D → Shown) (plans : ℕ → Plan) (s t : OpenHub D) (d : ℕ) (probe : Option (Gripped D Ready)) → IsProbed s d probe t → PlacesHavePlans shows plans s.places → PlacesHavePlans shows plans t.places
probed_plans shows plans s t d (Some grip) is have = plans_by shows plans _ t.places is.2 (plans_out shows plans s.places d grip.slip grip.task have)
probed_plans shows plans s t d None is have = plans_by shows plans s.places t.places (ap (λ (x : OpenHub _). x.places) is.1) have

pub probed_named : {D : Type 0} (shows : D → Shown) (window : NamedWindow) (s t : OpenHub D) (d : ℕ) (probe : Option (Gripped D Ready))
    → IsNamed shows window s → IsProbed s d probe t → SameWindow s t → IsNamed shows window t
probed_named shows window s t d probe named is same =
    let adds = probed_adds s t d probe is in
    named_after shows window s t named same (subst (λ k. k ≤ window.latest) (sym adds.1) named.moment) (subst (AreWithin window.earliest window.latest) (sym adds.0) named.moments)
    (probed_plans shows window.plans s t d probe is named.have_plans)

pub probed_plan : {D : Type 0} (shows : D → Shown) (plans : ℕ → Plan) (s t : OpenHub D) (d : ℕ) (grip : Gripped D Ready) → PlacesHavePlans shows plans s.places → IsProbed s d (Some grip) t → HasPlan shows plans grip
probed_plan shows plans s t d grip have is =
    let slip = (took_probe (hub_state_of s) (hub_state_of t) d grip.slip grip.task is.0).2 in
    have d grip.device is.1 ∙ ap plans (sym slip.device)

probe_given_plans : {D : Type 0} (shows : D → Shown) (plans : ℕ → Plan) (s t : OpenHub D) (grip : Gripped D Done) (made : List Entry) → IsProbeGiven s grip (Ok made) t → HasPlan shows plans grip → PlacesHavePlans shows plans s.places → PlacesHavePlans shows plans t.places
probe_given_plans shows plans s t grip made is own have = plans_by shows plans _ t.places is.1 (plans_home shows plans s.places grip.slip.device.0 grip.device have own)

pub probe_given_named : {D : Type 0} (shows : D → Shown) (window : NamedWindow) (s t : OpenHub D) (grip : Gripped D Done) (made : List Entry)
    → IsNamed shows window s → IsProbeGiven s grip (Ok made) t → SameWindow s t → HasPlan shows window.plans grip → IsNamed shows window t
probe_given_named shows window s t grip made named is same own =
    let adds = probe_given_adds s t grip made is in
    named_after shows window s t named same (subst (λ k. k ≤ window.latest) (sym adds.moment_is) named.moment)
    (within_more window.earliest window.latest s t 0 _ adds.history named.moments (probe_given_within window.earliest window.latest s t grip made is))
    (probe_given_plans shows window.plans s t grip made is own named.have_plans)
