-- A window is begun, and a run is added to it, over the home as it is inside.
use Rattle.home_states.proofs.Prelude.{Between, Err, HandedDevice, HasBegun, HasBegunAt, HasBegunWindow, HasJoinedBoth, HasRun, HasTakenRun, HomeState, IfErr, IfOk, InWindow, IsBetweenIn, List, LiveState, MayNotBeginAt, Moving, None, Ok, OpenHub, Option, Phase, Result, RunNo, Script, Some, When, ap, first_against_begin, inl, inr, refl, subst, sym, time_told, true, why_no_time, ℕ, ◌∙◌, ◌≡◌}
use Rattle.home_states.specs.DraftRefusals.{MayNotBegin, first_against_beginning, first_against_time}
use Rattle.home_states.specs.declared.homes.ClosedWindow.{ClosedWindow}
use Rattle.home_states.specs.declared.refusals.NotBegun.TheVariants.{BadTime, InWindow as IsInWindow, NoMemory}
use Rattle.home_states.specs.declared.refusals.NotBegun.{NotBegun}
use Rattle.live_scripts.specs.Reasons.{IsRefusedFor}

pub has_begun : (inside s : LiveState) (home : HomeState HandedDevice) (at : When) (probes k : ℕ) (script : Script) (closed : Option ClosedWindow) → inside ≡ s → inside.phase ≡ Between home
    → HasBegun inside.script at probes k script → closed ≡ None → HasBegunAt s at probes k (record inside { script = script; is_draft = true; closed = closed })
has_begun inside s home at probes k script closed seen between begun none =
    subst (λ (x : LiveState). HasBegunAt x at probes k (record inside { script = script; is_draft = true; closed = closed })) seen
    (record {
      script = script;
      between = subst IsBetweenIn (sym between) tt;
      begun = begun;
      is = ap (λ (c : Option ClosedWindow). record inside { script = script; is_draft = true; closed = c }) none;
    })

-- The time that a text tells

begun_then : (s t : LiveState) (text : List ℕ) (at : When) (probes k : ℕ) → Some at ≡ time_told text → HasBegunAt s at probes k t → HasBegunWindow s text probes k t
begun_then s t text at probes k time has = record {
  at = at;
  script = has.script;
  between = has.between;
  time = sym time;
  begun = has.begun;
  is = has.is;
}

pub begun_told : (s t : LiveState) (text : List ℕ) (at : When) (probes : ℕ) (result : Result ℕ NotBegun) → Some at ≡ time_told text → IfOk result (λ k. HasBegunAt s at probes k t)
    → IfOk result (λ k. HasBegunWindow s text probes k t)
begun_told s t text at probes (Ok k) time has = begun_then s t text at probes k time has
begun_told s t text at probes (Err why) time has = tt

-- the first reason against a window at this time, where there is one
abbrev first_against : LiveState → Option When → ℕ → Option NotBegun
first_against s time probes = by_phase s.phase
  where
    by_phase : Phase → Option NotBegun
    by_phase (Between home) = first_against_time s.script time probes
    by_phase (InWindow k hub) = Some IsInWindow
    by_phase Moving = Some IsInWindow

same_reason : (s : LiveState) (text : List ℕ) (at : When) (probes : ℕ) → Some at ≡ time_told text → first_against_begin s at probes ≡ first_against_beginning s text probes
same_reason s text at probes time = ap (λ o. first_against s o probes) time

pub free_told : (s : LiveState) (text : List ℕ) (at : When) (probes : ℕ) (result : Result ℕ NotBegun) → Some at ≡ time_told text → IfOk result (λ k. first_against_begin s at probes ≡ None)
    → IfOk result (λ k. first_against_beginning s text probes ≡ None)
free_told s text at probes (Ok k) time free = sym (same_reason s text at probes time) ∙ free
free_told s text at probes (Err why) time free = tt

pub refused_told : (s : LiveState) (text : List ℕ) (at : When) (probes : ℕ) (result : Result ℕ NotBegun) → Some at ≡ time_told text → IfErr result (λ why. MayNotBeginAt s at probes why)
    → IfErr result (λ why. MayNotBegin s text probes why)
refused_told s text at probes (Ok k) time refused = tt
refused_told s text at probes (Err why) time refused = subst (λ o. IsRefusedFor NoMemory o why) (same_reason s text at probes time) refused

pub no_time : (s : LiveState) (text : List ℕ) (probes : ℕ) (why : NotBegun) → None ≡ time_told text → why ≡ why_no_time s → MayNotBegin s text probes why
no_time s text probes why none is = inl (ap (λ o. first_against s o probes) (sym none) ∙ by_phase s.phase ∙ ap (λ x. Some x) (sym is))
  where
    reason_in : Phase → Option NotBegun
    reason_in (Between home) = first_against_time s.script None probes
    reason_in (InWindow k hub) = Some IsInWindow
    reason_in Moving = Some IsInWindow

    why_in : Phase → NotBegun
    why_in (Between home) = BadTime
    why_in (InWindow k hub) = IsInWindow
    why_in Moving = IsInWindow

    by_phase : (p : Phase) → reason_in p ≡ Some (why_in p)
    by_phase (Between home) = refl
    by_phase (InWindow k hub) = refl
    by_phase Moving = refl

-- where the script has taken the run
pub has_added : (inside s : LiveState) (home : HomeState HandedDevice) (routine : ℕ) (follows : Option RunNo) (run : RunNo) (script : Script) (result : Result RunNo NotBegun) → inside ≡ s
    → inside.phase ≡ Between home → inside.is_draft ≡ true → HasRun inside.script routine follows run.0 script → result ≡ Ok run
    → IfOk result (λ r. HasTakenRun s routine follows r.0 (record inside { script = script }))
has_added inside s home routine follows run script result seen between draft added is =
    subst (λ o. IfOk o (λ r. HasTakenRun s routine follows r.0 (record inside { script = script }))) (sym is)
    (subst (λ (x : LiveState). HasTakenRun x routine follows run.0 (record inside { script = script })) seen
    (inl (record { script = script; between = subst IsBetweenIn (sym between) tt; draft = draft; added = added; is = refl })))

-- .. and where it joined the window that is open
pub has_joined : (inside s : LiveState) (k : ℕ) (hub next : OpenHub HandedDevice) (routine : ℕ) (follows : Option RunNo) (script : Script) (result : Result RunNo NotBegun) → inside ≡ s → inside.phase ≡ InWindow k hub
    → IfOk result (λ r. HasJoinedBoth inside.script k hub routine follows r.0 script next)
    → IfOk result (λ r. HasTakenRun s routine follows r.0 (record inside { script = script; phase = InWindow k next }))
has_joined inside s k hub next routine follows script (Ok run) seen was both =
    subst (λ (x : LiveState). HasTakenRun x routine follows run.0 (record inside { script = script; phase = InWindow k next })) seen
    (inr (record { number = k; hub = hub; next = next; script = script; was = was; both = both; is = refl }))
has_joined inside s k hub next routine follows script (Err why) seen was both = tt

-- .. and where not, nothing is said
pub not_ok : {X E : Type 0} (P : X → Type 0) (result : Result X E) (why : E) → result ≡ Err why → IfOk result P
not_ok P result why is = subst (λ o. IfOk o P) (sym is) tt
