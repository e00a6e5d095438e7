-- What is out of the places of a hub, and the passes for it, at each of its steps.
use Rattle.hub_threads.proofs.Prelude.{Absent, CanGoOut, Carried, Configuration, DeskName, Done, Entry, Err, Go, GoesWith, Gripped, HandsOut, Home, IfSome, IsDetectorsPass, IsGiven, IsPassOf, IsProbeGiven, IsProbed, IsRunsPass, IsSlipOf, IsTurn, Lent, List, Moved, None, Ok, OpenHub, Option, Out, Over, PassState, Place, Purpose, Ready, Slip, SlipFits, Some, Task, Turn, Wait, [], ap, arith, carried_by, carried_in, choice_of, configuration_of, hub_state_of, length, map-set, never_refused, opened, option_map, out_after, out_in, probe_never_refused, refl, replicate, slice_get, slice_get-map, slice_set, subst, suc, sym, took_choice, took_probe, what_is_out, zero, ℕ, ◌<◌, ◌∙◌, ◌∷◌, ◌≡◌}
use Rattle.device_gate.specs.declared.strangers.Stranger.{Stranger}
use Rattle.hub_core.specs.Steps.{Absent as IsAbsent}

-- Places

out_at : {D : Type 0} (places : List (Place D)) (d : ℕ) (place : Place D) → slice_get places d ≡ Some place → slice_get (what_is_out places) d ≡ Some (out_in place)
out_at places d place at = slice_get-map (λ p. out_in p) places d ∙ ap (λ o. option_map (λ p. out_in p) o) at

out_set : {D : Type 0} (places : List (Place D)) (d : ℕ) (place : Place D) → what_is_out (slice_set places d place) ≡ slice_set (what_is_out places) d (out_in place)
out_set places d place = map-set (λ p. out_in p) places d place

back_in : {D : Type 0} (o : Option (Place D)) (slip : Slip) (task : Task) → ◌≡◌ {A = Option (Option Lent)} (option_map (λ p. out_in p) o) (Some (Some (slip, task))) → o ≡ Some (Out slip task)
back_in None slip task e = absurd (cc)
back_in (Some (Home device)) slip task e = absurd (cc)
back_in (Some (Out own of)) slip task e = let pair : ◌≡◌ {A = Lent} (own, of) (slip, task) = cc in ap (λ (c : Lent). Some (Out c.0 c.1)) pair

-- what is out is out of its place
out_back : {D : Type 0} (places : List (Place D)) (d : ℕ) (slip : Slip) (task : Task) → ◌≡◌ {A = Option (Option Lent)} (slice_get (what_is_out places) d) (Some (Some (slip, task))) → slice_get places d ≡ Some (Out slip task)
out_back places d slip task e = back_in (slice_get places d) slip task (sym (slice_get-map (λ p. out_in p) places d) ∙ e)

all_home : {D : Type 0} (places : List (Place D)) (n : ℕ) → ((d : ℕ) (slip : Slip) (task : Task) → slice_get places d ≡ Some (Out slip task) → ⊥) → length places ≡ n → ◌≡◌ {A = List (Option Lent)} (replicate n None) (what_is_out places)
all_home [] zero none size = refl
all_home [] (suc n) none size = absurd (omega (arith, size))
all_home (p ∷ ps) zero none size = absurd (omega (arith, size))
all_home (Home device ∷ ps) (suc n) none size = ap (λ os. None ∷ os) (all_home ps n (λ d. none (suc d)) (omega (arith, size)))
all_home (Out slip task ∷ ps) (suc n) none size = absurd (none 0 slip task refl)

-- nothing is out of a hub in which nothing was done yet
pub none_out : {D : Type 0} (s : OpenHub D) (n : ℕ) → configuration_of s ≡ opened s.setting s.rounds → length s.places ≡ n → ◌≡◌ {A = List (Option Lent)} (replicate n None) (what_is_out s.places)
none_out s n fresh size = all_home s.places n is_home size
  where
    is_home : (d : ℕ) (slip : Slip) (task : Task) → slice_get s.places d ≡ Some (Out slip task) → ⊥
    is_home d slip task at = let none = ap (λ (x : Configuration). x.grips d) fresh in cc

-- Steps

pub turn_can : {D : Type 0} (s t : OpenHub D) (r m : ℕ) (turn : Turn D) → IsTurn s r m turn t → CanGoOut (what_is_out s.places) turn
turn_can s t r m (Go grip) is = out_at s.places grip.slip.device.0 (Home grip.device) is.home
turn_can s t r m (Moved made) is = tt
turn_can s t r m (Wait why) is = tt
turn_can s t r m (Over end made) is = tt
turn_can s t r m Absent is = tt

pub turn_out : {D : Type 0} (s t : OpenHub D) (r m : ℕ) (turn : Turn D) → IsTurn s r m turn t → what_is_out t.places ≡ out_after (what_is_out s.places) turn
turn_out s t r m (Go grip) is = ap (λ ps. what_is_out ps) is.places ∙ out_set s.places grip.slip.device.0 (Out grip.slip grip.task)
turn_out s t r m (Moved made) is = ap (λ ps. what_is_out ps) is.places
turn_out s t r m (Wait why) is = ap (λ ps. what_is_out ps) is.0.places
turn_out s t r m (Over end made) is = ap (λ ps. what_is_out ps) is.places
turn_out s t r m Absent is = ap (λ ps. what_is_out ps) is.0.places

none_for_nobody : (s : Configuration) (m : ℕ) → choice_of s 0 m ≡ IsAbsent
none_for_nobody s m = refl

never_absent : (d : ℕ) (purpose : Purpose) → IsAbsent ≡ HandsOut d purpose → ⊥
never_absent d purpose e = cc

-- who is handed a device has the number of a run
for_a_run : (s : Configuration) (r m d : ℕ) (purpose : Purpose) → HandsOut d purpose ≡ choice_of s r m → 0 < r
for_a_run s zero m d purpose chose = absurd (never_absent d purpose (sym (none_for_nobody s m) ∙ sym chose))
for_a_run s (suc r) m d purpose chose = omega arith

pub turn_pass : {D : Type 0} (name own : DeskName) (s t : OpenHub D) (r m : ℕ) (turn : Turn D) (pass : Option (PassState Lent)) → name ≡ own → IsTurn s r m turn t → GoesWith (IsPassOf name) turn pass → GoesWith (IsRunsPass own) turn pass
turn_pass name own s t r m (Go grip) None same is lent = lent
turn_pass name own s t r m (Go grip) (Some pass) same is lent =
    let chose = took_choice (hub_state_of s) (hub_state_of t) r m grip.slip (HandsOut grip.slip.device.0 is.purpose) is.step in
    let slip : IsSlipOf r grip.slip.device.0 grip.slip = subst (λ c. SlipFits r c grip.slip) (sym chose) is.step.2 in
    (subst (λ n. IsPassOf n (carried_by grip) pass) same lent, subst (λ k. 0 < k) (sym slip.maker) (for_a_run (configuration_of s) r m grip.slip.device.0 is.purpose chose))
turn_pass name own s t r m (Moved made) pass same is lent = tt
turn_pass name own s t r m (Wait why) pass same is lent = tt
turn_pass name own s t r m (Over end made) pass same is lent = tt
turn_pass name own s t r m Absent pass same is lent = tt

-- Probes that go out

pub probe_can : {D : Type 0} (s t : OpenHub D) (d : ℕ) (grip : Gripped D Ready) → IsProbed s d (Some grip) t → slice_get (what_is_out s.places) grip.slip.device.0 ≡ Some None
probe_can s t d grip is =
    let slip = (took_probe (hub_state_of s) (hub_state_of t) d grip.slip grip.task is.0).2 in
    ap (λ e. slice_get (what_is_out s.places) e) slip.device ∙ out_at s.places d (Home grip.device) is.1

pub probe_out : {D : Type 0} (s t : OpenHub D) (d : ℕ) (grip : Gripped D Ready) → IsProbed s d (Some grip) t → what_is_out t.places ≡ slice_set (what_is_out s.places) grip.slip.device.0 (Some (grip.slip, grip.task))
probe_out s t d grip is =
    let slip = (took_probe (hub_state_of s) (hub_state_of t) d grip.slip grip.task is.0).2 in
    ap (λ ps. what_is_out ps) is.2 ∙ out_set s.places d (Out grip.slip grip.task) ∙ ap (λ e. slice_set (what_is_out s.places) e (Some (grip.slip, grip.task))) (sym slip.device)

pub probe_pass : {D : Type 0} (name own : DeskName) (s t : OpenHub D) (d : ℕ) (grip : Gripped D Ready) (pass : PassState Lent) → name ≡ own → IsProbed s d (Some grip) t → IsPassOf name (carried_by grip) pass → IsDetectorsPass own (carried_by grip) pass
probe_pass name own s t d grip pass same is lent = (subst (λ n. IsPassOf n (carried_by grip) pass) same lent, (took_probe (hub_state_of s) (hub_state_of t) d grip.slip grip.task is.0).2.maker)

-- Grips that come back

-- what the pass claims is out of its place
pub claimed : (name : DeskName) (carried : Carried) (pass : PassState Lent) (out : List (Option Lent)) → IsPassOf name carried pass → IfSome pass.claim (λ c. slice_get out c.0 ≡ Some (Some c.1))
    → slice_get out carried.slip.device.0 ≡ Some (Some (carried.slip, carried.task))
claimed name carried pass out is was = subst (λ (o : Option (ℕ × Lent)). IfSome o (λ c. slice_get out c.0 ≡ Some (Some c.1))) is.claim was

-- .. and no more after it came home
pub cleared : (name : DeskName) (carried : Carried) (pass : PassState Lent) (out now : List (Option Lent)) → IsPassOf name carried pass → IfSome pass.claim (λ c. now ≡ slice_set out c.0 None)
    → now ≡ slice_set out carried.slip.device.0 None
cleared name carried pass out now is was = subst (λ (o : Option (ℕ × Lent)). IfSome o (λ c. now ≡ slice_set out c.0 None)) is.claim was

-- a run's grip that is out is taken in
pub run_taken_in : {D : Type 0} (s t : OpenHub D) (grip : Gripped D Done) (m : ℕ) (refused : Gripped D Done × Stranger) → IsGiven s grip m (Err refused) t → slice_get (what_is_out s.places) grip.slip.device.0 ≡ Some (Some (grip.slip, grip.task)) → 0 < grip.slip.maker → ⊥
run_taken_in s t grip m refused is out maker = never_refused (hub_state_of s) (hub_state_of t) (carried_by grip) grip.stage.told m refused.1 (ap (λ p. carried_in p) (out_back s.places grip.slip.device.0 grip.slip grip.task out)) maker is.0

-- .. and so is the detector's
pub probe_taken_in : {D : Type 0} (s t : OpenHub D) (grip : Gripped D Done) (refused : Gripped D Done × Stranger) → IsProbeGiven s grip (Err refused) t → slice_get (what_is_out s.places) grip.slip.device.0 ≡ Some (Some (grip.slip, grip.task)) → grip.slip.maker ≡ 0 → ⊥
probe_taken_in s t grip refused is out maker = probe_never_refused (hub_state_of s) (hub_state_of t) (carried_by grip) grip.stage.told refused.1 (ap (λ p. carried_in p) (out_back s.places grip.slip.device.0 grip.slip grip.task out)) maker is.0

pub given_out : {D : Type 0} (s t : OpenHub D) (grip : Gripped D Done) (m : ℕ) (made : List Entry) → IsGiven s grip m (Ok made) t → what_is_out t.places ≡ slice_set (what_is_out s.places) grip.slip.device.0 None
given_out s t grip m made is = ap (λ ps. what_is_out ps) is.1 ∙ out_set s.places grip.slip.device.0 (Home grip.device)

pub probe_given_out : {D : Type 0} (s t : OpenHub D) (grip : Gripped D Done) (made : List Entry) → IsProbeGiven s grip (Ok made) t → what_is_out t.places ≡ slice_set (what_is_out s.places) grip.slip.device.0 None
probe_given_out s t grip made is = ap (λ ps. what_is_out ps) is.1 ∙ out_set s.places grip.slip.device.0 (Home grip.device)

-- Grips that were called

same_carried : (a b : Carried) → a.slip ≡ b.slip → a.task ≡ b.task → a ≡ b
same_carried a b slip task = λ i. record { slip = slip i; task = task i }

-- the pass of a grip is that of the grip when it is done
pub run_acted : (name : DeskName) (a b : Carried) (pass : PassState Lent) → b.slip ≡ a.slip → b.task ≡ a.task → IsRunsPass name a pass → IsRunsPass name b pass
run_acted name a b pass slip task own = subst (λ c. IsRunsPass name c pass) (sym (same_carried b a slip task)) own

pub probe_acted : (name : DeskName) (a b : Carried) (pass : PassState Lent) → b.slip ≡ a.slip → b.task ≡ a.task → IsDetectorsPass name a pass → IsDetectorsPass name b pass
probe_acted name a b pass slip task own = subst (λ c. IsDetectorsPass name c pass) (sym (same_carried b a slip task)) own

-- nothing comes home where nothing is out
pub none_home : (name : DeskName) (carried : Carried) (pass : PassState Lent) (out : List (Option Lent)) → out ≡ [] → IsPassOf name carried pass → IfSome pass.claim (λ c. slice_get out c.0 ≡ Some (Some c.1)) → ⊥
none_home name carried pass out none is was = absurd (let at = claimed name carried pass out is was in let nowhere = ap (λ o. slice_get o carried.slip.device.0) none in cc)
