-- An actor makes its grip's call and gives the grip back: what its player is after it.
use Rattle.run_replay.proofs.Prelude.{Commands, Configuration, Done, Entry, Gripped, HavePlans, Home, IsStepped, List, Made, None, OpenHub, Option, Plan, PlayerIsKept, PlayerState, Probes, Purpose, Ready, SameWindow, Shown, Slip, Some, Undoes, after_give, ap, arith, at_moment, carried_by, carried_in, common_steps, configuration_of, false, gave_back, get_or, give_entries, grip_in, grip_takes, hub_state_of, is_command, is_ended, is_full, is_undo, length, length_with, max, most_made, never_refused, play_of, point_of, progress_at, read_of, refl, slice_get, slice_get_read, slice_get_within, slice_set, steps_left, subst, suc, sym, takes_of, true, zero, ℕ, ◌+◌, ◌<◌, ◌==◌, ◌^◌, ◌||◌, ◌∙◌, ◌≡◌, ◌≤◌}
use Rattle.device_gate.specs.declared.strangers.Stranger.{Stranger}
use Rattle.hub_core.specs.HubSteps.{Gave, Give, HubStep, Refused, Returned}
use Rattle.lock_leasing.specs.Places.{GripsFit}
use Rattle.run_replay.proofs.Holding.{Gives, gives_keeps, gives_plans}
use Rattle.run_replay.proofs.Making.{give_makes}
use Rattle.run_replay.proofs.Picking.{acted_is_stepped, full_is, met}
use Rattle.run_replay.proofs.Stepping.{gave_fewer}
use Rattle.run_replay.proofs.Taking.{stays_by}

-- a run's grip was done, and is given back
pub record IsDone {D : Type 0} (s : PlayerState D) (a : ℕ) (grip : Gripped D Ready) (done : Gripped D Done) : Type 0 where
  pub kept : PlayerIsKept s
  pub run : 0 < a
  pub going : is_ended s a ≡ false
  pub hand : slice_get s.grips a ≡ Some (Some grip)
  pub size : length s.hub.places ≡ length s.hub.setting.first
  pub fit : GripsFit (point_of (configuration_of s.hub))
  pub slip : done.slip ≡ grip.slip
  pub task : done.task ≡ grip.task

-- the device's purpose
abbrev pub purpose_at : {D : Type 0} → PlayerState D → Gripped D Ready → Purpose
purpose_at s grip = (progress_at s.hub.devices grip.slip.device.0).purpose

pub out_of_hand : {D : Type 0} (s : PlayerState D) (a : ℕ) (grip : Gripped D Ready) → PlayerIsKept s → slice_get s.grips a ≡ Some (Some grip) → (configuration_of s.hub).grips grip.slip.device.0 ≡ Some (record { maker = a; purpose = purpose_at s grip })
out_of_hand s a grip kept hand = ap (λ o. grip_in o (progress_at s.hub.devices grip.slip.device.0).purpose) (kept.held a grip hand) ∙ ap (λ m. Some (record { maker = m; purpose = purpose_at s grip })) (kept.makers a grip hand)

-- a done grip is not refused
pub not_refused_now : {D : Type 0} (s : PlayerState D) (t : OpenHub D) (a m : ℕ) (grip : Gripped D Ready) (done : Gripped D Done) (x : Stranger) → IsDone s a grip done → HubStep (hub_state_of s.hub) (Give (carried_by done) done.stage.told m) (Returned (Refused x)) (hub_state_of t) → ⊥
not_refused_now {D = D} s t a m grip done x is step = never_refused (hub_state_of s.hub) (hub_state_of t) (carried_by done) done.stage.told m x carried maker step
  where
    carried : carried_in (slice_get s.hub.places done.slip.device.0) ≡ Some (carried_by done)
    carried = ap (λ (y : Slip). carried_in (slice_get s.hub.places y.device.0)) is.slip ∙ ap carried_in (is.kept.held a grip is.hand) ∙ λ i. Some (record { slip = sym is.slip i; task = sym is.task i })

    maker : 0 < done.slip.maker
    maker = let run = is.run in let same = ap (λ (y : Slip). y.maker) is.slip in let own = is.kept.makers a grip is.hand in omega (arith, run, same, own)

-- it was given back, at this moment
pub record IsGivenBack {D : Type 0} (s t : PlayerState D) (a : ℕ) (grip : Gripped D Ready) (done : Gripped D Done) (entries : List Entry) : Type 0 where
  pub is : IsDone s a grip done
  pub at : ℕ
  pub step : HubStep (hub_state_of s.hub) (Give (carried_by done) done.stage.told at) (Returned (Gave entries)) (hub_state_of t.hub)
  pub places : t.hub.places ≡ slice_set s.hub.places done.slip.device.0 (Home done.device)
  pub window : SameWindow s.hub t.hub
  pub grips : t.grips ≡ slice_set s.grips a None
  pub rounds : t.rounds ≡ s.rounds
  pub place : t.place ≡ s.place
  pub moves : t.moves ≡ s.moves
  pub low : grip_takes s.hub.setting ((configuration_of s.hub).grips grip.slip.device.0) < 2 ^ 32
  pub moment : at ≡ s.hub.moment + grip_takes s.hub.setting ((configuration_of s.hub).grips grip.slip.device.0)

takes_same : {D : Type 0} (s : PlayerState D) (a acts : ℕ) (purpose : Purpose) → grip_takes s.hub.setting (Some (record { maker = a; purpose = purpose })) ≡ takes_of (play_of s acts) (record { maker = a; purpose = purpose })
takes_same s a acts (Commands k) = refl
takes_same s a acts (Undoes v) = refl
takes_same s a acts (Probes v) = refl

met_run : (c : Configuration) (a m : ℕ) → 0 < a → met c a m ≡ at_moment c m
met_run c zero m run = absurd (omega (arith, run))
met_run c (suc a) m run = let no : (suc a == 0) ≡ false = grind (arith, common_steps) in rw no refl

-- what came of it

pub entries_are : {D : Type 0} (s t : PlayerState D) (a : ℕ) (grip : Gripped D Ready) (done : Gripped D Done) (entries : List Entry) → (by : IsGivenBack s t a grip done entries)
    → (entries ≡ give_entries s.hub.setting (read_of (configuration_of s.hub)) grip.slip.device.0 (record { maker = a; purpose = purpose_at s grip }) done.stage.told)
    × (configuration_of t.hub ≡ after_give (at_moment (configuration_of s.hub) by.at) grip.slip.device.0 (record { maker = a; purpose = purpose_at s grip }) done.stage.told)
entries_are {D = D} s t a grip done entries by =
    let out = out_of_hand s a grip by.is.kept by.is.hand in
    let there : (configuration_of s.hub).grips done.slip.device.0 ≡ Some (record { maker = a; purpose = purpose_at s grip }) = ap (λ (x : Slip). (configuration_of s.hub).grips x.device.0) by.is.slip ∙ out in
    let back = gave_back (hub_state_of s.hub) (hub_state_of t.hub) (carried_by done) done.stage.told by.at (record { maker = a; purpose = purpose_at s grip }) entries there by.step in (
      back.0 ∙ ap (λ (x : Slip). give_entries s.hub.setting (read_of (configuration_of s.hub)) x.device.0 (record { maker = a; purpose = purpose_at s grip }) done.stage.told) by.is.slip,
      back.1 ∙ ap (λ (x : Slip). after_give (at_moment (configuration_of s.hub) by.at) x.device.0 (record { maker = a; purpose = purpose_at s grip }) done.stage.told) by.is.slip,
    )

later_is : (before at time : ℕ) → at ≡ before + time → max before at ≡ at
later_is before at time is = omega (arith, is)

-- the moment rises by what the run's command takes
now_is : {D : Type 0} (s t : PlayerState D) (a : ℕ) (grip : Gripped D Ready) (done : Gripped D Done) (entries : List Entry) → (by : IsGivenBack s t a grip done entries) → t.hub.moment ≡ by.at
now_is s t a grip done entries by = ap (λ (c : Configuration). c.moment) (entries_are s t a grip done entries by).1 ∙ later_is s.hub.moment by.at (grip_takes s.hub.setting ((configuration_of s.hub).grips grip.slip.device.0)) by.moment

moment_is : {D : Type 0} (s t : PlayerState D) (a acts : ℕ) (grip : Gripped D Ready) (done : Gripped D Done) (entries : List Entry) → IsGivenBack s t a grip done entries → t.hub.moment ≡ s.hub.moment + takes_of (play_of s acts) (record { maker = a; purpose = purpose_at s grip })
moment_is s t a acts grip done entries by = now_is s t a grip done entries by ∙ by.moment ∙ ap (λ o. s.hub.moment + grip_takes s.hub.setting o) (out_of_hand s a grip by.is.kept by.is.hand) ∙ ap (λ n. s.hub.moment + n) (takes_same s a acts (purpose_at s grip))

pub given_stepped : {D : Type 0} (s t : PlayerState D) (a acts : ℕ) (grip : Gripped D Ready) (done : Gripped D Done) (entries : List Entry) → IsGivenBack s t a grip done entries → IsStepped s.rounds a (play_of s acts) (Made entries) (play_of t (acts + 1))
given_stepped s t a acts grip done entries by =
    let two = entries_are s t a grip done entries by in
    acted_is_stepped s t a acts grip (purpose_at s grip) done.stage.told entries by.is.kept by.is.size by.is.hand (out_of_hand s a grip by.is.kept by.is.hand) (moment_is s t a acts grip done entries by) two.0
    (two.1 ∙ ap (λ c. after_give c grip.slip.device.0 (record { maker = a; purpose = purpose_at s grip }) done.stage.told) (ap (at_moment (configuration_of s.hub)) (sym (now_is s t a grip done entries by)) ∙ sym (met_run (configuration_of s.hub) a t.hub.moment by.is.run))) by.place by.moves

-- a run's grip is for a command or an undo
pub runs_purpose : {D : Type 0} (s : PlayerState D) (a d : ℕ) (purpose : Purpose) → 0 < a
    → GripsFit (point_of (configuration_of s.hub))
    → (configuration_of s.hub).grips d ≡ Some (record { maker = a; purpose = purpose }) → (is_command purpose || is_undo purpose) ≡ true
runs_purpose s a d (Commands k) run fit out = refl
runs_purpose s a d (Undoes v) run fit out = refl
runs_purpose s a d (Probes v) run fit out = absurd (let no = fit.probes d a v out in omega (arith, run, no))

grows : {D : Type 0} (s t : PlayerState D) (a : ℕ) (grip : Gripped D Ready) (done : Gripped D Done) (entries : List Entry) → IsGivenBack s t a grip done entries → length s.hub.history < length t.hub.history
grows {D = D} s t a grip done entries by =
    let two = entries_are s t a grip done entries by in
    let some = give_makes s.hub.setting (read_of (configuration_of s.hub)) grip.slip.device.0 a (purpose_at s grip) done.stage.told (runs_purpose s a grip.slip.device.0 (purpose_at s grip) by.is.run by.is.fit (out_of_hand s a grip by.is.kept by.is.hand)) in
    let longer = length_with s.hub.history a (give_entries s.hub.setting (read_of (configuration_of s.hub)) grip.slip.device.0 (record { maker = a; purpose = purpose_at s grip }) done.stage.told) in
    let whole = ap (λ (c : Configuration). length c.history) two.1 in
    omega (arith, some, longer, whole)

gives_of : {D : Type 0} (s t : PlayerState D) (a : ℕ) (grip : Gripped D Ready) (done : Gripped D Done) (entries : List Entry) → IsGivenBack s t a grip done entries → Gives s t a grip done.device
gives_of s t a grip done entries by = record {
  hand = by.is.hand;
  places = by.places ∙ ap (λ (x : Slip). slice_set s.hub.places x.device.0 (Home done.device)) by.is.slip;
  grips = by.grips;
  setting = by.window.setting;
  rounds = by.rounds;
  early = (let more = grows s t a grip done entries by in let early = by.is.kept.early in let low = by.low in let same = now_is s t a grip done entries by ∙ by.moment in omega (arith, more, early, low, same));
  place = by.place;
}

pub given_keeps : {D : Type 0} (s t : PlayerState D) (a : ℕ) (grip : Gripped D Ready) (done : Gripped D Done) (entries : List Entry) → IsGivenBack s t a grip done entries → PlayerIsKept t
given_keeps s t a grip done entries by = gives_keeps s t a grip done.device (gives_of s t a grip done entries by) by.is.kept

pub given_plans : {D : Type 0} (shows : D → Shown) (plans : ℕ → Plan) (s t : PlayerState D) (a : ℕ) (grip : Gripped D Ready) (done : Gripped D Done) (entries : List Entry)
    → IsGivenBack s t a grip done entries → (shows done.device).plan ≡ (shows grip.device).plan → HavePlans shows plans s → HavePlans shows plans t
given_plans shows plans s t a grip done entries by = gives_plans shows plans s t a grip done.device (gives_of s t a grip done entries by) by.is.kept

pub given_fewer : {D : Type 0} (s t : PlayerState D) (a : ℕ) (grip : Gripped D Ready) (done : Gripped D Done) (entries : List Entry) → IsGivenBack s t a grip done entries → length t.hub.history ≤ most_made t → steps_left t < steps_left s
given_fewer s t zero grip done entries by bound = absurd (let run = by.is.run in omega (arith, run))
given_fewer s t (suc r) grip done entries by bound = gave_fewer s t r (stays_by s t by.window by.rounds) by.grips by.place (grows s t (suc r) grip done entries by) bound

-- What is taken from a hand

hand_there : {D : Type 0} (s : PlayerState D) (a : ℕ) (now : Option (Gripped D Ready)) → is_full s a ≡ true → now ≡ get_or s.grips a now → slice_get s.grips a ≡ Some now
hand_there s a now full value = let held = full_is s a full in slice_get_read s.grips (length s.grips) a now refl (slice_get_within s.grips a (Some held.0) held.1) value

pub hand_by : {D : Type 0} (s : PlayerState D) (a : ℕ) (now : Option (Gripped D Ready)) (grip : Gripped D Ready) → is_full s a ≡ true → now ≡ get_or s.grips a now → now ≡ Some grip → slice_get s.grips a ≡ Some (Some grip)
hand_by s a now grip full value is = hand_there s a now full value ∙ ap (λ o. Some o) is

pub hand_never : {D : Type 0} (s : PlayerState D) (a : ℕ) (now : Option (Gripped D Ready)) → is_full s a ≡ true → now ≡ get_or s.grips a now → now ≡ None → ⊥
hand_never {D = D} s a now full value is = let held = full_is s a full in absurd (let both : ◌≡◌ {A = Option (Option (Gripped D Ready))} (Some None) (Some (Some held.0)) = ap (λ o. Some o) (sym is) ∙ sym (hand_there s a now full value) ∙ held.1 in cc)

pub full_now : {D : Type 0} (now s : PlayerState D) (a : ℕ) → s ≡ now → is_full now a ≡ true → is_full s a ≡ true
full_now {D = D} now s a same full = subst (λ (x : PlayerState D). is_full x a ≡ true) (sym same) full

pub done_of : {D : Type 0} (now s : PlayerState D) (a : ℕ) (hand : Option (Gripped D Ready)) (grip : Gripped D Ready) (done : Gripped D Done) → s ≡ now → PlayerIsKept s → 0 < a → is_ended now a ≡ false → is_full now a ≡ true
    → hand ≡ get_or s.grips a hand → hand ≡ Some grip → length s.hub.places ≡ length s.hub.setting.first → GripsFit (point_of (configuration_of s.hub)) → done.slip ≡ grip.slip → done.task ≡ grip.task
    → IsDone s a grip done
done_of {D = D} now s a hand grip done same kept run going full value is size fit slip task = record {
  kept = kept;
  run = run;
  going = subst (λ (x : PlayerState D). is_ended x a ≡ false) (sym same) going;
  hand = hand_by s a hand grip (full_now now s a same full) value is;
  size = size;
  fit = fit;
  slip = slip;
  task = task;
}
