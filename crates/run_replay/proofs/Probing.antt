-- The detector comes to the next device of its round, and gives back the probe that it holds: what its player is after it.
use Rattle.run_replay.proofs.Prelude.{Bool, Commands, Configuration, Done, Entry, Gripped, Home, IsProbed, IsStepped, List, Made, None, OpenHub, Option, Out, Passed, PlayerIsKept, PlayerState, PlayerSteps, Probes, Purpose, Ready, SameWindow, Shown, Slip, Some, Took, Undoes, after_give, after_take_probe, ap, arith, carried_by, carried_in, common_steps, configuration_of, device_no, false, gave_probe_back, get_or, give_entries, hub_state_of, if◌then◌else◌, is_ended, is_full, length, length_with, may_probe, nat_le, not, play_of, probe_grip, probe_never_refused, put, read_of, refl, slice_get, slice_set, subst, sym, takes_of, took_none, took_probe, true, ℕ, ◌&&◌, ◌*◌, ◌+◌, ◌-◌, ◌<◌, ◌^◌, ◌∙◌, ◌≡◌, ◌≤◌}
use Rattle.device_gate.specs.declared.strangers.Stranger.{Stranger}
use Rattle.home_types.specs.declared.numbers.DeviceNo.{DeviceNo}
use Rattle.hub_core.specs.HubSteps.{Gave, GiveProbe, HubStep, IsSlipOf, Refused, Returned}
use Rattle.run_replay.proofs.Acting.{hand_by, out_of_hand, purpose_at}
use Rattle.run_replay.proofs.Holding.{Gives, Moves, Takes, gives_keeps, gives_plans, moves_keeps, moves_plans, takes_keeps, takes_plans}
use Rattle.run_replay.proofs.Leaving.{give_ended, same_ends}
use Rattle.run_replay.proofs.Picking.{acted_is_stepped, detector_passed, detector_took, empty_is, next_device}
use Rattle.run_replay.proofs.Settings.{put_length}
use Rattle.run_replay.proofs.Stepping.{passed_fewer, probed_fewer, returned_fewer}
use Rattle.run_replay.proofs.Taking.{some_slip, stays_by}

-- The detector comes to a device

-- a detector that goes on, with an empty hand
pub record IsAtRest {D : Type 0} (s : PlayerState D) : Type 0 where
  pub kept : PlayerIsKept s
  pub size : length s.hub.places ≡ length s.hub.setting.first
  pub going : is_ended s 0 ≡ false
  pub empty : is_full s 0 ≡ false

pub rests : {D : Type 0} (now s : PlayerState D) → s ≡ now → PlayerIsKept s → length s.hub.places ≡ length s.hub.setting.first → is_ended now 0 ≡ false → is_full now 0 ≡ false → IsAtRest s
rests {D = D} now s same kept size going empty = record { kept = kept; size = size; going = subst (λ (x : PlayerState D). is_ended x 0 ≡ false) (sym same) going; empty = subst (λ (x : PlayerState D). is_full x 0 ≡ false) (sym same) empty }

-- it has a device to come to
pub has_next : {D : Type 0} (s : PlayerState D) → is_ended s 0 ≡ false → is_full s 0 ≡ false → s.place < s.rounds * length s.hub.setting.first
has_next s going empty = by_hand (is_full s 0) (s.rounds * length s.hub.setting.first) empty going
  where
    by_hand : (full : Bool) (all : ℕ) → full ≡ false → (not full && nat_le all s.place) ≡ false → s.place < all
    by_hand true all none on = absurd (cc)
    by_hand false all none on = grind (arith, common_steps, on)

some_hand : {D : Type 0} (s : PlayerState D) → PlayerIsKept s → 0 < length s.grips
some_hand s kept = let actors = kept.actors in omega (arith, actors)

its_hand : {D : Type 0} (s : PlayerState D) → IsAtRest s → slice_get s.grips 0 ≡ Some None
its_hand s rest = empty_is s 0 rest.empty (some_hand s rest.kept)

-- one place further
further : {D : Type 0} (s t : PlayerState D) → IsAtRest s → SameWindow s.hub t.hub → t.rounds ≡ s.rounds → t.place ≡ s.place + 1 → t.place ≤ t.rounds * length t.hub.setting.first
further s t rest window rounds place =
    let low = has_next s rest.going rest.empty in
    let all : t.rounds * length t.hub.setting.first ≡ s.rounds * length s.hub.setting.first = ap (λ n. n * length t.hub.setting.first) rounds ∙ ap (λ w. s.rounds * length w.first) window.setting in
    subst (λ n. t.place ≤ n) (sym all) (next_low s.place t.place (s.rounds * length s.hub.setting.first) place low)
  where
    next_low : (before after all : ℕ) → after ≡ before + 1 → before < all → after ≤ all
    next_low before after all next low = omega (arith, next, low)

-- what a probe that goes out leaves
probed_so : (c : Configuration) (d : ℕ) → may_probe c d ≡ true → after_take_probe c d ≡ record c { probes = put c.probes d (c.probes d - 1); grips = put c.grips d (Some (probe_grip c d)) }
probed_so c d may = ap (λ (b : Bool). if b then record c { probes = put c.probes d (c.probes d - 1); grips = put c.grips d (Some (probe_grip c d)) } else c) may

-- a probe of the device goes to the detector's hand
pub record GoesToDetector {D : Type 0} (s t : PlayerState D) (d : ℕ) (grip : Gripped D Ready) : Type 0 where
  pub rest : IsAtRest s
  pub next : d ≡ next_device s
  pub probed : IsProbed s.hub d (Some grip) t.hub
  pub window : SameWindow s.hub t.hub
  pub grips : t.grips ≡ slice_set s.grips 0 (Some grip)
  pub rounds : t.rounds ≡ s.rounds
  pub place : t.place ≡ s.place + 1
  pub moves : t.moves ≡ s.moves

taken : {D : Type 0} (s t : PlayerState D) (d : ℕ) (grip : Gripped D Ready) → GoesToDetector s t d grip → (may_probe (configuration_of s.hub) d ≡ true) × (configuration_of t.hub ≡ after_take_probe (configuration_of s.hub) d) × IsSlipOf 0 d grip.slip
taken s t d grip is = took_probe (hub_state_of s.hub) (hub_state_of t.hub) d grip.slip grip.task is.probed.0

after : {D : Type 0} (s t : PlayerState D) (d : ℕ) (grip : Gripped D Ready) → GoesToDetector s t d grip
    → configuration_of t.hub ≡ record (configuration_of s.hub) {
      probes = put (configuration_of s.hub).probes d ((configuration_of s.hub).probes d - 1);
      grips = put (configuration_of s.hub).grips d (Some (probe_grip (configuration_of s.hub) d));
    }
after s t d grip is = let three = taken s t d grip is in three.1 ∙ probed_so (configuration_of s.hub) d three.0

same_history : {D : Type 0} (s t : PlayerState D) (d : ℕ) (grip : Gripped D Ready) → GoesToDetector s t d grip → t.hub.history ≡ s.hub.history
same_history s t d grip is = ap (λ (c : Configuration). c.history) (after s t d grip is)

takes_it : {D : Type 0} (s t : PlayerState D) (d : ℕ) (grip : Gripped D Ready) → GoesToDetector s t d grip → Takes s t 0 grip
takes_it s t d grip is =
    let slip = (taken s t d grip is).2 in
    record {
      free = its_hand s is.rest;
      home = ap (λ e. slice_get s.hub.places e) slip.device ∙ is.probed.1;
      maker = slip.maker;
      places = is.probed.2 ∙ ap (λ e. slice_set s.hub.places e (Out grip.slip grip.task)) (sym slip.device);
      grips = is.grips;
      setting = is.window.setting;
      rounds = is.rounds;
      early = subst (λ (c : Configuration). c.moment ≤ 2 ^ 32 * length c.history) (sym (after s t d grip is)) is.rest.kept.early;
      place = further s t is.rest is.window is.rounds is.place;
    }

pub probed_keeps : {D : Type 0} (s t : PlayerState D) (d : ℕ) (grip : Gripped D Ready) → GoesToDetector s t d grip → PlayerIsKept t
probed_keeps s t d grip is = takes_keeps s t 0 grip (takes_it s t d grip is) is.rest.kept

probed_stepped : {D : Type 0} (s t : PlayerState D) (d acts : ℕ) (grip : Gripped D Ready) → GoesToDetector s t d grip → IsStepped s.rounds 0 (play_of s acts) (Took (device_no d)) (play_of t acts)
probed_stepped s t d acts grip is =
    let three = taken s t d grip is in
    subst (λ e. IsStepped s.rounds 0 (play_of s acts) (Took (device_no e)) (play_of t acts)) (sym is.next)
    (detector_took s t acts is.rest.kept (its_hand s is.rest) (ap (may_probe (configuration_of s.hub)) (sym is.next) ∙ three.0) (three.1 ∙ ap (after_take_probe (configuration_of s.hub)) is.next) is.place is.moves)

-- The device is passed over

pub record PassesOver {D : Type 0} (s t : PlayerState D) (d : ℕ) : Type 0 where
  pub rest : IsAtRest s
  pub next : d ≡ next_device s
  pub probed : IsProbed s.hub d None t.hub
  pub window : SameWindow s.hub t.hub
  pub grips : t.grips ≡ s.grips
  pub rounds : t.rounds ≡ s.rounds
  pub place : t.place ≡ s.place + 1
  pub moves : t.moves ≡ s.moves

stays : {D : Type 0} (s t : PlayerState D) (d : ℕ) → PassesOver s t d → Moves s t
stays s t d is = record {
  places = ap (λ (h : OpenHub _). h.places) is.probed.1;
  grips = is.grips;
  setting = is.window.setting;
  rounds = is.rounds;
  early = subst (λ (h : OpenHub _). h.moment ≤ 2 ^ 32 * length h.history) (sym is.probed.1) is.rest.kept.early;
  place = further s t is.rest is.window is.rounds is.place;
}

pub passed_keeps : {D : Type 0} (s t : PlayerState D) (d : ℕ) → PassesOver s t d → PlayerIsKept t
passed_keeps s t d is = moves_keeps s t (stays s t d is) is.rest.kept

passed_stepped : {D : Type 0} (s t : PlayerState D) (d acts : ℕ) → PassesOver s t d → IsStepped s.rounds 0 (play_of s acts) Passed (play_of t acts)
passed_stepped s t d acts is =
    let may = took_none (hub_state_of s.hub) (hub_state_of t.hub) d some_slip (is.probed.0 some_slip) in
    detector_passed s t acts is.rest.kept (its_hand s is.rest) (ap (may_probe (configuration_of s.hub)) (sym is.next) ∙ may) (ap configuration_of is.probed.1) is.place is.moves

-- The probe is given back

-- the detector holds this grip
pub record IsHeld {D : Type 0} (s : PlayerState D) (grip : Gripped D Ready) : Type 0 where
  pub kept : PlayerIsKept s
  pub size : length s.hub.places ≡ length s.hub.setting.first
  pub going : is_ended s 0 ≡ false
  pub hand : slice_get s.grips 0 ≡ Some (Some grip)

pub holds : {D : Type 0} (now s : PlayerState D) (hand : Option (Gripped D Ready)) (grip : Gripped D Ready) → s ≡ now → PlayerIsKept s → length s.hub.places ≡ length s.hub.setting.first → is_ended now 0 ≡ false → is_full now 0 ≡ true → hand ≡ get_or s.grips 0 hand → hand ≡ Some grip → IsHeld s grip
holds {D = D} now s hand grip same kept size going full value is = record {
  kept = kept;
  size = size;
  going = subst (λ (x : PlayerState D). is_ended x 0 ≡ false) (sym same) going;
  hand = hand_by s 0 hand grip (subst (λ (x : PlayerState D). is_full x 0 ≡ true) (sym same) full) value is;
}

-- the grip that was done is the one with which its device is out, so it is not refused
pub probe_not_refused : {D : Type 0} (s : PlayerState D) (t : OpenHub D) (grip : Gripped D Ready) (done : Gripped D Done) (x : Stranger) → IsHeld s grip
    → done.slip ≡ grip.slip → done.task ≡ grip.task
    → HubStep (hub_state_of s.hub) (GiveProbe (carried_by done) done.stage.told) (Returned (Refused x)) (hub_state_of t) → ⊥
probe_not_refused {D = D} s t grip done x is slip task step = probe_never_refused (hub_state_of s.hub) (hub_state_of t) (carried_by done) done.stage.told x carried (ap (λ (y : Slip). y.maker) slip ∙ is.kept.makers 0 grip is.hand) step
  where
    carried : carried_in (slice_get s.hub.places done.slip.device.0) ≡ Some (carried_by done)
    carried = ap (λ (y : Slip). carried_in (slice_get s.hub.places y.device.0)) slip ∙ ap carried_in (is.kept.held 0 grip is.hand) ∙ λ i. Some (record { slip = sym slip i; task = sym task i })

pub record ProbeIsBack {D : Type 0} (s t : PlayerState D) (grip : Gripped D Ready) (done : Gripped D Done) (entries : List Entry) : Type 0 where
  pub held : IsHeld s grip
  pub slip : done.slip ≡ grip.slip
  pub step : HubStep (hub_state_of s.hub) (GiveProbe (carried_by done) done.stage.told) (Returned (Gave entries)) (hub_state_of t.hub)
  pub places : t.hub.places ≡ slice_set s.hub.places done.slip.device.0 (Home done.device)
  pub window : SameWindow s.hub t.hub
  pub grips : t.grips ≡ slice_set s.grips 0 None
  pub rounds : t.rounds ≡ s.rounds
  pub place : t.place ≡ s.place
  pub moves : t.moves ≡ s.moves

its_grip : {D : Type 0} (s : PlayerState D) (grip : Gripped D Ready) → IsHeld s grip → (configuration_of s.hub).grips grip.slip.device.0 ≡ Some (record { maker = 0; purpose = purpose_at s grip })
its_grip s grip is = out_of_hand s 0 grip is.kept is.hand

came_back : {D : Type 0} (s t : PlayerState D) (grip : Gripped D Ready) (done : Gripped D Done) (entries : List Entry) → ProbeIsBack s t grip done entries
    → (entries ≡ give_entries s.hub.setting (read_of (configuration_of s.hub)) grip.slip.device.0 (record { maker = 0; purpose = purpose_at s grip }) done.stage.told)
    × (configuration_of t.hub ≡ after_give (configuration_of s.hub) grip.slip.device.0 (record { maker = 0; purpose = purpose_at s grip }) done.stage.told)
came_back {D = D} s t grip done entries is =
    let there : (configuration_of s.hub).grips done.slip.device.0 ≡ Some (record { maker = 0; purpose = purpose_at s grip }) = ap (λ (x : Slip). (configuration_of s.hub).grips x.device.0) is.slip ∙ its_grip s grip is.held in
    let back = gave_probe_back (hub_state_of s.hub) (hub_state_of t.hub) (carried_by done) done.stage.told (record { maker = 0; purpose = purpose_at s grip }) entries there is.step in (
      back.0 ∙ ap (λ (x : Slip). give_entries s.hub.setting (read_of (configuration_of s.hub)) x.device.0 (record { maker = 0; purpose = purpose_at s grip }) done.stage.told) is.slip,
      back.1 ∙ ap (λ (x : Slip). after_give (configuration_of s.hub) x.device.0 (record { maker = 0; purpose = purpose_at s grip }) done.stage.told) is.slip,
    )

-- .. at the moment that it was
untouched : {D : Type 0} (s t : PlayerState D) (grip : Gripped D Ready) (done : Gripped D Done) (entries : List Entry) → ProbeIsBack s t grip done entries → t.hub.moment ≡ s.hub.moment
untouched s t grip done entries is = ap (λ (c : Configuration). c.moment) (came_back s t grip done entries is).1

-- the detector's grip takes no time
no_time : {D : Type 0} (s : PlayerState D) (acts : ℕ) (purpose : Purpose) → takes_of (play_of s acts) (record { maker = 0; purpose = purpose }) ≡ 0
no_time s acts (Commands k) = refl
no_time s acts (Undoes v) = refl
no_time s acts (Probes v) = refl

back_stepped : {D : Type 0} (s t : PlayerState D) (acts : ℕ) (grip : Gripped D Ready) (done : Gripped D Done) (entries : List Entry) → ProbeIsBack s t grip done entries → IsStepped s.rounds 0 (play_of s acts) (Made entries) (play_of t (acts + 1))
back_stepped s t acts grip done entries is =
    let two = came_back s t grip done entries is in
    let none = no_time s acts (purpose_at s grip) in
    acted_is_stepped s t 0 acts grip (purpose_at s grip) done.stage.told entries is.held.kept is.held.size is.held.hand (its_grip s grip is.held)
    (later s.hub.moment t.hub.moment (takes_of (play_of s acts) (record { maker = 0; purpose = purpose_at s grip })) (untouched s t grip done entries is) none)
    two.0 two.1 is.place is.moves
  where
    later : (before after time : ℕ) → after ≡ before → time ≡ 0 → after ≡ before + time
    later before after time same none = omega (arith, same, none)

longer : {D : Type 0} (s t : PlayerState D) (grip : Gripped D Ready) (done : Gripped D Done) (entries : List Entry) → ProbeIsBack s t grip done entries → length s.hub.history ≤ length t.hub.history
longer s t grip done entries is =
    let whole = ap (λ (c : Configuration). length c.history) (came_back s t grip done entries is).1 in
    let more = length_with s.hub.history 0 (give_entries s.hub.setting (read_of (configuration_of s.hub)) grip.slip.device.0 (record { maker = 0; purpose = purpose_at s grip }) done.stage.told) in
    omega (arith, whole, more)

gives_it : {D : Type 0} (s t : PlayerState D) (grip : Gripped D Ready) (done : Gripped D Done) (entries : List Entry) → ProbeIsBack s t grip done entries → Gives s t 0 grip done.device
gives_it s t grip done entries is = record {
  hand = is.held.hand;
  places = is.places ∙ ap (λ (x : Slip). slice_set s.hub.places x.device.0 (Home done.device)) is.slip;
  grips = is.grips;
  setting = is.window.setting;
  rounds = is.rounds;
  early = (let more = longer s t grip done entries is in let early = is.held.kept.early in let same = untouched s t grip done entries is in omega (arith, more, early, same));
  place = is.place;
}

pub back_keeps : {D : Type 0} (s t : PlayerState D) (grip : Gripped D Ready) (done : Gripped D Done) (entries : List Entry) → ProbeIsBack s t grip done entries → PlayerIsKept t
back_keeps s t grip done entries is = gives_keeps s t 0 grip done.device (gives_it s t grip done entries is) is.held.kept

-- The step of the detector

pub probed_steps : {D : Type 0} (shows : D → Shown) (s t : PlayerState D) (d : DeviceNo) (grip : Gripped D Ready) → GoesToDetector s t d.0 grip → PlayerSteps shows s 0 (Took d) t
probed_steps shows s t d grip is = record {
  stepped = λ acts. (acts, probed_stepped s t d.0 acts grip is);
  stays = record { window = is.window; rounds = is.rounds; plans = λ plans. takes_plans shows plans s t 0 grip (takes_it s t d.0 grip is) };
  moves = is.moves;
  hands = ap length is.grips ∙ put_length s.grips 0 (Some grip);
  others = λ q other. same_ends s t q is.window (λ own. absurd (other own)) (ap (λ (c : Configuration). ((read_of c).run q).ended) (after s t d.0 grip is));
  fewer = λ goes. probed_fewer s t grip (stays_by s t is.window is.rounds) (some_hand s is.rest.kept) is.grips (has_next s is.rest.going is.rest.empty) is.place (same_history s t d.0 grip is);
  left = λ waits. absurd (cc);
  waiting = λ waits. absurd (cc);
}

pub passed_steps : {D : Type 0} (shows : D → Shown) (s t : PlayerState D) (d : ℕ) → PassesOver s t d → PlayerSteps shows s 0 Passed t
passed_steps {D = D} shows s t d is = record {
  stepped = λ acts. (acts, passed_stepped s t d acts is);
  stays = record { window = is.window; rounds = is.rounds; plans = λ plans. moves_plans shows plans s t (stays s t d is) };
  moves = is.moves;
  hands = ap length is.grips;
  others = λ q other. same_ends s t q is.window (λ own. absurd (other own)) (ap (λ (h : OpenHub D). ((read_of (configuration_of h)).run q).ended) is.probed.1);
  fewer = λ goes. passed_fewer s t (stays_by s t is.window is.rounds) is.grips (has_next s is.rest.going is.rest.empty) is.place (ap (λ (h : OpenHub D). h.history) is.probed.1);
  left = λ waits. absurd (cc);
  waiting = λ waits. absurd (cc);
}

pub back_steps : {D : Type 0} (shows : D → Shown) (s t : PlayerState D) (grip : Gripped D Ready) (done : Gripped D Done) (made : List Entry) → ProbeIsBack s t grip done made → (shows done.device).plan ≡ (shows grip.device).plan
    → PlayerSteps shows s 0 (Made made) t
back_steps shows s t grip done made is own = record {
  stepped = λ acts. (acts + 1, back_stepped s t acts grip done made is);
  stays = record { window = is.window; rounds = is.rounds; plans = λ plans. gives_plans shows plans s t 0 grip done.device (gives_it s t grip done made is) is.held.kept own };
  moves = is.moves;
  hands = ap length is.grips ∙ put_length s.grips 0 None;
  others = λ q other. same_ends s t q is.window (λ own. absurd (other own)) (ap (λ (c : Configuration). ((read_of c).run q).ended) (came_back s t grip done made is).1 ∙ give_ended (configuration_of s.hub) grip.slip.device.0 0 q (purpose_at s grip) done.stage.told);
  fewer = λ goes. returned_fewer s t grip (stays_by s t is.window is.rounds) is.held.hand is.grips is.place (longer s t grip done made is);
  left = λ waits. absurd (cc);
  waiting = λ waits. absurd (cc);
}
