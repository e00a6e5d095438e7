-- What actors hold: a grip taken, and a grip given back.
use Rattle.run_replay.proofs.Prelude.{Gripped, HavePlans, Home, IsInHand, None, Option, Out, Place, Plan, PlayerIsKept, PlayerState, Ready, Shown, Slip, Some, ap, get_set, inl, inr, length, refl, slice_get, slice_get_within, slice_set, subst, sym, ℕ, ◌*◌, ◌+◌, ◌<◌, ◌^◌, ◌∙◌, ◌≡◌, ◌≢◌, ◌≤◌, ◌⊎◌}
use Rattle.device_gate.specs.declared.slips.Task.{Task}
use Rattle.run_replay.proofs.Settings.{put_length, put_other_place, put_same_place}

-- a device cannot be home and out
home_or_out : {D : Type 0} (o : Option (Place D)) (device : D) (slip : Slip) (task : Task) → o ≡ Some (Home device) → o ≡ Some (Out slip task) → ⊥
home_or_out o device slip task at out = absurd (let both : Some (Home device) ≡ Some (Out slip task) = sym at ∙ out in cc)

same_out : {D : Type 0} (a b : Slip) (x y : Task) (o : Option (Place D)) → o ≡ Some (Out a x) → o ≡ Some (Out b y) → a ≡ b
same_out {D = D} a b x y o e f = let both : ◌≡◌ {A = Option (Place D)} (Some (Out a x)) (Some (Out b y)) = sym e ∙ f in cc

-- a grip that goes out into a hand that was empty
pub record Takes {D : Type 0} (s t : PlayerState D) (r : ℕ) (grip : Gripped D Ready) : Type 0 where
  pub free : slice_get s.grips r ≡ Some None
  pub home : slice_get s.hub.places grip.slip.device.0 ≡ Some (Home grip.device)
  pub maker : grip.slip.maker ≡ r
  pub places : t.hub.places ≡ slice_set s.hub.places grip.slip.device.0 (Out grip.slip grip.task)
  pub grips : t.grips ≡ slice_set s.grips r (Some grip)
  pub setting : t.hub.setting ≡ s.hub.setting
  pub rounds : t.rounds ≡ s.rounds
  pub early : t.hub.moment ≤ 2 ^ 32 * length t.hub.history
  pub place : t.place ≤ t.rounds * length t.hub.setting.first

taken_grip : {D : Type 0} (s t : PlayerState D) (r a : ℕ) (grip x : Gripped D Ready) → Takes s t r grip → slice_get t.grips a ≡ Some (Some x) → ((a ≡ r) × (x ≡ grip)) ⊎ ((a ≢ r) × (slice_get s.grips a ≡ Some (Some x)))
taken_grip {D = D} s t r a grip x by at =
    let there : slice_get (slice_set s.grips r (Some grip)) a ≡ Some (Some x) = ap (λ l. slice_get l a) (sym by.grips) ∙ at in
    elim (get_set s.grips r a (Some grip) (slice_get_within s.grips r None by.free)) [
      | inl p ↦ inl (p.0, (let both : ◌≡◌ {A = Option (Option (Gripped D Ready))} (Some (Some x)) (Some (Some grip)) = sym there ∙ p.1 in cc))
      | inr q ↦ inr (q.0, sym q.1 ∙ there)
    ]

taken_place : {D : Type 0} (s t : PlayerState D) (r d : ℕ) (grip : Gripped D Ready) → Takes s t r grip → ((d ≡ grip.slip.device.0) × (slice_get t.hub.places d ≡ Some (Out grip.slip grip.task))) ⊎ ((d ≢ grip.slip.device.0) × (slice_get t.hub.places d ≡ slice_get s.hub.places d))
taken_place s t r d grip by =
    elim (get_set s.hub.places grip.slip.device.0 d (Out grip.slip grip.task) (slice_get_within s.hub.places grip.slip.device.0 (Home grip.device) by.home)) [
      | inl p ↦ inl (p.0, ap (λ l. slice_get l d) by.places ∙ p.1)
      | inr q ↦ inr (q.0, ap (λ l. slice_get l d) by.places ∙ q.1)
    ]

pub takes_keeps : {D : Type 0} (s t : PlayerState D) (r : ℕ) (grip : Gripped D Ready) → Takes s t r grip → PlayerIsKept s → PlayerIsKept t
takes_keeps {D = D} s t r grip by kept = record {
  actors = ap length by.grips ∙ put_length s.grips r (Some grip) ∙ kept.actors ∙ ap (λ w. length w.runs + 1) (sym by.setting);
  makers = λ a x at. elim (taken_grip s t r a grip x by at) [
    | inl p ↦ ap (λ (y : Gripped D Ready). y.slip.maker) p.1 ∙ by.maker ∙ sym p.0
    | inr q ↦ kept.makers a x q.1
  ];
  held = λ a x at. elim (taken_grip s t r a grip x by at) [
    | inl p ↦ subst (λ (y : Gripped D Ready). slice_get t.hub.places y.slip.device.0 ≡ Some (Out y.slip y.task)) (sym p.1) out_now
    | inr q ↦ still a x q.1
  ];
  out = λ d slip task at. elim (taken_place s t r d grip by) [
    | inl p ↦ mine d slip task p.0 p.1 at
    | inr q ↦ others d slip task (sym q.1 ∙ at)
  ];
  early = by.early;
  rounds = subst (λ n. n < 2 ^ 32) (sym by.rounds) kept.rounds;
  place = by.place;
}
  where
    out_now : slice_get t.hub.places grip.slip.device.0 ≡ Some (Out grip.slip grip.task)
    out_now = ap (λ l. slice_get l grip.slip.device.0) by.places ∙ put_same_place s.hub.places grip.slip.device.0 (Out grip.slip grip.task) (slice_get_within s.hub.places grip.slip.device.0 (Home grip.device) by.home)

    still : (a : ℕ) (x : Gripped D Ready) → slice_get s.grips a ≡ Some (Some x) → slice_get t.hub.places x.slip.device.0 ≡ Some (Out x.slip x.task)
    still a x at = elim (taken_place s t r x.slip.device.0 grip by) [
      | inl p ↦ absurd (home_or_out (slice_get s.hub.places grip.slip.device.0) grip.device x.slip x.task by.home (ap (λ d. slice_get s.hub.places d) (sym p.0) ∙ kept.held a x at))
      | inr q ↦ q.1 ∙ kept.held a x at
    ]

    mine : (d : ℕ) (slip : Slip) (task : Task) → d ≡ grip.slip.device.0 → slice_get t.hub.places d ≡ Some (Out grip.slip grip.task) → slice_get t.hub.places d ≡ Some (Out slip task) → IsInHand t d slip
    mine d slip task number is at =
        let same : grip.slip ≡ slip = same_out grip.slip slip grip.task task (slice_get t.hub.places d) is at in
        record {
          grip = grip;
          there = ap (λ l. slice_get l slip.maker) by.grips ∙ ap (λ a. slice_get (slice_set s.grips r (Some grip)) a) (ap (λ (x : Slip). x.maker) (sym same) ∙ by.maker) ∙ put_same_place s.grips r (Some grip) (slice_get_within s.grips r None by.free);
          own = same;
          number = ap (λ (x : Slip). x.device.0) (sym same) ∙ sym number;
        }

    others : (d : ℕ) (slip : Slip) (task : Task) → slice_get s.hub.places d ≡ Some (Out slip task) → IsInHand t d slip
    others d slip task at =
        let hand = kept.out d slip task at in
        let other : slip.maker ≢ r = λ same. absurd (let both : ◌≡◌ {A = Option (Option (Gripped D Ready))} (Some None) (Some (Some hand.grip)) = sym by.free ∙ ap (slice_get s.grips) (sym same) ∙ hand.there in cc) in
        record {
          grip = hand.grip;
          there = ap (λ l. slice_get l slip.maker) by.grips ∙ put_other_place s.grips r slip.maker (Some grip) other ∙ hand.there;
          own = hand.own;
          number = hand.number;
        }

-- the devices' plans stay
pub takes_plans : {D : Type 0} (shows : D → Shown) (plans : ℕ → Plan) (s t : PlayerState D) (r : ℕ) (grip : Gripped D Ready) → Takes s t r grip → HavePlans shows plans s → HavePlans shows plans t
takes_plans {D = D} shows plans s t r grip by have d device (inl home) = elim (taken_place s t r d grip by) [
  | inl p ↦ absurd (home_or_out (slice_get t.hub.places d) device grip.slip grip.task home p.1)
  | inr q ↦ have d device (inl (sym q.1 ∙ home))
]
takes_plans {D = D} shows plans s t r grip by have d device (inr hand) = elim (taken_grip s t r hand.0 grip hand.1 by hand.2) [
  | inl p ↦ have d device (inl (ap (λ e. slice_get s.hub.places e) (sym hand.3 ∙ ap (λ (x : Gripped D Ready). x.slip.device.0) p.1) ∙ by.home ∙ ap (λ x. Some (Home x)) (ap (λ (x : Gripped D Ready). x.device) (sym p.1) ∙ hand.4)))
  | inr q ↦ have d device (inr (hand.0, hand.1, q.1, hand.3, hand.4))
]

-- a grip that comes back from the hand of its maker, with the device whose call was made
pub record Gives {D : Type 0} (s t : PlayerState D) (a : ℕ) (grip : Gripped D Ready) (device : D) : Type 0 where
  pub hand : slice_get s.grips a ≡ Some (Some grip)
  pub places : t.hub.places ≡ slice_set s.hub.places grip.slip.device.0 (Home device)
  pub grips : t.grips ≡ slice_set s.grips a None
  pub setting : t.hub.setting ≡ s.hub.setting
  pub rounds : t.rounds ≡ s.rounds
  pub early : t.hub.moment ≤ 2 ^ 32 * length t.hub.history
  pub place : t.place ≡ s.place

given_grip : {D : Type 0} (s t : PlayerState D) (a b : ℕ) (grip x : Gripped D Ready) (device : D) → Gives s t a grip device → slice_get t.grips b ≡ Some (Some x) → (b ≢ a) × (slice_get s.grips b ≡ Some (Some x))
given_grip {D = D} s t a b grip x device by at =
    let there : slice_get (slice_set s.grips a None) b ≡ Some (Some x) = ap (λ l. slice_get l b) (sym by.grips) ∙ at in
    elim (get_set s.grips a b None (slice_get_within s.grips a (Some grip) by.hand)) [
      | inl p ↦ absurd (let both : ◌≡◌ {A = Option (Option (Gripped D Ready))} (Some (Some x)) (Some None) = sym there ∙ p.1 in cc)
      | inr q ↦ (q.0, sym q.1 ∙ there)
    ]

given_place : {D : Type 0} (s t : PlayerState D) (a d : ℕ) (grip : Gripped D Ready) (device : D) → Gives s t a grip device → PlayerIsKept s
    → ((d ≡ grip.slip.device.0) × (slice_get t.hub.places d ≡ Some (Home device))) ⊎ ((d ≢ grip.slip.device.0) × (slice_get t.hub.places d ≡ slice_get s.hub.places d))
given_place s t a d grip device by kept =
    elim (get_set s.hub.places grip.slip.device.0 d (Home device) (slice_get_within s.hub.places grip.slip.device.0 (Out grip.slip grip.task) (kept.held a grip by.hand))) [
      | inl p ↦ inl (p.0, ap (λ l. slice_get l d) by.places ∙ p.1)
      | inr q ↦ inr (q.0, ap (λ l. slice_get l d) by.places ∙ q.1)
    ]

pub gives_keeps : {D : Type 0} (s t : PlayerState D) (a : ℕ) (grip : Gripped D Ready) (device : D) → Gives s t a grip device → PlayerIsKept s → PlayerIsKept t
gives_keeps {D = D} s t a grip device by kept = record {
  actors = ap length by.grips ∙ put_length s.grips a None ∙ kept.actors ∙ ap (λ w. length w.runs + 1) (sym by.setting);
  makers = λ b x at. kept.makers b x (given_grip s t a b grip x device by at).1;
  held = λ b x at. let there = given_grip s t a b grip x device by at in still b x there.0 there.1;
  out = λ d slip task at. elim (given_place s t a d grip device by kept) [
    | inl p ↦ absurd (home_or_out (slice_get t.hub.places d) device slip task p.1 at)
    | inr q ↦ others d slip task q.0 (sym q.1 ∙ at)
  ];
  early = by.early;
  rounds = subst (λ n. n < 2 ^ 32) (sym by.rounds) kept.rounds;
  place = subst (λ n. n ≤ t.rounds * length t.hub.setting.first) (sym by.place) (subst (λ n. s.place ≤ n * length t.hub.setting.first) (sym by.rounds) (subst (λ w. s.place ≤ s.rounds * length w.first) (sym by.setting) kept.place));
}
  where
    still : (b : ℕ) (x : Gripped D Ready) → b ≢ a → slice_get s.grips b ≡ Some (Some x) → slice_get t.hub.places x.slip.device.0 ≡ Some (Out x.slip x.task)
    still b x other at = elim (given_place s t a x.slip.device.0 grip device by kept) [
      | inl p ↦ absurd (
          let mine = kept.held a grip by.hand in
          let his = ap (λ d. slice_get s.hub.places d) (sym p.0) ∙ kept.held b x at in
          let same : x.slip ≡ grip.slip = same_out x.slip grip.slip x.task grip.task (slice_get s.hub.places grip.slip.device.0) his mine in
          other (sym (kept.makers b x at) ∙ ap (λ (y : Slip). y.maker) same ∙ kept.makers a grip by.hand))
      | inr q ↦ q.1 ∙ kept.held b x at
    ]

    others : (d : ℕ) (slip : Slip) (task : Task) → d ≢ grip.slip.device.0 → slice_get s.hub.places d ≡ Some (Out slip task) → IsInHand t d slip
    others d slip task away at =
        let hand = kept.out d slip task at in
        let other : slip.maker ≢ a = λ same. absurd (
        let both : ◌≡◌ {A = Option (Option (Gripped D Ready))} (Some (Some grip)) (Some (Some hand.grip)) = sym by.hand ∙ ap (slice_get s.grips) (sym same) ∙ hand.there in
        let one : grip ≡ hand.grip = cc in
        away (sym hand.number ∙ ap (λ (x : Slip). x.device.0) (sym hand.own) ∙ ap (λ (x : Gripped D Ready). x.slip.device.0) (sym one))) in
        record {
          grip = hand.grip;
          there = ap (λ l. slice_get l slip.maker) by.grips ∙ put_other_place s.grips a slip.maker None other ∙ hand.there;
          own = hand.own;
          number = hand.number;
        }

-- the devices' plans stay, where the device that comes back has the plan that it had
pub gives_plans : {D : Type 0} (shows : D → Shown) (plans : ℕ → Plan) (s t : PlayerState D) (a : ℕ) (grip : Gripped D Ready) (device : D) → Gives s t a grip device → PlayerIsKept s → (shows device).plan ≡ (shows grip.device).plan → HavePlans shows plans s → HavePlans shows plans t
gives_plans {D = D} shows plans s t a grip device by kept same have d x (inl home) = elim (given_place s t a d grip device by kept) [
  | inl p ↦ (let both : ◌≡◌ {A = Option (Place D)} (Some (Home x)) (Some (Home device)) = sym home ∙ p.1 in
      let one : x ≡ device = cc in
      ap (λ device. (shows device).plan) one ∙ same ∙ have d grip.device (inr (a, grip, by.hand, sym p.0, refl)))
  | inr q ↦ have d x (inl (sym q.1 ∙ home))
]
gives_plans {D = D} shows plans s t a grip device by kept same have d x (inr hand) =
    have d x (inr (hand.0, hand.1, (given_grip s t a hand.0 grip hand.1 device by hand.2).1, hand.3, hand.4))

-- the same player at another moment, and with the detector at another place
pub record Moves {D : Type 0} (s t : PlayerState D) : Type 0 where
  pub places : t.hub.places ≡ s.hub.places
  pub grips : t.grips ≡ s.grips
  pub setting : t.hub.setting ≡ s.hub.setting
  pub rounds : t.rounds ≡ s.rounds
  pub early : t.hub.moment ≤ 2 ^ 32 * length t.hub.history
  pub place : t.place ≤ t.rounds * length t.hub.setting.first

pub moves_keeps : {D : Type 0} (s t : PlayerState D) → Moves s t → PlayerIsKept s → PlayerIsKept t
moves_keeps s t by kept = record {
  actors = ap length by.grips ∙ kept.actors ∙ ap (λ w. length w.runs + 1) (sym by.setting);
  makers = λ a x at. kept.makers a x (ap (λ l. slice_get l a) (sym by.grips) ∙ at);
  held = λ a x at. ap (λ l. slice_get l x.slip.device.0) by.places ∙ kept.held a x (ap (λ l. slice_get l a) (sym by.grips) ∙ at);
  out = λ d slip task at. let hand = kept.out d slip task (ap (λ l. slice_get l d) (sym by.places) ∙ at) in
      record { grip = hand.grip; there = ap (λ l. slice_get l slip.maker) by.grips ∙ hand.there; own = hand.own; number = hand.number };
  early = by.early;
  rounds = subst (λ n. n < 2 ^ 32) (sym by.rounds) kept.rounds;
  place = by.place;
}

pub moves_plans : {D : Type 0} (shows : D → Shown) (plans : ℕ → Plan) (s t : PlayerState D) → Moves s t → HavePlans shows plans s → HavePlans shows plans t
moves_plans shows plans s t by have d x (inl home) = have d x (inl (ap (λ l. slice_get l d) (sym by.places) ∙ home))
moves_plans shows plans s t by have d x (inr hand) = have d x (inr (hand.0, hand.1, ap (λ l. slice_get l hand.0) (sym by.grips) ∙ hand.2, hand.3, hand.4))
