-- Whose grip is out, as the configuration tells it and as the actors' hands do.
use Rattle.run_replay.proofs.Prelude.{Bool, Gripped, Home, None, Option, Out, Place, PlayerIsKept, PlayerState, Purpose, Ready, Slip, Some, ap, arith, common_steps, configuration_of, false, grip_in, gripped, has_grip, length, none_found, option_map, play_of, progress_at, refl, slice_get, slice_get_within, sym, true, unwrap_or, ℕ, ◌+◌, ◌<◌, ◌==◌, ◌∙◌, ◌≡◌}
use Rattle.run_replay.proofs.Settings.{find_only}

-- the device in this place is out with a grip of the actor
in_place : {D : Type 0} (o : Option (Place D)) (purpose : Purpose) (a : ℕ) → unwrap_or (option_map (λ p. p.maker == a) (grip_in o purpose)) false ≡ true → (slip : Slip) × (task : _) × (o ≡ Some (Out slip task)) × (slip.maker ≡ a)
in_place None purpose a e = absurd (cc)
in_place (Some (Home device)) purpose a e = absurd (cc)
in_place (Some (Out slip task)) purpose a e = (slip, task, refl, grind (arith, common_steps))

is_or_not : (b : Bool) → (b ≡ true → ⊥) → b ≡ false
is_or_not true no' = absurd (no' refl)
is_or_not false no' = refl

-- an actor with nothing in its hand holds no grip
pub empty_hand : {D : Type 0} (s : PlayerState D) (a acts : ℕ) → PlayerIsKept s → slice_get s.grips a ≡ Some None → gripped (play_of s acts) a ≡ None
empty_hand {D = D} s a acts kept free = none_found (has_grip (configuration_of s.hub).grips a) _ (λ d. is_or_not (has_grip (configuration_of s.hub).grips a d) (λ e.
    let out = in_place (slice_get s.hub.places d) (progress_at s.hub.devices d).purpose a e in
    let hand = kept.out d out.0 out.1 out.2 in
    absurd (let both : ◌≡◌ {A = Option (Option (Gripped D Ready))} (Some None) (Some (Some hand.grip)) = sym free ∙ ap (slice_get s.grips) (sym out.3) ∙ hand.there in cc)))

-- an actor with a grip in its hand holds the grip of that device
pub full_hand : {D : Type 0} (s : PlayerState D) (a acts : ℕ) (grip : Gripped D Ready) → PlayerIsKept s → length s.hub.places ≡ length s.hub.setting.first → slice_get s.grips a ≡ Some (Some grip) → gripped (play_of s acts) a ≡ Some grip.slip.device.0
full_hand {D = D} s a acts grip kept size hand = find_only (has_grip (configuration_of s.hub).grips a) 0 (length s.hub.setting.first) grip.slip.device.0 (omega arith) within holds only
  where
    there : slice_get s.hub.places grip.slip.device.0 ≡ Some (Out grip.slip grip.task)
    there = kept.held a grip hand

    within : grip.slip.device.0 < 0 + length s.hub.setting.first
    within = let low = slice_get_within s.hub.places grip.slip.device.0 (Out grip.slip grip.task) there in omega (arith, low, size)

    holds : has_grip (configuration_of s.hub).grips a grip.slip.device.0 ≡ true
    holds = let made = kept.makers a grip hand in ap (λ o. unwrap_or (option_map (λ p. p.maker == a) (grip_in o (progress_at s.hub.devices grip.slip.device.0).purpose)) false) there ∙ grind (arith, common_steps, made)

    only : (e : ℕ) → has_grip (configuration_of s.hub).grips a e ≡ true → e ≡ grip.slip.device.0
    only e is =
        let out = in_place (slice_get s.hub.places e) (progress_at s.hub.devices e).purpose a is in
        let mine = kept.out e out.0 out.1 out.2 in
        let both : ◌≡◌ {A = Option (Option (Gripped D Ready))} (Some (Some grip)) (Some (Some mine.grip)) = sym hand ∙ ap (slice_get s.grips) (sym out.3) ∙ mine.there in
        let one : grip ≡ mine.grip = cc in
        sym mine.number ∙ ap (λ (x : Slip). x.device.0) (sym mine.own) ∙ ap (λ (x : Gripped D Ready). x.slip.device.0) (sym one)
