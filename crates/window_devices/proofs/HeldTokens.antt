-- Of each run of a window, the device whose grip it holds, as devices go out and come home.
use Rattle.command_rules.specs.Rosters.{Run, is_run}
use Rattle.history_book.proofs.Cited.{put_other, put_same, run_place}
use Rattle.window_devices.proofs.Prelude.{Bool, Grip, Grips, List, None, Option, Purpose, Reading, Some, ap, arith, common_steps, eq-eqb, eqb-true, false, has_grip, if◌then◌else◌, inl, inr, length, length-replicate, length-set, lt-ltb, nat_lt, option_map, point, put, refl, replicate, same_Some, slice_get, slice_set, subst, suc, sym, true, unwrap_or, zero, ℕ, ⊤, ◌-◌, ◌<◌, ◌==◌, ◌∙◌, ◌≡◌, ◌≢◌}
use Rattle.history_book.specs.Settings.{Setting}
use Rattle.home_types.specs.declared.numbers.DeviceNo.{DeviceNo}
use Rattle.lock_leasing.specs.Places.{GripsFit}
use Rattle.lock_leasing.specs.Waits.{grip_wait}
use Rattle.window_devices.proofs.Finds.{find_first, find_none, find_same, none_does}
use Rattle.window_devices.proofs.SetPlaces.{get_set}
use Rattle.window_devices.specs.Checkouts.{HeldTokensAre, with_hand}

-- none is out
pub no_held_tokens : (w : Setting) (g : Grips) → ((d : ℕ) → g d ≡ None) → HeldTokensAre w g (replicate (length w.runs) None)
no_held_tokens w g none = record {
  size = length-replicate (length w.runs) None;
  each = λ i hand at. ap (λ o. option_map (λ (d : DeviceNo). d.0) o) (it (length w.runs) i hand at) ∙ sym (find_none (has_grip g (suc i)) 0 (length w.first) (λ y low high. ap (λ o. unwrap_or (option_map (λ p. p.maker == suc i) o) false) (none y)));
}
  where
    it : (n i : ℕ) (hand : Option DeviceNo) → slice_get (replicate n None) i ≡ Some hand → hand ≡ None
    it zero i hand at = absurd (cc)
    it (suc n) zero hand at = cc
    it (suc n) (suc i) hand at = it n i hand at

-- the grip is the run's, where there is one
abbrev pub IsOf : ℕ → Option Grip → Type 0
IsOf r None = ⊤
IsOf r (Some grip) = grip.maker ≡ r

not_of : (o : Option Grip) (q r : ℕ) → IsOf r o → q ≢ r → unwrap_or (option_map (λ p. p.maker == q) o) false ≡ false
not_of None q r own other = refl
not_of (Some grip) q r own other = differ grip.maker own
  where
    differ : (x : ℕ) → x ≡ r → (x == q) ≡ false
    differ x same = elim (x == q) as (λ b. (x == q) ≡ b → b ≡ false) [
      | true ↦ (λ h. absurd (other (sym (eqb-true x q h) ∙ same)))
      | false ↦ (λ h. refl)
    ] refl

-- another run holds what it held, where a grip of the run goes out or comes back
pub others_hold : (g : Grips) (r d : ℕ) (o : Option Grip) → IsOf r o → IsOf r (g d) → (q e : ℕ) → q ≢ r → has_grip (put g d o) q e ≡ has_grip g q e
others_hold g r d o own was q e other = elim (e == d) as (λ b. (e == d) ≡ b → unwrap_or (option_map (λ p. p.maker == q) (if b then o else g e)) false ≡ unwrap_or (option_map (λ p. p.maker == q) (g e)) false) [
  | true ↦ (λ h. not_of o q r own other ∙ sym (ap (λ x. unwrap_or (option_map (λ p. p.maker == q) (g x)) false) (eqb-true e d h) ∙ not_of (g d) q r was other))
  | false ↦ (λ h. refl)
] refl

-- the run's hand is set, and no other run's changes
hand_set : (w : Setting) (g f : Grips) (r : ℕ) (held_tokens : List (Option DeviceNo)) (hand : Option DeviceNo) → is_run w.runs r ≡ true → option_map (λ d. d.0) hand ≡ grip_wait w f r → ((q e : ℕ) → q ≢ r → has_grip f q e ≡ has_grip g q e)
    → HeldTokensAre w g held_tokens → HeldTokensAre w f (slice_set held_tokens (r - 1) hand)
hand_set w g f r held_tokens hand run is others k =
    let place = run_place w.runs r run in
    record {
      size = length-set held_tokens (r - 1) hand ∙ k.size;
      each = λ i x at. elim (get_set held_tokens (r - 1) i hand (omega (arith, place.1, k.size))) [
        | inl p ↦ ap (λ o. option_map (λ (d : DeviceNo). d.0) o) (same_Some x hand (sym at ∙ p.1)) ∙ is ∙ ap (grip_wait w f) (place.0 ∙ ap (λ n. suc n) (sym p.0))
        | inr p ↦ k.each i x (sym p.1 ∙ at) ∙ sym (find_same (has_grip f (suc i)) (has_grip g (suc i)) _ (λ e. others (suc i) e (λ is'. p.0 (omega (arith, is', place.0)))))
      ];
    }

-- a device goes out to a run that holds none
pub hand_goes : (w : Setting) (g f : Grips) (r : ℕ) (d : DeviceNo) (purpose : Purpose) (held_tokens after : List (Option DeviceNo)) → is_run w.runs r ≡ true
    → d.0 < length w.first → grip_wait w g r ≡ None → g d.0 ≡ None → f ≡ put g d.0 (Some (record { maker = r; purpose = purpose }))
    → after ≡ slice_set held_tokens (r - 1) (Some d)
    → HeldTokensAre w g held_tokens → HeldTokensAre w f after
hand_goes w g f r d purpose held_tokens after run within free home gone set k =
    subst (λ (x : Grips). HeldTokensAre w x after) (sym gone) (subst (HeldTokensAre w new) (sym set) (hand_set w g new r held_tokens (Some d) run (sym found) (λ q e other. others_hold g r d.0 (Some grip) refl (subst (IsOf r) (sym home) tt) q e other) k))
  where
    grip : Grip
    grip = record { maker = r; purpose = purpose }

    new : Grips
    new = put g d.0 (Some grip)

    found : grip_wait w new r ≡ Some d.0
    found = find_first (has_grip new r) 0 (length w.first) d.0 (omega arith) (omega (arith, within)) (ap (λ o. unwrap_or (option_map (λ p. p.maker == r) o) false) (put_same g d.0 (Some grip)) ∙ eq-eqb r r refl)
        (λ y before. ap (λ o. unwrap_or (option_map (λ p. p.maker == r) o) false) (put_other g d.0 (Some grip) y (λ same. absurd (omega (arith, same, before)))) ∙ none_does (has_grip g r) 0 (length w.first) free y (omega arith) (omega (arith, before, within)))

-- .. and comes back to one that holds no other
hand_comes : (w : Setting) (n : Reading) (g f : Grips) (r d : ℕ) (purpose : Purpose) (held_tokens after : List (Option DeviceNo)) → is_run w.runs r ≡ true → g d ≡ Some (record { maker = r; purpose = purpose }) → GripsFit (point w n g) → f ≡ put g d None → after ≡ slice_set held_tokens (r - 1) None
    → HeldTokensAre w g held_tokens → HeldTokensAre w f after
hand_comes w n g f r d purpose held_tokens after run out fit home set k =
    subst (λ (x : Grips). HeldTokensAre w x after) (sym home) (subst (HeldTokensAre w new) (sym set)
    (hand_set w g new r held_tokens None run (sym (find_none (has_grip new r) 0 (length w.first) (λ y low high. unheld y (y == d) (g y) refl refl)))
    (λ q e other. others_hold g r d None tt (subst (IsOf r) (sym out) refl) q e other) k))
  where
    new : Grips
    new = put g d None

    first : r ≡ suc (r - 1)
    first = (run_place w.runs r run).0

    apart : (y : ℕ) → (y == d) ≡ false → d ≡ y → ⊥
    apart y other same = grind (arith, common_steps)

    unheld : (y : ℕ) (here : Bool) (o : Option Grip) → (y == d) ≡ here → g y ≡ o → unwrap_or (option_map (λ p. p.maker == r) (if here then None else o)) false ≡ false
    unheld y true o here at = refl
    unheld y false None here at = refl
    unheld y false (Some x) here at = elim (x.maker == r) as (λ b. (x.maker == r) ≡ b → b ≡ false) [
      | true ↦ (λ own. absurd (apart y here (fit.runs.one d y (r - 1) purpose x.purpose (out ∙ ap (λ m. Some (record { maker = m; purpose = purpose })) first)
          (at ∙ ap (λ m. Some (record { maker = m; purpose = x.purpose })) (eqb-true x.maker r own ∙ first)))))
      | false ↦ (λ own. refl)
    ] refl

-- the grip of the detector is in no hand: one that goes out, ..
probe_held : (w : Setting) (g f : Grips) (held_tokens : List (Option DeviceNo)) → ((q e : ℕ) → q ≢ 0 → has_grip f q e ≡ has_grip g q e) → HeldTokensAre w g held_tokens → HeldTokensAre w f held_tokens
probe_held w g f held_tokens others k = record {
  size = k.size;
  each = λ i hand at. k.each i hand at ∙ sym (find_same (has_grip f (suc i)) (has_grip g (suc i)) _ (λ e. others (suc i) e (λ none. absurd (omega (arith, none)))));
}

pub probe_goes : (w : Setting) (g f : Grips) (d : ℕ) (purpose : Purpose) (held_tokens : List (Option DeviceNo)) → g d ≡ None → f ≡ put g d (Some (record { maker = 0; purpose = purpose })) → HeldTokensAre w g held_tokens → HeldTokensAre w f held_tokens
probe_goes w g f d purpose held_tokens home gone k =
    subst (λ (x : Grips). HeldTokensAre w x held_tokens) (sym gone) (probe_held w g (put g d (Some (record { maker = 0; purpose = purpose }))) held_tokens (others_hold g 0 d (Some (record { maker = 0; purpose = purpose })) refl (subst (IsOf 0) (sym home) tt)) k)

-- .. and one that comes back
probe_comes : (w : Setting) (g f : Grips) (d : ℕ) (purpose : Purpose) (held_tokens : List (Option DeviceNo)) → g d ≡ Some (record { maker = 0; purpose = purpose }) → f ≡ put g d None → HeldTokensAre w g held_tokens → HeldTokensAre w f held_tokens
probe_comes w g f d purpose held_tokens out home k = subst (λ (x : Grips). HeldTokensAre w x held_tokens) (sym home) (probe_held w g (put g d None) held_tokens (others_hold g 0 d None tt (subst (IsOf 0) (sym out) refl)) k)

-- whoever's grip it was
pub hands_come : (w : Setting) (n : Reading) (g : Grips) (maker d : ℕ) (purpose : Purpose) (held_tokens : List (Option DeviceNo))
    → (nat_lt 0 maker ≡ true → is_run w.runs maker ≡ true) → g d ≡ Some (record { maker = maker; purpose = purpose }) → GripsFit (point w n g) → HeldTokensAre w g held_tokens
    → HeldTokensAre w (put g d None) (with_hand held_tokens maker None)
hands_come w n g maker d purpose held_tokens run out fit k = elim (nat_lt 0 maker) as (λ b. nat_lt 0 maker ≡ b → HeldTokensAre w (put g d None) (if b then slice_set held_tokens (maker - 1) None else held_tokens)) [
  | true ↦ (λ some. hand_comes w n g (put g d None) maker d purpose held_tokens (slice_set held_tokens (maker - 1) None) (run some) out fit refl refl k)
  | false ↦ (λ none. let detector : maker ≡ 0 = grind (arith, common_steps) in probe_comes w g (put g d None) d purpose held_tokens (out ∙ ap (λ m. Some (record { maker = m; purpose = purpose })) detector) refl k)
] refl

-- a run is not the detector
pub run_above : (runs : List Run) (r : ℕ) → is_run runs r ≡ true → nat_lt 0 r ≡ true
run_above runs r run = let place = run_place runs r run in lt-ltb 0 r (omega (arith, place.0))

-- a run's hand
pub run_hand : (runs : List Run) (held_tokens : List (Option DeviceNo)) (r : ℕ) (hand : Option DeviceNo) → is_run runs r ≡ true → with_hand held_tokens r hand ≡ slice_set held_tokens (r - 1) hand
run_hand runs held_tokens r hand run = ap (λ b. if b then slice_set held_tokens (r - 1) hand else held_tokens) (run_above runs r run)
