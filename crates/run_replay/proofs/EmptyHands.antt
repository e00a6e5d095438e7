-- Where each device is home no hand holds a grip.
use Rattle.device_gate.proofs.Cited.{none_out}
use Rattle.device_gate.specs.Places.{all_home}
use Rattle.run_replay.proofs.Prelude.{HoldNothing, List, None, Option, PlayerIsKept, PlayerState, Some, [], ap, refl, slice_get, suc, sym, zero, ◌++◌, ◌∙◌, ◌∷◌, ◌≡◌}

no_hands : {A : Type 0} → HoldNothing {A = A} []
no_hands a x at = absurd (cc)

-- one empty hand more
pub more_hands : {A : Type 0} (hands : List (Option A)) → HoldNothing hands → HoldNothing (hands ++ None ∷ [])
more_hands [] none zero x at = absurd (cc)
more_hands [] none (suc a) x at = absurd (cc)
more_hands (h ∷ hands) none zero x at = none zero x at
more_hands (h ∷ hands) none (suc a) x at = more_hands hands (λ b y there. none (suc b) y there) a x at

-- the hands in front of others
pub front_hands : {A : Type 0} (hands others : List (Option A)) → HoldNothing (hands ++ others) → HoldNothing hands
front_hands [] others none a x at = absurd (cc)
front_hands (h ∷ hands) others none zero x at = none zero x at
front_hands (h ∷ hands) others none (suc a) x at = front_hands hands others (λ b y there. none (suc b) y there) a x at

-- .. and the hand behind them
pub last_hand : {A : Type 0} (hands : List (Option A)) (x : A) → HoldNothing (hands ++ Some x ∷ []) → ⊥
last_hand [] x none = none 0 x refl
last_hand (h ∷ hands) x none = last_hand hands x (λ b y there. none (suc b) y there)

-- where each device is home
pub hands_at_close : {D : Type 0} (s : PlayerState D) (devices : List D) → PlayerIsKept s → s.hub.places ≡ all_home devices → HoldNothing s.grips
hands_at_close s devices kept home a grip at = none_out devices grip.slip.device.0 grip.slip grip.task (ap (λ l. slice_get l grip.slip.device.0) (sym home) ∙ kept.held a grip at)
