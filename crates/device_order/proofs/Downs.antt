-- A command is answered Down with no call.
use Rattle.device_order.proofs.Answers.{tidy_front, waits_up}
use Rattle.device_order.proofs.Below.{Below}
use Rattle.device_order.proofs.Commands.{home_front, shut_front, open_blocks}
use Rattle.device_order.proofs.Effects.{Tidy, Alike}
use Rattle.device_order.proofs.Lists.{has_back, has_head}
use Rattle.device_order.proofs.Monotone.{lowered}
use Rattle.device_order.proofs.Parts.{Cut, cut, Put, put}
use Rattle.device_order.proofs.Suffix.{Idle}
use Rattle.device_order.proofs.Prelude.{Bool, DeviceFits, DeviceInvariant, DeviceRecord, Home, IsAnswered, List, NothingIsOut, OrderEntry, Pending, Probe, RunStage, Some, Unprobed, Usage, UsageFits, Used, WalkHolds, WalkState, after_usage, arith, awaits_first, common_steps, false, has, has_pending, holds_grip, is_up, refl, stage_is_open, subst, sym, true, walk_end, walk_start, ℕ, ◌&&◌, ◌++◌, ◌∙◌, ◌∷◌, ◌≡◌}
use Rattle.home_types.specs.declared.commands.View.TheVariants.{Down}

-- a command is answered Down with no call

again_fits : (s : WalkState) (c : Usage) (st : RunStage) → c.stage ≡ Pending → c.view ≡ Some Down → IsAnswered c.stage st → UsageFits s c → UsageFits s (record c { stage = st })
again_fits s c st p v l f = grind (arith, common_steps)

again_below : (s : WalkState) (c : Usage) (st : RunStage) → c.stage ≡ Pending → c.view ≡ Some Down → IsAnswered c.stage st → UsageFits s c → Below (after_usage s c) (after_usage s (record c { stage = st }))
again_below s c st p v l f = grind (arith, common_steps)

again_alike : (s : WalkState) (c : Usage) (st : RunStage) → c.stage ≡ Pending → c.view ≡ Some Down → IsAnswered c.stage st → UsageFits s c → Alike (after_usage s c) (after_usage s (record c { stage = st }))
again_alike s c st p v l f = grind (arith, common_steps)

pub down_again : (d : DeviceRecord) (a b : List OrderEntry) (c : Usage) (st : RunStage) → d.order ≡ a ++ Used c ∷ b → c.stage ≡ Pending → c.view ≡ Some Down → IsAnswered c.stage st → DeviceInvariant d
    → DeviceInvariant (record d { order = a ++ Used (record c { stage = st }) ∷ b })
down_again d a b c st at p v l i = lowered d a b c (record c { stage = st }) at i (λ s. again_fits s c st p v l) (λ s. again_below s c st p v l) (λ s. again_alike s c st p v l)

not_up : (s e : WalkState) (c : Usage) (held : ℕ) (p : Probe) → c.stage ≡ Pending → Idle (after_usage s c) e → DeviceFits e false held p → is_up c.view ≡ false
not_up s e c held p n i x = grind (arith, common_steps)

first_fits : (s : WalkState) (c : Usage) (st : RunStage) → c.stage ≡ Pending → holds_grip c ≡ false → is_up c.view ≡ false → s.up ≡ false → s.opened ≡ false → s.out ≡ Home → IsAnswered c.stage st → UsageFits s c
    → UsageFits s (record c { stage = st; view = Some Down })
first_fits s c st p n v u o h l f = grind (arith, common_steps)

first_ends : (s e e' : WalkState) (c : Usage) (st : RunStage) (held : ℕ) → holds_grip c ≡ false → s.out ≡ Home → s.opened ≡ false → Tidy s
    → Idle (after_usage s (record c { stage = st; view = Some Down })) e' → e'.up ≡ e.up → DeviceFits e false held Unprobed → DeviceFits e' false held Unprobed
first_ends s e e' c st held n h o t j u x = grind (arith, common_steps)

pub down_first : (d : DeviceRecord) (a b : List OrderEntry) (c : Usage) (st : RunStage) → d.order ≡ a ++ Used c ∷ b → c.stage ≡ Pending → NothingIsOut d → d.up ≡ false → has has_pending a ≡ false → IsAnswered c.stage st → DeviceInvariant d
    → DeviceInvariant (record d { order = a ++ Used (record c { stage = st; view = Some Down }) ∷ b })
down_first d a b c st at p home down o l i =
    let z : WalkState = walk_start d.first_up d.first in
    let c' : Usage = record c { stage = st; view = Some Down } in
    let k : Cut z a c b = cut z a c b (subst (λ x. WalkHolds z x) at i.walk) in
    let e : DeviceFits (walk_end z (a ++ Used c ∷ b)) false d.held Unprobed = subst (λ x. DeviceFits (walk_end z (a ++ Used c ∷ b)) x d.held Unprobed) down
    (subst (λ x. DeviceFits (walk_end z (a ++ Used c ∷ b)) d.up d.held x) home.unprobed
    (subst (λ x. DeviceFits (walk_end z x) d.up d.held d.probe) at i.ends)) in
    let old : Put z a c c b = put z a c c b k (open_blocks (walk_end z a) c p) k.fits (λ h. h) in
    let nu : is_up c.view ≡ false = not_up (walk_end z a) (walk_end z (a ++ Used c ∷ b)) c d.held Unprobed p old.idle e in
    let free : holds_grip c ≡ false = has_head holds_grip c b (has_back holds_grip a (Used c ∷ b) (subst (λ y. has holds_grip y ≡ false) at home.free)) in
    let out : (walk_end z a).out ≡ Home = home_front d a (Used c ∷ b) at home in
    let m : Put z a c c' b = put z a c c' b k (open_blocks (walk_end z a) c p) (first_fits (walk_end z a) c st p free nu (stood k nu e.same (awaits_first c) refl) (shut_front d a o) out l k.fits) (λ h. absurd (none st h)) in
    record {
      walk = m.walk;
      ends = subst (λ x. DeviceFits (walk_end z (a ++ Used c' ∷ b)) x d.held d.probe) (sym down) (subst (λ x. DeviceFits (walk_end z (a ++ Used c' ∷ b)) false d.held x) (sym home.unprobed)
          (first_ends (walk_end z a) (walk_end z (a ++ Used c ∷ b)) (walk_end z (a ++ Used c' ∷ b)) c st d.held free out (shut_front d a o) (tidy_front d.first_up d.first a k.front) m.idle' m.up e));
    }
  where
    none : (st : RunStage) → (stage_is_open st && false) ≡ true → ⊥
    none st h = grind (arith, common_steps)

    down_at : (s : WalkState) (c : Usage) → c.stage ≡ Pending → UsageFits s c → is_up c.view ≡ false → awaits_first c ≡ false → s.up ≡ false
    down_at s c p f v w = grind (arith, common_steps)

    stood : Cut (walk_start d.first_up d.first) a c b → is_up c.view ≡ false → (walk_end (walk_start d.first_up d.first) (a ++ Used c ∷ b)).up ≡ false → (x : Bool) → awaits_first c ≡ x → (walk_end (walk_start d.first_up d.first) a).up ≡ false
    stood k v u true w = sym (waits_up (walk_start d.first_up d.first) a c b k w) ∙ u
    stood k v u false w = down_at (walk_end (walk_start d.first_up d.first) a) c p k.fits v w
