-- Where a device stands.
use Rattle.device_order.proofs.Answers.{call_blocks}
use Rattle.device_order.proofs.Claims.{effect}
use Rattle.device_order.proofs.Effects.{out_free}
use Rattle.device_order.proofs.Parts.{Cut, cut, put}
use Rattle.device_order.proofs.Suffix.{Idle}
use Rattle.device_order.proofs.Undos.{undone}
use Rattle.device_order.proofs.Prelude.{Asks, Bool, DeviceFits, DeviceInvariant, DeviceRecord, Home, List, None, OrderEntry, Probe, Restores, StandsAt, Undo, Unprobed, Usage, Used, WalkHolds, WalkState, after_usage, arith, common_steps, holds_command, refl, subst, sym, true, value_in_effect, walk_end, walk_start, ℕ, ◌++◌, ◌∙◌, ◌∷◌, ◌≡◌}

home_stands : (e : WalkState) (up : Bool) (held : ℕ) (p : Probe) → e.out ≡ Home → p ≡ Unprobed → up ≡ true → DeviceFits e up held p → held ≡ e.stand
home_stands e up held p o n u x = grind (arith, common_steps)

asked_stands : (e : WalkState) (up : Bool) (held : ℕ) (p : Probe) → p ≡ Asks → DeviceFits e up held p → held ≡ e.stand
asked_stands e up held p n x = grind (arith, common_steps)

restored_stands : (e : WalkState) (up : Bool) (held : ℕ) (p : Probe) (v : ℕ) → p ≡ Restores v → DeviceFits e up held p → v ≡ e.stand
restored_stands e up held p v n x = grind (arith, common_steps)

called_stands : (s e : WalkState) (u : Usage) (up : Bool) (held : ℕ) (p : Probe) → holds_command u.grip ≡ true → Idle (after_usage s u) e → DeviceFits e up held p → held ≡ e.stand
called_stands s e u up held p g j x = grind (arith, common_steps)

undone_stands : (e : WalkState) (up : Bool) (held : ℕ) (p : Probe) (v : ℕ) → e.out ≡ Undo v → DeviceFits e up held p → v ≡ e.stand
undone_stands e up held p v o x = grind (arith, common_steps)

-- the device stands at its standing value, and each drive that is out drives that
pub stands : (d : DeviceRecord) → DeviceInvariant d → StandsAt d (value_in_effect d)
stands d i = record {
  home = λ h u. home_stands e d.up d.held d.probe (out_free z d.order h.free) h.unprobed u i.ends ∙ same;
  asked = λ p. asked_stands e d.up d.held d.probe p i.ends ∙ same;
  restored = λ v p. restored_stands e d.up d.held d.probe v p i.ends ∙ same;
  called = λ a b u at g. called_stands (walk_end z a) e u d.up d.held d.probe g (idle a b u at g) i.ends ∙ same;
  undone = λ a b u v at g. undone_stands e d.up d.held d.probe v (subst (λ l. (walk_end z l).out ≡ Undo v) (sym at) ((undone z a u b v (cut_at a b u at) g).out v g)) i.ends ∙ same;
}
  where
    z : WalkState
    z = walk_start d.first_up d.first

    e : WalkState
    e = walk_end (walk_start d.first_up d.first) d.order

    same : (walk_end (walk_start d.first_up d.first) d.order).stand ≡ value_in_effect d
    same = (effect (walk_start d.first_up d.first) d.first None d.order (record { stand = refl; settled = refl })).stand

    cut_at : (a b : List OrderEntry) (u : Usage) → d.order ≡ a ++ Used u ∷ b → Cut (walk_start d.first_up d.first) a u b
    cut_at a b u at = cut (walk_start d.first_up d.first) a u b (subst (λ l. WalkHolds (walk_start d.first_up d.first) l) at i.walk)

    idle : (a b : List OrderEntry) (u : Usage) → d.order ≡ a ++ Used u ∷ b → holds_command u.grip ≡ true → Idle (after_usage (walk_end (walk_start d.first_up d.first) a) u) (walk_end (walk_start d.first_up d.first) d.order)
    idle a b u at g =
        let k : Cut (walk_start d.first_up d.first) a u b = cut_at a b u at in
        subst (λ l. Idle (after_usage (walk_end (walk_start d.first_up d.first) a) u) (walk_end (walk_start d.first_up d.first) l)) (sym at)
        (put (walk_start d.first_up d.first) a u u b k (call_blocks (walk_end (walk_start d.first_up d.first) a) u g) k.fits (λ h. h)).idle
