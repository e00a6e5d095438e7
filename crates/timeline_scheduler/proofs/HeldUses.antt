-- The uses of the devices of a run's commands, as the scratch takes them in command after command.
use Rattle.timeline_scheduler.proofs.Prelude.{Bool, Command, HoldsTimes, List, None, Option, Planned, Slot, Some, among_more, ap, arith, differ, eqb-true, false, get_or, get_or-set_other, get_or-set_same, if◌then◌else◌, is_among, is_on, length, length-set, list_any, option_map, planned_end, planned_in, planned_start, planned_use, refl, set, slice_get, subst, sym, take_all, true, use_between, ℕ, ◌+◌, ◌<◌, ◌==◌, ◌||◌, ◌∙◌, ◌≡◌, ◌≤◌}
use Rattle.history_book.specs.declared.planned_uses.PlannedUse.{PlannedUse}
use Rattle.std.proofs.Math.Bool.{or-false}
use Rattle.std.proofs.lemmas.Option.{slice_get-get_or}

-- on the devices of the first so many commands the uses are these
pub record AreSetTo (k : ℕ) (commands : List Command) (value : ℕ → Option PlannedUse) (uses : List (Option PlannedUse)) : Type 0 where
  pub size : length uses ≡ 256
  pub each : (d : ℕ) → is_among d k commands ≡ true → (d < 256) × (get_or uses d None ≡ value d)

-- one command more
pub sets_next : (k : ℕ) (commands : List Command) (value : ℕ → Option PlannedUse) (uses : List (Option PlannedUse)) (e : Command) → AreSetTo k commands value uses → k < length commands → (get_or commands k e).device.0 < 256
    → AreSetTo (k + 1) commands value (set uses (get_or commands k e).device.0 (value (get_or commands k e).device.0))
sets_next k commands value uses e held within there = record { size = length-set uses c.device.0 (value c.device.0) ∙ held.size; each = λ d on. each_at d on (c.device.0 == d) refl }
  where
    c : Command
    c = get_or commands k e

    among : (d : ℕ) → (c.device.0 == d) ≡ false → is_among d (k + 1) commands ≡ is_among d k commands
    among d h = among_more d k commands e within ∙ ap (λ x. is_among d k commands || x) h ∙ or-false (is_among d k commands)

    each_at : (d : ℕ) → is_among d (k + 1) commands ≡ true → (b : Bool) → (c.device.0 == d) ≡ b → (d < 256) × (get_or (set uses c.device.0 (value c.device.0)) d None ≡ value d)
    each_at d on true h = (
      subst (λ x. x < 256) (eqb-true c.device.0 d h) there,
      ap (λ x. get_or (set uses c.device.0 (value c.device.0)) x None) (sym (eqb-true c.device.0 d h))
          ∙ get_or-set_same uses c.device.0 (value c.device.0) None (omega (arith, there, held.size))
          ∙ ap value (eqb-true c.device.0 d h),
    )
    each_at d on false h =
        let before = held.each d (sym (among d h) ∙ on) in
        (before.0, get_or-set_other uses c.device.0 d (value c.device.0) None (differ c.device.0 d h) ∙ before.1)

-- after all of them
pub sets_all : (k : ℕ) (commands : List Command) (value : ℕ → Option PlannedUse) (uses : List (Option PlannedUse)) → AreSetTo k commands value uses → length commands ≤ k → (d : ℕ) → list_any (is_on d) commands ≡ true → slice_get uses d ≡ Some (value d)
sets_all k commands value uses held all d on =
    let found = held.each d (ap (list_any (is_on d)) (take_all k commands all) ∙ on) in
    slice_get-get_or uses d None (let few = found.0 in let size = held.size in omega (arith, few, size)) ∙ ap (λ u. Some u) found.1

-- what the scratch holds for a plan of the commands is their use of a device in it
pub held_is_planned : (commands : List Command) (slots : List Slot) (planned : List Planned) (d : ℕ) → HoldsTimes slots planned → list_any (λ p. p.device == d) planned ≡ list_any (is_on d) commands → list_any (is_on d) commands ≡ true
    → option_map use_between (planned_in slots d) ≡ planned_use planned d
held_is_planned commands slots planned d holds there on = ap (λ o. option_map use_between o) (holds d) ∙ by_entry (list_any (λ p. p.device == d) planned)
  where
    by_entry : (b : Bool) → option_map use_between (if b then Some (planned_start planned d, planned_end planned d) else None) ≡ (if b then Some (record { from = planned_start planned d; to = planned_end planned d }) else None)
    by_entry true = refl
    by_entry false = refl
