-- What a placing makes of a lineage table is what the plan of the run says.
use Rattle.hub_core.proofs.Prelude.{Bool, ChangesEach, Item, LineageState, List, None, Option, Planned, Run, Some, ap, false, first_with_access, get_or, get_or_from_slice_get, if◌then◌else◌, lineage_at, list_any, planned_end, planned_start, refl, rescheduled, scheduled, scheduled_on, scheduled_so, scheduled_with, touches, true, waiting_access, ℕ, ◌==◌, ◌∙◌, ◌≡◌}
use Rattle.history_book.specs.declared.planned_uses.PlannedUse.{PlannedUse}
use Rattle.timeline_scheduler.specs.PlannedUses.{AreUsesOf, planned_use}

-- Uses that a scratch holds

-- Uses and plans

-- where these are the uses in the plan of the run, it is scheduled as it is planned
pub scheduled_as_planned : (runs : List Run) (r : ℕ) (uses : List (Option PlannedUse)) (planned : List Planned) (back : List Item) (old new : List LineageState) → AreUsesOf runs r uses planned → ((d : ℕ) → list_any (λ p. p.device == d) planned ≡ touches runs r d)
    → ChangesEach (scheduled_with runs r uses back) old new → ChangesEach (scheduled_on runs r planned back) old new
scheduled_as_planned runs r uses planned back old new are there changes = record { devices = changes.devices; each = λ d lt. changes.each d lt ∙ by_touch d (touches runs r d) refl }
  where
    use_is : (d : ℕ) → touches runs r d ≡ true → get_or uses d None ≡ Some (record { from = planned_start planned d; to = planned_end planned d })
    use_is d on = get_or_from_slice_get uses d (planned_use planned d) None (are d on) ∙ (λ i. if (there d ∙ on) i then Some (record { from = planned_start planned d; to = planned_end planned d }) else None)

    by_touch : (d : ℕ) → (b : Bool) → touches runs r d ≡ b → (if b then scheduled_so r back (get_or uses d None) (lineage_at old d) else lineage_at old d)
        ≡ (if b then scheduled (first_with_access (lineage_at old d).accesses back) (waiting_access r planned d) (rescheduled (first_with_access (lineage_at old d).accesses back) (lineage_at old d)) else lineage_at old d)
    by_touch d true on = ap (λ o. scheduled_so r back o (lineage_at old d)) (use_is d on)
    by_touch d false on = refl

-- The first run behind a place
