-- A revocation that a step makes is justified by the history, whatever grips are out.
use Rattle.hub_core.proofs.Prelude.{Command, Grips, Point, Reading, Revoked, Setting, Some, arith, common_steps, false, find_same, has_effect, holds, if◌then◌else◌, is_doomed, is_live, is_overdue, lease_deadline, live_before, nat_lt, next_command, no_grips, not, overdue_for, pends, point, refl, run_no, shows, stamp_of, sym, touches, true, ℕ, ◌&&◌, ◌∙◌, ◌≡◌}

overdue_any_grips : (w : Setting) (n : Reading) (g g' : Grips) (r d m x : ℕ) → is_overdue (point w n g) r d m x ≡ is_overdue (point w n g') r d m x
overdue_any_grips w n g g' r d m x = elim (is_doomed n x) as (λ b.
    (not b && nat_lt (stamp_of n r) (stamp_of n x) && (is_live n x && (if b then touches w.runs x d && has_effect n g x d else pends w n x d)) && nat_lt (lease_deadline w n x d) m)
    ≡ (not b && nat_lt (stamp_of n r) (stamp_of n x) && (is_live n x && (if b then touches w.runs x d && has_effect n g' x d else pends w n x d)) && nat_lt (lease_deadline w n x d) m)) [
      | true ↦ refl
      | false ↦ refl
    ]

pub overdue_without_grips : (p : Point) (r d m : ℕ) → overdue_for p r d m ≡ overdue_for (point p.setting p.reading no_grips) r d m
overdue_without_grips p r d m = find_same (is_overdue p r d m) (is_overdue (point p.setting p.reading no_grips) r d m) (live_before p.reading r) (overdue_any_grips p.setting p.reading p.grips no_grips r d m)

pub revocation_is_shown : (p : Point) (r m x : ℕ) (c : Command) → is_live p.reading r ≡ true → next_command p.setting p.reading r ≡ Some c → holds c.when (p.reading.run r).register ≡ true → overdue_for p r c.device.0 m ≡ Some x
    → shows p.setting p.reading x (Revoked (run_no r) c.device (lease_deadline p.setting p.reading x c.device.0) m) ≡ true
revocation_is_shown p r m x c live next guard found =
    let without : overdue_for (point p.setting p.reading no_grips) r c.device.0 m ≡ Some x = sym (overdue_without_grips p r c.device.0 m) ∙ found in
    rw (live, next, guard, without) (grind (arith, common_steps))
