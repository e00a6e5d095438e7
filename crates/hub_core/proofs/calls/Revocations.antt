-- A lease that is overdue is revoked: its run is doomed by the step of another one.
use Rattle.hub_core.proofs.Prelude.{ChangesEach, Configuration, DeviceNo, Doomed, Inside, IsWhole, Moves, Option, Revoked, RunNo, Shown, [], arith, choice_of, common_steps, configuration_of, doomed_unless, false, grip_wait, is_doomed, is_live, is_run, max, may_follow, open_of, option_map, read_in, read_of, refl, run_no, true, ℕ, ◌∷◌, ◌≡◌}
use Rattle.hub_core.proofs.calls.HubChanges.{Going, IsEntered, entered_whole, entries_kept}
use Rattle.hub_core.proofs.calls.HubOrders.{read_whole}
use Rattle.hub_core.proofs.calls.ProbesFound.{out_commands}
use Rattle.hub_core.proofs.kept.OrderSteps.{last_follows}
use Rattle.hub_core.proofs.kept.ProbeSteps.{order_lost}
use Rattle.hub_core.proofs.steps.Takes.{live_run}

-- the borrower is a live run of the window, and not doomed
pub record IsBorrowing (s : Configuration) (x : ℕ) : Type 0 where
  pub run : is_run s.setting.runs x ≡ true
  pub live : is_live (read_of s) x ≡ true
  pub sound : is_doomed (read_of s) x ≡ false

pub borrowing : {D : Type 0} {shows : D → Shown} (h : Inside D) (r m : ℕ) (x : RunNo) (d : DeviceNo) (deadline : ℕ)
    → choice_of (configuration_of (open_of h)) r m ≡ Moves (Doomed x (Revoked (run_no r) d deadline (max h.moment m)) ∷ [])
    → IsWhole shows h → IsBorrowing (configuration_of (open_of h)) x.0
borrowing h r m x d deadline is k =
    let may : may_follow h.history.setting (read_in h.history) (Doomed x (Revoked (run_no r) d deadline (max h.moment m)))
    ≡ true = last_follows h.history.setting h.history.history r (Doomed x (Revoked (run_no r) d deadline (max h.moment m)))
    (entries_kept _ (open_of h) r m _ Going is k.shown).configuration.history.well_formed in
    let live : is_live (read_in h.history) x.0 ≡ true = grind (arith, common_steps) in
    record { run = live_run h.history.setting (read_in h.history) x.0 (read_whole h k).shaped live; live = live; sound = grind (arith, common_steps) }

pub revokes_whole : {D : Type 0} {shows : D → Shown} (h t : Inside D) (r m : ℕ) (x : RunNo) (d : DeviceNo) (deadline : ℕ)
    (out : Option DeviceNo) → IsEntered h t r m (Doomed x (Revoked (run_no r) d deadline (max h.moment m)) ∷ []) Going
    → option_map (λ e. e.0) out ≡ grip_wait h.history.setting (configuration_of (open_of h)).grips x.0
    → t.order.line ≡ h.order.line → ChangesEach (doomed_unless out x.0) h.order.table t.order.table → IsWhole shows h → IsWhole shows t
revokes_whole h t r m x d deadline out enters hand line table k = entered_whole h t r m _ Going enters (λ formed.
    order_lost h.history _ (configuration_of (open_of h)).grips r x.0 (Revoked (run_no r) d deadline (max h.moment m)) out h.order.line t.order.line h.order.table t.order.table (read_whole h k) k.shown.configuration.grips borrows.sound
    (out_commands h.history.setting (read_in h.history) (configuration_of (open_of h)).grips x.0 out k.shown.configuration.grips borrows.run borrows.sound hand) refl line table k.order) k
  where
    borrows : IsBorrowing (configuration_of (open_of h)) x.0
    borrows = borrowing h r m x d deadline enters.chosen k
