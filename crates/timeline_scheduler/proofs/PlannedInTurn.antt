-- The planned times of a run whose commands follow one another, one command after the other.
use Rattle.timeline_scheduler.proofs.Prelude.{Command, Fcfs, Item, JustInTime, List, Planned, Reading, Setting, Timeline, [], append-nil, append_assoc, arith, commands_of, common_steps, fold, free, greatest, max, min, plan_more, planned_in_turn, planned_times, refl, scheduler_of, sym, ℕ, ◌++◌, ◌+◌, ◌∙◌, ◌∷◌, ◌≡◌, ◌≢◌}
use Rattle.home_types.specs.declared.modes.Scheduler.{Scheduler}

-- planning one command after the other from a clock adds what they have in turn
planned_from : (clock : ℕ) (planned : List Planned) (cs : List Command) → (fold (plan_more (λ d. 0)) (record { clock = clock; planned = planned }) cs).planned ≡ planned ++ planned_in_turn clock cs
planned_from clock planned [] = sym (append-nil planned)
planned_from clock planned (c ∷ cs) =
    (λ i. (fold (plan_more (λ d. 0)) (record { clock = min (no_wait clock i + c.ms) greatest; planned = planned ++ record { device = c.device.0; from = no_wait clock i; to = min (no_wait clock i + c.ms) greatest } ∷ [] }) cs).planned)
    ∙ planned_from (min (clock + c.ms) greatest) (planned ++ record { device = c.device.0; from = clock; to = min (clock + c.ms) greatest } ∷ []) cs
    ∙ append_assoc planned (record { device = c.device.0; from = clock; to = min (clock + c.ms) greatest } ∷ []) (planned_in_turn (min (clock + c.ms) greatest) cs)
  where
    no_wait : (k : ℕ) → max k 0 ≡ k
    no_wait k = grind (arith, common_steps)

-- a run waits for no device, but for one that is placed by the timeline
pub planned_in_turn_is : (w : Setting) (n : Reading) (r : ℕ) (front : List Item) (m : ℕ) → scheduler_of w.mode ≢ Timeline → planned_times w n r front m ≡ planned_in_turn m (commands_of w.runs r)
planned_in_turn_is w n r front m in_turn = by_scheduler (scheduler_of w.mode) in_turn
  where
    waits : Scheduler → ℕ → ℕ
    waits Fcfs d = 0
    waits JustInTime d = 0
    waits Timeline d = free w n r front d

    by_scheduler : (scheduler : Scheduler) → scheduler ≢ Timeline → (fold (plan_more (waits scheduler)) (record { clock = m; planned = [] }) (commands_of w.runs r)).planned ≡ planned_in_turn m (commands_of w.runs r)
    by_scheduler Fcfs other = planned_from m [] (commands_of w.runs r)
    by_scheduler JustInTime other = planned_from m [] (commands_of w.runs r)
    by_scheduler Timeline other = absurd (other refl)
