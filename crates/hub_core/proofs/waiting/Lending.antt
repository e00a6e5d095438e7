-- Whether a lease may fall due on the device of a run's next command, as the code asks it, is what the definition says.
use Rattle.hub_core.proofs.Prelude.{Asking, Bool, Configuration, Fcfs, IsAsking, IsKeptByModel, IsStandingOf, IsTrue, IsWellFormed, JustInTime, MayAsk, NeverRevokes, None, Scheduler, Some, Timeline, Visibility, WindowParts, ap, arith, common_steps, entries_of, false, inl, inr, is_mode, is_on, is_some, is_weak, lease_deadline, next_device, option_map, point_of, read_of, refl, run_no, scheduler_of, sym, true, unwrap_or, ℕ, ◌==◌, ◌∙◌, ◌≡◌, ◌⊎◌}
use Rattle.home_types.specs.declared.modes.Mode.{Mode}
use Rattle.home_types.specs.declared.modes.Visibility.TheVariants.{Eventual, Global, Partitioned, Weak}
use Rattle.hub_core.proofs.windows.StrongChoices.{served_in_turn}
use Rattle.hub_core.proofs.waiting.AtCommands.{IsAt, at_command}
use Rattle.lock_leasing.specs.Leases.{IsNeverOverdue, overdue_lease}

-- The scheduler

-- one that does not serve runs as they come is of the eventual model
pub unserved_strong : (mode : Mode) (x : Scheduler) → x ≡ scheduler_of mode → (x ≡ JustInTime) ⊎ (x ≡ Timeline) → is_weak mode ≡ false
unserved_strong mode x is other = by_model mode.model mode.scheduler is
  where
    none : x ≡ Fcfs → ⊥
    none first = elim other [
      | inl e ↦ absurd (let both : JustInTime ≡ Fcfs = sym e ∙ first in cc)
      | inr e ↦ absurd (let both : Timeline ≡ Fcfs = sym e ∙ first in cc)
    ]

    by_model : (v : Visibility) (y : Scheduler) → x ≡ scheduler_of (record { model = v; scheduler = y }) → is_weak (record { model = v; scheduler = y }) ≡ false
    by_model Weak y e = absurd (none e)
    by_model Global y e = refl
    by_model Partitioned y e = refl
    by_model Eventual y e = refl

-- a mode that is one of a window says so where it serves runs as they come
serves_first : (v : Visibility) (x : Scheduler) → IsTrue (is_mode (record { model = v; scheduler = x })) → scheduler_of (record { model = v; scheduler = x }) ≡ Fcfs → x ≡ Fcfs
serves_first v Fcfs allowed first = refl
serves_first Weak JustInTime allowed first = absurd (cc)
serves_first Global JustInTime allowed first = absurd (cc)
serves_first Partitioned JustInTime allowed first = absurd (cc)
serves_first Eventual JustInTime allowed first = absurd (cc)
serves_first Weak Timeline allowed first = absurd (cc)
serves_first Global Timeline allowed first = absurd (cc)
serves_first Partitioned Timeline allowed first = absurd (cc)
serves_first Eventual Timeline allowed first = absurd (cc)

-- The answers

-- first come first served none falls due
pub served_calm : (s : Configuration) (rounds opened : ℕ) (held : ℕ → ℕ) (r d : ℕ) → IsKeptByModel s rounds opened held → scheduler_of s.setting.mode ≡ Fcfs → next_device s r ≡ Some d → NeverRevokes s r d
served_calm s rounds opened held r d kept first next strong asks =
    served_in_turn s rounds opened held r d (kept.ordered strong) (serves_first s.setting.mode.model s.setting.mode.scheduler kept.opens.mode first) (at_command s r d kept.history.well_formed next).act.live

-- .. so none is overdue for a run that asks
pub served_leases : (s : Configuration) (rounds opened : ℕ) (held : ℕ → ℕ) (r d m : ℕ) → IsKeptByModel s rounds opened held → scheduler_of s.setting.mode ≡ Fcfs → is_weak s.setting.mode ≡ false → IsAsking s r d → None ≡ overdue_lease (point_of s) r d m
served_leases s rounds opened held r d m kept first strong asks =
    sym (ap (option_map (λ x. (run_no x, lease_deadline s.setting (read_of s) x d))) (served_in_turn s rounds opened held r d (kept.ordered strong) (serves_first s.setting.mode.model s.setting.mode.scheduler kept.opens.mode first) asks.live m))

-- the run asks for the device
pub asks_for : (s : Configuration) (r d : ℕ) → IsWellFormed s.setting (entries_of s.history) → next_device s r ≡ Some d → IsAsking s r d
asks_for s r d formed next =
    let at : IsAt (point_of s) r d = at_command s r d formed next in
    let own : (d == d) ≡ true = grind (arith, common_steps) in
    record { live = at.act.live; sound = ap is_some at.sound; next = ap (λ o. unwrap_or (option_map (is_on d) o) false) at.next ∙ ap (λ e. e == d) at.device ∙ own }

-- so it may be asked whether one may
pub may_ask : (s : Configuration) (parts : WindowParts) (r d : ℕ) → IsStandingOf s parts → next_device s r ≡ Some d → MayAsk parts r d
may_ask s parts r d stands next = Asking s stands (asks_for s r d stands.well_formed next)

-- .. and where the answer is no, none does
pub told_calm : (s : Configuration) (parts : WindowParts) (r d : ℕ) (answer : Bool) → (answer ≡ false → IsNeverOverdue parts r d) → IsStandingOf s parts → next_device s r ≡ Some d → answer ≡ false
    → NeverRevokes s r d
told_calm s parts r d answer told stands next none strong asks = told none s stands (asks_for s r d stands.well_formed next)
