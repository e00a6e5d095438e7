-- Where no lease is overdue, what a run at a command does is the same at every moment; and a run that waits at every moment meets no such lease.
use Rattle.hub_core.proofs.Prelude.{Bool, Command, Commands, Configuration, Doomed, HandsOut, IsBlocked, IsWellFormed, Moves, NeverRevokes, None, Option, Point, Reading, Revoked, Setting, Some, Waits, [], ap, arith, asks_on, choice_of, command_cases, decide_command, entries_of, false, first_case, holds, if◌then◌else◌, is_some, is_wait, is_weak, lease_deadline, max, next_device, next_of, option_map, overdue_for, point, point_of, read_of, refl, run_no, skip_entries, strict_wait, sym, true, ℕ, ◌∙◌, ◌∷◌, ◌≡◌}
use Rattle.hub_core.proofs.windows.StrongChoices.{command_current, command_is, skip_is}
use Rattle.hub_core.proofs.waiting.AtCommands.{IsAt, at_asks, at_command, command_choice}
use Rattle.hub_core.proofs.waiting.KeptLeases.{overdue_later}
use Rattle.hub_core.specs.Decisions.{current_command, skipped_command}
use Rattle.hub_core.specs.declared.waits.Why.TheVariants.{Strict}
use Rattle.hub_core.specs.declared.waits.Why.{Why}

-- at two moments at which no lease is overdue, or where it is skipped, the next command does the same
pub same_command : (p : Point) (r a b k : ℕ) (c : Command)
    → (is_weak p.setting.mode ≡ false → holds c.when (p.reading.run r).register ≡ true → overdue_for p r c.device.0 a ≡ None)
    → (is_weak p.setting.mode ≡ false → holds c.when (p.reading.run r).register ≡ true → overdue_for p r c.device.0 b ≡ None)
    → decide_command p r a k c ≡ decide_command p r b k c
same_command p r a b k c now then' = by_guard (holds c.when (p.reading.run r).register) refl
  where
    by_model : holds c.when (p.reading.run r).register ≡ true → (weak : Bool) → is_weak p.setting.mode ≡ weak → decide_command p r a k c ≡ decide_command p r b k c
    by_model guard true e = past a ∙ sym (past b)
      where
        past : (m : ℕ) → decide_command p r m k c ≡ first_case (command_cases true p r a k c) (HandsOut c.device.0 (Commands k))
        past m = λ i. if guard i then first_case (command_cases (e i) p r m k c) (HandsOut c.device.0 (Commands k)) else skipped_command p r k
    by_model guard false e = past a (now e guard) ∙ sym (past b (then' e guard))
      where
        past : (m : ℕ) → overdue_for p r c.device.0 m ≡ None → decide_command p r m k c ≡ current_command p r k c
        past m none = command_is p r m k c e guard ∙ command_current p r m k c none

    by_guard : (b' : Bool) → holds c.when (p.reading.run r).register ≡ b' → decide_command p r a k c ≡ decide_command p r b k c
    by_guard true guard = by_model guard (is_weak p.setting.mode) refl
    by_guard false guard = skip_is p r a k c guard ∙ sym (skip_is p r b k c guard)

-- so the choice of a run at a command does not depend on the moment
pub same_choice : (s : Configuration) (r d a b : ℕ) → IsAt (point_of s) r d → NeverRevokes s r d → choice_of s r a ≡ choice_of s r b
same_choice s r d a b at calm = command_choice s r d a at ∙ same_command (point_of s) r (max s.moment a) (max s.moment b) (next_of (read_of s) r) at.command (there (max s.moment a)) (there (max s.moment b)) ∙ sym (command_choice s r d b at)
  where
    there : (m : ℕ) → is_weak s.setting.mode ≡ false → holds at.command.when ((read_of s).run r).register ≡ true → overdue_for (point_of s) r at.command.device.0 m ≡ None
    there m strong guard = ap (λ e. overdue_for (point_of s) r e m) at.device ∙ calm strong (at_asks (point_of s) r d at ∙ guard) m

-- a run at a command that waits at one moment waits at every one, where no lease is ever overdue for it
pub calm_waits : (s : Configuration) (r d m : ℕ) → IsAt (point_of s) r d → NeverRevokes s r d → is_wait (choice_of s r m) ≡ true → IsBlocked s r
calm_waits s r d m at calm waits = record { run = at.act.run; free = at.act.free; waits = λ a. ap is_wait (same_choice s r d a m at calm) ∙ waits }

-- so a run at a command that is told to wait is blocked
pub waits_on : (s : Configuration) (r d : ℕ) → IsWellFormed s.setting (entries_of s.history) → next_device s r ≡ Some d → NeverRevokes s r d → (m : ℕ) (why : Why) → choice_of s r m ≡ Waits why → IsBlocked s r
waits_on s r d formed next calm m why waits = calm_waits s r d m (at_command s r d formed next) calm (ap is_wait waits)

-- for a run that waits at every moment none is ever overdue, since it would revoke the lease
pub blocked_calm : (s : Configuration) (r d : ℕ) → IsAt (point_of s) r d → IsBlocked s r → NeverRevokes s r d
blocked_calm s r d at blocked strong asks m = overdue_later (point w n s.grips) r d m t (omega (arith)) (by_lease (overdue_for (point w n s.grips) r d t) refl)
  where
    w : Setting
    w = s.setting

    n : Reading
    n = read_of s

    t : ℕ
    t = max s.moment m

    revokes : (x : ℕ) → overdue_for (point w n s.grips) r d t ≡ Some x → is_wait (choice_of s r m) ≡ false
    revokes x e =
        ap is_wait (command_choice s r d m at ∙ command_is (point w n s.grips) r t (next_of n r) at.command strong (sym (at_asks (point w n s.grips) r d at) ∙ asks))
        ∙ ap (λ o. is_wait (first_case (option_map (λ y. Moves (Doomed (run_no y) (Revoked (run_no r) at.command.device (lease_deadline w n y at.command.device.0) t) ∷ [])) o ∷ []) (current_command (point w n s.grips) r (next_of n r) at.command)))
        (ap (λ e'. overdue_for (point w n s.grips) r e' t) at.device ∙ e)

    by_lease : (o : Option ℕ) → overdue_for (point w n s.grips) r d t ≡ o → overdue_for (point w n s.grips) r d t ≡ None
    by_lease None e = e
    by_lease (Some x) e = absurd (let both : false ≡ true = sym (revokes x e) ∙ blocked.waits m in cc)

-- Runs that skip their next command

-- one waits for its model alone, at every moment
pub skip_waits : (s : Configuration) (r d m : ℕ) → IsAt (point_of s) r d → asks_on s.setting (read_of s) r d ≡ false → is_wait (choice_of s r m) ≡ is_some (strict_wait s.setting (read_of s) r)
skip_waits s r d m at skips =
    ap is_wait (command_choice s r d m at ∙ skip_is (point_of s) r (max s.moment m) (next_of (read_of s) r) at.command (sym (at_asks (point_of s) r d at) ∙ skips))
    ∙ by_model (strict_wait s.setting (read_of s) r)
  where
    by_model : (o : Option ℕ) → is_wait (first_case (option_map (λ x. Waits (Strict (run_no x))) o ∷ []) (Moves (skip_entries r (next_of (read_of s) r)))) ≡ is_some o
    by_model None = refl
    by_model (Some x) = refl

-- so it stays blocked where its model asks for the same of it
pub skip_blocked : (s t : Configuration) (r d : ℕ) → IsAt (point_of s) r d → IsAt (point_of t) r d → asks_on s.setting (read_of s) r d ≡ false → asks_on t.setting (read_of t) r d ≡ false → strict_wait t.setting (read_of t) r ≡ strict_wait s.setting (read_of s) r
    → IsBlocked s r → IsBlocked t r
skip_blocked s t r d was now skipped skips same blocked = record { run = now.act.run; free = now.act.free; waits = λ m. skip_waits t r d m now skips ∙ ap is_some same ∙ sym (skip_waits s r d m was skipped) ∙ blocked.waits m }
