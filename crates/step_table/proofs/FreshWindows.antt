-- A window that was just opened has all its rounds of probes.
use Rattle.history_book.specs.Settings.{is_device}
use Rattle.step_table.proofs.Prelude.{OpenHub, ap, arith, common_steps, configuration_of, if◌then◌else◌, length, opened, true, ℕ, ◌<◌, ◌∙◌, ◌≡◌, ◌≤◌}

pub rounds_are : {D : Type 0} (hub : OpenHub D) (rounds : ℕ) → configuration_of hub ≡ opened hub.setting hub.rounds → hub.rounds ≡ rounds → (d : ℕ) → d < length hub.setting.first → (configuration_of hub).probes d ≡ rounds
rounds_are hub rounds fresh is d low =
    let there : is_device hub.setting d ≡ true = grind (arith, common_steps, low) in
    ap (λ c. c.probes d) fresh ∙ ap (λ b. if b then hub.rounds else 0) there ∙ is

pub rounds_left : {D : Type 0} (hub : OpenHub D) (rounds : ℕ) → configuration_of hub ≡ opened hub.setting hub.rounds → hub.rounds ≡ rounds → (d : ℕ) → d < length hub.setting.first → rounds ≤ (configuration_of hub).probes d
rounds_left hub rounds fresh is d low =
    let all = rounds_are hub rounds fresh is d low in
    omega (arith, all)
