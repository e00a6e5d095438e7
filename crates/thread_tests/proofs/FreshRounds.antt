-- A window in which nothing was done since it was opened.
use Rattle.history_book.specs.Settings.{is_device}
use Rattle.hub_core.specs.OpenHubs.{OpenHub, configuration_of}
use Rattle.hub_core.specs.Steps.{opened}
use Rattle.std.proofs.Common.{ap, arith, ◌∙◌}
use Rattle.std.proofs.lemmas.Grind.{common_steps}
use Rattle.std.specs.Prelude.{if◌then◌else◌, length, true, ℕ, ◌<◌, ◌≡◌}

-- each device may be probed in each round
pub rounds_fresh : {D : Type 0} (hub : OpenHub D) (rounds : ℕ) → configuration_of hub ≡ opened hub.setting rounds
    → (d : ℕ) → d < length hub.setting.first → (configuration_of hub).probes d ≡ rounds
rounds_fresh hub rounds fresh d inside =
    let there : is_device hub.setting d ≡ true = grind (arith, common_steps, inside) in
    ap (λ c. c.probes d) fresh ∙ ap (λ b. if b then rounds else 0) there
