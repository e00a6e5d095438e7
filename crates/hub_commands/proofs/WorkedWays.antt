-- A window that was replayed, or run by threads, is worked in that way.
use Rattle.hub_commands.proofs.Prelude.{HomeState, IsReplayOf, IsRunWithin, IsWorkedAs, List, Shown, WindowRecord, WindowText, ap, arith, common_steps, if◌then◌else◌, is_device, length, subst, true, ℕ, ◌<◌, ◌∙◌, ◌≡◌, ◌≤◌}
use Rattle.hub_core.specs.OpenHubs.{OpenHub, configuration_of}
use Rattle.hub_core.specs.Steps.{opened}
use Rattle.hub_core.specs.WindowWays.{WindowIsWorked}
use Rattle.hub_threads.specs.WorkedWindows.{IsRunBy, IsWorked}
use Rattle.run_replay.specs.ReplayedWindows.{IsReplayBy, IsReplayed}

-- a hub in which nothing was done yet has all its probes
pub rounds_at : {D : Type 0} (hub : OpenHub D) (rounds : ℕ) → configuration_of hub ≡ opened hub.setting hub.rounds → hub.rounds ≡ rounds
    → (d : ℕ) → d < length hub.setting.first → (configuration_of hub).probes d ≡ rounds
rounds_at hub rounds fresh rounds_are d inside =
    let there : is_device hub.setting d ≡ true = grind (arith, common_steps, inside) in
    ap (λ c. c.probes d) fresh ∙ ap (λ b. if b then hub.rounds else 0) there ∙ rounds_are

pub rounds_within : {D : Type 0} (hub : OpenHub D) (rounds : ℕ) → configuration_of hub ≡ opened hub.setting hub.rounds → hub.rounds ≡ rounds
    → (d : ℕ) → d < length hub.setting.first → rounds ≤ (configuration_of hub).probes d
rounds_within hub rounds fresh rounds_are d inside = let all = rounds_at hub rounds fresh rounds_are d inside in omega (arith, all)

-- the picks are the window's turns, and the seed and the rounds are its own
pub replayed_as : {D : Type 0} (shows : D → Shown) (hub : OpenHub D) (window : WindowText) (picks : List ℕ) (home : HomeState D) (closed : WindowRecord)
    → hub.rounds ≡ window.probes → picks ≡ window.turns.items → IsReplayed shows hub picks window.seed window.probes home closed
    → IsWorkedAs IsReplayOf shows hub window home closed
replayed_as shows hub window picks home closed rounds same is =
    subst (λ n. WindowIsWorked (IsReplayBy n window.probes window.turns.items window.seed) shows hub home closed) rounds
    (subst (λ ts. WindowIsWorked (IsReplayBy hub.rounds window.probes ts window.seed) shows hub home closed) same is)

-- the threads took every probe
pub run_as : {D : Type 0} (shows : D → Shown) (earliest latest : ℕ) (hub : OpenHub D) (window : WindowText) (home : HomeState D) (closed : WindowRecord)
    → hub.rounds ≡ window.probes → IsWorked shows earliest latest hub home closed
    → IsWorkedAs (IsRunWithin earliest latest) shows hub window home closed
run_as shows earliest latest hub window home closed rounds is =
    subst (λ n. WindowIsWorked (IsRunBy n earliest latest) shows hub home closed) rounds is
