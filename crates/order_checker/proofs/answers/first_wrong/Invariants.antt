use Rattle.order_checker.proofs.Executions.{home_from, wrong_from}
use Rattle.order_checker.proofs.answers.first_wrong.Given as goal
use Rattle.order_checker.proofs.Prelude.{drop, length, map, ◌≡◌}

-- the commands so far answered as printed
abbrev pub invariant-commands : goal.invariant-commands
invariant-commands l =
    record {
      wrong :
          wrong_from (map (λ d. d.kind) l.devices) l.fn.home.items 0 l.commands l.told 0
          ≡ wrong_from (map (λ d. d.kind) l.devices) l.home.items l.register (drop l.i l.commands) (drop l.i l.told) l.i;
      behind :
          home_from (map (λ d. d.kind) l.devices) l.fn.home.items 0 l.commands
          ≡ home_from (map (λ d. d.kind) l.devices) l.home.items l.register (drop l.i l.commands);
      size : length l.home.items ≡ length l.devices;
    }
