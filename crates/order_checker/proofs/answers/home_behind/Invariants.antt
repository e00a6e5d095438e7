use Rattle.order_checker.proofs.Prelude.{drop, length, map, plain_ends, runs_of, ◌≡◌}
use Rattle.order_checker.proofs.Orders.{behind_from}
use Rattle.order_checker.proofs.answers.home_behind.Given as goal

-- the items so far have nothing wrong
abbrev pub invariant-items : goal.invariant-items
invariant-items l =
    record {
      behind :
          behind_from (runs_of l.reader.roster.now) (map (λ d. d.kind) l.reader.devices.now) (plain_ends l.reader.ends.now) l.reader.home.now.items l.items
          ≡ behind_from (runs_of l.reader.roster.now) (map (λ d. d.kind) l.reader.devices.now) (plain_ends l.reader.ends.now) l.home.items (drop l.item-index l.items);
      size : length l.home.items ≡ length l.reader.devices.now;
    }
