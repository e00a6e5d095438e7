use Rattle.order_checker.proofs.order_lines.OrderReader.read_each_item.Given as goal
use Rattle.order_checker.proofs.Prelude.{All, [], drop, fold, home_with_event, length, next_item, setting_for_order, texts, walk, ◌≡◌}
use Rattle.serial_meaning.specs.Conditions.{IsItemOf}

-- the items so far
abbrev pub invariant-words : goal.invariant-words
invariant-words l =
    record {
      walk : walk (next_item (setting_for_order l.self)) [] (texts l.words) ≡ walk (next_item (setting_for_order l.self)) l.items.items (drop l.i (texts l.words));
      count : length l.items.items ≡ l.i;
      home : l.home.items ≡ fold home_with_event l.self.home.now.items l.items.items;
      size : length l.home.items ≡ length l.self.home.now.items;
      of_roster : All (IsItemOf l.self.home.now.items l.self.roster.now) l.items.items;
    }
