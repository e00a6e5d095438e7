use Rattle.order_checker.proofs.Passing.{item-passed, item-refused}
use Rattle.order_checker.proofs.Events.{length-event}
use Rattle.order_checker.proofs.Walking.{walk-end}
use Rattle.order_checker.proofs.order_lines.OrderReader.read_each_item.Goals as goal
use Rattle.order_checker.proofs.Prelude.{Err, [], ap, arith, drop, fold, fold-append, home_with_event, length, length-append, length-map, next_item, setting_for_order, sym, texts, walk, ◌+◌, ◌∙◌, ◌∷◌}
use Rattle.serial_meaning.specs.Conditions.{IsItemOf}
use Rattle.std.proofs.lemmas.List.Elements.{All-append, All-cons, All-nil}

pub returns-in_default-clause-items : goal.returns-in_default-clause-items
returns-in_default-clause-items c =
    c.words.invariant.walk
    ∙ item-refused (setting_for_order c.args.self.now) c.words.items.items c.args.words.now c.words.i _ c.words-test.true c.words.invariant.count
    (sym c.in_default.ensures.item)
    ∙ ap Err (sym c.order_place.ensures)

pub words-preserved : goal.words-preserved
words-preserved c =
    record {
      walk =
          c.words.invariant.walk
          ∙ item-passed (setting_for_order c.args.self.now) c.words.items.items c.args.words.now c.words.i _ c.in-Some.item c.words-test.true
          (sym c.in-Some.ensures.item)
          ∙ ap (λ items. walk (next_item (setting_for_order c.args.self.now)) items (drop (c.words.i + 1) (texts c.args.words.now))) (sym c.in_ok-push.ensures.ok);
      count = rw c.in_ok-push.ensures.ok (rw length-append (omega (arith, c.words.invariant.count)));
      home = c.turn.ensures ∙ ap (λ home. home_with_event home c.in-Some.item) c.words.invariant.home ∙ sym (ap (fold home_with_event c.args.self.now.home.now.items) c.in_ok-push.ensures.ok ∙ fold-append home_with_event c.args.self.now.home.now.items c.words.items.items (c.in-Some.item ∷ []));
      size = ap length c.turn.ensures ∙ length-event c.words.home.items c.in-Some.item ∙ c.words.invariant.size;
      of_roster =
          rw c.in_ok-push.ensures.ok
          (All-append (IsItemOf c.args.self.now.home.now.items c.args.self.now.roster.now) c.words.items.items (c.in-Some.item ∷ []) c.words.invariant.of_roster
          (All-cons (IsItemOf c.args.self.now.home.now.items c.args.self.now.roster.now) c.in-Some.item [] c.in-Some.ensures.of_roster (All-nil _)));
    }

pub returns-clause-items : goal.returns-clause-items
returns-clause-items c =
    c.words.invariant.walk ∙ walk-end (next_item (setting_for_order c.args.self.now)) c.words.items.items (texts c.args.words.now) c.words.i (rw length-map c.words-test.false)
