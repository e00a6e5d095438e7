use Rattle.order_checker.proofs.Prelude.{Answer, Kind, List, Option, Run, map, plain_ends, runs_of, ◌∙◌}
use Rattle.order_checker.proofs.Orders.{behind-end, behind-right, behind-start, behind-wrong}
use Rattle.order_checker.proofs.answers.home_behind.Goals as goal

pub returns-in-Some-clause-behind : goal.returns-in-Some-clause-behind
returns-in-Some-clause-behind c =
    let runs : List Run = runs_of c.args.reader.now.roster.now in
    let kinds : List Kind = map (λ d. d.kind) c.args.reader.now.devices.now in
    let ends : List (Option (List Answer)) = plain_ends c.args.reader.now.ends.now in
    behind-start runs kinds ends c.args.reader.now.home.now.items c.args.items.now
    ∙ c.items.invariant.behind
    ∙ behind-wrong runs kinds ends c.items.home.items c.args.items.now c.items.item-index _ c.in-Some.wrong c.items-test.true c.in-Some.ensures.some

pub items-preserved : goal.items-preserved
items-preserved c =
    let runs : List Run = runs_of c.args.reader.now.roster.now in
    let kinds : List Kind = map (λ d. d.kind) c.args.reader.now.devices.now in
    let ends : List (Option (List Answer)) = plain_ends c.args.reader.now.ends.now in
    record {
      behind =
          c.items.invariant.behind
          ∙ behind-right runs kinds ends c.items.home.items c.item_in.new.home.items c.args.items.now c.items.item-index _ c.items-test.true c.in_default.ensures.none c.in_default.ensures.home;
      size = c.in_default.ensures.same ∙ c.items.invariant.size;
    }

pub returns-clause-behind : goal.returns-clause-behind
returns-clause-behind c =
    let runs : List Run = runs_of c.args.reader.now.roster.now in
    let kinds : List Kind = map (λ d. d.kind) c.args.reader.now.devices.now in
    let ends : List (Option (List Answer)) = plain_ends c.args.reader.now.ends.now in
    behind-start runs kinds ends c.args.reader.now.home.now.items c.args.items.now
    ∙ c.items.invariant.behind
    ∙ behind-end runs kinds ends c.items.home.items c.args.items.now c.items.item-index c.items-test.false
