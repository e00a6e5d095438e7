use Rattle.hub_commands.proofs.Dividing.{divides_here, divides_more, divides_none, fits_within, rest_all}
use Rattle.hub_commands.proofs.divisions.divide.Goals as goal
use Rattle.hub_commands.specs.Divisions.{is_divider, lines_with_feeds}
use Rattle.hub_commands.proofs.Prelude.{ap, append-nil, arith, drop, drop_all, length, subst, sym, take, ◌-◌, ◌∙◌, ◌∷◌, ◌≡◌, ◌≤◌}

pub returns-then-is_divider : goal.returns-then-is_divider
returns-then-is_divider c =
    let text = c.args.text.now in
    let all = rest_all c.lines.at text in
    let end = c.line_length-end.result in
    let first = subst (λ r. lines_with_feeds r ≡ take end r ∷ lines_with_feeds (drop end r)) all c.line_length-end.ensures.first in
    let here = divides_here text c.lines.at end c.lines.invariant.so_far first (ap (λ r. is_divider (take end r)) (sym all) ∙ sym c.if-is_divider.ensures) in
    record {
      script = sym (ap (λ d. d.script) here ∙ append-nil (take c.lines.at text));
      record_text = rest_all end (take (length text - c.lines.at) (drop c.lines.at text)) ∙ ap (λ r. drop end r) all ∙ sym (ap (λ d. d.record_text) here);
    }

pub lines-preserved : goal.lines-preserved
lines-preserved c =
    let text = c.args.text.now in
    let all = rest_all c.lines.at text in
    let end = c.line_length-end.result in
    let first = subst (λ r. lines_with_feeds r ≡ take end r ∷ lines_with_feeds (drop end r)) all c.line_length-end.ensures.first in
    let fits : end ≤ length (drop c.lines.at text) = subst (λ r. end ≤ length r) all c.line_length-end.ensures.within in
    record {
      within = fits_within c.lines.at end text fits c.lines.invariant.within;
      so_far = divides_more text c.lines.at end c.lines.invariant.so_far first (ap (λ r. is_divider (take end r)) (sym all) ∙ sym c.if-is_divider.ensures);
    }

pub returns-clause-script : goal.returns-clause-script
returns-clause-script c = sym (ap (λ d. d.script) (divides_none c.args.text.now c.lines.at c.lines.invariant.so_far (omega (arith, c.lines-test.false))))

pub returns-clause-record_text : goal.returns-clause-record_text
returns-clause-record_text c =
    let far : length c.args.text.now ≤ c.lines.at = omega (arith, c.lines-test.false) in
    rest_all c.lines.at c.args.text.now ∙ drop_all c.lines.at c.args.text.now far ∙ sym (ap (λ d. d.record_text) (divides_none c.args.text.now c.lines.at c.lines.invariant.so_far far))
