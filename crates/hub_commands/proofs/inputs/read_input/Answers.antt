use Rattle.hub_commands.proofs.OverLimit.{over_limit}
use Rattle.hub_commands.proofs.inputs.read_input.Goals as goal
use Rattle.hub_commands.proofs.Prelude.{Err, ap, inr, refl, rules}

pub returns-in-Err-OverLimit-clause-read : goal.returns-in-Err-OverLimit-clause-read
returns-in-Err-OverLimit-clause-read g c = record {
  named = refl;
  taken = inr (c.in-Err-OverLimit.ensures.over_limit (ap (λ e. Err e) c.in-Err-OverLimit.field-0-is));
  within = c.in-Err-OverLimit.ensures.taken;
  reading = over_limit (g.S.Source.left c.args.source.now) (g.S.Source.left c.read_to_end.new.source) (c.in-Err-OverLimit.ensures.over_limit (ap (λ e. Err e) c.in-Err-OverLimit.field-0-is));
  calm = search rules;
}
