use Rattle.home_states.proofs.Drafting.{has_begun}
use Rattle.home_states.proofs.homes.LiveHome.begin_at.Goals as goal

pub returns-in-Ok-clause-begun : goal.returns-in-Ok-clause-begun
returns-in-Ok-clause-begun c =
    has_begun _ _ c.in-Between.field-0 c.args.time c.args.probes c.in-Ok.number c.begin.new.self c.remember.new.closed c.self.view_is c.in-Between.is c.in-Ok.ensures.begun c.remember.ensures
