use Rattle.hub_commands.proofs.PublishedDays.{published_back}
use Rattle.hub_commands.proofs.watches.run_published.Goals as goal

pub returns-clause-published : goal.returns-clause-published
returns-clause-published g c = published_back _ _ _ c.run_day-finish.ensures.told c.end.ensures.published
