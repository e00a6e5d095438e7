use Rattle.exchange_laws.proofs.StandingOrders.{standing_exchanged, standing_reached}
use Rattle.exchange_laws.proofs.laws.order_exchange.Goals as goal

pub returns-clause-exchange : goal.returns-clause-exchange
returns-clause-exchange c = standing_exchanged

pub returns-clause-reached : goal.returns-clause-reached
returns-clause-reached c = standing_reached
