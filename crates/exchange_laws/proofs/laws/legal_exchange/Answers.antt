use Rattle.exchange_laws.proofs.LegalOrders.{legal_back, legal_exchanged, legal_itself, legal_reached}
use Rattle.exchange_laws.proofs.laws.legal_exchange.Goals as goal

pub returns-clause-itself : goal.returns-clause-itself
returns-clause-itself c = legal_itself

pub returns-clause-exchange : goal.returns-clause-exchange
returns-clause-exchange c = legal_exchanged

pub returns-clause-reached : goal.returns-clause-reached
returns-clause-reached c = legal_reached

pub returns-clause-back : goal.returns-clause-back
returns-clause-back c = legal_back
