use Rattle.logged_calls.proofs.CallLists.{calls_all, calls_cut, calls_more}
use Rattle.logged_calls.proofs.laws.same_bytes.Goals as goal

pub returns-clause-all : goal.returns-clause-all
returns-clause-all c = calls_all

pub returns-clause-cut : goal.returns-clause-cut
returns-clause-cut c = calls_cut

pub returns-clause-more : goal.returns-clause-more
returns-clause-more c = calls_more
