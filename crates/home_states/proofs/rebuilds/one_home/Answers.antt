use Rattle.home_states.proofs.SameHomes.{from_first, one_home, same_calls, same_self, same_waited}
use Rattle.home_states.proofs.rebuilds.one_home.Goals as goal

pub returns-clause-rebuilt : goal.returns-clause-rebuilt
returns-clause-rebuilt c = λ script mode calls s t one two. one_home script mode calls s t one two

pub returns-clause-goes_on : goal.returns-clause-goes_on
returns-clause-goes_on c = λ from calls s t u v same upto one two. same_calls from s t u v calls same upto one two

pub returns-clause-always : goal.returns-clause-always
returns-clause-always c = λ calls. from_first calls

pub returns-clause-waits : goal.returns-clause-waits
returns-clause-waits c = λ from s t u r m same upto waited. same_waited from s t u r m same upto waited

pub returns-clause-itself : goal.returns-clause-itself
returns-clause-itself c = λ s live. same_self 0 s live
