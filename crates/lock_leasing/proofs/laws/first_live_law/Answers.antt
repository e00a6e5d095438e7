use Rattle.lock_leasing.proofs.FirstRuns.{first_live, waits_for_none}
use Rattle.lock_leasing.proofs.laws.first_live_law.Goals as goal

pub returns-clause-waits : goal.returns-clause-waits
returns-clause-waits c = λ p. waits_for_none p.setting p.reading p.grips

pub returns-clause-found : goal.returns-clause-found
returns-clause-found c = λ n r there live. first_live n r n.line there live
