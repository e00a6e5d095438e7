use Rattle.printed_records.proofs.LegalDays.{legal_agrees}
use Rattle.printed_records.proofs.laws.legal_day_agrees.Goals as goal

pub returns : goal.returns
returns c = λ script mode trace records sound has same legal small. legal_agrees script mode records sound has legal same trace small
