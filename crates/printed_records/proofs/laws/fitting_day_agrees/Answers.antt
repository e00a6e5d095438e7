use Rattle.printed_records.proofs.DayTexts.{day-agrees}
use Rattle.printed_records.proofs.laws.fitting_day_agrees.Goals as goal

pub returns : goal.returns
returns c = λ script mode trace records sound has same fits. day-agrees script mode trace records sound has fits same
