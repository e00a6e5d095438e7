use Rattle.home_states.proofs.Refusing.{no_time_in_bytes, time_in_text}
use Rattle.home_states.proofs.drafts.time_in.Goals as goal
use Rattle.home_states.proofs.Prelude.{sym, ◌∙◌}

pub returns-in-Ok-read_time-clause-time : goal.returns-in-Ok-read_time-clause-time
returns-in-Ok-read_time-clause-time c =
    c.in-Ok-read_time.ensures.read ∙ sym (time_in_text c.args.bytes.now c.in-Ok.text.now c.in-Ok.ensures.cases.0 c.in-Ok.ensures.cases.1)

pub returns-in-Err-clause-time : goal.returns-in-Err-clause-time
returns-in-Err-clause-time c = no_time_in_bytes c.args.bytes.now c.in-Err.ensures.cases.0
