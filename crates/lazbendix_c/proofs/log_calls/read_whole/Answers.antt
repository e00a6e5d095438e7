use Rattle.lazbendix_c.proofs.LogBytes.{none_read, some_read}
use Rattle.lazbendix_c.proofs.log_calls.read_whole.Goals as goal

pub returns-clause-some : goal.returns-clause-some
returns-clause-some c = some_read c.args.bytes.now c.read_call.result c.told-bytes c.fits-bytes c.good_bytes_are_calls.ensures c.read_call.ensures.next c.read_call.ensures.loggable

pub returns-clause-none : goal.returns-clause-none
returns-clause-none c = none_read c.args.bytes.now c.read_call.result c.same_bytes.ensures.all c.read_call.ensures.end
