use Rattle.logged_calls.proofs.CallLists.{good_are}
use Rattle.logged_calls.proofs.laws.good_bytes_are_calls.Goals as goal

pub returns : goal.returns
returns c = good_are
