use Rattle.history_book.proofs.HistoryReads.{opened_read}
use Rattle.history_book.proofs.read_histories.ReadHistory.empty.Goals as goal

pub invariant_of-result : goal.invariant_of-result
invariant_of-result c = opened_read _ _ _ c.requires.no_entry c.requires.few c.requires.room
