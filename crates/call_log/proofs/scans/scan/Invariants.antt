use Rattle.call_log.proofs.Scanning.{IsReadTo}
use Rattle.call_log.proofs.scans.scan.Given as goal

abbrev pub invariant-slots : goal.invariant-slots
invariant-slots l = IsReadTo l.head l.place l.bytes l.rest l.calls.items
