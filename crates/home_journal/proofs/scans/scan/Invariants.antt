use Rattle.home_journal.proofs.Scanning.{IsScanned}
use Rattle.home_journal.proofs.scans.scan.Given as goal
use Rattle.home_journal.proofs.Prelude.{length, ◌≡◌}

abbrev pub invariant-slots : goal.invariant-slots
invariant-slots l =
    IsScanned l.kinds l.layout.size l.place l.bytes l.rest l.last.devices.items
    × (length l.last.devices.items ≡ length l.kinds)
