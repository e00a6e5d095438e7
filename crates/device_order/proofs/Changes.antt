-- Each kind of change on a device keeps its invariant.
use Rattle.device_order.proofs.Answers.{write_ok, read_ok, dead_first, dead_later}
use Rattle.device_order.proofs.Claims.{settled_front}
use Rattle.device_order.proofs.Commands.{go}
use Rattle.device_order.proofs.Monotone.{doom, skip, commit}
use Rattle.device_order.proofs.Probes.{probe_go, asks_none, restores_none, probe_dead, probe_lost, rose}
use Rattle.device_order.proofs.Aborts.{abort}
use Rattle.device_order.proofs.Downs.{down_again, down_first}
use Rattle.device_order.proofs.Placings.{place}
use Rattle.device_order.proofs.Undos.{undo_go, drop_undo, undo_ok, undo_dead}
use Rattle.device_order.proofs.Prelude.{CommandOut, DeviceChange, DeviceInvariant, DeviceRecord, DeviceRestarted, DownAgain, DownFirst, FirstAccessDied, GuardSkipped, LaterAccessDied, ProbeDied, ProbeDiedUnderRun, ProbeFoundDown, ProbeFoundUp, ProbeOut, ReadAnswered, RunAborted, RunCommitted, RunDoomed, RunPlaced, UndoAnswered, UndoDied, UndoDropped, UndoOut, WriteAnswered, ap, holds_command, ◌∙◌}

-- each kind of change keeps the invariant
pub keeps : (d e : DeviceRecord) → DeviceChange d e → DeviceInvariant d → DeviceInvariant e
keeps d _ (RunPlaced a b at n) i = place d a b at n i
keeps d _ (CommandOut a b c g at p h u v o w q) i = go d a b c g at p h u v o w (λ n. settled_front d a ∙ q n) i
keeps d _ (WriteAnswered a b c v st at g l) i = write_ok d a b c v st at (ap holds_command g) l i
keeps d _ (ReadAnswered a b c st at g l) i = read_ok d a b c st at g l i
keeps d _ (FirstAccessDied a b c st h at g v l) i = dead_first d a b c st h at g v l i
keeps d _ (LaterAccessDied a b c st h at g v l) i = dead_later d a b c st h at g l i
keeps d _ (DownAgain a b c st at p v l) i = down_again d a b c st at p v l i
keeps d _ (DownFirst a b c st at p h u o l) i = down_first d a b c st at p h u o l i
keeps d _ (GuardSkipped a b c at p n) i = skip d a b c at p n i
keeps d _ (RunDoomed a b c at) i = doom d a b c at i
keeps d _ (RunCommitted a b c at p) i = commit d a b c at p i
keeps d _ (RunAborted a b c at n h q) i = abort d a b c at n h q i
keeps d _ (UndoOut a b c at n x y h u) i = undo_go d a b c at n x y h u i
keeps d _ (UndoDropped a b c at n x y h u) i = drop_undo d a b c at n x h u i
keeps d _ (UndoAnswered a b c v at g) i = undo_ok d a b c v at g i
keeps d _ (UndoDied a b c v h at g) i = undo_dead d a b c v h at g i
keeps d _ (ProbeOut h) i = probe_go d h i
keeps d _ (ProbeFoundUp p) i = asks_none d p i
keeps d _ (ProbeFoundDown v h p) i = restores_none d v h p i
keeps d _ (ProbeDied h p n) i = probe_dead d h p n i
keeps d _ (ProbeDiedUnderRun a b c h p at n) i = probe_lost d a b c h p at n i
keeps d _ (DeviceRestarted v p) i = rose d v p i
