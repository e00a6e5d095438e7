-- The steps of the walk over the windows.
use Rattle.order_checker.proofs.Walking.{walk-passed, walk-refused}
use Rattle.order_checker.proofs.Prelude.{AreWindowsTold, DayProgress, Err, IsTold, List, Ok, Place, Result, Script, ap, drop, get_or, in_window, length, next_window_told, progress_told, walk, window_told, ℕ, ◌+◌, ◌<◌, ◌≡◌}
use Rattle.order_checker.specs.declared.verdicts.Halt.TheVariants.{At, Memory}
use Rattle.order_checker.specs.declared.verdicts.Halt.{Halt}
use Rattle.order_checker.specs.declared.verdicts.Verdict.TheVariants.{Differs}
use Rattle.order_checker.specs.declared.verdicts.Verdict.{Verdict}
use Rattle.order_checker.specs.declared.windows.Progress.{Progress}
use Rattle.routine_reader.specs.declared.scripts.WindowText.{WindowText}

pub window-refused : (script : Script) (before : DayProgress) (windows : List WindowText) (i : ℕ) (window : WindowText) → i < length windows → window ≡ get_or windows i window
    → (place : Place) → window_told script before window ≡ Err place → walk (next_window_told script) before (drop i windows) ≡ Err (Differs (before.windows + 1) place)
window-refused script before windows i window within is place refused =
    walk-refused (next_window_told script) before windows i window within is (Differs (before.windows + 1) place) (ap (in_window (before.windows + 1)) refused)

pub window-passed : (script : Script) (before next : DayProgress) (windows : List WindowText) (i : ℕ) (window : WindowText) → i < length windows → window ≡ get_or windows i window
    → window_told script before window ≡ Ok next → walk (next_window_told script) before (drop i windows) ≡ walk (next_window_told script) next (drop (i + 1) windows)
window-passed script before next windows i window within is passed =
    walk-passed (next_window_told script) before windows i window within is next (ap (in_window (before.windows + 1)) passed)

-- a window that stops, in a walk that stops so
pub windows-stopped : (k : ℕ) (halt : Halt) (first : Result DayProgress Place) (whole : Result DayProgress Verdict) → IsTold {T = Progress} progress_told (Err halt) first
    → ((place : Place) → first ≡ Err place → whole ≡ Err (Differs k place)) → AreWindowsTold (Err (k, halt)) whole
windows-stopped k Memory first whole told next = tt
windows-stopped k (At place) first whole told next = next place told
