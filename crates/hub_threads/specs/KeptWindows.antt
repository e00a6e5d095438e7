-- A window whose last state is kept before its record is handed out.
use Rattle.device_states.specs.Devices.{Shown}
use Rattle.home_journal.specs.Journals.{JournalState, LeavesFirst}
use Rattle.home_types.specs.Numbers.{Moment}
use Rattle.home_types.specs.declared.worlds.Stand.{Stand}
use Rattle.hub_core.specs.OpenHubs.{OpenHub}
use Rattle.hub_threads.specs.WorkedWindows.{IsWorked}
use Rattle.hub_threads.specs.declared.kept_windows.KeepFault.TheVariants.{Failed, NoMemory}
use Rattle.hub_threads.specs.declared.kept_windows.KeepFault.{KeepFault}
use Rattle.std.specs.Prelude.{Bool, List, Some, [], true, ℕ, ◌+◌, ◌<◌, ◌∷◌, ◌≡◌}

-- one state more is kept, and it is the last
pub record KeepsOneMore {Q : Type 0} (old new : JournalState Q) (home : List Stand) : Type 0 where
  pub kinds : new.kinds ≡ old.kinds
  pub most : new.most ≡ old.most
  pub kept : new.kept ≡ old.kept + 1
  pub last : new.last ≡ Some home

-- where memory was wanted nothing is changed; else the window was worked, the disk has failed, and
-- a crash leaves what was kept, with the last state of the window or without
abbrev pub KeepFails : {D Q : Type 0} → (D → Shown) → Moment → Moment → Bool → (Q → List ℕ)
    → (Q → ℕ) → (Q → ℕ → List ℕ → Type 0) → (Q → ℕ) → OpenHub D → JournalState Q
    → KeepFault D Q → Type 0
KeepFails shows earliest latest told seen moment since failures hub journal
    (NoMemory same unmoved) =
    (same ≡ hub) × (unmoved ≡ journal)
KeepFails shows earliest latest told seen moment since failures hub journal
    (Failed home closed disk) =
    IsWorked shows earliest latest hub home closed × (failures journal.disk < failures disk)
    × (told ≡ true → LeavesFirst seen moment since journal disk (closed.last.devices.items ∷ []))
