-- The lines of a window that was told.
use Rattle.hub_commands.proofs.Prelude.{Err, IfOk, List, Mode, Ok, Result, RoomWindow, Script, TellsLines, WindowRecord, [], false, length, window_text, ℕ, ◌++◌, ◌∷◌, ◌≡◌}
use Rattle.home_types.specs.declared.memory.NoMemory.{NoMemory}
use Rattle.room_hubs.specs.ToldWindows.{IsToldOfRooms}

pub lines_told : (script : Script) (room_of : List ℕ) (mode : Mode) (ws : List RoomWindow) (told more : List WindowRecord) (last : WindowRecord) (lines : Result (List ℕ) NoMemory) → IsToldOfRooms room_of ws last → more ≡ told ++ last ∷ []
    → IfOk lines (λ l. l ≡ window_text script (length told) last mode false) → IfOk lines (TellsLines script room_of mode ws told more)
lines_told script room_of mode ws told more last (Err e) tells is made = tt
lines_told script room_of mode ws told more last (Ok l) tells is made = record { last = last; tells = tells; more_is = is; lines_are = made }
