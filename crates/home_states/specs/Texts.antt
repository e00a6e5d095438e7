-- The texts that a live home makes.
use Rattle.day_report.specs.Days.{window_text}
use Rattle.day_report.specs.Lines.{trace_line}
use Rattle.history_book.specs.declared.entries.Kept.{Kept}
use Rattle.home_states.specs.LiveHomes.{LiveState, number_told}
use Rattle.home_states.specs.declared.homes.ClosedWindow.{ClosedWindow}
use Rattle.home_states.specs.declared.homes.Phase.TheVariants.{Between, InWindow, Moving}
use Rattle.home_states.specs.declared.homes.Phase.{Phase}
use Rattle.home_states.specs.declared.refusals.NotTold.TheVariants.{Absent, NoMemory}
use Rattle.home_states.specs.declared.refusals.NotTold.{NotTold}
use Rattle.live_scripts.specs.Reasons.{IsRefusedFor}
use Rattle.routine_reader.specs.declared.scripts.WindowText.{WindowText}
use Rattle.std.specs.Prelude.{Bool, List, None, Option, Some, [], option_and_then, slice_get, ℕ, ◌≡◌}

-- the text is that of the window closed last
pub record HasToldWindow (s : LiveState) (trace : Bool) (t : LiveState) : Type 0 where
  pub closed : ClosedWindow
  pub was : s.closed ≡ Some closed
  pub is : t ≡ record s { text = window_text s.script closed.number closed.closed s.mode trace }

-- the entries of the window that is open, or of the one closed last
abbrev pub closed_entries : Option ClosedWindow → List Kept
closed_entries None = []
closed_entries (Some closed) = closed.closed.history.items

abbrev pub entries_in : Phase → Option ClosedWindow → List Kept
entries_in (Between home) closed = closed_entries closed
entries_in (InWindow k hub) closed = hub.history
entries_in Moving closed = []

abbrev pub window_entries_told : LiveState → List Kept
window_entries_told s = entries_in s.phase s.closed

-- the window of the script of which these entries tell
abbrev pub window_told : LiveState → Option WindowText
window_told s = option_and_then (λ k. slice_get s.script.windows.items k) (number_told s)

-- the text is the line of this entry in the trace of its window
pub record IsEntryText (s : LiveState) (kept : Kept) (text : List ℕ) : Type 0 where
  pub window : WindowText
  pub of : window_told s ≡ Some window
  pub line : text ≡ trace_line s.script window kept

-- the text is that of the entry at this place
pub record HasToldEntry (s : LiveState) (at : ℕ) (t : LiveState) : Type 0 where
  pub kept : Kept
  pub text : List ℕ
  pub entry : slice_get (window_entries_told s) at ≡ Some kept
  pub its : IsEntryText s kept text
  pub is : t ≡ record s { text = text }

-- the first reason against a text of this, where it is there
abbrev pub first_against_text : {A : Type 0} → Option A → Option NotTold
first_against_text None = Some Absent
first_against_text (Some x) = None

-- why the text of the window closed last is not made
abbrev pub MayNotTellWindow : LiveState → NotTold → Type 0
MayNotTellWindow s why = IsRefusedFor NoMemory (first_against_text s.closed) why

-- why the text of the entry at this place is not made
abbrev pub MayNotTellEntry : LiveState → ℕ → NotTold → Type 0
MayNotTellEntry s at why =
    IsRefusedFor NoMemory (first_against_text (slice_get (window_entries_told s) at)) why
