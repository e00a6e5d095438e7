-- The texts and entries of a home as a C program reads them.
use Rattle.day_report.specs.Days.{head_text}
use Rattle.history_book.specs.declared.entries.Kept.{Kept}
use Rattle.home_states.specs.LiveHomes.{LiveState}
use Rattle.home_states.specs.Texts.{HasToldWindow, window_entries_told}
use Rattle.lazbendix_c.specs.Told.{entry_as_told}
use Rattle.lazbendix_c.specs.declared.told_entries.ToldEntry.{ToldEntry}
use Rattle.std.specs.Prelude.{List, Some, drop, length, min, not, slice_get, take, ℕ, ◌++◌, ◌-◌, ◌==◌, ◌≡◌}

-- the text is that of the window closed last, with its trace where the number is not 0, and so long
pub record HasToldRecord (s : LiveState) (trace len : ℕ) (t : LiveState) : Type 0 where
  pub told : HasToldWindow s (not (trace == 0)) t
  pub size : len ≡ length t.text

-- the text is the head of a record of the home's windows, and so long
pub record HasToldHead (s : LiveState) (len : ℕ) (t : LiveState) : Type 0 where
  pub told : t ≡ record s { text = head_text s.mode }
  pub size : len ≡ length t.text

-- so much of the text was copied into the room, from this byte on
pub record HasRead (text : List ℕ) (from : ℕ) (room after : List ℕ) (got : ℕ) : Type 0 where
  pub count : got ≡ min (length text - from) (length room)
  pub copied : after ≡ take got (drop from text) ++ drop got room

-- this is the entry at the place, and its maker
pub record IsEntryAt (s : LiveState) (at : ℕ) (told : ToldEntry) (maker : ℕ) : Type 0 where
  pub kept : Kept
  pub entry : slice_get (window_entries_told s) at ≡ Some kept
  pub told_is : told ≡ entry_as_told kept.entry
  pub maker_is : maker ≡ kept.maker
