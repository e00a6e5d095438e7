-- Strict isolation.
use Rattle.history_book.specs.Readings.{Reading, did}
use Rattle.history_book.specs.Settings.{Setting, devices_of, run_numbers}
use Rattle.history_book.specs.WellFormed.{each_entry}
use Rattle.history_book.specs.declared.entries.End.TheVariants.{Committed}
use Rattle.history_book.specs.declared.entries.Entry.TheVariants.{Did, Ended, Undid}
use Rattle.history_book.specs.declared.entries.Entry.{Entry}
use Rattle.home_types.specs.Numbers.{RunId}
use Rattle.lock_leasing.specs.Waits.{model_bars}
use Rattle.lock_leasing.specs.Words.{stamp_of}
use Rattle.std.specs.List.{list_all}
use Rattle.std.specs.Prelude.{Bool, IsTrue, List, is_some, nat_lt, not, true, ◌&&◌, ◌||◌}

-- a was placed before b
abbrev pub is_placed_before : Reading → RunId → RunId → Bool
is_placed_before n a b = is_some (n.run a).placed && nat_lt (stamp_of n a) (stamp_of n b)

-- each run that was placed before r, and for which the model does not let r go on, has ended
abbrev pub is_alone : Setting → Reading → RunId → Bool
is_alone w n r =
    list_all (λ a. not (is_placed_before n a r && model_bars w.mode.model w.runs r a)
    || is_some (n.run a).ended) (run_numbers w)

-- a run acts alone, and the devices that a committed run has touched are counted up at its end
abbrev pub is_isolated : Setting → Reading → Entry → Bool
is_isolated w n (Did r c a) = is_alone w n r.0
is_isolated w n (Undid r d drove) = is_alone w n r.0
is_isolated w n (Ended r Committed) = list_all (λ d. not (did n r.0 d) || n.up d) (devices_of w r.0)
is_isolated w n e = true

abbrev pub IsStrict : Setting → List Entry → Type 0
IsStrict w history = IsTrue (each_entry w (is_isolated w) history)
