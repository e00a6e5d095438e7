-- A history with something altered.
use Rattle.history_book.specs.declared.entries.Entry.{Entry}
use Rattle.worked_windows.proofs.Prelude.{List, [], drop, slice_set, take, ℕ, ◌++◌, ◌+◌, ◌∷◌}

-- the list with another entry at the place
abbrev pub replaced : ℕ → Entry → List Entry → List Entry
replaced k e history = slice_set history k e

-- the list without the entry at the place
abbrev pub left_out : ℕ → List Entry → List Entry
left_out k history = take k history ++ drop (k + 1) history

-- the list with one entry more before the place
abbrev pub put_in : ℕ → Entry → List Entry → List Entry
put_in k e history = take k history ++ e ∷ drop k history

-- the entries at the place and behind it stand the other way round
abbrev pub exchanged : ℕ → List Entry → List Entry
exchanged k history = take k history ++ other_way (drop k history)
  where
    other_way : List Entry → List Entry
    other_way [] = []
    other_way (e ∷ []) = e ∷ []
    other_way (e ∷ f ∷ es) = f ∷ e ∷ es
