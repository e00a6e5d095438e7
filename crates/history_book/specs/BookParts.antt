-- What is true of the parts of each book.
use Rattle.history_book.specs.Progress.{nothing_done, progress_in}
use Rattle.history_book.specs.declared.entries.Kept.{Kept}
use Rattle.history_book.specs.declared.progress.RunProgress.{RunProgress}
use Rattle.home_types.specs.Limits.{most_runs}
use Rattle.home_types.specs.Listed.{Listed}
use Rattle.home_types.specs.Numbers.{RunId}
use Rattle.std.specs.Prelude.{List, length, slice_index_or, suc, ◌+◌, ◌<◌, ◌≡◌}

-- what is known of each run, by its number, is what the entries say; where there is an entry, or
-- room for one, each run that a window may have has a place
pub record IsReadAlong (book : Listed Kept) (known : List RunProgress) : Type 0 where
  pub size : 0 < length book.items + book.spare → length known ≡ suc most_runs
  pub each : (r : RunId) → r < length known
      → slice_index_or known r nothing_done ≡ progress_in book.items r
