-- The rule of the board's cell, and its steps.
use Rattle.status_board.specs.Publishings.{Rises, StartsWith, last_of}
use Rattle.status_board.specs.declared.day_counts.Counts.{Counts}
use Rattle.status_board.specs.declared.passes.PassView.{PassView}
use Rattle.std.specs.Prelude.{List, [], false, true, ℕ, ◌++◌, ◌∷◌, ◌≡◌}
use lib.ListN.{get_elem?}
use mathlib.Core.Option.{some}

-- the pass that publishes
abbrev pub publishing : List Counts → PassView
publishing seen = record { publishes = true; seen = seen; met = [] }

-- a pass that watches
abbrev pub watching : List Counts → PassView
watching seen = record { publishes = false; seen = seen; met = [] }

-- the first, with the list of the second to compare
abbrev pub meeting : PassView → PassView → PassView
meeting v w = record { publishes = v.publishes; seen = v.seen; met = w.seen }

-- one pass at most publishes, and has seen the whole list; every pass has seen a beginning of it
pub record KnowsABeginning (seat : ℕ) (log : List Counts) (by : ℕ) (v : PassView) : Type 0 where
  pub seated : v.publishes ≡ true → by ≡ seat
  pub all : v.publishes ≡ true → v.seen ≡ log
  pub seen : StartsWith log v.seen
  pub met : StartsWith log v.met

-- there is one list of publishings, whose numbers never fall; the cell holds its last entry
pub record ViewsAreKept (x : Counts) (views : List PassView) : Type 0 where
  pub seat : ℕ
  pub log : List Counts
  pub last : x ≡ last_of log
  pub rises : Rises log
  pub fits : (by : ℕ) (v : PassView) → get_elem? views by ≡ some v → KnowsABeginning seat log by v

-- the list grows by what is written
abbrev pub HasPublished : PassView → Counts → Counts → PassView → Type 0
HasPublished v x y w = w ≡ publishing (v.seen ++ y ∷ [])

-- what is found is the last entry of a list that begins with what was seen before and with what was
-- taken in; who publishes had seen it all
pub record HasLooked (v : PassView) (x y : Counts) (w : PassView) : Type 0 where
  pub plain : w ≡ record { publishes = v.publishes; seen = w.seen; met = [] }
  pub grows : StartsWith w.seen v.seen
  pub same : v.publishes ≡ true → w.seen ≡ v.seen
  pub met : StartsWith w.seen v.met
  pub found : x ≡ last_of w.seen
  pub rises : Rises w.seen
