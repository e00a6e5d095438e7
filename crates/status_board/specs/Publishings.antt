-- Lists of publishings.
use Rattle.status_board.specs.declared.day_counts.Counts.{Counts}
use Rattle.std.specs.Prelude.{List, [], false, ◌++◌, ◌∷◌, ◌≡◌, ◌≤◌}

-- before anything was published: zeros, and not over
abbrev pub nothing : Counts
nothing = record { windows = 0; runs = 0; committed = 0; aborted = 0; over = false }

-- the last of these, or c where there is none
abbrev pub last_from : Counts → List Counts → Counts
last_from c [] = c
last_from c (x ∷ xs) = last_from x xs

-- the last publishing, or nothing where there is none
abbrev pub last_of : List Counts → Counts
last_of list = last_from nothing list

-- no number of the second is smaller
abbrev pub IsNotBelow : Counts → Counts → Type 0
IsNotBelow c d =
    (c.windows ≤ d.windows) × (c.runs ≤ d.runs) × (c.committed ≤ d.committed)
    × (c.aborted ≤ d.aborted)

-- the numbers never fall in the list, and its first are not below c
abbrev pub RisesFrom : Counts → List Counts → Type 0
RisesFrom c [] = Unit {0}
RisesFrom c (x ∷ xs) = IsNotBelow c x × RisesFrom x xs

-- the numbers never fall in the list
abbrev pub Rises : List Counts → Type 0
Rises list = RisesFrom nothing list

-- the second list is a beginning of the first
abbrev pub StartsWith : List Counts → List Counts → Type 0
StartsWith all seen = (rest : List Counts) × (all ≡ seen ++ rest)
