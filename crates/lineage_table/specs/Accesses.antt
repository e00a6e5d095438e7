-- Words on the accesses to one device, in line order.
use Rattle.home_types.specs.Numbers.{RunId}
use Rattle.home_types.specs.declared.numbers.RunNo.{RunNo}
use Rattle.lineage_table.specs.declared.accesses.Access.{Access}
use Rattle.lineage_table.specs.declared.accesses.Status.TheVariants.{Acquired, Released, Scheduled}
use Rattle.lineage_table.specs.declared.accesses.Status.{Status}
use Rattle.std.specs.List.{AllPairs, list_any}
use Rattle.std.specs.Prelude.{Bool, IsTrue, List, None, Option, Some, [], false, filter, find, fold, if◌then◌else◌, is_some, length, not, option_and_then, option_map, position, slice_get, true, unwrap_or, ℕ, ◌++◌, ◌==◌, ◌||◌, ◌∷◌, ◌≡◌}

-- How an access stands

abbrev pub is_released : Status → Bool
is_released Released = true
is_released Acquired = false
is_released Scheduled = false

abbrev pub is_acquired : Status → Bool
is_acquired Released = false
is_acquired Acquired = true
is_acquired Scheduled = false

abbrev pub is_scheduled : Status → Bool
is_scheduled Released = false
is_scheduled Acquired = false
is_scheduled Scheduled = true

abbrev pub some_acquired : List Access → Bool
some_acquired accesses = list_any (λ x. is_acquired x.status) accesses

abbrev pub some_scheduled : List Access → Bool
some_scheduled accesses = list_any (λ x. is_scheduled x.status) accesses

-- The access of a run

-- the access is the run's
abbrev pub is_of : RunId → Access → Bool
is_of r x = x.run.0 == r

abbrev pub has_access : RunId → List Access → Bool
has_access r accesses = list_any (is_of r) accesses

-- the access of the run, where it has one
abbrev pub access_of : RunId → List Access → Option Access
access_of r accesses = find (is_of r) accesses

-- how the access of the run stands
abbrev pub status_of : RunId → List Access → Option Status
status_of r accesses = option_map (λ x. x.status) (access_of r accesses)

-- the value that the run wrote
abbrev pub written_by : RunId → List Access → Option ℕ
written_by r accesses = option_and_then (λ x. x.wrote) (access_of r accesses)

-- the accesses before that of the run
abbrev pub accesses_before : RunId → List Access → List Access
accesses_before r [] = []
accesses_before r (x ∷ xs) = if is_of r x then [] else (x ∷ accesses_before r xs)

-- the accesses behind that of the run
abbrev pub accesses_behind : RunId → List Access → List Access
accesses_behind r [] = []
accesses_behind r (x ∷ xs) = if is_of r x then xs else accesses_behind r xs

-- the accesses behind that of this run, all where no run is named
abbrev pub behind_run : Option RunNo → List Access → List Access
behind_run None accesses = accesses
behind_run (Some r) accesses = accesses_behind r.0 accesses

-- the run of the access immediately behind that of the run
abbrev pub run_behind : RunId → List Access → Option RunNo
run_behind r accesses = option_map (λ x. x.run) (slice_get (accesses_behind r accesses) 0)

-- the accesses of the other runs
abbrev pub accesses_without : RunId → List Access → List Access
accesses_without r accesses = filter (λ x. not (is_of r x)) accesses

-- the access of the run is changed
abbrev pub with_change : RunId → (Access → Access) → List Access → List Access
with_change r change [] = []
with_change r change (x ∷ xs) = if is_of r x then (change x ∷ xs) else (x ∷ with_change r change xs)

-- the access stands immediately before that of the run, last where the run has none
abbrev pub put_before_run : RunId → Access → List Access → List Access
put_before_run r access [] = access ∷ []
put_before_run r access (x ∷ xs) =
    if is_of r x then (access ∷ x ∷ xs) else (x ∷ put_before_run r access xs)

-- the access stands immediately before that of this run, last where no run is named
abbrev pub put_access_before : Option RunNo → Access → List Access → List Access
put_access_before None access accesses = accesses ++ access ∷ []
put_access_before (Some r) access accesses = put_before_run r.0 access accesses

-- the place, counted from 0, where it will stand
abbrev pub place_before : Option RunNo → List Access → Option ℕ
place_before None accesses = Some (length accesses)
place_before (Some r) accesses = position (is_of r.0) accesses

-- the run of the first access before that of r of which the test holds
abbrev pub first_before : (Access → Bool) → RunId → List Access → Option RunNo
first_before test r accesses = option_map (λ x. x.run) (find test (accesses_before r accesses))

-- it is found by a test that gives these answers
abbrev pub IsFirstBefore : (Access → Bool → Type 0) → RunId → List Access → Option RunNo → Type 0
IsFirstBefore answers r accesses found =
    (test : Access → Bool) → ((x : Access) (b : Bool) → answers x b → b ≡ test x)
    → found ≡ first_before test r accesses

-- What was written

-- the value that stands: the last one written, else the committed one
abbrev pub value_standing : ℕ → List Access → ℕ
value_standing committed accesses = fold (λ value x. unwrap_or x.wrote value) committed accesses

-- the run of the last access that has a written value
abbrev pub effective_writer : List Access → Option RunNo
effective_writer accesses =
    fold (λ writer x. if is_some x.wrote then Some x.run else writer) None accesses

-- Discipline

-- of two accesses, the one in front is released or the one behind it is scheduled
abbrev pub AreInTurn : Access → Access → Type 0
AreInTurn x y = IsTrue (is_released x.status || is_scheduled y.status)

abbrev pub AreOfTwoRuns : Access → Access → Type 0
AreOfTwoRuns x y = IsTrue (not (is_of x.run.0 y))

-- the released accesses stand before the acquired one, and that before the scheduled ones; at most
-- one is acquired; no run has two
pub record IsDisciplined (accesses : List Access) : Type 0 where
  pub in_turn : AllPairs AreInTurn accesses
  pub one_each : AllPairs AreOfTwoRuns accesses
