-- Events of worked windows: where they stand in the line, and which run is lost.
use Rattle.failure_serialization.proofs.Prelude.{Access, Acquired, Kept, List, Mark, None, Ran, Released, Scheduled, Some, [], event_place, lost_run, refl, run_no, untouched, ℕ, ◌∷◌, ◌≡◌}
use Rattle.history_book.specs.declared.entries.Cause.TheVariants.{MustDown}
use Rattle.history_book.specs.declared.entries.Entry.TheVariants.{Doomed}
use Rattle.home_types.specs.declared.commands.View.TheVariants.{Down, Up}
use Rattle.home_types.specs.declared.commands.View.{View}

abbrev done : ℕ → Access
done r = record { run = run_no r; status = Released; view = Some Up; wrote = Some 1; from = 0; to = 0 }

abbrev at_work : ℕ → View → Access
at_work r view = record { run = run_no r; status = Acquired; view = Some view; wrote = None; from = 0; to = 0 }

abbrev waiting : ℕ → Access
waiting r = record { run = run_no r; status = Scheduled; view = None; wrote = None; from = 0; to = 0 }

abbrev ran : ℕ → Mark
ran r = untouched (Ran (run_no r))

-- the history dooms run 1
abbrev first_doomed : List Kept
first_doomed = record { maker = 1; entry = Doomed (run_no 1) (MustDown 0) } ∷ []

-- a failure after the run's last access stands behind it, and loses nothing
after_last : event_place [] None (done 1 ∷ []) (ran 1 ∷ []) ≡ 1
after_last = refl

none_after_last : lost_run [] (done 1 ∷ []) ≡ None
none_after_last = refl

-- a failure between two accesses of the run stands behind it, and loses it
between : event_place [] None (at_work 1 Up ∷ []) (ran 1 ∷ []) ≡ 1
between = refl

lost_between : lost_run [] (at_work 1 Up ∷ []) ≡ Some (run_no 1)
lost_between = refl

-- a run that is doomed already is not lost, nor one that sees the device down
none_doomed : lost_run first_doomed (at_work 1 Up ∷ []) ≡ None
none_doomed = refl

none_down : lost_run [] (at_work 1 Down ∷ []) ≡ None
none_down = refl

-- the first access of run 1 dies: the failure stands before it, whether the answer is noted already or not
at_first : event_place [] (Some (run_no 1)) (waiting 1 ∷ []) (ran 1 ∷ []) ≡ 0
at_first = refl

at_first_noted : event_place [] (Some (run_no 1)) (at_work 1 Down ∷ []) (ran 1 ∷ []) ≡ 0
at_first_noted = refl

none_at_first : lost_run [] (waiting 1 ∷ []) ≡ None
none_at_first = refl

-- run 2 waits behind run 1 and run 3, which has nothing to do there
before_waiting : event_place [] None (at_work 1 Up ∷ waiting 2 ∷ []) (ran 1 ∷ ran 3 ∷ ran 2 ∷ []) ≡ 2
before_waiting = refl

-- a doomed run is passed over
over_doomed : event_place first_doomed None (waiting 1 ∷ waiting 2 ∷ []) (ran 1 ∷ ran 2 ∷ []) ≡ 1
over_doomed = refl

died_doomed : event_place first_doomed (Some (run_no 1)) (waiting 1 ∷ waiting 2 ∷ []) (ran 1 ∷ ran 2 ∷ []) ≡ 1
died_doomed = refl

-- under the weak model no run has an access
weakly : event_place [] None [] (ran 1 ∷ []) ≡ 1
weakly = refl
