-- Lineage tables of worked windows with a doomed run or a skipped command: at each point the table that represents the configuration,
-- put together whole, and altered tables that do not. A table's values were found by the rule and, apart from it, by the calls of a table kept elsewhere.
use Rattle.worked_windows.proofs.Prelude.{Always, Bool, Grips, List, None, Option, Reading, Some, [], ap, arith, false, if◌then◌else◌, is_doomed, length, map, no_grips, option_map, point, put, reading, refl, subst, suc, sym, take, true, view_of, zero, ℕ, ◌<◌, ◌∷◌, ◌≡◌}
use Rattle.worked_windows.proofs.FailurePassesDoomedRun as failure_passes_doomed_run
use Rattle.worked_windows.proofs.LeaseOverdue as lease_overdue
use Rattle.worked_windows.proofs.LostBetweenAccesses as lost_between_accesses
use Rattle.worked_windows.proofs.SkipReleasesWhatWasTouched as skip_releases_what_was_touched
use Rattle.worked_windows.proofs.SkipWhereNothingWasTouched as skip_where_nothing_was_touched
use Rattle.worked_windows.proofs.SkipWithMoreToCome as skip_with_more_to_come
use Rattle.worked_windows.proofs.SkippedUnderLiveUndo as skipped_under_live_undo
use Rattle.worked_windows.proofs.UndoDies as undo_dies
use Rattle.worked_windows.proofs.UndoDrivesLiveWriter as undo_drives_live_writer
use Rattle.history_book.specs.Gaps.{split_of}
use Rattle.history_book.specs.Plans.{planned_end, planned_start}
use Rattle.home_types.specs.declared.commands.View.TheVariants.{Down, Up}
use Rattle.home_types.specs.declared.commands.View.{View}
use Rattle.lineage_table.specs.Accesses.{is_acquired}
use Rattle.lineage_table.specs.Lineages.{LineageState, lineage_at}
use Rattle.lineage_table.specs.declared.accesses.Access.{Access}
use Rattle.lineage_table.specs.declared.accesses.Status.TheVariants.{Acquired, Released, Scheduled}
use Rattle.lock_leasing.specs.declared.purposes.Purpose.TheVariants.{Commands, Undoes}
use Rattle.lock_leasing.specs.declared.purposes.Purpose.{Purpose}
use Rattle.lock_leasing.specs.Order.{committed_value}
use Rattle.lock_leasing.specs.Tables.{EachTellsOfRun, IsLineageOf, Represents, TellsOfRun, may_be_passed, runs_with_access, some_in_use, status_by_answers, view_when}
use Rattle.lock_leasing.specs.Words.{has_touched, is_undone, overdue_for}
use Rattle.worked_windows.proofs.OtherRecords.{differ}
use Rattle.worked_windows.proofs.Words.{Arrived, Did, Doomed, Entry, Fine, Placed, Revoked, Set, Setting, device_no, run_no}

-- Tables

-- a released access
abbrev released : ℕ → View → Option ℕ → ℕ → ℕ → Access
released r view wrote from to = record { run = run_no r; status = Released; view = Some view; wrote = wrote; from = from; to = to }

-- a scheduled one
abbrev scheduled : ℕ → ℕ → ℕ → Access
scheduled r from to = record { run = run_no r; status = Scheduled; view = None; wrote = None; from = from; to = to }

abbrev device : ℕ → List Access → ℕ → Bool → LineageState
device committed accesses room up = record { committed = committed; accesses = accesses; room = room; up = up }

-- the grip of the device is out, and no other one
abbrev out : ℕ → ℕ → Purpose → Grips
out d r purpose = put no_grips d (Some (record { maker = r; purpose = purpose }))

-- the table represents the configuration at this point of the history, with these grips out
abbrev IsTableAt : Setting → List Entry → Grips → List LineageState → Type 0
IsTableAt w history g table = Represents (point w (reading w history) g) table

-- What an access tells

-- the access with what its run tells, but for a view
abbrev told_by_run : Setting → Reading → Grips → ℕ → Access → Access
told_by_run w n g d x = record x {
  status = status_by_answers (point w n g) x.run.0 d;
  wrote = if is_undone n g x.run.0 d then None else ((n.run x.run.0).on d).wrote;
  from = planned_start (n.run x.run.0).planned d;
  to = planned_end (n.run x.run.0).planned d;
}

-- that of a run that is not doomed
sound : {w : Setting} {n : Reading} {g : Grips} {d : ℕ} {x : Access} {rest : List Access} → is_doomed n x.run.0 ≡ false
    → x ≡ record (told_by_run w n g d x) { view = option_map view_when (view_of n x.run.0 d) } → TellsOfRun (point w n g) d x rest
sound is told = record {
  status = λ bound. ap (λ y. y.status) told;
  free = λ may. absurd (cc);
  passed = λ may used. absurd (cc);
  view = λ bound. ap (λ y. y.view) told;
  wrote = ap (λ y. y.wrote) told;
  from = ap (λ y. y.from) told;
  to = ap (λ y. y.to) told;
}

-- that of a doomed run that has touched the device
doomed : {w : Setting} {n : Reading} {g : Grips} {d : ℕ} {x : Access} {rest : List Access} → is_doomed n x.run.0 ≡ true
    → has_touched n g x.run.0 d ≡ true → x ≡ told_by_run w n g d x → TellsOfRun (point w n g) d x rest
doomed is touched told = record {
  status = λ bound. ap (λ y. y.status) told;
  free = λ may. absurd (cc);
  passed = λ may used. absurd (cc);
  view = λ bound. absurd (cc);
  wrote = ap (λ y. y.wrote) told;
  from = ap (λ y. y.from) told;
  to = ap (λ y. y.to) told;
}

-- that of a doomed run that has not touched the device: it may have been passed
passed : {w : Setting} {n : Reading} {g : Grips} {d : ℕ} {x : Access} {rest : List Access} → is_doomed n x.run.0 ≡ true
    → may_be_passed n g x.run.0 d ≡ true → is_acquired x.status ≡ false → (some_in_use rest ≡ true → x.status ≡ Released)
    → x ≡ record (told_by_run w n g d x) { status = x.status } → TellsOfRun (point w n g) d x rest
passed is may free released told = record {
  status = λ bound. absurd (cc);
  free = λ bound. free;
  passed = λ bound used. released used;
  view = λ bound. absurd (cc);
  wrote = ap (λ y. y.wrote) told;
  from = ap (λ y. y.from) told;
  to = ap (λ y. y.to) told;
}

-- The table of a home of four devices

each_of_four : (P : ℕ → Type 0) → P 0 → P 1 → P 2 → P 3 → (d : ℕ) → d < 4 → P d
each_of_four P a b c e zero below = a
each_of_four P a b c e (suc zero) below = b
each_of_four P a b c e (suc (suc zero)) below = c
each_of_four P a b c e (suc (suc (suc zero))) below = e
each_of_four P a b c e (suc (suc (suc (suc d)))) below = absurd (omega (arith, below))

-- what a lineage tells but for its accesses: the committed value, the runs with an access, and whether the device is counted up
abbrev IsOfDevice : Setting → Reading → ℕ → LineageState → Type 0
IsOfDevice w n d s = ◌≡◌ {A = ℕ × (List ℕ × Bool)} (s.committed, (map (λ x. x.run.0) s.accesses, s.up)) (committed_value w n d, (runs_with_access w n d n.line, n.up d))

lineage : {w : Setting} {n : Reading} {g : Grips} {d : ℕ} {s : LineageState} → IsOfDevice w n d s → EachTellsOfRun (point w n g) d s.accesses → IsLineageOf (point w n g) d s
lineage is each = record { committed = ap (λ y. y.0) is; runs = ap (λ y. y.1.0) is; each = each; up = ap (λ y. y.1.1) is }

-- .. from what the accesses tell, device by device
represents : {w : Setting} {n : Reading} {g : Grips} {a b c e : LineageState} → length w.first ≡ 4
    → IsOfDevice w n 0 a → IsOfDevice w n 1 b → IsOfDevice w n 2 c → IsOfDevice w n 3 e
    → EachTellsOfRun (point w n g) 0 a.accesses → EachTellsOfRun (point w n g) 1 b.accesses → EachTellsOfRun (point w n g) 2 c.accesses → EachTellsOfRun (point w n g) 3 e.accesses
    → Represents (point w n g) (a ∷ b ∷ c ∷ e ∷ [])
represents {w = w} {n = n} {g = g} {a = a} {b = b} {c = c} {e = e} home of_a of_b of_c of_e told_a told_b told_c told_e = record {
  devices = sym home;
  each = λ d below. each_of_four (λ k. IsLineageOf (point w n g) k (lineage_at (a ∷ b ∷ c ∷ e ∷ []) k))
      (lineage of_a told_a) (lineage of_b told_b) (lineage of_c told_c) (lineage of_e told_e) d (subst (λ k. d < k) home below);
}

-- The window undo-dies

-- run 1 is doomed: its accesses are released, and its write on the lamp stands
writer_doomed : IsTableAt undo_dies.window (take 5 undo_dies.history) no_grips (
    device 0 (released 1 Up (Some 1) 0 100 ∷ []) 0 true ∷ device 0 (released 1 Up None 100 200 ∷ []) 0 true
    ∷ device 0 [] 0 true ∷ device 18 [] 0 true ∷ [])
unfolding split_of
writer_doomed = represents refl refl refl refl refl (doomed refl refl refl, tt) (doomed refl refl refl, tt) tt tt

-- its undo of the lamp is out
undo_out : IsTableAt undo_dies.window (take 5 undo_dies.history) (out 0 1 (Undoes 0)) (
    device 0 (released 1 Up None 0 100 ∷ []) 0 true ∷ device 0 (released 1 Up None 100 200 ∷ []) 0 true
    ∷ device 0 [] 0 true ∷ device 18 [] 0 true ∷ [])
unfolding split_of
undo_out = represents refl refl refl refl refl (doomed refl refl refl, tt) (doomed refl refl refl, tt) tt tt

-- the lamp failed under the undo
undo_dropped : IsTableAt undo_dies.window (take 7 undo_dies.history) no_grips (
    device 0 (released 1 Up None 0 100 ∷ []) 0 false ∷ device 0 (released 1 Up None 100 200 ∷ []) 0 true
    ∷ device 0 [] 0 true ∷ device 18 [] 0 true ∷ [])
unfolding split_of
undo_dropped = represents refl refl refl refl refl (doomed refl refl refl, tt) (doomed refl refl refl, tt) tt tt

-- run 1 is aborted: its accesses are gone
writer_left : IsTableAt undo_dies.window (take 8 undo_dies.history) no_grips (
    device 0 [] 1 false ∷ device 0 [] 1 true
    ∷ device 0 [] 0 true ∷ device 18 [] 0 true ∷ [])
unfolding split_of
writer_left = represents refl refl refl refl refl tt tt tt tt

-- The window skipped-under-live-undo

-- run 2 sees the heater down behind the write of run 1, which is not doomed yet
reader_sees_down : IsTableAt skipped_under_live_undo.window (take 7 skipped_under_live_undo.history) no_grips (
    device 0 [] 0 true ∷ device 0 (scheduled 1 100 200 ∷ []) 0 true
    ∷ device 0 [] 0 true ∷ device 18 (released 1 Up (Some 20) 0 100 ∷ released 2 Down None 0 100 ∷ []) 0 false ∷ [])
unfolding split_of
reader_sees_down = represents refl refl refl refl refl tt (sound refl refl, tt) tt (sound refl refl, (sound refl refl, tt))

-- run 2 has committed and wrote nothing: the write of run 1, now doomed, stands
write_outlives_commit : IsTableAt skipped_under_live_undo.window (take 11 skipped_under_live_undo.history) no_grips (
    device 0 [] 0 true ∷ device 0 (released 1 Up None 100 200 ∷ []) 0 true
    ∷ device 0 [] 0 true ∷ device 18 (released 1 Up (Some 20) 0 100 ∷ []) 1 true ∷ [])
unfolding split_of
write_outlives_commit = represents refl refl refl refl refl tt (doomed refl refl refl, tt) tt (doomed refl refl refl, tt)

-- its undo of the heater is out
undo_out_behind_none : IsTableAt skipped_under_live_undo.window (take 11 skipped_under_live_undo.history) (out 3 1 (Undoes 18)) (
    device 0 [] 0 true ∷ device 0 (released 1 Up None 100 200 ∷ []) 0 true
    ∷ device 0 [] 0 true ∷ device 18 (released 1 Up None 0 100 ∷ []) 1 true ∷ [])
unfolding split_of
undo_out_behind_none = represents refl refl refl refl refl tt (doomed refl refl refl, tt) tt (doomed refl refl refl, tt)

write_undone : IsTableAt skipped_under_live_undo.window (take 12 skipped_under_live_undo.history) no_grips (
    device 0 [] 0 true ∷ device 0 (released 1 Up None 100 200 ∷ []) 0 true
    ∷ device 0 [] 0 true ∷ device 18 (released 1 Up None 0 100 ∷ []) 1 true ∷ [])
unfolding split_of
write_undone = represents refl refl refl refl refl tt (doomed refl refl refl, tt) tt (doomed refl refl refl, tt)

both_ended : IsTableAt skipped_under_live_undo.window skipped_under_live_undo.history no_grips (
    device 0 [] 0 true ∷ device 0 [] 1 true
    ∷ device 0 [] 0 true ∷ device 18 [] 2 true ∷ [])
unfolding split_of
both_ended = represents refl refl refl refl refl tt tt tt tt

-- The window undo-drives-live-writer

-- run 2 is doomed by its check of the fan; both writes on the heater stand
second_writer_doomed : IsTableAt undo_drives_live_writer.window (take 8 undo_drives_live_writer.history) no_grips (
    device 0 (scheduled 1 100 200 ∷ []) 0 true ∷ device 0 (released 2 Up None 100 200 ∷ []) 0 true
    ∷ device 0 [] 0 true ∷ device 18 (released 1 Up (Some 20) 0 100 ∷ released 2 Up (Some 25) 0 100 ∷ []) 0 true ∷ [])
unfolding split_of
second_writer_doomed = represents refl refl refl refl refl (sound refl refl, tt) (doomed refl refl refl, tt) tt (sound refl refl, (doomed refl refl refl, tt))

-- its undo drives what run 1 wrote, which is live
undo_out_behind_live_writer : IsTableAt undo_drives_live_writer.window (take 8 undo_drives_live_writer.history) (out 3 2 (Undoes 20)) (
    device 0 (scheduled 1 100 200 ∷ []) 0 true ∷ device 0 (released 2 Up None 100 200 ∷ []) 0 true
    ∷ device 0 [] 0 true ∷ device 18 (released 1 Up (Some 20) 0 100 ∷ released 2 Up None 0 100 ∷ []) 0 true ∷ [])
unfolding split_of
undo_out_behind_live_writer = represents refl refl refl refl refl (sound refl refl, tt) (doomed refl refl refl, tt) tt (sound refl refl, (doomed refl refl refl, tt))

second_write_undone : IsTableAt undo_drives_live_writer.window (take 9 undo_drives_live_writer.history) no_grips (
    device 0 (scheduled 1 100 200 ∷ []) 0 true ∷ device 0 (released 2 Up None 100 200 ∷ []) 0 true
    ∷ device 0 [] 0 true ∷ device 18 (released 1 Up (Some 20) 0 100 ∷ released 2 Up None 0 100 ∷ []) 0 true ∷ [])
unfolding split_of
second_write_undone = represents refl refl refl refl refl (sound refl refl, tt) (doomed refl refl refl, tt) tt (sound refl refl, (doomed refl refl refl, tt))

-- run 2 is aborted: the access of run 1 is left alone
second_writer_left : IsTableAt undo_drives_live_writer.window (take 10 undo_drives_live_writer.history) no_grips (
    device 0 (scheduled 1 100 200 ∷ []) 0 true ∷ device 0 [] 1 true
    ∷ device 0 [] 0 true ∷ device 18 (released 1 Up (Some 20) 0 100 ∷ []) 1 true ∷ [])
unfolding split_of
second_writer_left = represents refl refl refl refl refl (sound refl refl, tt) tt tt (sound refl refl, tt)

-- run 1 commits: what it wrote is the committed value
first_writer_committed : IsTableAt undo_drives_live_writer.window undo_drives_live_writer.history no_grips (
    device 1 [] 1 true ∷ device 0 [] 1 true
    ∷ device 0 [] 0 true ∷ device 20 [] 2 true ∷ [])
unfolding split_of
first_writer_committed = represents refl refl refl refl refl tt tt tt tt

-- The window failure-passes-doomed-run: run 1 is doomed before it touches the lamp, and run 2 takes the lamp past it

-- while nobody behind it has used the lamp, its access there may stand as scheduled ..
not_passed_yet : IsTableAt failure_passes_doomed_run.window (take 7 failure_passes_doomed_run.history) no_grips (
    device 0 (scheduled 1 200 300 ∷ scheduled 2 0 100 ∷ []) 0 true ∷ device 0 (released 1 Up None 100 200 ∷ []) 0 true
    ∷ device 18 (released 1 Up (Some 20) 0 100 ∷ []) 0 true ∷ device 0 (scheduled 2 100 200 ∷ []) 0 true ∷ [])
unfolding split_of
not_passed_yet = represents refl refl refl refl refl (passed refl refl refl (λ used. absurd (cc)) refl, (sound refl refl, tt)) (doomed refl refl refl, tt) (doomed refl refl refl, tt) (sound refl refl, tt)

-- .. or as released
released_ahead : IsTableAt failure_passes_doomed_run.window (take 7 failure_passes_doomed_run.history) no_grips (
    device 0 (released 1 Down None 200 300 ∷ scheduled 2 0 100 ∷ []) 0 true ∷ device 0 (released 1 Up None 100 200 ∷ []) 0 true
    ∷ device 18 (released 1 Up (Some 20) 0 100 ∷ []) 0 true ∷ device 0 (scheduled 2 100 200 ∷ []) 0 true ∷ [])
unfolding split_of
released_ahead = represents refl refl refl refl refl (passed refl refl refl (λ used. absurd (cc)) refl, (sound refl refl, tt)) (doomed refl refl refl, tt) (doomed refl refl refl, tt) (sound refl refl, tt)

-- run 2 holds the grip of the lamp: neither has an answer there
lamp_out : IsTableAt failure_passes_doomed_run.window (take 7 failure_passes_doomed_run.history) (out 0 2 (Commands 0)) (
    device 0 (scheduled 1 200 300 ∷ scheduled 2 0 100 ∷ []) 0 true ∷ device 0 (released 1 Up None 100 200 ∷ []) 0 true
    ∷ device 18 (released 1 Up (Some 20) 0 100 ∷ []) 0 true ∷ device 0 (scheduled 2 100 200 ∷ []) 0 true ∷ [])
unfolding split_of
lamp_out = represents refl refl refl refl refl (passed refl refl refl (λ used. absurd (cc)) refl, (sound refl refl, tt)) (doomed refl refl refl, tt) (doomed refl refl refl, tt) (sound refl refl, tt)

-- run 2 has used the lamp: the access of run 1 was passed
access_passed : IsTableAt failure_passes_doomed_run.window (take 8 failure_passes_doomed_run.history) no_grips (
    device 0 (released 1 Down None 200 300 ∷ released 2 Up (Some 1) 0 100 ∷ []) 0 true ∷ device 0 (released 1 Up None 100 200 ∷ []) 0 true
    ∷ device 18 (released 1 Up (Some 20) 0 100 ∷ []) 0 true ∷ device 0 (scheduled 2 100 200 ∷ []) 0 true ∷ [])
unfolding split_of
access_passed = represents refl refl refl refl refl (passed refl refl refl (λ used. refl) refl, (sound refl refl, tt)) (doomed refl refl refl, tt) (doomed refl refl refl, tt) (sound refl refl, tt)

-- the lamp has failed since
passed_and_failed : IsTableAt failure_passes_doomed_run.window (take 9 failure_passes_doomed_run.history) no_grips (
    device 0 (released 1 Down None 200 300 ∷ released 2 Up (Some 1) 0 100 ∷ []) 0 false ∷ device 0 (released 1 Up None 100 200 ∷ []) 0 true
    ∷ device 18 (released 1 Up (Some 20) 0 100 ∷ []) 0 true ∷ device 0 (scheduled 2 100 200 ∷ []) 0 true ∷ [])
unfolding split_of
passed_and_failed = represents refl refl refl refl refl (passed refl refl refl (λ used. refl) refl, (sound refl refl, tt)) (doomed refl refl refl, tt) (doomed refl refl refl, tt) (sound refl refl, tt)

-- run 2 has committed: no access stands before its write on the lamp
passed_access_gone : IsTableAt failure_passes_doomed_run.window (take 11 failure_passes_doomed_run.history) no_grips (
    device 1 [] 2 false ∷ device 0 (released 1 Up None 100 200 ∷ []) 0 true
    ∷ device 18 (released 1 Up (Some 20) 0 100 ∷ []) 0 true ∷ device 1 [] 1 true ∷ [])
unfolding split_of
passed_access_gone = represents refl refl refl refl refl tt (doomed refl refl refl, tt) (doomed refl refl refl, tt) tt

passed_run_left : IsTableAt failure_passes_doomed_run.window failure_passes_doomed_run.history no_grips (
    device 1 [] 2 false ∷ device 0 [] 1 true
    ∷ device 18 [] 1 true ∷ device 1 [] 1 true ∷ [])
unfolding split_of
passed_run_left = represents refl refl refl refl refl tt tt tt tt

-- The window lost-between-accesses

-- run 1 has used the lamp and has more to do there: its access is acquired
more_to_do : IsTableAt lost_between_accesses.window (take 3 lost_between_accesses.history) no_grips (
    device 0 (record (released 1 Up (Some 1) 0 300) { status = Acquired } ∷ []) 0 true ∷ device 0 (scheduled 1 100 200 ∷ []) 0 true
    ∷ device 0 [] 0 true ∷ device 18 [] 0 true ∷ [])
unfolding split_of
more_to_do = represents refl refl refl refl refl (sound refl refl, tt) (sound refl refl, tt) tt tt

-- the lamp failed, and run 1 is doomed: it is done with both devices
lost_with_more_to_do : IsTableAt lost_between_accesses.window (take 5 lost_between_accesses.history) no_grips (
    device 0 (released 1 Up (Some 1) 0 300 ∷ []) 0 false ∷ device 0 (scheduled 1 100 200 ∷ []) 0 true
    ∷ device 0 [] 0 true ∷ device 18 [] 0 true ∷ [])
unfolding split_of
lost_with_more_to_do = represents refl refl refl refl refl (doomed refl refl refl, tt) (passed refl refl refl (λ used. absurd (cc)) refl, tt) tt tt

-- The window lease-overdue

-- the lease of run 2 is revoked while it holds the grip of the oven: its access is not passed before the answer comes
revoked_while_out : IsTableAt lease_overdue.window (take 6 lease_overdue.history) (out 2 2 (Commands 0)) (
    device 0 (released 1 Up (Some 1) 0 100 ∷ []) 0 true ∷ device 0 [] 0 true
    ∷ device 0 (scheduled 2 0 100 ∷ scheduled 1 100 200 ∷ []) 0 true ∷ device 18 [] 0 true ∷ [])
unfolding split_of
revoked_while_out = represents refl refl refl refl refl (sound refl refl, tt) tt (doomed refl refl refl, (sound refl refl, tt)) tt

-- That window, where run 2 has two commands on the oven: its lease is revoked while the grip of the second is out

abbrev window_of_two : Setting
window_of_two = record lease_overdue.window {
  runs =
      record { commands = record { device = device_no 0; job = Set 1; when = Always; must = true; ms = 100; takes = 221 } ∷ record { device = device_no 2; job = Set 1; when = Always; must = true; ms = 100; takes = 100 } ∷ []; follows = None }
      ∷ record { commands = record { device = device_no 2; job = Set 0; when = Always; must = true; ms = 100; takes = 100 } ∷ record { device = device_no 2; job = Set 1; when = Always; must = true; ms = 100; takes = 100 } ∷ []; follows = None } ∷ [];
}

abbrev history_of_two : List Entry
history_of_two =
    Arrived (run_no 1) 0
    ∷ Placed (run_no 1) 0 0
    ∷ Arrived (run_no 2) 0
    ∷ Placed (run_no 2) 0 0
    ∷ Did (run_no 2) 0 Fine
    ∷ Did (run_no 1) 0 Fine
    ∷ Doomed (run_no 2) (Revoked (run_no 1) (device_no 2) 220 321) ∷ []

-- run 1 asks for the oven while run 2 holds its grip
lease_is_overdue : overdue_for (point window_of_two (reading window_of_two (take 6 history_of_two)) (out 2 2 (Commands 1))) 1 2 321 ≡ Some 2
unfolding split_of
lease_is_overdue = refl

-- it is doomed, and at work until the answer comes
revoked_at_work : IsTableAt window_of_two history_of_two (out 2 2 (Commands 1)) (
    device 0 (released 1 Up (Some 1) 0 100 ∷ []) 0 true ∷ device 0 [] 0 true
    ∷ device 0 (record (released 2 Up (Some 0) 0 200) { status = Acquired } ∷ scheduled 1 100 200 ∷ []) 0 true ∷ device 18 [] 0 true ∷ [])
unfolding split_of
revoked_at_work = represents refl refl refl refl refl (sound refl refl, tt) tt (doomed refl refl refl, (sound refl refl, tt)) tt

-- Windows with a skipped command: run 1 skips on the lamp, and run 2 stands behind it

-- it has more to do on the lamp: its access stays as it was, scheduled
skipped_with_more_to_come : IsTableAt skip_with_more_to_come.window (take 5 skip_with_more_to_come.history) no_grips (
    device 0 (scheduled 1 0 300 ∷ scheduled 2 0 100 ∷ []) 0 true ∷ device 0 (scheduled 1 100 200 ∷ []) 0 true
    ∷ device 0 (scheduled 2 100 200 ∷ []) 0 true ∷ device 18 [] 0 true ∷ [])
unfolding split_of
skipped_with_more_to_come = represents refl refl refl refl refl (sound refl refl, (sound refl refl, tt)) (sound refl refl, tt) (sound refl refl, tt) tt

-- it has touched the lamp, and that was its last command there: its access is released
skipped_behind_an_access : IsTableAt skip_releases_what_was_touched.window (take 6 skip_releases_what_was_touched.history) no_grips (
    device 0 (released 1 Up (Some 1) 0 200 ∷ scheduled 2 0 100 ∷ []) 0 true ∷ device 0 (scheduled 1 200 300 ∷ []) 0 true
    ∷ device 0 (scheduled 2 100 200 ∷ []) 0 true ∷ device 18 [] 0 true ∷ [])
unfolding split_of
skipped_behind_an_access = represents refl refl refl refl refl (sound refl refl, (sound refl refl, tt)) (sound refl refl, tt) (sound refl refl, tt) tt

-- it had nothing else to do there: its access is gone
skipped_alone : IsTableAt skip_where_nothing_was_touched.window (take 5 skip_where_nothing_was_touched.history) no_grips (
    device 0 (scheduled 2 0 100 ∷ []) 1 true ∷ device 0 (scheduled 1 100 200 ∷ []) 0 true
    ∷ device 0 [] 0 true ∷ device 18 [] 0 true ∷ [])
unfolding split_of
skipped_alone = represents refl refl refl refl refl (sound refl refl, tt) (sound refl refl, tt) tt tt

-- Tables that do not represent the configuration

-- a doomed run has its access still acquired
acquired_though_doomed : IsTableAt lost_between_accesses.window (take 5 lost_between_accesses.history) no_grips (
    device 0 (record (released 1 Up (Some 1) 0 300) { status = Acquired } ∷ []) 0 false ∷ device 0 (scheduled 1 100 200 ∷ []) 0 true
    ∷ device 0 [] 0 true ∷ device 18 [] 0 true ∷ []) → ⊥
unfolding split_of
acquired_though_doomed is = let told : Acquired ≡ Released = (is.each 0 (omega (arith))).each.0.status refl in absurd (cc)

-- a doomed run has used the lamp, and its access is scheduled
scheduled_though_used : IsTableAt undo_dies.window (take 5 undo_dies.history) no_grips (
    device 0 (record (released 1 Up (Some 1) 0 100) { status = Scheduled } ∷ []) 0 true ∷ device 0 (released 1 Up None 100 200 ∷ []) 0 true
    ∷ device 0 [] 0 true ∷ device 18 [] 0 true ∷ []) → ⊥
unfolding split_of
scheduled_though_used is = let told : Scheduled ≡ Released = (is.each 0 (omega (arith))).each.0.status refl in absurd (cc)

-- the access of a doomed run is passed while the grip of its command is out
passed_though_out : IsTableAt lease_overdue.window (take 6 lease_overdue.history) (out 2 2 (Commands 0)) (
    device 0 (released 1 Up (Some 1) 0 100 ∷ []) 0 true ∷ device 0 [] 0 true
    ∷ device 0 (released 2 Down None 0 100 ∷ scheduled 1 100 200 ∷ []) 0 true ∷ device 18 [] 0 true ∷ []) → ⊥
unfolding split_of
passed_though_out is = let told : Released ≡ Scheduled = (is.each 2 (omega (arith))).each.0.status refl in absurd (cc)

-- the access of a doomed run that has touched the oven is released while the grip of its command is out
released_though_out : IsTableAt window_of_two history_of_two (out 2 2 (Commands 1)) (
    device 0 (released 1 Up (Some 1) 0 100 ∷ []) 0 true ∷ device 0 [] 0 true
    ∷ device 0 (released 2 Up (Some 0) 0 200 ∷ scheduled 1 100 200 ∷ []) 0 true ∷ device 18 [] 0 true ∷ []) → ⊥
unfolding split_of
released_though_out is = let told : Released ≡ Acquired = (is.each 2 (omega (arith))).each.0.status refl in absurd (cc)

-- a write is there while its undo is out ..
written_though_undo_out : IsTableAt undo_dies.window (take 5 undo_dies.history) (out 0 1 (Undoes 0)) (
    device 0 (released 1 Up (Some 1) 0 100 ∷ []) 0 true ∷ device 0 (released 1 Up None 100 200 ∷ []) 0 true
    ∷ device 0 [] 0 true ∷ device 18 [] 0 true ∷ []) → ⊥
unfolding split_of
written_though_undo_out is = let told : ◌≡◌ {A = Option ℕ} (Some 1) None = (is.each 0 (omega (arith))).each.0.wrote in absurd (cc)

-- .. and when it is undone
written_though_undone : IsTableAt undo_dies.window (take 7 undo_dies.history) no_grips (
    device 0 (released 1 Up (Some 1) 0 100 ∷ []) 0 false ∷ device 0 (released 1 Up None 100 200 ∷ []) 0 true
    ∷ device 0 [] 0 true ∷ device 18 [] 0 true ∷ []) → ⊥
unfolding split_of
written_though_undone is = let told : ◌≡◌ {A = Option ℕ} (Some 1) None = (is.each 0 (omega (arith))).each.0.wrote in absurd (cc)

-- the lamp is counted up after it failed under the undo
up_though_failed : IsTableAt undo_dies.window (take 7 undo_dies.history) no_grips (
    device 0 (released 1 Up None 0 100 ∷ []) 0 true ∷ device 0 (released 1 Up None 100 200 ∷ []) 0 true
    ∷ device 0 [] 0 true ∷ device 18 [] 0 true ∷ []) → ⊥
unfolding split_of
up_though_failed is = let told : true ≡ false = (is.each 0 (omega (arith))).up in absurd (cc)

-- an access of an aborted run is left
access_of_aborted_run : IsTableAt undo_dies.window (take 8 undo_dies.history) no_grips (
    device 0 (released 1 Up None 0 100 ∷ []) 0 false ∷ device 0 [] 1 true
    ∷ device 0 [] 0 true ∷ device 18 [] 0 true ∷ []) → ⊥
unfolding split_of
access_of_aborted_run is = let told : ◌≡◌ {A = List ℕ} (1 ∷ []) [] = (is.each 0 (omega (arith))).runs in absurd (cc)

-- a lineage is missing
a_device_missing : IsTableAt undo_dies.window (take 8 undo_dies.history) no_grips (
    device 0 [] 1 false ∷ device 0 [] 1 true
    ∷ device 0 [] 0 true ∷ []) → ⊥
unfolding split_of
a_device_missing is = differ 3 4 refl is.devices

-- the access of the doomed writer went with the commit behind it, which wrote nothing
doomed_writer_dropped : IsTableAt skipped_under_live_undo.window (take 11 skipped_under_live_undo.history) no_grips (
    device 0 [] 0 true ∷ device 0 (released 1 Up None 100 200 ∷ []) 0 true
    ∷ device 0 [] 0 true ∷ device 18 [] 2 true ∷ []) → ⊥
unfolding split_of
doomed_writer_dropped is = let told : ◌≡◌ {A = List ℕ} [] (1 ∷ []) = (is.each 3 (omega (arith))).runs in absurd (cc)

-- run 2, which is not doomed, sees the heater up
seen_up_though_down : IsTableAt skipped_under_live_undo.window (take 7 skipped_under_live_undo.history) no_grips (
    device 0 [] 0 true ∷ device 0 (scheduled 1 100 200 ∷ []) 0 true
    ∷ device 0 [] 0 true ∷ device 18 (released 1 Up (Some 20) 0 100 ∷ released 2 Up None 0 100 ∷ []) 0 false ∷ []) → ⊥
unfolding split_of
seen_up_though_down is = let told : Some Up ≡ Some Down = (is.each 3 (omega (arith))).each.1.0.view refl in absurd (cc)

-- not the doomed write is undone but the live one
another_write_undone : IsTableAt undo_drives_live_writer.window (take 9 undo_drives_live_writer.history) no_grips (
    device 0 (scheduled 1 100 200 ∷ []) 0 true ∷ device 0 (released 2 Up None 100 200 ∷ []) 0 true
    ∷ device 0 [] 0 true ∷ device 18 (released 1 Up None 0 100 ∷ released 2 Up None 0 100 ∷ []) 0 true ∷ []) → ⊥
unfolding split_of
another_write_undone is = let told : ◌≡◌ {A = Option ℕ} None (Some 20) = (is.each 3 (omega (arith))).each.0.wrote in absurd (cc)

-- the accesses stand against the line
accesses_exchanged : IsTableAt undo_drives_live_writer.window (take 8 undo_drives_live_writer.history) no_grips (
    device 0 (scheduled 1 100 200 ∷ []) 0 true ∷ device 0 (released 2 Up None 100 200 ∷ []) 0 true
    ∷ device 0 [] 0 true ∷ device 18 (released 2 Up (Some 25) 0 100 ∷ released 1 Up (Some 20) 0 100 ∷ []) 0 true ∷ []) → ⊥
unfolding split_of
accesses_exchanged is = let told : ◌≡◌ {A = List ℕ} (2 ∷ 1 ∷ []) (1 ∷ 2 ∷ []) = (is.each 3 (omega (arith))).runs in absurd (cc)

-- the value of a live run is the committed one
committed_though_live : IsTableAt undo_drives_live_writer.window (take 10 undo_drives_live_writer.history) no_grips (
    device 0 (scheduled 1 100 200 ∷ []) 0 true ∷ device 0 [] 1 true
    ∷ device 0 [] 0 true ∷ device 20 (released 1 Up (Some 20) 0 100 ∷ []) 1 true ∷ []) → ⊥
unfolding split_of
committed_though_live is = differ 20 18 refl ((is.each 3 (omega (arith))).committed)

-- an access that may be passed is acquired, where none behind it is in use ..
acquired_though_untouched : IsTableAt failure_passes_doomed_run.window (take 7 failure_passes_doomed_run.history) no_grips (
    device 0 (record (released 1 Down None 200 300) { status = Acquired } ∷ scheduled 2 0 100 ∷ []) 0 true ∷ device 0 (released 1 Up None 100 200 ∷ []) 0 true
    ∷ device 18 (released 1 Up (Some 20) 0 100 ∷ []) 0 true ∷ device 0 (scheduled 2 100 200 ∷ []) 0 true ∷ []) → ⊥
unfolding split_of
acquired_though_untouched is = let told : true ≡ false = (is.each 0 (omega (arith))).each.0.free refl in absurd (cc)

-- .. and where one is
acquired_though_passed : IsTableAt failure_passes_doomed_run.window (take 8 failure_passes_doomed_run.history) no_grips (
    device 0 (record (released 1 Down None 200 300) { status = Acquired } ∷ released 2 Up (Some 1) 0 100 ∷ []) 0 true ∷ device 0 (released 1 Up None 100 200 ∷ []) 0 true
    ∷ device 18 (released 1 Up (Some 20) 0 100 ∷ []) 0 true ∷ device 0 (scheduled 2 100 200 ∷ []) 0 true ∷ []) → ⊥
unfolding split_of
acquired_though_passed is = let told : true ≡ false = (is.each 0 (omega (arith))).each.0.free refl in absurd (cc)

-- the access of a doomed run is scheduled, with one in use behind it
scheduled_before_one_in_use : IsTableAt failure_passes_doomed_run.window (take 8 failure_passes_doomed_run.history) no_grips (
    device 0 (scheduled 1 200 300 ∷ released 2 Up (Some 1) 0 100 ∷ []) 0 true ∷ device 0 (released 1 Up None 100 200 ∷ []) 0 true
    ∷ device 18 (released 1 Up (Some 20) 0 100 ∷ []) 0 true ∷ device 0 (scheduled 2 100 200 ∷ []) 0 true ∷ []) → ⊥
unfolding split_of
scheduled_before_one_in_use is = let told : Scheduled ≡ Released = (is.each 0 (omega (arith))).each.0.passed refl refl in absurd (cc)

-- an access is kept before a committed write
kept_before_committed_write : IsTableAt failure_passes_doomed_run.window (take 11 failure_passes_doomed_run.history) no_grips (
    device 1 (released 1 Down None 200 300 ∷ []) 1 false ∷ device 0 (released 1 Up None 100 200 ∷ []) 0 true
    ∷ device 18 (released 1 Up (Some 20) 0 100 ∷ []) 0 true ∷ device 1 [] 1 true ∷ []) → ⊥
unfolding split_of
kept_before_committed_write is = let told : ◌≡◌ {A = List ℕ} (1 ∷ []) [] = (is.each 0 (omega (arith))).runs in absurd (cc)

-- the access of a run that is not doomed is released before its first answer
released_though_not_doomed : IsTableAt failure_passes_doomed_run.window (take 7 failure_passes_doomed_run.history) no_grips (
    device 0 (scheduled 1 200 300 ∷ released 2 Up None 0 100 ∷ []) 0 true ∷ device 0 (released 1 Up None 100 200 ∷ []) 0 true
    ∷ device 18 (released 1 Up (Some 20) 0 100 ∷ []) 0 true ∷ device 0 (scheduled 2 100 200 ∷ []) 0 true ∷ []) → ⊥
unfolding split_of
released_though_not_doomed is = let told : Released ≡ Scheduled = (is.each 0 (omega (arith))).each.1.0.status refl in absurd (cc)

-- the planned end is another one
planned_otherwise : IsTableAt failure_passes_doomed_run.window (take 7 failure_passes_doomed_run.history) no_grips (
    device 0 (scheduled 1 200 300 ∷ scheduled 2 0 200 ∷ []) 0 true ∷ device 0 (released 1 Up None 100 200 ∷ []) 0 true
    ∷ device 18 (released 1 Up (Some 20) 0 100 ∷ []) 0 true ∷ device 0 (scheduled 2 100 200 ∷ []) 0 true ∷ []) → ⊥
unfolding split_of
planned_otherwise is = differ 200 100 refl ((is.each 0 (omega (arith))).each.1.0.to)

-- a skip counts as an access ..
released_by_a_skip : IsTableAt skip_with_more_to_come.window (take 5 skip_with_more_to_come.history) no_grips (
    device 0 (released 1 Up None 0 300 ∷ scheduled 2 0 100 ∷ []) 0 true ∷ device 0 (scheduled 1 100 200 ∷ []) 0 true
    ∷ device 0 (scheduled 2 100 200 ∷ []) 0 true ∷ device 18 [] 0 true ∷ []) → ⊥
unfolding split_of
released_by_a_skip is = let told : Released ≡ Scheduled = (is.each 0 (omega (arith))).each.0.status refl in absurd (cc)

-- .. or takes the access away, though the run has more to do
removed_with_more_to_come : IsTableAt skip_with_more_to_come.window (take 5 skip_with_more_to_come.history) no_grips (
    device 0 (scheduled 2 0 100 ∷ []) 1 true ∷ device 0 (scheduled 1 100 200 ∷ []) 0 true
    ∷ device 0 (scheduled 2 100 200 ∷ []) 0 true ∷ device 18 [] 0 true ∷ []) → ⊥
unfolding split_of
removed_with_more_to_come is = let told : ◌≡◌ {A = List ℕ} (2 ∷ []) (1 ∷ 2 ∷ []) = (is.each 0 (omega (arith))).runs in absurd (cc)

-- the access is still acquired when the last command is skipped
acquired_behind_a_skip : IsTableAt skip_releases_what_was_touched.window (take 6 skip_releases_what_was_touched.history) no_grips (
    device 0 (record (released 1 Up (Some 1) 0 200) { status = Acquired } ∷ scheduled 2 0 100 ∷ []) 0 true ∷ device 0 (scheduled 1 200 300 ∷ []) 0 true
    ∷ device 0 (scheduled 2 100 200 ∷ []) 0 true ∷ device 18 [] 0 true ∷ []) → ⊥
unfolding split_of
acquired_behind_a_skip is = let told : Acquired ≡ Released = (is.each 0 (omega (arith))).each.0.status refl in absurd (cc)

-- a run that has skipped all its commands there keeps its access
kept_though_skipped : IsTableAt skip_where_nothing_was_touched.window (take 5 skip_where_nothing_was_touched.history) no_grips (
    device 0 (scheduled 1 0 100 ∷ scheduled 2 0 100 ∷ []) 0 true ∷ device 0 (scheduled 1 100 200 ∷ []) 0 true
    ∷ device 0 [] 0 true ∷ device 18 [] 0 true ∷ []) → ⊥
unfolding split_of
kept_though_skipped is = let told : ◌≡◌ {A = List ℕ} (1 ∷ 2 ∷ []) (2 ∷ []) = (is.each 0 (omega (arith))).runs in absurd (cc)
