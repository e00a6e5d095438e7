-- The runs of a day can be counted: no window has more than a script may have.
use Rattle.command_rules.specs.Rosters.{Run}
use Rattle.hub_commands.proofs.Prelude.{Err, IsNextToTell, IsSound, IsToldOf, IsTrue, Kind, List, Listed, Mode, NextIs, Ok, Option, Result, Script, Shown, Some, Stand, WindowRecord, WindowText, WindowWay, WindowsArePlayed, [], abort_count, ap, arith, at_place, commit_count, count_by, is_abort, is_commit, length, length-map, new_course, plain_script, plain_window, refl, run_of_text, runs-there, script_runs, setting_of, slice_get, slice_get_within, subst, suc, sum_by, sym, ℕ, ◌*◌, ◌+◌, ◌<◌, ◌^◌, ◌∙◌, ◌∷◌, ◌≡◌, ◌≤◌}
use Rattle.history_book.specs.WellFormed.{IsWellFormed}
use Rattle.home_types.specs.declared.modes.Scheduler.{Scheduler}
use Rattle.home_types.specs.declared.modes.Visibility.TheVariants.{Eventual, Global, Partitioned, Weak}
use Rattle.home_types.specs.declared.modes.Visibility.{Visibility}
use Rattle.hub_commands.specs.declared.plays.UntoldDay.{UntoldDay}
use Rattle.legal_days.specs.LegalWindows.{IsLegalWindow, all_ended, history_of}
use Rattle.order_checker.proofs.Cited.{window_sound}
use Rattle.printed_records.proofs.Cited.{all-ended}
use Rattle.status_board.specs.declared.day_counts.Counts.{Counts}
use Rattle.std.proofs.lemmas.List.Sums.{sum_by-cons}

abbrev commits : WindowRecord → ℕ
commits closed = count_by (λ kept. is_commit kept.entry) closed.history.items

abbrev aborts : WindowRecord → ℕ
aborts closed = count_by (λ kept. is_abort kept.entry) closed.history.items

-- a legal window's history is well formed, and every run has ended, under every model
legal_ended : (runs : List Run) (model : Visibility) (scheduler : Scheduler) (kinds : List Kind) (first : List Stand) (closed : WindowRecord)
    → IsLegalWindow (record { runs = runs; mode = record { model = model; scheduler = scheduler }; kinds = kinds; first = first }) closed
    → IsWellFormed (record { runs = runs; mode = record { model = model; scheduler = scheduler }; kinds = kinds; first = first }) (history_of closed)
    × IsTrue (all_ended (record { runs = runs; mode = record { model = model; scheduler = scheduler }; kinds = kinds; first = first }) (history_of closed))
legal_ended runs Weak scheduler kinds first closed legal = (legal.well_formed, legal.ended)
legal_ended runs Global scheduler kinds first closed legal = (legal.well_formed, legal.ended)
legal_ended runs Partitioned scheduler kinds first closed legal = (legal.well_formed, legal.ended)
legal_ended runs Eventual scheduler kinds first closed legal = (legal.well_formed, legal.ended)

-- no window has more runs than a script may have
window_few : (script : Script) (mode : Mode) (records : List WindowRecord) (k : ℕ) (window : WindowText) (closed : WindowRecord) → IsSound (plain_script script)
    → slice_get script.windows.items k ≡ Some window → IsLegalWindow (setting_of script mode records k) closed → commits closed + aborts closed ≤ 64
window_few script mode records k window closed sound at legal =
    let w = setting_of script mode records k in
    let ends = legal_ended w.runs mode.model mode.scheduler w.kinds w.first closed legal in
    let all : length w.runs ≡ commits closed + aborts closed = all-ended w closed.history.items ends.0 ends.1 in
    let runs : length (script_runs script k) ≡ length window.runs.items = ap (λ rs. length rs) (sym (runs-there script k window at)) ∙ length-map window.runs.items (run_of_text script) in
    let few = (window_sound script k window sound at).few_runs in
    omega (arith, all, runs, few)

sums_few : (records : List WindowRecord) → ((k : ℕ) (closed : WindowRecord) → slice_get records k ≡ Some closed → commits closed + aborts closed ≤ 64) → sum_by commits records + sum_by aborts records ≤ 64 * length records
sums_few [] few = omega arith
sums_few (closed ∷ later) few =
    let rest = sums_few later (λ k c at. few (suc k) c at) in
    let commits_are : sum_by commits (closed ∷ later) ≡ commits closed + sum_by commits later = sum_by-cons commits closed later in
    let aborts_are : sum_by aborts (closed ∷ later) ≡ aborts closed + sum_by aborts later = sum_by-cons aborts closed later in
    omega (arith, commits_are, aborts_are, few 0 closed refl, rest)

-- the runs of the windows that were played can be counted
pub runs_few : (works : WindowWay) (script : Script) (mode : Mode) (records : List WindowRecord) (takes : List (ℕ → ℕ)) → IsSound (plain_script script)
    → WindowsArePlayed works script mode records takes → commit_count records + abort_count records < 2 ^ 64
unfolding commit_count abort_count
runs_few works script mode records takes sound played =
    let few = sums_few records (λ k closed at.
    let window = at_place script.windows.items k (let within = slice_get_within records k closed at in let count = played.count in omega (arith, within, count)) in
    window_few script mode records k window.0 closed sound window.1 (played.legal k closed at)) in
    let windows = sound.few_windows in
    let all = length-map script.windows.items plain_window in
    let count = played.count in
    omega (arith, few, windows, all, count)

-- the next window, where it was played, is one more than was told of
pub next_to_tell : {D : Type 0} (works : WindowWay) (shows : D → Shown) (script : Script) (mode : Mode) (records : List WindowRecord) (told : Option (List Counts)) (next : Result (UntoldDay D) (Listed WindowRecord))
    → IsSound (plain_script script) → IsToldOf told records → NextIs works shows (new_course script) mode records next → IsNextToTell told next
next_to_tell works shows script mode records told (Ok day) sound is gone =
    (record { before = records; closed = gone.closed; more = gone.more; told_of = is }, runs_few works script mode day.windows.items gone.under_way.takes sound gone.under_way.played)
next_to_tell works shows script mode records told (Err windows) sound is same = subst (λ rs. IsToldOf told rs) (sym same) is
