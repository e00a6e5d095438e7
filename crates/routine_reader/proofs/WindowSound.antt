-- A window that is read is one that the format allows, where its time is one.
use Rattle.routine_reader.proofs.Prelude.{All, All-nil, BadFollow, BadTime, BadTurn, Data, IfSome, IsCivilTime, IsSoundRun, IsSoundWindow, List, None, Ok, Option, PlainWindow, RunText, Shape, Some, UnknownName, WindowMembers, [], arith, as_number, as_str, as_u64, at, at_most, codes, default_seed, follows_reading, get, has_form, inside, is_later, items_in, length, long_number_of, most_of_64_bits, nat_le, needed, next_run_read, next_turn, number_of, ok_or, option_and_then, or_default, place_of, read_each, run_members, run_reading, slice_get, subst, time_of, time_reading, true, turn_reading, window_members, window_reading, window_with, within_limit, ℕ, ◌&&◌, ◌+◌, ◌≡◌, ◌≤◌}
use Rattle.day_clock.specs.declared.times.When.{When}
use Rattle.home_types.specs.declared.numbers.RunNo.{RunNo}
use Rattle.routine_reader.proofs.DeviceSound.{and-true, default-within, if-some, most-within, place-within, then-some, true-most}
use Rattle.routine_reader.proofs.PrefixLemmas.{EachAfter, each-none, length-before}
use Rattle.routine_reader.proofs.WalkSound.{each-after, each-all, each-length, ok-found, ok-if, ok-same, ok-then, ok-within}
use Rattle.routine_reader.specs.declared.faults.Count.TheVariants as count
use Rattle.routine_reader.specs.declared.faults.Part.TheVariants as part
use Rattle.routine_reader.specs.declared.faults.Spot.{Spot}
use Rattle.routine_reader.specs.declared.forms.Form.TheVariants as form

-- ---- its members

seed-of : (time : Option (List ℕ)) (seed probes : Option ℕ) (turns runs : Option (List Data)) (members : WindowMembers)
    → window_with time seed probes turns runs ≡ Some members → seed ≡ Some members.seed
seed-of (Some time) (Some seed) (Some probes) (Some turns) (Some runs) members h = cc
seed-of None seed probes turns runs members h = absurd (cc)
seed-of (Some time) None probes turns runs members h = absurd (cc)
seed-of (Some time) (Some seed) None turns runs members h = absurd (cc)
seed-of (Some time) (Some seed) (Some probes) None runs members h = absurd (cc)
seed-of (Some time) (Some seed) (Some probes) (Some turns) None members h = absurd (cc)

long-within : (value : Data) (n : ℕ) → long_number_of value ≡ Some n → n ≤ most_of_64_bits
long-within value n h =
    let found = then-some (at_most most_of_64_bits) (option_and_then as_u64 (as_number value)) n h in
    most-within most_of_64_bits found.0 n found.2

seed-within : (value : Data) (members : WindowMembers) → window_members value ≡ Some members → members.seed ≤ most_of_64_bits
seed-within value members h =
    let time = needed as_str (codes "at") value in
    let seed = or_default long_number_of default_seed (codes "seed") value in
    let probes = or_default number_of 0 (codes "probes") value in
    let turns = or_default items_in [] (codes "turns") value in
    let runs = needed items_in (codes "runs") value in
    let whole = if-some (has_form form.Window value) (window_with time seed probes turns runs) members h in
    default-within default_seed most_of_64_bits long_number_of long-within (omega arith) (get (codes "seed") value) members.seed
    (seed-of time seed probes turns runs members whole.1)

-- ---- turns and runs

turn-sound : (window runs number : ℕ) (value : Data) (turn : ℕ) → turn_reading window runs number value ≡ Ok turn → turn ≤ runs
turn-sound window runs number value turn h =
    let found = ok-then (ok_or (number_of value) (Shape (at part.Window window))) _ turn h in
    let fits = ok-if (nat_le found.0 runs) (Ok found.0) (BadTurn (inside part.Turn window number)) turn found.2 in
    subst (λ n. n ≤ runs) (ok-same found.0 turn fits.1) (true-most found.0 runs fits.0)

-- of the runs before, the one that is followed
abbrev FollowsEarlier : ℕ → Option RunNo → Type 0
FollowsEarlier earlier follows = IfSome follows (λ followed. (1 ≤ followed.0) × (followed.0 ≤ earlier))

follows-sound : (spot : Spot) (earlier : ℕ) (given : Option ℕ) (follows : Option RunNo) → follows_reading spot (earlier + 1) given ≡ Ok follows
    → FollowsEarlier earlier follows
follows-sound spot earlier None follows h = subst (FollowsEarlier earlier) (ok-same None follows h) tt
follows-sound spot earlier (Some followed) follows h =
    let tests = ok-if (nat_le 1 followed && nat_le (followed + 1) (earlier + 1)) (Ok (Some (record { 0 = followed }))) (BadFollow spot) follows h in
    let both = and-true (nat_le 1 followed) (nat_le (followed + 1) (earlier + 1)) tests.0 in
    let least = true-most 1 followed both.0 in
    let most = true-most (followed + 1) (earlier + 1) both.1 in
    let number : RunNo = record { 0 = followed } in
    subst (FollowsEarlier earlier) (ok-same (Some number) follows tests.1) (least, omega (arith, most))

run-sound : (routines : List (List ℕ)) (window earlier : ℕ) (value : Data) (run : RunText) → run_reading routines window (earlier + 1) value ≡ Ok run
    → IsSoundRun (length routines) earlier run
unfolding run_reading
run-sound routines window earlier value run h =
    let spot = inside part.Run window (earlier + 1) in
    let members = ok-then (ok_or (run_members value) (Shape spot)) _ run h in
    let routine = ok-then (ok_or (place_of routines members.0.routine) (UnknownName spot)) _ run members.2 in
    let follows = ok-then (follows_reading spot (earlier + 1) members.0.follows) _ run routine.2 in
    let place = place-within routines members.0.routine routine.0 (ok-found (place_of routines members.0.routine) (UnknownName spot) routine.0 routine.1) in
    let made : RunText = record { routine = routine.0; follows = follows.0 } in
    subst (IsSoundRun (length routines) earlier) {x = made} (ok-same made run follows.2)
    (record { routine = place; follows = follows-sound spot earlier members.0.follows follows.0 follows.1 })

each-run : (n : ℕ) (runs : List RunText) → EachAfter (λ earlier run. IsSoundRun n (length earlier) run) runs
    → (k : ℕ) (run : RunText) → slice_get runs k ≡ Some run → IsSoundRun n k run
each-run n runs each k run at = subst (λ i. IsSoundRun n i run) (length-before runs k run at) (each k run at)

-- ---- the window

time-later : (spot : Spot) (before : Option When) (text : List ℕ) (time : When) → time_reading spot before text ≡ Ok time → is_later before time ≡ true
time-later spot before text time h =
    let found = ok-then (ok_or (time_of text) (BadTime spot)) _ time h in
    let later = ok-if (is_later before found.0) (Ok found.0) (BadTime spot) time found.2 in
    subst (λ t. is_later before t ≡ true) (ok-same found.0 time later.1) later.0

-- a window that is read is sound, and later than the one before
pub window-sound : (routines : List (List ℕ)) (number : ℕ) (before : Option When) (value : Data) (window : PlainWindow)
    → window_reading routines number before value ≡ Ok window
    → (IsCivilTime window.at → IsSoundWindow (length routines) window) × (is_later before window.at ≡ true)
unfolding window_reading
window-sound routines number before value window h =
    let spot = at part.Window number in
    let members = ok-then (ok_or (window_members value) (Shape spot)) _ window h in
    let time = ok-then (time_reading spot before members.0.at) _ window members.2 in
    let probes = ok-then (within_limit count.Probes members.0.probes) _ window time.2 in
    let few_turns = ok-then (within_limit count.Turns (length members.0.turns)) _ window probes.2 in
    let few_runs = ok-then (within_limit count.Runs (length members.0.runs)) _ window few_turns.2 in
    let count_of_runs = length members.0.runs in
    let turns = ok-then (read_each (next_turn number count_of_runs) [] members.0.turns) _ window few_runs.2 in
    let runs = ok-then (read_each (next_run_read routines number) [] members.0.runs) _ window turns.2 in
    let seed = seed-within value members.0 (ok-found (window_members value) (Shape spot) members.0 members.1) in
    let some_probes = ok-within count.Probes members.0.probes probes.0 probes.1 in
    let some_turns = ok-within count.Turns (length members.0.turns) few_turns.0 few_turns.1 in
    let some_runs = ok-within count.Runs count_of_runs few_runs.0 few_runs.1 in
    let turns_length = each-length (next_turn number count_of_runs) [] members.0.turns turns.0 turns.1 in
    let runs_length = each-length (next_run_read routines number) [] members.0.runs runs.0 runs.1 in
    let same_runs : count_of_runs ≡ length runs.0 = omega (arith, runs_length) in
    let all_turns = each-all (λ turn. turn ≤ count_of_runs) (next_turn number count_of_runs) (λ earlier v turn e. turn-sound number count_of_runs (length earlier + 1) v turn e)
    [] members.0.turns turns.0 (All-nil (λ turn. turn ≤ count_of_runs)) turns.1 in
    let P : List RunText → RunText → Type 0 = λ earlier run. IsSoundRun (length routines) (length earlier) run in
    let all_runs = each-after P (next_run_read routines number) (λ earlier v run e. run-sound routines number (length earlier) v run e) [] members.0.runs runs.0 (each-none P) runs.1 in
    let made : PlainWindow = record { at = time.0; seed = members.0.seed; probes = probes.0; turns = turns.0; runs = runs.0 } in
    subst (λ (w : PlainWindow). (IsCivilTime w.at → IsSoundWindow (length routines) w) × (is_later before w.at ≡ true)) (ok-same made window runs.2) (
      λ civil. record {
        at = civil;
        seed = omega (arith, seed);
        probes = omega (arith, some_probes.0, some_probes.1);
        few_turns = omega (arith, turns_length, some_turns.0);
        turns = subst (λ n. All (λ turn. turn ≤ n) turns.0) same_runs all_turns;
        few_runs = omega (arith, runs_length, some_runs.0);
        runs = each-run (length routines) runs.0 all_runs;
      },
      time-later spot before members.0.at time.0 time.1,
    )
