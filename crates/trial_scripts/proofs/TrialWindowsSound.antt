-- The windows of a trial are such as the format allows.
use Rattle.day_clock.specs.Times.{IsCivilTime}
use Rattle.day_clock.specs.declared.times.When.{When}
use Rattle.home_types.specs.declared.numbers.RunNo.{RunNo}
use Rattle.trial_scripts.proofs.Prelude.{All, All-get_or, All-nil, AreInOrder, EachAfter, Equal, IfSome, IsBefore, IsSoundRun, IsSoundWindow, Less, List, None, PlainWindow, Some, ap, arith, draw_each, draw_run, draw_window, draw_windows, drawn, inl, inr, length, length-before, refl, routine_count, slice_get, subst, sym, trial_time, true, ℕ, ◌%◌, ◌*◌, ◌+◌, ◌/◌, ◌<◌, ◌∙◌, ◌≡◌, ◌≤◌}
use Rattle.routine_reader.specs.declared.scripts.RunText.{RunText}
use Rattle.std.proofs.lemmas.Bool.{cases_lt}
use Rattle.std.proofs.lemmas.Option.{get_or_from_slice_get, slice_get_within}
use Rattle.std.specs.Cmp.{nat_cmp_is}
use Rattle.std.specs.Ordering.{is_lt, nat_cmp, ordering_then}
use Rattle.trial_scripts.proofs.DrawnEach.{after_made, all_made, below_bound, length_made}

-- ---- runs

-- a run of one of the routines, which follows none
abbrev IsFree : RunText → Type 0
IsFree run = (run.routine < routine_count) × (run.follows ≡ None)

run_is_free : (state : ℕ) → IsFree (draw_run state).made
unfolding draw_run
run_is_free state = (below_bound (drawn state) routine_count (omega arith), refl)

free_is_sound : (k : ℕ) (run : RunText) → IsFree run → IsSoundRun routine_count k run
free_is_sound k run free =
    record { routine = free.0; follows = subst (λ o. IfSome o (λ (followed : RunNo). (1 ≤ followed.0) × (followed.0 ≤ k))) (sym free.1) tt }

run_at_is_sound : (runs : List RunText) → All IsFree runs → (k : ℕ) (run : RunText) → slice_get runs k ≡ Some run → IsSoundRun routine_count k run
run_at_is_sound runs all k run at =
    free_is_sound k run (subst IsFree (get_or_from_slice_get runs k run run at) (All-get_or IsFree runs k run (slice_get_within runs k run at) all))

-- ---- windows

time_is_civil : (k : ℕ) → k < 288 → IsCivilTime (trial_time k)
time_is_civil k less =
    record {
      year = omega arith;
      month = (omega arith, omega arith);
      day = (omega arith, omega arith);
      hour = omega (arith, less);
      minute = omega arith;
      second = omega arith;
    }

window_is_sound : (k state : ℕ) → k < 288 → IsSoundWindow routine_count (draw_window k state).made
unfolding draw_window
window_is_sound k state less =
    let runs = draw_each (λ _. draw_run) 64 state in
    let count = length_made (λ _. draw_run) 64 state in
    record {
      at = time_is_civil k less;
      seed = omega (arith, less);
      probes = omega arith;
      few_turns = omega arith;
      turns = All-nil (λ turn. turn ≤ length runs.made);
      few_runs = omega (arith, count);
      runs = run_at_is_sound runs.made (all_made IsFree (λ _. draw_run) 64 state (λ j before _. run_is_free before));
    }

pub windows_are_sound : (n state : ℕ) → n ≤ 288 → All (IsSoundWindow routine_count) (draw_windows n state).made
unfolding draw_windows
windows_are_sound n state few = all_made (IsSoundWindow routine_count) draw_window n state (λ k before less. window_is_sound k before (omega (arith, few, less)))

pub windows_count : (n state : ℕ) → length (draw_windows n state).made ≡ n
unfolding draw_windows
windows_count n state = length_made draw_window n state

-- ---- their order

-- at this hour and minute of the day
abbrev at : ℕ → ℕ → When
at hour minute = record { year = 2021; month = 4; day = 26; hour = hour; minute = minute; second = 0 }

by_hour : (h i m n : ℕ) → h < i → IsBefore (at h m) (at i n)
by_hour h i m n less = subst (λ o. is_lt (ordering_then o (ordering_then (nat_cmp m n) Equal)) ≡ true) (nat_cmp_is h i Less less) refl

by_minute : (h i m n : ℕ) → h ≡ i → m < n → IsBefore (at h m) (at i n)
by_minute h i m n same less =
    subst (λ o. is_lt (ordering_then o (ordering_then (nat_cmp m n) Equal)) ≡ true) (nat_cmp_is h i Equal same)
    (subst (λ o. is_lt (ordering_then o Equal) ≡ true) (nat_cmp_is m n Less less) refl)

next_is_later : (k : ℕ) → IsBefore (trial_time k) (trial_time (k + 1))
next_is_later k =
    let h = 5 * k / 60 in
    let i = 5 * (k + 1) / 60 in
    let m = 5 * k % 60 in
    let n = 5 * (k + 1) % 60 in
    elim (cases_lt h i) [
      | inl less ↦ by_hour h i m n less
      | inr least ↦ by_minute h i m n (omega (arith, least)) (omega (arith, least))
    ]

-- its time is that of its number
abbrev IsTimed : List PlainWindow → PlainWindow → Type 0
IsTimed earlier window = window.at ≡ trial_time (length earlier)

each_is_timed : (n state : ℕ) → EachAfter IsTimed (draw_windows n state).made
unfolding draw_windows draw_window
each_is_timed n state = after_made IsTimed draw_window n state (λ k before less. ap trial_time (sym (length_made draw_window k state)))

time_at : (n state k : ℕ) (window : PlainWindow) → slice_get (draw_windows n state).made k ≡ Some window → window.at ≡ trial_time k
time_at n state k window at = each_is_timed n state k window at ∙ ap trial_time (length-before (draw_windows n state).made k window at)

pub windows_in_order : (n state : ℕ) → AreInOrder (draw_windows n state).made
windows_in_order n state k a b first next =
    subst (λ t. IsBefore t b.at) (sym (time_at n state k a first)) (subst (λ t. IsBefore (trial_time k) t) (sym (time_at n state (k + 1) b next)) (next_is_later k))
