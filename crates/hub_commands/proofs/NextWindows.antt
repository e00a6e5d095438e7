-- The next window of a day: opened, worked, and what came of it.
use Rattle.hub_commands.proofs.Prelude.{DayCourse, Err, HomeState, IfErr, IfOk, IsClosed, IsUnderWayOn, IsWorkedAs, List, Listed, Mode, NextIs, NextIsOpened, Ok, PlaysOneMore, Result, Script, Shown, Some, WindowRecord, WindowText, WindowWay, ℕ, [], ap, arith, course_behind, drop, length, map, option_map, refl, run_of_text, script_runs, slice_get, subst, suc, sym, unwrap_or, windows_behind, zero, ◌++◌, ◌+◌, ◌∙◌, ◌∷◌, ◌≡◌}
use Rattle.hub_commands.proofs.DaysUnderWay.{gone_on}
use Rattle.hub_commands.proofs.Snocs.{length_more}
use Rattle.hub_commands.specs.Going.{IsLastOf}
use Rattle.hub_commands.specs.declared.plays.DayUnderWay.{DayUnderWay}
use Rattle.hub_commands.specs.declared.plays.UntoldDay.{UntoldDay}
use Rattle.hub_core.specs.HubCalls.{IsOpened}
use Rattle.hub_core.specs.OpenHubs.{OpenHub}

get_behind : {X : Type 0} (xs : List X) (n k : ℕ) → slice_get (drop n xs) k ≡ slice_get xs (n + k)
get_behind xs zero k = let none : k ≡ 0 + k = omega (arith) in ap (λ i. slice_get xs i) none
get_behind [] (suc n) k = refl
get_behind (x ∷ xs) (suc n) k = let one : suc (n + k) ≡ suc n + k = omega (arith) in get_behind xs n k ∙ ap (λ i. slice_get (x ∷ xs) i) one

-- the window of this number of those behind
pub behind_at : (script : Script) (before k : ℕ) (window : WindowText) → slice_get script.windows.items (before + k) ≡ Some window → slice_get (windows_behind before script).windows.items k ≡ Some window
behind_at script before k window at = get_behind script.windows.items before k ∙ at

-- it is opened as that of its number in the whole script
pub opened_behind : {D : Type 0} (shows : D → Shown) (script : Script) (mode : Mode) (before k : ℕ) (home : HomeState D) (hub : OpenHub D) (window : WindowText)
    → NextIsOpened shows script mode (before + k) home hub window → NextIsOpened shows (windows_behind before script) mode k home hub window
opened_behind shows script mode before k home hub window is = record {
  fresh = is.fresh;
  rounds = is.rounds;
  at = behind_at script before k window is.at;
  opened = subst (λ runs. IsOpened shows (record { runs = runs; mode = mode; kinds = home.kinds; first = home.world }) window.probes home hub) same is.opened;
  numbered = is.numbered;
}
  where
    same : script_runs script (before + k) ≡ script_runs (windows_behind before script) k
    same = ap (λ o. unwrap_or (option_map (λ (t : WindowText). map (run_of_text script) t.runs.items) o) []) (sym (get_behind script.windows.items before k))

module _ {D M : Type 0} (works : WindowWay) (shows : D → Shown) (script : Script) (mode : Mode) (before : ℕ) (day : DayUnderWay D) (hub : OpenHub D) (window : WindowText) (windows : List WindowRecord)
    (worked : Result (HomeState D × WindowRecord) M)
    (is : NextIsOpened shows (windows_behind before script) mode (length day.windows.items) day.home hub window) (same : windows ≡ day.windows.items) (worked_so : IfOk worked (λ done. IsWorkedAs works shows hub window done.0 done.1)) where
  worked_as : (next : UntoldDay D) → IsClosed shows windows worked next → IsWorkedAs works shows hub window next.home next.closed
  worked_as next closed = subst (λ (r : Result (HomeState D × WindowRecord) M). IfOk r (λ done. IsWorkedAs works shows hub window done.0 done.1)) closed.is worked_so

  -- the day has gone on by the window that was worked
  pub one_more : (o : Result (UntoldDay D) (Listed WindowRecord)) → IfOk o (λ next. IsClosed shows windows worked next) → IfOk o (λ next. PlaysOneMore works shows script before mode day next)
  one_more (Ok next) closed = λ course under.
      gone_on works shows (course_behind script before course) mode day.home next.home day.windows.items next.windows.items next.closed under closed.kept
      (record { hub = hub; window = window; opens = is; worked = worked_as next closed }) (closed.more ∙ ap (λ ws. ws ++ next.closed ∷ []) same)
  one_more (Err records) closed = tt

  -- its home has the kinds of the one that it was opened on
  pub same_kinds : (o : Result (UntoldDay D) (Listed WindowRecord)) → IfOk o (λ next. IsClosed shows windows worked next) → IfOk o (λ next. next.home.kinds ≡ day.home.kinds)
  same_kinds (Ok next) closed = (worked_as next closed).after.kinds ∙ ap (λ c. c.setting.kinds) is.opened.configuration
  same_kinds (Err records) closed = tt

  pub more_windows : (o : Result (UntoldDay D) (Listed WindowRecord)) → IfOk o (λ next. IsClosed shows windows worked next) → IfOk o (λ next. length next.windows.items ≡ length day.windows.items + 1)
  more_windows (Ok next) closed = let all = ap (λ ws. length ws) closed.more in let kept = ap (λ ws. length ws) same in omega (arith, all, kept, length_more windows next.closed)
  more_windows (Err records) closed = tt

-- its record is the last
pub last_closed : {D M : Type 0} (shows : D → Shown) (windows : List WindowRecord) (worked : Result (HomeState D × WindowRecord) M) (o : Result (UntoldDay D) (Listed WindowRecord))
    → IfOk o (λ next. IsClosed shows windows worked next) → IfOk o (λ next. IsLastOf next.closed next.windows.items)
last_closed shows windows worked (Ok next) closed = (windows, closed.more)
last_closed shows windows worked (Err records) closed = tt

-- what came of the next window behind so many of the script
pub next_played : {D : Type 0} (works : WindowWay) (shows : D → Shown) (script : Script) (before : ℕ) (mode : Mode) (day : DayUnderWay D) (course : DayCourse) (next : Result (UntoldDay D) (Listed WindowRecord))
    → IsUnderWayOn works shows (course_behind script before course) mode day.home day.windows.items
    → IfOk next (λ played. PlaysOneMore works shows script before mode day played) → IfErr next (λ windows. windows.items ≡ day.windows.items)
    → NextIs works shows (course_behind script before course) mode day.windows.items next
next_played works shows script before mode day course (Ok next) under played same = played course under
next_played works shows script before mode day course (Err windows) under played same = same
