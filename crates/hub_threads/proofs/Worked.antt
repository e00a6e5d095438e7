-- A hub whose window was worked to its end under its name, and closed: what it leaves.
use Rattle.hub_threads.proofs.Prelude.{AreWithin, HubStands, IsNamed, NamedWindow, OpenHub, Shown, WindowIsClosed, arith, length, plan_in, probes_taken, progress_at, refl, slice_get, subst, sym, window_worked, ℕ, ◌<◌, ◌≡◌}
use Rattle.history_book.specs.declared.records.WindowRecord.{WindowRecord}
use Rattle.hub_core.specs.Homes.{HomeState}
use Rattle.hub_threads.specs.WorkedWindows.{IsRunBy, IsWorked, NoneIsLeft}

-- what the hub of a window keeps from its opening on, worked between these moments
abbrev pub window_of : {D : Type 0} → (D → Shown) → ℕ → ℕ → OpenHub D → NamedWindow
window_of shows earliest latest hub = record {
  setting = hub.setting;
  rounds = hub.rounds;
  opened = hub.opened;
  opening = λ d. (progress_at hub.devices d).at_opening;
  plans = λ d. plan_in shows (slice_get hub.places d);
  earliest = earliest;
  latest = latest;
}

pub worked_so : {D : Type 0} (shows : D → Shown) (earliest latest : ℕ) (hub last : OpenHub D) (home : HomeState D) (closed : WindowRecord)
    → HubStands shows hub
    → IsNamed shows (window_of shows earliest latest hub) last
    → HubStands shows last → WindowIsClosed shows last home closed → NoneIsLeft last
    → IsWorked shows earliest latest hub home closed
worked_so shows earliest latest hub last home closed before named after closes none =
    window_worked (IsRunBy hub.rounds earliest latest) shows hub last home closed (λ d. hub.rounds) before after
    (record { setting = named.setting; rounds = named.rounds_are; opened = named.opened_are; at_opening = named.at_opening }) named.have_plans closes all_taken
    (record { moments = subst (AreWithin earliest latest) (sym closes.history) named.moments; took = λ d. refl })
  where
    all_taken : (d : ℕ) → d < length last.setting.first → probes_taken last d ≡ hub.rounds
    all_taken d inside = let spent = none.none d inside in let rounds = named.rounds_are in omega (arith, spent, rounds)
