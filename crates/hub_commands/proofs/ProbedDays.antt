-- A day that was run: its devices were probed as often as its windows say.
use Rattle.hub_commands.proofs.Prelude.{Closing, Day, DayEnds, DayIsWhole, Fault, IsRead, IsRunWithin, List, None, Option, Options, Reads, Script, Shown, Some, WindowText, Writes, [], ap, arith, at_place, fold, length, refl, slice_get, slice_get_within, suc, zero, ℕ, ◌+◌, ◌∙◌, ◌∷◌, ◌≡◌}
use Rattle.hub_commands.specs.Calls.{IsProbedInAll}

same_folds : (takes : List (ℕ → ℕ)) (windows : List WindowText) (d n : ℕ) → length takes ≡ length windows
    → ((k : ℕ) (window : WindowText) (taken : ℕ → ℕ) → slice_get windows k ≡ Some window → slice_get takes k ≡ Some taken → taken d ≡ window.probes)
    → fold (λ a taken. a + taken d) n takes ≡ fold (λ a window. a + window.probes) n windows
same_folds [] [] d n same each = refl
same_folds [] (w ∷ windows) d n same each = absurd (omega (arith, same))
same_folds (t ∷ takes) [] d n same each = absurd (omega (arith, same))
same_folds (t ∷ takes) (w ∷ windows) d n same each =
    same_folds takes windows d (n + t d) (omega (arith, same)) (λ k window taken window_at taken_at. each (suc k) window taken window_at taken_at)
    ∙ ap (λ m. fold (λ a window. a + window.probes) (n + m) windows) (each zero w t refl refl)

in_all : {D : Type 0} (earliest latest : ℕ) (shows : D → Shown) (closing : Closing) (script : Script) (options : Options) (source : Reads) (sink : Writes) (day : Option (Day D))
    → IsRead source script → DayIsWhole (IsRunWithin earliest latest) shows closing script options sink day → IsProbedInAll shows source day
in_all earliest latest shows closing script options source sink day read whole = record {
  script = script;
  read = read;
  day = whole.day;
  given = whole.given;
  devices = whole.devices;
  there = whole.there;
  probed = λ d device at. whole.probed d device at ∙ same_folds whole.takes script.windows.items d 0 (whole.played.worked.count ∙ whole.legal.count)
      (λ k window taken window_at taken_at.
      let closed = at_place whole.day.windows.items k (let within = slice_get_within whole.takes k taken taken_at in let count = whole.played.worked.count in omega (arith, within, count)) in
      (whole.played.worked.each k window closed.0 taken window_at closed.1 taken_at).took d);
}

pub probed_in_all : {D : Type 0} (earliest latest : ℕ) (shows : D → Shown) (closing : Closing) (script : Script) (options : Options) (source : Reads) (sink : Writes) (day : Option (Day D)) (fault : Option Fault)
    → IsRead source script → DayEnds (IsRunWithin earliest latest) shows closing script options sink day fault → fault ≡ None → IsProbedInAll shows source day
probed_in_all earliest latest shows closing script options source sink day None read ends none = in_all earliest latest shows closing script options source sink day read ends
probed_in_all earliest latest shows closing script options source sink day (Some why) read ends none = absurd (cc)
