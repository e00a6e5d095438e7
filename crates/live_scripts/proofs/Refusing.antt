-- What is against a run of the last window is against one of the script.
use Rattle.live_scripts.proofs.Prelude.{Bool, HasRoomForRun, IfSome, List, None, Option, RunNo, Script, Some, WindowText, [], ap, arith, false, first_against_run, first_in_last, first_in_window, if◌then◌else◌, is_earlier, length, length-append, nat_le, refl, rules, slice_get, subst, sym, true, ℕ, ◌++◌, ◌+◌, ◌-◌, ◌<◌, ◌∙◌, ◌∷◌, ◌≡◌}
use Rattle.live_scripts.specs.declared.refusals.NotAdded.TheVariants.{NoRoutine, NotBefore, TooManyRuns}

pub get_last : {A : Type 0} (xs : List A) (y : A) → slice_get (xs ++ y ∷ []) (length xs) ≡ Some y
get_last [] y = refl
get_last (x ∷ xs) y = get_last xs y

last_there : {A : Type 0} (all front : List A) (last : A) → all ≡ front ++ last ∷ [] → slice_get all (length all - 1) ≡ Some last
last_there all front last is =
    let size : length all ≡ length front + 1 = ap (λ l. length l) is ∙ length-append front (last ∷ []) in
    let at : length all - 1 ≡ length front = omega (arith, size) in
    ap (λ i. slice_get all i) at ∙ ap (λ l. slice_get l (length front)) is ∙ get_last front last

-- the script has the routine, so the first reason is that of its last window
pub first_of_last : (script : Script) (routine : ℕ) (follows : Option RunNo) (front : List WindowText) (window : WindowText) → routine < length script.routines.items
    → script.windows.items ≡ front ++ window ∷ [] → first_against_run script routine follows ≡ first_in_window window follows
first_of_last script routine follows front window known is =
    passed (nat_le (length script.routines.items) routine) (search rules) ∙ ap (λ o. first_in_last o follows) (last_there script.windows.items front window is)
  where
    passed : (b : Bool) → b ≡ false → (if b then Some NoRoutine else first_in_last (slice_get script.windows.items (length script.windows.items - 1)) follows) ≡ first_in_last (slice_get script.windows.items (length script.windows.items - 1)) follows
    passed true is = absurd (cc)
    passed false is = refl

-- Where nothing is against a run

pub known_routine : (script : Script) (routine : ℕ) (follows : Option RunNo) → first_against_run script routine follows ≡ None → routine < length script.routines.items
known_routine script routine follows free = by_test (nat_le (length script.routines.items) routine) refl free
  where
    by_test : (b : Bool) → nat_le (length script.routines.items) routine ≡ b
        → (if b then Some NoRoutine else first_in_last (slice_get script.windows.items (length script.windows.items - 1)) follows) ≡ None → routine < length script.routines.items
    by_test true is none = absurd (cc)
    by_test false is none = search rules

-- .. it has a last window, and nothing is against a run of that
pub free_in : (script : Script) (routine : ℕ) (follows : Option RunNo) → first_against_run script routine follows ≡ None
    → (window : WindowText) × (slice_get script.windows.items (length script.windows.items - 1) ≡ Some window) × (first_in_window window follows ≡ None)
free_in script routine follows free = by_test (nat_le (length script.routines.items) routine) free
  where
    by_window : (o : Option WindowText) → slice_get script.windows.items (length script.windows.items - 1) ≡ o → first_in_last o follows ≡ None
        → (window : WindowText) × (slice_get script.windows.items (length script.windows.items - 1) ≡ Some window) × (first_in_window window follows ≡ None)
    by_window None at none = absurd (cc)
    by_window (Some window) at none = (window, at, none)

    by_test : (b : Bool) → (if b then Some NoRoutine else first_in_last (slice_get script.windows.items (length script.windows.items - 1)) follows) ≡ None
        → (window : WindowText) × (slice_get script.windows.items (length script.windows.items - 1) ≡ Some window) × (first_in_window window follows ≡ None)
    by_test true none = absurd (cc)
    by_test false none = by_window (slice_get script.windows.items (length script.windows.items - 1)) refl none

pub free_in_last : (script : Script) (routine : ℕ) (follows : Option RunNo) (front : List WindowText) (window : WindowText) → first_against_run script routine follows ≡ None
    → script.windows.items ≡ front ++ window ∷ [] → first_in_window window follows ≡ None
free_in_last script routine follows front window free is =
    sym (first_of_last script routine follows front window (known_routine script routine follows free) is) ∙ free

-- the window has few runs, and the one that is followed is among them
pub few_and_earlier : (window : WindowText) (follows : Option RunNo) → first_in_window window follows ≡ None
    → (length window.runs.items < 64) × (is_earlier follows (length window.runs.items) ≡ true)
few_and_earlier window follows free = by_test (nat_le 64 (length window.runs.items)) (is_earlier follows (length window.runs.items)) refl refl free
  where
    by_test : (many earlier : Bool) → nat_le 64 (length window.runs.items) ≡ many → is_earlier follows (length window.runs.items) ≡ earlier
        → (if many then Some TooManyRuns else (if earlier then None else Some NotBefore)) ≡ None → (length window.runs.items < 64) × (is_earlier follows (length window.runs.items) ≡ true)
    by_test true earlier is was none = absurd (cc)
    by_test false true is was none = (search rules, was)
    by_test false false is was none = absurd (cc)

-- there is room in the last window
pub room_in_last : (script : Script) (front : List WindowText) (window : WindowText) → HasRoomForRun script → script.windows.items ≡ front ++ window ∷ [] → 0 < window.runs.spare
room_in_last script front window room is = subst (λ o. IfSome o (λ (w : WindowText). 0 < w.runs.spare)) (last_there script.windows.items front window is) room
