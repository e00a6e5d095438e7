-- The runs of a roster with one more at its end.
use Rattle.command_rules.proofs.FootprintBits.{footprints_more}
use Rattle.command_rules.proofs.Prelude.{AreFootprints, Command, FitsIndex, Footprint, IsFootprint, List, Option, RosterRun, Run, Some, [], ap, arith, commands_of, length, length-append, length-map, map, map-append, option_map, plain_run, refl, run_in_roster, slice_get, subst, suc, sym, unwrap_or, zero, ℕ, ◌++◌, ◌+◌, ◌<◌, ◌∙◌, ◌∷◌, ◌≡◌, ◌≤◌}
use Rattle.home_types.specs.Limits.{most_commands, most_devices}

-- a run of it is one that there was, or the last one
pub data OneOf (runs : List Run) (q : Run) (r : ℕ) : Type 0 where
  Own : (own : run_in_roster (runs ++ q ∷ []) r ≡ run_in_roster runs r) → OneOf runs q r
  New : (is : run_in_roster (runs ++ q ∷ []) r ≡ Some q) (number : r ≡ suc (length runs)) → OneOf runs q r

pub one_of : (runs : List Run) (q : Run) (r : ℕ) → OneOf runs q r
one_of runs q zero = Own refl
one_of [] q (suc zero) = New refl refl
one_of [] q (suc (suc i)) = Own refl
one_of (x ∷ runs) q (suc zero) = Own refl
one_of (x ∷ runs) q (suc (suc i)) = later (one_of runs q (suc i))
  where
    later : OneOf runs q (suc i) → OneOf (x ∷ runs) q (suc (suc i))
    later (Own own) = Own own
    later (New is number) = New is (ap suc number)

abbrev commands_in : Option Run → List Command
commands_in x = unwrap_or (option_map (λ run. run.commands) x) []

pub fits_joined : (runs : List Run) (q : Run) → FitsIndex runs → length q.commands ≤ most_commands → ((k : ℕ) (c : Command) → slice_get q.commands k ≡ Some c → c.device.0 < most_devices) → FitsIndex (runs ++ q ∷ [])
fits_joined runs q fits few low = record { few_commands = λ r. few_at r (one_of runs q r); low_devices = λ r k c at. low_at r (one_of runs q r) k c at }
  where
    few_at : (r : ℕ) → OneOf runs q r → length (commands_of (runs ++ q ∷ []) r) ≤ most_commands
    few_at r (Own own) = subst (λ x. length (commands_in x) ≤ most_commands) (sym own) (fits.few_commands r)
    few_at r (New is number) = subst (λ x. length (commands_in x) ≤ most_commands) (sym is) few

    low_at : (r : ℕ) → OneOf runs q r → (k : ℕ) (c : Command) → slice_get (commands_of (runs ++ q ∷ []) r) k ≡ Some c → c.device.0 < most_devices
    low_at r (Own own) k c at = fits.low_devices r k c (ap (λ x. slice_get (commands_in x) k) (sym own) ∙ at)
    low_at r (New is number) k c at = low k c (ap (λ x. slice_get (commands_in x) k) (sym is) ∙ at)

pub last_commands : (runs : List Run) (q : Run) → commands_of (runs ++ q ∷ []) (suc (length runs)) ≡ q.commands
last_commands [] q = refl
last_commands (x ∷ runs) q = last_commands runs q

within : {A : Type 0} (xs : List A) (i : ℕ) (x : A) → slice_get xs i ≡ Some x → i < length xs
within [] i x at = absurd (cc)
within (y ∷ xs) zero x at = omega arith
within (y ∷ xs) (suc i) x at = let low = within xs i x at in omega (arith, low)

-- the footprints of the first runs are those of them still, and the new run has its own
pub footprints_joined : (runs : List Run) (q : Run) (fs : List Footprint) (f : Footprint) → AreFootprints (length runs) runs fs → IsFootprint q.commands f → AreFootprints (length runs + 1) (runs ++ q ∷ []) (fs ++ f ∷ [])
footprints_joined runs q fs f are one = footprints_more (length runs) (runs ++ q ∷ []) fs f (record { size = are.size; each = λ i x at. moved i x at (one_of runs q (suc i)) }) (subst (λ cs. IsFootprint cs f) (sym (last_commands runs q)) one)
  where
    low : (i : ℕ) (x : Footprint) → slice_get fs i ≡ Some x → i < length fs
    low i x at = within fs i x at

    moved : (i : ℕ) (x : Footprint) → slice_get fs i ≡ Some x → OneOf runs q (suc i) → IsFootprint (commands_of (runs ++ q ∷ []) (suc i)) x
    moved i x at (Own own) = subst (λ y. IsFootprint (commands_in y) x) (sym own) (are.each i x at)
    moved i x at (New is number) = absurd (let there : i < length fs = low i x at in let size = are.size in omega (arith, there, size, number))

-- what the type keeps of the runs and their footprints, where a run comes at the end of both
pub kept_joined : (old new : List RosterRun) (q : RosterRun) (fs gs : List Footprint) (f : Footprint) → new ≡ old ++ q ∷ [] → gs ≡ fs ++ f ∷ []
    → length q.routine.commands.items ≤ most_commands → ((k : ℕ) (c : Command) → slice_get q.routine.commands.items k ≡ Some c → c.device.0 < most_devices)
    → IsFootprint q.routine.commands.items f → FitsIndex (map plain_run old) × AreFootprints (length old) (map plain_run old) fs
    → FitsIndex (map plain_run new) × AreFootprints (length new) (map plain_run new) gs
kept_joined old new q fs gs f is_new is_gs few low one kept = (
  subst FitsIndex (sym runs) (fits_joined (map plain_run old) (plain_run q) kept.0 few low),
  subst (λ n. AreFootprints n (map plain_run new) gs) (sym size)
      (subst (λ rs. AreFootprints (length (map plain_run old) + 1) rs gs) (sym runs)
      (subst (AreFootprints (length (map plain_run old) + 1) (map plain_run old ++ plain_run q ∷ [])) (sym is_gs)
      (footprints_joined (map plain_run old) (plain_run q) fs f (subst (λ n. AreFootprints n (map plain_run old) fs) (sym (length-map old plain_run)) kept.1) one))),
)
  where
    runs : map plain_run new ≡ map plain_run old ++ plain_run q ∷ []
    runs = ap (map plain_run) is_new ∙ map-append plain_run old (q ∷ [])

    size : length new ≡ length (map plain_run old) + 1
    size = ap length is_new ∙ length-append old (q ∷ []) ∙ ap (λ n. n + 1) (sym (length-map old plain_run))
