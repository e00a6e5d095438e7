-- What is answered by the first place and the first denial is what just-in-time admission says.
use Rattle.command_rules.proofs.Cited.{device_below}
use Rattle.jit_scheduler.proofs.Prelude.{Admitting, Bool, Denial, DeniedBy, Grips, IsAdmissionOf, IsPlaceOfLine, IsPlacingOf, IsToBePlaced, IsTrue, Mark, MayAdmit, None, Option, Placing, Reading, Setting, Some, WindowParts, admission, admitted_placing, answer_by, ap, arith, commands_of, common_steps, denial_of, device_no, facts_of, false, first_denial, first_place, if◌then◌else◌, is_live, is_run, is_some, just_in_time, length, nat_le, option_map, patience, place_within, point, point_of, read_of, refl, run_no, subst, sym, touches, true, unwrap_or, ℕ, ◌+◌, ◌<◌, ◌∙◌, ◌≡◌, ◌≤◌}
use Rattle.history_book.specs.Lines.{split_at}
use Rattle.home_types.specs.Limits.{most_devices}
use Rattle.jit_scheduler.proofs.Deniers.{denial_is, plain_denial}
use Rattle.jit_scheduler.specs.declared.answers.Admit.TheVariants.{At, Denied, Patience}
use Rattle.jit_scheduler.specs.declared.answers.Admit.{Admit}
use Rattle.jit_scheduler.specs.declared.denials.Denial.{Denial as FoundDenial}
use Rattle.lock_leasing.specs.FirstPlaces.{IsFirstPlaceOf}
use Rattle.lock_leasing.specs.Places.{At as PlacedAt}
use Rattle.std.proofs.lemmas.List.{length-map}

-- A run that is to be placed

not_live : (n : Reading) (r came : ℕ) → IsToBePlaced n r came → is_live n r ≡ false
not_live n r came turn = let unplaced = turn.unplaced in grind (arith, common_steps)

-- it is one of the roster
pub may_run : (parts : WindowParts) (r came : ℕ) → MayAdmit parts r came → IsTrue (is_run parts.runs r)
may_run parts r came (Admitting s stands turn) = subst (λ xs. IsTrue (is_run xs r)) stands.its_roster known
  where
    known : IsTrue (is_run s.setting.runs r)
    known = let shape = (facts_of s parts stands).shaped r in shape.known (ap is_some turn.arrived)

-- the table has no more devices than a home
pub may_fit : (parts : WindowParts) (r came : ℕ) → MayAdmit parts r came → length parts.table ≤ most_devices
may_fit parts r came (Admitting s stands turn) = let size = stands.its_table.devices in let few = stands.allowed.few_devices in omega (arith, size, few)

-- .. and has those of the run
pub may_reach : (parts : WindowParts) (r came : ℕ) → MayAdmit parts r came → (d : ℕ) → touches parts.runs r d ≡ true → d < length parts.table
may_reach parts r came (Admitting s stands turn) d on =
    let size = stands.its_table.devices in
    let own : touches s.setting.runs r d ≡ true = ap (λ rs. touches rs r d) stands.its_roster ∙ on in
    let below : d < length s.setting.first = device_below d (length s.setting.first) (commands_of s.setting.runs r) (λ k c there. stands.allowed.homed r k c there) own in
    omega (arith, size, below)

-- The answer

module _ (parts : WindowParts) (r came m place : ℕ) (first : IsFirstPlaceOf parts r place) where
  abbrev told : Setting → Reading → Grips → Option Denial → Admit
  told w n g None = At (first_place (point w n g) r)
  told w n g (Some x) = if nat_le (unwrap_or (n.run r).arrived 0 + patience) m then Patience else Denied (device_no x.device) (run_no x.run)

  pub answer_is : IsAdmissionOf parts r came m (answer_by place (first_denial parts r place) came m)
  answer_is s stands turn =
      ap (λ k. answer_by k (first_denial parts r k) came m) (first s stands)
      ∙ by_own (first_denial parts r (first_place (point_of s) r))
      ∙ ap (told s.setting (read_of s) s.grips) (denial_is s parts r stands (not_live (read_of s) r came turn))
    where
      by_own : (o : Option FoundDenial) → answer_by (first_place (point_of s) r) o came m ≡ told s.setting (read_of s) s.grips (option_map (λ x. plain_denial x) o)
      by_own None = refl
      by_own (Some x) = ap (λ p. if nat_le (unwrap_or p 0 + patience) m then Patience else Denied x.device x.run) (sym turn.arrived)

-- what the scheduler says then
placing_is : (w : Setting) (n : Reading) (g : Grips) (r m : ℕ) → admitted_placing n.line (admission (point w n g) r m) ≡ just_in_time (point w n g) r m
placing_is w n g r m = at (denial_of (point w n g) r)
  where
    said : Option Denial → Admit
    said None = At (first_place (point w n g) r)
    said (Some x) = if nat_le (unwrap_or (n.run r).arrived 0 + patience) m then Patience else Denied (device_no x.device) (run_no x.run)

    placed : Option Denial → Placing
    placed None = PlacedAt (split_at n.line (first_place (point w n g) r))
    placed (Some x) = if nat_le (unwrap_or (n.run r).arrived 0 + patience) m then PlacedAt (split_at n.line (length n.line)) else DeniedBy x.device x.run

    at : (o : Option Denial) → admitted_placing n.line (said o) ≡ placed o
    at None = refl
    at (Some x) = waited (nat_le (unwrap_or (n.run r).arrived 0 + patience) m)
      where
        waited : (b : Bool) → admitted_placing n.line (if b then Patience else Denied (device_no x.device) (run_no x.run)) ≡ (if b then PlacedAt (split_at n.line (length n.line)) else DeniedBy x.device x.run)
        waited true = refl
        waited false = refl

-- The clauses

pub exact_is : (parts : WindowParts) (r came m place : ℕ) (answer : Admit) → IsFirstPlaceOf parts r place
    → answer ≡ answer_by place (first_denial parts r place) came m → IsAdmissionOf parts r came m answer
exact_is parts r came m place answer first same s stands turn = same ∙ answer_is parts r came m place first s stands turn

pub placing_told : (parts : WindowParts) (r came m place : ℕ) (answer : Admit) → IsFirstPlaceOf parts r place
    → answer ≡ answer_by place (first_denial parts r place) came m → IsPlacingOf parts r came m answer
placing_told parts r came m place answer first same s stands turn =
    ap (admitted_placing (read_of s).line) (exact_is parts r came m place answer first same s stands turn) ∙ placing_is s.setting (read_of s) s.grips r m

pub within_told : (parts : WindowParts) (r came m place : ℕ) (answer : Admit) → MayAdmit parts r came → IsFirstPlaceOf parts r place
    → answer ≡ answer_by place (first_denial parts r place) came m → IsPlaceOfLine parts.line answer
within_told parts r came m place answer (Admitting s stands turn) first same =
    subst (IsPlaceOfLine parts.line) (sym same) (at (first_denial parts r place))
  where
    inside : place ≤ length parts.line
    inside =
        let own : place ≡ first_place (point_of s) r = first s stands in
        let below : first_place (point_of s) r ≤ length (read_of s).line = place_within s.setting (read_of s) s.grips r in
        let size : length parts.line ≡ length (read_of s).line = sym (length-map parts.line (λ (k : Mark). k.item)) ∙ ap length stands.its_line.items in
        omega (arith, own, below, size)

    at : (o : Option FoundDenial) → IsPlaceOfLine parts.line (answer_by place o came m)
    at None = inside
    at (Some x) = waited (nat_le (came + patience) m)
      where
        waited : (b : Bool) → IsPlaceOfLine parts.line (if b then Patience else Denied x.device x.run)
        waited true = tt
        waited false = tt
