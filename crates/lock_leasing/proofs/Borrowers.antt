-- Leases, as parts that belong to one window tell them.
use Rattle.lock_leasing.proofs.Prelude.{Access, Asking, Bool, Command, Configuration, EachTellsOfRun, Grips, IsAsking, IsBorrowedFrom, IsDeadlineOf, IsNeverOverdue, IsOverdueOf, IsStandingOf, Kept, Leasing, List, MayAsk, MayLease, None, Option, Reading, RunNo, Setting, Some, TellsOfRun, WindowParts, [], access_borrows, access_deadline, access_is_overdue, access_of, accesses_at, accesses_before, ap, ap₂, arith, borrower_from, commands_of, common_steps, cond, doom_is, doom_of, estimate_to_last, false, find, first_before, greatest, has_access, holds_device, is_borrower, is_doomed, is_none, is_on, is_overdue, is_released, is_some, lease_deadline, length, live_before, min, nat_lt, next_of, not, option_map, overdue_for, placed_at, placing_is, point, point_of, read_of, refl, run_no, slice_get, stamp_of, subst, sym, tenth_up, true, unwrap_or, ℕ, ◌&&◌, ◌+◌, ◌<◌, ◌==◌, ◌||◌, ◌∙◌, ◌∷◌, ◌≡◌}
use Rattle.history_book.specs.declared.entries.Cause.{Cause}
use Rattle.lineage_table.proofs.Cited.{found_has, has_homed}
use Rattle.lock_leasing.proofs.Facts.{Facts, facts_of}
use Rattle.lock_leasing.proofs.Holding.{TellsTest, first_holder, sound_holds}
use Rattle.lock_leasing.proofs.Meetings.{asking_opens}

-- A lease that is overdue is one

pub overdue_borrows : (w : Setting) (n : Reading) (g : Grips) (r d m x : ℕ) → is_overdue (point w n g) r d m x ≡ (is_borrower (point w n g) r d x && nat_lt (lease_deadline w n x d) m)
overdue_borrows w n g r d m x = at (is_doomed n x) (nat_lt (stamp_of n r) (stamp_of n x)) (holds_device (point w n g) x d)
  where
    at : (a b c : Bool) → (not a && b && c && nat_lt (lease_deadline w n x d) m) ≡ ((not a && b && c) && nat_lt (lease_deadline w n x d) m)
    at true b c = refl
    at false true true = refl
    at false true false = refl
    at false false c = refl

-- where no run has the device on a lease from r, none is overdue
pub never_overdue : (w : Setting) (n : Reading) (g : Grips) (r d m : ℕ) → is_some (borrower_from (point w n g) r d) ≡ false → overdue_for (point w n g) r d m ≡ None
never_overdue w n g r d m none = walk (live_before n r) none
  where
    walk : (xs : List ℕ) → is_some (find (is_borrower (point w n g) r d) xs) ≡ false → find (is_overdue (point w n g) r d m) xs ≡ None
    walk [] none = refl
    walk (x ∷ xs) none = at (is_borrower (point w n g) r d x) refl (walk xs) none
      where
        at : (b : Bool) → is_borrower (point w n g) r d x ≡ b → (is_some (find (is_borrower (point w n g) r d) xs) ≡ false → find (is_overdue (point w n g) r d m) xs ≡ None)
            → is_some (cond b (Some x) (find (is_borrower (point w n g) r d) xs)) ≡ false
            → cond (is_overdue (point w n g) r d m x) (Some x) (find (is_overdue (point w n g) r d m) xs) ≡ None
        at true e rest none = absurd (cc)
        at false e rest none = let current : is_overdue (point w n g) r d m x ≡ false = overdue_borrows w n g r d m x ∙ ap (λ b. b && nat_lt (lease_deadline w n x d) m) e in ap (λ b. cond b (Some x) (find (is_overdue (point w n g) r d m) xs)) current ∙ rest none

-- Accesses

-- what the history tells of dooms and placings is what was read
record IsTold (n : Reading) (history : List Kept) : Type 0 where
  dooms : (q : ℕ) → is_some (doom_of history q) ≡ is_doomed n q
  placings : (q : ℕ) → placed_at history q ≡ stamp_of n q

module _ (w : Setting) (n : Reading) (g : Grips) (f : Facts w n g) (d : ℕ) (history : List Kept) (told : IsTold n history) where
  tells_borrower : (r : ℕ) → TellsTest w n g f d (is_borrower (point w n g) r d) (access_borrows history (placed_at history r))
  tells_borrower r x rest tells used = turned (not (is_released x.status)) (nat_lt (placed_at history r) (placed_at history x.run.0)) (is_none (doom_of history x.run.0)) ∙ at (is_doomed n x.run.0) refl
    where
      unsome : (o : Option Cause) → is_none o ≡ not (is_some o)
      unsome None = refl
      unsome (Some c) = refl

      sound : is_none (doom_of history x.run.0) ≡ not (is_doomed n x.run.0)
      sound = unsome (doom_of history x.run.0) ∙ ap not (told.dooms x.run.0)

      later : nat_lt (placed_at history r) (placed_at history x.run.0) ≡ nat_lt (stamp_of n r) (stamp_of n x.run.0)
      later = ap₂ nat_lt (told.placings r) (told.placings x.run.0)

      turned : (a b c : Bool) → (a && b && c) ≡ (c && b && a)
      turned a b c = grind (arith, common_steps)

      at : (b : Bool) → is_doomed n x.run.0 ≡ b → (is_none (doom_of history x.run.0) && nat_lt (placed_at history r) (placed_at history x.run.0) && not (is_released x.status)) ≡ is_borrower (point w n g) r d x.run.0
      at true e = rw (sound, e) refl
      at false e = ap₂ (λ a b. a && nat_lt (placed_at history r) (placed_at history x.run.0) && b) sound (sound_holds w n g f d x rest tells used e) ∙ ap (λ b. not (is_doomed n x.run.0) && b && holds_device (point w n g) x.run.0 d) later

  deadline_told : (x : Access) (rest : List Access) → TellsOfRun (point w n g) d x rest → access_deadline w.runs d x ≡ lease_deadline w n x.run.0 d
  deadline_told x rest tells = ap (λ t. min (t + tenth_up (estimate_to_last d (commands_of w.runs x.run.0))) greatest) tells.to

  tells_overdue : (r m : ℕ) → TellsTest w n g f d (is_overdue (point w n g) r d m) (access_is_overdue w.runs history (placed_at history r) d m)
  tells_overdue r m x rest tells used =
      ap₂ (λ b t. b && nat_lt t m) (tells_borrower r x rest tells used) (deadline_told x rest tells) ∙ sym (overdue_borrows w n g r d m x.run.0)

  borrower_holds : (r q : ℕ) → is_borrower (point w n g) r d q ≡ true → holds_device (point w n g) q d ≡ true
  borrower_holds r q yes' = grind (arith, common_steps)

  overdue_holds : (r m q : ℕ) → is_overdue (point w n g) r d m q ≡ true → holds_device (point w n g) q d ≡ true
  overdue_holds r m q yes' = grind (arith, common_steps)

  -- the deadline of a run's lease, by its access
  own_deadline : (r : ℕ) (xs : List Access) (x : Access) → EachTellsOfRun (point w n g) d xs → access_of r xs ≡ Some x → access_deadline w.runs d x ≡ lease_deadline w n r d
  own_deadline r [] x all found = absurd (cc)
  own_deadline r (y ∷ ys) x all found = at (y.run.0 == r) refl (own_deadline r ys x all.1) found
    where
      at : (b : Bool) → (y.run.0 == r) ≡ b → (access_of r ys ≡ Some x → access_deadline w.runs d x ≡ lease_deadline w n r d) → cond b (Some y) (access_of r ys) ≡ Some x → access_deadline w.runs d x ≡ lease_deadline w n r d
      at true e rest found =
          let own : y.run.0 ≡ r = grind (arith, common_steps) in
          let same : y ≡ x = ap (λ o. unwrap_or o y) found in
          subst (λ z. access_deadline w.runs d z ≡ lease_deadline w n r d) same (deadline_told y ys all.0 ∙ ap (λ q. lease_deadline w n q d) own)
      at false e rest found = rest found

-- a run that is found has an access
pub found_access : (test : Access → Bool) (r : ℕ) (xs : List Access) (q : RunNo) → first_before test r xs ≡ Some q → has_access q.0 xs ≡ true
found_access test r [] q found = absurd (cc)
found_access test r (x ∷ xs) q found = at (x.run.0 == r) (test x) refl (found_access test r xs q) found
  where
    at : (a b : Bool) → test x ≡ b → (first_before test r xs ≡ Some q → has_access q.0 xs ≡ true) → option_map (λ y. y.run) (find test (cond a [] (x ∷ accesses_before r xs))) ≡ Some q → ((x.run.0 == q.0) || has_access q.0 xs) ≡ true
    at true b e behind found = absurd (cc)
    at false true e behind found =
        let head : option_map (λ y. y.run) (cond true (Some x) (find test (accesses_before r xs))) ≡ Some q = ap (λ c. option_map (λ y. y.run) (cond c (Some x) (find test (accesses_before r xs)))) (sym e) ∙ found in
        let same : x.run ≡ q = ap (λ o. unwrap_or o q) head in
        let own : (x.run.0 == x.run.0) ≡ true = grind (arith, common_steps) in
        let its : (x.run.0 == q.0) ≡ true = subst (λ z. (x.run.0 == z.0) ≡ true) same own in
        rw its refl
    at false false e behind found =
        let tail : option_map (λ y. y.run) (find test (accesses_before r xs)) ≡ Some q = ap (λ c. option_map (λ y. y.run) (cond c (Some x) (find test (accesses_before r xs)))) (sym e) ∙ found in
        let rest : has_access q.0 xs ≡ true = behind tail in
        grind (arith, common_steps)

-- A configuration to which the parts belong

told_of : (s : Configuration) (parts : WindowParts) → IsStandingOf s parts → IsTold (read_of s) parts.history
told_of s parts stands = record {
  dooms = λ q. ap (λ h. is_some (doom_of h q)) (sym stands.its_history) ∙ ap is_some (doom_is s.setting s.history q stands.well_formed);
  placings = λ q. ap (λ h. placed_at h q) (sym stands.its_history) ∙ ap (λ o. unwrap_or o 0) (placing_is s.setting s.history q stands.well_formed);
}

-- the device for which a run asks is one of the home
next_homed : (devices d k : ℕ) (cs : List Command) → ((i : ℕ) (c : Command) → slice_get cs i ≡ Some c → c.device.0 < devices) → unwrap_or (option_map (is_on d) (slice_get cs k)) false ≡ true → d < devices
next_homed devices d k cs homed on = at (slice_get cs k) refl on
  where
    at : (o : Option Command) → slice_get cs k ≡ o → unwrap_or (option_map (is_on d) o) false ≡ true → d < devices
    at None e on = absurd (cc)
    at (Some c) e on = let own : c.device.0 ≡ d = grind (arith, common_steps) in subst (λ i. i < devices) own (homed k c e)

asking_homed : (s : Configuration) (parts : WindowParts) (r d : ℕ) → IsStandingOf s parts → IsAsking s r d → d < length s.setting.first
asking_homed s parts r d stands turn = next_homed (length s.setting.first) d (next_of (read_of s) r) (commands_of s.setting.runs r) (stands.allowed.homed r) turn.next

-- the run that is found has a lease
pub found_leases : (parts : WindowParts) (test : Access → Bool) (r d : ℕ) (x : RunNo) → MayAsk parts r d → Some x ≡ first_before test r (accesses_at parts.table d) → MayLease parts x.0 d
found_leases parts test r d x (Asking s stands turn) found = Leasing s stands (found_access test r (accesses_at parts.table d) x (sym found))

-- What is found

overdue_is : (parts : WindowParts) (r d m : ℕ) (s : Configuration) → IsStandingOf s parts → IsAsking s r d
    → option_map (λ q. q.0) (first_before (access_is_overdue parts.runs parts.history (placed_at parts.history r) d m) r (accesses_at parts.table d)) ≡ overdue_for (point_of s) r d m
overdue_is parts r d m s stands turn =
    let f = facts_of s parts stands in
    let told = told_of s parts stands in
    let its = stands.its_table.each d (asking_homed s parts r d stands turn) in
    ap (λ rs. option_map (λ q. q.0) (first_before (access_is_overdue rs parts.history (placed_at parts.history r) d m) r (accesses_at parts.table d))) (sym stands.its_roster)
    ∙ first_holder s.setting (read_of s) s.grips f d (is_overdue (point_of s) r d m) (access_is_overdue s.setting.runs parts.history (placed_at parts.history r) d m) r (accesses_at parts.table d)
    (overdue_holds s.setting (read_of s) s.grips f d parts.history told r m) (tells_overdue s.setting (read_of s) s.grips f d parts.history told r m) (asking_opens s r d turn) its.runs its.each

pub overdue_none : (parts : WindowParts) (r d m : ℕ) → None ≡ first_before (access_is_overdue parts.runs parts.history (placed_at parts.history r) d m) r (accesses_at parts.table d) → IsOverdueOf parts r d m None
overdue_none parts r d m none s stands turn =
    ap (λ o. option_map (λ x. (run_no x, lease_deadline s.setting (read_of s) x d)) (option_map (λ (q : RunNo). q.0) o)) none
    ∙ ap (option_map (λ x. (run_no x, lease_deadline s.setting (read_of s) x d))) (overdue_is parts r d m s stands turn)

pub overdue_some : (parts : WindowParts) (r d m : ℕ) (x : RunNo) (t : ℕ) → Some x ≡ first_before (access_is_overdue parts.runs parts.history (placed_at parts.history r) d m) r (accesses_at parts.table d)
    → IsDeadlineOf parts x.0 d t → IsOverdueOf parts r d m (Some (x, t))
overdue_some parts r d m x t found deadline s stands turn =
    ap (λ k. Some (x, k)) (deadline s stands)
    ∙ ap (λ o. option_map (λ y. (run_no y, lease_deadline s.setting (read_of s) y d)) (option_map (λ (q : RunNo). q.0) o)) found
    ∙ ap (option_map (λ y. (run_no y, lease_deadline s.setting (read_of s) y d))) (overdue_is parts r d m s stands turn)

borrower_is : (parts : WindowParts) (r d : ℕ) (s : Configuration) → IsStandingOf s parts → IsAsking s r d
    → option_map (λ q. q.0) (first_before (access_borrows parts.history (placed_at parts.history r)) r (accesses_at parts.table d)) ≡ borrower_from (point_of s) r d
borrower_is parts r d s stands turn =
    let f = facts_of s parts stands in
    let told = told_of s parts stands in
    let its = stands.its_table.each d (asking_homed s parts r d stands turn) in
    first_holder s.setting (read_of s) s.grips f d (is_borrower (point_of s) r d) (access_borrows parts.history (placed_at parts.history r)) r (accesses_at parts.table d)
    (borrower_holds s.setting (read_of s) s.grips f d parts.history told r) (tells_borrower s.setting (read_of s) s.grips f d parts.history told r) (asking_opens s r d turn) its.runs its.each

pub borrowed_is : (parts : WindowParts) (r d : ℕ) (o : Option RunNo) → o ≡ first_before (access_borrows parts.history (placed_at parts.history r)) r (accesses_at parts.table d) → IsBorrowedFrom parts r d (is_some o)
borrowed_is parts r d o found s stands turn = kept_some o ∙ ap (λ x. is_some (option_map (λ q. q.0) x)) found ∙ ap is_some (borrower_is parts r d s stands turn)
  where
    kept_some : (x : Option RunNo) → is_some x ≡ is_some (option_map (λ q. q.0) x)
    kept_some None = refl
    kept_some (Some q) = refl

pub unborrowed : (parts : WindowParts) (r d : ℕ) (some : Bool) → IsBorrowedFrom parts r d some → some ≡ false → IsNeverOverdue parts r d
unborrowed parts r d some exact none s stands turn m = never_overdue s.setting (read_of s) s.grips r d m (sym (exact s stands turn) ∙ none)

pub deadline_is : (parts : WindowParts) (r d t : ℕ) (x : Access) → d < length parts.table → access_of r (accesses_at parts.table d) ≡ Some x → t ≡ access_deadline parts.runs d x → IsDeadlineOf parts r d t
deadline_is parts r d t x within found is s stands =
    let size = stands.its_table.devices in
    let homed : d < length s.setting.first = omega (arith, within, size) in
    is
    ∙ ap (λ rs. access_deadline rs d x) (sym stands.its_roster)
    ∙ own_deadline s.setting (read_of s) s.grips (facts_of s parts stands) d parts.history (told_of s parts stands) r (accesses_at parts.table d) x (stands.its_table.each d homed).each found

-- A run with an access: the device is one of the table, and the access is found

pub may_reach_leased : (parts : WindowParts) (r d : ℕ) → MayLease parts r d → d < length parts.table
may_reach_leased parts r d (Leasing s stands access) = has_homed parts.table d r access

pub leased_found : (parts : WindowParts) (r d : ℕ) (o : Option Access) → MayLease parts r d → o ≡ access_of r (accesses_at parts.table d) → is_some o ≡ true
leased_found parts r d o (Leasing s stands access) is = ap is_some is ∙ sym (found_has r (accesses_at parts.table d)) ∙ access
