-- The step of a run in a model with an order, and where no lease is overdue.
use Rattle.hub_core.proofs.Prelude.{Back, Bool, Cause, Command, Commands, Configuration, ConfigurationIsKept, Doomed, Each, End, Failed, Fcfs, HandsOut, IsClear, IsTrue, Item, List, Moves, None, Option, PlacedAt, Point, Ran, Reading, Revoked, Setting, Some, Standing, [], aborts, ap, arith, before, command_cases, commands_of, common_steps, cond, cons_option, decide_command, decide_doomed, entries_of, false, find, first_case, follow_wait, holds, if◌then◌else◌, in_order, is_abort, is_device, is_live, is_none, is_overdue, is_placed_later, is_ran, is_some, is_weak, kind_at, lease_deadline, length, line_for, list_all, list_any, live_before, live_runs, names_values_of, nat_lt, not, option_map, overdue_for, placed_in_order, point, point_of, read_of, refl, run_no, scheduler_of, slice_get, stamp_of, standing, subst, suc, sym, take, take_while-cons, true, undo_cases, unwrap_or, ℕ, ◌&&◌, ◌==◌, ◌∙◌, ◌∷◌, ◌≡◌, ◌≤◌}
use Rattle.history_book.specs.Sealed.{sealed_in}
use Rattle.hub_core.proofs.steps.Causes.{each_is}
use Rattle.hub_core.specs.Decisions.{current_command, skipped_command, strong_command, strong_doomed}
use Rattle.lock_leasing.specs.Leases.{NeverOverdue}

-- Two choices by cases that differ behind a case are the same where they are so when the case is past

pub same_map : {A : Type 0} {B : Type 0} (f h : B → A) (o : Option B) (s t : A) → ((y : B) → o ≡ Some y → f y ≡ h y) → (o ≡ None → s ≡ t) → unwrap_or (option_map f o) s ≡ unwrap_or (option_map h o) t
same_map f h None s t some none = none refl
same_map f h (Some y) s t some none = some y refl

-- what is known of a step in a model with an order
pub record StrongSteps (w : Setting) (n : Reading) : Type 0 where
  pub strong : is_weak w.mode ≡ false
  pub homed : (r k : ℕ) (c : Command) → slice_get (commands_of w.runs r) k ≡ Some c → is_device w c.device.0 ≡ true
  pub standing : (r : ℕ) → is_live n r ≡ true → list_any (is_ran r) n.line ≡ true

-- what is known of the place of a run that is placed at this moment: the run waits for no other, the place is behind what is sealed, nothing behind the place must stand before it as the line stands then, and where runs are served as they come it is the end of the line
pub record IsPlacing (p : Point) (r at m : ℕ) : Type 0 where
  pub leader : follow_wait p.setting p.reading r ≡ None
  pub clear : IsClear (point p.setting (in_order p.reading (line_for p.setting p.reading r m)) p.grips) r at
  pub sealed : sealed_in p.reading ≤ at
  pub within : at ≤ length p.reading.line
  pub last : scheduler_of p.setting.mode ≡ Fcfs → at ≡ length p.reading.line

-- Leases

find_none : {A : Type 0} (p : A → Bool) (xs : List A) → Each (λ x. p x ≡ false) xs → find p xs ≡ None
find_none p [] none = refl
find_none p (x ∷ xs) none = rw none.0 (find_none p xs none.1)

-- a run behind this place was placed after this number of entries
pub placed_after : (n : Reading) (r stamp : ℕ) (line : List Item) → IsTrue (list_all (is_placed_later n stamp) line) → list_any (is_ran r) line ≡ true → nat_lt stamp (stamp_of n r) ≡ true
placed_after n r stamp [] later there = absurd (cc)
placed_after n r stamp (Ran x ∷ is) later there = elim (x.0 == r) as (λ b. (x.0 == r) ≡ b → nat_lt stamp (stamp_of n r) ≡ true) [
  | true ↦ (λ e. let same : x.0 ≡ r = grind (arith, common_steps) in subst (λ q. nat_lt stamp (stamp_of n q) ≡ true) same (grind (arith, common_steps)))
  | false ↦ (λ e. placed_after n r stamp is (grind (arith, common_steps)) (grind (arith, common_steps)))
] refl
placed_after n r stamp (Failed d k ∷ is) later there = placed_after n r stamp is (grind (arith, common_steps)) there
placed_after n r stamp (Back d k ∷ is) later there = placed_after n r stamp is (grind (arith, common_steps)) there

-- the runs before a run of the line were placed before it
pub placed_before : (n : Reading) (r : ℕ) (line : List Item) → IsTrue (placed_in_order n line) → list_any (is_ran r) line ≡ true → Each (λ x. nat_lt (stamp_of n x) (stamp_of n r) ≡ true) (live_runs n (before r line))
placed_before n r [] ordered there = tt
placed_before n r (Ran x ∷ is) ordered there =
    subst (λ l. Each (λ q. nat_lt (stamp_of n q) (stamp_of n r) ≡ true) (live_runs n l)) (sym (take_while-cons (λ i. not (is_ran r i)) (Ran x) is))
    (elim (x.0 == r) as (λ b. (x.0 == r) ≡ b → Each (λ q. nat_lt (stamp_of n q) (stamp_of n r) ≡ true) (live_runs n (cond (not b) (Ran x ∷ before r is) []))) [
      | true ↦ (λ e. tt)
      | false ↦ (λ e. let rest : list_any (is_ran r) is ≡ true = grind (arith, common_steps) in first (placed_after n r (stamp_of n x.0) is (grind (arith, common_steps)) rest) (placed_before n r is (grind (arith, common_steps)) rest))
    ] refl)
  where
    first : nat_lt (stamp_of n x.0) (stamp_of n r) ≡ true → Each (λ q. nat_lt (stamp_of n q) (stamp_of n r) ≡ true) (live_runs n (before r is)) → Each (λ q. nat_lt (stamp_of n q) (stamp_of n r) ≡ true) (live_runs n (Ran x ∷ before r is))
    first now rest = elim (is_live n x.0) as (λ b. Each (λ q. nat_lt (stamp_of n q) (stamp_of n r) ≡ true) (cons_option (if b then Some x.0 else None) (live_runs n (before r is)))) [
      | true ↦ (now, rest)
      | false ↦ rest
    ]
placed_before n r (Failed d k ∷ is) ordered there = subst (λ l. Each (λ q. nat_lt (stamp_of n q) (stamp_of n r) ≡ true) (live_runs n l)) (sym (take_while-cons (λ i. not (is_ran r i)) (Failed d k) is)) (placed_before n r is (grind (arith, common_steps)) there)
placed_before n r (Back d k ∷ is) ordered there = subst (λ l. Each (λ q. nat_lt (stamp_of n q) (stamp_of n r) ≡ true) (live_runs n l)) (sym (take_while-cons (λ i. not (is_ran r i)) (Back d k) is)) (placed_before n r is (grind (arith, common_steps)) there)

-- where each run was placed before those behind it, no lease is ever overdue
pub never_overdue : (p : Point) (r d : ℕ) → IsTrue (placed_in_order p.reading p.reading.line) → list_any (is_ran r) p.reading.line ≡ true → NeverOverdue p r d
never_overdue p r d ordered there m =
    find_none (is_overdue p r d m) (live_before p.reading r) (each_is (λ x. nat_lt (stamp_of p.reading x) (stamp_of p.reading r) ≡ true)
    (λ x. is_overdue p r d m x ≡ false) (live_before p.reading r) (λ x before'. not_overdue x before') (placed_before p.reading r p.reading.line ordered there))
  where
    not_overdue : (x : ℕ) → nat_lt (stamp_of p.reading x) (stamp_of p.reading r) ≡ true → is_overdue p r d m x ≡ false
    not_overdue x less = let later : nat_lt (stamp_of p.reading r) (stamp_of p.reading x) ≡ false = grind (arith, common_steps) in rw later (grind (arith, common_steps))

-- The cases

pub take_all : (line : List Item) → length (take (length line) line) ≡ length line
take_all [] = refl
take_all (i ∷ is) = ap suc (take_all is)

-- the next command in a model with an order, where its guard holds, ..
pub command_is : (p : Point) (r m k : ℕ) (c : Command) → is_weak p.setting.mode ≡ false → holds c.when (p.reading.run r).register ≡ true → decide_command p r m k c ≡ strong_command p r m k c
command_is p r m k c strong guard = (λ i. if guard i then first_case (command_cases (strong i) p r m k c) (HandsOut c.device.0 (Commands k)) else skipped_command p r k)

-- .. or not
pub skip_is : (p : Point) (r m k : ℕ) (c : Command) → holds c.when (p.reading.run r).register ≡ false → decide_command p r m k c ≡ skipped_command p r k
skip_is p r m k c guard = ap (λ b. if b then first_case (command_cases (is_weak p.setting.mode) p r m k c) (HandsOut c.device.0 (Commands k)) else skipped_command p r k) guard

-- .. where no lease on its device is overdue
pub command_current : (p : Point) (r m k : ℕ) (c : Command) → overdue_for p r c.device.0 m ≡ None → strong_command p r m k c ≡ current_command p r k c
command_current p r m k c none = ap (λ o. first_case (option_map (λ x. Moves (Doomed (run_no x) (Revoked (run_no r) c.device (lease_deadline p.setting p.reading x c.device.0) m) ∷ [])) o ∷ []) (current_command p r k c)) none

-- a doomed run
pub doomed_is : (p : Point) (r : ℕ) (cause : Cause) → is_weak p.setting.mode ≡ false → decide_doomed p r cause ≡ strong_doomed p r cause
doomed_is p r cause strong = ap (λ b. first_case (if b then [] else undo_cases p r) (aborts r cause)) strong

-- A configuration that is kept

-- a live run stands in the line
pub live_stands : (n : Reading) (r : ℕ) → Standing n → is_live n r ≡ true → list_any (is_ran r) n.line ≡ true
live_stands n r standing live = standing.line r ∙ stands (n.run r).placed (n.run r).ended live
  where
    stands : (p : Option PlacedAt) (e : Option End) → (is_some p && is_none e) ≡ true → (is_some p && not (unwrap_or (option_map is_abort e) false)) ≡ true
    stands None e f = absurd (cc)
    stands (Some p) None f = refl
    stands (Some p) (Some e) f = absurd (cc)

pub strong_steps : (s : Configuration) (rounds opened : ℕ) (held : ℕ → ℕ) → ConfigurationIsKept s rounds opened held → StrongSteps s.setting (read_of s)
strong_steps s rounds opened held kept =
    record {
      strong = kept.strong;
      homed = λ r k c at. let home : IsTrue (is_device s.setting c.device.0 && names_values_of (kind_at s.setting.kinds c.device.0) c.job) = kept.opens.homed r k c at in grind (arith, common_steps);
      standing = λ r live. live_stands (read_of s) r (standing s.setting (entries_of s.history) kept.history.well_formed) live;
    }

-- first come first served no lease is ever overdue
pub served_in_turn : (s : Configuration) (rounds opened : ℕ) (held : ℕ → ℕ) (r d : ℕ) → ConfigurationIsKept s rounds opened held → s.setting.mode.scheduler ≡ Fcfs → is_live (read_of s) r ≡ true → NeverOverdue (point_of s) r d
served_in_turn s rounds opened held r d kept first live = never_overdue (point_of s) r d (kept.history.in_order first) ((strong_steps s rounds opened held kept).standing r live)
