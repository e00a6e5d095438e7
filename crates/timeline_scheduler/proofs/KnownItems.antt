-- The items of a line are runs of the roster and events of the home's devices.
use Rattle.timeline_scheduler.proofs.Prelude.{Back, Bool, Configuration, Failed, IsKnown, IsRosterFor, IsStandingOf, IsTrue, Item, ItemsAreKnown, List, MayPlan, Ran, Run, RunsAreHomed, Setting, Some, WindowParts, [], ap, arith, commands_of, common_steps, device_below, false, is_run, is_some, is_stray, items_of, length, list_any, none_strays, read_of, slice_get, subst, suc, sym, touches, true, zero, ℕ, ◌<◌, ◌||◌, ◌∙◌, ◌∷◌, ◌≡◌, ◌≤◌}
use Rattle.history_book.specs.Histories.{entries_of}
use Rattle.timeline_scheduler.specs.Placings.{Planning}

-- what none of a list is, the one at a place is not
not_at : {A : Type 0} (p : A → Bool) (xs : List A) (k : ℕ) (x : A) → list_any p xs ≡ false → slice_get xs k ≡ Some x → p x ≡ false
not_at p [] k x none there = absurd (cc)
not_at p (y ∷ xs) zero x none there = let same : y ≡ x = cc in ap p (sym same) ∙ first (p y) (list_any p xs) none
  where
    first : (a b : Bool) → (a || b) ≡ false → a ≡ false
    first a b e = grind (arith, common_steps)
not_at p (y ∷ xs) (suc k) x none there = not_at p xs k x (last (p y) (list_any p xs) none) there
  where
    last : (a b : Bool) → (a || b) ≡ false → b ≡ false
    last a b e = grind (arith, common_steps)

-- a run's number is not greater than the number of runs
pub run_within : (runs : List Run) (x : ℕ) → is_run runs x ≡ true → x ≤ length runs
run_within runs zero known = omega arith
run_within runs (suc i) known = let inside = below runs i known in omega (arith, inside)
  where
    below : (rs : List Run) (k : ℕ) → is_some (slice_get rs k) ≡ true → k < length rs
    below [] k some = absurd (cc)
    below (r ∷ rs) zero some = omega arith
    below (r ∷ rs) (suc k) some = let rest = below rs k some in omega (arith, rest)

module _ (w : Setting) (allowed : IsRosterFor (length w.first) w.runs) where
  known_item : (i : Item) → is_stray w i ≡ false → IsKnown w.runs i
  known_item (Ran x) own =
      let known : is_run w.runs x.0 ≡ true = grind (arith, common_steps) in
      let few = allowed.few_runs in
      let inside = run_within w.runs x.0 known in
      (is_true (is_run w.runs x.0) known, omega (arith, few, inside), λ f leads. let earlier = allowed.follows_earlier x.0 f leads in omega (arith, few, inside, earlier))
    where
      is_true : (b : Bool) → b ≡ true → IsTrue b
      is_true b e = grind (arith, common_steps)
  known_item (Failed d k) own = let few = allowed.few_devices in let homed : d.0 < length w.first = grind (arith, common_steps) in omega (arith, few, homed)
  known_item (Back d k) own = let few = allowed.few_devices in let homed : d.0 < length w.first = grind (arith, common_steps) in omega (arith, few, homed)

module _ (parts : WindowParts) (r : ℕ) where
  -- the items of the line are known
  pub all_known : MayPlan parts r → ItemsAreKnown parts.runs (items_of parts.line)
  all_known (Planning s stands run timed) at i there =
      subst (λ rs. IsKnown rs i) stands.its_roster
      (known_item s.setting stands.allowed i
      (not_at (is_stray s.setting) (read_of s).line at i (none_strays s.setting (entries_of s.history) stands.well_formed) (ap (λ is. slice_get is at) (sym stands.its_line.items) ∙ there)))

  pub device_within : (s : Configuration) → IsStandingOf s parts → (x d : ℕ) → touches s.setting.runs x d ≡ true → d < length s.setting.first
  device_within s stands x d on = device_below d (length s.setting.first) (commands_of s.setting.runs x) (λ k c there. stands.allowed.homed x k c there) on

  -- each command is on a device of the table
  pub all_homed : MayPlan parts r → RunsAreHomed (length parts.table) parts.runs
  all_homed (Planning s stands run timed) x d on =
      let size = stands.its_table.devices in
      let below = device_within s stands x d (ap (λ rs. touches rs x d) stands.its_roster ∙ on) in
      omega (arith, size, below)
