-- Runs counted at each device, in one pass over their commands.
use Rattle.lineage_table.proofs.Prelude.{Bool, List, Run, [], ap, arith, common_steps, cond, false, get_or, get_or-map, get_or-set_other, get_or-set_same, if◌then◌else◌, is_on, length, length-map, list_any, most_devices, or_right, plain_run, refl, runs_of, runs_on, subst, suc, sym, take, take_all, true, zero, ℕ, ◌+◌, ◌<◌, ◌==◌, ◌||◌, ◌∙◌, ◌∷◌, ◌≡◌, ◌≤◌}
use Rattle.command_rules.specs.declared.rosters.Roster.{Roster}
use Rattle.command_rules.specs.declared.rosters.RosterRun.{RosterRun}
use Rattle.home_types.proofs.Cited.{contains_insert}
use Rattle.home_types.specs.DeviceSets.{Devices}
use Rattle.home_types.specs.declared.commands.Command.{Command}
use Rattle.lineage_table.proofs.RunSets.{differ, equal}
use Rattle.std.proofs.Common.{set as set_at}
use Rattle.std.proofs.lemmas.List.Sums.{count_by-le-length, sum_by_more}
use Rattle.std.specs.FinSet as set
use Rattle.std.specs.Ordering.{nat_cmp}

-- one item more
pub any_next : {A : Type 0} (test : A → Bool) (xs : List A) (i : ℕ) (d : A) → i < length xs → list_any test (take (i + 1) xs) ≡ (list_any test (take i xs) || test (get_or xs i d))
any_next {A} test xs i d within = let next : i + 1 ≡ suc i = omega arith in rw next (along xs i within)
  where
    along : (ys : List A) (k : ℕ) → k < length ys → list_any test (take (suc k) ys) ≡ (list_any test (take k ys) || test (get_or ys k d))
    along [] k inside = absurd (omega (arith, inside))
    along (y ∷ ys) zero inside = either (test y)
      where
        either : (b : Bool) → (b || false) ≡ b
        either true = refl
        either false = refl
    along (y ∷ ys) (suc k) inside = ap (λ b. test y || b) (along ys k (omega (arith, inside))) ∙ assoc (test y) (list_any test (take k ys)) (test (get_or ys k d))
      where
        assoc : (a b c : Bool) → (a || (b || c)) ≡ ((a || b) || c)
        assoc true b c = refl
        assoc false b c = refl

-- of the devices that a home may have, the set has those of the commands
abbrev pub Sees : List Command → Devices → Type 0
Sees cs seen = (d : ℕ) → d < most_devices → set.contains seen d ≡ list_any (is_on d) cs

-- one more is counted at each device of the set
abbrev pub Counts : List ℕ → Devices → List ℕ → Type 0
Counts start seen counts = (d : ℕ) → d < most_devices → get_or counts d 0 ≡ get_or start d 0 + (if set.contains seen d then 1 else 0)

pub sees_none : Sees [] set.empty
sees_none d low = set.contains-empty nat_cmp d

pub counts_none : (start : List ℕ) → Counts start set.empty start
counts_none start d low = none (get_or start d 0) ∙ ap (λ b. get_or start d 0 + (if b then 1 else 0)) (sym (set.contains-empty nat_cmp d))
  where
    none : (n : ℕ) → n ≡ n + 0
    none n = omega arith

module _ (cs : List Command) (i : ℕ) (e : Command) (within : i < length cs) (seen : Devices) (sees : Sees (take i cs) seen) where
  -- a command on a device that is seen, or that no home has
  pub sees_known : ((get_or cs i e).device.0 < most_devices → set.contains seen (get_or cs i e).device.0 ≡ true) → Sees (take (i + 1) cs) seen
  sees_known known d low = at_ ((get_or cs i e).device.0 == d) refl ∙ sym (any_next (is_on d) cs i e within)
    where
      or_true : (b : Bool) → true ≡ (b || true)
      or_true true = refl
      or_true false = refl

      or_false : (b : Bool) → b ≡ (b || false)
      or_false true = refl
      or_false false = refl

      at_ : (b : Bool) → ((get_or cs i e).device.0 == d) ≡ b → set.contains seen d ≡ (list_any (is_on d) (take i cs) || b)
      at_ true h =
          let same : (get_or cs i e).device.0 ≡ d = equal (get_or cs i e).device.0 d h in
          subst (λ q. set.contains seen q ≡ true) same (known (subst (λ q. q < most_devices) (sym same) low)) ∙ or_true (list_any (is_on d) (take i cs))
      at_ false h = sees d low ∙ or_false (list_any (is_on d) (take i cs))

  -- .. and on any device, which is seen then
  pub sees_new : Sees (take (i + 1) cs) (set.insert seen (get_or cs i e).device.0)
  sees_new d low =
      contains_insert seen (get_or cs i e).device.0 d
      ∙ ap (λ b. (d == (get_or cs i e).device.0) || b) (sees d low)
      ∙ turned d (get_or cs i e).device.0 (list_any (is_on d) (take i cs))
      ∙ sym (any_next (is_on d) cs i e within)
    where
      turned : (a b : ℕ) (c : Bool) → ((a == b) || c) ≡ (c || (b == a))
      turned a b true = or_right (a == b) true refl
      turned a b false = or_false (a == b) ∙ around a b
        where
          or_false : (x : Bool) → (x || false) ≡ x
          or_false true = refl
          or_false false = refl

          around : (x y : ℕ) → (x == y) ≡ (y == x)
          around x y = grind (arith, common_steps)

-- a device is seen first, and counted
pub counts_new : (start counts : List ℕ) (seen : Devices) (q x : ℕ) → Counts start seen counts → q < most_devices → q < length counts → set.contains seen q ≡ false → x ≡ get_or counts q 0 → Counts start (set.insert seen q) (set_at counts q (x + 1))
counts_new start counts seen q x old few within new was d low = at_ (d == q) refl
  where
    at_ : (b : Bool) → (d == q) ≡ b → get_or (set_at counts q (x + 1)) d 0 ≡ get_or start d 0 + (if set.contains (set.insert seen q) d then 1 else 0)
    at_ true h =
        let here : d ≡ q = equal d q h in
        ap (λ k. get_or (set_at counts q (x + 1)) k 0) here
        ∙ get_or-set_same counts q (x + 1) 0 within
        ∙ ap (λ k. k + 1) (was ∙ old q few ∙ ap (λ b. get_or start q 0 + (if b then 1 else 0)) new)
        ∙ more (get_or start q 0)
        ∙ ap (λ k. get_or start k 0 + 1) (sym here)
        ∙ ap (λ b. get_or start d 0 + (if b then 1 else 0)) (sym (contains_insert seen q d ∙ ap (λ b. b || set.contains seen d) h))
      where
        more : (n : ℕ) → n + 0 + 1 ≡ n + 1
        more n = omega arith
    at_ false h =
        get_or-set_other counts q d (x + 1) 0 (differ d q h)
        ∙ old d low
        ∙ ap (λ b. get_or start d 0 + (if b then 1 else 0)) (sym (contains_insert seen q d ∙ ap (λ b. b || set.contains seen d) h))

-- one run more is counted
pub run_counted : (roster : Roster) (i d : ℕ) (e : RosterRun) → i < length roster.runs.items → runs_on (take (i + 1) (runs_of roster)) d ≡ runs_on (take i (runs_of roster)) d + (if list_any (is_on d) (get_or roster.runs.items i e).routine.commands.items then 1 else 0)
run_counted roster i d e within =
    let inside : i < length (runs_of roster) = subst (λ n. i < n) (sym (length-map roster.runs.items plain_run)) within in
    sum_by_more (λ (run : Run). cond (list_any (is_on d) run.commands) 1 0) (runs_of roster) i (plain_run e) inside
    ∙ ap (λ (run : Run). runs_on (take i (runs_of roster)) d + cond (list_any (is_on d) run.commands) 1 0) (get_or-map plain_run roster.runs.items i e (plain_run e) within)

-- no device has more than the runs that were counted
pub few_counted : (roster : Roster) (i d : ℕ) → runs_on (take i (runs_of roster)) d ≤ i
few_counted roster i d =
    let few = count_by-le-length (λ (run : Run). list_any (is_on d) run.commands) (take i (runs_of roster)) in
    let long : length (take i (runs_of roster)) ≤ i = grind (arith, common_steps) in
    omega (arith, few, long)

-- .. and with the last one all are
pub counted_all : (roster : Roster) (i d : ℕ) → length roster.runs.items ≤ i → runs_on (take i (runs_of roster)) d ≡ runs_on (runs_of roster) d
counted_all roster i d all =
    let whole : take i (runs_of roster) ≡ runs_of roster = take_all i (runs_of roster) (subst (λ n. n ≤ i) (sym (length-map roster.runs.items plain_run)) all) in
    ap (λ (runs : List Run). runs_on runs d) whole
