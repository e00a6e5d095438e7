-- The devices of each run, as its accesses come and leave.
use Rattle.home_types.specs.DeviceSets.{Devices}
use Rattle.home_types.proofs.Cited.{contains_insert, contains_remove}
use Rattle.lineage_table.proofs.KeptTables.{table_set}
use Rattle.lineage_table.proofs.Prelude.{Bool, Err, HasLess, HasMore, IsDisciplined, LineageState, List, Ok, OnErr, OnOk, Result, TableIsSound, [], accesses_at, ap, arith, common_steps, eq-eqb, false, get_or, get_or-set_other, get_or-set_same, has_access, if◌then◌else◌, is_in, length, length-set, lineage_at, nat_lt, no_lineage, not, refl, subst, suc, sym, true, with_more_room, zero, ℕ, ◌&&◌, ◌++◌, ◌+◌, ◌<◌, ◌==◌, ◌||◌, ◌∙◌, ◌∷◌, ◌≡◌, ◌≢◌, ◌≤◌}
use Rattle.std.proofs.Common.{set as set_at}
use Rattle.std.specs.FinSet as set
use Rattle.std.specs.Ordering.{nat_cmp}

pub equal : (x y : ℕ) → (x == y) ≡ true → x ≡ y
equal x y h = grind (arith, common_steps)

pub differ : (x y : ℕ) → (x == y) ≡ false → x ≢ y
differ x y h k = grind (arith, common_steps)

-- none up to here, and not here
pub none_next : (test : ℕ → Bool) (from d : ℕ) → ((e : ℕ) → from ≤ e → e < d → test e ≡ false) → test d ≡ false → (e : ℕ) → from ≤ e → e < d + 1 → test e ≡ false
none_next test from d none here e above within = at_ (e == d) refl
  where
    at_ : (b : Bool) → (e == d) ≡ b → test e ≡ false
    at_ true h = ap test (equal e d h) ∙ here
    at_ false h = let other : e ≢ d = differ e d h in none e above (omega (arith, within, other))

-- those up to here that are chosen, with this one
pub one_chosen : (test : ℕ → Bool) (d e : ℕ) → test d ≡ true → ((e == d) || (nat_lt e d && test e)) ≡ (nat_lt e (d + 1) && test e)
one_chosen test d e on = at_ (e == d) refl
  where
    at_ : (b : Bool) → (e == d) ≡ b → (b || (nat_lt e d && test e)) ≡ (nat_lt e (d + 1) && test e)
    at_ true same = let own : test e ≡ true = ap test (equal e d same) ∙ on in grind (arith, common_steps)
    at_ false other = let more : nat_lt e d ≡ nat_lt e (d + 1) = grind (arith, common_steps) in ap (λ b. b && test e) more

-- .. and without it
pub none_chosen : (test : ℕ → Bool) (d e : ℕ) → test d ≡ false → (nat_lt e d && test e) ≡ (nat_lt e (d + 1) && test e)
none_chosen test d e off = at_ (e == d) refl
  where
    at_ : (b : Bool) → (e == d) ≡ b → (nat_lt e d && test e) ≡ (nat_lt e (d + 1) && test e)
    at_ true same = let own : test e ≡ false = ap test (equal e d same) ∙ off in grind (arith, common_steps)
    at_ false other = let more : nat_lt e d ≡ nat_lt e (d + 1) = grind (arith, common_steps) in ap (λ b. b && test e) more

-- a device with an access is one of the table
pub has_homed : (table : List LineageState) (d r : ℕ) → has_access r (accesses_at table d) ≡ true → d < length table
has_homed [] d r has = absurd (cc)
has_homed (s ∷ table) zero r has = omega arith
has_homed (s ∷ table) (suc d) r has = let rest : d < length table = has_homed table d r has in omega (arith, rest)

-- one empty set more
pub empty_more : (sets : List Devices) → ((r d : ℕ) → r < length sets → is_in sets r d ≡ false) → (r d : ℕ) → r < length (sets ++ set.empty ∷ []) → is_in (sets ++ set.empty ∷ []) r d ≡ false
empty_more [] none zero d within = set.contains-empty nat_cmp d
empty_more [] none (suc r) d within = absurd (omega (arith, within))
empty_more (s ∷ sets) none zero d within = none 0 d (omega arith)
empty_more (s ∷ sets) none (suc r) d within = empty_more sets (λ k e inside. none (suc k) e (omega (arith, inside))) r d (omega (arith, within))

-- The set of one run

module _ (sets : List Devices) (r d : ℕ) (old new : Devices) (within : r < length sets) (was : old ≡ get_or sets r set.empty) where
  in_new : (q e : ℕ) → (b : Bool) → (q == r) ≡ b → is_in (set_at sets r new) q e ≡ (if b then set.contains new e else is_in sets q e)
  in_new q e true same = ap (λ k. set.contains (get_or (set_at sets r new) k set.empty) e) (equal q r same) ∙ ap (λ s. set.contains s e) (get_or-set_same sets r new set.empty within)
  in_new q e false other = ap (λ s. set.contains s e) (get_or-set_other sets r q new set.empty (differ q r other))

  pub set_more : new ≡ set.insert old d → HasMore r d sets (set_at sets r new)
  set_more is = record { runs = length-set sets r new; each = λ q e inside. at_ q e (q == r) refl }
    where
      at_ : (q e : ℕ) (b : Bool) → (q == r) ≡ b → is_in (set_at sets r new) q e ≡ ((b && (e == d)) || is_in sets q e)
      at_ q e true same = in_new q e true same ∙ ap (λ s. set.contains s e) is ∙ contains_insert old d e ∙ ap (λ x. (e == d) || x) (ap (λ s. set.contains s e) was ∙ ap (λ k. is_in sets k e) (sym (equal q r same)))
      at_ q e false other = in_new q e false other

  pub set_less : new ≡ set.remove old d → HasLess (λ q. q == r) d sets (set_at sets r new)
  set_less is = record { runs = length-set sets r new; each = λ q e inside. at_ q e (q == r) refl }
    where
      both : (x y : Bool) → (not x && y) ≡ (not (x && true) && y)
      both true y = refl
      both false y = refl

      neither : (x y : Bool) → y ≡ (not (x && false) && y)
      neither true y = refl
      neither false y = refl

      at_ : (q e : ℕ) (b : Bool) → (q == r) ≡ b → is_in (set_at sets r new) q e ≡ (not ((e == d) && b) && is_in sets q e)
      at_ q e true same = in_new q e true same ∙ ap (λ s. set.contains s e) is ∙ contains_remove old d e ∙ ap (λ x. not (e == d) && x) (ap (λ s. set.contains s e) was ∙ ap (λ k. is_in sets k e) (sym (equal q r same))) ∙ both (e == d) (is_in sets q e)
      at_ q e false other = in_new q e false other ∙ neither (e == d) (is_in sets q e)

-- Runs leave one after another

pub less_more : (a b c : ℕ → Bool) (d : ℕ) (old mid new : List Devices) → HasLess a d old mid → HasLess b d mid new → ((q : ℕ) → c q ≡ (a q || b q)) → HasLess c d old new
less_more a b c d old mid new first second same = record {
  runs = second.runs ∙ first.runs;
  each = λ q e within.
      second.each q e (subst (λ n. q < n) (sym first.runs) within)
      ∙ ap (λ x. not ((e == d) && b q) && x) (first.each q e within)
      ∙ one (e == d) (a q) (b q) (is_in old q e)
      ∙ sym (ap (λ x. not ((e == d) && x) && is_in old q e) (same q));
}
  where
    one : (x p q y : Bool) → (not (x && q) && (not (x && p) && y)) ≡ (not (x && (p || q)) && y)
    one true true true y = refl
    one true true false y = refl
    one true false true y = refl
    one true false false y = refl
    one false p q y = refl

-- A lineage changes

-- an element that is there, read with any default
pub read_there : {A : Type 0} (xs : List A) (i : ℕ) (x d : A) → i < length xs → x ≡ get_or xs i x → x ≡ get_or xs i d
read_there [] i x d within is = absurd (omega (arith, within))
read_there (y ∷ ys) zero x d within is = is
read_there (y ∷ ys) (suc i) x d within is = read_there ys i x d (omega (arith, within)) is

pub lineage_here : (table now : List LineageState) (d : ℕ) (x : LineageState) → table ≡ now → d < length now → x ≡ get_or table d x → lineage_at now d ≡ x
lineage_here table now d x same below is = ap (λ (l : List LineageState). lineage_at l d) (sym same) ∙ sym (read_there table d x no_lineage (subst (λ (l : List LineageState). d < length l) (sym same) below) is)

-- whether room for one access more is made or refused, the accesses stay
pub accesses_stay : {A B : Type 0} (result : Result A B) (old new : LineageState) → OnOk result (new ≡ with_more_room old) → OnErr result (new ≡ old) → new.accesses ≡ old.accesses
accesses_stay (Ok a) old new made refused = ap (λ (s : LineageState). s.accesses) made
accesses_stay (Err e) old new made refused = ap (λ (s : LineageState). s.accesses) refused

-- the lineage `old` of the device becomes `s`, which is read again as `x`
module _ (sets now : List Devices) (table now_table : List LineageState) (d : ℕ) (old s x : LineageState) (is : TableIsSound sets table)
    (same : table ≡ now_table) (below : d < length now_table) (was : old ≡ get_or table d old) (there : x ≡ get_or (set_at table d s) d x)
    (turns : IsDisciplined x.accesses) where
  inside : d < length table
  inside = subst (λ (l : List LineageState). d < length l) (sym same) below

  here : (q : ℕ) → has_access q (accesses_at table d) ≡ has_access q old.accesses
  here q = ap (λ (y : LineageState). has_access q y.accesses) (sym (read_there table d old no_lineage inside was))

  sound_from : length now ≡ length sets → ((q e : ℕ) → q < length sets → (e == d) ≡ false → is_in now q e ≡ is_in sets q e) → ((q : ℕ) → q < length sets → is_in sets q d ≡ has_access q old.accesses → is_in now q d ≡ has_access q s.accesses) → TableIsSound now (set_at table d s)
  sound_from runs others own = record { table = table_set table now_table d s x is.table same below there turns; devices = λ q e within. at_ q e (subst (λ n. q < n) runs within) (e == d) refl }
    where
      at_ : (q e : ℕ) → q < length sets → (b : Bool) → (e == d) ≡ b → is_in now q e ≡ has_access q (accesses_at (set_at table d s) e)
      at_ q e within true h = subst (λ k. is_in now q k ≡ has_access q (accesses_at (set_at table d s) k)) (sym (equal e d h)) (own q within (is.devices q d within ∙ here q) ∙ ap (λ (y : LineageState). has_access q y.accesses) (sym (get_or-set_same table d s no_lineage inside)))
      at_ q e within false h = others q e within h ∙ is.devices q e within ∙ ap (λ (y : LineageState). has_access q y.accesses) (sym (get_or-set_other table d e s no_lineage (differ e d h)))

  -- with the same runs
  pub sound_same : now ≡ sets → ((q : ℕ) → has_access q s.accesses ≡ has_access q old.accesses) → TableIsSound now (set_at table d s)
  sound_same stay runs = sound_from (ap (λ l. length l) stay) (λ q e within other. ap (λ l. is_in l q e) stay) (λ q within told. ap (λ l. is_in l q d) stay ∙ told ∙ sym (runs q))

  -- one run more
  pub sound_more : (r : ℕ) → HasMore r d sets now → ((q : ℕ) → has_access q s.accesses ≡ ((q == r) || has_access q old.accesses)) → TableIsSound now (set_at table d s)
  sound_more r more runs =
      sound_from more.runs
      (λ q e within other. more.each q e within ∙ ap (λ b. ((q == r) && b) || is_in sets q e) other ∙ unchanged (q == r) (is_in sets q e))
      (λ q within told. more.each q d within ∙ ap (λ b. ((q == r) && b) || is_in sets q d) (eq-eqb d d refl) ∙ own (q == r) (is_in sets q d) ∙ ap (λ b. (q == r) || b) told ∙ sym (runs q))
    where
      unchanged : (b y : Bool) → ((b && false) || y) ≡ y
      unchanged true y = refl
      unchanged false y = refl

      own : (b y : Bool) → ((b && true) || y) ≡ (b || y)
      own true y = refl
      own false y = refl

  -- without the runs that leave
  pub sound_less : (leaves : ℕ → Bool) → HasLess leaves d sets now → ((q : ℕ) → has_access q s.accesses ≡ (not (leaves q) && has_access q old.accesses)) → TableIsSound now (set_at table d s)
  sound_less leaves less runs =
      sound_from less.runs
      (λ q e within other. less.each q e within ∙ ap (λ b. not (b && leaves q) && is_in sets q e) other)
      (λ q within told. less.each q d within ∙ ap (λ b. not (b && leaves q) && is_in sets q d) (eq-eqb d d refl) ∙ ap (λ b. not (leaves q) && b) told ∙ sym (runs q))
