-- An order that passes the tests meets what its execution asks.
use Rattle.command_rules.specs.Rosters.{Run, is_run, plain_run, run_in_roster, runs_of}
use Rattle.command_rules.specs.declared.rosters.Roster.{Roster}
use Rattle.home_types.specs.declared.items.Item.TheVariants.{Back, Failed, Ran}
use Rattle.home_types.specs.declared.items.Item.{Item}
use Rattle.home_types.specs.declared.worlds.Stand.{Stand}
use Rattle.serial_meaning.specs.Conditions.{IsItemOf}
use Rattle.step_table.proofs.Prelude.{All, Bool, IsTrue, List, [], arith, common_steps, false, is_some, item_fits, length, list_all, nat_le, nat_lt, refl, slice_get, slice_index_or, suc, true, zero, ℕ, ◌&&◌, ◌<◌, ◌∷◌, ◌≡◌, ◌≤◌}
use Rattle.std.proofs.lemmas.List.{length-map}

first : (a b : Bool) → (a && b) ≡ true → a ≡ true
first true b both = refl
first false b both = absurd (cc)

second : (a b : Bool) → (a && b) ≡ true → b ≡ true
second true b both = both
second false b both = absurd (cc)

passes_at : {X : Type 0} (p : X → Bool) (P : X → Type 0) (xs : List X) → ((x : X) → p x ≡ true → P x) → list_all p xs ≡ true → (k : ℕ) (d : X) → k < length xs → P (slice_index_or xs k d)
passes_at p P [] each is k d low = absurd (omega (arith, low))
passes_at p P (x ∷ xs) each is zero d low = each x (first (p x) (list_all p xs) is)
passes_at p P (x ∷ xs) each is (suc k) d low = passes_at p P xs each (second (p x) (list_all p xs) is) k d (omega (arith, low))

all_of : {X : Type 0} (p : X → Bool) (P : X → Type 0) (xs : List X) → ((x : X) → p x ≡ true → P x) → list_all p xs ≡ true → All P xs
all_of p P xs each is = λ k d low. passes_at p P xs each is k d low

below : (a b : ℕ) → nat_lt a b ≡ true → a < b
below a b is = grind (arith, common_steps, is)

at_most : (a b : ℕ) → nat_le a b ≡ true → a ≤ b
at_most a b is = grind (arith, common_steps, is)

there : (xs : List Run) (i : ℕ) → i < length xs → is_some (slice_get xs i) ≡ true
there [] i low = absurd (omega (arith, low))
there (x ∷ xs) zero low = refl
there (x ∷ xs) (suc i) low = there xs i (omega (arith, low))

is_run_where : (runs : List Run) (r : ℕ) → 0 < r → r ≤ length runs → is_run runs r ≡ true
is_run_where runs zero some few = absurd (omega (arith, some))
is_run_where runs (suc i) some few = there runs i (omega (arith, few))

pub are_items : (home : List Stand) (roster : Roster) (devices runs : ℕ) (items : List Item) → devices ≡ length home → runs ≡ length roster.runs.items → list_all (item_fits devices runs) items ≡ true → All (IsItemOf home roster) items
are_items home roster devices runs items size count fit = all_of (item_fits devices runs) (IsItemOf home roster) items of_item fit
  where
    device_there : (d : ℕ) → nat_lt d devices ≡ true → d < length home
    device_there d is = let low = below d devices is in omega (arith, low, size)

    of_item : (item : Item) → item_fits devices runs item ≡ true → IsItemOf home roster item
    of_item (Ran r) is =
        let some = below 0 r.0 (first (nat_lt 0 r.0) (nat_le r.0 runs) is) in
        let few = at_most r.0 runs (second (nat_lt 0 r.0) (nat_le r.0 runs) is) in
        let n = length-map roster.runs.items plain_run in
        is_run_where (runs_of roster) r.0 some (omega (arith, few, count, n))
    of_item (Failed d k) is = device_there d.0 is
    of_item (Back d k) is = device_there d.0 is
