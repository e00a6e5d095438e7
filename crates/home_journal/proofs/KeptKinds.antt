-- Each state that a file keeps is one of the kinds.
use Rattle.home_journal.proofs.Prelude.{Bool, Err, IsStateOf, Kind, KnowsKept, List, None, Ok, Option, Result, Some, Stand, [], ap, arith, body_size, false, from_le_bytes, has_value, if◌then◌else◌, kind_at, last_kept, length, nat_le, nat_tests, open_slots, option_map, refl, slice_get, slot_state, stand_at, stands_of, states_from, subst, suc, sym, true, with_first, zero, ℕ, ◌&&◌, ◌+◌, ◌-◌, ◌<◌, ◌==◌, ◌∙◌, ◌∷◌, ◌≡◌}
use Rattle.std.specs.Int.{w16, w32}

-- one device more in front
state_more : (kind : Kind) (kinds : List Kind) (s : Stand) (home : List Stand) → has_value kind s.value ≡ true → IsStateOf kinds home → IsStateOf (kind ∷ kinds) (s ∷ home)
state_more kind kinds s home has is = record { devices = ap suc is.devices; values = λ d within. by d within }
  where
    by : (d : ℕ) → d < suc (length kinds) → has_value (kind_at (kind ∷ kinds) d) (stand_at (s ∷ home) d).value ≡ true
    by zero within = has
    by (suc d) within = is.values d (omega (arith, within))

some_mapped : (s : Stand) (o : Option (List Stand)) (home : List Stand) → option_map (λ more. s ∷ more) o ≡ Some home → (more : List Stand) × (o ≡ Some more) × (s ∷ more ≡ home)
some_mapped s None home is = absurd (cc)
some_mapped s (Some more) home is = (more, refl, cc)

both_hold : {X : Type 0} (a b : Bool) (o : Option X) (x : X) → (if a && b then o else None) ≡ Some x → (a ≡ true) × (o ≡ Some x)
both_hold true true o x is = (refl, is)
both_hold true false o x is = absurd (cc)
both_hold false b o x is = absurd (cc)

stands_are : (kinds : List Kind) (bytes : List ℕ) (home : List Stand) → stands_of kinds bytes ≡ Some home → IsStateOf kinds home
stands_are [] bytes home is = let none : [] ≡ home = cc in subst (IsStateOf []) none (record { devices = refl; values = λ d within. absurd (omega (arith, within)) })
stands_are (kind ∷ kinds) (a ∷ b ∷ c ∷ d ∷ up ∷ rest) home is =
    let value = from_le_bytes w32 (a ∷ b ∷ c ∷ d ∷ []) in
    let s : Stand = record { value = value; up = up == 1 } in
    let both = both_hold (has_value kind value) (nat_le up 1) (option_map (λ more. s ∷ more) (stands_of kinds rest)) home is in
    let more = some_mapped s (stands_of kinds rest) home both.1 in
    subst (IsStateOf (kind ∷ kinds)) more.2 (state_more kind kinds s more.0 both.0 (stands_are kinds rest more.0 more.1))
stands_are (kind ∷ kinds) [] home is = absurd (cc)
stands_are (kind ∷ kinds) (a ∷ []) home is = absurd (cc)
stands_are (kind ∷ kinds) (a ∷ b ∷ []) home is = absurd (cc)
stands_are (kind ∷ kinds) (a ∷ b ∷ c ∷ []) home is = absurd (cc)
stands_are (kind ∷ kinds) (a ∷ b ∷ c ∷ d ∷ []) home is = absurd (cc)

state_is : (kinds : List Kind) (number : ℕ) (body : List ℕ) (home : List Stand) → slot_state kinds number body ≡ Some home → IsStateOf kinds home
state_is kinds number (a ∷ b ∷ c ∷ d ∷ e ∷ f ∷ rest) home is =
    stands_are kinds rest home (both_hold (from_le_bytes w32 (a ∷ b ∷ c ∷ d ∷ []) == number) (from_le_bytes w16 (e ∷ f ∷ []) == length kinds) (stands_of kinds rest) home is).1
state_is kinds number [] home is = absurd (cc)
state_is kinds number (a ∷ []) home is = absurd (cc)
state_is kinds number (a ∷ b ∷ []) home is = absurd (cc)
state_is kinds number (a ∷ b ∷ c ∷ []) home is = absurd (cc)
state_is kinds number (a ∷ b ∷ c ∷ d ∷ []) home is = absurd (cc)
state_is kinds number (a ∷ b ∷ c ∷ d ∷ e ∷ []) home is = absurd (cc)

-- the first of them, and the others
first_and_more : (k : ℕ) (o : Option (List Stand)) (r : Result (List (List Stand)) ℕ) (homes : List (List Stand)) → with_first k o r ≡ Ok homes → (home : List Stand) × (more : List (List Stand)) × (o ≡ Some home) × (r ≡ Ok more) × (home ∷ more ≡ homes)
first_and_more k None r homes is = absurd (cc)
first_and_more k (Some home) (Err bad) homes is = absurd (cc)
first_and_more k (Some home) (Ok more) homes is = (home, more, refl, refl, cc)

states_are : (kinds : List Kind) (k : ℕ) (bodies : List (List ℕ)) (homes : List (List Stand)) (i : ℕ) (home : List Stand) → states_from kinds k bodies ≡ Ok homes → slice_get homes i ≡ Some home → IsStateOf kinds home
states_are kinds k [] homes i home is at = absurd (let none : [] ≡ homes = cc in let nothing : slice_get [] i ≡ Some home = ap (λ hs. slice_get hs i) none ∙ at in cc)
states_are kinds k (body ∷ bodies) homes i home is at =
    let parts = first_and_more k (slot_state kinds (k + 1) body) (states_from kinds (k + 1) bodies) homes is in
    by parts.0 parts.1 parts.2 (λ j there. states_are kinds (k + 1) bodies parts.1 j home parts.3 there) i (ap (λ hs. slice_get hs i) parts.4 ∙ at)
  where
    by : (first : List Stand) (more : List (List Stand)) → slot_state kinds (k + 1) body ≡ Some first → ((j : ℕ) → slice_get more j ≡ Some home → IsStateOf kinds home) → (i : ℕ) → slice_get (first ∷ more) i ≡ Some home → IsStateOf kinds home
    by first more good later zero at = let same : first ≡ home = cc in subst (IsStateOf kinds) same (state_is kinds (k + 1) body first good)
    by first more good later (suc j) at = later j at

some_kept : (count : ℕ) (home : List Stand) → 0 < count → last_kept count home ≡ Some home
some_kept count home some = grind (arith, nat_tests, some)

-- the last one too
pub last_of_kinds : (kinds : List Kind) (most count : ℕ) (bytes : List ℕ) (home : List Stand) → KnowsKept kinds most bytes count (last_kept count home) → 0 < count → IsStateOf kinds home
last_of_kinds kinds most count bytes home knows some =
    states_are kinds 0 (open_slots (body_size (length kinds)) most bytes) knows.homes (length knows.homes - 1) home knows.kept (sym knows.last ∙ some_kept count home some)
