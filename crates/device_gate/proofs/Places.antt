-- Devices that go into their places one after another, and out of them.
use Rattle.device_states.specs.Devices.{Shown}
use Rattle.std.proofs.Common.{◌≡◌, ℕ, List, [], ◌∷◌, ◌++◌, Some, refl, sym, ap, ◌∙◌, zero, suc, length, ◌≤◌, ◌<◌, ◌+◌, ◌⊎◌, inl, inr, false, true, arith, reverse}
use Rattle.std.proofs.lemmas.List.{append-nil, append_assoc, length-reverse, map-append, reverse-append}
use Rattle.std.proofs.lemmas.Option.{slice_get_within}
use Rattle.std.specs.Prelude.{slice_get}
use Rattle.device_gate.specs.Places.{AllHome, AreNumbered, IsGate, IsHome, all_home}
use Rattle.device_gate.specs.declared.gates.Place.{Place}
use Rattle.device_gate.specs.declared.gates.Place.TheVariants.{Home, Out}
use Rattle.device_gate.specs.declared.slips.Slip.{Slip}
use Rattle.device_gate.specs.declared.slips.Task.{Task}

-- the last place is taken
pub one_taken : {D : Type 0} (devices : List D) (places rest : List (Place D)) (place : Place D) (every : List (Place D))
    → all_home devices ++ reverse places ≡ every → places ≡ rest ++ place ∷ [] → all_home devices ++ place ∷ reverse rest ≡ every
one_taken devices places rest place every are is = ap (λ p. all_home devices ++ p) (sym (reverse-append rest (place ∷ []))) ∙ ap (λ p. all_home devices ++ reverse p) (sym is) ∙ are

-- .. and its device is put behind the others
pub one_more : {D : Type 0} (devices : List D) (device : D) (rest : List (Place D))
    → all_home (devices ++ device ∷ []) ++ rest ≡ all_home devices ++ Home device ∷ rest
one_more devices device rest = ap (λ p. p ++ rest) (map-append (λ x. Home x) devices (device ∷ [])) ∙ append_assoc (all_home devices) (Home device ∷ []) rest

pub one_back : {D : Type 0} (devices after : List D) (places rest : List (Place D)) (place : Place D) (device : D) (every : List (Place D))
    → all_home devices ++ reverse places ≡ every → places ≡ rest ++ place ∷ [] → place ≡ Home device → after ≡ devices ++ device ∷ []
    → all_home after ++ reverse rest ≡ every
one_back devices after places rest place device every are taken is put =
    ap (λ p. all_home p ++ reverse rest) put
    ∙ one_more devices device (reverse rest)
    ∙ ap (λ p. all_home devices ++ p ∷ reverse rest) (sym is)
    ∙ one_taken devices places rest place every are taken

-- nothing is left where nothing was taken
pub none_left : {A : Type 0} (xs : List A) (n : ℕ) → length xs ≡ n → (0 < n → false ≡ true) → xs ≡ []
none_left [] n is none = refl
none_left (x ∷ xs) n is none = absurd (cc (none (omega (arith, is))))

-- the place behind the devices
pub place_behind : {D : Type 0} (devices : List D) (place : Place D) (rest : List (Place D))
    → slice_get (all_home devices ++ place ∷ rest) (length devices) ≡ Some place
place_behind [] place rest = refl
place_behind (x ∷ xs) place rest = place_behind xs place rest

-- the devices that stand home are those that came
pub device_at : {D : Type 0} (devices : List D) (d : ℕ) (device : D) → slice_get (all_home devices) d ≡ Some (Home device) → slice_get devices d ≡ Some device
device_at [] d device is = absurd (cc)
device_at (x ∷ xs) zero device is = cc
device_at (x ∷ xs) (suc d) device is = device_at xs d device is

pub home_at : {D : Type 0} (devices : List D) (d : ℕ) (device : D) → slice_get devices d ≡ Some device → slice_get (all_home devices) d ≡ Some (Home device)
home_at [] d device is = absurd (cc)
home_at (x ∷ xs) zero device is = cc
home_at (x ∷ xs) (suc d) device is = home_at xs d device is

-- none of them is out
pub none_out : {D : Type 0} (devices : List D) (d : ℕ) (slip : Slip) (task : Task) → slice_get (all_home devices) d ≡ Some (Out slip task) → ⊥
none_out [] d slip task is = cc
none_out (x ∷ xs) zero slip task is = cc
none_out (x ∷ xs) (suc d) slip task is = none_out xs d slip task is

-- no place that is taken is out, where all are home
pub none_out_taken : {D : Type 0} (devices : List D) (places rest : List (Place D)) (place : Place D) (slip : Slip) (task : Task) (every : List (Place D))
    → all_home devices ++ reverse places ≡ every → places ≡ rest ++ place ∷ [] → place ≡ Out slip task → AllHome every → ⊥
none_out_taken {D = D} devices places rest place slip task every are taken out home =
    let here : slice_get every (length devices) ≡ Some (Out slip task) =
    ap (λ p. slice_get p (length devices)) (sym (one_taken devices places rest place every are taken)) ∙ place_behind devices place (reverse rest) ∙ ap (λ p. Some p) out in
    let is = home (length devices) (slice_get_within every (length devices) (Out slip task) here) in
    stuck is.0 (sym here ∙ is.1)
  where
    stuck : (device : D) → Some (Out slip task) ≡ Some (Home device) → ⊥
    stuck device is = cc

-- the devices of a gate whose places are all home stand at their numbers
pub numbers_after : {D : Type 0} (shows : D → Shown) (devices : List D) (places : List (Place D)) (every : List (Place D))
    → all_home devices ++ reverse places ≡ every → places ≡ [] → ((d : ℕ) (device : D) → slice_get every d ≡ Some (Home device) → (shows device).tag ≡ d)
    → AreNumbered shows devices
numbers_after shows devices places every are empty home = λ d device is.
    home d device (ap (λ p. slice_get p d) (sym are ∙ ap (λ p. all_home devices ++ reverse p) empty ∙ append-nil (all_home devices)) ∙ home_at devices d device is)

-- a gate is right whose places are those of these devices, all of them home
pub opens : {D : Type 0} (shows : D → Shown) (devices left : List D) (places turned : List (Place D)) (room : ℕ)
    → all_home left ++ reverse places ≡ all_home devices → left ≡ [] → turned ≡ reverse places → length places ≤ room → AreNumbered shows devices
    → IsGate shows turned left room
opens shows devices left places turned room are empty is enough numbers =
    let same : turned ≡ all_home devices = is ∙ sym (ap (λ l. all_home l ++ reverse places) empty) ∙ are in
    record {
      home = λ d device at. numbers d device (device_at devices d device (sym (ap (λ p. slice_get p d) same) ∙ at));
      out = λ d slip task at. absurd (none_out devices d slip task (sym (ap (λ p. slice_get p d) same) ∙ at));
      none = empty;
      enough = omega (arith, ap (λ p. length p) is, length-reverse places);
    }

-- the next place is home too
pub home_so_far : {D : Type 0} (places : List (Place D)) (n : ℕ) (device : D)
    → ((e : ℕ) → e < n → IsHome places e) → slice_get places n ≡ Some (Home device)
    → (e : ℕ) → e < n + 1 → IsHome places e
home_so_far places n device before here e within = elim (le_cases e n within) [ inl less ↦ before e less | inr same ↦ (device, ap (λ k. slice_get places k) same ∙ here) ]
  where
    le_cases : (e n : ℕ) → e < n + 1 → (e < n) ⊎ (e ≡ n)
    le_cases zero zero h = inr refl
    le_cases zero (suc n) h = inl (omega arith)
    le_cases (suc e) zero h = absurd (omega arith)
    le_cases (suc e) (suc n) h = elim (le_cases e n (omega arith)) [ inl less ↦ inl (omega arith) | inr same ↦ inr (ap suc same) ]
