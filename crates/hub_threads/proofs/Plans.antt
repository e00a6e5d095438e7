-- The plans of the devices that are home, when one goes out and when one comes back.
use Rattle.hub_threads.proofs.Prelude.{Home, List, Out, Place, PlacesHavePlans, Plan, Shown, Slip, Some, Task, [], ap, inl, inr, refl, slice_get, slice_set, suc, sym, zero, ℕ, ◌∙◌, ◌∷◌, ◌≡◌, ◌⊎◌}

-- what stands in a place after a write is what was written, or what stood there
there_or : {A : Type 0} (xs : List A) (i j : ℕ) (y z : A) → slice_get (slice_set xs i y) j ≡ Some z → ((j ≡ i) × (y ≡ z)) ⊎ (slice_get xs j ≡ Some z)
there_or [] i j y z h = inr h
there_or (x ∷ xs) zero zero y z h = inl (refl, cc)
there_or (x ∷ xs) zero (suc j) y z h = inr h
there_or (x ∷ xs) (suc i) zero y z h = inr h
there_or (x ∷ xs) (suc i) (suc j) y z h = elim (there_or xs i j y z h) [
  | inl p ↦ inl (ap (λ n. suc n) p.0, p.1)
  | inr e ↦ inr e
]

one_home : {D : Type 0} (a b : D) → Home a ≡ Home b → a ≡ b
one_home a b same = cc

never_home : {D : Type 0} (slip : Slip) (task : Task) (device : D) → Out slip task ≡ Home device → ⊥
never_home slip task device same = cc

-- a device goes out
pub plans_out : {D : Type 0} (shows : D → Shown) (plans : ℕ → Plan) (places : List (Place D)) (d : ℕ) (slip : Slip) (task : Task) → PlacesHavePlans shows plans places → PlacesHavePlans shows plans (slice_set places d (Out slip task))
plans_out shows plans places d slip task have e device home = elim (there_or places d e (Out slip task) (Home device) home) [
  | inl p ↦ absurd (never_home slip task device p.1)
  | inr there ↦ have e device there
]

-- a device that has the plan of its place comes home
pub plans_home : {D : Type 0} (shows : D → Shown) (plans : ℕ → Plan) (places : List (Place D)) (d : ℕ) (back : D) → PlacesHavePlans shows plans places → (shows back).plan ≡ plans d → PlacesHavePlans shows plans (slice_set places d (Home back))
plans_home shows plans places d back have own e device home = elim (there_or places d e (Home back) (Home device) home) [
  | inl p ↦ ap (λ device. (shows device).plan) (sym (one_home back device p.1)) ∙ own ∙ ap plans (sym p.0)
  | inr there ↦ have e device there
]
