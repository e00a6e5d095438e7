-- Placing a run leaves every effective write, wherever it is placed.
use Rattle.lock_leasing.proofs.Prelude.{Bool, List, None, Option, [], ap, cond, false, filter, fold, option_or, refl, sym, true, ◌∙◌, ◌∷◌, ◌≡◌}

pub last_filter : {A B : Type 0} (f : A → Option B) (p : A → Bool) (xs : List A) (b : Option B) → ((x : A) → p x ≡ false → f x ≡ None)
    → fold (λ best x. option_or (f x) best) b (filter p xs) ≡ fold (λ best x. option_or (f x) best) b xs
last_filter f p [] b out = refl
last_filter f p (x ∷ xs) b out = elim (p x) as (λ c. p x ≡ c → fold (λ best y. option_or (f y) best) b (cond c (x ∷ filter p xs) (filter p xs)) ≡ fold (λ best y. option_or (f y) best) (option_or (f x) b) xs) [
  | true ↦ (λ e. last_filter f p xs (option_or (f x) b) out)
  | false ↦ (λ e. last_filter f p xs b out ∙ ap (λ o. fold (λ best y. option_or (f y) best) (option_or o b) xs) (sym (out x e)))
] refl
