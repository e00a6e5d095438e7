-- Folds that may be refused: a refused state stays so, whatever comes.
use Rattle.serial_meaning.proofs.Prelude.{Bool, List, None, Option, Some, [], ap, drop, false, fold, get_or, if◌then◌else◌, length, refl, true, ℕ, ◌+◌, ◌<◌, ◌∙◌, ◌∷◌, ◌≡◌}
use Rattle.std.proofs.lemmas.List.{at_drop_more}

goes_on : {S : Type 0} (refused : Bool) (s next : S) → Some next ≡ (if refused then None else Some s) → s ≡ next
goes_on true s next h = cc
goes_on false s next h = cc

stops : {S : Type 0} (refused : Bool) (s : S) → None ≡ (if refused then None else Some s) → refused ≡ true
stops true s h = refl
stops false s h = cc

module _ {S C : Type 0} (step : S → C → S) (refused : S → Bool) (stays : (s : S) (c : C) → refused s ≡ true → refused (step s c) ≡ true) where
  abbrev pub accepted : S → Option S
  accepted s = if refused s then None else Some s

  stays_refused : (s : S) (cs : List C) → refused s ≡ true → refused (fold step s cs) ≡ true
  stays_refused s [] is = is
  stays_refused s (c ∷ cs) is = stays_refused (step s c) cs (stays s c is)

  -- the item at i is done, and the rest begins with the next state
  pub fold_goes_on : (s next : S) (cs : List C) (i : ℕ) (d : C) → i < length cs → Some next ≡ accepted (step s (get_or cs i d)) → fold step s (drop i cs) ≡ fold step next (drop (i + 1) cs)
  fold_goes_on s next cs i d within done =
      let same = goes_on (refused (step s (get_or cs i d))) (step s (get_or cs i d)) next done in
      at_drop_more (fold step s) cs i d within ∙ ap (λ x. fold step x (drop (i + 1) cs)) same

  -- the item at i is refused, and with it the whole
  pub fold_stops : (s : S) (cs : List C) (i : ℕ) (d : C) → i < length cs → None ≡ accepted (step s (get_or cs i d)) → refused (fold step s (drop i cs)) ≡ true
  fold_stops s cs i d within done =
      let here = stops (refused (step s (get_or cs i d))) (step s (get_or cs i d)) done in
      ap refused (at_drop_more (fold step s) cs i d within) ∙ stays_refused (step s (get_or cs i d)) (drop (i + 1) cs) here
