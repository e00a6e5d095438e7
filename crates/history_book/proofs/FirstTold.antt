-- What the first entry that tells something tells: by places, and after one more entry.
use Rattle.history_book.proofs.Prelude.{Entry, IfNone, IfSome, Kept, List, None, Option, Some, [], arith, first_told, length, refl, slice_index_or, suc, sym, zero, ℕ, ◌<◌, ◌∷◌, ◌≡◌}

module _ {T : Type 0} (told : Entry → Option T) where
  -- no entry tells anything
  abbrev pub TellsNothing : List Kept → ℕ → Type 0
  TellsNothing h n = (k : ℕ) (d : Kept) → k < n → told (slice_index_or h k d).entry ≡ None

  none : (h : List Kept) → TellsNothing h (length h) → first_told told h ≡ None
  none [] nothing = refl
  none (x ∷ xs) nothing =
      let here : told x.entry ≡ None = nothing 0 x (omega arith) in
      rw here (none xs (λ k d lt. nothing (suc k) d (omega (arith, lt))))

  some : (h : List Kept) (i : ℕ) (t : T) → i < length h → ((d : Kept) → told (slice_index_or h i d).entry ≡ Some t) → TellsNothing h i → first_told told h ≡ Some t
  some [] i t within tells before = let no_place : ⊥ = omega (arith, within) in absurd no_place
  some (x ∷ xs) zero t within tells before = rw (tells x) refl
  some (x ∷ xs) (suc i) t within tells before =
      let here : told x.entry ≡ None = before 0 x (omega arith) in
      rw here (some xs i t (omega (arith, within)) tells (λ k d lt. before (suc k) d (omega (arith, lt))))

  -- the first that is told, by the places of the entries
  pub first_told-places : (h : List Kept) (r : Option T) → IfNone r (TellsNothing h (length h)) → IfSome r (λ t. (i : ℕ) × (i < length h) × ((d : Kept) → told (slice_index_or h i d).entry ≡ Some t) × TellsNothing h i) → r ≡ first_told told h
  first_told-places h None nothing first = sym (none h nothing)
  first_told-places h (Some t) nothing first = sym (some h first.0 t first.1 first.2 first.3)
