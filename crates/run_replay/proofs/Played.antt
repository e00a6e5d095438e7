-- Picks played one after another.
use Rattle.run_replay.proofs.Tellings.{played_more}
use Rattle.run_replay.proofs.Prelude.{ArePicked, IsPicked, List, Picked, PlayerState, [], ap, arith, get_or, length, play_of, refl, subst, suc, sym, take, zero, ℕ, ◌++◌, ◌+◌, ◌<◌, ◌∙◌, ◌∷◌, ◌≡◌, ◌≤◌}

take_one : (xs : List ℕ) (i d : ℕ) → i < length xs → take (i + 1) xs ≡ take i xs ++ get_or xs i d ∷ []
take_one [] i d low = absurd (omega (arith, low))
take_one (y ∷ xs) zero d low = refl
take_one (y ∷ xs) (suc i) d low = let same : suc i + 1 ≡ suc (i + 1) = omega arith in ap (λ n. take n (y ∷ xs)) same ∙ ap (λ zs. y ∷ zs) (take_one xs i d (omega (arith, low)))

-- one pick more of the list
pub played_next : {D : Type 0} (start s t : PlayerState D) (rounds i d : ℕ) (picks : List ℕ) (picked : Picked) → i < length picks → s.rounds ≡ rounds
    → ((acts : ℕ) → (later : ℕ) × ArePicked rounds (take i picks) (play_of start acts) (play_of s later)) → ((acts : ℕ) → (later : ℕ) × IsPicked s.rounds (get_or picks i d) (play_of s acts) picked (play_of t later))
    → (acts : ℕ) → (later : ℕ) × ArePicked rounds (take (i + 1) picks) (play_of start acts) (play_of t later)
played_next {D = D} start s t rounds i d picks picked low same before pick acts =
    let first = before acts in
    let then' = pick first.0 in
    let one : IsPicked rounds (get_or picks i d) (play_of s first.0) picked (play_of t then'.0) = subst (λ n. IsPicked n (get_or picks i d) (play_of s first.0) picked (play_of t then'.0)) same then'.1 in
    (then'.0, subst (λ xs. ArePicked rounds xs (play_of start acts) (play_of t then'.0)) (sym (take_one picks i d low)) (played_more rounds (get_or picks i d) (take i picks) (play_of start acts) (play_of s first.0) (play_of t then'.0) picked first.1 one))

take_whole : (xs : List ℕ) (i : ℕ) → length xs ≤ i → take i xs ≡ xs
take_whole [] zero low = refl
take_whole [] (suc i) low = refl
take_whole (y ∷ xs) zero low = absurd (omega (arith, low))
take_whole (y ∷ xs) (suc i) low = ap (λ zs. y ∷ zs) (take_whole xs i (omega (arith, low)))

-- the list is played
pub played_whole : {D : Type 0} (start s : PlayerState D) (rounds i : ℕ) (picks : List ℕ) → length picks ≤ i
    → ((acts : ℕ) → (later : ℕ) × ArePicked rounds (take i picks) (play_of start acts) (play_of s later))
    → (acts : ℕ) → (later : ℕ) × ArePicked rounds picks (play_of start acts) (play_of s later)
played_whole start s rounds i picks low before acts = let first = before acts in (first.0, subst (λ xs. ArePicked rounds xs (play_of start acts) (play_of s first.0)) (take_whole picks i low) first.1)
