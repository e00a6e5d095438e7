use Rattle.command_rules.proofs.Prelude.{Bool, Exchanged, IsClosed, List, Stays, Swaps, [], ap, append_assoc, arith, chosen, common_steps, false, list_any, others, refl, subst, sym, true, ◌++◌, ◌||◌, ◌∷◌, ◌≡◌}

-- behind an item more
behind : {A : Type 0} (meets : A → A → Bool) (i : A) (line next : List A) → Exchanged meets line next → Exchanged meets (i ∷ line) (i ∷ next)
behind meets i line next Stays = Stays
behind meets i line next (Swaps front rest a b before apart) = Swaps (i ∷ front) rest a b (behind meets i line (front ++ a ∷ b ∷ rest) before) apart

-- an item moves past items that it does not meet, behind a front
pub moves : {A : Type 0} (meets : A → A → Bool) (line front items rest : List A) (i : A) → list_any (meets i) items ≡ false → Exchanged meets line (front ++ i ∷ (items ++ rest)) → Exchanged meets line ((front ++ items) ++ i ∷ rest)
moves meets line front [] rest i none at = subst (λ l. Exchanged meets line (l ++ i ∷ rest)) (sym (nothing front)) at
  where
    nothing : {A : Type 0} (l : List A) → l ++ [] ≡ l
    nothing [] = refl
    nothing (x ∷ l) = ap (λ m. x ∷ m) (nothing l)
moves meets line front (j ∷ items) rest i none at =
    let one = Swaps front (items ++ rest) i j at (first (meets i j) (list_any (meets i) items) none) in
    let more = moves meets line (front ++ j ∷ []) items rest i (last (meets i j) (list_any (meets i) items) none) (subst (Exchanged meets line) (sym (append_assoc front (j ∷ []) (i ∷ (items ++ rest)))) one) in
    subst (λ l. Exchanged meets line (l ++ i ∷ rest)) (append_assoc front (j ∷ []) items) more
  where
    first : (a b : Bool) → (a || b) ≡ false → a ≡ false
    first a b h = grind (arith, common_steps)

    last : (a b : Bool) → (a || b) ≡ false → b ≡ false
    last a b h = grind (arith, common_steps)

-- a line that is parted at a closed set is reached by exchanges
pub parted : {A : Type 0} (meets : A → A → Bool) (bs : List Bool) (line : List A) → IsClosed meets bs line → Exchanged meets line (chosen bs line ++ others bs line)
unfolding chosen others IsClosed
parted meets bs [] closed = Stays
parted meets [] (i ∷ is) closed = Stays
parted meets (true ∷ bs) (i ∷ is) closed = behind meets i is (chosen bs is ++ others bs is) (parted meets bs is closed.1)
parted meets (false ∷ bs) (i ∷ is) closed = moves meets (i ∷ is) [] (chosen bs is) (others bs is) i (closed.0 refl) (behind meets i is (chosen bs is ++ others bs is) (parted meets bs is closed.1))

-- what each exchange keeps is kept
pub kept : {A : Type 0} (P : List A → Type 0) (meets : A → A → Bool) (line next : List A) → ((front rest : List A) (a b : A) → meets a b ≡ false → P (front ++ a ∷ b ∷ rest) → P (front ++ b ∷ a ∷ rest)) → Exchanged meets line next → P line → P next
kept P meets line next each Stays p = p
kept P meets line next each (Swaps front rest a b before apart) p = each front rest a b apart (kept P meets line (front ++ a ∷ b ∷ rest) each before p)
