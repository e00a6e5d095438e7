-- The closure is closed; and a line that is parted at a closed set keeps each part whose items meet
-- pairwise.
use Rattle.command_rules.proofs.Prelude.{Bool, IsClosed, List, Meets, [], ap, arith, chosen, closure, common_steps, cond, false, filter, if◌then◌else◌, list_any, others, refl, sym, true, ◌++◌, ◌||◌, ◌∙◌, ◌∷◌, ◌≡◌}
use Rattle.std.proofs.lemmas.List.Elements.{filter-append}

-- the closure is closed
pub closure_closed : {A : Type 0} (meets : A → A → Bool) (seeds : List Bool) (line : List A) → IsClosed meets (closure meets seeds line) line
unfolding closure IsClosed chosen
closure_closed meets seeds [] = tt
closure_closed {A = A} meets [] (i ∷ is) = (λ out. none_chosen (meets i) is, closure_closed meets [] is)
  where
    none_chosen : (test : A → Bool) (js : List A) → list_any test (chosen (closure meets [] js) js) ≡ false
    none_chosen test [] = refl
    none_chosen test (j ∷ js) = none_chosen test js
closure_closed meets (s ∷ seeds) (i ∷ is) = (λ out. last s (list_any (meets i) (chosen (closure meets seeds is) is)) out, closure_closed meets seeds is)
  where
    last : (a b : Bool) → (a || b) ≡ false → b ≡ false
    last a b h = grind (arith, common_steps)

-- where an item is told, none that meets it ..
none_told : {A : Type 0} (meets : A → A → Bool) (p : A → Bool) (i : A) (is : List A) → Meets meets p → p i ≡ true → list_any (meets i) is ≡ false → filter p is ≡ []
none_told meets p i [] all told none = refl
none_told meets p i (j ∷ is) all told none = at_ (p j) refl (none_told meets p i is all told (last (meets i j) (list_any (meets i) is) none))
  where
    last : (a b : Bool) → (a || b) ≡ false → b ≡ false
    last a b h = grind (arith, common_steps)

    first : (a b : Bool) → (a || b) ≡ false → a ≡ true → ⊥
    first a b h k = grind (arith, common_steps)

    at_ : (b : Bool) → p j ≡ b → filter p is ≡ [] → (if p j then j ∷ filter p is else filter p is) ≡ []
    at_ true e rest = absurd (first (meets i j) (list_any (meets i) is) none (all i j told e))
    at_ false e rest = ap (λ b. cond b (j ∷ filter p is) (filter p is)) e ∙ rest

-- parted at a closed set, a line keeps each part whose items pairwise meet
pub part_kept : {A : Type 0} (meets : A → A → Bool) (p : A → Bool) (bs : List Bool) (line : List A) → Meets meets p → IsClosed meets bs line → filter p (chosen bs line ++ others bs line) ≡ filter p line
unfolding chosen others IsClosed
part_kept meets p bs [] all closed = refl
part_kept meets p [] (i ∷ is) all closed = refl
part_kept meets p (true ∷ bs) (i ∷ is) all closed = ap (λ l. cond (p i) (i ∷ l) l) (part_kept meets p bs is all closed.1)
part_kept {A = A} meets p (false ∷ bs) (i ∷ is) all closed = at_ (p i) refl (part_kept meets p bs is all closed.1)
  where
    L : List A
    L = chosen bs is

    R : List A
    R = others bs is

    at_ : (b : Bool) → p i ≡ b → filter p (L ++ R) ≡ filter p is → filter p (L ++ i ∷ R) ≡ cond (p i) (i ∷ filter p is) (filter p is)
    at_ b e rest = filter-append p L (i ∷ R) ∙ by_test b e
      where
        by_test : (b : Bool) → p i ≡ b → filter p L ++ cond (p i) (i ∷ filter p R) (filter p R) ≡ cond (p i) (i ∷ filter p is) (filter p is)
        by_test true e =
            let none : filter p L ≡ [] = none_told meets p i L all e (closed.0 refl) in
            let same : filter p R ≡ filter p is = sym (ap (λ l. l ++ filter p R) none) ∙ sym (filter-append p L R) ∙ rest in
            (λ k. none k ++ cond (e k) (i ∷ filter p R) (filter p R)) ∙ ap (λ l. i ∷ l) same ∙ (λ k. cond (sym e k) (i ∷ filter p is) (filter p is))
        by_test false e = (λ k. filter p L ++ cond (e k) (i ∷ filter p R) (filter p R)) ∙ sym (filter-append p L R) ∙ rest ∙ (λ k. cond (sym e k) (i ∷ filter p is) (filter p is))
