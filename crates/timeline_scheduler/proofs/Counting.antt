-- How many items a set has, and how many it leaves outside.
use Rattle.timeline_scheduler.proofs.Prelude.{Bool, IsPart, List, [], arith, chosen, cond, count_by, false, length, not, refl, sum_by-cons, true, ◌+◌, ◌∷◌, ◌≡◌, ◌≤◌}

count_first : (b : Bool) (bs : List Bool) → count_by (λ c. c) (b ∷ bs) ≡ cond b 1 0 + count_by (λ c. c) bs
count_first b bs = sum_by-cons (λ c. cond c 1 0) b bs

-- its items are as many as its flags
pub count_chosen : {A : Type 0} (bs : List Bool) (is : List A) → length bs ≡ length is → length (chosen bs is) ≡ count_by (λ c. c) bs
unfolding chosen
count_chosen [] [] size = refl
count_chosen [] (i ∷ is) size = absurd (omega (arith, size))
count_chosen (b ∷ bs) [] size = absurd (omega (arith, size))
count_chosen {A = A} (true ∷ bs) (i ∷ is) size = let rest = count_chosen bs is (omega (arith, size)) in let first = count_first true bs in omega (arith, rest, first)
count_chosen (false ∷ bs) (i ∷ is) size = let rest = count_chosen bs is (omega (arith, size)) in let first = count_first false bs in omega (arith, rest, first)

-- .. and no more than the items of the line
pub count_within : (bs : List Bool) → count_by (λ c. c) bs ≤ length bs
count_within [] = omega arith
count_within (true ∷ bs) = let rest = count_within bs in let first = count_first true bs in omega (arith, rest, first)
count_within (false ∷ bs) = let rest = count_within bs in let first = count_first false bs in omega (arith, rest, first)

-- a larger set leaves no more outside
pub outside_part : (bs cs : List Bool) → IsPart bs cs → count_by not cs ≤ count_by not bs
unfolding IsPart
outside_part [] [] part = omega arith
outside_part [] (c ∷ cs) part = elim part [ ]
outside_part (b ∷ bs) [] part = elim part [ ]
outside_part (b ∷ bs) (c ∷ cs) part = let rest = outside_part bs cs part.1 in let first = outside_first b bs in let other = outside_first c cs in by_flags b c part.0 rest first other
  where
    outside_first : (a : Bool) (xs : List Bool) → count_by not (a ∷ xs) ≡ cond (not a) 1 0 + count_by not xs
    outside_first a xs = sum_by-cons (λ x. cond (not x) 1 0) a xs

    by_flags : (a d : Bool) → (a ≡ true → d ≡ true) → count_by not cs ≤ count_by not bs → count_by not (b ∷ bs) ≡ cond (not a) 1 0 + count_by not bs → count_by not (c ∷ cs) ≡ cond (not d) 1 0 + count_by not cs → count_by not (c ∷ cs) ≤ count_by not (b ∷ bs)
    by_flags true true in' rest first other = omega (arith, rest, first, other)
    by_flags true false in' rest first other = absurd (clash (in' refl))
      where
        clash : false ≡ true → ⊥
        clash e = cc
    by_flags false true in' rest first other = omega (arith, rest, first, other)
    by_flags false false in' rest first other = omega (arith, rest, first, other)
