-- How devices are left where they are known to stand.
use Rattle.window_devices.proofs.Prelude.{DeviceProgress, List, Stand, [], all_known_left, ap, arith, common_steps, false, known_left, length, length-append, nat_lt, refl, stand_at, suc, sym, true, zero, ℕ, ◌++◌, ◌+◌, ◌<◌, ◌∙◌, ◌∷◌, ◌≡◌}
use Rattle.lineage_table.specs.Lineages.{LineageState}

-- the stand of a device in a list with one more, before the last place and there
stand_before : (xs : List Stand) (x : Stand) (d : ℕ) → d < length xs → stand_at (xs ++ x ∷ []) d ≡ stand_at xs d
stand_before [] x d less = absurd (omega (arith, less))
stand_before (y ∷ xs) x zero less = refl
stand_before (y ∷ xs) x (suc d) less = stand_before xs x d (omega (arith, less))

stand_behind : (xs : List Stand) (x : Stand) (n : ℕ) → length xs ≡ n → stand_at (xs ++ x ∷ []) n ≡ x
stand_behind [] x zero size = refl
stand_behind [] x (suc n) size = absurd (omega (arith, size))
stand_behind (y ∷ xs) x zero size = absurd (omega (arith, size))
stand_behind (y ∷ xs) x (suc n) size = stand_behind xs x n (omega (arith, size))

-- so many devices are left
pub left_size : (known : List DeviceProgress) (table : List LineageState) (n : ℕ) → length (all_known_left known table n) ≡ n
left_size known table zero = refl
left_size known table (suc n) =
    let long : length (all_known_left known table n ++ known_left known table n ∷ []) ≡ length (all_known_left known table n) + 1 = length-append (all_known_left known table n) (known_left known table n ∷ []) in
    omega (arith, long, left_size known table n)

-- .. each where it is known to stand
pub left_at : (known : List DeviceProgress) (table : List LineageState) (n d : ℕ) → d < n → stand_at (all_known_left known table n) d ≡ known_left known table d
left_at known table zero d less = absurd (omega (arith, less))
left_at known table (suc n) d less = elim (nat_lt d n) as (λ b. nat_lt d n ≡ b → stand_at (all_known_left known table (suc n)) d ≡ known_left known table d) [
  | true ↦ (λ e. stand_before (all_known_left known table n) (known_left known table n) d (let lt : d < n = grind (arith, common_steps) in omega (arith, lt, left_size known table n)) ∙ left_at known table n d (grind (arith, common_steps)))
  | false ↦ (λ e. let same : d ≡ n = grind (arith, common_steps, less) in
      ap (λ x. stand_at (all_known_left known table (suc n)) x) same ∙ stand_behind (all_known_left known table n) (known_left known table n) n (left_size known table n) ∙ ap (known_left known table) (sym same))
] refl
