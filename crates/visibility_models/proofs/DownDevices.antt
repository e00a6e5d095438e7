-- The device for which a strict model aborts a run is the one that the table, the line and the roster tell.
use Rattle.visibility_models.proofs.Prelude.{Bool, Configuration, Eventual, Global, IsStandingOf, List, Partitioned, Ran, RunNo, Some, Visibility, Weak, WindowParts, [], ap, arith, common_steps, down_at_end, filter, find, first_down_for, has_touched, if◌then◌else◌, is_down_for, is_ran, is_strict_model, length, list_any, mark_has_touched, not, point, range_with_len, read_of, refl, stands, suc, sym, touches, true, under, zero, ℕ, ◌&&◌, ◌+◌, ◌<◌, ◌∙◌, ◌∷◌, ◌≡◌}
use Rattle.lineage_table.specs.Lineages.{lineage_at}
use Rattle.serial_line.proofs.Cited.{touched_in_line}

-- tests that agree on the numbers find the same one
find_agree : (p q : ℕ → Bool) (a n : ℕ) → ((d : ℕ) → d < a + n → p d ≡ q d) → find p (range_with_len a n) ≡ find q (range_with_len a n)
find_agree p q a zero same = refl
find_agree p q a (suc n) same =
    let here : p a ≡ q a = same a (omega arith) in
    let rest = find_agree p q (a + 1) n (λ d within. same d (omega (arith, within))) in
    rw here (ap (λ o. if q a then Some a else o) rest)

-- the first one of those that pass a filter
find_filtered : (p q : ℕ → Bool) (xs : List ℕ) → find (λ x. q x && p x) xs ≡ find p (filter q xs)
find_filtered p q [] = refl
find_filtered p q (x ∷ xs) = let rest = find_filtered p q xs in grind (arith, common_steps)

-- the test by the parts is that by the configuration
down_alike : (s : Configuration) (r : RunNo) (parts : WindowParts) → IsStandingOf s parts → stands (Ran r) parts.line ≡ true
    → (d : ℕ) → d < length s.setting.first → is_down_for parts.table parts.line parts.runs r.0 d ≡ (touches s.setting.runs r.0 d && (has_touched (read_of s) s.grips r.0 d && not ((read_of s).up d)))
down_alike s r parts is there d within =
    let up : (lineage_at parts.table d).up ≡ (read_of s).up d = (is.its_table.each d within).up in
    let among : list_any (is_ran r.0) (read_of s).line ≡ true = ap (list_any (is_ran r.0)) (sym is.its_line.items) ∙ there in
    let touched : mark_has_touched r.0 d parts.line ≡ has_touched (read_of s) s.grips r.0 d = touched_in_line r d is.its_line among in
    let footprint : touches parts.runs r.0 d ≡ touches s.setting.runs r.0 d = ap (λ rs. touches rs r.0 d) (sym is.its_roster) in
    rw (up, touched, footprint) (turned (not ((read_of s).up d)) (touches s.setting.runs r.0 d) (has_touched (read_of s) s.grips r.0 d))
  where
    turned : (a b c : Bool) → (a && b && c) ≡ (b && (c && a))
    turned a b c = grind (arith, common_steps)

pub down_is : (model : Visibility) (s : Configuration) (r : RunNo) (parts : WindowParts) → IsStandingOf s parts → stands (Ran r) parts.line ≡ true → is_strict_model model ≡ true
    → first_down_for parts.table parts.line parts.runs r.0 ≡ down_at_end (point (under model s.setting) (read_of s) s.grips) r.0
down_is model s r parts is there strict =
    ap (λ n. find (is_down_for parts.table parts.line parts.runs r.0) (range_with_len 0 n)) is.its_table.devices
    ∙ find_agree (is_down_for parts.table parts.line parts.runs r.0) (λ d. touches s.setting.runs r.0 d && test d) 0 (length s.setting.first) (λ d within. down_alike s r parts is there d (omega (arith, within)))
    ∙ find_filtered test (touches s.setting.runs r.0) (range_with_len 0 (length s.setting.first))
    ∙ by_model model strict
  where
    test : ℕ → Bool
    test d = has_touched (read_of s) s.grips r.0 d && not ((read_of s).up d)

    by_model : (m : Visibility) → is_strict_model m ≡ true → find test (filter (touches s.setting.runs r.0) (range_with_len 0 (length s.setting.first))) ≡ down_at_end (point (under m s.setting) (read_of s) s.grips) r.0
    by_model Weak e = absurd (cc)
    by_model Global e = refl
    by_model Partitioned e = refl
    by_model Eventual e = absurd (cc)
