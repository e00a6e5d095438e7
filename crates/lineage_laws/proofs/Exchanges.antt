-- Neighbours of an order that are apart share no device.
use Rattle.command_rules.proofs.Cited.{is_of, of_one_device}
use Rattle.command_rules.specs.Apart.{meet}
use Rattle.command_rules.specs.ClosedSets.{are_apart, exchanged}
use Rattle.lineage_laws.proofs.Prelude.{Bool, List, Run, [], ap, arith, common_steps, false, not, option_and_then, option_map, refl, slice_get, subst, suc, sym, true, unwrap_or, zero, ℕ, ◌++◌, ◌+◌, ◌∙◌, ◌∷◌, ◌≡◌}
use Rattle.command_rules.specs.Serial.{serial_execution}
use Rattle.device_order.proofs.Cited.{exchanged as outcome_stays}
use Rattle.device_order.specs.Exchanges.{SameOutcome, ShareNoDevice, is_on_device}
use Rattle.home_types.specs.declared.items.Item.TheVariants.{Back, Failed, Ran}
use Rattle.home_types.specs.declared.items.Item.{Item}
use Rattle.home_types.specs.declared.kinds.Kind.{Kind}
use Rattle.home_types.specs.declared.worlds.Stand.{Stand}

-- the items are these two, with the first at this place, and what stands before and behind them
pub record ArePair (items : List Item) (at : ℕ) (meets : Item → Item → Bool) : Type 0 where
  pub front : List Item
  pub rest : List Item
  pub one : Item
  pub two : Item
  pub are : items ≡ front ++ one ∷ two ∷ rest
  pub turned : exchanged at items ≡ front ++ two ∷ one ∷ rest
  pub apart : meets one two ≡ false

pub pair : (meets : Item → Item → Bool) (at : ℕ) (items : List Item) → are_apart meets at items ≡ true → ArePair items at meets
unfolding exchanged
pair meets zero [] apart = absurd cc
pair meets (suc at) [] apart = absurd cc
pair meets zero (i ∷ []) apart = absurd cc
pair meets zero (i ∷ j ∷ items) apart = record { front = []; rest = items; one = i; two = j; are = refl; turned = refl; apart = negated (meets i j) apart }
  where
    negated : (b : Bool) → not b ≡ true → b ≡ false
    negated b h = grind (arith, common_steps)
pair meets (suc at) (i ∷ items) apart =
    let next : suc at + 1 ≡ suc (at + 1) = omega arith in
    let rest = pair meets at items (subst (λ n. unwrap_or (option_and_then (λ a. option_map (λ b. not (meets a b)) (slice_get (i ∷ items) n)) (slice_get items at)) false ≡ true) next apart) in
    record { front = i ∷ rest.front; rest = rest.rest; one = rest.one; two = rest.two; are = ap (λ l. i ∷ l) rest.are; turned = ap (λ l. i ∷ l) rest.turned; apart = rest.apart }

pub share_none : (runs : List Run) (a b : Item) → meet runs a b ≡ false → ShareNoDevice runs a b
share_none runs a b apart d one = by_cases (is_on_device runs d b) refl
  where
    same : (i : Item) → is_of runs d i ≡ is_on_device runs d i
    same (Ran r) = refl
    same (Failed e k) = refl
    same (Back e k) = refl

    by_cases : (c : Bool) → is_on_device runs d b ≡ c → c ≡ false
    by_cases true e = absurd (cc (sym apart ∙ of_one_device runs d a b (same a ∙ one) (same b ∙ e)))
    by_cases false e = refl

-- so they may be exchanged
pub apart_exchange : (runs : List Run) (kinds : List Kind) (home : List Stand) (at : ℕ) (items : List Item) → are_apart (meet runs) at items ≡ true
    → SameOutcome (serial_execution runs kinds home items) (serial_execution runs kinds home (exchanged at items))
apart_exchange runs kinds home at items apart = of_pair (pair (meet runs) at items apart)
  where
    of_pair : ArePair items at (meet runs) → SameOutcome (serial_execution runs kinds home items) (serial_execution runs kinds home (exchanged at items))
    of_pair two =
        subst (λ l. SameOutcome (serial_execution runs kinds home l) (serial_execution runs kinds home (exchanged at items))) (sym two.are)
        (subst (λ l. SameOutcome (serial_execution runs kinds home (two.front ++ two.one ∷ two.two ∷ two.rest)) (serial_execution runs kinds home l)) (sym two.turned)
        (outcome_stays runs kinds home two.front two.rest two.one two.two (share_none runs two.one two.two two.apart)))
