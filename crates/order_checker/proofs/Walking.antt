-- A walk along a list, step by step.
use Rattle.order_checker.proofs.Prelude.{Err, IsTold, List, Ok, Place, Result, ap, drop, drop_all, drop_more, get_or, length, subst, sym, walk, ℕ, ◌+◌, ◌<◌, ◌>>=◌, ◌∙◌, ◌≡◌, ◌≤◌}
use Rattle.order_checker.specs.declared.verdicts.Halt.TheVariants.{At, Memory}
use Rattle.order_checker.specs.declared.verdicts.Halt.{Halt}
use Rattle.std.specs.Result.{IsErrAnd}

walk-next : {S X E : Type 0} (step : S → X → Result S E) (state : S) (items : List X) (i : ℕ) (item : X)
    → i < length items → item ≡ get_or items i item → walk step state (drop i items) ≡ (step state item >>= (λ next. walk step next (drop (i + 1) items)))
unfolding walk
walk-next step state items i item within is =
    ap (walk step state) (drop_more items i item within) ∙ ap (λ x. step state x >>= (λ next. walk step next (drop (i + 1) items))) (sym is)

-- an item that is refused, one that is passed, and the end
pub walk-refused : {S X E : Type 0} (step : S → X → Result S E) (state : S) (items : List X) (i : ℕ) (item : X)
    → i < length items → item ≡ get_or items i item → (fault : E) → step state item ≡ Err fault → walk step state (drop i items) ≡ Err fault
walk-refused step state items i item within is fault refused =
    walk-next step state items i item within is ∙ ap (λ first. first >>= (λ next. walk step next (drop (i + 1) items))) refused

pub walk-passed : {S X E : Type 0} (step : S → X → Result S E) (state : S) (items : List X) (i : ℕ) (item : X)
    → i < length items → item ≡ get_or items i item → (next : S) → step state item ≡ Ok next → walk step state (drop i items) ≡ walk step next (drop (i + 1) items)
walk-passed step state items i item within is next passed =
    walk-next step state items i item within is ∙ ap (λ first. first >>= (λ next. walk step next (drop (i + 1) items))) passed

pub walk-end : {S X E : Type 0} (step : S → X → Result S E) (state : S) (items : List X) (i : ℕ) → length items ≤ i → walk step state (drop i items) ≡ Ok state
unfolding walk
walk-end step state items i all = ap (walk step state) (drop_all i items all)

-- a call that stops, in a walk that stops so
pub told-refused : {T U V W : Type 0} (shown : T → U) (seen : V → W) (halt : Halt) (first : Result U Place) (whole : Result W Place)
    → IsTold shown (Err halt) first → ((place : Place) → first ≡ Err place → whole ≡ Err place) → IsTold seen (Err halt) whole
told-refused shown seen Memory first whole told next = tt
told-refused shown seen (At place) first whole told next = next place told

-- the answer of a `?`
pub told-answer : {V W : Type 0} (seen : V → W) (answer : Result V Halt) (halt : Halt) (whole : Result W Place) → IsErrAnd answer (λ given. given ≡ halt) → IsTold seen (Err halt) whole → IsTold seen answer whole
told-answer seen (Ok v) halt whole given told = absurd given
told-answer seen (Err other) halt whole given told = subst (λ h. IsTold seen (Err h) whole) (sym given) told
