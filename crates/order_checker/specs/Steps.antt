-- One step after the other, up to the first that is not as stated.
use Rattle.order_checker.specs.declared.verdicts.Halt.TheVariants.{At, Memory}
use Rattle.order_checker.specs.declared.verdicts.Halt.{Halt}
use Rattle.order_checker.specs.declared.verdicts.Place.{Place}
use Rattle.std.specs.Prelude.{Bool, Err, List, Ok, Result, [], false, true, ⊤, ◌≡◌, ◌∷◌}

infixl 10 ◌>>=◌
-- what comes next, where this is as stated
abbrev pub ◌>>=◌ : {A B E : Type 0} → Result A E → (A → Result B E) → Result B E
Ok a >>= next = next a
Err fault >>= next = Err fault

-- it holds, or this is the place
abbrev pub required : {E : Type 0} → Bool → E → Result Bool E
required true fault = Ok true
required false fault = Err fault

-- a step for each item in order, each from where the one before it ended, up to the first that is
-- refused
unfoldable pub walk : {S X E : Type 0} → (S → X → Result S E) → S → List X → Result S E
walk step state [] = Ok state
walk step state (item ∷ items) = do
  next ← step state item
  walk step next items

-- the answer of a call: what is stated, as it is seen, or the place that is not as stated, or want
-- of memory
abbrev pub IsTold : {T U : Type 0} → (T → U) → Result T Halt → Result U Place → Type 0
IsTold shown (Ok answer) told = told ≡ Ok (shown answer)
IsTold shown (Err Memory) told = ⊤
IsTold shown (Err (At place)) told = told ≡ Err place
