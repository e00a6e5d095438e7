-- A home with a lamp, which is on.
use Rattle.rule_tests.proofs.Prelude.{IsStateOf, Kind, List, [], arith, refl, subst, suc, sym, true, zero, ℕ, ◌<◌, ◌∷◌, ◌≡◌}
use Rattle.home_types.specs.HomeStates.{stand_at}
use Rattle.home_types.specs.Kinds.{has_value, kind_at}
use Rattle.home_types.specs.declared.kinds.Kind.TheVariants.{States}
use Rattle.home_types.specs.declared.worlds.Stand.{Stand}

abbrev pub lamp : List Kind
lamp = States 2 ∷ []

abbrev pub on : List Stand
on = record { value = 1; up = true } ∷ []

value_on : (d : ℕ) → d < 1 → has_value (kind_at lamp d) (stand_at on d).value ≡ true
value_on zero within = refl
value_on (suc d) within = absurd (omega (arith, within))

pub lamp_is_on : (home : List Stand) → home ≡ on → IsStateOf lamp home
lamp_is_on home is = subst (IsStateOf lamp) (sym is) (record { devices = refl; values = value_on })
