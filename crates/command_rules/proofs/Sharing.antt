-- Two runs share a device exactly where their footprints meet.
use Rattle.command_rules.proofs.Prelude.{Bool, Command, Footprint, IsFootprint, IsTrue, List, Meet, [], arith, common_steps, false, is_on, list_any, refl, subst, sym, true, ℕ, ◌==◌, ◌||◌, ◌∙◌, ◌∷◌, ◌≡◌}
use Rattle.std.proofs.lemmas.Bool.{or_right}

-- a device in both lists
shared : (cs others : List Command) (d : ℕ) → list_any (is_on d) cs ≡ true → list_any (is_on d) others ≡ true → list_any (λ (c : Command). list_any (is_on c.device.0) others) cs ≡ true
shared [] others d here there = absurd (grind (arith, common_steps))
shared (c ∷ cs) others d here there = at (λ rest. shared cs others d rest there) (c.device.0 == d) refl
  where
    at : (list_any (is_on d) cs ≡ true → list_any (λ (e : Command). list_any (is_on e.device.0) others) cs ≡ true) → (b : Bool) → (c.device.0 == d) ≡ b → (list_any (is_on c.device.0) others || list_any (λ (e : Command). list_any (is_on e.device.0) others) cs) ≡ true
    at later true e =
        let same : d ≡ c.device.0 = grind (arith, common_steps) in
        let first : list_any (is_on c.device.0) others ≡ true = subst (λ q. list_any (is_on q) others ≡ true) same there in
        rw first refl
    at later false e =
        let rest : list_any (is_on d) cs ≡ true = grind (arith, common_steps) in
        or_right (list_any (is_on c.device.0) others) (list_any (λ (e : Command). list_any (is_on e.device.0) others) cs) (later rest)

-- .. is found
pub found : (cs others : List Command) → list_any (λ (c : Command). list_any (is_on c.device.0) others) cs ≡ true → (d : ℕ) × (list_any (is_on d) cs ≡ true) × (list_any (is_on d) others ≡ true)
found [] others any = absurd (grind (arith, common_steps))
found (c ∷ cs) others any = at (λ rest. found cs others rest) (list_any (is_on c.device.0) others) refl
  where
    at : (list_any (λ (e : Command). list_any (is_on e.device.0) others) cs ≡ true
        → (d : ℕ) × (list_any (is_on d) cs ≡ true) × (list_any (is_on d) others ≡ true)) → (b : Bool) → list_any (is_on c.device.0) others ≡ b
        → (d : ℕ) × (list_any (is_on d) (c ∷ cs) ≡ true) × (list_any (is_on d) others ≡ true)
    at later true e = (c.device.0, grind (arith, common_steps), e)
    at later false e =
        let rest : list_any (λ (e : Command). list_any (is_on e.device.0) others) cs ≡ true = grind (arith, common_steps) in
        let device = later rest in
        (device.0, or_right (is_on device.0 c) (list_any (is_on device.0) cs) device.1, device.2)

pub meets_shares : (cs others : List Command) (a b : Footprint) (result : Bool) → IsFootprint cs a → IsFootprint others b → (IsTrue result → Meet a.devices b.devices) × (Meet a.devices b.devices → IsTrue result)
    → result ≡ list_any (λ (c : Command). list_any (is_on c.device.0) others) cs
meets_shares cs others a b result one other told = at result (list_any (λ (c : Command). list_any (is_on c.device.0) others) cs) refl refl
  where
    at : (r s : Bool) → result ≡ r → list_any (λ (c : Command). list_any (is_on c.device.0) others) cs ≡ s → r ≡ s
    at true true e f = refl
    at false false e f = refl
    at true false e f =
        let meet = told.0 e in
        let yes = shared cs others meet.0 (sym (one.devices meet.0) ∙ meet.1) (sym (other.devices meet.0) ∙ meet.2) in
        absurd (grind (arith, common_steps, yes, f))
    at false true e f =
        let device = found cs others f in
        let yes : result ≡ true = told.1 (device.0, one.devices device.0 ∙ device.1, other.devices device.0 ∙ device.2) in
        absurd (grind (arith, common_steps, e, yes))
