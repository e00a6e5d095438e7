-- Items of one device, and a run and the one that it follows, meet.
use Rattle.command_rules.specs.Apart.{are_tied, meet, share_device}
use Rattle.command_rules.proofs.Prelude.{Bool, Command, List, Run, [], ap, arith, commands_of, common_steps, false, follows, is_on, list_any, refl, shares, touches, true, ℕ, ◌==◌, ◌||◌, ◌∙◌, ◌∷◌, ◌≡◌}
use Rattle.home_types.specs.declared.items.Item.TheVariants.{Back, Failed, Ran}
use Rattle.home_types.specs.declared.items.Item.{Item}

-- runs that have one device share it
pub both_touch : (runs : List Run) (r q d : ℕ) → touches runs r d ≡ true → touches runs q d ≡ true → shares runs r q ≡ true
both_touch runs r q d one other = along (commands_of runs r) one
  where
    along : (cs : List Command) → list_any (is_on d) cs ≡ true → list_any (λ c. touches runs q c.device.0) cs ≡ true
    along [] h = absurd cc
    along (c ∷ cs) h = at_ (c.device.0 == d) refl h (along cs)
      where
        same : (c.device.0 == d) ≡ true → c.device.0 ≡ d
        same e = grind (arith, common_steps)

        last : (b : Bool) → (b || true) ≡ true
        last true = refl
        last false = refl

        at_ : (b : Bool) → (c.device.0 == d) ≡ b → (b || list_any (is_on d) cs) ≡ true → (list_any (is_on d) cs ≡ true → list_any (λ c. touches runs q c.device.0) cs ≡ true) → (touches runs q c.device.0 || list_any (λ c. touches runs q c.device.0) cs) ≡ true
        at_ true e h rest = ap (λ b. b || list_any (λ c. touches runs q c.device.0) cs) (ap (touches runs q) (same e) ∙ other)
        at_ false e h rest = ap (λ b. touches runs q c.device.0 || b) (rest h) ∙ last (touches runs q c.device.0)

-- items of one device meet
abbrev pub is_of : List Run → ℕ → Item → Bool
is_of runs d (Ran r) = touches runs r.0 d
is_of runs d (Failed e k) = e.0 == d
is_of runs d (Back e k) = e.0 == d

pub of_one_device : (runs : List Run) (d : ℕ) (i j : Item) → is_of runs d i ≡ true → is_of runs d j ≡ true → meet runs i j ≡ true
of_one_device runs d i j one other = first (share_device runs i j) (are_tied runs i j) (share i j one other)
  where
    first : (a b : Bool) → a ≡ true → (a || b) ≡ true
    first a b h = grind (arith, common_steps)

    same : (x y : ℕ) → (x == y) ≡ true → x ≡ y
    same x y h = grind (arith, common_steps)

    at_event : (r e : ℕ) → touches runs r d ≡ true → (e == d) ≡ true → touches runs r e ≡ true
    at_event r e h k = ap (touches runs r) (same e d k) ∙ h

    events : (x y : ℕ) → (x == d) ≡ true → (y == d) ≡ true → (x == y) ≡ true
    events x y h k = grind (arith, common_steps)

    share : (i j : Item) → is_of runs d i ≡ true → is_of runs d j ≡ true → share_device runs i j ≡ true
    share (Ran r) (Ran q) h k = both_touch runs r.0 q.0 d h k
    share (Ran r) (Failed e l) h k = at_event r.0 e.0 h k
    share (Ran r) (Back e l) h k = at_event r.0 e.0 h k
    share (Failed e l) (Ran q) h k = at_event q.0 e.0 k h
    share (Failed e l) (Failed f m) h k = events e.0 f.0 h k
    share (Failed e l) (Back f m) h k = events e.0 f.0 h k
    share (Back e l) (Ran q) h k = at_event q.0 e.0 k h
    share (Back e l) (Failed f m) h k = events e.0 f.0 h k
    share (Back e l) (Back f m) h k = events e.0 f.0 h k

-- a run and the one that it follows meet
pub follower_meets : (runs : List Run) (r f : ℕ) (i j : Item) → follows runs r f ≡ true → are_tied runs i j ≡ true → meet runs i j ≡ true
follower_meets runs r f i j leads tied = ap (λ b. share_device runs i j || b) tied ∙ last (share_device runs i j)
  where
    last : (b : Bool) → (b || true) ≡ true
    last true = refl
    last false = refl
