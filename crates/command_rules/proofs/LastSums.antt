-- The sum up to the last command on a device, added up from the front.
use Rattle.command_rules.proofs.Prelude.{Bool, Command, List, [], add_assoc, ap, arith, at_drop_more, drop, estimate_to_last, false, get_or, if◌then◌else◌, is_on, length, list_any, refl, sym, true, zero-add, ℕ, ◌+◌, ◌<◌, ◌||◌, ◌∙◌, ◌∷◌, ◌≡◌}

-- the sum up to the last command on the device, where the commands before these gave `sum` in all and `to_last` up to the last on it
abbrev pub sum_or : ℕ → List Command → ℕ → ℕ → ℕ
sum_or d rest sum to_last = if list_any (is_on d) rest then sum + estimate_to_last d rest else to_last

none_left : (d : ℕ) (cs : List Command) → list_any (is_on d) cs ≡ false → estimate_to_last d cs ≡ 0
none_left d [] none = refl
none_left d (c ∷ cs) none = rw none refl

cases : (here later : Bool) (ms e sum to_last : ℕ) → (later ≡ false → e ≡ 0) → (if here || later then sum + (if here || later then ms + e else 0) else to_last) ≡ (if later then sum + ms + e else (if here then sum + ms else to_last))
cases true true ms e sum to_last none = sym (add_assoc sum ms e)
cases true false ms e sum to_last none = let gone : e ≡ 0 = none refl in omega (arith, gone)
cases false true ms e sum to_last none = sym (add_assoc sum ms e)
cases false false ms e sum to_last none = refl

-- one more command is passed
pub sum_or-cons : (d : ℕ) (c : Command) (rest : List Command) (sum to_last : ℕ) → sum_or d (c ∷ rest) sum to_last ≡ sum_or d rest (sum + c.ms) (if is_on d c then sum + c.ms else to_last)
sum_or-cons d c rest sum to_last = cases (is_on d c) (list_any (is_on d) rest) c.ms (estimate_to_last d rest) sum to_last (none_left d rest)

starts : (here later : Bool) (ms e : ℕ) → (if here || later then 0 + (if here || later then ms + e else 0) else 0) ≡ (if here || later then ms + e else 0)
starts true later ms e = zero-add (ms + e)
starts false true ms e = zero-add (ms + e)
starts false false ms e = refl

-- nothing is passed yet
pub sum_or-start : (d : ℕ) (cs : List Command) → sum_or d cs 0 0 ≡ estimate_to_last d cs
sum_or-start d [] = refl
sum_or-start d (c ∷ cs) = starts (is_on d c) (list_any (is_on d) cs) c.ms (estimate_to_last d cs)

module _ (d i : ℕ) (cs : List Command) (e : Command) (sum to_last next : ℕ) (within : i < length cs) where
  passed : (here : Bool) → is_on d (get_or cs i e) ≡ here → sum_or d (drop (i + 1) cs) (sum + (get_or cs i e).ms) (if here then sum + (get_or cs i e).ms else to_last) ≡ sum_or d (drop i cs) sum to_last
  passed here is =
      let step = at_drop_more (λ rest. sum_or d rest sum to_last) cs i e within ∙ sum_or-cons d (get_or cs i e) (drop (i + 1) cs) sum to_last in
      sym (step ∙ ap (λ b. sum_or d (drop (i + 1) cs) (sum + (get_or cs i e).ms) (if b then sum + (get_or cs i e).ms else to_last)) is)

  -- the command at the place i is passed, where it is on the device, and where it is not
  pub sum_or-on : is_on d (get_or cs i e) ≡ true → next ≡ sum + (get_or cs i e).ms → sum_or d (drop (i + 1) cs) (sum + (get_or cs i e).ms) next ≡ sum_or d (drop i cs) sum to_last
  sum_or-on on at = rw at (passed true on)

  pub sum_or-off : is_on d (get_or cs i e) ≡ false → next ≡ to_last → sum_or d (drop (i + 1) cs) (sum + (get_or cs i e).ms) next ≡ sum_or d (drop i cs) sum to_last
  sum_or-off off at = rw at (passed false off)
