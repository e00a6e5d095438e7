-- A footprint is made from the last command on.
use Rattle.command_rules.proofs.FirstUses.{CoversUses}
use Rattle.command_rules.proofs.Prelude.{AreFootprints, Bool, Command, Devices, Footprint, IsFootprint, List, Run, Some, [], ap, arith, at_drop_more, bit_or, commands_of, common_steps, contains_insert, drop, drop_all, ends_use, false, get_or_default, inl, inr, is_on, length, list_any, nat_cmp, no_command, or_bit, refl, slice_get, slice_index_or, snoc_get, subst, suc, sym, true, zero, ℕ, ◌++◌, ◌+◌, ◌-◌, ◌<◌, ◌==◌, ◌^◌, ◌||◌, ◌∙◌, ◌∷◌, ◌≡◌, ◌≤◌, ◌⊎◌}
use Rattle.std.proofs.lemmas.List.{length-append}
use Rattle.std.proofs.lemmas.Nat.Bits.{bit_at-lt, bit_at-zero}
use Rattle.std.specs.FinSet as set
use Rattle.std.specs.Int.{bit_at}

-- the set and the bits say of the commands from this number on what a footprint says
pub record Covers (cs : List Command) (left : ℕ) (held : Devices) (bits : ℕ) : Type 0 where
  pub devices : (d : ℕ) → set.contains held d ≡ list_any (is_on d) (drop left cs)
  pub lasts : (k : ℕ) → left ≤ k → k < length cs → (bit_at bits k == 1) ≡ ends_use cs k
  pub unset : (k : ℕ) → k < left → bit_at bits k ≡ 0

-- no command is passed yet
pub covers_none : (cs : List Command) → Covers cs (length cs - 0) set.empty 0
covers_none cs = let all : length cs ≡ length cs - 0 = omega arith in subst (λ n. Covers cs n set.empty 0) all (record {
  devices = λ d. set.contains-empty nat_cmp d ∙ sym (ap (list_any (is_on d)) (drop_all (length cs) cs (omega arith)));
  lasts = λ k low high. absurd (omega (arith, low, high));
  unset = λ k low. bit_at-zero k;
})

module _ (cs : List Command) (i : ℕ) (within : i < length cs) (devices : Devices) (lasts : ℕ) (old : Covers cs (suc i) devices lasts) where
  abbrev pub its_device : ℕ
  its_device = (slice_index_or cs i no_command).device.0

  one_more : (d : ℕ) → list_any (is_on d) (drop i cs) ≡ ((its_device == d) || list_any (is_on d) (drop (suc i) cs))
  one_more d =
      let next : i + 1 ≡ suc i = omega arith in
      at_drop_more (list_any (is_on d)) cs i no_command within ∙ ap (λ n. (its_device == d) || list_any (is_on d) (drop n cs)) next

  -- a later command is on the device of the command that is passed
  pub covers_known : set.contains devices its_device ≡ true → Covers cs i devices lasts
  covers_known is = record {
    devices = λ d. old.devices d ∙ same d ∙ sym (one_more d);
    lasts = λ k low high. at k low high (k == i) refl;
    unset = λ k low. old.unset k (omega (arith, low));
  }
    where
      later : list_any (is_on its_device) (drop (suc i) cs) ≡ true
      later = sym (old.devices its_device) ∙ is

      same : (d : ℕ) → list_any (is_on d) (drop (suc i) cs) ≡ ((its_device == d) || list_any (is_on d) (drop (suc i) cs))
      same d = elim (its_device == d) as (λ b. (its_device == d) ≡ b → list_any (is_on d) (drop (suc i) cs) ≡ (b || list_any (is_on d) (drop (suc i) cs))) [
        | true ↦ (λ e. let there : its_device ≡ d = grind (arith, common_steps) in subst (λ q. list_any (is_on q) (drop (suc i) cs) ≡ true) there later)
        | false ↦ (λ e. refl)
      ] refl

      at : (k : ℕ) → i ≤ k → k < length cs → (b : Bool) → (k == i) ≡ b → (bit_at lasts k == 1) ≡ ends_use cs k
      at k low high true e =
          let here : i ≡ k = grind (arith, common_steps) in
          subst (λ j. (bit_at lasts j == 1) ≡ ends_use cs j) here (rw (old.unset i (omega arith), later) refl)
      at k low high false e = old.lasts k (grind (arith, common_steps)) high

  -- no later command is on the device of the command that is passed
  pub covers_new : set.contains devices its_device ≡ false → Covers cs i (set.insert devices its_device) (bit_or lasts (2 ^ i))
  covers_new is = record {
    devices = λ d. contains_insert devices its_device d ∙ same d ∙ sym (one_more d);
    lasts = λ k low high. or_bit lasts i k ∙ at k low high (k == i) refl;
    unset = λ k low. none k low;
  }
    where
      later : list_any (is_on its_device) (drop (suc i) cs) ≡ false
      later = sym (old.devices its_device) ∙ is

      same : (d : ℕ) → ((d == its_device) || set.contains devices d) ≡ ((its_device == d) || list_any (is_on d) (drop (suc i) cs))
      same d = let turned : (d == its_device) ≡ (its_device == d) = grind (arith, common_steps) in rw (turned, old.devices d) refl

      at : (k : ℕ) → i ≤ k → k < length cs → (b : Bool) → (k == i) ≡ b → ((k == i) || (bit_at lasts k == 1)) ≡ ends_use cs k
      at k low high true e =
          let here : i ≡ k = grind (arith, common_steps) in
          rw e (subst (λ j. true ≡ ends_use cs j) here (rw later refl))
      at k low high false e = rw e (old.lasts k (grind (arith, common_steps)) high)

      none : (k : ℕ) → k < i → bit_at (bit_or lasts (2 ^ i)) k ≡ 0
      none k low =
          let other : (k == i) ≡ false = grind (arith, common_steps) in
          let unset : (bit_at (bit_or lasts (2 ^ i)) k == 1) ≡ false = or_bit lasts i k ∙ rw (other, old.unset k (omega (arith, low))) refl in
          zero_if (bit_at (bit_or lasts (2 ^ i)) k) (bit_at-lt (bit_or lasts (2 ^ i)) k) unset
        where
          zero_if : (n : ℕ) → n < 2 → (n == 1) ≡ false → n ≡ 0
          zero_if n small not_one = grind (arith, common_steps)

module _ (cs : List Command) (passed : ℕ) (e : Command) (within : passed < length cs) (devices : Devices) (bits : ℕ) (old : Covers cs (length cs - passed) devices bits) where
  its_place : length cs - 1 - passed < length cs
  its_place = omega (arith, within)

  before : Covers cs (suc (length cs - 1 - passed)) devices bits
  before = let place : length cs - passed ≡ suc (length cs - 1 - passed) = omega (arith, within) in subst (λ n. Covers cs n devices bits) place old

  same_device : (slice_index_or cs (length cs - 1 - passed) e).device.0 ≡ (slice_index_or cs (length cs - 1 - passed) no_command).device.0
  same_device = ap (λ (c : Command). c.device.0) (get_or_default cs (length cs - 1 - passed) e no_command its_place)

  after : (held : Devices) (lasts : ℕ) → Covers cs (length cs - 1 - passed) held lasts → Covers cs (length cs - (passed + 1)) held lasts
  after held lasts all = let place : length cs - 1 - passed ≡ length cs - (passed + 1) = omega arith in subst (λ n. Covers cs n held lasts) place all

  -- one command more is passed, on a device of a later one, and on one of its own
  pub passed_known : set.contains devices (slice_index_or cs (length cs - 1 - passed) e).device.0 ≡ true → Covers cs (length cs - (passed + 1)) devices bits
  passed_known is = after devices bits (covers_known cs (length cs - 1 - passed) its_place devices bits before (ap (set.contains devices) (sym same_device) ∙ is))

  pub passed_new : set.contains devices (slice_index_or cs (length cs - 1 - passed) e).device.0 ≡ false
      → Covers cs (length cs - (passed + 1)) (set.insert devices (slice_index_or cs (length cs - 1 - passed) e).device.0) (bit_or bits (2 ^ (length cs - 1 - passed)))
  passed_new is =
      rw same_device (after (set.insert devices (slice_index_or cs (length cs - 1 - passed) no_command).device.0) (bit_or bits (2 ^ (length cs - 1 - passed))) (covers_new cs (length cs - 1 - passed) its_place devices bits before (ap (set.contains devices) (sym same_device) ∙ is)))

-- the device of a command is below 256 where those of all are
pub low_device : (cs : List Command) (i : ℕ) (e : Command) → i < length cs → ((k : ℕ) (c : Command) → slice_get cs k ≡ Some c → c.device.0 < 256) → (slice_index_or cs i e).device.0 < 256
low_device cs i e within low = low i (slice_index_or cs i e) (there cs i e within)
  where
    there : (cs : List Command) (i : ℕ) (e : Command) → i < length cs → slice_get cs i ≡ Some (slice_index_or cs i e)
    there [] i e within = absurd (omega (arith, within))
    there (c ∷ cs) zero e within = refl
    there (c ∷ cs) (suc i) e within = there cs i e (omega (arith, within))

-- one run more has its footprint
pub footprints_more : (n : ℕ) (runs : List Run) (fs : List Footprint) (f : Footprint) → AreFootprints n runs fs → IsFootprint (commands_of runs (suc n)) f → AreFootprints (n + 1) runs (fs ++ f ∷ [])
footprints_more n runs fs f old one = record {
  size = length-append fs (f ∷ []) ∙ ap (λ k. k + 1) old.size;
  each = λ i g there. at i g (snoc_get fs f g i there);
}
  where
    at : (i : ℕ) (g : Footprint) → (slice_get fs i ≡ Some g) ⊎ ((i ≡ length fs) × (f ≡ g)) → IsFootprint (commands_of runs (suc i)) g
    at i g (inl there) = old.each i g there
    at i g (inr last) = subst (λ h. IsFootprint (commands_of runs (suc i)) h) last.1 (subst (λ k. IsFootprint (commands_of runs (suc k)) f) (sym (last.0 ∙ old.size)) one)
