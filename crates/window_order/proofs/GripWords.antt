-- What the grip of one device says of the runs.
use Rattle.window_order.proofs.Prelude.{Bool, Grip, Grips, None, Option, Probes, Purpose, Some, and_right, ap, arith, common_steps, false, grips_command, grips_undo, is_command, is_undo, option_map, put, put_keeps, put_other, put_same, refl, sym, unwrap_or, ℕ, ◌&&◌, ◌==◌, ◌∙◌, ◌≡◌, ◌≢◌}

-- the run with this grip has the device for a command, ..
abbrev pub for_command : ℕ → Option Grip → Bool
for_command r o = unwrap_or (option_map (λ p. (p.maker == r) && is_command p.purpose) o) false

-- .. or for an undo
abbrev pub for_undo : ℕ → Option Grip → Bool
for_undo r o = unwrap_or (option_map (λ p. (p.maker == r) && is_undo p.purpose) o) false

-- a device has the same grip, for this run
pub record SameGrip (g h : Grips) (d r : ℕ) : Type 0 where
  pub command : grips_command h r d ≡ grips_command g r d
  pub undo : grips_undo h r d ≡ grips_undo g r d

differs : (x y : ℕ) (b : Bool) → y ≢ x → ((x == y) && b) ≡ false
differs x y b h = grind (arith, common_steps)

self : (x : ℕ) (b : Bool) → ((x == x) && b) ≡ b
self x b = grind (arith, common_steps)

-- the maker of a grip has it for its purpose, and no other run has it
pub own_command : (g : Grips) (d r : ℕ) (p : Purpose) → g d ≡ Some (record { maker = r; purpose = p }) → grips_command g r d ≡ is_command p
own_command g d r p at = ap (for_command r) at ∙ self r (is_command p)

pub own_undo : (g : Grips) (d r : ℕ) (p : Purpose) → g d ≡ Some (record { maker = r; purpose = p }) → grips_undo g r d ≡ is_undo p
own_undo g d r p at = ap (for_undo r) at ∙ self r (is_undo p)

pub other_command : (g : Grips) (d r q : ℕ) (p : Purpose) → g d ≡ Some (record { maker = r; purpose = p }) → q ≢ r → grips_command g q d ≡ false
other_command g d r q p at ne = ap (for_command q) at ∙ differs r q (is_command p) ne

pub other_undo : (g : Grips) (d r q : ℕ) (p : Purpose) → g d ≡ Some (record { maker = r; purpose = p }) → q ≢ r → grips_undo g q d ≡ false
other_undo g d r q p at ne = ap (for_undo q) at ∙ differs r q (is_undo p) ne

-- where it is for no command, no run has it for one
pub no_command_out : (g : Grips) (d r q : ℕ) (p : Purpose) → g d ≡ Some (record { maker = r; purpose = p }) → is_command p ≡ false → grips_command g q d ≡ false
no_command_out g d r q p at none = ap (for_command q) at ∙ (λ i. (r == q) && none i) ∙ and_right (r == q) false refl

-- a device that is home
pub home_command : (g : Grips) (d q : ℕ) → g d ≡ None → grips_command g q d ≡ false
home_command g d q at = ap (for_command q) at

pub home_undo : (g : Grips) (d q : ℕ) → g d ≡ None → grips_undo g q d ≡ false
home_undo g d q at = ap (for_undo q) at

-- the grips of the other devices stay
pub grip_elsewhere : (g : Grips) (d e r : ℕ) (o : Option Grip) → e ≢ d → SameGrip g (put g d o) e r
grip_elsewhere g d e r o ne = record { command = ap (for_command r) (put_other g d o e ne); undo = ap (for_undo r) (put_other g d o e ne) }

-- the device comes home: what was its maker's is no one's
pub grip_home : (g : Grips) (d r q : ℕ) (p : Purpose) → g d ≡ Some (record { maker = r; purpose = p }) → q ≢ r → SameGrip g (put g d None) d q
grip_home g d r q p at ne = record {
  command = ap (for_command q) (put_same g d None) ∙ sym (other_command g d r q p at ne);
  undo = ap (for_undo q) (put_same g d None) ∙ sym (other_undo g d r q p at ne);
}

-- it goes out: what is its maker's is not another run's
pub grip_out : (g : Grips) (d r q : ℕ) (p : Purpose) → g d ≡ None → q ≢ r → SameGrip g (put g d (Some (record { maker = r; purpose = p }))) d q
grip_out g d r q p at ne = record {
  command = other_command (put g d (Some (record { maker = r; purpose = p }))) d r q p (put_same g d (Some (record { maker = r; purpose = p }))) ne ∙ sym (home_command g d q at);
  undo = other_undo (put g d (Some (record { maker = r; purpose = p }))) d r q p (put_same g d (Some (record { maker = r; purpose = p }))) ne ∙ sym (home_undo g d q at);
}

-- a device that goes out for a probe, or comes home from one, is no run's
pub probe_out_grip : (g : Grips) (d m : ℕ) (v : Option ℕ) → g d ≡ None → (e q : ℕ) → SameGrip g (put g d (Some (record { maker = m; purpose = Probes v }))) e q
probe_out_grip g d m v at e q = record {
  command = put_keeps (for_command q) g d (Some (record { maker = m; purpose = Probes v })) ((and_right (m == q) false refl) ∙ sym (ap (for_command q) at)) e;
  undo = put_keeps (for_undo q) g d (Some (record { maker = m; purpose = Probes v })) ((and_right (m == q) false refl) ∙ sym (ap (for_undo q) at)) e;
}

pub probe_home_grip : (g : Grips) (d m : ℕ) (v : Option ℕ) → g d ≡ Some (record { maker = m; purpose = Probes v }) → (e q : ℕ) → SameGrip g (put g d None) e q
probe_home_grip g d m v at e q = record {
  command = put_keeps (for_command q) g d None (sym (ap (for_command q) at ∙ and_right (m == q) false refl)) e;
  undo = put_keeps (for_undo q) g d None (sym (ap (for_undo q) at ∙ and_right (m == q) false refl)) e;
}
