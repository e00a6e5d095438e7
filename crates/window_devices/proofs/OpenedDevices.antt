-- The devices of a window that opens: each is home, and known as it is.
use Rattle.device_gate.specs.Places.{all_home}
use Rattle.device_states.specs.Devices.{Shown}
use Rattle.window_devices.proofs.Prelude.{AreKnown, DeviceProgress, List, None, Purpose, Some, Stand, [], ap, arith, common_steps, get_or_from_slice_get, grip_in, inl, inr, known_first, length, no_device, progress_at, refl, replicate, replicate-append-replicate, slice_get, slice_get_cases, slice_get_within, slice_index_or, stand_at, subst, suc, sym, zero, ℕ, ◌++◌, ◌+◌, ◌<◌, ◌∙◌, ◌∷◌, ◌≡◌, ◌≤◌, ◌⊎◌}
use Rattle.std.proofs.lemmas.List.{length-append}

pub replicate_more : {A : Type 0} (n : ℕ) (x : A) → replicate n x ++ x ∷ [] ≡ replicate (n + 1) x
replicate_more n x = replicate-append-replicate n 1 x

-- the places of a list with one item more
pub get_front : {A : Type 0} (xs : List A) (x : A) (i : ℕ) → i < length xs → slice_get (xs ++ x ∷ []) i ≡ slice_get xs i
get_front [] x i lt = absurd (omega arith)
get_front (y ∷ ys) x zero lt = refl
get_front (y ∷ ys) x (suc i) lt = get_front ys x i (omega arith)

pub get_last : {A : Type 0} (xs : List A) (x : A) → slice_get (xs ++ x ∷ []) (length xs) ≡ Some x
get_last [] x = refl
get_last (y ∷ ys) x = get_last ys x

-- one device more is known
pub known_more : {D : Type 0} (shows : D → Shown) (devices : List D) (world : List Stand) (rounds n : ℕ) (known after : List DeviceProgress) (progress : DeviceProgress)
    → AreKnown shows devices world rounds n known → after ≡ known ++ progress ∷ []
    → ((device : D) → slice_get devices n ≡ Some device → progress ≡ known_first rounds (stand_at world n).value (shows device).turns (shows device).probes (shows device).faults)
    → AreKnown shows devices world rounds (n + 1) after
known_more {D = D} shows devices world rounds n known after progress are more is = rw more (record {
  size = omega (arith, length-append known (progress ∷ []), are.size);
  each = each;
})
  where
    each : (d : ℕ) (device : D) → d < n + 1 → slice_get devices d ≡ Some device → slice_get (known ++ progress ∷ []) d ≡ Some (known_first rounds (stand_at world d).value (shows device).turns (shows device).probes (shows device).faults)
    each d device lt at = elim (split d n lt) [
      | inl before ↦ get_front known progress d (omega (arith, before, are.size)) ∙ are.each d device before at
      | inr here ↦ (let P : ℕ → Type 0 = λ k. slice_get devices k ≡ Some device → slice_get (known ++ progress ∷ []) k ≡ Some (known_first rounds (stand_at world k).value (shows device).turns (shows device).probes (shows device).faults) in
          subst P (sym here) (λ there. ap (λ k. slice_get (known ++ progress ∷ []) k) (sym are.size) ∙ get_last known progress ∙ ap Some (is device there)) at)
    ]
      where
        split : (a b : ℕ) → a < b + 1 → (a < b) ⊎ (a ≡ b)
        split a b h = grind (arith, common_steps)

-- past the end of a list
pub past_end : {A : Type 0} (xs : List A) (i : ℕ) (x : A) → length xs ≤ i → slice_index_or xs i x ≡ x
past_end [] i x le = refl
past_end (y ∷ ys) zero x le = absurd (omega arith)
past_end (y ∷ ys) (suc i) x le = past_end ys i x (omega arith)

-- a device of the home, and what is known of it
pub known_there : {D : Type 0} (shows : D → Shown) (devices : List D) (world : List Stand) (rounds : ℕ) (known : List DeviceProgress) (d : ℕ) (device : D)
    → AreKnown shows devices world rounds (length devices) known → slice_get devices d ≡ Some device
    → progress_at known d ≡ known_first rounds (stand_at world d).value (shows device).turns (shows device).probes (shows device).faults
known_there shows devices world rounds known d device are at =
    get_or_from_slice_get known d _ no_device (are.each d device (slice_get_within devices d device at) at)

-- no device of the home
unknown_there : {D : Type 0} (shows : D → Shown) (devices : List D) (world : List Stand) (rounds : ℕ) (known : List DeviceProgress) (d : ℕ)
    → AreKnown shows devices world rounds (length devices) known → length devices ≤ d → progress_at known d ≡ no_device
unknown_there shows devices world rounds known d are past = past_end known d no_device (omega (arith, are.size, past))

-- each device of the home, or none
pub data There {D : Type 0} (shows : D → Shown) (devices : List D) (world : List Stand) (rounds : ℕ) (known : List DeviceProgress) (d : ℕ) : Type 0 where
  known_as : (device : D) → slice_get devices d ≡ Some device → d < length world → progress_at known d ≡ known_first rounds (stand_at world d).value (shows device).turns (shows device).probes (shows device).faults → There shows devices world rounds known d
  unknown : length world ≤ d → progress_at known d ≡ no_device → There shows devices world rounds known d

pub there : {D : Type 0} (shows : D → Shown) (devices : List D) (world : List Stand) (rounds : ℕ) (known : List DeviceProgress) (d : ℕ) → length devices ≡ length world
    → AreKnown shows devices world rounds (length devices) known → There shows devices world rounds known d
there shows devices world rounds known d size are = elim (slice_get_cases devices d).1 [
  | inl p ↦ known_as p.0 p.2 (let lt = p.1 in omega (arith, lt, size)) (known_there shows devices world rounds known d p.0 are p.2)
  | inr p ↦ unknown (let le = p.0 in omega (arith, le, size)) (unknown_there shows devices world rounds known d are p.0)
]

-- every place holds a device that is home
pub none_out : {D : Type 0} (devices : List D) (d : ℕ) (purpose : Purpose) → grip_in (slice_get (all_home devices) d) purpose ≡ None
none_out [] d purpose = refl
none_out (x ∷ xs) zero purpose = refl
none_out (x ∷ xs) (suc d) purpose = none_out xs d purpose
