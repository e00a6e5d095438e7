-- The home of a room, built from the room's devices alone.
use Rattle.hub_commands.proofs.Prelude.{AreNew, Err, HomeState, IfOk, IsNew, IsNewHome, List, Ok, PlainDevice, Result, Script, Shown, Some, [], ap, arith, at_place, inl, inr, length, length-map, map, option_map, plain_device, plain_devices, refl, room_devices, slice_get, slice_get-map, slice_get_within, snoc_get, start_stand, subst, sym, true, ℕ, ◌++◌, ◌∙◌, ◌∷◌, ◌≡◌}
use Rattle.home_types.specs.declared.memory.NoMemory.{NoMemory}
use Rattle.routine_reader.specs.declared.scripts.DeviceText.{DeviceText}

map_twice : {X Y Z : Type 0} (g : Y → Z) (f : X → Y) (xs : List X) → map g (map f xs) ≡ map (λ x. g (f x)) xs
map_twice g f [] = refl
map_twice g f (x ∷ xs) = ap (λ l. g (f x) ∷ l) (map_twice g f xs)

module _ {D : Type 0} (shows : D → Shown) (own texts : List DeviceText) (same : plain_devices own ≡ plain_devices texts) where
  size : length own ≡ length texts
  size = sym (length-map own plain_device) ∙ ap (λ l. length l) same ∙ length-map texts plain_device

  -- what is seen of the plain content of devices
  seen : {X : Type 0} (f : PlainDevice → X) → map (λ d. f (plain_device d)) own ≡ map (λ d. f (plain_device d)) texts
  seen f = sym (map_twice f plain_device own) ∙ ap (map f) same ∙ map_twice f plain_device texts

  are_new : (devices : List D) → AreNew shows own devices → AreNew shows texts devices
  are_new devices are = record {
    size = are.size ∙ size;
    each = λ d device text at text_at. by d device text at text_at (at_place own d (let within = slice_get_within texts d text text_at in omega (arith, within, size)));
  }
    where
      by : (d : ℕ) (device : D) (text : DeviceText) → slice_get devices d ≡ Some device → slice_get texts d ≡ Some text → (mine : DeviceText) × (slice_get own d ≡ Some mine) → IsNew shows text d device
      by d device text at text_at (mine, mine_at) =
          let both : Some (plain_device mine) ≡ Some (plain_device text) = sym (slice_get-map plain_device own d ∙ ap (option_map plain_device) mine_at) ∙ ap (λ l. slice_get l d) same ∙ slice_get-map plain_device texts d ∙ ap (option_map plain_device) text_at in
          let plain : plain_device mine ≡ plain_device text = cc in
          let is = are.each d device mine at mine_at in
          record {
            own = record { tag_is = is.own.tag_is; plan_is = λ p told. is.own.plan_is p told ∙ ap (λ (x : PlainDevice). x.downs) plain };
            at_start = is.at_start ∙ ap (λ (x : PlainDevice). x.start) plain;
            no_turns = is.no_turns;
            no_probes = is.no_probes;
            no_faults = is.no_faults;
          }

  pub new_home : (result : Result (HomeState D) NoMemory) → IfOk result (λ home. home.kinds ≡ map (λ d. d.kind) own) → IfOk result (λ home. home.world ≡ map start_stand own) → IfOk result (λ home. home.opened ≡ 0)
      → IfOk result (λ home. AreNew shows own home.devices) → IfOk result (IsNewHome shows texts)
  new_home (Err e) kinds world opened devices = tt
  new_home (Ok home) kinds world opened devices = record {
    kinds = kinds ∙ seen (λ p. p.kind);
    world = world ∙ seen (λ p. record { value = p.start; up = true });
    opened = opened;
    devices = are_new home.devices devices;
  }

-- one home more
pub one_home_more : {D : Type 0} (shows : D → Shown) (script : Script) (homes : List (HomeState D)) (home : HomeState D) (more : List (HomeState D)) → more ≡ homes ++ home ∷ [] → (room : ℕ) → length homes ≡ room
    → IsNewHome shows (room_devices script room) home → ((k : ℕ) (x : HomeState D) → slice_get homes k ≡ Some x → IsNewHome shows (room_devices script k) x)
    → (k : ℕ) (x : HomeState D) → slice_get more k ≡ Some x → IsNewHome shows (room_devices script k) x
one_home_more {D = D} shows script homes home more is room count new each k x at = elim (snoc_get homes home x k (ap (λ l. slice_get l k) (sym is) ∙ at)) [
  | inl old ↦ each k x old
  | inr last ↦ (let P : ℕ × HomeState D → Type 0 = λ q. IsNewHome shows (room_devices script q.0) q.1 in subst P (λ i. (sym (last.0 ∙ count) i, last.1 i)) new)
]
