-- A new home is as every home is kept.
use Rattle.hub_core.proofs.Prelude.{AreNew, HomeIsKept, IsNew, IsTrue, Kind, List, Shown, Some, Stand, ap, arith, at_place, get_or, get_or-map, get_or_from_slice_get, has_value, kind_at, length, length-map, map, nowhere, slice_get, slice_get_within, stand_at, subst, sym, true, ℕ, ◌<◌, ◌∙◌, ◌≡◌, ◌≤◌}
use Rattle.home_types.specs.declared.kinds.Kind.TheVariants.{States}
use Rattle.legal_days.specs.Agreement.{UpDevicesStand}
use Rattle.routine_reader.specs.Rosters.{kinds_of, start_home, start_stand}
use Rattle.routine_reader.specs.Scripts.{PlainDevice, plain_device, plain_script}
use Rattle.routine_reader.specs.Sound.{IsSound}
use Rattle.routine_reader.specs.declared.scripts.DeviceText.{DeviceText}
use Rattle.routine_reader.specs.declared.scripts.Script.{Script}

-- the item of a list of which each was made of one
made_of : {X Y : Type 0} (f : X → Y) (xs : List X) (i : ℕ) (x : X) (e : Y) → slice_get xs i ≡ Some x → get_or (map f xs) i e ≡ f x
made_of f xs i x e h = get_or-map f xs i x e (slice_get_within xs i x h) ∙ ap f (get_or_from_slice_get xs i x x h)

pub new_home : {D : Type 0} (shows : D → Shown) (script : Script) (kinds : List Kind) (world : List Stand) (devices : List D)
    → IsSound (plain_script script) → AreNew shows script.devices.items devices → kinds ≡ kinds_of script → world ≡ start_home script
    → HomeIsKept shows (record { kinds = kinds; world = world; devices = devices; opened = 0 })
new_home {D = D} shows script kinds world devices sound new kinds_are world_is =
    record {
      numbered = λ d device at. (new_at d device at).2.own.tag_is;
      kinds = ap (λ l. length l) kinds_are ∙ length-map texts (λ t. t.kind) ∙ sym size;
      size = new.size ∙ sym size;
      few = rw size few;
      opened = omega arith;
      values = value_at;
      stand = stand;
      counts = λ d device at. (let is = (new_at d device at).2 in record {
        few_turns = rw (is.no_turns) (omega arith);
        few_probes = rw (is.no_probes) (omega arith);
        few_faults = rw (is.no_faults) (omega arith);
      });
    }
  where
    texts : List DeviceText
    texts = script.devices.items

    size : length world ≡ length texts
    size = ap (λ l. length l) world_is ∙ length-map texts start_stand

    few : length texts ≤ 256
    few = let said = sound.few_devices in let same : length (map plain_device texts) ≡ length texts = length-map texts plain_device in omega (arith, said, same)

    new_at : (d : ℕ) (device : D) → slice_get devices d ≡ Some device → (text : DeviceText) × (slice_get texts d ≡ Some text) × IsNew shows text d device
    new_at d device at = (let text = at_place texts d (let within = slice_get_within devices d device at in omega (arith, within, new.size)) in (text.0, text.1, new.each d device text.0 at text.1))

    stand_of : (d : ℕ) (text : DeviceText) → slice_get texts d ≡ Some text → stand_at world d ≡ start_stand text
    stand_of d text at = ap (λ l. stand_at l d) world_is ∙ made_of start_stand texts d text nowhere at

    kind_of : (d : ℕ) (text : DeviceText) → slice_get texts d ≡ Some text → kind_at kinds d ≡ text.kind
    kind_of d text at = ap (λ l. kind_at l d) kinds_are ∙ made_of (λ t. t.kind) texts d text (States 0) at

    stand : UpDevicesStand shows devices world
    stand d device at up = (let is = new_at d device at in is.2.at_start ∙ sym (ap (λ (s : Stand). s.value) (stand_of d is.0 is.1)))

    starts_well : (d : ℕ) (text : DeviceText) → slice_get texts d ≡ Some text → has_value text.kind text.start ≡ true
    starts_well d text at = (let sound_there = sound.devices d (plain_device text) (let within = slice_get_within texts d text at in let same : length (map plain_device texts) ≡ length texts = length-map texts plain_device in omega (arith, within, same)) in
        subst (λ (p : PlainDevice). has_value p.kind p.start ≡ true) (made_of plain_device texts d text (plain_device text) at) sound_there.start)

    value_at : (d : ℕ) → d < length world → IsTrue (has_value (kind_at kinds d) (stand_at world d).value)
    value_at d lt = (let text = at_place texts d (omega (arith, lt, size)) in rw (kind_of d text.0 text.1, stand_of d text.0 text.1) (starts_well d text.0 text.1))
