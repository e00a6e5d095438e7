-- The kind of a device.
use Rattle.home_types.specs.Kinds.{kind_at}
use Rattle.home_types.specs.declared.kinds.Kind.TheVariants.{States}
use Rattle.routine_reader.specs.declared.scripts.DeviceText.{DeviceText}
use Rattle.order_checker.proofs.Prelude.{List, ap, get_or, get_or-map, length, map, sym, ℕ, ◌<◌, ◌∙◌, ◌≡◌}

pub kind_of : (devices : List DeviceText) (d : ℕ) (device : DeviceText) → d < length devices → device ≡ get_or devices d device → kind_at (map (λ d. d.kind) devices) d ≡ device.kind
kind_of devices d device within is = get_or-map (λ d. d.kind) devices d device (States 0) within ∙ ap (λ d. d.kind) (sym is)
