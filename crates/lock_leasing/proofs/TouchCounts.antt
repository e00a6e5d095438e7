-- The last item that has touched one of a run's devices, by its commands.
use Rattle.lock_leasing.proofs.Prelude.{Command, List, Mark, None, Some, [], if◌then◌else◌, is_on, last_meeting, last_place, list_any, meets_by, option_map, option_or, refl, ℕ, ◌+◌, ◌∷◌, ◌≡◌}
use Rattle.home_types.specs.DeviceSets.{Devices}
use Rattle.std.specs.FinSet as set

-- it is the last one that meets the set of the devices of these commands
pub touched_by_set : (commands : List Command) (devices : Devices) (line : List Mark) → ((d : ℕ) → set.contains devices d ≡ list_any (is_on d) commands) → last_meeting devices line ≡ last_place (λ m. list_any (λ (c : Command). set.contains m.touched c.device.0) commands) line
touched_by_set commands devices [] same = refl
touched_by_set commands devices (m ∷ ms) same = (λ j. option_or (option_map (λ k. k + 1) (touched_by_set commands devices ms same j)) (if meets_by (λ (c : Command). c.device.0) (set.contains m.touched) devices commands same j then Some 0 else None))
