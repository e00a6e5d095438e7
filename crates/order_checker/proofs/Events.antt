-- A failure or a restart changes which devices are up, and nothing else.
use Rattle.home_types.specs.declared.items.Item.TheVariants.{Back, Failed, Ran}
use Rattle.order_checker.proofs.Prelude.{Item, List, Stand, home_with_event, length, length-set, refl, ◌≡◌}

pub length-event : (home : List Stand) (item : Item) → length (home_with_event home item) ≡ length home
length-event home (Ran r) = refl
length-event home (Failed d k) = length-set home d.0 _
length-event home (Back d k) = length-set home d.0 _
