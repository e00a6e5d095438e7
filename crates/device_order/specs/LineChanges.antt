-- How a line changes.
use Rattle.device_order.specs.RunStates.{RunStates, device_summary, rest, uses_device}
use Rattle.home_types.specs.Numbers.{DeviceId, RunId}
use Rattle.home_types.specs.declared.items.Item.TheVariants.{Back, Failed, Ran}
use Rattle.home_types.specs.declared.items.Item.{Item}
use Rattle.home_types.specs.declared.kinds.Kind.{Kind}
use Rattle.std.specs.Prelude.{Bool, List, [], false, if◌then◌else◌, is_some, not, ◌&&◌, ◌≡◌, ◌≢◌, ◌∷◌}

-- the run does not stand in the line
unfoldable pub Lacks : RunId → List Item → Type 0
Lacks r [] = Unit {0}
Lacks r (Ran q ∷ is) = (q.0 ≢ r) × Lacks r is
Lacks r (Failed e k ∷ is) = Lacks r is
Lacks r (Back e k ∷ is) = Lacks r is

-- a live run that is not doomed, with a command on the device without an answer, and no answer
-- there so far
abbrev pub waits_at : List Kind → RunStates → DeviceId → Item → Bool
waits_at kinds states d (Ran r) =
    not (states r.0).committed && not (states r.0).doomed && uses_device d (rest (states r.0))
    && not (is_some (device_summary kinds (states r.0) d).view)
waits_at kinds states d (Failed e k) = false
waits_at kinds states d (Back e k) = false

-- an event of a device goes immediately before the first such run, else to the end
unfoldable pub line_with_event : List Kind → RunStates → DeviceId → Item → List Item → List Item
line_with_event kinds states d i [] = i ∷ []
line_with_event kinds states d i (j ∷ is) =
    if waits_at kinds states d j then i ∷ j ∷ is else j ∷ line_with_event kinds states d i is

-- all runs but one are as they were
abbrev pub SameBut : RunId → RunStates → RunStates → Type 0
SameBut r before after = (q : RunId) → q ≢ r → after q ≡ before q
