-- Which items of a line may not be exchanged: those that share a device, and a run and the one that
-- it follows.
use Rattle.command_rules.specs.Rosters.{Run, follows, shares, touches}
use Rattle.home_types.specs.declared.items.Item.TheVariants.{Back, Failed, Ran}
use Rattle.home_types.specs.declared.items.Item.{Item}
use Rattle.std.specs.Prelude.{Bool, List, false, ◌==◌, ◌||◌}

-- some device is one of both items: a run has those of its commands, an event its own
abbrev pub share_device : List Run → Item → Item → Bool
share_device runs (Ran r) (Ran q) = shares runs r.0 q.0
share_device runs (Ran r) (Failed d k) = touches runs r.0 d.0
share_device runs (Ran r) (Back d k) = touches runs r.0 d.0
share_device runs (Failed d k) (Ran q) = touches runs q.0 d.0
share_device runs (Failed d k) (Failed e l) = d.0 == e.0
share_device runs (Failed d k) (Back e l) = d.0 == e.0
share_device runs (Back d k) (Ran q) = touches runs q.0 d.0
share_device runs (Back d k) (Failed e l) = d.0 == e.0
share_device runs (Back d k) (Back e l) = d.0 == e.0

-- they are runs of which one follows the other
abbrev pub are_tied : List Run → Item → Item → Bool
are_tied runs (Ran r) (Ran q) = follows runs r.0 q.0 || follows runs q.0 r.0
are_tied runs (Ran r) (Failed e l) = false
are_tied runs (Ran r) (Back e l) = false
are_tied runs (Failed d k) j = false
are_tied runs (Back d k) j = false

-- they are not apart
abbrev pub meet : List Run → Item → Item → Bool
meet runs i j = share_device runs i j || are_tied runs i j
