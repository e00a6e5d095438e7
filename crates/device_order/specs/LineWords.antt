-- Words on the runs of a line that are words on the order of one device.
use Rattle.command_rules.specs.Rosters.{run_no}
use Rattle.device_order.specs.LineChanges.{Lacks}
use Rattle.device_order.specs.LineEntries.{usage}
use Rattle.device_order.specs.RunStates.{RunStates, device_summary, uses_device}
use Rattle.device_order.specs.Usages.{has_used_device, is_in_effect}
use Rattle.device_order.specs.declared.records.Usage.{Usage}
use Rattle.home_types.specs.Numbers.{DeviceId, RunId}
use Rattle.home_types.specs.declared.items.Item.TheVariants.{Back, Failed, Ran}
use Rattle.home_types.specs.declared.items.Item.{Item}
use Rattle.home_types.specs.declared.kinds.Kind.{Kind}
use Rattle.std.specs.Option.{option_map_or}
use Rattle.std.specs.Prelude.{Bool, List, None, Option, Some, [], false, if◌then◌else◌, not, true, unwrap_or, ℕ, ◌&&◌, ◌++◌, ◌==◌, ◌||◌, ◌≡◌, ◌∷◌}

-- some run of the line is so
unfoldable pub any_run : (RunId → Bool) → List Item → Bool
any_run p [] = false
any_run p (Ran r ∷ is) = p r.0 || any_run p is
any_run p (Failed e k ∷ is) = any_run p is
any_run p (Back e k ∷ is) = any_run p is

-- the run uses the device, and its use of it is so
abbrev pub at_device : List Kind → RunStates → DeviceId → (Usage → Bool) → RunId → Bool
at_device kinds states d p r = uses_device d (states r).commands && p (usage kinds (states r) d)

-- no run of the line touched the device, and no event of it stands there
unfoldable pub is_calm_line : List Kind → RunStates → DeviceId → List Item → Bool
is_calm_line kinds states d [] = true
is_calm_line kinds states d (Ran r ∷ is) =
    not (at_device kinds states d has_used_device r.0) && is_calm_line kinds states d is
is_calm_line kinds states d (Failed e k ∷ is) = not (e.0 == d) && is_calm_line kinds states d is
is_calm_line kinds states d (Back e k ∷ is) = not (e.0 == d) && is_calm_line kinds states d is

-- the run with the effective write on the device: the last that wrote it and is not undone; the
-- given one where the line has none
unfoldable pub last_in_effect : List Kind → RunStates → DeviceId → Option RunId
    → List Item → Option RunId
last_in_effect kinds states d o [] = o
last_in_effect kinds states d o (Ran r ∷ is) =
    last_in_effect kinds states d
    (if at_device kinds states d is_in_effect r.0 then Some r.0 else o) is
last_in_effect kinds states d o (Failed e k ∷ is) = last_in_effect kinds states d o is
last_in_effect kinds states d o (Back e k ∷ is) = last_in_effect kinds states d o is

-- the value at which the device is to stand: of the effective write, else the first one
abbrev pub standing_value_on : List Kind → RunStates → DeviceId → ℕ → List Item → ℕ
standing_value_on kinds states d first line =
    option_map_or (λ r. unwrap_or (device_summary kinds (states r) d).wrote first)
    (last_in_effect kinds states d None line) first

-- each run stands in the line once
unfoldable pub RunsAreDistinct : List Item → Type 0
RunsAreDistinct [] = Unit {0}
RunsAreDistinct (Ran r ∷ is) = Lacks r.0 is × RunsAreDistinct is
RunsAreDistinct (Failed e k ∷ is) = RunsAreDistinct is
RunsAreDistinct (Back e k ∷ is) = RunsAreDistinct is

-- a line cut at a run
pub record CutAt (r : RunId) (line : List Item) : Type 0 where
  pub front : List Item
  pub back : List Item
  pub at : line ≡ front ++ Ran (run_no r) ∷ back
  pub before : Lacks r front
  pub behind : Lacks r back
