-- The serial order that a line says, and when it is a serial execution.
use Rattle.command_rules.specs.Rosters.{Run}
use Rattle.command_rules.specs.Serial.{SerialRun, Served, serve}
use Rattle.device_order.specs.LineEntries.{entries}
use Rattle.device_order.specs.RunStates.{RunStates}
use Rattle.device_order.specs.Walks.{WalkState, walk_end}
use Rattle.home_types.specs.HomeStates.{stand_at}
use Rattle.home_types.specs.Numbers.{DeviceId}
use Rattle.home_types.specs.declared.items.Item.TheVariants.{Back, Failed, Ran}
use Rattle.home_types.specs.declared.items.Item.{Item}
use Rattle.home_types.specs.declared.kinds.Kind.{Kind}
use Rattle.home_types.specs.declared.worlds.Stand.{Stand}
use Rattle.std.specs.Prelude.{Bool, List, [], false, fold, if◌then◌else◌, length, true, ℕ, ◌&&◌, ◌++◌, ◌<◌, ◌≡◌, ◌∷◌}

-- the events and the committed runs of a line
unfoldable pub serial_order : RunStates → List Item → List Item
serial_order states [] = []
serial_order states (Ran r ∷ is) =
    if (states r.0).committed then Ran r ∷ serial_order states is else serial_order states is
serial_order states (Failed e k ∷ is) = Failed e k ∷ serial_order states is
serial_order states (Back e k ∷ is) = Back e k ∷ serial_order states is

-- what the committed runs answered, in line order
unfoldable pub served : RunStates → List Item → List Served
served states [] = []
served states (Ran r ∷ is) =
    if (states r.0).committed
    then record { run = r; answers = (states r.0).answers } ∷ served states is else served states is
served states (Failed e k ∷ is) = served states is
served states (Back e k ∷ is) = served states is

-- each event is of one of the n devices of the home
unfoldable pub EventsAreHomed : ℕ → List Item → Type 0
EventsAreHomed n [] = Unit {0}
EventsAreHomed n (Ran r ∷ is) = EventsAreHomed n is
EventsAreHomed n (Failed e k ∷ is) = (e.0 < n) × EventsAreHomed n is
EventsAreHomed n (Back e k ∷ is) = (e.0 < n) × EventsAreHomed n is

-- where the walk along a device's order has it
abbrev pub walk_stand : WalkState → Stand
walk_stand z = record { value = z.value; up = z.up }

-- from here on, the serial execution of the line's order is not refused, gives the committed runs
-- their answers, and leaves each device where the walk along its entries ends
pub record LineIsSerial (kinds : List Kind) (runs : List Run) (states : RunStates) (s : SerialRun)
    (z : DeviceId → WalkState) (line : List Item) : Type 0 where
  pub refused : (fold (serve runs kinds) s (serial_order states line)).refused ≡ false
  pub answers : (fold (serve runs kinds) s (serial_order states line)).answers
      ≡ s.answers ++ served states line
  pub size : length (fold (serve runs kinds) s (serial_order states line)).home ≡ length s.home
  pub stands : (d : DeviceId) → d < length s.home
      → stand_at (fold (serve runs kinds) s (serial_order states line)).home d
      ≡ walk_stand (walk_end (z d) (entries kinds states d line))

-- each run of the line has committed
unfoldable pub all_committed : RunStates → List Item → Bool
all_committed states [] = true
all_committed states (Ran r ∷ is) = (states r.0).committed && all_committed states is
all_committed states (Failed e k ∷ is) = all_committed states is
all_committed states (Back e k ∷ is) = all_committed states is
