-- What a player shows, and the play that it stands for.
use Rattle.command_rules.specs.Rosters.{is_run}
use Rattle.device_gate.specs.Grips.{Gripped}
use Rattle.device_gate.specs.declared.gates.Place.TheVariants.{Home, Out}
use Rattle.device_gate.specs.declared.grips.Ready.{Ready}
use Rattle.device_gate.specs.declared.slips.Slip.{Slip}
use Rattle.device_gate.specs.declared.slips.Task.{Task}
use Rattle.device_states.specs.Devices.{Plan, Shown}
use Rattle.home_types.specs.Limits.{most_devices, most_runs}
use Rattle.home_types.specs.Numbers.{ActorId, DeviceId, RunId}
use Rattle.blocked_runs.specs.RunBits.{has_run}
use Rattle.hub_core.specs.Bounds.{IsBounded, most_entries}
use Rattle.hub_core.specs.HubCalls.{SomeRunMoves}
use Rattle.hub_core.specs.OpenHubs.{OpenHub, configuration_of}
use Rattle.lock_leasing.specs.Configurations.{point_of, read_of}
use Rattle.lock_leasing.specs.Places.{GripsFit}
use Rattle.run_replay.specs.Replays.{Play, start_of}
use Rattle.std.specs.List.{range_with_len}
use Rattle.std.specs.Prelude.{Bool, List, None, Option, Some, [], drop, false, filter, is_some, length, nat_le, not, option_map, slice_get, suc, unwrap_or, zero, ℕ, ◌&&◌, ◌*◌, ◌+◌, ◌-◌, ◌<◌, ◌^◌, ◌||◌, ◌∷◌, ◌≡◌, ◌≤◌, ◌⊎◌}

-- what a player shows: its hub, the grips that its actors hold, by their numbers, the detector's
-- rounds, how many devices the detector has come to, and how many picks took a device, gave one
-- back or made entries
pub record PlayerState (D : Type 0) : Type 0 where
  pub hub : OpenHub D
  pub grips : List (Option (Gripped D Ready))
  pub rounds : ℕ
  pub place : ℕ
  pub moves : ℕ

-- the same player with so many moves
abbrev pub with_moves : {D : Type 0} → ℕ → PlayerState D → PlayerState D
with_moves moves s = record s { moves = moves }

-- the play that it stands for, after so many acts: its moment is the hub's last one
abbrev pub play_of : {D : Type 0} → PlayerState D → ℕ → Play
play_of s acts = record {
  configuration = configuration_of s.hub;
  moment = s.hub.moment;
  place = s.place;
  acts = acts;
  moves = s.moves;
}

-- the actor holds a grip
abbrev pub is_full : {D : Type 0} → PlayerState D → ActorId → Bool
is_full s a = unwrap_or (option_map is_some (slice_get s.grips a)) false

-- the detector has ended when its rounds are over and it holds no grip; a run when it has its end,
-- and where it is none of the window
abbrev pub is_ended : {D : Type 0} → PlayerState D → ActorId → Bool
is_ended s zero = not (is_full s 0) && nat_le (s.rounds * length s.hub.setting.first) s.place
is_ended s (suc r) =
    not (is_run s.hub.setting.runs (suc r))
    || is_some ((read_of (configuration_of s.hub)).run (suc r)).ended

-- the grip that holds the device of this slip is in its maker's hands
pub record IsInHand {D : Type 0} (s : PlayerState D) (d : DeviceId) (slip : Slip) : Type 0 where
  pub grip : Gripped D Ready
  pub there : slice_get s.grips slip.maker ≡ Some (Some grip)
  pub own : grip.slip ≡ slip
  pub number : slip.device.0 ≡ d

-- what is kept of a player: each grip that an actor holds is its own, with which its device is out,
-- and each device is out with a grip in its maker's hands; the hub's moment and the detector's
-- place are low
pub record PlayerIsKept {D : Type 0} (s : PlayerState D) : Type 0 where
  pub actors : length s.grips ≡ length s.hub.setting.runs + 1
  pub makers : (a : ActorId) (grip : Gripped D Ready) → slice_get s.grips a ≡ Some (Some grip)
      → grip.slip.maker ≡ a
  pub held : (a : ActorId) (grip : Gripped D Ready) → slice_get s.grips a ≡ Some (Some grip)
      → slice_get s.hub.places grip.slip.device.0 ≡ Some (Out grip.slip grip.task)
  pub out : (d : DeviceId) (slip : Slip) (task : Task) → slice_get s.hub.places d
      ≡ Some (Out slip task) → IsInHand s d slip
  pub early : s.hub.moment ≤ 2 ^ 32 * length s.hub.history
  pub rounds : s.rounds < 2 ^ 32
  pub place : s.place ≤ s.rounds * length s.hub.setting.first

-- the device d of the player: it is home, or in the hands of an actor
abbrev pub IsDevice : {D : Type 0} → PlayerState D → DeviceId → D → Type 0
IsDevice {D} s d device =
    (slice_get s.hub.places d ≡ Some (Home device))
    ⊎ ((a : ActorId) × (grip : Gripped D Ready) × (slice_get s.grips a ≡ Some (Some grip))
    × (grip.slip.device.0 ≡ d) × (grip.device ≡ device))

-- each device was built with this plan
abbrev pub HavePlans : {D : Type 0} → (D → Shown) → (DeviceId → Plan) → PlayerState D → Type 0
HavePlans {D} shows plans s =
    (d : DeviceId) (device : D) → IsDevice s d device → (shows device).plan ≡ plans d

-- how many of these places hold nothing
abbrev pub empty_places : {A : Type 0} → List (Option A) → ℕ
empty_places [] = 0
empty_places (None ∷ xs) = empty_places xs + 1
empty_places (Some x ∷ xs) = empty_places xs

-- whether the first place holds something
abbrev pub first_is_full : {A : Type 0} → List (Option A) → ℕ
first_is_full [] = 0
first_is_full (None ∷ xs) = 0
first_is_full (Some x ∷ xs) = 1

-- how many entries its hub's history has at most
abbrev pub most_made : {D : Type 0} → PlayerState D → ℕ
most_made s = most_entries (length s.hub.setting.runs) (length s.hub.setting.first) s.hub.rounds

-- how many steps are left at most: two for each entry that the hub may still make, one for each run
-- without a grip, two for each device that the detector has still to come to, and one for the grip
-- that it holds
abbrev pub steps_left : {D : Type 0} → PlayerState D → ℕ
steps_left s =
    2 * (most_made s - length s.hub.history) + empty_places (drop 1 s.grips)
    + 2 * (s.rounds * length s.hub.setting.first - s.place) + first_is_full s.grips

-- how many picks take a device, give one back or make entries at most, with so many runs, devices,
-- probes of each device and rounds of the detector: two for each entry that a history has at most,
-- one for each run, and two for each device that the detector comes to
abbrev pub most_moves : ℕ → ℕ → ℕ → ℕ → ℕ
most_moves runs devices probes rounds =
    2 * most_entries runs devices probes + runs + 2 * (rounds * devices)

-- the picks that moved, and the steps that are left, are not more than that
abbrev pub MovesAreFew : {D : Type 0} → PlayerState D → Type 0
MovesAreFew s =
    s.moves + steps_left s
    ≤ most_moves (length s.hub.setting.runs) (length s.hub.setting.first) s.hub.rounds s.rounds

-- the actors that have not ended, ascending
abbrev pub are_live : {D : Type 0} → PlayerState D → List ActorId
are_live s = filter (λ a. not (is_ended s a)) (range_with_len 0 (length s.grips))

-- the bits of the word are the runs that have not ended, the run r the bit r - 1
abbrev pub AreLiveRuns : {D : Type 0} → ℕ → PlayerState D → Type 0
AreLiveRuns word s = (r : RunId) → 0 < r → has_run word r ≡ not (is_ended s r)

-- none of these hands holds a thing
abbrev pub HoldNothing : {A : Type 0} → List (Option A) → Type 0
HoldNothing {A} hands = (a : ActorId) (x : A) → slice_get hands a ≡ Some (Some x) → ⊥

-- a player of the hub, with an empty hand for each actor, at the start of its play
pub record PlayerIsOpened {D : Type 0} (hub : OpenHub D) (rounds : ℕ)
    (s : PlayerState D) : Type 0 where
  pub own : s.hub ≡ hub
  pub detector : s.rounds ≡ rounds
  pub start : play_of s 0 ≡ start_of hub.setting hub.rounds
  pub hands : HoldNothing s.grips

-- what stands of every player: what is kept of it, and what its hub tells
pub record PlayerStands {D : Type 0} (s : PlayerState D) : Type 0 where
  pub kept : PlayerIsKept s
  pub size : length s.hub.places ≡ length s.hub.setting.first
  pub few_runs : length s.hub.setting.runs ≤ most_runs
  pub grips : GripsFit (point_of (configuration_of s.hub))
  pub progress : SomeRunMoves (configuration_of s.hub)
  pub few_devices : length s.hub.setting.first ≤ most_devices
  pub bounded : IsBounded s.hub
