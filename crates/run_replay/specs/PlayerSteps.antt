-- What one step of a player is, and one pick.
use Rattle.device_states.specs.Devices.{Plan, Shown}
use Rattle.home_types.specs.Numbers.{ActorId, DeviceId}
use Rattle.hub_core.specs.HubCalls.{SameWindow}
use Rattle.run_replay.specs.Players.{HavePlans, PlayerState, is_ended, play_of, steps_left}
use Rattle.run_replay.specs.Playing.{IsPicked, IsStepped}
use Rattle.run_replay.specs.Replays.{is_waiting_pick, moves_after}
use Rattle.run_replay.specs.declared.picked.Picked.{Picked}
use Rattle.std.specs.Prelude.{false, length, true, ℕ, ◌<◌, ◌≡◌, ◌≢◌}

-- the player is in the same window, its detector comes as often, and the devices have their plans
pub record PlayerStays {D : Type 0} (shows : D → Shown) (s t : PlayerState D) : Type 0 where
  pub window : SameWindow s.hub t.hub
  pub rounds : t.rounds ≡ s.rounds
  pub plans : (plans : DeviceId → Plan) → HavePlans shows plans s → HavePlans shows plans t

-- the actor, which had not ended, was stepped and did this, which is not counted yet: it is its
-- pick in the play, no other actor ends by it, and fewer steps are left; but a wait leaves as many,
-- and ends not even its own actor
pub record PlayerSteps {D : Type 0} (shows : D → Shown) (s : PlayerState D) (a : ActorId)
    (picked : Picked) (t : PlayerState D) : Type 0 where
  pub stepped : (acts : ℕ) → (later : ℕ)
      × IsStepped s.rounds a (play_of s acts) picked (play_of t later)
  pub stays : PlayerStays shows s t
  pub moves : t.moves ≡ s.moves
  pub hands : length t.grips ≡ length s.grips
  pub others : (q : ActorId) → q ≢ a → is_ended t q ≡ is_ended s q
  pub fewer : is_waiting_pick picked ≡ false → steps_left t < steps_left s
  pub left : is_waiting_pick picked ≡ true → steps_left t ≡ steps_left s
  pub waiting : is_waiting_pick picked ≡ true → is_ended t a ≡ is_ended s a

-- the actor was picked, and did this: it is one pick of the play, and counted where it moved; no
-- other actor ends by it, and one that waits has not ended by it; fewer steps are left where an
-- actor that had not ended did not wait
pub record PlayerPicks {D : Type 0} (shows : D → Shown) (s : PlayerState D) (a : ActorId)
    (picked : Picked) (t : PlayerState D) : Type 0 where
  pub picks : (acts : ℕ) → (later : ℕ)
      × IsPicked s.rounds a (play_of s acts) picked (play_of t later)
  pub stays : PlayerStays shows s t
  pub moves : t.moves ≡ moves_after picked s.moves
  pub fewer : is_waiting_pick picked ≡ false → is_ended s a ≡ false
      → steps_left t < steps_left s
  pub hands : length t.grips ≡ length s.grips
  pub others : (q : ActorId) → q ≢ a → is_ended t q ≡ is_ended s q
  pub over : is_ended s a ≡ true → is_ended t a ≡ true
  pub waiting : is_waiting_pick picked ≡ true → is_ended t a ≡ is_ended s a
