-- How a play goes on, for what the devices tell meanwhile.
use Rattle.device_gate.specs.declared.slips.Told.{Told}
use Rattle.home_types.specs.Numbers.{ActorId}
use Rattle.run_replay.specs.Replays.{Course, Play, actors, draw_times, is_waiting_pick, pick, pick_first, pick_live, play}
use Rattle.run_replay.specs.declared.picked.Picked.{Picked}
use Rattle.std.specs.Prelude.{Bool, List, Some, [], length, slice_get, ℕ, ◌+◌, ◌≡◌}

-- the course tells these, act after act, from the act of this number on
abbrev pub Tells : Course → ℕ → List Told → Type 0
Tells course from told = (k : ℕ) (t : Told) → slice_get told k ≡ Some t → course.told (from + k) ≡ t

-- the play goes on so from p to q: some devices told something, and in each course that tells it
-- the step leads there
pub record GoesOn (rounds : ℕ) (step : Course → Play → Play) (p q : Play) : Type 0 where
  pub told : List Told
  pub acts : q.acts ≡ p.acts + length told
  pub leads : (course : Course) → course.rounds ≡ rounds → Tells course p.acts told
      → step course p ≡ q

-- the actor was picked, and did this
pub record IsPicked (rounds : ℕ) (a : ActorId) (p : Play) (picked : Picked)
    (q : Play) : Type 0 where
  pub told : List Told
  pub acts : q.acts ≡ p.acts + length told
  pub leads : (course : Course) → course.rounds ≡ rounds → Tells course p.acts told
      → pick course p a ≡ record { picked = picked; next = q }

-- the actor was picked in the play that it is by so many acts, and waited or did not
pub record HasPicked (rounds : ℕ) (a : ActorId) (before : ℕ → Play) (waited : Bool)
    (after : ℕ → Play) : Type 0 where
  pub picked : Picked
  pub waits_so : is_waiting_pick picked ≡ waited
  pub picks : (acts : ℕ) → (later : ℕ) × IsPicked rounds a (before acts) picked (after later)

-- the actor, which has not ended, was picked, and did this; the pick is not counted yet
pub record IsStepped (rounds : ℕ) (a : ActorId) (p : Play) (picked : Picked)
    (q : Play) : Type 0 where
  pub told : List Told
  pub acts : q.acts ≡ p.acts + length told
  pub leads : (course : Course) → course.rounds ≡ rounds → Tells course p.acts told
      → pick_live course p a ≡ record { picked = picked; next = q }

-- these actors were picked, one after another
abbrev pub ArePicked : ℕ → List ActorId → Play → Play → Type 0
ArePicked rounds picks p q = GoesOn rounds (λ course x. play course x picks) p q

-- after some draws of the generator from this seed every actor has ended
pub record IsFinished (rounds seed : ℕ) (p q : Play) : Type 0 where
  pub draws : ℕ
  pub drawn : GoesOn rounds
      (λ course x. (draw_times course draws (record { play = x; state = seed })).play) p q
  pub over : (course : Course) → course.rounds ≡ rounds → actors course q ≡ []

-- of these actors the first ones waited, and these others are left to be picked
pub record IsTried (rounds : ℕ) (all left : List ActorId) (p q : Play) : Type 0 where
  pub told : List Told
  pub acts : q.acts ≡ p.acts + length told
  pub leads : (course : Course) → course.rounds ≡ rounds → Tells course p.acts told
      → pick_first course p all ≡ pick_first course q left

-- so many draws lead from this seed to this state of the generator
pub record IsDrawn (rounds seed draws : ℕ) (p q : Play) (state : ℕ) : Type 0 where
  pub told : List Told
  pub acts : q.acts ≡ p.acts + length told
  pub leads : (course : Course) → course.rounds ≡ rounds → Tells course p.acts told
      → draw_times course draws (record { play = p; state = seed })
      ≡ record { play = q; state = state }
