-- The replay of a window, given what the devices tell: picks first, then draws until every actor
-- has ended.
use Rattle.command_rules.specs.Rosters.{command_at, device_no, is_run}
use Rattle.device_gate.specs.declared.slips.Told.{Told}
use Rattle.history_book.specs.Settings.{Setting}
use Rattle.home_types.specs.Numbers.{ActorId, DeviceId, Moment, RunId}
use Rattle.hub_core.specs.Steps.{Absent, Choice, HandsOut, Moves, Over, Waits, after_give, after_take, after_take_probe, at_moment, choice_of, give_entries, may_probe, opened}
use Rattle.lock_leasing.specs.Configurations.{Configuration, Grip, read_of}
use Rattle.lock_leasing.specs.Waits.{grip_wait}
use Rattle.lock_leasing.specs.declared.purposes.Purpose.TheVariants.{Commands, Probes, Undoes}
use Rattle.lock_leasing.specs.declared.purposes.Purpose.{Purpose}
use Rattle.run_replay.specs.declared.picked.Picked.TheVariants.{Made, Passed, Took, Waits as Waited}
use Rattle.run_replay.specs.declared.picked.Picked.{Picked}
use Rattle.seeded_draws.specs.Draws.{below, drawn}
use Rattle.std.specs.List.{range_with_len}
use Rattle.std.specs.Prelude.{Bool, List, Option, [], drop, false, filter, fold, if◌then◌else◌, is_none, is_some, length, nat_le, not, option_map, suc, take, true, unwrap_or, zero, ℕ, ◌%◌, ◌&&◌, ◌*◌, ◌++◌, ◌+◌, ◌==◌, ◌||◌, ◌∷◌, ◌≡◌}

-- a replay under way
pub record Play : Type 0 where
  pub configuration : Configuration
  -- the moment, which rises with the commands
  pub moment : Moment
  -- how many devices the detector has come to
  pub place : ℕ
  -- how many grips were acted on
  pub acts : ℕ
  -- how many picks took a device, gave one back or made entries
  pub moves : ℕ

-- what is fixed: the detector's rounds, and what each act is told
pub record Course : Type 0 where
  pub rounds : ℕ
  pub told : ℕ → Told

-- one pick: what it does, and the play after it
pub record Pick : Type 0 where
  pub picked : Picked
  pub next : Play

abbrev pub passes : Play → Pick
passes p = record { picked = Passed; next = p }

-- the device of which the actor holds the grip
abbrev pub gripped : Play → ActorId → Option DeviceId
gripped p a = grip_wait p.configuration.setting p.configuration.grips a

-- the detector comes to each device so often as there are rounds
abbrev pub all_rounds : Course → Play → ℕ
all_rounds course p = course.rounds * length p.configuration.setting.first

-- the detector has ended when its rounds are over and it holds no probe, a run when it has its end
abbrev pub is_actor_done : Course → Play → ActorId → Bool
is_actor_done course p zero = is_none (gripped p 0) && nat_le (all_rounds course p) p.place
is_actor_done course p (suc r) =
    not (is_run p.configuration.setting.runs (suc r))
    || is_some ((read_of p.configuration).run (suc r)).ended

-- by how much the moment rises when the grip is acted on
abbrev pub takes_of : Play → Grip → ℕ
takes_of p grip = by_purpose grip.purpose
  where
    by_purpose : Purpose → ℕ
    by_purpose (Commands k) = (command_at p.configuration.setting.runs grip.maker k).takes
    by_purpose (Undoes v) = 0
    by_purpose (Probes v) = 0

-- the holder of the device's grip acts, and gives it back
abbrev pub act_on : Course → Play → DeviceId → Grip → Pick
act_on course p d grip =
    record {
      picked =
          Made (give_entries p.configuration.setting (read_of p.configuration) d grip
          (course.told p.acts));
      next = record {
        configuration =
            after_give
            (if grip.maker == 0 then p.configuration else at_moment p.configuration moment) d grip
            (course.told p.acts);
        moment = moment;
        place = p.place;
        acts = p.acts + 1;
        moves = p.moves;
      };
    }
  where
    moment : Moment
    moment = p.moment + takes_of p grip

-- a grip that is out of the device
abbrev pub act_where_out : Course → Play → DeviceId → Pick
act_where_out course p d =
    unwrap_or (option_map (act_on course p d) (p.configuration.grips d)) (passes p)

-- what a pick does whose run takes this step
abbrev pub picked_by : Choice → Picked
picked_by Absent = Passed
picked_by (Over e entries) = Made entries
picked_by (Moves entries) = Made entries
picked_by (Waits why) = Waited why
picked_by (HandsOut d purpose) = Took (device_no d)

-- a run with no grip takes its step
abbrev pub run_takes : Play → RunId → Pick
run_takes p r = record {
  picked = picked_by (choice_of p.configuration r p.moment);
  next = record p { configuration = after_take p.configuration r p.moment };
}

-- the detector comes to the next device of its round
abbrev pub detector_takes : Play → Pick
detector_takes p =
    if may_probe p.configuration d then record {
      picked = Took (device_no d);
      next = record p { configuration = after_take_probe p.configuration d; place = p.place + 1 };
    } else passes (record p { place = p.place + 1 })
  where
    d : DeviceId
    d = p.place % length p.configuration.setting.first

-- an actor with no grip takes
abbrev pub actor_takes : Play → ActorId → Pick
actor_takes p zero = detector_takes p
actor_takes p (suc r) = run_takes p (suc r)

-- an actor with a grip acts and gives it back, one without takes
abbrev pub pick_live : Course → Play → ActorId → Pick
pick_live course p a =
    unwrap_or (option_map (act_where_out course p) (gripped p a)) (actor_takes p a)

-- it took a device, gave one back or made entries, if any
abbrev pub has_moved : Picked → Bool
has_moved Passed = false
has_moved (Made entries) = true
has_moved (Took d) = true
has_moved (Waited why) = false

-- how many picks have moved with this one
abbrev pub moves_after : Picked → ℕ → ℕ
moves_after picked moves = if has_moved picked then moves + 1 else moves

-- the pick is counted
abbrev pub counted_pick : Pick → Pick
counted_pick x =
    record { picked = x.picked; next = record x.next { moves = moves_after x.picked x.next.moves } }

-- one pick of an actor: a run, or 0 for the detector
abbrev pub pick : Course → Play → ActorId → Pick
pick course p a = if is_actor_done course p a then passes p else counted_pick (pick_live course p a)

-- picks, one after another
abbrev pub play : Course → Play → List ActorId → Play
play course p picks = fold (λ q a. (pick course q a).next) p picks

-- Until every actor has ended

abbrev pub is_waiting_pick : Picked → Bool
is_waiting_pick Passed = false
is_waiting_pick (Made entries) = false
is_waiting_pick (Took d) = false
is_waiting_pick (Waited why) = true

-- the actors that have not ended, ascending
abbrev pub actors : Course → Play → List ActorId
actors course p =
    filter (λ a. not (is_actor_done course p a))
    (range_with_len 0 (length p.configuration.setting.runs + 1))

-- picks from these in turn, until one does not wait
abbrev pub pick_first : Course → Play → List ActorId → Play
pick_first course p [] = p
pick_first course p (a ∷ others) =
    elim (is_waiting_pick (pick course p a).picked) [
      | true ↦ pick_first course (pick course p a).next others
      | false ↦ (pick course p a).next
    ]

-- from this place of the list on, in cyclic order
abbrev pub from_place : ℕ → List ActorId → List ActorId
from_place k xs = drop k xs ++ take k xs

-- a replay that goes on by draws
pub record DrawnPlay : Type 0 where
  pub play : Play
  pub state : ℕ

-- one draw: a place in the list of the actors that have not ended, from which they are picked
abbrev pub draw_once : Course → DrawnPlay → DrawnPlay
draw_once course s = from_actors (actors course s.play)
  where
    from_actors : List ActorId → DrawnPlay
    from_actors [] = s
    from_actors (a ∷ others) = record {
      play =
          pick_first course s.play
          (from_place (below (drawn s.state) (length (a ∷ others))) (a ∷ others));
      state = drawn s.state;
    }

-- so many draws
abbrev pub draw_times : Course → ℕ → DrawnPlay → DrawnPlay
draw_times course zero s = s
draw_times course (suc k) s = draw_times course k (draw_once course s)

abbrev pub start_of : Setting → ℕ → Play
start_of w rounds =
    record { configuration = opened w rounds; moment = 0; place = 0; acts = 0; moves = 0 }

-- a play goes on by these picks, and then by so many draws of the generator from this seed
abbrev pub replay_from : Course → Play → List ActorId → ℕ → ℕ → Play
replay_from course p picks seed draws =
    (draw_times course draws (record { play = play course p picks; state = seed })).play

-- the window replayed: its picks, and then so many draws of the generator from this seed
abbrev pub replay_of : Course → Setting → List ActorId → ℕ → ℕ → Play
replay_of course w picks seed draws = replay_from course (start_of w course.rounds) picks seed draws

-- the play is the replay of the window with so many probes of each device, in so many rounds of the
-- detector, for what the devices told: after some draws every actor has ended
pub record IsReplay (w : Setting) (probes rounds : ℕ) (picks : List ActorId) (seed : ℕ)
    (p : Play) : Type 0 where
  pub told : ℕ → Told
  pub draws : ℕ
  pub over : actors (record { rounds = rounds; told = told }) p ≡ []
  pub replayed : replay_from (record { rounds = rounds; told = told })
      (start_of w probes) picks seed draws ≡ p
