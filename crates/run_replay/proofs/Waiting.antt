-- A pick that waits changes no more than the last moment.
use Rattle.run_replay.proofs.Prelude.{Absent, Bool, Choice, Configuration, Course, Grip, HandsOut, Made, Moves, None, Option, Over, Passed, Pick, Picked, Play, Some, Took, Waits, act_on, act_where_out, actor_takes, after_choice, after_take_probe, ap, at_moment, choice_of, counted_pick, detector_takes, device_no, false, gripped, if◌then◌else◌, is_actor_done, is_waiting_pick, length, may_probe, moves_after, option_map, passes, pick, pick_live, picked_by, refl, run_takes, suc, true, unwrap_or, zero, ℕ, ◌%◌, ◌+◌, ◌∙◌, ◌≡◌}
use Rattle.run_replay.specs.declared.picked.Picked.TheVariants.{Waits as Waited}

-- the play after a pick that waits
abbrev pub waited : Play → Play
waited p = record p { configuration = at_moment p.configuration p.moment }

-- a choice that is picked as a wait changes nothing
wait_changes_nothing : (s : Configuration) (r : ℕ) (c : Choice) → is_waiting_pick (picked_by c) ≡ true → after_choice s r c ≡ s
wait_changes_nothing s r Absent e = absurd (cc)
wait_changes_nothing s r (Over x entries) e = absurd (cc)
wait_changes_nothing s r (Moves entries) e = absurd (cc)
wait_changes_nothing s r (Waits why) e = refl
wait_changes_nothing s r (HandsOut d purpose) e = absurd (cc)

take_waits : (p : Play) (r : ℕ) → is_waiting_pick (run_takes p r).picked ≡ true → (run_takes p r).next ≡ waited p
take_waits p r e = ap (λ c. record p { configuration = c }) (wait_changes_nothing (at_moment p.configuration p.moment) r (choice_of p.configuration r p.moment) e)

pub detector_never_waits : (p : Play) → is_waiting_pick (detector_takes p).picked ≡ false
detector_never_waits p =
    elim (may_probe p.configuration (p.place % length p.configuration.setting.first)) as (λ b. is_waiting_pick (if b then record {
      picked = Took (device_no (p.place % length p.configuration.setting.first));
      next = record p { configuration = after_take_probe p.configuration (p.place % length p.configuration.setting.first); place = p.place + 1 };
    } else passes (record p { place = p.place + 1 })).picked ≡ false) [ true ↦ refl | false ↦ refl ]

pub act_never_waits : (course : Course) (p : Play) (d : ℕ) (o : Option Grip) → is_waiting_pick (unwrap_or (option_map (act_on course p d) o) (passes p)).picked ≡ false
act_never_waits course p d None = refl
act_never_waits course p d (Some grip) = refl

actor_waits : (p : Play) (a : ℕ) → is_waiting_pick (actor_takes p a).picked ≡ true → (actor_takes p a).next ≡ waited p
actor_waits p zero e = absurd (let never = detector_never_waits p in cc)
actor_waits p (suc r) e = take_waits p (suc r) e

-- what a pick waits for, where the actor has not ended, and holds the grip of this device, or none
live_waits : (course : Course) (p : Play) (a : ℕ) (o : Option ℕ) → is_waiting_pick (unwrap_or (option_map (act_where_out course p) o) (actor_takes p a)).picked ≡ true → (unwrap_or (option_map (act_where_out course p) o) (actor_takes p a)).next ≡ waited p
live_waits course p a None e = actor_waits p a e
live_waits course p a (Some d) e = absurd (let never = act_never_waits course p d (p.configuration.grips d) in cc)

-- a wait is not counted
waits_uncounted : (x : Pick) → is_waiting_pick x.picked ≡ true → (counted_pick x).next ≡ x.next
waits_uncounted x e = by_picked x.picked e
  where
    by_picked : (picked : Picked) → is_waiting_pick picked ≡ true → record x.next { moves = moves_after picked x.next.moves } ≡ x.next
    by_picked Passed e = refl
    by_picked (Made entries) e = absurd (cc)
    by_picked (Took d) e = absurd (cc)
    by_picked (Waited why) e = refl

by_end : (course : Course) (p : Play) (a : ℕ) (b : Bool) → is_waiting_pick (if b then passes p else counted_pick (pick_live course p a)).picked ≡ true → (if b then passes p else counted_pick (pick_live course p a)).next ≡ waited p
by_end course p a true e = absurd (cc)
by_end course p a false e = waits_uncounted (pick_live course p a) e ∙ live_waits course p a (gripped p a) e

-- a pick that waits leaves the play but for its last moment
pub wait_keeps : (course : Course) (p : Play) (a : ℕ) → is_waiting_pick (pick course p a).picked ≡ true → (pick course p a).next ≡ waited p
wait_keeps course p a e = by_end course p a (is_actor_done course p a) e
