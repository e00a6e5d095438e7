-- Room in a lineage table for a run that joins the window, made command after command.
use Rattle.window_order.proofs.Prelude.{All, Bool, Command, LineageState, List, Run, [], among_more, ap, arith, differ, eqb-true, false, get_or, get_or-set_other, if◌then◌else◌, is_among, is_on, length, lineage_at, list_any, no_lineage, refl, sym, take_all, true, with_lineage, with_more_room, ℕ, ◌+◌, ◌<◌, ◌==◌, ◌||◌, ◌∙◌, ◌≡◌, ◌≤◌}
use Rattle.std.proofs.Math.Bool.{or-false, or-true}
use Rattle.window_order.proofs.NotedAnswers.{length_set, lineage_set}
use Rattle.window_order.specs.Joins.{HasMoreRoom, HasRoomFor}

abbrev pub with_room_if : Bool → LineageState → LineageState
with_room_if b s = if b then with_more_room s else s

-- the devices of the first so many commands have room for one access more
pub record HasRoomUpTo (k : ℕ) (commands : List Command) (first now : List LineageState) : Type 0 where
  pub size : length now ≡ length first
  pub each : (d : ℕ) → lineage_at now d ≡ with_room_if (is_among d k commands) (lineage_at first d)

pub room_none : (commands : List Command) (table : List LineageState) → HasRoomUpTo 0 commands table table
room_none commands table = record { size = refl; each = λ d. refl }

pub homed_at : (k : ℕ) (commands : List Command) (first now : List LineageState) (e : Command) → HasRoomUpTo k commands first now → All (λ c. c.device.0 < length first) commands → k < length commands → (get_or commands k e).device.0 < length now
homed_at k commands first now e so homed within = let there = homed k e within in let size = so.size in omega (arith, there, size)

-- room is made with the first command on a device
pub room_made : (k : ℕ) (commands : List Command) (first now later : List LineageState) (e : Command) → HasRoomUpTo k commands first now → k < length commands → (get_or commands k e).device.0 < length first
    → is_among (get_or commands k e).device.0 k commands ≡ false → later ≡ with_lineage now (get_or commands k e).device.0 with_more_room → HasRoomUpTo (k + 1) commands first later
room_made k commands first now later e so within homed none made = record {
  size = ap (λ (t : List LineageState). length t) made ∙ length_set now c.device.0 with_more_room ∙ so.size;
  each = λ d. ap (λ (t : List LineageState). lineage_at t d) made ∙ each_at d (c.device.0 == d) refl;
}
  where
    c : Command
    c = get_or commands k e

    among : (d : ℕ) (b : Bool) → (c.device.0 == d) ≡ b → is_among d (k + 1) commands ≡ (is_among d k commands || b)
    among d b h = among_more d k commands e within ∙ ap (λ x. is_among d k commands || x) h

    here : lineage_at (with_lineage now c.device.0 with_more_room) c.device.0 ≡ with_more_room (lineage_at first c.device.0)
    here =
        lineage_set now c.device.0 with_more_room (let size = so.size in omega (arith, homed, size))
        ∙ ap with_more_room (so.each c.device.0 ∙ ap (λ b. with_room_if b (lineage_at first c.device.0)) none)

    each_at : (d : ℕ) (b : Bool) → (c.device.0 == d) ≡ b → lineage_at (with_lineage now c.device.0 with_more_room) d ≡ with_room_if (is_among d (k + 1) commands) (lineage_at first d)
    each_at d true h =
        ap (lineage_at (with_lineage now c.device.0 with_more_room)) (sym (eqb-true c.device.0 d h))
        ∙ here
        ∙ ap (λ x. with_more_room (lineage_at first x)) (eqb-true c.device.0 d h)
        ∙ ap (λ b. with_room_if b (lineage_at first d)) (sym (among d true h ∙ or-true (is_among d k commands)))
    each_at d false h =
        get_or-set_other now c.device.0 d (with_more_room (lineage_at now c.device.0)) no_lineage (differ c.device.0 d h)
        ∙ so.each d
        ∙ ap (λ b. with_room_if b (lineage_at first d)) (sym (among d false h ∙ or-false (is_among d k commands)))

-- .. and with no other one
pub room_there : (k : ℕ) (commands : List Command) (first now : List LineageState) (e : Command) → HasRoomUpTo k commands first now → k < length commands → is_among (get_or commands k e).device.0 k commands ≡ true → HasRoomUpTo (k + 1) commands first now
room_there k commands first now e so within some = record {
  size = so.size;
  each = λ d. so.each d ∙ ap (λ b. with_room_if b (lineage_at first d)) (sym (among_more d k commands e within ∙ same d (c.device.0 == d) refl));
}
  where
    c : Command
    c = get_or commands k e

    same : (d : ℕ) (b : Bool) → (c.device.0 == d) ≡ b → (is_among d k commands || (c.device.0 == d)) ≡ is_among d k commands
    same d true h =
        let there : is_among d k commands ≡ true = ap (λ x. is_among x k commands) (sym (eqb-true c.device.0 d h)) ∙ some in
        ap (λ x. x || (c.device.0 == d)) there ∙ sym there
    same d false h = ap (λ x. is_among d k commands || x) h ∙ or-false (is_among d k commands)

-- so the table is as it was, but for more room
pub room_left : (k : ℕ) (commands : List Command) (first now : List LineageState) → HasRoomUpTo k commands first now → HasMoreRoom first now
room_left k commands first now so = record {
  size = so.size;
  room = λ d. (with_room_if (is_among d k commands) (lineage_at first d)).room;
  rest = λ d lt. so.each d ∙ as_it_was (is_among d k commands) (lineage_at first d);
  more = λ d lt. no_less (is_among d k commands) (lineage_at first d);
}
  where
    as_it_was : (b : Bool) (s : LineageState) → with_room_if b s ≡ record s { room = (with_room_if b s).room }
    as_it_was true s = refl
    as_it_was false s = refl

    no_less : (b : Bool) (s : LineageState) → s.room ≤ (with_room_if b s).room
    no_less true s = omega arith
    no_less false s = omega arith

-- .. as it is before the first
pub room_as_it_was : (table : List LineageState) → HasMoreRoom table table
room_as_it_was table = room_left 0 [] table table (room_none [] table)

-- .. and behind the last command each device of the run has its room
pub room_whole : (k : ℕ) (q : Run) (first now : List LineageState) → HasRoomUpTo k q.commands first now → length q.commands ≤ k → HasRoomFor q first now
room_whole k q first now so end = record {
  size = so.size;
  room = λ d. (with_room_if (list_any (is_on d) q.commands) (lineage_at first d)).room;
  rest = λ d lt. so.each d ∙ ap (λ b. with_room_if b (lineage_at first d)) (all d) ∙ as_it_was (list_any (is_on d) q.commands) (lineage_at first d);
  enough = λ d lt. enough (list_any (is_on d) q.commands) (lineage_at first d);
}
  where
    all : (d : ℕ) → is_among d k q.commands ≡ list_any (is_on d) q.commands
    all d = ap (list_any (is_on d)) (take_all k q.commands end)

    as_it_was : (b : Bool) (s : LineageState) → with_room_if b s ≡ record s { room = (with_room_if b s).room }
    as_it_was true s = refl
    as_it_was false s = refl

    enough : (b : Bool) (s : LineageState) → s.room + (if b then 1 else 0) ≤ (with_room_if b s).room
    enough true s = omega arith
    enough false s = omega arith
