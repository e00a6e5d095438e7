-- A pick that moved is counted, and no more are counted than steps were taken.
use Rattle.run_replay.proofs.Prelude.{HoldNothing, IsPicked, IsStepped, List, Made, MovesAreFew, None, Option, Passed, Picked, PlayerIsKept, PlayerStands, PlayerState, SameWindow, Some, Took, [], ap, arith, drop, empty_places, false, first_is_full, is_ended, is_waiting_pick, length, most_made, most_moves, moves_after, mul-le-mul, play_of, refl, steps_left, subst, sym, true, with_moves, ℕ, ◌*◌, ◌+◌, ◌-◌, ◌<◌, ◌^◌, ◌∙◌, ◌∷◌, ◌≡◌, ◌≤◌}
use Rattle.run_replay.proofs.Picking.{ended_is, stepped_is_picked}
use Rattle.run_replay.specs.declared.picked.Picked.TheVariants.{Waits as Waited}

-- what is kept of a player does not ask how many picks moved
pub moves_kept : {D : Type 0} (moves : ℕ) (s : PlayerState D) → PlayerIsKept s → PlayerIsKept (with_moves moves s)
moves_kept moves s kept = record {
  actors = kept.actors;
  makers = kept.makers;
  held = kept.held;
  out = λ d slip task at. let hand = kept.out d slip task at in record { grip = hand.grip; there = hand.there; own = hand.own; number = hand.number };
  early = kept.early;
  rounds = kept.rounds;
  place = kept.place;
}

-- a step that was counted is a pick
pub counted_now : {D : Type 0} (now mid new : PlayerState D) (a : ℕ) (picked : Picked) → PlayerStands now → is_ended now a ≡ false → ((acts : ℕ) → (later : ℕ) × IsStepped now.rounds a (play_of now acts) picked (play_of mid later)) → new ≡ with_moves (moves_after picked mid.moves) mid
    → (acts : ℕ) → (later : ℕ) × IsPicked now.rounds a (play_of now acts) picked (play_of new later)
counted_now {D = D} now mid new a picked stands going steps is acts =
    let step = steps acts in (
      step.0,
      subst (λ (x : PlayerState D). IsPicked now.rounds a (play_of now acts) picked (play_of x step.0)) (sym is)
          (stepped_is_picked now.rounds a (play_of now acts) (play_of mid step.0) picked (λ course same. ended_is course now acts a stands.kept stands.size same ∙ going) step.1),
    )

-- Within the bound

same_bound : {D : Type 0} (s t : PlayerState D) → SameWindow s.hub t.hub → t.rounds ≡ s.rounds → most_moves (length t.hub.setting.runs) (length t.hub.setting.first) t.hub.rounds t.rounds ≡ most_moves (length s.hub.setting.runs) (length s.hub.setting.first) s.hub.rounds s.rounds
same_bound s t window rounds =
    ap (λ w. most_moves (length w.runs) (length w.first) t.hub.rounds t.rounds) window.setting
    ∙ ap (λ n. most_moves (length s.hub.setting.runs) (length s.hub.setting.first) n t.rounds) window.rounds
    ∙ ap (λ n. most_moves (length s.hub.setting.runs) (length s.hub.setting.first) s.hub.rounds n) rounds

-- a pick that moves leaves fewer steps, and one that waits leaves as many
still_few : (before after left now bound bound' : ℕ) (picked : Picked) → after ≡ before → (is_waiting_pick picked ≡ false → now < left) → (is_waiting_pick picked ≡ true → now ≡ left) → bound' ≡ bound → before + left ≤ bound → moves_after picked after + now ≤ bound'
still_few before after left now bound bound' Passed moves fewer same is low = let less = fewer refl in omega (arith, moves, less, is, low)
still_few before after left now bound bound' (Made entries) moves fewer same is low = let less = fewer refl in omega (arith, moves, less, is, low)
still_few before after left now bound bound' (Took d) moves fewer same is low = let less = fewer refl in omega (arith, moves, less, is, low)
still_few before after left now bound bound' (Waited why) moves fewer same is low = let as_many = same refl in omega (arith, moves, as_many, is, low)

pub few_after : {D : Type 0} (now mid new : PlayerState D) (picked : Picked) → SameWindow now.hub mid.hub → mid.rounds ≡ now.rounds → mid.moves ≡ now.moves → (is_waiting_pick picked ≡ false → steps_left mid < steps_left now) → (is_waiting_pick picked ≡ true → steps_left mid ≡ steps_left now)
    → new ≡ with_moves (moves_after picked mid.moves) mid → MovesAreFew now → MovesAreFew new
few_after {D = D} now mid new picked window rounds moves fewer same is few =
    subst (λ (x : PlayerState D). MovesAreFew x) (sym is)
    (still_few now.moves mid.moves (steps_left now) (steps_left mid)
    (most_moves (length now.hub.setting.runs) (length now.hub.setting.first) now.hub.rounds now.rounds)
    (most_moves (length mid.hub.setting.runs) (length mid.hub.setting.first) mid.hub.rounds mid.rounds) picked moves fewer same
    (same_bound now mid window rounds) few)

low_sum : (moves most made empty all place full runs : ℕ) → moves + (2 * (most - made) + empty + 2 * (all - place) + full) ≤ 2 * most + runs + 2 * all → made ≤ most → place ≤ all → made ≤ 59904 → runs ≤ 64 → all ≤ 4294967296 * 256 → moves < 2 ^ 63
low_sum moves most made empty all place full runs few less within entries low far = omega (arith, few, less, within, entries, low, far)

-- few moves are not near the end of 64 bits
pub moves_low : {D : Type 0} (s t : PlayerState D) → t.moves ≡ s.moves → PlayerStands s → MovesAreFew s → t.moves < 2 ^ 63
moves_low s t same stands few =
    let rounds = stands.kept.rounds in
    let low : s.rounds ≤ 4294967296 = omega (arith, rounds) in
    subst (λ n. n < 2 ^ 63) (sym same)
    (low_sum s.moves (most_made s) (length s.hub.history) (empty_places (drop 1 s.grips)) (s.rounds * length s.hub.setting.first) s.place (first_is_full s.grips) (length s.hub.setting.runs) few stands.bounded.history stands.kept.place stands.bounded.few_entries stands.few_runs
    (mul-le-mul low stands.few_devices))

-- At the opening

few_empty : {A : Type 0} (xs : List (Option A)) → empty_places xs ≤ length xs
few_empty [] = omega arith
few_empty (None ∷ xs) = let h = few_empty xs in omega (arith, h)
few_empty (Some x ∷ xs) = let h = few_empty xs in omega (arith, h)

few_behind : {A : Type 0} (xs : List (Option A)) → empty_places (drop 1 xs) ≤ length xs - 1
few_behind [] = omega arith
few_behind (x ∷ xs) = let h = few_empty xs in omega (arith, h)

none_first : {A : Type 0} (xs : List (Option A)) → HoldNothing xs → first_is_full xs ≡ 0
none_first [] none = refl
none_first (None ∷ xs) none = refl
none_first (Some x ∷ xs) none = absurd (none 0 x refl)

few_sum : (moves most made empty all place full runs hands : ℕ) → moves ≡ 0 → empty ≤ hands - 1 → hands ≡ runs + 1 → full ≡ 0 → moves + (2 * (most - made) + empty + 2 * (all - place) + full) ≤ 2 * most + runs + 2 * all
few_sum moves most made empty all place full runs hands none low size free = omega (arith, none, low, size, free)

-- none has moved yet
pub few_at_first : {D : Type 0} (s : PlayerState D) → PlayerIsKept s → s.moves ≡ 0 → HoldNothing s.grips → MovesAreFew s
few_at_first s kept none hands = few_sum s.moves (most_made s) (length s.hub.history) (empty_places (drop 1 s.grips)) (s.rounds * length s.hub.setting.first) s.place (first_is_full s.grips) (length s.hub.setting.runs) (length s.grips) none (few_behind s.grips) kept.actors (none_first s.grips hands)

-- the moves alone
pub moves_within : {D : Type 0} (s : PlayerState D) (moves : ℕ) → moves ≡ s.moves → MovesAreFew s → moves ≤ most_moves (length s.hub.setting.runs) (length s.hub.setting.first) s.hub.rounds s.rounds
moves_within s moves same few = part moves s.moves (steps_left s) _ same few
  where
    part : (moves own left bound : ℕ) → moves ≡ own → own + left ≤ bound → moves ≤ bound
    part moves own left bound same few = omega (arith, same, few)

-- a window of one run on one device, without probes, has at most 267 moves
pub one_run_moves : most_moves 1 1 0 0 ≡ 267
one_run_moves = refl
