-- Runs that are found by their numbers.
use Rattle.room_hubs.proofs.Prelude.{Bool, Command, IsOwnRun, List, None, Option, RosterRun, Run, RunNo, Some, [], ap, arith, commands_of, common_steps, cross_at, cross_fault, crosses, crosses_rooms, false, get_or, get_or-map, home_run, if◌then◌else◌, length, length-map, map, nat_lt, option_map, plain_room, plain_run, position, refl, run_no, slice_get, slice_get-map, slice_get_past, slice_get_read, suc, sym, true, unwrap_or, zero, ℕ, ◌+◌, ◌-◌, ◌<◌, ◌∙◌, ◌≡◌, ◌≢◌, ◌≤◌}
use Rattle.room_hubs.specs.declared.rosters.RoomRoster.{RoomRoster}
use Rattle.room_hubs.specs.declared.splits.SplitFault.TheVariants.{CrossFollow, CrossRoom}

-- the commands of a run by a look at its place
pub commands_found : (runs : List RosterRun) (r : ℕ) (found : Option RosterRun) → r ≢ 0 → found ≡ slice_get runs (r - 1)
    → unwrap_or (option_map (λ run. run.routine.commands.items) found) [] ≡ commands_of (map plain_run runs) r
commands_found runs zero found some at = absurd (omega (arith, some))
commands_found runs (suc i) found some at =
    let place : suc i - 1 ≡ i = omega arith in
    let commands : Option Run → List Command = λ o. unwrap_or (option_map (λ run. run.commands) o) [] in
    seen found ∙ ap (λ o. commands (option_map plain_run o)) (at ∙ ap (slice_get runs) place) ∙ ap commands (sym (slice_get-map plain_run runs i))
  where
    seen : (o : Option RosterRun) → unwrap_or (option_map (λ run. run.routine.commands.items) o) [] ≡ unwrap_or (option_map (λ run. run.commands) (option_map plain_run o)) []
    seen None = refl
    seen (Some run) = refl

-- as the look tells it
pub looked_at : (runs : List RosterRun) (i : ℕ) (run : RosterRun) → true ≡ nat_lt i (length runs) → run ≡ get_or runs i run → Some run ≡ slice_get runs i
looked_at runs i run within at = sym (slice_get_read runs (length runs) i run refl inside at)
  where
    inside : i < length runs
    inside = grind (arith, common_steps)

pub looked_past : (runs : List RosterRun) (i : ℕ) → false ≡ nat_lt i (length runs) → None ≡ slice_get runs i
looked_past runs i past = sym (slice_get_past runs i beyond)
  where
    beyond : length runs ≤ i
    beyond = grind (arith, common_steps)

-- the home's number of a run of the room
pub home_run_at : (roster : RoomRoster) (r : ℕ) → IsOwnRun (plain_room roster) r → get_or roster.runs.items (r - 1) (run_no 0) ≡ run_no (home_run (plain_room roster) r)
home_run_at roster zero within = elim within [ ]
home_run_at roster (suc i) within =
    let place : suc i - 1 ≡ i = omega arith in
    let runs = roster.runs.items in
    ap (λ n. get_or runs n (run_no 0)) place ∙ ap run_no (sym (get_or-map (λ r. r.0) runs i (run_no 0) 0 (omega (arith, within, length-map runs (λ r. r.0)))))

-- the first run that crosses
pub fault_is : (room_of : List ℕ) (runs : List Run) (place : ℕ) (b : Bool) → Some place ≡ position (crosses room_of runs) runs
    → crosses_rooms room_of (commands_of runs (place + 1)) ≡ b
    → Some (if b then CrossRoom (run_no (place + 1)) else CrossFollow (run_no (place + 1))) ≡ cross_fault room_of runs
fault_is room_of runs place b at is =
    let next : place + 1 ≡ suc place = omega arith in
    ap (λ z. Some (if z then CrossRoom (run_no (place + 1)) else CrossFollow (run_no (place + 1)))) (sym is)
    ∙ ap (λ n. Some (if crosses_rooms room_of (commands_of runs n) then CrossRoom (run_no n) else CrossFollow (run_no n))) next
    ∙ ap (option_map (cross_at room_of runs)) at

pub no_fault : (room_of : List ℕ) (runs : List Run) → None ≡ position (crosses room_of runs) runs → None ≡ cross_fault room_of runs
no_fault room_of runs at = ap (option_map (cross_at room_of runs)) at

within_of : (i n : ℕ) → true ≡ nat_lt i n → i < n
within_of i n is = grind (arith, common_steps)

-- the home's number of a run that is found in its place
pub told_at : (runs seen : List RunNo) (r : ℕ) (n : RunNo) → seen ≡ runs → 1 ≤ r → true ≡ nat_lt (r - 1) (length seen) → n ≡ get_or seen (r - 1) n
    → n ≡ run_no (home_run (record { number = 0; devices = []; runs = map (λ (x : RunNo). x.0) runs; own_runs = [] }) r)
told_at runs seen zero n same low there at = absurd (omega (arith, low))
told_at runs seen (suc i) n same low there at =
    let e : suc i - 1 ≡ i = omega arith in
    let within : i < length runs = within_of i (length runs) (there ∙ ap (λ j. nat_lt j (length seen)) e ∙ ap (λ l. nat_lt i (length l)) same) in
    let found : n ≡ get_or runs i n = at ∙ ap (λ j. get_or seen j n) e ∙ ap (λ l. get_or l i n) same in
    found ∙ ap run_no (ap (λ (x : RunNo). x.0) (refl) ∙ sym (get_or-map (λ (x : RunNo). x.0) runs i n 0 within))
