use Rattle.room_hubs.proofs.Prelude.{Bool, List, Run, [], ap, append-nil, arith, commands_of, false, filter, length, length-map, map, map-append, numbers_of_runs, plain_run, range_with_len, rules, run_no, run_room, sym, take, true, ℕ, ◌++◌, ◌+◌, ◌<◌, ◌==◌, ◌∙◌, ◌∷◌, ◌≡◌}
use Rattle.room_hubs.proofs.Loops.{all_numbers, next_number}
use Rattle.room_hubs.proofs.splits.runs_in.Goals as goal
use Rattle.room_hubs.proofs.splits.runs_in.Goals.{else-here-room, then-here-room+in_ok-push}

pub runs-preserved : goal.runs-preserved
runs-preserved c =
    let room_of = c.args.room_of.now in
    let runs : List Run = map plain_run c.args.roster.now in
    let p : ℕ → Bool = λ r. run_room room_of (commands_of runs r) == c.args.room in
    let n = length c.args.roster.now in
    let i = c.runs.place in
    let within : i < n = omega (arith, c.runs-test.true) in
    let same : 1 + i ≡ i + 1 = omega arith in
    let here : run_room room_of (commands_of runs (i + 1)) ≡ c.run_room-here.result = sym (c.run_room-here.ensures ∙ ap (run_room room_of) c.commands_of.ensures) in
    elim c.if-here-room.branch [
      | then-here-room+in_ok-push w ↦
          let test : (c.run_room-here.result == c.args.room) ≡ true = search rules in
          let is : p (i + 1) ≡ true = ap (λ k. k == c.args.room) here ∙ test in
          ap (λ v. numbers_of_runs v.items) w.runs-is ∙ ap numbers_of_runs w.in_ok-push.ensures.ok
          ∙ map-append (λ r. r.0) c.runs.runs.items (run_no (i + 1) ∷ [])
          ∙ (λ j. c.runs.invariant j ++ (i + 1) ∷ []) ∙ sym (next_number p 1 n i (i + 1) true within same is)
      | else-here-room w ↦
          let test : (c.run_room-here.result == c.args.room) ≡ false = search rules in
          let is : p (i + 1) ≡ false = ap (λ k. k == c.args.room) here ∙ test in
          ap (λ v. numbers_of_runs v.items) w.runs-is ∙ c.runs.invariant ∙ sym (next_number p 1 n i (i + 1) false within same is ∙ append-nil _)
    ]

pub returns : goal.returns
returns c =
    let runs : List Run = map plain_run c.args.roster.now in
    let p : ℕ → Bool = λ r. run_room c.args.room_of.now (commands_of runs r) == c.args.room in
    let n = length c.args.roster.now in
    let all : c.runs.place ≡ n = omega (arith, c.runs-test.false, c.runs.auto.place-end) in
    c.runs.invariant ∙ ap (λ m. filter p (take m (range_with_len 1 n))) all ∙ all_numbers p 1 n
    ∙ ap (λ m. filter p (range_with_len 1 m)) (sym (length-map c.args.roster.now plain_run))
