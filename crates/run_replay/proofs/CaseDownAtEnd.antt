-- The replay of the case down-at-end: given what its devices told, it is the history that was worked out for it.
use Rattle.run_replay.proofs.Prelude.{Aborted, Always, Arrived, Did, Died, Doomed, DownAtEnd, Ended, Fcfs, Fell, Fine, List, None, Partitioned, Placed, Range, Set, Setting, States, Told, Undid, Worked, [], actors, device_no, false, refl, replay_of, run_no, slice_index_or, split_of, true, ◌∷◌, ◌≡◌}

abbrev pub setting0 : Setting
setting0 = record {
  runs = (record {
    commands =
        (record { device = device_no 0; job = Set 1; when = Always; must = true; ms = 100; takes = 100 }
        ∷ record { device = device_no 1; job = Set 1; when = Always; must = true; ms = 100; takes = 100 } ∷ []);
    follows = None;
  } ∷ []);
  mode = record { model = Partitioned; scheduler = Fcfs };
  kinds = ((States 2) ∷ (States 2) ∷ (States 2) ∷ (Range 10 30) ∷ []);
  first = (record { value = 0; up = true } ∷ record { value = 0; up = true } ∷ record { value = 0; up = true } ∷ record { value = 18; up = true } ∷ []);
}

abbrev pub told0 : List Told
told0 = (Worked ∷ Died ∷ Worked ∷ Worked ∷ Worked ∷ Worked ∷ Worked ∷ [])

replay0 : (replay_of (record { rounds = 1; told = λ i. slice_index_or told0 i Died }) setting0 (1 ∷ 1 ∷ 1 ∷ 1 ∷ 0 ∷ 0 ∷ 1 ∷ 1 ∷ 1 ∷ 1 ∷ 1 ∷ 1 ∷ 1 ∷ []) 1
    6).configuration.history ≡ (record { maker = 1; entry = Arrived (run_no 1) 0 } ∷ record { maker = 1; entry = Placed (run_no 1) 0 0 }
    ∷ record { maker = 1; entry = Did (run_no 1) 0 Fine } ∷ record { maker = 0; entry = Fell (device_no 0) }
    ∷ record { maker = 1; entry = Did (run_no 1) 1 Fine } ∷ record { maker = 1; entry = Doomed (run_no 1) (DownAtEnd (device_no 0)) }
    ∷ record { maker = 1; entry = Undid (run_no 1) (device_no 0) false } ∷ record { maker = 1; entry = Undid (run_no 1) (device_no 1) true }
    ∷ record { maker = 1; entry = Ended (run_no 1) (Aborted (DownAtEnd (device_no 0))) } ∷ [])
unfolding split_of
replay0 = refl

over0 : actors (record { rounds = 1; told = λ i. slice_index_or told0 i Died }) (replay_of (record { rounds = 1; told = λ i. slice_index_or told0 i Died }) setting0 (1 ∷ 1 ∷ 1 ∷ 1 ∷ 0 ∷ 0 ∷ 1 ∷ 1 ∷ 1 ∷ 1 ∷ 1 ∷ 1 ∷ 1 ∷ []) 1 6) ≡ []
unfolding split_of
over0 = refl
