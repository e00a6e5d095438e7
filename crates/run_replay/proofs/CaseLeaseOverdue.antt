-- The replay of the case lease-overdue: given what its devices told, it is the history that was worked out for it.
use Rattle.run_replay.proofs.Prelude.{Aborted, Always, Arrived, Committed, Did, Died, Doomed, Ended, Eventual, Fine, JustInTime, List, None, Placed, Range, Revoked, Set, Setting, States, Told, Worked, [], actors, device_no, refl, replay_of, run_no, slice_index_or, split_of, true, ◌∷◌, ◌≡◌}

abbrev pub setting0 : Setting
setting0 = record {
  runs = (record {
    commands =
        (record { device = device_no 0; job = Set 1; when = Always; must = true; ms = 100; takes = 111 }
        ∷ record { device = device_no 2; job = Set 1; when = Always; must = true; ms = 100; takes = 100 } ∷ []);
    follows = None;
  } ∷ record { commands = (record { device = device_no 2; job = Set 0; when = Always; must = true; ms = 100; takes = 100 } ∷ []); follows = None } ∷ []);
  mode = record { model = Eventual; scheduler = JustInTime };
  kinds = ((States 2) ∷ (States 2) ∷ (States 2) ∷ (Range 10 30) ∷ []);
  first = (record { value = 0; up = true } ∷ record { value = 0; up = true } ∷ record { value = 0; up = true } ∷ record { value = 18; up = true } ∷ []);
}

abbrev pub told0 : List Told
told0 = (Worked ∷ Worked ∷ [])

replay0 : (replay_of (record { rounds = 0; told = λ i. slice_index_or told0 i Died }) setting0 (1 ∷ 1 ∷ 2 ∷ 2 ∷ 1 ∷ 1 ∷ 1 ∷ 2 ∷ 1 ∷ 1 ∷ 1 ∷ []) 1
    0).configuration.history ≡ (record { maker = 1; entry = Arrived (run_no 1) 0 } ∷ record { maker = 1; entry = Placed (run_no 1) 0 0 }
    ∷ record { maker = 2; entry = Arrived (run_no 2) 0 } ∷ record { maker = 2; entry = Placed (run_no 2) 0 0 }
    ∷ record { maker = 1; entry = Did (run_no 1) 0 Fine } ∷ record { maker = 1; entry = Doomed (run_no 2) (Revoked (run_no 1) (device_no 2) 110 111) }
    ∷ record { maker = 2; entry = Ended (run_no 2) (Aborted (Revoked (run_no 1) (device_no 2) 110 111)) } ∷ record { maker = 1; entry = Did (run_no 1) 1 Fine }
    ∷ record { maker = 1; entry = Ended (run_no 1) Committed } ∷ [])
unfolding split_of
replay0 = refl

over0 : actors (record { rounds = 0; told = λ i. slice_index_or told0 i Died }) (replay_of (record { rounds = 0; told = λ i. slice_index_or told0 i Died }) setting0 (1 ∷ 1 ∷ 2 ∷ 2 ∷ 1 ∷ 1 ∷ 1 ∷ 2 ∷ 1 ∷ 1 ∷ 1 ∷ []) 1 0) ≡ []
unfolding split_of
over0 = refl
