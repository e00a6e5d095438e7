-- Planned times and deadlines stay at the greatest number of 64 bits.
use Rattle.history_book.specs.Gaps.{split_of}
use Rattle.worked_windows.proofs.Prelude.{Reading, reading}
use Rattle.history_book.specs.Plans.{planned_end}
use Rattle.lock_leasing.specs.Words.{lease_deadline}
use Rattle.worked_windows.proofs.OneLight.{window}
use Rattle.worked_windows.proofs.Words.{Arrived, Placed, [], refl, run_no, ◌∷◌, ◌≡◌}

-- the one run of 100 ms, placed 50 ms before that number
abbrev pub late : Reading
late = reading window (Arrived (run_no 1) 18446744073709551565 ∷ Placed (run_no 1) 0 18446744073709551565 ∷ [])

end_stays : planned_end (late.run 1).planned 0 ≡ 18446744073709551615
unfolding split_of
end_stays = refl

deadline_stays : lease_deadline window late 1 0 ≡ 18446744073709551615
unfolding split_of
deadline_stays = refl
