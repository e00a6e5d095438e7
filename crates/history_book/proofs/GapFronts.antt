-- The final items of the line stand first, in their order, among the items of the set of the timeline.
use Rattle.history_book.proofs.Prelude.{Bool, Fcfs, IsPart, Item, JustInTime, List, Reading, Scheduler, Setting, Timeline, [], ap, arith, bars, base_flags, base_of, chosen, false, gap_set, grown_holds, if◌then◌else◌, is_live, is_needed, length, line_for, map, meet, of_run, others, rearranged, refl, scheduler_of, sealed_in, sym, take, true, up_to_first, ℕ, ◌+◌, ◌∙◌, ◌∷◌, ◌≡◌, ◌≤◌}
use Rattle.history_book.proofs.Lines.{take_next}
use Rattle.history_book.proofs.Splits.{base_length}

clash : false ≡ true → ⊥
clash h = cc

-- a set that holds the base leaves them where they are
front_stays : (live needed : Item → Bool) (bs : List Bool) (line : List Item) → IsPart (base_flags live needed line) bs → take (up_to_first live line) (rearranged bs line) ≡ take (up_to_first live line) line
unfolding IsPart chosen others
front_stays live needed bs [] p = refl
front_stays live needed bs (i ∷ is) p = by_live (live i) p (λ cs q. front_stays live needed cs is q)
  where
    in_front : (cs : List Bool) → IsPart (true ∷ base_flags live needed is) cs → ((ds : List Bool) → IsPart (base_flags live needed is) ds → take (up_to_first live is) (rearranged ds is) ≡ take (up_to_first live is) is)
        → take (up_to_first live is + 1) (rearranged cs (i ∷ is)) ≡ take (up_to_first live is + 1) (i ∷ is)
    in_front [] q rest = elim q [ ]
    in_front (true ∷ cs) q rest = take_next (up_to_first live is) i (rearranged cs is) ∙ ap (λ l. i ∷ l) (rest cs q.1) ∙ sym (take_next (up_to_first live is) i is)
    in_front (false ∷ cs) q rest = absurd (clash (q.0 refl))

    by_live : (b : Bool) → IsPart (if b then map needed (i ∷ is) else true ∷ base_flags live needed is) bs → ((ds : List Bool) → IsPart (base_flags live needed is) ds → take (up_to_first live is) (rearranged ds is) ≡ take (up_to_first live is) is)
        → take (if b then 0 else up_to_first live is + 1) (rearranged bs (i ∷ is)) ≡ take (if b then 0 else up_to_first live is + 1) (i ∷ is)
    by_live true q rest = refl
    by_live false q rest = in_front bs q rest

-- .. and has them all
flags_reach : (live needed : Item → Bool) (bs : List Bool) (line : List Item) → IsPart (base_flags live needed line) bs → up_to_first live line ≤ length (chosen bs line)
unfolding IsPart chosen
flags_reach live needed bs [] p = omega arith
flags_reach live needed bs (i ∷ is) p = by_live (live i) p (λ cs q. flags_reach live needed cs is q)
  where
    in_front : (cs : List Bool) → IsPart (true ∷ base_flags live needed is) cs → ((ds : List Bool) → IsPart (base_flags live needed is) ds → up_to_first live is ≤ length (chosen ds is)) → up_to_first live is + 1 ≤ length (chosen cs (i ∷ is))
    in_front [] q rest = elim q [ ]
    in_front (true ∷ cs) q rest = let more = rest cs q.1 in omega (arith, more)
    in_front (false ∷ cs) q rest = absurd (clash (q.0 refl))

    by_live : (b : Bool) → IsPart (if b then map needed (i ∷ is) else true ∷ base_flags live needed is) bs → ((ds : List Bool) → IsPart (base_flags live needed is) ds → up_to_first live is ≤ length (chosen ds is))
        → (if b then 0 else up_to_first live is + 1) ≤ length (chosen bs (i ∷ is))
    by_live true q rest = omega arith
    by_live false q rest = in_front bs q rest

gap_base : (w : Setting) (n : Reading) (r m : ℕ) → IsPart (base_of w n r) (gap_set w n r m)
unfolding gap_set
gap_base w n r m = grown_holds (meet w.runs) (base_of w n r) (bars w n r m) n.line (base_length w n r)

-- they stay where they are as the line is rearranged
pub line_front : (w : Setting) (n : Reading) (r m : ℕ) → take (sealed_in n) (line_for w n r m) ≡ take (sealed_in n) n.line
line_front w n r m = by_scheduler (scheduler_of w.mode)
  where
    line : Scheduler → List Item
    line Fcfs = n.line
    line JustInTime = n.line
    line Timeline = rearranged (gap_set w n r m) n.line

    by_scheduler : (s : Scheduler) → take (sealed_in n) (line s) ≡ take (sealed_in n) n.line
    by_scheduler Fcfs = refl
    by_scheduler JustInTime = refl
    by_scheduler Timeline = front_stays (of_run (is_live n)) (is_needed w n r) (gap_set w n r m) n.line (gap_base w n r m)

-- the place that the timeline gives is behind them
pub gaps_behind : (w : Setting) (n : Reading) (r m : ℕ) → sealed_in n ≤ length (chosen (gap_set w n r m) n.line)
gaps_behind w n r m = flags_reach (of_run (is_live n)) (is_needed w n r) (gap_set w n r m) n.line (gap_base w n r m)
