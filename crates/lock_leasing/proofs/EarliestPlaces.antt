-- No set of items plans an earlier end of a run than that of the timeline does.
use Rattle.lock_leasing.proofs.Prelude.{Back, BarsRise, Bool, Command, Failed, Fcfs, IsEarliestSet, IsLeast, IsPart, Item, JustInTime, List, Planned, Planning, Ran, Reading, Scheduler, Setting, Timeline, [], arith, bars, base_length, base_of, chosen, commands_of, common_steps, devices_of, false, fold, fold-append, fold_along, free, gap_set, greatest, grown_least, if◌then◌else◌, is_live, is_open, list_any, max, min, nat_lt, not, passed_by, plan_end, plan_more, planned_end, planned_start, planned_times, reads_first, refl, scheduler_of, subst₂, sym, touches, true, whole_end, writes_on, ℕ, ◌&&◌, ◌++◌, ◌+◌, ◌==◌, ◌||◌, ◌∷◌, ◌≡◌, ◌≤◌}
use Rattle.command_rules.specs.Apart.{meet}

-- A larger set in front

-- the largest of these numbers, from this one on, is not below it, nor below one from a smaller start
from_start : {A : Type 0} (f : A → ℕ) (xs : List A) (t u : ℕ) → t ≤ u → fold (λ s x. max s (f x)) t xs ≤ fold (λ s x. max s (f x)) u xs
from_start f [] t u le = le
from_start f (x ∷ xs) t u le = from_start f xs (max t (f x)) (max u (f x)) (omega (arith, le))

-- the largest number of a larger set is not smaller
more_items : {A : Type 0} (f : A → ℕ) (bs cs : List Bool) (xs : List A) (t u : ℕ) → t ≤ u → IsPart bs cs → fold (λ s x. max s (f x)) t (chosen bs xs) ≤ fold (λ s x. max s (f x)) u (chosen cs xs)
unfolding chosen IsPart
more_items f bs cs [] t u le p = le
more_items f [] [] (x ∷ xs) t u le p = le
more_items f [] (c ∷ cs) xs t u le p = elim p [ ]
more_items f (b ∷ bs) [] xs t u le p = elim p [ ]
more_items f (true ∷ bs) (true ∷ cs) (x ∷ xs) t u le p = more_items f bs cs xs (max t (f x)) (max u (f x)) (omega (arith, le)) p.1
more_items f (true ∷ bs) (false ∷ cs) (x ∷ xs) t u le p = absurd (clash (p.0 refl))
  where
    clash : false ≡ true → ⊥
    clash h = cc
more_items f (false ∷ bs) (true ∷ cs) (x ∷ xs) t u le p = more_items f bs cs xs t (max u (f x)) (omega (arith, le)) p.1
more_items f (false ∷ bs) (false ∷ cs) (x ∷ xs) t u le p = more_items f bs cs xs t u le p.1

-- behind a larger set no device is free earlier
free_later : (w : Setting) (n : Reading) (r d : ℕ) (bs cs : List Bool) → IsPart bs cs → free w n r (chosen bs n.line) d ≤ free w n r (chosen cs n.line) d
free_later w n r d bs cs p = more_items end_of bs cs n.line 0 0 (omega arith) p
  where
    end_of : Item → ℕ
    end_of (Ran x) =
        max (if is_open w n x.0 d then planned_end (n.run x.0).planned d else 0)
        (if is_live n x.0 && reads_first w.runs r d && writes_on w.runs x.0 d then whole_end w n x.0 else 0)
    end_of (Failed e k) = 0
    end_of (Back e k) = 0

-- Plans

-- the plan runs no later than the other one
record RunsBefore (p q : Planning) : Type 0 where
  clock : p.clock ≤ q.clock
  ends : plan_end p.planned ≤ plan_end q.planned

-- a sum that starts no later ends no later
sum_before : (a b f g ms : ℕ) → a ≤ b → f ≤ g → min (max a f + ms) greatest ≤ min (max b g + ms) greatest
sum_before a b f g ms earlier freed = omega (arith, earlier, freed)

-- with one command more, a plan's end is the larger one of its end before and the command's
end_more : (planned : List Planned) (p : Planned) → plan_end (planned ++ p ∷ []) ≡ max (plan_end planned) p.to
end_more planned p = fold-append (λ t q. max t q.to) 0 planned (p ∷ [])

-- a command more keeps one plan before the other, where no device is free later for it
one_more : (early late : ℕ → ℕ) → ((d : ℕ) → early d ≤ late d) → (p q : Planning) (c : Command) → RunsBefore p q → RunsBefore (plan_more early p c) (plan_more late q c)
one_more early late each p q c before = record {
  clock = clock;
  ends = larger (plan_end (plan_more early p c).planned) (plan_end (plan_more late q c).planned) (end_more p.planned one) (end_more q.planned other);
}
  where
    one : Planned
    one = record { device = c.device.0; from = max p.clock (early c.device.0); to = min (max p.clock (early c.device.0) + c.ms) greatest }

    other : Planned
    other = record { device = c.device.0; from = max q.clock (late c.device.0); to = min (max q.clock (late c.device.0) + c.ms) greatest }

    clock : one.to ≤ other.to
    clock = sum_before p.clock q.clock (early c.device.0) (late c.device.0) c.ms before.clock (each c.device.0)

    larger : (x y : ℕ) → x ≡ max (plan_end p.planned) one.to → y ≡ max (plan_end q.planned) other.to → x ≤ y
    larger x y is that = omega (arith, is, that, clock, before.ends)

-- the plan ends on the device no later than the other one
record EndsBefore (p q : Planning) : Type 0 where
  clock : p.clock ≤ q.clock
  ends : (d : ℕ) → planned_end p.planned d ≤ planned_end q.planned d

end_on : (planned : List Planned) (p : Planned) (d : ℕ) → planned_end (planned ++ p ∷ []) d ≡ (if p.device == d then p.to else planned_end planned d)
end_on planned p d = fold-append (λ t q. if q.device == d then q.to else t) 0 planned (p ∷ [])

one_more_on : (early late : ℕ → ℕ) → ((d : ℕ) → early d ≤ late d) → (p q : Planning) (c : Command) → EndsBefore p q → EndsBefore (plan_more early p c) (plan_more late q c)
one_more_on early late each p q c before = record {
  clock = clock;
  ends = λ d. subst₂ (λ x y. x ≤ y) (sym (end_on p.planned one d)) (sym (end_on q.planned other d)) (by_device d (c.device.0 == d));
}
  where
    one : Planned
    one = record { device = c.device.0; from = max p.clock (early c.device.0); to = min (max p.clock (early c.device.0) + c.ms) greatest }

    other : Planned
    other = record { device = c.device.0; from = max q.clock (late c.device.0); to = min (max q.clock (late c.device.0) + c.ms) greatest }

    clock : one.to ≤ other.to
    clock = sum_before p.clock q.clock (early c.device.0) (late c.device.0) c.ms before.clock (each c.device.0)

    by_device : (d : ℕ) (b : Bool) → (if b then one.to else planned_end p.planned d) ≤ (if b then other.to else planned_end q.planned d)
    by_device d true = clock
    by_device d false = before.ends d

-- behind a larger set no command ends earlier
record PlansLater (early late : List Planned) : Type 0 where
  whole : plan_end early ≤ plan_end late
  each : (d : ℕ) → planned_end early d ≤ planned_end late d

plan_later : (w : Setting) (n : Reading) (r m : ℕ) (bs cs : List Bool) → IsPart bs cs → PlansLater (planned_times w n r (chosen bs n.line) m) (planned_times w n r (chosen cs n.line) m)
plan_later w n r m bs cs p = by_scheduler (scheduler_of w.mode)
  where
    waits : List Bool → Scheduler → ℕ → ℕ
    waits set Fcfs d = 0
    waits set JustInTime d = 0
    waits set Timeline d = free w n r (chosen set n.line) d

    start : Planning
    start = record { clock = m; planned = [] }

    plan : Scheduler → List Bool → Planning
    plan scheduler set = fold (plan_more (waits set scheduler)) start (commands_of w.runs r)

    along : (scheduler : Scheduler) → ((d : ℕ) → waits bs scheduler d ≤ waits cs scheduler d) → PlansLater (plan scheduler bs).planned (plan scheduler cs).planned
    along scheduler each =
        record {
          whole = (fold_along (plan_more (waits bs scheduler)) (plan_more (waits cs scheduler)) RunsBefore (one_more (waits bs scheduler) (waits cs scheduler) each) start start (commands_of w.runs r) (record { clock = omega arith; ends = omega arith })).ends;
          each = (fold_along (plan_more (waits bs scheduler)) (plan_more (waits cs scheduler)) EndsBefore (one_more_on (waits bs scheduler) (waits cs scheduler) each) start start (commands_of w.runs r) (record { clock = omega arith; ends = λ d. omega arith })).ends;
        }

    by_scheduler : (scheduler : Scheduler) → PlansLater (plan scheduler bs).planned (plan scheduler cs).planned
    by_scheduler Fcfs = along Fcfs (λ d. omega arith)
    by_scheduler JustInTime = along JustInTime (λ d. omega arith)
    by_scheduler Timeline = along Timeline (λ d. free_later w n r d bs cs p)

-- The least set

-- a larger set bars more
pub bars_rise : (w : Setting) (n : Reading) (r m : ℕ) → BarsRise (bars w n r m)
bars_rise w n r m bs cs (Ran x) p barred = by_live (is_live n x.0) barred
  where
    later : (d : ℕ) → planned_end (planned_times w n r (chosen bs n.line) m) d ≤ planned_end (planned_times w n r (chosen cs n.line) m) d
    later = (plan_later w n r m bs cs p).each

    test : List Bool → ℕ → Bool
    test set d = touches w.runs x.0 d && not (passed_by w n x.0 d) && nat_lt (planned_start (n.run x.0).planned d) (planned_end (planned_times w n r (chosen set n.line) m) d)

    more : (a b : Bool) (s e f : ℕ) → e ≤ f → (a && b && nat_lt s e) ≡ true → (a && b && nat_lt s f) ≡ true
    more a b s e f le h = grind (arith, common_steps)

    either : (a b c d : Bool) → (a ≡ true → c ≡ true) → (b ≡ true → d ≡ true) → (a || b) ≡ true → (c || d) ≡ true
    either a b c d h k e = grind (arith, common_steps)

    some : (ds : List ℕ) → list_any (test bs) ds ≡ true → list_any (test cs) ds ≡ true
    some [] e = e
    some (d ∷ ds) e = either (test bs d) (list_any (test bs) ds) (test cs d) (list_any (test cs) ds) (more (touches w.runs x.0 d) (not (passed_by w n x.0 d)) (planned_start (n.run x.0).planned d) _ _ (later d)) (some ds) e

    by_live : (b : Bool) → (b && list_any (test bs) (devices_of w r)) ≡ true → (b && list_any (test cs) (devices_of w r)) ≡ true
    by_live true e = some (devices_of w r) e
    by_live false e = e
bars_rise w n r m bs cs (Failed d k) p barred = barred
bars_rise w n r m bs cs (Back d k) p barred = barred

-- the set of the timeline is the least one
pub gap_least : (w : Setting) (n : Reading) (r m : ℕ) → IsLeast (meet w.runs) (base_of w n r) (bars w n r m) n.line (gap_set w n r m)
unfolding gap_set
gap_least w n r m = grown_least (meet w.runs) (base_of w n r) (bars w n r m) n.line (base_length w n r) (bars_rise w n r m)

-- .. and plans the earliest end
pub gap_is_earliest : (w : Setting) (n : Reading) (r m : ℕ) → IsEarliestSet w n r m (gap_set w n r m)
gap_is_earliest w n r m other fitting = (plan_later w n r m (gap_set w n r m) other ((gap_least w n r m).least other fitting)).whole
