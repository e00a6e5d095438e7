-- The line as it stands when a run is placed: by the timeline the items of a set are brought before the others.
use Rattle.command_rules.proofs.Cited.{grown_holds}
use Rattle.command_rules.specs.Apart.{meet}
use Rattle.command_rules.specs.ClosedSets.{HoldsFirst, IsClosed, IsPart, chosen, grown, others, rearranged}
use Rattle.hub_core.proofs.Prelude.{Bool, Fcfs, Grips, GripsFit, IsOrderOf, IsRead, Item, JustInTime, LineageState, List, Mark, Marked, MarksAreKept, MayArrange, Placed, Ran, Reading, Scheduler, Setting, Some, Timeline, Visibility, [], ap, arith, arranged, bars, base_flags, base_length, base_of, entry, false, fits_same, front_for, gap_closed, gap_set, if◌then◌else◌, in_order, is_live, is_needed, is_weak, items_of, length, length-map, line_for, map, marks_placed, may_follow, of_run, planned_times, point, read_kept, refl, run_no, same_parts, scheduler_of, slice_get, split_of, subst, suc, sym, true, up_to_first, with_item, zero, ℕ, ◌++◌, ◌+◌, ◌<◌, ◌∙◌, ◌∷◌, ◌≡◌}
use Rattle.history_book.specs.Sealed.{sealed_in}
use Rattle.home_types.specs.declared.modes.Visibility.TheVariants.{Eventual, Global, Partitioned, Weak}
use Rattle.hub_core.proofs.kept.SealedOrders.{sealed_is}
use Rattle.serial_line.proofs.Cited.{kept_meet, line_rearranged}

-- The set of the timeline may be brought to the front

-- the flags of a base begin with one for each item before the first live run
base_first : (live needed : Item → Bool) (bs : List Bool) (line : List Item) → IsPart (base_flags live needed line) bs → HoldsFirst (up_to_first live line) bs
unfolding IsPart
base_first live needed bs [] p = λ at low. absurd (omega (arith, low))
base_first live needed bs (i ∷ is) p = by_live (live i) p (λ cs q. base_first live needed cs is q)
  where
    in_front : (cs : List Bool) → IsPart (true ∷ base_flags live needed is) cs → ((ds : List Bool) → IsPart (base_flags live needed is) ds → HoldsFirst (up_to_first live is) ds) → (at : ℕ) → at < up_to_first live is + 1 → slice_get cs at ≡ Some true
    in_front [] q rest at low = elim q [ ]
    in_front (c ∷ cs) q rest zero low = ap Some (q.0 refl)
    in_front (c ∷ cs) q rest (suc at) low = rest cs q.1 at (omega (arith, low))

    by_live : (b : Bool) → IsPart (if b then map needed (i ∷ is) else true ∷ base_flags live needed is) bs → ((ds : List Bool) → IsPart (base_flags live needed is) ds → HoldsFirst (up_to_first live is) ds) → HoldsFirst (if b then 0 else up_to_first live is + 1) bs
    by_live true q rest = λ at low. absurd (omega (arith, low))
    by_live false q rest = λ at low. in_front bs q rest at low

gap_first : (w : Setting) (n : Reading) (r m : ℕ) → HoldsFirst (sealed_in n) (gap_set w n r m)
unfolding gap_set
gap_first w n r m = base_first (of_run (is_live n)) (is_needed w n r) (grown (meet w.runs) (base_of w n r) (bars w n r m) n.line) n.line (grown_holds (meet w.runs) (base_of w n r) (bars w n r m) n.line (base_length w n r))

part_length : (bs cs : List Bool) → IsPart bs cs → length bs ≡ length cs
unfolding IsPart
part_length [] [] p = refl
part_length [] (c ∷ cs) p = elim p [ ]
part_length (b ∷ bs) [] p = elim p [ ]
part_length (b ∷ bs) (c ∷ cs) p = ap suc (part_length bs cs p.1)

gap_length : (w : Setting) (n : Reading) (r m : ℕ) → length (gap_set w n r m) ≡ length n.line
unfolding gap_set
gap_length w n r m = sym (part_length (base_of w n r) (grown (meet w.runs) (base_of w n r) (bars w n r m) n.line) (grown_holds (meet w.runs) (base_of w n r) (bars w n r m) n.line (base_length w n r))) ∙ base_length w n r

pub may_arrange : {rounds : ℕ} (w : Setting) (n : Reading) (g : Grips) (r m : ℕ) (set : List Bool) (line : Marked) (table : List LineageState) → IsRead w n → set ≡ gap_set w n r m → IsOrderOf rounds (point w n g) line table → MayArrange set line
may_arrange w n g r m set line table read is kept = record {
  size = ap length is ∙ gap_length w n r m ∙ sym (ap length kept.line_is.items) ∙ length-map line.marks (λ (x : Mark). x.item);
  closed =
      subst (λ (m : Item → Item → Bool). IsClosed m set (items_of line.marks)) (sym (kept_meet w.runs line.runs kept.runs))
      (subst (λ (bs : List Bool). IsClosed (meet w.runs) bs (items_of line.marks)) (sym is)
      (subst (IsClosed (meet w.runs) (gap_set w n r m)) (sym kept.line_is.items) (gap_closed w n r m)));
  sealed = subst (λ (bs : List Bool). HoldsFirst line.sealed bs) (sym is) (subst (λ k. HoldsFirst k (gap_set w n r m)) (sym (sealed_is (point w n g) line read kept.line_is kept.sealed)) (gap_first w n r m));
}

-- Marks in the new order

long_joined : {A : Type 0} (xs ys : List A) (x : A) → length (xs ++ x ∷ ys) ≡ suc (length (xs ++ ys))
long_joined [] ys x = refl
long_joined (z ∷ xs) ys x = ap suc (long_joined xs ys x)

long_rearranged : {A : Type 0} (set : List Bool) (xs : List A) → length (rearranged set xs) ≡ length xs
unfolding chosen others
long_rearranged set [] = refl
long_rearranged [] (x ∷ xs) = refl
long_rearranged (true ∷ bs) (x ∷ xs) = ap suc (long_rearranged bs xs)
long_rearranged (false ∷ bs) (x ∷ xs) = long_joined (chosen bs xs) (others bs xs) x ∙ ap suc (long_rearranged bs xs)

pub long_arranged : {A : Type 0} (s : Scheduler) (set : List Bool) (xs : List A) → length (arranged s set xs) ≡ length xs
long_arranged Fcfs set xs = refl
long_arranged JustInTime set xs = refl
long_arranged Timeline set xs = long_rearranged set xs

-- another set is none where runs are not placed by the timeline
pub arranged_same : {A : Type 0} (s : Scheduler) (set other : List Bool) (xs : List A) → (s ≡ Timeline → set ≡ other) → arranged s set xs ≡ arranged s other xs
arranged_same Fcfs set other xs same = refl
arranged_same JustInTime set other xs same = refl
arranged_same Timeline set other xs same = ap (λ bs. rearranged bs xs) (same refl)

-- the marks of the line as it stands when a run is placed at this moment
abbrev pub marks_for : Setting → Reading → ℕ → ℕ → List Mark → List Mark
marks_for w n r m marks = arranged (scheduler_of w.mode) (gap_set w n r m) marks

pub line_arranged : (w : Setting) (n : Reading) (r m : ℕ) → arranged (scheduler_of w.mode) (gap_set w n r m) n.line ≡ line_for w n r m
line_arranged w n r m = by_scheduler (scheduler_of w.mode)
  where
    line : Scheduler → List Item
    line Fcfs = n.line
    line JustInTime = n.line
    line Timeline = rearranged (gap_set w n r m) n.line

    by_scheduler : (s : Scheduler) → arranged s (gap_set w n r m) n.line ≡ line s
    by_scheduler Fcfs = refl
    by_scheduler JustInTime = refl
    by_scheduler Timeline = refl

-- .. are those of its items
pub marks_arranged : (w : Setting) (n : Reading) (g : Grips) (r m : ℕ) (marks : List Mark) → MarksAreKept n g marks → MarksAreKept (in_order n (line_for w n r m)) g (marks_for w n r m marks)
marks_arranged w n g r m marks kept = subst (λ l. MarksAreKept (in_order n l) g (marks_for w n r m marks)) (line_arranged w n r m) (by_scheduler (scheduler_of w.mode))
  where
    by_scheduler : (s : Scheduler) → MarksAreKept (in_order n (arranged s (gap_set w n r m) n.line)) g (arranged s (gap_set w n r m) marks)
    by_scheduler Fcfs = kept
    by_scheduler JustInTime = kept
    by_scheduler Timeline = line_rearranged (gap_set w n r m) kept

-- .. with the run at its place
pub marks_joined : (w : Setting) (n : Reading) (g : Grips) (r at m : ℕ) (marks : List Mark) → IsRead w n → GripsFit (point w n g) → may_follow w n (Placed (run_no r) at m) ≡ true → MarksAreKept n g marks
    → MarksAreKept (entry w n (Placed (run_no r) at m)) g (with_item at (Ran (run_no r)) (marks_for w n r m marks))
unfolding split_of
marks_joined w n g r at m marks read fit may kept =
    marks_placed w (in_order n (line_for w n r m)) g r at m (planned_times w n r (front_for w n r at m) m) (marks_for w n r m marks) (read_kept w n (line_for w n r m) (same_parts w n r m) read) (fits_same w n (in_order n (line_for w n r m)) g (λ q d k. refl) (λ q d. refl) fit) may
    (marks_arranged w n g r m marks kept)

-- under the weak model the line stays as it stands
pub served_weakly : (w : Setting) → is_weak w.mode ≡ true → scheduler_of w.mode ≡ Fcfs
served_weakly w weak = by_model w.mode.model w.mode.scheduler weak
  where
    by_model : (model : Visibility) (scheduler : Scheduler) → is_weak (record { model = model; scheduler = scheduler }) ≡ true → scheduler_of (record { model = model; scheduler = scheduler }) ≡ Fcfs
    by_model Weak scheduler weak = refl
    by_model Global scheduler weak = absurd cc
    by_model Partitioned scheduler weak = absurd cc
    by_model Eventual scheduler weak = absurd cc

pub as_they_stand : (w : Setting) (n : Reading) (r m : ℕ) (marks : List Mark) → is_weak w.mode ≡ true → marks_for w n r m marks ≡ marks
as_they_stand w n r m marks weak = ap (λ s. arranged s (gap_set w n r m) marks) (served_weakly w weak)
