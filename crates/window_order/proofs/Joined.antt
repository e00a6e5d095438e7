-- A run is placed: the line is rearranged, and the run goes in at a clear place.
use Rattle.command_rules.specs.ClosedSets.{rearranged}
use Rattle.window_order.proofs.Prelude.{ChangesEach, Grips, GripsFit, IsClear, Item, LineageState, List, Mark, MarksAreKept, OrderIsKept, Placed, Ran, Reading, Setting, TableIsKept, ap, entry, in_order, line_any, line_count, line_part, line_rearranged, may_follow, placed_change, planned_times, point, refl, run_no, scheduler_of, subst, sym, true, with_item, ℕ, ◌≡◌}
use Rattle.history_book.specs.Gaps.{front_for, gap_set, line_for, split_of}
use Rattle.home_types.specs.declared.modes.Scheduler.TheVariants.{Fcfs, JustInTime, Timeline}
use Rattle.home_types.specs.declared.modes.Scheduler.{Scheduler}
use Rattle.window_order.proofs.Grips.{fits_same}
use Rattle.window_order.proofs.ReadFacts.{IsRead}
use Rattle.window_order.proofs.Rearranged.{HasSameParts, order_kept, read_kept, table_kept}
use Rattle.window_order.proofs.Steps.{placed_kept}
use Rattle.window_order.proofs.TableSteps.{placed_table}
use Rattle.window_order.proofs.TouchedLines.{marks_placed}

pub same_parts : (w : Setting) (n : Reading) (r m : ℕ) → HasSameParts w n.line (line_for w n r m)
same_parts w n r m = record { some = line_any w n r m; many = line_count w n r m; parts = line_part w n r m }

-- the order of the window stays
pub joined_order : (w : Setting) (n : Reading) (g : Grips) (held : ℕ → ℕ) (r at m : ℕ) → IsRead w n → may_follow w n (Placed (run_no r) at m) ≡ true → IsClear (point w (in_order n (line_for w n r m)) g) r at → OrderIsKept (point w n g) held
    → OrderIsKept (point w (entry w n (Placed (run_no r) at m)) g) held
unfolding split_of
joined_order w n g held r at m read may clear kept =
    placed_kept w (in_order n (line_for w n r m)) g held r at m (planned_times w n r (front_for w n r at m) m) (read_kept w n (line_for w n r m) (same_parts w n r m) read) may clear
    (order_kept w n g held (line_for w n r m) read (same_parts w n r m) kept)

-- .. and its table, with the run's accesses in front of those of the runs behind
pub joined_table : (w : Setting) (n : Reading) (g : Grips) (r at m : ℕ) (old new : List LineageState) → IsRead w n → may_follow w n (Placed (run_no r) at m) ≡ true → IsClear (point w (in_order n (line_for w n r m)) g) r at
    → ChangesEach (placed_change w (in_order n (line_for w n r m)) r at (planned_times w n r (front_for w n r at m) m)) old new → TableIsKept (point w n g) old → TableIsKept (point w (entry w n (Placed (run_no r) at m)) g) new
unfolding split_of
joined_table w n g r at m old new read may clear changes kept =
    placed_table w (in_order n (line_for w n r m)) g r at m (planned_times w n r (front_for w n r at m) m) old new (read_kept w n (line_for w n r m) (same_parts w n r m) read) may clear changes
    (table_kept w n g (line_for w n r m) old read (same_parts w n r m) kept)

-- .. and its marks, where those of the set were brought to the front
pub joined_marks : (w : Setting) (n : Reading) (g : Grips) (r at m : ℕ) (marks : List Mark) → scheduler_of w.mode ≡ Timeline → IsRead w n → GripsFit (point w n g) → may_follow w n (Placed (run_no r) at m) ≡ true → MarksAreKept n g marks
    → MarksAreKept (entry w n (Placed (run_no r) at m)) g (with_item at (Ran (run_no r)) (rearranged (gap_set w n r m) marks))
unfolding split_of
joined_marks w n g r at m marks timed read fit may kept =
    marks_placed w (in_order n (line_for w n r m)) g r at m (planned_times w n r (front_for w n r at m) m) (rearranged (gap_set w n r m) marks) (read_kept w n (line_for w n r m) (same_parts w n r m) read) (fits_same w n (in_order n (line_for w n r m)) g (λ q d k. refl) (λ q d. refl) fit) may
    (subst (λ l. MarksAreKept (in_order n l) g (rearranged (gap_set w n r m) marks)) (sym in_gaps) (line_rearranged (gap_set w n r m) kept))
  where
    line : Scheduler → List Item
    line Fcfs = n.line
    line JustInTime = n.line
    line Timeline = rearranged (gap_set w n r m) n.line

    in_gaps : line_for w n r m ≡ rearranged (gap_set w n r m) n.line
    in_gaps = ap line timed
