-- All that is known of where a run is placed: each test and count of the line, and each device's own part of it, stay.
-- Nothing else of `split_of` is used in proofs.
use Rattle.history_book.proofs.Prelude.{Bool, Fcfs, IsClosed, IsPart, Item, JustInTime, List, Reading, Scheduler, Setting, Timeline, [], ap, bars, base_flags, base_of, chosen, count_by, false, filter, gap_set, grown, grown_closed, grown_holds, if◌then◌else◌, is_item_on, is_live, is_needed, length, length-map, line_for, list_any, map, meet, of_one_device, of_run, others, part_kept, rearranged, rearranged_any, rearranged_count, refl, scheduler_of, split_of, suc, take-append-drop, true, ℕ, ◌++◌, ◌||◌, ◌∙◌, ◌∷◌, ◌≡◌}

-- the device's own part of a line
abbrev pub part : Setting → ℕ → List Item → List Item
part w d line = filter (is_item_on w.runs d) line

-- the set of the timeline is closed
pub gap_closed : (w : Setting) (n : Reading) (r m : ℕ) → IsClosed (meet w.runs) (gap_set w n r m) n.line
unfolding gap_set
gap_closed w n r m = grown_closed (meet w.runs) (base_of w n r) (bars w n r m) n.line

pub line_any : (w : Setting) (n : Reading) (r m : ℕ) (p : Item → Bool) → list_any p (line_for w n r m) ≡ list_any p n.line
line_any w n r m p = by_scheduler (scheduler_of w.mode)
  where
    line : Scheduler → List Item
    line Fcfs = n.line
    line JustInTime = n.line
    line Timeline = rearranged (gap_set w n r m) n.line

    by_scheduler : (s : Scheduler) → list_any p (line s) ≡ list_any p n.line
    by_scheduler Fcfs = refl
    by_scheduler JustInTime = refl
    by_scheduler Timeline = rearranged_any p (gap_set w n r m) n.line

pub line_count : (w : Setting) (n : Reading) (r m : ℕ) (p : Item → Bool) → count_by p (line_for w n r m) ≡ count_by p n.line
line_count w n r m p = by_scheduler (scheduler_of w.mode)
  where
    line : Scheduler → List Item
    line Fcfs = n.line
    line JustInTime = n.line
    line Timeline = rearranged (gap_set w n r m) n.line

    by_scheduler : (s : Scheduler) → count_by p (line s) ≡ count_by p n.line
    by_scheduler Fcfs = refl
    by_scheduler JustInTime = refl
    by_scheduler Timeline = rearranged_count p (gap_set w n r m) n.line

long_joined : {A : Type 0} (xs ys : List A) (x : A) → length (xs ++ x ∷ ys) ≡ suc (length (xs ++ ys))
long_joined [] ys x = refl
long_joined (z ∷ xs) ys x = ap suc (long_joined xs ys x)

long_rearranged : (bs : List Bool) (line : List Item) → length (rearranged bs line) ≡ length line
unfolding chosen others
long_rearranged bs [] = refl
long_rearranged [] (i ∷ is) = refl
long_rearranged (true ∷ bs) (i ∷ is) = ap suc (long_rearranged bs is)
long_rearranged (false ∷ bs) (i ∷ is) = long_joined (chosen bs is) (others bs is) i ∙ ap suc (long_rearranged bs is)

pub line_length : (w : Setting) (n : Reading) (r m : ℕ) → length (line_for w n r m) ≡ length n.line
line_length w n r m = by_scheduler (scheduler_of w.mode)
  where
    line : Scheduler → List Item
    line Fcfs = n.line
    line JustInTime = n.line
    line Timeline = rearranged (gap_set w n r m) n.line

    by_scheduler : (s : Scheduler) → length (line s) ≡ length n.line
    by_scheduler Fcfs = refl
    by_scheduler JustInTime = refl
    by_scheduler Timeline = long_rearranged (gap_set w n r m) n.line

pub line_part : (w : Setting) (n : Reading) (r m d : ℕ) → part w d (line_for w n r m) ≡ part w d n.line
line_part w n r m d = by_scheduler (scheduler_of w.mode)
  where
    line : Scheduler → List Item
    line Fcfs = n.line
    line JustInTime = n.line
    line Timeline = rearranged (gap_set w n r m) n.line

    by_scheduler : (s : Scheduler) → part w d (line s) ≡ part w d n.line
    by_scheduler Fcfs = refl
    by_scheduler JustInTime = refl
    by_scheduler Timeline = part_kept (meet w.runs) (is_item_on w.runs d) (gap_set w n r m) n.line (λ i j. of_one_device w.runs d i j) (gap_closed w n r m)

pub split_any : (w : Setting) (n : Reading) (r at m : ℕ) (p : Item → Bool) → list_any p ((split_of w n r at m).front ++ (split_of w n r at m).back) ≡ list_any p n.line
unfolding split_of
split_any w n r at m p = ap (list_any p) (take-append-drop at (line_for w n r m)) ∙ line_any w n r m p

pub split_count : (w : Setting) (n : Reading) (r at m : ℕ) (p : Item → Bool) → count_by p ((split_of w n r at m).front ++ (split_of w n r at m).back) ≡ count_by p n.line
unfolding split_of
split_count w n r at m p = ap (count_by p) (take-append-drop at (line_for w n r m)) ∙ line_count w n r m p

pub split_part : (w : Setting) (n : Reading) (r at m d : ℕ) → part w d ((split_of w n r at m).front ++ (split_of w n r at m).back) ≡ part w d n.line
unfolding split_of
split_part w n r at m d = ap (part w d) (take-append-drop at (line_for w n r m)) ∙ line_part w n r m d

-- The set of the timeline

base_size : (live needed : Item → Bool) (line : List Item) → length (base_flags live needed line) ≡ length line
base_size live needed [] = refl
base_size live needed (i ∷ is) = by_live (live i) (base_size live needed is)
  where
    by_live : (b : Bool) → length (base_flags live needed is) ≡ length is → length (if b then map needed (i ∷ is) else true ∷ base_flags live needed is) ≡ suc (length is)
    by_live true rest = length-map (i ∷ is) needed
    by_live false rest = ap suc rest

-- what is left out of a set that holds the base is not needed
left_out : (needed : Item → Bool) (bs : List Bool) (line : List Item) → IsPart (map needed line) bs → list_any needed (others bs line) ≡ false
unfolding IsPart others
left_out needed [] [] p = refl
left_out needed (b ∷ bs) [] p = refl
left_out needed [] (i ∷ is) p = elim p [ ]
left_out needed (true ∷ bs) (i ∷ is) p = left_out needed bs is p.1
left_out needed (false ∷ bs) (i ∷ is) p = by_test (needed i) refl (left_out needed bs is p.1)
  where
    clash : false ≡ true → ⊥
    clash h = cc

    by_test : (b : Bool) → needed i ≡ b → list_any needed (others bs is) ≡ false → (needed i || list_any needed (others bs is)) ≡ false
    by_test true e rest = absurd (clash (p.0 e))
    by_test false e rest = λ k. e k || rest k

none_needed : (live needed : Item → Bool) (bs : List Bool) (line : List Item) → IsPart (base_flags live needed line) bs → list_any needed (others bs line) ≡ false
unfolding IsPart others
none_needed live needed bs [] p = nothing bs
  where
    nothing : (cs : List Bool) → list_any needed (others cs []) ≡ false
    nothing [] = refl
    nothing (c ∷ cs) = refl
none_needed live needed bs (i ∷ is) p = by_live (live i) p (λ c cs q. none_needed live needed cs is q)
  where
    front : (cs : List Bool) → IsPart (true ∷ base_flags live needed is) cs → ((c : Bool) (ds : List Bool) → IsPart (base_flags live needed is) ds → list_any needed (others ds is) ≡ false) → list_any needed (others cs (i ∷ is)) ≡ false
    front [] q rest = elim q [ ]
    front (true ∷ cs) q rest = rest true cs q.1
    front (false ∷ cs) q rest = absurd (clash (q.0 refl))
      where
        clash : false ≡ true → ⊥
        clash h = cc

    by_live : (b : Bool) → IsPart (if b then map needed (i ∷ is) else true ∷ base_flags live needed is) bs → ((c : Bool) (ds : List Bool) → IsPart (base_flags live needed is) ds → list_any needed (others ds is) ≡ false) → list_any needed (others bs (i ∷ is)) ≡ false
    by_live true q rest = left_out needed bs (i ∷ is) q
    by_live false q rest = front bs q rest

pub base_length : (w : Setting) (n : Reading) (r : ℕ) → length (base_of w n r) ≡ length n.line
base_length w n r = base_size (of_run (is_live n)) (is_needed w n r) n.line

-- no item that is needed is left out
pub gap_holds : (w : Setting) (n : Reading) (r m : ℕ) → list_any (is_needed w n r) (others (gap_set w n r m) n.line) ≡ false
unfolding gap_set
gap_holds w n r m = none_needed (of_run (is_live n)) (is_needed w n r) (grown (meet w.runs) (base_of w n r) (bars w n r m) n.line) n.line (grown_holds (meet w.runs) (base_of w n r) (bars w n r m) n.line (base_length w n r))
