-- What a history says stays as it is where a run joins the window: a run that has not arrived is nowhere told of.
use Rattle.history_book.proofs.Prelude.{Back, Bool, Failed, Fcfs, Item, JustInTime, List, Planned, Ran, Reading, Run, Scheduler, Setting, Timeline, [], ap, are_tied, bars, base_flags, base_of, chosen, closure, commands_of, device_numbers, devices_of, did, drop, either_of, false, filter, fold, follows, free, front_for, gap_set, grown, if◌then◌else◌, is_committed, is_doomed, is_live, is_needed, is_next_on, is_on, is_open, is_overlapped, is_overwritten, is_run, is_some, line_for, list_any, map, max, meet, nat_lt, next_of, not, of_run, option_and_then, option_map, passed_by, pends, plan_more, planned_end, planned_start, planned_times, reads_first, reads_unwritten, rearranged, refl, run_in_roster, scheduler_of, share_device, shares, slice_get, split_at, split_of, suc, take, touches, true, unwrap_or, whole_end, widened, wider, with_joined, writes, writes_on, zero, ℕ, ◌&&◌, ◌++◌, ◌==◌, ◌||◌, ◌∙◌, ◌∷◌, ◌≡◌}
use Rattle.history_book.proofs.OwnItems.{is_stray}
use Rattle.history_book.proofs.Shapes.{Shaped}

-- Lists and tests

slice_more : {A : Type 0} (xs : List A) (x : A) (i : ℕ) → is_some (slice_get xs i) ≡ true → slice_get (xs ++ x ∷ []) i ≡ slice_get xs i
slice_more [] x i some = absurd (cc)
slice_more (y ∷ xs) x zero some = refl
slice_more (y ∷ xs) x (suc i) some = slice_more xs x i some

-- what is asked only where a test holds
pub masked : (b x y : Bool) → (b ≡ true → x ≡ y) → (b && x) ≡ (b && y)
masked true x y same = same refl
masked false x y same = refl

masked_if : {A : Type 0} (b : Bool) (x y z : A) → (b ≡ true → x ≡ y) → (if b then x else z) ≡ (if b then y else z)
masked_if true x y z same = same refl
masked_if false x y z same = refl

pub first_holds : (a b : Bool) → (a && b) ≡ true → a ≡ true
first_holds true b e = refl
first_holds false b e = e

-- The runs that there were

pub own_run : (runs : List Run) (q : Run) (r : ℕ) → is_run runs r ≡ true → run_in_roster (runs ++ q ∷ []) r ≡ run_in_roster runs r
own_run runs q zero own = absurd (cc)
own_run runs q (suc i) own = slice_more runs q i own

pub own_commands : (runs : List Run) (q : Run) (r : ℕ) → is_run runs r ≡ true → commands_of (runs ++ q ∷ []) r ≡ commands_of runs r
own_commands runs q r own = ap (λ x. unwrap_or (option_map (λ run. run.commands) x) []) (own_run runs q r own)

pub own_touches : (runs : List Run) (q : Run) (r d : ℕ) → is_run runs r ≡ true → touches (runs ++ q ∷ []) r d ≡ touches runs r d
own_touches runs q r d own = ap (list_any (is_on d)) (own_commands runs q r own)

pub own_follows : (runs : List Run) (q : Run) (r f : ℕ) → is_run runs r ≡ true → follows (runs ++ q ∷ []) r f ≡ follows runs r f
own_follows runs q r f own = λ k. unwrap_or (option_map (λ x. x.0 == f) (option_and_then (λ run. run.follows) (own_run runs q r own k))) false

pub own_shares : (runs : List Run) (q : Run) (a b : ℕ) → is_run runs a ≡ true → is_run runs b ≡ true → shares (runs ++ q ∷ []) a b ≡ shares runs a b
own_shares runs q a b own_a own_b = λ k. list_any (λ c. own_touches runs q b c.device.0 own_b k) (own_commands runs q a own_a k)

own_writes : (runs : List Run) (q : Run) (r d : ℕ) → is_run runs r ≡ true → writes_on (runs ++ q ∷ []) r d ≡ writes_on runs r d
own_writes runs q r d own = ap (list_any (λ c. is_on d c && writes c.job)) (own_commands runs q r own)

pub same_devices : (w : Setting) (q : Run) (r : ℕ) → is_run w.runs r ≡ true → devices_of (with_joined w q) r ≡ devices_of w r
same_devices w q r own = λ k. filter (λ d. own_touches w.runs q r d own k) (device_numbers w)

-- What a reading says of a run that there was

-- a run that is live is one of the window
pub live_own : (w : Setting) (n : Reading) (r : ℕ) → Shaped w n → is_live n r ≡ true → is_run w.runs r ≡ true
live_own w n r shaped live = (shaped r).known ((shaped r).arrived (first_holds _ _ live))

pub own_pends : (w : Setting) (q : Run) (n : Reading) (r d : ℕ) → is_run w.runs r ≡ true → pends (with_joined w q) n r d ≡ pends w n r d
own_pends w q n r d own = ap (λ cs. list_any (is_on d) (drop (next_of n r) cs)) (own_commands w.runs q r own)

pub own_passed : (w : Setting) (q : Run) (n : Reading) (r d : ℕ) → is_run w.runs r ≡ true → passed_by (with_joined w q) n r d ≡ passed_by w n r d
own_passed w q n r d own = λ k. own_touches w.runs q r d own k && not (own_pends w q n r d own k) && not (did n r d)

own_next : (w : Setting) (q : Run) (n : Reading) (r d : ℕ) → is_run w.runs r ≡ true → is_next_on (with_joined w q) n r d ≡ is_next_on w n r d
own_next w q n r d own = ap (λ cs. unwrap_or (option_map (is_on d) (slice_get cs (next_of n r))) false) (own_commands w.runs q r own)

-- open runs are the same, whoever is asked for
pub same_open : (w : Setting) (q : Run) (n : Reading) → Shaped w n → (r d : ℕ) → is_open (with_joined w q) n r d ≡ is_open w n r d
same_open w q n shaped r d =
    masked (is_live n r && not (is_doomed n r)) _ _ (λ both. own_pends w q n r d (live_own w n r shaped (first_holds _ _ both)))

-- Planned times

same_whole_end : (w : Setting) (q : Run) (n : Reading) (x : ℕ) → is_run w.runs x ≡ true → whole_end (with_joined w q) n x ≡ whole_end w n x
same_whole_end w q n x own =
    λ k. fold (λ t d. if not (own_passed w q n x d own k) && not (is_overwritten n x d) then max t (planned_end (n.run x).planned d) else t) 0 (same_devices w q x own k)

same_free : (w : Setting) (q : Run) (n : Reading) (r : ℕ) (front : List Item) (d : ℕ) → Shaped w n → is_run w.runs r ≡ true → free (with_joined w q) n r front d ≡ free w n r front d
same_free w q n r front d shaped own = λ k. fold (λ t i. max t (same_end i k)) 0 front
  where
    end_of_run : Setting → ℕ → ℕ
    end_of_run u x =
        max (if is_open u n x d then planned_end (n.run x).planned d else 0)
        (if is_live n x && reads_first u.runs r d && writes_on u.runs x d then whole_end u n x else 0)

    end_of : Setting → Item → ℕ
    end_of u (Ran x) = end_of_run u x.0
    end_of u (Failed e k) = 0
    end_of u (Back e k) = 0

    asks : Setting → ℕ → Bool
    asks u x = is_live n x && reads_first u.runs r d && writes_on u.runs x d

    same_reads : reads_first (with_joined w q).runs r d ≡ reads_first w.runs r d
    same_reads = ap (λ cs. reads_unwritten (filter (is_on d) cs)) (own_commands w.runs q r own)

    same_asks : (x : ℕ) → asks (with_joined w q) x ≡ asks w x
    same_asks x =
        (λ k. is_live n x && same_reads k && writes_on (with_joined w q).runs x d)
        ∙ masked (is_live n x && reads_first w.runs r d) _ _ (λ both. own_writes w.runs q x d (live_own w n x shaped (first_holds _ _ both)))

    same_later : (x : ℕ) → (if asks (with_joined w q) x then whole_end (with_joined w q) n x else 0) ≡ (if asks w x then whole_end w n x else 0)
    same_later x =
        (λ k. if same_asks x k then whole_end (with_joined w q) n x else 0)
        ∙ masked_if (asks w x) _ _ 0 (λ all. same_whole_end w q n x (live_own w n x shaped (first_holds _ _ (first_holds _ _ all))))

    same_end : (i : Item) → end_of (with_joined w q) i ≡ end_of w i
    same_end (Ran x) = λ k. max (if same_open w q n shaped x.0 d k then planned_end (n.run x.0).planned d else 0) (same_later x.0 k)
    same_end (Failed e k) = refl
    same_end (Back e k) = refl

-- the planned times of a run that there was
pub same_plan : (w : Setting) (q : Run) (n : Reading) (r : ℕ) (front : List Item) (m : ℕ) → Shaped w n → is_run w.runs r ≡ true → planned_times (with_joined w q) n r front m ≡ planned_times w n r front m
same_plan w q n r front m shaped own =
    λ k. (fold (plan_more (λ d. same_waits (scheduler_of w.mode) d k)) (record { clock = m; planned = [] }) (own_commands w.runs q r own k)).planned
  where
    waits : Setting → Scheduler → ℕ → ℕ
    waits u Fcfs d = 0
    waits u JustInTime d = 0
    waits u Timeline d = free u n r front d

    same_waits : (s : Scheduler) (d : ℕ) → waits (with_joined w q) s d ≡ waits w s d
    same_waits Fcfs d = refl
    same_waits JustInTime d = refl
    same_waits Timeline d = same_free w q n r front d shaped own

-- The set of the timeline

same_needed : (w : Setting) (q : Run) (n : Reading) (r : ℕ) → Shaped w n → is_run w.runs r ≡ true → (i : Item) → is_needed (with_joined w q) n r i ≡ is_needed w n r i
same_needed w q n r shaped own (Ran x) =
    λ k. list_any (λ d. did n x.0 d || same_asks d k) (same_devices w q r own k) || (own_follows w.runs q r x.0 own k && is_committed n x.0)
  where
    same_asks : (d : ℕ) → (is_live n x.0 && is_next_on (with_joined w q) n x.0 d) ≡ (is_live n x.0 && is_next_on w n x.0 d)
    same_asks d = masked (is_live n x.0) _ _ (λ live. own_next w q n x.0 d (live_own w n x.0 shaped live))
same_needed w q n r shaped own (Failed d e) = own_touches w.runs q r d.0 own
same_needed w q n r shaped own (Back d e) = own_touches w.runs q r d.0 own

same_base : (w : Setting) (q : Run) (n : Reading) (r : ℕ) → Shaped w n → is_run w.runs r ≡ true → base_of (with_joined w q) n r ≡ base_of w n r
same_base w q n r shaped own = λ k. base_flags (of_run (is_live n)) (λ i. same_needed w q n r shaped own i k) n.line

same_overlap : (w : Setting) (q : Run) (n : Reading) (r : ℕ) (planned : List Planned) → Shaped w n → is_run w.runs r ≡ true → (i : Item) → is_overlapped (with_joined w q) n r planned i ≡ is_overlapped w n r planned i
same_overlap w q n r planned shaped own (Ran x) = masked (is_live n x.0) _ _ (λ live. same_some (live_own w n x.0 shaped live))
  where
    same_some : is_run w.runs x.0 ≡ true
        → list_any (λ d. touches (with_joined w q).runs x.0 d && not (passed_by (with_joined w q) n x.0 d) && nat_lt (planned_start (n.run x.0).planned d) (planned_end planned d)) (devices_of (with_joined w q) r)
        ≡ list_any (λ d. touches w.runs x.0 d && not (passed_by w n x.0 d) && nat_lt (planned_start (n.run x.0).planned d) (planned_end planned d)) (devices_of w r)
    same_some other =
        λ k. list_any (λ d. own_touches w.runs q x.0 d other k && not (own_passed w q n x.0 d other k) && nat_lt (planned_start (n.run x.0).planned d) (planned_end planned d)) (same_devices w q r own k)
same_overlap w q n r planned shaped own (Failed d e) = refl
same_overlap w q n r planned shaped own (Back d e) = refl

same_bars : (w : Setting) (q : Run) (n : Reading) (r m : ℕ) → Shaped w n → is_run w.runs r ≡ true → (set : List Bool) (i : Item) → bars (with_joined w q) n r m set i ≡ bars w n r m set i
same_bars w q n r m shaped own set i =
    ap (λ planned. is_overlapped (with_joined w q) n r planned i) (same_plan w q n r (chosen set n.line) m shaped own)
    ∙ same_overlap w q n r (planned_times w n r (chosen set n.line) m) shaped own i

-- two items of the window meet, or do not, as before
same_meet : (w : Setting) (q : Run) (i j : Item) → is_stray w i ≡ false → is_stray w j ≡ false → meet (with_joined w q).runs i j ≡ meet w.runs i j
same_meet w q i j own_i own_j = λ k. shared i j own_i own_j k || tied i j own_i own_j k
  where
    own_of : (b : Bool) → not b ≡ false → b ≡ true
    own_of true e = refl
    own_of false e = absurd (cc)

    shared : (i j : Item) → is_stray w i ≡ false → is_stray w j ≡ false → share_device (with_joined w q).runs i j ≡ share_device w.runs i j
    shared (Ran r) (Ran x) a b = own_shares w.runs q r.0 x.0 (own_of _ a) (own_of _ b)
    shared (Ran r) (Failed d e) a b = own_touches w.runs q r.0 d.0 (own_of _ a)
    shared (Ran r) (Back d e) a b = own_touches w.runs q r.0 d.0 (own_of _ a)
    shared (Failed d e) (Ran x) a b = own_touches w.runs q x.0 d.0 (own_of _ b)
    shared (Failed d e) (Failed f l) a b = refl
    shared (Failed d e) (Back f l) a b = refl
    shared (Back d e) (Ran x) a b = own_touches w.runs q x.0 d.0 (own_of _ b)
    shared (Back d e) (Failed f l) a b = refl
    shared (Back d e) (Back f l) a b = refl

    tied : (i j : Item) → is_stray w i ≡ false → is_stray w j ≡ false → are_tied (with_joined w q).runs i j ≡ are_tied w.runs i j
    tied (Ran r) (Ran x) a b = λ k. own_follows w.runs q r.0 x.0 (own_of _ a) k || own_follows w.runs q x.0 r.0 (own_of _ b) k
    tied (Ran r) (Failed f l) a b = refl
    tied (Ran r) (Back f l) a b = refl
    tied (Failed d e) j a b = refl
    tied (Back d e) j a b = refl

-- tests that agree on the items of a line: what is made of them over that line

none_first : (a b : Bool) → (a || b) ≡ false → a ≡ false
none_first true b e = e
none_first false b e = refl

none_later : (a b : Bool) → (a || b) ≡ false → b ≡ false
none_later true b e = absurd (cc)
none_later false b e = e

any_chosen : {A : Type 0} (stray f g : A → Bool) → ((j : A) → stray j ≡ false → f j ≡ g j) → (bs : List Bool) (line : List A) → list_any stray line ≡ false → list_any f (chosen bs line) ≡ list_any g (chosen bs line)
unfolding chosen
any_chosen stray f g same bs [] none = refl
any_chosen stray f g same [] (i ∷ is) none = refl
any_chosen stray f g same (true ∷ bs) (i ∷ is) none = λ k. same i (none_first _ _ none) k || any_chosen stray f g same bs is (none_later _ _ none) k
any_chosen stray f g same (false ∷ bs) (i ∷ is) none = any_chosen stray f g same bs is (none_later _ _ none)

closure_same : {A : Type 0} (stray : A → Bool) (f g : A → A → Bool) → ((i j : A) → stray i ≡ false → stray j ≡ false → f i j ≡ g i j) → (seeds : List Bool) (line : List A) → list_any stray line ≡ false → closure f seeds line ≡ closure g seeds line
unfolding closure
closure_same stray f g same seeds [] none = refl
closure_same stray f g same [] (i ∷ is) none = ap (λ bs. false ∷ bs) (closure_same stray f g same [] is (none_later _ _ none))
closure_same stray f g same (s ∷ seeds) (i ∷ is) none =
    ap (λ bs. (s || list_any (f i) (chosen bs is)) ∷ bs) (closure_same stray f g same seeds is (none_later _ _ none))
    ∙ ap (λ b. (s || b) ∷ closure g seeds is) (any_chosen stray (f i) (g i) (λ j own. same i j (none_first _ _ none) own) (closure g seeds is) is (none_later _ _ none))

widened_same : {A : Type 0} (stray : A → Bool) (f g : A → A → Bool) → ((i j : A) → stray i ≡ false → stray j ≡ false → f i j ≡ g i j) → (base : List Bool) (bars : List Bool → A → Bool) (line : List A) → list_any stray line ≡ false → (bs : List Bool) (turns : List A) → widened f base bars line bs turns ≡ widened g base bars line bs turns
widened_same stray f g same base bars line none bs [] = refl
widened_same stray f g same base bars line none bs (t ∷ turns) =
    ap (λ cs. widened f base bars line cs turns) (closure_same stray f g same (either_of base (map (bars bs) line)) line none)
    ∙ widened_same stray f g same base bars line none (wider g base bars line bs) turns

grown_same : {A : Type 0} (stray : A → Bool) (f g : A → A → Bool) → ((i j : A) → stray i ≡ false → stray j ≡ false → f i j ≡ g i j) → (base : List Bool) (bars : List Bool → A → Bool) (line : List A) → list_any stray line ≡ false → grown f base bars line ≡ grown g base bars line
grown_same stray f g same base bars line none =
    ap (λ bs. widened f base bars line bs line) (closure_same stray f g same base line none)
    ∙ widened_same stray f g same base bars line none (closure g base line) line

pub same_gap : (w : Setting) (q : Run) (n : Reading) (r m : ℕ) → Shaped w n → list_any (is_stray w) n.line ≡ false → is_run w.runs r ≡ true → gap_set (with_joined w q) n r m ≡ gap_set w n r m
unfolding gap_set
same_gap w q n r m shaped none own =
    (λ k. grown (meet (with_joined w q).runs) (same_base w q n r shaped own k) (λ set i. same_bars w q n r m shaped own set i k) n.line)
    ∙ grown_same (is_stray w) (meet (with_joined w q).runs) (meet w.runs) (same_meet w q) (base_of w n r) (bars w n r m) n.line none

-- Where a run stands that is placed

same_line : (w : Setting) (q : Run) (n : Reading) (r m : ℕ) → Shaped w n → list_any (is_stray w) n.line ≡ false → is_run w.runs r ≡ true → line_for (with_joined w q) n r m ≡ line_for w n r m
same_line w q n r m shaped none own = by_scheduler (scheduler_of w.mode)
  where
    line : Setting → Scheduler → List Item
    line u Fcfs = n.line
    line u JustInTime = n.line
    line u Timeline = rearranged (gap_set u n r m) n.line

    by_scheduler : (s : Scheduler) → line (with_joined w q) s ≡ line w s
    by_scheduler Fcfs = refl
    by_scheduler JustInTime = refl
    by_scheduler Timeline = ap (λ set. rearranged set n.line) (same_gap w q n r m shaped none own)

pub same_front : (w : Setting) (q : Run) (n : Reading) (r at m : ℕ) → Shaped w n → list_any (is_stray w) n.line ≡ false → is_run w.runs r ≡ true → front_for (with_joined w q) n r at m ≡ front_for w n r at m
same_front w q n r at m shaped none own = by_scheduler (scheduler_of w.mode)
  where
    front : Setting → Scheduler → List Item
    front u Fcfs = take at n.line
    front u JustInTime = take at n.line
    front u Timeline = chosen (gap_set u n r m) n.line

    by_scheduler : (s : Scheduler) → front (with_joined w q) s ≡ front w s
    by_scheduler Fcfs = refl
    by_scheduler JustInTime = refl
    by_scheduler Timeline = ap (λ set. chosen set n.line) (same_gap w q n r m shaped none own)

pub same_split : (w : Setting) (q : Run) (n : Reading) (r at m : ℕ) → Shaped w n → list_any (is_stray w) n.line ≡ false → is_run w.runs r ≡ true → split_of (with_joined w q) n r at m ≡ split_of w n r at m
unfolding split_of
same_split w q n r at m shaped none own = ap (λ line. split_at line at) (same_line w q n r m shaped none own)
