-- The counts of a day, window after window: what is published of it.
use Rattle.hub_commands.proofs.Prelude.{Day, HandsBack, IsToldOf, IsToldOfDay, List, Option, Some, WindowRecord, [], abort_count, ap, append-nil, append_assoc, ap₂, arith, as_over, board_line, board_text, commit_count, count_by, counts_behind, counts_each, counts_of, drop, false, get_or, is_abort, is_commit, length, publishings_of, refl, subst, suc, sym, take, true, zero, ℕ, ◌++◌, ◌+◌, ◌-◌, ◌<◌, ◌∙◌, ◌∷◌, ◌≡◌, ◌≤◌}
use Rattle.hub_commands.proofs.Snocs.{length_more, sum_apart}
use Rattle.hub_commands.specs.Watched.{IsPublished}
use Rattle.status_board.proofs.Cited.{only_over}
use Rattle.status_board.specs.Publishings.{StartsWith, last_from, last_of, nothing}
use Rattle.status_board.specs.declared.day_counts.Counts.{Counts}

-- nothing comes of no window
nothing_yet : nothing ≡ counts_of []
unfolding commit_count abort_count
nothing_yet = refl

behind_more : (before later : List WindowRecord) (closed : WindowRecord) → counts_behind before (later ++ closed ∷ []) ≡ counts_behind before later ++ counts_of ((before ++ later) ++ closed ∷ []) ∷ []
behind_more before [] closed = ap (λ ws. counts_of (ws ++ closed ∷ []) ∷ []) (sym (append-nil before))
behind_more before (w ∷ later) closed =
    ap (λ cs. counts_of (before ++ w ∷ []) ∷ cs)
    (behind_more (before ++ w ∷ []) later closed ∙ ap (λ ws. counts_behind (before ++ w ∷ []) later ++ counts_of (ws ++ closed ∷ []) ∷ []) (append_assoc before (w ∷ []) later))

-- one window more is one publishing more
pub each_more : (records : List WindowRecord) (closed : WindowRecord) → counts_each (records ++ closed ∷ []) ≡ counts_each records ++ counts_of (records ++ closed ∷ []) ∷ []
each_more records closed = behind_more [] records closed

last_behind : (c : Counts) (before later : List WindowRecord) → c ≡ counts_of before → last_from c (counts_behind before later) ≡ counts_of (before ++ later)
last_behind c before [] is = is ∙ ap counts_of (sym (append-nil before))
last_behind c before (w ∷ later) is = last_behind (counts_of (before ++ w ∷ [])) (before ++ w ∷ []) later refl ∙ ap counts_of (append_assoc before (w ∷ []) later)

-- the last one is what the day has come to
pub last_counts : (records : List WindowRecord) → last_of (counts_each records) ≡ counts_of records
last_counts records = last_behind nothing [] records nothing_yet

behind_going : (before later : List WindowRecord) (k : ℕ) (c : Counts) → k < length (counts_behind before later) → (get_or (counts_behind before later) k c).over ≡ false
behind_going before [] k c within = absurd (omega (arith, within))
behind_going before (w ∷ later) zero c within = refl
behind_going before (w ∷ later) (suc k) c within = behind_going (before ++ w ∷ []) later k c (omega (arith, within))

-- who has seen the day over has seen what it has come to
pub seen_over : (records : List WindowRecord) (all seen : List Counts) (c : Counts) → all ≡ publishings_of records → StartsWith all seen → c ≡ last_of seen → c.over ≡ true → c ≡ as_over (counts_of records)
seen_over records all seen c published starts is over =
    is
    ∙ only_over nothing (counts_each records) seen (as_over (last_of (counts_each records))) refl (behind_going [] records) (subst (λ xs. StartsWith xs seen) published starts) (ap (λ (x : Counts). x.over) (sym is) ∙ over)
    ∙ ap as_over (last_counts records)

drop_front : (before : List WindowRecord) (closed : WindowRecord) → drop (length before) (before ++ closed ∷ []) ≡ closed ∷ []
drop_front [] closed = refl
drop_front (w ∷ before) closed = drop_front before closed

-- behind the windows before, the last one alone is left
last_alone : (records before slice : List WindowRecord) (closed : WindowRecord) (n : ℕ) → records ≡ before ++ closed ∷ [] → slice ≡ records → n ≡ length records → take (length slice - (n - 1)) (drop (n - 1) slice) ≡ closed ∷ []
last_alone records before slice closed n more same count =
    let all : slice ≡ before ++ closed ∷ [] = same ∙ more in
    let size : length slice ≡ suc (length before) = ap (λ rs. length rs) all ∙ length_more before closed in
    let size_too : n ≡ suc (length before) = count ∙ ap (λ rs. length rs) more ∙ length_more before closed in
    let front : n - 1 ≡ length before = omega (arith, size_too) in
    let one : length slice - (n - 1) ≡ 1 = omega (arith, size, size_too) in
    ap₂ (λ k xs. take k xs) one (ap₂ (λ k xs. drop k xs) front all ∙ drop_front before closed)

-- the runs of the last window come to those that were counted before
pub counts_added : (list : List Counts) (last : Counts) (records before slice : List WindowRecord) (closed : WindowRecord) (n committed aborted : ℕ)
    → last ≡ last_of list → list ≡ counts_each before → records ≡ before ++ closed ∷ [] → slice ≡ records → n ≡ length records
    → committed ≡ commit_count (take (length slice - (n - 1)) (drop (n - 1) slice)) → aborted ≡ abort_count (take (length slice - (n - 1)) (drop (n - 1) slice))
    → (last.committed + committed ≡ commit_count records) × (last.aborted + aborted ≡ abort_count records)
unfolding commit_count abort_count
counts_added list last records before slice closed n committed aborted last_is told more same count commits aborts =
    let so_far : last ≡ counts_of before = last_is ∙ ap last_of told ∙ last_counts before in
    let alone = last_alone records before slice closed n more same count in (
      ap₂ (λ a b. a + b) (ap (λ (c : Counts). c.committed) so_far) (commits ∙ ap commit_count alone) ∙ sym (ap commit_count more ∙ sum_apart (λ (w : WindowRecord). count_by (λ kept. is_commit kept.entry) w.history.items) before closed),
      ap₂ (λ a b. a + b) (ap (λ (c : Counts). c.aborted) so_far) (aborts ∙ ap abort_count alone) ∙ sym (ap abort_count more ∙ sum_apart (λ (w : WindowRecord). count_by (λ kept. is_abort kept.entry) w.history.items) before closed),
    )

-- so they are what the day has come to
pub counts_are : (records : List WindowRecord) (n committed aborted : ℕ) → n ≡ length records → committed ≡ commit_count records → aborted ≡ abort_count records
    → record { windows = n; runs = committed + aborted; committed = committed; aborted = aborted; over = false } ≡ counts_of records
counts_are records n committed aborted count commits aborts i = record { windows = count i; runs = commits i + aborts i; committed = commits i; aborted = aborts i; over = false }

-- the windows before are fewer
pub before_fewer : (list : List Counts) (records before : List WindowRecord) (closed : WindowRecord) (n : ℕ) → list ≡ counts_each before → records ≡ before ++ closed ∷ [] → n ≡ length records → (last_of list).windows ≤ n
before_fewer list records before closed n told more count =
    let so_far : (last_of list).windows ≡ length before = ap (λ (c : Counts). c.windows) (ap last_of told ∙ last_counts before) in
    let size : n ≡ suc (length before) = count ∙ ap (λ rs. length rs) more ∙ length_more before closed in
    omega (arith, so_far, size)

-- the windows that are handed back are those that were told of
pub told_back : {D : Type 0} (told : Option (List Counts)) (o : Option (Day D)) (records : List WindowRecord) → IsToldOf told records → HandsBack o records → IsToldOfDay told o
told_back told o records is back = record { day = back.0; given = back.1; told_of = subst (λ rs. IsToldOf told rs) (sym back.2) is }

-- what was told on a board, with the last of it as over, is what is published
pub published_back : {D : Type 0} (list all : List Counts) (o : Option (Day D)) → IsToldOfDay (Some list) o → all ≡ list ++ as_over (last_of list) ∷ [] → IsPublished all o
published_back list all o told is = record { day = told.day; given = told.given; published = is ∙ ap (λ xs. xs ++ as_over (last_of xs) ∷ []) told.told_of }

-- the line of what was seen is that of the day, once it is over
pub seen_counts : {D : Type 0} (all seen : List Counts) (c : Counts) (o : Option (Day D)) → IsPublished all o → StartsWith all seen → c ≡ last_of seen → c.over ≡ true → (d : Day D) → o ≡ Some d → board_line c ≡ board_text d.windows.items
unfolding board_line
seen_counts {D = D} all seen c o published starts is over d given =
    let same : published.day ≡ d = let both : Some published.day ≡ Some d = sym published.given ∙ given in cc in
    subst (λ (x : Day D). board_line c ≡ board_text x.windows.items) same (ap (λ (x : Counts). board_line x) (seen_over published.day.windows.items all seen c published.published starts is over))
