-- A day that is kept: one window more, and how it ends.
use Rattle.hub_commands.proofs.Prelude.{AddsStates, Bool, Check, Cross, Damaged, Day, DayCourse, DayEndsOn, DevicesAreProbed, Disk, Fault, HandsAllBack, HasEndedKept, HasGoneOn, HomeState, IsDiskLeft, IsGoingOn, IsJournalSoFar, IsLegalCutDayFrom, IsUnkeptOn, JournalState, KeepsAtLeast, KeepsFirst, KeptDayEnds, Kind, LeavesFirst, List, Listed, Memory, None, Ok, Option, Options, Read, Script, Shown, Some, Stand, WindowRecord, WindowWay, Words, Write, Writes, [], ap, append-nil, append_assoc, arith, inl, inr, kinds_of, last_states, length, length-drop, length-map, plain, refl, states_kept, subst, sym, true, windows_behind, windows_of, ℕ, ◌++◌, ◌+◌, ◌-◌, ◌<◌, ◌∙◌, ◌∷◌, ◌≡◌, ◌≤◌, ◌⊎◌}
use Rattle.slot_disks.proofs.Cited.{then_on, weaker}
use Rattle.slot_disks.specs.Disks.{LeavesOnly, LeavesThis}
use Rattle.home_journal.specs.KeptStates.{kept_states}
use Rattle.hub_commands.proofs.DaysUnderWay.{cut_is_legal}
use Rattle.hub_commands.proofs.KeptStates.{all_kept, first_kept, next_kept, states_more, surely_few}
use Rattle.hub_commands.proofs.Snocs.{length_more}
use Rattle.hub_commands.specs.declared.faults.Fault.TheVariants.{Script as Refuses}

-- what ends without a failing disk
pub day_kept : {D : Type 0} (works : WindowWay) (shows : D → Shown) (course : DayCourse) (options : Options) (sink : Writes) (day : Option (Day D)) (fault : Option Fault)
    → DayEndsOn works shows plain course options sink day fault → KeptDayEnds works shows course options sink day fault
day_kept works shows course options sink day None ends = ends
day_kept works shows course options sink day (Some (Refuses fault)) ends = ends
day_kept works shows course options sink day (Some Words) ends = ends
day_kept works shows course options sink day (Some Read) ends = ends
day_kept works shows course options sink day (Some Write) ends = ends
day_kept works shows course options sink day (Some Memory) ends = ends
day_kept works shows course options sink day (Some (Check window place name)) ends = ends
day_kept works shows course options sink day (Some (Cross window run follow)) ends = ends
day_kept works shows course options sink day (Some Disk) ends = absurd ends
day_kept works shows course options sink day (Some (Damaged slot)) ends = ends

no_disk : {D : Type 0} (works : WindowWay) (shows : D → Shown) (course : DayCourse) (options : Options) (sink : Writes) (day : Option (Day D)) (fault : Option Fault)
    → DayEndsOn works shows plain course options sink day fault → fault ≡ Some Disk → ⊥
no_disk works shows course options sink day fault ends is = subst (λ (w : Option Fault). DayEndsOn works shows plain course options sink day w) is ends

-- where all windows behind so many are there
pub behind_all : (script : Script) (before n : ℕ) → n ≡ length script.windows.items - before → n ≡ length (windows_behind before script).windows.items
behind_all script before n is = is ∙ sym (length-drop before script.windows.items)

module _ {Q : Type 0} (told : Bool) (seen : Q → List ℕ) (images : Q → List ℕ → Type 0) (moment : Q → ℕ) (since : Q → ℕ → List ℕ → Type 0) (failures : Q → ℕ) (script : Script) (before : ℕ) where
  abbrev kinds : List Kind
  kinds = kinds_of script

  abbrev most : ℕ
  most = length script.windows.items

  -- a crash leaves what the disk had first, or the states found and the first of these
  abbrev Leaves : Q → List (List Stand) → List (List Stand) → List ℕ → Type 0
  Leaves first homes added c = images first c ⊎ KeepsFirst kinds most homes added c

  -- no window was kept yet
  pub starts_kept : (journal : JournalState Q) (records : List WindowRecord) → ((disk : Q) (c : List ℕ) → since disk (moment disk) c → images disk c)
      → records ≡ [] → journal.kinds ≡ kinds → journal.most ≡ most → journal.kept ≡ before
      → IsJournalSoFar told seen images moment since failures script before journal.disk records journal
  starts_kept journal records only_now none kinds_are most_is count =
      subst (λ rs. IsJournalSoFar told seen images moment since failures script before journal.disk rs journal) (sym none) (record {
        kinds = kinds_are;
        most = most_is;
        counts = omega (arith, count);
        later = omega arith;
        disk = λ is homes kept. (
          kept ∙ ap Ok (sym (append-nil homes)),
          record { later = omega arith; each = λ c left. inl (only_now journal.disk c left); before = λ t c le left. inl left },
        );
      })

  module _ (first : Q) (records : List WindowRecord) (old : JournalState Q) (so : IsJournalSoFar told seen images moment since failures script before first records old)
      (more : List WindowRecord) (closed : WindowRecord) (all : more ≡ records ++ closed ∷ []) (state : List Stand) (is : state ≡ closed.last.devices.items) where
    -- the states with the new one
    states_with : last_states records ++ state ∷ [] ≡ last_states more
    states_with = ap (λ s. last_states records ++ s ∷ []) is ∙ sym (states_more records closed) ∙ ap last_states (sym all)

    kept_old : (homes : List (List Stand)) → kept_states kinds most (seen old.disk) ≡ Ok (homes ++ last_states records) → states_kept seen old ≡ Ok (homes ++ last_states records)
    kept_old homes kept = (λ t. kept_states (so.kinds t) (so.most t) (seen old.disk)) ∙ kept

    -- while it is kept a crash leaves those before, and the new one or not
    step_kept : (homes : List (List Stand)) (c : List ℕ) → KeepsFirst old.kinds old.most (homes ++ last_states records) (state ∷ []) c → KeepsAtLeast kinds most homes (last_states more) (length (last_states records)) c
    step_kept homes c left =
        subst (λ l. KeepsAtLeast kinds most homes l (length (last_states records)) c) states_with
        (next_kept kinds most homes (last_states records) state c (left.0, (λ t. kept_states (sym so.kinds t) (sym so.most t) c) ∙ left.1))

    old_left : (homes : List (List Stand)) (c : List ℕ) → Leaves first homes (last_states records) c → Leaves first homes (last_states more) c
    old_left homes c (inl image) = inl image
    old_left homes c (inr kept) = inr (subst (λ l. KeepsFirst kinds most homes l c) states_with (first_kept kinds most homes (last_states records) (state ∷ []) c kept))

    new_left : (homes : List (List Stand)) (c : List ℕ) → KeepsFirst old.kinds old.most (homes ++ last_states records) (state ∷ []) c → Leaves first homes (last_states more) c
    new_left homes c left = let at_least = step_kept homes c left in inr (at_least.0, at_least.2)

    -- a crash at any moment until then
    left_more : told ≡ true → (now : Q) → LeavesFirst seen moment since old now (state ∷ []) → (homes : List (List Stand)) → kept_states kinds most (seen first) ≡ Ok homes
        → LeavesOnly moment since first now (Leaves first homes (last_states more))
    left_more true_told now any homes kept =
        let was = so.disk true_told homes kept in
        then_on moment since first old.disk now (Leaves first homes (last_states more))
        (weaker moment since first old.disk (Leaves first homes (last_states records)) (Leaves first homes (last_states more)) (old_left homes) was.1)
        (weaker moment since old.disk now (KeepsFirst old.kinds old.most (homes ++ last_states records) (state ∷ [])) (Leaves first homes (last_states more)) (new_left homes)
        (any (homes ++ last_states records) (kept_old homes was.0)))

    -- the journal keeps one state more
    pub kept_more : (new : JournalState Q) → new.kinds ≡ old.kinds → new.most ≡ old.most → new.kept ≡ old.kept + 1 → failures old.disk ≤ failures new.disk
        → (told ≡ true → AddsStates (states_kept seen old) (states_kept seen new) (state ∷ [])) → (told ≡ true → LeavesFirst seen moment since old new.disk (state ∷ []))
        → IsJournalSoFar told seen images moment since failures script before first more new
    kept_more new same_kinds same_most count later adds any = record {
      kinds = same_kinds ∙ so.kinds;
      most = same_most ∙ so.most;
      counts = let n = ap (λ rs. length rs) all in omega (arith, count, so.counts, n, length_more records closed);
      later = omega (arith, later, so.later);
      disk = λ true_told homes kept.
          let was = so.disk true_told homes kept in (
            (λ t. kept_states (sym (same_kinds ∙ so.kinds) t) (sym (same_most ∙ so.most) t) (seen new.disk))
                ∙ adds true_told (homes ++ last_states records) (kept_old homes was.0)
                ∙ ap Ok (append_assoc homes (last_states records) (state ∷ []) ∙ ap (λ l. homes ++ l) states_with),
            left_more true_told new.disk (any true_told) homes kept,
          );
    }

    -- the disk failed as it was to be kept
    pub unkept_left : ((disk : Q) (t : ℕ) (c : List ℕ) → t ≤ moment disk → images disk c → since disk t c) → (now : Q) → (told ≡ true → LeavesFirst seen moment since old now (state ∷ []))
        → told ≡ true → (homes : List (List Stand)) → kept_states kinds most (seen first) ≡ Ok homes → IsDiskLeft seen images moment since kinds most homes first now more (Some Disk)
    unkept_left counts_now now any true_told homes kept =
        let was = so.disk true_told homes kept in
        let run = any true_told (homes ++ last_states records) (kept_old homes was.0) in
        record {
          any_moment = left_more true_told now (any true_told) homes kept;
          durable = λ c left.
              let at_least = step_kept homes c (run.each c (counts_now now (moment old.disk) c run.later left)) in
              let n = ap (λ rs. length rs) all in (
                at_least.0,
                omega (arith, at_least.1, n, length_more records closed, length-map records (λ (r : WindowRecord). r.last.devices.items)),
                at_least.2,
              );
        }

  -- the journal is handed back with all states kept
  pub all_left : (first now : Q) (records : List WindowRecord) (journal : JournalState Q) (fault : Option Fault) → IsJournalSoFar told seen images moment since failures script before first records journal
      → now ≡ journal.disk → (told ≡ true → LeavesThis (seen now) (images now))
      → told ≡ true → (homes : List (List Stand)) → kept_states kinds most (seen first) ≡ Ok homes → IsDiskLeft seen images moment since kinds most homes first now records fault
  all_left first now records journal fault so same durable true_told homes kept =
      let was = so.disk true_told homes kept in record {
        any_moment = subst (λ d. LeavesOnly moment since first d (Leaves first homes (last_states records))) (sym same) was.1;
        durable = λ c left.
            let here : c ≡ seen journal.disk = durable true_told c left ∙ ap seen same in
            let at_least = all_kept kinds most homes (last_states records) c (ap (λ b. kept_states kinds most b) here ∙ was.0) in (
              at_least.0,
              omega (arith, at_least.1, surely_few fault (length records), length-map records (λ (r : WindowRecord). r.last.devices.items)),
              at_least.2,
            );
      }

  module _ {D : Type 0} (works : WindowWay) (shows : D → Shown) (course : DayCourse) (options : Options) where
    -- a day that has ended without a failing disk
    pub ended_kept : (sink : Writes) (first now : Q) (records : List WindowRecord) (journal : JournalState Q) (day : Option (Day D)) (fault : Option Fault)
        → IsJournalSoFar told seen images moment since failures script before first records journal → now ≡ journal.disk → (told ≡ true → LeavesThis (seen now) (images now))
        → DayEndsOn works shows plain course options sink day fault → windows_of day ≡ records
        → HasEndedKept works shows told seen images moment since failures script course options sink first now day fault
    ended_kept sink first now records journal day fault so same durable ends windows = record {
      ends = day_kept works shows course options sink day fault ends;
      later = subst (λ d. failures first ≤ failures d) (sym same) so.later;
      failed = λ is. absurd (no_disk works shows course options sink day fault ends is);
      disk = λ true_told homes kept. subst (λ rs. IsDiskLeft seen images moment since kinds most homes first now rs fault) (sym windows)
          (all_left first now records journal fault so same durable true_told homes kept);
    }

    -- a day whose last window may not be kept
    pub ended_unkept : (sink : Writes) (first now : Q) (home next : HomeState D) (records : List WindowRecord) (windows : Listed WindowRecord) (journal : JournalState Q) (day : Option (Day D)) (fault : Option Fault)
        → ((disk : Q) (t : ℕ) (c : List ℕ) → t ≤ moment disk → images disk c → since disk t c)
        → IsGoingOn works shows course options sink home records → IsJournalSoFar told seen images moment since failures script before first records journal
        → HasGoneOn works shows course options.mode records next windows.items
        → (state : List Stand) → ((closed : WindowRecord) → windows.items ≡ records ++ closed ∷ [] → state ≡ closed.last.devices.items)
        → (told ≡ true → LeavesFirst seen moment since journal now (state ∷ [])) → failures journal.disk < failures now
        → HandsAllBack next.devices windows day → fault ≡ Some Disk
        → HasEndedKept works shows told seen images moment since failures script course options sink first now day fault
    ended_unkept sink first now home next records windows journal day fault counts_now going so gone state last any failed back is =
        subst (λ (f : Option Fault). HasEndedKept works shows told seen images moment since failures script course options sink first now day f) (sym is)
        (subst (λ (o : Option (Day D)). HasEndedKept works shows told seen images moment since failures script course options sink first now o (Some Disk)) (sym back.2) (record {
          ends = unkept;
          later = let was = so.later in omega (arith, was, failed);
          failed = λ disk. let was = so.later in omega (arith, was, failed);
          disk = λ true_told homes kept. unkept_left first records journal so windows.items gone.closed gone.more state (last gone.closed gone.more) counts_now now any true_told homes kept;
        }))
      where
        unkept : IsUnkeptOn works shows course options sink (Some (record { windows = windows; devices = Some back.0 }))
        unkept = record {
          day = record { windows = windows; devices = Some back.0 };
          given = refl;
          devices = back.0;
          there = refl;
          legal = subst (λ ds. IsLegalCutDayFrom shows course.begins options.mode windows.items ds) (sym back.1)
              (cut_is_legal works shows course options.mode next windows.items gone.under_way);
          takes = gone.under_way.takes;
          played = gone.under_way.played;
          probed = subst (λ ds. DevicesAreProbed shows gone.under_way.takes ds) (sym back.1) gone.under_way.probed;
          before = records;
          unkept = gone.closed;
          last = gone.more;
          text = going.text;
          calm = going.calm;
        }
