-- The runs outside of a set that do not fit, as slots and table tell them.
use Rattle.timeline_scheduler.proofs.Prelude.{Access, Alone, Back, Bool, Command, EachTail, Facts, Failed, Fcfs, Grips, HoldsTimes, IsClosed, IsPart, Item, JustInTime, LineageState, List, None, Option, Planned, Planning, Ran, Reading, RunNo, Setting, Slot, Some, Timeline, [], access_of, accesses_at, alone, any_range, ap, append_assoc, ap₂, arith, chosen, commands_of, common_steps, cond, covers, device_numbers, devices_among, devices_of, did, either_of, eq-eqb, false, filter, fold, follows, free, greatest, has_written, if◌then◌else◌, is_committed, is_live, is_misfit, is_next_on, is_on, length, list_any, list_any-append, map, max, meet, min, nat_lt, not, of_one_device, of_run, or_left, or_right, overlaps, passed_by, plan_behind, plan_more, planned_end, planned_start, planned_times, range_with_len, refl, scheduler_of, slot_at, subst, suc, sym, touches, true, written_did, written_touches, zero, ℕ, ◌&&◌, ◌++◌, ◌+◌, ◌<◌, ◌==◌, ◌||◌, ◌∙◌, ◌∷◌, ◌≡◌, ◌≤◌}
use Rattle.history_book.specs.Gaps.{base_flags, is_needed, is_overlapped}
use Rattle.home_types.specs.declared.modes.Scheduler.{Scheduler}
use Rattle.lock_leasing.specs.Tables.{uses}
use Rattle.timeline_scheduler.proofs.Frees.{AreOfLine, Found, Other, Own, found_in}
use Rattle.timeline_scheduler.proofs.HeldTimes.{planned_in_slot}

-- Plans

-- two plans that wait alike for the devices of the commands are one
plan_alike : (a b : ℕ → ℕ) (cs : List Command) (p : Planning) → ((d : ℕ) → list_any (is_on d) cs ≡ true → a d ≡ b d) → fold (plan_more a) p cs ≡ fold (plan_more b) p cs
plan_alike a b [] p same = refl
plan_alike a b (c ∷ cs) p same =
    ap (λ k. fold (plan_more a) (record {
      clock = min (max p.clock k + c.ms) greatest;
      planned = p.planned ++ record { device = c.device.0; from = max p.clock k; to = min (max p.clock k + c.ms) greatest } ∷ [];
    }) cs) (same c.device.0 (or_left (c.device.0 == c.device.0) (list_any (is_on c.device.0) cs) (eq-eqb c.device.0 c.device.0 refl)))
    ∙ plan_alike a b cs (plan_more b p c) (λ d on. same d (or_right (c.device.0 == d) (list_any (is_on d) cs) on))

-- the devices that are planned are those of the commands
plan_devices : (a : ℕ → ℕ) (d : ℕ) (cs : List Command) (p : Planning) → list_any (λ x. x.device == d) (fold (plan_more a) p cs).planned ≡ (list_any (λ x. x.device == d) p.planned || list_any (is_on d) cs)
plan_devices a d [] p = last (list_any (λ x. x.device == d) p.planned)
  where
    last : (b : Bool) → b ≡ (b || false)
    last true = refl
    last false = refl
plan_devices a d (c ∷ cs) p =
    plan_devices a d cs (plan_more a p c)
    ∙ ap (λ b. b || list_any (is_on d) cs) (list_any-append (λ (x : Planned). x.device == d) p.planned _)
    ∙ both (list_any (λ x. x.device == d) p.planned) (c.device.0 == d) (list_any (is_on d) cs)
  where
    both : (x y z : Bool) → ((x || (y || false)) || z) ≡ (x || (y || z))
    both true y z = refl
    both false true z = refl
    both false false z = refl

-- behind these items the slots plan as the timeline does
pub times_told : (w : Setting) (n : Reading) (r m : ℕ) (front : List Item) (slots : List Slot) → scheduler_of w.mode ≡ Timeline → ((d : ℕ) → touches w.runs r d ≡ true → (slot_at slots d).free ≡ free w n r front d)
    → plan_behind slots (commands_of w.runs r) m ≡ planned_times w n r front m
times_told w n r m front slots timed told =
    ap (λ (p : Planning). p.planned) (plan_alike (λ d. (slot_at slots d).free) (free w n r front) (commands_of w.runs r) (record { clock = m; planned = [] }) told)
    ∙ ap (λ s. (fold (plan_more (waits s)) (record { clock = m; planned = [] }) (commands_of w.runs r)).planned) (sym timed)
  where
    waits : Scheduler → ℕ → ℕ
    waits Fcfs d = 0
    waits JustInTime d = 0
    waits Timeline d = free w n r front d

-- Sets

-- what must stand before the run is in the base
pub needed_based : (live needed : Item → Bool) (is : List Item) → IsPart (map needed is) (base_flags live needed is)
unfolding IsPart
needed_based live needed [] = tt
needed_based live needed (i ∷ is) = by_live (live i) (needed_based live needed is)
  where
    itself : (js : List Item) → IsPart (map needed js) (map needed js)
    itself [] = tt
    itself (j ∷ js) = (λ e. e, itself js)

    by_live : (b : Bool) → IsPart (map needed is) (base_flags live needed is) → IsPart (map needed (i ∷ is)) (if b then map needed (i ∷ is) else true ∷ base_flags live needed is)
    by_live true rest = itself (i ∷ is)
    by_live false rest = (λ e. refl, rest)

-- where some item is needed and meets, some item of a set with all that are needed meets
met_in : (meets needed covering : Item → Bool) (bs : List Bool) (is : List Item) → ((j : Item) → covering j ≡ true → (needed j ≡ true) × (meets j ≡ true)) → IsPart (map needed is) bs → list_any covering is ≡ true → list_any meets (chosen bs is) ≡ true
unfolding IsPart chosen
met_in meets needed covering bs [] both part some = absurd (cc)
met_in meets needed covering [] (j ∷ is) both part some = elim part [ ]
met_in meets needed covering (b ∷ bs) (j ∷ is) both part some = by_flag b (covering j) refl part.0 (met_in meets needed covering bs is both part.1) some
  where
    by_flag : (b c : Bool) → covering j ≡ c → (needed j ≡ true → b ≡ true) → (list_any covering is ≡ true → list_any meets (chosen bs is) ≡ true) → (c || list_any covering is) ≡ true → list_any meets (if b then j ∷ chosen bs is else chosen bs is) ≡ true
    by_flag true true here in' rest some = or_left (meets j) (list_any meets (chosen bs is)) (both j here).1
    by_flag true false none in' rest some = or_right (meets j) (list_any meets (chosen bs is)) (rest some)
    by_flag false true here in' rest some = absurd (clash (in' (both j here).0))
      where
        clash : false ≡ true → ⊥
        clash e = cc
    by_flag false false none in' rest some = rest some

-- Misfits

module _ (w : Setting) (n : Reading) (g : Grips) (f : Facts w n g) (r : ℕ) (table : List LineageState) (slots : List Slot) (planned : List Planned) (size : length slots ≡ length w.first)
    (lines : (d : ℕ) → d < length w.first → AreOfLine w n g d (accesses_at table d))
    (held : (d : ℕ) → touches w.runs r d ≡ true → (slot_at slots d).planned ≡ Some (planned_start planned d, planned_end planned d)) where
  -- a committed writer of a device of the run must stand before it, and meets a run on the device
  writer_needed : (x d : ℕ) → d < length w.first → touches w.runs r d ≡ true → touches w.runs x d ≡ true → (j : Item) → covers n d j ≡ true → (is_needed w n r j ≡ true) × (meet w.runs (Ran (record { 0 = x })) j ≡ true)
  writer_needed x d within own on (Ran y) covering =
      let wrote : has_written n y.0 d ≡ true = grind (arith, common_steps) in (
        or_left (list_any (λ e. did n y.0 e || (is_live n y.0 && is_next_on w n y.0 e)) (devices_of w r)) (follows w.runs r y.0 && is_committed n y.0)
            (among (λ e. did n y.0 e || (is_live n y.0 && is_next_on w n y.0 e)) (or_left (did n y.0 d) (is_live n y.0 && is_next_on w n y.0 d) (written_did w n g y.0 d f wrote))),
        of_one_device w.runs d (Ran (record { 0 = x })) (Ran y) on (written_touches w n g y.0 d f wrote),
      )
    where
      among : (p : ℕ → Bool) → p d ≡ true → list_any p (devices_of w r) ≡ true
      among p holds = filtered p (device_numbers w) (any_range (λ e. touches w.runs r e && p e) 0 (length w.first) d (omega arith) (omega (arith, within)) (ap₂ (λ a b. a && b) own holds))
        where
          filtered : (q : ℕ → Bool) (xs : List ℕ) → list_any (λ e. touches w.runs r e && q e) xs ≡ true → list_any q (filter (touches w.runs r) xs) ≡ true
          filtered q [] some = absurd (cc)
          filtered q (e ∷ xs) some = at (touches w.runs r e) some (filtered q xs)
            where
              at : (b : Bool) → ((b && q e) || list_any (λ k. touches w.runs r k && q k) xs) ≡ true → (list_any (λ k. touches w.runs r k && q k) xs ≡ true → list_any q (filter (touches w.runs r) xs) ≡ true)
                  → list_any q (cond b (e ∷ filter (touches w.runs r) xs) (filter (touches w.runs r) xs)) ≡ true
              at true some rest = by_head (q e) some
                where
                  by_head : (c : Bool) → (c || list_any (λ k. touches w.runs r k && q k) xs) ≡ true → (c || list_any q (filter (touches w.runs r) xs)) ≡ true
                  by_head true some = refl
                  by_head false some = rest some
              at false some rest = rest some
  writer_needed x d within own on (Failed e k) covering = absurd (cc)
  writer_needed x d within own on (Back e k) covering = absurd (cc)

  module _ (x : RunNo) (front is : List Item) (bs : List Bool) (cut : n.line ≡ front ++ Ran x ∷ is) (outside : list_any (meet w.runs (Ran x)) (chosen bs is) ≡ false) (holds : IsPart (map (is_needed w n r) is) bs) where
    once : EachTail Alone (front ++ Ran x ∷ is)
    once = subst (EachTail Alone) cut (alone n f.once)

    -- it has no access only where it does not use the device
    uncovered : (d : ℕ) → d < length w.first → touches w.runs r d ≡ true → (uses w n d x.0 && not (list_any (covers n d) is)) ≡ uses w n d x.0
    uncovered d within own = at (uses w n d x.0) (list_any (covers n d) is) refl refl
      where
        touched : uses w n d x.0 ≡ true → touches w.runs x.0 d ≡ true
        touched used = grind (arith, common_steps)

        at : (u c : Bool) → uses w n d x.0 ≡ u → list_any (covers n d) is ≡ c → (u && not c) ≡ u
        at false c e h = refl
        at true false e h = refl
        at true true e h =
            let met = met_in (meet w.runs (Ran x)) (is_needed w n r) (covers n d) bs is (writer_needed x.0 d within own (touched e)) holds h in
            absurd (cc (met, outside))

    abbrev starts : ℕ → Bool
    starts d = touches w.runs x.0 d && not (passed_by w n x.0 d) && nat_lt (planned_start (n.run x.0).planned d) (planned_end planned d)

    -- on one device of the run
    overlap_is : (d : ℕ) → d < length w.first → touches w.runs r d ≡ true → overlaps (slot_at slots d) (access_of x.0 (accesses_at table d)) ≡ (is_live n x.0 && starts d)
    overlap_is d within own = by_access (found_in w n g d x front is (accesses_at table d) cut once (lines d within))
      where
        late : Bool
        late = nat_lt (planned_start (n.run x.0).planned d) (planned_end planned d)

        used_so : (l t p b : Bool) → (l && t && not p) ≡ true → b ≡ (l && (t && not p && b))
        used_so l t p b e = grind (arith, common_steps)

        not_used : (l t p b : Bool) → (l && t && not p) ≡ false → false ≡ (l && (t && not p && b))
        not_used l t p b e = grind (arith, common_steps)

        by_span : Access → Option (ℕ × ℕ) → Bool
        by_span a None = false
        by_span a (Some used) = nat_lt a.from used.1

        by_access : Found w n g d x.0 is (accesses_at table d) → overlaps (slot_at slots d) (access_of x.0 (accesses_at table d)) ≡ (is_live n x.0 && starts d)
        by_access (Own a rest found has its tells) =
            ap (overlaps (slot_at slots d)) found ∙ ap (λ o. by_span a o) (held d own) ∙ ap (λ k. nat_lt k (planned_end planned d)) (tells.from ∙ ap (λ k. planned_start (n.run k).planned d) its)
            ∙ used_so (is_live n x.0) (touches w.runs x.0 d) (passed_by w n x.0 d) late (sym (uncovered d within own) ∙ has)
        by_access (Other none lacks) = ap (overlaps (slot_at slots d)) none ∙ not_used (is_live n x.0) (touches w.runs x.0 d) (passed_by w n x.0 d) late (sym (uncovered d within own) ∙ lacks)

    -- on all
    pub misfit_is : is_misfit table w.runs r slots x.0 ≡ is_overlapped w n r planned (Ran x)
    misfit_is = ap (λ k. list_any (λ d. overlaps (slot_at slots d) (access_of x.0 (accesses_at table d))) (devices_among w.runs r k)) size ∙ along 0 (length w.first) (omega arith) ∙ apart (is_live n x.0) (devices_of w r)
      where
        along : (a k : ℕ) → a + k ≤ length w.first → list_any (λ d. overlaps (slot_at slots d) (access_of x.0 (accesses_at table d))) (filter (touches w.runs r) (range_with_len a k)) ≡ list_any (λ d. is_live n x.0 && starts d) (filter (touches w.runs r) (range_with_len a k))
        along a zero inside = refl
        along a (suc k) inside = by_test (touches w.runs r a) refl (along (a + 1) k (omega (arith, inside)))
          where
            by_test : (b : Bool) → touches w.runs r a ≡ b → list_any (λ d. overlaps (slot_at slots d) (access_of x.0 (accesses_at table d))) (filter (touches w.runs r) (range_with_len (a + 1) k)) ≡ list_any (λ d. is_live n x.0 && starts d) (filter (touches w.runs r) (range_with_len (a + 1) k))
                → list_any (λ d. overlaps (slot_at slots d) (access_of x.0 (accesses_at table d))) (cond b (a ∷ filter (touches w.runs r) (range_with_len (a + 1) k)) (filter (touches w.runs r) (range_with_len (a + 1) k)))
                ≡ list_any (λ d. is_live n x.0 && starts d) (cond b (a ∷ filter (touches w.runs r) (range_with_len (a + 1) k)) (filter (touches w.runs r) (range_with_len (a + 1) k)))
            by_test true own rest = ap₂ (λ p q. p || q) (overlap_is a (omega (arith, inside)) own) rest
            by_test false none rest = rest

        apart : (l : Bool) (ds : List ℕ) → list_any (λ d. l && starts d) ds ≡ (l && list_any starts ds)
        apart l [] = sym (last l)
          where
            last : (b : Bool) → (b && false) ≡ false
            last true = refl
            last false = refl
        apart l (d ∷ ds) = ap (λ b. (l && starts d) || b) (apart l ds) ∙ join l (starts d) (list_any starts ds)
          where
            join : (a b c : Bool) → ((a && b) || (a && c)) ≡ (a && (b || c))
            join a b c = grind (arith, common_steps)

  -- the items outside of a closed set that holds what must stand before the run: those that do not fit are those that overlap
  along_line : (front is : List Item) (bs : List Bool) → n.line ≡ front ++ is → IsClosed (meet w.runs) bs is → IsPart (map (is_needed w n r) is) bs
      → either_of bs (map (of_run (is_misfit table w.runs r slots)) is) ≡ either_of bs (map (is_overlapped w n r planned) is)
  unfolding IsClosed IsPart either_of
  along_line front [] [] cut closed holds = refl
  along_line front [] (b ∷ bs) cut closed holds = elim holds [ ]
  along_line front (i ∷ is) [] cut closed holds = elim holds [ ]
  along_line front (i ∷ is) (true ∷ bs) cut closed holds = ap (λ l. true ∷ l) (along_line (front ++ i ∷ []) is bs (cut ∙ sym (append_assoc front (i ∷ []) is)) closed.1 holds.1)
  along_line front (i ∷ is) (false ∷ bs) cut closed holds = ap₂ (λ b l. b ∷ l) (here i cut (closed.0 refl)) (along_line (front ++ i ∷ []) is bs (cut ∙ sym (append_assoc front (i ∷ []) is)) closed.1 holds.1)
    where
      here : (j : Item) → n.line ≡ front ++ j ∷ is → list_any (meet w.runs j) (chosen bs is) ≡ false → of_run (is_misfit table w.runs r slots) j ≡ is_overlapped w n r planned j
      here (Ran x) there none = misfit_is x front is bs there none holds.1
      here (Failed e k) there none = refl
      here (Back e k) there none = refl

  pub misfits_are : (bs : List Bool) → IsClosed (meet w.runs) bs n.line → IsPart (map (is_needed w n r) n.line) bs
      → either_of bs (map (of_run (is_misfit table w.runs r slots)) n.line) ≡ either_of bs (map (is_overlapped w n r planned) n.line)
  misfits_are bs closed holds = along_line [] n.line bs refl closed holds

-- the devices of the run have the times that are planned there
pub times_held : (w : Setting) (n : Reading) (r m : ℕ) (front : List Item) (slots : List Slot) → HoldsTimes slots (planned_times w n r front m) → (d : ℕ) → touches w.runs r d ≡ true
    → (slot_at slots d).planned ≡ Some (planned_start (planned_times w n r front m) d, planned_end (planned_times w n r front m) d)
times_held w n r m front slots holds d on =
    sym (planned_in_slot slots d) ∙ holds d
    ∙ ap (λ b. if b then Some (planned_start (planned_times w n r front m) d, planned_end (planned_times w n r front m) d) else None) (plan_devices (waits (scheduler_of w.mode)) d (commands_of w.runs r) (record { clock = m; planned = [] }) ∙ on)
  where
    waits : Scheduler → ℕ → ℕ
    waits Fcfs e = 0
    waits JustInTime e = 0
    waits Timeline e = free w n r front e
