-- The rounds in which the set of a run grows: in each configuration to which the parts belong the last one is the timeline's.
use Rattle.timeline_scheduler.proofs.Prelude.{Bool, Configuration, HoldsTimes, IsClosed, IsLeast, IsPart, IsStandingOf, List, Mark, ScratchRoom, Slot, Timeline, WindowParts, accesses_at, ap, arith, bars_rise, chosen, closure, closure_closed, closure_holds, closure_least, closure_size, commands_of, count_by, doom_is, doom_of, either_first, either_in, either_of, either_second, either_size, facts_of, free, gap_is_earliest, gap_least, is_doomed, is_live, is_misfit, is_some, items_of, length, length-map, map, map_part, meet, not, of_run, part_of_part, plan_behind, planned_times, read_of, refl, same_least, scheduler_of, seeds, slot_at, slots_behind, subst, sym, touches, true, ℕ, ◌<◌, ◌∙◌, ◌≡◌, ◌≤◌}
use Rattle.history_book.specs.Gaps.{bars, base_of, gap_set, is_needed}
use Rattle.lock_leasing.specs.Places.{IsEarliestSet}
use Rattle.timeline_scheduler.proofs.Counting.{count_chosen, count_within, outside_part}
use Rattle.timeline_scheduler.proofs.Frees.{AreOfLine}
use Rattle.timeline_scheduler.proofs.KnownItems.{device_within}
use Rattle.timeline_scheduler.proofs.Misfits.{misfits_are, needed_based, times_held, times_told}
use Rattle.timeline_scheduler.proofs.Needs.{base_is, seeds_length}
use Rattle.timeline_scheduler.proofs.Passes.{set_free}
use Rattle.timeline_scheduler.specs.Placings.{InEach, IsEarliestOf, IsLeastOf, IsPlaceOf, IsPlanOf, IsSetOf}

module _ (parts : WindowParts) (r m : ℕ) where
  of_line : (s : Configuration) → IsStandingOf s parts → (d : ℕ) → d < length s.setting.first → AreOfLine s.setting (read_of s) s.grips d (accesses_at parts.table d)
  of_line s stands d within = record { runs = (stands.its_table.each d within).runs; each = (stands.its_table.each d within).each }

  -- the run is planned behind the items of the set
  abbrev pub IsPlannedBehind : List Bool → List Slot → Type 0
  IsPlannedBehind before slots = InEach parts (λ s. HoldsTimes slots (planned_times s.setting (read_of s) r (chosen before (read_of s).line) m))

  pub plan_told : (before : List Bool) (slots planned : List Slot) → length slots ≡ length parts.table → HoldsTimes planned (plan_behind (slots_behind parts.table parts.history parts.runs r (chosen before (items_of parts.line)) slots) (commands_of parts.runs r) m) → IsPlannedBehind before planned
  plan_told before slots planned size holds s stands timed =
      subst (HoldsTimes planned)
      (ap (λ is. plan_behind (slots_behind parts.table parts.history parts.runs r (chosen before is) slots) (commands_of parts.runs r) m) stands.its_line.items
      ∙ ap (λ rs. plan_behind (slots_behind parts.table parts.history rs r (chosen before (read_of s).line) slots) (commands_of rs r) m) (sym stands.its_roster)
      ∙ times_told s.setting (read_of s) r m (chosen before (read_of s).line) (slots_behind parts.table parts.history s.setting.runs r (chosen before (read_of s).line) slots) timed free_told)
      holds
    where
      dooms : (q : ℕ) → is_some (doom_of parts.history q) ≡ is_doomed (read_of s) q
      dooms q = ap is_some (ap (λ h. doom_of h q) (sym stands.its_history) ∙ doom_is s.setting s.history q stands.well_formed)

      free_told : (d : ℕ) → touches s.setting.runs r d ≡ true → (slot_at (slots_behind parts.table parts.history s.setting.runs r (chosen before (read_of s).line) slots) d).free ≡ free s.setting (read_of s) r (chosen before (read_of s).line) d
      free_told d on =
          set_free s.setting (read_of s) s.grips (facts_of s parts stands) r parts.table parts.history stands.its_table.devices (of_line s stands) dooms before slots size
          d (device_within parts r s stands r d on) on

  -- what is taken in for a configuration
  pub record IsGrown (before : List Bool) (s : Configuration) : Type 0 where
    pub holds : IsPart (base_of s.setting (read_of s) r) before
    pub part : IsPart before (gap_set s.setting (read_of s) r m)

  -- a closed set, that holds the base and is part of the timeline's, and the plan behind it
  pub record IsRound (before : List Bool) (slots : List Slot) : Type 0 where
    pub size : length slots ≡ length parts.table
    pub flags : length before ≡ length parts.line
    pub closed : IsClosed (meet parts.runs) before (items_of parts.line)
    pub grown : InEach parts (IsGrown before)
    pub planned : IsPlannedBehind before slots

  items_length : length (items_of parts.line) ≡ length parts.line
  items_length = length-map parts.line (λ (k : Mark). k.item)

  -- the first one
  pub first_round : (before : List Bool) (slots planned : List Slot) → before ≡ closure (meet parts.runs) (seeds parts.history parts.runs r parts.line) (items_of parts.line) → length slots ≡ length parts.table → length planned ≡ length slots
      → HoldsTimes planned (plan_behind (slots_behind parts.table parts.history parts.runs r (chosen before (items_of parts.line)) slots) (commands_of parts.runs r) m) → IsRound before planned
  first_round before slots planned is size long holds = record {
    size = long ∙ size;
    flags = ap length is ∙ closure_size (meet parts.runs) (seeds parts.history parts.runs r parts.line) (items_of parts.line) ∙ items_length;
    closed = subst (λ bs. IsClosed (meet parts.runs) bs (items_of parts.line)) (sym is) (closure_closed (meet parts.runs) (seeds parts.history parts.runs r parts.line) (items_of parts.line));
    grown = λ s stands timed. subst (λ bs. IsGrown bs s) (sym is) (grows s stands);
    planned = plan_told before slots planned size holds;
  }
    where
      fits : length (seeds parts.history parts.runs r parts.line) ≡ length (items_of parts.line)
      fits = seeds_length parts.history parts.runs r parts.line ∙ sym items_length

      grows : (s : Configuration) → IsStandingOf s parts → IsGrown (closure (meet parts.runs) (seeds parts.history parts.runs r parts.line) (items_of parts.line)) s
      grows s stands = record {
        holds = subst (λ bs. IsPart bs (closure (meet parts.runs) (seeds parts.history parts.runs r parts.line) (items_of parts.line))) based (closure_holds (meet parts.runs) (seeds parts.history parts.runs r parts.line) (items_of parts.line) fits);
        part =
            closure_least (meet parts.runs) (seeds parts.history parts.runs r parts.line) (items_of parts.line) (gap_set s.setting (read_of s) r m) fits
            (subst (λ is'. IsClosed (meet parts.runs) (gap_set s.setting (read_of s) r m) is') (sym stands.its_line.items) (subst (λ rs. IsClosed (meet rs) (gap_set s.setting (read_of s) r m) (read_of s).line) stands.its_roster least.fitting.closed))
            (subst (λ bs. IsPart bs (gap_set s.setting (read_of s) r m)) (sym based) least.fitting.holds);
      }
        where
          based : seeds parts.history parts.runs r parts.line ≡ base_of s.setting (read_of s) r
          based = base_is parts r s stands

          least : IsLeast (meet s.setting.runs) (base_of s.setting (read_of s) r) (bars s.setting (read_of s) r m) (read_of s).line (gap_set s.setting (read_of s) r m)
          least = gap_least s.setting (read_of s) r m

  abbrev misfits : List Slot → List Bool
  misfits slots = map (of_run (is_misfit parts.table parts.runs r slots)) (items_of parts.line)

  -- those that do not fit are those that the set bars
  barred : (before : List Bool) (slots : List Slot) → IsRound before slots → (s : Configuration) → IsStandingOf s parts → scheduler_of s.setting.mode ≡ Timeline
      → either_of before (misfits slots) ≡ either_of before (map (bars s.setting (read_of s) r m before) (read_of s).line)
  barred before slots was s stands timed =
      ap (λ is. either_of before (map (of_run (is_misfit parts.table parts.runs r slots)) is)) stands.its_line.items
      ∙ ap (λ rs. either_of before (map (of_run (is_misfit parts.table rs r slots)) (read_of s).line)) (sym stands.its_roster)
      ∙ misfits_are s.setting (read_of s) s.grips (facts_of s parts stands) r parts.table slots (planned_times s.setting (read_of s) r (chosen before (read_of s).line) m) (was.size ∙ stands.its_table.devices) (of_line s stands)
      (times_held s.setting (read_of s) r m (chosen before (read_of s).line) slots (was.planned s stands timed)) before
      (subst (λ is. IsClosed (meet s.setting.runs) before is) stands.its_line.items (subst (λ rs. IsClosed (meet rs) before (items_of parts.line)) (sym stands.its_roster) was.closed))
      (part_of_part (map (is_needed s.setting (read_of s) r) (read_of s).line) (base_of s.setting (read_of s) r) before (needed_based (of_run (is_live (read_of s))) (is_needed s.setting (read_of s) r) (read_of s).line) (was.grown s stands timed).holds)

  barred_length : (before : List Bool) (slots : List Slot) → IsRound before slots → length before ≡ length (misfits slots)
  barred_length before slots was = was.flags ∙ sym (length-map (items_of parts.line) (of_run (is_misfit parts.table parts.runs r slots)) ∙ items_length)

  -- .. and the next one, where some do not fit
  pub next_round : (before found after : List Bool) (slots planned : List Slot) → IsRound before slots → found ≡ either_of before (misfits slots) → after ≡ closure (meet parts.runs) found (items_of parts.line) → length planned ≡ length slots
      → HoldsTimes planned (plan_behind (slots_behind parts.table parts.history parts.runs r (chosen after (items_of parts.line)) slots) (commands_of parts.runs r) m) → IsRound after planned
  next_round before found after slots planned was found_is is long holds = record {
    size = long ∙ was.size;
    flags = ap length is ∙ closure_size (meet parts.runs) found (items_of parts.line) ∙ items_length;
    closed = subst (λ bs. IsClosed (meet parts.runs) bs (items_of parts.line)) (sym is) (closure_closed (meet parts.runs) found (items_of parts.line));
    grown = λ s stands timed. subst (λ bs. IsGrown bs s) (sym is) (grows s stands timed);
    planned = plan_told after slots planned was.size holds;
  }
    where
      fits : length found ≡ length (items_of parts.line)
      fits = ap length found_is ∙ either_size before (misfits slots) (barred_length before slots was) ∙ was.flags ∙ sym items_length

      grows : (s : Configuration) → IsStandingOf s parts → scheduler_of s.setting.mode ≡ Timeline → IsGrown (closure (meet parts.runs) found (items_of parts.line)) s
      grows s stands timed = record {
        holds = part_of_part (base_of s.setting (read_of s) r) before (closure (meet parts.runs) found (items_of parts.line)) (was.grown s stands timed).holds
            (part_of_part before found (closure (meet parts.runs) found (items_of parts.line)) (subst (IsPart before) (sym found_is) (either_first before (misfits slots) (barred_length before slots was))) (closure_holds (meet parts.runs) found (items_of parts.line) fits));
        part =
            closure_least (meet parts.runs) found (items_of parts.line) gap fits
            (subst (λ is'. IsClosed (meet parts.runs) gap is') (sym stands.its_line.items) (subst (λ rs. IsClosed (meet rs) gap (read_of s).line) stands.its_roster least.fitting.closed))
            (subst (λ bs. IsPart bs gap) (sym (found_is ∙ barred before slots was s stands timed))
            (either_in before (map (bars s.setting (read_of s) r m before) (read_of s).line) gap (was.grown s stands timed).part
            (part_of_part (map (bars s.setting (read_of s) r m before) (read_of s).line) (map (bars s.setting (read_of s) r m gap) (read_of s).line) gap
            (map_part (bars s.setting (read_of s) r m before) (bars s.setting (read_of s) r m gap) (read_of s).line (λ i. bars_rise s.setting (read_of s) r m before gap i (was.grown s stands timed).part)) least.fitting.fits)));
      }
        where
          gap : List Bool
          gap = gap_set s.setting (read_of s) r m

          least : IsLeast (meet s.setting.runs) (base_of s.setting (read_of s) r) (bars s.setting (read_of s) r m) (read_of s).line gap
          least = gap_least s.setting (read_of s) r m

  abbrev Times : List Bool → List Slot → List Slot → Type 0
  Times before slots planned = HoldsTimes planned (plan_behind (slots_behind parts.table parts.history parts.runs r (chosen before (items_of parts.line)) slots) (commands_of parts.runs r) m)

  -- the first round, as the scratch passes through it
  pub first_of : (old seeded closed planned : ScratchRoom) → seeded ≡ record old { before = seeds parts.history parts.runs r parts.line } → closed ≡ record seeded { before = closure (meet parts.runs) seeded.before (items_of parts.line) } → planned ≡ record closed { slots = planned.slots }
      → length old.slots ≡ length parts.table → length planned.slots ≡ length closed.slots → Times closed.before closed.slots planned.slots → IsRound planned.before planned.slots
  first_of old seeded closed planned seeded_is closed_is planned_is size long holds =
      first_round planned.before closed.slots planned.slots
      (ap (λ (s : ScratchRoom). s.before) planned_is ∙ ap (λ (s : ScratchRoom). s.before) closed_is ∙ ap (λ (s : ScratchRoom). closure (meet parts.runs) s.before (items_of parts.line)) seeded_is)
      (ap (λ (s : ScratchRoom). length s.slots) closed_is ∙ ap (λ (s : ScratchRoom). length s.slots) seeded_is ∙ size) long
      (subst (λ bs. Times bs closed.slots planned.slots) (sym (ap (λ (s : ScratchRoom). s.before) planned_is)) holds)

  -- the flags that were taken in are as many as the items
  pub taken_flags : (was taken : ScratchRoom) → IsRound was.before was.slots → taken ≡ record was { before = either_of was.before (misfits was.slots) } → length taken.before ≡ length parts.line
  taken_flags was taken round taken_is = ap (λ (s : ScratchRoom). length s.before) taken_is ∙ either_size was.before (misfits was.slots) (barred_length was.before was.slots round) ∙ round.flags

  -- .. and those of a closed set are
  pub closed_flags : (seeded closed : ScratchRoom) → closed ≡ record seeded { before = closure (meet parts.runs) seeded.before (items_of parts.line) } → length closed.before ≡ length parts.line
  closed_flags seeded closed closed_is = ap (λ (s : ScratchRoom). length s.before) closed_is ∙ closure_size (meet parts.runs) seeded.before (items_of parts.line) ∙ items_length

  -- .. and each further one
  module _ (was taken closed planned : ScratchRoom) (round : IsRound was.before was.slots)
      (taken_is : taken ≡ record was { before = either_of was.before (misfits was.slots) })
      (closed_is : closed ≡ record taken { before = closure (meet parts.runs) taken.before (items_of parts.line) })
      (planned_is : planned ≡ record closed { slots = planned.slots }) where
    pub next_of : length planned.slots ≡ length closed.slots → Times closed.before closed.slots planned.slots → IsRound planned.before planned.slots
    next_of long holds =
        next_round was.before taken.before planned.before was.slots planned.slots round (ap (λ (s : ScratchRoom). s.before) taken_is) (ap (λ (s : ScratchRoom). s.before) planned_is ∙ ap (λ (s : ScratchRoom). s.before) closed_is)
        (long ∙ ap length slots_stay)
        (subst (λ ss. Times planned.before ss planned.slots) slots_stay (subst (λ bs. Times bs closed.slots planned.slots) (sym (ap (λ (s : ScratchRoom). s.before) planned_is)) holds))
      where
        slots_stay : closed.slots ≡ was.slots
        slots_stay = ap (λ (s : ScratchRoom). s.slots) closed_is ∙ ap (λ (s : ScratchRoom). s.slots) taken_is

    -- fewer items are outside
    pub next_fewer : count_by not taken.before < count_by not was.before → count_by not planned.before < count_by not was.before
    next_fewer less =
        let most : count_by not planned.before ≤ count_by not taken.before = subst (λ bs. count_by not bs ≤ count_by not taken.before) (sym (ap (λ (s : ScratchRoom). s.before) planned_is ∙ ap (λ (s : ScratchRoom). s.before) closed_is))
        (outside_part taken.before (closure (meet parts.runs) taken.before (items_of parts.line))
        (closure_holds (meet parts.runs) taken.before (items_of parts.line) (ap (λ (s : ScratchRoom). length s.before) taken_is
        ∙ either_size was.before (misfits was.slots) (barred_length was.before was.slots round) ∙ round.flags ∙ sym items_length))) in
        omega (arith, less, most)

  -- The last one: none does not fit

  module _ (before found : List Bool) (slots : List Slot) (was : IsRound before slots) (found_is : found ≡ either_of before (misfits slots)) (none : found ≡ before) where
    line_length : (s : Configuration) → IsStandingOf s parts → length parts.line ≡ length (read_of s).line
    line_length s stands = sym items_length ∙ ap length stands.its_line.items

    pub least_told : IsLeastOf parts r m before
    least_told s stands timed = record {
      fitting = record {
        closed = subst (λ is. IsClosed (meet s.setting.runs) before is) stands.its_line.items (subst (λ rs. IsClosed (meet rs) before (items_of parts.line)) (sym stands.its_roster) was.closed);
        holds = (was.grown s stands timed).holds;
        fits = subst (IsPart (map (bars s.setting (read_of s) r m before) (read_of s).line)) (sym (barred before slots was s stands timed) ∙ sym found_is ∙ none) (either_second before (map (bars s.setting (read_of s) r m before) (read_of s).line) long);
      };
      least = λ other fitting. part_of_part before (gap_set s.setting (read_of s) r m) other (was.grown s stands timed).part ((gap_least s.setting (read_of s) r m).least other fitting);
    }
      where
        long : length before ≡ length (map (bars s.setting (read_of s) r m before) (read_of s).line)
        long = was.flags ∙ line_length s stands ∙ sym (length-map (read_of s).line (bars s.setting (read_of s) r m before))

    pub set_told : IsSetOf parts r m before
    set_told s stands timed =
        same_least (meet s.setting.runs) (base_of s.setting (read_of s) r) (bars s.setting (read_of s) r m) (read_of s).line before (gap_set s.setting (read_of s) r m) (least_told s stands timed) (gap_least s.setting (read_of s) r m)

    pub earliest_told : IsEarliestOf parts r m before
    earliest_told s stands timed =
        ((least_told s stands timed).fitting, subst (IsEarliestSet s.setting (read_of s) r m) (sym (set_told s stands timed)) (gap_is_earliest s.setting (read_of s) r m))

    pub planned_told : IsPlanOf parts r m slots
    planned_told s stands timed = subst (λ bs. HoldsTimes slots (planned_times s.setting (read_of s) r (chosen bs (read_of s).line) m)) (set_told s stands timed) (was.planned s stands timed)

    pub place_told : (place : ℕ) → place ≡ count_by (λ c. c) before → IsPlaceOf parts r m place
    place_told place is s stands timed =
        (refl, ap (λ bs. length (chosen bs (read_of s).line)) (sym (set_told s stands timed)) ∙ count_chosen before (read_of s).line (was.flags ∙ line_length s stands) ∙ sym is)

    pub place_within : (place : ℕ) → place ≡ count_by (λ c. c) before → place ≤ length parts.line
    place_within place is = let most = count_within before in let long = was.flags in omega (arith, is, most, long)
