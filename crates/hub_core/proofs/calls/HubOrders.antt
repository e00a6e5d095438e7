-- The line and the table of a hub, in its steps.
use Rattle.abort_rollback.specs.Undos.{has_effective_write, next_undo, undo_on}
use Rattle.abort_rollback.specs.declared.undos.Undo.TheVariants.{Finished}
use Rattle.command_rules.specs.Footprints.{FitsIndex}
use Rattle.hub_core.proofs.Prelude.{Aborted, All, Arrived, Bool, Cause, ChangesEach, Command, Commands, Committed, Configuration, ConfigurationIsKept, DeviceNo, DeviceProgress, Did, Doomed, Down, DownAtEnd, Ended, Entry, Gripped, Grips, GripsFit, HandsOut, HeldTokensAre, HistoryState, HoldsNone, Inside, IsClear, IsDisciplined, IsKeptByModel, IsNewOn, IsRead, IsRosterFor, IsSealed, IsSome, IsStandingOf, IsTrue, IsWhole, Item, LineageState, List, Mark, Marked, MarksAreKept, MayArrange, MayBeOut, MayNote, MayOpen, MayTake, Moves, MustDown, None, OpenHub, Option, OrderIsBeside, Placed, Planned, Probes, Purpose, Ran, Reading, Run, Scheduler, Setting, Shown, Some, TableIsKept, Task, Timeline, Undid, Undoes, WindowParts, [], accesses_at, and_parts, ap, ap₂, arith, arranged, below_home, choice_of, command_at, commands_of, committed_lineage, common_steps, configuration_of, device_no, doomed_lineage, drop, effective_writer, entries_made, entries_of, entry, eq-eqb, false, few_accesses, fits_other, front_for, gap_set, get_or, hand_goes, held_in, holds, holds_none, if◌then◌else◌, in_order, is_command, is_device, is_done_there, is_doomed, is_first, is_none, is_on, is_out, is_run, is_undo, is_weak, items_of, kind_at, length, length-append, length-map, line_for, line_length, lineage_at, live_stands, marks_without, max, may_follow, most_items, names_values_of, nat_lt, new_on, next_command, next_is_left, next_of, none_found, none_there, not, noted_first, open_of, option_map, order_stands, pends, planned_times, point, point_of, progress_at, put, put_other, range_with_len, read_facts, read_in, read_of, refl, removed, represents, run_hand, run_no, same_parts, scheduled_on, scheduled_with, scheduler_of, settling, slice_get-get_or, split_of, stands, subst, suc, sym, table_kept, take, take-append-drop, touches, touching, true, undone, unplaced_absent, unwrap_or, window_parts, with_doom, with_entry, with_item, with_lineage, with_more, zero, ℕ, ◌&&◌, ◌++◌, ◌+◌, ◌-◌, ◌<◌, ◌==◌, ◌||◌, ◌∙◌, ◌∷◌, ◌≡◌, ◌≤◌}
use Rattle.device_gate.specs.declared.grips.Ready.{Ready}
use Rattle.history_book.specs.Progress.{progress_of}
use Rattle.history_book.specs.declared.progress.RunProgress.{RunProgress}
use Rattle.home_types.specs.declared.commands.View.TheVariants.{Down as ViewedDown}
use Rattle.hub_core.proofs.calls.Departures.{gone_grips, gone_whole}
use Rattle.hub_core.proofs.calls.HubChanges.{Ending, Going, IsEntered, answer_entries, answered_more, entered_whole, entries_kept, has_places, takes_here}
use Rattle.hub_core.proofs.calls.HubChoices.{IsAborting, IsAnsweringDown, IsFailing, answering, dropping, failing, finished_is, rest_downs}
use Rattle.hub_core.proofs.calls.HubOuts.{GoesFor, IsHanded, IsHandedOut, handed_gone, handed_kept, handed_out}
use Rattle.hub_core.proofs.calls.NextUndos.{next_undo_is}
use Rattle.timeline_scheduler.proofs.Cited.{planned_devices}
use Rattle.hub_core.proofs.calls.Scheduling.{scheduled_as_planned}
use Rattle.hub_core.proofs.kept.Arranged.{arranged_same, marks_arranged, marks_for, may_arrange}
use Rattle.hub_core.proofs.kept.Kept.{enters_place}
use Rattle.hub_core.proofs.kept.KeptByModel.{read_kept}
use Rattle.hub_core.proofs.kept.OrderSteps.{done_after, last_follows, may_note_down, none_commands, order_aborted, order_arrived, order_committed, order_doomed, order_doomed_if, order_dropped, order_joined, order_out, order_placed, order_told_down, order_told_weakly, order_undo_out, read_more}
use Rattle.hub_core.proofs.kept.SealedOrders.{sealed_is}
use Rattle.hub_core.proofs.kept.Sizes.{line_fits}
use Rattle.hub_core.proofs.kept.TableFits.{counted_told, either_model}
use Rattle.hub_core.proofs.steps.Choices.{known_by}
use Rattle.hub_core.proofs.steps.Takes.{live_run}
use Rattle.hub_core.proofs.windows.StrongChoices.{IsPlacing}
use Rattle.hub_core.specs.PlannedPlaces.{HoldsPlan, IsForHome}
use Rattle.timeline_scheduler.specs.PlannedUses.{AreUsesOf}
use Rattle.hub_core.specs.WeakSteps.{weak_rest}
use Rattle.window_order.specs.declared.order_states.OrderState.{OrderState}
use Rattle.history_book.specs.declared.planned_uses.PlannedUse.{PlannedUse}
use Rattle.timeline_scheduler.specs.Scratches.{HoldsTimes, ScratchRoom}
use Rattle.window_order.proofs.Cited.{read_kept as read_rearranged}

-- What is kept of the hub's history

pub read_hub : (s : Configuration) (rounds opened : ℕ) (held : ℕ → ℕ) → ConfigurationIsKept s rounds opened held → IsRead s.setting (read_of s)
read_hub s rounds opened held k = read_facts s.setting (entries_of s.history) k.history.well_formed

pub roster_allowed : (w : Setting) (rounds opened : ℕ) → MayOpen w rounds opened → IsRosterFor (length w.first) w.runs
roster_allowed w rounds opened may = record {
  few_devices = may.few_devices;
  few_runs = may.few_runs;
  few_commands = may.few_commands;
  homed = λ r k c at. below c.device.0 (length w.first) (names_values_of (kind_at w.kinds c.device.0) c.job) (may.homed r k c at);
  follows_earlier = λ r f at. earlier 0 f.0 r (may.follows r f at);
}
  where
    below : (a b : ℕ) (x : Bool) → (nat_lt a b && x) ≡ true → a < b
    below a b x h = grind (arith, common_steps)

    earlier : (z a b : ℕ) → (nat_lt z a && nat_lt a b) ≡ true → a < b
    earlier z a b h = grind (arith, common_steps)

-- .. and its footprints may be made
pub index_fits : (w : Setting) (rounds opened : ℕ) → MayOpen w rounds opened → FitsIndex w.runs
index_fits w rounds opened may =
    let allowed = roster_allowed w rounds opened may in
    record { few_commands = allowed.few_commands; low_devices = λ r k c at. let inside = allowed.homed r k c at in let few = allowed.few_devices in omega (arith, inside, few) }

-- table, line, history and roster of a hub belong to its window, where the accesses in the table are in turn, as those of every table are
pub hub_standing : (s : Configuration) (rounds opened : ℕ) (held : ℕ → ℕ) (spare : ℕ) (line : Marked) (table : List LineageState)
    → ((d : ℕ) → IsDisciplined (accesses_at table d)) → ConfigurationIsKept s rounds opened held
    → OrderIsBeside rounds (record { setting = s.setting; history = s.history; spare = spare }) s.grips line table
    → IsStandingOf s (window_parts s table line.marks s.history)
hub_standing s rounds opened held spare line table disciplined k order = record {
  ordered = k.strong;
  allowed = roster_allowed s.setting rounds opened k.opens;
  grips = k.order.grips.runs;
  well_formed = k.history.well_formed;
  order = order_stands s.setting (read_of s) s.grips held (read_hub s rounds opened held k) k.order;
  its_roster = refl;
  its_history = refl;
  its_line = order.line_is;
  disciplined = disciplined;
  its_table = represents s.setting (read_of s) s.grips table disciplined (order.table_is.ordered k.strong);
}

-- What is kept of the parts of a hub

pub read_whole : {D : Type 0} {shows : D → Shown} (h : Inside D) → IsWhole shows h → IsRead h.history.setting (read_in h.history)
read_whole h k = read_kept _ h.rounds h.opened _ k.shown.configuration

pub standing_whole : {D : Type 0} {shows : D → Shown} (h : Inside D) → ((d : ℕ) → IsDisciplined (accesses_at h.order.table d))
    → is_weak h.history.setting.mode ≡ false → IsWhole shows h
    → IsStandingOf (configuration_of (open_of h)) (window_parts (configuration_of (open_of h)) h.order.table h.order.line.marks h.history.history)
standing_whole h disciplined strong k = hub_standing _ h.rounds h.opened _ h.history.spare h.order.line h.order.table disciplined (k.shown.configuration.ordered strong) k.order

-- a device that the table has not has no access
none_beyond : (table : List LineageState) (e : ℕ) → length table ≤ e → accesses_at table e ≡ []
none_beyond [] e past = refl
none_beyond (s ∷ table) zero past = absurd (omega (arith, past))
none_beyond (s ∷ table) (suc e) past = none_beyond table e (omega (arith, past))

-- a device has at most one access for each run
pub few_whole : {D : Type 0} {shows : D → Shown} (h : Inside D) → ((d : ℕ) → IsDisciplined (accesses_at h.order.table d)) → IsWhole shows h → (d : ℕ) → length (accesses_at h.order.table d) ≤ length h.history.setting.runs
few_whole h disciplined k d = by_place (nat_lt d (length h.history.setting.first)) refl
  where
    few_here : d < length h.history.setting.first → length (accesses_at h.order.table d) ≤ length h.history.setting.runs
    few_here below = elim (is_weak h.history.setting.mode) as (λ b. is_weak h.history.setting.mode ≡ b → length (accesses_at h.order.table d) ≤ length h.history.setting.runs) [
      | true ↦ (λ weak. let none : length (accesses_at h.order.table d) ≡ 0 = ap length (k.order.table_is.weakly weak d below).accesses in omega (arith, none))
      | false ↦ (λ strong. few_accesses h.history.setting (read_in h.history) (configuration_of (open_of h)).grips d (lineage_at h.order.table d) ((k.order.table_is.ordered strong).each d below) (disciplined d))
    ] refl

    by_place : (b : Bool) → nat_lt d (length h.history.setting.first) ≡ b → length (accesses_at h.order.table d) ≤ length h.history.setting.runs
    by_place true within = few_here (grind (arith, common_steps))
    by_place false beyond = let none = ap length (none_beyond h.order.table d (let size = k.order.table_is.devices in let past : length h.history.setting.first ≤ d = grind (arith, common_steps) in omega (arith, size, past))) in omega (arith, none)

-- under the weak model it has none
pub bare_whole : {D : Type 0} {shows : D → Shown} (h : Inside D) → IsWhole shows h → is_weak h.history.setting.mode ≡ true → (d : ℕ) → accesses_at h.order.table d ≡ []
bare_whole h k weak d = by_place (nat_lt d (length h.history.setting.first)) refl
  where
    by_place : (b : Bool) → nat_lt d (length h.history.setting.first) ≡ b → accesses_at h.order.table d ≡ []
    by_place true within = (k.order.table_is.weakly weak d (grind (arith, common_steps))).accesses
    by_place false beyond = none_beyond h.order.table d (let size = k.order.table_is.devices in let past : length h.history.setting.first ≤ d = grind (arith, common_steps) in omega (arith, size, past))

-- A run arrives

pub arrives_whole : {D : Type 0} {shows : D → Shown} (h t : Inside D) (r m : ℕ) → IsEntered h t r m (Arrived (run_no r) (max h.moment m) ∷ []) Going → t.order ≡ h.order → IsWhole shows h → IsWhole shows t
arrives_whole h t r m enters same k = entered_whole h t r m _ Going enters (λ formed.
    subst (λ (o : OrderState). OrderIsBeside h.rounds (with_entry h.history r (Arrived (run_no r) (max h.moment m))) (configuration_of (open_of h)).grips o.line o.table) (sym same) (order_arrived h.history _ _ r (max h.moment m) _ _ refl k.order)) k

-- A run is placed

-- the place of a run that the step of the hub places
joining : (s : Configuration) (r at m : ℕ) → MayBeOut (point_of s) → choice_of s r m ≡ Moves (Placed (run_no r) at (max s.moment m) ∷ []) → IsPlacing (point_of s) r at (max s.moment m)
joining s r at m out is =
    let known = known_by s r m (Moves (Placed (run_no r) at (max s.moment m) ∷ [])) is in
    subst (λ k. IsPlacing (point_of s) r k (max s.moment m)) (sym known.2) (enters_place (point_of s) r (max s.moment m) known.0 out known.1)

pub joins_at : {D : Type 0} {shows : D → Shown} (h : Inside D) (r at m : ℕ) → choice_of (configuration_of (open_of h)) r m
    ≡ Moves (Placed (run_no r) at (max h.moment m) ∷ []) → IsWhole shows h
    → IsPlacing (point h.history.setting (read_in h.history) (configuration_of (open_of h)).grips) r at (max h.moment m)
joins_at h r at m is k = joining (configuration_of (open_of h)) r at m k.shown.configuration.grips.runs is

-- .. is one of the line
pub joins_within : {D : Type 0} {shows : D → Shown} (h : Inside D) (r at m : ℕ) → choice_of (configuration_of (open_of h)) r m ≡ Moves (Placed (run_no r) at (max h.moment m) ∷ []) → IsWhole shows h → at ≤ length h.order.line.marks
joins_within h r at m is k =
    let within = (joins_at h r at m is k).within in
    let size = sym (length-map h.order.line.marks (λ (x : Mark). x.item)) ∙ ap length k.order.line_is.items in
    omega (arith, within, size)

-- .. behind what is sealed
pub joins_behind : {D : Type 0} {shows : D → Shown} (h : Inside D) (r at m : ℕ) → choice_of (configuration_of (open_of h)) r m ≡ Moves (Placed (run_no r) at (max h.moment m) ∷ []) → IsWhole shows h → h.order.line.sealed ≤ at
joins_behind h r at m is k =
    let behind = (joins_at h r at m is k).sealed in
    let sealed = sealed_is (point h.history.setting (read_in h.history) (configuration_of (open_of h)).grips) h.order.line (read_whole h k) k.order.line_is k.order.sealed in
    omega (arith, behind, sealed)

-- the line has one item more
placed_size : (w : Setting) (n : Reading) (r at m : ℕ) → length (entry w n (Placed (run_no r) at m)).line ≡ length n.line + 1
unfolding split_of
placed_size w n r at m =
    let after : length (take at line ++ Ran (run_no r) ∷ drop at line) ≡ length (take at line) + suc (length (drop at line)) = length-append (take at line) (Ran (run_no r) ∷ drop at line) in
    let before : length (take at line ++ drop at line) ≡ length (take at line) + length (drop at line) = length-append (take at line) (drop at line) in
    let whole : length (take at line ++ drop at line) ≡ length n.line = ap length (take-append-drop at line) ∙ line_length w n r m in
    omega (arith, after, before, whole)
  where
    line : List Item
    line = line_for w n r m

-- the line has room for the run
pub line_place : {D : Type 0} {shows : D → Shown} (h : Inside D) (r at m : ℕ) → choice_of (configuration_of (open_of h)) r m ≡ Moves (Placed (run_no r) at (max h.moment m) ∷ []) → IsWhole shows h → 0 < h.order.line.spare
line_place h r at m is k =
    let n = read_in h.history in
    let fits = line_fits _ h.rounds h.opened _ (entries_kept _ (open_of h) r m _ Going is k.shown).configuration in
    let longer = ap (λ (x : Reading). length x.line) (read_more h.history.setting h.history.history r (Placed (run_no r) at (max h.moment m))) ∙ placed_size h.history.setting n r at (max h.moment m) in
    let size = sym (length-map h.order.line.marks (λ (x : Mark). x.item)) ∙ ap length k.order.line_is.items in
    omega (arith, fits, longer, size, k.order.room)

-- the marks of the line as it stands when the run is placed
abbrev pub marks_then : {D : Type 0} → Inside D → ℕ → ℕ → List Mark
marks_then h r m = marks_for h.history.setting (read_in h.history) r (max h.moment m) h.order.line.marks

-- by the timeline the scratch holds the set of the run
pub joins_set : {D : Type 0} (h : Inside D) (s : OpenHub D) (r at m : ℕ) (room : ScratchRoom) → open_of h ≡ s → HoldsPlan room (configuration_of s) r (max s.moment m) at → scheduler_of h.history.setting.mode ≡ Timeline → room.before ≡ gap_set h.history.setting (read_in h.history) r (max h.moment m)
joins_set {D = D} h s r at m room seen holds timed = (subst (λ (x : OpenHub D). HoldsPlan room (configuration_of x) r (max x.moment m) at) (sym seen) holds timed).set

-- .. which may be brought to the front
pub hub_arranges : {D : Type 0} {shows : D → Shown} (h : Inside D) (s : OpenHub D) (r at m : ℕ) (room : ScratchRoom) → open_of h ≡ s
    → HoldsPlan room (configuration_of s) r (max s.moment m) at → scheduler_of h.history.setting.mode ≡ Timeline → IsWhole shows h
    → MayArrange room.before h.order.line
hub_arranges h s r at m room seen holds timed k = may_arrange h.history.setting (read_in h.history) (configuration_of (open_of h)).grips r (max h.moment m) room.before h.order.line h.order.table (read_whole h k) (joins_set h s r at m room seen holds timed) k.order

-- the line that was arranged by it stands as it should then
pub hub_arranged : {D : Type 0} (h : Inside D) (s : OpenHub D) (r at m : ℕ) (room : ScratchRoom) (scheduler : Scheduler) (flags : List Bool) (marks : List Mark) → open_of h ≡ s → HoldsPlan room (configuration_of s) r (max s.moment m) at
    → scheduler ≡ scheduler_of h.history.setting.mode → flags ≡ room.before → marks ≡ arranged scheduler flags h.order.line.marks → marks ≡ marks_then h r m
hub_arranged h s r at m room scheduler flags marks seen holds by same are =
    are ∙ (λ i. arranged (by i) (same i) h.order.line.marks) ∙ arranged_same (scheduler_of h.history.setting.mode) room.before (gap_set h.history.setting (read_in h.history) r (max h.moment m)) h.order.line.marks (joins_set h s r at m room seen holds)

-- the line keeps the run as one of the window
pub hub_known : {D : Type 0} {shows : D → Shown} (h : Inside D) (r at m : ℕ) → choice_of (configuration_of (open_of h)) r m ≡ Moves (Placed (run_no r) at (max h.moment m) ∷ []) → IsWhole shows h → is_run h.order.line.runs r ≡ true
hub_known h r at m is k =
    let may : may_follow h.history.setting (read_in h.history) (Placed (run_no r) at (max h.moment m)) ≡ true = last_follows h.history.setting h.history.history r (Placed (run_no r) at (max h.moment m)) (entries_kept _ (open_of h) r m _ Going is k.shown).configuration.history.well_formed in
    let run : is_run h.history.setting.runs r ≡ true = grind (arith, common_steps) in
    k.order.runs.there r ∙ run

-- a run that may be placed here has its devices in the home, does not stand in the line, and is new on each of its devices
pub record MayJoin (w : Setting) (r at : ℕ) (marks : List Mark) (table : List LineageState) : Type 0 where
  pub few : length table ≤ 256
  pub homed : All (λ (c : Command). c.device.0 < length table) (commands_of w.runs r)
  pub absent : stands (Ran (run_no r)) marks ≡ false
  pub new : (d : ℕ) → d < length table → touches w.runs r d ≡ true → IsNewOn r (drop at (items_of marks)) (lineage_at table d)

-- .. as it may at a place behind which nothing must stand before it, as the line stands then
pub may_join : (w : Setting) (n : Reading) (g : Grips) (r at m : ℕ) (marks : List Mark) (table : List LineageState) → IsRead w n
    → IsRosterFor (length w.first) w.runs → may_follow w n (Placed (run_no r) at m) ≡ true → IsClear (point w (in_order n (line_for w n r m)) g) r at
    → MarksAreKept n g marks → TableIsKept (point w n g) table → MayJoin w r at (marks_for w n r m marks) table
may_join w n g r at m marks table read allowed may clear line_is table_is = record {
  few = subst (λ k. k ≤ 256) (sym table_is.devices) allowed.few_devices;
  homed = λ k c within. subst (λ x. (get_or (commands_of w.runs r) k c).device.0 < x) (sym table_is.devices) (allowed.homed r k (get_or (commands_of w.runs r) k c) (slice_get-get_or (commands_of w.runs r) k c within));
  absent = unplaced_absent w later g r (marks_for w n r m marks) told none marks_are;
  new =
      λ d lt used. let below : d < length w.first = subst (λ x. d < x) table_is.devices lt in
      subst (λ is. IsNewOn r (drop at is) (lineage_at table d)) (sym marks_are.items) (new_on w later g r at m told may clear d below (lineage_at table d) used
      ((table_kept w n g (line_for w n r m) table read (same_parts w n r m) table_is).each d below));
}
  where
    later : Reading
    later = in_order n (line_for w n r m)

    told : IsRead w later
    told = read_rearranged w n (line_for w n r m) (same_parts w n r m) read

    marks_are : MarksAreKept later g (marks_for w n r m marks)
    marks_are = marks_arranged w n g r m marks line_is

    none : is_none (n.run r).placed ≡ true
    none = grind (arith, common_steps)

-- .. as the step of the hub does
pub hub_joins : {D : Type 0} {shows : D → Shown} (h : Inside D) (r at m : ℕ) → choice_of (configuration_of (open_of h)) r m ≡ Moves (Placed (run_no r) at (max h.moment m) ∷ [])
    → is_weak h.history.setting.mode ≡ false → IsWhole shows h → MayJoin h.history.setting r at (marks_then h r m) h.order.table
hub_joins h r at m is strong k =
    may_join h.history.setting (read_in h.history) _ r at (max h.moment m) h.order.line.marks h.order.table (read_whole h k) (roster_allowed h.history.setting h.rounds h.opened k.shown.configuration.opens)
    (last_follows h.history.setting h.history.history r (Placed (run_no r) at (max h.moment m)) (entries_kept _ (open_of h) r m _ Going is k.shown).configuration.history.well_formed) (joins_at h r at m is k).clear k.order.line_is (k.order.table_is.ordered strong)

-- the run stands at its place in the line as it stood then, and is scheduled on its devices
pub record IsJoined {D : Type 0} (h t : Inside D) (r at m : ℕ) : Type 0 where
  pub marks : t.order.line.marks ≡ with_item at (Ran (run_no r)) (marks_then h r m)
  pub spare : t.order.line.spare + 1 ≡ h.order.line.spare
  pub runs : t.order.line.runs ≡ h.order.line.runs
  pub sealed : IsSealed t.order.line
  pub table : ChangesEach (scheduled_on h.history.setting.runs r (planned_times h.history.setting (read_in h.history) r (front_for h.history.setting (read_in h.history) r at (max h.moment m)) (max h.moment m)) (drop at (items_of (marks_then h r m)))) h.order.table t.order.table

-- .. with its planned uses, as the scratch has them where it is placed by the timeline
pub joins_planned : {D : Type 0} (h : Inside D) (s : OpenHub D) (r at m now : ℕ) (room : ScratchRoom) (uses : List (Option PlannedUse)) (runs : List Run) (back : List Item) (later : List LineageState) → open_of h ≡ s → HoldsPlan room (configuration_of s) r (max s.moment m) at → now ≡ max h.moment m
    → ((front : List Item)
    → (scheduler_of h.history.setting.mode ≡ Timeline → HoldsTimes room.slots (planned_times h.history.setting (read_in h.history) r front now))
    → AreUsesOf h.history.setting.runs r uses (planned_times h.history.setting (read_in h.history) r front now)) → runs ≡ h.history.setting.runs
    → ChangesEach (scheduled_with runs r uses back) h.order.table later → ChangesEach (scheduled_on h.history.setting.runs r (planned_times h.history.setting (read_in h.history) r (front_for h.history.setting (read_in h.history) r at (max h.moment m)) (max h.moment m)) back) h.order.table later
joins_planned {D = D} h s r at m now room uses runs back later seen holds is planned same changes =
    scheduled_as_planned w.runs r uses (times (max h.moment m)) back h.order.table later are (λ d. planned_devices w n r (front_for w n r at (max h.moment m)) (max h.moment m) d) (subst (λ (x : List Run). ChangesEach (scheduled_with x r uses back) h.order.table later) same changes)
  where
    w : Setting
    w = h.history.setting

    n : Reading
    n = read_in h.history

    front : List Item
    front = front_for w n r at (max h.moment m)

    times : ℕ → List Planned
    times t = planned_times w n r front t

    holds_here : scheduler_of w.mode ≡ Timeline → HoldsTimes room.slots (times (max h.moment m))
    holds_here timed = (subst (λ (x : OpenHub D). HoldsPlan room (configuration_of x) r (max x.moment m) at) (sym seen) holds timed).times

    are : AreUsesOf w.runs r uses (times (max h.moment m))
    are = subst (λ t. AreUsesOf w.runs r uses (times t)) is (planned front (subst (λ t. scheduler_of w.mode ≡ Timeline → HoldsTimes room.slots (times t)) (sym is) holds_here))

pub joins_whole : {D : Type 0} {shows : D → Shown} (h t : Inside D) (r at m : ℕ)
    → IsEntered h t r m (Placed (run_no r) at (max h.moment m) ∷ []) Going → IsJoined h t r at m → is_weak h.history.setting.mode ≡ false
    → IsWhole shows h → IsWhole shows t
joins_whole h t r at m enters joined strong k = entered_whole h t r m _ Going enters (λ formed.
    order_placed h.history _ _ r at (max h.moment m) h.order.line t.order.line h.order.table t.order.table (read_whole h k) k.shown.configuration.grips strong (joins_at h r at m enters.chosen k).clear refl formed joined.marks joined.spare joined.runs joined.sealed joined.table k.order) k

-- .. under the weak model it is scheduled on none
pub enters_whole : {D : Type 0} {shows : D → Shown} (h t : Inside D) (r at m : ℕ) → IsEntered h t r m
    (Placed (run_no r) at (max h.moment m) ∷ []) Going → t.order.line.marks ≡ with_item at (Ran (run_no r)) h.order.line.marks → t.order.line.spare + 1
    ≡ h.order.line.spare → t.order.line.runs ≡ h.order.line.runs → t.order.line.sealed ≡ h.order.line.sealed → t.order.table ≡ h.order.table
    → is_weak h.history.setting.mode ≡ true → IsWhole shows h → IsWhole shows t
enters_whole h t r at m enters marks spare runs sealed same weak k = entered_whole h t r m _ Going enters (λ formed.
    subst (OrderIsBeside h.rounds (with_entry h.history r (Placed (run_no r) at (max h.moment m))) (configuration_of (open_of h)).grips t.order.line) (sym same)
    (order_joined h.history _ _ r at (max h.moment m) h.order.line t.order.line h.order.table weak (read_whole h k) k.shown.configuration.grips (joins_at h r at m enters.chosen k).sealed refl formed marks spare runs sealed k.order)) k

-- the run is in no line before
abbrev pub IsAbsent : ℕ → List Mark → Type 0
IsAbsent r marks = stands (Ran (run_no r)) marks ≡ false

pub hub_absent : {D : Type 0} {shows : D → Shown} (h : Inside D) (r at m : ℕ) → choice_of (configuration_of (open_of h)) r m ≡ Moves (Placed (run_no r) at (max h.moment m) ∷ [])
    → IsWhole shows h → IsAbsent r h.order.line.marks
hub_absent h r at m is k =
    let may : may_follow h.history.setting (read_in h.history) (Placed (run_no r) at (max h.moment m)) ≡ true = last_follows h.history.setting h.history.history r (Placed (run_no r) at (max h.moment m)) (entries_kept _ (open_of h) r m _ Going is k.shown).configuration.history.well_formed in
    let none : is_none ((read_in h.history).run r).placed ≡ true = grind (arith, common_steps) in
    unplaced_absent h.history.setting (read_in h.history) _ r h.order.line.marks (read_whole h k) none k.order.line_is

-- Under the weak model

-- the device of a next command is one of those that the table has
pub next_home : {D : Type 0} {shows : D → Shown} (h : Inside D) (r : ℕ) (c : Command) → Some c ≡ next_command h.history.setting (read_in h.history) r → IsWhole shows h → c.device.0 < length h.order.table
next_home h r c next k =
    let home : IsTrue (is_device h.history.setting c.device.0 && names_values_of (kind_at h.history.setting.kinds c.device.0) c.job) = k.shown.configuration.opens.homed r (next_of (read_in h.history) r) c (sym next) in
    let within = below_home h.history.setting c.device.0 (and_parts (is_device h.history.setting c.device.0) (names_values_of (kind_at h.history.setting.kinds c.device.0) c.job) home).0 in
    omega (arith, within, k.order.table_is.devices)

-- the run is told Down where its device, which is home, is counted down
pub hub_downs : {D : Type 0} {shows : D → Shown} (h : Inside D) (s : OpenHub D) (r k v : ℕ) (p : RunProgress) (c : Command) → open_of h ≡ s → p ≡ progress_of ((read_of (configuration_of s)).run r) → p.doomed ≡ None → Some c ≡ next_command h.history.setting (read_in h.history) r
    → k ≡ next_of (read_in h.history) r → v ≡ ((read_in h.history).run r).register → holds c.when v ≡ true → is_out (configuration_of s).grips c.device.0 ≡ false → false ≡ (lineage_at h.order.table c.device.0).up → IsWhole shows h
    → Moves (Did (run_no r) k Down ∷ (if c.must then Doomed (run_no r) (MustDown k) ∷ [] else [])) ≡ weak_rest (point_of (configuration_of s)) r
hub_downs {D = D} h s r k v p c seen known sound next number value guard home down whole =
    ap (λ x. Moves (Did (run_no r) x Down ∷ (if c.must then Doomed (run_no r) (MustDown x) ∷ [] else []))) (number ∙ ap (λ (x : OpenHub D). next_of (read_of (configuration_of x)) r) seen)
    ∙ rest_downs (point_of (configuration_of s)) r c (ap (λ (x : RunProgress). x.doomed) (sym known) ∙ sound)
    (ap (λ (x : OpenHub D). next_command x.setting (read_of (configuration_of x)) r) (sym seen) ∙ sym next) (ap (holds c.when) (sym (value ∙ ap (λ (x : OpenHub D). ((read_of (configuration_of x)).run r).register) seen)) ∙ guard) home
    (ap (λ (x : OpenHub D). (read_of (configuration_of x)).up c.device.0) (sym seen) ∙ sym (counted_told (point h.history.setting (read_in h.history) (configuration_of (open_of h)).grips) h.order.table c.device.0 below whole.order.table_is) ∙ sym down)
  where
    below : c.device.0 < length h.history.setting.first
    below = let within = next_home h r c next whole in omega (arith, within, whole.order.table_is.devices)

-- A run ends

pub commits_whole : {D : Type 0} {shows : D → Shown} (h t : Inside D) (r m : ℕ) → IsEntered h t r m (Ended (run_no r) Committed ∷ [])
    (Ending Committed) → t.order.line.marks ≡ settling r h.order.line.marks → t.order.line.spare ≡ h.order.line.spare → t.order.line.runs ≡ h.order.line.runs
    → IsSealed t.order.line → ChangesEach (λ d. committed_lineage r) h.order.table t.order.table
    → IsWhole shows h → IsWhole shows t
commits_whole h t r m enters marks spare runs sealed table k = entered_whole h t r m _ (Ending Committed) enters (λ formed.
    order_committed h.history _ _ r h.order.line t.order.line h.order.table t.order.table (read_whole h k) k.shown.configuration.grips refl formed marks spare runs sealed table k.order) k

-- the run has left the line, and has no access any more
pub record IsWithdrawn {D : Type 0} (h t : Inside D) (r : ℕ) : Type 0 where
  pub marks : t.order.line.marks ≡ marks_without r h.order.line.marks
  pub spare : t.order.line.spare ≡ h.order.line.spare + 1
  pub runs : t.order.line.runs ≡ h.order.line.runs
  pub sealed : IsSealed t.order.line
  pub table : ChangesEach (λ d. removed r) h.order.table t.order.table

pub aborts_whole : {D : Type 0} {shows : D → Shown} (h t : Inside D) (r m : ℕ) (cause : Cause) → IsEntered h t r m (Ended (run_no r) (Aborted cause) ∷ []) (Ending (Aborted cause)) → IsWithdrawn h t r → IsWhole shows h → IsWhole shows t
aborts_whole h t r m cause enters left k = entered_whole h t r m _ (Ending (Aborted cause)) enters (λ formed.
    order_aborted h.history _ _ r cause h.order.line t.order.line h.order.table t.order.table (read_whole h k) refl formed left.marks left.spare left.runs left.sealed left.table k.order) k

-- its undos are finished, as the table tells
bare_beyond : (table : List LineageState) (k d : ℕ) → length table ≡ k → ((e : ℕ) → e < k → accesses_at table e ≡ []) → accesses_at table d ≡ []
bare_beyond table k d size bare = by_place (nat_lt d k) refl
  where
    past : (xs : List LineageState) (e : ℕ) → length xs ≤ e → accesses_at xs e ≡ []
    past [] e over = refl
    past (s ∷ xs) zero over = absurd (omega (arith, over))
    past (s ∷ xs) (suc e) over = past xs e (omega (arith, over))

    by_place : (b : Bool) → nat_lt d k ≡ b → accesses_at table d ≡ []
    by_place true within = bare d (grind (arith, common_steps))
    by_place false beyond = past table d (let over : k ≤ d = grind (arith, common_steps) in omega (arith, over, size))

pub hub_finished : {D : Type 0} {shows : D → Shown} (h : Inside D) (r m : ℕ) (cause : Cause) → ((d : ℕ) → IsDisciplined (accesses_at h.order.table d)) → IsAborting (configuration_of (open_of h)) r cause → IsWhole shows h → next_undo h.order.table r ≡ Finished
hub_finished h r m cause disciplined ends k = either_model (next_undo h.order.table r ≡ Finished) h.history.setting
    (λ weak. ap (λ o. unwrap_or (option_map (undo_on h.order.table r) o) Finished) (none_found (has_effective_write h.order.table r) (range_with_len 0 (length h.order.table))
    (λ d. ap (λ xs. unwrap_or (option_map (λ q. q.0 == r) (effective_writer xs)) false) (bare_beyond h.order.table (length h.history.setting.first) d k.order.table_is.devices (λ e below. (k.order.table_is.weakly weak e below).accesses)))))
    (λ strong. next_undo_is _ _ r (standing_whole h disciplined strong k) ends.live ∙ finished_is _ r cause strong ends)

-- The write of a run is dropped

-- the device is one of those that the table has
pub dropped_there : {D : Type 0} {shows : D → Shown} (h : Inside D) (r m d : ℕ) → choice_of (configuration_of (open_of h)) r m ≡ Moves (Undid (run_no r) (device_no d) false ∷ []) → IsWhole shows h → d < length h.order.table
dropped_there h r m d is k =
    let within = below_home h.history.setting d (dropping (configuration_of (open_of h)) h.rounds h.opened (held_in (open_of h)) r m d k.shown.configuration is).device in
    omega (arith, within, k.order.table_is.devices)

pub drops_whole : {D : Type 0} {shows : D → Shown} (h t : Inside D) (r m d : ℕ)
    → IsEntered h t r m (Undid (run_no r) (device_no d) false ∷ []) Going → t.order.line ≡ h.order.line
    → t.order.table ≡ with_lineage h.order.table d (undone r) → IsWhole shows h → IsWhole shows t
drops_whole h t r m d enters line table k = entered_whole h t r m _ Going enters (λ formed.
    order_dropped h.history _ _ r d h.order.line t.order.line h.order.table t.order.table (read_whole h k) (dropped_there h r m d enters.chosen k) refl line table k.order) k

-- A run is doomed at its end

pub fails_whole : {D : Type 0} {shows : D → Shown} (h t : Inside D) (r m : ℕ) (d : DeviceNo) → IsEntered h t r m (Doomed (run_no r) (DownAtEnd d) ∷ []) Going → t.order.line ≡ h.order.line → ChangesEach (λ e. doomed_lineage r) h.order.table t.order.table
    → IsWhole shows h → IsWhole shows t
fails_whole h t r m d enters line table k = entered_whole h t r m _ Going enters (λ formed.
    order_doomed h.history _ _ r (DownAtEnd d) h.order.line t.order.line h.order.table t.order.table (read_whole h k) k.shown.configuration.grips (none_commands h.history.setting _ r none) refl formed line table k.order) k
  where
    fails : IsFailing (configuration_of (open_of h)) r
    fails = failing (configuration_of (open_of h)) h.rounds h.opened (held_in (open_of h)) r m d k.shown.configuration enters.chosen

    none : HoldsNone (configuration_of (open_of h)).grips r
    none = holds_none h.history.setting (configuration_of (open_of h)).grips r k.shown.configuration.grips.homed fails.free

-- A run is told Down with no call

-- what its answer makes
pub told_entries : (r k : ℕ) (must : Bool) (cause : Option Cause) → cause ≡ (if must then Some (MustDown k) else None) → Did (run_no r) k Down ∷ (if must then Doomed (run_no r) (MustDown k) ∷ [] else []) ≡ answer_entries r k Down cause
told_entries r k must cause is = by_must must ∙ ap (answer_entries r k Down) (sym is)
  where
    by_must : (b : Bool) → Did (run_no r) k Down ∷ (if b then Doomed (run_no r) (MustDown k) ∷ [] else []) ≡ answer_entries r k Down (if b then Some (MustDown k) else None)
    by_must true = refl
    by_must false = refl

-- what the code asks for before it
pub record MayTellDown {D : Type 0} (h : Inside D) (r k : ℕ) : Type 0 where
  pub run : is_run h.history.setting.runs r ≡ true
  pub number : k ≡ next_of (read_in h.history) r
  pub within : k < length (commands_of h.history.setting.runs r)
  pub stands : stands (Ran (run_no r)) h.order.line.marks ≡ true
  pub low : (command_at h.history.setting.runs r k).device.0 < 256
  pub homed : (command_at h.history.setting.runs r k).device.0 < length h.order.table
  pub turn : is_weak h.history.setting.mode ≡ false → MayNote r (lineage_at h.order.table (command_at h.history.setting.runs r k).device.0)

pub may_tell_down : {D : Type 0} {shows : D → Shown} (h : Inside D) (r m k : ℕ) (must : Bool) → choice_of (configuration_of (open_of h)) r m
    ≡ Moves (Did (run_no r) k Down ∷ (if must then Doomed (run_no r) (MustDown k) ∷ [] else [])) → IsWhole shows h → MayTellDown h r k
may_tell_down h r m k must is whole = record {
  run = live_run w (read_in h.history) r (read_whole h whole).shaped down.live;
  number = down.number;
  within = down.within;
  stands = live_stands w (read_in h.history) (configuration_of (open_of h)).grips r h.order.line.marks (read_whole h whole) down.live whole.order.line_is;
  low = let few : length w.first ≤ 256 = whole.shown.configuration.opens.few_devices in omega (arith, below, few);
  homed = omega (arith, below, whole.order.table_is.devices);
  turn = λ strong. (may_note_down w (read_in h.history) (configuration_of (open_of h)).grips (held_in (open_of h)) r (command_at w.runs r k) h.order.table (down.told strong) below (whole.order.table_is.ordered strong)).1;
}
  where
    w : Setting
    w = h.history.setting

    down : IsAnsweringDown (configuration_of (open_of h)) (held_in (open_of h)) r k
    down = answering (configuration_of (open_of h)) h.rounds h.opened (held_in (open_of h)) r m k must whole.shown.configuration is

    below : (command_at w.runs r k).device.0 < length w.first
    below = below_home w (command_at w.runs r k).device.0 down.device

-- what the code wrote of it: the answer, which line and table note, and the doom of the run where it is a must
pub record IsToldSo {D : Type 0} (h t : Inside D) (r k : ℕ) (must : Bool) (c : Command) (cause : Option Cause) (mid : HistoryState) (last : Bool) (between : OrderState) : Type 0 where
  pub command : c ≡ command_at h.history.setting.runs r k
  pub because : cause ≡ (if must then Some (MustDown k) else None)
  pub answered : mid ≡ with_entry h.history r (Did (run_no r) k Down)
  pub doomed : t.history ≡ with_doom mid r cause
  pub last_is : last ≡ (is_doomed (read_in mid) r || not (pends mid.setting (read_in mid) r c.device.0))
  pub marks : between.line.marks ≡ touching r c.device.0 h.order.line.marks
  pub spare : between.line.spare ≡ h.order.line.spare
  pub runs : between.line.runs ≡ h.order.line.runs
  pub sealed : between.line.sealed ≡ h.order.line.sealed
  pub table : is_weak h.history.setting.mode ≡ false → between.table ≡ with_lineage h.order.table c.device.0 (noted_first r (is_first r (lineage_at h.order.table c.device.0)) ViewedDown None last)
  pub same_table : is_weak h.history.setting.mode ≡ true → between.table ≡ h.order.table
  pub line_after : t.order.line ≡ between.line
  pub unchanged : cause ≡ None → t.order.table ≡ between.table
  pub changed : IsSome cause → ChangesEach (λ d. doomed_lineage r) between.table t.order.table

-- there is a place for the answer, ..
pub down_place : {D : Type 0} {shows : D → Shown} (h : Inside D) (r m k : ℕ) (must : Bool) → choice_of (configuration_of (open_of h)) r m
    ≡ Moves (Did (run_no r) k Down ∷ (if must then Doomed (run_no r) (MustDown k) ∷ [] else [])) → IsWhole shows h → 0 < h.history.spare
down_place h r m k must is whole = at must (has_places h r m _ Going is whole)
  where
    at : (b : Bool) → length (Did (run_no r) k Down ∷ (if b then Doomed (run_no r) (MustDown k) ∷ [] else [])) ≤ h.history.spare → 0 < h.history.spare
    at true places = let two : 2 ≤ h.history.spare = places in omega (arith, two)
    at false places = let one : 1 ≤ h.history.spare = places in omega (arith, one)

-- the answer and the doom may be appended
pub told_takes : {D : Type 0} {shows : D → Shown} (h : Inside D) (r m k : ℕ) (must : Bool) (cause : Option Cause)
    → choice_of (configuration_of (open_of h)) r m ≡ Moves (Did (run_no r) k Down ∷ (if must then Doomed (run_no r) (MustDown k) ∷ [] else []))
    → cause ≡ (if must then Some (MustDown k) else None)
    → IsWhole shows h → MayTake h.history r (answer_entries r k Down cause)
told_takes h r m k must cause is because whole = takes_here h r m (answer_entries r k Down cause) Going (is ∙ ap (λ es. Moves es) (told_entries r k must cause because)) whole

-- behind the answer there is a place for the doom
pub told_place : {D : Type 0} {shows : D → Shown} (h : Inside D) (r m k : ℕ) (must : Bool) (cause : Option Cause) (mid : HistoryState) → choice_of (configuration_of (open_of h)) r m ≡ Moves (Did (run_no r) k Down ∷ (if must then Doomed (run_no r) (MustDown k) ∷ [] else []))
    → cause ≡ (if must then Some (MustDown k) else None) → mid ≡ with_entry h.history r (Did (run_no r) k Down) → IsWhole shows h → IsSome cause → 0 < mid.spare
told_place h r m k must cause mid is because answered whole some = at cause some (has_places h r m (answer_entries r k Down cause) Going (is ∙ ap (λ es. Moves es) (told_entries r k must cause because)) whole)
  where
    at : (c : Option Cause) → IsSome c → length (answer_entries r k Down c) ≤ h.history.spare → 0 < mid.spare
    at None none places = absurd (cc none)
    at (Some c) some' places =
        let two : 2 ≤ h.history.spare = places in
        let left : mid.spare ≡ h.history.spare - 1 = ap (λ (y : HistoryState). y.spare) answered in
        omega (arith, two, left)

-- its entries
pub down_made : (r k : ℕ) (cause : Option Cause) (e : Entry) (o : Option Entry) → e ≡ Did (run_no r) k Down → o ≡ option_map (λ c. Doomed (run_no r) c) cause → entries_made (record { a = Some e; b = o; c = None }) ≡ answer_entries r k Down cause
down_made r k cause e o entry_is made = ap₂ (λ x y. entries_made (record { a = Some x; b = y; c = None })) entry_is made ∙ by_cause cause
  where
    by_cause : (c : Option Cause) → entries_made (record { a = Some (Did (run_no r) k Down); b = option_map (λ z. Doomed (run_no r) z) c; c = None }) ≡ answer_entries r k Down c
    by_cause None = refl
    by_cause (Some c) = refl

pub told_enters : {D : Type 0} (h t : Inside D) (r m k : ℕ) (must : Bool) (c : Command) (cause : Option Cause) (mid : HistoryState) (last : Bool) (between : OrderState)
    → choice_of (configuration_of (open_of h)) r m ≡ Moves (Did (run_no r) k Down ∷ (if must then Doomed (run_no r) (MustDown k) ∷ [] else [])) → t ≡ record h { history = t.history; moment = max h.moment m; order = t.order } → IsToldSo h t r k must c cause mid last between
    → IsEntered h t r m (answer_entries r k Down cause) Going
told_enters h t r m k must c cause mid last between is new told = record {
  chosen = is ∙ ap (λ l. Moves l) (told_entries r k must cause told.because);
  new = new ∙ λ i. record h { history = (told.doomed ∙ ap (λ x. with_doom x r cause) told.answered ∙ answered_more h.history r k Down cause) i; moment = max h.moment m; order = t.order };
}

pub told_whole : {D : Type 0} {shows : D → Shown} (h t : Inside D) (r m k : ℕ) (must : Bool) (c : Command) (cause : Option Cause) (mid : HistoryState) (last : Bool) (between : OrderState)
    → choice_of (configuration_of (open_of h)) r m ≡ Moves (Did (run_no r) k Down ∷ (if must then Doomed (run_no r) (MustDown k) ∷ [] else [])) → t ≡ record h { history = t.history; moment = max h.moment m; order = t.order } → IsToldSo h t r k must c cause mid last between
    → IsWhole shows h → IsWhole shows t
told_whole {D = D} h t r m k must c cause mid last between is new told whole = entered_whole h t r m es Going enters (λ formed.
    order_doomed_if mid (with_more h.history r es) g r cause between.line t.order.line between.table t.order.table fit (none_commands w g r none) (sym history) formed told.line_after told.unchanged told.changed
    (either_model (OrderIsBeside h.rounds mid g between.line between.table) w
    (λ weak. order_told_weakly h.history mid g r k h.order.line between.line h.order.table between.table weak told.answered marks told.spare told.runs told.sealed (told.same_table weak) whole.order)
    (λ strong. order_told_down h.history mid g (held_in (open_of h)) r k last h.order.line between.line h.order.table between.table (down.told strong) below down.number told.answered last_is marks told.spare told.runs told.sealed (table strong) whole.order))) whole
  where
    w : Setting
    w = h.history.setting

    n : Reading
    n = read_in h.history

    g : Grips
    g = (configuration_of (open_of h)).grips

    es : List Entry
    es = answer_entries r k Down cause

    history : with_doom mid r cause ≡ with_more h.history r es
    history = ap (λ x. with_doom x r cause) told.answered ∙ answered_more h.history r k Down cause

    enters : IsEntered h t r m es Going
    enters = told_enters h t r m k must c cause mid last between is new told

    down : IsAnsweringDown (configuration_of (open_of h)) (held_in (open_of h)) r k
    down = answering (configuration_of (open_of h)) h.rounds h.opened (held_in (open_of h)) r m k must whole.shown.configuration is

    below : (command_at w.runs r k).device.0 < length w.first
    below = below_home w (command_at w.runs r k).device.0 down.device

    none : HoldsNone g r
    none = holds_none w g r whole.shown.configuration.grips.homed down.free

    reads : (mid.setting ≡ w) × (read_in mid ≡ entry w n (Did (run_no r) k Down))
    reads = (ap (λ (x : HistoryState). x.setting) told.answered, ap read_in told.answered ∙ read_more w h.history.history r (Did (run_no r) k Down))

    fit : GripsFit (point mid.setting (read_in mid) g)
    fit = subst (λ x. GripsFit (point x (read_in mid) g)) (sym reads.0) (subst (λ x. GripsFit (point w x g)) (sym reads.1) (fits_other w n (entry w n (Did (run_no r) k Down)) g r (λ q ne. put_other n.run r _ q ne) none whole.shown.configuration.grips))

    last_is : last ≡ is_done_there w n r k
    last_is = told.last_is ∙ (λ i. is_doomed (reads.1 i) r || not (pends (reads.0 i) (reads.1 i) r (told.command i).device.0)) ∙ done_after w n r k Down (command_at w.runs r k).device.0 down.number refl

    marks : between.line.marks ≡ touching r (command_at w.runs r k).device.0 h.order.line.marks
    marks = told.marks ∙ ap (λ (x : Command). touching r x.device.0 h.order.line.marks) told.command

    table : is_weak w.mode ≡ false → between.table ≡ with_lineage h.order.table (command_at w.runs r k).device.0 (noted_first r (is_first r (lineage_at h.order.table (command_at w.runs r k).device.0)) ViewedDown None last)
    table strong = told.table strong ∙ ap (λ (x : Command). with_lineage h.order.table x.device.0 (noted_first r (is_first r (lineage_at h.order.table x.device.0)) ViewedDown None last)) told.command

-- the line of a window has as many items as its marks
pub standing_size : (s : Configuration) (parts : WindowParts) → IsStandingOf s parts → length parts.line ≡ length (read_of s).line
standing_size s parts stands = sym (length-map parts.line (λ (x : Mark). x.item)) ∙ ap length stands.its_line.items

-- the line of a hub has no more items than the scratch has room for
pub standing_fits : {D : Type 0} {shows : D → Shown} (h : Inside D) (s : OpenHub D) (parts : WindowParts) (room : ScratchRoom) → open_of h ≡ s → IsStandingOf (configuration_of s) parts
    → IsForHome s.setting s.rounds room → IsWhole shows h → length parts.line ≤ room.items
standing_fits {D = D} h s parts room seen stands home k =
    let size = standing_size (configuration_of s) parts stands in
    let fits = subst (λ (x : OpenHub D). length (read_of (configuration_of x)).line ≤ most_items (length x.setting.runs) (length x.setting.first) x.rounds) seen (line_fits _ h.rounds h.opened _ k.shown.configuration) in
    omega (arith, size, fits, home.items)

-- A device goes out

-- the line's run that is handed the device out, one of the 256 that a home may have
pub record MayMark (r d : ℕ) (marks : List Mark) (table : List LineageState) : Type 0 where
  pub stands : stands (Ran (run_no r)) marks ≡ true
  pub device : d < 256
  pub homed : d < length table

pub may_mark : (s : Configuration) (rounds opened : ℕ) (held : ℕ → ℕ) (r m d : ℕ) (purpose : Purpose) (marks : List Mark) (table : List LineageState)
    → IsKeptByModel s rounds opened held → choice_of s r m ≡ HandsOut d purpose → MarksAreKept (read_of s) s.grips marks → length table ≡ length s.setting.first
    → MayMark r d marks table
may_mark s rounds opened held r m d purpose marks table k chose line_is size = record {
  stands = live_stands s.setting (read_of s) s.grips r marks (read_kept s rounds opened held k) out.live line_is;
  device = let few : length s.setting.first ≤ 256 = k.opens.few_devices in omega (arith, within, few);
  homed = omega (arith, within, size);
}
  where
    out : IsHandedOut s r d purpose
    out = handed_out s rounds opened held r m d purpose k chose

    within : d < length s.setting.first
    within = below_home s.setting d out.device

-- line and table when a device has gone out for this purpose
went_for : {rounds : ℕ} (h : HistoryState) (s : Configuration) (g f : Grips) (r d : ℕ) (purpose : Purpose) (line after : Marked)
    (table later : List LineageState) → s.setting ≡ h.setting → read_of s ≡ read_in h → IsRead h.setting (read_in h) → g d ≡ None → d < length table
    → GoesFor s r d purpose → f ≡ put g d (Some (record { maker = r; purpose = purpose }))
    → after.marks ≡ (if is_command purpose then touching r d line.marks else line.marks) → after.spare ≡ line.spare → after.runs ≡ line.runs
    → after.sealed ≡ line.sealed → later ≡ (if is_undo purpose then with_lineage table d (undone r) else table) → OrderIsBeside rounds h g line table
    → OrderIsBeside rounds h f after later
went_for h s g f r d (Commands k) line after table later setting same read home below for out marks spare runs stays changed order =
    order_out h g f r d k line after table later home (ap (λ n. is_doomed n r) (sym same) ∙ for.sound)
    (ap₂ (λ w n. pends w n r d) (sym setting) (sym same) ∙ next_is_left d (commands_of s.setting.runs r) (next_of (read_of s) r)
    (ap (λ o. unwrap_or (option_map (is_on d) o) false) for.next ∙ eq-eqb for.command.device.0 d for.on)) out marks spare runs stays changed order
went_for h s g f r d (Undoes v) line after table later setting same read home below for out marks spare runs stays changed order = order_undo_out h g f r d v line after table later read home below out marks spare runs stays changed order
went_for h s g f r d (Probes v) line after table later setting same read home below for out marks spare runs stays changed order = absurd for

-- .. as the step of the hub does
pub record IsTouched {D : Type 0} (h t : Inside D) (r d : ℕ) (purpose : Purpose) : Type 0 where
  pub marks : t.order.line.marks ≡ (if is_command purpose then touching r d h.order.line.marks else h.order.line.marks)
  pub spare : t.order.line.spare ≡ h.order.line.spare
  pub runs : t.order.line.runs ≡ h.order.line.runs
  pub sealed : t.order.line.sealed ≡ h.order.line.sealed
  pub table : t.order.table ≡ (if is_undo purpose then with_lineage h.order.table d (undone r) else h.order.table)

order_went : {D : Type 0} {shows : D → Shown} (h t : Inside D) (r m d : ℕ) (purpose : Purpose) (known : DeviceProgress) (task : Task) (grip : Gripped D Ready) → IsHanded shows h t r m d purpose known task grip → IsTouched h t r d purpose
    → IsWhole shows h → OrderIsBeside h.rounds h.history (configuration_of (open_of t)).grips t.order.line t.order.table
order_went {D = D} h t r m d purpose known task grip handed touched k =
    went_for h.history s g (configuration_of (open_of t)).grips r d purpose h.order.line t.order.line h.order.table t.order.table refl refl (read_whole h k) (none_there (g d) out.home)
    (let first : d < length h.history.setting.first = below_home h.history.setting d out.device in
    let size : length h.order.table ≡ length h.history.setting.first = k.order.table_is.devices in omega (arith, first, size)) out.for gone touched.marks
    touched.spare touched.runs touched.sealed touched.table k.order
  where
    s : Configuration
    s = configuration_of (open_of h)

    g : Grips
    g = s.grips

    out : IsHandedOut s r d purpose
    out = handed_out s h.rounds h.opened (held_in (open_of h)) r m d purpose k.shown.configuration handed.chosen

    gone : ◌≡◌ {A = Grips} (configuration_of (open_of t)).grips (put g d (Some (record { maker = r; purpose = purpose })))
    gone = gone_grips h t r d purpose (progress_at h.checkouts.known.items d).probes_left task grip (handed_gone h t r m d purpose known task grip handed k) k

-- its run's hand is one of those that are known
hands_went : {D : Type 0} {shows : D → Shown} (h t : Inside D) (r m d : ℕ) (purpose : Purpose) (known : DeviceProgress) (task : Task) (grip : Gripped D Ready) → IsHanded shows h t r m d purpose known task grip
    → IsWhole shows h → HeldTokensAre h.history.setting (configuration_of (open_of t)).grips t.checkouts.held_tokens.items
hands_went h t r m d purpose known task grip handed k =
    let out = handed_out (configuration_of (open_of h)) h.rounds h.opened (held_in (open_of h)) r m d purpose k.shown.configuration handed.chosen in
    hand_goes h.history.setting (configuration_of (open_of h)).grips (configuration_of (open_of t)).grips r (device_no d)
    purpose h.checkouts.held_tokens.items t.checkouts.held_tokens.items out.run (below_home h.history.setting d out.device) out.free (none_there _ out.home)
    (gone_grips h t r d purpose (progress_at h.checkouts.known.items d).probes_left task grip (handed_gone h t r m d purpose known task grip handed k) k)
    (handed.sent.held_tokens ∙ run_hand h.history.setting.runs h.checkouts.held_tokens.items r (Some (device_no d)) out.run) k.held_tokens

-- the device is handed out, and touched by its run
pub handed_whole : {D : Type 0} {shows : D → Shown} (h t : Inside D) (r m d : ℕ) (purpose : Purpose) (known : DeviceProgress) (task : Task) (grip : Gripped D Ready) → IsHanded shows h t r m d purpose known task grip → IsTouched h t r d purpose
    → IsWhole shows h → IsWhole shows t
handed_whole h t r m d purpose known task grip handed touched k =
    gone_whole h t r d purpose (progress_at h.checkouts.known.items d).probes_left task grip (handed_gone h t r m d purpose known task grip handed k) (handed_kept h t r m d purpose known task grip handed k)
    (order_went h t r m d purpose known task grip handed touched k) (hands_went h t r m d purpose known task grip handed k) k
