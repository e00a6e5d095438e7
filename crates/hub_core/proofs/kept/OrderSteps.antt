-- Each entry of a step that is no event, and each device that goes out, keeps the line and the table of a window.
use Rattle.hub_core.proofs.Prelude.{Aborted, Answer, Arrived, Bool, Cause, ChangesEach, Command, Commands, Committed, Did, Doomed, Down, Ended, Entry, Grip, Grips, GripsFit, HistoryState, HoldsNone, IsClear, IsOrderOf, IsOut, IsRead, IsSealed, IsSome, IsToldDown, IsTrue, IsUnreleased, IsWellFormed, Item, Kept, LineageIsKept, LineageState, List, Mark, Marked, MarksAreKept, MayNote, None, OfRun, Option, OrderIsBeside, Placed, Point, Purpose, Ran, Reading, Setting, Some, TableFits, TableIsKept, TableIsOpened, TouchesNow, Undid, Undoes, [], aborted_table, along, along_on, and_parts, answered_change, answered_lineage, answered_run, answered_table, ap, arith, arrived_table, cause_fits, changes_one, command_at, command_held, command_out_table, committed_lineage, committed_table, common_steps, cond, count_by, count_cons, cut_live, device_no, did, doomed_each, doomed_lineage, doomed_table, drop, each_at, entries_of, entries_on, entry, eqb-true, false, front_for, front_of, gap_set, grips_command, held_none, if◌then◌else◌, in_order, is_access, is_command, is_done_there, is_doomed, is_first, is_ran, is_run, is_scheduled, is_some, is_told, is_weak, is_well_formed, items_of, joined_table, kept_by, left_after, length, length-append, length-map, line_for, lineage_at, marks_aborted, marks_answered, marks_arrived, marks_begin, marks_committed, marks_doomed, marks_out, marks_told, marks_undo_home, marks_undo_out, marks_undone, marks_without, may_act, may_follow, most_items, next_of, no_grips, none_left, not, not-true, noted_first, nothing_read, opened_table, option_map, out_is, pends, placed_change, planned_times, point, put, put_same, read_facts, read_in, reading, reading_more, refl, removed, run_no, run_positive, scheduled_on, scheduler_of, settling, stands_in, status_of, status_there, subst, suc, sym, take, take-append-drop, told_table, told_touches_now, told_write, touches_from, touches_now, touching, true, undid_table, undo_dropped_table, undo_out_table, undone, undone_change, untouched, unwrap_or, view_when, waits_there, with_doom, with_end, with_entry, with_item, with_lineage, with_touch, ℕ, ◌&&◌, ◌++◌, ◌+◌, ◌<◌, ◌==◌, ◌||◌, ◌∙◌, ◌∷◌, ◌≡◌, ◌≤◌}
use Rattle.device_order.specs.LineWords.{CutAt}
use Rattle.device_order.specs.Usages.{holds_command}
use Rattle.history_book.specs.Sealed.{sealed_in}
use Rattle.home_types.specs.declared.commands.View.TheVariants.{Down as ViewedDown}
use Rattle.home_types.specs.declared.commands.View.{View}
use Rattle.hub_core.proofs.kept.Arranged.{as_they_stand, long_arranged, marks_arranged, marks_for, marks_joined}
use Rattle.hub_core.proofs.kept.SealedOrders.{placed_sealed, same_sealed, sealed_is, touched_sealed}
use Rattle.hub_core.proofs.kept.Sizes.{one_at_most}
use Rattle.hub_core.proofs.kept.TableFits.{committed_bare, doomed_bare, fits_changed, fits_ordered, fits_still, fits_weakly, removed_bare, undone_change_bare}
use Rattle.lineage_table.specs.declared.accesses.Status.TheVariants.{Acquired, Scheduled}
use Rattle.serial_line.specs.KeptRuns.{AreKeptOf}
use Rattle.window_order.specs.OrderKept.{OrderIsKept}

-- One entry more

pub read_more : (w : Setting) (h : List Kept) (maker : ℕ) (e : Entry) → reading w (entries_of (h ++ kept_by maker (e ∷ []))) ≡ entry w (reading w (entries_of h)) e
read_more w h maker e = ap (reading w) (entries_on h maker (e ∷ [])) ∙ reading_more w (entries_of h) e

-- the last entry may stand where it stands
pub last_follows : (w : Setting) (h : List Kept) (maker : ℕ) (e : Entry) → IsWellFormed w (entries_of (h ++ kept_by maker (e ∷ []))) → IsTrue (may_follow w (reading w (entries_of h)) e)
last_follows w h maker e formed = each_at w (may_follow w) (nothing_read w) (entries_of h) e [] (subst (IsWellFormed w) (entries_on h maker (e ∷ [])) formed)

-- what is kept after it is kept of the history with it
pub entry_kept : {rounds : ℕ} (h h₂ : HistoryState) (g : Grips) (maker : ℕ) (e : Entry) (line : Marked) (table : List LineageState) → h₂ ≡ with_entry h maker e → IsOrderOf rounds (point h.setting (entry h.setting (read_in h) e) g) line table → OrderIsBeside rounds h₂ g line table
entry_kept {rounds = rounds} h h₂ g maker e line table new kept =
    subst (λ (x : HistoryState). OrderIsBeside rounds x g line table) (sym new)
    (subst (λ n. IsOrderOf rounds (point h.setting n g) line table) (sym (read_more h.setting h.history maker e)) kept)

-- The start

pub order_begins : (rounds : ℕ) (w : Setting) (line : Marked) (table : List LineageState) → line.marks ≡ [] → line.sealed ≡ 0 → AreKeptOf w.runs line.runs
    → most_items (length w.runs) (length w.first) rounds ≤ line.spare → TableIsOpened w.runs w.first table
    → IsOrderOf rounds (point w (nothing_read w) no_grips) line table
order_begins rounds w line table none none_sealed runs room opened = record {
  table_is = record {
    devices = opened.devices;
    ordered = λ strong. opened_table w no_grips table opened;
    weakly = λ weak d below. let new = opened.each d below in record { accesses = new.none; up = new.up };
  };
  line_is = subst (MarksAreKept (nothing_read w) no_grips) (sym none) (marks_begin w);
  sealed = none_sealed ∙ ap front_of (sym none);
  runs = runs;
  room = omega (arith, room);
}

-- A run arrives

pub order_arrived : {rounds : ℕ} (h h₂ : HistoryState) (g : Grips) (r m : ℕ) (line : Marked) (table : List LineageState) → h₂ ≡ with_entry h r (Arrived (run_no r) m) → OrderIsBeside rounds h g line table → OrderIsBeside rounds h₂ g line table
order_arrived {rounds = rounds} h h₂ g r m line table new kept = entry_kept h h₂ g r (Arrived (run_no r) m) line table new (record {
  table_is = fits_still h.setting (read_in h) _ g g table (λ d. refl) (λ own. arrived_table h.setting (read_in h) g r m table own) kept.table_is;
  line_is = marks_arrived h.setting (read_in h) g r m line.marks kept.line_is;
  sealed = kept.sealed;
  runs = kept.runs;
  room = omega (arith, kept.room);
})

-- A run is placed

pub length_with : (at : ℕ) (x : Item) (marks : List Mark) → length (with_item at x marks) ≡ length marks + 1
length_with at x marks =
    let after : length (with_item at x marks) ≡ length (take at marks) + suc (length (drop at marks)) = length-append (take at marks) (untouched x ∷ drop at marks) in
    let before : length (take at marks ++ drop at marks) ≡ length (take at marks) + length (drop at marks) = length-append (take at marks) (drop at marks) in
    let whole : length (take at marks ++ drop at marks) ≡ length marks = ap length (take-append-drop at marks) in
    omega (arith, after, before, whole)

-- .. at a place that is clear as the line stands then
pub order_placed : {rounds : ℕ} (h h₂ : HistoryState) (g : Grips) (r at m : ℕ) (line after : Marked) (table later : List LineageState)
    → IsRead h.setting (read_in h) → GripsFit (point h.setting (read_in h) g) → is_weak h.setting.mode ≡ false
    → IsClear (point h.setting (in_order (read_in h) (line_for h.setting (read_in h) r m)) g) r at
    → h₂ ≡ with_entry h r (Placed (run_no r) at m) → IsWellFormed h₂.setting (entries_of h₂.history)
    → after.marks ≡ with_item at (Ran (run_no r)) (marks_for h.setting (read_in h) r m line.marks) → after.spare + 1 ≡ line.spare → after.runs ≡ line.runs → IsSealed after
    → ChangesEach (scheduled_on h.setting.runs r (planned_times h.setting (read_in h) r (front_for h.setting (read_in h) r at m) m) (drop at (items_of (marks_for h.setting (read_in h) r m line.marks)))) table later
    → OrderIsBeside rounds h g line table → OrderIsBeside rounds h₂ g after later
order_placed {rounds = rounds} h h₂ g r at m line after table later read fit strong clear new formed marks spare runs sealed changes kept = entry_kept h h₂ g r (Placed (run_no r) at m) after later new (record {
  table_is = fits_ordered (point w _ g) later strong (joined_table w n g r at m table later read may clear changed (kept.table_is.ordered strong));
  line_is = subst (MarksAreKept (entry w n (Placed (run_no r) at m)) g) (sym marks) (marks_joined w n g r at m line.marks read fit may kept.line_is);
  sealed = sealed;
  runs = subst (AreKeptOf w.runs) (sym runs) kept.runs;
  room = let size = ap (λ (x : List Mark). length x) marks ∙ length_with at (Ran (run_no r)) (marks_for w n r m line.marks) ∙ ap (λ k. k + 1) (long_arranged (scheduler_of w.mode) (gap_set w n r m) line.marks) in omega (arith, size, spare, kept.room);
})
  where
    w : Setting
    w = h.setting

    n : Reading
    n = read_in h

    may : may_follow w n (Placed (run_no r) at m) ≡ true
    may = last_follows w h.history r (Placed (run_no r) at m) (subst (λ (x : HistoryState). IsWellFormed x.setting (entries_of x.history)) new formed)

    changed : ChangesEach (placed_change w (in_order n (line_for w n r m)) r at (planned_times w n r (front_for w n r at m) m)) table later
    changed = subst (λ is. ChangesEach (scheduled_on w.runs r (planned_times w n r (front_for w n r at m) m) (drop at is)) table later) (marks_arranged w n g r m line.marks kept.line_is).items changes

-- .. under the weak model, where it has no access
pub order_joined : {rounds : ℕ} (h h₂ : HistoryState) (g : Grips) (r at m : ℕ) (line after : Marked) (table : List LineageState) → is_weak h.setting.mode ≡ true
    → IsRead h.setting (read_in h) → GripsFit (point h.setting (read_in h) g) → sealed_in (read_in h) ≤ at → h₂ ≡ with_entry h r (Placed (run_no r) at m)
    → IsWellFormed h₂.setting (entries_of h₂.history)
    → after.marks ≡ with_item at (Ran (run_no r)) line.marks → after.spare + 1 ≡ line.spare → after.runs ≡ line.runs → after.sealed ≡ line.sealed → OrderIsBeside rounds h g line table → OrderIsBeside rounds h₂ g after table
order_joined {rounds = rounds} h h₂ g r at m line after table weak read fit behind new formed marks spare runs stays kept = entry_kept h h₂ g r (Placed (run_no r) at m) after table new (record {
  table_is = fits_weakly w n _ g g table weak (λ d. refl) kept.table_is;
  line_is = subst (MarksAreKept (entry w n (Placed (run_no r) at m)) g) (sym marks) (subst (λ ms. MarksAreKept (entry w n (Placed (run_no r) at m)) g (with_item at (Ran (run_no r)) ms)) (as_they_stand w n r m line.marks weak) (marks_joined w n g r at m line.marks read fit may kept.line_is));
  sealed = placed_sealed (run_no r) at line after (let is = sealed_is (point w n g) line read kept.line_is kept.sealed in omega (arith, behind, is)) marks stays kept.sealed;
  runs = subst (AreKeptOf w.runs) (sym runs) kept.runs;
  room = let size = ap (λ (x : List Mark). length x) marks ∙ length_with at (Ran (run_no r)) line.marks in omega (arith, size, spare, kept.room);
})
  where
    w : Setting
    w = h.setting

    n : Reading
    n = read_in h

    may : may_follow w n (Placed (run_no r) at m) ≡ true
    may = last_follows w h.history r (Placed (run_no r) at m) (subst (λ (x : HistoryState). IsWellFormed x.setting (entries_of x.history)) new formed)

-- A run commits

pub order_committed : {rounds : ℕ} (h h₂ : HistoryState) (g : Grips) (r : ℕ) (line after : Marked) (table later : List LineageState) → IsRead h.setting
    (read_in h) → GripsFit (point h.setting (read_in h) g) → h₂ ≡ with_entry h r (Ended (run_no r) Committed) → IsWellFormed h₂.setting (entries_of h₂.history)
    → after.marks ≡ settling r line.marks → after.spare ≡ line.spare → after.runs ≡ line.runs → IsSealed after → ChangesEach (λ d. committed_lineage r) table later → OrderIsBeside rounds h g line table → OrderIsBeside rounds h₂ g after later
order_committed {rounds = rounds} h h₂ g r line after table later read fit new formed marks spare runs sealed changes kept = entry_kept h h₂ g r (Ended (run_no r) Committed) after later new (record {
  table_is = fits_changed w n _ g g (λ d. committed_lineage r) table later (λ d. refl) (λ d. committed_bare r) changes (λ own. committed_table w n g r table later read fit may changes own) kept.table_is;
  line_is = subst (MarksAreKept (entry w n (Ended (run_no r) Committed)) g) (sym marks) (marks_committed w n g r line.marks kept.line_is);
  sealed = sealed;
  runs = subst (AreKeptOf w.runs) (sym runs) kept.runs;
  room = let size = ap (λ (x : List Mark). length x) marks ∙ length-map line.marks (with_end r) in omega (arith, size, spare, kept.room);
})
  where
    w : Setting
    w = h.setting

    n : Reading
    n = read_in h

    may : may_follow w n (Ended (run_no r) Committed) ≡ true
    may = last_follows w h.history r (Ended (run_no r) Committed) (subst (λ (x : HistoryState). IsWellFormed x.setting (entries_of x.history)) new formed)

-- A command goes out

length_touching : (r d : ℕ) (marks : List Mark) → length (touching r d marks) ≡ length marks
length_touching r d marks = length-map marks (with_touch r d)

pub order_out : {rounds : ℕ} (h : HistoryState) (g f : Grips) (r d k : ℕ) (line after : Marked) (table later : List LineageState) → g d ≡ None → is_doomed (read_in h) r ≡ false → pends h.setting (read_in h) r d ≡ true → f ≡ put g d (Some (record { maker = r; purpose = Commands k }))
    → after.marks ≡ touching r d line.marks → after.spare ≡ line.spare → after.runs ≡ line.runs → after.sealed ≡ line.sealed → later ≡ table → OrderIsBeside rounds h g line table → OrderIsBeside rounds h f after later
order_out {rounds = rounds} h g f r d k line after table later home sound pending out marks spare runs stays same kept = subst (λ (x : Grips). IsOrderOf rounds (point w n x) after later) (sym out) (record {
  table_is = subst (TableFits (point w n (put g d (Some (record { maker = r; purpose = Commands k }))))) (sym same) (fits_still w n n g _ table (λ e. refl) (λ own. command_out_table w n g d r k table home sound pending own) kept.table_is);
  line_is = subst (MarksAreKept n (put g d (Some (record { maker = r; purpose = Commands k })))) (sym marks) (marks_out n g r d k line.marks home kept.line_is);
  sealed = touched_sealed r d line after marks stays kept.sealed;
  runs = subst (AreKeptOf w.runs) (sym runs) kept.runs;
  room = let size = ap (λ (x : List Mark). length x) marks ∙ length_touching r d line.marks in omega (arith, size, spare, kept.room);
})
  where
    w : Setting
    w = h.setting

    n : Reading
    n = read_in h

-- An undo goes out

pub order_undo_out : {rounds : ℕ} (h : HistoryState) (g f : Grips) (r d v : ℕ) (line after : Marked) (table later : List LineageState) → IsRead h.setting (read_in h) → g d ≡ None → d < length table → f ≡ put g d (Some (record { maker = r; purpose = Undoes v }))
    → after.marks ≡ line.marks → after.spare ≡ line.spare → after.runs ≡ line.runs → after.sealed ≡ line.sealed → later ≡ with_lineage table d (undone r) → OrderIsBeside rounds h g line table → OrderIsBeside rounds h f after later
order_undo_out {rounds = rounds} h g f r d v line after table later read home below out marks spare runs stays changed kept = subst (λ (x : Grips). IsOrderOf rounds (point w n x) after later) (sym out) (record {
  table_is = fits_changed w n n g _ (undone_change r d) table later (λ e. refl) (λ e. undone_change_bare r d e) changes (λ own. undo_out_table w n g d r v table later read home changes own) kept.table_is;
  line_is = subst (MarksAreKept n (put g d (Some (record { maker = r; purpose = Undoes v })))) (sym marks) (marks_undo_out n g r d v line.marks home kept.line_is);
  sealed = same_sealed line after marks stays kept.sealed;
  runs = subst (AreKeptOf w.runs) (sym runs) kept.runs;
  room = let size = ap (λ (x : List Mark). length x) marks in omega (arith, size, spare, kept.room);
})
  where
    w : Setting
    w = h.setting

    n : Reading
    n = read_in h

    changes : ChangesEach (undone_change r d) table later
    changes = subst (ChangesEach (undone_change r d) table) (sym changed) (changes_one table d (undone r) below)

-- A command is answered

-- by such a status the run has not touched the device exactly where it has no access by its answers, and is not done with it
pub stands_so : (r : ℕ) (s : LineageState) (seen : Bool) → status_of r s.accesses ≡ Some (if seen then Acquired else Scheduled) → (is_first r s ≡ not seen) × IsUnreleased r s
stands_so r s seen stands = (first, stands ∙ ap (λ x. Some x) (turned seen) ∙ (λ i. Some (if sym first i then Scheduled else Acquired)))
  where
    by_seen : (b : Bool) → is_scheduled (if b then Acquired else Scheduled) ≡ not b
    by_seen true = refl
    by_seen false = refl

    first : is_first r s ≡ not seen
    first = ap (λ o. unwrap_or (option_map is_scheduled o) false) stands ∙ by_seen seen

    turned : (b : Bool) → (if b then Acquired else Scheduled) ≡ (if not b then Scheduled else Acquired)
    turned true = refl
    turned false = refl

-- what the table asks for where it is the run's turn on the device
note_there : (w : Setting) (n : Reading) (g : Grips) (d r : ℕ) (cut : CutAt r n.line) (s : LineageState) → IsRead w n → TouchesNow w n g d r cut → LineageIsKept (point w n g) d s → (is_first r s ≡ not (did n r d)) × MayNote r s
note_there w n g d r cut s read turn kept = (so.0, record { status = so.1; first = λ h. waits_there w n g d r cut s read turn (not-true (did n r d) (sym so.0 ∙ h)) kept })
  where
    so : (is_first r s ≡ not (did n r d)) × IsUnreleased r s
    so = stands_so r s (did n r d) (status_there w n g d r cut s read turn kept)

-- the run's turn on the device of its command
pub may_note : (w : Setting) (n : Reading) (g : Grips) (held : ℕ → ℕ) (d r k : ℕ) (table : List LineageState) → IsRead w n → OrderIsKept (point w n g) held → g d ≡ Some (record { maker = r; purpose = Commands k }) → d < length w.first → TableIsKept (point w n g) table
    → (is_first r (lineage_at table d) ≡ not (did n r d)) × MayNote r (lineage_at table d)
may_note w n g held d r k table read order at below kept = note_there w n g d r cut (lineage_at table d) read (touches_now w n g held d r k cut read order at) (kept.each d below)
  where
    cut : CutAt r n.line
    cut = cut_live w n r read (out_is w n g d r k order.grips at).live

-- what the answer tells of the device
pub record ToldOf (w : Setting) (n : Reading) (r k : ℕ) (a : Answer) (view : View) (wrote : Option ℕ) (last : Bool) : Type 0 where
  pub view_is : view ≡ view_when (is_told a)
  pub wrote_is : wrote ≡ told_write w n r (command_at w.runs r k) a
  pub last_is : last ≡ is_done_there w n r k

pub order_answered : {rounds : ℕ} (h h₂ : HistoryState) (g f : Grips) (held : ℕ → ℕ) (d r k : ℕ) (a : Answer) (view : View) (wrote : Option ℕ) (last : Bool) (line after : Marked) (table later : List LineageState)
    → is_access a ≡ true → IsRead h.setting (read_in h) → is_weak h.setting.mode ≡ false → OrderIsKept (point h.setting (read_in h) g) held → g d ≡ Some (record { maker = r; purpose = Commands k }) → d < length h.setting.first
    → h₂ ≡ with_entry h r (Did (run_no r) k a) → f ≡ put g d None → ToldOf h.setting (read_in h) r k a view wrote last → after ≡ line → later ≡ with_lineage table d (noted_first r (is_first r (lineage_at table d)) view wrote last)
    → OrderIsBeside rounds h g line table → OrderIsBeside rounds h₂ f after later
order_answered {rounds = rounds} h h₂ g f held d r k a view wrote last line after table later access read strong order at below new home told same changed kept =
    entry_kept h h₂ f r (Did (run_no r) k a) after later new (subst (λ (x : Grips). IsOrderOf rounds (point w m x) after later) (sym home) (subst (λ (x : Marked). IsOrderOf rounds (point w m (put g d None)) x later) (sym same) (record {
      table_is = fits_ordered (point w _ _) later strong (answered_table w n g held d r k a table later access read order at changes (kept.table_is.ordered strong));
      line_is = marks_answered w n g d r k a line.marks access out at kept.line_is;
      sealed = kept.sealed;
      runs = kept.runs;
      room = omega (arith, kept.room);
    })))
  where
    w : Setting
    w = h.setting

    n : Reading
    n = read_in h

    m : Reading
    m = entry w n (Did (run_no r) k a)

    out : IsOut w n d r k
    out = out_is w n g d r k order.grips at

    first : is_first r (lineage_at table d) ≡ not (did n r (command_at w.runs r k).device.0)
    first = (may_note w n g held d r k table read order at below (kept.table_is.ordered strong)).0 ∙ ap (λ x. not (did n r x)) out.device

    one : LineageState → LineageState
    one = noted_first r (is_first r (lineage_at table d)) view wrote last

    is_answered : (s : LineageState) → one s ≡ answered_lineage w n r k a s
    is_answered s = λ i. noted_first r (first i) (told.view_is i) (told.wrote_is i) (told.last_is i) s

    single : ChangesEach (λ e s. if e == d then one s else s) table (with_lineage table d one)
    single = changes_one table d one (subst (λ x. d < x) (sym kept.table_is.devices) below)

    changes : ChangesEach (answered_change w n r k a) table later
    changes = subst (ChangesEach (answered_change w n r k a) table) (sym changed) (record {
      devices = single.devices;
      each = λ e lt. single.each e lt ∙ (λ i. if e == out.device i then is_answered (lineage_at table e) i else lineage_at table e);
    })

-- .. under the weak model, which notes it in the line alone
pub order_answered_weakly : {rounds : ℕ} (h h₂ : HistoryState) (g f : Grips) (d r k : ℕ) (a : Answer) (line after : Marked) (table later : List LineageState)
    → is_access a ≡ true → is_weak h.setting.mode ≡ true → GripsFit (point h.setting (read_in h) g) → g d ≡ Some (record { maker = r; purpose = Commands k })
    → h₂ ≡ with_entry h r (Did (run_no r) k a) → f ≡ put g d None → after ≡ line → later ≡ table
    → OrderIsBeside rounds h g line table → OrderIsBeside rounds h₂ f after later
order_answered_weakly {rounds = rounds} h h₂ g f d r k a line after table later access weak fit at new home same still kept =
    entry_kept h h₂ f r (Did (run_no r) k a) after later new
    (subst (λ (x : Grips). IsOrderOf rounds (point w m x) after later) (sym home) (subst (λ (x : Marked). IsOrderOf rounds (point w m (put g d None)) x later)
    (sym same) (subst (IsOrderOf rounds (point w m (put g d None)) line) (sym still) (record {
      table_is = fits_weakly w n m g (put g d None) table weak (λ e. refl) kept.table_is;
      line_is = marks_answered w n g d r k a line.marks access (out_is w n g d r k fit at) at kept.line_is;
      sealed = kept.sealed;
      runs = kept.runs;
      room = omega (arith, kept.room);
    }))))
  where
    w : Setting
    w = h.setting

    n : Reading
    n = read_in h

    m : Reading
    m = entry w n (Did (run_no r) k a)

-- A command is answered Down with no call

-- the run's turn on the device of its command
pub may_note_down : (w : Setting) (n : Reading) (g : Grips) (held : ℕ → ℕ) (r : ℕ) (c : Command) (table : List LineageState) → IsToldDown w n g held r c → c.device.0 < length w.first → TableIsKept (point w n g) table
    → (is_first r (lineage_at table c.device.0) ≡ not (did n r c.device.0)) × MayNote r (lineage_at table c.device.0)
may_note_down w n g held r c table told below kept = note_there w n g c.device.0 r cut (lineage_at table c.device.0) told.read (told_touches_now w n g held r c cut told) (kept.each c.device.0 below)
  where
    cut : CutAt r n.line
    cut = cut_live w n r told.read told.live

-- the run is done with the device of its command, which it has just answered, where it is doomed, or nothing is left there
pub done_after : (w : Setting) (n : Reading) (r k : ℕ) (a : Answer) (d : ℕ) → k ≡ next_of n r → (command_at w.runs r k).device.0 ≡ d → (is_doomed (entry w n (Did (run_no r) k a)) r || not (pends w (entry w n (Did (run_no r) k a)) r d)) ≡ is_done_there w n r k
done_after w n r k a d number on = (λ i. ap (λ (o : OfRun). is_some o.doomed) (put_same n.run r (answered_run w n r k a)) i || not ((left ∙ ap (λ e. touches_from w.runs r e (k + 1)) (sym on)) i))
  where
    left : pends w (entry w n (Did (run_no r) k a)) r d ≡ touches_from w.runs r d (k + 1)
    left = ap (λ (o : OfRun). touches_from w.runs r d (length o.answers)) (put_same n.run r (answered_run w n r k a)) ∙ left_after w n r k a d number

pub order_told_down : {rounds : ℕ} (h h₂ : HistoryState) (g : Grips) (held : ℕ → ℕ) (r k : ℕ) (last : Bool) (line after : Marked)
    (table later : List LineageState) → IsToldDown h.setting (read_in h) g held r (command_at h.setting.runs r k)
    → (command_at h.setting.runs r k).device.0 < length h.setting.first → k ≡ next_of (read_in h) r
    → h₂ ≡ with_entry h r (Did (run_no r) k Down) → last ≡ is_done_there h.setting (read_in h) r k → after.marks ≡ touching r (command_at h.setting.runs r k).device.0 line.marks → after.spare ≡ line.spare → after.runs ≡ line.runs → after.sealed ≡ line.sealed
    → later ≡ with_lineage table (command_at h.setting.runs r k).device.0 (noted_first r (is_first r (lineage_at table (command_at h.setting.runs r k).device.0)) ViewedDown None last)
    → OrderIsBeside rounds h g line table → OrderIsBeside rounds h₂ g after later
order_told_down {rounds = rounds} h h₂ g held r k last line after table later told below number new last_is marks spare runs stays changed kept = entry_kept h h₂ g r (Did (run_no r) k Down) after later new (record {
  table_is =
      fits_ordered (point w _ g) later told.strong (subst (λ j. TableIsKept (point w (entry w n (Did (run_no r) j Down)) g) later) (sym number) (told_table w n g held r c table
      later told (subst (λ j. ChangesEach (answered_change w n r j Down) table later) number changes) (kept.table_is.ordered told.strong)));
  line_is = subst (MarksAreKept (entry w n (Did (run_no r) k Down)) g) (sym marks) (marks_told w n g r k Down line.marks refl kept.line_is);
  sealed = touched_sealed r c.device.0 line after marks stays kept.sealed;
  runs = subst (AreKeptOf w.runs) (sym runs) kept.runs;
  room = let size = ap (λ (x : List Mark). length x) marks ∙ length_touching r c.device.0 line.marks in omega (arith, size, spare, kept.room);
})
  where
    w : Setting
    w = h.setting

    n : Reading
    n = read_in h

    c : Command
    c = command_at w.runs r k

    first : is_first r (lineage_at table c.device.0) ≡ not (did n r c.device.0)
    first = (may_note_down w n g held r c table told below (kept.table_is.ordered told.strong)).0

    one : LineageState → LineageState
    one = noted_first r (is_first r (lineage_at table c.device.0)) ViewedDown None last

    is_answered : (s : LineageState) → one s ≡ answered_lineage w n r k Down s
    is_answered s = λ i. noted_first r (first i) ViewedDown None (last_is i) s

    single : ChangesEach (λ e s. if e == c.device.0 then one s else s) table (with_lineage table c.device.0 one)
    single = changes_one table c.device.0 one (subst (λ x. c.device.0 < x) (sym kept.table_is.devices) below)

    changes : ChangesEach (answered_change w n r k Down) table later
    changes = subst (ChangesEach (answered_change w n r k Down) table) (sym changed) (record {
      devices = single.devices;
      each = λ e lt. single.each e lt ∙ (λ i. if e == c.device.0 then is_answered (lineage_at table e) i else lineage_at table e);
    })

-- .. under the weak model
pub order_told_weakly : {rounds : ℕ} (h h₂ : HistoryState) (g : Grips) (r k : ℕ) (line after : Marked) (table later : List LineageState)
    → is_weak h.setting.mode ≡ true → h₂ ≡ with_entry h r (Did (run_no r) k Down) → after.marks ≡ touching r (command_at h.setting.runs r k).device.0 line.marks → after.spare ≡ line.spare → after.runs ≡ line.runs → after.sealed ≡ line.sealed → later ≡ table
    → OrderIsBeside rounds h g line table → OrderIsBeside rounds h₂ g after later
order_told_weakly {rounds = rounds} h h₂ g r k line after table later weak new marks spare runs stays still kept = entry_kept h h₂ g r (Did (run_no r) k Down) after later new (subst (IsOrderOf rounds (point w (entry w n (Did (run_no r) k Down)) g) after) (sym still) (record {
  table_is = fits_weakly w n _ g g table weak (λ d. refl) kept.table_is;
  line_is = subst (MarksAreKept (entry w n (Did (run_no r) k Down)) g) (sym marks) (marks_told w n g r k Down line.marks refl kept.line_is);
  sealed = touched_sealed r (command_at w.runs r k).device.0 line after marks stays kept.sealed;
  runs = subst (AreKeptOf w.runs) (sym runs) kept.runs;
  room = let size = ap (λ (x : List Mark). length x) marks ∙ length_touching r (command_at w.runs r k).device.0 line.marks in omega (arith, size, spare, kept.room);
}))
  where
    w : Setting
    w = h.setting

    n : Reading
    n = read_in h

-- A run is doomed

pub order_doomed : {rounds : ℕ} (h h₂ : HistoryState) (g : Grips) (r : ℕ) (cause : Cause) (line after : Marked) (table later : List LineageState) → IsRead h.setting (read_in h) → GripsFit (point h.setting (read_in h) g) → ((d : ℕ) → grips_command g r d ≡ false)
    → h₂ ≡ with_entry h r (Doomed (run_no r) cause) → IsWellFormed h₂.setting (entries_of h₂.history) → after ≡ line → ChangesEach (λ d. doomed_lineage r) table later → OrderIsBeside rounds h g line table → OrderIsBeside rounds h₂ g after later
order_doomed {rounds = rounds} h h₂ g r cause line after table later read fit none new formed same changes kept = entry_kept h h₂ g r (Doomed (run_no r) cause) after later new (subst (λ (x : Marked). IsOrderOf rounds (point w (entry w n (Doomed (run_no r) cause)) g) x later) (sym same) (record {
  table_is = fits_changed w n _ g g (λ d. doomed_lineage r) table later (λ d. refl) (λ d. doomed_bare r) changes (λ own. doomed_table w n g r cause table later read fit sound (doomed_each g r None table later none changes) own) kept.table_is;
  line_is = marks_doomed w n g r cause line.marks kept.line_is;
  sealed = kept.sealed;
  runs = kept.runs;
  room = omega (arith, kept.room);
}))
  where
    w : Setting
    w = h.setting

    n : Reading
    n = read_in h

    may : may_follow w n (Doomed (run_no r) cause) ≡ true
    may = last_follows w h.history r (Doomed (run_no r) cause) (subst (λ (x : HistoryState). IsWellFormed x.setting (entries_of x.history)) new formed)

    second : (a b c : Bool) → (a && not b && c) ≡ true → b ≡ false
    second a b c h = grind (arith, common_steps)

    sound : is_doomed n r ≡ false
    sound = second (may_act w n r) (is_doomed n r) (cause_fits w n r cause) may

-- .. where there is a cause
pub order_doomed_if : {rounds : ℕ} (h h₂ : HistoryState) (g : Grips) (r : ℕ) (cause : Option Cause) (line after : Marked) (table later : List LineageState) → GripsFit (point h.setting (read_in h) g) → ((d : ℕ) → grips_command g r d ≡ false)
    → h₂ ≡ with_doom h r cause → IsWellFormed h₂.setting (entries_of h₂.history) → after ≡ line → (cause ≡ None → later ≡ table) → (IsSome cause → ChangesEach (λ d. doomed_lineage r) table later) → OrderIsBeside rounds h g line table → OrderIsBeside rounds h₂ g after later
order_doomed_if {rounds = rounds} h h₂ g r None line after table later fit none new formed same unchanged changed kept =
    subst (λ (x : HistoryState). OrderIsBeside rounds x g after later) (sym new) (subst (λ (x : Marked). OrderIsBeside rounds h g x later) (sym same) (subst (OrderIsBeside rounds h g line) (sym (unchanged refl)) kept))
order_doomed_if h h₂ g r (Some cause) line after table later fit none new formed same unchanged changed kept = order_doomed h h₂ g r cause line after table later (read_facts h.setting (entries_of h.history) before') fit none new formed same (changed (cc)) kept
  where
    -- the history without the doom is well formed too
    before' : IsWellFormed h.setting (entries_of h.history)
    before' =
        (and_parts (is_well_formed h.setting (entries_of h.history)) (along h.setting (may_follow h.setting) (read_in h) (Doomed (run_no r) cause ∷ []))
        (sym (along_on h.setting (may_follow h.setting) (nothing_read h.setting) (entries_of h.history) (Doomed (run_no r) cause ∷ []))
        ∙ subst (IsWellFormed h.setting) (entries_on h.history r (Doomed (run_no r) cause ∷ []))
        (subst (λ (x : HistoryState). IsWellFormed x.setting (entries_of x.history)) new formed))).0

-- a run that holds no grip has out no command
pub none_commands : (w : Setting) (g : Grips) (r : ℕ) → HoldsNone g r → (d : ℕ) → grips_command g r d ≡ false
none_commands w g r none d = sym (command_held w g r d) ∙ ap holds_command (held_none w g r d none)

-- a run whose only grip is that of a device has out no command once the device is home
pub none_out : (p : Point) (d r : ℕ) (q : Purpose) → is_run p.setting.runs r ≡ true → p.grips d ≡ Some (record { maker = r; purpose = q }) → GripsFit p → (e : ℕ) → grips_command (put p.grips d None) r e ≡ false
none_out p d r q run at fit e = at_ (put p.grips d None e) refl
  where
    none : HoldsNone (put p.grips d None) r
    none = let is = run_positive p.setting r run in subst (HoldsNone (put p.grips d None)) (sym is.1) (none_left p.setting p.reading p.grips d is.0 q (at ∙ ap (λ x. Some (record { maker = x; purpose = q })) is.1) fit)

    one : (x : Grip) → put p.grips d None e ≡ Some x → (b : Bool) → (x.maker == r) ≡ b → (b && is_command x.purpose) ≡ false
    one x h true own = absurd (none e x.purpose (h ∙ ap (λ y. Some (record { maker = y; purpose = x.purpose })) (eqb-true x.maker r own)))
    one x h false own = refl

    at_ : (o : Option Grip) → put p.grips d None e ≡ o → unwrap_or (option_map (λ q. (q.maker == r) && is_command q.purpose) o) false ≡ false
    at_ None h = refl
    at_ (Some x) h = one x h (x.maker == r) refl

-- A run is undone on a device

pub order_undone : {rounds : ℕ} (h h₂ : HistoryState) (g f : Grips) (r d v : ℕ) (line : Marked) (table : List LineageState) → h₂
    ≡ with_entry h r (Undid (run_no r) (device_no d) true) → g d ≡ Some (record { maker = r; purpose = Undoes v }) → f ≡ put g d None
    → OrderIsBeside rounds h g line table → OrderIsBeside rounds h₂ f line table
order_undone {rounds = rounds} h h₂ g f r d v line table new out home kept = entry_kept h h₂ f r (Undid (run_no r) (device_no d) true) line table new (subst (λ (x : Grips). IsOrderOf rounds (point w (entry w n (Undid (run_no r) (device_no d) true)) x) line table) (sym home) (record {
  table_is = fits_still w n _ g _ table (λ e. refl) (λ own. undid_table w n g d r v table out own) kept.table_is;
  line_is = marks_undone w n (put g d None) r d true line.marks (marks_undo_home n g r d v line.marks out kept.line_is);
  sealed = kept.sealed;
  runs = kept.runs;
  room = omega (arith, kept.room);
}))
  where
    w : Setting
    w = h.setting

    n : Reading
    n = read_in h

-- .. or its write there is dropped
pub order_dropped : {rounds : ℕ} (h h₂ : HistoryState) (g : Grips) (r d : ℕ) (line after : Marked) (table later : List LineageState) → IsRead h.setting (read_in h) → d < length table → h₂ ≡ with_entry h r (Undid (run_no r) (device_no d) false) → after ≡ line → later ≡ with_lineage table d (undone r)
    → OrderIsBeside rounds h g line table → OrderIsBeside rounds h₂ g after later
order_dropped {rounds = rounds} h h₂ g r d line after table later read below new same changed kept =
    entry_kept h h₂ g r (Undid (run_no r) (device_no d) false) after later new
    (subst (λ (x : Marked). IsOrderOf rounds (point w (entry w n (Undid (run_no r) (device_no d) false)) g) x later) (sym same) (record {
      table_is = fits_changed w n _ g g (undone_change r d) table later (λ e. refl) (λ e. undone_change_bare r d e) changes (λ own. undo_dropped_table w n g d r false table later read changes own) kept.table_is;
      line_is = marks_undone w n g r d false line.marks kept.line_is;
      sealed = kept.sealed;
      runs = kept.runs;
      room = omega (arith, kept.room);
    }))
  where
    w : Setting
    w = h.setting

    n : Reading
    n = read_in h

    changes : ChangesEach (undone_change r d) table later
    changes = subst (ChangesEach (undone_change r d) table) (sym changed) (changes_one table d (undone r) below)

-- A run is aborted

-- without the run so many items are left
length_without : (r : ℕ) (marks : List Mark) → length marks ≡ length (marks_without r marks) + count_by (is_ran r) (items_of marks)
length_without r [] = refl
length_without r (m ∷ marks) = at_ (length_without r marks) (is_ran r m.item) (count_cons (is_ran r) m.item (items_of marks))
  where
    at_ : length marks ≡ length (marks_without r marks) + count_by (is_ran r) (items_of marks) → (b : Bool) → count_by (is_ran r) (items_of (m ∷ marks)) ≡ cond b 1 0 + count_by (is_ran r) (items_of marks)
        → length (m ∷ marks) ≡ length (cond (not b) (m ∷ marks_without r marks) (marks_without r marks)) + count_by (is_ran r) (items_of (m ∷ marks))
    at_ ih true counted = omega (arith, ih, counted)
    at_ ih false counted = omega (arith, ih, counted)

pub order_aborted : {rounds : ℕ} (h h₂ : HistoryState) (g : Grips) (r : ℕ) (cause : Cause) (line after : Marked) (table later : List LineageState) → IsRead h.setting (read_in h) → h₂ ≡ with_entry h r (Ended (run_no r) (Aborted cause)) → IsWellFormed h₂.setting (entries_of h₂.history)
    → after.marks ≡ marks_without r line.marks → after.spare ≡ line.spare + 1 → after.runs ≡ line.runs → IsSealed after → ChangesEach (λ d. removed r) table later → OrderIsBeside rounds h g line table → OrderIsBeside rounds h₂ g after later
order_aborted {rounds = rounds} h h₂ g r cause line after table later read new formed marks spare runs sealed changes kept = entry_kept h h₂ g r (Ended (run_no r) (Aborted cause)) after later new (record {
  table_is = fits_changed w n _ g g (λ d. removed r) table later (λ d. refl) (λ d. removed_bare r) changes (λ own. aborted_table w n g r cause table later read may changes own) kept.table_is;
  line_is = subst (MarksAreKept (entry w n (Ended (run_no r) (Aborted cause))) g) (sym marks) (marks_aborted w n g r cause line.marks kept.line_is);
  sealed = sealed;
  runs = subst (AreKeptOf w.runs) (sym runs) kept.runs;
  room =
      let size = ap (λ (x : List Mark). length x) marks in
      let left = length_without r line.marks in
      let once : count_by (is_ran r) (items_of line.marks) ≤ 1 = subst (λ is. count_by (is_ran r) is ≤ 1) (sym kept.line_is.items) (one_at_most (stands_in (n.run r)) (count_by (is_ran r) n.line) (read.once r)) in
      omega (arith, size, left, once, spare, kept.room);
})
  where
    w : Setting
    w = h.setting

    n : Reading
    n = read_in h

    may : may_follow w n (Ended (run_no r) (Aborted cause)) ≡ true
    may = last_follows w h.history r (Ended (run_no r) (Aborted cause)) (subst (λ (x : HistoryState). IsWellFormed x.setting (entries_of x.history)) new formed)
