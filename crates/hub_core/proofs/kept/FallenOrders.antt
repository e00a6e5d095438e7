-- A device fails, and line and table are kept: where its failure stands, and with the entry that comes behind it.
use Rattle.hub_core.proofs.Prelude.{Bool, ChangesEach, Commands, DeviceNo, Did, Down, Failed, Fell, Grips, GripsFit, HasFallen, HistoryState, IsOrderOf, IsOut, IsRead, IsWellFormed, Kept, LineageIsKept, LineageState, List, Mark, Marked, MarksAreKept, MayNote, None, OrderIsBeside, Reading, Setting, Some, Undid, Undoes, [], accesses_at, answered_change, answered_lineage, ap, arith, awaits_there, changes_one, command_at, counted_up, did, died_table, entries_of, entry, eq-eqb, event_last, event_place_of, false, fits_same, if◌then◌else◌, is_device, is_done_there, is_first, is_open, is_scheduled, is_weak, length, lineage_at, live_runs, marks_died, marks_fell, marks_undo_home, marks_undone, none_found, not, noted_first, option_map, out_is, point, put, read_in, refl, run_no, status_of, subst, sym, true, turned_change, undo_died_table, unwrap_or, with_entry, with_item, with_lineage, ℕ, ◌&&◌, ◌+◌, ◌<◌, ◌==◌, ◌∙◌, ◌≡◌}
use Rattle.lineage_table.specs.declared.accesses.Access.{Access}
use Rattle.hub_core.proofs.kept.ProbeSteps.{order_fell}
use Rattle.failure_serialization.proofs.Cited.{died_waits}
use Rattle.failure_serialization.specs.Events.{event_place, place_or_end}
use Rattle.home_types.specs.declared.commands.View.TheVariants.{Down as ViewedDown}
use Rattle.hub_core.proofs.kept.EventsTold.{event_told, line_size, sound_is}
use Rattle.hub_core.proofs.kept.OrderSteps.{entry_kept, length_with, may_note, order_answered_weakly, read_more}
use Rattle.lineage_table.specs.declared.accesses.Status.TheVariants.{Acquired, Scheduled}
use Rattle.serial_line.specs.KeptRuns.{AreKeptOf}
use Rattle.hub_core.proofs.kept.TableFits.{fits_ordered}
use Rattle.window_order.specs.OrderKept.{OrderIsKept}

-- Where its failure stands

-- as where no run's first access has just died
first_died : (h : List Kept) (r : ℕ) (s : LineageState) (marks : List Mark) → MayNote r s → event_place h (if is_first r s then Some (run_no r) else None) s.accesses marks ≡ event_place h None s.accesses marks
first_died h r s marks may = by_first (is_first r s) refl
  where
    by_first : (b : Bool) → is_first r s ≡ b → event_place h (if b then Some (run_no r) else None) s.accesses marks ≡ event_place h None s.accesses marks
    by_first true e = ap (λ o. place_or_end o marks) (died_waits h (run_no r) s.accesses (may.status ∙ ap (λ b. Some (if b then Scheduled else Acquired)) e))
    by_first false e = refl

-- Its failure and what comes behind

-- counted down first, or noted first
counted_noted : (r : ℕ) (first last : Bool) (s : LineageState) → noted_first r first ViewedDown None last (counted_up false s) ≡ counted_up false (noted_first r first ViewedDown None last s)
counted_noted r true true s = refl
counted_noted r true false s = refl
counted_noted r false true s = refl
counted_noted r false false s = refl

-- a command is answered Down whose device died
pub order_died : {rounds : ℕ} (h h₁ h₂ : HistoryState) (g f : Grips) (held : ℕ → ℕ) (d : DeviceNo) (r k number : ℕ) (first last : Bool) (line fallen after : Marked) (table between later : List LineageState)
    → IsRead h.setting (read_in h) → is_weak h.setting.mode ≡ false → OrderIsKept (point h.setting (read_in h) g) held → IsWellFormed h.setting (entries_of h.history) → is_device h.setting d.0 ≡ true → g d.0 ≡ Some (record { maker = r; purpose = Commands k }) → d.0 < length h.setting.first
    → h₁ ≡ with_entry h r (Fell d) → h₂ ≡ with_entry h₁ r (Did (run_no r) k Down) → f ≡ put g d.0 None
    → number ≡ (read_in h).fell d.0 + 1 → first ≡ is_first r (lineage_at table d.0) → HasFallen h d (if first then Some (run_no r) else None) number line fallen table between
    → last ≡ is_done_there h.setting (read_in h) r k → after ≡ fallen → later ≡ with_lineage between d.0 (noted_first r (is_first r (lineage_at between d.0)) ViewedDown None last)
    → OrderIsBeside rounds h g line table → OrderIsBeside rounds h₂ f after later
order_died {rounds = rounds} h h₁ h₂ g f held d r k number first last line fallen after table between later read strong order formed device at below one two home number_is first_is fell last_is same noted kept =
    entry_kept h₁ h₂ f r (Did (run_no r) k Down) after later two
    (subst (λ (x : HistoryState). IsOrderOf rounds (point x.setting (entry x.setting (read_in x) (Did (run_no r) k Down)) f) after later) (sym one)
    (subst (λ m. IsOrderOf rounds (point w (entry w m (Did (run_no r) k Down)) f) after later) (sym (read_more w h.history r (Fell d)))
    (subst (λ (x : Grips). IsOrderOf rounds (point w (entry w (entry w n (Fell d)) (Did (run_no r) k Down)) x) after later) (sym home)
    (subst (λ (x : Marked). IsOrderOf rounds (point w (entry w (entry w n (Fell d)) (Did (run_no r) k Down)) (put g d.0 None)) x later) (sym same) (record {
      table_is = fits_ordered (point w _ _) later strong (died_table w n g held d.0 r k d Down table later refl read order at changes (kept.table_is.ordered strong));
      line_is = subst (MarksAreKept (entry w (entry w n (Fell d)) (Did (run_no r) k Down)) (put g d.0 None)) (sym (fell.marks ∙ (λ i. with_item (place i) (Failed d (number_is i)) line.marks))) (marks_died w n g d.0 r k d Down line.marks refl out at kept.line_is);
      sealed = fell.sealed;
      runs = subst (AreKeptOf w.runs) (sym fell.runs) kept.runs;
      room = let size = ap (λ (x : List Mark). length x) fell.marks ∙ length_with (event_place h.history (if first then Some (run_no r) else None) (accesses_at table d.0) line.marks) (Failed d number) line.marks in omega (arith, size, fell.spare, kept.room);
    })))))
  where
    w : Setting
    w = h.setting

    n : Reading
    n = read_in h

    out : IsOut w n d.0 r k
    out = out_is w n g d.0 r k order.grips at

    own : LineageIsKept (point w n g) d.0 (lineage_at table d.0)
    own = (kept.table_is.ordered strong).each d.0 below

    turn : (is_first r (lineage_at table d.0) ≡ not (did n r d.0)) × MayNote r (lineage_at table d.0)
    turn = may_note w n g held d.0 r k table read order at below (kept.table_is.ordered strong)

    place : event_place h.history (if first then Some (run_no r) else None) (accesses_at table d.0) line.marks ≡ event_place_of w n d.0
    place = ap (λ b. event_place h.history (if b then Some (run_no r) else None) (accesses_at table d.0) line.marks) first_is ∙ first_died h.history r (lineage_at table d.0) line.marks turn.1
        ∙ event_told w n g held d.0 h.history (lineage_at table d.0) line.marks read strong device order own kept.line_is (λ q. sound_is w h.history q formed)

    counted : ChangesEach (λ e s. if e == d.0 then counted_up false s else s) table between
    counted = subst (ChangesEach (λ e s. if e == d.0 then counted_up false s else s) table) (sym fell.counted) (changes_one table d.0 (counted_up false) (subst (λ x. d.0 < x) (sym kept.table_is.devices) below))

    one_note : LineageState → LineageState
    one_note = noted_first r (is_first r (lineage_at between d.0)) ViewedDown None last

    single : ChangesEach (λ e s. if e == d.0 then one_note s else s) between later
    single = subst (ChangesEach (λ e s. if e == d.0 then one_note s else s) between) (sym noted) (changes_one between d.0 one_note (subst (λ x. d.0 < x) (sym (counted.devices ∙ kept.table_is.devices)) below))

    -- it is its first answer there as before
    first_between : is_first r (lineage_at between d.0) ≡ not (did n r (command_at w.runs r k).device.0)
    first_between = ap (is_first r) (counted.each d.0 (subst (λ x. d.0 < x) (sym kept.table_is.devices) below) ∙ ap (λ b. if b then counted_up false (lineage_at table d.0) else lineage_at table d.0) (eq-eqb d.0 _ refl)) ∙ turn.0 ∙ ap (λ x. not (did n r x)) out.device

    is_answered : (s : LineageState) → one_note (counted_up false s) ≡ counted_up false (answered_lineage w n r k Down s)
    is_answered s = (λ i. noted_first r (first_between i) ViewedDown None (last_is i) (counted_up false s)) ∙ counted_noted r (not (did n r (command_at w.runs r k).device.0)) (is_done_there w n r k) s

    both : (b : Bool) (s m t : LineageState) → t ≡ (if b then one_note m else m) → m ≡ (if b then counted_up false s else s) → t ≡ (if b then counted_up false (if b then answered_lineage w n r k Down s else s) else (if b then answered_lineage w n r k Down s else s))
    both true s m t p q = p ∙ ap one_note q ∙ is_answered s
    both false s m t p q = p ∙ q

    changes : ChangesEach (λ e s. turned_change d.0 false e (answered_change w n r k Down e s)) table later
    changes = record {
      devices = single.devices ∙ counted.devices;
      each = λ e lt.
          both (e == d.0) (lineage_at table e) (lineage_at between e) (lineage_at later e) (single.each e (subst (λ x. e < x) (sym counted.devices) lt)) (counted.each e lt)
          ∙ (λ i. if e == d.0 then counted_up false (if e == out.device i then answered_lineage w n r k Down (lineage_at table e) else lineage_at table e) else (if e == out.device i then answered_lineage w n r k Down (lineage_at table e) else lineage_at table e));
    }

-- Under the weak model

-- an event comes last, as the table tells that has no access
pub weak_place : (w : Setting) (n : Reading) (g : Grips) (d : ℕ) (h : List Kept) (accesses : List Access) (marks : List Mark) → is_weak w.mode ≡ true → accesses ≡ [] → MarksAreKept n g marks → event_place h None accesses marks ≡ event_place_of w n d
weak_place w n g d h accesses marks weak none lines =
    ap (λ xs. event_place h None xs marks) none ∙ line_size n g marks lines
    ∙ sym (event_last w n d (none_found (awaits_there w n d) (live_runs n n.line) (λ r. ap (λ b. not b && is_open w n r d && not (did n r d)) weak)))

-- a command is answered Down whose device died
pub order_died_weakly : {rounds : ℕ} (h h₁ h₂ : HistoryState) (g f : Grips) (d : DeviceNo) (r k number : ℕ) (first : Bool) (line fallen after : Marked) (table between later : List LineageState)
    → is_weak h.setting.mode ≡ true → GripsFit (point h.setting (read_in h) g) → g d.0 ≡ Some (record { maker = r; purpose = Commands k }) → d.0 < length h.setting.first
    → h₁ ≡ with_entry h r (Fell d) → h₂ ≡ with_entry h₁ r (Did (run_no r) k Down) → f ≡ put g d.0 None
    → number ≡ (read_in h).fell d.0 + 1 → first ≡ is_first r (lineage_at table d.0) → HasFallen h d (if first then Some (run_no r) else None) number line fallen table between
    → after ≡ fallen → later ≡ between → OrderIsBeside rounds h g line table → OrderIsBeside rounds h₂ f after later
order_died_weakly {rounds = rounds} h h₁ h₂ g f d r k number first line fallen after table between later weak fit at below one two home number_is first_is fell same still kept =
    order_answered_weakly h₁ h₂ g f d.0 r k Down fallen after between later refl (ap (λ (x : HistoryState). is_weak x.setting.mode) one ∙ weak) fit_then at two home same still
    (order_fell h h₁ g r d.0 number (event_place h.history (if first then Some (run_no r) else None) (accesses_at table d.0) line.marks) line fallen table
    between (subst (λ x. d.0 < x) (sym kept.table_is.devices) below) one place number_is fell.marks fell.spare fell.runs fell.sealed fell.counted kept)
  where
    w : Setting
    w = h.setting

    n : Reading
    n = read_in h

    bare : accesses_at table d.0 ≡ []
    bare = (kept.table_is.weakly weak d.0 below).accesses

    not_first : first ≡ false
    not_first = first_is ∙ ap (λ xs. unwrap_or (option_map is_scheduled (status_of r xs)) false) bare

    place : event_place h.history (if first then Some (run_no r) else None) (accesses_at table d.0) line.marks ≡ event_place_of w n d.0
    place = ap (λ b. event_place h.history (if b then Some (run_no r) else None) (accesses_at table d.0) line.marks) not_first ∙ weak_place w n g d.0 h.history (accesses_at table d.0) line.marks weak bare kept.line_is

    fit_then : GripsFit (point h₁.setting (read_in h₁) g)
    fit_then = subst (λ (x : HistoryState). GripsFit (point x.setting (read_in x) g)) (sym one) (subst (λ m. GripsFit (point w m g)) (sym (read_more w h.history r (Fell d))) (fits_same w n (entry w n (Fell d)) g (λ q e j. refl) (λ q e. refl) fit))

-- a write is dropped that was to be undone on a device which died
pub order_undo_died : {rounds : ℕ} (h h₁ h₂ : HistoryState) (g f : Grips) (held : ℕ → ℕ) (d : DeviceNo) (r v number : ℕ) (line after : Marked) (table later : List LineageState)
    → IsRead h.setting (read_in h) → is_weak h.setting.mode ≡ false → OrderIsKept (point h.setting (read_in h) g) held → IsWellFormed h.setting (entries_of h.history) → is_device h.setting d.0 ≡ true → g d.0 ≡ Some (record { maker = r; purpose = Undoes v }) → d.0 < length h.setting.first
    → h₁ ≡ with_entry h r (Fell d) → h₂ ≡ with_entry h₁ r (Undid (run_no r) d false) → f ≡ put g d.0 None → number ≡ (read_in h).fell d.0 + 1 → HasFallen h d None number line after table later
    → OrderIsBeside rounds h g line table → OrderIsBeside rounds h₂ f after later
order_undo_died {rounds = rounds} h h₁ h₂ g f held d r v number line after table later read strong order formed device at below one two home number_is fell kept =
    entry_kept h₁ h₂ f r (Undid (run_no r) d false) after later two
    (subst (λ (x : HistoryState). IsOrderOf rounds (point x.setting (entry x.setting (read_in x) (Undid (run_no r) d false)) f) after later) (sym one)
    (subst (λ m. IsOrderOf rounds (point w (entry w m (Undid (run_no r) d false)) f) after later) (sym (read_more w h.history r (Fell d)))
    (subst (λ (x : Grips). IsOrderOf rounds (point w (entry w (entry w n (Fell d)) (Undid (run_no r) d false)) x) after later) (sym home) (record {
      table_is = fits_ordered (point w _ _) later strong (undo_died_table w n g d.0 r v false table later at counted (kept.table_is.ordered strong));
      line_is = subst (MarksAreKept (entry w (entry w n (Fell d)) (Undid (run_no r) d false)) (put g d.0 None)) (sym (fell.marks ∙ (λ i. with_item (place i) (Failed d (number_is i)) line.marks)))
          (marks_undone w (entry w n (Fell d)) (put g d.0 None) r d.0 false _ (marks_undo_home (entry w n (Fell d)) g r d.0 v _ at (marks_fell w n g d line.marks kept.line_is)));
      sealed = fell.sealed;
      runs = subst (AreKeptOf w.runs) (sym fell.runs) kept.runs;
      room = let size = ap (λ (x : List Mark). length x) fell.marks ∙ length_with (event_place h.history None (accesses_at table d.0) line.marks) (Failed d number) line.marks in omega (arith, size, fell.spare, kept.room);
    }))))
  where
    w : Setting
    w = h.setting

    n : Reading
    n = read_in h

    place : event_place h.history None (accesses_at table d.0) line.marks ≡ event_place_of w n d.0
    place = event_told w n g held d.0 h.history (lineage_at table d.0) line.marks read strong device order ((kept.table_is.ordered strong).each d.0 below) kept.line_is (λ q. sound_is w h.history q formed)

    counted : ChangesEach (turned_change d.0 false) table later
    counted = subst (ChangesEach (turned_change d.0 false) table) (sym fell.counted) (changes_one table d.0 (counted_up false) (subst (λ x. d.0 < x) (sym kept.table_is.devices) below))
