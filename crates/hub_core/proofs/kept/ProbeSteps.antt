-- Each probe that goes out or comes home, and each entry that it makes, keeps the line and the table of a window.
use Rattle.hub_core.proofs.Prelude.{Back, Bool, Cause, ChangesEach, DeviceNo, Doomed, Failed, Fell, Grips, GripsFit, HistoryState, IsOrderOf, IsRead, IsSealed, Item, LineageIsBare, LineageState, List, Mark, Marked, MarksAreKept, None, Option, OrderIsBeside, Probes, Reading, Rose, Setting, Some, ap, arith, changes_one, counted_up, device_no, doomed_unless, doomed_unless_table, entry, event_place_of, false, fell_table, grips_command, if◌then◌else◌, is_doomed, is_named_device, length, marks_doomed, marks_fell, marks_probe_home, marks_probe_out, marks_rose, point, probe_home_table, probe_out_table, put, read_in, refl, rose_table, run_no, subst, sym, true, turned_change, with_entry, with_item, with_lineage, ℕ, ◌+◌, ◌<◌, ◌==◌, ◌∙◌, ◌≡◌, ◌≤◌}
use Rattle.hub_core.proofs.kept.OrderSteps.{entry_kept, length_with}
use Rattle.hub_core.proofs.kept.TableFits.{fits_changed, fits_still, fits_turned, unless_bare}
use Rattle.serial_line.specs.KeptRuns.{AreKeptOf}

-- a probe goes out
pub order_probe_out : {rounds : ℕ} (w : Setting) (n : Reading) (g f : Grips) (d : ℕ) (v : Option ℕ) (line : Marked) (table : List LineageState) → g d ≡ None
    → f ≡ put g d (Some (record { maker = 0; purpose = Probes v })) → IsOrderOf rounds (point w n g) line table → IsOrderOf rounds (point w n f) line table
order_probe_out {rounds = rounds} w n g f d v line table home gone kept = subst (λ (x : Grips). IsOrderOf rounds (point w n x) line table) (sym gone) (record {
  table_is = fits_still w n n g _ table (λ e. refl) (λ own. probe_out_table w n g d 0 v table home own) kept.table_is;
  line_is = marks_probe_out n g d 0 v line.marks home kept.line_is;
  sealed = kept.sealed;
  runs = kept.runs;
  room = kept.room;
})

-- it comes home
pub order_probe_home : {rounds : ℕ} (w : Setting) (n : Reading) (g f : Grips) (d : ℕ) (v : Option ℕ) (line : Marked) (table : List LineageState) → g d
    ≡ Some (record { maker = 0; purpose = Probes v }) → f ≡ put g d None → IsOrderOf rounds (point w n g) line table → IsOrderOf rounds (point w n f) line table
order_probe_home {rounds = rounds} w n g f d v line table out home kept = subst (λ (x : Grips). IsOrderOf rounds (point w n x) line table) (sym home) (record {
  table_is = fits_still w n n g _ table (λ e. refl) (λ own. probe_home_table w n g d 0 v table out own) kept.table_is;
  line_is = marks_probe_home n g d 0 v line.marks out kept.line_is;
  sealed = kept.sealed;
  runs = kept.runs;
  room = kept.room;
})

-- a bare lineage stays bare, and tells how its device is counted then
turned_bare : (n m : Reading) (d : ℕ) (up : Bool) → ((e : ℕ) → m.up e ≡ put n.up d up e) → (e : ℕ) (s : LineageState) → LineageIsBare n e s → LineageIsBare m e (turned_change d up e s)
turned_bare n m d up counted e s bare = by_test (e == d) (counted e)
  where
    by_test : (b : Bool) → m.up e ≡ (if b then up else n.up e) → LineageIsBare m e (if b then counted_up up s else s)
    by_test true is = record { accesses = bare.accesses; up = sym is }
    by_test false is = record { accesses = bare.accesses; up = bare.up ∙ sym is }

-- the line has room behind an item that came into it
room_behind : (at most : ℕ) (x : Item) (line after : Marked) → after.marks ≡ with_item at x line.marks → after.spare + 1 ≡ line.spare → most ≤ line.spare + length line.marks → most ≤ after.spare + length after.marks
room_behind at most x line after marks spare room = let size = ap (λ (l : List Mark). length l) marks ∙ length_with at x line.marks in omega (arith, size, spare, room)

-- a device fails
pub order_fell : {rounds : ℕ} (h h₂ : HistoryState) (g : Grips) (maker d number place : ℕ) (line after : Marked) (table later : List LineageState) → d < length table → h₂ ≡ with_entry h maker (Fell (device_no d)) → place ≡ event_place_of h.setting (read_in h) d → number ≡ (read_in h).fell d + 1
    → after.marks ≡ with_item place (Failed (device_no d) number) line.marks → after.spare + 1 ≡ line.spare → after.runs ≡ line.runs → IsSealed after → later ≡ with_lineage table d (counted_up false) → OrderIsBeside rounds h g line table → OrderIsBeside rounds h₂ g after later
order_fell {rounds = rounds} h h₂ g maker d number place line after table later below new at counted marks spare runs sealed changed kept = entry_kept h h₂ g maker (Fell (device_no d)) after later new (record {
  table_is = fits_turned w n (entry w n (Fell (device_no d))) g g (turned_change d false) table later (turned_bare n (entry w n (Fell (device_no d))) d false (λ e. refl)) changes (λ own. fell_table w n g (device_no d) table later changes own) kept.table_is;
  line_is = subst (MarksAreKept (entry w n (Fell (device_no d))) g) (sym (marks ∙ (λ i. with_item (at i) (Failed (device_no d) (counted i)) line.marks))) (marks_fell w n g (device_no d) line.marks kept.line_is);
  sealed = sealed;
  runs = subst (AreKeptOf w.runs) (sym runs) kept.runs;
  room = room_behind place _ (Failed (device_no d) number) line after marks spare kept.room;
})
  where
    w : Setting
    w = h.setting

    n : Reading
    n = read_in h

    changes : ChangesEach (turned_change d false) table later
    changes = subst (ChangesEach (turned_change d false) table) (sym changed) (changes_one table d (counted_up false) below)

-- it is back
pub order_rose : {rounds : ℕ} (h h₂ : HistoryState) (g : Grips) (maker d number place : ℕ) (line after : Marked) (table later : List LineageState) → d < length table → h₂ ≡ with_entry h maker (Rose (device_no d)) → place ≡ event_place_of h.setting (read_in h) d → number ≡ (read_in h).rose d + 1
    → after.marks ≡ with_item place (Back (device_no d) number) line.marks → after.spare + 1 ≡ line.spare → after.runs ≡ line.runs → IsSealed after → later ≡ with_lineage table d (counted_up true) → OrderIsBeside rounds h g line table → OrderIsBeside rounds h₂ g after later
order_rose {rounds = rounds} h h₂ g maker d number place line after table later below new at counted marks spare runs sealed changed kept = entry_kept h h₂ g maker (Rose (device_no d)) after later new (record {
  table_is = fits_turned w n (entry w n (Rose (device_no d))) g g (turned_change d true) table later (turned_bare n (entry w n (Rose (device_no d))) d true (λ e. refl)) changes (λ own. rose_table w n g (device_no d) table later changes own) kept.table_is;
  line_is = subst (MarksAreKept (entry w n (Rose (device_no d))) g) (sym (marks ∙ (λ i. with_item (at i) (Back (device_no d) (counted i)) line.marks))) (marks_rose w n g (device_no d) line.marks kept.line_is);
  sealed = sealed;
  runs = subst (AreKeptOf w.runs) (sym runs) kept.runs;
  room = room_behind place _ (Back (device_no d) number) line after marks spare kept.room;
})
  where
    w : Setting
    w = h.setting

    n : Reading
    n = read_in h

    changes : ChangesEach (turned_change d true) table later
    changes = subst (ChangesEach (turned_change d true) table) (sym changed) (changes_one table d (counted_up true) below)

-- a run is doomed whose command out, if it has one, is on this device
pub order_lost : {rounds : ℕ} (h h₂ : HistoryState) (g : Grips) (maker r : ℕ) (cause : Cause) (out : Option DeviceNo) (line after : Marked)
    (table later : List LineageState) → IsRead h.setting (read_in h) → GripsFit (point h.setting (read_in h) g) → is_doomed (read_in h) r ≡ false
    → ((d : ℕ) → grips_command g r d ≡ is_named_device out d)
    → h₂ ≡ with_entry h maker (Doomed (run_no r) cause) → after ≡ line → ChangesEach (doomed_unless out r) table later → OrderIsBeside rounds h g line table → OrderIsBeside rounds h₂ g after later
order_lost {rounds = rounds} h h₂ g maker r cause out line after table later read fit sound same new still changes kept =
    entry_kept h h₂ g maker (Doomed (run_no r) cause) after later new
    (subst (λ (x : Marked). IsOrderOf rounds (point w (entry w n (Doomed (run_no r) cause)) g) x later) (sym still) (record {
      table_is = fits_changed w n _ g g (doomed_unless out r) table later (λ d. refl) (λ d. unless_bare out r d) changes (λ own. doomed_unless_table w n g r cause out table later read fit sound same changes own) kept.table_is;
      line_is = marks_doomed w n g r cause line.marks kept.line_is;
      sealed = kept.sealed;
      runs = kept.runs;
      room = kept.room;
    }))
  where
    w : Setting
    w = h.setting

    n : Reading
    n = read_in h
