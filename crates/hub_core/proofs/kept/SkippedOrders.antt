-- A command that is skipped keeps the line and the table of a window.
use Rattle.hub_core.proofs.Prelude.{Bool, ChangesEach, Did, Grips, HistoryState, IsOrderOf, IsSkipped, IsUnreleased, LineageState, List, Marked, OrderIsBeside, Reading, Setting, Skipped, TableIsKept, ap, changes_one, command_at, did, entry, false, if◌then◌else◌, is_done_there, is_first, is_some, is_weak, left_by, length, lineage_at, marks_skipped, next_of, not, point, read_in, refl, released, removed, run_no, skipped_change, skipped_status, skipped_table, subst, sym, touches_from, true, with_entry, with_lineage, ℕ, ◌+◌, ◌<◌, ◌==◌, ◌||◌, ◌∙◌, ◌≡◌}
use Rattle.hub_core.proofs.kept.OrderSteps.{entry_kept, stands_so}
use Rattle.hub_core.proofs.kept.TableFits.{fits_ordered, fits_weakly}

-- the run has an access on the device, which it is not done with
pub may_leave : (w : Setting) (n : Reading) (g : Grips) (held : ℕ → ℕ) (r : ℕ) (table : List LineageState) → IsSkipped w n g held r (command_at w.runs r (next_of n r)) → (command_at w.runs r (next_of n r)).device.0 < length w.first → TableIsKept (point w n g) table
    → (is_first r (lineage_at table (command_at w.runs r (next_of n r)).device.0) ≡ not (did n r (command_at w.runs r (next_of n r)).device.0)) × IsUnreleased r (lineage_at table (command_at w.runs r (next_of n r)).device.0)
may_leave w n g held r table s below kept =
    let d : ℕ = (command_at w.runs r (next_of n r)).device.0 in
    stands_so r (lineage_at table d) (did n r d) (skipped_status w n g held r (lineage_at table d) s (kept.each d below))

module _ (h h₂ : HistoryState) (g : Grips) (r : ℕ) (line after : Marked) (table later : List LineageState) (new : h₂ ≡ with_entry h r (Did (run_no r) (next_of (read_in h) r) Skipped)) (same : after ≡ line) where
  abbrev w : Setting
  w = h.setting

  abbrev n : Reading
  n = read_in h

  abbrev k : ℕ
  k = next_of n r

  abbrev d : ℕ
  d = (command_at w.runs r k).device.0

  abbrev m : Reading
  m = entry w n (Did (run_no r) k Skipped)

  pub order_skipped : {rounds : ℕ} (held : ℕ → ℕ) (last : Bool) → is_weak w.mode ≡ false → IsSkipped w n g held r (command_at w.runs r k) → d < length w.first → last ≡ is_done_there w n r k → later ≡ (if last then with_lineage table d (left_by r (is_first r (lineage_at table d))) else table)
      → OrderIsBeside rounds h g line table → OrderIsBeside rounds h₂ g after later
  order_skipped {rounds = rounds} held last strong s below last_is changed kept = entry_kept h h₂ g r (Did (run_no r) k Skipped) after later new (subst (λ (x : Marked). IsOrderOf rounds (point w m g) x later) (sym same) (record {
    table_is = fits_ordered (point w m g) later strong (skipped_table w n g held r (command_at w.runs r k) table later s (by_rest (touches_from w.runs r d (k + 1)) refl) (kept.table_is.ordered strong));
    line_is = marks_skipped w n g r k line.marks kept.line_is;
    sealed = kept.sealed;
    runs = kept.runs;
    room = kept.room;
  }))
    where
      first : is_first r (lineage_at table d) ≡ not (did n r d)
      first = (may_leave w n g held r table s below (kept.table_is.ordered strong)).0

      by_seen : (b : Bool) (l : LineageState) → left_by r (not b) l ≡ (if b then released r l else removed r l)
      by_seen true l = refl
      by_seen false l = refl

      either : (b : Bool) (l : LineageState) → (if b then l else l) ≡ l
      either true l = refl
      either false l = refl

      done : (b : Bool) → touches_from w.runs r d (k + 1) ≡ b → last ≡ not b
      done b rest = last_is ∙ (λ i. ap (λ o. is_some o) s.sound i || not (rest i))

      single : ChangesEach (λ e l. if e == d then left_by r (is_first r (lineage_at table d)) l else l) table (with_lineage table d (left_by r (is_first r (lineage_at table d))))
      single = changes_one table d (left_by r (is_first r (lineage_at table d))) (subst (λ x. d < x) (sym kept.table_is.devices) below)

      -- a command is left there, and nothing changes; or the run is done there
      by_rest : (b : Bool) → touches_from w.runs r d (k + 1) ≡ b → ChangesEach (skipped_change w n r k) table later
      by_rest true rest = subst (ChangesEach (skipped_change w n r k) table) (sym (changed ∙ (λ i. if done true rest i then with_lineage table d (left_by r (is_first r (lineage_at table d))) else table))) (record {
        devices = refl;
        each = λ e lt. sym ((λ i. if e == d then (if rest i then lineage_at table e else (if did n r d then released r (lineage_at table e) else removed r (lineage_at table e))) else lineage_at table e) ∙ either (e == d) (lineage_at table e));
      })
      by_rest false rest = subst (ChangesEach (skipped_change w n r k) table) (sym (changed ∙ (λ i. if done false rest i then with_lineage table d (left_by r (is_first r (lineage_at table d))) else table))) (record {
        devices = single.devices;
        each = λ e lt. single.each e lt
            ∙ (λ i. if e == d then ((λ j. left_by r (first j) (lineage_at table e)) ∙ by_seen (did n r d) (lineage_at table e)) i else lineage_at table e)
            ∙ sym (λ i. if e == d then (if rest i then lineage_at table e else (if did n r d then released r (lineage_at table e) else removed r (lineage_at table e))) else lineage_at table e);
      })

  -- .. under the weak model
  pub order_skipped_weakly : {rounds : ℕ} → is_weak w.mode ≡ true → later ≡ table → OrderIsBeside rounds h g line table → OrderIsBeside rounds h₂ g after later
  order_skipped_weakly {rounds = rounds} weak still kept = entry_kept h h₂ g r (Did (run_no r) k Skipped) after later new (subst (λ (x : Marked). IsOrderOf rounds (point w m g) x later) (sym same) (subst (IsOrderOf rounds (point w m g) line) (sym still) (record {
    table_is = fits_weakly w n m g g table weak (λ e. refl) kept.table_is;
    line_is = marks_skipped w n g r k line.marks kept.line_is;
    sealed = kept.sealed;
    runs = kept.runs;
    room = kept.room;
  })))
