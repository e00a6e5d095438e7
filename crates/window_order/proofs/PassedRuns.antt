-- How the accesses before a run's are passed by calls of a lineage table.
use Rattle.window_order.proofs.Prelude.{Access, Bool, DeviceNo, Down, IsDisciplined, IsFirst, IsWaiting, LineageState, List, None, Option, RunNo, Some, accesses_at, acquired, ap, doomed_lineage, doomed_unless, false, first_before, has_access, has_acquired, if◌then◌else◌, is_acquired, is_named_device, is_scheduled, length, lineage_at, map_none, map_some, no_access, option_map, passed, refl, released, released_if, slice_set, subst, sym, true, unwrap_or, with_lineage, ℕ, ◌<◌, ◌∙◌, ◌≡◌}
use Rattle.window_order.proofs.NotedAnswers.{length_set, lineage_set, with_same}
use Rattle.window_order.proofs.PassedAccesses.{PassesFirst, pass_first, pass_none, waits_before}
use Rattle.window_order.proofs.TableSteps.{with_both}

-- a doom is nothing on a device to which the run has no access
pub dooms_nothing : (out : Option DeviceNo) (r d : ℕ) (s : LineageState) → has_access r s.accesses ≡ false → doomed_unless out r d s ≡ s
dooms_nothing out r d s none = at (is_named_device out d)
  where
    not_acquired : has_acquired r s ≡ false
    not_acquired = ap (λ o. unwrap_or (option_map is_acquired (option_map (λ (x : Access). x.status) o)) false) (no_access r s.accesses none)

    at : (b : Bool) → (if b then s else doomed_lineage r s) ≡ s
    at true = refl
    at false = ap (λ b. released_if b r s) not_acquired

-- the run that is found is the next one that is passed
pub passes_run : (r : ℕ) (q : RunNo) (s : LineageState) → IsDisciplined s.accesses → IsWaiting r s → first_before (λ x. is_scheduled x.status) r s.accesses ≡ Some q → PassesFirst r q.0 s
passes_run r q s disciplined waiting found = let x = map_some _ _ q found in subst (λ (z : RunNo). PassesFirst r z.0 s) x.2 (pass_first r x.0 s disciplined waiting x.1)

-- the table after one access was passed
pub record PassedOne (r d : ℕ) (old new : List LineageState) : Type 0 where
  pub devices : length new ≡ length old
  pub same : with_lineage new d (passed r) ≡ with_lineage old d (passed r)
  pub waiting : IsWaiting r (lineage_at new d)
  pub fewer : waits_before r (accesses_at new d) < waits_before r (accesses_at old d)

pub passed_one : (r q d : ℕ) (old mid new : List LineageState) → d < length old → PassesFirst r q (lineage_at old d) → mid ≡ with_lineage old d (acquired q Down) → new ≡ with_lineage mid d (released q) → PassedOne r d old new
passed_one r q d old mid new below p acquires releases = record {
  devices = ap (λ (t : List LineageState). length t) both ∙ length_set old d one;
  same = ap (λ (t : List LineageState). with_lineage t d (passed r)) both ∙ with_both old d one (passed r) below ∙ ap (slice_set old d) p.same;
  waiting = subst (IsWaiting r) (sym here) p.waiting;
  fewer = subst (λ (s : LineageState). waits_before r s.accesses < waits_before r (accesses_at old d)) (sym here) p.fewer;
}
  where
    one : LineageState → LineageState
    one s = released q (acquired q Down s)

    both : new ≡ with_lineage old d one
    both = releases ∙ ap (λ (t : List LineageState). with_lineage t d (released q)) acquires ∙ with_both old d (acquired q Down) (released q) below

    here : lineage_at new d ≡ one (lineage_at old d)
    here = ap (λ (t : List LineageState). lineage_at t d) both ∙ lineage_set old d one below

-- where none is left to pass the table is the one in which all are passed
pub record PassedAll (r d : ℕ) (first last : List LineageState) : Type 0 where
  pub is : last ≡ with_lineage first d (passed r)
  pub ready : IsFirst r (lineage_at last d)

pub passed_all : (r d : ℕ) (first last : List LineageState) → with_lineage last d (passed r) ≡ with_lineage first d (passed r) → IsWaiting r (lineage_at last d) → first_before (λ x. is_scheduled x.status) r (accesses_at last d) ≡ None → PassedAll r d first last
passed_all r d first last same waiting none = let p = pass_none r (lineage_at last d) waiting (map_none _ _ none) in record {
  is = sym (ap (slice_set last d) p.same ∙ with_same last d) ∙ same;
  ready = p.first;
}
