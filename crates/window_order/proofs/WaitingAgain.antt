-- How the accesses behind a place wait again by calls of a lineage table.
use Rattle.window_order.proofs.Prelude.{Access, Acquired, Bool, ForSome, IsDisciplined, LineageState, List, None, Option, Released, RunNo, Scheduled, Some, Status, access_of, accesses_at, accesses_from, ap, false, has_access, is_released, length, lineage_at, removed, rescheduled, run_behind, scheduled, slice_set, some_acquired, status_of, subst, sym, true, with_again, with_lineage, ℕ, ◌<◌, ◌∙◌, ◌≡◌}
use Rattle.window_order.proofs.NotedAnswers.{lineage_set, with_same}
use Rattle.lineage_table.specs.contracts.accesses.StatusPartialEq.TheImpl.{eq-value}
use Rattle.window_order.proofs.AgainAccesses.{WaitsAgain, none_again, same_again, waits_again_one}
use Rattle.window_order.proofs.TableSteps.{with_both}

pub tests_released : (s : Status) (b : Bool) → b ≡ eq-value.it s Released → is_released s ≡ b
tests_released Released b h = sym h
tests_released Acquired b h = sym h
tests_released Scheduled b h = sym h

-- the table stays where nothing waits again

leaves : (table : List LineageState) (d : ℕ) (first : Option RunNo) → with_again first (accesses_at table d) ≡ accesses_at table d → table ≡ with_lineage table d (rescheduled first)
leaves table d first same = sym (ap (λ xs. slice_set table d (record (lineage_at table d) { accesses = xs })) same ∙ with_same table d)

pub leaves_absent : (table : List LineageState) (d : ℕ) (first : Option RunNo) (q : RunNo) → first ≡ Some q → None ≡ access_of q.0 (accesses_at table d) → table ≡ with_lineage table d (rescheduled first)
leaves_absent table d first q is none = leaves table d first (ap (λ o. with_again o (accesses_at table d)) is ∙ none_again q.0 (accesses_at table d) (sym none))

pub leaves_waiting : (table : List LineageState) (d : ℕ) (first : Option RunNo) (q : RunNo) (x : Access) → IsDisciplined (accesses_at table d) → first ≡ Some q → Some x ≡ access_of q.0 (accesses_at table d) → false ≡ eq-value.it x.status Released → table ≡ with_lineage table d (rescheduled first)
leaves_waiting table d first q x disciplined is at waits = leaves table d first (ap (λ o. with_again o (accesses_at table d)) is ∙ same_again q.0 x (accesses_at table d) disciplined (sym at) (tests_released x.status false waits))

-- the access of the run, which was passed, waits again
module _ (table : List LineageState) (d : ℕ) (first : Option RunNo) (q : RunNo) (x : Access) (next : Option RunNo) (below : d < length table) (disciplined : IsDisciplined (accesses_at table d)) (is : first ≡ Some q) (at : Some x ≡ access_of q.0 (accesses_at table d))
    (passed : true ≡ eq-value.it x.status Released) (unused : some_acquired (accesses_from first (accesses_at table d)) ≡ false) (behind : next ≡ run_behind q.0 (accesses_at table d)) where
  pub one_again : WaitsAgain q x next (lineage_at table d)
  one_again = waits_again_one q x (lineage_at table d) disciplined (sym at) (tests_released x.status true passed) (sym (ap (λ o. some_acquired (accesses_from o (accesses_at table d))) is) ∙ unused) next behind

  -- those behind it are fewer
  pub fewer_again : length (accesses_from next (accesses_at table d)) < length (accesses_from first (accesses_at table d))
  fewer_again = subst (λ o. length (accesses_from next (accesses_at table d)) < length (accesses_from o (accesses_at table d))) (sym is) one_again.fewer

  -- the table after those behind it wait, and its own access is taken out
  module _ (mid left : List LineageState) (waiting : mid ≡ with_lineage table d (rescheduled next)) (taken : left ≡ with_lineage mid d (removed q.0)) where
    without_it : left ≡ with_lineage table d (λ s. removed q.0 (rescheduled next s))
    without_it = taken ∙ ap (λ (t : List LineageState). with_lineage t d (removed q.0)) waiting ∙ with_both table d (rescheduled next) (removed q.0) below

    here : lineage_at left d ≡ removed q.0 (rescheduled next (lineage_at table d))
    here = ap (λ (t : List LineageState). lineage_at t d) without_it ∙ lineage_set table d (λ s. removed q.0 (rescheduled next s)) below

    pub again_new : has_access x.run.0 (accesses_at left d) ≡ false
    again_new = ap (λ (s : LineageState). has_access x.run.0 s.accesses) here ∙ one_again.new

    pub again_room : 0 < (lineage_at left d).room
    again_room = subst (λ (s : LineageState). 0 < s.room) (sym here) one_again.room

    pub again_before : ForSome next (λ r. status_of r.0 (accesses_at left d) ≡ Some Scheduled)
    again_before = subst (λ (s : LineageState). ForSome next (λ r. status_of r.0 s.accesses ≡ Some Scheduled)) (sym here) one_again.before

    -- it is put back
    pub put_again : (new : List LineageState) → new ≡ with_lineage left d (scheduled next (record x { status = Scheduled; view = None })) → new ≡ with_lineage table d (rescheduled first)
    put_again new put =
        put
        ∙ ap (λ (t : List LineageState). with_lineage t d (scheduled next (record x { status = Scheduled; view = None }))) without_it
        ∙ with_both table d (λ s. removed q.0 (rescheduled next s)) (scheduled next (record x { status = Scheduled; view = None })) below
        ∙ ap (slice_set table d) one_again.same
        ∙ ap (λ o. with_lineage table d (rescheduled o)) (sym is)
