-- What an entry or a grip leaves of a lineage: where it changes the access of one run at most.
use Rattle.window_order.proofs.Prelude.{Access, Acquired, Back, Bool, Down, Failed, Grips, Item, LineageIsKept, LineageState, List, None, OfRun, Option, Ran, Reading, Released, Run, RunsAreDistinct, Scheduled, Setting, Some, Status, [], access_read, accesses_read, ap, commits_write, committed_write, false, fold, grips_command, grips_undo, if◌then◌else◌, is_committing, is_none, is_on, is_some, length, list_any, may_be_passed, not, option_map, option_or, planned_end, planned_start, point, put, put_all, refl, run_no, stand_at, subst, suc, sym, touches, touches_from, true, unplaced_among, unwrap_or, uses, view_when, with_change, ℕ, ◌&&◌, ◌+◌, ◌||◌, ◌∙◌, ◌∷◌, ◌≡◌, ◌≢◌, ◌≤◌}
use Rattle.window_order.proofs.AccessLists.{along_same, change_along}
use Rattle.window_order.proofs.GripWords.{SameGrip}

-- the words on a run and a device, by the record of the run

abbrev pub uses_by : Setting → ℕ → ℕ → OfRun → Bool
uses_by w d r o = (is_some o.placed && is_none o.ended) && touches w.runs r d && not (touches w.runs r d && not (touches_from w.runs r d (length o.answers)) && not (is_some (o.on d).view))

abbrev pub commits_by : ℕ → OfRun → Bool
commits_by d o = unwrap_or (option_map is_committing o.ended) false && is_some (o.on d).wrote

abbrev pub write_by : ℕ → OfRun → Option ℕ
write_by d o = if unwrap_or (option_map is_committing o.ended) false then (o.on d).wrote else None

abbrev pub may_by : Grips → ℕ → ℕ → OfRun → Bool
may_by g d r o = is_some o.doomed && not (is_some (o.on d).view || grips_command g r d)

abbrev pub status_by : Setting → Grips → ℕ → ℕ → OfRun → Status
status_by w g d r o = if is_some (o.on d).view then (if (not (is_some o.doomed) && touches_from w.runs r d (length o.answers)) || grips_command g r d then Acquired else Released) else Scheduled

abbrev pub access_by : Setting → Grips → (ℕ → Bool) → ℕ → ℕ → OfRun → Access
access_by w g passed d r o = record {
  run = run_no r;
  status = if passed r then Released else status_by w g d r o;
  view = if passed r then Some Down else option_map view_when (o.on d).view;
  wrote = if (o.on d).undid || grips_undo g r d then None else (o.on d).wrote;
  from = planned_start o.planned d;
  to = planned_end o.planned d;
}

-- the frame: where the new record says the same, every record does
pub put_says : {A : Type 0} (F : ℕ → OfRun → A) (f : ℕ → OfRun) (r : ℕ) (new : OfRun) → F r new ≡ F r (f r) → (q : ℕ) → F q (put f r new q) ≡ F q (f q)
put_says F f r new same q = put_all (λ x o. F x o ≡ F x (f x)) f r new (λ x. refl) same q

pub same_committed : (n m : Reading) (d : ℕ) (best : Option ℕ) (is : List Item) → ((q : ℕ) → write_by d (m.run q) ≡ write_by d (n.run q)) → fold (λ b x. option_or (committed_write m d x) b) best is ≡ fold (λ b x. option_or (committed_write n d x) b) best is
same_committed n m d best [] same = refl
same_committed n m d best (Ran q ∷ is) same = ap (λ o. fold (λ b x. option_or (committed_write m d x) b) (option_or o best) is) (same q.0) ∙ same_committed n m d (option_or (committed_write n d (Ran q)) best) is same
same_committed n m d best (Failed e k ∷ is) same = same_committed n m d best is same
same_committed n m d best (Back e k ∷ is) same = same_committed n m d best is same

pub same_unplaced : (n m : Reading) (d r : ℕ) (runs : List Run) → ((q : ℕ) → is_none (m.run q).placed ≡ is_none (n.run q).placed) → unplaced_among m d r runs ≡ unplaced_among n d r runs
same_unplaced n m d r [] same = refl
same_unplaced n m d r (run ∷ runs) same = λ i. (if list_any (is_on d) run.commands && same r i then 1 else 0) + same_unplaced n m d (suc r) runs same i

-- where the grips of the device say the same of the run, so does its access
pub access_gripped : (w : Setting) (g h : Grips) (passed : ℕ → Bool) (d r : ℕ) (o : OfRun) → SameGrip g h d r → access_by w h passed d r o ≡ access_by w g passed d r o
access_gripped w g h passed d r o same = λ i. record {
  run = run_no r;
  status = if passed r then Released else (if is_some (o.on d).view then (if (not (is_some o.doomed) && touches_from w.runs r d (length o.answers)) || same.command i then Acquired else Released) else Scheduled);
  view = if passed r then Some Down else option_map view_when (o.on d).view;
  wrote = if (o.on d).undid || same.undo i then None else (o.on d).wrote;
  from = planned_start o.planned d;
  to = planned_end o.planned d;
}

-- .. and whether it may be passed
pub may_gripped : (g h : Grips) (d r : ℕ) (o : OfRun) → grips_command h r d ≡ grips_command g r d → may_by h d r o ≡ may_by g d r o
may_gripped g h d r o same = λ i. is_some o.doomed && not (is_some (o.on d).view || same i)

-- what is the same of a device but for the accesses themselves
pub record SameUses (w : Setting) (n m : Reading) (g h : Grips) (d : ℕ) : Type 0 where
  pub line : m.line ≡ n.line
  pub has_one : (q : ℕ) → uses_by w d q (m.run q) ≡ uses_by w d q (n.run q)
  pub covering : (q : ℕ) → commits_by d (m.run q) ≡ commits_by d (n.run q)
  pub write : (q : ℕ) → write_by d (m.run q) ≡ write_by d (n.run q)
  pub unplaced : (q : ℕ) → is_none (m.run q).placed ≡ is_none (n.run q).placed
  pub up : m.up d ≡ n.up d
  -- a run that may be passed still may
  pub may : (q : ℕ) → may_be_passed n g q d ≡ true → may_be_passed m h q d ≡ true

-- where the runs are the same, and none of them went out for a command
pub uses_same : (w : Setting) (n : Reading) (g h : Grips) (d : ℕ) → ((q : ℕ) → may_be_passed n g q d ≡ true → may_be_passed n h q d ≡ true) → SameUses w n n g h d
uses_same w n g h d may = record { line = refl; has_one = λ q. refl; covering = λ q. refl; write = λ q. refl; unplaced = λ q. refl; up = refl; may = may }

committed_kept : (w : Setting) (n m : Reading) (g h : Grips) (d : ℕ) (s : LineageState) → SameUses w n m g h d → (kept : LineageIsKept (point w n g) d s) → s.committed ≡ unwrap_or (fold (λ b x. option_or (committed_write m d x) b) None m.line) (stand_at w.first d).value
committed_kept w n m g h d s same kept =
    kept.committed ∙ sym (ap (λ is. unwrap_or (fold (λ b x. option_or (committed_write m d x) b) None is) (stand_at w.first d).value) same.line ∙ ap (λ o. unwrap_or o (stand_at w.first d).value) (same_committed n m d None n.line same.write))

-- the accesses are the same
pub lineage_same : (w : Setting) (n m : Reading) (g h : Grips) (d : ℕ) (s : LineageState) → SameUses w n m g h d → (kept : LineageIsKept (point w n g) d s) → ((q : ℕ) → access_by w h kept.passed d q (m.run q) ≡ access_by w g kept.passed d q (n.run q)) → LineageIsKept (point w m h) d s
lineage_same w n m g h d s same kept accesses = record {
  passed = kept.passed;
  may_pass = λ q passed. same.may q (kept.may_pass q passed);
  committed = committed_kept w n m g h d s same kept;
  accesses = kept.accesses ∙ sym (ap (accesses_read (point w m h) kept.passed d) same.line ∙ along_same (uses w n d) (uses w m d) (commits_write n d) (commits_write m d) (access_read (point w n g) kept.passed d) (access_read (point w m h) kept.passed d) n.line same.has_one same.covering accesses);
  room = subst (λ x. x ≤ s.room) (sym (same_unplaced n m d 1 w.runs same.unplaced)) kept.room;
  up = kept.up ∙ sym same.up;
}

-- the access of one run is changed
pub lineage_changed : (w : Setting) (n m : Reading) (g h : Grips) (d r : ℕ) (change : Access → Access) (s : LineageState) → RunsAreDistinct n.line → SameUses w n m g h d → (kept : LineageIsKept (point w n g) d s)
    → access_by w h kept.passed d r (m.run r) ≡ change (access_by w g kept.passed d r (n.run r)) → ((q : ℕ) → q ≢ r → access_by w h kept.passed d q (m.run q) ≡ access_by w g kept.passed d q (n.run q))
    → LineageIsKept (point w m h) d (record s { accesses = with_change r change s.accesses })
lineage_changed w n m g h d r change s distinct same kept own others = record {
  passed = kept.passed;
  may_pass = λ q passed. same.may q (kept.may_pass q passed);
  committed = committed_kept w n m g h d s same kept;
  accesses =
      ap (with_change r change) kept.accesses
      ∙ change_along (uses w n d) (commits_write n d) (access_read (point w n g) kept.passed d) (access_read (point w m h) kept.passed d) r change n.line distinct (λ x. refl) own others
      ∙ sym (ap (accesses_read (point w m h) kept.passed d) same.line ∙ along_same (uses w n d) (uses w m d) (commits_write n d) (commits_write m d) (access_read (point w m h) kept.passed d) (access_read (point w m h) kept.passed d) n.line same.has_one same.covering (λ q. refl));
  room = subst (λ x. x ≤ s.room) (sym (same_unplaced n m d 1 w.runs same.unplaced)) kept.room;
  up = kept.up ∙ sym same.up;
}
