-- A grip that goes out, an undo that comes home or is left out, and a doom keep the lineages.
use Rattle.window_order.proofs.Prelude.{Access, Acquired, Bool, Cause, Commands, Doomed, Down, Grips, LineageIsKept, LineageState, List, None, OfRun, Reading, Released, Scheduled, Setting, Some, Status, Undid, Undoes, [], ap, arith, common_steps, device_no, did, doomed_change, doomed_lineage, entry, eq-eqb, false, find, grips_command, grips_undo, has_acquired, if◌then◌else◌, is_acquired, is_committing, is_doomed, is_none, is_of, is_some, length, may_be_passed, ne_eqb, not, option_map, or_right, pends, planned_end, planned_start, point, put, put_all, put_keeps, put_other, put_same, refl, released_if, run_no, status_of, subst, sym, touches, touches_from, true, two_places, undone, undone_change, unwrap_or, view_of, view_when, with_change, ℕ, ◌&&◌, ◌||◌, ◌∙◌, ◌∷◌, ◌≡◌, ◌≢◌}
use Rattle.window_order.proofs.AnsweredTables.{lineage_with}
use Rattle.window_order.proofs.GripWords.{SameGrip, grip_elsewhere, grip_home, grip_out, home_command, home_undo, no_command_out, own_undo}
use Rattle.window_order.proofs.ReadFacts.{IsRead, runs_distinct}
use Rattle.window_order.proofs.TableFrames.{SameUses, access_by, access_gripped, commits_by, lineage_changed, lineage_same, may_by, may_gripped, put_says, uses_by, uses_same, write_by}

-- A command goes out

-- a run that is not doomed, with a command left on the device, stands as it stood
pub command_out_kept : (w : Setting) (n : Reading) (g : Grips) (d r k : ℕ) → g d ≡ None → is_doomed n r ≡ false → pends w n r d ≡ true → (e : ℕ) (s : LineageState) → LineageIsKept (point w n g) e s → LineageIsKept (point w n (put g d (Some (record { maker = r; purpose = Commands k })))) e s
command_out_kept w n g d r k at sound pending e = two_places (λ x. (s : LineageState) → LineageIsKept (point w n g) x s → LineageIsKept (point w n h) x s) e d there elsewhere
  where
    h : Grips
    h = put g d (Some (record { maker = r; purpose = Commands k }))

    elsewhere : e ≢ d → (s : LineageState) → LineageIsKept (point w n g) e s → LineageIsKept (point w n h) e s
    elsewhere ne s kept = lineage_same w n n g h e s (uses_same w n g h e (λ q may. may_gripped g h e q (n.run q) (grip_elsewhere g d e q (Some (record { maker = r; purpose = Commands k })) ne).command ∙ may)) kept
        (λ q. access_gripped w g h kept.passed e q (n.run q) (grip_elsewhere g d e q (Some (record { maker = r; purpose = Commands k })) ne))

    none_undone : grips_undo h r d ≡ false
    none_undone = own_undo h d r (Commands k) (put_same g d (Some (record { maker = r; purpose = Commands k })))

    clash : (a b : Bool) → a ≡ false → (a && b) ≡ true → ⊥
    clash a b h k = grind (arith, common_steps)

    -- the run's own access
    own : (passed : ℕ → Bool) → access_by w h passed d r (n.run r) ≡ access_by w g passed d r (n.run r)
    own passed = λ i. record {
      run = run_no r;
      status = if passed r then Released else (if did n r d then (if at_work i then Acquired else Released) else Scheduled);
      view = if passed r then Some Down else option_map view_when (view_of n r d);
      wrote = if ((n.run r).on d).undid || (none_undone ∙ sym (home_undo g d r at)) i then None else ((n.run r).on d).wrote;
      from = planned_start (n.run r).planned d;
      to = planned_end (n.run r).planned d;
    }
      where
        working : (a b c x : Bool) → a ≡ false → b ≡ true → ((not a && b) || c) ≡ ((not a && b) || x)
        working a b c x h k = grind (arith, common_steps)

        at_work : ((not (is_doomed n r) && pends w n r d) || grips_command h r d) ≡ ((not (is_doomed n r) && pends w n r d) || grips_command g r d)
        at_work = working (is_doomed n r) (pends w n r d) (grips_command h r d) (grips_command g r d) sound pending

    may : (q : ℕ) → may_be_passed n g q d ≡ true → may_be_passed n h q d ≡ true
    may q = two_places (λ x. may_be_passed n g x d ≡ true → may_be_passed n h x d ≡ true) q r (λ may. absurd (clash (is_doomed n r) (not (did n r d || grips_command g r d)) sound may))
        (λ ne may. may_gripped g h d q (n.run q) (grip_out g d r q (Commands k) at ne).command ∙ may)

    there : (s : LineageState) → LineageIsKept (point w n g) d s → LineageIsKept (point w n h) d s
    there s kept = lineage_same w n n g h d s (uses_same w n g h d may) kept (λ q. two_places (λ x. access_by w h kept.passed d x (n.run x) ≡ access_by w g kept.passed d x (n.run x)) q r (own kept.passed) (λ ne. access_gripped w g h kept.passed d q (n.run q) (grip_out g d r q (Commands k) at ne)))

-- An undo goes out

-- what holds of the undone lineage and of the other devices' holds of what an undo makes of each
undone_each : (P : ℕ → LineageState → LineageState → Type 0) (r d : ℕ) → ((s : LineageState) → P d s (undone r s)) → ((e : ℕ) (s : LineageState) → e ≢ d → P e s s) → (e : ℕ) (s : LineageState) → P e s (undone_change r d e s)
undone_each P r d there elsewhere e s = two_places (λ x. P x s (undone_change r d x s)) e d (subst (P d s) (λ i. if sym (eq-eqb d d refl) i then undone r s else s) (there s)) (λ ne. subst (P e s) (λ i. if sym (ne_eqb e d ne) i then undone r s else s) (elsewhere e s ne))

pub undo_out_kept : (w : Setting) (n : Reading) (g : Grips) (d r v : ℕ) → IsRead w n → g d ≡ None → (e : ℕ) (s : LineageState) → LineageIsKept (point w n g) e s → LineageIsKept (point w n (put g d (Some (record { maker = r; purpose = Undoes v })))) e (undone_change r d e s)
undo_out_kept w n g d r v read at = undone_each (λ e s t. LineageIsKept (point w n g) e s → LineageIsKept (point w n h) e t) r d there elsewhere
  where
    h : Grips
    h = put g d (Some (record { maker = r; purpose = Undoes v }))

    elsewhere : (e : ℕ) (s : LineageState) → e ≢ d → LineageIsKept (point w n g) e s → LineageIsKept (point w n h) e s
    elsewhere e s ne kept = lineage_same w n n g h e s (uses_same w n g h e (λ q may. may_gripped g h e q (n.run q) (grip_elsewhere g d e q (Some (record { maker = r; purpose = Undoes v })) ne).command ∙ may)) kept
        (λ q. access_gripped w g h kept.passed e q (n.run q) (grip_elsewhere g d e q (Some (record { maker = r; purpose = Undoes v })) ne))

    out : h d ≡ Some (record { maker = r; purpose = Undoes v })
    out = put_same g d (Some (record { maker = r; purpose = Undoes v }))

    none_out : (q : ℕ) → grips_command h q d ≡ grips_command g q d
    none_out q = no_command_out h d r q (Undoes v) out refl ∙ sym (home_command g d q at)

    own : (passed : ℕ → Bool) → access_by w h passed d r (n.run r) ≡ record (access_by w g passed d r (n.run r)) { wrote = None }
    own passed = λ i. record {
      run = run_no r;
      status = if passed r then Released else (if did n r d then (if (not (is_doomed n r) && pends w n r d) || none_out r i then Acquired else Released) else Scheduled);
      view = if passed r then Some Down else option_map view_when (view_of n r d);
      wrote = if or_right ((n.run r).on d).undid (grips_undo h r d) (own_undo h d r (Undoes v) out) i then None else ((n.run r).on d).wrote;
      from = planned_start (n.run r).planned d;
      to = planned_end (n.run r).planned d;
    }

    there : (s : LineageState) → LineageIsKept (point w n g) d s → LineageIsKept (point w n h) d (undone r s)
    there s kept =
        lineage_changed w n n g h d r (λ x. record x { wrote = None }) s (runs_distinct n read.once)
        (uses_same w n g h d (λ q may. may_gripped g h d q (n.run q) (none_out q) ∙ may)) kept (own kept.passed)
        (λ q ne. access_gripped w g h kept.passed d q (n.run q) (grip_out g d r q (Undoes v) at ne))

-- An undo is noted

-- the record of the run
abbrev pub undone_run : Reading → ℕ → ℕ → OfRun
undone_run n r d = record (n.run r) { on = put (n.run r).on d (record ((n.run r).on d) { undid = true }) }

-- the run wrote what it wrote
undid_uses : (w : Setting) (n : Reading) (g h : Grips) (r d e : ℕ) (drove : Bool) → ((q : ℕ) → grips_command h q e ≡ grips_command g q e) → SameUses w n (entry w n (Undid (run_no r) (device_no d) drove)) g h e
undid_uses w n g h r d e drove same = record {
  line = refl;
  has_one = put_says (uses_by w e) n.run r new (λ i. (is_some old.placed && is_none old.ended) && touches w.runs r e && not (touches w.runs r e && not (touches_from w.runs r e (length old.answers)) && not (is_some (views i))));
  covering = put_says (λ q. commits_by e) n.run r new (λ i. unwrap_or (option_map is_committing old.ended) false && is_some (writes i));
  write = put_says (λ q. write_by e) n.run r new (λ i. if unwrap_or (option_map is_committing old.ended) false then writes i else None);
  unplaced = put_says (λ q o. is_none o.placed) n.run r new refl;
  up = refl;
  may = λ q may. may_gripped g h e q (m.run q) (same q) ∙ put_says (may_by g e) n.run r new (λ i. is_some old.doomed && not (is_some (views i) || grips_command g r e)) q ∙ may;
}
  where
    m : Reading
    m = entry w n (Undid (run_no r) (device_no d) drove)

    old : OfRun
    old = n.run r

    new : OfRun
    new = undone_run n r d

    views : (new.on e).view ≡ (old.on e).view
    views = put_keeps (λ x. x.view) old.on d (record (old.on d) { undid = true }) refl e

    writes : (new.on e).wrote ≡ (old.on e).wrote
    writes = put_keeps (λ x. x.wrote) old.on d (record (old.on d) { undid = true }) refl e

-- on another device nothing changes
undid_elsewhere : (w : Setting) (n : Reading) (g h : Grips) (r d e : ℕ) (drove : Bool) (s : LineageState) → ((q : ℕ) → SameGrip g h e q) → e ≢ d → LineageIsKept (point w n g) e s → LineageIsKept (point w (entry w n (Undid (run_no r) (device_no d) drove)) h) e s
undid_elsewhere w n g h r d e drove s same ne kept = lineage_same w n m g h e s (undid_uses w n g h r d e drove (λ q. (same q).command)) kept
    (λ q. access_gripped w g h kept.passed e q (m.run q) (same q) ∙ put_says (access_by w g kept.passed e) n.run r new (λ i. record {
      run = run_no r;
      status = if kept.passed r then Released else (if is_some (there i).view then (if (not (is_some old.doomed) && touches_from w.runs r e (length old.answers)) || grips_command g r e then Acquired else Released) else Scheduled);
      view = if kept.passed r then Some Down else option_map view_when (there i).view;
      wrote = if (there i).undid || grips_undo g r e then None else (there i).wrote;
      from = planned_start old.planned e;
      to = planned_end old.planned e;
    }) q)
  where
    m : Reading
    m = entry w n (Undid (run_no r) (device_no d) drove)

    old : OfRun
    old = n.run r

    new : OfRun
    new = undone_run n r d

    there : new.on e ≡ old.on e
    there = put_other old.on d (record (old.on d) { undid = true }) e ne

-- on its own device the run is undone
undid_own : (w : Setting) (n : Reading) (g h : Grips) (passed : ℕ → Bool) (r d : ℕ) → grips_command h r d ≡ grips_command g r d → access_by w h passed d r (undone_run n r d) ≡ record (access_by w g passed d r (n.run r)) { wrote = None }
undid_own w n g h passed r d same = λ i. record {
  run = run_no r;
  status = if passed r then Released else (if is_some (there i).view then (if (not (is_some (n.run r).doomed) && touches_from w.runs r d (length (n.run r).answers)) || same i then Acquired else Released) else Scheduled);
  view = if passed r then Some Down else option_map view_when (there i).view;
  wrote = if (there i).undid || grips_undo h r d then None else (there i).wrote;
  from = planned_start (n.run r).planned d;
  to = planned_end (n.run r).planned d;
}
  where
    there : (undone_run n r d).on d ≡ record ((n.run r).on d) { undid = true }
    there = put_same (n.run r).on d (record ((n.run r).on d) { undid = true })

-- an undo that was out comes home: it was undone as it went out
pub undid_kept : (w : Setting) (n : Reading) (g : Grips) (d r v : ℕ) (drove : Bool) → g d ≡ Some (record { maker = r; purpose = Undoes v }) → (e : ℕ) (s : LineageState) → LineageIsKept (point w n g) e s → LineageIsKept (point w (entry w n (Undid (run_no r) (device_no d) drove)) (put g d None)) e s
undid_kept w n g d r v drove at e = two_places (λ x. (s : LineageState) → LineageIsKept (point w n g) x s → LineageIsKept (point w m h) x s) e d there (λ ne s kept. undid_elsewhere w n g h r d e drove s (λ q. grip_elsewhere g d e q None ne) ne kept)
  where
    m : Reading
    m = entry w n (Undid (run_no r) (device_no d) drove)

    h : Grips
    h = put g d None

    home : h d ≡ None
    home = put_same g d None

    none_out : (q : ℕ) → grips_command h q d ≡ grips_command g q d
    none_out q = home_command h d q home ∙ sym (no_command_out g d r q (Undoes v) at refl)

    either : (a b : Bool) → b ≡ true → true ≡ (a || b)
    either a b h = grind (arith, common_steps)

    already : (passed : ℕ → Bool) → record (access_by w g passed d r (n.run r)) { wrote = None } ≡ access_by w g passed d r (n.run r)
    already passed = λ i. record (access_by w g passed d r (n.run r)) { wrote = if either ((n.run r).on d).undid (grips_undo g r d) (own_undo g d r (Undoes v) at) i then None else ((n.run r).on d).wrote }

    there : (s : LineageState) → LineageIsKept (point w n g) d s → LineageIsKept (point w m h) d s
    there s kept = lineage_same w n m g h d s (undid_uses w n g h r d d drove none_out) kept (λ q. two_places (λ x. access_by w h kept.passed d x (m.run x) ≡ access_by w g kept.passed d x (n.run x)) q r
        (ap (access_by w h kept.passed d r) (put_same n.run r (undone_run n r d)) ∙ undid_own w n g h kept.passed r d (none_out r) ∙ already kept.passed)
        (λ ne. access_gripped w g h kept.passed d q (m.run q) (grip_home g d r q (Undoes v) at ne) ∙ ap (access_by w g kept.passed d q) (put_other n.run r (undone_run n r d) q ne)))

-- an undo is left out
pub undo_dropped_kept : (w : Setting) (n : Reading) (g : Grips) (d r : ℕ) (drove : Bool) → IsRead w n → (e : ℕ) (s : LineageState) → LineageIsKept (point w n g) e s → LineageIsKept (point w (entry w n (Undid (run_no r) (device_no d) drove)) g) e (undone_change r d e s)
undo_dropped_kept w n g d r drove read = undone_each (λ e s t. LineageIsKept (point w n g) e s → LineageIsKept (point w m g) e t) r d there (λ e s ne kept. undid_elsewhere w n g g r d e drove s (λ q. record { command = refl; undo = refl }) ne kept)
  where
    m : Reading
    m = entry w n (Undid (run_no r) (device_no d) drove)

    there : (s : LineageState) → LineageIsKept (point w n g) d s → LineageIsKept (point w m g) d (undone r s)
    there s kept = lineage_changed w n m g g d r (λ x. record x { wrote = None }) s (runs_distinct n read.once) (undid_uses w n g g r d d drove (λ q. refl)) kept
        (ap (access_by w g kept.passed d r) (put_same n.run r (undone_run n r d)) ∙ undid_own w n g g kept.passed r d refl) (λ q ne. ap (access_by w g kept.passed d q) (put_other n.run r (undone_run n r d) q ne))

-- A run is doomed

-- the access is released where it is acquired
abbrev let_go : Access → Access
let_go x = if is_acquired x.status then record x { status = Released } else x

-- .. which is what is made of the lineage
doomed_is : (r : ℕ) (s : LineageState) → doomed_lineage r s ≡ lineage_with r let_go s
doomed_is r s = at_ (has_acquired r s) refl
  where
    acquired_here : (xs : List Access) → unwrap_or (option_map is_acquired (status_of r xs)) false ≡ true → with_change r (λ (x : Access). record x { status = Released }) xs ≡ with_change r let_go xs
    acquired_here [] h = refl
    acquired_here (x ∷ xs) h = by_run (is_of r x) refl (acquired_here xs) h
      where
        by_run : (b : Bool) → is_of r x ≡ b → (unwrap_or (option_map is_acquired (status_of r xs)) false ≡ true → with_change r (λ (y : Access). record y { status = Released }) xs ≡ with_change r let_go xs)
            → unwrap_or (option_map is_acquired (option_map (λ (y : Access). y.status) (if b then Some x else find (is_of r) xs))) false ≡ true
            → (if b then (record x { status = Released } ∷ xs) else (x ∷ with_change r (λ (y : Access). record y { status = Released }) xs)) ≡ (if b then (let_go x ∷ xs) else (x ∷ with_change r let_go xs))
        by_run true e ih k = λ i. (if sym k i then record x { status = Released } else x) ∷ xs
        by_run false e ih k = λ i. x ∷ ih k i

    not_here : (xs : List Access) → unwrap_or (option_map is_acquired (status_of r xs)) false ≡ false → xs ≡ with_change r let_go xs
    not_here [] h = refl
    not_here (x ∷ xs) h = by_run (is_of r x) refl (not_here xs) h
      where
        by_run : (b : Bool) → is_of r x ≡ b → (unwrap_or (option_map is_acquired (status_of r xs)) false ≡ false → xs ≡ with_change r let_go xs)
            → unwrap_or (option_map is_acquired (option_map (λ (y : Access). y.status) (if b then Some x else find (is_of r) xs))) false ≡ false
            → x ∷ xs ≡ (if b then (let_go x ∷ xs) else (x ∷ with_change r let_go xs))
        by_run true e ih k = λ i. (if sym k i then record x { status = Released } else x) ∷ xs
        by_run false e ih k = λ i. x ∷ ih k i

    at_ : (b : Bool) → has_acquired r s ≡ b → released_if b r s ≡ lineage_with r let_go s
    at_ true e = λ i. record s { accesses = acquired_here s.accesses e i }
    at_ false e = λ i. record s { accesses = not_here s.accesses e i }

-- the record of the run
abbrev pub doomed_run : Reading → ℕ → Cause → OfRun
doomed_run n r cause = record (n.run r) { doomed = Some cause }

pub doomed_kept : (w : Setting) (n : Reading) (g : Grips) (r : ℕ) (cause : Cause) → IsRead w n → is_doomed n r ≡ false
    → ((d : ℕ) → grips_command g r d ≡ true → pends w n r d ≡ true) → (d : ℕ) (s : LineageState) → LineageIsKept (point w n g) d s
    → LineageIsKept (point w (entry w n (Doomed (run_no r) cause)) g) d (doomed_change g r d s)
doomed_kept w n g r cause read sound pending d s kept = at_ (grips_command g r d) refl
  where
    m : Reading
    m = entry w n (Doomed (run_no r) cause)

    new : OfRun
    new = doomed_run n r cause

    own : m.run r ≡ new
    own = put_same n.run r new

    clash : (a b : Bool) → a ≡ false → (a && b) ≡ true → ⊥
    clash a b h k = grind (arith, common_steps)

    same : SameUses w n m g g d
    same = record {
      line = refl;
      has_one = put_says (uses_by w d) n.run r new refl;
      covering = put_says (λ q. commits_by d) n.run r new refl;
      write = put_says (λ q. write_by d) n.run r new refl;
      unplaced = put_says (λ q o. is_none o.placed) n.run r new refl;
      up = refl;
      may = put_all (λ q o. may_be_passed n g q d ≡ true → may_by g d q o ≡ true) n.run r new (λ q may. may) (λ may. absurd (clash (is_doomed n r) (not (did n r d || grips_command g r d)) sound may));
    }

    other : (passed : ℕ → Bool) (q : ℕ) → q ≢ r → access_by w g passed d q (m.run q) ≡ access_by w g passed d q (n.run q)
    other passed q ne = ap (access_by w g passed d q) (put_other n.run r new q ne)

    -- a run that was not doomed was not passed
    unpassed : kept.passed r ≡ false
    unpassed = by_passed (kept.passed r) refl
      where
        by_passed : (b : Bool) → kept.passed r ≡ b → b ≡ false
        by_passed true e = absurd (clash (is_doomed n r) (not (did n r d || grips_command g r d)) sound (kept.may_pass r e))
        by_passed false e = refl

    with_status : Status → Access
    with_status status = record (access_by w g kept.passed d r (n.run r)) { status = status }

    -- while its command is out it stands as it stood
    still : grips_command g r d ≡ true → access_by w g kept.passed d r new ≡ access_by w g kept.passed d r (n.run r)
    still e = ap with_status (λ i. if kept.passed r then Released else (if did n r d then (if stays i then Acquired else Released) else Scheduled))
      where
        both_so : (x y z : Bool) → z ≡ true → z ≡ ((not x && y) || z)
        both_so x y z h = grind (arith, common_steps)

        stays : grips_command g r d ≡ ((not (is_doomed n r) && pends w n r d) || grips_command g r d)
        stays = both_so (is_doomed n r) (pends w n r d) (grips_command g r d) e

    -- else it is released where it was acquired
    goes : grips_command g r d ≡ false → access_by w g kept.passed d r new ≡ let_go (access_by w g kept.passed d r (n.run r))
    goes e =
        ap with_status ((λ i. if unpassed i then Released else (if did n r d then (if e i then Acquired else Released) else Scheduled)))
        ∙ released (did n r d) (pends w n r d)
        ∙ (λ i. let_go (with_status (if sym unpassed i then Released else (if did n r d then (if (not (sym sound i) && pends w n r d) || sym e i then Acquired else Released) else Scheduled))))
      where
        released : (a b : Bool) → with_status (if a then Released else Scheduled) ≡ let_go (with_status (if a then (if b || false then Acquired else Released) else Scheduled))
        released true true = refl
        released true false = refl
        released false b = refl

    at_ : (b : Bool) → grips_command g r d ≡ b → LineageIsKept (point w m g) d (if b then s else doomed_lineage r s)
    at_ true e = lineage_same w n m g g d s same kept (λ q. two_places (λ x. access_by w g kept.passed d x (m.run x) ≡ access_by w g kept.passed d x (n.run x)) q r (ap (access_by w g kept.passed d r) own ∙ still e) (other kept.passed q))
    at_ false e = subst (LineageIsKept (point w m g) d) (sym (doomed_is r s)) (lineage_changed w n m g g d r let_go s (runs_distinct n read.once) same kept (ap (access_by w g kept.passed d r) own ∙ goes e) (other kept.passed))
