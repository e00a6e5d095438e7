-- The runs that hold a device, or wrote it, before a run: the accesses tell them as the history does.
use Rattle.lock_leasing.proofs.Prelude.{Access, Back, Bool, Command, EachTellsOfRun, Failed, Grips, Item, Kept, List, None, Option, Ran, Reading, RunNo, Setting, Some, TellsOfRun, [], access_holds, access_of, accesses_before, ap, arith, behind_wait, common_steps, cond, cons_option, covers, did, dirty_wait, dirty_writer, doom_of, effective_write, effective_writer, false, find, first_before, grips_command, has_effect, has_written, holder_before, holds_device, if◌then◌else◌, is_doomed, is_down_view, is_live, is_none, is_open, is_ran, is_released, is_some, is_undone, is_writer, list_any, live_before, live_runs, map, not, of_run, option_map, pends, point, reads, reads_its_place, refl, runs_with_access, sees_down, sees_it_down, status_by_answers, subst, sym, take_while-cons, touches, true, unwrap_or, uses, view_of, view_when, writer_before, ℕ, ◌&&◌, ◌==◌, ◌||◌, ◌∙◌, ◌∷◌, ◌≡◌}
use Rattle.history_book.specs.Lines as lines
use Rattle.lock_leasing.proofs.AccessRuns.{EachTail, HasAccess, has_work, workers_have_access}
use Rattle.lock_leasing.proofs.Facts.{Facts, command_pends, undone_doomed}
use Rattle.lock_leasing.proofs.Writers.{live_writer, run_in, writer_has_effect, writer_is}

abbrev head_or : List ℕ → ℕ → ℕ
head_or [] k = k
head_or (y ∷ ys) k = y

abbrev tail_of : List ℕ → List ℕ
tail_of [] = []
tail_of (y ∷ ys) = ys

-- what follows from what holds of each item holds of each
pub weaker : (P Q : Item → List Item → Type 0) → ((i : Item) (is : List Item) → P i is → Q i is) → (is : List Item) → EachTail P is → EachTail Q is
weaker P Q each [] all = tt
weaker P Q each (i ∷ is) all = (each i is all.0, weaker P Q each is all.1)

module _ (w : Setting) (n : Reading) (g : Grips) (f : Facts w n g) (d : ℕ) where
  -- A walk along the line beside the accesses

  abbrev Shows : List Item → List Access → Type 0
  Shows is xs = (map (λ x. x.run.0) xs ≡ runs_with_access w n d is) × EachTellsOfRun (point w n g) d xs

  -- each live run of which the test holds has an access, and the run r too
  abbrev HasIfHeld : (ℕ → Bool) → ℕ → Item → List Item → Type 0
  HasIfHeld held r i is = of_run (λ q. (is_live n q && held q) || (q == r)) i ≡ true → (of_run (uses w n d) i && not (list_any (covers n d) is)) ≡ true

  -- an access tells the test of its run
  abbrev pub TellsTest : (ℕ → Bool) → (Access → Bool) → Type 0
  TellsTest held test = (x : Access) (rest : List Access) → TellsOfRun (point w n g) d x rest → uses w n d x.run.0 ≡ true → test x ≡ held x.run.0

  abbrev Same : (ℕ → Bool) → (Access → Bool) → ℕ → List Item → List Access → Type 0
  Same held test r is xs = run_in w n g f d (first_before test r xs) ≡ find held (live_runs n (lines.before r is))

  run_same : (held : ℕ → Bool) (test : Access → Bool) (r : ℕ) (tells : TellsTest held test) (q : RunNo) (is : List Item) (xs : List Access)
      → HasIfHeld held r (Ran q) is → Shows (Ran q ∷ is) xs → ((ys : List Access) → Shows is ys → Same held test r is ys) → Same held test r (Ran q ∷ is) xs
  run_same held test r tells q is xs has shows behind =
      by_own (q.0 == r) (uses w n d q.0 && not (list_any (covers n d) is)) refl refl shows.0
      ∙ sym (ap (λ l. find held (live_runs n l)) (take_while-cons (λ i. not (is_ran r i)) (Ran q) is))
    where
      bs : List Item
      bs = lines.before r is

      -- its access is the next one
      next : (ys : List Access) → uses w n d q.0 ≡ true → map (λ x. x.run.0) ys ≡ r ∷ runs_with_access w n d is → run_in w n g f d (first_before test r ys) ≡ None
      next [] used same = absurd (cc)
      next (x ∷ ys) used same = let own : x.run.0 ≡ r = ap (λ l. head_or l 0) same in let mine : (x.run.0 == r) ≡ true = grind (arith, common_steps) in ap (λ b. run_in w n g f d (option_map (λ y. y.run) (find test (if b then [] else x ∷ accesses_before r ys)))) mine

      passes : (ys : List Access) → (q.0 == r) ≡ false → uses w n d q.0 ≡ true → map (λ x. x.run.0) ys ≡ q.0 ∷ runs_with_access w n d is → EachTellsOfRun (point w n g) d ys
          → run_in w n g f d (first_before test r ys) ≡ cond (held q.0) (Some q.0) (find held (live_runs n bs))
      passes [] other used same all = absurd (cc)
      passes (x ∷ ys) other used same all =
          let own : x.run.0 ≡ q.0 = ap (λ l. head_or l 0) same in
          let rest : map (λ y. y.run.0) ys ≡ runs_with_access w n d is = ap tail_of same in
          let not_mine : (x.run.0 == r) ≡ false = ap (λ k. k == r) own ∙ other in
          let told : test x ≡ held q.0 = tells x ys all.0 (ap (λ k. uses w n d k) own ∙ used) ∙ ap held own in
          ap (λ b. run_in w n g f d (option_map (λ y. y.run) (find test (if b then [] else x ∷ accesses_before r ys)))) not_mine
          ∙ ap (λ b. run_in w n g f d (option_map (λ y. y.run) (cond b (Some x) (find test (accesses_before r ys))))) told
          ∙ either (held q.0) own (behind ys (rest, all.1))
        where
          either : (b : Bool) → x.run.0 ≡ q.0 → Same held test r is ys → run_in w n g f d (option_map (λ y. y.run) (cond b (Some x) (find test (accesses_before r ys)))) ≡ cond b (Some q.0) (find held (live_runs n bs))
          either true own after = ap Some own
          either false own after = after

      by_live : (b : Bool) → is_live n q.0 ≡ b → (b ≡ true → held q.0 ≡ false) → find held (live_runs n bs) ≡ find held (cons_option (if b then Some q.0 else None) (live_runs n bs))
      by_live true live none = sym (ap (λ h. cond h (Some q.0) (find held (live_runs n bs))) (none refl))
      by_live false dead none = refl

      by_own : (b c : Bool) → (q.0 == r) ≡ b → (uses w n d q.0 && not (list_any (covers n d) is)) ≡ c → map (λ x. x.run.0) xs ≡ (if c then (q.0 ∷ runs_with_access w n d is) else runs_with_access w n d is)
          → run_in w n g f d (first_before test r xs) ≡ find held (live_runs n (cond (not b) (Ran q ∷ bs) []))
      by_own true true own access same = let equal : q.0 ≡ r = grind (arith, common_steps) in next xs (grind (arith, common_steps)) (same ∙ ap (λ k. k ∷ runs_with_access w n d is) equal)
      by_own true false own none same = let some : (uses w n d q.0 && not (list_any (covers n d) is)) ≡ true = has (grind (arith, common_steps)) in absurd (cc (some, none))
      by_own false true other access same =
          let live : is_live n q.0 ≡ true = grind (arith, common_steps) in
          passes xs other (grind (arith, common_steps)) same shows.1 ∙ sym (ap (λ b. find held (cons_option (if b then Some q.0 else None) (live_runs n bs))) live)
      by_own false false other none same = behind xs (same, shows.1) ∙ by_live (is_live n q.0) refl (λ live. unheld (held q.0) refl live)
        where
          unheld : (b : Bool) → held q.0 ≡ b → is_live n q.0 ≡ true → b ≡ false
          unheld true yes' live = let some : (uses w n d q.0 && not (list_any (covers n d) is)) ≡ true = has (grind (arith, common_steps)) in absurd (cc (some, none))
          unheld false no' live = refl

  walk_same : (held : ℕ → Bool) (test : Access → Bool) (r : ℕ) (tells : TellsTest held test) (is : List Item) (xs : List Access) → EachTail (HasIfHeld held r) is → Shows is xs → Same held test r is xs
  walk_same held test r tells [] [] has shows = refl
  walk_same held test r tells [] (x ∷ xs) has shows = absurd (cc (shows.0))
  walk_same held test r tells (Ran q ∷ is) xs has shows = run_same held test r tells q is xs has.0 shows (λ ys. walk_same held test r tells is ys has.1)
  walk_same held test r tells (Failed e k ∷ is) xs has shows = walk_same held test r tells is xs has.1 shows ∙ sym (ap (λ l. find held (live_runs n l)) (take_while-cons (λ i. not (is_ran r i)) (Failed e k) is))
  walk_same held test r tells (Back e k ∷ is) xs has shows = walk_same held test r tells is xs has.1 shows ∙ sym (ap (λ l. find held (live_runs n l)) (take_while-cons (λ i. not (is_ran r i)) (Back e k) is))

  -- the access of a run that has one

  abbrev OwnAccess : ℕ → List Access → Type 0
  OwnAccess r xs = (x : Access) × (rest : List Access) × (access_of r xs ≡ Some x) × (x.run.0 ≡ r) × TellsOfRun (point w n g) d x rest

  own_access : (held : ℕ → Bool) (r : ℕ) (is : List Item) (xs : List Access) → EachTail (HasIfHeld held r) is → Shows is xs → list_any (is_ran r) is ≡ true → OwnAccess r xs
  own_access held r [] xs has shows among = absurd (cc)
  own_access held r (Failed e k ∷ is) xs has shows among = own_access held r is xs has.1 shows among
  own_access held r (Back e k ∷ is) xs has shows among = own_access held r is xs has.1 shows among
  own_access held r (Ran q ∷ is) xs has shows among = by_own (q.0 == r) (uses w n d q.0 && not (list_any (covers n d) is)) refl refl xs shows.0 shows.1 (λ ys z. own_access held r is ys has.1 z)
    where
      by_own : (b c : Bool) → (q.0 == r) ≡ b → (uses w n d q.0 && not (list_any (covers n d) is)) ≡ c → (ys : List Access) → map (λ x. x.run.0) ys ≡ (if c then (q.0 ∷ runs_with_access w n d is) else runs_with_access w n d is) → EachTellsOfRun (point w n g) d ys
          → ((zs : List Access) → Shows is zs → list_any (is_ran r) is ≡ true → OwnAccess r zs) → OwnAccess r ys
      by_own true false own none ys same all behind = let some : (uses w n d q.0 && not (list_any (covers n d) is)) ≡ true = has.0 (grind (arith, common_steps)) in absurd (cc (some, none))
      by_own true true own access [] same all behind = absurd (cc)
      by_own true true own access (x ∷ ys) same all behind =
          let equal : q.0 ≡ r = grind (arith, common_steps) in
          let its : x.run.0 ≡ r = ap (λ l. head_or l 0) same ∙ equal in
          let mine : (x.run.0 == r) ≡ true = grind (arith, common_steps) in
          (x, ys, ap (λ b. cond b (Some x) (access_of r ys)) mine, its, all.0)
      by_own false true other access [] same all behind = absurd (cc)
      by_own false true other access (x ∷ ys) same all behind =
          let not_mine : (x.run.0 == r) ≡ false = ap (λ k. k == r) (ap (λ l. head_or l 0) same) ∙ other in
          let found = behind ys (ap tail_of same, all.1) (grind (arith, common_steps)) in
          (found.0, found.1, ap (λ b. cond b (Some x) (access_of r ys)) not_mine ∙ found.2, found.3, found.4)
      by_own false false other none ys same all behind = behind ys (same, all) (grind (arith, common_steps))

  -- Holding

  holds_works : (q : ℕ) → (is_live n q && holds_device (point w n g) q d) ≡ true → has_work w n g f d q ≡ true
  holds_works q held = at (is_doomed n q) refl
    where
      at : (b : Bool) → is_doomed n q ≡ b → has_work w n g f d q ≡ true
      at true e = grind (arith, common_steps)
      at false e = grind (arith, common_steps)

  -- where r has more to do, each run with work and r have an access
  has_if : (held : ℕ → Bool) (r : ℕ) → is_open w n r d ≡ true → ((q : ℕ) → (is_live n q && held q) ≡ true → has_work w n g f d q ≡ true) → EachTail (HasIfHeld held r) n.line
  has_if held r opened works = weaker (HasAccess w n g f d) (HasIfHeld held r) each n.line (workers_have_access w n g f d)
    where
      of : (q : ℕ) → ((is_live n q && held q) || (q == r)) ≡ true → has_work w n g f d q ≡ true
      of q yes' = at (is_live n q && held q) refl yes'
        where
          at : (b : Bool) → (is_live n q && held q) ≡ b → (b || (q == r)) ≡ true → has_work w n g f d q ≡ true
          at true e yes' = works q e
          at false e yes' = let same : r ≡ q = grind (arith, common_steps) in subst (λ k. has_work w n g f d k ≡ true) same (rw opened refl)

      each : (i : Item) (is : List Item) → HasAccess w n g f d i is → HasIfHeld held r i is
      each (Ran q) is has yes' = has (of q.0 yes')
      each (Failed e k) is has yes' = absurd (cc)
      each (Back e k) is has yes' = absurd (cc)

  -- a run that is not doomed holds the device where its access is not released
  pub sound_holds : (x : Access) (rest : List Access) → TellsOfRun (point w n g) d x rest → uses w n d x.run.0 ≡ true → is_doomed n x.run.0 ≡ false → not (is_released x.status) ≡ holds_device (point w n g) x.run.0 d
  sound_holds x rest tells used e = ap (λ s. not (is_released s)) (tells.status (rw e refl)) ∙ by_status (did n r d) (pends w n r d) (grips_command g r d) refl refl refl ∙ whole (grind (arith, common_steps))
    where
      r : ℕ
      r = x.run.0

      by_status : (a b c : Bool) → did n r d ≡ a → pends w n r d ≡ b → grips_command g r d ≡ c → not (is_released (status_by_answers (point w n g) r d)) ≡ pends w n r d
      by_status true true c e1 e2 e3 = rw (e1, e, e2) refl
      by_status true false true e1 e2 e3 = absurd (cc (command_pends w n g r d f e3, e2))
      by_status true false false e1 e2 e3 = rw (e1, e, e2, e3) refl
      by_status false true c e1 e2 e3 = rw (e1, e2) refl
      by_status false false c e1 e2 e3 = absurd (grind (arith, common_steps))

      whole : is_live n r ≡ true → pends w n r d ≡ holds_device (point w n g) r d
      whole live = rw (live, e) refl

  tells_holds : (history : List Kept) (writer : Option RunNo) → ((r : ℕ) → is_some (doom_of history r) ≡ is_doomed n r) → run_in w n g f d writer ≡ live_writer w n g f d (effective_write n g d) → TellsTest (λ q. holds_device (point w n g) q d) (access_holds history writer)
  tells_holds history writer dooms same x rest tells used = at (is_doomed n x.run.0) refl
    where
      r : ℕ
      r = x.run.0

      at : (b : Bool) → is_doomed n r ≡ b → access_holds history writer x ≡ holds_device (point w n g) r d
      at true e =
          let effect : is_writer writer x ≡ has_effect n g r d = writer_has_effect w n g f d writer x same (grind (arith, common_steps)) in
          let doomed : is_some (doom_of history r) ≡ true = dooms r ∙ e in
          ap (λ b. if b then is_writer writer x else not (is_released x.status)) doomed ∙ effect ∙ whole (grind (arith, common_steps)) (grind (arith, common_steps))
        where
          whole : is_live n r ≡ true → touches w.runs r d ≡ true → has_effect n g r d ≡ holds_device (point w n g) r d
          whole live on = rw (live, e, on) refl
      at false e =
          let sound : is_some (doom_of history r) ≡ false = dooms r ∙ e in
          ap (λ b. if b then is_writer writer x else not (is_released x.status)) sound ∙ sound_holds x rest tells used e

  -- the first run before r of which a test holds that asks that the run holds the device
  pub first_holder : (held : ℕ → Bool) (test : Access → Bool) (r : ℕ) (xs : List Access) → ((q : ℕ) → held q ≡ true → holds_device (point w n g) q d ≡ true) → TellsTest held test → is_open w n r d ≡ true
      → map (λ x. x.run.0) xs ≡ runs_with_access w n d n.line → EachTellsOfRun (point w n g) d xs → run_in w n g f d (first_before test r xs) ≡ find held (live_before n r)
  first_holder held test r xs holds tells opened runs told = walk_same held test r tells n.line xs (has_if held r opened (λ q yes'. holds_works q (both q yes'))) (runs, told)
    where
      both : (q : ℕ) → (is_live n q && held q) ≡ true → (is_live n q && holds_device (point w n g) q d) ≡ true
      both q yes' = let holding : holds_device (point w n g) q d ≡ true = holds q (grind (arith, common_steps)) in grind (arith, common_steps)

  pub holder_is : (history : List Kept) (r : ℕ) (xs : List Access) → ((q : ℕ) → is_some (doom_of history q) ≡ is_doomed n q) → is_open w n r d ≡ true
      → map (λ x. x.run.0) xs ≡ runs_with_access w n d n.line → EachTellsOfRun (point w n g) d xs → run_in w n g f d (holder_before history r xs) ≡ behind_wait (point w n g) r d
  holder_is history r xs dooms opened runs tells =
      first_holder (λ q. holds_device (point w n g) q d) (access_holds history (effective_writer xs)) r xs (λ q yes'. yes') (tells_holds history (effective_writer xs) dooms (writer_is w n g f d xs runs tells)) opened runs tells

  -- A dirty read

  writer_before_is : (r : ℕ) (xs : List Access) → is_open w n r d ≡ true → map (λ x. x.run.0) xs ≡ runs_with_access w n d n.line → EachTellsOfRun (point w n g) d xs
      → run_in w n g f d (writer_before r xs) ≡ find (λ q. has_effect n g q d) (live_before n r)
  writer_before_is r xs opened runs tells =
      walk_same (λ q. has_effect n g q d) (is_writer (effective_writer xs)) r told n.line xs (has_if (λ q. has_effect n g q d) r opened effect_works) (runs, tells)
    where
      told : TellsTest (λ q. has_effect n g q d) (is_writer (effective_writer xs))
      told x rest tell used = writer_has_effect w n g f d (effective_writer xs) x (writer_is w n g f d xs runs tells) (grind (arith, common_steps))

      effect_works : (q : ℕ) → (is_live n q && has_effect n g q d) ≡ true → has_work w n g f d q ≡ true
      effect_works q yes' = grind (arith, common_steps)

  -- the access of a run that is not doomed tells whether it sees the device down and whether it wrote
  place_read : (r : ℕ) (x : Access) (rest : List Access) → is_doomed n r ≡ false → x.run.0 ≡ r → TellsOfRun (point w n g) d x rest → reads_its_place x ≡ (not (sees_down n r d) && not (has_written n r d))
  place_read r x rest sound its tells = subst (λ k. is_doomed n k ≡ false → reads_its_place x ≡ (not (sees_down n k d) && not (has_written n k d))) its at sound
    where
      seen : (v : Option Bool) → unwrap_or (option_map is_down_view (option_map view_when v)) false ≡ unwrap_or (option_map not v) false
      seen None = refl
      seen (Some true) = refl
      seen (Some false) = refl

      unwritten : (o : Option ℕ) → is_none o ≡ not (is_some o)
      unwritten None = refl
      unwritten (Some v) = refl

      stays : (b : Bool) → is_undone n g x.run.0 d ≡ b → is_doomed n x.run.0 ≡ false → b ≡ false
      stays true e sound = absurd (cc (undone_doomed w n g x.run.0 d f e, sound))
      stays false e sound = refl

      at : is_doomed n x.run.0 ≡ false → reads_its_place x ≡ (not (sees_down n x.run.0 d) && not (has_written n x.run.0 d))
      at sound =
          let down : sees_it_down x ≡ sees_down n x.run.0 d = ap (λ v. unwrap_or (option_map is_down_view v) false) (tells.view sound) ∙ seen (view_of n x.run.0 d) in
          let kept : is_undone n g x.run.0 d ≡ false = stays (is_undone n g x.run.0 d) refl sound in
          let wrote : is_none x.wrote ≡ not (has_written n x.run.0 d) = ap is_none tells.wrote ∙ ap (λ b. is_none (if b then None else ((n.run x.run.0).on d).wrote)) kept ∙ unwritten ((n.run x.run.0).on d).wrote in
          ap (λ b. not b && is_none x.wrote) down ∙ ap (λ b. not (sees_down n x.run.0 d) && b) wrote

  dirty_at : (reading : Bool) (r : ℕ) (xs : List Access) → is_open w n r d ≡ true → list_any (is_ran r) n.line ≡ true → map (λ x. x.run.0) xs ≡ runs_with_access w n d n.line → EachTellsOfRun (point w n g) d xs
      → run_in w n g f d (if reading && unwrap_or (option_map reads_its_place (access_of r xs)) false then writer_before r xs else None)
      ≡ (if reading && not (sees_down n r d) && not (has_written n r d) then find (λ q. has_effect n g q d) (live_before n r) else None)
  dirty_at reading r xs opened among runs tells =
      let own = own_access (λ q. has_effect n g q d) r n.line xs (has_if (λ q. has_effect n g q d) r opened (λ q yes'. grind (arith, common_steps))) (runs, tells) among in
      let read : unwrap_or (option_map reads_its_place (access_of r xs)) false ≡ (not (sees_down n r d) && not (has_written n r d)) = ap (λ o. unwrap_or (option_map reads_its_place o) false) own.2 ∙ place_read r own.0 own.1 (grind (arith, common_steps)) own.3 own.4 in
      ap (λ b. run_in w n g f d (if reading && b then writer_before r xs else None)) read
      ∙ by_read reading (not (sees_down n r d)) (not (has_written n r d)) (writer_before_is r xs opened runs tells)
    where
      by_read : (a b c : Bool) → run_in w n g f d (writer_before r xs) ≡ find (λ q. has_effect n g q d) (live_before n r) → run_in w n g f d (if a && (b && c) then writer_before r xs else None) ≡ (if a && b && c then find (λ q. has_effect n g q d) (live_before n r) else None)
      by_read true true true same = same
      by_read true true false same = refl
      by_read true false c same = refl
      by_read false b c same = refl

pub dirty_is : (w : Setting) (n : Reading) (g : Grips) (f : Facts w n g) (c : Command) (r : ℕ) (xs : List Access) → is_open w n r c.device.0 ≡ true → list_any (is_ran r) n.line ≡ true
    → map (λ x. x.run.0) xs ≡ runs_with_access w n c.device.0 n.line → EachTellsOfRun (point w n g) c.device.0 xs → run_in w n g f c.device.0 (dirty_writer c r xs) ≡ dirty_wait (point w n g) r c
dirty_is w n g f c r xs opened among runs tells = dirty_at w n g f c.device.0 (reads c.job) r xs opened among runs tells
