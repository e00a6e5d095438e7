-- The first run of the line that holds a device: the accesses tell it as the history does, to a run that has none.
use Rattle.jit_scheduler.proofs.Prelude.{Access, Back, Bool, EachTail, EachTellsOfRun, Facts, Failed, Grips, HasAccess, Item, Kept, List, None, Option, Ran, Reading, RunNo, Setting, Some, TellsOfRun, [], access_holds, accesses_before, ap, arith, command_pends, common_steps, cond, cons_option, did, doom_of, effective_write, effective_writer, false, find, first_before, grips_command, has_effect, has_work, holder_before, holds_device, if◌then◌else◌, is_doomed, is_live, is_released, is_some, is_writer, list_any, live_runs, live_writer, map, not, option_map, pends, point, refl, run_in, runs_with_access, status_by_answers, sym, touches, true, uses, workers_have_access, writer_has_effect, writer_is, ℕ, ◌&&◌, ◌==◌, ◌∙◌, ◌∷◌, ◌≡◌}
use Rattle.lock_leasing.specs.Order.{covers}
use Rattle.std.proofs.lemmas.Bool.{and_from}

abbrev head_or : List ℕ → ℕ → ℕ
head_or [] k = k
head_or (y ∷ ys) k = y

abbrev tail_of : List ℕ → List ℕ
tail_of [] = []
tail_of (y ∷ ys) = ys

-- a live run is another than one that is not live
another : (n : Reading) (q r : ℕ) → is_live n q ≡ true → is_live n r ≡ false → (q == r) ≡ false
another n q r live dead = at (q == r) refl
  where
    at : (b : Bool) → (q == r) ≡ b → b ≡ false
    at true e = let same : q ≡ r = grind (arith, common_steps) in absurd (cc (ap (is_live n) same, live, dead))
    at false e = refl

module _ (w : Setting) (n : Reading) (g : Grips) (f : Facts w n g) (d : ℕ) where
  abbrev holds : ℕ → Bool
  holds q = holds_device (point w n g) q d

  -- a live run that holds the device has work there
  holds_works : (q : ℕ) → (is_live n q && holds q) ≡ true → has_work w n g f d q ≡ true
  holds_works q held = at (is_doomed n q) refl
    where
      at : (b : Bool) → is_doomed n q ≡ b → has_work w n g f d q ≡ true
      at true e = grind (arith, common_steps)
      at false e = grind (arith, common_steps)

  -- An access tells whether its run holds the device

  abbrev TellsHolding : (Access → Bool) → Type 0
  TellsHolding test = (x : Access) (rest : List Access) → TellsOfRun (point w n g) d x rest → uses w n d x.run.0 ≡ true → test x ≡ holds x.run.0

  tells_holding : (history : List Kept) (writer : Option RunNo) → ((r : ℕ) → is_some (doom_of history r) ≡ is_doomed n r) → run_in w n g f d writer ≡ live_writer w n g f d (effective_write n g d) → TellsHolding (access_holds history writer)
  tells_holding history writer dooms same x rest tells used = at (is_doomed n x.run.0) refl
    where
      r : ℕ
      r = x.run.0

      by_status : (a b c : Bool) → did n r d ≡ a → pends w n r d ≡ b → grips_command g r d ≡ c → is_doomed n r ≡ false → not (is_released (status_by_answers (point w n g) r d)) ≡ pends w n r d
      by_status true true c e1 e2 e3 sound = rw (e1, sound, e2) refl
      by_status true false true e1 e2 e3 sound = absurd (cc (command_pends w n g r d f e3, e2))
      by_status true false false e1 e2 e3 sound = rw (e1, sound, e2, e3) refl
      by_status false true c e1 e2 e3 sound = rw (e1, e2) refl
      by_status false false c e1 e2 e3 sound = absurd (grind (arith, common_steps))

      at : (b : Bool) → is_doomed n r ≡ b → access_holds history writer x ≡ holds r
      at true e =
          let effect : is_writer writer x ≡ has_effect n g r d = writer_has_effect w n g f d writer x same (grind (arith, common_steps)) in
          let doomed : is_some (doom_of history r) ≡ true = dooms r ∙ e in
          ap (λ b. if b then is_writer writer x else not (is_released x.status)) doomed ∙ effect ∙ whole (grind (arith, common_steps)) (grind (arith, common_steps))
        where
          whole : is_live n r ≡ true → touches w.runs r d ≡ true → has_effect n g r d ≡ holds r
          whole live on = rw (live, e, on) refl
      at false e =
          let sound : is_some (doom_of history r) ≡ false = dooms r ∙ e in
          let status : x.status ≡ status_by_answers (point w n g) r d = tells.status (rw e refl) in
          ap (λ b. if b then is_writer writer x else not (is_released x.status)) sound
          ∙ ap (λ s. not (is_released s)) status
          ∙ by_status (did n r d) (pends w n r d) (grips_command g r d) refl refl refl e
          ∙ whole (grind (arith, common_steps))
        where
          whole : is_live n r ≡ true → pends w n r d ≡ holds r
          whole live = rw (live, e) refl

  -- Along the line, beside the accesses

  abbrev Shows : List Item → List Access → Type 0
  Shows is xs = (map (λ x. x.run.0) xs ≡ runs_with_access w n d is) × EachTellsOfRun (point w n g) d xs

  abbrev FindsHolder : (Access → Bool) → ℕ → List Item → List Access → Type 0
  FindsHolder test r is xs = run_in w n g f d (first_before test r xs) ≡ find holds (live_runs n is)

  run_further : (test : Access → Bool) (r : ℕ) → TellsHolding test → is_live n r ≡ false → (q : RunNo) (is : List Item) (xs : List Access) → HasAccess w n g f d (Ran q) is → Shows (Ran q ∷ is) xs
      → ((ys : List Access) → Shows is ys → FindsHolder test r is ys) → FindsHolder test r (Ran q ∷ is) xs
  run_further test r tells dead q is xs has shows behind = at (uses w n d q.0 && not (list_any (covers n d) is)) refl xs shows.0 shows.1
    where
      with_access : (ys : List Access) → uses w n d q.0 ≡ true → is_live n q.0 ≡ true → map (λ x. x.run.0) ys ≡ q.0 ∷ runs_with_access w n d is → EachTellsOfRun (point w n g) d ys
          → run_in w n g f d (first_before test r ys) ≡ cond (holds q.0) (Some q.0) (find holds (live_runs n is))
      with_access [] used live same all = absurd (cc)
      with_access (x ∷ ys) used live same all =
          let own : x.run.0 ≡ q.0 = ap (λ l. head_or l 0) same in
          let rest : map (λ y. y.run.0) ys ≡ runs_with_access w n d is = ap tail_of same in
          let not_mine : (x.run.0 == r) ≡ false = ap (λ k. k == r) own ∙ another n q.0 r live dead in
          let told : test x ≡ holds q.0 = tells x ys all.0 (ap (λ k. uses w n d k) own ∙ used) ∙ ap holds own in
          ap (λ b. run_in w n g f d (option_map (λ y. y.run) (find test (if b then [] else x ∷ accesses_before r ys)))) not_mine
          ∙ ap (λ b. run_in w n g f d (option_map (λ y. y.run) (cond b (Some x) (find test (accesses_before r ys))))) told
          ∙ either (holds q.0) own (behind ys (rest, all.1))
        where
          either : (b : Bool) → x.run.0 ≡ q.0 → FindsHolder test r is ys → run_in w n g f d (option_map (λ y. y.run) (cond b (Some x) (find test (accesses_before r ys)))) ≡ cond b (Some q.0) (find holds (live_runs n is))
          either true own after = ap Some own
          either false own after = after

      by_live : (b : Bool) → is_live n q.0 ≡ b → (b ≡ true → holds q.0 ≡ false) → find holds (live_runs n is) ≡ find holds (cons_option (if b then Some q.0 else None) (live_runs n is))
      by_live true live none = sym (ap (λ h. cond h (Some q.0) (find holds (live_runs n is))) (none refl))
      by_live false dead none = refl

      at : (b : Bool) → (uses w n d q.0 && not (list_any (covers n d) is)) ≡ b → (ys : List Access) → map (λ x. x.run.0) ys ≡ (if b then (q.0 ∷ runs_with_access w n d is) else runs_with_access w n d is) → EachTellsOfRun (point w n g) d ys
          → FindsHolder test r (Ran q ∷ is) ys
      at true access ys same all =
          let live : is_live n q.0 ≡ true = grind (arith, common_steps) in
          with_access ys (grind (arith, common_steps)) live same all ∙ sym (ap (λ b. find holds (cons_option (if b then Some q.0 else None) (live_runs n is))) live)
      at false none ys same all = behind ys (same, all) ∙ by_live (is_live n q.0) refl (λ live. unheld (holds q.0) refl live)
        where
          unheld : (b : Bool) → holds q.0 ≡ b → is_live n q.0 ≡ true → b ≡ false
          unheld true yes' live = let some : (uses w n d q.0 && not (list_any (covers n d) is)) ≡ true = has (holds_works q.0 (and_from (is_live n q.0) (holds q.0) live yes')) in absurd (cc (some, none))
          unheld false no' live = refl

  walk_further : (test : Access → Bool) (r : ℕ) → TellsHolding test → is_live n r ≡ false → (is : List Item) (xs : List Access) → EachTail (HasAccess w n g f d) is → Shows is xs → FindsHolder test r is xs
  walk_further test r tells dead [] [] has shows = refl
  walk_further test r tells dead [] (x ∷ xs) has shows = absurd (cc (shows.0))
  walk_further test r tells dead (Ran q ∷ is) xs has shows = run_further test r tells dead q is xs has.0 shows (λ ys. walk_further test r tells dead is ys has.1)
  walk_further test r tells dead (Failed e k ∷ is) xs has shows = walk_further test r tells dead is xs has.1 shows
  walk_further test r tells dead (Back e k ∷ is) xs has shows = walk_further test r tells dead is xs has.1 shows

  -- the first holder of all, told to a run that is not live
  pub first_holder_is : (history : List Kept) (r : ℕ) (xs : List Access) → ((q : ℕ) → is_some (doom_of history q) ≡ is_doomed n q) → is_live n r ≡ false
      → map (λ x. x.run.0) xs ≡ runs_with_access w n d n.line → EachTellsOfRun (point w n g) d xs → run_in w n g f d (holder_before history r xs) ≡ find (λ q. holds_device (point w n g) q d) (live_runs n n.line)
  first_holder_is history r xs dooms dead runs tells =
      walk_further (access_holds history (effective_writer xs)) r (tells_holding history (effective_writer xs) dooms (writer_is w n g f d xs runs tells)) dead n.line xs (workers_have_access w n g f d) (runs, tells)
