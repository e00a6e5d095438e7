-- The effective writer that the accesses to a device tell is the run of its effective write, where that run is live.
use Rattle.lock_leasing.proofs.Prelude.{Access, Back, Bool, EachTellsOfRun, Failed, Grips, Item, List, None, Option, Ran, Reading, RunNo, Setting, Some, TellsOfRun, Write, [], ap, arith, common_steps, covers, effective_write, effective_writer, false, fold, has_effect, has_written, if◌then◌else◌, is_committed, is_live, is_ran, is_some, is_undone, is_writer, list_any, map, not, option_map, option_or, point, refl, runs_with_access, subst, sym, true, unwrap_or, uses, write_of, ℕ, ◌&&◌, ◌==◌, ◌||◌, ◌∙◌, ◌∷◌, ◌≡◌}
use Rattle.lock_leasing.proofs.AccessRuns.{EachTail, covers_write, last_from, own_write}
use Rattle.lock_leasing.proofs.Facts.{Facts, live_uncommitted, stands_or_committed, written_uses}

abbrev pub write_by : ℕ → ℕ → Write
write_by r v = record { run = r; value = v }

module _ (w : Setting) (n : Reading) (g : Grips) (f : Facts w n g) (d : ℕ) where
  -- the run of the write, where it is live
  abbrev pub live_writer : Option Write → Option ℕ
  live_writer None = None
  live_writer (Some e) = if is_live n e.run then Some e.run else None

  abbrev pub run_in : Option RunNo → Option ℕ
  run_in writer = option_map (λ q. q.0) writer

  abbrev writer_from : Option RunNo → List Access → Option RunNo
  writer_from best xs = fold (λ writer x. if is_some x.wrote then Some x.run else writer) best xs

  -- a run of the line is live or committed
  abbrev pub Stays : Item → List Item → Type 0
  Stays i is = (r : ℕ) → is_ran r i ≡ true → (is_live n r || is_committed n r) ≡ true

  stays_from : (is : List Item) → ((r : ℕ) → list_any (is_ran r) is ≡ true → (is_live n r || is_committed n r) ≡ true) → EachTail Stays is
  stays_from [] all = tt
  stays_from (i ∷ is) all = (λ r own. all r (rw own refl), stays_from is (λ r among. all r (rw among (grind (arith, common_steps)))))

  pub all_stay : EachTail Stays n.line
  all_stay = stays_from n.line (λ r among. stands_or_committed (n.run r) (sym (f.line.line r) ∙ among))

  -- a run that has no access, and is not a committed one that wrote, has no write
  pub no_write : (r : RunNo) → (is_live n r.0 || is_committed n r.0) ≡ true → covers n d (Ran r) ≡ false → uses w n d r.0 ≡ false → write_of n g d (Ran r) ≡ None
  no_write r stays other unused = at (has_written n r.0 d) refl
    where
      none_of : (o : Option ℕ) → is_some o ≡ false → (b : Bool) → (if b then None else option_map (write_by r.0) o) ≡ None
      none_of None none true = refl
      none_of None none false = refl
      none_of (Some v) none b = absurd (cc)

      at : (b : Bool) → has_written n r.0 d ≡ b → write_of n g d (Ran r) ≡ None
      at true e = absurd (cc (written_uses w n g r.0 d f (grind (arith, common_steps)) e, unused))
      at false e = none_of ((n.run r.0).on d).wrote e (is_undone n g r.0 d)

  -- a committed run that wrote: no live one's write is the effective one
  covering : (r : RunNo) (best : Option Write) → covers n d (Ran r) ≡ true → live_writer (option_or (write_of n g d (Ran r)) best) ≡ None
  covering r best is-one =
      let found = covers_write w n g f d (Ran r) is-one in
      let own : (r.0 == found.0.run) ≡ true = own_write w n g f d (Ran r) found.0 found.1 in
      let same : r.0 ≡ found.0.run = grind (arith, common_steps) in
      let dead : is_live n r.0 ≡ false = not_live (is_live n r.0) refl in
      ap (λ o. live_writer (option_or o best)) found.1 ∙ ap (λ b. if b then Some found.0.run else None) (ap (is_live n) (sym same) ∙ dead)
    where
      not_live : (b : Bool) → is_live n r.0 ≡ b → b ≡ false
      not_live true e = let uncommitted : is_committed n r.0 ≡ false = live_uncommitted n r.0 e in absurd (grind (arith, common_steps))
      not_live false e = refl

  -- an access shows the write of its run
  shown : (x : Access) (rest : List Access) (r : RunNo) (best : Option Write) (writer : Option RunNo) → TellsOfRun (point w n g) d x rest → x.run.0 ≡ r.0 → is_live n r.0 ≡ true → run_in writer ≡ live_writer best
      → run_in (if is_some x.wrote then Some x.run else writer) ≡ live_writer (option_or (write_of n g d (Ran r)) best)
  shown x rest r best writer tells same live before =
      let wrote : x.wrote ≡ (if is_undone n g r.0 d then None else ((n.run r.0).on d).wrote) = subst (λ q. x.wrote ≡ (if is_undone n g q d then None else ((n.run q).on d).wrote)) same tells.wrote in
      at (is_undone n g r.0 d) ((n.run r.0).on d).wrote wrote
    where
      at : (b : Bool) (o : Option ℕ) → x.wrote ≡ (if b then None else o) → run_in (if is_some x.wrote then Some x.run else writer) ≡ live_writer (option_or (if b then None else option_map (write_by r.0) o) best)
      at true o e = ap (λ z. run_in (if is_some z then Some x.run else writer)) e ∙ before
      at false None e = ap (λ z. run_in (if is_some z then Some x.run else writer)) e ∙ before
      at false (Some v) e = ap (λ z. run_in (if is_some z then Some x.run else writer)) e ∙ ap Some same ∙ sym (ap (λ b. if b then Some r.0 else None) live)

  -- along the line
  abbrev Follows : List Item → List Access → Option Write → Option RunNo → Type 0
  Follows is xs best writer =
      map (λ x. x.run.0) xs ≡ runs_with_access w n d is → EachTellsOfRun (point w n g) d xs
      → (list_any (covers n d) is ≡ true → writer ≡ None) → (list_any (covers n d) is ≡ false → run_in writer ≡ live_writer best)
      → run_in (writer_from writer xs) ≡ live_writer (last_from w n g f d best is)

  -- one run further
  run_follows : (r : RunNo) (is : List Item) (xs : List Access) (best : Option Write) (writer : Option RunNo) → (is_live n r.0 || is_committed n r.0) ≡ true
      → ((ys : List Access) (o : Option Write) (q : Option RunNo) → Follows is ys o q) → Follows (Ran r ∷ is) xs best writer
  run_follows r is xs best writer stays behind runs tells none before = by_cover (list_any (covers n d) is) (covers n d (Ran r)) (uses w n d r.0) refl refl refl runs none before
    where
      next : Option Write
      next = option_or (write_of n g d (Ran r)) best

      accessed : (ys : List Access) → uses w n d r.0 ≡ true → list_any (covers n d) is ≡ false → map (λ x. x.run.0) ys ≡ r.0 ∷ runs_with_access w n d is → EachTellsOfRun (point w n g) d ys → run_in writer ≡ live_writer best
          → run_in (writer_from writer ys) ≡ live_writer (last_from w n g f d next is)
      accessed [] used uncovered same all at = absurd (cc)
      accessed (x ∷ ys) used uncovered same all at =
          let own : x.run.0 ≡ r.0 = ap (λ l. head_or l 0) same in
          let rest : map (λ y. y.run.0) ys ≡ runs_with_access w n d is = ap tail_of same in
          behind ys next (if is_some x.wrote then Some x.run else writer) rest all.1 (λ covered. absurd (cc)) (λ e. shown x ys r best writer all.0 own (grind (arith, common_steps)) at)
        where
          head_or : List ℕ → ℕ → ℕ
          head_or [] k = k
          head_or (y ∷ ys) k = y

          tail_of : List ℕ → List ℕ
          tail_of [] = []
          tail_of (y ∷ ys) = ys

      by_cover : (a b c : Bool) → list_any (covers n d) is ≡ a → covers n d (Ran r) ≡ b → uses w n d r.0 ≡ c
          → map (λ x. x.run.0) xs ≡ (if c && not a then (r.0 ∷ runs_with_access w n d is) else runs_with_access w n d is)
          → ((b || a) ≡ true → writer ≡ None) → ((b || a) ≡ false → run_in writer ≡ live_writer best)
          → run_in (writer_from writer xs) ≡ live_writer (last_from w n g f d next is)
      by_cover true b true covered own used same none' before' = behind xs next writer same tells (λ e. none' (grind (arith, common_steps))) (λ e. absurd (cc))
      by_cover true b false covered own used same none' before' = behind xs next writer same tells (λ e. none' (grind (arith, common_steps))) (λ e. absurd (cc))
      by_cover false true true covered own used same none' before' = let uncommitted : is_committed n r.0 ≡ false = live_uncommitted n r.0 (grind (arith, common_steps)) in absurd (grind (arith, common_steps))
      by_cover false true false covered own used same none' before' = behind xs next writer same tells (λ e. absurd (cc)) (λ e. ap run_in (none' refl) ∙ sym (covering r best own))
      by_cover false false true covered own used same none' before' = accessed xs used covered same tells (before' refl)
      by_cover false false false covered own used same none' before' =
          behind xs next writer same tells (λ e. absurd (cc)) (λ e. before' refl ∙ sym (ap (λ o. live_writer (option_or o best)) (no_write r stays own used)))

  writers_follow : (is : List Item) (xs : List Access) (best : Option Write) (writer : Option RunNo) → EachTail Stays is → Follows is xs best writer
  writers_follow [] [] best writer stays runs tells none before = before refl
  writers_follow [] (x ∷ xs) best writer stays runs tells none before = absurd (cc)
  writers_follow (Ran r ∷ is) xs best writer stays runs tells none before = run_follows r is xs best writer (stays.0 r.0 (grind (arith, common_steps))) (λ ys o q. writers_follow is ys o q stays.1) runs tells none before
  writers_follow (Failed e k ∷ is) xs best writer stays runs tells none before = writers_follow is xs best writer stays.1 runs tells none before
  writers_follow (Back e k ∷ is) xs best writer stays runs tells none before = writers_follow is xs best writer stays.1 runs tells none before

  pub writer_is : (xs : List Access) → map (λ x. x.run.0) xs ≡ runs_with_access w n d n.line → EachTellsOfRun (point w n g) d xs → run_in (effective_writer xs) ≡ live_writer (effective_write n g d)
  writer_is xs runs tells = writers_follow n.line xs None None all_stay runs tells (λ e. refl) (λ e. refl)

  -- the run of an access is the effective writer where it has the effective write
  pub writer_has_effect : (writer : Option RunNo) (x : Access) → run_in writer ≡ live_writer (effective_write n g d) → is_live n x.run.0 ≡ true → is_writer writer x ≡ has_effect n g x.run.0 d
  writer_has_effect writer x same live = at writer (effective_write n g d) same
    where
      by_live : (q : Option RunNo) (e : Write) (b : Bool) → is_live n e.run ≡ b → run_in q ≡ (if b then Some e.run else None) → is_writer q x ≡ (e.run == x.run.0)
      by_live (Some q) e true alive same = let equal : q.0 ≡ e.run = ap (λ o. unwrap_or o 0) same in ap (λ k. k == x.run.0) equal
      by_live None e true alive same = absurd (cc)
      by_live (Some q) e false dead same = absurd (cc)
      by_live None e false dead same = other (e.run == x.run.0) refl
        where
          other : (b : Bool) → (e.run == x.run.0) ≡ b → false ≡ b
          other true equal = let one : e.run ≡ x.run.0 = grind (arith, common_steps) in absurd (cc (ap (is_live n) one, live, dead))
          other false equal = refl

      at : (q : Option RunNo) (o : Option Write) → run_in q ≡ live_writer o → is_writer q x ≡ unwrap_or (option_map (λ k. k == x.run.0) (option_map (λ e. e.run) o)) false
      at (Some q) None same = absurd (cc)
      at None None same = refl
      at q (Some e) same = by_live q e (is_live n e.run) refl same
