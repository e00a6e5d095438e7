-- What the accesses to a device tell of an undo: whether the run has the effective write there, and the value that would stand if it had not written.
use Rattle.lock_leasing.proofs.Prelude.{Access, Back, Bool, EachTellsOfRun, Failed, Grips, Item, List, None, Option, Ran, Reading, RunNo, Setting, Some, TellsOfRun, Write, [], accesses_without, ap, arith, committed_value, committed_write, common_steps, cond, covers, device_numbers, effective_write, effective_writer, false, filter, find, fold, has_effect, if◌then◌else◌, is_committed, is_device, is_live, is_some, is_undone, length, list_any, map, nat_lt, next_undo_of, not, option_map, option_or, or_right, point, range_with_len, refl, run_no, runs_with_access, subst, suc, sym, touches, true, unwrap_or, uses, value_standing, value_without, write_of, zero, ℕ, ◌&&◌, ◌+◌, ◌==◌, ◌||◌, ◌∙◌, ◌∷◌, ◌≡◌, ◌≤◌}
use Rattle.history_book.specs.Lines.{without as line_without}
use Rattle.home_types.specs.HomeStates.{stand_at}
use Rattle.lock_leasing.proofs.AccessRuns.{EachTail, last_from}
use Rattle.lock_leasing.proofs.Effects.{effect_is}
use Rattle.lock_leasing.proofs.Facts.{Facts, committed_stays, live_uncommitted, written_touches}
use Rattle.lock_leasing.proofs.Writers.{Stays, all_stay, live_writer, no_write, writer_is, write_by}

-- the run is the effective writer
abbrev pub has_last_write : ℕ → List Access → Bool
has_last_write r xs = unwrap_or (option_map (λ (q : RunNo). q.0 == r) (effective_writer xs)) false

module _ (w : Setting) (n : Reading) (g : Grips) (f : Facts w n g) (d r : ℕ) (live : is_live n r ≡ true) where
  -- the effective writer that the accesses tell is the run exactly where it has the effective write
  pub writes_last : (xs : List Access) → map (λ x. x.run.0) xs ≡ runs_with_access w n d n.line → EachTellsOfRun (point w n g) d xs → has_last_write r xs ≡ has_effect n g r d
  writes_last xs runs tells = at (effective_writer xs) (effective_write n g d) (writer_is w n g f d xs runs tells)
    where
      other : (q : ℕ) → is_live n q ≡ false → (b : Bool) → (q == r) ≡ b → false ≡ b
      other q dead true equal = let one : q ≡ r = grind (arith, common_steps) in absurd (cc (ap (is_live n) one, live, dead))
      other q dead false equal = refl

      by_live : (q : Option RunNo) (e : Write) (b : Bool) → is_live n e.run ≡ b → option_map (λ (x : RunNo). x.0) q ≡ (if b then Some e.run else None) → unwrap_or (option_map (λ (x : RunNo). x.0 == r) q) false ≡ (e.run == r)
      by_live (Some q) e true alive same = let equal : q.0 ≡ e.run = ap (λ o. unwrap_or o 0) same in ap (λ k. k == r) equal
      by_live None e true alive same = absurd (cc)
      by_live (Some q) e false dead same = absurd (cc)
      by_live None e false dead same = other e.run dead (e.run == r) refl

      at : (q : Option RunNo) (o : Option Write) → option_map (λ (x : RunNo). x.0) q ≡ live_writer w n g f d o → unwrap_or (option_map (λ (x : RunNo). x.0 == r) q) false ≡ unwrap_or (option_map (λ k. k == r) (option_map (λ e. e.run) o)) false
      at (Some q) None same = absurd (cc)
      at None None same = refl
      at q (Some e) same = by_live q e (is_live n e.run) refl same

  -- The value that would stand

  -- that of the write, else the first one
  abbrev value_in : Option Write → ℕ
  value_in best = unwrap_or (option_map (λ e. e.value) best) (stand_at w.first d).value

  abbrev committed_from : Option ℕ → List Item → Option ℕ
  committed_from best is = fold (λ o x. option_or (committed_write n d x) o) best is

  -- an item that is no committed run which wrote
  unwritten : (i : Item) → covers n d i ≡ false → committed_write n d i ≡ None
  unwritten (Failed e k) none = refl
  unwritten (Back e k) none = refl
  unwritten (Ran q) none = of (is_committed n q.0) ((n.run q.0).on d).wrote none
    where
      of : (b : Bool) (o : Option ℕ) → (b && is_some o) ≡ false → (if b then o else None) ≡ None
      of true None e = refl
      of true (Some v) e = absurd (cc)
      of false o e = refl

  none_committed : (is : List Item) (best : Option ℕ) → list_any (covers n d) is ≡ false → committed_from best is ≡ best
  none_committed [] best none = refl
  none_committed (i ∷ is) best none = ap (λ o. committed_from (option_or o best) is) (unwritten i (grind (arith, common_steps))) ∙ none_committed is best (grind (arith, common_steps))

  -- a committed run that wrote: its write is the effective one, and the committed one
  covering : (q : ℕ) → covers n d (Ran (run_no q)) ≡ true → (best : Option Write) (known : Option ℕ) → unwrap_or (option_or (committed_write n d (Ran (run_no q))) known) (stand_at w.first d).value ≡ value_in (option_or (write_of n g d (Ran (run_no q))) best)
  covering q covered best known = of (is_committed n q) (is_undone n g q d) ((n.run q).on d).wrote covered (λ committed. committed_stays w n g q d f committed)
    where
      of : (b u : Bool) (o : Option ℕ) → (b && is_some o) ≡ true → (b ≡ true → u ≡ false) → unwrap_or (option_or (if b then o else None) known) (stand_at w.first d).value ≡ value_in (option_or (if u then None else option_map (write_by q) o) best)
      of true true o e stays = absurd (cc (stays refl))
      of true false (Some v) e stays = refl
      of true false None e stays = absurd (cc)
      of false u o e stays = absurd (cc)

  -- along the line: the values of the accesses follow the writes of its items
  abbrev Follows : ℕ → List Item → List Access → Option Write → Option ℕ → ℕ → Type 0
  Follows c is xs best known value =
      map (λ x. x.run.0) xs ≡ runs_with_access w n d is → EachTellsOfRun (point w n g) d xs → unwrap_or (committed_from known is) (stand_at w.first d).value ≡ c
      → (list_any (covers n d) is ≡ true → value ≡ c) → (list_any (covers n d) is ≡ false → value ≡ value_in best)
      → value_standing value (accesses_without r xs) ≡ value_in (last_from w n g f d best (line_without r is))

  -- the access of a run is passed, or its value stands
  shown : (x : Access) (rest : List Access) (q : ℕ) (best : Option Write) (value : ℕ) → TellsOfRun (point w n g) d x rest → x.run.0 ≡ q → value ≡ value_in best → unwrap_or x.wrote value ≡ value_in (option_or (write_of n g d (Ran (run_no q))) best)
  shown x rest q best value tells same before =
      at (is_undone n g q d) ((n.run q).on d).wrote (subst (λ k. x.wrote ≡ (if is_undone n g k d then None else ((n.run k).on d).wrote)) same tells.wrote)
    where
      at : (b : Bool) (o : Option ℕ) → x.wrote ≡ (if b then None else o) → unwrap_or x.wrote value ≡ value_in (option_or (if b then None else option_map (write_by q) o) best)
      at true o e = ap (λ z. unwrap_or z value) e ∙ before
      at false None e = ap (λ z. unwrap_or z value) e ∙ before
      at false (Some v) e = ap (λ z. unwrap_or z value) e

  -- one run further
  run_follows : (c : ℕ) (q : RunNo) (is : List Item) (xs : List Access) (best : Option Write) (known : Option ℕ) (value : ℕ) → (is_live n q.0 || is_committed n q.0) ≡ true
      → ((ys : List Access) (o : Option Write) (k : Option ℕ) (v : ℕ) → Follows c is ys o k v) → Follows c (Ran q ∷ is) xs best known value
  run_follows c q is xs best known value stays behind runs tells committed own none =
      by_own (q.0 == r) refl
    where
      next : Option Write
      next = option_or (write_of n g d (Ran q)) best

      later : Option ℕ
      later = option_or (committed_write n d (Ran q)) known

      head_or : List ℕ → ℕ → ℕ
      head_or [] k = k
      head_or (y ∷ ys) k = y

      tail_of : List ℕ → List ℕ
      tail_of [] = []
      tail_of (y ∷ ys) = ys

      -- its access is passed over ..
      passed : (ys : List Access) → (q.0 == r) ≡ true → list_any (covers n d) is ≡ false → map (λ x. x.run.0) ys ≡ q.0 ∷ runs_with_access w n d is → EachTellsOfRun (point w n g) d ys → value ≡ value_in best
          → value_standing value (accesses_without r ys) ≡ value_in (last_from w n g f d best (line_without r is))
      passed [] mine uncovered same all before = absurd (cc)
      passed (x ∷ ys) mine uncovered same all before =
          let first : x.run.0 ≡ q.0 = ap (λ l. head_or l 0) same in
          ap (λ b. value_standing value (if not b then (x ∷ accesses_without r ys) else accesses_without r ys)) (ap (λ k. k == r) first ∙ mine)
          ∙ behind ys best later value (ap tail_of same) all.1 committed (λ covered. absurd (cc)) (λ e. before)

      -- .. or stands
      accessed : (ys : List Access) → (q.0 == r) ≡ false → list_any (covers n d) is ≡ false → map (λ x. x.run.0) ys ≡ q.0 ∷ runs_with_access w n d is → EachTellsOfRun (point w n g) d ys → value ≡ value_in best
          → value_standing value (accesses_without r ys) ≡ value_in (last_from w n g f d next (line_without r is))
      accessed [] other uncovered same all before = absurd (cc)
      accessed (x ∷ ys) other uncovered same all before =
          let first : x.run.0 ≡ q.0 = ap (λ l. head_or l 0) same in
          ap (λ b. value_standing value (if not b then (x ∷ accesses_without r ys) else accesses_without r ys)) (ap (λ k. k == r) first ∙ other)
          ∙ behind ys next later (unwrap_or x.wrote value) (ap tail_of same) all.1 committed (λ covered. absurd (cc)) (λ e. shown x ys q.0 best value all.0 first before)

      -- it is the run itself, which is live
      not_covering : (q.0 == r) ≡ true → (b : Bool) → covers n d (Ran q) ≡ b → b ≡ false
      not_covering same true e =
          let one : q.0 ≡ r = grind (arith, common_steps) in
          let uncommitted : is_committed n q.0 ≡ false = live_uncommitted n q.0 (ap (is_live n) one ∙ live) in
          absurd (grind (arith, common_steps))
      not_covering same false e = refl

      mine : (q.0 == r) ≡ true → (a u : Bool) → list_any (covers n d) is ≡ a → uses w n d q.0 ≡ u → map (λ x. x.run.0) xs ≡ (if u && not a then (q.0 ∷ runs_with_access w n d is) else runs_with_access w n d is)
          → ((covers n d (Ran q) || a) ≡ true → value ≡ c) → ((covers n d (Ran q) || a) ≡ false → value ≡ value_in best)
          → value_standing value (accesses_without r xs) ≡ value_in (last_from w n g f d best (line_without r is))
      mine same true true covered used runs' own' none' = behind xs best later value runs' tells committed (λ e. own' (or_right (covers n d (Ran q)) true refl)) (λ e. absurd (cc))
      mine same true false covered used runs' own' none' = behind xs best later value runs' tells committed (λ e. own' (or_right (covers n d (Ran q)) true refl)) (λ e. absurd (cc))
      mine same false true covered used runs' own' none' = passed xs same covered runs' tells (none' (rw (not_covering same (covers n d (Ran q)) refl) refl))
      mine same false false covered used runs' own' none' = behind xs best later value runs' tells committed (λ e. absurd (cc)) (λ e. none' (rw (not_covering same (covers n d (Ran q)) refl) refl))

      another : (q.0 == r) ≡ false → (a b u : Bool) → list_any (covers n d) is ≡ a → covers n d (Ran q) ≡ b → uses w n d q.0 ≡ u → map (λ x. x.run.0) xs ≡ (if u && not a then (q.0 ∷ runs_with_access w n d is) else runs_with_access w n d is)
          → ((b || a) ≡ true → value ≡ c) → ((b || a) ≡ false → value ≡ value_in best)
          → value_standing value (accesses_without r xs) ≡ value_in (last_from w n g f d next (line_without r is))
      another other true b true covered own-cover used runs' own' none' = behind xs next later value runs' tells committed (λ e. own' (or_right b true refl)) (λ e. absurd (cc))
      another other true b false covered own-cover used runs' own' none' = behind xs next later value runs' tells committed (λ e. own' (or_right b true refl)) (λ e. absurd (cc))
      another other false true true covered own-cover used runs' own' none' = let uncommitted : is_committed n q.0 ≡ false = live_uncommitted n q.0 (grind (arith, common_steps)) in absurd (grind (arith, common_steps))
      another other false true false covered own-cover used runs' own' none' =
          behind xs next later value runs' tells committed (λ e. absurd (cc)) (λ e. own' refl ∙ sym committed ∙ ap (λ o. unwrap_or o (stand_at w.first d).value) (none_committed is later covered) ∙ covering q.0 own-cover best known)
      another other false false true covered own-cover used runs' own' none' = accessed xs other covered runs' tells (none' refl)
      another other false false false covered own-cover used runs' own' none' =
          behind xs next later value runs' tells committed (λ e. absurd (cc)) (λ e. none' refl ∙ sym (ap (λ o. value_in (option_or o best)) (no_write w n g f d q stays own-cover used)))

      by_own : (b : Bool) → (q.0 == r) ≡ b → value_standing value (accesses_without r xs) ≡ value_in (last_from w n g f d best (cond (not b) (Ran q ∷ line_without r is) (line_without r is)))
      by_own true same = mine same (list_any (covers n d) is) (uses w n d q.0) refl refl runs own none
      by_own false other = another other (list_any (covers n d) is) (covers n d (Ran q)) (uses w n d q.0) refl refl refl runs own none

  along : (c : ℕ) (is : List Item) (xs : List Access) (best : Option Write) (known : Option ℕ) (value : ℕ) → EachTail (Stays w n g f d) is → Follows c is xs best known value
  along c [] [] best known value stays runs tells committed own none = none refl
  along c [] (x ∷ xs) best known value stays runs tells committed own none = absurd (cc)
  along c (Ran q ∷ is) xs best known value stays runs tells committed own none = run_follows c q is xs best known value (stays.0 q.0 (grind (arith, common_steps))) (λ ys o k v. along c is ys o k v stays.1) runs tells committed own none
  along c (Failed e k ∷ is) xs best known value stays runs tells committed own none = along c is xs best known value stays.1 runs tells committed own none
  along c (Back e k ∷ is) xs best known value stays runs tells committed own none = along c is xs best known value stays.1 runs tells committed own none

  -- the value that the accesses of the other runs tell is the one that would stand
  pub stands_without : (c : ℕ) (xs : List Access) → c ≡ committed_value w n d → map (λ x. x.run.0) xs ≡ runs_with_access w n d n.line → EachTellsOfRun (point w n g) d xs → value_standing c (accesses_without r xs) ≡ value_without (point w n g) r d
  stands_without c xs is runs tells =
      along c n.line xs None None c (all_stay w n g f d) runs tells (sym is) (λ e. refl)
      (λ e. is ∙ ap (λ o. unwrap_or o (stand_at w.first d).value) (none_committed n.line None e))

-- the first number of which the test holds, where it holds only of those of a part
same_found : (p q t : ℕ → Bool) (a k m : ℕ) → a + k ≤ m → ((d : ℕ) → nat_lt d m ≡ true → p d ≡ q d) → ((d : ℕ) → q d ≡ true → t d ≡ true) → find p (range_with_len a k) ≡ find q (filter t (range_with_len a k))
same_found p q t a zero m below same part = refl
same_found p q t a (suc k) m below same part =
    ap (λ b. cond b (Some a) (find p (range_with_len (a + 1) k))) (same a (grind (arith, common_steps)))
    ∙ ap (λ o. cond (q a) (Some a) o) (same_found p q t (a + 1) k m (omega (arith, below)) same part)
    ∙ at (q a) (t a) refl (part a)
  where
    at : (b e : Bool) → q a ≡ b → (b ≡ true → e ≡ true) → cond b (Some a) (find q (filter t (range_with_len (a + 1) k))) ≡ find q (cond e (a ∷ filter t (range_with_len (a + 1) k)) (filter t (range_with_len (a + 1) k)))
    at true true is if-part = sym (ap (λ b. cond b (Some a) (find q (filter t (range_with_len (a + 1) k)))) is)
    at true false is if-part = absurd (cc (if-part refl))
    at false true is if-part = sym (ap (λ b. cond b (Some a) (find q (filter t (range_with_len (a + 1) k)))) is)
    at false false is if-part = refl

-- the first device on which such a test finds the run is the next one on which it is undone
pub next_device : (w : Setting) (n : Reading) (g : Grips) (r : ℕ) (p : ℕ → Bool) → Facts w n g → ((d : ℕ) → is_device w d ≡ true → p d ≡ has_effect n g r d) → find p (device_numbers w) ≡ next_undo_of (point w n g) r
next_device w n g r p f same =
    same_found p (has_effect n g r) (touches w.runs r) 0 (length w.first) (length w.first) (omega arith) same
    (λ d effect. written_touches w n g r d f (effect_is n g r d effect).0)
