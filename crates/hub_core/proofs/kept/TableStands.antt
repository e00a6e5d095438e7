-- The value that stands on a device by the lineage table is the standing value of the definition.
use Rattle.hub_core.proofs.Prelude.{Back, Bool, EachTail, Facts, Failed, Grips, Item, LineageIsKept, LineageState, List, None, Option, Ran, Reading, RunNo, Setting, Some, Write, [], access_read, accesses_along, all_stay, and_parts, ap, both_ways, commits_write, committed_stays, committed_write, effective_write, eq-eqb, false, fold, if◌then◌else◌, is_committed, is_live, is_some, is_undone, is_weak, list_any, live_uncommitted, no_write, not, of_run, option_map, option_or, or_from, or_left, or_parts, or_right, point, refl, run_no, stand_at, standing_value, sym, three, true, unwrap_or, uses, value_standing, write_of, ℕ, ◌&&◌, ◌||◌, ◌∙◌, ◌∷◌, ◌≡◌}
use Rattle.lineage_table.specs.declared.accesses.Access.{Access}
use Rattle.lock_leasing.proofs.Cited.{Stays}

module _ (w : Setting) (n : Reading) (g : Grips) (f : Facts w n g) (d : ℕ) (passed : ℕ → Bool) where
  -- the value of a write, else the first one
  abbrev value_in : Option Write → ℕ
  value_in best = unwrap_or (option_map (λ e. e.value) best) (stand_at w.first d).value

  abbrev committed_from : Option ℕ → List Item → Option ℕ
  committed_from best is = fold (λ o x. option_or (committed_write n d x) o) best is

  abbrev accesses_of : List Item → List Access
  accesses_of is = accesses_along (uses w n d) (commits_write n d) (access_read (point w n g) passed d) is

  -- a run that is not a committed one which wrote
  unwritten : (q : ℕ) → commits_write n d q ≡ false → committed_write n d (Ran (run_no q)) ≡ None
  unwritten q none = of (is_committed n q) ((n.run q).on d).wrote none
    where
      of : (b : Bool) (o : Option ℕ) → (b && is_some o) ≡ false → (if b then o else None) ≡ None
      of true None e = refl
      of true (Some v) e = absurd (cc)
      of false o e = refl

  none_committed : (is : List Item) (best : Option ℕ) → list_any (of_run (commits_write n d)) is ≡ false → committed_from best is ≡ best
  none_committed [] best none = refl
  none_committed (Failed e k ∷ is) best none = none_committed is best none
  none_committed (Back e k ∷ is) best none = none_committed is best none
  none_committed (Ran q ∷ is) best none =
      let parts = or_parts (commits_write n d q.0) (list_any (of_run (commits_write n d)) is) none in
      ap (λ o. committed_from (option_or o best) is) (unwritten q.0 parts.0) ∙ none_committed is best parts.1

  -- a committed run that wrote: its write is the effective one, and the committed one
  covering : (q : ℕ) → commits_write n d q ≡ true → (best : Option Write) (known : Option ℕ) → unwrap_or (option_or (committed_write n d (Ran (run_no q))) known) (stand_at w.first d).value ≡ value_in (option_or (write_of n g d (Ran (run_no q))) best)
  covering q covered best known = of (is_committed n q) (is_undone n g q d) ((n.run q).on d).wrote covered (λ committed. committed_stays w n g q d f committed)
    where
      of : (b u : Bool) (o : Option ℕ) → (b && is_some o) ≡ true → (b ≡ true → u ≡ false) → unwrap_or (option_or (if b then o else None) known) (stand_at w.first d).value ≡ value_in (option_or (if u then None else option_map (λ v. record { run = q; value = v }) o) best)
      of true true o e stays = absurd (cc (stays refl))
      of true false (Some v) e stays = refl
      of true false None e stays = absurd (cc)
      of false u o e stays = absurd (cc)

  -- the value of an access stands
  shown : (q : ℕ) (best : Option Write) (value : ℕ) → value ≡ value_in best → unwrap_or (if is_undone n g q d then None else ((n.run q).on d).wrote) value ≡ value_in (option_or (write_of n g d (Ran (run_no q))) best)
  shown q best value before = at (is_undone n g q d) ((n.run q).on d).wrote
    where
      at : (b : Bool) (o : Option ℕ) → unwrap_or (if b then None else o) value ≡ value_in (option_or (if b then None else option_map (λ v. record { run = q; value = v }) o) best)
      at true o = before
      at false None = before
      at false (Some v) = refl

  -- along the line: the values of the accesses follow the writes of its items
  abbrev Follows : ℕ → List Item → Option Write → Option ℕ → ℕ → Type 0
  Follows c is best known value =
      unwrap_or (committed_from known is) (stand_at w.first d).value ≡ c → (list_any (of_run (commits_write n d)) is ≡ true → value ≡ c) → (list_any (of_run (commits_write n d)) is ≡ false → value ≡ value_in best)
      → value_standing value (accesses_of is) ≡ value_in (fold (λ o x. option_or (write_of n g d x) o) best is)

  run_follows : (c : ℕ) (q : RunNo) (is : List Item) (best : Option Write) (known : Option ℕ) (value : ℕ) → (is_live n q.0 || is_committed n q.0) ≡ true → ((o : Option Write) (k : Option ℕ) (v : ℕ) → Follows c is o k v) → Follows c (Ran q ∷ is) best known value
  run_follows c q is best known value stays behind committed own none = by_tests (list_any (of_run (commits_write n d)) is) refl (commits_write n d q.0) refl (uses w n d q.0) refl
    where
      next : Option Write
      next = option_or (write_of n g d (Ran q)) best

      later : Option ℕ
      later = option_or (committed_write n d (Ran q)) known

      -- behind it a committed run has written
      covered : list_any (of_run (commits_write n d)) is ≡ true → value_standing value (accesses_of is) ≡ value_in (fold (λ o x. option_or (write_of n g d x) o) next is)
      covered ea = behind next later value committed (λ e. own (or_right (commits_write n d q.0) (list_any (of_run (commits_write n d)) is) ea)) (λ e. absurd (both_ways (list_any (of_run (commits_write n d)) is) e ea))

      by_tests : (a : Bool) → list_any (of_run (commits_write n d)) is ≡ a → (b : Bool) → commits_write n d q.0 ≡ b → (u : Bool) → uses w n d q.0 ≡ u
          → value_standing value (if u && not a then (access_read (point w n g) passed d q.0 ∷ accesses_of is) else accesses_of is) ≡ value_in (fold (λ o x. option_or (write_of n g d x) o) next is)
      by_tests true ea b eb true eu = covered ea
      by_tests true ea b eb false eu = covered ea
      by_tests false ea true eb true eu = absurd (both_ways (is_committed n q.0) (live_uncommitted n q.0 (three (is_live n q.0) _ _ eu).0) (and_parts (is_committed n q.0) (is_some ((n.run q.0).on d).wrote) eb).0)
      by_tests false ea true eb false eu = behind next later value committed (λ e. absurd (both_ways (list_any (of_run (commits_write n d)) is) ea e))
          (λ e. own (or_left (commits_write n d q.0) (list_any (of_run (commits_write n d)) is) eb) ∙ sym committed ∙ ap (λ o. unwrap_or o (stand_at w.first d).value) (none_committed is later ea) ∙ covering q.0 eb best known)
      by_tests false ea false eb true eu = behind next later (unwrap_or (access_read (point w n g) passed d q.0).wrote value) committed (λ e. absurd (both_ways (list_any (of_run (commits_write n d)) is) ea e))
          (λ e. shown q.0 best value (none (or_from (commits_write n d q.0) (list_any (of_run (commits_write n d)) is) eb ea)))
      by_tests false ea false eb false eu = behind next later value committed (λ e. absurd (both_ways (list_any (of_run (commits_write n d)) is) ea e))
          (λ e. none (or_from (commits_write n d q.0) (list_any (of_run (commits_write n d)) is) eb ea) ∙ sym (ap (λ o. value_in (option_or o best)) (no_write w n g f d q stays eb eu)))

  along : (c : ℕ) (is : List Item) (best : Option Write) (known : Option ℕ) (value : ℕ) → EachTail (Stays w n g f d) is → Follows c is best known value
  along c [] best known value stays committed own none = none refl
  along c (Failed e k ∷ is) best known value stays committed own none = along c is best known value stays.1 committed own none
  along c (Back e k ∷ is) best known value stays committed own none = along c is best known value stays.1 committed own none
  along c (Ran q ∷ is) best known value stays committed own none = run_follows c q is best known value (stays.0 q.0 (eq-eqb q.0 _ refl)) (λ o k v. along c is o k v stays.1) committed own none

-- the table tells the standing value
pub stand_told : (w : Setting) (n : Reading) (g : Grips) (d : ℕ) (s : LineageState) → Facts w n g → is_weak w.mode ≡ false → LineageIsKept (point w n g) d s → value_standing s.committed s.accesses ≡ standing_value (point w n g) d
stand_told w n g d s f strong own =
    ap (value_standing s.committed) own.accesses
    ∙ along w n g f d own.passed s.committed n.line None None s.committed (all_stay w n g f d) (sym own.committed) (λ e. refl) (λ e. own.committed ∙ ap (λ o. unwrap_or o (stand_at w.first d).value) (none_committed w n g f d own.passed n.line None e))
    ∙ sym (ap (λ b. if b then n.last d else unwrap_or (option_map (λ e. e.value) (effective_write n g d)) (stand_at w.first d).value) strong)
