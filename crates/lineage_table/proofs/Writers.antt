-- The effective writer, as the accesses of a lineage change.
use Rattle.lineage_table.proofs.Prelude.{Access, AllPairs, AreOfTwoRuns, Bool, IsDisciplined, IsTrue, LineageState, List, None, Option, RunNo, Some, [], accesses_behind, ap, arith, both_ways, common_steps, drop, effective_writer, false, get_or, has_access, if◌then◌else◌, insert, is_of, is_some, not, option_and_then, place_before, position, put_access_before, put_before_run, refl, remove, run_no, slice_set, subst, sym, true, value_standing, with_change, written_by, ℕ, ◌++◌, ◌+◌, ◌==◌, ◌∙◌, ◌∷◌, ◌≡◌}
use Rattle.lineage_table.proofs.Keeping.{access_there, behind_drop, changed_items, none_behind, put_place, read_there, rest, without_remove}
use Rattle.lineage_table.proofs.Pairs.{pairs_from_all}
use Rattle.lineage_table.proofs.Splits.{Cut, any_access, behind_at, change_at, cut_at}
use Rattle.lineage_table.proofs.Standing.{change_folds, committed_stands, effective_stands, has_written, is_writer, without_writer, writer_earlier, writer_from, writer_later}
use Rattle.lineage_table.proofs.Steps.{written_at}
use Rattle.lineage_table.proofs.Undoing.{undone_writer}
use Rattle.lineage_table.specs.KeptWriters.{IsSoundLineage}
use Rattle.std.proofs.lemmas.List.Sums.{fold-append}
use Rattle.std.specs.Option.{option_eq}

-- a change that keeps the run and the written value keeps it
pub change_writer : (r : ℕ) (f : Access → Access) → ((x : Access) → (f x).wrote ≡ x.wrote) → ((x : Access) → (f x).run ≡ x.run) → (xs : List Access) → effective_writer (with_change r f xs) ≡ effective_writer xs
change_writer r f wrote run xs = change_folds (λ w x. if is_some x.wrote then Some x.run else w) r f (λ w x k. if is_some (wrote x k) then Some (run x k) else w) None xs

-- an access that has written nothing is put in
pub put_writer : (before : Option RunNo) (y : Access) (xs : List Access) → y.wrote ≡ None → effective_writer (put_access_before before y xs) ≡ effective_writer xs
put_writer None y xs e = fold-append (λ w x. if is_some x.wrote then Some x.run else w) None xs (y ∷ []) ∙ ap (λ o. if is_some o then Some y.run else effective_writer xs) e
put_writer (Some r) y xs e = along None xs
  where
    along : (w : Option RunNo) (ys : List Access) → writer_from w (put_before_run r.0 y ys) ≡ writer_from w ys
    along w [] = ap (λ o. if is_some o then Some y.run else w) e
    along w (x ∷ ys) = at (is_of r.0 x) (along (if is_some x.wrote then Some x.run else w) ys)
      where
        at : (b : Bool) → writer_from (if is_some x.wrote then Some x.run else w) (put_before_run r.0 y ys) ≡ writer_from (if is_some x.wrote then Some x.run else w) ys
            → writer_from w (if b then (y ∷ x ∷ ys) else (x ∷ put_before_run r.0 y ys)) ≡ writer_from w (x ∷ ys)
        at true h = ap (λ o. writer_from (if is_some o then Some y.run else w) (x ∷ ys)) e
        at false h = h

-- where the list is cut at an access that has a written value
writer_at : (a : List Access) (x : Access) (b : List Access) (v : ℕ) → x.wrote ≡ Some v → effective_writer (a ++ x ∷ b) ≡ writer_from (Some x.run) b
writer_at a x b v e =
    fold-append (λ w x. if is_some x.wrote then Some x.run else w) None a (x ∷ b)
    ∙ ap (λ o. writer_from (if is_some o then Some x.run else effective_writer a) b) e

own_run : (r : RunNo) (x : Access) → is_of r.0 x ≡ true → x.run ≡ r
own_run r x e = ap run_no (grind (arith, common_steps))

-- no access of the run stands behind its own
alone : (r i : ℕ) (xs : List Access) → IsDisciplined xs → (c : Cut r i xs) → has_access r c.rest ≡ false
alone r i xs disciplined c = none_behind r c.access c.rest c.own (rest AreOfTwoRuns c.front c.access c.rest (pairs_from_all AreOfTwoRuns (c.front ++ c.access ∷ c.rest) (subst (AllPairs AreOfTwoRuns) c.list disciplined.one_each)))

-- a run that wrote there is another
not_own : (r : ℕ) (q : RunNo) (b : List Access) → has_access r b ≡ false → effective_writer b ≡ Some q → (q.0 == r) ≡ false
not_own r q b none wrote = at (q.0 == r) refl
  where
    same : (q.0 == r) ≡ true → q.0 ≡ r
    same e = grind (arith, common_steps)

    at : (t : Bool) → (q.0 == r) ≡ t → (q.0 == r) ≡ false
    at true e = absurd (both_ways (has_access r b) none (subst (λ k. has_access k b ≡ true) (same e) (has_written q b wrote)))
    at false e = e

-- a run writes where no other run's write stands: its own does
pub written_writer : (r : RunNo) (i v : ℕ) (wrote : Access → Access) → ((x : Access) → (wrote x).wrote ≡ Some v) → ((x : Access) → (wrote x).run ≡ x.run) → (xs : List Access) → IsDisciplined xs → position (is_of r.0) xs ≡ Some i
    → ((q : RunNo) → effective_writer xs ≡ Some q → q ≡ r) → effective_writer (with_change r.0 wrote xs) ≡ Some r
written_writer r i v wrote value run xs disciplined place only = ap effective_writer now ∙ writer_at c.front (wrote c.access) c.rest v (value c.access) ∙ ap (λ q. writer_from (Some q) c.rest) (run c.access) ∙ at (effective_writer c.rest) refl
  where
    c : Cut r.0 i xs
    c = cut_at r.0 i xs any_access place

    now : with_change r.0 wrote xs ≡ c.front ++ wrote c.access ∷ c.rest
    now = ap (with_change r.0 wrote) c.list ∙ change_at r.0 wrote c.front c.access c.rest c.none c.own

    before : Option RunNo
    before = if is_some c.access.wrote then Some c.access.run else effective_writer c.front

    was : effective_writer xs ≡ writer_from before c.rest
    was = ap effective_writer c.list ∙ fold-append (λ w x. if is_some x.wrote then Some x.run else w) None c.front (c.access ∷ c.rest)

    at : (w : Option RunNo) → effective_writer c.rest ≡ w → writer_from (Some c.access.run) c.rest ≡ Some r
    at None e = writer_earlier (Some c.access.run) c.rest e ∙ ap (λ q. Some q) (own_run r c.access c.own)
    at (Some q) e =
        let same : q ≡ r = only q (was ∙ writer_later before q c.rest e) in
        absurd (both_ways (has_access r.0 c.rest) (alone r.0 i xs disciplined c) (subst (λ (z : RunNo). has_access z.0 c.rest ≡ true) same (has_written q c.rest e)))

-- what stands behind a run that wrote: the same effective writer, or none where it was the run
pub behind_writer : (r i v : ℕ) (xs : List Access) → IsDisciplined xs → position (is_of r) xs ≡ Some i → written_by r xs ≡ Some v
    → effective_writer (accesses_behind r xs) ≡ (if is_writer r (effective_writer xs) then None else effective_writer xs)
behind_writer r i v xs disciplined place wrote = ap effective_writer left ∙ at (effective_writer c.rest) refl
  where
    c : Cut r i xs
    c = cut_at r i xs any_access place

    left : accesses_behind r xs ≡ c.rest
    left = ap (accesses_behind r) c.list ∙ behind_at r c.front c.access c.rest c.none c.own

    was : effective_writer xs ≡ writer_from (Some c.access.run) c.rest
    was = ap effective_writer c.list ∙ writer_at c.front c.access c.rest v (sym (ap (written_by r) c.list ∙ written_at r c.front c.access c.rest c.none c.own) ∙ wrote)

    at : (w : Option RunNo) → effective_writer c.rest ≡ w → effective_writer c.rest ≡ (if is_writer r (effective_writer xs) then None else effective_writer xs)
    at None e =
        let here : effective_writer xs ≡ Some c.access.run = was ∙ writer_earlier (Some c.access.run) c.rest e in
        e ∙ sym (ap (λ w. if is_writer r w then None else w) here ∙ ap (λ b. if b then None else Some c.access.run) c.own)
    at (Some q) e =
        let here : effective_writer xs ≡ Some q = was ∙ writer_later (Some c.access.run) q c.rest e in
        e ∙ sym (ap (λ w. if is_writer r w then None else w) here ∙ ap (λ b. if b then None else Some q) (not_own r q c.rest (alone r i xs disciplined c) e))

-- The kept writer, where a call of the fields makes new accesses

-- the test of the code
pub tests_writer : (r : RunNo) (w : Option RunNo) (b : Bool) → b ≡ option_eq (λ x y. x.0 == y.0) w (Some r) → is_writer r.0 w ≡ b
tests_writer r None b e = sym e
tests_writer r (Some q) b e = sym e

pub not_last : (r : RunNo) (w : Option RunNo) (b : Bool) → b ≡ not (option_eq (λ x y. x.0 == y.0) w (Some r)) → IsTrue b → is_writer r.0 w ≡ false
not_last r None b e t = refl
not_last r (Some q) b e t = grind (arith, common_steps)

pub nothing_written : (o : Option ℕ) (b : Bool) → is_some o ≡ not b → IsTrue b → o ≡ None
nothing_written None b e t = refl
nothing_written (Some v) b e t = absurd (grind (arith, common_steps))

-- no other run's write stands, where none does
pub only_none : (r : RunNo) (w : Option RunNo) → is_some w ≡ false → (q : RunNo) → w ≡ Some q → q ≡ r
only_none r None e q h = absurd (cc)
only_none r (Some p) e q h = absurd (cc)

-- .. or where the run's own does
pub only_own : (r : RunNo) (w : Option RunNo) (b : Bool) → b ≡ option_eq (λ x y. x.0 == y.0) w (Some r) → b ≡ true → (q : RunNo) → w ≡ Some q → q ≡ r
only_own r None b e t q h = absurd (cc)
only_own r (Some p) b e t q h = ap run_no (grind (arith, common_steps))

module _ (s now : LineageState) (w : Option RunNo) (e : s ≡ now) (sound : IsSoundLineage s.accesses w) where
  -- a scheduled access that has written nothing is put in
  pub keeps_scheduled : (before : Option RunNo) (y : Access) (items : List Access) → items ≡ put_access_before before y s.accesses → y.wrote ≡ None → w ≡ effective_writer items
  keeps_scheduled before y items is none = sound.last ∙ sym (ap effective_writer is ∙ put_writer before y s.accesses none)

  -- an access is acquired or released
  pub keeps_changed : (r i : ℕ) (x : Access) (f : Access → Access) → position (is_of r) now.accesses ≡ Some i → x ≡ get_or s.accesses i x → ((y : Access) → (f y).wrote ≡ y.wrote) → ((y : Access) → (f y).run ≡ y.run) → w ≡ effective_writer (slice_set s.accesses i (f x))
  keeps_changed r i x f h is wrote run = sound.last ∙ sym (ap effective_writer (changed_items s now r i x f e h is) ∙ change_writer r f wrote run s.accesses)

  -- a run writes where no other run's write stands
  pub keeps_written : (r : RunNo) (i v : ℕ) (x : Access) (f : Access → Access) → position (is_of r.0) now.accesses ≡ Some i → x ≡ get_or s.accesses i x → ((y : Access) → (f y).wrote ≡ Some v) → ((y : Access) → (f y).run ≡ y.run) → ((q : RunNo) → w ≡ Some q → q ≡ r)
      → Some r ≡ effective_writer (slice_set s.accesses i (f x))
  keeps_written r i v x f h is value run only =
      sym (
      ap effective_writer (changed_items s now r.0 i x f e h is)
      ∙ written_writer r i v f value run s.accesses sound.turns (ap (λ (t : LineageState). position (is_of r.0) t.accesses) e ∙ h) (λ q o. only q (sound.last ∙ o))
      )

  -- another run's write is undone
  pub keeps_undone : (r : RunNo) (i : ℕ) (x : Access) → position (is_of r.0) now.accesses ≡ Some i → x ≡ get_or s.accesses i x → is_writer r.0 w ≡ false → w ≡ effective_writer (slice_set s.accesses i (record x { wrote = None }))
  keeps_undone r i x h is other =
      sound.last ∙ sym (
      ap effective_writer (changed_items s now r.0 i x (λ (y : Access). record y { wrote = None }) e h is)
      ∙ undone_writer r.0 s.accesses sound.turns
      ∙ without_writer r.0 s.accesses (ap (is_writer r.0) (sym sound.last) ∙ other)
      )

  -- the access of another run leaves
  pub keeps_removed : (r : RunNo) (i : ℕ) (items : List Access) → position (is_of r.0) now.accesses ≡ Some i → items ≡ remove s.accesses i → is_writer r.0 w ≡ false → w ≡ effective_writer items
  keeps_removed r i items h is other =
      sound.last ∙ sym (
      ap effective_writer (is ∙ without_remove r.0 i s.accesses any_access sound.turns (ap (λ (t : LineageState). position (is_of r.0) t.accesses) e ∙ h))
      ∙ without_writer r.0 s.accesses (ap (is_writer r.0) (sym sound.last) ∙ other)
      )

  -- a run commits what it wrote, and those before it leave with it
  pub keeps_settled : (r : RunNo) (i v : ℕ) (x : Access) (items : List Access) → position (is_of r.0) now.accesses ≡ Some i → x ≡ get_or s.accesses i x → x.wrote ≡ Some v → items ≡ drop (i + 1) s.accesses
      → (if is_writer r.0 w then None else w) ≡ effective_writer items
  keeps_settled r i v x items h there wrote is =
      let place : position (is_of r.0) s.accesses ≡ Some i = ap (λ (t : LineageState). position (is_of r.0) t.accesses) e ∙ h in
      ap (λ o. if is_writer r.0 o then None else o) sound.last ∙ sym (
      ap effective_writer (is ∙ behind_drop r.0 i s.accesses x place)
      ∙ behind_writer r.0 i v s.accesses sound.turns place (ap (option_and_then (λ (a : Access). a.wrote)) (access_there r.0 i s.accesses x place ∙ ap (λ y. Some y) (sym there)) ∙ wrote)
      )

  -- the value that stands is the writer's ..
  pub has_stood : (q : RunNo) → w ≡ Some q → has_access q.0 now.accesses ≡ true
  has_stood q h = ap (λ (t : LineageState). has_access q.0 t.accesses) (sym e) ∙ has_written q s.accesses (sym sound.last ∙ h)

  pub stood_there : (q : RunNo) (i : ℕ) (x : Access) → w ≡ Some q → position (is_of q.0) now.accesses ≡ Some i → x ≡ get_or s.accesses i x → x.wrote ≡ Some (value_standing now.committed now.accesses)
  stood_there q i x h place is =
      ap (option_and_then (λ (a : Access). a.wrote)) (read_there s now q.0 i x e place is)
      ∙ ap (λ (t : LineageState). written_by q.0 t.accesses) (sym e)
      ∙ effective_stands s.committed q s.accesses sound.turns (sym sound.last ∙ h)
      ∙ ap (λ (t : LineageState). Some (value_standing t.committed t.accesses)) e

  -- .. else the committed one
  pub stood_committed : w ≡ None → s.committed ≡ value_standing now.committed now.accesses
  stood_committed h = sym (committed_stands s.committed s.accesses (sym sound.last ∙ h)) ∙ ap (λ (t : LineageState). value_standing t.committed t.accesses) e
