-- The value that stands, and whose it is.
use Rattle.lineage_table.proofs.Prelude.{Access, AllByRecursion, AreOfTwoRuns, Bool, IsDisciplined, IsSome, List, None, Option, RunNo, Some, [], access_of, accesses_behind, accesses_without, ap, arith, both_ways, common_steps, effective_writer, false, fold, has_access, if◌then◌else◌, is_of, is_some, not, option_and_then, option_map, or_left, or_right, refl, run_no, subst, sym, true, unwrap_or, value_standing, with_change, written_by, ℕ, ◌==◌, ◌||◌, ◌∙◌, ◌∷◌, ◌≡◌, ◌≢◌}
use Rattle.lineage_table.proofs.Pairs.{Pairs, pairs_from_all}

-- where the run's access is passed over
pub passing_stands : (r c : ℕ) (xs : List Access) → fold (λ value x. if is_of r x then value else unwrap_or x.wrote value) c xs ≡ value_standing c (accesses_without r xs)
passing_stands r c [] = refl
passing_stands r c (x ∷ xs) = at (is_of r x) (λ v. passing_stands r v xs)
  where
    passed : ℕ → ℕ
    passed v = fold (λ value y. if is_of r y then value else unwrap_or y.wrote value) v xs

    at : (b : Bool) → ((v : ℕ) → passed v ≡ value_standing v (accesses_without r xs)) → passed (if b then c else unwrap_or x.wrote c) ≡ value_standing c (if not b then (x ∷ accesses_without r xs) else accesses_without r xs)
    at true h = h c
    at false h = h (unwrap_or x.wrote c)

-- what an access makes after a change as before it, the accesses make so too
pub change_folds : {B : Type 0} (g : B → Access → B) (r : ℕ) (f : Access → Access) → ((b : B) (x : Access) → g b (f x) ≡ g b x) → (b : B) (xs : List Access) → fold g b (with_change r f xs) ≡ fold g b xs
change_folds g r f same b [] = refl
change_folds g r f same b (x ∷ xs) = at (change_folds g r f same (g b x) xs) (is_of r x)
  where
    at : fold g (g b x) (with_change r f xs) ≡ fold g (g b x) xs → (t : Bool) → fold g b (if t then (f x ∷ xs) else (x ∷ with_change r f xs)) ≡ fold g b (x ∷ xs)
    at h true = ap (λ c. fold g c xs) (same b x)
    at h false = h

-- a change that keeps the written value keeps the value that stands
pub change_stands : (r : ℕ) (f : Access → Access) → ((x : Access) → (f x).wrote ≡ x.wrote) → (c : ℕ) (xs : List Access) → value_standing c (with_change r f xs) ≡ value_standing c xs
change_stands r f same c xs = change_folds (λ value x. unwrap_or x.wrote value) r f (λ value x. ap (λ o. unwrap_or o value) (same x)) c xs

-- the run's value, with what stands behind it, is what stands
pub behind_stands : (r : ℕ) (v c : ℕ) (xs : List Access) → written_by r xs ≡ Some v → value_standing v (accesses_behind r xs) ≡ value_standing c xs
behind_stands r v c [] w = absurd (cc)
behind_stands r v c (x ∷ xs) w = at (is_of r x) (behind_stands r v (unwrap_or x.wrote c) xs) w
  where
    at : (b : Bool) → (written_by r xs ≡ Some v → value_standing v (accesses_behind r xs) ≡ value_standing (unwrap_or x.wrote c) xs)
        → option_and_then (λ (a : Access). a.wrote) (if b then Some x else access_of r xs) ≡ Some v → value_standing v (if b then xs else accesses_behind r xs) ≡ value_standing c (x ∷ xs)
    at true h e = ap (λ o. value_standing (unwrap_or o c) xs) (sym e)
    at false h e = h e

-- what stands when the run's value is committed
pub settled_stands : (r : ℕ) (c : ℕ) (xs : List Access) → IsSome (written_by r xs) → value_standing (unwrap_or (written_by r xs) c) (accesses_behind r xs) ≡ value_standing c xs
settled_stands r c xs h = at (written_by r xs) refl h
  where
    at : (o : Option ℕ) → written_by r xs ≡ o → IsSome o → value_standing (unwrap_or (written_by r xs) c) (accesses_behind r xs) ≡ value_standing c xs
    at None e h = absurd (grind (arith, common_steps))
    at (Some v) e h = subst (λ o. value_standing (unwrap_or o c) (accesses_behind r xs) ≡ value_standing c xs) (sym e) (behind_stands r v c xs e)

-- the run is the one
abbrev pub is_writer : ℕ → Option RunNo → Bool
is_writer r writer = unwrap_or (option_map (λ q. q.0 == r) writer) false

-- the run of the last write, where those before it have this one
abbrev pub writer_from : Option RunNo → List Access → Option RunNo
writer_from writer xs = fold (λ w x. if is_some x.wrote then Some x.run else w) writer xs

-- what goes by written values alone goes by the list without a run that did not write last as by the list
without_from : {B : Type 0} (g : B → Access → B) → ((b : B) (x : Access) → x.wrote ≡ None → g b x ≡ b) → ((b c : B) (x : Access) (k : ℕ) → x.wrote ≡ Some k → g b x ≡ g c x)
    → (r : ℕ) (v u : B) (w : Option RunNo) (xs : List Access) → (is_writer r w ≡ false → u ≡ v) → is_writer r (writer_from w xs) ≡ false → fold g u (accesses_without r xs) ≡ fold g v xs
without_from g quiet over r v u w [] h e = h e
without_from g quiet over r v u w (x ∷ xs) h e =
    at (is_of r x) refl
    (λ q. without_from g quiet over r (g v x) u (if is_some x.wrote then Some x.run else w) xs (gone q x.wrote refl) e)
    (without_from g quiet over r (g v x) (g u x) (if is_some x.wrote then Some x.run else w) xs (stays x.wrote refl) e)
  where
    gone : is_of r x ≡ true → (o : Option ℕ) → x.wrote ≡ o → is_writer r (if is_some o then Some x.run else w) ≡ false → u ≡ g v x
    gone q None i f = h f ∙ sym (quiet v x i)
    gone q (Some k) i f = absurd (both_ways (is_of r x) f q)

    stays : (o : Option ℕ) → x.wrote ≡ o → is_writer r (if is_some o then Some x.run else w) ≡ false → g u x ≡ g v x
    stays None i f = quiet u x i ∙ h f ∙ sym (quiet v x i)
    stays (Some k) i f = over u v x k i

    at : (b : Bool) → is_of r x ≡ b → (is_of r x ≡ true → fold g u (accesses_without r xs) ≡ fold g (g v x) xs) → fold g (g u x) (accesses_without r xs) ≡ fold g (g v x) xs
        → fold g u (if not b then (x ∷ accesses_without r xs) else accesses_without r xs) ≡ fold g v (x ∷ xs)
    at true q f k = f q
    at false q f k = k

pub without_stands : (r c : ℕ) (xs : List Access) → is_writer r (effective_writer xs) ≡ false → value_standing c (accesses_without r xs) ≡ value_standing c xs
without_stands r c xs e = without_from (λ value x. unwrap_or x.wrote value) (λ b x i. ap (λ o. unwrap_or o b) i) (λ b d x k i. ap (λ o. unwrap_or o b) i ∙ sym (ap (λ o. unwrap_or o d) i)) r c c None xs (λ f. refl) e

pub without_writer : (r : ℕ) (xs : List Access) → is_writer r (effective_writer xs) ≡ false → effective_writer (accesses_without r xs) ≡ effective_writer xs
without_writer r xs e = without_from (λ w x. if is_some x.wrote then Some x.run else w) (λ b x i. ap (λ o. if is_some o then Some x.run else b) i) (λ b d x k i. ap (λ o. if is_some o then Some x.run else b) i ∙ sym (ap (λ o. if is_some o then Some x.run else d) i)) r None None None xs (λ f. refl) e

pub not_writer : (r : RunNo) (w : Option RunNo) → w ≢ Some r → is_writer r.0 w ≡ false
not_writer r None h = refl
not_writer r (Some q) h = at (q.0 == r.0) refl
  where
    same : (q.0 == r.0) ≡ true → q ≡ r
    same e = ap run_no (grind (arith, common_steps))

    at : (t : Bool) → (q.0 == r.0) ≡ t → (q.0 == r.0) ≡ false
    at true e = absurd (h (ap (λ x. Some x) (same e)))
    at false e = e

-- some run wrote
some_wrote : (w : RunNo) (xs : List Access) → writer_from (Some w) xs ≡ None → ⊥
some_wrote w [] e = cc
some_wrote w (x ∷ xs) e = at x.wrote (some_wrote w xs) (some_wrote x.run xs) e
  where
    at : (o : Option ℕ) → (writer_from (Some w) xs ≡ None → ⊥) → (writer_from (Some x.run) xs ≡ None → ⊥) → writer_from (if is_some o then Some x.run else Some w) xs ≡ None → ⊥
    at None f g e = f e
    at (Some k) f g e = g e

-- where no run wrote, the committed value stands
pub committed_stands : (c : ℕ) (xs : List Access) → effective_writer xs ≡ None → value_standing c xs ≡ c
committed_stands c [] e = refl
committed_stands c (x ∷ xs) e = at x.wrote (committed_stands c xs) (some_wrote x.run xs) e
  where
    at : (o : Option ℕ) → (effective_writer xs ≡ None → value_standing c xs ≡ c) → (writer_from (Some x.run) xs ≡ None → ⊥)
        → writer_from (if is_some o then Some x.run else None) xs ≡ None → value_standing (unwrap_or o c) xs ≡ c
    at None f g e = f e
    at (Some k) f g e = absurd (g e)

-- the effective writer is that of what stands behind, where some run wrote there
pub writer_later : (w : Option RunNo) (q : RunNo) (xs : List Access) → effective_writer xs ≡ Some q → writer_from w xs ≡ Some q
writer_later w q [] e = absurd (cc)
writer_later w q (x ∷ xs) e = at x.wrote (writer_later w q xs) e
  where
    at : (o : Option ℕ) → (effective_writer xs ≡ Some q → writer_from w xs ≡ Some q) → writer_from (if is_some o then Some x.run else None) xs ≡ Some q → writer_from (if is_some o then Some x.run else w) xs ≡ Some q
    at None f e = f e
    at (Some k) f e = e

-- .. else the one before
pub writer_earlier : (w : Option RunNo) (xs : List Access) → effective_writer xs ≡ None → writer_from w xs ≡ w
writer_earlier w [] e = refl
writer_earlier w (x ∷ xs) e = at x.wrote (writer_earlier w xs) (some_wrote x.run xs) e
  where
    at : (o : Option ℕ) → (effective_writer xs ≡ None → writer_from w xs ≡ w) → (writer_from (Some x.run) xs ≡ None → ⊥) → writer_from (if is_some o then Some x.run else None) xs ≡ None → writer_from (if is_some o then Some x.run else w) xs ≡ w
    at None f g e = f e
    at (Some k) f g e = absurd (g e)

-- the effective writer has an access
pub has_written : (q : RunNo) (xs : List Access) → effective_writer xs ≡ Some q → has_access q.0 xs ≡ true
has_written q [] e = absurd (cc)
has_written q (x ∷ xs) e = at (effective_writer xs) refl (has_written q xs)
  where
    own : (o : Option ℕ) → (if is_some o then Some x.run else None) ≡ Some q → is_of q.0 x ≡ true
    own None h = absurd (cc)
    own (Some k) h = grind (arith, common_steps)

    at : (w : Option RunNo) → effective_writer xs ≡ w → (effective_writer xs ≡ Some q → has_access q.0 xs ≡ true) → (is_of q.0 x || has_access q.0 xs) ≡ true
    at None h f = or_left (is_of q.0 x) (has_access q.0 xs) (own x.wrote (sym (writer_earlier (if is_some x.wrote then Some x.run else None) xs h) ∙ e))
    at (Some p) h f = or_right (is_of q.0 x) (has_access q.0 xs) (f (h ∙ sym (writer_later (if is_some x.wrote then Some x.run else None) p xs h) ∙ e))

none_behind : (x : Access) (xs : List Access) → AllByRecursion (AreOfTwoRuns x) xs → has_access x.run.0 xs ≡ false
none_behind x [] h = refl
none_behind x (y ∷ xs) h = one x y (has_access x.run.0 xs) h.0 (none_behind x xs h.1)
  where
    one : (x y : Access) (q : Bool) → AreOfTwoRuns x y → q ≡ false → (is_of x.run.0 y || q) ≡ false
    one x y q h n = grind (arith, common_steps)

-- the effective writer's own value is the one that stands
writer_stands : (c : ℕ) (q : RunNo) (xs : List Access) → Pairs AreOfTwoRuns xs → effective_writer xs ≡ Some q → written_by q.0 xs ≡ Some (value_standing c xs)
unfolding Pairs
writer_stands c q [] k e = absurd (cc)
writer_stands c q (x ∷ xs) k e = at (effective_writer xs) refl (writer_stands (unwrap_or x.wrote c) q xs k.1)
  where
    first : Option RunNo
    first = if is_some x.wrote then Some x.run else None

    own : (o : Option ℕ) → (if is_some o then Some x.run else None) ≡ Some q → (is_of q.0 x ≡ true) × (o ≡ Some (unwrap_or o c))
    own None h = absurd (cc)
    own (Some v) h = (grind (arith, common_steps), refl)

    here : (b : Bool) → b ≡ true → option_and_then (λ (a : Access). a.wrote) (if b then Some x else access_of q.0 xs) ≡ x.wrote
    here true h = refl
    here false h = absurd (cc)

    later : (b : Bool) → b ≡ false → option_and_then (λ (a : Access). a.wrote) (if b then Some x else access_of q.0 xs) ≡ written_by q.0 xs
    later true h = absurd (cc)
    later false h = refl

    other : has_access q.0 xs ≡ true → is_of q.0 x ≡ false
    other h = split (is_of q.0 x) refl
      where
        split : (b : Bool) → is_of q.0 x ≡ b → is_of q.0 x ≡ false
        split true f = absurd (both_ways (has_access q.0 xs) (subst (λ n. has_access n xs ≡ false) (same f) (none_behind x xs k.0)) h)
          where
            same : is_of q.0 x ≡ true → x.run.0 ≡ q.0
            same f = grind (arith, common_steps)
        split false f = f

    at : (w : Option RunNo) → effective_writer xs ≡ w → (effective_writer xs ≡ Some q → written_by q.0 xs ≡ Some (value_standing (unwrap_or x.wrote c) xs)) → written_by q.0 (x ∷ xs) ≡ Some (value_standing (unwrap_or x.wrote c) xs)
    at None h f =
        let o = own x.wrote (sym (writer_earlier first xs h) ∙ e) in
        here (is_of q.0 x) o.0 ∙ o.1 ∙ ap (λ v. Some v) (sym (committed_stands (unwrap_or x.wrote c) xs h))
    at (Some p) h f =
        let g : effective_writer xs ≡ Some q = h ∙ sym (writer_later first p xs h) ∙ e in
        later (is_of q.0 x) (other (has_written q xs g)) ∙ f g

pub effective_stands : (c : ℕ) (q : RunNo) (xs : List Access) → IsDisciplined xs → effective_writer xs ≡ Some q → written_by q.0 xs ≡ Some (value_standing c xs)
effective_stands c q xs k e = writer_stands c q xs (pairs_from_all AreOfTwoRuns xs k.one_each) e
