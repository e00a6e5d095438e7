-- A lease that may fall due is made by a placing alone: neither the clock, nor a device that goes out, nor an answer makes one.
use Rattle.hub_core.proofs.Prelude.{Answer, Bool, Did, Grips, List, None, OfRun, Point, Reading, RunNo, Setting, Some, [], answered_run, ap, arith, before, commands_of, common_steps, cond, drop, entry, estimate_to_last, false, find, greatest, has_effect, if◌then◌else◌, is_doomed, is_live, is_none, is_on, is_overdue, is_some, lease_deadline, length, length-append, list_any, live_before, min, nat_lt, not, option_map, overdue_for, pends, planned_end, point, put_all, put_keeps, refl, stamp_of, suc, sym, tenth_up, touches, touches_from, true, unwrap_or, zero, ℕ, ◌&&◌, ◌++◌, ◌+◌, ◌∙◌, ◌∷◌, ◌≡◌, ◌≤◌}
use Rattle.hub_core.proofs.steps.Revoked.{overdue_without_grips}
use Rattle.hub_core.proofs.waiting.QuietEntries.{live_same}
use Rattle.lock_leasing.specs.Leases.{NeverOverdue}

-- where none does, fewer do not
find_fewer : {A : Type 0} (p q : A → Bool) (xs : List A) → ((x : A) → q x ≡ true → p x ≡ true) → find p xs ≡ None → find q xs ≡ None
find_fewer p q [] fewer none = refl
find_fewer p q (x ∷ xs) fewer none = by_first (p x) (q x) refl refl none (find_fewer p q xs fewer)
  where
    by_first : (a b : Bool) → p x ≡ a → q x ≡ b → cond a (Some x) (find p xs) ≡ None → (find p xs ≡ None → find q xs ≡ None) → cond (q x) (Some x) (find q xs) ≡ None
    by_first true b e f none rest = absurd (cc)
    by_first false true e f none rest = absurd (let both : true ≡ false = sym (fewer x f) ∙ e in cc)
    by_first false false e f none rest = rw f (rest none)

-- where no lease is overdue at a later moment none is so now
pub overdue_later : (p : Point) (r d m t : ℕ) → m ≤ t → overdue_for p r d t ≡ None → overdue_for p r d m ≡ None
overdue_later p r d m t later none = find_fewer (is_overdue p r d t) (is_overdue p r d m) (live_before p.reading r) (λ x overdue. grind (arith, common_steps)) none

-- a device that goes out or comes home makes none
pub calm_grips : (w : Setting) (n : Reading) (g h : Grips) (r d : ℕ) → NeverOverdue (point w n g) r d → NeverOverdue (point w n h) r d
calm_grips w n g h r d calm m = overdue_without_grips (point w n h) r d m ∙ sym (overdue_without_grips (point w n g) r d m) ∙ calm m

-- what a run's record tells of its lease on the device: no more than before
record LendsLess (w : Setting) (d q : ℕ) (o p : OfRun) : Type 0 where
  placed : p.placed ≡ o.placed
  ended : p.ended ≡ o.ended
  doomed : p.doomed ≡ o.doomed
  planned : p.planned ≡ o.planned
  pending : touches_from w.runs q d (length p.answers) ≡ true → touches_from w.runs q d (length o.answers) ≡ true

-- the commands that are left after one more answer were left before
left_before : {A : Type 0} (p : A → Bool) (xs : List A) (k : ℕ) → list_any p (drop (suc k) xs) ≡ true → list_any p (drop k xs) ≡ true
left_before p [] zero some = some
left_before p [] (suc k) some = some
left_before p (x ∷ xs) zero some = grind (arith, common_steps)
left_before p (x ∷ xs) (suc k) some = left_before p xs k some

-- after an answer the same live runs stand before a run
pub live_answered : (w : Setting) (n : Reading) (x : RunNo) (k : ℕ) (a : Answer) (r : ℕ) → live_before (entry w n (Did x k a)) r ≡ live_before n r
live_answered w n x k a r = live_same n (entry w n (Did x k a)) (before r n.line) (put_keeps (λ o. is_some o.placed && is_none o.ended) n.run x.0 (answered_run w n x.0 k a) refl)

-- so it makes none
pub calm_answered : (w : Setting) (n : Reading) (g : Grips) (x : RunNo) (k : ℕ) (a : Answer) (r d : ℕ) → NeverOverdue (point w n g) r d → NeverOverdue (point w (entry w n (Did x k a)) g) r d
calm_answered w n g x k a r d calm m =
    ap (find (is_overdue (point w u g) r d m)) (live_answered w n x k a r)
    ∙ find_fewer (is_overdue (point w n g) r d m) (is_overdue (point w u g) r d m) (live_before n r) fewer (calm m)
  where
    u : Reading
    u = entry w n (Did x k a)

    runs : (q : ℕ) → LendsLess w d q (n.run q) (u.run q)
    runs = put_all (λ q o. LendsLess w d q (n.run q) o) n.run x.0 (answered_run w n x.0 k a) (λ q. record { placed = refl; ended = refl; doomed = refl; planned = refl; pending = λ some. some })
        (record { placed = refl; ended = refl; doomed = refl; planned = refl; pending = λ some. left_before (is_on d) (commands_of w.runs x.0) (length (n.run x.0).answers) (ap (touches_from w.runs x.0 d) (sym more) ∙ some) })
      where
        more : length ((n.run x.0).answers ++ a ∷ []) ≡ suc (length (n.run x.0).answers)
        more = length-append (n.run x.0).answers (a ∷ []) ∙ omega (arith)

    fewer : (q : ℕ) → is_overdue (point w u g) r d m q ≡ true → is_overdue (point w n g) r d m q ≡ true
    fewer q overdue = by_parts (is_doomed n q) (nat_lt (stamp_of n r) (stamp_of n q)) (is_live n q) (pends w u q d) (pends w n q d) (nat_lt (lease_deadline w n q d) m) (touches w.runs q d && has_effect u g q d) (touches w.runs q d && has_effect n g q d) (same ∙ overdue) (runs q).pending
      where
        same : (not (is_doomed n q) && nat_lt (stamp_of n r) (stamp_of n q) && (is_live n q && (if is_doomed n q then touches w.runs q d && has_effect u g q d else pends w u q d)) && nat_lt (lease_deadline w n q d) m) ≡ is_overdue (point w u g) r d m q
        same =
            sym (λ i. not (is_some ((runs q).doomed i)) && nat_lt (stamp r i) (stamp q i) && ((is_some ((runs q).placed i) && is_none ((runs q).ended i))
            && (if is_some ((runs q).doomed i) then touches w.runs q d && has_effect u g q d else pends w u q d))
            && nat_lt (min (planned_end ((runs q).planned i) d + tenth_up (estimate_to_last d (commands_of w.runs q))) greatest) m)
          where
            stamp : (y : ℕ) → stamp_of u y ≡ stamp_of n y
            stamp y = λ i. unwrap_or (option_map (λ p. p.stamp) ((runs y).placed i)) 0

        by_parts : (doomed earlier live after' before' late a b : Bool) → (not doomed && earlier && (live && (if doomed then a else after')) && late) ≡ true → (after' ≡ true → before' ≡ true) → (not doomed && earlier && (live && (if doomed then b else before')) && late) ≡ true
        by_parts true earlier live after' before' late a b all was = absurd (cc)
        by_parts false earlier live after' before' late a b all was = let still : before' ≡ true = was (grind (arith, common_steps)) in grind (arith, common_steps)
