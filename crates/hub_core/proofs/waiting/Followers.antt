-- A run that follows one that has not ended waits, until that one ends.
use Rattle.hub_core.proofs.Prelude.{Aborted, Arrived, Bool, Committed, Configuration, Did, Doomed, End, Ended, Entry, Fell, IsTrue, IsWellFormed, Kept, List, None, OfRun, Option, Placed, PlacedAt, Point, Reading, Rose, RunNo, Setting, Some, Undid, Waits, [], along, along_on, ap, arith, both, common_steps, decide, entries_of, entry, false, fold, followed_by, grip_wait, if◌then◌else◌, is_none, is_run, is_some, list_all, map-append, may_follow, not, nothing_read, put, read_of, reading, reading_on, refl, subst, sym, true, ℕ, ◌&&◌, ◌++◌, ◌==◌, ◌∙◌, ◌∷◌, ◌≡◌}
use Rattle.hub_core.specs.declared.waits.Why.TheVariants.{Follow}

-- the run has arrived, and is not placed
abbrev pub IsUnplaced : OfRun → Type 0
IsUnplaced o = (o.ended ≡ None) × (is_none o.arrived ≡ false) × (is_none o.placed ≡ true)

-- it waits for the run f, which it follows and which has not ended
pub record IsFollower (w : Setting) (n : Reading) (r : ℕ) (f : RunNo) : Type 0 where
  pub run : is_run w.runs r ≡ true
  pub own : IsUnplaced (n.run r)
  pub leader : followed_by w.runs r ≡ Some f
  pub ahead : (n.run f.0).ended ≡ None

-- The wait

pub follower_waits : (p : Point) (r m : ℕ) (f : RunNo) → IsFollower p.setting p.reading r f → grip_wait p.setting p.grips r ≡ None → decide p r m ≡ Waits (Follow f)
follower_waits p r m f at free = rw (at.run, at.own.0, free, at.own.1, at.own.2, at.leader, at.ahead) refl

-- What ends it

-- the entry is no placing of the run, and no end of the run that it follows
abbrev pub keeps_follower : ℕ → ℕ → Entry → Bool
keeps_follower r f (Arrived q m) = true
keeps_follower r f (Placed q at m) = not (q.0 == r)
keeps_follower r f (Did q c a) = true
keeps_follower r f (Undid q d drove) = true
keeps_follower r f (Fell d) = true
keeps_follower r f (Rose d) = true
keeps_follower r f (Doomed q cause) = true
keeps_follower r f (Ended q e) = not (q.0 == f)

-- what holds of the run, and of the new value where it is the run's own, holds afterwards
put_holds : (P : OfRun → Type 0) (f : ℕ → OfRun) (k : ℕ) (v : OfRun) (n : ℕ) → P (f n) → (k ≡ n → P (f k) → P v) → P (put f k v n)
put_holds P f k v n old new = elim (n == k) as (λ b. (n == k) ≡ b → P (if b then v else f n)) [
  | true ↦ (λ e. let same : n ≡ k = grind (arith, common_steps) in new (sym same) (subst (λ x. P (f x)) same old))
  | false ↦ (λ e. old)
] refl

module _ (w : Setting) (n : Reading) (r : ℕ) (f : RunNo) (at : IsFollower w n r f) where
  abbrev Goes : OfRun → Type 0
  Goes o = o.ended ≡ None

  -- an entry that says this of its run q
  after : (m : Reading) (q : ℕ) (o : OfRun) → m.run ≡ put n.run q o → (q ≡ r → IsUnplaced (n.run q) → IsUnplaced o) → (q ≡ f.0 → Goes (n.run q) → Goes o) → IsFollower w m r f
  after m q o run own ahead = record {
    run = at.run;
    own = subst (λ h. IsUnplaced (h r)) (sym run) (put_holds IsUnplaced n.run q o r at.own own);
    leader = at.leader;
    ahead = subst (λ h. Goes (h f.0)) (sym run) (put_holds Goes n.run q o f.0 at.ahead ahead);
  }

  other : (a b : ℕ) → not (a == b) ≡ true → a ≡ b → ⊥
  other a b apart same = absurd (let one : (a == b) ≡ true = grind (arith, common_steps) in let both : not true ≡ true = sym (ap not one) ∙ apart in cc)

  -- the run is not live
  dead : (q : ℕ) → (is_some (n.run q).placed && is_none (n.run q).ended) ≡ true → q ≡ r → ⊥
  dead q live same = by_place (n.run q).placed live (subst (λ x. is_none (n.run x).placed ≡ true) (sym same) at.own.2)
    where
      by_place : (p : Option PlacedAt) → (is_some p && is_none (n.run q).ended) ≡ true → is_none p ≡ true → ⊥
      by_place None live none = absurd (cc)
      by_place (Some p) live none = absurd (cc)

  ends : (q : RunNo) (e : End) → (is_some (n.run q.0).placed && is_none (n.run q.0).ended) ≡ true → not (q.0 == f.0) ≡ true → IsFollower w (entry w n (Ended q e)) r f
  ends q e live left = after (entry w n (Ended q e)) q.0 _ refl (λ same u. absurd (dead q.0 live same)) (λ same u. absurd (other q.0 f.0 left same))

  pub follower_step : (e : Entry) → IsTrue (may_follow w n e) → keeps_follower r f.0 e ≡ true → IsFollower w (entry w n e) r f
  follower_step (Arrived q m) ok left = after (entry w n (Arrived q m)) q.0 _ refl (λ same u. (u.0, refl, u.2)) (λ same u. u)
  follower_step (Placed q at' m) ok left = after (entry w n (Placed q at' m)) q.0 _ refl (λ same u. absurd (other q.0 r left same)) (λ same u. u)
  follower_step (Did q c a) ok left = after (entry w n (Did q c a)) q.0 _ refl (λ same u. u) (λ same u. u)
  follower_step (Undid q d drove) ok left = after (entry w n (Undid q d drove)) q.0 _ refl (λ same u. u) (λ same u. u)
  follower_step (Fell d) ok left = record { run = at.run; own = at.own; leader = at.leader; ahead = at.ahead }
  follower_step (Rose d) ok left = record { run = at.run; own = at.own; leader = at.leader; ahead = at.ahead }
  follower_step (Doomed q cause) ok left = after (entry w n (Doomed q cause)) q.0 _ refl (λ same u. u) (λ same u. u)
  follower_step (Ended q Committed) ok left = ends q Committed (grind (arith, common_steps)) left
  follower_step (Ended q (Aborted cause)) ok left = ends q (Aborted cause) (grind (arith, common_steps)) left

follower_along : (w : Setting) (n : Reading) (r : ℕ) (f : RunNo) (es : List Entry) → IsTrue (along w (may_follow w) n es) → list_all (keeps_follower r f.0) es ≡ true → IsFollower w n r f → IsFollower w (fold (entry w) n es) r f
follower_along w n r f [] ok left at = at
follower_along w n r f (e ∷ es) ok left at = follower_along w (entry w n e) r f es (grind (arith, common_steps)) (grind (arith, common_steps)) (follower_step w n r f at e (grind (arith, common_steps)) (grind (arith, common_steps)))

-- a step that makes no such entry leaves the run waiting
pub follower_stays : (s t : Configuration) (made : List Kept) (r : ℕ) (f : RunNo) → IsWellFormed t.setting (entries_of t.history) → t.setting ≡ s.setting → t.history ≡ s.history ++ made → list_all (keeps_follower r f.0) (entries_of made) ≡ true
    → IsFollower s.setting (read_of s) r f → IsFollower t.setting (read_of t) r f
follower_stays s t made r f formed setting history left at =
    subst (λ w. IsFollower w (reading w (entries_of t.history)) r f) (sym setting) (subst (λ h. IsFollower w (reading w h) r f) (sym parts)
    (subst (λ n. IsFollower w n r f) (sym (reading_on w before more)) (follower_along w (read_of s) r f more ok left at)))
  where
    w : Setting
    w = s.setting

    before : List Entry
    before = entries_of s.history

    more : List Entry
    more = entries_of made

    parts : entries_of t.history ≡ before ++ more
    parts = ap entries_of history ∙ map-append (λ k. k.entry) s.history made

    whole : along w (may_follow w) (nothing_read w) (before ++ more) ≡ true
    whole = subst (λ h. IsWellFormed w h) parts (subst (λ v. IsWellFormed v (entries_of t.history)) setting formed)

    ok : along w (may_follow w) (read_of s) more ≡ true
    ok = (both (along w (may_follow w) (nothing_read w) before) (along w (may_follow w) (read_of s) more) (sym (along_on w (may_follow w) (nothing_read w) before more) ∙ whole)).1
