-- The lineages as a run ends aborted: its accesses are gone.
use Rattle.window_order.proofs.Prelude.{Aborted, Back, Bool, Cause, Ended, Failed, Grips, Item, LineageIsKept, LineageState, List, None, OfRun, Option, Ran, Reading, Setting, Some, [], access_read, accesses_without, ap, arith, commits_write, committed_write, common_steps, entry, eqb-false, eqb-true, false, fold, if◌then◌else◌, is_committed, is_live, is_none, is_some, length, may_follow, not, option_or, point, put_other, refl, removed, run_no, stand_at, subst, sym, true, unplaced_on, unwrap_or, uses, ℕ, ◌&&◌, ◌+◌, ◌-◌, ◌==◌, ◌∙◌, ◌∷◌, ◌≡◌, ◌≢◌, ◌≤◌}
use Rattle.history_book.specs.Lines.{without as line_without}
use Rattle.window_order.proofs.AccessLists.{SameBut, without_along}
use Rattle.window_order.proofs.ReadFacts.{IsRead}
use Rattle.window_order.proofs.Runs.{live_uncommitted}
use Rattle.window_order.proofs.TableFrames.{access_by, commits_by, may_by, put_says, same_unplaced, uses_by, write_by}

-- the last committed write of a line without a run that commits none
write_without : (n m : Reading) (d r : ℕ) (is : List Item) → write_by d (n.run r) ≡ None → ((q : ℕ) → q ≢ r → write_by d (m.run q) ≡ write_by d (n.run q)) → (best : Option ℕ)
    → fold (λ b x. option_or (committed_write m d x) b) best (line_without r is) ≡ fold (λ b x. option_or (committed_write n d x) b) best is
write_without n m d r [] none others best = refl
write_without n m d r (Ran q ∷ is) none others best = at_ (q.0 == r) refl (λ b. write_without n m d r is none others b)
  where
    at_ : (b : Bool) → (q.0 == r) ≡ b → ((best : Option ℕ) → fold (λ b x. option_or (committed_write m d x) b) best (line_without r is) ≡ fold (λ b x. option_or (committed_write n d x) b) best is)
        → fold (λ b x. option_or (committed_write m d x) b) best (if not b then (Ran q ∷ line_without r is) else line_without r is) ≡ fold (λ b x. option_or (committed_write n d x) b) (option_or (committed_write n d (Ran q)) best) is
    at_ true e ih = ih best ∙ ap (λ o. fold (λ b x. option_or (committed_write n d x) b) (option_or o best) is) (sym (ap (λ x. write_by d (n.run x)) (eqb-true q.0 r e) ∙ none))
    at_ false e ih = ih (option_or (committed_write m d (Ran q)) best) ∙ ap (λ o. fold (λ b x. option_or (committed_write n d x) b) (option_or o best) is) (others q.0 (eqb-false q.0 r e))
write_without n m d r (Failed e k ∷ is) none others best = write_without n m d r is none others best
write_without n m d r (Back e k ∷ is) none others best = write_without n m d r is none others best

-- each lineage is kept
pub aborted_kept : (w : Setting) (n : Reading) (g : Grips) (r : ℕ) (cause : Cause) → IsRead w n → may_follow w n (Ended (run_no r) (Aborted cause)) ≡ true
    → (d : ℕ) (s : LineageState) → LineageIsKept (point w n g) d s → LineageIsKept (point w (entry w n (Ended (run_no r) (Aborted cause))) g) d (removed r s)
aborted_kept w n g r cause read may d s kept = record {
  passed = kept.passed;
  may_pass = λ q passed. put_says (may_by g d) n.run r new refl q ∙ kept.may_pass q passed;
  committed = kept.committed ∙ sym (ap (λ o. unwrap_or o (stand_at w.first d).value) (write_without n m d r n.line none others_write None));
  accesses =
      ap (accesses_without r) kept.accesses
      ∙ without_along (uses w n d) (uses w m d) (commits_write n d) (commits_write m d) (access_read (point w n g) kept.passed d) (access_read (point w m g) kept.passed d) r n.line (λ x. refl) (λ i. uncommitted i && is_some ((n.run r).on d).wrote) others;
  room = subst (λ x. x ≤ (removed r s).room) (sym (same_unplaced n m d 1 w.runs (put_says (λ q o. is_none o.placed) n.run r new refl))) (more (unplaced_on w n d) s.room (length s.accesses - length (accesses_without r s.accesses)) kept.room);
  up = kept.up;
}
  where
    m : Reading
    m = entry w n (Ended (run_no r) (Aborted cause))

    new : OfRun
    new = record (n.run r) { ended = Some (Aborted cause) }

    live : is_live n r ≡ true
    live = grind (arith, common_steps)

    uncommitted : is_committed n r ≡ false
    uncommitted = live_uncommitted n r live

    none : write_by d (n.run r) ≡ None
    none = λ i. if uncommitted i then ((n.run r).on d).wrote else None

    others_write : (q : ℕ) → q ≢ r → write_by d (m.run q) ≡ write_by d (n.run q)
    others_write q ne = ap (write_by d) (put_other n.run r new q ne)

    others : SameBut r (uses w n d) (uses w m d) (commits_write n d) (commits_write m d) (access_read (point w n g) kept.passed d) (access_read (point w m g) kept.passed d)
    others = record {
      has_one = λ x ne. ap (uses_by w d x) (put_other n.run r new x ne);
      covering = λ x ne. ap (commits_by d) (put_other n.run r new x ne);
      access = λ x ne. ap (access_by w g kept.passed d x) (put_other n.run r new x ne);
    }

    more : (a b c : ℕ) → a ≤ b → a ≤ b + c
    more a b c h = omega (arith, h)
