-- A run that follows another is placed after the end of that one and stands behind it, with one entry more.
use Rattle.hub_core.proofs.Prelude.{Aborted, Arrived, Back, Bool, Committed, Did, Doomed, End, Ended, Entry, Failed, Fell, FollowersStand, Grips, IsTrue, Item, List, None, OfRun, Option, Placed, PlacedAt, Ran, Reading, Rose, RunNo, Setting, Some, Standing, Undid, [], and_parts, any_insert, any_left, any_other, any_put_before, any_without, ap, arith, behind, binds, common_steps, cond, drop, entry, eq-eqb, false, follow_wait, followed_by, follows, front_for, if◌then◌else◌, in_order, is_abort, is_committed, is_committing, is_none, is_ran, is_some, line_any, line_follows, line_for, list_any, not, nothing_read, option_map, or-true, planned_times, point, put, put_all, put_before, put_keeps, put_other, refl, run_no, split_of, subst, sym, take, take-append-drop, true, unwrap_or, without, ℕ, ◌&&◌, ◌++◌, ◌==◌, ◌||◌, ◌∙◌, ◌∷◌, ◌≡◌, ◌≢◌}
use Rattle.hub_core.proofs.windows.StrongChoices.{IsPlacing}
use Rattle.lock_leasing.specs.Order.{is_in_line}
use Rattle.std.proofs.lemmas.List.Folds.{list_any-append}

-- What stands behind a run

-- where an event comes into the line
behind_event : (p : Item → Bool) (f : ℕ) (t : Item → Bool) (x : Item) (line : List Item) → is_ran f x ≡ false → p x ≡ false → list_any p (behind f (put_before t x line)) ≡ list_any p (behind f line)
behind_event p f t x [] apart none = ap (λ b. list_any p (cond b [] [])) apart
behind_event p f t x (i ∷ is) apart none = by_test (t i) (behind_event p f t x is apart none)
  where
    further : (b : Bool) → list_any p (behind f (put_before t x is)) ≡ list_any p (behind f is) → list_any p (cond b (put_before t x is) (behind f (put_before t x is))) ≡ list_any p (cond b is (behind f is))
    further true rest = any_put_before p t x is ∙ ap (λ b. b || list_any p is) none
    further false rest = rest

    by_test : (b : Bool) → list_any p (behind f (put_before t x is)) ≡ list_any p (behind f is) → list_any p (behind f (if b then x ∷ i ∷ is else i ∷ put_before t x is)) ≡ list_any p (behind f (i ∷ is))
    by_test true rest = ap (λ b. list_any p (cond b (i ∷ is) (behind f (i ∷ is)))) apart
    by_test false rest = further (is_ran f i) rest

-- .. where another run is placed
behind_insert : (p : Item → Bool) (f : ℕ) (x : Item) (front back : List Item) → is_ran f x ≡ false → list_any p (behind f (front ++ back)) ≡ true → list_any p (behind f (front ++ x ∷ back)) ≡ true
behind_insert p f x [] back apart there = ap (λ b. list_any p (cond b back (behind f back))) apart ∙ there
behind_insert p f x (i ∷ is) back apart there = further (is_ran f i) (λ e. behind_insert p f x is back apart e) there
  where
    further : (b : Bool) → (list_any p (behind f (is ++ back)) ≡ true → list_any p (behind f (is ++ x ∷ back)) ≡ true) → list_any p (cond b (is ++ back) (behind f (is ++ back))) ≡ true → list_any p (cond b (is ++ x ∷ back) (behind f (is ++ x ∷ back))) ≡ true
    further true rest e = any_insert p is back x ∙ ap (λ b. p x || b) e ∙ or-true (p x)
    further false rest e = rest e

-- .. where it stands in the front
behind_front : (p : Item → Bool) (f : ℕ) (front back : List Item) → list_any (is_ran f) front ≡ true → list_any p back ≡ true → list_any p (behind f (front ++ back)) ≡ true
behind_front p f [] back there some = absurd (cc)
behind_front p f (i ∷ is) back there some = further (is_ran f i) there (λ e. behind_front p f is back e some)
  where
    further : (b : Bool) → (b || list_any (is_ran f) is) ≡ true → (list_any (is_ran f) is ≡ true → list_any p (behind f (is ++ back)) ≡ true) → list_any p (cond b (is ++ back) (behind f (is ++ back))) ≡ true
    further true e rest = list_any-append p is back ∙ ap (λ b. list_any p is || b) some ∙ or-true (list_any p is)
    further false e rest = rest e

-- .. where another run leaves the line
behind_without : (r f : ℕ) (line : List Item) → f ≢ r → behind f (without r line) ≡ without r (behind f line)
behind_without r f [] other = refl
behind_without r f (i ∷ is) other = elim (is_ran r i) as (λ b. is_ran r i ≡ b → behind f (cond (not b) (i ∷ without r is) (without r is)) ≡ without r (cond (is_ran f i) is (behind f is))) [
  | true ↦ (λ e. behind_without r f is other ∙ sym (ap (λ b. without r (cond b is (behind f is))) (not_f i e)))
  | false ↦ (λ e. further (is_ran f i) (behind_without r f is other))
] refl
  where
    not_f : (j : Item) → is_ran r j ≡ true → is_ran f j ≡ false
    not_f (Ran x) e = let at : x.0 ≡ r = grind (arith, common_steps) in let apart : x.0 ≢ f = (λ same. other (sym same ∙ at)) in grind (arith, common_steps)
    not_f (Failed d k) e = refl
    not_f (Back d k) e = refl

    further : (b : Bool) → behind f (without r is) ≡ without r (behind f is) → cond b (without r is) (behind f (without r is)) ≡ without r (cond b is (behind f is))
    further true rest = refl
    further false rest = rest

-- Entries that place no run

-- a reading with no run more that is placed, with each end that there was, and with the runs of the line as they stood
record StandsOn (n m : Reading) : Type 0 where
  placed : (q : ℕ) → is_some (m.run q).placed ≡ true → is_some (n.run q).placed ≡ true
  ended : (q : ℕ) → is_some (n.run q).ended ≡ true → is_some (m.run q).ended ≡ true
  there : (q : ℕ) → is_in_line m q ≡ true → is_in_line n q ≡ true
  order : (q f : ℕ) → is_in_line m q ≡ true → is_in_line m f ≡ true → list_any (is_ran q) (behind f n.line) ≡ true → list_any (is_ran q) (behind f m.line) ≡ true

stands_on : (w : Setting) (n m : Reading) → StandsOn n m → FollowersStand w n → FollowersStand w m
stands_on w n m on all =
    record {
      ended = λ r f leads placed. on.ended f.0 (all.ended r f leads (on.placed r placed));
      behind_it = λ r f leads here there. on.order r f.0 here there (all.behind_it r f leads (on.there r here) (on.there f.0 there));
    }

-- something more of one run, which leaves its place and its end
more_known : (n m : Reading) (r : ℕ) (o : OfRun) → m.line ≡ n.line → m.run ≡ put n.run r o → o.placed ≡ (n.run r).placed → (is_some (n.run r).ended ≡ true → is_some o.ended ≡ true) → StandsOn n m
more_known n m r o line run placed ended =
    record {
      placed = λ q now. sym (ap (λ f. is_some (f q).placed) run ∙ put_keeps (λ x. is_some x.placed) n.run r o (ap is_some placed) q) ∙ now;
      ended = λ q was. ap (λ f. is_some (f q).ended) run ∙ put_all (λ k x. is_some (n.run k).ended ≡ true → is_some x.ended ≡ true) n.run r o (λ k e. e) ended q was;
      there = λ q here. sym (ap (list_any (is_ran q)) line) ∙ here;
      order = λ q f here there e. ap (λ l. list_any (is_ran q) (behind f l)) line ∙ e;
    }

-- an event that comes into the line
event_comes : (n m : Reading) (t : Item → Bool) (x : Item) → m.run ≡ n.run → m.line ≡ put_before t x n.line → ((q : ℕ) → is_ran q x ≡ false) → StandsOn n m
event_comes n m t x run line none =
    record {
      placed = λ q now. sym (ap (λ f. is_some (f q).placed) run) ∙ now;
      ended = λ q was. ap (λ f. is_some (f q).ended) run ∙ was;
      there = λ q here. sym (ap (list_any (is_ran q)) line ∙ any_put_before (is_ran q) t x n.line ∙ ap (λ b. b || list_any (is_ran q) n.line) (none q)) ∙ here;
      order = λ q f here there e. ap (λ l. list_any (is_ran q) (behind f l)) line ∙ behind_event (is_ran q) f t x n.line (none f) (none q) ∙ e;
    }

-- an aborted run that leaves it
run_leaves : (n m : Reading) (r : ℕ) (o : OfRun) → m.line ≡ without r n.line → m.run ≡ put n.run r o → o.placed ≡ (n.run r).placed → is_some o.ended ≡ true → StandsOn n m
run_leaves n m r o line run placed ended =
    record {
      placed = λ q now. sym (ap (λ f. is_some (f q).placed) run ∙ put_keeps (λ x. is_some x.placed) n.run r o (ap is_some placed) q) ∙ now;
      ended = λ q was. ap (λ f. is_some (f q).ended) run ∙ put_all (λ k x. is_some (n.run k).ended ≡ true → is_some x.ended ≡ true) n.run r o (λ k e. e) (λ e. ended) q was;
      there = λ q here. sym (ap (list_any (is_ran q)) line ∙ any_other q r n.line (apart q here)) ∙ here;
      order = λ q f here there e. ap (λ l. list_any (is_ran q) (behind f l)) line ∙ ap (list_any (is_ran q)) (behind_without r f n.line (apart f there)) ∙ any_other q r (behind f n.line) (apart q here) ∙ e;
    }
  where
    apart : (q : ℕ) → is_in_line m q ≡ true → q ≢ r
    apart q here same = let both : true ≡ false = sym here ∙ ap (list_any (is_ran q)) line ∙ ap (λ k. list_any (is_ran k) (without r n.line)) same ∙ any_without r n.line in cc

abbrev pub is_placing : Entry → Bool
is_placing (Arrived r m) = false
is_placing (Placed r at m) = true
is_placing (Did r c a) = false
is_placing (Undid r d drove) = false
is_placing (Fell d) = false
is_placing (Rose d) = false
is_placing (Doomed r cause) = false
is_placing (Ended r e) = false

pub followed_step : (w : Setting) (n : Reading) (e : Entry) → is_placing e ≡ false → FollowersStand w n → FollowersStand w (entry w n e)
followed_step w n (Arrived r m) none all = stands_on w n _ (more_known n (entry w n (Arrived r m)) r.0 _ refl refl refl (λ e. e)) all
followed_step w n (Placed r at m) none all = absurd (cc)
followed_step w n (Did r c a) none all = stands_on w n _ (more_known n (entry w n (Did r c a)) r.0 _ refl refl refl (λ e. e)) all
followed_step w n (Undid r d drove) none all = stands_on w n _ (more_known n (entry w n (Undid r d drove)) r.0 _ refl refl refl (λ e. e)) all
followed_step w n (Fell d) none all = stands_on w n _ (event_comes n (entry w n (Fell d)) _ _ refl refl (λ q. refl)) all
followed_step w n (Rose d) none all = stands_on w n _ (event_comes n (entry w n (Rose d)) _ _ refl refl (λ q. refl)) all
followed_step w n (Doomed r cause) none all = stands_on w n _ (more_known n (entry w n (Doomed r cause)) r.0 _ refl refl refl (λ e. e)) all
followed_step w n (Ended r Committed) none all = stands_on w n _ (more_known n (entry w n (Ended r Committed)) r.0 _ refl refl refl (λ e. refl)) all
followed_step w n (Ended r (Aborted cause)) none all = stands_on w n _ (run_leaves n (entry w n (Ended r (Aborted cause))) r.0 _ refl refl refl refl) all

-- A run that is placed

-- the run that it follows has ended, where it waits for none
leader_ended : (w : Setting) (n : Reading) (r : ℕ) (f : RunNo) → follow_wait w n r ≡ None → followed_by w.runs r ≡ Some f → is_some (n.run f.0).ended ≡ true
leader_ended w n r f none leads = by_end (n.run f.0).ended (ap unended (sym leads) ∙ none)
  where
    unended : Option RunNo → Option RunNo
    unended None = None
    unended (Some x) = if is_none (n.run x.0).ended then Some x else None

    by_end : (o : Option End) → (if is_none o then Some f else None) ≡ None → is_some o ≡ true
    by_end None e = absurd (cc)
    by_end (Some x) e = refl

-- a run that binds is none of the items that do not
unbound : (w : Setting) (n : Reading) (g : Grips) (r f : ℕ) (items : List Item) → (follows w.runs r f && is_committed n f) ≡ true → list_any (binds (point w n g) r) items ≡ false → list_any (is_ran f) items ≡ false
unbound w n g r f [] bound none = refl
unbound w n g r f (Ran x ∷ is) bound none = elim (x.0 == f) as (λ b. (x.0 == f) ≡ b → (b || list_any (is_ran f) is) ≡ false) [
  | true ↦ (λ e. let same : x.0 ≡ f = grind (arith, common_steps) in let here : (follows w.runs r x.0 && is_committed n x.0) ≡ true = ap (λ k. follows w.runs r k && is_committed n k) same ∙ bound in absurd (grind (arith, common_steps)))
  | false ↦ (λ e. unbound w n g r f is bound (grind (arith, common_steps)))
] refl
unbound w n g r f (Failed d k ∷ is) bound none = unbound w n g r f is bound (grind (arith, common_steps))
unbound w n g r f (Back d k ∷ is) bound none = unbound w n g r f is bound (grind (arith, common_steps))

pub followed_placed : (w : Setting) (n : Reading) (g : Grips) (r at m : ℕ) → Standing n → is_none (n.run r).placed ≡ true → IsPlacing (point w n g) r at m → FollowersStand w n → FollowersStand w (entry w n (Placed (run_no r) at m))
unfolding split_of
followed_placed w n g r at m stands unplaced place all = record { ended = ends; behind_it = stands_behind }
  where
    next : Reading
    next = entry w n (Placed (run_no r) at m)

    new : OfRun
    new = record (n.run r) { placed = Some (record { place = at; moment = m; stamp = n.size }); planned = planned_times w n r (front_for w n r at m) m }

    line : List Item
    line = line_for w n r m

    front : List Item
    front = take at line

    back : List Item
    back = drop at line

    parted : front ++ back ≡ line
    parted = take-append-drop at line

    end_is : (q : ℕ) → is_some (next.run q).ended ≡ is_some (n.run q).ended
    end_is q = put_keeps (λ o. is_some o.ended) n.run r new refl q

    going : is_some (n.run r).ended ≡ true → ⊥
    going over = clash (n.run r).placed (n.run r).ended unplaced over (stands.begun r)
      where
        clash : (p : Option PlacedAt) (e : Option End) → is_none p ≡ true → is_some e ≡ true → (is_some p || is_none e) ≡ true → ⊥
        clash None None a b c = absurd (cc)
        clash None (Some x) a b c = absurd (cc)
        clash (Some p) e a b c = absurd (cc)

    ends : (q : ℕ) (f : RunNo) → followed_by w.runs q ≡ Some f → is_some (next.run q).placed ≡ true → is_some (next.run f.0).ended ≡ true
    ends q f leads now = end_is f.0 ∙ elim (q == r) as (λ b. (q == r) ≡ b → is_some (n.run f.0).ended ≡ true) [
      | true ↦ (λ e. let same : q ≡ r = grind (arith, common_steps) in leader_ended w n r f place.leader (ap (followed_by w.runs) (sym same) ∙ leads))
      | false ↦ (λ e. let other : q ≢ r = grind (arith, common_steps) in all.ended q f leads (sym (ap (λ o. is_some o.placed) (put_other n.run r new q other)) ∙ now))
    ] refl

    there_is : (q : ℕ) → is_in_line next q ≡ ((r == q) || is_in_line n q)
    there_is q = any_insert (is_ran q) front back (Ran (run_no r)) ∙ ap (λ b. (r == q) || b) (ap (list_any (is_ran q)) parted ∙ line_any w n r m (is_ran q))

    -- a run of the line that has ended is committed
    committed : (q : ℕ) → is_in_line n q ≡ true → is_some (n.run q).ended ≡ true → is_committed n q ≡ true
    committed q here over = by_end (is_some (n.run q).placed) (n.run q).ended (sym (stands.line q) ∙ here) over
      where
        by_end : (p : Bool) (o : Option End) → (p && not (unwrap_or (option_map is_abort o) false)) ≡ true → is_some o ≡ true → unwrap_or (option_map is_committing o) false ≡ true
        by_end p None a b = absurd (cc)
        by_end p (Some Committed) a b = refl
        by_end true (Some (Aborted cause)) a b = absurd (cc)
        by_end false (Some (Aborted cause)) a b = absurd (cc)

    -- the run stands behind the one that it follows, which binds
    behind_leader : (f : ℕ) → follows w.runs r f ≡ true → is_in_line n f ≡ true → is_some (n.run f).ended ≡ true → list_any (is_ran r) (behind f next.line) ≡ true
    behind_leader f leads here over =
        let done : is_committed n f ≡ true = committed f here over in
        let bound : (follows w.runs r f && is_committed n f) ≡ true = rw (leads, done) refl in
        behind_front (is_ran r) f front (Ran (run_no r) ∷ back) (any_left (is_ran f) at line (line_any w n r m (is_ran f) ∙ here) (unbound w (in_order n line) g r f back bound place.clear)) (itself (list_any (is_ran r) back))
      where
        itself : (b : Bool) → ((r == r) || b) ≡ true
        itself b = grind (arith, common_steps)

    apart_in : (q : ℕ) → (r == q) ≡ false → is_in_line next q ≡ true → is_in_line n q ≡ true
    apart_in q other here = let one : ((r == q) || is_in_line n q) ≡ true = sym (there_is q) ∙ here in grind (arith, common_steps)

    placed_in : (q : ℕ) → is_in_line n q ≡ true → is_some (n.run q).placed ≡ true
    placed_in q here = (and_parts (is_some (n.run q).placed) (not (unwrap_or (option_map is_abort (n.run q).ended) false)) (sym (stands.line q) ∙ here)).0

    leads_to : (q : ℕ) (f : RunNo) → followed_by w.runs q ≡ Some f → follows w.runs q f.0 ≡ true
    leads_to q f leads = ap (λ o. unwrap_or (option_map (λ q. q.0 == f.0) o) false) leads ∙ eq-eqb f.0 _ refl

    stands_behind : (q : ℕ) (f : RunNo) → followed_by w.runs q ≡ Some f → is_in_line next q ≡ true → is_in_line next f.0 ≡ true → list_any (is_ran q) (behind f.0 next.line) ≡ true
    stands_behind q f leads here there = elim (r == f.0) as (λ b. (r == f.0) ≡ b → list_any (is_ran q) (behind f.0 next.line) ≡ true) [
      | true ↦ (λ e. let same : f.0 ≡ r = grind (arith, common_steps) in absurd (going (subst (λ k. is_some (n.run k).ended ≡ true) same (sym (end_is f.0) ∙ ends q f leads (placed_next q here)))))
      | false ↦ (λ e. by_run (apart_in f.0 e there) e)
    ] refl
      where
        placed_next : (q : ℕ) → is_in_line next q ≡ true → is_some (next.run q).placed ≡ true
        placed_next q here = elim (q == r) as (λ b. (q == r) ≡ b → is_some (if b then new else n.run q).placed ≡ true) [
          | true ↦ (λ e. refl)
          | false ↦ (λ e. placed_in q (apart_in q (grind (arith, common_steps)) here))
        ] refl

        by_run : is_in_line n f.0 ≡ true → (r == f.0) ≡ false → list_any (is_ran q) (behind f.0 next.line) ≡ true
        by_run was apart = elim (r == q) as (λ b. (r == q) ≡ b → list_any (is_ran q) (behind f.0 next.line) ≡ true) [
          | true ↦ (λ e. let same : r ≡ q = grind (arith, common_steps) in
              let of_r : followed_by w.runs r ≡ Some f = ap (followed_by w.runs) same ∙ leads in
              subst (λ k. list_any (is_ran k) (behind f.0 next.line) ≡ true) same (behind_leader f.0 (leads_to r f of_r) was (leader_ended w n r f place.leader of_r)))
          | false ↦ (λ e. behind_insert (is_ran q) f.0 (Ran (run_no r)) front back apart (ap (λ l. list_any (is_ran q) (behind f.0 l)) parted ∙ line_follows w n r m q f.0 (leads_to q f leads) (all.behind_it q f leads (apart_in q e here) was)))
        ] refl

-- At the start, and at the end

-- no run is placed yet
pub none_placed : (w : Setting) → FollowersStand w (nothing_read w)
none_placed w = record { ended = λ r f leads placed. absurd (cc); behind_it = λ r f leads here there. absurd (cc) }

-- a committed run stands behind the committed run that it follows
pub committed_behind : (w : Setting) (n : Reading) → Standing n → FollowersStand w n → (r f : ℕ) → IsTrue (follows w.runs r f && is_committed n r && is_committed n f) → IsTrue (list_any (is_ran r) (behind f n.line))
committed_behind w n stands all r f committed = by_leader (followed_by w.runs r) refl leads
  where
    leads : follows w.runs r f ≡ true
    leads = grind (arith, common_steps, committed)

    follower : is_committed n r ≡ true
    follower = grind (arith, common_steps, committed)

    leader : is_committed n f ≡ true
    leader = grind (arith, common_steps, committed)

    -- a committed run stands in the line
    there : (q : ℕ) → is_committed n q ≡ true → is_in_line n q ≡ true
    there q done = stands.line q ∙ by_end (n.run q).placed (n.run q).ended (stands.begun q) done
      where
        by_end : (p : Option PlacedAt) (o : Option End) → (is_some p || is_none o) ≡ true → unwrap_or (option_map is_committing o) false ≡ true → (is_some p && not (unwrap_or (option_map is_abort o) false)) ≡ true
        by_end p None begun done = absurd (cc)
        by_end None (Some Committed) begun done = absurd (cc)
        by_end (Some p) (Some Committed) begun done = refl
        by_end p (Some (Aborted cause)) begun done = absurd (cc)

    by_leader : (o : Option RunNo) → followed_by w.runs r ≡ o → unwrap_or (option_map (λ q. q.0 == f) o) false ≡ true → list_any (is_ran r) (behind f n.line) ≡ true
    by_leader None e h = absurd (cc)
    by_leader (Some q) e h =
        let same : q.0 ≡ f = grind (arith, common_steps) in
        subst (λ k. list_any (is_ran r) (behind k n.line) ≡ true) same (all.behind_it r q e (there r follower) (there q.0 (ap (is_committed n) same ∙ leader)))
