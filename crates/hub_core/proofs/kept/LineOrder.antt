-- The order of a line in which each run was placed before the runs behind it.
use Rattle.command_rules.specs.ClosedSets.{rearranged}
use Rattle.hub_core.proofs.Prelude.{Arrived, Back, Bool, Did, Doomed, Ended, Entry, Failed, Fcfs, Fell, IsTrue, Item, JustInTime, Kind, List, None, OfRun, Option, Placed, PlacedAt, Ran, Reading, Rose, Run, Scheduler, Setting, Some, Stand, Timeline, Undid, Visibility, [], ap, arith, before, common_steps, cond, cons_option, drop, entry, false, find, fold, gap_set, if◌then◌else◌, is_live, is_placed_later, is_ran, is_some, length, list_all, list_any, live_before, live_runs, nat_lt, not, nothing_read, option_map, placed_in_order, put, put_all, range_with_len, reading, refl, run_no, scheduler_of, shares, split_of, stamp_of, strict_wait, subst, sym, take, take_while-cons, true, unwrap_or, without, ℕ, ◌&&◌, ◌++◌, ◌+◌, ◌==◌, ◌||◌, ◌∙◌, ◌∷◌, ◌≡◌, ◌≢◌}
use Rattle.home_types.specs.declared.modes.Visibility.TheVariants.{Eventual, Global, Partitioned, Weak}
use Rattle.hub_core.proofs.windows.StrongChoices.{placed_after}
use Rattle.legal_days.specs.Isolation.{is_alone, is_placed_before}

-- Stamps

-- the run was placed after fewer entries than these
abbrev pub is_stamped : ℕ → OfRun → Bool
is_stamped size o = unwrap_or (option_map (λ p. nat_lt p.stamp size) o.placed) true

-- each run that is placed was placed after fewer entries than there are
abbrev pub StampsAreBelow : Reading → Type 0
StampsAreBelow n = (r : ℕ) → is_stamped n.size (n.run r) ≡ true

stamped_more : (o : OfRun) (size : ℕ) → is_stamped size o ≡ true → is_stamped (size + 1) o ≡ true
stamped_more o size e = by_place o.placed e
  where
    by_place : (p : Option PlacedAt) → unwrap_or (option_map (λ x. nat_lt x.stamp size) p) true ≡ true → unwrap_or (option_map (λ x. nat_lt x.stamp (size + 1)) p) true ≡ true
    by_place None f = refl
    by_place (Some p) f = grind (arith, common_steps)

-- one run more is known
stamps_put : (n m : Reading) (r : ℕ) (o : OfRun) → m.size ≡ n.size + 1 → m.run ≡ put n.run r o → is_stamped (n.size + 1) o ≡ true → StampsAreBelow n → StampsAreBelow m
stamps_put n m r o size run new s q = rw (size, run) (put_all (λ k x. is_stamped (n.size + 1) x ≡ true) n.run r o (λ k. stamped_more (n.run k) n.size (s k)) new q)

stamps_step : (w : Setting) (n : Reading) (e : Entry) → StampsAreBelow n → StampsAreBelow (entry w n e)
stamps_step w n (Arrived r m) s = stamps_put n (entry w n (Arrived r m)) r.0 _ refl refl (stamped_more (n.run r.0) n.size (s r.0)) s
stamps_step w n (Placed r at m) s = stamps_put n (entry w n (Placed r at m)) r.0 _ refl refl (grind (arith, common_steps)) s
stamps_step w n (Did r c a) s = stamps_put n (entry w n (Did r c a)) r.0 _ refl refl (stamped_more (n.run r.0) n.size (s r.0)) s
stamps_step w n (Undid r d drove) s = stamps_put n (entry w n (Undid r d drove)) r.0 _ refl refl (stamped_more (n.run r.0) n.size (s r.0)) s
stamps_step w n (Fell d) s = λ q. stamped_more (n.run q) n.size (s q)
stamps_step w n (Rose d) s = λ q. stamped_more (n.run q) n.size (s q)
stamps_step w n (Doomed r cause) s = stamps_put n (entry w n (Doomed r cause)) r.0 _ refl refl (stamped_more (n.run r.0) n.size (s r.0)) s
stamps_step w n (Ended r e) s = stamps_put n (entry w n (Ended r e)) r.0 _ refl refl (stamped_more (n.run r.0) n.size (s r.0)) s

stamps_from : (w : Setting) (n : Reading) (h : List Entry) → StampsAreBelow n → StampsAreBelow (fold (entry w) n h)
stamps_from w n [] s = s
stamps_from w n (e ∷ h) s = stamps_from w (entry w n e) h (stamps_step w n e s)

pub stamps_below : (w : Setting) (h : List Entry) → StampsAreBelow (reading w h)
stamps_below w h = stamps_from w (nothing_read w) h (λ r. refl)

-- The order of placings

-- it is told by the stamps alone
pub same_order : (n m : Reading) (line : List Item) → ((q : ℕ) → stamp_of m q ≡ stamp_of n q) → placed_in_order m line ≡ placed_in_order n line
same_order n m [] same = refl
same_order n m (Ran r ∷ is) same = rw (same_order n m is same, same r.0, same_later is) refl
  where
    same_later : (line : List Item) → list_all (is_placed_later m (stamp_of n r.0)) line ≡ list_all (is_placed_later n (stamp_of n r.0)) line
    same_later [] = refl
    same_later (Ran q ∷ rest) = rw (same q.0, same_later rest) refl
    same_later (Failed d k ∷ rest) = same_later rest
    same_later (Back d k ∷ rest) = same_later rest
same_order n m (Failed d k ∷ is) same = same_order n m is same
same_order n m (Back d k ∷ is) same = same_order n m is same

-- the run stands at the end, where runs are served as they come
pub end_line : (w : Setting) (n : Reading) (r m : ℕ) → scheduler_of w.mode ≡ Fcfs → (entry w n (Placed (run_no r) (length n.line) m)).line ≡ n.line ++ Ran (run_no r) ∷ []
unfolding split_of
end_line w n r m first = ap (λ l. take (length n.line) l ++ Ran (run_no r) ∷ drop (length n.line) l) (ap line first) ∙ by_line n.line
  where
    line : Scheduler → List Item
    line Fcfs = n.line
    line JustInTime = n.line
    line Timeline = rearranged (gap_set w n r m) n.line

    by_line : (line : List Item) → take (length line) line ++ Ran (run_no r) ∷ drop (length line) line ≡ line ++ Ran (run_no r) ∷ []
    by_line [] = refl
    by_line (i ∷ is) = ap (λ l. i ∷ l) (by_line is)

-- a run that is placed at the end is the last one by its stamp
pub order_at_end : (n m : Reading) (r : ℕ) (line : List Item) → ((q : ℕ) → q ≢ r → stamp_of m q ≡ stamp_of n q)
    → ((q : ℕ) → list_any (is_ran q) line ≡ true → (q ≢ r) × (nat_lt (stamp_of m q) (stamp_of m r) ≡ true)) → IsTrue (placed_in_order n line)
    → IsTrue (placed_in_order m (line ++ Ran (run_no r) ∷ []))
order_at_end n m r [] same below ordered = refl
order_at_end n m r (Ran x ∷ is) same below ordered =
    let here : (x.0 ≢ r) × (nat_lt (stamp_of m x.0) (stamp_of m r) ≡ true) = below x.0 (grind (arith, common_steps)) in
    let rest : IsTrue (placed_in_order m (is ++ Ran (run_no r) ∷ [])) = order_at_end n m r is same (λ q there. below q (rw there (grind (arith, common_steps)))) (grind (arith, common_steps)) in
    let behind' : IsTrue (list_all (is_placed_later m (stamp_of m x.0)) (is ++ Ran (run_no r) ∷ [])) = later_more is (λ q there. below q (rw there (grind (arith, common_steps)))) (same x.0 here.0) here.1 (grind (arith, common_steps)) in
    rw (rest, behind') refl
  where
    later_more : (line : List Item) → ((q : ℕ) → list_any (is_ran q) line ≡ true → (q ≢ r) × (nat_lt (stamp_of m q) (stamp_of m r) ≡ true)) → stamp_of m x.0 ≡ stamp_of n x.0 → nat_lt (stamp_of m x.0) (stamp_of m r) ≡ true
        → IsTrue (list_all (is_placed_later n (stamp_of n x.0)) line) → IsTrue (list_all (is_placed_later m (stamp_of m x.0)) (line ++ Ran (run_no r) ∷ []))
    later_more [] under own last all = rw last refl
    later_more (Ran q ∷ rest) under own last all =
        let now : stamp_of m q.0 ≡ stamp_of n q.0 = same q.0 ((under q.0 (grind (arith, common_steps))).0) in
        let more : IsTrue (list_all (is_placed_later m (stamp_of m x.0)) (rest ++ Ran (run_no r) ∷ [])) = later_more rest (λ k there. under k (rw there (grind (arith, common_steps)))) own last (grind (arith, common_steps)) in
        rw (more, own, now) (grind (arith, common_steps))
    later_more (Failed d k ∷ rest) under own last all = later_more rest under own last all
    later_more (Back d k ∷ rest) under own last all = later_more rest under own last all
order_at_end n m r (Failed d k ∷ is) same below ordered = order_at_end n m r is same below ordered
order_at_end n m r (Back d k ∷ is) same below ordered = order_at_end n m r is same below ordered

-- a run that was placed before r stands before r
pub stands_before : (n : Reading) (a r : ℕ) (line : List Item) → IsTrue (placed_in_order n line) → list_any (is_ran a) line ≡ true → list_any (is_ran r) line ≡ true → nat_lt (stamp_of n a) (stamp_of n r) ≡ true → list_any (is_ran a) (before r line) ≡ true
stands_before n a r [] ordered there stands less = absurd (cc)
stands_before n a r (Ran x ∷ is) ordered there stands less = subst (λ l. list_any (is_ran a) l ≡ true) (sym (take_while-cons (λ i. not (is_ran r i)) (Ran x) is)) (elim (x.0 == r) as (λ b. (x.0 == r) ≡ b → list_any (is_ran a) (cond (not b) (Ran x ∷ before r is) []) ≡ true) [
  | true ↦ (λ e. absurd (first e))
  | false ↦ (λ e. elim (x.0 == a) as (λ b. (x.0 == a) ≡ b → (b || list_any (is_ran a) (before r is)) ≡ true) [
    | true ↦ (λ f. refl)
    | false ↦ (λ f. stands_before n a r is (grind (arith, common_steps)) (grind (arith, common_steps)) (grind (arith, common_steps)) less)
  ] refl)
] refl)
  where
    first : (x.0 == r) ≡ true → ⊥
    first e =
        let same : x.0 ≡ r = grind (arith, common_steps) in
        elim (x.0 == a) as (λ b. (x.0 == a) ≡ b → ⊥) [
          | true ↦ (λ f. let also : x.0 ≡ a = grind (arith, common_steps) in let self : nat_lt (stamp_of n a) (stamp_of n a) ≡ true = subst (λ q. nat_lt (stamp_of n a) (stamp_of n q) ≡ true) (sym same ∙ also) less in grind (arith, common_steps))
          | false ↦ (λ f.
              let behind' : nat_lt (stamp_of n x.0) (stamp_of n a) ≡ true = placed_after n a (stamp_of n x.0) is (grind (arith, common_steps)) (grind (arith, common_steps)) in
              let over : nat_lt (stamp_of n r) (stamp_of n a) ≡ true = subst (λ q. nat_lt (stamp_of n q) (stamp_of n a) ≡ true) same behind' in
              grind (arith, common_steps))
        ] refl
stands_before n a r (Failed d k ∷ is) ordered there stands less = subst (λ l. list_any (is_ran a) l ≡ true) (sym (take_while-cons (λ i. not (is_ran r i)) (Failed d k) is)) (stands_before n a r is (grind (arith, common_steps)) there stands less)
stands_before n a r (Back d k ∷ is) ordered there stands less = subst (λ l. list_any (is_ran a) l ≡ true) (sym (take_while-cons (λ i. not (is_ran r i)) (Back d k) is)) (stands_before n a r is (grind (arith, common_steps)) there stands less)

-- Runs that act alone

-- where none passes, the first does not, and none behind it does
head : (p : ℕ → Bool) (x : ℕ) (b : Bool) (xs : List ℕ) → cond b (Some x) (find p xs) ≡ None → b ≡ false
head p x true xs e = absurd (cc)
head p x false xs e = refl

tail : (p : ℕ → Bool) (x : ℕ) (b : Bool) (xs : List ℕ) → cond b (Some x) (find p xs) ≡ None → find p xs ≡ None
tail p x true xs e = absurd (cc)
tail p x false xs e = e

rest : (p : ℕ → Bool) (x : ℕ) (xs : List ℕ) (b : Bool) → find p (cons_option (if b then Some x else None) xs) ≡ None → find p xs ≡ None
rest p x xs true e = tail p x (p x) xs e
rest p x xs false e = e

-- where no live run of the items passes, a run among them that does has ended
none_live : (n : Reading) (p : ℕ → Bool) (a : ℕ) (items : List Item) → find p (live_runs n items) ≡ None → list_any (is_ran a) items ≡ true → is_live n a ≡ true → p a ≡ false
none_live n p a [] none there live = absurd (cc)
none_live n p a (Ran x ∷ is) none there live = elim (x.0 == a) as (λ b. (x.0 == a) ≡ b → p a ≡ false) [
  | true ↦ (λ e. let same : x.0 ≡ a = grind (arith, common_steps) in subst (λ q. p q ≡ false) same (here (subst (λ q. is_live n q ≡ true) (sym same) live) none))
  | false ↦ (λ e. none_live n p a is (rest p x.0 (live_runs n is) (is_live n x.0) none) (grind (arith, common_steps)) live)
] refl
  where
    here : is_live n x.0 ≡ true → find p (cons_option (if is_live n x.0 then Some x.0 else None) (live_runs n is)) ≡ None → p x.0 ≡ false
    here now e = head p x.0 (p x.0) (live_runs n is) (subst (λ b. find p (cons_option (if b then Some x.0 else None) (live_runs n is)) ≡ None) now e)
none_live n p a (Failed d k ∷ is) none there live = none_live n p a is none there live
none_live n p a (Back d k ∷ is) none there live = none_live n p a is none there live

-- what is known of a line and a run of it
pub record LineIsKnown (n : Reading) (r : ℕ) : Type 0 where
  pub in_order : IsTrue (placed_in_order n n.line)
  pub there : list_any (is_ran r) n.line ≡ true
  pub live : (q : ℕ) → is_live n q ≡ true → list_any (is_ran q) n.line ≡ true

all_true : (p : ℕ → Bool) (xs : List ℕ) → ((x : ℕ) → p x ≡ true) → IsTrue (list_all p xs)
all_true p [] all = refl
all_true p (x ∷ xs) all = rw (all x, all_true p xs all) refl

ended_before : (n : Reading) (p : ℕ → Bool) (r a : ℕ) → LineIsKnown n r → find p (live_before n r) ≡ None → (not (is_placed_before n a r && p a) || is_some (n.run a).ended) ≡ true
ended_before n p r a known none = elim (is_placed_before n a r) as (λ b. is_placed_before n a r ≡ b → (not (b && p a) || is_some (n.run a).ended) ≡ true) [
  | false ↦ (λ e. refl)
  | true ↦ (λ e. elim (is_live n a) as (λ b. is_live n a ≡ b → (not (p a) || is_some (n.run a).ended) ≡ true) [
    | true ↦ (λ live. let passes : p a ≡ false = none_live n p a (before r n.line) none (stands_before n a r n.line known.in_order (known.live a live) known.there (grind (arith, common_steps))) live in rw passes refl)
    | false ↦ (λ gone. grind (arith, common_steps))
  ] refl)
] refl

none_excluded : (placed ended : Bool) → (not (placed && false) || ended) ≡ true
none_excluded true ended = refl
none_excluded false ended = refl

-- a run that waits for no run by its model is alone
pub is_alone_by : (runs : List Run) (kinds : List Kind) (first : List Stand) (model : Visibility) (scheduler : Scheduler) (n : Reading) (r : ℕ) → LineIsKnown n r
    → strict_wait (record { runs = runs; mode = record { model = model; scheduler = scheduler }; kinds = kinds; first = first }) n r ≡ None
    → IsTrue (is_alone (record { runs = runs; mode = record { model = model; scheduler = scheduler }; kinds = kinds; first = first }) n r)
is_alone_by runs kinds first Weak scheduler n r known none = all_true (λ a. not (is_placed_before n a r && false) || is_some (n.run a).ended) (range_with_len 1 (length runs)) (λ a. none_excluded (is_placed_before n a r) (is_some (n.run a).ended))
is_alone_by runs kinds first Global scheduler n r known none = all_true _ _ (λ a. ended_before n (λ x. true) r a known none)
is_alone_by runs kinds first Partitioned scheduler n r known none = all_true _ _ (λ a. ended_before n (λ x. shares runs x r) r a known none)
is_alone_by runs kinds first Eventual scheduler n r known none = all_true (λ a. not (is_placed_before n a r && false) || is_some (n.run a).ended) (range_with_len 1 (length runs)) (λ a. none_excluded (is_placed_before n a r) (is_some (n.run a).ended))

-- The wait for runs before it, when fewer runs are live

fewer_live : (n m : Reading) (p : ℕ → Bool) (items : List Item) → ((x : ℕ) → list_any (is_ran x) items ≡ true → is_live m x ≡ true → is_live n x ≡ true) → find p (live_runs n items) ≡ None → find p (live_runs m items) ≡ None
fewer_live n m p [] fewer none = refl
fewer_live n m p (Ran x ∷ is) fewer none = elim (is_live m x.0) as (λ b. is_live m x.0 ≡ b → find p (cons_option (if b then Some x.0 else None) (live_runs m is)) ≡ None) [
  | true ↦ (λ now. let before' : is_live n x.0 ≡ true = fewer x.0 (grind (arith, common_steps)) now in
      let all : find p (x.0 ∷ live_runs n is) ≡ None = subst (λ b. find p (cons_option (if b then Some x.0 else None) (live_runs n is)) ≡ None) before' none in
      let passes : p x.0 ≡ false = head p x.0 (p x.0) (live_runs n is) all in rw passes (fewer_live n m p is less (tail p x.0 (p x.0) (live_runs n is) all)))
  | false ↦ (λ gone. fewer_live n m p is less (rest p x.0 (live_runs n is) (is_live n x.0) none))
] refl
  where
    less : (q : ℕ) → list_any (is_ran q) is ≡ true → is_live m q ≡ true → is_live n q ≡ true
    less q there now = fewer q (rw there (grind (arith, common_steps))) now
fewer_live n m p (Failed d k ∷ is) fewer none = fewer_live n m p is fewer none
fewer_live n m p (Back d k ∷ is) fewer none = fewer_live n m p is fewer none

-- a run that waits for none waits for none where fewer of the runs before it are live
pub strict_fewer_by : (runs : List Run) (kinds : List Kind) (first : List Stand) (model : Visibility) (scheduler : Scheduler) (n m : Reading) (r : ℕ) → live_before m r ≡ live_runs m (before r n.line)
    → ((x : ℕ) → list_any (is_ran x) (before r n.line) ≡ true → is_live m x ≡ true → is_live n x ≡ true)
    → strict_wait (record { runs = runs; mode = record { model = model; scheduler = scheduler }; kinds = kinds; first = first }) n r ≡ None
    → strict_wait (record { runs = runs; mode = record { model = model; scheduler = scheduler }; kinds = kinds; first = first }) m r ≡ None
strict_fewer_by runs kinds first Weak scheduler n m r line fewer none = refl
strict_fewer_by runs kinds first Global scheduler n m r line fewer none = ap (find (λ x. true)) line ∙ fewer_live n m (λ x. true) (before r n.line) fewer none
strict_fewer_by runs kinds first Partitioned scheduler n m r line fewer none = ap (find (λ x. shares runs x r)) line ∙ fewer_live n m (λ x. shares runs x r) (before r n.line) fewer none
strict_fewer_by runs kinds first Eventual scheduler n m r line fewer none = refl

-- what stands before a run of the line is the same where items come behind it
pub before_more : (r : ℕ) (line : List Item) (x : Item) → list_any (is_ran r) line ≡ true → before r (line ++ x ∷ []) ≡ before r line
before_more r [] x there = absurd (cc)
before_more r (i ∷ is) x there = take_while-cons (λ y. not (is_ran r y)) i (is ++ x ∷ []) ∙ elim (is_ran r i) as (λ b. is_ran r i ≡ b → cond (not b) (i ∷ before r (is ++ x ∷ [])) [] ≡ cond (not b) (i ∷ before r is) []) [
  | true ↦ (λ e. refl)
  | false ↦ (λ e. ap (λ l. i ∷ l) (before_more r is x (grind (arith, common_steps))))
] refl ∙ sym (take_while-cons (λ y. not (is_ran r y)) i is)

-- A run that leaves the line

-- what stands before another run
before_without : (r q : ℕ) (line : List Item) → q ≢ r → before q (without r line) ≡ without r (before q line)
before_without r q [] other = refl
before_without r q (i ∷ is) other =
    elim (is_ran r i) as (λ b. is_ran r i ≡ b → before q (cond (not b) (i ∷ without r is) (without r is)) ≡ without r (cond (not (is_ran q i)) (i ∷ before q is) [])) [
      | true ↦ (λ e. before_without r q is other ∙ sym (ap (λ b. without r (cond (not b) (i ∷ before q is) [])) (not_q i e) ∙ ap (λ b. cond (not b) (i ∷ without r (before q is)) (without r (before q is))) e))
      | false ↦ (λ e. take_while-cons (λ y. not (is_ran q y)) i (without r is) ∙ elim (is_ran q i) as (λ b. cond (not b) (i ∷ before q (without r is)) [] ≡ without r (cond (not b) (i ∷ before q is) [])) [
        | true ↦ refl
        | false ↦ ap (λ l. i ∷ l) (before_without r q is other) ∙ sym (ap (λ b. cond (not b) (i ∷ without r (before q is)) (without r (before q is))) e)
      ])
    ] refl
    ∙ ap (without r) (sym (take_while-cons (λ y. not (is_ran q y)) i is))
  where
    not_q : (j : Item) → is_ran r j ≡ true → is_ran q j ≡ false
    not_q (Ran x) e = let at : x.0 ≡ r = grind (arith, common_steps) in let apart : x.0 ≢ q = (λ same. other (sym same ∙ at)) in grind (arith, common_steps)
    not_q (Failed d k) e = refl
    not_q (Back d k) e = refl

-- a run that is not live is none of the live ones
live_without : (n : Reading) (r : ℕ) (items : List Item) → is_live n r ≡ false → live_runs n (without r items) ≡ live_runs n items
live_without n r [] gone = refl
live_without n r (Ran x ∷ is) gone = elim (x.0 == r) as (λ b. (x.0 == r) ≡ b → live_runs n (cond (not b) (Ran x ∷ without r is) (without r is)) ≡ cons_option (if is_live n x.0 then Some x.0 else None) (live_runs n is)) [
  | true ↦ (λ e. let same : x.0 ≡ r = grind (arith, common_steps) in live_without n r is gone ∙ sym (ap (λ b. cons_option (if b then Some x.0 else None) (live_runs n is)) (ap (is_live n) same ∙ gone)))
  | false ↦ (λ e. ap (cons_option (if is_live n x.0 then Some x.0 else None)) (live_without n r is gone))
] refl
live_without n r (Failed d k ∷ is) gone = live_without n r is gone
live_without n r (Back d k ∷ is) gone = live_without n r is gone

-- the live runs before a run that stays
pub live_before_without : (n m : Reading) (r q : ℕ) → m.line ≡ without r n.line → is_live m r ≡ false → q ≢ r → live_before m q ≡ live_runs m (before q n.line)
live_before_without n m r q line gone other = ap (λ l. live_runs m (before q l)) line ∙ ap (live_runs m) (before_without r q n.line other) ∙ live_without m r (before q n.line) gone

later_without : (n : Reading) (r stamp : ℕ) (line : List Item) → IsTrue (list_all (is_placed_later n stamp) line) → IsTrue (list_all (is_placed_later n stamp) (without r line))
later_without n r stamp [] later = refl
later_without n r stamp (i ∷ is) later = elim (is_ran r i) as (λ b. IsTrue (list_all (is_placed_later n stamp) (cond (not b) (i ∷ without r is) (without r is)))) [
  | true ↦ later_without n r stamp is (grind (arith, common_steps))
  | false ↦ (let here : is_placed_later n stamp i ≡ true = grind (arith, common_steps) in rw (here, later_without n r stamp is (grind (arith, common_steps))) refl)
]

-- the runs that stay stand in the order of their placings
pub order_without : (n : Reading) (r : ℕ) (line : List Item) → IsTrue (placed_in_order n line) → IsTrue (placed_in_order n (without r line))
order_without n r [] ordered = refl
order_without n r (Ran x ∷ is) ordered = elim (x.0 == r) as (λ b. IsTrue (placed_in_order n (cond (not b) (Ran x ∷ without r is) (without r is)))) [
  | true ↦ order_without n r is (grind (arith, common_steps))
  | false ↦ rw (later_without n r (stamp_of n x.0) is (grind (arith, common_steps)), order_without n r is (grind (arith, common_steps))) refl
]
order_without n r (Failed d k ∷ is) ordered = order_without n r is ordered
order_without n r (Back d k ∷ is) ordered = order_without n r is ordered
