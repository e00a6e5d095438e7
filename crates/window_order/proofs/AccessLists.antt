-- The accesses along a line, by three plain functions: which runs have one, which runs cover those before them, and what the access is.
use Rattle.window_order.proofs.Prelude.{Access, Back, Bool, Failed, Item, Lacks, List, None, Ran, RunNo, RunsAreDistinct, Scheduled, Some, [], accesses_along, accesses_from, accesses_without, ap, append-nil, arith, common_steps, eq-eqb, eqb-false, eqb-true, false, first_with_access, from_run, has_access, if◌then◌else◌, is_acquired, is_of, is_ran, is_released, list_any, list_any-append, map, ne_eqb, not, of_run, or_left, or_parts, or_right, put_access_before, put_at, put_before_run, refl, run_no, some_acquired, subst, sym, true, waits_again, with_again, with_again_from, with_change, ℕ, ◌&&◌, ◌++◌, ◌==◌, ◌||◌, ◌∙◌, ◌∷◌, ◌≡◌, ◌≢◌}
use Rattle.history_book.specs.Lines.{without as line_without}

-- the accesses of the front of a line, whose back covers it or not
abbrev pub front_accesses : (ℕ → Bool) → (ℕ → Bool) → (ℕ → Access) → Bool → List Item → List Access
front_accesses has_one covering access behind [] = []
front_accesses has_one covering access behind (Ran r ∷ is) =
    if has_one r.0 && not (list_any (of_run covering) is || behind) then (access r.0 ∷ front_accesses has_one covering access behind is)
    else front_accesses has_one covering access behind is
front_accesses has_one covering access behind (Failed e k ∷ is) = front_accesses has_one covering access behind is
front_accesses has_one covering access behind (Back e k ∷ is) = front_accesses has_one covering access behind is

if_then : (b : Bool) (x : Access) (a c : List Access) → (if b then (x ∷ (a ++ c)) else (a ++ c)) ≡ (if b then (x ∷ a) else a) ++ c
if_then true x a c = refl
if_then false x a c = refl

-- a line in two parts
pub along_parts : (p c : ℕ → Bool) (f : ℕ → Access) (a b : List Item) → accesses_along p c f (a ++ b) ≡ front_accesses p c f (list_any (of_run c) b) a ++ accesses_along p c f b
along_parts p c f [] b = refl
along_parts p c f (Ran r ∷ a) b =
    (λ i. if p r.0 && not (list_any-append (of_run c) a b i) then (f r.0 ∷ along_parts p c f a b i) else along_parts p c f a b i)
    ∙ if_then (p r.0 && not (list_any (of_run c) a || list_any (of_run c) b)) (f r.0) (front_accesses p c f (list_any (of_run c) b) a) (accesses_along p c f b)
along_parts p c f (Failed e k ∷ a) b = along_parts p c f a b
along_parts p c f (Back e k ∷ a) b = along_parts p c f a b

-- a front that is covered has none
pub front_covered : (p c : ℕ → Bool) (f : ℕ → Access) (a : List Item) → front_accesses p c f true a ≡ []
front_covered p c f [] = refl
front_covered p c f (Ran r ∷ a) = none (p r.0) (list_any (of_run c) a) ∙ front_covered p c f a
  where
    none : (u v : Bool) → (if u && not (v || true) then (f r.0 ∷ front_accesses p c f true a) else front_accesses p c f true a) ≡ front_accesses p c f true a
    none true true = refl
    none true false = refl
    none false v = refl
front_covered p c f (Failed e k ∷ a) = front_covered p c f a
front_covered p c f (Back e k ∷ a) = front_covered p c f a

-- other functions that are the same but for a run which the line lacks
pub record SameBut (r : ℕ) (p q c e : ℕ → Bool) (f h : ℕ → Access) : Type 0 where
  pub has_one : (x : ℕ) → x ≢ r → q x ≡ p x
  pub covering : (x : ℕ) → x ≢ r → e x ≡ c x
  pub access : (x : ℕ) → x ≢ r → h x ≡ f x

pub any_but : (r : ℕ) (c e : ℕ → Bool) (is : List Item) → ((x : ℕ) → x ≢ r → e x ≡ c x) → Lacks r is → list_any (of_run e) is ≡ list_any (of_run c) is
unfolding Lacks
any_but r c e [] same lacks = refl
any_but r c e (Ran q ∷ is) same lacks = λ i. same q.0 lacks.0 i || any_but r c e is same lacks.1 i
any_but r c e (Failed d k ∷ is) same lacks = any_but r c e is same lacks
any_but r c e (Back d k ∷ is) same lacks = any_but r c e is same lacks

pub along_but : (r : ℕ) (p q c e : ℕ → Bool) (f h : ℕ → Access) (is : List Item) → SameBut r p q c e f h → Lacks r is → accesses_along q e h is ≡ accesses_along p c f is
unfolding Lacks
along_but r p q c e f h [] same lacks = refl
along_but r p q c e f h (Ran x ∷ is) same lacks =
    λ i. if same.has_one x.0 lacks.0 i && not (any_but r c e is same.covering lacks.1 i) then (same.access x.0 lacks.0 i ∷ along_but r p q c e f h is same lacks.1 i) else along_but r p q c e f h is same lacks.1 i
along_but r p q c e f h (Failed d k ∷ is) same lacks = along_but r p q c e f h is same lacks
along_but r p q c e f h (Back d k ∷ is) same lacks = along_but r p q c e f h is same lacks

pub front_but : (r : ℕ) (p q c e : ℕ → Bool) (f h : ℕ → Access) (b : Bool) (is : List Item) → SameBut r p q c e f h → Lacks r is → front_accesses q e h b is ≡ front_accesses p c f b is
unfolding Lacks
front_but r p q c e f h b [] same lacks = refl
front_but r p q c e f h b (Ran x ∷ is) same lacks =
    λ i. if same.has_one x.0 lacks.0 i && not (any_but r c e is same.covering lacks.1 i || b) then (same.access x.0 lacks.0 i ∷ front_but r p q c e f h b is same lacks.1 i) else front_but r p q c e f h b is same lacks.1 i
front_but r p q c e f h b (Failed d k ∷ is) same lacks = front_but r p q c e f h b is same lacks
front_but r p q c e f h b (Back d k ∷ is) same lacks = front_but r p q c e f h b is same lacks

-- .. or the same throughout
pub any_same : (c e : ℕ → Bool) (is : List Item) → ((x : ℕ) → e x ≡ c x) → list_any (of_run e) is ≡ list_any (of_run c) is
any_same c e [] same = refl
any_same c e (Ran q ∷ is) same = λ i. same q.0 i || any_same c e is same i
any_same c e (Failed d k ∷ is) same = any_same c e is same
any_same c e (Back d k ∷ is) same = any_same c e is same

pub along_same : (p q c e : ℕ → Bool) (f h : ℕ → Access) (is : List Item) → ((x : ℕ) → q x ≡ p x) → ((x : ℕ) → e x ≡ c x) → ((x : ℕ) → h x ≡ f x) → accesses_along q e h is ≡ accesses_along p c f is
along_same p q c e f h [] has_one covering access = refl
along_same p q c e f h (Ran x ∷ is) has_one covering access =
    λ i. if has_one x.0 i && not (any_same c e is covering i) then (access x.0 i ∷ along_same p q c e f h is has_one covering access i) else along_same p q c e f h is has_one covering access i
along_same p q c e f h (Failed d k ∷ is) has_one covering access = along_same p q c e f h is has_one covering access
along_same p q c e f h (Back d k ∷ is) has_one covering access = along_same p q c e f h is has_one covering access

-- A run that the line lacks has no access

pub front_lacks : (p c : ℕ → Bool) (f : ℕ → Access) (b : Bool) (r : ℕ) (is : List Item) → ((x : ℕ) → (f x).run.0 ≡ x) → Lacks r is → has_access r (front_accesses p c f b is) ≡ false
unfolding Lacks
front_lacks p c f b r [] own lacks = refl
front_lacks p c f b r (Ran q ∷ is) own lacks = at_ (front_lacks p c f b r is own lacks.1) (p q.0 && not (list_any (of_run c) is || b))
  where
    at_ : has_access r (front_accesses p c f b is) ≡ false → (u : Bool) → has_access r (if u then (f q.0 ∷ front_accesses p c f b is) else front_accesses p c f b is) ≡ false
    at_ rest true = λ i. (ap (λ x. x == r) (own q.0) ∙ ne_eqb q.0 r lacks.0) i || rest i
    at_ rest false = rest
front_lacks p c f b r (Failed d k ∷ is) own lacks = front_lacks p c f b r is own lacks
front_lacks p c f b r (Back d k ∷ is) own lacks = front_lacks p c f b r is own lacks

pub along_lacks : (p c : ℕ → Bool) (f : ℕ → Access) (r : ℕ) (is : List Item) → ((x : ℕ) → (f x).run.0 ≡ x) → Lacks r is → has_access r (accesses_along p c f is) ≡ false
unfolding Lacks
along_lacks p c f r [] own lacks = refl
along_lacks p c f r (Ran q ∷ is) own lacks = at_ (along_lacks p c f r is own lacks.1) (p q.0 && not (list_any (of_run c) is))
  where
    at_ : has_access r (accesses_along p c f is) ≡ false → (u : Bool) → has_access r (if u then (f q.0 ∷ accesses_along p c f is) else accesses_along p c f is) ≡ false
    at_ rest true = λ i. (ap (λ x. x == r) (own q.0) ∙ ne_eqb q.0 r lacks.0) i || rest i
    at_ rest false = rest
along_lacks p c f r (Failed d k ∷ is) own lacks = along_lacks p c f r is own lacks
along_lacks p c f r (Back d k ∷ is) own lacks = along_lacks p c f r is own lacks

-- A line that is cut at a run

-- the run has an access that nothing behind covers
pub along_there : (p c : ℕ → Bool) (f : ℕ → Access) (r : ℕ) (a b : List Item) → p r ≡ true → c r ≡ false → list_any (of_run c) b ≡ false
    → accesses_along p c f (a ++ Ran (run_no r) ∷ b) ≡ front_accesses p c f false a ++ f r ∷ accesses_along p c f b
along_there p c f r a b has_one covers none =
    along_parts p c f a (Ran (run_no r) ∷ b)
    ∙ (λ i. front_accesses p c f (covers i || none i) a ++ (if has_one i && not (none i) then (f r ∷ accesses_along p c f b) else accesses_along p c f b))

-- the run has none
pub along_absent : (p c : ℕ → Bool) (f : ℕ → Access) (r : ℕ) (a b : List Item) → p r ≡ false
    → accesses_along p c f (a ++ Ran (run_no r) ∷ b) ≡ front_accesses p c f (c r || list_any (of_run c) b) a ++ accesses_along p c f b
along_absent p c f r a b none = along_parts p c f a (Ran (run_no r) ∷ b) ∙ (λ i. front_accesses p c f (c r || list_any (of_run c) b) a ++ (if none i && not (list_any (of_run c) b) then (f r ∷ accesses_along p c f b) else accesses_along p c f b))

-- the run and what stands before it is covered
pub along_covered : (p c : ℕ → Bool) (f : ℕ → Access) (r : ℕ) (a b : List Item) → list_any (of_run c) b ≡ true → accesses_along p c f (a ++ Ran (run_no r) ∷ b) ≡ accesses_along p c f b
along_covered p c f r a b covered =
    along_parts p c f a (Ran (run_no r) ∷ b) ∙ (λ i. front_accesses p c f (or_right (c r) (list_any (of_run c) b) covered i) a ++ (if p r && not (covered i) then (f r ∷ accesses_along p c f b) else accesses_along p c f b))
    ∙ (λ i. front_covered p c f a i ++ (if gone (p r) i then (f r ∷ accesses_along p c f b) else accesses_along p c f b))
  where
    gone : (x : Bool) → (x && not true) ≡ false
    gone true = refl
    gone false = refl

-- What holds of each access

-- no run with an access in the front is so
pub front_none : (p c : ℕ → Bool) (f : ℕ → Access) (b : Bool) (test : Access → Bool) (is : List Item) → ((x : ℕ) → list_any (of_run (λ q. q == x)) is ≡ true → p x ≡ true → test (f x) ≡ false) → list_any test (front_accesses p c f b is) ≡ false
front_none p c f b test [] none = refl
front_none p c f b test (Ran q ∷ is) none = at_ (front_none p c f b test is (λ x h. none x (or_right (q.0 == x) (list_any (of_run (λ y. y == x)) is) h))) (p q.0) refl (not (list_any (of_run c) is || b))
  where
    at_ : list_any test (front_accesses p c f b is) ≡ false → (u : Bool) → p q.0 ≡ u → (v : Bool) → list_any test (if u && v then (f q.0 ∷ front_accesses p c f b is) else front_accesses p c f b is) ≡ false
    at_ rest true e true = λ i. none q.0 (or_left (q.0 == q.0) (list_any (of_run (λ y. y == q.0)) is) (eq-eqb q.0 q.0 refl)) e i || rest i
    at_ rest true e false = rest
    at_ rest false e v = rest
front_none p c f b test (Failed d k ∷ is) none = front_none p c f b test is none
front_none p c f b test (Back d k ∷ is) none = front_none p c f b test is none

pub along_none : (p c : ℕ → Bool) (f : ℕ → Access) (test : Access → Bool) (is : List Item) → ((x : ℕ) → list_any (of_run (λ q. q == x)) is ≡ true → p x ≡ true → test (f x) ≡ false) → list_any test (accesses_along p c f is) ≡ false
along_none p c f test [] none = refl
along_none p c f test (Ran q ∷ is) none = at_ (along_none p c f test is (λ x h. none x (or_right (q.0 == x) (list_any (of_run (λ y. y == x)) is) h))) (p q.0) refl (not (list_any (of_run c) is))
  where
    at_ : list_any test (accesses_along p c f is) ≡ false → (u : Bool) → p q.0 ≡ u → (v : Bool) → list_any test (if u && v then (f q.0 ∷ accesses_along p c f is) else accesses_along p c f is) ≡ false
    at_ rest true e true = λ i. none q.0 (or_left (q.0 == q.0) (list_any (of_run (λ y. y == q.0)) is) (eq-eqb q.0 q.0 refl)) e i || rest i
    at_ rest true e false = rest
    at_ rest false e v = rest
along_none p c f test (Failed d k ∷ is) none = along_none p c f test is none
along_none p c f test (Back d k ∷ is) none = along_none p c f test is none

-- The access of one run is changed

-- in a line where each run stands once
pub change_along : (p c : ℕ → Bool) (f h : ℕ → Access) (r : ℕ) (change : Access → Access) (is : List Item) → RunsAreDistinct is → ((x : ℕ) → (f x).run.0 ≡ x) → h r ≡ change (f r) → ((x : ℕ) → x ≢ r → h x ≡ f x)
    → with_change r change (accesses_along p c f is) ≡ accesses_along p c h is
unfolding RunsAreDistinct
change_along p c f h r change [] distinct own changed others = refl
change_along p c f h r change (Ran q ∷ is) distinct own changed others = at_ (p q.0 && not (list_any (of_run c) is)) (change_along p c f h r change is distinct.1 own changed others)
  where
    here : with_change r change (accesses_along p c f is) ≡ accesses_along p c h is → (b : Bool) → (q.0 == r) ≡ b → with_change r change (f q.0 ∷ accesses_along p c f is) ≡ h q.0 ∷ accesses_along p c h is
    here rest true e =
        (λ i. if (ap (λ x. x == r) (own q.0) ∙ e) i then (change (f q.0) ∷ accesses_along p c f is) else (f q.0 ∷ with_change r change (accesses_along p c f is)))
        ∙ (λ i. sym (ap h (eqb-true q.0 r e) ∙ changed ∙ sym (ap (λ x. change (f x)) (eqb-true q.0 r e))) i ∷ sym (along_but r p p c c f h is (record { has_one = λ x ne. refl; covering = λ x ne. refl; access = others }) (lacking e)) i)
      where
        lacking : (q.0 == r) ≡ true → Lacks r is
        lacking e = subst (λ x. Lacks x is) (eqb-true q.0 r e) distinct.0
    here rest false e =
        (λ i. if (ap (λ x. x == r) (own q.0) ∙ e) i then (change (f q.0) ∷ accesses_along p c f is) else (f q.0 ∷ with_change r change (accesses_along p c f is)))
        ∙ (λ i. sym (others q.0 (eqb-false q.0 r e)) i ∷ rest i)

    at_ : (b : Bool) → with_change r change (accesses_along p c f is) ≡ accesses_along p c h is
        → with_change r change (if b then (f q.0 ∷ accesses_along p c f is) else accesses_along p c f is) ≡ (if b then (h q.0 ∷ accesses_along p c h is) else accesses_along p c h is)
    at_ true rest = here rest (q.0 == r) refl
    at_ false rest = rest
change_along p c f h r change (Failed d k ∷ is) distinct own changed others = change_along p c f h r change is distinct own changed others
change_along p c f h r change (Back d k ∷ is) distinct own changed others = change_along p c f h r change is distinct own changed others

-- the accesses of a front are changed, each of a run that has one
pub front_each : (p c : ℕ → Bool) (f h : ℕ → Access) (b : Bool) (change : Access → Access) (is : List Item) → ((x : ℕ) → list_any (is_ran x) is ≡ true → p x ≡ true → h x ≡ change (f x)) → map change (front_accesses p c f b is) ≡ front_accesses p c h b is
front_each p c f h b change [] each = refl
front_each p c f h b change (Ran q ∷ is) each = at_ (p q.0) refl (not (list_any (of_run c) is || b)) (front_each p c f h b change is (λ x there. each x (or_right (q.0 == x) (list_any (is_ran x) is) there)))
  where
    at_ : (u : Bool) → p q.0 ≡ u → (v : Bool) → map change (front_accesses p c f b is) ≡ front_accesses p c h b is
        → map change (if u && v then (f q.0 ∷ front_accesses p c f b is) else front_accesses p c f b is) ≡ (if u && v then (h q.0 ∷ front_accesses p c h b is) else front_accesses p c h b is)
    at_ true e true rest = λ i. sym (each q.0 (or_left (q.0 == q.0) (list_any (is_ran q.0) is) (eq-eqb q.0 q.0 refl)) e) i ∷ rest i
    at_ true e false rest = rest
    at_ false e v rest = rest
front_each p c f h b change (Failed d k ∷ is) each = front_each p c f h b change is each
front_each p c f h b change (Back d k ∷ is) each = front_each p c f h b change is each

-- the same accesses, each of a run of the line
pub along_each : (p c : ℕ → Bool) (f h : ℕ → Access) (is : List Item) → ((x : ℕ) → list_any (is_ran x) is ≡ true → h x ≡ f x) → accesses_along p c h is ≡ accesses_along p c f is
along_each p c f h [] each = refl
along_each p c f h (Ran q ∷ is) each =
    λ i. if p q.0 && not (list_any (of_run c) is) then (each q.0 (or_left (q.0 == q.0) (list_any (is_ran q.0) is) (eq-eqb q.0 q.0 refl)) i ∷ along_each p c f h is (λ x there. each x (or_right (q.0 == x) (list_any (is_ran x) is) there)) i)
    else along_each p c f h is (λ x there. each x (or_right (q.0 == x) (list_any (is_ran x) is) there)) i
along_each p c f h (Failed d k ∷ is) each = along_each p c f h is each
along_each p c f h (Back d k ∷ is) each = along_each p c f h is each

-- A run that covers nothing leaves the line: its access is gone

covers_without : (c e : ℕ → Bool) (r : ℕ) (is : List Item) → c r ≡ false → ((x : ℕ) → x ≢ r → e x ≡ c x) → list_any (of_run e) (line_without r is) ≡ list_any (of_run c) is
covers_without c e r [] none others = refl
covers_without c e r (Ran q ∷ is) none others = at_ (q.0 == r) refl (covers_without c e r is none others)
  where
    at_ : (b : Bool) → (q.0 == r) ≡ b → list_any (of_run e) (line_without r is) ≡ list_any (of_run c) is → list_any (of_run e) (if not b then (Ran q ∷ line_without r is) else line_without r is) ≡ (c q.0 || list_any (of_run c) is)
    at_ true k rest = rest ∙ (λ i. sym (ap c (eqb-true q.0 r k) ∙ none) i || list_any (of_run c) is)
    at_ false k rest = λ i. others q.0 (eqb-false q.0 r k) i || rest i
covers_without c e r (Failed d k ∷ is) none others = covers_without c e r is none others
covers_without c e r (Back d k ∷ is) none others = covers_without c e r is none others

pub without_along : (p q c e : ℕ → Bool) (f h : ℕ → Access) (r : ℕ) (is : List Item) → ((x : ℕ) → (f x).run.0 ≡ x) → c r ≡ false → SameBut r p q c e f h → accesses_without r (accesses_along p c f is) ≡ accesses_along q e h (line_without r is)
without_along p q c e f h r [] own none others = refl
without_along p q c e f h r (Ran x ∷ is) own none others = at_ (x.0 == r) refl (without_along p q c e f h r is own none others)
  where
    gone : (b : Bool) → (x.0 == r) ≡ true → accesses_without r (if b then (f x.0 ∷ accesses_along p c f is) else accesses_along p c f is) ≡ accesses_without r (accesses_along p c f is)
    gone true k = λ i. if not ((ap (λ y. y == r) (own x.0) ∙ k) i) then (f x.0 ∷ accesses_without r (accesses_along p c f is)) else accesses_without r (accesses_along p c f is)
    gone false k = refl

    kept : (b : Bool) → (x.0 == r) ≡ false → accesses_without r (accesses_along p c f is) ≡ accesses_along q e h (line_without r is)
        → accesses_without r (if b then (f x.0 ∷ accesses_along p c f is) else accesses_along p c f is) ≡ (if b then (h x.0 ∷ accesses_along q e h (line_without r is)) else accesses_along q e h (line_without r is))
    kept true k rest =
        (λ i. if not ((ap (λ y. y == r) (own x.0) ∙ k) i) then (f x.0 ∷ accesses_without r (accesses_along p c f is)) else accesses_without r (accesses_along p c f is))
        ∙ (λ i. sym (others.access x.0 (eqb-false x.0 r k)) i ∷ rest i)
    kept false k rest = rest

    at_ : (b : Bool) → (x.0 == r) ≡ b → accesses_without r (accesses_along p c f is) ≡ accesses_along q e h (line_without r is)
        → accesses_without r (if p x.0 && not (list_any (of_run c) is) then (f x.0 ∷ accesses_along p c f is) else accesses_along p c f is) ≡ accesses_along q e h (if not b then (Ran x ∷ line_without r is) else line_without r is)
    at_ true k rest = gone (p x.0 && not (list_any (of_run c) is)) k ∙ rest
    at_ false k rest =
        kept (p x.0 && not (list_any (of_run c) is)) k rest
        ∙ (λ i. if sym (others.has_one x.0 (eqb-false x.0 r k)) i && not (sym (covers_without c e r is none others.covering) i) then (h x.0 ∷ accesses_along q e h (line_without r is)) else accesses_along q e h (line_without r is))
without_along p q c e f h r (Failed d k ∷ is) own none others = without_along p q c e f h r is own none others
without_along p q c e f h r (Back d k ∷ is) own none others = without_along p q c e f h r is own none others

-- Which runs stand in a part of the line

-- no run of a line is one that it lacks
pub lacks_none : (r : ℕ) (is : List Item) → Lacks r is → (x : ℕ) → list_any (is_ran x) is ≡ true → r ≢ x
unfolding Lacks
lacks_none r [] lacks x there = absurd (cc)
lacks_none r (Ran q ∷ is) lacks x there = at_ (lacks_none r is lacks.1 x) (q.0 == x) refl there
  where
    at_ : (list_any (is_ran x) is ≡ true → r ≢ x) → (b : Bool) → (q.0 == x) ≡ b → (b || list_any (is_ran x) is) ≡ true → r ≢ x
    at_ ih true e h = λ equal. lacks.0 (eqb-true q.0 x e ∙ sym equal)
    at_ ih false e h = ih h
lacks_none r (Failed d k ∷ is) lacks x there = lacks_none r is lacks x there
lacks_none r (Back d k ∷ is) lacks x there = lacks_none r is lacks x there

pub lacks_ran : (r : ℕ) (is : List Item) → Lacks r is → list_any (is_ran r) is ≡ false
lacks_ran r is lacks = at_ (list_any (is_ran r) is) refl
  where
    at_ : (b : Bool) → list_any (is_ran r) is ≡ b → b ≡ false
    at_ true e = absurd (lacks_none r is lacks r e refl)
    at_ false e = refl

-- a run behind another does not stand before it
pub apart : (r : ℕ) (a b : List Item) → RunsAreDistinct (a ++ Ran (run_no r) ∷ b) → (x : ℕ) → list_any (is_ran x) b ≡ true → list_any (is_ran x) a ≡ false
unfolding RunsAreDistinct
apart r [] b distinct x there = refl
apart r (Ran q ∷ a) b distinct x there = λ i. differ (q.0 == x) refl i || apart r a b distinct.1 x there i
  where
    last : (u v w : Bool) → w ≡ true → (u || (v || w)) ≡ true
    last u v w h = grind (arith, common_steps)

    in_whole : list_any (is_ran x) (a ++ Ran (run_no r) ∷ b) ≡ true
    in_whole = list_any-append (is_ran x) a (Ran (run_no r) ∷ b) ∙ last (list_any (is_ran x) a) (r == x) (list_any (is_ran x) b) there

    differ : (u : Bool) → (q.0 == x) ≡ u → u ≡ false
    differ true e = absurd (lacks_none q.0 (a ++ Ran (run_no r) ∷ b) distinct.0 x in_whole (eqb-true q.0 x e))
    differ false e = refl
apart r (Failed d k ∷ a) b distinct x there = apart r a b distinct x there
apart r (Back d k ∷ a) b distinct x there = apart r a b distinct x there

-- the runs of the back of a line differ, and do not stand in its front
pub distinct_parts : (a b : List Item) → RunsAreDistinct (a ++ b) → RunsAreDistinct b × ((x : ℕ) → list_any (is_ran x) b ≡ true → Lacks x a)
unfolding RunsAreDistinct Lacks
distinct_parts [] b distinct = (distinct, λ x there. tt)
distinct_parts (Ran q ∷ a) b distinct =
    let rest : RunsAreDistinct b × ((x : ℕ) → list_any (is_ran x) b ≡ true → Lacks x a) = distinct_parts a b distinct.1 in
    (rest.0, λ x there. (lacks_none q.0 (a ++ b) distinct.0 x (list_any-append (is_ran x) a b ∙ or_right (list_any (is_ran x) a) (list_any (is_ran x) b) there), rest.1 x there))
distinct_parts (Failed d k ∷ a) b distinct = distinct_parts a b distinct
distinct_parts (Back d k ∷ a) b distinct = distinct_parts a b distinct

-- A run in the middle of the line

-- the accesses from that of a run on, where they are cut there

pub from_at : (q : ℕ) (a : List Access) (x : Access) (b : List Access) → has_access q a ≡ false → is_of q x ≡ true → from_run q (a ++ x ∷ b) ≡ x ∷ b
from_at q [] x b none own = λ i. if own i then (x ∷ b) else from_run q b
from_at q (y ∷ a) x b none own = let p = or_parts (is_of q y) (has_access q a) none in (λ i. if p.0 i then (y ∷ (a ++ x ∷ b)) else from_run q (a ++ x ∷ b)) ∙ from_at q a x b p.1 own

pub again_from_at : (q : ℕ) (a : List Access) (x : Access) (b : List Access) → has_access q a ≡ false → is_of q x ≡ true → with_again_from q (a ++ x ∷ b) ≡ a ++ waits_again x ∷ map waits_again b
again_from_at q [] x b none own = λ i. if own i then (waits_again x ∷ map waits_again b) else (x ∷ with_again_from q b)
again_from_at q (y ∷ a) x b none own =
    let p = or_parts (is_of q y) (has_access q a) none in
    (λ i. if p.0 i then (waits_again y ∷ map waits_again (a ++ x ∷ b)) else (y ∷ with_again_from q (a ++ x ∷ b))) ∙ ap (λ l. y ∷ l) (again_from_at q a x b p.1 own)

-- an access that waits again is of the same run
pub again_run : (x : Access) → (waits_again x).run ≡ x.run
again_run x = by_status (is_released x.status)
  where
    by_status : (b : Bool) → (if b then record x { status = Scheduled; view = None } else x).run ≡ x.run
    by_status true = refl
    by_status false = refl

-- each access along the line is changed
along_changed : (p c : ℕ → Bool) (f h : ℕ → Access) (change : Access → Access) (is : List Item) → ((x : ℕ) → list_any (is_ran x) is ≡ true → p x ≡ true → h x ≡ change (f x)) → map change (accesses_along p c f is) ≡ accesses_along p c h is
along_changed p c f h change [] each = refl
along_changed p c f h change (Ran q ∷ is) each = at_ (p q.0) refl (not (list_any (of_run c) is)) (along_changed p c f h change is (λ x there. each x (or_right (q.0 == x) (list_any (is_ran x) is) there)))
  where
    at_ : (u : Bool) → p q.0 ≡ u → (v : Bool) → map change (accesses_along p c f is) ≡ accesses_along p c h is
        → map change (if u && v then (f q.0 ∷ accesses_along p c f is) else accesses_along p c f is) ≡ (if u && v then (h q.0 ∷ accesses_along p c h is) else accesses_along p c h is)
    at_ true e true rest = λ i. sym (each q.0 (or_left (q.0 == q.0) (list_any (is_ran q.0) is) (eq-eqb q.0 q.0 refl)) e) i ∷ rest i
    at_ true e false rest = rest
    at_ false e v rest = rest
along_changed p c f h change (Failed d k ∷ is) each = along_changed p c f h change is each
along_changed p c f h change (Back d k ∷ is) each = along_changed p c f h change is each

-- the same accesses of a front, each of a run of it
pub front_in : (p c : ℕ → Bool) (f h : ℕ → Access) (b : Bool) (is : List Item) → ((x : ℕ) → list_any (is_ran x) is ≡ true → h x ≡ f x) → front_accesses p c h b is ≡ front_accesses p c f b is
front_in p c f h b [] each = refl
front_in p c f h b (Ran q ∷ is) each =
    λ i. if p q.0 && not (list_any (of_run c) is || b) then (each q.0 (or_left (q.0 == q.0) (list_any (is_ran q.0) is) (eq-eqb q.0 q.0 refl)) i ∷ front_in p c f h b is (λ x there. each x (or_right (q.0 == x) (list_any (is_ran x) is) there)) i)
    else front_in p c f h b is (λ x there. each x (or_right (q.0 == x) (list_any (is_ran x) is) there)) i
front_in p c f h b (Failed d k ∷ is) each = front_in p c f h b is each
front_in p c f h b (Back d k ∷ is) each = front_in p c f h b is each

-- the accesses of a front with those of the back behind them: what is read at the first run of the back
module _ (p c : ℕ → Bool) (f : ℕ → Access) (own : (x : ℕ) → (f x).run.0 ≡ x) where
  its_own : (q : ℕ) → is_of q (f q) ≡ true
  its_own q = ap (λ x. x == q) (own q) ∙ eq-eqb q q refl

  stands_here : (q : ℕ) (a b : List Access) → has_access q (a ++ f q ∷ b) ≡ true
  stands_here q a b = list_any-append (is_of q) a (f q ∷ b) ∙ middle (has_access q a) (is_of q (f q)) (has_access q b) (its_own q)
    where
      middle : (x y z : Bool) → y ≡ true → (x || (y || z)) ≡ true
      middle x y z h = grind (arith, common_steps)

  stands_nowhere : (q : ℕ) (a : List Access) (is : List Item) → has_access q a ≡ false → Lacks q is → has_access q (a ++ accesses_along p c f is) ≡ false
  stands_nowhere q a is none lacks = list_any-append (is_of q) a (accesses_along p c f is) ∙ (λ i. none i || along_lacks p c f q is own lacks i)

-- the runs of these items have none of these accesses
abbrev pub AreApart : List Access → List Item → Type 0
AreApart a is = (x : ℕ) → list_any (is_ran x) is ≡ true → has_access x a ≡ false

apart_first : (a : List Access) (q : RunNo) (is : List Item) → AreApart a (Ran q ∷ is) → has_access q.0 a ≡ false
apart_first a q is apart = apart q.0 (or_left (q.0 == q.0) (list_any (is_ran q.0) is) (eq-eqb q.0 q.0 refl))

apart_rest : (a : List Access) (q : RunNo) (is : List Item) → AreApart a (Ran q ∷ is) → AreApart a is
apart_rest a q is apart x there = apart x (or_right (q.0 == x) (list_any (is_ran x) is) there)

-- an access is put behind those of the front, before the first one of a run of the back: that one and those behind it wait again
pub put_between : (p c : ℕ → Bool) (f h : ℕ → Access) (y : Access) (a : List Access) (is : List Item) → RunsAreDistinct is → ((x : ℕ) → (f x).run.0 ≡ x) → ((x : ℕ) → list_any (is_ran x) is ≡ true → p x ≡ true → h x ≡ waits_again (f x)) → AreApart a is
    → put_access_before (first_with_access (a ++ accesses_along p c f is) is) y (with_again (first_with_access (a ++ accesses_along p c f is) is) (a ++ accesses_along p c f is)) ≡ a ++ y ∷ accesses_along p c h is
unfolding RunsAreDistinct
put_between p c f h y a [] distinct own each apart = ap (λ xs. xs ++ y ∷ []) (append-nil a)
put_between p c f h y a (Ran q ∷ is) distinct own each apart = at_ (p q.0) refl (not (list_any (of_run c) is)) (put_between p c f h y a is distinct.1 own (λ x there. each x (or_right (q.0 == x) (list_any (is_ran x) is) there)) (apart_rest a q is apart))
  where
    rest_ : List Access
    rest_ = accesses_along p c f is

    none : has_access q.0 a ≡ false
    none = apart_first a q is apart

    changed : map waits_again rest_ ≡ accesses_along p c h is
    changed = along_changed p c f h waits_again is (λ x there. each x (or_right (q.0 == x) (list_any (is_ran x) is) there))

    again_own : is_of q.0 (waits_again (f q.0)) ≡ true
    again_own = ap (λ (r : RunNo). r.0 == q.0) (again_run (f q.0)) ∙ its_own p c f own q.0

    nowhere : put_access_before (first_with_access (a ++ rest_) is) y (with_again (first_with_access (a ++ rest_) is) (a ++ rest_)) ≡ a ++ y ∷ accesses_along p c h is
        → put_access_before (first_with_access (a ++ rest_) (Ran q ∷ is)) y (with_again (first_with_access (a ++ rest_) (Ran q ∷ is)) (a ++ rest_)) ≡ a ++ y ∷ accesses_along p c h is
    nowhere rest =
        (λ i. put_access_before (if absent i then Some q else first_with_access (a ++ rest_) is) y (with_again (if absent i then Some q else first_with_access (a ++ rest_) is) (a ++ rest_))) ∙ rest
      where
        absent : has_access q.0 (a ++ rest_) ≡ false
        absent = stands_nowhere p c f own q.0 a is none distinct.0

    at_ : (u : Bool) → p q.0 ≡ u → (v : Bool) → put_access_before (first_with_access (a ++ rest_) is) y (with_again (first_with_access (a ++ rest_) is) (a ++ rest_)) ≡ a ++ y ∷ accesses_along p c h is
        → put_access_before (first_with_access (a ++ (if u && v then (f q.0 ∷ rest_) else rest_)) (Ran q ∷ is)) y (with_again (first_with_access (a ++ (if u && v then (f q.0 ∷ rest_) else rest_)) (Ran q ∷ is)) (a ++ (if u && v then (f q.0 ∷ rest_) else rest_)))
        ≡ a ++ y ∷ (if u && v then (h q.0 ∷ accesses_along p c h is) else accesses_along p c h is)
    at_ true e true rest =
        (λ i. put_access_before (if here i then Some q else first_with_access (a ++ f q.0 ∷ rest_) is) y (with_again (if here i then Some q else first_with_access (a ++ f q.0 ∷ rest_) is) (a ++ f q.0 ∷ rest_)))
        ∙ ap (put_before_run q.0 y) (again_from_at q.0 a (f q.0) rest_ none (its_own p c f own q.0))
        ∙ put_at q.0 y a (waits_again (f q.0)) (map waits_again rest_) none again_own
        ∙ (λ i. a ++ y ∷ sym (each q.0 (or_left (q.0 == q.0) (list_any (is_ran q.0) is) (eq-eqb q.0 q.0 refl)) e) i ∷ changed i)
      where
        here : has_access q.0 (a ++ f q.0 ∷ rest_) ≡ true
        here = stands_here p c f own q.0 a rest_
    at_ true e false rest = nowhere rest
    at_ false e v rest = nowhere rest
put_between p c f h y a (Failed d k ∷ is) distinct own each apart = put_between p c f h y a is distinct own each apart
put_between p c f h y a (Back d k ∷ is) distinct own each apart = put_between p c f h y a is distinct own each apart

-- where none of the back is acquired, none is from the first one of a run of the back on
pub from_between : (p c : ℕ → Bool) (f : ℕ → Access) (a : List Access) (is : List Item) → RunsAreDistinct is → ((x : ℕ) → (f x).run.0 ≡ x) → ((x : ℕ) → list_any (is_ran x) is ≡ true → p x ≡ true → is_acquired (f x).status ≡ false) → AreApart a is
    → some_acquired (accesses_from (first_with_access (a ++ accesses_along p c f is) is) (a ++ accesses_along p c f is)) ≡ false
unfolding RunsAreDistinct
from_between p c f a [] distinct own none apart = refl
from_between p c f a (Ran r ∷ is) distinct own none apart = at_ (p r.0) refl (not (list_any (of_run c) is)) (from_between p c f a is distinct.1 own (λ x there. none x (or_right (r.0 == x) (list_any (is_ran x) is) there)) (apart_rest a r is apart))
  where
    rest_ : List Access
    rest_ = accesses_along p c f is

    lacks : has_access r.0 a ≡ false
    lacks = apart_first a r is apart

    nowhere : some_acquired (accesses_from (first_with_access (a ++ rest_) is) (a ++ rest_)) ≡ false → some_acquired (accesses_from (first_with_access (a ++ rest_) (Ran r ∷ is)) (a ++ rest_)) ≡ false
    nowhere rest = (λ i. some_acquired (accesses_from (if stands_nowhere p c f own r.0 a is lacks distinct.0 i then Some r else first_with_access (a ++ rest_) is) (a ++ rest_))) ∙ rest

    at_ : (u : Bool) → p r.0 ≡ u → (v : Bool) → some_acquired (accesses_from (first_with_access (a ++ rest_) is) (a ++ rest_)) ≡ false
        → some_acquired (accesses_from (first_with_access (a ++ (if u && v then (f r.0 ∷ rest_) else rest_)) (Ran r ∷ is)) (a ++ (if u && v then (f r.0 ∷ rest_) else rest_))) ≡ false
    at_ true e true rest =
        (λ i. some_acquired (accesses_from (if stands_here p c f own r.0 a rest_ i then Some r else first_with_access (a ++ f r.0 ∷ rest_) is) (a ++ f r.0 ∷ rest_)))
        ∙ ap some_acquired (from_at r.0 a (f r.0) rest_ lacks (its_own p c f own r.0))
        ∙ (λ i. none r.0 (or_left (r.0 == r.0) (list_any (is_ran r.0) is) (eq-eqb r.0 r.0 refl)) e i || along_none p c f (λ (x : Access). is_acquired x.status) is (λ x there. none x (or_right (r.0 == x) (list_any (is_ran x) is) there)) i)
    at_ true e false rest = nowhere rest
    at_ false e v rest = nowhere rest
from_between p c f a (Failed d k ∷ is) distinct own none apart = from_between p c f a is distinct own none apart
from_between p c f a (Back d k ∷ is) distinct own none apart = from_between p c f a is distinct own none apart
