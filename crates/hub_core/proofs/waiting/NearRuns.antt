-- The live runs before a run that have a device in their footprint: no other run makes it wait for the device.
use Rattle.hub_core.proofs.Prelude.{Back, Bool, Each, Failed, Item, List, None, Option, Ran, Reading, Setting, Some, [], ap, arith, before, common_steps, cond, cons_option, each_filter, false, filter, find, fold, if◌then◌else◌, is_live, is_ran, list_any, live_before, live_runs, live_runs_live, not, option_map, option_or, part, refl, sym, take_while-cons, touches, true, ℕ, ◌++◌, ◌==◌, ◌||◌, ◌∙◌, ◌∷◌, ◌≡◌, ◌≢◌}

-- the live runs before r with the device in their footprint
abbrev pub runs_near : Setting → Reading → ℕ → ℕ → List ℕ
runs_near w n r d = filter (λ x. touches w.runs x d) (live_before n r)

pub near_each : (w : Setting) (n : Reading) (r d : ℕ) → Each (λ x. (is_live n x ≡ true) × (touches w.runs x d ≡ true)) (runs_near w n r d)
near_each w n r d = each_filter (λ x. is_live n x ≡ true) (λ x. touches w.runs x d) (live_before n r) (live_runs_live n (before r n.line))

-- what is done only where something else holds is not done where that does not
not_off : (a b : Bool) → (a ≡ true → b ≡ true) → b ≡ false → a ≡ false
not_off true b only off = absurd (let both : true ≡ false = sym (only refl) ∙ off in cc)
not_off false b only off = refl

-- Searches

-- what the test holds of at most the numbers of a kind is found among those
find_near : (t p : ℕ → Bool) (xs : List ℕ) → ((x : ℕ) → p x ≡ true → t x ≡ true) → find p xs ≡ find p (filter t xs)
find_near t p [] of_kind = refl
find_near t p (x ∷ xs) of_kind = elim (t x) as (λ b. t x ≡ b → find p (x ∷ xs) ≡ find p (cond b (x ∷ filter t xs) (filter t xs))) [
  | true ↦ (λ e. ap (λ o. cond (p x) (Some x) o) (find_near t p xs of_kind))
  | false ↦ (λ e. ap (λ b. cond b (Some x) (find p xs)) (not_off (p x) (t x) (of_kind x) e) ∙ find_near t p xs of_kind)
] refl

-- where two searches agree on each number, and what is told of it agrees, so does what is told of the one found
each_same : {B : Type 0} (p q : ℕ → Bool) (f k : ℕ → B) (P : ℕ → Type 0) (xs : List ℕ) → ((x : ℕ) → P x → (p x ≡ q x) × (f x ≡ k x)) → Each P xs → option_map f (find p xs) ≡ option_map k (find q xs)
each_same p q f k P [] same all = refl
each_same p q f k P (x ∷ xs) same all =
    ap (λ b. option_map f (cond b (Some x) (find p xs))) (same x all.0).0
    ∙ (elim (q x) as (λ b. option_map f (cond b (Some x) (find p xs)) ≡ option_map k (cond b (Some x) (find q xs))) [
      | true ↦ ap (λ y. Some y) (same x all.0).1
      | false ↦ each_same p q f k P xs same all.1
    ])

-- a search for a run of the device among the live runs before a run, and what it tells, in two readings
pub seen_same : {B : Type 0} (w : Setting) (n m : Reading) (r d : ℕ) (p q : ℕ → Bool) (f k : ℕ → B) → runs_near w m r d ≡ runs_near w n r d → ((x : ℕ) → p x ≡ true → touches w.runs x d ≡ true) → ((x : ℕ) → q x ≡ true → touches w.runs x d ≡ true)
    → ((x : ℕ) → is_live n x ≡ true → touches w.runs x d ≡ true → (p x ≡ q x) × (f x ≡ k x)) → option_map f (find p (live_before m r)) ≡ option_map k (find q (live_before n r))
seen_same w n m r d p q f k near here there same =
    ap (option_map f) (find_near (λ x. touches w.runs x d) p (live_before m r) here ∙ ap (find p) near)
    ∙ each_same p q f k (λ x. (is_live n x ≡ true) × (touches w.runs x d ≡ true)) (runs_near w n r d) (λ x at. same x at.0 at.1) (near_each w n r d)
    ∙ sym (ap (option_map k) (find_near (λ x. touches w.runs x d) q (live_before n r) there))

-- .. and the search alone
pub found_same : (w : Setting) (n m : Reading) (r d : ℕ) (p q : ℕ → Bool) → runs_near w m r d ≡ runs_near w n r d → ((x : ℕ) → p x ≡ true → touches w.runs x d ≡ true) → ((x : ℕ) → q x ≡ true → touches w.runs x d ≡ true)
    → ((x : ℕ) → is_live n x ≡ true → touches w.runs x d ≡ true → p x ≡ q x) → find p (live_before m r) ≡ find q (live_before n r)
found_same w n m r d p q near here there same =
    sym (itself (find p (live_before m r))) ∙ seen_same w n m r d p q (λ x. x) (λ x. x) near here there (λ x live on. (same x live on, refl)) ∙ itself (find q (live_before n r))
  where
    itself : (o : Option ℕ) → option_map (λ x. x) o ≡ o
    itself None = refl
    itself (Some x) = refl

-- Lines

-- one number more in front
more_kept : (t : ℕ → Bool) (b : Bool) (x : ℕ) (xs ys : List ℕ) → filter t xs ≡ filter t ys → filter t (cons_option (if b then Some x else None) xs) ≡ filter t (cons_option (if b then Some x else None) ys)
more_kept t true x xs ys same = ap (λ l. cond (t x) (x ∷ l) l) same
more_kept t false x xs ys same = same

-- .. that is not of the kind
more_left : (t : ℕ → Bool) (b : Bool) (x : ℕ) (xs : List ℕ) → t x ≡ false → filter t (cons_option (if b then Some x else None) xs) ≡ filter t xs
more_left t true x xs off = ap (λ c. cond c (x ∷ filter t xs) (filter t xs)) off
more_left t false x xs off = refl

module _ (w : Setting) (n : Reading) (r d : ℕ) where
  -- those of the device
  abbrev of_device : List ℕ → List ℕ
  of_device xs = filter (λ x. touches w.runs x d) xs

  abbrev near_in : List Item → List ℕ
  near_in line = of_device (live_runs n (before r line))

  first : (i : Item) (is : List Item) → near_in (i ∷ is) ≡ of_device (live_runs n (cond (not (is_ran r i)) (i ∷ before r is) []))
  first i is = ap (λ l. of_device (live_runs n l)) (take_while-cons (λ j. not (is_ran r j)) i is)

  -- they stand in the device's own part of the line, as the run does
  pub near_part : (line : List Item) → touches w.runs r d ≡ true → near_in line ≡ near_in (part w d line)
  near_part [] own = refl
  near_part (Ran q ∷ is) own = elim (touches w.runs q.0 d) as (λ b. touches w.runs q.0 d ≡ b → near_in (Ran q ∷ is) ≡ near_in (cond b (Ran q ∷ part w d is) (part w d is))) [
    | true ↦ (λ e. first (Ran q) is ∙ on (q.0 == r) (near_part is own) ∙ sym (first (Ran q) (part w d is)))
    | false ↦ (λ e. first (Ran q) is ∙ off e (q.0 == r) refl (near_part is own))
  ] refl
    where
      on : (b : Bool) → near_in is ≡ near_in (part w d is) → of_device (live_runs n (cond (not b) (Ran q ∷ before r is) [])) ≡ of_device (live_runs n (cond (not b) (Ran q ∷ before r (part w d is)) []))
      on true rest = refl
      on false rest = more_kept (λ x. touches w.runs x d) (is_live n q.0) q.0 (live_runs n (before r is)) (live_runs n (before r (part w d is))) rest

      off : touches w.runs q.0 d ≡ false → (b : Bool) → (q.0 == r) ≡ b → near_in is ≡ near_in (part w d is) → of_device (live_runs n (cond (not b) (Ran q ∷ before r is) [])) ≡ near_in (part w d is)
      off none true e rest = absurd (let same : q.0 ≡ r = grind (arith, common_steps) in let both : true ≡ false = sym own ∙ sym (ap (λ x. touches w.runs x d) same) ∙ none in cc)
      off none false e rest = more_left (λ x. touches w.runs x d) (is_live n q.0) q.0 (live_runs n (before r is)) none ∙ rest
  near_part (Failed e k ∷ is) own = first (Failed e k) is ∙ near_part is own ∙ (elim (e.0 == d) as (λ b. near_in (part w d is) ≡ near_in (cond b (Failed e k ∷ part w d is) (part w d is))) [
    | true ↦ sym (first (Failed e k) (part w d is))
    | false ↦ refl
  ])
  near_part (Back e k ∷ is) own = first (Back e k) is ∙ near_part is own ∙ (elim (e.0 == d) as (λ b. near_in (part w d is) ≡ near_in (cond b (Back e k ∷ part w d is) (part w d is))) [
    | true ↦ sym (first (Back e k) (part w d is))
    | false ↦ refl
  ])

-- where the same runs of the device are live, they are the same among these items
near_live : (t : ℕ → Bool) (n m : Reading) (is : List Item) → ((q : ℕ) → t q ≡ true → is_live m q ≡ is_live n q) → filter t (live_runs m is) ≡ filter t (live_runs n is)
near_live t n m [] same = refl
near_live t n m (Ran q ∷ is) same = elim (t q.0) as (λ b. t q.0 ≡ b → filter t (live_runs m (Ran q ∷ is)) ≡ filter t (live_runs n (Ran q ∷ is))) [
  | true ↦ (λ e. ap (λ b. filter t (cons_option (if b then Some q.0 else None) (live_runs m is))) (same q.0 e) ∙ more_kept t (is_live n q.0) q.0 (live_runs m is) (live_runs n is) (near_live t n m is same))
  | false ↦ (λ e. more_left t (is_live m q.0) q.0 (live_runs m is) e ∙ near_live t n m is same ∙ sym (more_left t (is_live n q.0) q.0 (live_runs n is) e))
] refl
near_live t n m (Failed e k ∷ is) same = near_live t n m is same
near_live t n m (Back e k ∷ is) same = near_live t n m is same

-- where the device's own part of the line is the same, and the same runs of the device are live, they are the same
pub near_same : (w : Setting) (n m : Reading) (r d : ℕ) → touches w.runs r d ≡ true → part w d m.line ≡ part w d n.line → ((q : ℕ) → touches w.runs q d ≡ true → is_live m q ≡ is_live n q) → runs_near w m r d ≡ runs_near w n r d
near_same w n m r d own parts live =
    near_part w m r d m.line own
    ∙ ap (λ l. filter (λ x. touches w.runs x d) (live_runs m (before r l))) parts
    ∙ near_live (λ x. touches w.runs x d) n m (before r (part w d n.line)) live
    ∙ sym (near_part w n r d n.line own)

-- what is put behind a run of the line leaves the live runs before it, where a run that is not in the line becomes live
pub before_more : (n m : Reading) (r x : ℕ) (line more : List Item) → ((q : ℕ) → q ≢ x → is_live m q ≡ is_live n q) → list_any (is_ran x) line ≡ false → list_any (is_ran r) line ≡ true → live_runs m (before r (line ++ more)) ≡ live_runs n (before r line)
before_more n m r x [] more live none there = absurd (cc)
before_more n m r x (Ran q ∷ is) more live none there =
    ap (live_runs m) (take_while-cons (λ i. not (is_ran r i)) (Ran q) (is ++ more)) ∙ up_to (q.0 == r) refl (λ there'. before_more n m r x is more live (grind (arith, common_steps)) there') ∙ sym (ap (live_runs n) (take_while-cons (λ i. not (is_ran r i)) (Ran q) is))
  where
    other : q.0 ≢ x
    other same = let is_x : (q.0 == x) ≡ true = grind (arith, common_steps) in let both : false ≡ true = sym none ∙ ap (λ b. b || list_any (is_ran x) is) is_x in cc

    up_to : (b : Bool) → (q.0 == r) ≡ b → (list_any (is_ran r) is ≡ true → live_runs m (before r (is ++ more)) ≡ live_runs n (before r is)) → live_runs m (cond (not b) (Ran q ∷ before r (is ++ more)) []) ≡ live_runs n (cond (not b) (Ran q ∷ before r is) [])
    up_to true e rest = refl
    up_to false e rest = let same = rest (grind (arith, common_steps)) in λ i. cons_option (if live q.0 other i then Some q.0 else None) (same i)
before_more n m r x (Failed e k ∷ is) more live none there =
    ap (live_runs m) (take_while-cons (λ i. not (is_ran r i)) (Failed e k) (is ++ more)) ∙ before_more n m r x is more live none there ∙ sym (ap (live_runs n) (take_while-cons (λ i. not (is_ran r i)) (Failed e k) is))
before_more n m r x (Back e k ∷ is) more live none there =
    ap (live_runs m) (take_while-cons (λ i. not (is_ran r i)) (Back e k) (is ++ more)) ∙ before_more n m r x is more live none there ∙ sym (ap (live_runs n) (take_while-cons (λ i. not (is_ran r i)) (Back e k) is))

-- Lists

-- one element in the middle, of which the test does not hold
pub filter_insert : {A : Type 0} (p : A → Bool) (front back : List A) (x : A) → p x ≡ false → filter p (front ++ x ∷ back) ≡ filter p (front ++ back)
filter_insert p [] back x none = ap (λ b. cond b (x ∷ filter p back) (filter p back)) none
filter_insert p (y ∷ ys) back x none = ap (λ l. cond (p y) (y ∷ l) l) (filter_insert p ys back x none)

-- .. that gives no value
pub last_insert : {A B : Type 0} (f : A → Option B) (front back : List A) (x : A) (best : Option B) → f x ≡ None → fold (λ o y. option_or (f y) o) best (front ++ x ∷ back) ≡ fold (λ o y. option_or (f y) o) best (front ++ back)
last_insert f [] back x best none = ap (λ u. fold (λ o y. option_or (f y) o) (option_or u best) back) none
last_insert f (y ∷ ys) back x best none = last_insert f ys back x (option_or (f y) best) none

-- a test that holds of no more elements than the one before it
pub filter_twice : {A : Type 0} (p q : A → Bool) (xs : List A) → ((x : A) → p x ≡ true → q x ≡ true) → filter p (filter q xs) ≡ filter p xs
filter_twice p q [] narrow = refl
filter_twice p q (x ∷ xs) narrow = elim (q x) as (λ b. q x ≡ b → filter p (cond b (x ∷ filter q xs) (filter q xs)) ≡ filter p (x ∷ xs)) [
  | true ↦ (λ e. ap (λ l. cond (p x) (x ∷ l) l) (filter_twice p q xs narrow))
  | false ↦ (λ e. filter_twice p q xs narrow ∙ sym (ap (λ b. cond b (x ∷ filter p xs) (filter p xs)) (not_off (p x) (q x) (narrow x) e)))
] refl

-- what no element does none does that is left
pub none_left : {A : Type 0} (p q : A → Bool) (xs : List A) → list_any p xs ≡ false → list_any p (filter q xs) ≡ false
none_left p q [] none = refl
none_left p q (x ∷ xs) none = elim (q x) as (λ b. list_any p (cond b (x ∷ filter q xs) (filter q xs)) ≡ false) [
  | true ↦ (let here : p x ≡ false = grind (arith, common_steps) in let rest = none_left p q xs (grind (arith, common_steps)) in λ i. here i || rest i)
  | false ↦ none_left p q xs (grind (arith, common_steps))
]

-- .. and what only those do that are left some of them does
pub some_left : {A : Type 0} (p q : A → Bool) (xs : List A) → ((x : A) → p x ≡ true → q x ≡ true) → list_any p (filter q xs) ≡ list_any p xs
some_left p q [] narrow = refl
some_left p q (x ∷ xs) narrow = elim (q x) as (λ b. q x ≡ b → list_any p (cond b (x ∷ filter q xs) (filter q xs)) ≡ (p x || list_any p xs)) [
  | true ↦ (λ e. ap (λ b. p x || b) (some_left p q xs narrow))
  | false ↦ (λ e. some_left p q xs narrow ∙ sym (ap (λ b. b || list_any p xs) (not_off (p x) (q x) (narrow x) e)))
] refl
