-- Which grips may be out, and what the runs of a window hold.
use Rattle.window_order.proofs.Prelude.{Bool, ChangesInPlace, Commands, CutAt, Free, Grip, Grips, GripsFit, IsTrue, None, OfRun, Option, Probes, Purpose, Reading, Setting, Some, Undoes, ap, arith, commands_of, common_steps, cond, eq-eqb, eqb-true, false, find, grip_wait, held_by, held_for, holds, if◌then◌else◌, is_committing, is_device, is_none, is_on, is_out, is_some, length, nat_lt, not, option_map, point, put, range_with_len, refl, slice_get, some_is, subst, suc, sym, true, unwrap_or, window_of, zero, ℕ, ◌&&◌, ◌+◌, ◌<◌, ◌==◌, ◌∙◌, ◌≡◌, ◌≢◌, ◌≤◌}

-- the run's command of this number may be out: it is the next one, and its guard holds
abbrev pub may_command : Setting → ℕ → ℕ → ℕ → OfRun → Bool
may_command w r d k o = (is_some o.placed && is_none o.ended) && unwrap_or (option_map (λ c. is_on d c && holds c.when o.register) (slice_get (commands_of w.runs r) (length o.answers))) false && (k == length o.answers)

-- .. and an undo of it
abbrev pub may_undo : ℕ → OfRun → Bool
may_undo d o = (is_some o.placed && is_none o.ended) && is_some o.doomed && is_some (o.on d).wrote && not (o.on d).undid

abbrev pub MayGrip : Setting → Reading → ℕ → ℕ → Purpose → Type 0
MayGrip w n d r (Commands k) = IsTrue (may_command w r d k (n.run r))
MayGrip w n d r (Undoes v) = IsTrue (may_undo d (n.run r))
MayGrip w n d r (Probes v) = r ≡ 0

-- each grip that is out is one that may be out
abbrev pub AllMay : Setting → Reading → Grips → Type 0
AllMay w n g = (d r : ℕ) (p : Purpose) → g d ≡ Some (record { maker = r; purpose = p }) → MayGrip w n d r p

-- a run holds no grip
abbrev pub HoldsNone : Grips → ℕ → Type 0
HoldsNone g r = (d : ℕ) (p : Purpose) → g d ≡ Some (record { maker = r; purpose = p }) → ⊥

pub all_may : (w : Setting) (n : Reading) (g : Grips) → GripsFit (point w n g) → AllMay w n g
all_may w n g f d r (Commands k) at = f.runs.commands d r k at
all_may w n g f d r (Undoes v) at = f.runs.undos d r v at
all_may w n g f d r (Probes v) at = f.probes d r v at

pub fits_from : (w : Setting) (n : Reading) (g : Grips) → ((d : ℕ) → is_out g d ≡ true → is_device w d ≡ true) → AllMay w n g
    → ((d e r : ℕ) (p q : Purpose) → g d ≡ Some (record { maker = suc r; purpose = p }) → g e ≡ Some (record { maker = suc r; purpose = q }) → d ≡ e) → GripsFit (point w n g)
fits_from w n g homed may one = record {
  homed = homed;
  runs = record { commands = λ d r k at. may d r (Commands k) at; undos = λ d r v at. may d r (Undoes v) at; one = one };
  probes = λ d r v at. may d r (Probes v) at;
}

-- where a run that holds no grip changes
pub fits_other : (w : Setting) (n m : Reading) (g : Grips) (r : ℕ) → ((q : ℕ) → q ≢ r → m.run q ≡ n.run q) → HoldsNone g r → GripsFit (point w n g) → GripsFit (point w m g)
fits_other w n m g r others none f = fits_from w m g f.homed (λ d q p at. at_ d q p at (all_may w n g f d q p at)) f.runs.one
  where
    other : (d q : ℕ) (p : Purpose) → g d ≡ Some (record { maker = q; purpose = p }) → q ≢ r
    other d q p at same = none d p (at ∙ ap (λ x. Some (record { maker = x; purpose = p })) same)

    at_ : (d q : ℕ) (p : Purpose) → g d ≡ Some (record { maker = q; purpose = p }) → MayGrip w n d q p → MayGrip w m d q p
    at_ d q (Commands k) at may = ap (may_command w q d k) (others q (other d q (Commands k) at)) ∙ may
    at_ d q (Undoes v) at may = ap (may_undo d) (others q (other d q (Undoes v) at)) ∙ may
    at_ d q (Probes v) at may = may

-- where each run may hold what it held
pub fits_same : (w : Setting) (n m : Reading) (g : Grips) → ((q d k : ℕ) → may_command w q d k (m.run q) ≡ may_command w q d k (n.run q)) → ((q d : ℕ) → may_undo d (m.run q) ≡ may_undo d (n.run q)) → GripsFit (point w n g) → GripsFit (point w m g)
fits_same w n m g commands undos f = fits_from w m g f.homed (λ d q p at. at_ d q p (all_may w n g f d q p at)) f.runs.one
  where
    at_ : (d q : ℕ) (p : Purpose) → MayGrip w n d q p → MayGrip w m d q p
    at_ d q (Commands k) may = commands q d k ∙ may
    at_ d q (Undoes v) may = undos q d ∙ may
    at_ d q (Probes v) may = may

same_place : (d e : ℕ) → (e == d) ≡ true → e ≡ d
same_place d e h = grind (arith, common_steps)

-- what is out without the grip of d was out before
was_out : (g : Grips) (d e : ℕ) (x : Grip) → put g d None e ≡ Some x → g e ≡ Some x
was_out g d e x = at_ (e == d)
  where
    at_ : (b : Bool) → (if b then None else g e) ≡ Some x → g e ≡ Some x
    at_ true h = absurd (cc)
    at_ false h = h

-- a grip comes home
pub fits_without : (w : Setting) (n : Reading) (g : Grips) (d : ℕ) → GripsFit (point w n g) → GripsFit (point w n (put g d None))
fits_without w n g d f =
    fits_from w n (put g d None) (λ e out. f.homed e (still_out e (e == d) out)) (λ e q p at. all_may w n g f e q p (was_out g d e (record { maker = q; purpose = p }) at))
    (λ e i q p s at at'. f.runs.one e i q p s (was_out g d e (record { maker = suc q; purpose = p }) at) (was_out g d i (record { maker = suc q; purpose = s }) at'))
  where
    still_out : (e : ℕ) (b : Bool) → is_some (if b then None else g e) ≡ true → is_some (g e) ≡ true
    still_out e true out = absurd (cc)
    still_out e false out = out

-- the run whose grip came home holds none
pub none_left : (w : Setting) (n : Reading) (g : Grips) (d r : ℕ) (p : Purpose) → g d ≡ Some (record { maker = suc r; purpose = p }) → GripsFit (point w n g) → HoldsNone (put g d None) (suc r)
none_left w n g d r p at f e s h = at_ (e == d) refl h
  where
    differ : (e d : ℕ) → (e == d) ≡ false → d ≡ e → ⊥
    differ e d h k = grind (arith, common_steps)

    at_ : (b : Bool) → (e == d) ≡ b → (if b then None else g e) ≡ Some (record { maker = suc r; purpose = s }) → ⊥
    at_ true x h = absurd (cc)
    at_ false x h = differ e d x (f.runs.one d e r p s at h)

-- a grip goes out
pub fits_with : (w : Setting) (n : Reading) (g : Grips) (d r : ℕ) (p : Purpose) → is_device w d ≡ true → MayGrip w n d r p → ((q : ℕ) → r ≡ suc q → HoldsNone g r) → GripsFit (point w n g) → GripsFit (point w n (put g d (Some (record { maker = r; purpose = p }))))
fits_with w n g d r p device may none f = fits_from w n (put g d (Some new)) (λ e out. homed e (e == d) refl out) (λ e q s at. mays e q s (e == d) refl at) (λ e i q s t at at'. one e i q s t (e == d) (i == d) refl refl at at')
  where
    new : Grip
    new = record { maker = r; purpose = p }

    homed : (e : ℕ) (b : Bool) → (e == d) ≡ b → is_some (if b then Some new else g e) ≡ true → is_device w e ≡ true
    homed e true x out = subst (λ y. is_device w y ≡ true) (sym (same_place d e x)) device
    homed e false x out = f.homed e out

    mays : (e q : ℕ) (s : Purpose) (b : Bool) → (e == d) ≡ b → (if b then Some new else g e) ≡ Some (record { maker = q; purpose = s }) → MayGrip w n e q s
    mays e q s true x at = subst (λ y. MayGrip w n y q s) (sym (same_place d e x)) (subst (λ (y : Grip). MayGrip w n d y.maker y.purpose) (some_is new (record { maker = q; purpose = s }) at) may)
    mays e q s false x at = all_may w n g f e q s at

    maker : (q : ℕ) (s : Purpose) → Some new ≡ Some (record { maker = q; purpose = s }) → r ≡ q
    maker q s at = ap (λ (y : Grip). y.maker) (some_is new (record { maker = q; purpose = s }) at)

    elsewhere : (e q : ℕ) (s t : Purpose) → Some new ≡ Some (record { maker = suc q; purpose = s }) → g e ≡ Some (record { maker = suc q; purpose = t }) → ⊥
    elsewhere e q s t at at' = none q (maker (suc q) s at) e t (at' ∙ ap (λ x. Some (record { maker = x; purpose = t })) (sym (maker (suc q) s at)))

    one : (e i q : ℕ) (s t : Purpose) (b c : Bool) → (e == d) ≡ b → (i == d) ≡ c → (if b then Some new else g e) ≡ Some (record { maker = suc q; purpose = s }) → (if c then Some new else g i) ≡ Some (record { maker = suc q; purpose = t }) → e ≡ i
    one e i q s t true true x y at at' = same_place d e x ∙ sym (same_place d i y)
    one e i q s t true false x y at at' = absurd (elsewhere i q s t at at')
    one e i q s t false true x y at at' = absurd (elsewhere e q t s at' at)
    one e i q s t false false x y at at' = f.runs.one e i q s t at at'

-- Waiting for a grip

pub none_in : (p : ℕ → Bool) (a k d : ℕ) → find p (range_with_len a k) ≡ None → a ≤ d → d < a + k → p d ≡ false
none_in p a zero d none low high = absurd (clash a d low high)
  where
    clash : (a d : ℕ) → a ≤ d → d < a + 0 → ⊥
    clash a d low high = omega (arith, low, high)
none_in p a (suc k) d none low high = at_ (λ rest more. none_in p (a + 1) k d rest more (omega (arith, high))) (p a) refl none
  where
    first : (d == a) ≡ true → d ≡ a
    first h = grind (arith, common_steps)

    later : (d == a) ≡ false → a + 1 ≤ d
    later h = grind (arith, common_steps)

    either : (find p (range_with_len (a + 1) k) ≡ None → a + 1 ≤ d → p d ≡ false) → p a ≡ false → find p (range_with_len (a + 1) k) ≡ None → (b : Bool) → (d == a) ≡ b → p d ≡ false
    either step here none true x = ap p (first x) ∙ here
    either step here none false x = step none (later x)

    at_ : (find p (range_with_len (a + 1) k) ≡ None → a + 1 ≤ d → p d ≡ false) → (b : Bool) → p a ≡ b → cond b (Some a) (find p (range_with_len (a + 1) k)) ≡ None → p d ≡ false
    at_ step true here none = absurd (cc)
    at_ step false here none = either step here none (d == a) refl

-- a run that waits for no grip holds none
pub holds_none : (w : Setting) (g : Grips) (r : ℕ) → ((d : ℕ) → is_out g d ≡ true → is_device w d ≡ true) → grip_wait w g r ≡ None → HoldsNone g r
holds_none w g r homed none d p at =
    clash (unwrap_or (option_map (λ (x : Grip). x.maker == r) (g d)) false) (ap (λ (o : Option Grip). unwrap_or (option_map (λ (x : Grip). x.maker == r) o) false) at ∙ eq-eqb r r refl)
    (none_in (λ e. unwrap_or (option_map (λ (x : Grip). x.maker == r) (g e)) false) 0 (length w.first) d none (omega arith) (below d (length w.first) (homed d (ap is_some at))))
  where
    clash : (b : Bool) → b ≡ true → b ≡ false → ⊥
    clash b h k = grind (arith, common_steps)

    below : (d k : ℕ) → nat_lt d k ≡ true → d < 0 + k
    below d k h = grind (arith, common_steps)

-- What a run holds

pub held_none : (w : Setting) (g : Grips) (r d : ℕ) → HoldsNone g r → held_by w r (g d) ≡ Free
held_none w g r d none = at_ (g d) refl
  where
    one : (x : Grip) → g d ≡ Some x → (b : Bool) → (x.maker == r) ≡ b → (if b then held_for w r x.purpose else Free) ≡ Free
    one x e true h = absurd (none d x.purpose (e ∙ ap (λ y. Some (record { maker = y; purpose = x.purpose })) (eqb-true x.maker r h)))
    one x e false h = refl

    at_ : (o : Option Grip) → g d ≡ o → held_by w r o ≡ Free
    at_ None e = refl
    at_ (Some x) e = one x e (x.maker == r) refl

-- another run does not hold the grip
pub held_other : (w : Setting) (r q : ℕ) (p : Purpose) → q ≢ r → held_by w q (Some (record { maker = r; purpose = p })) ≡ Free
held_other w r q p differ = ap (λ b. if b then held_for w q p else Free) (other r q differ)
  where
    other : (r q : ℕ) → q ≢ r → (r == q) ≡ false
    other r q h = grind (arith, common_steps)

-- its maker does
pub held_own : (w : Setting) (r : ℕ) (p : Purpose) → held_by w r (Some (record { maker = r; purpose = p })) ≡ held_for w r p
held_own w r p = ap (λ b. if b then held_for w r p else Free) (eq-eqb r r refl)

-- one run of the line changes in its place
abbrev pub in_place : (w : Setting) (n m : Reading) (g h : Grips) (held after : ℕ → ℕ) (r : ℕ) → CutAt r n.line → m.line ≡ n.line → ((q : ℕ) → q ≢ r → m.run q ≡ n.run q) → ((q e : ℕ) → q ≢ r → held_by w q (h e) ≡ held_by w q (g e))
    → ChangesInPlace (window_of (point w n g) held) (window_of (point w m h) after) r
in_place w n m g h held after r cut line runs grips = record {
  front = cut.front;
  back = cut.back;
  at = cut.at;
  before = cut.before;
  behind = cut.behind;
  line = line;
  runs = refl;
  first = refl;
  others = λ q ne. λ i. record {
    commands = commands_of w.runs q;
    answers = (runs q ne i).answers;
    committed = unwrap_or (option_map is_committing (runs q ne i).ended) false;
    doomed = is_some (runs q ne i).doomed;
    undid = λ d. ((runs q ne i).on d).undid;
    grip = λ e. grips q e ne i;
  };
  commands = refl;
}
