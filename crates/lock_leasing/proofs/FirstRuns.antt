-- A run that stands behind no live run waits for none; where a run of the line is live there is a first live one.
use Rattle.lock_leasing.proofs.Prelude.{Back, Bool, Command, Failed, Grips, Item, List, None, Option, Ran, Reading, Run, Scheduler, Setting, Some, [], ap, ap₂, arith, before, behind_wait, common_steps, cond, cons_option, dirty_wait, false, find, has_effect, has_written, holds_device, if◌then◌else◌, is_live, is_ran, list_any, live_before, live_runs, not, point, reads, refl, sees_down, shares, strict_wait, subst, sym, take_while-cons, touch_by, true, ℕ, ◌&&◌, ◌==◌, ◌||◌, ◌∙◌, ◌∷◌, ◌≡◌}
use Rattle.home_types.specs.declared.kinds.Kind.{Kind}
use Rattle.home_types.specs.declared.modes.Visibility.{Visibility}
use Rattle.home_types.specs.declared.modes.Visibility.TheVariants.{Eventual, Global, Partitioned, Weak}
use Rattle.home_types.specs.declared.worlds.Stand.{Stand}
use Rattle.lock_leasing.specs.FirstRuns.{IsFirstLive, WaitsForNone}

-- A run that stands behind no live run

-- no model lets one end first
none_is_first : (runs : List Run) (kinds : List Kind) (first : List Stand) (model : Visibility) (scheduler : Scheduler) (n : Reading) (r : ℕ) → live_before n r ≡ []
    → strict_wait (record { runs = runs; mode = record { model = model; scheduler = scheduler }; kinds = kinds; first = first }) n r ≡ None
none_is_first runs kinds first Weak scheduler n r none = refl
none_is_first runs kinds first Global scheduler n r none = ap (λ xs. find (λ x. true) xs) none
none_is_first runs kinds first Partitioned scheduler n r none = ap (λ xs. find (λ x. shares runs x r) xs) none
none_is_first runs kinds first Eventual scheduler n r none = refl

pub waits_for_none : (w : Setting) (n : Reading) (g : Grips) (r : ℕ) → live_before n r ≡ [] → WaitsForNone (point w n g) r
waits_for_none w n g r none = record {
  behind = behind';
  dirty = dirty';
  touch = λ c. ap₂ (touch_by c.device) (behind' c.device.0) (dirty' c);
  strict = none_is_first w.runs w.kinds w.first w.mode.model w.mode.scheduler n r none;
}
  where
    none_there : Option ℕ
    none_there = None

    either : (b : Bool) → (if b then none_there else none_there) ≡ None
    either true = refl
    either false = refl

    behind' : (d : ℕ) → behind_wait (point w n g) r d ≡ None
    behind' d = ap (λ xs. find (λ x. holds_device (point w n g) x d) xs) none

    dirty' : (c : Command) → dirty_wait (point w n g) r c ≡ None
    dirty' c =
        ap (λ xs. if reads c.job && not (sees_down n r c.device.0) && not (has_written n r c.device.0) then find (λ x. has_effect n g x c.device.0) xs else None) none
        ∙ either (reads c.job && not (sees_down n r c.device.0) && not (has_written n r c.device.0))

-- The first live run

first_behind : (n : Reading) (i : Item) (items : List Item) (q : ℕ) → is_ran q i ≡ false → live_runs n (i ∷ []) ≡ [] → IsFirstLive n items q → IsFirstLive n (i ∷ items) q
first_behind n i items q other none at = record {
  there = ap (λ b. b || list_any (is_ran q) items) other ∙ at.there;
  live = at.live;
  first = ap (live_runs n) (take_while-cons (λ y. not (is_ran q y)) i items ∙ ap (λ b. cond (not b) (i ∷ before q items) []) other) ∙ one_more i none;
}
  where
    one_more : (x : Item) → live_runs n (x ∷ []) ≡ [] → live_runs n (x ∷ before q items) ≡ []
    one_more (Ran x) e = elim (is_live n x.0) as (λ b. cons_option (if b then Some x.0 else None) [] ≡ [] → cons_option (if b then Some x.0 else None) (live_runs n (before q items)) ≡ []) [ true ↦ (λ f. absurd (cc)) | false ↦ (λ f. at.first) ] e
    one_more (Failed d k) e = at.first
    one_more (Back d k) e = at.first

pub first_live : (n : Reading) (r : ℕ) (items : List Item) → list_any (is_ran r) items ≡ true → is_live n r ≡ true → (q : ℕ) × IsFirstLive n items q
first_live n r [] there live = absurd (cc)
first_live n r (Ran x ∷ is) there live = elim (is_live n x.0) as (λ b. is_live n x.0 ≡ b → (q : ℕ) × IsFirstLive n (Ran x ∷ is) q) [
  | true ↦ (λ e. (x.0, record { there = ap (λ b. b || list_any (is_ran x.0) is) self; live = e; first = ap (live_runs n) (take_while-cons (λ y. not (is_ran x.0 y)) (Ran x) is ∙ ap (λ b. cond (not b) (Ran x ∷ before x.0 is) []) self) }))
  | false ↦ (λ gone. let rest : (q : ℕ) × IsFirstLive n is q = first_live n r is (left gone) live in (rest.0, first_behind n (Ran x) is rest.0 (apart rest.0 gone rest.1.live) (none gone) rest.1))
] refl
  where
    self : (x.0 == x.0) ≡ true
    self = grind (arith, common_steps)

    apart : (q : ℕ) → is_live n x.0 ≡ false → is_live n q ≡ true → (x.0 == q) ≡ false
    apart q gone now = elim (x.0 == q) as (λ b. (x.0 == q) ≡ b → b ≡ false) [
      | true ↦ (λ e. absurd (let same : x.0 ≡ q = grind (arith, common_steps) in let both : true ≡ false = sym now ∙ subst (λ y. is_live n y ≡ false) same gone in cc))
      | false ↦ (λ e. refl)
    ] refl

    left : is_live n x.0 ≡ false → list_any (is_ran r) is ≡ true
    left gone = let other : (x.0 == r) ≡ false = apart r gone live in grind (arith, common_steps)

    none : is_live n x.0 ≡ false → live_runs n (Ran x ∷ []) ≡ []
    none gone = ap (λ b. cons_option (if b then Some x.0 else None) []) gone
first_live n r (Failed d k ∷ is) there live = let rest : (q : ℕ) × IsFirstLive n is q = first_live n r is there live in (rest.0, first_behind n (Failed d k) is rest.0 refl refl rest.1)
first_live n r (Back d k ∷ is) there live = let rest : (q : ℕ) × IsFirstLive n is q = first_live n r is there live in (rest.0, first_behind n (Back d k) is rest.0 refl refl rest.1)
