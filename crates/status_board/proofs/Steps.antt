-- Each step keeps the rule.
use Rattle.status_board.proofs.Prelude.{Counts, HasLooked, HasPublished, IsNotBelow, KnowsABeginning, List, PassView, StartsWith, ViewsAreKept, [], ap, false, last_of, meeting, nothing, publishing, refl, set, subst, suc, sym, true, true≢false, watching, zero, ℕ, ⊎_elim, ◌++◌, ◌∙◌, ◌∷◌, ◌≡◌, ◌≢◌}
use mathlib.Core.Option.{some, some-ne-none, some-injective}
use lib.ListN.{get_elem?}
use Rattle.crossbeam_utils.specs.Register.{Turns, Forks, Merges}
use Rattle.atomic_table.proofs.Lists.{at_set, at_snoc, set_again}
use Rattle.status_board.proofs.Publishings.{last_more, rises_more, starts_same, starts_none, starts_more}

off : false ≡ true → ⊥
off e = true≢false (sym e)

knows_set : (seat : ℕ) (log : List Counts) (views : List PassView) (by : ℕ) (w : PassView) → ((j : ℕ) (u : PassView) → j ≢ by → get_elem? views j ≡ some u → KnowsABeginning seat log j u) → KnowsABeginning seat log by w
    → (j : ℕ) (u : PassView) → get_elem? (set views by w) j ≡ some u → KnowsABeginning seat log j u
knows_set seat log views by w others mine j u e =
    ⊎_elim
    (λ (x : (j ≡ by) × (w ≡ u)). subst (λ (y : ℕ × PassView). KnowsABeginning seat log y.0 y.1) (λ i. (sym x.0 i, x.1 i)) mine)
    (λ (x : (j ≢ by) × (get_elem? views j ≡ some u)). others j u x.0 x.1)
    (at_set views by j w u e)

-- a pass that publishes nothing, and has seen this
quiet : (seat : ℕ) (log : List Counts) (by : ℕ) (seen : List Counts) → StartsWith log seen → KnowsABeginning seat log by (watching seen)
quiet seat log by seen so = record { seated = λ p. absurd (off p); all = λ p. absurd (off p); seen = so; met = starts_none log }

pub begins : ViewsAreKept nothing (publishing [] ∷ [])
begins = record { seat = 0; log = []; last = refl; rises = tt; fits = one }
  where
    one : (by : ℕ) (v : PassView) → get_elem? (publishing [] ∷ []) by ≡ some v → KnowsABeginning 0 [] by v
    one zero v e = subst (KnowsABeginning 0 [] 0) (some-injective _ _ e) (record { seated = λ _. refl; all = λ _. refl; seen = starts_none []; met = starts_none [] })
    one (suc by) v e = absurd (some-ne-none v (sym e))

pub publishes : (by : ℕ) (seen : List Counts) (c : Counts) → IsNotBelow (last_of seen) c → Turns ViewsAreKept by (publishing seen) (λ _. c) HasPublished
publishes by seen c up x views h at =
    let mine = h.fits by (publishing seen) at in
    let whole : seen ≡ h.log = mine.all refl in (
      publishing (seen ++ c ∷ []),
      record {
        seat = h.seat;
        log = h.log ++ c ∷ [];
        last = sym (last_more nothing h.log c);
        rises = rises_more nothing h.log c h.rises (subst (λ l. IsNotBelow (last_of l) c) whole up);
        fits = knows_set h.seat (h.log ++ c ∷ []) views by (publishing (seen ++ c ∷ []))
            (λ j u apart e. let theirs = h.fits j u e in record {
              seated = theirs.seated;
              all = λ p. absurd (apart (theirs.seated p ∙ sym (mine.seated refl)));
              seen = starts_more h.log u.seen c theirs.seen;
              met = starts_more h.log u.met c theirs.met;
            })
            (record {
              seated = λ _. mine.seated refl;
              all = λ _. ap (λ l. l ++ c ∷ []) whole;
              seen = subst (λ l. StartsWith (h.log ++ c ∷ []) (l ++ c ∷ [])) (sym whole) (starts_same (h.log ++ c ∷ []));
              met = starts_none (h.log ++ c ∷ []);
            });
      },
      refl,
    )

pub looks : (by : ℕ) (v : PassView) → Turns ViewsAreKept by v (λ x. x) HasLooked
looks by v x views h at =
    let mine = h.fits by v at in
    let w : PassView = record { publishes = v.publishes; seen = h.log; met = [] } in (
      w,
      record {
        seat = h.seat;
        log = h.log;
        last = h.last;
        rises = h.rises;
        fits = knows_set h.seat h.log views by w (λ j u _ e. h.fits j u e) (record { seated = mine.seated; all = λ _. refl; seen = starts_same h.log; met = starts_none h.log });
      },
      record { plain = refl; grows = mine.seen; same = λ p. sym (mine.all p); met = mine.met; found = h.last; rises = h.rises },
    )

pub watches : (by : ℕ) (v : PassView) → Forks ViewsAreKept by v v (watching v.seen)
watches by v x views h at = record {
  seat = h.seat;
  log = h.log;
  last = h.last;
  rises = h.rises;
  fits = λ j u e. ⊎_elim
      (λ was. h.fits j u (subst (λ l. get_elem? l j ≡ some u) (set_again views by v at) was))
      (λ (same : watching v.seen ≡ u). subst (KnowsABeginning h.seat h.log j) same (quiet h.seat h.log j v.seen (h.fits by v at).seen))
      (at_snoc (set views by v) (watching v.seen) u j e);
}

pub meets : (by : ℕ) (v : PassView) (other : ℕ) (u : PassView) → Merges ViewsAreKept by v other u (meeting v u) (watching [])
meets by v other u x views h at apart there =
    let w = meeting v u in
    let mine = h.fits by v at in
    let theirs = ⊎_elim (λ (t : (other ≡ by) × (w ≡ u)). absurd (apart t.0)) (λ (t : (other ≢ by) × (get_elem? views other ≡ some u)). h.fits other u t.1) (at_set views by other w u there) in
    record {
      seat = h.seat;
      log = h.log;
      last = h.last;
      rises = h.rises;
      fits = knows_set h.seat h.log (set views by w) other (watching [])
          (λ j y _ e. knows_set h.seat h.log views by w (λ i z _ e'. h.fits i z e') (record { seated = mine.seated; all = mine.all; seen = mine.seen; met = theirs.seen }) j y e)
          (quiet h.seat h.log other [] (starts_none h.log));
    }

-- the same at a view that is known by an equation
pub publishes_as : (by : ℕ) (v : PassView) (c : Counts) → v ≡ publishing v.seen → IsNotBelow (last_of v.seen) c → Turns ViewsAreKept by v (λ _. c) HasPublished
publishes_as by v c is up = subst (λ (u : PassView). Turns ViewsAreKept by u (λ _. c) HasPublished) (sym is) (publishes by v.seen c up)
