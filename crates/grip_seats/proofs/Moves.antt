-- Each step of a desk keeps the rule of its seats.
use Rattle.atomic_table.proofs.Lists.{at_set}
use Rattle.atomic_table.specs.Table.{Allows, Me, keeps, step}
use Rattle.grip_seats.proofs.Places.{at_end, put_here, put_there}
use Rattle.grip_seats.specs.Views.{AllFit, AreKept, HasLent, HasReturned, ClaimOnce, Fits, SeatsAreKept, claim_alone, opening_view, keeper, lent, nobody, out_after_claim, with_claim, without_claim}
use Rattle.grip_seats.specs.declared.views.SeatView.{SeatView}
use Rattle.std.proofs.Common.{ap, refl, subst, sym, true≢false, ⊎_elim, ◌∙◌}
use Rattle.std.proofs.lemmas.List.{set_comm}
use Rattle.std.specs.Prelude.{IfSome, List, None, Option, Some, [], false, length, slice_get, slice_set, suc, true, zero, ℕ, ◌++◌, ◌∷◌, ◌≡◌, ◌≢◌}
use lib.ListN.{get_elem?}
use mathlib.Core.Option.{none, some, some-injective, some-ne-none}

off : false ≡ true → ⊥
off e = true≢false (sym e)

module _ {T : Type 0} where
  none_claimed : (d : ℕ) (x : T) → ◌≡◌ {A = Option (ℕ × T)} None (Some (d, x)) → ⊥
  none_claimed d x e = cc

  -- nothing is out of a place of which something is
  not_out : (place : Option (Option T)) (x : T) → place ≡ Some None → place ≡ Some (Some x) → ⊥
  not_out place x free out = cc

  one_claim : (d e : ℕ) (x y : T) → ◌≡◌ {A = Option (ℕ × T)} (Some (d, x)) (Some (e, y)) → (d ≡ e) × (x ≡ y)
  one_claim d e x y same = let pair : ◌≡◌ {A = ℕ × T} (d, x) (e, y) = cc in (ap (λ (c : ℕ × T). c.0) pair, ap (λ (c : ℕ × T). c.1) pair)

  -- one seat knows something else
  fits_set : (seat : ℕ) (out : List (Option T)) (views : List (SeatView T)) (by : ℕ) (w : SeatView T) → ((j : ℕ) (u : SeatView T) → j ≢ by → get_elem? views j ≡ some u → Fits seat out j u) → Fits seat out by w → AllFit seat out (slice_set views by w)
  fits_set seat out views by w others mine j u e =
      ⊎_elim
      (λ (x : (j ≡ by) × (w ≡ u)). subst (λ (y : ℕ × SeatView T). Fits seat out y.0 y.1) (λ i. (sym x.0 i, x.1 i)) mine)
      (λ (x : (j ≢ by) × (get_elem? views j ≡ some u)). others j u x.0 x.1)
      (at_set views by j w u e)

  -- .. and claims of no place of which another claims something
  once_set : (views : List (SeatView T)) (by : ℕ) (w : SeatView T) → ClaimOnce views → ((j : ℕ) (u : SeatView T) (d : ℕ) (x y : T) → j ≢ by → get_elem? views j ≡ some u → w.claim ≡ Some (d, x) → u.claim ≡ Some (d, y) → ⊥) → ClaimOnce (slice_set views by w)
  once_set views by w once alone j k u v d x y u_at v_at u_claims v_claims =
      ⊎_elim
      (λ (a : (j ≡ by) × (w ≡ u)). ⊎_elim
      (λ (b : (k ≡ by) × (w ≡ v)). a.0 ∙ sym b.0)
      (λ (b : (k ≢ by) × (get_elem? views k ≡ some v)). absurd (alone k v d x y b.0 b.1 (ap (λ (s : SeatView T). s.claim) a.1 ∙ u_claims) v_claims))
      (at_set views by k w v v_at))
      (λ (a : (j ≢ by) × (get_elem? views j ≡ some u)). ⊎_elim
      (λ (b : (k ≡ by) × (w ≡ v)). absurd (alone j u d y x a.0 a.1 (ap (λ (s : SeatView T). s.claim) b.1 ∙ v_claims) u_claims))
      (λ (b : (k ≢ by) × (get_elem? views k ≡ some v)). once j k u v d x y a.1 b.1 u_claims v_claims)
      (at_set views by k w v v_at))
      (at_set views by j w u u_at)

  pub opens : (places : ℕ) → SeatsAreKept (opening_view {T = T} places ∷ [])
  opens places = record { seat = 0; out = (opening_view {T = T} places).out; fit = fit; once = once }
    where
      fit : AllFit 0 (opening_view {T = T} places).out (opening_view {T = T} places ∷ [])
      fit zero v e = subst (Fits 0 (opening_view {T = T} places).out 0) (some-injective _ _ e) (record { own = λ _. refl; known = λ _. refl; claimed = λ d x c. absurd (none_claimed d x c) })
      fit (suc by) v e = absurd (some-ne-none v (sym e))

      once : ClaimOnce (opening_view {T = T} places ∷ [])
      once zero other v w d x y v_at w_at v_claims w_claims = absurd (none_claimed d x (ap (λ (s : SeatView T). s.claim) (some-injective _ _ v_at) ∙ v_claims))
      once (suc by) other v w d x y v_at w_at v_claims w_claims = absurd (some-ne-none v (sym v_at))

  -- something goes out of a place of which nothing is out
  pub lends : (views : List (SeatView T)) (by : ℕ) (out : List (Option T)) (place : ℕ) (what : T) → SeatsAreKept views → get_elem? views by ≡ some (keeper out) → slice_get out place ≡ Some None
      → SeatsAreKept (slice_set views by (lent (keeper out) (some (place, what))))
  lends views by out place what kept at home = record {
    seat = kept.seat;
    out = slice_set kept.out place (Some what);
    fit = fits_set kept.seat _ views by _ others mine;
    once = once_set views by _ kept.once alone;
  }
    where
      own : Fits kept.seat kept.out by (keeper out)
      own = kept.fit by (keeper out) at

      free : slice_get kept.out place ≡ Some None
      free = ap (λ o. slice_get o place) (sym (own.known refl)) ∙ home

      others : (j : ℕ) (u : SeatView T) → j ≢ by → get_elem? views j ≡ some u → Fits kept.seat (slice_set kept.out place (Some what)) j u
      others j u apart there =
          let fits = kept.fit j u there in
          record {
            own = fits.own;
            known = λ keeps. absurd (apart (fits.own keeps ∙ sym (own.own refl)));
            claimed = λ d x claims. put_there kept.out place d (Some what) (λ same. not_out (slice_get kept.out d) x (ap (slice_get kept.out) same ∙ free) (fits.claimed d x claims)) ∙ fits.claimed d x claims;
          }

      mine : Fits kept.seat (slice_set kept.out place (Some what)) by (lent (keeper out) (some (place, what)))
      mine = record {
        own = λ _. own.own refl;
        known = λ _. ap (λ o. slice_set o place (Some what)) (own.known refl);
        claimed = λ d x claims. let is = one_claim place d what x claims in subst (λ (c : ℕ × T). slice_get (slice_set kept.out place (Some what)) c.0 ≡ Some (Some c.1)) (λ i. (is.0 i, is.1 i)) (put_here kept.out place (Some what) None free);
      }

      alone : (j : ℕ) (u : SeatView T) (d : ℕ) (x y : T) → j ≢ by → get_elem? views j ≡ some u → ◌≡◌ {A = Option (ℕ × T)} (Some (place, what)) (Some (d, x)) → u.claim ≡ Some (d, y) → ⊥
      alone j u d x y apart there claims theirs = not_out (slice_get kept.out d) y (ap (slice_get kept.out) (sym (one_claim place d what x claims).0) ∙ free) ((kept.fit j u there).claimed d y theirs)

  -- the claim is cut from the seat
  pub cuts : (views : List (SeatView T)) (by : ℕ) (v : SeatView T) → SeatsAreKept views → get_elem? views by ≡ some v → SeatsAreKept (slice_set views by (without_claim v) ++ claim_alone v ∷ [])
  cuts views by v kept at = record { seat = kept.seat; out = kept.out; fit = fit; once = once }
    where
      own : Fits kept.seat kept.out by v
      own = kept.fit by v at

      rest : List (SeatView T)
      rest = slice_set views by (without_claim v)

      rest_fit : AllFit kept.seat kept.out rest
      rest_fit = fits_set kept.seat kept.out views by (without_claim v) (λ j u apart there. kept.fit j u there) (record { own = own.own; known = own.known; claimed = λ d x c. absurd (none_claimed d x c) })

      rest_once : ClaimOnce rest
      rest_once = once_set views by (without_claim v) kept.once (λ j u d x y apart there claims theirs. none_claimed d x claims)

      last_fits : (j : ℕ) → Fits kept.seat kept.out j (claim_alone v)
      last_fits j = record { own = λ keeps. absurd (off keeps); known = λ keeps. absurd (off keeps); claimed = own.claimed }

      fit : AllFit kept.seat kept.out (rest ++ claim_alone v ∷ [])
      fit j u e = ⊎_elim (λ was. rest_fit j u was) (λ (t : (j ≡ length rest) × (claim_alone v ≡ u)). subst (Fits kept.seat kept.out j) t.1 (last_fits j)) (at_end rest (claim_alone v) u j e)

      -- none of the others claims what the seat has claimed
      alone : (j : ℕ) (u : SeatView T) (d : ℕ) (x y : T) → get_elem? rest j ≡ some u → v.claim ≡ Some (d, x) → u.claim ≡ Some (d, y) → ⊥
      alone j u d x y there claims theirs =
          ⊎_elim
          (λ (a : (j ≡ by) × (without_claim v ≡ u)). none_claimed d y (ap (λ (s : SeatView T). s.claim) a.1 ∙ theirs))
          (λ (a : (j ≢ by) × (get_elem? views j ≡ some u)). a.0 (kept.once j by u v d y x a.1 at theirs claims))
          (at_set views by j (without_claim v) u there)

      once : ClaimOnce (rest ++ claim_alone v ∷ [])
      once j k u w d x y u_at w_at u_claims w_claims =
          ⊎_elim
          (λ (a : get_elem? rest j ≡ some u). ⊎_elim
          (λ (b : get_elem? rest k ≡ some w). rest_once j k u w d x y a b u_claims w_claims)
          (λ (b : (k ≡ length rest) × (claim_alone v ≡ w)). absurd (alone j u d y x a (ap (λ (s : SeatView T). s.claim) b.1 ∙ w_claims) u_claims))
          (at_end rest (claim_alone v) w k w_at))
          (λ (a : (j ≡ length rest) × (claim_alone v ≡ u)). ⊎_elim
          (λ (b : get_elem? rest k ≡ some w). absurd (alone k w d x y b (ap (λ (s : SeatView T). s.claim) a.1 ∙ u_claims) w_claims))
          (λ (b : (k ≡ length rest) × (claim_alone v ≡ w)). a.0 ∙ sym b.0)
          (at_end rest (claim_alone v) w k w_at))
          (at_end rest (claim_alone v) u j u_at)

  -- the seat takes the claim of another in, where it has none
  pub joins : (views : List (SeatView T)) (by : ℕ) (v : SeatView T) (other : ℕ) (w : SeatView T) → SeatsAreKept views → get_elem? views by ≡ some v → (other ≡ by → ⊥) → get_elem? (slice_set views by (with_claim v w)) other ≡ some w
      → SeatsAreKept (slice_set (slice_set views by (with_claim v w)) other nobody)
  joins views by v other w kept at apart there = subst SeatsAreKept (set_comm views other by nobody (with_claim v w) apart) (record {
    seat = kept.seat;
    out = kept.out;
    fit = fits_set kept.seat kept.out spent by (with_claim v w) (λ j u _ e. spent_fit j u e) (record { own = own.own; known = own.known; claimed = theirs.claimed });
    once = once_set spent by (with_claim v w) spent_once alone;
  })
    where
      own : Fits kept.seat kept.out by v
      own = kept.fit by v at

      was : get_elem? views other ≡ some w
      was = ⊎_elim (λ (t : (other ≡ by) × (with_claim v w ≡ w)). absurd (apart t.0)) (λ (t : (other ≢ by) × (get_elem? views other ≡ some w)). t.1) (at_set views by other (with_claim v w) w there)

      theirs : Fits kept.seat kept.out other w
      theirs = kept.fit other w was

      spent : List (SeatView T)
      spent = slice_set views other nobody

      spent_fit : AllFit kept.seat kept.out spent
      spent_fit = fits_set kept.seat kept.out views other nobody (λ j u _ e. kept.fit j u e) (record { own = λ keeps. absurd (off keeps); known = λ keeps. absurd (off keeps); claimed = λ d x c. absurd (none_claimed d x c) })

      spent_once : ClaimOnce spent
      spent_once = once_set views other nobody kept.once (λ j u d x y _ e claims theirs. none_claimed d x claims)

      alone : (j : ℕ) (u : SeatView T) (d : ℕ) (x y : T) → j ≢ by → get_elem? spent j ≡ some u → w.claim ≡ Some (d, x) → u.claim ≡ Some (d, y) → ⊥
      alone j u d x y _ e claims claimed =
          ⊎_elim
          (λ (a : (j ≡ other) × (nobody ≡ u)). none_claimed d y (ap (λ (s : SeatView T). s.claim) a.1 ∙ claimed))
          (λ (a : (j ≢ other) × (get_elem? views j ≡ some u)). a.0 (kept.once j other u w d y x a.1 was claimed claims))
          (at_set views other j nobody u e)

  -- what the desk's seat claims is out of its place, and comes home
  pub returns : (views : List (SeatView T)) (by : ℕ) (out : List (Option T)) (claim : Option (ℕ × T)) → SeatsAreKept views → get_elem? views by ≡ some (with_claim (keeper out) (record { keeps = false; out = []; claim = claim }))
      → SeatsAreKept (slice_set views by (keeper (out_after_claim out claim))) × ((d : ℕ) (x : T) → claim ≡ Some (d, x) → slice_get out d ≡ Some (Some x))
  returns views by out claim kept at = (
    record {
      seat = kept.seat;
      out = out_after_claim kept.out claim;
      fit = fits_set kept.seat (out_after_claim kept.out claim) views by (keeper (out_after_claim out claim)) (others claim refl) (record { own = λ _. own.own refl; known = λ _. ap (λ o. out_after_claim o claim) (own.known refl); claimed = λ d x c. absurd (none_claimed d x c) });
      once = once_set views by (keeper (out_after_claim out claim)) kept.once (λ j u d x y _ e claims theirs. none_claimed d x claims);
    },
    λ d x claims. ap (λ o. slice_get o d) (own.known refl) ∙ own.claimed d x claims,
  )
    where
      own : Fits kept.seat kept.out by (record { keeps = true; out = out; claim = claim })
      own = kept.fit by _ at

      others : (c : Option (ℕ × T)) → claim ≡ c → (j : ℕ) (u : SeatView T) → j ≢ by → get_elem? views j ≡ some u → Fits kept.seat (out_after_claim kept.out c) j u
      others None is j u apart there = kept.fit j u there
      others (Some c) is j u apart there =
          let fits = kept.fit j u there in
          record {
            own = fits.own;
            known = λ keeps. absurd (apart (fits.own keeps ∙ sym (own.own refl)));
            claimed = λ d x claims. put_there kept.out c.0 d None (λ same. apart (kept.once j by u _ d x c.1 there at claims (is ∙ ap (λ e. Some (e, c.1)) (sym same)))) ∙ fits.claimed d x claims;
          }

  -- The steps, at a seat that is the desk's

  pub goes_out : (slots id i place : ℕ) (f : ℕ → ℕ) (what : T) (out : List (Option T)) (me : Me (ℕ × T) (SeatView T)) → me ≡ (keeper out, []) → slice_get out place ≡ Some None
      → Allows AreKept slots id me i f (HasLent (step slots i 0 0 (some (place, what))) me)
  goes_out slots id i place f what out me is home = subst (λ (me : Me (ℕ × T) (SeatView T)). Allows AreKept slots id me i f (HasLent (step slots i 0 0 (some (place, what))) me)) (sym is)
      (λ s kept same at small. (lent (keeper out) (some (place, what)), keeps, tt, lends s.views id out place what kept at home, refl))

  pub comes_home : (slots id i : ℕ) (out : List (Option T)) (claim : Option (ℕ × T)) (me : Me (ℕ × T) (SeatView T)) → me ≡ (record { keeps = true; out = out; claim = claim }, [])
      → Allows AreKept slots id me i (λ n. n) (HasReturned (step slots i 0 0 none) me)
  comes_home slots id i out claim me is = subst (λ (me : Me (ℕ × T) (SeatView T)). Allows AreKept slots id me i (λ n. n) (HasReturned (step slots i 0 0 none) me)) (sym is)
      (λ s kept same at small. let both = returns s.views id out claim kept at in (keeper (out_after_claim out claim), keeps, tt, both.0, (refl, told claim both.1)))
    where
      told : (c : Option (ℕ × T)) → ((d : ℕ) (x : T) → c ≡ Some (d, x) → slice_get out d ≡ Some (Some x)) → IfSome c (λ c. slice_get out c.0 ≡ Some (Some c.1))
      told None each = tt
      told (Some c) each = each c.0 c.1 refl
