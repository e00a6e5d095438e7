-- The machine values of a `Held`, and of a home's block. Assumes `Logic`.
use Rattle.lazbendix_c.proofs.Prelude.{Al, Fml, Global, Goal, Good, Item, Laws, List, LiveState, Logic, None, Option, Ptr, RattleType, RawPtr, Seq, Some, Step, Struct, Val, Valss, WT, [], block_owns, block_ptr, box_owns, dnil, drop, emp, ent, feq_i, feq_l, fjoin, fpack, fpick, fsplit, fst∗, ghosts, handle_tells, has_ty, impl, in_a_block, layout, lit<, lone, move, never, nothing, null_ptr, of_list, ptr_val, refl, sem, shape, step, subst, tcons, the_row, tnil, ty_ptr, ty_struct, vcons, vnil, vptr, vstruct, within, ‵, ℕ, ◌$◌, ◌++◌, ◌∙◌, ◌∷◌, ◌≡◌, ◌≢◌}
use mathlib.Core.Bool.{Bool, true, false, ◌&&◌}
use lib.Dec.{T}
use seplogic.Ra.Ura.{Ura}
use mir.Raw.{raw as bare}
use denote.Shadow.{makes_shadow, shadow}
use Rattle.core.specs.declared.alloc.Allocator.{Ghosts}
use Rattle.std_alloc.proofs.ResultValues.{and_tt}
use Rattle.lazbendix_c.specs.contracts.handles.HeldBox as held_row

abbrev pub both : Val → Val → Val
both v w = vstruct (vcons v (vcons w vnil))

pub both_tt : (x y : Bool) → T x → T y → T (x && (y && true))
both_tt true true s t = tt
both_tt true false s t = absurd t
both_tt false y s t = absurd s

module _ (R Z : RattleType) (L : Laws Z) (g : Ghosts Z.Denot) where
  abbrev pub Held : RattleType
  Held = held_row.the_row R Z g

  abbrev pub al : Al
  al = record { row = Z; laws = L; g = g; d = impl [] tnil dnil; drops = impl [] tnil dnil }

  pub held_good : (b o : ℕ) (h : Val) → Good (layout Z) h → T (has_ty (layout Z) h && true) × WT (both (vptr b o) h)
  held_good b o h fits = (and_tt (has_ty (layout Z) h) fits.0, (tt, (fits.1, tt)))

  module _ {M : Type 1} {𝓤 : Ura M} {𝓛 : Logic 𝓤} {K : Type 0} {Γ : List (Item 𝓤)} {G : Goal 𝓤 𝓛.H} where
    pub held_out : K → (d : Held.Denot) (vs : List Val)
        → ((b o : ℕ) (h : Val) → d.at ≡ block_ptr b o → vs ≡ both (vptr b o) h ∷ [] → Good (layout Z) h → Seq K 𝓛 (‵ (box_owns (g.dealloc_token d.alloc) R (block_ptr b o) d.value) ∷ ‵ (Z.own_val d.alloc (h ∷ [])) ∷ Γ) G)
        → Seq K 𝓛 (‵ (Held.own_val d vs) ∷ Γ) G
    held_out t d vs k =
        fsplit t $ fpick t (λ vss. fsplit t $ feq_l t (λ ev. fsplit t $ feq_l t (λ ep. fsplit t $ handle_tells al t d.alloc vss.1.0 (λ h ea fits. move t (1 ∷ []) $ drop t $ move t (1 ∷ []) $
        in_a_block t d.at (λ p. box_owns (g.dealloc_token d.alloc) R p d.value) (fst∗ 𝓤 (never 𝓤) (sem 𝓛 (g.dealloc_token d.alloc (bare (lone R.mir)) null_ptr))) (λ b o e. k b o h e
        (subst (λ (p : Ptr). vs ≡ vstruct (of_list (ptr_val p ∷ h ∷ [])) ∷ []) e
        (subst (λ (ws : List Val). vs ≡ vstruct (of_list (ptr_val d.at ∷ (ws ++ []))) ∷ []) ea (subst (λ (ps : List Val). vs ≡ vstruct (of_list (ps ++ (vss.1.0 ++ []))) ∷ []) ep ev))) fits)))))

    pub held_in : K → (b o : ℕ) (h : Val) (a : Z.Denot) (x : R.Denot)
        → Step K 𝓛 (‵ (Held.own_val (record { at = block_ptr b o; alloc = a; value = x }) (both (vptr b o) h ∷ [])) ∷ Γ) G (‵ (box_owns (g.dealloc_token a) R (block_ptr b o) x) ∷ ‵ (Z.own_val a (h ∷ [])) ∷ Γ) G
    held_in t b o h a x = step (λ s. let v : Val = both (vptr b o) h in
        nothing t $ move t (2 ∷ 0 ∷ []) $ fjoin t $ feq_i t (List Val) (vptr b o ∷ []) (vptr b o ∷ []) refl $ fjoin t $ feq_i t (List Val) (v ∷ []) (v ∷ []) refl $ fjoin t $
        fpack t (Valss (RawPtr ∷ Z ∷ [])) (within (shape (held_row.the_type R Z g)) (block_ptr b o, (a, tt)) (v ∷ [])) (vptr b o ∷ [], (h ∷ [], tt)) $ fjoin t $ s)

-- The one word of a home's block

abbrev pub Word : RattleType
Word = Struct (record { name = []; args = []; types = []; fields = RawPtr ∷ [] })

pub ptr_typed : (p : Ptr) → Good ty_ptr (ptr_val p)
ptr_typed (block_ptr b o) = (tt, tt)
ptr_typed null_ptr = (tt, record { fits = lit< tt })

abbrev pub word_val : Ptr → Val
word_val at = vstruct (vcons (ptr_val at) vnil)

abbrev pub word_own : Ptr → List Val → Fml
word_own at = Word.own_val (at, tt)

pub word_told : (at : Ptr) (vs : List Val) → shadow (word_own at vs) → vs ≡ word_val at ∷ []
word_told at vs s = s.1.0 ∙ (λ i. vstruct (of_list (s.1.1.0 i ++ [])) ∷ [])

pub word_made : {M : Type 1} {𝓤 : Ura M} (𝓛 : Logic 𝓤) (at : Ptr) → ent 𝓤 (emp 𝓤) (sem 𝓛 (word_own at (word_val at ∷ [])))
word_made 𝓛 at = makes_shadow 𝓛 (word_own at (word_val at ∷ [])) (λ _. (tt, (tt, tt))) ((ptr_val at ∷ [], tt), (refl, (refl, tt)))

pub word_typed : (at : Ptr) → Good (ty_struct [] (tcons ty_ptr tnil)) (word_val at)
word_typed (block_ptr b o) = (tt, (tt, tt))
word_typed null_ptr = (tt, (record { fits = lit< tt }, tt))

-- What a home's block owns beside its word: where there is a state, the block of it

module _ {M : Type 1} {𝓤 : Ura M} {𝓛 : Logic 𝓤} {K : Type 0} {Γ : List (Item 𝓤)} {G : Goal 𝓤 𝓛.H} where
  pub block_parts : K → (at : Ptr) (s : Option LiveState) → s ≢ None
      → ((b o : ℕ) (x : LiveState) → s ≡ Some x → at ≡ block_ptr b o → (a : Global) → Seq K 𝓛 (‵ (box_owns (ghosts.dealloc_token a) the_row (block_ptr b o) x) ∷ Γ) G)
      → Seq K 𝓛 (‵ (block_owns at s) ∷ Γ) G
  block_parts t at None is opened = absurd (is refl)
  block_parts t at (Some x) is opened = fpick t (λ a.
      in_a_block t at (λ p. box_owns (ghosts.dealloc_token a) the_row p x) (fst∗ 𝓤 (never 𝓤) (sem 𝓛 (ghosts.dealloc_token a (bare (lone the_row.mir)) null_ptr))) (λ b o e. opened b o x refl e a))
