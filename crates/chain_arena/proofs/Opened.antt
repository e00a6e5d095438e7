-- The block as a walk has it: its row, its one machine value, and how a `&mut` to it is opened and closed.
use Rattle.chain_arena.proofs.Prelude.{Array, El, GName, Goal, Item, Lft, Logic, P, Ptr, R, RattleType, Seq, Share, Soaks, Step, Struct, Ura, Val, array_of, as_raw, as_written, block_ptr, block_with_items, cell_at, closes, drop, el_x, elτ, fauth, fbor, feq_l, ffalse, fjoin, flft, flt_i, flt_l, fobor, fobs, fpick, froom, fsep, fsplit, fst∗, full_share, in_a_block, mem, move, never, null_ptr, of_list, opens, part_at, ptr_val, rewrite, sem, shape, step, sz, token, ty_array, vcons, vnil, vptr, vstruct, ‵, ◌$◌, ◌*◌, ◌++◌, ◌-◌, ◌<◌, ◌^◌}
use Prim.Native.Nat.{◌+◌, ℕ}
use Rattle.chain_arena.specs.Memory.{block_at}
use Rattle.chain_arena.specs.contracts.memory.Memory as C
use base.Stored.{Gv}
use denote.Shadow.{pure_i}
use lib.ListN.{length}
use mathlib.Core.List.{List, [], ◌∷◌}
use mathlib.Core.Path.{ap, refl, sym, ◌∙◌, ◌≡◌}
use mir.Raw.{raw as bare}
use types.SemTy.{Body as Borrowed}

abbrev pub word : Ptr → Val
word p = vstruct (vcons (ptr_val p) (vcons (vstruct vnil) vnil))

module _ (E : El) where
  abbrev pub Mr : RattleType
  Mr = C.the_row (R E) (P E) E.al.g

  abbrev pub Held : Type 0
  Held = Mr.Denot

  abbrev pub Words : RattleType
  Words = Struct (shape (C.the_type (R E) (P E) E.al.g))

  abbrev pub count : Held → ℕ
  count m = length m.items

module _ (E : El) {M : Type 1} {𝓤 : Ura M} {𝓛 : Logic 𝓤} {K : Type 0} {Γ : List (Item 𝓤)} {G : Goal 𝓤 𝓛.H} where
  -- a block is its values, the room behind them, and the right to give it back
  pub as_block : K → (a : E.al.row.Denot) (b o n c : ℕ) (xs : List (el_x E)) → Step K 𝓛 (‵ (block_with_items (token E.al a) (R E) (block_ptr b o) n c xs) ∷ Γ) G
      (‵ (part_at (Array (R E) n) full_share xs b o) ∷ ‵ (froom (ty_array (elτ E) (c - n)) b (o + n * sz E)) ∷ ‵ (token E.al a (bare (ty_array (elτ E) c)) (block_ptr b o)) ∷ Γ) G
  as_block t a b o n c xs = step (λ s. move t (1 ∷ 2 ∷ []) $ as_raw t (ty_array (elτ E) (c - n)) b (o + n * sz E) $ fjoin t $ move t (1 ∷ 0 ∷ []) $ fjoin t $ s)

  pub of_block : K → (a : E.al.row.Denot) (b o n c : ℕ) (xs : List (el_x E)) → Step K 𝓛 (‵ (part_at (Array (R E) n) full_share xs b o) ∷ ‵ (froom (ty_array (elτ E) (c - n)) b (o + n * sz E)) ∷ ‵ (token E.al a (bare (ty_array (elτ E) c)) (block_ptr b o)) ∷ Γ) G
      (‵ (block_with_items (token E.al a) (R E) (block_ptr b o) n c xs) ∷ Γ) G
  of_block t a b o n c xs = step (λ s. fsplit t $ move t (1 ∷ []) $ fsplit t $ as_written t (ty_array (elτ E) (c - n)) b (o + n * sz E) $ move t (2 ∷ 0 ∷ 1 ∷ []) $ s)

module _ (E : El) {M : Type 1} {𝓤 : Ura M} {𝓛 : Logic 𝓤} {K : Type 0} {Γ : List (Item 𝓤)} {G : Goal 𝓤 𝓛.H} where
  -- what is owned is taken apart: [the values; the room behind them; the right to give the block back]
  pub taken : K → (m : Held E) (vs : List Val)
      → ((b o : ℕ) → m.base ≡ block_ptr b o → vs ≡ word (block_ptr b o) ∷ [] → count E m < m.room + 1 → m.room * sz E < 2 ^ 63
      → Seq K 𝓛 (‵ (part_at (Array (R E) (count E m)) full_share m.items b o) ∷ ‵ (froom (ty_array (elτ E) (m.room - count E m)) b (o + count E m * sz E)) ∷ ‵ (token E.al m.alloc (bare (ty_array (elτ E) m.room)) (block_ptr b o)) ∷ Γ) G)
      → Seq K 𝓛 (‵ ((Mr E).own_val m vs) ∷ Γ) G
  taken t m vs k =
      fsplit t $ fpick t (λ vss. fsplit t $ feq_l t (λ all. fsplit t $ feq_l t (λ e₀. fsplit t $ fpick t (λ none. fsplit t $ feq_l t (λ e₁. drop t $ drop t $ fsplit t $ flt_l t (λ few. fsplit t $ flt_l t (λ fit.
      in_a_block t m.base (λ p. block_with_items (token E.al m.alloc) (R E) p (count E m) m.room m.items) (fst∗ 𝓤 (never 𝓤) (sem 𝓛 (fsep ffalse (token E.al m.alloc (array_of (R E) m.room) null_ptr)))) (λ b o at.
      of_block E t m.alloc b o (count E m) m.room m.items $
      k b o at (all ∙ ((λ i. vstruct (of_list (e₀ i ++ (e₁ i ++ []))) ∷ []) ∙ ap (λ (p : Ptr). word p ∷ []) at)) few fit))))))))

  -- and made of it
  pub made : K → (m : Held E) (b o : ℕ) → m.base ≡ block_ptr b o → count E m < m.room + 1 → m.room * sz E < 2 ^ 63
      → Step K 𝓛 (‵ ((Mr E).own_val m (word (block_ptr b o) ∷ [])) ∷ Γ) G
      (‵ (part_at (Array (R E) (count E m)) full_share m.items b o) ∷ ‵ (froom (ty_array (elτ E) (m.room - count E m)) b (o + count E m * sz E)) ∷ ‵ (token E.al m.alloc (bare (ty_array (elτ E) m.room)) (block_ptr b o)) ∷ Γ) G
  made t m b o at few fit = step (λ s.
      as_block E t m.alloc b o (count E m) m.room m.items $
      flt_i t (m.room * sz E) (2 ^ 63) fit $ fjoin t $ flt_i t (count E m) (m.room + 1) few $ fjoin t $
      pure_i t ((Words E).own_val (block_ptr b o, (record {}, tt)) (word (block_ptr b o) ∷ [])) (λ vss. (tt, (tt, ((λ uss. (tt, tt)), tt)))) ((vptr b o ∷ [], (vstruct vnil ∷ [], tt)), (refl, (refl, ((tt, (refl, tt)), tt)))) $ fjoin t $
      rewrite t 0 (λ (p : Ptr). ‵ (fsep ((Words E).own_val (p, (record {}, tt)) (word (block_ptr b o) ∷ [])) (block_at (token E.al m.alloc) (R E) p m.room m.items))) (sym at) refl $ s)

module _ (E : El) {M : Type 1} {𝓤 : Ura M} {𝓛 : Logic 𝓤} {K : Type 0} {Γ : List (Item 𝓤)} {G : Goal 𝓤 𝓛.H} where
  -- [the values; the room behind them; the right to give it back; the pointer's cell; the open borrow, in three entries]
  pub opened : K → Soaks G → {κ : Lft} {q : Share} {γ : GName} (m : Held E) (rb ro : ℕ)
      → ((b o : ℕ) → m.base ≡ block_ptr b o → count E m < m.room + 1 → m.room * sz E < 2 ^ 63
      → Seq K 𝓛 (‵ (part_at (Array (R E) (count E m)) full_share m.items b o) ∷ ‵ (froom (ty_array (elτ E) (m.room - count E m)) b (o + count E m * sz E)) ∷ ‵ (token E.al m.alloc (bare (ty_array (elτ E) m.room)) (block_ptr b o))
      ∷ ‵ (cell_at full_share (Mr E).mir (word (block_ptr b o) ∷ []) rb ro) ∷ ‵ (fobor κ q (Borrowed (mem (Mr E)) rb ro γ)) ∷ ‵ (fobs γ ((Mr E).coded.code m)) ∷ ‵ (fauth γ ((Mr E).coded.code m)) ∷ Γ) G)
      → Seq K 𝓛 (‵ (fobs γ ((Mr E).coded.code m)) ∷ ‵ (fbor κ (Borrowed (mem (Mr E)) rb ro γ)) ∷ ‵ (flft κ q) ∷ Γ) G
  opened t z m rb ro k =
      opens t z (Mr E) {h = m} rb ro (λ vs. move t (1 ∷ []) $ taken E t m vs (λ b o at is few fit.
      rewrite t 3 (λ (ws : List Val). ‵ (cell_at full_share (Mr E).mir ws rb ro)) is refl $ k b o at few fit))

  pub closed : K → Soaks G → {κ : Lft} {q : Share} {u v : Gv} {γ : GName} (m : Held E) (b o rb ro : ℕ) → m.base ≡ block_ptr b o → count E m < m.room + 1 → m.room * sz E < 2 ^ 63
      → Step K 𝓛 (‵ (fobs γ ((Mr E).coded.code m)) ∷ ‵ (fbor κ (Borrowed (mem (Mr E)) rb ro γ)) ∷ ‵ (flft κ q) ∷ Γ) G
      (‵ (part_at (Array (R E) (count E m)) full_share m.items b o) ∷ ‵ (froom (ty_array (elτ E) (m.room - count E m)) b (o + count E m * sz E)) ∷ ‵ (token E.al m.alloc (bare (ty_array (elτ E) m.room)) (block_ptr b o))
      ∷ ‵ (cell_at full_share (Mr E).mir (word (block_ptr b o) ∷ []) rb ro) ∷ ‵ (fobor κ q (Borrowed (mem (Mr E)) rb ro γ)) ∷ ‵ (fobs γ u) ∷ ‵ (fauth γ v) ∷ Γ) G
  closed t z m b o rb ro at few fit = step (λ s. made E t m b o at few fit $ move t (1 ∷ 0 ∷ []) $ closes t z (Mr E) m (word (block_ptr b o) ∷ []) rb ro $ s)
