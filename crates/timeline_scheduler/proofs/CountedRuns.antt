-- The runs of a set that are counted, as its items are passed.
use Rattle.timeline_scheduler.proofs.Prelude.{Bool, Item, Kept, List, Ran, RunNo, [], ap, ap₂, arith, chosen, common_steps, doom_of, false, get_or-set_other, get_or-set_same, is_counted, is_ran, is_some, length, list_any, list_any-append, not, refl, replicate, slice_index_or, slice_set, subst, sym, take, take_all, true, ℕ, ◌&&◌, ◌++◌, ◌<◌, ◌==◌, ◌||◌, ◌∙◌, ◌∷◌, ◌≡◌, ◌≢◌, ◌≤◌}
use Rattle.timeline_scheduler.proofs.Closing.{first_chosen}
use Rattle.timeline_scheduler.proofs.Gathering.{no_flag}

module _ (history : List Kept) where
  -- the flags are those of the runs that are counted
  abbrev pub AreCounted : List Bool → List Item → Type 0
  AreCounted flags set = (x : ℕ) → slice_index_or flags x false ≡ is_counted history set x

  -- none at first
  pub none_counted : (n : ℕ) (before : List Bool) (items : List Item) → AreCounted (replicate n false) (chosen (take 0 before) (take 0 items))
  none_counted n before items x = no_flag n x ∙ ap (λ is. is_counted history is x) (sym (first_chosen before items))

  -- all at the end
  pub all_counted : (flags before : List Bool) (items : List Item) (at : ℕ) → length before ≤ at → length items ≤ at → AreCounted flags (chosen (take at before) (take at items)) → AreCounted flags (chosen before items)
  all_counted flags before items at first last are x = are x ∙ ap₂ (λ bs is. is_counted history (chosen bs is) x) (take_all at before first) (take_all at items last)

  counted_more : (set : List Item) (i : Item) (x : ℕ) → is_counted history (set ++ i ∷ []) x ≡ ((list_any (is_ran x) set || (is_ran x i || false)) && not (is_some (doom_of history x)))
  counted_more set i x = ap (λ b. b && not (is_some (doom_of history x))) (list_any-append (is_ran x) set (i ∷ []))

  -- an item that is no run
  pub counted_item : (flags : List Bool) (set more : List Item) (i : Item) → ((x : ℕ) → is_ran x i ≡ false) → more ≡ set ++ i ∷ [] → AreCounted flags set → AreCounted flags more
  counted_item flags set more i none is are x =
      are x ∙ sym (ap (λ l. is_counted history l x) is ∙ counted_more set i x ∙ ap (λ b. (list_any (is_ran x) set || (b || false)) && not (is_some (doom_of history x))) (none x) ∙ plain (list_any (is_ran x) set) (not (is_some (doom_of history x))))
    where
      plain : (a b : Bool) → ((a || false) && b) ≡ (a && b)
      plain true b = refl
      plain false b = refl

  -- a run
  pub counted_run : (flags : List Bool) (set more : List Item) (q : RunNo) (b : Bool) → q.0 < length flags → b ≡ not (is_some (doom_of history q.0)) → more ≡ set ++ Ran q ∷ [] → AreCounted flags set → AreCounted (slice_set flags q.0 b) more
  counted_run flags set more q b within b_is is are x = by_run (q.0 == x) refl ∙ sym (ap (λ l. is_counted history l x) is ∙ counted_more set (Ran q) x)
    where
      some : (a d : Bool) → d ≡ ((a || (true || false)) && d)
      some true d = refl
      some false d = refl

      plain : (a d : Bool) → (a && d) ≡ ((a || (false || false)) && d)
      plain true d = refl
      plain false d = refl

      by_run : (e : Bool) → (q.0 == x) ≡ e → slice_index_or (slice_set flags q.0 b) x false ≡ ((list_any (is_ran x) set || ((q.0 == x) || false)) && not (is_some (doom_of history x)))
      by_run true own =
          let same : q.0 ≡ x = grind (arith, common_steps) in
          subst (λ k. slice_index_or (slice_set flags q.0 b) k false ≡ not (is_some (doom_of history k))) same (get_or-set_same flags q.0 b false within ∙ b_is)
          ∙ some (list_any (is_ran x) set) (not (is_some (doom_of history x))) ∙ ap (λ c. (list_any (is_ran x) set || (c || false)) && not (is_some (doom_of history x))) (sym own)
      by_run false other =
          let apart : x ≢ q.0 = grind (arith, common_steps) in
          get_or-set_other flags q.0 x b false apart ∙ are x
          ∙ plain (list_any (is_ran x) set) (not (is_some (doom_of history x))) ∙ ap (λ c. (list_any (is_ran x) set || (c || false)) && not (is_some (doom_of history x))) (sym other)
