-- What the parts of one window say of the runs of their line.
use Rattle.visibility_models.proofs.Prelude.{AreRunsOf, Back, Configuration, End, Failed, InOrder, IsRunOf, IsStandingOf, IsTrue, IsUnderWay, Item, List, Mark, MayAskOfModel, None, OfRun, Option, Ran, Reading, Run, RunNo, Shaped, Some, Standing, Visibility, Weakly, WindowParts, [], ap, arith, both_ways, common_steps, end_is, end_of, false, is_abort, is_live, is_none, is_ran, is_run, is_some, is_strict_model, items_of, list_any, not, option_map, read_of, refl, shapes, slice_get, standing, stands, stands_in, subst, suc, sym, true, unwrap_or, zero, ℕ, ◌&&◌, ◌||◌, ◌∙◌, ◌∷◌, ◌≡◌}
use Rattle.history_book.specs.Histories.{entries_of}

-- a run of the line is placed
placed_in_line : (n : Reading) (x : ℕ) → Standing n → list_any (is_ran x) n.line ≡ true → is_some (n.run x).placed ≡ true
placed_in_line n x s among = let stood : stands_in (n.run x) ≡ true = sym (s.line x) ∙ among in grind (arith, common_steps)

-- .. and is live where the history tells no end of it
pub live_in_line : (s : Configuration) (x : ℕ) (parts : WindowParts) → IsStandingOf s parts
    → list_any (is_ran x) (read_of s).line ≡ true → is_live (read_of s) x ≡ is_none (end_of parts.history x)
live_in_line s x parts is among =
    let placed = placed_in_line (read_of s) x (standing s.setting (entries_of s.history) is.well_formed) among in
    let told : end_of parts.history x ≡ ((read_of s).run x).ended = ap (λ h. end_of h x) (sym is.its_history) ∙ end_is s.setting s.history x is.well_formed in
    rw placed (ap is_none (sym told))

among_at : (items : List Item) (at : ℕ) (x : RunNo) → slice_get items at ≡ Some (Ran x) → list_any (is_ran x.0) items ≡ true
among_at [] at x e = absurd (cc)
among_at (i ∷ items) zero x e = let here : i ≡ Ran x = cc in subst (λ j. (is_ran x.0 j || list_any (is_ran x.0) items) ≡ true) (sym here) (grind (arith, common_steps))
among_at (i ∷ items) (suc at) x e = let rest = among_at items at x e in rw rest (grind (arith, common_steps))

-- each run of the line is one of the window
pub runs_of_line : (s : Configuration) (parts : WindowParts) → IsStandingOf s parts → AreRunsOf parts.runs (items_of parts.line)
runs_of_line s parts is = λ at i there. each at i there
  where
    run_of_line : (x : RunNo) → list_any (is_ran x.0) (items_of parts.line) ≡ true → IsTrue (is_run parts.runs x.0)
    run_of_line x among =
        let shaped : Shaped s.setting (read_of s) = shapes s.setting (entries_of s.history) is.well_formed in
        let placed = placed_in_line (read_of s) x.0 (standing s.setting (entries_of s.history) is.well_formed) (ap (list_any (is_ran x.0)) (sym is.its_line.items) ∙ among) in
        subst (λ rs. IsTrue (is_run rs x.0)) is.its_roster ((shaped x.0).known ((shaped x.0).arrived placed))

    each : (at : ℕ) (i : Item) → slice_get (items_of parts.line) at ≡ Some i → IsRunOf parts.runs i
    each at (Ran x) there = run_of_line x (among_at (items_of parts.line) at x there)
    each at (Failed d k) there = tt
    each at (Back d k) there = tt

-- a run that is under way stands in the line, and is one of the window
pub record IsOnItsWay (line : List Mark) (runs : List Run) (r : RunNo) : Type 0 where
  pub run : IsTrue (is_run runs r.0)
  pub placed : stands (Ran r) line ≡ true
  pub others : AreRunsOf runs (items_of line)

in_order : (s : Configuration) (parts : WindowParts) (r : RunNo) → IsStandingOf s parts → IsUnderWay (read_of s) r.0 → IsOnItsWay parts.line parts.runs r
in_order s parts r is turn =
    let n : Reading = read_of s in
    let shaped : Shaped s.setting n = shapes s.setting (entries_of s.history) is.well_formed in
    let placed : is_some (n.run r.0).placed ≡ true = grind (arith, common_steps, turn.live) in
    let among : list_any (is_ran r.0) n.line ≡ true = (standing s.setting (entries_of s.history) is.well_formed).line r.0 ∙ live_stands (n.run r.0) turn.live in
    record {
      run = subst (λ rs. IsTrue (is_run rs r.0)) is.its_roster ((shaped r.0).known ((shaped r.0).arrived placed));
      placed = ap (list_any (is_ran r.0)) is.its_line.items ∙ among;
      others = runs_of_line s parts is;
    }
  where
    live_stands : (o : OfRun) → (is_some o.placed && is_none o.ended) ≡ true → stands_in o ≡ true
    live_stands o live = at o.ended live
      where
        at : (e : Option End) → (is_some o.placed && is_none e) ≡ true → (is_some o.placed && not (unwrap_or (option_map is_abort e) false)) ≡ true
        at None live = let placed : is_some o.placed ≡ true = grind (arith, common_steps) in rw placed refl
        at (Some e) live = absurd (grind (arith, common_steps))

-- where a strict model may be asked about the run
pub on_its_way : (model : Visibility) (parts : WindowParts) (r : RunNo) → MayAskOfModel model parts r.0 → is_strict_model model ≡ true → IsOnItsWay parts.line parts.runs r
on_its_way model parts r (InOrder s is turn) strict = in_order s parts r is turn
on_its_way model parts r (Weakly s is turn weak) strict = absurd (both_ways (is_strict_model model) (ap is_strict_model weak) strict)
