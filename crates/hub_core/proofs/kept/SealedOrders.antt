-- What stands before the first live run of a window's line is sealed, and so it stays with each change of the line.
use Rattle.hub_core.proofs.Prelude.{Back, Bool, Failed, Grips, IsRead, IsSealed, Item, Kept, LineageState, List, Marked, MarksAreKept, OfRun, Option, Point, Ran, Reading, RunNo, Setting, TableFits, [], accesses_along, accesses_at, ap, arith, commits_write, common_steps, false, front_is, front_of, has_ended, if◌then◌else◌, is_live, is_none, is_some, is_weak, length, list_any, not, of_run, passed_by, refl, run_no, stands, stands_in, sym, take, touches, touching, true, untouched, uses, with_item, ℕ, ◌&&◌, ◌<◌, ◌||◌, ◌∙◌, ◌∷◌, ◌≡◌, ◌≤◌}
use Rattle.failure_serialization.proofs.Cited.{event_unsealed, event_within}
use Rattle.failure_serialization.specs.Events.{event_place}
use Rattle.history_book.specs.Sealed.{sealed_in}
use Rattle.lineage_table.specs.declared.accesses.Access.{Access}
use Rattle.serial_line.proofs.Cited.{front_inserted, front_placed, front_touching, front_within, live_unsealed}
use Rattle.serial_line.specs.Labels.{is_sealed}

-- Changes that leave the first live run where it is

pub same_sealed : (line after : Marked) → after.marks ≡ line.marks → after.sealed ≡ line.sealed → IsSealed line → IsSealed after
same_sealed line after marks sealed is = sealed ∙ is ∙ ap front_of (sym marks)

pub touched_sealed : (r d : ℕ) (line after : Marked) → after.marks ≡ touching r d line.marks → after.sealed ≡ line.sealed → IsSealed line → IsSealed after
touched_sealed r d line after marks sealed is = sealed ∙ is ∙ sym (front_touching r d line.marks) ∙ ap front_of (sym marks)

-- a run is placed behind what is sealed
pub placed_sealed : (r : RunNo) (at : ℕ) (line after : Marked) → line.sealed ≤ at → after.marks ≡ with_item at (Ran r) line.marks → after.sealed ≡ line.sealed → IsSealed line → IsSealed after
placed_sealed r at line after behind marks sealed is =
    let low : front_of line.marks ≤ at = omega (arith, behind, is) in
    sealed ∙ is ∙ sym (front_placed r line.marks at low) ∙ ap front_of (sym marks)

-- an event comes: no fewer items stand before the first live run
pub turned_sealed : (history : List Kept) (first : Option RunNo) (xs : List Access) (x : Item) (line after : Marked)
    → list_any (λ y. is_sealed (Ran y.run) line) xs ≡ false → after.marks ≡ with_item (event_place history first xs line.marks) x line.marks
    → after.sealed ≡ line.sealed → IsSealed line → after.sealed ≤ front_of after.marks
turned_sealed history first xs x line after none marks sealed is =
    let whole = front_within line.marks in
    let behind = event_unsealed history first xs line none (omega (arith, whole, is)) in
    let more = front_inserted line.marks (event_place history first xs line.marks) line.sealed (untouched x) (event_within history first xs line.marks) (omega (arith, behind)) (omega (arith, is)) in
    rw marks (omega (arith, more, sealed))

-- What is sealed, by the history

-- as many items as stand before the first live run of the history
pub sealed_is : (p : Point) (line : Marked) → IsRead p.setting p.reading → MarksAreKept p.reading p.grips line.marks → IsSealed line → line.sealed ≡ sealed_in p.reading
sealed_is p line read kept is = is ∙ front_is p.reading p.grips line.marks kept (λ q among. placed_if (p.reading.run q) (sym (read.standing.line q) ∙ among))
  where
    placed_if : (o : OfRun) → stands_in o ≡ true → is_some o.placed ≡ true
    placed_if o stands = grind (arith, common_steps)

-- no live run is one of them
pub live_is_unsealed : (n : Reading) (g : Grips) (r : RunNo) (line : Marked) → is_live n r.0 ≡ true → MarksAreKept n g line.marks → IsSealed line → is_sealed (Ran r) line ≡ false
live_is_unsealed n g r line live kept is = ap (λ k. stands (Ran r) (take k line.marks)) is ∙ live_unsealed (has_ended n) r line.marks kept.ends (going (n.run r.0) live)
  where
    going : (o : OfRun) → (is_some o.placed && is_none o.ended) ≡ true → is_some o.ended ≡ false
    going o lives = grind (arith, common_steps)

-- so no run with an access is one
accesses_unsealed : (w : Setting) (n : Reading) (g : Grips) (d : ℕ) (covering : ℕ → Bool) (access : ℕ → Access) (line : Marked)
    → ((r : ℕ) → (access r).run ≡ run_no r) → MarksAreKept n g line.marks → IsSealed line
    → (is : List Item) → list_any (λ x. is_sealed (Ran x.run) line) (accesses_along (uses w n d) covering access is) ≡ false
accesses_unsealed w n g d covering access line own kept sealed [] = refl
accesses_unsealed w n g d covering access line own kept sealed (Ran r ∷ is) = by_test (uses w n d r.0 && not (list_any (of_run covering) is)) refl (accesses_unsealed w n g d covering access line own kept sealed is)
  where
    lives : (l t p c : Bool) → ((l && t && p) && c) ≡ true → l ≡ true
    lives l t p c h = grind (arith, common_steps)

    by_test : (b : Bool) → (uses w n d r.0 && not (list_any (of_run covering) is)) ≡ b → list_any (λ x. is_sealed (Ran x.run) line) (accesses_along (uses w n d) covering access is) ≡ false
        → list_any (λ x. is_sealed (Ran x.run) line) (if b then (access r.0 ∷ accesses_along (uses w n d) covering access is) else accesses_along (uses w n d) covering access is) ≡ false
    by_test true e rest = (λ i. (ap (λ q. is_sealed (Ran q) line) (own r.0) ∙ live_is_unsealed n g (run_no r.0) line (lives (is_live n r.0) (touches w.runs r.0 d) (not (passed_by w n r.0 d)) (not (list_any (of_run covering) is)) e) kept sealed) i || rest i)
    by_test false e rest = rest
accesses_unsealed w n g d covering access line own kept sealed (Failed e k ∷ is) = accesses_unsealed w n g d covering access line own kept sealed is
accesses_unsealed w n g d covering access line own kept sealed (Back e k ∷ is) = accesses_unsealed w n g d covering access line own kept sealed is

-- .. of those of the table
pub table_unsealed : (p : Point) (d : ℕ) (line : Marked) (table : List LineageState) → d < length p.setting.first → TableFits p table → MarksAreKept p.reading p.grips line.marks → IsSealed line → list_any (λ x. is_sealed (Ran x.run) line) (accesses_at table d) ≡ false
table_unsealed p d line table below fits kept sealed = by_model (is_weak p.setting.mode) refl
  where
    by_model : (b : Bool) → is_weak p.setting.mode ≡ b → list_any (λ x. is_sealed (Ran x.run) line) (accesses_at table d) ≡ false
    by_model true weak = ap (list_any (λ x. is_sealed (Ran x.run) line)) (fits.weakly weak d below).accesses
    by_model false strong =
        let own = (fits.ordered strong).each d below in
        ap (list_any (λ x. is_sealed (Ran x.run) line)) own.accesses ∙ accesses_unsealed p.setting p.reading p.grips d (commits_write p.reading d) _ line (λ r. refl) kept sealed p.reading.line
