-- The place of an event and the run that a failure loses are those of the rules, in each configuration to which table, line and history belong.
use Rattle.command_rules.specs.Items.{of_run}
use Rattle.failure_serialization.proofs.Prelude.{Access, Acquired, Bool, Kept, LineageState, List, Mark, None, Option, Released, RunNo, Scheduled, Some, accesses_at, ap, arith, common_steps, device_no, doom_of, drop, event_place, false, find, if◌then◌else◌, is_acquired, is_lost, is_none, is_scheduled, is_some, is_sound, is_up_view, items_inserted, items_of, length, lineage_at, lost_run, map, not, option_map, place_or_end, refl, subst, sym, take, touches, true, unwrap_or, waits, with_item, ℕ, ◌&&◌, ◌++◌, ◌<◌, ◌==◌, ◌||◌, ◌∙◌, ◌∷◌, ◌≡◌}
use Rattle.failure_serialization.specs.Ruled.{HasNoAnswer, IsEventOf, IsLossOf}
use Rattle.history_book.proofs.Cited.{doom_is}
use Rattle.history_book.specs.Histories.{with_event}
use Rattle.history_book.specs.Readings.{Reading, did, is_doomed, is_live, is_open, pends, sees_up, view_of}
use Rattle.history_book.specs.Settings.{Setting, is_weak}
use Rattle.history_book.specs.declared.entries.Cause.{Cause}
use Rattle.home_types.specs.declared.items.Item.{Item}
use Rattle.home_types.specs.declared.numbers.DeviceNo.{DeviceNo}
use Rattle.lock_leasing.proofs.Cited.{Facts, TellsTest, before_first, before_none, command_pends, facts_of, first_open, found_there, put_at, run_place}
use Rattle.lock_leasing.specs.Configurations.{Configuration, Grips, grips_command, point, point_of, read_of}
use Rattle.lock_leasing.specs.Places.{up_to_first}
use Rattle.lock_leasing.specs.Standings.{IsStandingOf, WindowParts, window_parts}
use Rattle.lock_leasing.specs.Tables.{EachTellsOfRun, IsLineageOf, is_at_work, runs_with_access, status_by_answers, uses, view_when}
use Rattle.lock_leasing.specs.Waits.{lost_by}
use Rattle.lock_leasing.specs.Words.{live_runs}
use Rattle.std.proofs.lemmas.List.{length-map}

-- What the accesses to a device tell of its open runs

-- the run is open on the device, and has no answer there: the device's next event stands before it
abbrev awaits : Setting → Reading → ℕ → ℕ → Bool
awaits w n d q = not (is_weak w.mode) && is_open w n q d && not (did n q d)

-- the run is open on the device, and sees it up: the device's failure loses it
abbrev spans : Setting → Reading → ℕ → ℕ → Bool
spans w n d q = is_open w n q d && sees_up n q d

module _ (w : Setting) (n : Reading) (g : Grips) (f : Facts w n g) (d : ℕ) (history : List Kept) (strong : is_weak w.mode ≡ false) (dooms : (q : ℕ) → is_none (doom_of history q) ≡ not (is_doomed n q)) where
  lives : (l t x : Bool) → (l && t && x) ≡ true → l ≡ true
  lives l t x h = grind (arith, common_steps)

  -- a run that uses the device and has no answer there has more to do there
  left : (q : ℕ) → uses w n d q ≡ true → did n q d ≡ false → pends w n q d ≡ true
  left q used none = by_tests (is_live n q) (touches w.runs q d) (pends w n q d) (did n q d) used none
    where
      by_tests : (l t p v : Bool) → (l && t && not (t && not p && not v)) ≡ true → v ≡ false → p ≡ true
      by_tests l t p v h k = grind (arith, common_steps)

  -- the test that tells of a run where its event stands, or which one is lost, is off where the run is doomed
  unsound : (x : Access) → is_doomed n x.run.0 ≡ true → is_sound history x ≡ false
  unsound x e = dooms x.run.0 ∙ ap not e

  sound : (x : Access) → is_doomed n x.run.0 ≡ false → is_sound history x ≡ true
  sound x e = dooms x.run.0 ∙ ap not e

  told_waits : (first : Option RunNo) → HasNoAnswer n first d → TellsTest w n g f d (awaits w n d) (waits history first)
  told_waits first none x rest tells used = by_doom (is_doomed n r) refl
    where
      r : ℕ
      r = x.run.0

      named : (o : Option RunNo) → HasNoAnswer n o d → did n r d ≡ true → unwrap_or (option_map (λ q. q.0 == r) o) false ≡ false
      named None h v = refl
      named (Some q) h v = by_own (q.0 == r) refl
        where
          by_own : (b : Bool) → (q.0 == r) ≡ b → b ≡ false
          by_own true e = let same : q.0 ≡ r = grind (arith, common_steps) in absurd (cc (subst (λ k. did n k d ≡ false) same h, v))
          by_own false e = refl

      by_tests : (k o c l y p v : Bool) → y ≡ false → c ≡ false → l ≡ true → (v ≡ true → o ≡ false) → (v ≡ false → p ≡ true) → ((is_scheduled (if v then (if k then Acquired else Released) else Scheduled) || o) && true) ≡ (not c && (l && not y && p) && not v)
      by_tests true o c l y p true sound strong live none left = let off : o ≡ false = none refl in grind (arith, common_steps)
      by_tests false o c l y p true sound strong live none left = let off : o ≡ false = none refl in grind (arith, common_steps)
      by_tests k o c l y p false sound strong live none left = let on : p ≡ true = left refl in grind (arith, common_steps)

      off : (a b l p v : Bool) → (a && false) ≡ (b && (l && not true && p) && v)
      off a b l p v = grind (arith, common_steps)

      by_doom : (b : Bool) → is_doomed n r ≡ b → waits history first x ≡ awaits w n d r
      by_doom true e =
          ap (λ s. (is_scheduled x.status || unwrap_or (option_map (λ q. q.0 == r) first) false) && s) (unsound x e)
          ∙ off (is_scheduled x.status || unwrap_or (option_map (λ q. q.0 == r) first) false) (not (is_weak w.mode)) (is_live n r) (pends w n r d) (not (did n r d))
          ∙ ap (λ b. not (is_weak w.mode) && (is_live n r && not b && pends w n r d) && not (did n r d)) (sym e)
      by_doom false e =
          ap (λ s. (is_scheduled x.status || unwrap_or (option_map (λ q. q.0 == r) first) false) && s) (sound x e)
          ∙ ap (λ t. (is_scheduled t || unwrap_or (option_map (λ q. q.0 == r) first) false) && true) (tells.status (rw e refl))
          ∙ by_tests (is_at_work (point w n g) r d) (unwrap_or (option_map (λ q. q.0 == r) first) false) (is_weak w.mode) (is_live n r) (is_doomed n r) (pends w n r d) (did n r d) e strong (lives (is_live n r) (touches w.runs r d) _ used) (named first none) (left r used)

  told_lost : TellsTest w n g f d (spans w n d) (is_lost history)
  told_lost x rest tells used = by_doom (is_doomed n r) refl
    where
      r : ℕ
      r = x.run.0

      off : (a u l p v : Bool) → (a && u && false) ≡ ((l && not true && p) && v)
      off a u l p v = grind (arith, common_steps)

      none_there : (l y p : Bool) → false ≡ ((l && not y && p) && false)
      none_there l y p = grind (arith, common_steps)

      by_view : (v : Option Bool) (l y p c : Bool) → y ≡ false → l ≡ true → (c ≡ true → p ≡ true)
          → (is_acquired (if is_some v then (if (not y && p) || c then Acquired else Released) else Scheduled) && unwrap_or (option_map is_up_view (option_map view_when v)) false && true) ≡ ((l && not y && p) && unwrap_or v false)
      by_view None l y p c sound live pending = none_there l y p
      by_view (Some b) l true p c sound live pending = absurd (cc)
      by_view (Some b) false false p c sound live pending = absurd (cc)
      by_view (Some true) true false true c sound live pending = refl
      by_view (Some false) true false true c sound live pending = refl
      by_view (Some b) true false false true sound live pending = absurd (clash (pending refl))
        where
          clash : false ≡ true → ⊥
          clash h = absurd (cc)
      by_view (Some true) true false false false sound live pending = refl
      by_view (Some false) true false false false sound live pending = refl

      by_doom : (b : Bool) → is_doomed n r ≡ b → is_lost history x ≡ spans w n d r
      by_doom true e =
          ap (λ s. is_acquired x.status && unwrap_or (option_map is_up_view x.view) false && s) (unsound x e)
          ∙ off (is_acquired x.status) (unwrap_or (option_map is_up_view x.view) false) (is_live n r) (pends w n r d) (sees_up n r d)
          ∙ ap (λ b. (is_live n r && not b && pends w n r d) && sees_up n r d) (sym e)
      by_doom false e =
          ap (λ s. is_acquired x.status && unwrap_or (option_map is_up_view x.view) false && s) (sound x e)
          ∙ ap (λ t. is_acquired t && unwrap_or (option_map is_up_view x.view) false && true) (tells.status (rw e refl))
          ∙ ap (λ v. is_acquired (status_by_answers (point w n g) r d) && unwrap_or (option_map is_up_view v) false && true) (tells.view e)
          ∙ by_view (view_of n r d) (is_live n r) (is_doomed n r) (pends w n r d) (grips_command g r d) e (lives (is_live n r) (touches w.runs r d) _ used) (command_pends w n g r d f)

  -- The place and the loss

  pub placed : (first : Option RunNo) (xs : List Access) (marks : List Mark) (x : Item) → HasNoAnswer n first d → map (λ y. y.run.0) xs ≡ runs_with_access w n d n.line → EachTellsOfRun (point w n g) d xs → items_of marks ≡ n.line
      → items_of (with_item (event_place history first xs marks) x marks) ≡ with_event w n (device_no d) x
  placed first xs marks x none runs told items =
      items_inserted marks (event_place history first xs marks) x
      ∙ (λ i. take (place i) (items i) ++ x ∷ drop (place i) (items i))
      ∙ sym (put_at (of_run (awaits w n d)) x n.line)
    where
      found : option_map (λ y. y.run.0) (find (waits history first) xs) ≡ find (awaits w n d) (live_runs n n.line)
      found = first_open w n g f d (awaits w n d) (waits history first) xs opens (told_waits first none) runs told
        where
          opens : (q : ℕ) → awaits w n d q ≡ true → is_open w n q d ≡ true
          opens q h = grind (arith, common_steps)

      live : (q : ℕ) → awaits w n d q ≡ true → is_live n q ≡ true
      live q h = grind (arith, common_steps)

      line_size : length marks ≡ length n.line
      line_size = sym (length-map marks (λ (y : Mark). y.item)) ∙ ap length items

      by_found : (o : Option Access) → find (waits history first) xs ≡ o → place_or_end (option_map (λ y. y.run) o) marks ≡ up_to_first (of_run (awaits w n d)) n.line
      by_found None e = line_size ∙ sym (before_none n (awaits w n d) live n.line (sym found ∙ ap (option_map (λ y. y.run.0)) e))
      by_found (Some y) e =
          let first_one : find (awaits w n d) (live_runs n n.line) ≡ Some y.run.0 = sym found ∙ ap (option_map (λ z. z.run.0)) e in
          ap (λ o. unwrap_or o (length marks)) (run_place y.run.0 n.line marks (found_there n (awaits w n d) live y.run.0 n.line first_one) items)
          ∙ sym (before_first n (awaits w n d) live y.run.0 n.line first_one)

      place : event_place history first xs marks ≡ up_to_first (of_run (awaits w n d)) n.line
      place = by_found (find (waits history first) xs) refl

  pub lost : (xs : List Access) → map (λ y. y.run.0) xs ≡ runs_with_access w n d n.line → EachTellsOfRun (point w n g) d xs → option_map (λ r. r.0) (lost_run history xs) ≡ lost_by w n d
  lost xs runs told = number (find (is_lost history) xs) ∙ first_open w n g f d (spans w n d) (is_lost history) xs opens told_lost runs told ∙ ordered (is_weak w.mode) strong
    where
      opens : (q : ℕ) → spans w n d q ≡ true → is_open w n q d ≡ true
      opens q h = grind (arith, common_steps)

      number : (o : Option Access) → option_map (λ (r : RunNo). r.0) (option_map (λ (y : Access). y.run) o) ≡ option_map (λ y. y.run.0) o
      number None = refl
      number (Some y) = refl

      ordered : (b : Bool) → b ≡ false → find (spans w n d) (live_runs n n.line) ≡ (if b then None else find (spans w n d) (live_runs n n.line))
      ordered true e = absurd (cc)
      ordered false e = refl

-- In each configuration to which the parts belong

dooms_of : (s : Configuration) (parts : WindowParts) → IsStandingOf s parts → (q : ℕ) → is_none (doom_of parts.history q) ≡ not (is_doomed (read_of s) q)
dooms_of s parts stands q = ap (λ h. is_none (doom_of h q)) (sym stands.its_history) ∙ ap is_none (doom_is s.setting s.history q stands.well_formed) ∙ turned ((read_of s).run q).doomed
  where
    turned : (o : Option Cause) → is_none o ≡ not (is_some o)
    turned None = refl
    turned (Some c) = refl

lineage_of : (s : Configuration) (parts : WindowParts) (d : ℕ) → IsStandingOf s parts → d < length parts.table → IsLineageOf (point_of s) d (lineage_at parts.table d)
lineage_of s parts d stands inside = let size = stands.its_table.devices in stands.its_table.each d (omega (arith, size, inside))

pub event_of : (table : List LineageState) (line : List Mark) (history : List Kept) (first : Option RunNo) (d : DeviceNo) (x : Item) (after : List Mark) → d.0
    < length table → after ≡ with_item (event_place history first (accesses_at table d.0) line) x line → IsEventOf table line history first d x after
event_of table line history first d x after inside placing s stands none =
    let parts = window_parts s table line history in
    let own = lineage_of s parts d.0 stands inside in
    ap items_of placing ∙ placed s.setting (read_of s) s.grips (facts_of s parts stands) d.0 history stands.ordered (dooms_of s parts stands) first (accesses_at table d.0) line x none own.runs own.each stands.its_line.items

pub loss_of : (table : List LineageState) (line : List Mark) (history : List Kept) (d : ℕ) (result : Option RunNo) → d < length table → result ≡ lost_run history (accesses_at table d) → IsLossOf table line history d result
loss_of table line history d result inside losing s stands =
    let parts = window_parts s table line history in
    let own = lineage_of s parts d stands inside in
    ap (option_map (λ r. r.0)) losing ∙ lost s.setting (read_of s) s.grips (facts_of s parts stands) d history stands.ordered (dooms_of s parts stands) (accesses_at table d) own.runs own.each
