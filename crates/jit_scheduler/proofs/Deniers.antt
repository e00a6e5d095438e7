-- By which run a device is denied: the parts of one window tell it as the history does.
use Rattle.jit_scheduler.proofs.Prelude.{Access, Bool, Configuration, Denial, EachTellsOfRun, Facts, Grips, IsLineageOf, IsStandingOf, Kept, List, Mark, None, Option, Reading, RunNo, Setting, Some, WindowParts, Write, accesses_at, ap, ap₂, arith, denial_of, denial_on, denied_by, denier, device_no, doom_of, effective_write, effective_writer, effective_writer_of, facts_of, false, find, first_denial, first_place, first_some, holder_before, holds_device, if◌then◌else◌, is_doomed, is_live, is_some, items_of, length, lineage_at, live_runs, live_writer, map, only_before, option_map, option_or, point, point_of, range_with_len, read_of, reads_first, refl, runs_with_access, stands_before, sym, take, touches, true, writer_is, ℕ, ◌<◌, ◌∙◌, ◌≡◌}
use Rattle.history_book.proofs.Cited.{doom_is}
use Rattle.jit_scheduler.proofs.Fronts.{first_in_front, where_among}
use Rattle.jit_scheduler.proofs.Holders.{first_holder_is}
use Rattle.jit_scheduler.proofs.Searches.{first_alike, first_filtered}
use Rattle.jit_scheduler.specs.declared.denials.Denial.{Denial as FoundDenial}

-- the run, where it is live
abbrev live_one : Reading → Option ℕ → Option ℕ
live_one n None = None
live_one n (Some x) = if is_live n x then Some x else None

module _ (w : Setting) (n : Reading) (g : Grips) (f : Facts w n g) (d : ℕ) where
  abbrev number : Option RunNo → Option ℕ
  number o = option_map (λ q. q.0) o

  abbrev holds : ℕ → Bool
  holds x = holds_device (point w n g) x d

  either : (o p : Option RunNo) → number (option_or o p) ≡ option_or (number o) (number p)
  either None p = refl
  either (Some x) p = refl

  only : (place : ℕ) (line : List Mark) (o : Option RunNo) → number (only_before place line o) ≡ where_among n holds (take place (items_of line)) (number o)
  only place line None = refl
  only place line (Some x) = at (stands_before place line x.0)
    where
      at : (b : Bool) → number (if b then Some x else None) ≡ (if b then Some x.0 else None)
      at true = refl
      at false = refl

  -- the first holder before the place
  holder_told : (line : List Mark) (history : List Kept) (r place : ℕ) (xs : List Access) → ((q : ℕ) → is_some (doom_of history q) ≡ is_doomed n q) → is_live n r ≡ false → items_of line ≡ n.line
      → map (λ x. x.run.0) xs ≡ runs_with_access w n d n.line → EachTellsOfRun (point w n g) d xs → number (only_before place line (holder_before history r xs)) ≡ find holds (live_runs n (take place n.line))
  holder_told line history r place xs dooms dead items runs tells =
      only place line (holder_before history r xs)
      ∙ ap (λ l. where_among n holds (take place l) (number (holder_before history r xs))) items
      ∙ ap (where_among n holds (take place n.line)) (first_holder_is w n g f d history r xs dooms dead runs tells)
      ∙ sym (first_in_front n holds n.line place)

  -- the effective writer, where it is live
  writer_told : (reading : Bool) (xs : List Access) → map (λ x. x.run.0) xs ≡ runs_with_access w n d n.line → EachTellsOfRun (point w n g) d xs
      → number (if reading then effective_writer xs else None) ≡ (if reading then live_one n (effective_writer_of n g d) else None)
  writer_told false xs runs tells = refl
  writer_told true xs runs tells = writer_is w n g f d xs runs tells ∙ live_is (effective_write n g d)
    where
      live_is : (o : Option Write) → live_writer w n g f d o ≡ live_one n (option_map (λ e. e.run) o)
      live_is None = refl
      live_is (Some e) = refl

  pub denier_is : (line : List Mark) (history : List Kept) (r : ℕ) (xs : List Access) → ((q : ℕ) → is_some (doom_of history q) ≡ is_doomed n q) → is_live n r ≡ false → items_of line ≡ n.line
      → map (λ x. x.run.0) xs ≡ runs_with_access w n d n.line → EachTellsOfRun (point w n g) d xs → option_map (λ q. q.0) (denier line history w.runs r (first_place (point w n g) r) d xs) ≡ denied_by (point w n g) r d
  denier_is line history r xs dooms dead items runs tells =
      either (only_before (first_place (point w n g) r) line (holder_before history r xs)) (if reads_first w.runs r d then effective_writer xs else None)
      ∙ ap₂ option_or (holder_told line history r (first_place (point w n g) r) xs dooms dead items runs tells) (writer_told (reads_first w.runs r d) xs runs tells)

-- Each device of the home

abbrev denial_by : ℕ → ℕ → Denial
denial_by d x = record { device = d; run = x }

abbrev found_by : ℕ → RunNo → FoundDenial
found_by d x = record { device = device_no d; run = x }

-- a denial that was found, in the history's words
abbrev pub plain_denial : FoundDenial → Denial
plain_denial x = record { device = x.device.0; run = x.run.0 }

named : (d : ℕ) (o : Option RunNo) → option_map (λ x. plain_denial x) (option_map (λ x. found_by d x) o) ≡ option_map (λ x. denial_by d x) (option_map (λ q. q.0) o)
named d None = refl
named d (Some x) = refl

module _ (s : Configuration) (parts : WindowParts) (r : ℕ) (stands : IsStandingOf s parts) (dead : is_live (read_of s) r ≡ false) where
  dooms : (q : ℕ) → is_some (doom_of parts.history q) ≡ is_doomed (read_of s) q
  dooms q = ap is_some (ap (λ h. doom_of h q) (sym stands.its_history) ∙ doom_is s.setting s.history q stands.well_formed)

  denial_alike : (d : ℕ) → d < length s.setting.first
      → option_map (λ x. plain_denial x) (denial_on (record parts { runs = s.setting.runs }) r (first_place (point_of s) r) d) ≡ (if touches s.setting.runs r d then option_map (λ x. denial_by d x) (denied_by (point_of s) r d) else None)
  denial_alike d within = at (touches s.setting.runs r d)
    where
      lineage : IsLineageOf (point_of s) d (lineage_at parts.table d)
      lineage = stands.its_table.each d within

      same : option_map (λ q. q.0) (denier parts.line parts.history s.setting.runs r (first_place (point_of s) r) d (accesses_at parts.table d)) ≡ denied_by (point_of s) r d
      same = denier_is s.setting (read_of s) s.grips (facts_of s parts stands) d parts.line parts.history r (accesses_at parts.table d) dooms dead stands.its_line.items lineage.runs lineage.each

      at : (b : Bool) → option_map (λ x. plain_denial x)
          (if b then option_map (λ x. found_by d x) (denier parts.line parts.history s.setting.runs r (first_place (point_of s) r) d (accesses_at parts.table d))
          else None) ≡ (if b then option_map (λ x. denial_by d x) (denied_by (point_of s) r d) else None)
      at true = named d (denier parts.line parts.history s.setting.runs r (first_place (point_of s) r) d (accesses_at parts.table d)) ∙ ap (option_map (λ x. denial_by d x)) same
      at false = refl

  pub denial_is : option_map (λ x. plain_denial x) (first_denial parts r (first_place (point_of s) r)) ≡ denial_of (point_of s) r
  denial_is =
      ap (λ rs. option_map (λ x. plain_denial x) (first_denial (record parts { runs = rs }) r (first_place (point_of s) r))) (sym stands.its_roster)
      ∙ ap (λ k. option_map (λ x. plain_denial x) (first_some (denial_on (record parts { runs = s.setting.runs }) r (first_place (point_of s) r)) (range_with_len 0 k))) stands.its_table.devices
      ∙ first_alike (λ x. plain_denial x) (denial_on (record parts { runs = s.setting.runs }) r (first_place (point_of s) r))
      (λ d. if touches s.setting.runs r d then option_map (λ x. denial_by d x) (denied_by (point_of s) r d) else None) 0
      (length s.setting.first) (λ d within. denial_alike d (omega (arith, within)))
      ∙ first_filtered (λ d. option_map (λ x. denial_by d x) (denied_by (point_of s) r d)) (touches s.setting.runs r) (range_with_len 0 (length s.setting.first))
