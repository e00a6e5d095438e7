-- What holds of a configuration that is not of the weak model, and whose history, grips and order are as they must be.
use Rattle.lock_leasing.proofs.Prelude.{Bool, Command, Configuration, Grip, Grips, IsStandingOf, IsTrue, List, MayBeOut, None, OfRun, Option, PlacedAt, Reading, Setting, Shaped, Some, Standing, StandsOnce, WindowParts, [], any_parted, ap, arith, asks_next, asks_on, commands_of, committed_in, common_steps, did, did_not_passed, did_touches, drop, false, grips_command, grips_undo, has_written, is_abort, is_command, is_committed, is_committing, is_doomed, is_live, is_none, is_on, is_some, is_undo, is_undone, list_any, next_of, not, open_runs_are_last, option_map, passed_by, pending_not_passed, pends, point, read_of, refl, shapes, slice_get, standing, stands_in, stands_once, suc, take, touches, true, unwrap_or, uses, zero, ℕ, ◌&&◌, ◌==◌, ◌||◌, ◌∙◌, ◌∷◌, ◌≡◌}
use Rattle.history_book.specs.Histories.{entries_of}
use Rattle.history_book.specs.declared.entries.End.TheVariants.{Aborted, Committed}
use Rattle.history_book.specs.declared.entries.End.{End}
use Rattle.lock_leasing.specs.declared.purposes.Purpose.TheVariants.{Commands, Probes, Undoes}
use Rattle.lock_leasing.specs.declared.purposes.Purpose.{Purpose}

pub record Facts (w : Setting) (n : Reading) (g : Grips) : Type 0 where
  pub shaped : Shaped w n
  pub line : Standing n
  pub once : StandsOnce n
  pub grips : MayBeOut (point w n g)
  pub last : (d : ℕ) → IsTrue (open_runs_are_last (point w n g) d n.line)

pub facts_of : (s : Configuration) (parts : WindowParts) → IsStandingOf s parts → Facts s.setting (read_of s) s.grips
facts_of s parts is = record {
  shaped = shapes s.setting (entries_of s.history) is.well_formed;
  line = standing s.setting (entries_of s.history) is.well_formed;
  once = stands_once s.setting (entries_of s.history) is.well_formed;
  grips = is.grips;
  last = is.order.last;
}

-- Runs

-- a run that stands in the line is live or committed
pub stands_or_committed : (o : OfRun) → stands_in o ≡ true → ((is_some o.placed && is_none o.ended) || committed_in o) ≡ true
stands_or_committed o stands = at o.placed o.ended stands
  where
    at : (p : Option PlacedAt) (e : Option End) → (is_some p && not (unwrap_or (option_map is_abort e) false)) ≡ true → ((is_some p && is_none e) || unwrap_or (option_map is_committing e) false) ≡ true
    at None e yes' = absurd (cc)
    at (Some p) None yes' = refl
    at (Some p) (Some Committed) yes' = refl
    at (Some p) (Some (Aborted cause)) yes' = absurd (cc)

pub live_stands : (n : Reading) (r : ℕ) → is_live n r ≡ true → stands_in (n.run r) ≡ true
live_stands n r live = at (n.run r).placed (n.run r).ended live
  where
    at : (p : Option PlacedAt) (e : Option End) → (is_some p && is_none e) ≡ true → (is_some p && not (unwrap_or (option_map is_abort e) false)) ≡ true
    at None e yes' = absurd (cc)
    at (Some p) None yes' = refl
    at (Some p) (Some e) yes' = absurd (cc)

pub live_uncommitted : (n : Reading) (r : ℕ) → is_live n r ≡ true → is_committed n r ≡ false
live_uncommitted n r live = at (n.run r).ended (grind (arith, common_steps))
  where
    at : (e : Option End) → is_none e ≡ true → unwrap_or (option_map is_committing e) false ≡ false
    at None yes' = refl
    at (Some e) yes' = absurd (cc)

-- what a test of a grip tells of it

abbrev pub grip_of : ℕ → Purpose → Grip
grip_of r p = record { maker = r; purpose = p }

pub command_out : (g : Grips) (r d : ℕ) → grips_command g r d ≡ true → (k : ℕ) × (g d ≡ Some (grip_of r (Commands k)))
command_out g r d held = at (g d) held
  where
    of_purpose : (m : ℕ) (p : Purpose) → ((m == r) && is_command p) ≡ true → (k : ℕ) × (Some (grip_of m p) ≡ Some (grip_of r (Commands k)))
    of_purpose m (Commands k) yes' = let same : m ≡ r = grind (arith, common_steps) in (k, ap (λ x. Some (grip_of x (Commands k))) same)
    of_purpose m (Undoes v) yes' = absurd (grind (arith, common_steps))
    of_purpose m (Probes v) yes' = absurd (grind (arith, common_steps))

    at : (o : Option Grip) → unwrap_or (option_map (λ p. (p.maker == r) && is_command p.purpose) o) false ≡ true → (k : ℕ) × (o ≡ Some (grip_of r (Commands k)))
    at None yes' = absurd (cc)
    at (Some p) yes' = of_purpose p.maker p.purpose yes'

pub undo_out : (g : Grips) (r d : ℕ) → grips_undo g r d ≡ true → (v : ℕ) × (g d ≡ Some (grip_of r (Undoes v)))
undo_out g r d held = at (g d) held
  where
    of_purpose : (m : ℕ) (p : Purpose) → ((m == r) && is_undo p) ≡ true → (v : ℕ) × (Some (grip_of m p) ≡ Some (grip_of r (Undoes v)))
    of_purpose m (Undoes v) yes' = let same : m ≡ r = grind (arith, common_steps) in (v, ap (λ x. Some (grip_of x (Undoes v))) same)
    of_purpose m (Commands k) yes' = absurd (grind (arith, common_steps))
    of_purpose m (Probes v) yes' = absurd (grind (arith, common_steps))

    at : (o : Option Grip) → unwrap_or (option_map (λ p. (p.maker == r) && is_undo p.purpose) o) false ≡ true → (v : ℕ) × (o ≡ Some (grip_of r (Undoes v)))
    at None yes' = absurd (cc)
    at (Some p) yes' = of_purpose p.maker p.purpose yes'

-- the next command is one that is left
pub next_is_left : (d : ℕ) (cs : List Command) (k : ℕ) → unwrap_or (option_map (is_on d) (slice_get cs k)) false ≡ true → list_any (is_on d) (drop k cs) ≡ true
next_is_left d [] k yes' = absurd (cc)
next_is_left d (c ∷ cs) zero yes' = rw yes' refl
next_is_left d (c ∷ cs) (suc k) yes' = next_is_left d cs k yes'

-- a run that holds the grip of a command there has more to do on the device
pub command_pends : (w : Setting) (n : Reading) (g : Grips) (r d : ℕ) → Facts w n g → grips_command g r d ≡ true → pends w n r d ≡ true
command_pends w n g r d f held =
    let out = command_out g r d held in
    let may : IsTrue (is_live n r && asks_on w n r d && (out.0 == next_of n r)) = f.grips.commands d r out.0 out.1 in
    next_is_left d (commands_of w.runs r) (next_of n r) (asks_next w n r d (grind (arith, common_steps)))

-- a run that is undone is doomed
pub undone_doomed : (w : Setting) (n : Reading) (g : Grips) (r d : ℕ) → Facts w n g → is_undone n g r d ≡ true → is_doomed n r ≡ true
undone_doomed w n g r d f undone = at ((n.run r).on d).undid refl
  where
    at : (b : Bool) → ((n.run r).on d).undid ≡ b → is_doomed n r ≡ true
    at true e = (f.shaped r).undone d e
    at false e =
        let out = undo_out g r d (grind (arith, common_steps)) in
        let may : IsTrue (is_live n r && is_doomed n r && has_written n r d && not ((n.run r).on d).undid) = f.grips.undos d r out.0 out.1 in
        grind (arith, common_steps)

pub committed_sound : (w : Setting) (n : Reading) (g : Grips) (r : ℕ) → Facts w n g → is_committed n r ≡ true → is_doomed n r ≡ false
committed_sound w n g r f committed = ap is_some ((f.shaped r).commits committed)

-- a committed run is not undone
pub committed_stays : (w : Setting) (n : Reading) (g : Grips) (r d : ℕ) → Facts w n g → is_committed n r ≡ true → is_undone n g r d ≡ false
committed_stays w n g r d f committed = at (is_undone n g r d) refl
  where
    at : (b : Bool) → is_undone n g r d ≡ b → b ≡ false
    at true e = absurd (cc (undone_doomed w n g r d f e, committed_sound w n g r f committed))
    at false e = refl

-- Runs and devices

pub pends_touches : (w : Setting) (n : Reading) (r d : ℕ) → pends w n r d ≡ true → touches w.runs r d ≡ true
pends_touches w n r d pending = any_parted (is_on d) (next_of n r) (commands_of w.runs r) ∙ (rw pending (or_true (list_any (is_on d) (take (next_of n r) (commands_of w.runs r)))))
  where
    or_true : (b : Bool) → (b || true) ≡ true
    or_true true = refl
    or_true false = refl

pub written_did : (w : Setting) (n : Reading) (g : Grips) (r d : ℕ) → Facts w n g → has_written n r d ≡ true → did n r d ≡ true
written_did w n g r d f wrote = (f.shaped r).wrote d wrote

pub written_touches : (w : Setting) (n : Reading) (g : Grips) (r d : ℕ) → Facts w n g → has_written n r d ≡ true → touches w.runs r d ≡ true
written_touches w n g r d f wrote = did_touches w n r d f.shaped (written_did w n g r d f wrote)

-- a live run that has a command left on the device uses it, ..
pub pending_uses : (w : Setting) (n : Reading) (r d : ℕ) → is_live n r ≡ true → pends w n r d ≡ true → uses w n d r ≡ true
pending_uses w n r d live pending =
    let on : touches w.runs r d ≡ true = pends_touches w n r d pending in
    let none : passed_by w n r d ≡ false = pending_not_passed w n r d pending in
    grind (arith, common_steps)

-- .. and so does one that wrote it
pub written_uses : (w : Setting) (n : Reading) (g : Grips) (r d : ℕ) → Facts w n g → is_live n r ≡ true → has_written n r d ≡ true → uses w n d r ≡ true
written_uses w n g r d f live wrote =
    let on : touches w.runs r d ≡ true = written_touches w n g r d f wrote in
    let none : passed_by w n r d ≡ false = did_not_passed w n r d (written_did w n g r d f wrote) in
    grind (arith, common_steps)
