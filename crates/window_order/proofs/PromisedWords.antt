-- Words of the reading and of the grips that are out, as the window that they make has them.
use Rattle.window_order.proofs.Prelude.{Back, Bool, Commands, Failed, Failure, Free, Grip, Grips, Item, Kind, List, None, Occurred, Option, Probes, Purpose, Ran, Reading, Reads, Restart, RunStates, Setting, Some, Undoes, Usage, Used, Writes, [], ap, ap₂, arith, common_steps, did_touches, entries, entry_if, false, grips_command, grips_undo, has, has_written, held_by, held_for, holds_command, holds_undo, if◌then◌else◌, is_command, is_device, is_in_effect, is_some, is_undo, is_undone, length, not, option_map, point, refl, run_state, touches, true, unwrap_or, usage, uses_device, with_order_entry, ℕ, ◌&&◌, ◌<◌, ◌==◌, ◌||◌, ◌∙◌, ◌∷◌, ◌≡◌}
use Rattle.window_order.proofs.ReadFacts.{IsRead}

pub device_below : (w : Setting) (d : ℕ) → is_device w d ≡ true → d < length w.first
device_below w d h = grind (arith, common_steps)

-- Grips

-- a run is held for a command exactly where it has the grip of one
pub command_held : (w : Setting) (g : Grips) (r d : ℕ) → holds_command (held_by w r (g d)) ≡ grips_command g r d
command_held w g r d = by (g d)
  where
    of_job : (b : Bool) → holds_command (if b then Reads else Writes) ≡ true
    of_job true = refl
    of_job false = refl

    of_purpose : (b : Bool) (p : Purpose) → holds_command (if b then held_for w r p else Free) ≡ (b && is_command p)
    of_purpose true (Commands k) = of_job _
    of_purpose true (Undoes v) = refl
    of_purpose true (Probes v) = refl
    of_purpose false p = refl

    by : (o : Option Grip) → holds_command (held_by w r o) ≡ unwrap_or (option_map (λ p. (p.maker == r) && is_command p.purpose) o) false
    by None = refl
    by (Some grip) = of_purpose (grip.maker == r) grip.purpose

-- .. and for an undo exactly where it has the grip of one
pub undo_held : (w : Setting) (g : Grips) (r d : ℕ) → holds_undo (held_by w r (g d)) ≡ grips_undo g r d
undo_held w g r d = by (g d)
  where
    of_job : (b : Bool) → holds_undo (if b then Reads else Writes) ≡ false
    of_job true = refl
    of_job false = refl

    of_purpose : (b : Bool) (p : Purpose) → holds_undo (if b then held_for w r p else Free) ≡ (b && is_undo p)
    of_purpose true (Commands k) = of_job _
    of_purpose true (Undoes v) = refl
    of_purpose true (Probes v) = refl
    of_purpose false p = refl

    by : (o : Option Grip) → holds_undo (held_by w r o) ≡ unwrap_or (option_map (λ p. (p.maker == r) && is_undo p.purpose) o) false
    by None = refl
    by (Some grip) = of_purpose (grip.maker == r) grip.purpose

-- Writes

-- a run that wrote a device uses it
pub written_touches : (w : Setting) (n : Reading) (r d : ℕ) → IsRead w n → has_written n r d ≡ true → touches w.runs r d ≡ true
written_touches w n r d s h = did_touches w n r d s.shaped ((s.shaped r).wrote d h)

-- the use of a run has its write in effect where it wrote and is not undone
pub effect_held : (w : Setting) (n : Reading) (g : Grips) (r d : ℕ) → IsRead w n → is_in_effect (usage w.kinds (run_state (point w n g) r) d) ≡ (is_some ((n.run r).on d).wrote && not (is_undone n g r d))
effect_held w n g r d s = ap₂ (λ o x. is_some o && not (((n.run r).on d).undid || x)) ((s.summarized r).wrote d) (undo_held w g r d)

-- Lines

-- Entries

-- where no run's use of the device is so, none in its order is
pub none_has : (kinds : List Kind) (states : RunStates) (d : ℕ) (p : Usage → Bool) (line : List Item) → ((r : ℕ) → p (usage kinds (states r) d) ≡ false) → has p (entries kinds states d line) ≡ false
unfolding entries has
none_has kinds states d p [] h = refl
none_has kinds states d p (Ran r ∷ is) h = at_ (none_has kinds states d p is h) (uses_device d (states r.0).commands)
  where
    at_ : has p (entries kinds states d is) ≡ false → (b : Bool) → has p (with_order_entry (entry_if b (Used (usage kinds (states r.0) d))) (entries kinds states d is)) ≡ false
    at_ ih true = ap (λ x. x || has p (entries kinds states d is)) (h r.0) ∙ ih
    at_ ih false = ih
none_has kinds states d p (Failed e k ∷ is) h = at_ (none_has kinds states d p is h) (e.0 == d)
  where
    at_ : has p (entries kinds states d is) ≡ false → (b : Bool) → has p (with_order_entry (entry_if b (Occurred Failure)) (entries kinds states d is)) ≡ false
    at_ ih true = ih
    at_ ih false = ih
none_has kinds states d p (Back e k ∷ is) h = at_ (none_has kinds states d p is h) (e.0 == d)
  where
    at_ : has p (entries kinds states d is) ≡ false → (b : Bool) → has p (with_order_entry (entry_if b (Occurred Restart)) (entries kinds states d is)) ≡ false
    at_ ih true = ih
    at_ ih false = ih
