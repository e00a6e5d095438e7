-- Runs at a command: what is known of them, and their step.
use Rattle.hub_core.proofs.Prelude.{Bool, Command, Configuration, IsWellFormed, None, OfRun, Option, PlacedAt, Point, Reading, Setting, Shaped, Some, ap, arith, asks_on, choice_of, common_steps, decide, decide_command, entries_of, eq-eqb, false, grip_wait, holds, if◌then◌else◌, is_at_command, is_live, is_none, is_on, is_open, is_some, map_some, max, next_command, next_device, next_of, none_is, not, not_none, option_map, point_of, read_of, refl, shapes, subst, sym, true, unwrap_or, ℕ, ◌&&◌, ◌∙◌, ◌≡◌}
use Rattle.hub_core.proofs.steps.Choices.{Acts}
use Rattle.hub_core.proofs.steps.GiveCauses.{next_pends}
use Rattle.hub_core.proofs.steps.Takes.{live_run}

-- the run is at the command c, with the number next_of, which is on the device
pub record IsAt (p : Point) (r d : ℕ) : Type 0 where
  pub command : Command
  pub device : command.device.0 ≡ d
  pub act : Acts p r
  pub sound : (p.reading.run r).doomed ≡ None
  pub next : next_command p.setting p.reading r ≡ Some command
  pub came : is_none (p.reading.run r).arrived ≡ false

live_parts : (o : OfRun) → (is_some o.placed && is_none o.ended) ≡ true → (is_some o.placed ≡ true) × (is_none o.placed ≡ false) × (o.ended ≡ None)
live_parts o live = at o.placed refl
  where
    at : (p : Option PlacedAt) → o.placed ≡ p → (is_some o.placed ≡ true) × (is_none o.placed ≡ false) × (o.ended ≡ None)
    at None e = absurd (let none : (false && is_none o.ended) ≡ true = sym (ap (λ x. is_some x && is_none o.ended) e) ∙ live in cc)
    at (Some x) e = (ap is_some e, ap is_none e, none_is o.ended (sym (ap (λ y. is_some y && is_none o.ended) e) ∙ live))

-- a device that is told is that of the run's next command
pub device_told : (b : Bool) (o : Option ℕ) (d : ℕ) → (if b then o else None) ≡ Some d → (b ≡ true) × (o ≡ Some d)
device_told true o d e = (refl, e)
device_told false o d e = absurd (cc)

-- what it says of a run that it has a next device
pub at_command : (s : Configuration) (r d : ℕ) → IsWellFormed s.setting (entries_of s.history) → next_device s r ≡ Some d → IsAt (point_of s) r d
at_command s r d formed next =
    let told = device_told (is_at_command s r) (option_map (λ c. c.device.0) (next_command w n r)) d next in
    let shaped : Shaped w n = shapes w (entries_of s.history) formed in
    let live : is_live n r ≡ true = grind (arith, common_steps, told.0) in
    let sound : not (is_some (n.run r).doomed) ≡ true = grind (arith, common_steps, told.0) in
    let free : is_none (grip_wait w s.grips r) ≡ true = grind (arith, common_steps, told.0) in
    let found = map_some (λ c. c.device.0) (next_command w n r) d told.1 in
    record {
      command = found.0;
      device = found.2;
      act = record { run = live_run w n r shaped live; free = none_is (grip_wait w s.grips r) free; live = live };
      sound = none_of (n.run r).doomed sound;
      next = found.1;
      came = not_none (n.run r).arrived ((shaped r).arrived (live_parts (n.run r) live).0);
    }
  where
    w : Setting
    w = s.setting

    n : Reading
    n = read_of s

    none_of : {A : Type 0} (o : Option A) → not (is_some o) ≡ true → o ≡ None
    none_of None e = refl
    none_of (Some x) e = absurd (cc)

-- a run at a command has its device as its next one
pub next_is : (s : Configuration) (r d : ℕ) → IsAt (point_of s) r d → next_device s r ≡ Some d
next_is s r d at = rw (at.act.live, at.sound, at.act.free, at.next) (ap Some at.device)

-- it is open there
pub at_open : (p : Point) (r d : ℕ) → IsAt p r d → is_open p.setting p.reading r d ≡ true
at_open p r d at =
    let pending = next_pends p.setting p.reading r at.command at.next in
    let there = subst (λ e. is_open p.setting p.reading r e ≡ true) at.device in
    there (rw (at.act.live, at.sound, pending) refl)

-- it asks for the device exactly where the guard of the command holds
pub at_asks : (p : Point) (r d : ℕ) (at : IsAt p r d) → asks_on p.setting p.reading r d ≡ holds at.command.when (p.reading.run r).register
at_asks p r d at = ap (λ o. unwrap_or (option_map (λ (c : Command). is_on d c && holds c.when (p.reading.run r).register) o) false) at.next ∙ ap (λ b. b && holds at.command.when (p.reading.run r).register) (eq-eqb at.command.device.0 d at.device)

-- its step is that of its command
pub decides_command : (p : Point) (r d m : ℕ) (at : IsAt p r d) → decide p r m ≡ decide_command p r m (next_of p.reading r) at.command
decides_command p r d m at =
    let parts = live_parts (p.reading.run r) at.act.live in
    rw (at.act.run, parts.2, at.act.free, at.came, parts.1, at.sound, at.next) refl

pub command_choice : (s : Configuration) (r d m : ℕ) (at : IsAt (point_of s) r d) → choice_of s r m ≡ decide_command (point_of s) r (max s.moment m) (next_of (read_of s) r) at.command
command_choice s r d m at = decides_command (point_of s) r d (max s.moment m) at
