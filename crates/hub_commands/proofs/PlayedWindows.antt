-- A window of the script that was opened on a home and worked: what it leaves.
use Rattle.device_gate.proofs.Cited.{home_at}
use Rattle.device_gate.specs.declared.gates.Place.TheVariants.{Home}
use Rattle.hub_commands.proofs.Prelude.{HomeState, IsWorkedAs, Mode, NextIsOpened, Script, Shown, Some, WindowRecord, WindowText, WindowWay, ap, length, length-map, setting_on, slice_get, slice_index_or, sym, ℕ, ◌+◌, ◌∙◌, ◌≡◌}
use Rattle.hub_core.specs.OpenHubs.{OpenHub}

-- the script's window of this number was opened on the home, was worked in this way, and left another home with this record
pub record IsPlayed {D : Type 0} (works : WindowWay) (shows : D → Shown) (script : Script) (mode : Mode)
    (k : ℕ) (before after : HomeState D) (closed : WindowRecord) : Type 0 where
  pub hub : OpenHub D
  pub window : WindowText
  pub opens : NextIsOpened shows script mode k before hub window
  pub worked : IsWorkedAs works shows hub window after closed

-- the device after a window: the same one, whose calls rose as the record says, and its probes by those that were taken
pub record IsPlayedOn {D : Type 0} (shows : D → Shown) (called failed probed : ℕ) (before after : D) : Type 0 where
  pub same_tag : (shows after).tag ≡ (shows before).tag
  pub same_plan : (shows after).plan ≡ (shows before).plan
  pub turns_rose : (shows after).turns ≡ (shows before).turns + called
  pub faults_rose : (shows after).faults ≡ (shows before).faults + failed
  pub probes_rose : (shows after).probes ≡ (shows before).probes + probed

module _ {D : Type 0} {works : WindowWay} {shows : D → Shown} {script : Script} {mode : Mode} {k : ℕ} {before after : HomeState D} {closed : WindowRecord} where
  pub setting_played : (is : IsPlayed works shows script mode k before after closed) → is.hub.setting ≡ setting_on script mode k before
  setting_played is = ap (λ c. c.setting) is.opens.opened.configuration

  pub size_played : IsPlayed works shows script mode k before after closed → length after.devices ≡ length before.devices
  size_played is = is.worked.size ∙ ap (λ ps. length ps) is.opens.opened.places ∙ length-map before.devices (λ device. Home device)

  pub device_played : (is : IsPlayed works shows script mode k before after closed) (d : ℕ) (x y : D) → slice_get before.devices d ≡ Some x → slice_get after.devices d ≡ Some y
      → IsPlayedOn shows (slice_index_or closed.turns.items d 0) (slice_index_or closed.faults.items d 0) (is.worked.taken d) x y
  device_played is d x y x_at y_at = record {
    same_tag = is.worked.numbered d y y_at ∙ sym (is.opens.numbered d x x_at);
    same_plan = is.worked.plans d x y (ap (λ ps. slice_get ps d) is.opens.opened.places ∙ home_at before.devices d x x_at) y_at;
    turns_rose = is.worked.after.turns_rose d y y_at ∙ ap (λ n. n + slice_index_or closed.turns.items d 0) (is.opens.opened.turns_then d x x_at);
    faults_rose = is.worked.after.faults_rose d y y_at ∙ ap (λ n. n + slice_index_or closed.faults.items d 0) (is.opens.opened.faults_then d x x_at);
    probes_rose = is.worked.after.probes_rose d y y_at ∙ ap (λ n. n + is.worked.taken d) (is.opens.opened.probes_then d x x_at);
  }
