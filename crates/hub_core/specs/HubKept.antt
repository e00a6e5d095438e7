-- What is kept of a hub's configuration in each of its steps.
use Rattle.command_rules.specs.Items.{is_ran}
use Rattle.command_rules.specs.Rosters.{followed_by}
use Rattle.history_book.specs.Histories.{entries_of}
use Rattle.history_book.specs.Lines.{behind}
use Rattle.history_book.specs.Readings.{Reading, is_live}
use Rattle.history_book.specs.Settings.{Setting, is_strict, is_weak}
use Rattle.history_book.specs.WellFormed.{IsWellFormed}
use Rattle.history_book.specs.declared.entries.Cause.TheVariants.{DownAtEnd, Lost, MustDown, Refuted, Revoked}
use Rattle.history_book.specs.declared.entries.Entry.{Entry}
use Rattle.history_book.specs.declared.entries.Entry.TheVariants.{Arrived, Did, Doomed, Ended, Fell, Placed, Rose, Undid}
use Rattle.home_types.specs.HomeStates.{stand_at}
use Rattle.home_types.specs.Kinds.{has_value, kind_at}
use Rattle.home_types.specs.Numbers.{DeviceId, RunId}
use Rattle.home_types.specs.declared.items.Item.{Item}
use Rattle.home_types.specs.declared.items.Item.TheVariants.{Back, Failed, Ran}
use Rattle.home_types.specs.declared.kinds.Kind.{Kind}
use Rattle.home_types.specs.declared.modes.Scheduler.TheVariants.{Fcfs}
use Rattle.home_types.specs.declared.numbers.RunNo.{RunNo}
use Rattle.legal_days.specs.CleanReads.{ReadsAreClean}
use Rattle.legal_days.specs.Isolation.{IsStrict}
use Rattle.legal_days.specs.JustifiedAborts.{IsJustified}
use Rattle.hub_core.specs.Openings.{MayOpen}
use Rattle.lock_leasing.specs.Configurations.{Configuration, Grip, Grips, Point, has_grip, is_command, point_of, read_of}
use Rattle.lock_leasing.specs.declared.purposes.Purpose.TheVariants.{Commands, Probes, Undoes}
use Rattle.lock_leasing.specs.declared.purposes.Purpose.{Purpose}
use Rattle.lock_leasing.specs.Order.{is_in_line}
use Rattle.lock_leasing.specs.Places.{PlacesAreScheduled}
use Rattle.lock_leasing.specs.Waits.{strict_wait}
use Rattle.lock_leasing.specs.Words.{has_touched, stamp_of}
use Rattle.std.specs.List.{list_all, list_any}
use Rattle.std.specs.Prelude.{Bool, IsTrue, List, None, Some, [], false, if◌then◌else◌, is_some, length, nat_lt, not, option_map, true, unwrap_or, ℕ, ◌&&◌, ◌+◌, ◌<◌, ◌||◌, ◌∷◌, ◌≡◌, ◌≤◌}
use Rattle.window_order.specs.OrderKept.{OrderIsKept}

-- the item is a run that was placed after this number of entries
abbrev pub is_placed_later : Reading → ℕ → Item → Bool
is_placed_later n stamp (Ran r) = nat_lt stamp (stamp_of n r.0)
is_placed_later n stamp (Failed d k) = true
is_placed_later n stamp (Back d k) = true

-- each run of the line was placed before the runs behind it
abbrev pub placed_in_order : Reading → List Item → Bool
placed_in_order n [] = true
placed_in_order n (Ran r ∷ is) =
    list_all (is_placed_later n (stamp_of n r.0)) is && placed_in_order n is
placed_in_order n (Failed d k ∷ is) = placed_in_order n is
placed_in_order n (Back d k ∷ is) = placed_in_order n is

-- a live run that has touched a device, or has out a grip, waits for no run by its model
abbrev pub ActsInTurn : Point → Type 0
ActsInTurn p =
    (r : RunId) (d : DeviceId)
    → IsTrue (is_live p.reading r && (has_touched p.reading p.grips r d || has_grip p.grips r d))
    → strict_wait p.setting p.reading r ≡ None

-- a run that follows another is placed after the end of that one, and stands behind it where both
-- stand in the line
pub record FollowersStand (w : Setting) (n : Reading) : Type 0 where
  pub ended : (r : RunId) (f : RunNo) → followed_by w.runs r ≡ Some f
      → is_some (n.run r).placed ≡ true → is_some (n.run f.0).ended ≡ true
  pub behind_it : (r : RunId) (f : RunNo) → followed_by w.runs r ≡ Some f → is_in_line n r ≡ true
      → is_in_line n f.0 ≡ true → list_any (is_ran r) (behind f.0 n.line) ≡ true

-- no run is doomed for a lease that it kept too long
abbrev pub keeps_leases : Entry → Bool
keeps_leases (Arrived r m) = true
keeps_leases (Placed r at m) = true
keeps_leases (Did r c a) = true
keeps_leases (Undid r d drove) = true
keeps_leases (Fell d) = true
keeps_leases (Rose d) = true
keeps_leases (Doomed r (MustDown c)) = true
keeps_leases (Doomed r (Refuted c x)) = true
keeps_leases (Doomed r (Lost d)) = true
keeps_leases (Doomed r (Revoked lender d deadline m)) = false
keeps_leases (Doomed r (DownAtEnd d)) = true
keeps_leases (Ended r e) = true

-- the test holds of each device that is out and its grip
abbrev pub EachOut : Grips → (DeviceId → Grip → Bool) → Type 0
EachOut g test = (d : DeviceId) (grip : Grip) → g d ≡ Some grip → test d grip ≡ true

-- what a run does with a device: a command, or an undo
abbrev pub is_of_run : Purpose → Bool
is_of_run (Commands k) = true
is_of_run (Undoes v) = true
is_of_run (Probes v) = false

-- a probe of the device is out
abbrev pub is_probed : Grips → DeviceId → Bool
is_probed g d = unwrap_or (option_map (λ grip. not (is_of_run grip.purpose)) (g d)) false

-- how often the device came back, its probe that is out, and those that are left
abbrev pub probes_of : Configuration → DeviceId → ℕ
probes_of s d = (read_of s).rose d + (if is_probed s.grips d then 1 else 0) + s.probes d

-- a run that has a command out has had no answer since it was doomed
abbrev pub NoneAnsweredDoomed : Reading → Grips → Type 0
NoneAnsweredDoomed n g =
    EachOut g (λ d grip. not (is_command grip.purpose && (n.run grip.maker).answered_doomed))

-- an undo drives a value of the device's kind, and a probe restores one
abbrev pub undo_fits : Kind → Purpose → Bool
undo_fits kind (Commands k) = true
undo_fits kind (Undoes v) = has_value kind v
undo_fits kind (Probes None) = true
undo_fits kind (Probes (Some v)) = has_value kind v

abbrev pub UndosFit : Setting → Grips → Type 0
UndosFit w g = EachOut g (λ d grip. undo_fits (kind_at w.kinds d) grip.purpose)

-- what is kept of the history and the grips
pub record HistoryIsKept (s : Configuration) : Type 0 where
  pub well_formed : IsWellFormed s.setting (entries_of s.history)
  pub moment : (read_of s).moment ≤ s.moment
  pub clean : ReadsAreClean s.setting (entries_of s.history)
  pub justified : IsJustified s.setting (entries_of s.history)
  pub places : PlacesAreScheduled s.setting (entries_of s.history)
  pub isolated : IsTrue (is_strict s.setting.mode) → IsStrict s.setting (entries_of s.history)
  pub unrevoked : s.setting.mode.scheduler ≡ Fcfs
      → IsTrue (list_all keeps_leases (entries_of s.history))
  pub in_order : s.setting.mode.scheduler ≡ Fcfs
      → IsTrue (placed_in_order (read_of s) (read_of s).line)
  pub followed : FollowersStand s.setting (read_of s)
  pub in_turn : ActsInTurn (point_of s)
  pub first : NoneAnsweredDoomed (read_of s) s.grips

-- what is kept of a configuration in which each device stands, or stood as it went out, at this
-- value: of a window under a model with an order, that may be opened
pub record ConfigurationIsKept (s : Configuration) (rounds opened : ℕ)
    (held : DeviceId → ℕ) : Type 0 where
  pub opens : MayOpen s.setting rounds opened
  pub strong : is_weak s.setting.mode ≡ false
  pub kinds : length s.setting.kinds ≡ length s.setting.first
  -- each restart answers a probe, and no more probes of a device are taken than there are rounds
  pub probes : (d : DeviceId) → probes_of s d ≤ rounds
  pub values : (d : DeviceId) → d < length s.setting.first
      → IsTrue (has_value (kind_at s.setting.kinds d) (stand_at s.setting.first d).value)
  pub undos : UndosFit s.setting s.grips
  pub history : HistoryIsKept s
  pub order : OrderIsKept (point_of s) held
