-- Words over a reading and the grips that are out: accesses, effective writes, holding, standing
-- values, leases.
use Rattle.command_rules.specs.Rosters.{commands_of, estimate_to_last, touches}
use Rattle.history_book.specs.Lines.{before, without}
use Rattle.history_book.specs.Plans.{greatest, planned_end}
use Rattle.history_book.specs.Readings.{Reading, did, is_committed, is_doomed, is_live, pends}
use Rattle.history_book.specs.Settings.{Setting, devices_of, is_weak}
use Rattle.home_types.specs.HomeStates.{stand_at}
use Rattle.home_types.specs.Numbers.{DeviceId, Moment, RunId}
use Rattle.home_types.specs.declared.items.Item.{Item}
use Rattle.home_types.specs.declared.items.Item.TheVariants.{Back, Failed, Ran}
use Rattle.lock_leasing.specs.Configurations.{Grips, Point, grips_command, grips_undo}
use Rattle.std.specs.Option.{option_or}
use Rattle.std.specs.Prelude.{Bool, List, None, Option, Some, false, filter_map, find, fold, if◌then◌else◌, min, nat_lt, not, option_map, unwrap_or, ℕ, ◌&&◌, ◌+◌, ◌/◌, ◌==◌, ◌||◌}

-- Accesses

-- the run has touched the device: it has an access there, or the grip of a command
abbrev pub has_touched : Reading → Grips → RunId → DeviceId → Bool
has_touched n g r d = did n r d || grips_command g r d

-- Effective writes

-- the run is undone on the device: by an entry, or its undo is out
abbrev pub is_undone : Reading → Grips → RunId → DeviceId → Bool
is_undone n g r d = ((n.run r).on d).undid || grips_undo g r d

pub record Write : Type 0 where
  pub run : RunId
  pub value : ℕ

-- the item's write on the device, unless it is undone
abbrev pub write_of : Reading → Grips → DeviceId → Item → Option Write
write_of n g d (Ran r) =
    if is_undone n g r.0 d then None
    else option_map (λ v. record { run = r.0; value = v }) ((n.run r.0).on d).wrote
write_of n g d (Failed e k) = None
write_of n g d (Back e k) = None

-- the last of these along the list
abbrev pub last_some : {A B : Type 0} → (A → Option B) → List A → Option B
last_some f xs = fold (λ best x. option_or (f x) best) None xs

-- the effective write on the device: the last one in the line that is not undone
abbrev pub effective_write : Reading → Grips → DeviceId → Option Write
effective_write n g d = last_some (write_of n g d) n.line

abbrev pub effective_writer_of : Reading → Grips → DeviceId → Option RunId
effective_writer_of n g d = option_map (λ e. e.run) (effective_write n g d)

-- the run has the effective write on the device
abbrev pub has_effect : Reading → Grips → RunId → DeviceId → Bool
has_effect n g r d = unwrap_or (option_map (λ x. x == r) (effective_writer_of n g d)) false

-- the device's standing value: that of its effective write, else the first one; under the weak
-- model that of the last write
abbrev pub standing_value : Point → DeviceId → ℕ
standing_value p d =
    if is_weak p.setting.mode then p.reading.last d
    else unwrap_or (option_map (λ e. e.value) (effective_write p.reading p.grips d))
    (stand_at p.setting.first d).value

-- the standing value if the run had not written
abbrev pub value_without : Point → RunId → DeviceId → ℕ
value_without p r d =
    unwrap_or (option_map (λ e. e.value)
    (last_some (write_of p.reading p.grips d) (without r p.reading.line)))
    (stand_at p.setting.first d).value

-- the smallest device on which the run has the effective write: the next one on which it is undone
abbrev pub next_undo_of : Point → RunId → Option DeviceId
next_undo_of p r = find (has_effect p.reading p.grips r) (devices_of p.setting r)

-- the item's write on the device, if it is a committed run
abbrev pub committed_write : Reading → DeviceId → Item → Option ℕ
committed_write n d (Ran r) = if is_committed n r.0 then ((n.run r.0).on d).wrote else None
committed_write n d (Failed e k) = None
committed_write n d (Back e k) = None

-- Holding

-- the live run holds the device: a command on it is pending, or, where the run is doomed, it has
-- the effective write there
abbrev pub holds_device : Point → RunId → DeviceId → Bool
holds_device p r d =
    is_live p.reading r
    && (if is_doomed p.reading r then touches p.setting.runs r d && has_effect p.reading p.grips r d
    else pends p.setting p.reading r d)

-- the live runs among these items, in their order
abbrev pub live_runs : Reading → List Item → List RunId
live_runs n items = filter_map live_run items
  where
    live_run : Item → Option RunId
    live_run (Ran r) = if is_live n r.0 then Some r.0 else None
    live_run (Failed d k) = None
    live_run (Back d k) = None

-- the live runs before the run
abbrev pub live_before : Reading → RunId → List RunId
live_before n r = live_runs n (before r n.line)

-- Leases

-- a tenth, rounded up
abbrev pub tenth_up : ℕ → ℕ
tenth_up k = (k + 9) / 10

-- the deadline of the run's lease: its planned end on the device, and a tenth of its estimates up
-- to its last command there
abbrev pub lease_deadline : Setting → Reading → RunId → DeviceId → Moment
lease_deadline w n r d =
    min (planned_end (n.run r).planned d + tenth_up (estimate_to_last d (commands_of w.runs r)))
    greatest

-- the number of entries before the run's placing
abbrev pub stamp_of : Reading → RunId → ℕ
stamp_of n r = unwrap_or (option_map (λ p. p.stamp) (n.run r).placed) 0

-- x, which stands before r, has the device on a lease from it: x was placed later, holds the
-- device, and is not doomed
abbrev pub is_borrower : Point → RunId → DeviceId → RunId → Bool
is_borrower p r d x =
    not (is_doomed p.reading x) && nat_lt (stamp_of p.reading r) (stamp_of p.reading x)
    && holds_device p x d

-- the first one in line order
abbrev pub borrower_from : Point → RunId → DeviceId → Option RunId
borrower_from p r d = find (is_borrower p r d) (live_before p.reading r)

-- the lease of x, which stands before r, is overdue for r, whose next command is on the device and
-- is not skipped: x was placed later, holds the device, is not doomed, and the moment is past its
-- deadline
abbrev pub is_overdue : Point → RunId → DeviceId → Moment → RunId → Bool
is_overdue p r d m x =
    not (is_doomed p.reading x) && nat_lt (stamp_of p.reading r) (stamp_of p.reading x)
    && holds_device p x d
    && nat_lt (lease_deadline p.setting p.reading x d) m

-- the lease that is revoked: the first overdue one in line order
abbrev pub overdue_for : Point → RunId → DeviceId → Moment → Option RunId
overdue_for p r d m = find (is_overdue p r d m) (live_before p.reading r)
