-- The steps of a hub, as functions of its configuration.
use Rattle.command_rules.specs.Rosters.{command_at, device_no, is_run, run_no}
use Rattle.history_book.specs.Histories.{kept_by}
use Rattle.history_book.specs.Readings.{Reading, did, is_doomed, next_command, next_of, put, sees_down}
use Rattle.history_book.specs.Settings.{Setting, device_numbers, is_device, is_weak, run_numbers}
use Rattle.history_book.specs.declared.entries.Cause.{Cause}
use Rattle.history_book.specs.declared.entries.Cause.TheVariants.{DownAtEnd, Lost, MustDown, Refuted, Revoked}
use Rattle.history_book.specs.declared.entries.End.{End}
use Rattle.history_book.specs.declared.entries.End.TheVariants.{Aborted, Committed}
use Rattle.history_book.specs.declared.entries.Entry.{Entry}
use Rattle.history_book.specs.declared.entries.Entry.TheVariants.{Arrived, Did, Doomed, Ended, Fell, Placed, Rose, Undid}
use Rattle.home_types.specs.Commands.{fails, holds}
use Rattle.home_types.specs.Numbers.{ActorId, CommandIndex, DeviceId, Moment, RunId}
use Rattle.home_types.specs.declared.commands.Answer.TheVariants.{Down, Fine, Found, Skipped}
use Rattle.home_types.specs.declared.commands.Command.{Command}
use Rattle.device_gate.specs.declared.slips.Told.{Told}
use Rattle.device_gate.specs.declared.slips.Told.TheVariants.{Died, Sensed, Worked}
use Rattle.hub_core.specs.declared.refusals.NotQuiet.{NotQuiet}
use Rattle.hub_core.specs.declared.refusals.NotQuiet.TheVariants.{StillLive, StillOut}
use Rattle.hub_core.specs.declared.waits.Why.{Why}
use Rattle.hub_core.specs.declared.waits.Why.TheVariants.{Behind, Busy, Denied, Dirty, Follow, Strict}
use Rattle.lock_leasing.specs.Configurations.{Configuration, Grip, Point, is_out, no_grips, point_of, read_of}
use Rattle.lock_leasing.specs.declared.purposes.Purpose.TheVariants.{Commands, Probes, Undoes}
use Rattle.lock_leasing.specs.declared.purposes.Purpose.{Purpose}
use Rattle.lock_leasing.specs.Places.{At, DeniedBy, Placing, scheduled_place}
use Rattle.lock_leasing.specs.Waits.{behind_wait, busy_wait, dirty_wait, down_at_end, follow_wait, grip_wait, lost_by, strict_wait, undo_wait}
use Rattle.lock_leasing.specs.Words.{lease_deadline, next_undo_of, overdue_for, standing_value, value_without}
use Rattle.std.specs.Option.{option_or}
use Rattle.std.specs.Prelude.{Bool, List, None, Option, Some, [], false, find, if◌then◌else◌, is_none, length, max, nat_lt, not, option_map, option_to_list, true, unwrap_or, ℕ, ◌&&◌, ◌++◌, ◌-◌, ◌||◌, ◌∷◌, ◌≡◌}

-- What a step of a run does

pub data Choice : Type 0 where
  -- the window has no such run
  Absent : Choice
  -- the run has ended so, now or before, with these entries made
  Over : End → List Entry → Choice
  Moves : List Entry → Choice
  Waits : Why → Choice
  -- the device goes out
  HandsOut : DeviceId → Purpose → Choice

-- the first case that applies
abbrev pub first_case : {A : Type 0} → List (Option A) → A → A
first_case [] otherwise = otherwise
first_case (c ∷ cs) otherwise = unwrap_or c (first_case cs otherwise)

abbrev pub only_if : {A : Type 0} → Bool → A → Option A
only_if b x = if b then Some x else None

-- The cases of the next command, c with the number k, of the run r; each tells what it does where
-- it applies

-- a lease on the device is overdue: its run is doomed
abbrev pub overdue_case : Point → RunId → Moment → Command → Option Choice
overdue_case p r m c =
    option_map (λ x. Moves
    (Doomed (run_no x)
    (Revoked (run_no r) c.device (lease_deadline p.setting p.reading x c.device.0) m) ∷ []))
    (overdue_for p r c.device.0 m)

abbrev pub behind_case : Point → RunId → Command → Option Choice
behind_case p r c =
    option_map (λ x. Waits (Behind c.device (run_no x))) (behind_wait p r c.device.0)

abbrev pub dirty_case : Point → RunId → Command → Option Choice
dirty_case p r c = option_map (λ x. Waits (Dirty c.device (run_no x))) (dirty_wait p r c)

abbrev pub strict_case : Point → RunId → Option Choice
strict_case p r = option_map (λ x. Waits (Strict (run_no x))) (strict_wait p.setting p.reading r)

abbrev pub busy_case : Point → RunId → Command → Option Choice
busy_case p r c = only_if (busy_wait p r c.device.0) (Waits (Busy c.device))

-- the answer Down without a device call
abbrev pub down_entries : RunId → CommandIndex → Command → List Entry
down_entries r k c =
    Did (run_no r) k Down ∷ (if c.must then Doomed (run_no r) (MustDown k) ∷ [] else [])

-- the run sees the device down, or it is counted down; under the weak model there are no views
abbrev pub answers_down : Setting → Reading → RunId → DeviceId → Bool
answers_down w n r d = (not (is_weak w.mode) && sees_down n r d) || not (n.up d)

abbrev pub down_case : Point → RunId → CommandIndex → Command → Option Choice
down_case p r k c =
    only_if (answers_down p.setting p.reading r c.device.0) (Moves (down_entries r k c))

abbrev pub command_cases : Bool → Point → RunId → Moment → CommandIndex
    → Command → List (Option Choice)
command_cases true p r m k c = busy_case p r c ∷ down_case p r k c ∷ []
command_cases false p r m k c =
    overdue_case p r m c ∷ behind_case p r c ∷ dirty_case p r c ∷ strict_case p r
    ∷ busy_case p r c ∷ down_case p r k c ∷ []

-- the answer Skipped, to a command whose guard does not hold
abbrev pub skip_entries : RunId → CommandIndex → List Entry
skip_entries r k = Did (run_no r) k Skipped ∷ []

-- a command whose guard does not hold waits for no run but one that the model waits for
abbrev pub decide_command : Point → RunId → Moment → CommandIndex
    → Command → Choice
decide_command p r m k c =
    if holds c.when (p.reading.run r).register then first_case
    (command_cases (is_weak p.setting.mode) p r m k c) (HandsOut c.device.0 (Commands k))
    else first_case (strict_case p r ∷ []) (Moves (skip_entries r k))

-- The other cases of a run's step

abbrev pub aborts : RunId → Cause → Choice
aborts r cause = Over (Aborted cause) (Ended (run_no r) (Aborted cause) ∷ [])

-- the device is counted down, and the write is dropped; else the value is driven at which it would
-- stand without the run
abbrev pub undo_choice : Point → RunId → DeviceId → Choice
undo_choice p r d =
    if p.reading.up d then HandsOut d (Undoes (value_without p r d))
    else Moves (Undid (run_no r) (device_no d) false ∷ [])

abbrev pub undo_cases : Point → RunId → List (Option Choice)
undo_cases p r =
    option_map (λ d. Waits (Busy (device_no d))) (undo_wait p r)
    ∷ option_map (undo_choice p r) (next_undo_of p r) ∷ []

-- a doomed run undoes its effective writes, by ascending device, and then ends; under the weak
-- model it ends at once
abbrev pub decide_doomed : Point → RunId → Cause → Choice
decide_doomed p r cause =
    first_case (if is_weak p.setting.mode then [] else undo_cases p r) (aborts r cause)

-- a run with all its commands answered commits, where no device that it needs up is down
abbrev pub decide_answered : Point → RunId → Choice
decide_answered p r =
    unwrap_or (option_map (λ d. Moves (Doomed (run_no r) (DownAtEnd (device_no d)) ∷ []))
    (down_at_end p r)) (Over Committed (Ended (run_no r) Committed ∷ []))

abbrev pub place_choice : RunId → Moment → Placing → Choice
place_choice r m (At s) = Moves (Placed (run_no r) (length s.front) m ∷ [])
place_choice r m (DeniedBy d x) = Waits (Denied (device_no d) (run_no x))

-- a run that has arrived waits for the run that it follows, and is then placed
abbrev pub decide_arrived : Point → RunId → Moment → Choice
decide_arrived p r m =
    first_case (option_map (λ f. Waits (Follow f)) (follow_wait p.setting p.reading r) ∷ [])
    (place_choice r m (scheduled_place p r m))

-- the cases of a run's step, in order, before all its commands are answered
abbrev pub run_cases : Point → RunId → Moment → List (Option Choice)
run_cases p r m =
    only_if (not (is_run p.setting.runs r)) Absent
    ∷ option_map (λ e. Over e []) (p.reading.run r).ended
    ∷ option_map (λ d. Waits (Busy (device_no d))) (grip_wait p.setting p.grips r)
    ∷ only_if (is_none (p.reading.run r).arrived) (Moves (Arrived (run_no r) m ∷ []))
    ∷ only_if (is_none (p.reading.run r).placed) (decide_arrived p r m)
    ∷ option_map (decide_doomed p r) (p.reading.run r).doomed
    ∷ option_map (decide_command p r m (next_of p.reading r))
    (next_command p.setting p.reading r) ∷ []

-- the step of the run at this moment
abbrev pub decide : Point → RunId → Moment → Choice
decide p r m = first_case (run_cases p r m) (decide_answered p r)

-- The entries of a step back

abbrev pub command_entries : Setting → Reading → RunId → CommandIndex → Told → List Entry
command_entries w n r k Worked = Did (run_no r) k Fine ∷ []
command_entries w n r k (Sensed x) =
    Did (run_no r) k (Found x) ∷ (if fails (command_at w.runs r k) (Found x) && not (is_doomed n r)
    then Doomed (run_no r) (Refuted k x) ∷ [] else [])
command_entries w n r k Died =
    Fell c.device ∷ Did (run_no r) k Down ∷ (if is_doomed n r then [] else dooms)
  where
    c : Command
    c = command_at w.runs r k

    -- a later access is lost; a first one fails only where it must not
    dooms : List Entry
    dooms =
        if did n r c.device.0 && not (is_weak w.mode) then Doomed (run_no r) (Lost c.device) ∷ []
        else (if c.must then Doomed (run_no r) (MustDown k) ∷ [] else [])

abbrev pub undo_entries : RunId → DeviceId → Told → List Entry
undo_entries r d Worked = Undid (run_no r) (device_no d) true ∷ []
undo_entries r d (Sensed x) = Undid (run_no r) (device_no d) true ∷ []
undo_entries r d Died = Fell (device_no d) ∷ Undid (run_no r) (device_no d) false ∷ []

-- a device that was counted up falls where it does not answer; one that was counted down is back
-- where it answers
abbrev pub probe_entries : Setting → Reading → DeviceId → Told → List Entry
probe_entries w n d told = if n.up d then while_up told else while_down told
  where
    while_up : Told → List Entry
    while_up Worked = []
    while_up (Sensed x) = []
    while_up Died =
        Fell (device_no d)
        ∷ option_to_list (option_map (λ x. Doomed (run_no x) (Lost (device_no d))) (lost_by w n d))

    while_down : Told → List Entry
    while_down Worked = Rose (device_no d) ∷ []
    while_down (Sensed x) = Rose (device_no d) ∷ []
    while_down Died = []

abbrev pub give_entries : Setting → Reading → DeviceId → Grip → Told → List Entry
give_entries w n d grip told = by_purpose grip.purpose
  where
    by_purpose : Purpose → List Entry
    by_purpose (Commands k) = command_entries w n grip.maker k told
    by_purpose (Undoes v) = undo_entries grip.maker d told
    by_purpose (Probes v) = probe_entries w n d told

-- The configuration after a step

-- an empty history, the home as it is, and so many probes of each device
abbrev pub opened : Setting → ℕ → Configuration
opened w rounds = record {
  setting = w;
  history = [];
  moment = 0;
  probes = λ d. if is_device w d then rounds else 0;
  grips = no_grips;
}

abbrev pub with_entries : Configuration → ActorId → List Entry → Configuration
with_entries s maker entries = record s { history = s.history ++ kept_by maker entries }

abbrev pub with_grip : Configuration → DeviceId → Option Grip → Configuration
with_grip s d grip = record s { grips = put s.grips d grip }

-- moments never fall
abbrev pub at_moment : Configuration → Moment → Configuration
at_moment s m = record s { moment = max s.moment m }

-- what the run's step does at this moment, which is not before the last one
abbrev pub choice_of : Configuration → RunId → Moment → Choice
choice_of s r m = decide (point_of s) r (max s.moment m)

abbrev pub after_choice : Configuration → RunId → Choice → Configuration
after_choice s r Absent = s
after_choice s r (Over e entries) = with_entries s r entries
after_choice s r (Moves entries) = with_entries s r entries
after_choice s r (Waits why) = s
after_choice s r (HandsOut d purpose) =
    with_grip s d (Some (record { maker = r; purpose = purpose }))

abbrev pub after_take : Configuration → RunId → Moment → Configuration
after_take s r m = after_choice (at_moment s m) r (choice_of s r m)

-- the grip of the device is back, with what it was told
abbrev pub after_give : Configuration → DeviceId → Grip → Told → Configuration
after_give s d grip told =
    with_grip (with_entries s grip.maker (give_entries s.setting (read_of s) d grip told)) d None

-- a probe restores the standing value, where the device is counted down
abbrev pub restored : Configuration → DeviceId → Option ℕ
restored s d =
    if (read_of s).up d then None else Some (standing_value (point_of s) d)

-- the device is home, and a probe of it is left
abbrev pub may_probe : Configuration → DeviceId → Bool
may_probe s d = is_device s.setting d && not (is_out s.grips d) && nat_lt 0 (s.probes d)

abbrev pub probe_grip : Configuration → DeviceId → Grip
probe_grip s d = record { maker = 0; purpose = Probes (restored s d) }

abbrev pub after_take_probe : Configuration → DeviceId → Configuration
after_take_probe s d =
    if may_probe s d then record s {
      probes = put s.probes d (s.probes d - 1);
      grips = put s.grips d (Some (probe_grip s d));
    } else s

-- What r is told to wait for at this moment: the first reason, in the order of the cases
abbrev pub MustWait : Configuration → RunId → Moment → Why → Type 0
MustWait s r m why = choice_of s r m ≡ Waits why

-- why the window cannot be closed: the smallest run that has not ended, else the smallest device
-- that is out
abbrev pub not_quiet : Configuration → Option NotQuiet
not_quiet s =
    option_or (option_map (λ r. StillLive (run_no r)) live)
    (option_map (λ d. StillOut (device_no d)) out)
  where
    live : Option RunId
    live = find (λ r. is_none ((read_of s).run r).ended) (run_numbers s.setting)

    out : Option DeviceId
    out = find (is_out s.grips) (device_numbers s.setting)
