-- What the calls of a hub answer, and what it shows after them.
use Rattle.command_rules.specs.Rosters.{command_at, is_run, run_no}
use Rattle.device_gate.specs.Grips.{Gripped}
use Rattle.device_gate.specs.Places.{all_home}
use Rattle.device_gate.specs.declared.gates.Place.TheVariants.{Home, Out}
use Rattle.device_gate.specs.declared.grips.Done.{Done}
use Rattle.device_gate.specs.declared.grips.Ready.{Ready}
use Rattle.device_gate.specs.declared.slips.Slip.{Slip}
use Rattle.device_gate.specs.declared.strangers.Stranger.{Stranger}
use Rattle.device_states.specs.Devices.{Shown}
use Rattle.history_book.specs.Gaps.{gap_set}
use Rattle.history_book.specs.Histories.{entries_of, reading}
use Rattle.history_book.specs.Settings.{Setting, is_weak, scheduler_of}
use Rattle.history_book.specs.WellFormed.{IsWellFormed, each_entry}
use Rattle.history_book.specs.declared.entries.End.TheVariants.{Committed}
use Rattle.history_book.specs.declared.entries.Entry.TheVariants.{Placed}
use Rattle.history_book.specs.declared.entries.Entry.{Entry}
use Rattle.history_book.specs.declared.records.WindowRecord.{WindowRecord}
use Rattle.home_types.specs.HomeStates.{stand_at}
use Rattle.home_types.specs.Limits.{most_devices, most_runs}
use Rattle.home_types.specs.Numbers.{DeviceId, LinePlace, Moment, RunId}
use Rattle.home_types.specs.declared.modes.Scheduler.TheVariants.{Fcfs, Timeline}
use Rattle.hub_core.specs.Homes.{HomeState}
use Rattle.hub_core.specs.HubSteps.{Carried, Chose, Gave, Give, GiveProbe, HubStep, Probed, Refused, Returned, Take, TakeProbe, task_of}
use Rattle.hub_core.specs.MustChecks.{has_must_check}
use Rattle.hub_core.specs.OpenHubs.{OpenHub, configuration_of, hub_state_of}
use Rattle.hub_core.specs.Steps.{Absent as IsAbsent, Choice, HandsOut, Moves, Over as IsOver, Waits, choice_of, opened}
use Rattle.hub_core.specs.declared.turns.Turn.TheVariants.{Absent, Go, Moved, Over, Wait}
use Rattle.hub_core.specs.declared.turns.Turn.{Turn}
use Rattle.hub_core.specs.declared.waits.Why.{Why}
use Rattle.legal_days.specs.AccountedCalls.{told_calls, told_falls}
use Rattle.legal_days.specs.CleanReads.{ReadsAreClean}
use Rattle.legal_days.specs.JustifiedAborts.{IsJustified}
use Rattle.legal_days.specs.LegalWindows.{IsLegalWindow, history_of, weakly_allowed}
use Rattle.lock_leasing.specs.Configurations.{Configuration, Grip, point_of, read_of}
use Rattle.lock_leasing.specs.Order.{OrderStands}
use Rattle.lock_leasing.specs.Places.{GripsFit, IsEarliestSet, IsFittingSet, PlacesAreScheduled}
use Rattle.lock_leasing.specs.Words.{standing_value}
use Rattle.lock_leasing.specs.declared.purposes.Purpose.TheVariants.{Commands, Probes, Undoes}
use Rattle.lock_leasing.specs.declared.purposes.Purpose.{Purpose}
use Rattle.std.specs.Prelude.{Bool, Err, IsTrue, List, None, Ok, Option, Result, Some, [], false, is_some, length, max, not, slice_get, slice_index_or, slice_set, true, ℕ, ⊤, ◌+◌, ◌-◌, ◌<◌, ◌||◌, ◌∷◌, ◌≡◌, ◌≢◌, ◌≤◌}
use Rattle.window_devices.specs.KnownDevices.{progress_at}

-- the hub is in the same window, with the same counts of its devices at the opening
pub record SameWindow {D : Type 0} (s t : OpenHub D) : Type 0 where
  pub setting : t.setting ≡ s.setting
  pub rounds : t.rounds ≡ s.rounds
  pub opened : t.opened ≡ s.opened
  pub at_opening : (d : DeviceId) → (progress_at t.devices d).at_opening
      ≡ (progress_at s.devices d).at_opening

-- the step of the run answers so and hands no device out
pub record Answers {D : Type 0} (s : OpenHub D) (r : RunId) (m : Moment) (choice : Choice)
    (t : OpenHub D) : Type 0 where
  pub step : (slip : Slip)
      → HubStep (hub_state_of s) (Take r m slip) (Chose choice) (hub_state_of t)
  pub places : t.places ≡ s.places
  pub tickets : t.tickets ≡ s.tickets

-- the grip that goes out has the next ticket, and its slip says at which value its device is known
-- to stand
pub record IsNextGrip {D : Type 0} (s : OpenHub D) (grip : Gripped D Ready)
    (t : OpenHub D) : Type 0 where
  pub ticket : grip.slip.ticket ≡ s.tickets + 1
  pub tickets : t.tickets ≡ s.tickets + 1
  pub stood : grip.slip.stood ≡ (progress_at s.devices grip.slip.device.0).held

-- the step of the run hands this device out, for what it needs it
pub record DeviceGoesOut {D : Type 0} (s : OpenHub D) (r : RunId) (m : Moment)
    (grip : Gripped D Ready) (t : OpenHub D) : Type 0 where
  pub purpose : Purpose
  pub step : HubStep (hub_state_of s) (Take r m grip.slip)
      (Chose (HandsOut grip.slip.device.0 purpose)) (hub_state_of t)
  pub task : grip.task ≡ task_of (configuration_of s) r purpose
  pub home : slice_get s.places grip.slip.device.0 ≡ Some (Home grip.device)
  pub places : t.places ≡ slice_set s.places grip.slip.device.0 (Out grip.slip grip.task)
  pub next : IsNextGrip s grip t

-- what the step of a run answers, and the hub after it: where the run waits, or is none of the
-- window, its last moment alone may be another
abbrev pub IsTurn : {D : Type 0} → OpenHub D → RunId → Moment → Turn D → OpenHub D → Type 0
IsTurn s r m (Go grip) t = DeviceGoesOut s r m grip t
IsTurn s r m (Moved made) t = Answers s r m (Moves made) t
IsTurn s r m (Wait why) t = Answers s r m (Waits why) t × (t ≡ record s { moment = max s.moment m })
IsTurn s r m (Over end made) t = Answers s r m (IsOver end made) t
IsTurn s r m Absent t = Answers s r m IsAbsent t × (t ≡ record s { moment = max s.moment m })

-- where the step places the run by the timeline, the set taken is closed, holds the base and fits,
-- and no other one that does plans an earlier end of the run
abbrev pub PlansEarliest : {D : Type 0} → Configuration → RunId → Turn D → Type 0
PlansEarliest s r (Go grip) = ⊤
PlansEarliest s r (Moved made) =
    scheduler_of s.setting.mode ≡ Timeline
    → (at : LinePlace) (m : Moment) → made ≡ Placed (run_no r) at m ∷ []
    → IsFittingSet s.setting (read_of s) r m (gap_set s.setting (read_of s) r m)
    × IsEarliestSet s.setting (read_of s) r m (gap_set s.setting (read_of s) r m)
PlansEarliest s r (Wait why) = ⊤
PlansEarliest s r (Over end made) = ⊤
PlansEarliest s r Absent = ⊤

-- what the grip carries
abbrev pub carried_by : {D S : Type 0} → Gripped D S → Carried
carried_by grip = record { slip = grip.slip; task = grip.task }

-- a grip that comes back is taken in: the step back, and the device is home again; or it is refused
-- and nothing changes
abbrev pub IsGiven : {D : Type 0} → OpenHub D → Gripped D Done → Moment
    → Result (List Entry) (Gripped D Done × Stranger) → OpenHub D → Type 0
IsGiven s grip m (Ok made) t =
    HubStep (hub_state_of s) (Give (carried_by grip) grip.stage.told m)
    (Returned (Gave made)) (hub_state_of t)
    × (t.places ≡ slice_set s.places grip.slip.device.0 (Home grip.device))
    × (t.tickets ≡ s.tickets)
IsGiven s grip m (Err refused) t =
    HubStep (hub_state_of s) (Give (carried_by grip) grip.stage.told m)
    (Returned (Refused refused.1)) (hub_state_of t)
    × (refused.0 ≡ grip) × (t ≡ s)

-- a probe of the device goes out, or none may
abbrev pub IsProbed : {D : Type 0} → OpenHub D → DeviceId → Option (Gripped D Ready)
    → OpenHub D → Type 0
IsProbed s d (Some grip) t =
    HubStep (hub_state_of s) (TakeProbe d grip.slip) (Probed (Some grip.task)) (hub_state_of t)
    × (slice_get s.places d ≡ Some (Home grip.device))
    × (t.places ≡ slice_set s.places d (Out grip.slip grip.task))
    × IsNextGrip s grip t
IsProbed s d None t =
    ((slip : Slip) → HubStep (hub_state_of s) (TakeProbe d slip) (Probed None) (hub_state_of t))
    × (t ≡ s)

-- the same for the detector's grip
abbrev pub IsProbeGiven : {D : Type 0} → OpenHub D → Gripped D Done
    → Result (List Entry) (Gripped D Done × Stranger) → OpenHub D → Type 0
IsProbeGiven s grip (Ok made) t =
    HubStep (hub_state_of s) (GiveProbe (carried_by grip) grip.stage.told)
    (Returned (Gave made)) (hub_state_of t)
    × (t.places ≡ slice_set s.places grip.slip.device.0 (Home grip.device))
    × (t.tickets ≡ s.tickets)
IsProbeGiven s grip (Err refused) t =
    HubStep (hub_state_of s) (GiveProbe (carried_by grip) grip.stage.told)
    (Returned (Refused refused.1)) (hub_state_of t)
    × (refused.0 ≡ grip) × (t ≡ s)

-- the window was opened on this home: with an empty history, each device home, no ticket given, and
-- the counts of each device as it has them
pub record IsOpened {D : Type 0} (shows : D → Shown) (w : Setting) (rounds : ℕ) (home : HomeState D)
    (hub : OpenHub D) : Type 0 where
  pub configuration : configuration_of hub ≡ opened w rounds
  pub places : hub.places ≡ all_home home.devices
  pub rounds_are : hub.rounds ≡ rounds
  pub windows : hub.opened ≡ home.opened
  pub tickets : hub.tickets ≡ 0
  pub turns_then : (d : DeviceId) (device : D) → slice_get home.devices d ≡ Some device
      → (progress_at hub.devices d).at_opening.turns ≡ (shows device).turns
  pub probes_then : (d : DeviceId) (device : D) → slice_get home.devices d ≡ Some device
      → (progress_at hub.devices d).at_opening.probes ≡ (shows device).probes
  pub faults_then : (d : DeviceId) (device : D) → slice_get home.devices d ≡ Some device
      → (progress_at hub.devices d).at_opening.faults ≡ (shows device).faults

-- no device fails in the window: each is up as it opens, and its faults do not rise
pub record NoneFails (w : Setting) (faults : List ℕ) : Type 0 where
  pub up : (d : DeviceId) → d < length w.first → (stand_at w.first d).up ≡ true
  pub steady : (d : DeviceId) → d < length w.first → slice_index_or faults d 0 ≡ 0

-- every run of the window has ended, and where runs are served as they come and no device fails,
-- each that has no must `check` has committed
pub record RunsHaveEnded (w : Setting) (closed : WindowRecord) : Type 0 where
  pub ended : (r : RunId) → is_run w.runs r ≡ true
      → is_some ((reading w (history_of closed)).run r).ended ≡ true
  pub commits : w.mode.scheduler ≡ Fcfs → NoneFails w closed.faults.items
      → (r : RunId) → is_run w.runs r ≡ true → has_must_check w.runs r ≡ false
      → ((reading w (history_of closed)).run r).ended ≡ Some Committed

-- how many probes of the device were taken
abbrev pub probes_taken : {D : Type 0} → OpenHub D → DeviceId → ℕ
probes_taken s d = s.rounds - (progress_at s.devices d).probes_left

-- the home after the hub's window, with this record and so many probes taken: its state is the
-- record's last one, and the counts of its devices rose since the opening as the record says, the
-- probes by those that were taken
pub record HomeAfter {D : Type 0} (shows : D → Shown) (s : OpenHub D) (closed : WindowRecord)
    (taken : DeviceId → ℕ) (home : HomeState D) : Type 0 where
  pub kinds : home.kinds ≡ s.setting.kinds
  pub last : home.world ≡ closed.last.devices.items
  pub opened : home.opened ≡ s.opened + 1
  -- where no device fails, each is up
  pub up : NoneFails s.setting closed.faults.items → (d : DeviceId) → d < length home.world
      → (stand_at home.world d).up ≡ true
  pub turns_rose : (d : DeviceId) (device : D) → slice_get home.devices d ≡ Some device
      → (shows device).turns
      ≡ (progress_at s.devices d).at_opening.turns + slice_index_or closed.turns.items d 0
  pub probes_rose : (d : DeviceId) (device : D) → slice_get home.devices d ≡ Some device
      → (shows device).probes ≡ (progress_at s.devices d).at_opening.probes + taken d
  pub faults_rose : (d : DeviceId) (device : D) → slice_get home.devices d ≡ Some device
      → (shows device).faults
      ≡ (progress_at s.devices d).at_opening.faults + slice_index_or closed.faults.items d 0

-- the window was closed with this record, and leaves this home, with the devices of the hub
pub record WindowIsClosed {D : Type 0} (shows : D → Shown) (s : OpenHub D) (home : HomeState D)
    (closed : WindowRecord) : Type 0 where
  pub legal : IsLegalWindow s.setting closed
  pub history : closed.history.items ≡ s.history
  pub ends : RunsHaveEnded s.setting closed
  pub places : s.places ≡ all_home home.devices
  pub after : HomeAfter shows s closed (probes_taken s) home

-- What a hub tells

-- there is nothing to do for the run: the window has no such run, or it has ended
abbrev pub is_past : Configuration → RunId → Bool
is_past s r = not (is_run s.setting.runs r) || is_some ((read_of s).run r).ended

-- by how many ms a replay's moment rises with what the device is out for: that of a command, 0 for
-- an undo or a probe
abbrev pub grip_takes : Setting → Option Grip → ℕ
grip_takes w None = 0
grip_takes w (Some grip) = by_purpose grip.purpose
  where
    by_purpose : Purpose → ℕ
    by_purpose (Commands k) = (command_at w.runs grip.maker k).takes
    by_purpose (Undoes v) = 0
    by_purpose (Probes v) = 0

-- What is kept of every hub

-- a device that is home, and counted up, stands at its standing value
abbrev pub DevicesStand : {D : Type 0} → (D → Shown) → OpenHub D → Type 0
DevicesStand {D} shows s =
    (d : DeviceId) (device : D) → slice_get s.places d ≡ Some (Home device)
    → (read_of (configuration_of s)).up d ≡ true → (shows device).stands
    ≡ standing_value (point_of (configuration_of s)) d

-- how often it has failed up to now at least: its faults at the opening, and the failures that the
-- history tells of
abbrev pub faults_told : {D : Type 0} → OpenHub D → DeviceId → ℕ
faults_told s d = (progress_at s.devices d).at_opening.faults + told_falls (entries_of s.history) d

-- the calls of a device that is home rose since the opening by those that the history tells of, its
-- probes by those that were taken, and its faults by its failures at least, and at most by these
-- and its probes
pub record CallsAreTold {D : Type 0} (shows : D → Shown) (s : OpenHub D) : Type 0 where
  pub turns_rose : (d : DeviceId) (device : D) → slice_get s.places d ≡ Some (Home device)
      → (shows device).turns ≡ (progress_at s.devices d).at_opening.turns
      + told_calls s.setting.runs (entries_of s.history) d
  pub probes_rose : (d : DeviceId) (device : D) → slice_get s.places d ≡ Some (Home device)
      → (shows device).probes ≡ (progress_at s.devices d).at_opening.probes + probes_taken s d
  pub falls_told : (d : DeviceId) (device : D) → slice_get s.places d ≡ Some (Home device)
      → faults_told s d ≤ (shows device).faults
  pub few_faults : (d : DeviceId) (device : D) → slice_get s.places d ≡ Some (Home device)
      → (shows device).faults ≤ faults_told s d + probes_taken s d

-- in every hub each device has a place, and one that is home stands in that of its number, the
-- history is well formed, the grips that are out fit it, aborts are justified, devices stand where
-- they should, and their calls are told; outside the weak model the four clauses of the order hold,
-- reads are clean, and places are the scheduler's; and under it answers, dooms and ends are such as
-- the weak model allows
pub record HubStands {D : Type 0} (shows : D → Shown) (s : OpenHub D) : Type 0 where
  pub size : length s.places ≡ length s.setting.first
  pub numbered : (d : DeviceId) (device : D) → slice_get s.places d ≡ Some (Home device)
      → (shows device).tag ≡ d
  pub few_runs : length s.setting.runs ≤ most_runs
  pub few_devices : length s.setting.first ≤ most_devices
  pub well_formed : IsWellFormed s.setting (entries_of s.history)
  pub grips : GripsFit (point_of (configuration_of s))
  pub order : is_weak s.setting.mode ≡ false
      → OrderStands (point_of (configuration_of s))
  pub clean : is_weak s.setting.mode ≡ false → ReadsAreClean s.setting (entries_of s.history)
  pub places : is_weak s.setting.mode ≡ false → PlacesAreScheduled s.setting (entries_of s.history)
  pub weakly : is_weak s.setting.mode ≡ true
      → IsTrue (each_entry s.setting (weakly_allowed s.setting) (entries_of s.history))
  pub justified : IsJustified s.setting (entries_of s.history)
  -- no moment that the history tells is later than the last one
  pub moment : (read_of (configuration_of s)).moment ≤ s.moment
  pub stand : DevicesStand shows s
  pub told : CallsAreTold shows s

-- where no device is out and some run has not ended, some run that has not ended does not wait, at
-- any moment
abbrev pub SomeRunMoves : Configuration → Type 0
SomeRunMoves s =
    (r : RunId) → is_run s.setting.runs r ≡ true → ((read_of s).run r).ended ≡ None
    → ((d : DeviceId) → s.grips d ≡ None)
    → (q : RunId) × (is_run s.setting.runs q ≡ true) × (((read_of s).run q).ended ≡ None)
    × ((m : Moment) (why : Why) → choice_of s q m ≢ Waits why)
