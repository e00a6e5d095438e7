-- The numbers of device calls over all windows of a live home.
use Rattle.device_gate.specs.Places.{kept_of}
use Rattle.device_gate.specs.declared.gates.Place.TheVariants.{Out}
use Rattle.device_gate.specs.declared.gates.Place.{Place}
use Rattle.device_gate.specs.declared.slips.Slip.{Slip}
use Rattle.device_gate.specs.declared.slips.Task.{Task}
use Rattle.device_gate.specs.declared.slips.Told.{Told}
use Rattle.handed_devices.specs.declared.devices.HandedDevice.{HandedDevice}
use Rattle.home_states.specs.declared.homes.Phase.TheVariants.{Between, InWindow, Moving}
use Rattle.home_states.specs.declared.homes.Phase.{Phase}
use Rattle.home_types.specs.Limits.{most_devices, most_probes}
use Rattle.hub_core.specs.OpenHubs.{OpenHub, configuration_of}
use Rattle.hub_table.specs.Answers.{refusal}
use Rattle.hub_table.specs.Tables.{SlipAndTask}
use Rattle.hub_table.specs.declared.told.NotTaken.{NotTaken}
use Rattle.hub_table.specs.declared.told.Taken.TheVariants.{Absent, Moved, Out as IsOut, Over, Waits}
use Rattle.hub_table.specs.declared.told.Taken.{Taken}
use Rattle.lock_leasing.specs.Configurations.{Configuration, Grip}
use Rattle.lock_leasing.specs.declared.purposes.Purpose.TheVariants.{Commands, Probes, Undoes}
use Rattle.lock_leasing.specs.declared.purposes.Purpose.{Purpose}
use Rattle.std.specs.Prelude.{List, None, Option, Some, length, slice_get, suc, zero, ℕ, ⊤, ◌*◌, ◌+◌, ◌<◌, ◌^◌, ◌≡◌, ◌≤◌, ◌⊎◌}

-- the slip with the number of its call in the life of the home, where so many calls went before
abbrev pub numbered : ℕ → Slip → Slip
numbered before slip = record slip { ticket = before + slip.ticket }

abbrev pub numbered_call : ℕ → Option SlipAndTask → Option SlipAndTask
numbered_call before None = None
numbered_call before (Some out) = Some (numbered before out.0, out.1)

abbrev pub numbered_turn : ℕ → Taken → Taken
numbered_turn before (IsOut slip task) = IsOut (numbered before slip) task
numbered_turn before (Moved made) = Moved made
numbered_turn before (Waits why) = Waits why
numbered_turn before (Over end made) = Over end made
numbered_turn before Absent = Absent

-- the call of a device that goes out
abbrev pub call_told : Taken → Option SlipAndTask
call_told (IsOut slip task) = Some (slip, task)
call_told (Moved made) = None
call_told (Waits why) = None
call_told (Over end made) = None
call_told Absent = None

-- how many calls were handed out, where this one is the last, if there is one
abbrev pub count_after : ℕ → ℕ → Option SlipAndTask → ℕ
count_after tickets before None = tickets
count_after tickets before (Some out) = before + out.0.ticket

-- why this is no answer to the call with this number for which the device may be out
abbrev pub refusal_of_number : ℕ → OpenHub HandedDevice → ℕ → ℕ → Told → Option NotTaken
refusal_of_number before hub d ticket told =
    refusal (numbered_call before (kept_of (slice_get hub.places d))) ticket told

-- the number is none of those that were given in a window, from after the first to the second
abbrev pub IsOfNoNumber : ℕ → ℕ → ℕ → Type 0
IsOfNoNumber before given ticket = (ticket ≤ before) ⊎ (given < ticket)

-- how many calls were handed out in the window that is open
abbrev pub tickets_in : Phase → ℕ
tickets_in (Between home) = 0
tickets_in (InWindow k hub) = hub.tickets
tickets_in Moving = 0

-- What is kept of the numbers

-- so many calls a window hands out at most
abbrev pub window_tickets : ℕ
window_tickets = 2 ^ 17

unfoldable pub sum_below : ℕ → (ℕ → ℕ) → ℕ
sum_below zero f = 0
sum_below (suc n) f = sum_below n f + f n

-- how many entries a device that is out makes at least as it comes home
abbrev pub least_entries : Option Grip → ℕ
least_entries None = 0
least_entries (Some grip) = by_purpose grip.purpose
  where
    by_purpose : Purpose → ℕ
    by_purpose (Commands k) = 1
    by_purpose (Undoes v) = 1
    by_purpose (Probes v) = 0

-- each call is a probe, or one that has made an entry, or one of a device that is out
abbrev pub CallsAreFew : Configuration → ℕ → Type 0
CallsAreFew s tickets =
    tickets + sum_below (length s.setting.first) s.probes
    ≤ length s.history + sum_below (length s.setting.first) (λ d. least_entries (s.grips d))
    + most_devices * most_probes

-- the ticket of each call that is out is one of those that the window gave
abbrev pub TicketsAreGiven : List (Place HandedDevice) → ℕ → Type 0
TicketsAreGiven places tickets =
    (d : ℕ) (slip : Slip) (task : Task) → slice_get places d ≡ Some (Out slip task)
    → (1 ≤ slip.ticket) × (slip.ticket ≤ tickets)

pub record WindowTickets (before : ℕ) (hub : OpenHub HandedDevice) : Type 0 where
  pub before_low : before ≤ hub.opened * window_tickets
  pub few_windows : hub.opened < 2 ^ 31
  pub size : length hub.places ≡ length hub.setting.first
  pub few_calls : CallsAreFew (configuration_of hub) hub.tickets
  pub given : TicketsAreGiven hub.places hub.tickets

-- the numbers are low enough for all windows of the home
abbrev pub TicketsAreLow : ℕ → Phase → Type 0
TicketsAreLow before (Between home) = before ≤ home.opened * window_tickets
TicketsAreLow before (InWindow k hub) = WindowTickets before hub
TicketsAreLow before Moving = ⊤
