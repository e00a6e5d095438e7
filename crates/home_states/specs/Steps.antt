-- The steps of the window in which a live home is.
use Rattle.device_gate.specs.Grips.{Gripped}
use Rattle.device_gate.specs.declared.grips.Ready.{Ready}
use Rattle.device_gate.specs.declared.slips.Told.{Told}
use Rattle.handed_devices.specs.declared.devices.HandedDevice.{HandedDevice}
use Rattle.history_book.specs.Sealed.{StaysSealed}
use Rattle.history_book.specs.declared.entries.Entry.{Entry}
use Rattle.home_states.specs.LiveHomes.{LiveState, tickets_given}
use Rattle.home_states.specs.Tickets.{IsOfNoNumber, numbered_call, numbered_turn, refusal_of_number}
use Rattle.home_states.specs.declared.homes.Phase.TheVariants.{Between, InWindow, Moving}
use Rattle.home_states.specs.declared.homes.Phase.{Phase}
use Rattle.home_states.specs.declared.refusals.NotAnswered.TheVariants.{NoWindow, NotTaken}
use Rattle.home_states.specs.declared.refusals.NotAnswered.{NotAnswered}
use Rattle.hub_core.specs.BlockedRuns.{IsBlocked}
use Rattle.hub_core.specs.HubCalls.{IsProbed, IsTurn, PlansEarliest, SameWindow}
use Rattle.hub_core.specs.OpenHubs.{OpenHub, configuration_of}
use Rattle.hub_core.specs.Steps.{not_quiet}
use Rattle.hub_core.specs.declared.refusals.NotQuiet.{NotQuiet}
use Rattle.hub_core.specs.declared.turns.Turn.{Turn}
use Rattle.hub_table.specs.Answers.{HasComeBack}
use Rattle.hub_table.specs.Tables.{SlipAndTask, lent_by, taken_of}
use Rattle.hub_table.specs.declared.told.NotTaken.TheVariants.{NotOut}
use Rattle.hub_table.specs.declared.told.Taken.{Taken}
use Rattle.lock_leasing.specs.Configurations.{read_of}
use Rattle.std.specs.Prelude.{List, None, Option, Some, option_map, ℕ, ◌+◌, ◌≡◌}

-- the window in which the live home was goes on as this hub, and nothing else is changed
pub record WindowGoesOn (s : LiveState) (hub : OpenHub HandedDevice) (next : OpenHub HandedDevice)
    (t : LiveState) : Type 0 where
  pub number : ℕ
  pub was : s.phase ≡ InWindow number hub
  pub is : t ≡ record s { phase = InWindow number next }
  pub window : SameWindow hub next
  pub sealed : StaysSealed (read_of (configuration_of hub)) (read_of (configuration_of next))

-- the step of the run was made, and this is told of it, with the home's number of the call
pub record HasTaken (s : LiveState) (r m : ℕ) (taken : Taken) (t : LiveState) : Type 0 where
  pub hub : OpenHub HandedDevice
  pub next : OpenHub HandedDevice
  pub goes : WindowGoesOn s hub next t
  pub turn : Turn HandedDevice
  pub step : IsTurn hub r m turn next
  pub earliest : PlansEarliest (configuration_of hub) r turn
  pub told : taken ≡ numbered_turn s.tickets_before (taken_of turn)

-- the call that goes out has the home's next number; where none goes out, no number is given
abbrev pub HasNextNumber : LiveState → Option SlipAndTask → LiveState → Type 0
HasNextNumber s None t = tickets_given t ≡ tickets_given s
HasNextNumber s (Some out) t =
    (out.0.ticket ≡ tickets_given s + 1) × (tickets_given t ≡ tickets_given s + 1)

-- the device was out with this number, told this, and is back
pub record HasAnswered (s : LiveState) (d ticket : ℕ) (told : Told) (m : ℕ) (made : List Entry)
    (t : LiveState) : Type 0 where
  pub hub : OpenHub HandedDevice
  pub next : OpenHub HandedDevice
  pub goes : WindowGoesOn s hub next t
  pub in_window : ℕ
  pub number : ticket ≡ s.tickets_before + in_window
  pub answered : HasComeBack hub d in_window told m made next

-- the first reason against an answer to the call with this number
abbrev pub first_against_answer : LiveState → ℕ → ℕ → Told → Option NotAnswered
first_against_answer s d ticket told = by_phase s.phase
  where
    by_phase : Phase → Option NotAnswered
    by_phase (Between home) = Some NoWindow
    by_phase (InWindow k hub) =
        option_map NotTaken (refusal_of_number s.tickets_before hub d ticket told)
    by_phase Moving = Some NoWindow

-- why this is no answer to a call that is out
abbrev pub IsNoAnswer : LiveState → ℕ → ℕ → Told → NotAnswered → Type 0
IsNoAnswer s d ticket told why = first_against_answer s d ticket told ≡ Some why

-- the device is not out with this number
abbrev pub not_out : NotAnswered
not_out = NotTaken NotOut

-- the number is none of those that were given in the window that is open
abbrev pub IsOfNoCall : LiveState → ℕ → Type 0
IsOfNoCall s ticket = IsOfNoNumber s.tickets_before (tickets_given s) ticket

-- a probe of the device went out, with this slip and this task, or none may
pub record HasProbed (s : LiveState) (d : ℕ) (probe : Option SlipAndTask)
    (t : LiveState) : Type 0 where
  pub hub : OpenHub HandedDevice
  pub next : OpenHub HandedDevice
  pub goes : WindowGoesOn s hub next t
  pub grip : Option (Gripped HandedDevice Ready)
  pub step : IsProbed hub d grip next
  pub told : probe ≡ numbered_call s.tickets_before (lent_by grip)

-- the run waits, at every moment, until another step frees it
abbrev pub IsBlockedIn : Phase → ℕ → Type 0
IsBlockedIn (Between home) r = ⊥
IsBlockedIn (InWindow k hub) r = IsBlocked (configuration_of hub) r
IsBlockedIn Moving r = ⊥

abbrev pub IsBlockedRun : LiveState → ℕ → Type 0
IsBlockedRun s r = IsBlockedIn s.phase r

-- what is left to do in the window, where one is open
abbrev pub left_to_do : Option (OpenHub HandedDevice) → Option (Option NotQuiet)
left_to_do hub = option_map (λ h. not_quiet (configuration_of h)) hub
