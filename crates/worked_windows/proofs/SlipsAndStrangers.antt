-- The grips of the window lease-overdue: a step that hands a device out carries the slip written for it, the grip that is out is
-- taken back, and any other one is a stranger: it is refused with the slip that is kept and the slip that it told.
use Rattle.device_gate.specs.declared.slips.Slip.{Slip}
use Rattle.device_gate.specs.declared.slips.Task.TheVariants.{Drive, Probe, Sense}
use Rattle.worked_windows.proofs.Prelude.{None, Some, [], kept_by, refl, take, ◌∷◌, ◌≡◌}
use Rattle.hub_core.specs.HubSteps.{Carried, Gave, HubState, Refused, give, give_probe, take as take_step, take_probe}
use Rattle.worked_windows.proofs.LeaseOverdue.{history, window}
use Rattle.worked_windows.proofs.Words.{Commands, Did, Died, Fell, Fine, HandsOut, Worked, device_no, no_grips, run_no, split_of}

-- both runs are placed, nothing is out, and one probe of each device is left
abbrev pub home : HubState
home = record {
  configuration = record { setting = window; history = kept_by 1 (take 4 history); moment = 0; probes = λ d. 1; grips = no_grips };
  carried = λ d. None;
}

-- what is written for the light when it leaves for run 1
abbrev pub slip : Slip
slip = record { ticket = 1; device = device_no 0; maker = 1; stood = 0; turns = 0; drives = 0; probes = 0; faults = 0 }

abbrev pub carried : Carried
carried = record { slip = slip; task = Drive 1 }

abbrev pub out : HubState
out = (take_step home 1 0 slip).next

-- The grip that is out

record IsOutAndBack : Type 0 where
  takes_the_light : (take_step home 1 0 slip).choice ≡ HandsOut 0 (Commands 0)
  carries_the_slip : out.carried 0 ≡ Some carried
  carries_no_other : out.carried 2 ≡ None
  is_out : out.configuration.grips 0 ≡ Some (record { maker = 1; purpose = Commands 0 })
  is_taken_back : (give out carried Worked 111).answer ≡ Gave (Did (run_no 1) 0 Fine ∷ [])
  is_home_again : (give out carried Worked 111).next.carried 0 ≡ None

is_out_and_back : IsOutAndBack
unfolding split_of
is_out_and_back = record { takes_the_light = refl; carries_the_slip = refl; carries_no_other = refl; is_out = refl; is_taken_back = refl; is_home_again = refl }

-- Strangers

-- slips of another ticket, of another maker, and that tell another value at which the light stood
abbrev later : Carried
later = record { slip = record slip { ticket = 2 }; task = Drive 1 }

abbrev others : Carried
others = record { slip = record slip { maker = 2 }; task = Drive 1 }

abbrev stood_on : Carried
stood_on = record { slip = record slip { stood = 1 }; task = Drive 1 }

record AreStrangers : Type 0 where
  another_ticket : (give out later Worked 111).answer ≡ Refused (record { kept = Some slip; told = later.slip })
  nothing_changes : (give out later Worked 111).next ≡ out
  another_maker : (give out others Worked 111).answer ≡ Refused (record { kept = Some slip; told = others.slip })
  another_value : (give out stood_on Worked 111).answer ≡ Refused (record { kept = Some slip; told = stood_on.slip })
  -- the slip with another task
  another_drive : (give out (record { slip = slip; task = Drive 0 }) Worked 111).answer ≡ Refused (record { kept = Some slip; told = slip })
  a_sense : (give out (record { slip = slip; task = Sense }) Worked 111).answer ≡ Refused (record { kept = Some slip; told = slip })
  -- a grip of a device that is home, and one that is given twice
  given_at_home : (give home carried Worked 111).answer ≡ Refused (record { kept = None; told = slip })
  given_twice : (give (give out carried Worked 111).next carried Worked 111).answer ≡ Refused (record { kept = None; told = slip })
  -- a run's grip is no probe
  given_as_a_probe : (give_probe out carried Worked).answer ≡ Refused (record { kept = Some slip; told = slip })

are_strangers : AreStrangers
unfolding split_of
are_strangers = record { another_ticket = refl; nothing_changes = refl; another_maker = refl; another_value = refl; another_drive = refl; a_sense = refl; given_at_home = refl; given_twice = refl; given_as_a_probe = refl }

-- The detector's grip of the fan

abbrev pub probe_slip : Slip
probe_slip = record { ticket = 2; device = device_no 1; maker = 0; stood = 0; turns = 0; drives = 0; probes = 0; faults = 0 }

abbrev pub probe : Carried
probe = record { slip = probe_slip; task = Probe None }

abbrev pub probing : HubState
probing = (take_probe out 1 probe_slip).next

record IsProbedAndBack : Type 0 where
  takes_a_probe : (take_probe out 1 probe_slip).task ≡ Some (Probe None)
  carries_the_probe : probing.carried 1 ≡ Some probe
  takes_no_second_probe : (take_probe probing 1 probe_slip).task ≡ None
  probes_no_device_that_is_out : (take_probe out 0 probe_slip).task ≡ None
  finds_it_up : (give_probe probing probe Worked).answer ≡ Gave []
  finds_it_down : (give_probe probing probe Died).answer ≡ Gave (Fell (device_no 1) ∷ [])
  given_as_a_run : (give probing probe Worked 111).answer ≡ Refused (record { kept = Some probe_slip; told = probe_slip })
  another_restoring : (give_probe probing (record { slip = probe_slip; task = Probe (Some 0) }) Worked).answer ≡ Refused (record { kept = Some probe_slip; told = probe_slip })
  both_are_out : (give probing carried Worked 111).answer ≡ Gave (Did (run_no 1) 0 Fine ∷ [])

is_probed_and_back : IsProbedAndBack
unfolding split_of
is_probed_and_back = record { takes_a_probe = refl; carries_the_probe = refl; takes_no_second_probe = refl; probes_no_device_that_is_out = refl; finds_it_up = refl; finds_it_down = refl; given_as_a_run = refl; another_restoring = refl; both_are_out = refl }
