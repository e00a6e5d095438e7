-- What the window says of a call that goes out, over the home as it is inside.
use Rattle.home_states.proofs.Prelude.{Gripped, HandedDevice, IfSome, InWindow, IsProbed, LiveState, None, OpenHub, Option, ProbesInOrder, Ready, Slip, SlipAndTask, Some, StepsInOrder, StoodInOrder, Taken, TookInOrder, ap, configuration_of, false, hub_in, hub_of, hub_state_of, lent_by, may_probe, not, numbered_call, numbered_turn, sends_no_probe, subst, sym, took_none, true, ℕ, ◌∙◌, ◌≡◌}
use Rattle.hub_table.specs.declared.told.Taken.TheVariants.{Absent, Moved, Out, Over, Waits}

pub window_is : (inside s : LiveState) (k : ℕ) (hub : OpenHub HandedDevice) → inside ≡ s → inside.phase ≡ InWindow k hub → Some hub ≡ hub_in s
window_is inside s k hub seen was = sym (ap (λ p. hub_of p) was) ∙ ap (λ (x : LiveState). hub_in x) seen

numbered_took : (before : ℕ) (hub : OpenHub HandedDevice) (taken : Taken) → TookInOrder hub taken → TookInOrder hub (numbered_turn before taken)
numbered_took before hub (Out slip task) stood = stood
numbered_took before hub (Moved made) stood = tt
numbered_took before hub (Waits why) stood = tt
numbered_took before hub (Over end made) stood = tt
numbered_took before hub Absent stood = tt

pub steps_in_order : (inside s : LiveState) (k before : ℕ) (hub : OpenHub HandedDevice) (taken result : Taken) → inside ≡ s → inside.phase ≡ InWindow k hub
    → TookInOrder hub taken → result ≡ numbered_turn before taken → StepsInOrder s result
steps_in_order inside s k before hub taken result seen was stood is =
    subst (λ x. StepsInOrder s x) (sym is)
    (subst (λ o. IfSome o (λ h. TookInOrder h (numbered_turn before taken))) (window_is inside s k hub seen was) (numbered_took before hub taken stood))

pub probes_in_order : (inside s : LiveState) (k before : ℕ) (hub : OpenHub HandedDevice) (call result : Option SlipAndTask) → inside ≡ s → inside.phase ≡ InWindow k hub
    → IfSome call (λ out. StoodInOrder hub out.0 out.1) → result ≡ numbered_call before call → IfSome result (ProbesInOrder s)
probes_in_order inside s k before hub call result seen was stood is = subst (λ o. IfSome o (ProbesInOrder s)) (sym is) (by_call call stood)
  where
    by_call : (o : Option SlipAndTask) → IfSome o (λ out. StoodInOrder hub out.0 out.1) → IfSome (numbered_call before o) (ProbesInOrder s)
    by_call None sent = tt
    by_call (Some out) sent = subst (λ o. IfSome o (λ h. StoodInOrder h out.0 out.1)) (window_is inside s k hub seen was) sent

abbrev no_slip : Slip
no_slip = record { ticket = 0; device = record { 0 = 0 }; maker = 0; stood = 0; turns = 0; drives = 0; probes = 0; faults = 0 }

none_by : (before d : ℕ) (hub next : OpenHub HandedDevice) (grip : Option (Gripped HandedDevice Ready)) → IsProbed hub d grip next
    → numbered_call before (lent_by grip) ≡ None → may_probe (configuration_of hub) d ≡ false
none_by before d hub next None sent none = took_none (hub_state_of hub) (hub_state_of next) d no_slip (sent.0 no_slip)
none_by before d hub next (Some grip) sent none = absurd (cc)

pub none_sent : (inside s : LiveState) (k before d : ℕ) (hub next : OpenHub HandedDevice) (grip : Option (Gripped HandedDevice Ready)) (call result : Option SlipAndTask) → inside ≡ s → inside.phase ≡ InWindow k hub
    → IsProbed hub d grip next → call ≡ lent_by grip → result ≡ numbered_call before call → Some result ≡ Some None → sends_no_probe (hub_in s) d ≡ true
none_sent inside s k before d hub next grip call result seen was sent lent is none =
    let nothing : numbered_call before (lent_by grip) ≡ None = ap (λ o. numbered_call before o) (sym lent) ∙ sym is ∙ (cc) in
    subst (λ o. sends_no_probe o d ≡ true) (window_is inside s k hub seen was) (ap not (none_by before d hub next grip sent nothing))
