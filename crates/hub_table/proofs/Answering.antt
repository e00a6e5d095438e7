-- An answer that is not refused is one to the call for which the device is out.
use Rattle.hub_table.proofs.Prelude.{Bool, Gripped, GripsAreHeld, IsKept, List, None, Option, Place, Ready, Slip, SlipAndTask, Some, Task, ap, arith, false, if◌then◌else◌, lent_in_place, may_tell, refl, refusal, slice_get, sym, true, unfit_for, ℕ, ◌==◌, ◌∙◌, ◌≡◌}
use Rattle.device_gate.specs.declared.grips.Done.{Done}
use Rattle.device_gate.specs.declared.slips.Told.{Told}
use Rattle.hub_table.proofs.Holding.{held_kept}
use Rattle.hub_table.specs.declared.told.NotTaken.TheVariants.{NotOut}
use Rattle.hub_table.specs.declared.told.NotTaken.{NotTaken}
use Rattle.std.proofs.lemmas.Grind.{common_steps}

taken : (same may : Bool) (why : NotTaken) → ◌≡◌ {A = Option NotTaken} (if same then (if may then None else Some why) else Some NotOut) None → (same ≡ true) × (may ≡ true)
taken true true why e = (refl, refl)
taken true false why e = absurd (cc)
taken false may why e = absurd (cc)

same_ticket : (n m : ℕ) → (n == m) ≡ true → n ≡ m
same_ticket n m is = grind (arith, common_steps)

-- it comes with the ticket, and is one that the device may tell
pub is_answer : (slip : Slip) (task : Task) (ticket : ℕ) (told : Told) → refusal (Some (slip, task)) ticket told ≡ None → (slip.ticket ≡ ticket) × (may_tell task slip.stood told ≡ true)
is_answer slip task ticket told e =
    let by = taken (slip.ticket == ticket) (may_tell task slip.stood told) (unfit_for task told) e in
    (same_ticket slip.ticket ticket by.0, by.1)

-- .. and the device is out
pub must_be_out : (lent : Option SlipAndTask) (ticket : ℕ) (told : Told) → lent ≡ None → refusal lent ticket told ≡ None → ⊥
must_be_out None ticket told none e = absurd (cc)
must_be_out (Some out) ticket told none e = absurd (cc)

-- the grip that is held for the device is the one that is answered
pub is_held_answer : {D : Type 0} (grips : List (Option (Gripped D Ready))) (d : ℕ) (grip : Gripped D Ready) (ticket : ℕ) (told : Told)
    → slice_get grips d ≡ Some (Some grip) → refusal (lent_in_place (slice_get grips d)) ticket told ≡ None → (grip.slip.ticket ≡ ticket) × (may_tell grip.task grip.slip.stood told ≡ true)
is_held_answer grips d grip ticket told at e =
    is_answer grip.slip grip.task ticket told (sym (ap (λ o. refusal (lent_in_place o) ticket told) at) ∙ e)

-- .. so it is not refused
pub not_unfit : {D : Type 0} (grips : List (Option (Gripped D Ready))) (d : ℕ) (grip : Gripped D Ready) (ticket : ℕ) (told : Told)
    → slice_get grips d ≡ Some (Some grip) → refusal (lent_in_place (slice_get grips d)) ticket told ≡ None → may_tell grip.task grip.slip.stood told ≡ false → ⊥
not_unfit grips d grip ticket told at e unfit = absurd (grind (arith, common_steps, (is_held_answer grips d grip ticket told at e).1, unfit))

-- the device is out with the grip that was answered
pub answered_kept : {D : Type 0} (places : List (Place D)) (grips : List (Option (Gripped D Ready))) (d : ℕ) (grip : Gripped D Ready) (done : Gripped D Done)
    → GripsAreHeld places grips → slice_get grips d ≡ Some (Some grip) → done.slip ≡ grip.slip → done.task ≡ grip.task → IsKept places done.slip done.task
answered_kept places grips d grip done kept at slip task = rw (slip, task) (held_kept places grips d grip kept at)
